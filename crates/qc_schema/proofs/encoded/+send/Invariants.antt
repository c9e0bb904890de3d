use Rattle.std.proofs.Common.{drop, map}
use Rattle.serde.specs.Event.{Log}
use Rattle.serde_json.specs.Events.{SendsItems, SendsMembers}
use Rattle.serde_json.specs.View.{items_of}
use Rattle.qc_containers.specs.Rising.{on_value}
use Rattle.qc_schema.specs.Writing.{members_of}
use Rattle.qc_schema.specs.inner.Encoded.{value_of}
use Rattle.qc_schema.proofs.encoded.+send.Given as goal

-- whatever ends it well from here ends it well from the start
abbrev pub invariant-send_items-loop-item : goal.invariant-send_items-loop-item
invariant-send_items-loop-item g l =
    (end : Log) → SendsItems (items_of (map value_of (drop l.item-index l.item-items)))
    (g.S.Serializer.written l.out) end → SendsItems (items_of (map value_of l.item-items))
    (g.S.Serializer.written l.initial.out) end

abbrev pub invariant-send_fields-loop-pair : goal.invariant-send_fields-loop-pair
invariant-send_fields-loop-pair g l =
    (end : Log) → SendsMembers (members_of (map (on_value value_of) (drop l.pair-index l.pair-items)))
    (g.S.Serializer.written l.out) end → SendsMembers (members_of (map (on_value value_of) l.pair-items))
    (g.S.Serializer.written l.initial.out) end
