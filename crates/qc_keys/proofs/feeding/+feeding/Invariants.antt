use Rattle.std.proofs.Common.{◌≡◌, drop, fold, map}
use Rattle.qc_containers.specs.Rising.{on_value}
use Rattle.qc_keys.specs.inner.Writes.{field_writes, list_writes, writes}
use Rattle.qc_keys.proofs.feeding.+feeding.Given as goal

-- what is left follows
abbrev pub invariant-feed_items-loop-item : goal.invariant-feed_items-loop-item
invariant-feed_items-loop-item g l =
    fold g.H.Hasher.write l.initial.state (list_writes (map writes l.item-items))
    ≡ fold g.H.Hasher.write l.state (list_writes (map writes (drop l.item-index l.item-items)))

abbrev pub invariant-feed_fields-loop-pair : goal.invariant-feed_fields-loop-pair
invariant-feed_fields-loop-pair g l =
    fold g.H.Hasher.write l.initial.state (field_writes (map (on_value writes) l.pair-items))
    ≡ fold g.H.Hasher.write l.state (field_writes (map (on_value writes) (drop l.pair-index l.pair-items)))
