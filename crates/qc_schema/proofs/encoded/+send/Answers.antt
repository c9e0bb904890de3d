use Rattle.std.proofs.Common.{◌≡◌, arith, rules}
use Rattle.std.specs.Prelude.{codes}
use Rattle.qc_schema.specs.inner.Encoded.{value_of, side, class_value}
use Rattle.qc_schema.proofs.Sending.{array_sent, object_sent, whole_sent}
use Rattle.qc_schema.proofs.Valued.{by_kind}
use Rattle.qc_schema.proofs.encoded.+send.Goals as goal

pub send_items-returns : goal.send_items-returns
send_items-returns g t c =
    array_sent value_of c.args.items.now c.as_slice-item-items.result.now c.loop-item.item-index c.len.result
    (g.S.Serializer.written c.args.out.now) (g.S.Serializer.written c.begin_seq.new.self)
    (g.S.Serializer.written c.loop-item.out) (g.S.Serializer.written c.end_seq.new.self) c.end_seq.result
    c.as_slice-item-items.ensures (omega arith) (search rules) c.in_ok-begin_seq.ensures c.loop-item.invariant
    c.end_seq.ensures

pub send_fields-returns : goal.send_fields-returns
send_fields-returns g t c =
    object_sent value_of c.args.fields.now c.as_slice-pair-items.result.now c.loop-pair.pair-index c.len.result
    (g.S.Serializer.written c.args.out.now) (g.S.Serializer.written c.begin_map.new.self)
    (g.S.Serializer.written c.loop-pair.out) (g.S.Serializer.written c.end_map.new.self) c.end_map.result
    c.as_slice-pair-items.ensures.pairs (omega arith) (search rules) c.in_ok-begin_map.ensures c.loop-pair.invariant
    c.end_map.ensures

pub send-returns-in_ok-send-in-Left : goal.send-returns-in_ok-send-in-Left
send-returns-in_ok-send-in-Left g t c =
    let is : value_of c.args.d.now ≡ side (codes "$left") (value_of c.get.result.now) = search (rules, by_kind) in
    whole_sent (side (codes "$left")) (value_of c.get.result.now) (value_of c.args.d.now)
    (g.S.Serializer.written c.args.out.now) (g.S.Serializer.written c.begin_side.new.out)
    (g.S.Serializer.written c.send.new.out) (g.S.Serializer.written c.end_map.new.self) c.end_map.result is
    c.in_ok-begin_side-in-Left.ensures c.in_ok-send-in-Left.ensures c.end_map.ensures

pub send-returns-in_ok-send-in-Right : goal.send-returns-in_ok-send-in-Right
send-returns-in_ok-send-in-Right g t c =
    let is : value_of c.args.d.now ≡ side (codes "$right") (value_of c.get-in-Right.result.now)
    = search (rules, by_kind) in
    whole_sent (side (codes "$right")) (value_of c.get-in-Right.result.now) (value_of c.args.d.now)
    (g.S.Serializer.written c.args.out.now) (g.S.Serializer.written c.begin_side-in-Right.new.out)
    (g.S.Serializer.written c.send-in-Right.new.out) (g.S.Serializer.written c.end_map-in-Right.new.self)
    c.end_map-in-Right.result is c.in_ok-begin_side-in-Right.ensures c.in_ok-send-in-Right.ensures
    c.end_map-in-Right.ensures

pub send-returns-in_ok-send-in-Brand : goal.send-returns-in_ok-send-in-Brand
send-returns-in_ok-send-in-Brand g t c =
    let is : value_of c.args.d.now ≡ class_value c.as_str-in-Brand.result.now (value_of c.get-in-Brand.result.now)
    = search (rules, by_kind) in
    whole_sent (class_value c.as_str-in-Brand.result.now) (value_of c.get-in-Brand.result.now) (value_of c.args.d.now)
    (g.S.Serializer.written c.args.out.now) (g.S.Serializer.written c.begin_class_value.new.out)
    (g.S.Serializer.written c.send-in-Brand.new.out) (g.S.Serializer.written c.end_map-in-Brand.new.self)
    c.end_map-in-Brand.result is c.in_ok-begin_class_value-in-Brand.ensures c.in_ok-send-in-Brand.ensures
    c.end_map-in-Brand.ensures
