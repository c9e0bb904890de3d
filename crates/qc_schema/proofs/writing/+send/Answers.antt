use Rattle.std.proofs.Common.{arith, rules}
use Rattle.qc_schema.specs.Writing.{data_of}
use Rattle.qc_schema.proofs.Sending.{array_sent, object_sent}
use Rattle.qc_schema.proofs.writing.+send.Goals as goal

pub send_items-returns : goal.send_items-returns
send_items-returns g t c =
    array_sent data_of c.args.items.now c.as_slice-item-items.result.now c.loop-item.item-index c.len.result
    (g.S.Serializer.written c.args.out.now) (g.S.Serializer.written c.begin_seq.new.self)
    (g.S.Serializer.written c.loop-item.out) (g.S.Serializer.written c.end_seq.new.self) c.end_seq.result
    c.as_slice-item-items.ensures (omega arith) (search rules) c.in_ok-begin_seq.ensures c.loop-item.invariant
    c.end_seq.ensures

pub send_members-returns : goal.send_members-returns
send_members-returns g t c =
    object_sent data_of c.args.members.now c.as_slice-pair-items.result.now c.loop-pair.pair-index c.len.result
    (g.S.Serializer.written c.args.out.now) (g.S.Serializer.written c.begin_map.new.self)
    (g.S.Serializer.written c.loop-pair.out) (g.S.Serializer.written c.end_map.new.self) c.end_map.result
    c.as_slice-pair-items.ensures.pairs (omega arith) (search rules) c.in_ok-begin_map.ensures c.loop-pair.invariant
    c.end_map.ensures
