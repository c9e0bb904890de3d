use Rattle.std.proofs.Common.{◌∙◌, sym, ap, subst, length, rules}
use Rattle.std.specs.List.{AllByRecursion}
use Rattle.qc_ops.specs.Grouping.{Lacks}
use Rattle.qc_ops.specs.Records.{projection}
use Rattle.qc_ops.proofs.Groups.{grouped_by, grouped_keys, lacks_all}
use Rattle.qc_ops.proofs.Means.{length-each}
use Rattle.qc_ops.proofs.grouping.grouped.Goals as goal

pub returns-in_err-keys : goal.returns-in_err-keys
returns-in_err-keys c =
    rw (grouped_by c.args.g.now c.args.names.now c.args.a.now c.in_ok-items.items.now c.as_slice-rows.result.now
    c.in_ok-items.ensures c.as_slice-rows.ensures (sym c.is_among.ensures ∙ c.if-is_among.false)) (search rules)

pub groups-requires-clause-lacking : goal.groups-requires-clause-lacking
groups-requires-clause-lacking c =
    subst (AllByRecursion (Lacks c.args.g.now)) (sym c.as_slice.ensures)
    (lacks_all c.args.g.now c.args.names.now
    (sym c.is_among.ensures ∙ c.if-is_among.false) c.as_slice-rows.result.now c.in_ok-keys.keys
    c.in_ok-keys.ensures)

pub groups-requires-clause-beside : goal.groups-requires-clause-beside
groups-requires-clause-beside c =
    ap length c.as_slice.ensures ∙ length-each
    (projection c.args.names.now) c.as_slice-rows.result.now c.in_ok-keys.keys c.in_ok-keys.ensures

pub returns-in_err-groups : goal.returns-in_err-groups
returns-in_err-groups c =
    rw (grouped_keys c.args.g.now c.args.names.now c.args.a.now c.in_ok-items.items.now c.as_slice-rows.result.now
    c.in_ok-keys.keys c.as_slice.result.now c.in_ok-items.ensures c.as_slice-rows.ensures
    (sym c.is_among.ensures ∙ c.if-is_among.false) c.in_ok-keys.ensures c.as_slice.ensures)
    (search rules)

pub returns : goal.returns
returns c =
    rw (grouped_keys c.args.g.now c.args.names.now c.args.a.now c.in_ok-items.items.now c.as_slice-rows.result.now
    c.in_ok-keys.keys c.as_slice.result.now c.in_ok-items.ensures c.as_slice-rows.ensures
    (sym c.is_among.ensures ∙ c.if-is_among.false) c.in_ok-keys.ensures c.as_slice.ensures)
    (search rules)
