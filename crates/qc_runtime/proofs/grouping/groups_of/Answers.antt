use Rattle.std.proofs.Common.{◌∙◌, sym, ap, subst, length, rules, map}
use Rattle.std.specs.List.{AllByRecursion}
use Rattle.qc_ops.specs.Grouping.{Lacks}
use Rattle.qc_ops.specs.Records.{is_among}
use Rattle.qc_ops.proofs.Groups.{grouped_by, grouped_keys, lacks_all}
use Rattle.qc_rt.specs.Seen.{seen}
use Rattle.qc_runtime.specs.inner.Giving.{GivesBag}
use Rattle.qc_runtime.proofs.Grouped.{bag_gives, beside_keys}
use Rattle.qc_runtime.proofs.grouping.groups_of.Goals as goal

pub returns-in_err-keys : goal.returns-in_err-keys
returns-in_err-keys c =
    rw (grouped_by c.args.g.now c.args.names.now (seen c.args.a.now) (map seen c.in_ok-items.items.now)
    (map seen c.as_slice-rows.result.now) c.in_ok-items.ensures (ap (map seen) c.as_slice-rows.ensures)
    (ap (λ n. is_among n c.args.names.now) (sym c.as_str.ensures) ∙ sym c.is_among.ensures ∙ c.if-is_among.false))
    (search rules)

pub groups-requires-clause-lacking : goal.groups-requires-clause-lacking
groups-requires-clause-lacking c =
    subst (λ l. AllByRecursion (Lacks c.args.g.now) (map seen l)) (sym c.as_slice.ensures)
    (lacks_all c.args.g.now c.args.names.now
    (ap (λ n. is_among n c.args.names.now) (sym c.as_str.ensures) ∙ sym c.is_among.ensures ∙ c.if-is_among.false)
    (map seen c.as_slice-rows.result.now) (map seen c.in_ok-keys.keys) c.in_ok-keys.ensures)

pub groups-requires-clause-beside : goal.groups-requires-clause-beside
groups-requires-clause-beside c =
    ap length c.as_slice.ensures
    ∙ beside_keys c.args.names.now c.as_slice-rows.result.now c.in_ok-keys.keys c.in_ok-keys.ensures

pub returns : goal.returns
returns c =
    subst (λ o. GivesBag o c.groups.result)
    (sym (grouped_keys c.args.g.now c.args.names.now (seen c.args.a.now) (map seen c.in_ok-items.items.now)
    (map seen c.as_slice-rows.result.now) (map seen c.in_ok-keys.keys) (map seen c.as_slice.result.now)
    c.in_ok-items.ensures (ap (map seen) c.as_slice-rows.ensures)
    (ap (λ n. is_among n c.args.names.now) (sym c.as_str.ensures) ∙ sym c.is_among.ensures ∙ c.if-is_among.false)
    c.in_ok-keys.ensures (ap (map seen) c.as_slice.ensures)))
    (bag_gives _ c.groups.result c.groups.ensures)
