use Rattle.std.proofs.Common.{◌≡◌, rules, refl, true}
use Rattle.qc_types.proofs.Fitting.{exact_is}
use Rattle.qc_types.proofs.conforming.is_record_of.Goals as goal

pub returns-then-is_same_names : goal.returns-then-is_same_names
returns-then-is_same_names c = let f : c.is_same_names.result ≡ true = search rules in
    exact_is c.args.index.now c.args.d.now _ c.in-Rec.fields c.args.row.now c.is_same_names.result c.fields_fit.result
    (search rules) refl c.is_same_names.ensures (rw f c.fields_fit.ensures)
