use Rattle.std.proofs.Common.{◌≡◌, ◌∙◌, IsTrue, sym, subst}
use Rattle.qc_containers.specs.Name.{is_name}
use Rattle.qc_oql_nra.proofs.Numerals.{numeral_name}
use Rattle.qc_to_nra.proofs.key_names.numeral.Goals as goal

pub own_name-requires : goal.own_name-requires
own_name-requires c =
    subst (λ text. IsTrue (is_name text)) (sym (c.as_str.ensures.value ∙ c.in_ok-digits.ensures))
    (numeral_name c.args.number c.requires c.ranges.number.fits)
