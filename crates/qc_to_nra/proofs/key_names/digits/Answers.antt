use Rattle.std.proofs.Common.{◌≡◌}
use Rattle.std.specs.String.{string_bytes}
use Rattle.qc_oql_nra.specs.OqlForms.{numeral}
use Rattle.qc_oql_nra.proofs.Numerals.{one_more}
use Rattle.qc_to_nra.proofs.key_names.digits.Goals as goal

pub loop-rest-preserved : goal.loop-rest-preserved
loop-rest-preserved c =
    one_more (numeral c.args.number) (string_bytes c.loop-rest.made) _
    (string_bytes c.push_str.new.self) c.loop-rest.rest
    c.loop-rest-test.true c.loop-rest.invariant c.digit.ensures c.in_ok-push_str.ensures.bytes
