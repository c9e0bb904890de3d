use Rattle.std.proofs.Common.{◌≡◌, ◌++◌, rules}
use Rattle.std.proofs.lemmas.Str.{chars_past_char}
use Rattle.std.specs.Char.{encode_utf8}
use Rattle.qc_like.proofs.pattern.first.Goals as goal

pub returns-in-Some-clause-some : goal.returns-in-Some-clause-some
returns-in-Some-clause-some c =
    let split : c.args.text.now ≡ encode_utf8 c.in-Some.c ++ c.as_str.result.now = search rules in
    chars_past_char c.args.text.now c.as_str.result.now c.in-Some.c c.utf8.text split
