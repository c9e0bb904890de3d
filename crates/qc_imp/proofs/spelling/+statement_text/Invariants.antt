use Rattle.std.proofs.Common.{◌≡◌, ◌++◌, drop, map}
use Rattle.std.specs.String.{string_bytes}
use Rattle.qc_imp.specs.Spelling.{after_parts, stmt_spelling}
use Rattle.qc_imp.proofs.spelling.+statement_text.Given as goal

-- what is left to be put
abbrev pub invariant-push_parts-loop-statement : goal.invariant-push_parts-loop-statement
invariant-push_parts-loop-statement l =
    string_bytes l.initial.text ++ after_parts (map stmt_spelling l.statements)
    ≡ string_bytes l.text ++ after_parts (map stmt_spelling (drop l.statement-index l.statements))
