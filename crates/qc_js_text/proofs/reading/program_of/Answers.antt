use Rattle.std.proofs.Common.{sym}
use Rattle.qc_js_text.proofs.Answered.{few_lexemes, bad_depth, bad_syntax}
use Rattle.qc_js_text.proofs.reading.program_of.Goals as goal

pub returns-then-not-is_shallow : goal.returns-then-not-is_shallow
returns-then-not-is_shallow c =
    bad_depth c.args.bytes.now c.args.lexemes.now c.requires.scanned c.requires.short
    (sym c.if-not-is_shallow.ensures)

pub parse-requires : goal.parse-requires
parse-requires c = few_lexemes c.args.bytes.now c.args.lexemes.now c.requires.scanned c.requires.short

pub returns-in-Err-BadSyntax : goal.returns-in-Err-BadSyntax
returns-in-Err-BadSyntax c =
    bad_syntax c.args.bytes.now c.args.lexemes.now c.in-Err-BadSyntax.field-0 _ c.requires.scanned c.requires.short
    c.in-Err-BadSyntax.field-0-is c.in-Err-BadSyntax.ensures
