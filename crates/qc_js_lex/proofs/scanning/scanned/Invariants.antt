use Rattle.std.proofs.Common.{◌≡◌, drop}
use Rattle.qc_js_lex.specs.inner.Machine.{scan, scan_on, in_front}
use Rattle.qc_js_lex.proofs.scanning.scanned.Given as goal

-- what the machine makes of the rest
abbrev pub invariant-loop-at : goal.invariant-loop-at
invariant-loop-at l =
    in_front l.scanner.lexemes.items
    (scan_on l.scanner.mode l.scanner.text.items l.scanner.from l.at (drop l.at l.bytes)) ≡ scan l.bytes
