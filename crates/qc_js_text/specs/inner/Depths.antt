-- How deep brackets are open in a list of lexemes.
use Rattle.std.specs.Prelude.{ℕ, suc, pred, nat_lt, ◌==◌, ◌&&◌, not, Bool, true, if◌then◌else◌, List, [], ◌∷◌}
use Rattle.qc_js_lex.specs.declared.lexeme.Lexeme.{Lexeme}
use Rattle.qc_js_lex.specs.declared.lexeme.Lexeme.TheVariants.{Fixed}

-- how many brackets are open behind a lexeme
abbrev pub open_behind : ℕ → Lexeme → ℕ
open_behind n (Fixed k) =
    if k == 15 then suc n
    else if k == 16 then pred n
    else if k == 17 then suc n
    else if k == 18 then pred n
    else if k == 19 then suc n
    else if k == 20 then pred n
    else n
open_behind n _ = n

-- whether at most so many are open at once, of which so many are open before
abbrev pub shallow_from : ℕ → ℕ → List Lexeme → Bool
shallow_from most n [] = true
shallow_from most n (l ∷ ls) = not (nat_lt most (open_behind n l)) && shallow_from most (open_behind n l) ls

abbrev pub is_shallow : ℕ → List Lexeme → Bool
is_shallow most ls = shallow_from most 0 ls
