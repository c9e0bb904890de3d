-- Contents between quotes, as they are spelled and as they are found.
use Rattle.std.proofs.Common.{◌≡◌, ℕ, ◌+◌, Bool, true, false, ◌==◌, List, [], ◌∷◌, ◌++◌, length, take, Some, refl, sym}
use Rattle.std.proofs.Common.{ap, ◌∙◌, subst, arith}
use Rattle.std.proofs.Math.Seq.{take-append-add}
use Rattle.qc_lex.specs.Pieces.{doubled, quoted, undoubled, content}
use Rattle.qc_lex.specs.Tokens.{NoQuote}
use Rattle.qc_lex.specs.inner.Steps.{text_end}
use borrow.Author.Tests.{eqb-true, eq-eqb}

same_size : (m n : ℕ) → m ≡ n → Some m ≡ Some n
same_size m n e = ap (λ (k : ℕ). Some k) e

-- ---- the end of a spelled content

ended : (quote at : ℕ) (rest : List ℕ) → NoQuote quote rest → text_end quote true at rest ≡ Some at
ended quote at [] n = refl
ended quote at (b ∷ bs) n = rw n refl

-- the content has its end behind it
abbrev EndsAt : ℕ → List ℕ → List ℕ → Type 0
EndsAt quote content rest =
    (at : ℕ) → text_end quote false at (doubled quote content ++ quote ∷ rest)
    ≡ Some (at + length (doubled quote content) + 1)

end_by : (quote b : ℕ) (bs rest : List ℕ) (v : Bool) → (b == quote) ≡ v → EndsAt quote bs rest
    → EndsAt quote (b ∷ bs) rest
end_by quote b bs rest true e more at = rw e (rw e (more (at + 1 + 1) ∙ same_size _ _ (omega arith)))
end_by quote b bs rest false e more at = rw e (rw e (more (at + 1) ∙ same_size _ _ (omega arith)))

pub end_of : (quote : ℕ) (content rest : List ℕ) → NoQuote quote rest → EndsAt quote content rest
end_of quote [] rest n at = rw (eq-eqb quote quote refl) (ended quote (at + 1) rest n ∙ same_size _ _ (omega arith))
end_of quote (b ∷ bs) rest n at = end_by quote b bs rest (b == quote) refl (end_of quote bs rest n) at

pub taken : (quote : ℕ) (content rest : List ℕ)
    → take (length (doubled quote content) + 1) (doubled quote content ++ quote ∷ rest)
    ≡ doubled quote content ++ quote ∷ []
taken quote content rest = take-append-add (doubled quote content) (quote ∷ rest) 1

-- ---- the content of a found end

-- bytes that are a content, its closing quote and a rest
pub record Spelled (quote : ℕ) (bytes : List ℕ) : Type 0 where
  pub inside : List ℕ
  pub rest : List ℕ
  pub is : bytes ≡ doubled quote inside ++ quote ∷ rest
  pub ends : NoQuote quote rest

-- with the quote that came just before
abbrev Reads : ℕ → Bool → List ℕ → Type 0
Reads quote false bytes = Spelled quote bytes
Reads quote true bytes = Spelled quote (quote ∷ bytes)

two_quotes : (quote : ℕ) (bs : List ℕ) → Spelled quote bs → Spelled quote (quote ∷ quote ∷ bs)
two_quotes quote bs s =
    record {
      inside = quote ∷ s.inside;
      rest = s.rest;
      is = rw (eq-eqb quote quote refl) (ap (λ more. quote ∷ quote ∷ more) s.is);
      ends = s.ends;
    }

read_by : (quote b : ℕ) (bs : List ℕ) (at n : ℕ) (closed v : Bool) → (b == quote) ≡ v
    → text_end quote closed at (b ∷ bs) ≡ Some n
    → ((c : Bool) (k : ℕ) → text_end quote c k bs ≡ Some n → Reads quote c bs) → Reads quote closed (b ∷ bs)
read_by quote b bs at n false true e f more =
    let s : Spelled quote (quote ∷ bs) = more true (at + 1) (rw e at f) in
    let P : ℕ → Type 0 = λ k. Spelled quote (k ∷ bs) in
    subst P (sym (eqb-true b quote e)) s
read_by quote b bs at n true true e f more =
    let s : Spelled quote (quote ∷ quote ∷ bs) = two_quotes quote bs (more false (at + 1) (rw e at f)) in
    let P : ℕ → Type 0 = λ k. Spelled quote (quote ∷ k ∷ bs) in
    subst P (sym (eqb-true b quote e)) s
read_by quote b bs at n false false e f more =
    let s : Spelled quote bs = more false (at + 1) (rw e at f) in
    record { inside = b ∷ s.inside; rest = s.rest; is = rw e (ap (λ more. b ∷ more) s.is); ends = s.ends }
read_by quote b bs at n true false e f more = record { inside = []; rest = b ∷ bs; is = refl; ends = e }

reads : (quote n : ℕ) (bytes : List ℕ) (closed : Bool) (at : ℕ) → text_end quote closed at bytes ≡ Some n
    → Reads quote closed bytes
reads quote n [] true at f = record { inside = []; rest = []; is = refl; ends = tt }
reads quote n [] false at f = absurd cc
reads quote n (b ∷ bs) closed at f = read_by quote b bs at n closed (b == quote) refl f (λ c k. reads quote n bs c k)

pub spelled : (quote n : ℕ) (bytes : List ℕ) → text_end quote false 0 bytes ≡ Some n → Spelled quote bytes
spelled quote n bytes f = reads quote n bytes false 0 f

-- ---- the content of a piece

abbrev Undoes : ℕ → List ℕ → Type 0
Undoes quote content = undoubled quote false (doubled quote content ++ quote ∷ []) ≡ content

undo_by : (quote b : ℕ) (bs : List ℕ) (v : Bool) → (b == quote) ≡ v → Undoes quote bs → Undoes quote (b ∷ bs)
undo_by quote b bs true e more = rw e (rw e (ap (λ inside. b ∷ inside) more))
undo_by quote b bs false e more = rw e (rw e (ap (λ inside. b ∷ inside) more))

undoes : (quote : ℕ) (content : List ℕ) → Undoes quote content
undoes quote [] = rw (eq-eqb quote quote refl) refl
undoes quote (b ∷ bs) = undo_by quote b bs (b == quote) refl (undoes quote bs)

-- the content of what `quoted` spells is what it spelled
pub content_quoted : (quote : ℕ) (inside : List ℕ) → content (quoted quote inside) ≡ inside
content_quoted quote inside = undoes quote inside
