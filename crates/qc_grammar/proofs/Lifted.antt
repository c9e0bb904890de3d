-- From kinds to tokens: what a derivation of the kinds says of the tokens.
use Rattle.std.proofs.Common.{true, ◌≡◌, ℕ, zero, suc, ◌+◌, List, [], ◌∷◌, ◌++◌, length, take, refl, sym, ap, ◌∙◌}
use Rattle.std.proofs.Common.{subst, arith, Err}
use Rattle.std.specs.Prelude.{map}
use Rattle.qc_grammar.specs.declared.fault.SyntaxFault.{SyntaxFault}
use Rattle.qc_grammar.specs.declared.fault.SyntaxFault.TheVariants.{BadSyntax, Memory}
use Rattle.qc_grammar.specs.declared.symbol.Event.{Event}
use Rattle.qc_grammar.specs.inner.Derivations.{Rules, Whole}
use Rattle.qc_grammar.specs.inner.Language.{Means}
use Rattle.qc_grammar.specs.declared.symbol.Symbol.TheVariants.{Rule}
use Rattle.qc_grammar.proofs.Samples.{grammar_sampled, word_sampled, behind, map_sampled}
use Rattle.qc_grammar.specs.Parsing.{Begins, Spells, Refused, Parses}

map_append : {T : Type 0} (f : T → ℕ) (xs ys : List T) → map f (xs ++ ys) ≡ map f xs ++ map f ys
map_append f [] ys = refl
map_append f (x ∷ xs) ys = ap (λ z. f x ∷ z) (map_append f xs ys)

map_take : {T : Type 0} (f : T → ℕ) (n : ℕ) (xs : List T) → map f (take n xs) ≡ take n (map f xs)
map_take f zero xs = refl
map_take f (suc n) [] = refl
map_take f (suc n) (x ∷ xs) = ap (λ z. f x ∷ z) (map_take f n xs)

pub map_length : {T : Type 0} (f : T → ℕ) (xs : List T) → length (map f xs) ≡ length xs
map_length f [] = refl
map_length f (x ∷ xs) = ap (λ n. suc n) (map_length f xs)

module _ {T A : Type 0} (g : Rules) (class : T → ℕ) (sample : ℕ → T) (sampled : grammar_sampled class sample g ≡ true)
    (value : List T → List Event → A) where
  begun : (ts : List T) (n : ℕ) → Begins (Means g class value) (take n ts) → Begins (Whole g) (take n (map class ts))
  begun ts n b = (
    map class b.0,
    b.2.events,
    subst (λ z. Whole g z b.2.events)
        (map_append class (take n ts) b.0 ∙ ap (λ z. z ++ map class b.0) (map_take class n ts)) b.2.derives,
  )

  begins : (ts : List T) (n : ℕ) → Begins (Whole g) (take n (map class ts)) → Begins (Means g class value) (take n ts)
  begins ts n b =
      let more : List T = map sample b.0 in
      let kinds = behind class sample (take n (map class ts)) b.0
      (word_sampled class sample g sampled 0 (Rule 0 ∷ []) (take n (map class ts) ++ b.0) b.1 b.2 refl) in
      let e : take n (map class ts) ++ b.0 ≡ map class (take n ts ++ more) =
      ap (λ z. z ++ b.0) (sym (map_take class n ts))
      ∙ ap (λ z. map class (take n ts) ++ z) (sym (map_sampled class sample b.0 kinds))
      ∙ sym (map_append class (take n ts) more) in (
        more,
        value (take n ts ++ more) b.1,
        record { events = b.1; derives = subst (λ z. Whole g z b.1) e b.2; same = refl },
      )

  pub spelled : (ts : List T) (es : List Event) (tree : A) → Spells (Whole g) (map class ts) es → tree ≡ value ts es
      → Spells (Means g class value) ts tree
  spelled ts es tree s e = record {
    spells = record { events = es; derives = s.spells; same = sym e };
    only = λ other d. sym d.same ∙ ap (value ts) (s.only d.events d.derives) ∙ sym e;
  }

  pub refused : (ts : List T) (at : ℕ) → Refused (Whole g) (map class ts) at → Refused (Means g class value) ts at
  refused ts at r = record {
    none = λ tree d. r.none d.events d.derives;
    place = record {
      within = (let h = r.place.within in omega (arith, map_length class ts));
      before = begins ts at r.place.before;
      whole = λ b. r.place.whole (
        map class b.0,
        b.2.events,
        subst (λ z. Whole g z b.2.events) (map_append class ts b.0) b.2.derives,
      ) ∙ map_length class ts;
      beyond = λ lt b. r.place.beyond (omega (arith, map_length class ts)) (begun ts (at + 1) b);
    };
  }

  pub faulted : (ts : List T) (f : SyntaxFault) → Parses (Whole g) (map class ts) (Err f)
      → Parses (Means g class value) ts (Err f)
  faulted ts (BadSyntax at) r = refused ts at r
  faulted ts Memory r = tt
