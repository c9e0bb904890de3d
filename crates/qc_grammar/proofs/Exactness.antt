-- What is reached by the table is what the table spells.
use Rattle.std.proofs.Common.{◌≡◌, ◌≢◌, ◌<◌, ℕ, zero, suc, ◌+◌, List, [], ◌∷◌, ◌++◌, length, take, refl, sym}
use Rattle.std.proofs.Common.{ap, ◌∙◌, subst, arith, append_assoc, length-append, Some, None}
use Rattle.std.proofs.lemmas.List.{append-nil, take_at}
use Rattle.qc_grammar.specs.declared.symbol.Symbol.{Symbol}
use Rattle.qc_grammar.specs.declared.symbol.Symbol.TheVariants.{Token, Rule, Action}
use Rattle.qc_grammar.specs.declared.symbol.Event.{Event}
use Rattle.qc_grammar.specs.inner.Derivations.{Rules, Derives, nothing, token, action, rule, Whole}
use Rattle.qc_grammar.specs.inner.Certificate.{Notes, follow_of}
use Rattle.qc_grammar.specs.inner.Machine.{Table, next, choose, Reached, begun, took, acted, went}
use Rattle.qc_grammar.specs.Parsing.{Begins, Spells, Refused}
use Rattle.qc_grammar.proofs.Sets.{one_is}
use Rattle.qc_grammar.proofs.Facts.{Exact, started, ended, chosen}
use Rattle.qc_grammar.proofs.Heads.{Has, Comes, Fits, fits_body, forced}
use Rattle.qc_grammar.proofs.Words.{word}

front : (ts piece rest : List ℕ) (at : ℕ) → ts ≡ piece ++ rest → length piece ≡ at → take at ts ≡ piece
front ts piece rest at e n = rw e (take_at piece rest at n)

front_next : (ts piece : List ℕ) (t : ℕ) (rest : List ℕ) (at : ℕ) → ts ≡ piece ++ t ∷ rest → length piece ≡ at
    → take (at + 1) ts ≡ piece ++ t ∷ []
front_next ts piece t rest at e n =
    let whole : ts ≡ (piece ++ t ∷ []) ++ rest = e ∙ sym (append_assoc piece (t ∷ []) rest) in
    front ts (piece ++ t ∷ []) rest (at + 1) whole (omega (arith, length-append piece (t ∷ [])))

module _ (g : Rules) (o : Table) (c : Notes) where
  un_token : (i k j : ℕ) (σ : List Symbol) (ks : List ℕ) (es : List Event) → Derives g i (Token k ∷ σ) (j ∷ ks) es
      → Derives g (suc i) σ ks es
  un_token i k j σ ks es (token d) = d

  un_action : (i a : ℕ) (σ : List Symbol) (ks : List ℕ) (es : List Event) → Derives g i (Action a ∷ σ) ks es
      → (fs : List Event) × (es ≡ record { action = a; at = i } ∷ fs) × Derives g i σ ks fs
  un_action i a σ ks es (action {es = fs} d) = (fs, refl, d)

  un_nothing : (i : ℕ) (ks : List ℕ) (es : List Event) → Derives g i [] ks es → (ks ≡ []) × (es ≡ [])
  un_nothing i ks es nothing = (refl, refl)

  token_next : (i k : ℕ) (σ : List Symbol) (ks : List ℕ) (es : List Event) → Derives g i (Token k ∷ σ) ks es
      → next ks ≡ suc k
  token_next i k σ ks es (token d) = refl

  -- what was read leads from the whole to the rest, both ways, as far as the next token tells
  pub record Inside (kinds : List ℕ) (σ : List Symbol) (i : ℕ) (rest : List ℕ) (es : List Event) : Type 0 where
    pub piece : List ℕ
    pub whole : kinds ≡ piece ++ rest
    pub count : length piece ≡ i
    pub fits : Fits g o c σ
    pub sound : (ks : List ℕ) (fs : List Event) → Derives g i σ ks fs → Whole g (piece ++ ks) (es ++ fs)
    pub forced : (ks : List ℕ) (fs : List Event) → next ks ≡ next rest → Whole g (piece ++ ks) fs
        → (hs : List Event) × (fs ≡ es ++ hs) × Derives g i σ ks hs

  ends : Exact g o c → (k : ℕ) → Comes g o c [] k → Has (follow_of c 0) k
  ends ex zero h = ended g o c ex
  ends ex (suc k) h = absurd (let e = one_is (suc k) 0 h in omega arith)

  -- behind a token of the stack
  took_inside : (kinds : List ℕ) (k : ℕ) (σ : List Symbol) (i : ℕ) (rest : List ℕ) (es : List Event)
      → Inside kinds (Token k ∷ σ) i (k ∷ rest) es → Inside kinds σ (suc i) rest es
  took_inside kinds k σ i rest es I = record {
    piece = I.piece ++ k ∷ [];
    whole = I.whole ∙ sym (append_assoc I.piece (k ∷ []) rest);
    count = (let n = I.count in omega (arith, length-append I.piece (k ∷ [])));
    fits = I.fits;
    sound = λ ks fs d. rw (append_assoc I.piece (k ∷ []) ks) (I.sound (k ∷ ks) fs (token d));
    forced = λ ks fs n d.
        let r = I.forced (k ∷ ks) fs refl (subst (λ z. Whole g z fs) (append_assoc I.piece (k ∷ []) ks) d) in
        (r.0, r.1, un_token i k k σ ks r.0 r.2);
  }

  acted_inside : (kinds : List ℕ) (a : ℕ) (σ : List Symbol) (i : ℕ) (rest : List ℕ) (es : List Event)
      → Inside kinds (Action a ∷ σ) i rest es → Inside kinds σ i rest (es ++ record { action = a; at = i } ∷ [])
  acted_inside kinds a σ i rest es I =
      let e : Event = record { action = a; at = i } in
      record {
        piece = I.piece;
        whole = I.whole;
        count = I.count;
        fits = I.fits;
        sound = λ ks fs d. subst (λ z. Whole g (I.piece ++ ks) z) (sym (append_assoc es (e ∷ []) fs))
            (I.sound ks (e ∷ fs) (action d));
        forced = λ ks fs n d.
            let r = I.forced ks fs n d in
            let q = un_action i a σ ks r.0 r.2 in
            (q.0, r.1 ∙ ap (λ z. es ++ z) q.1 ∙ sym (append_assoc es (e ∷ []) q.0), q.2);
      }

  went_inside : Exact g o c → (kinds : List ℕ) (n : ℕ) (σ body : List Symbol) (i : ℕ) (rest : List ℕ)
      (es : List Event) → choose o n (next rest) ≡ Some body
      → Inside kinds (Rule n ∷ σ) i rest es → Inside kinds (body ++ σ) i rest es
  went_inside ex kinds n σ body i rest es h I =
      let P = chosen g o c ex n (next rest) body h in
      record {
        piece = I.piece;
        whole = I.whole;
        count = I.count;
        fits = fits_body g o c ex n σ body P I.fits;
        sound = λ ks fs d. I.sound ks fs (rule P d);
        forced = λ ks fs m d.
            let r = I.forced ks fs m d in
            let q = forced g o c ex i n σ ks r.0 r.2 I.fits in
            let other : choose o n (next rest) ≡ Some q.0 = subst (λ z. choose o n z ≡ Some q.0) m q.1 in
            let same : q.0 ≡ body = cc in
            (r.0, r.1, subst (λ z. Derives g i (z ++ σ) ks r.0) same q.2);
      }

  pub inside : Exact g o c → (kinds : List ℕ) (σ : List Symbol) (i : ℕ) (rest : List ℕ) (es : List Event)
      → Reached o kinds σ i rest es → Inside kinds σ i rest es
  inside ex kinds σ i rest es begun = record {
    piece = [];
    whole = refl;
    count = refl;
    fits = (started g o c ex, ends ex, tt);
    sound = λ ks fs d. d;
    forced = λ ks fs n d. (fs, refl, d);
  }
  inside ex kinds σ i rest es (took {i = j} {k = k} r) =
      took_inside kinds k σ j rest es (inside ex kinds (Token k ∷ σ) j (k ∷ rest) es r)
  inside ex kinds σ i rest es (acted {a = a} {es = fs} r) =
      acted_inside kinds a σ i rest fs (inside ex kinds (Action a ∷ σ) i rest fs r)
  inside ex kinds σ i rest es (went {n = n} {σ = τ} {body = body} h r) =
      went_inside ex kinds n τ body i rest es h (inside ex kinds (Rule n ∷ τ) i rest es r)

  -- at the end with no symbol left, the whole list is a word, by these actions alone
  pub finished : Exact g o c → (kinds : List ℕ) (i : ℕ) (es : List Event) → Reached o kinds [] i [] es
      → Spells (Whole g) kinds es
  finished ex kinds i es r =
      let I = inside ex kinds [] i [] es r in
      record {
        spells = subst (λ z. Whole g z es) (sym I.whole)
            (subst (λ z. Whole g (I.piece ++ []) z) (append-nil es) (I.sound [] [] nothing));
        only = λ other d.
            let q = I.forced [] other refl (subst (λ z. Whole g z other) I.whole d) in
            q.1 ∙ ap (λ z. es ++ z) (un_nothing i [] q.0 q.2).1 ∙ append-nil es;
      }

  refused : Exact g o c → (kinds : List ℕ) (σ : List Symbol) (i : ℕ) (rest : List ℕ) (es : List Event)
      → Reached o kinds σ i rest es
      → ((ks : List ℕ) (fs : List Event) → next ks ≡ next rest → Derives g i σ ks fs → ⊥) → Refused (Whole g) kinds i
  refused ex kinds σ i rest es r stuck =
      let I = inside ex kinds σ i rest es r in
      let w = word g o c ex σ I.fits i in
      let no : (ks : List ℕ) (fs : List Event) → next ks ≡ next rest → Whole g (I.piece ++ ks) fs
      → ⊥ = λ ks fs n d. (let q = I.forced ks fs n d in stuck ks q.0 n q.2) in
      let more : (rest' : List ℕ) → rest ≡ rest'
      → (Begins (Whole g) kinds → i ≡ length kinds)
      × (i < length kinds → Begins (Whole g) (take (i + 1) kinds) → ⊥) = λ rest'.
      elim rest' as (λ z. rest ≡ z → (Begins (Whole g) kinds → i ≡ length kinds)
      × (i < length kinds → Begins (Whole g) (take (i + 1) kinds) → ⊥)) [
        | [] ↦ λ e.
            let size : length kinds ≡ i = (let a = ap length I.whole in let b = ap length e in let n = I.count in
            omega (arith, length-append I.piece rest)) in
            (λ _. sym size, λ lt. absurd (omega arith))
        | (t ∷ ts) ↦ λ e.
            let whole : kinds ≡ I.piece ++ t ∷ ts = I.whole ∙ ap (λ z. I.piece ++ z) e in
            let ahead : (ks : List ℕ) → next (t ∷ ks) ≡ next rest = λ ks. (rw e refl) in (
              λ b. absurd (no (t ∷ (ts ++ b.0)) b.1 (ahead (ts ++ b.0))
                  (subst (λ z. Whole g z b.1) (append_assoc I.piece (t ∷ ts) b.0)
                  (subst (λ z. Whole g (z ++ b.0) b.1) whole b.2))),
              λ lt b. no (t ∷ b.0) b.1 (ahead b.0)
                  (subst (λ z. Whole g z b.1) (append_assoc I.piece (t ∷ []) b.0)
                  (subst (λ z. Whole g (z ++ b.0) b.1) (front_next kinds I.piece t ts i whole I.count) b.2)),
            )
      ] in
      record {
        none = λ tree d. no rest tree refl (subst (λ z. Whole g z tree) I.whole d);
        place = record {
          within = (let a = ap length I.whole in let n = I.count in omega (arith, length-append I.piece rest));
          before = (
            w.kinds,
            es ++ w.events,
            subst (λ z. Whole g (z ++ w.kinds) (es ++ w.events)) (sym (front kinds I.piece rest i I.whole I.count))
                (I.sound w.kinds w.events w.derives),
          );
          whole = (more rest refl).0;
          beyond = (more rest refl).1;
        };
      }

  -- tokens are left over
  pub left_over : Exact g o c → (kinds : List ℕ) (i : ℕ) (rest : List ℕ) (es : List Event)
      → Reached o kinds [] i rest es → next rest ≢ 0 → Refused (Whole g) kinds i
  left_over ex kinds i rest es r ne =
      refused ex kinds [] i rest es r (λ ks fs n d. ne (sym n ∙ ap next (un_nothing i ks fs d).0))

  -- another token stands here
  pub wrong_token : Exact g o c
      → (kinds : List ℕ) (k : ℕ) (σ : List Symbol) (i : ℕ) (rest : List ℕ) (es : List Event)
      → Reached o kinds (Token k ∷ σ) i rest es → next rest ≢ suc k → Refused (Whole g) kinds i
  wrong_token ex kinds k σ i rest es r ne =
      refused ex kinds (Token k ∷ σ) i rest es r (λ ks fs n d. ne (sym n ∙ token_next i k σ ks fs d))

  -- no alternative begins so
  pub no_choice : Exact g o c → (kinds : List ℕ) (n : ℕ) (σ : List Symbol) (i : ℕ) (rest : List ℕ)
      (es : List Event) → Reached o kinds (Rule n ∷ σ) i rest es → choose o n (next rest) ≡ None
      → Refused (Whole g) kinds i
  no_choice ex kinds n σ i rest es r none =
      let I = inside ex kinds (Rule n ∷ σ) i rest es r in
      refused ex kinds (Rule n ∷ σ) i rest es r
      (λ ks fs m d. (let q = forced g o c ex i n σ ks fs d I.fits in
      let other : choose o n (next rest) ≡ Some q.0 = subst (λ z. choose o n z ≡ Some q.0) m q.1 in cc))
