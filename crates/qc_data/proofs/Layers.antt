-- Data by their outermost layer.
use Rattle.std.proofs.Common.{◌≡◌, ℕ, List, [], ◌∷◌, map, Ordering, refl, rules, sym, ap, ◌∙◌}
use Rattle.std.specs.Cmp.Lexicographic.{slice_cmp}
use Rattle.std.specs.Ordering.{ordering_then}
use Rattle.qc_data.specs.Order.{list_cmp, pairs_cmp}
use Rattle.qc_containers.specs.Rising.{on_value, text_cmp}
use Rattle.qc_data.specs.declared.data.Datum.{Datum}
use Rattle.qc_data.specs.declared.data.Datum.TheOpen.{Datum-F}
use Rattle.qc_data.specs.declared.data.Datum.TheViews.{out-Datum, roll-Datum, the_lemmas}
use Rattle.qc_data.specs.declared.data.Datum.TheFolds.{map-Datum}

-- a datum is its layer
pub out-roll : (x : Datum-F Datum) → out-Datum (roll-Datum x) ≡ x
out-roll x = search (rules, the_lemmas)

pub roll-out : (d : Datum) → roll-Datum (out-Datum d) ≡ d
roll-out d = search (rules, the_lemmas)

-- what is mapped twice
pub map-map : {A B C : Type 0} (f : A → B) (g : B → C) (xs : List A) → map g (map f xs) ≡ map (λ x. g (f x)) xs
map-map f g [] = refl
map-map f g (x ∷ xs) = ap (λ l. g (f x) ∷ l) (map-map f g xs)

pub map-twice : (A B C : Type 0) (f : A → B) (g : B → C) (w : Datum-F A)
    → map-Datum B C g (map-Datum A B f w) ≡ map-Datum A C (λ x. g (f x)) w
map-twice A B C f g (Datum-F.Coll xs) = ap (λ (l : List C). Datum-F.Coll l) (map-map f g xs)
map-twice A B C f g (Datum-F.Rec ps) =
    ap (λ (l : List (List ℕ × C)). Datum-F.Rec l) (map-map (on_value f) (on_value g) ps)
map-twice A B C f g w = refl

-- two functions that agree on what is held agree on the layer
pub map-same : (P : Datum → Type 0) (C : Type 0) (f g : Datum → C) → ((d : Datum) → P d → f d ≡ g d)
    → (w : Datum-F ((d : Datum) × P d)) (x : Datum-F Datum)
    → map-Datum ((d : Datum) × P d) Datum (λ e. e.0) w ≡ x → map-Datum Datum C f x ≡ map-Datum Datum C g x
map-same P C f g h w x e =
    rw (← e) (map-twice _ _ _ (λ (e : (d : Datum) × P d). e.0) f w
    ∙ ap (λ (k : (d : Datum) × P d → C). map-Datum ((d : Datum) × P d) C k w) (λ i e. h e.0 e.1 i)
    ∙ sym (map-twice _ _ _ (λ (e : (d : Datum) × P d). e.0) g w))

-- lists and pairs are compared part by part
module _ (c : Datum → Datum → Ordering) where
  pub list_cmp-map : (xs ys : List Datum) → slice_cmp c xs ys ≡ list_cmp (map c xs) ys
  list_cmp-map [] [] = refl
  list_cmp-map [] (y ∷ ys) = refl
  list_cmp-map (x ∷ xs) [] = refl
  list_cmp-map (x ∷ xs) (y ∷ ys) = ap (ordering_then (c x y)) (list_cmp-map xs ys)

  pub pairs_cmp-map : (ps qs : List (List ℕ × Datum))
      → slice_cmp (λ p q. ordering_then (text_cmp p.0 q.0) (c p.1 q.1)) ps qs ≡ pairs_cmp (map (on_value c) ps) qs
  pairs_cmp-map [] [] = refl
  pairs_cmp-map [] (q ∷ qs) = refl
  pairs_cmp-map (p ∷ ps) [] = refl
  pairs_cmp-map (p ∷ ps) (q ∷ qs) =
      ap (ordering_then (ordering_then (text_cmp p.0 q.0) (c p.1 q.1))) (pairs_cmp-map ps qs)
