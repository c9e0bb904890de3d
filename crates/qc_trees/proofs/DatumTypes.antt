-- The type of a datum of each form.
use Rattle.std.proofs.Common.{◌≡◌, ◌+◌, ◌<◌, ℕ, suc, ℤ, Bool, true, ◌&&◌, List, [], ◌∷◌, ◌++◌, length, drop, take}
use Rattle.std.proofs.Common.{get_or, map, Option, Some, arith, refl, rules, sym, ap, ◌∙◌}
use Rattle.std.proofs.Math.Seq.{drop-cons, take-suc}
use Rattle.std.proofs.lemmas.List.{map-append}
use Rattle.std.specs.Prelude.{is_some, option_and_then, option_map, Result, IfOk}
use Rattle.qc_containers.specs.declared.memory.Memory.{Memory}
use Rattle.qc_containers.specs.Rising.{on_value}
use Rattle.qc_data.specs.declared.data.Datum.{Datum, the_lemmas}
use Rattle.qc_data.specs.declared.data.Datum.TheOpen.{Datum-F}
use Rattle.qc_data.specs.declared.data.Datum.TheViews.{roll-Datum}
use Rattle.qc_data.specs.declared.data.Datum.TheFolds.{map-Datum, para-roll-Datum}
use Rattle.qc_data.specs.declared.data.Datum.TheVariants as datum
use Rattle.qc_types.specs.declared.ty.Width.TheVariants.{Exact}
use Rattle.qc_types.specs.declared.ty.Ty.{Ty}
use Rattle.qc_types.specs.declared.ty.Ty.TheVariants as ty
use Rattle.qc_types.specs.Classes.{Defs}
use Rattle.qc_types.specs.Joins.{join}
use Rattle.qc_types.specs.Types.{fits}
use Rattle.qc_typing.specs.Kinds.{when}
use Rattle.qc_trees.specs.ConstantTypes.{all_typed, join_all, or_bottom, exactly, constant_step, datum_type}

second : {A B : Type 0} (f : A → B) (xs : List A) → map (λ (p : A × B). p.1) (map (λ x. (x, f x)) xs) ≡ map f xs
second f [] = refl
second f (x ∷ xs) = ap (λ (l : List _). f x ∷ l) (second f xs)

seconds : {A B : Type 0} (f : A → B) (ps : List (List ℕ × A))
    → map (on_value (λ (p : A × B). p.1)) (map (on_value (λ x. (x, f x))) ps) ≡ map (on_value f) ps
seconds f [] = refl
seconds f (p ∷ ps) = ap (λ (l : List (List ℕ × _)). (p.0, f p.1) ∷ l) (seconds f ps)

module _ (c : Defs) where
  layer : (x : Datum-F Datum) (d : Datum) → roll-Datum x ≡ d
      → datum_type c d ≡ constant_step c (map-Datum Datum (Datum × Option Ty) (λ e. (e, datum_type c e)) x)
  layer x d e = ap (datum_type c) (sym e) ∙ para-roll-Datum (Option Ty) (constant_step c) x

  pub type-Unit : datum_type c datum.Unit ≡ Some ty.Unit
  type-Unit = layer Datum-F.Unit datum.Unit (search (rules, the_lemmas))

  pub type-Bool : (b : Bool) → datum_type c (datum.Bool b) ≡ Some ty.Bool
  type-Bool b = layer (Datum-F.Bool b) (datum.Bool b) (search (rules, the_lemmas))

  pub type-Int : (n : ℤ) → datum_type c (datum.Int n) ≡ Some ty.Int
  type-Int n = layer (Datum-F.Int n) (datum.Int n) (search (rules, the_lemmas))

  pub type-Text : (s : List ℕ) → datum_type c (datum.Text s) ≡ Some ty.Text
  type-Text s = layer (Datum-F.Text s) (datum.Text s) (search (rules, the_lemmas))

  pub type-Coll : (xs : List Datum)
      → datum_type c (datum.Coll xs) ≡ option_map (λ t. ty.Coll t) (join_all c ty.Bottom (map (datum_type c) xs))
  type-Coll xs =
      layer (Datum-F.Coll xs) (datum.Coll xs) (search (rules, the_lemmas))
      ∙ ap (λ os. option_map (λ t. ty.Coll t) (join_all c ty.Bottom os)) (second (datum_type c) xs)

  pub type-Rec : (fs : List (List ℕ × Datum))
      → datum_type c (datum.Rec fs) ≡ exactly (map (on_value (datum_type c)) fs)
  type-Rec fs =
      layer (Datum-F.Rec fs) (datum.Rec fs) (search (rules, the_lemmas))
      ∙ ap exactly (seconds (datum_type c) fs)

  pub type-Left : (d : Datum) → datum_type c (datum.Left d) ≡ option_map (λ t. ty.Either t ty.Bottom) (datum_type c d)
  type-Left d = layer (Datum-F.Left d) (datum.Left d) (search (rules, the_lemmas))

  pub type-Right : (d : Datum) → datum_type c (datum.Right d) ≡ option_map (λ t. ty.Either ty.Bottom t) (datum_type c d)
  type-Right d = layer (Datum-F.Right d) (datum.Right d) (search (rules, the_lemmas))

  pub type-Brand : (n : List ℕ) (d : Datum)
      → datum_type c (datum.Brand n d) ≡ when (fits c (datum.Brand n d) (ty.Brand n)) (ty.Brand n)
  type-Brand n d = layer (Datum-F.Brand n d) (datum.Brand n d) (search (rules, the_lemmas))

  -- ---- calls that answer the type of a datum of a known form

  pub arm : (d e : Datum) (o p : Option Ty) (r : Result (Option Ty) Memory) → d ≡ e → datum_type c e ≡ o → o ≡ p
      → IfOk r (λ made. made ≡ p) → IfOk r (λ made. made ≡ datum_type c d)
  arm d e o p r is of same h = rw (is, of, same) h

-- ---- records, field by field

fused : (c : Defs) (fs : List (List ℕ × Datum))
    → map (on_value or_bottom) (map (on_value (datum_type c)) fs)
    ≡ map (on_value (λ d. or_bottom (datum_type c d))) fs
fused c [] = refl
fused c (f ∷ fs) = ap (λ (l : List (List ℕ × Ty)). (f.0, or_bottom (datum_type c f.1)) ∷ l) (fused c fs)

-- the type of a field that has one
pub typed_or : (o : Option Ty) (t : Ty) → o ≡ Some t → t ≡ or_bottom o
typed_or o t e = sym (ap or_bottom e)

-- the record of the fields that were put
pub row_made : (c : Defs) (fs : List (List ℕ × Datum)) (row : List (List ℕ × Ty))
    → row ≡ map (on_value (λ d. or_bottom (datum_type c d))) fs
    → all_typed (map (on_value (datum_type c)) fs) ≡ true
    → exactly (map (on_value (datum_type c)) fs) ≡ Some (ty.Rec Exact row)
row_made c fs row made all = rw (made, all, fused c fs) refl

-- ---- one member and one field more

next : {A : Type 0} (xs : List A) (k : ℕ) (p : A) → k < length xs → p ≡ get_or xs k p
    → drop k xs ≡ p ∷ drop (k + 1) xs
next xs k p lt at =
    let one : suc k ≡ k + 1 = omega arith in
    drop-cons xs k p lt ∙ ap (λ (x : _). x ∷ drop (suc k) xs) (sym at) ∙ ap (λ (n : ℕ). p ∷ drop n xs) one

module _ (c : Defs) where
  abbrev rest : List Datum → Ty → Option Ty
  rest xs v = join_all c v (map (datum_type c) xs)

  -- the join goes on with the next member
  pub join_more : (whole : Option Ty) (items : List Datum) (k : ℕ) (p : Datum) (j t : Ty) (o : Option Ty)
      → whole ≡ join_all c j (map (datum_type c) (drop k items)) → k < length items → p ≡ get_or items k p
      → datum_type c p ≡ Some t → join c j t ≡ o
      → whole ≡ option_and_then (λ v. join_all c v (map (datum_type c) (drop (k + 1) items))) o
  join_more whole items k p j t o w lt at is up =
      w ∙ ap (λ (l : List Datum). rest l j) (next items k p lt at)
      ∙ ap (λ (x : Option Ty). option_and_then (λ u. option_and_then (rest (drop (k + 1) items)) (join c j u)) x) is
      ∙ ap (λ (x : Option Ty). option_and_then (rest (drop (k + 1) items)) x) up

  abbrev known : Datum → Ty
  known d = or_bottom (datum_type c d)

  -- one field more is put
  pub row_more : (row : List (List ℕ × Ty)) (fs : List (List ℕ × Datum)) (k : ℕ) (p : List ℕ × Datum) (n : List ℕ)
      (t : Ty) → row ≡ map (on_value (λ d. or_bottom (datum_type c d))) (take k fs) → k < length fs → p ≡ get_or fs k p
      → n ≡ p.0 → datum_type c p.1 ≡ Some t
      → row ++ (n, t) ∷ [] ≡ map (on_value (λ d. or_bottom (datum_type c d))) (take (k + 1) fs)
  row_more row fs k p n t made lt at same is =
      let more : take (k + 1) fs ≡ take k fs ++ (p ∷ []) =
      (let one : k + 1 ≡ suc k = omega arith in ap (λ (i : ℕ). take i fs) one) ∙ take-suc fs k p lt
      ∙ ap (λ (q : List ℕ × Datum). take k fs ++ (q ∷ [])) (sym at) in
      let value : t ≡ known p.1 = typed_or (datum_type c p.1) t is in
      let field : ◌≡◌ {A = List ℕ × Ty} (n, t) (p.0, known p.1) = λ i. (same i, value i) in
      ap (λ (r : List (List ℕ × Ty)). r ++ (n, t) ∷ []) made
      ∙ ap (λ (f : List ℕ × Ty). map (on_value known) (take k fs) ++ f ∷ []) field
      ∙ sym (ap (map (on_value known)) more ∙ map-append (on_value known) (take k fs) (p ∷ []))

  -- it has a type, so those that are left decide
  pub typed_more : (whole : Bool) (fs : List (List ℕ × Datum)) (k : ℕ) (p : List ℕ × Datum) (t : Ty)
      → whole ≡ all_typed (map (on_value (datum_type c)) (drop k fs)) → k < length fs → p ≡ get_or fs k p
      → datum_type c p.1 ≡ Some t → whole ≡ all_typed (map (on_value (datum_type c)) (drop (k + 1) fs))
  typed_more whole fs k p t w lt at is =
      w ∙ ap (λ (l : List (List ℕ × Datum)). all_typed (map (on_value (datum_type c)) l)) (next fs k p lt at)
      ∙ ap (λ (o : Option Ty). is_some o && all_typed (map (on_value (datum_type c)) (drop (k + 1) fs))) is
