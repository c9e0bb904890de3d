-- Members that are kept by their marks.
use Rattle.std.proofs.Common.{◌≡◌, ℕ, suc, ◌+◌, Bool, true, false, cond, List, [], ◌∷◌, ◌++◌, map, length}
use Rattle.std.proofs.Common.{refl, sym, ap, ◌∙◌}
use Rattle.std.specs.Prelude.{Err, IfOk, Ok, Result}
use Rattle.std.specs.List.{fold}
use Rattle.std.proofs.lemmas.List.{length-map, map-append}
use Rattle.qc_data.specs.declared.data.Datum.{Datum}
use Rattle.qc_data.specs.declared.data.Json.{Json}
use Rattle.qc_rt.specs.Seen.{seen}
use Rattle.qc_bags.specs.Copies.{copies, flags_by, keeps, kept_by, picked, same}
use Rattle.qc_seen.specs.Twins.{mark, Marks}
use Rattle.qc_bags.proofs.Keeping.{length-flags}
use Rattle.qc_bags.specs.declared.copies.Keep.{Keep}
use Rattle.qc_seen.proofs.TwinLaws.{same-mark}

fold-map : {X Y B : Type 0} (g : B → Y → B) (h : X → Y) (b : B) (xs : List X)
    → fold g b (map h xs) ≡ fold (λ z x. g z (h x)) b xs
fold-map g h b [] = refl
fold-map g h b (x ∷ xs) = fold-map g h (g b (h x)) xs

-- ---- marks in place of what is seen

pub copies-marks : (b : Bool) (x : Datum) (xs : List Datum) → copies (mark b x) (map (mark b) xs) ≡ copies x xs
copies-marks b x xs =
    fold-map (λ (n : ℕ) y. n + cond (same (mark b x) y) 1 0) (mark b) 0 xs
    ∙ ap (λ (f : Datum → Bool). fold (λ (n : ℕ) y. n + cond (f y) 1 0) 0 xs) (λ k y. same-mark b x y k)

flags-marks : (rule : Keep) (b : Bool) (ys before xs : List Datum)
    → flags_by (λ k x. keeps rule k (copies x (map (mark b) ys))) (map (mark b) before) (map (mark b) xs)
    ≡ flags_by (λ k x. keeps rule k (copies x ys)) before xs
flags-marks rule b ys before [] = refl
flags-marks rule b ys before (x ∷ xs) =
    let more : map (mark b) before ++ mark b x ∷ [] ≡ map (mark b) (before ++ x ∷ []) =
    sym (map-append (mark b) before (x ∷ [])) in
    (λ i. keeps rule (suc (copies-marks b x before i)) (copies-marks b x ys i)
    ∷ flags_by (λ k x. keeps rule k (copies x (map (mark b) ys))) (more i) (map (mark b) xs))
    ∙ ap (λ l. keeps rule (suc (copies x before)) (copies x ys) ∷ l) (flags-marks rule b ys (before ++ x ∷ []) xs)

-- the items of set flags are those that are kept
picked_first : (b : Bool) (j : Json) (js : List Json) (rest : List Datum) → map seen js ≡ rest
    → map seen (cond b (j ∷ js) js) ≡ cond b (seen j ∷ rest) rest
picked_first true j js rest e = ap (λ l. seen j ∷ l) e
picked_first false j js rest e = e

picked_kept : (test : ℕ → Datum → Bool) (before : List Datum) (js : List Json)
    → map seen (picked (flags_by test before (map seen js)) js) ≡ kept_by test before (map seen js)
picked_kept test before [] = refl
picked_kept test before (j ∷ js) =
    picked_first (test (suc (copies (seen j) before)) (seen j)) j
    (picked (flags_by test (before ++ seen j ∷ []) (map seen js)) js)
    (kept_by test (before ++ seen j ∷ []) (map seen js)) (picked_kept test (before ++ seen j ∷ []) js)

module _ (rule : Keep) (js ks : List Json) (xs ys ms others : List Datum) (flags bs : List Bool)
    (are : Marks xs js ys ks)
    (mine : ms ≡ xs) (theirs : others ≡ ys)
    (made : flags ≡ flags_by (λ k x. keeps rule k (copies x others)) [] ms) (same_flags : bs ≡ flags) where
  -- the flags of marks are those of what is seen
  flags_are : flags ≡ flags_by (λ k x. keeps rule k (copies x (map seen ks))) [] (map seen js)
  flags_are =
      made ∙ (λ i. flags_by (λ k x. keeps rule k (copies x ((theirs ∙ are.2) i))) [] ((mine ∙ are.1) i))
      ∙ flags-marks rule are.0 (map seen ks) [] (map seen js)

  pub as_many : length bs ≡ length js
  as_many =
      ap length (same_flags ∙ flags_are)
      ∙ length-flags (λ k x. keeps rule k (copies x (map seen ks))) [] (map seen js) ∙ length-map js seen

  kept_are : (items : List Json) → items ≡ picked bs js
      → map seen items ≡ kept_by (λ k x. keeps rule k (copies x (map seen ks))) [] (map seen js)
  kept_are items e =
      ap (map seen) (e ∙ ap (λ l. picked l js) (same_flags ∙ flags_are))
      ∙ picked_kept (λ k x. keeps rule k (copies x (map seen ks))) [] js

  pub kept_ok : {E : Type 0} (r : Result (List Json) E) → IfOk r (λ items. items ≡ picked bs js)
      → IfOk r (λ items. map seen items ≡ kept_by (λ k x. keeps rule k (copies x (map seen ks))) [] (map seen js))
  kept_ok (Ok items) h = kept_are items h
  kept_ok (Err e) h = tt
