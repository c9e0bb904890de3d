-- Members kept by how many copies of them there are.
use Rattle.std.proofs.Common.{◌≡◌, ℕ, suc, ◌+◌, ◌<◌, Bool, true, false, cond, List, [], ◌∷◌, ◌++◌, map, length, take}
use Rattle.std.proofs.Common.{drop, get_or, refl, sym, ap, subst, ◌∙◌, add-one, drop-cons, append_assoc}
use Rattle.std.specs.Prelude.{count_by}
use Rattle.std.specs.List.{fold}
use Rattle.std.specs.Ordering.{is_eq}
use Rattle.std.proofs.Math.Seq.{take-suc}
use Rattle.std.proofs.lemmas.List.{map-append}
use Rattle.qc_data.specs.Order.{cmp, canon}
use Rattle.qc_data.specs.declared.data.Datum.{Datum}
use Rattle.qc_keys.specs.Counts.{count, equal, Tallies}
use Rattle.qc_keys.proofs.Counting.{Tallies-more}
use Rattle.qc_bags.specs.Copies.{copies, flags_by, keeps, kept_by, picked}
use Rattle.qc_bags.specs.declared.copies.Keep.{Keep}

fold-map : {X Y B : Type 0} (g : B → Y → B) (h : X → Y) (b : B) (xs : List X)
    → fold g b (map h xs) ≡ fold (λ z x. g z (h x)) b xs
fold-map g h b [] = refl
fold-map g h b (x ∷ xs) = fold-map g h (g b (h x)) xs

-- copies are counted among canons
copies-canons : (d : Datum) (xs : List Datum) → count_by (λ c. is_eq (cmp (canon d) c)) (map canon xs) ≡ copies d xs
copies-canons d xs = fold-map (λ (n : ℕ) c. n + cond (is_eq (cmp (canon d) c)) 1 0) canon 0 xs

-- what the code tests by tallies is what the rule says of members
pub told : (rule : Keep) (before ys : List Datum) (seen others : List (Datum × ℕ)) (x c : Datum) (n k : ℕ)
    → Tallies seen (map canon before) → Tallies others (map canon ys) → c ≡ canon x → n ≡ suc (count c seen)
    → k ≡ count c others
    → keeps rule n k ≡ keeps rule (suc (copies x before)) (copies x ys)
told rule before ys seen others x c n k mine theirs is counted there =
    rw (counted, there, is, mine (canon x), theirs (canon x), copies-canons x before, copies-canons x ys) refl

-- one member more counted
pub tallied_more : (xs : List Datum) (i : ℕ) (x c : Datum) (old new : List (Datum × ℕ)) → i < length xs
    → x ≡ get_or xs i x → c ≡ canon x → Tallies old (map canon (take i xs))
    → ((d : Datum) → count d new ≡ count d old + cond (equal d c) 1 0)
    → Tallies new (map canon (take (i + 1) xs))
tallied_more xs i x c old new lt at is so_far more =
    let ahead : take (suc i) xs ≡ take i xs ++ x ∷ [] = take-suc xs i x lt ∙ ap (λ y. take i xs ++ y ∷ []) (sym at) in
    let all : map canon (take i xs) ++ c ∷ [] ≡ map canon (take (i + 1) xs) =
    ap (λ k. map canon (take i xs) ++ k ∷ []) is ∙ sym (map-append canon (take i xs) (x ∷ []))
    ∙ ap (map canon) (sym ahead) ∙ (λ k. map canon (take (sym (add-one i) k) xs)) in
    subst (λ l. Tallies new l) all (Tallies-more old new (map canon (take i xs)) c so_far more)

-- what is put in front is put before the rest
pub chosen : {A : Type 0} (b : Bool) (x : A) (zs : List A) → cond b (x ∷ zs) zs ≡ cond b (x ∷ []) [] ++ zs
chosen true x zs = refl
chosen false x zs = refl

-- the members kept from a place on, by whether the one there is
pub kept_next : (test : ℕ → Datum → Bool) (xs : List Datum) (i : ℕ) (x : Datum) (b : Bool) → i < length xs
    → x ≡ get_or xs i x → b ≡ test (suc (copies x (take i xs))) x
    → kept_by test (take i xs) (drop i xs)
    ≡ cond b (x ∷ kept_by test (take (i + 1) xs) (drop (i + 1) xs)) (kept_by test (take (i + 1) xs) (drop (i + 1) xs))
kept_next test xs i x b lt at is =
    let behind : drop i xs ≡ x ∷ drop (suc i) xs = drop-cons xs i x lt ∙ ap (λ y. y ∷ drop (suc i) xs) (sym at) in
    let ahead : take (suc i) xs ≡ take i xs ++ x ∷ [] = take-suc xs i x lt ∙ ap (λ y. take i xs ++ y ∷ []) (sym at) in
    rw (add-one, ahead, behind, is) refl

-- one flag more
pub flags_more : (test : ℕ → Datum → Bool) (xs : List Datum) (all next : List Bool) (i : ℕ) (x : Datum) (b : Bool)
    (whole : List Bool) → whole ≡ all ++ flags_by test (take i xs) (drop i xs) → i < length xs → x ≡ get_or xs i x
    → b ≡ test (suc (copies x (take i xs))) x → next ≡ all ++ b ∷ []
    → whole ≡ next ++ flags_by test (take (i + 1) xs) (drop (i + 1) xs)
flags_more test xs all next i x b whole so_far lt at is e =
    let rest = flags_by test (take (i + 1) xs) (drop (i + 1) xs) in
    let behind : drop i xs ≡ x ∷ drop (suc i) xs = drop-cons xs i x lt ∙ ap (λ y. y ∷ drop (suc i) xs) (sym at) in
    let ahead : take (suc i) xs ≡ take i xs ++ x ∷ [] = take-suc xs i x lt ∙ ap (λ y. take i xs ++ y ∷ []) (sym at) in
    let step : flags_by test (take i xs) (drop i xs) ≡ b ∷ rest = rw (add-one, ahead, behind, is) refl in
    so_far ∙ ap (λ l. all ++ l) step ∙ sym (append_assoc all (b ∷ []) rest) ∙ ap (λ l. l ++ rest) (sym e)

-- the members of set flags are those that are kept
pub picked_kept : (test : ℕ → Datum → Bool) (before xs : List Datum)
    → picked (flags_by test before xs) xs ≡ kept_by test before xs
picked_kept test before [] = refl
picked_kept test before (x ∷ xs) =
    ap (λ l. cond (test (suc (copies x before)) x) (x ∷ l) l) (picked_kept test (before ++ x ∷ []) xs)

-- there is a flag for each member
pub length-flags : (test : ℕ → Datum → Bool) (before xs : List Datum) → length (flags_by test before xs) ≡ length xs
length-flags test before [] = refl
length-flags test before (x ∷ xs) = ap suc (length-flags test (before ++ x ∷ []) xs)

pub ruleset of_flags = (picked_kept, length-flags)

-- one item more or less
pub picked_more : {A : Type 0} (flags : List Bool) (xs all next : List A) (i : ℕ) (b : Bool) (x : A)
    → picked flags xs ≡ all ++ picked (drop i flags) (drop i xs) → i < length flags → i < length xs
    → b ≡ get_or flags i b → x ≡ get_or xs i x → next ≡ all ++ cond b (x ∷ []) []
    → picked flags xs ≡ next ++ picked (drop (i + 1) flags) (drop (i + 1) xs)
picked_more flags xs all next i b x so_far lt lt' at at' e =
    let mine : drop i flags ≡ b ∷ drop (i + 1) flags =
    drop-cons flags i b lt ∙ (λ k. sym at k ∷ drop (sym (add-one i) k) flags) in
    let theirs : drop i xs ≡ x ∷ drop (i + 1) xs =
    drop-cons xs i x lt' ∙ (λ k. sym at' k ∷ drop (sym (add-one i) k) xs) in
    let rest = picked (drop (i + 1) flags) (drop (i + 1) xs) in
    so_far ∙ ap (λ l. all ++ l) ((λ k. picked (mine k) (theirs k)) ∙ chosen b x rest)
    ∙ sym (append_assoc all (cond b (x ∷ []) []) rest) ∙ ap (λ l. l ++ rest) (sym e)
