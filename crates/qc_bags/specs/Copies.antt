-- Copies of a datum in a list, and members kept by how many copies of them there are.
use Rattle.std.specs.Prelude.{ℕ, suc, Bool, cond, ◌==◌, nat_lt, nat_le, List, [], ◌∷◌, ◌++◌, count_by}
use Rattle.std.specs.Ordering.{is_eq}
use Rattle.qc_data.specs.Order.{cmp, canon}
use Rattle.qc_data.specs.declared.data.Datum.{Datum}
use Rattle.qc_bags.specs.declared.copies.Keep.{Keep}
use Rattle.qc_bags.specs.declared.copies.Keep.TheVariants.{First, Beyond, Within}

-- equal, where the order of a collection's members does not matter
abbrev pub same : Datum → Datum → Bool
same a b = is_eq (cmp (canon a) (canon b))

-- how many members are the same as the datum
abbrev pub copies : Datum → List Datum → ℕ
copies d xs = count_by (same d) xs

-- the members that the test keeps by how many copies of each there are up to and with it, where those of `before` came
-- first
abbrev pub kept_by : (ℕ → Datum → Bool) → List Datum → List Datum → List Datum
kept_by test before [] = []
kept_by test before (x ∷ xs) =
    cond (test (suc (copies x before)) x) (x ∷ kept_by test (before ++ x ∷ []) xs) (kept_by test (before ++ x ∷ []) xs)

-- what the test says of each member, by how many copies of it there are up to and with it, where those of `before` came
-- first
abbrev pub flags_by : (ℕ → Datum → Bool) → List Datum → List Datum → List Bool
flags_by test before [] = []
flags_by test before (x ∷ xs) = test (suc (copies x before)) x ∷ flags_by test (before ++ x ∷ []) xs

-- the items whose flag is set
abbrev pub picked : {A : Type 0} → List Bool → List A → List A
picked [] xs = []
picked (b ∷ bs) [] = []
picked (b ∷ bs) (x ∷ xs) = cond b (x ∷ picked bs xs) (picked bs xs)

-- the rule keeps a member of k copies up to and with it, and n elsewhere
abbrev pub keeps : Keep → ℕ → ℕ → Bool
keeps First k n = k == 1
keeps Beyond k n = nat_lt n k
keeps Within k n = nat_le k n
