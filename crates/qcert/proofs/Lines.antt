-- Pieces put one after another, where the sink may fail at any of them.
use Rattle.std.proofs.Common.{◌≡◌, ◌≤◌, codes, length, map, drop, get_or, ℕ, zero, suc, List, [], ◌∷◌, ◌++◌, Option}
use Rattle.std.proofs.Common.{Some, None, take, inl, inr, refl, sym, ap, take_all, ◌-◌, ◌∙◌, append_assoc, arith}
use Rattle.std.specs.Io.KnownBytes.{append_known}
use Rattle.qc_io.specs.Device.{AppendsFront, Rose}
use Rattle.qcert.specs.Delivery.{IsPut}
use Rattle.qcert.specs.inner.Pieces.{all_pieces}

-- a front of a piece is a front of what goes on with it
take_in : (n : ℕ) (piece rest : List ℕ) → (m : ℕ) × (take n piece ≡ take m (piece ++ rest))
take_in zero piece rest = (zero, refl)
take_in (suc n) [] rest = (zero, refl)
take_in (suc n) (b ∷ bs) rest = let r = take_in n bs rest in (suc r.0, ap (λ xs. b ∷ xs) r.1)

-- bytes before a front
take_behind : (done bytes : List ℕ) (n : ℕ) → (m : ℕ) × (done ++ take n bytes ≡ take m (done ++ bytes))
take_behind [] bytes n = (n, refl)
take_behind (b ∷ bs) bytes n = let r = take_behind bs bytes n in (suc r.0, ap (λ xs. b ∷ xs) r.1)

append_twice : (old : Option (List ℕ)) (a b : List ℕ) → append_known (append_known old a) b ≡ append_known old (a ++ b)
append_twice None a b = refl
append_twice (Some bytes) a b = ap Some (append_assoc bytes a b)

-- a count that rose from a later state rose
rose_from : (a b c : ℕ) → a ≤ b → Rose b c → Rose a c
rose_from a b c le rose = omega arith

-- a front of the first piece is a front of all
pub front_of_all : (old new : Option (List ℕ)) (piece rest : List ℕ) → AppendsFront old new piece
    → AppendsFront old new (piece ++ rest)
front_of_all old new piece rest f = let a = take_in f.0 piece rest in (a.0, f.1 ∙ ap (λ xs. append_known old xs) a.1)

-- the first piece was put, and then the others were
pub put_behind : (old mid new : Option (List ℕ)) (a b c : ℕ) (piece rest : List ℕ) → mid ≡ append_known old piece
    → a ≤ b → IsPut mid new (Rose b c) rest → IsPut old new (Rose a c) (piece ++ rest)
put_behind old mid new a b c piece rest e le (inl whole) =
    inl (whole ∙ ap (λ o. append_known o rest) e ∙ append_twice old piece rest)
put_behind old mid new a b c piece rest e le (inr f) =
    let k = take_behind piece rest f.1.0 in
    inr (
      rose_from a b c le f.0,
      (
        k.0,
        f.1.1 ∙ ap (λ o. append_known o (take f.1.0 rest)) e
            ∙ append_twice old piece (take f.1.0 rest) ∙ ap (λ xs. append_known old xs) k.1,
      ),
    )

-- the others
pub rest_of : {A : Type 0} (xs : List A) → take (length xs - 1) (drop 1 xs) ≡ drop 1 xs
rest_of [] = refl
rest_of (x ∷ xs) = take_all (length (x ∷ xs) - 1) xs (omega arith)

-- the first piece, and the others
pub joined_first : {A : Type 0} (f : A → List ℕ) (xs : List A) (other : A) → 1 ≤ length xs
    → all_pieces (map f xs) ≡ f (get_or xs 0 other) ++ all_pieces (map f (drop 1 xs))
joined_first f [] other le = absurd (omega arith)
joined_first f (x ∷ xs) other le = refl

-- the line of a bad byte
pub scan_line : (number word : List ℕ) → codes "qcert: BadScan at byte "
    ++ (number ++ (codes " of " ++ (word ++ 10 ∷ [])))
    ≡ codes "qcert: " ++ (codes "BadScan at byte " ++ number ++ codes " of " ++ word) ++ 10 ∷ []
scan_line number word =
    ap (λ bytes. codes "qcert: BadScan at byte " ++ bytes)
    (sym (append_assoc (number ++ codes " of ") word (10 ∷ [])
    ∙ append_assoc number (codes " of ") (word ++ 10 ∷ [])))
