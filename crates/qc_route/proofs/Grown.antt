-- How large stages become.
use Rattle.std.proofs.lemmas.Bool.Decides.{nat_tests}
use Rattle.std.proofs.Common.{Bool, true, false, ◌&&◌, nat_le, IsTrue}
use Rattle.qc_route.specs.Paths.{is_path, is_source, is_walk}
use Rattle.std.proofs.Common.{◌≡◌, ◌≤◌, ◌*◌, ◌^◌, ℕ, zero, suc, List, [], ◌∷◌, length, refl, ap, arith}
use Rattle.qc_route.specs.declared.stage.Stage.{Stage}
use Rattle.qc_route.specs.declared.stage.Stage.TheVariants.{Oql, Nraenv, Nnrc, Nnrs, Imp, Js}
use Rattle.qc_route.specs.declared.word.Word.{Word}
use Rattle.qc_route.specs.Stages.{AtMost}
use Rattle.qc_route.specs.inner.Rooms.{HasRoom, grown}

up : (a b c : ℕ) → a ≤ b → b ≤ c → a ≤ c
up a b c h k = omega (arith, h, k)

pub at_most_more : (s : Stage) (n m : ℕ) → n ≤ m → AtMost n s → AtMost m s
at_most_more (Oql typed) n m h k = up _ n m k h
at_most_more (Nraenv tree) n m h k = up _ n m k h
at_most_more (Nnrc tree) n m h k = up _ n m k h
at_most_more (Nnrs program) n m h k = up _ n m k h
at_most_more (Imp program) n m h k = up _ n m k h
at_most_more (Js program) n m h k = tt

-- it does not become smaller
grows : (k n : ℕ) → n ≤ grown k n
grows zero n = omega arith
grows (suc k) n = let h = grows k n in omega (arith, h)

-- 32 times as many before are 32 times as many after
grown_more : (k n : ℕ) → grown k (32 * n) ≡ 32 * grown k n
grown_more zero n = refl
grown_more (suc k) n = ap (λ x. 32 * x) (grown_more k n)

-- fewer edges make less of it
grown_less : (k l n : ℕ) → k ≤ l → grown k n ≤ grown l n
grown_less zero l n h = grows l n
grown_less (suc k) zero n h = absurd (omega (arith, h))
grown_less (suc k) (suc l) n h = let less = grown_less k l n (omega (arith, h)) in omega (arith, less)

-- a pass gets a tree of 2^100 nodes at most, where two words are left
pub room_now : (s : Stage) (words : List Word) → 2 ≤ length words → HasRoom s words → AtMost (2 ^ 100) s
room_now s [] two room = absurd (omega (arith, two))
room_now s (a ∷ []) two room = absurd (omega (arith, two))
room_now s (a ∷ b ∷ words) two room =
    let more = grows (length words) room.most in
    at_most_more s room.most (2 ^ 100) (omega (arith, more, room.fits)) room.is_most

-- behind an edge the next stage has room
pub room_next : (s next : Stage) (a : Word) (words : List Word)
    → ((n : ℕ) → AtMost n s → AtMost (32 * n) next) → HasRoom s (a ∷ words) → HasRoom next words
room_next s next a words size room = record {
  most = 32 * room.most;
  is_most = size room.most room.is_most;
  fits = let more = grown_more (length words) room.most in omega (arith, more, room.fits);
}

-- 16 words leave room for 2^28 nodes
pub room_first : (s : Stage) (words : List Word) → length words ≤ 16 → AtMost (2 ^ 28) s → HasRoom s words
room_first s words few small = record {
  most = 2 ^ 28;
  is_most = small;
  fits = let less = grown_less (length words) 16 (2 ^ 28) few in omega (arith, less);
}

-- a path has 16 words at most
few : (a b c : Bool) (n : ℕ) → IsTrue ((a && nat_le n 16) && c) → n ≤ 16
few true b c n p = grind (arith, nat_tests)
few false b c n p = absurd (cc)

pub path_length : (words : List Word) → IsTrue (is_path words) → length words ≤ 16
path_length [] p = absurd (cc)
path_length (w ∷ words) p = few (is_source w) true (is_walk (w ∷ words)) (length (w ∷ words)) p
