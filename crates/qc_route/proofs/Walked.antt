-- The rest of a walk.
use Rattle.std.proofs.Common.{◌≡◌, ◌≤◌, ◌<◌, ◌-◌, ◌*◌, ◌&&◌, ℕ, Bool, true, false, List, [], ◌∷◌, length, take, drop}
use Rattle.std.proofs.Common.{get_or, Some, IsTrue, sym, ap, is_some, arith}
use Rattle.std.proofs.lemmas.List.{length-drop, take_rest}
use Rattle.qc_route.specs.declared.stage.Stage.{Stage}
use Rattle.qc_route.specs.declared.word.Word.{Word}
use Rattle.qc_route.specs.Paths.{edge_between, first_of, is_walk}
use Rattle.qc_route.specs.Stages.{AtMost, language}
use Rattle.qc_route.specs.inner.Rooms.{HasRoom}
use Rattle.qc_route.proofs.Grown.{room_next}

-- the words behind the first
abbrev rest : List Word → List Word
rest words = take (length words - 1) (drop 1 words)

pub fewer : (words : List Word) → 2 ≤ length words → length (rest words) < length words
fewer words two = let e = take_rest words 1 in rw e (omega (arith, two, length-drop 1 words))

second : (a b : Bool) → IsTrue (a && b) → IsTrue b
second true b p = p
second false b p = absurd (cc)

-- what the rest of a walk begins with and has room for, behind the edge from the first word to the second
record Goes (words : List Word) (next : Stage) : Type 0 where
  starts : first_of words ≡ Some (language next)
  walk : IsTrue (is_walk words)
  room : HasRoom next words

goes : (words : List Word) (s next : Stage) (d : Word) → 2 ≤ length words → language next ≡ get_or words 1 d
    → IsTrue (is_walk words) → HasRoom s words → ((n : ℕ) → AtMost n s → AtMost (32 * n) next)
    → Goes (drop 1 words) next
goes [] s next d two e walk room size = absurd (omega (arith, two))
goes (a ∷ []) s next d two e walk room size = absurd (omega (arith, two))
goes (a ∷ b ∷ words) s next d two e walk room size = record {
  starts = ap (λ w. Some w) (sym e);
  walk = second (is_some (edge_between a b)) (is_walk (b ∷ words)) walk;
  room = room_next s next a (b ∷ words) size room;
}

pub next_stage : (words : List Word) (s next : Stage) (d : Word) → 2 ≤ length words → language next ≡ get_or words 1 d
    → IsTrue (is_walk words) → HasRoom s words → ((n : ℕ) → AtMost n s → AtMost (32 * n) next)
    → (first_of (rest words) ≡ Some (language next)) × (IsTrue (is_walk (rest words)) × HasRoom next (rest words))
next_stage words s next d two e walk room size =
    let q = take_rest words 1 in
    let g = goes words s next d two e walk room size in
    rw q (g.starts, (g.walk, g.room))
