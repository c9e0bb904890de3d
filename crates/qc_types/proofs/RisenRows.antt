-- The first pairs of a list that rises, and one more.
use Rattle.std.proofs.Common.{◌≡◌, ℕ, zero, suc, List, [], ◌∷◌, ◌++◌, length, take, get_or, ◌<◌, ◌∙◌}
use Rattle.std.proofs.Math.Seq.{take-suc}
use Rattle.qc_containers.specs.Rising.{Above, Rising}

Above-take : {T : Type 0} (n : List ℕ) (k : ℕ) (ps : List (List ℕ × T)) → Above n ps → Above n (take k ps)
Above-take n zero ps a = tt
Above-take n (suc k) [] a = tt
Above-take n (suc k) (p ∷ ps) a = (a.0, Above-take n k ps a.1)

-- the first pairs rise too
pub Rising-take : {T : Type 0} (k : ℕ) (ps : List (List ℕ × T)) → Rising ps → Rising (take k ps)
Rising-take zero ps r = tt
Rising-take (suc k) [] r = tt
Rising-take (suc k) (p ∷ ps) r = (Above-take p.0 k ps r.0, Rising-take k ps r.1)

-- one pair more of those that rise
pub Rising-next : {T : Type 0} (ps cs : List (List ℕ × T)) (k : ℕ) (p : List ℕ × T) (n : List ℕ) (v : T) → Rising ps
    → k < length ps → cs ≡ take k ps → p ≡ get_or ps k p → n ≡ p.0 → v ≡ p.1 → Rising (cs ++ (n, v) ∷ [])
Rising-next {T} ps cs k p n v r lt e at en ev =
    let more : take (suc k) ps ≡ take k ps ++ (get_or ps k p ∷ []) = take-suc ps k p lt in
    let same : ◌≡◌ {A = List ℕ × T} (n, v) (get_or ps k p) = (λ i. (en i, ev i)) ∙ at in
    rw (e, same, ← more) (Rising-take (suc k) ps r)
