-- `Rising` as a test.
use Rattle.std.proofs.Common.{◌≡◌, ℕ, List, [], ◌∷◌, map, true, IsTrue, refl}
use Rattle.std.specs.Ordering.{is_lt}
use Rattle.qc_data.specs.Facts.{all_above, rise}
use Rattle.qc_containers.specs.Rising.{text_cmp, Above, Rising, on_value}
use Rattle.qc_containers.specs.inner.RisingParts.{Rising-to}
use Rattle.qc_containers.proofs.Truth.{and_parts, is_Less}

above-test : {T : Type 0} (name : List ℕ) (ps : List (List ℕ × T)) → Above name ps → all_above name ps ≡ true
above-test name [] a = refl
above-test name (p ∷ ps) a = rw (a.0, above-test name ps a.1) refl

-- what rises passes the test
pub rise-test : {T : Type 0} (ps : List (List ℕ × T)) → Rising ps → IsTrue (rise ps)
rise-test [] r = refl
rise-test (p ∷ ps) r = rw (above-test p.0 ps r.0, rise-test ps r.1) refl

above-from : {T : Type 0} (name : List ℕ) (ps : List (List ℕ × T)) → all_above name ps ≡ true → Above name ps
above-from name [] e = tt
above-from name (p ∷ ps) e =
    let parts = and_parts (is_lt (text_cmp name p.0)) (all_above name ps) e in
    (is_Less (text_cmp name p.0) parts.0, above-from name ps parts.1)

-- and what passes it rises
pub rise-is : {T : Type 0} (ps : List (List ℕ × T)) → IsTrue (rise ps) → Rising ps
rise-is [] e = tt
rise-is (p ∷ ps) e =
    let parts = and_parts (all_above p.0 ps) (rise ps) e in (above-from p.0 ps parts.0, rise-is ps parts.1)

-- names do not change where the values do
pub rise-mapped : {X Y : Type 0} (h : X → Y) (ps qs : List (List ℕ × X)) → qs ≡ ps → Rising ps
    → IsTrue (rise (map (on_value h) ps))
rise-mapped h ps qs same r = rise-test (map (on_value h) ps) (Rising-to h ps r)
