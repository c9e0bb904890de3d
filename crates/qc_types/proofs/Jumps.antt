-- Jumps from place to place upward.
use Rattle.std.proofs.Common.{◌≡◌, ◌≢◌, ℕ, zero, suc, ◌+◌, ◌<◌, ◌≤◌, ◌∷◌, length, Option, Some, None, Bool, true, false}
use Rattle.std.proofs.Common.{refl, sym, ap, ◌∙◌, subst, arith}
use Rattle.qc_types.specs.declared.index.Entry.{Entry}
use Rattle.qc_types.specs.declared.index.Jump.{Jump}
use Rattle.qc_types.specs.declared.ty.ClassDef.{ClassDef}
use Rattle.qc_types.specs.Classes.{Defs}
use Rattle.qc_types.specs.inner.Places.{EntryAt, IsEntry, IsJump, New, Within, first_in, on_path, parent_at, parent_of}
use Rattle.qc_types.specs.inner.Places.{parent_place, path, up}
use Rattle.qc_types.proofs.Paths.{first_up, on_here, on_trans, on_up}
use Rattle.qc_types.proofs.Places.{before_all, before_later, last_at, later_at, less_up, parent_before, parent_is}
use Rattle.qc_types.proofs.Places.{place_in_parent, same_some, within_less}

-- ---- ways upward

-- a way upward begins at the parent
up_first : (c : Defs) (k n j : ℕ) → up c (suc k) (Some n) ≡ Some j
    → (p : ℕ) × (parent_at c n ≡ Some p) × (up c k (Some p) ≡ Some j)
up_first c k n j h = at (parent_at c n) refl h
  where
    none : (l : ℕ) → up c l None ≡ None
    none zero = refl
    none (suc l) = refl

    at : (o : Option ℕ) → parent_at c n ≡ o → up c k o ≡ Some j
        → (p : ℕ) × (parent_at c n ≡ Some p) × (up c k (Some p) ≡ Some j)
    at None e i = let bad : ◌≡◌ {A = Option ℕ} None (Some j) = sym (none k) ∙ i in absurd (cc)
    at (Some p) e i = (p, e, i)

-- places fall on the way up
pub up_falls : (c : Defs) (k n j : ℕ) → up c k (Some n) ≡ Some j → j + k ≤ n
up_falls c zero n j h = let e : n ≡ j = same_some n j h in omega (arith, e)
up_falls c (suc k) n j h =
    let w = up_first c k n j h in omega (arith, up_falls c k w.0 j w.2, less_up c n w.0 w.1)

-- one way after another
up_more : (c : Defs) (k l : ℕ) (o : Option ℕ) (j : ℕ) → up c k o ≡ Some j → up c (k + l) o ≡ up c l (Some j)
up_more c zero l o j h = let e : zero + l ≡ l = omega arith in ap (λ m. up c m o) e ∙ ap (up c l) h
up_more c (suc k) l None j h = absurd (cc)
up_more c (suc k) l (Some n) j h =
    let e : suc k + l ≡ suc (k + l) = omega arith in
    ap (λ m. up c m (Some n)) e ∙ up_more c k l (parent_at c n) j h

module _ (c : Defs) (k l n j q : ℕ) (first : up c k (parent_at c n) ≡ Some j)
    (second : up c l (parent_at c j) ≡ Some q) where
  pub two_fall : k + l + 2 ≤ n
  two_fall = omega (arith, up_falls c (suc k) n j first, up_falls c (suc l) j q second)

  pub two_ways : up c (k + l + 2) (Some n) ≡ Some q
  two_ways =
      let e : k + l + 2 ≡ suc k + suc l = omega arith in
      ap (λ m. up c m (Some n)) e ∙ up_more c (suc k) (suc l) (Some n) j first ∙ second

-- ---- what a way upward passes over

-- no class before the way's end
pub passed : (c : Defs) → New c → (m k n j : ℕ) → n < length c → m ≤ j → up c k (Some n) ≡ Some j
    → on_path c m (Some n) ≡ on_path c m (Some j)
passed c w m zero n j lt le h = ap (on_path c m) h
passed c w m (suc k) n j lt le h =
    let u = up_first c k n j h in
    let less : u.0 < n = less_up c n u.0 u.1 in
    let ne : n ≢ m = omega (arith, up_falls c (suc k) n j h, le) in
    on_up c w m n lt ne ∙ ap (on_path c m) u.1 ∙ passed c w m k u.0 j (omega (arith, less, lt)) le u.2

-- where the way's end is not on the path from b, no class that is
pub first_passed : (c : Defs) → New c → (b : ℕ) → b < length c → (k n j : ℕ) → n < length c
    → up c k (Some n) ≡ Some j → on_path c j (Some b) ≡ false
    → first_in (path c (Some b)) (path c (Some n)) ≡ first_in (path c (Some b)) (path c (Some j))
first_passed c w b lb zero n j lt h f = ap (λ o. first_in (path c (Some b)) (path c o)) h
first_passed c w b lb (suc k) n j lt h f =
    let u = up_first c k n j h in
    let less : u.0 < n = less_up c n u.0 u.1 in
    first_up c n b lt (off (on_path c n (Some b)) refl) ∙ ap (λ o. first_in (path c (Some b)) (path c o)) u.1
    ∙ first_passed c w b lb k u.0 j (omega (arith, less, lt)) u.2 f
  where
    off : (x : Bool) → on_path c n (Some b) ≡ x → x ≡ false
    off true e =
        let lj : j < length c = omega (arith, up_falls c (suc k) n j h, lt) in
        let on : on_path c j (Some n) ≡ true = passed c w j (suc k) n j lt (omega arith) h ∙ on_here c j lj in
        let bad : false ≡ true = sym f ∙ on_trans c w j n b lt lb e on in absurd (cc)
    off false e = refl

-- ---- the same among more classes

module _ (d : ClassDef) (ds : Defs) where
  parent_later : (n : ℕ) → n < length ds → parent_at (d ∷ ds) n ≡ parent_at ds n
  parent_later n lt = λ i. parent_of (before_later d ds n (omega (arith, lt)) i) (later_at d ds n lt i)

  up_later : (k : ℕ) (o : Option ℕ) → Within (length ds) o → up (d ∷ ds) k o ≡ up ds k o
  up_later zero o w = refl
  up_later (suc k) None w = refl
  up_later (suc k) (Some n) w =
      ap (up (d ∷ ds) k) (parent_later n w)
      ∙ up_later k (parent_at ds n)
      (within_less n (length ds) (parent_at ds n) (omega (arith, w)) (parent_before ds n))

  jump_later : (o : Option ℕ) (j : Option Jump) → Within (length ds) o → IsJump ds o j → IsJump (d ∷ ds) o j
  jump_later o None w h = tt
  jump_later o (Some j) w h = up_later j.over o w ∙ h

  -- an entry of the classes before
  pub entry_later : (n : ℕ) → n < length ds → (o : Option Entry) → EntryAt ds n o → EntryAt (d ∷ ds) n o
  entry_later n lt None h = later_at d ds n lt ∙ h
  entry_later n lt (Some e) h = record {
    def_is = later_at d ds n lt ∙ h.def_is;
    parent_is = h.parent_is ∙ sym (parent_later n lt);
    jump_is = subst (λ o. IsJump (d ∷ ds) o e.jump) (sym (parent_later n lt))
        (jump_later (parent_at ds n) e.jump
        (within_less n (length ds) (parent_at ds n) (omega (arith, lt)) (parent_before ds n)) h.jump_is);
  }

  -- the entry of the class listed last
  pub entry_last : (e : Entry) → e.def ≡ d → e.parent ≡ parent_place ds d.parent → IsJump ds e.parent e.jump
      → IsEntry (d ∷ ds) (length ds) e
  entry_last e is over jump =
      let at : e.parent ≡ parent_at (d ∷ ds) (length ds) =
      over ∙ sym (parent_is (d ∷ ds) (length ds) d (last_at d ds)
      ∙ ap (λ l. parent_place l d.parent) (before_later d ds (length ds) (omega arith) ∙ before_all ds)) in
      record {
        def_is = last_at d ds ∙ ap Some (sym is);
        parent_is = at;
        jump_is = subst (λ o. IsJump (d ∷ ds) o e.jump) at
            (jump_later e.parent e.jump (subst (Within (length ds)) (sym over) (place_in_parent ds d.parent)) jump);
      }
