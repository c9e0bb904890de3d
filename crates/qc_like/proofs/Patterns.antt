-- A pattern met by going over its characters up to the next `%`, and what a `%` before it changes.
use Rattle.std.proofs.Common.{◌≡◌, ◌⊎◌, inl, inr, ℕ, Bool, true, false, cond, List, [], ◌∷◌, refl, ap, subst, ◌∙◌}
use Rattle.std.proofs.Common.{arith, length}
use Rattle.std.specs.Prelude.{◌==◌, ◌||◌, ◌&&◌, chars}
use Rattle.std.specs.Cmp.{both_ways}
use Rattle.std.proofs.lemmas.Str.{chars-nil}
use Rattle.std.proofs.lemmas.Bool.Decides.{nat_tests}
use Rattle.qc_containers.proofs.Truth.{and_parts}
use Rattle.qc_like.specs.Patterns.{any_run, any_one, some_tail, one_char, matches}
use Rattle.qc_like.specs.inner.Likeness.{Passed, Over, Unlike, Run, passed, one_passed}

-- ---- what a walk tells of the pattern

abbrev Told : Passed → Bool → Type 0
Told Over b = b ≡ true
Told Unlike b = b ≡ false
Told (Run p t) b = b ≡ some_tail (matches p) t

told_if : (b : Bool) (walk : Passed) (m : Bool) → Told walk m → Told (cond b walk Unlike) (b && m)
told_if true walk m h = h
told_if false walk m h = refl

told_char : (p : ℕ) (ps : List ℕ) → ((cs : List ℕ) → Told (passed ps cs) (matches ps cs)) → (cs : List ℕ)
    → Told (one_passed p (passed ps) cs) (one_char p (matches ps) cs)
told_char p ps h [] = refl
told_char p ps h (c ∷ cs) = told_if (p == any_one || p == c) (passed ps cs) (matches ps cs) (h cs)

told_at : (b : Bool) (p : ℕ) (ps : List ℕ) → ((cs : List ℕ) → Told (passed ps cs) (matches ps cs)) → (cs : List ℕ)
    → Told (cond b (Run ps cs) (one_passed p (passed ps) cs))
    ((cond b (some_tail (matches ps)) (one_char p (matches ps))) cs)
told_at true p ps h cs = refl
told_at false p ps h cs = told_char p ps h cs

told : (ps cs : List ℕ) → Told (passed ps cs) (matches ps cs)
told [] [] = refl
told [] (c ∷ cs) = refl
told (p ∷ ps) cs = told_at (p == any_run) p ps (told ps) cs

told_as : (ps cs : List ℕ) (walk : Passed) → passed ps cs ≡ walk → Told walk (matches ps cs)
told_as ps cs walk e = subst (λ w. Told w (matches ps cs)) e (told ps cs)

-- ---- tails

-- the first list is what the second has left from some place on
abbrev Tail : List ℕ → List ℕ → Type 0
Tail us [] = us ≡ []
Tail us (c ∷ cs) = (us ≡ c ∷ cs) ⊎ Tail us cs

tail_itself : (cs : List ℕ) → Tail cs cs
tail_itself [] = refl
tail_itself (c ∷ cs) = inl refl

tail_same : (u c : ℕ) (us cs : List ℕ) → u ∷ us ≡ c ∷ cs → Tail us cs
tail_same u c us cs e = let same : us ≡ cs = cc in subst (λ l. Tail us l) same (tail_itself us)

tail_behind : (u : ℕ) (us cs : List ℕ) → Tail (u ∷ us) cs → Tail us cs
tail_behind u us [] h = absurd (cc)
tail_behind u us (c ∷ cs) (inl e) = inr (tail_same u c us cs e)
tail_behind u us (c ∷ cs) (inr h) = inr (tail_behind u us cs h)

both_behind : (u c : ℕ) (us cs : List ℕ) → Tail (u ∷ us) (c ∷ cs) → Tail us cs
both_behind u c us cs (inl e) = tail_same u c us cs e
both_behind u c us cs (inr h) = tail_behind u us cs h

or_second : (a b : Bool) → b ≡ true → (a || b) ≡ true
or_second true b e = refl
or_second false b e = e

or_either : (a b : Bool) → (a || b) ≡ true → (a ≡ true) ⊎ (b ≡ true)
or_either true b e = inl refl
or_either false b e = inr e

here : (f : List ℕ → Bool) (cs : List ℕ) → f cs ≡ true → some_tail f cs ≡ true
here f [] e = e
here f (c ∷ cs) e = rw e refl

further : (f : List ℕ → Bool) (us cs : List ℕ) → Tail us cs → some_tail f us ≡ true → some_tail f cs ≡ true
further f us [] e h = subst (λ l. some_tail f l ≡ true) e h
further f us (c ∷ cs) (inl e) h = subst (λ l. some_tail f l ≡ true) e h
further f us (c ∷ cs) (inr t) h = or_second (f (c ∷ cs)) (some_tail f cs) (further f us cs t h)

abbrev Somewhere : (List ℕ → Bool) → List ℕ → Type 0
Somewhere f cs = (us : List ℕ) × (Tail us cs × (f us ≡ true))

in_front : (f : List ℕ → Bool) (c : ℕ) (cs : List ℕ) → (f (c ∷ cs) ≡ true) ⊎ (some_tail f cs ≡ true)
    → (some_tail f cs ≡ true → Somewhere f cs) → Somewhere f (c ∷ cs)
in_front f c cs (inl e) h = (c ∷ cs, (inl refl, e))
in_front f c cs (inr e) h = let w = h e in (w.0, (inr w.1.0, w.1.1))

somewhere : (f : List ℕ → Bool) (cs : List ℕ) → some_tail f cs ≡ true → Somewhere f cs
somewhere f [] e = ([], (refl, e))
somewhere f (c ∷ cs) e = in_front f c cs (or_either (f (c ∷ cs)) (some_tail f cs) e) (somewhere f cs)

-- ---- a match further on in the text leaves no more than the first walk does

abbrev Drifts : List ℕ → Type 0
Drifts ps =
    (cs us p t : List ℕ) → Tail us cs → passed ps cs ≡ Run p t → matches ps us ≡ true → some_tail (matches p) t ≡ true

run_of : (b : Bool) (walk : Passed) (p t : List ℕ) → cond b walk Unlike ≡ Run p t → walk ≡ Run p t
run_of true walk p t e = e
run_of false walk p t e = absurd (cc)

drift_char : (q : ℕ) (qs : List ℕ) → Drifts qs → (cs us p t : List ℕ) → Tail us cs
    → one_passed q (passed qs) cs ≡ Run p t → one_char q (matches qs) us ≡ true → some_tail (matches p) t ≡ true
drift_char q qs ih [] us p t s e h = absurd (cc)
drift_char q qs ih (c ∷ cs) [] p t s e h = absurd (cc)
drift_char q qs ih (c ∷ cs) (u ∷ us) p t s e h =
    ih cs us p t (both_behind u c us cs s) (run_of (q == any_one || q == c) (passed qs cs) p t e)
    (and_parts (q == any_one || q == u) (matches qs us) h).1

drift_at : (b : Bool) (q : ℕ) (qs : List ℕ) → Drifts qs → (cs us p t : List ℕ) → Tail us cs
    → cond b (Run qs cs) (one_passed q (passed qs) cs) ≡ Run p t
    → (cond b (some_tail (matches qs)) (one_char q (matches qs))) us ≡ true → some_tail (matches p) t ≡ true
drift_at true q qs ih cs us p t s e h =
    let same : qs ≡ p = cc in let same' : cs ≡ t = cc in rw (← same, ← same') (further (matches qs) us cs s h)
drift_at false q qs ih cs us p t s e h = drift_char q qs ih cs us p t s e h

drift : (ps : List ℕ) → Drifts ps
drift [] [] us p t s e h = absurd (cc)
drift [] (c ∷ cs) us p t s e h = absurd (cc)
drift (q ∷ qs) cs us p t s e h = drift_at (q == any_run) q qs (drift qs) cs us p t s e h

-- ---- what a walk tells where a `%` may be before the pattern

-- whether the pattern matches the text, or some tail of it
abbrev pub meets : Bool → List ℕ → List ℕ → Bool
meets behind ps cs = cond behind (some_tail (matches ps) cs) (matches ps cs)

pub meets-over : (b : Bool) (ps cs : List ℕ) → passed ps cs ≡ Over → meets b ps cs ≡ true
meets-over true ps cs e = here (matches ps) cs (told_as ps cs Over e)
meets-over false ps cs e = told_as ps cs Over e

pub meets-run : (b : Bool) (ps cs p t : List ℕ) → passed ps cs ≡ Run p t → meets b ps cs ≡ some_tail (matches p) t
meets-run true ps cs p t e =
    both_ways (some_tail (matches ps) cs) (some_tail (matches p) t)
    (λ h. let w = somewhere (matches ps) cs h in drift ps cs w.0 p t w.1.0 e w.1.1)
    (λ h. here (matches ps) cs (told_as ps cs (Run p t) e ∙ h))
meets-run false ps cs p t e = told_as ps cs (Run p t) e

pub nothing : (xs : List ℕ) → length xs ≡ 0 → xs ≡ []
nothing [] e = refl
nothing (x ∷ xs) e = absurd (omega (arith, e))

any_tail : (cs : List ℕ) → some_tail (matches []) cs ≡ true
any_tail [] = refl
any_tail (c ∷ cs) = any_tail cs

-- a last `%` is for any text
pub meets-end : (b : Bool) (ps cs rest t : List ℕ) → passed ps cs ≡ Run (chars rest) t → rest ≡ []
    → meets b ps cs ≡ true
meets-end b ps cs rest t e none =
    let over : chars rest ≡ [] = ap chars none ∙ chars-nil in
    meets-run b ps cs (chars rest) t e ∙ rw over (any_tail t)

pub meets-unlike : (ps cs : List ℕ) → passed ps cs ≡ Unlike → meets false ps cs ≡ false
meets-unlike ps cs e = told_as ps cs Unlike e

pub meets-none : (b : Bool) (ps text : List ℕ) → text ≡ [] → passed ps (chars text) ≡ Unlike
    → meets b ps (chars text) ≡ false
meets-none true ps text none e =
    let empty : chars text ≡ [] = ap chars none ∙ chars-nil in
    rw empty (subst (λ l. matches ps l ≡ false) empty (told_as ps (chars text) Unlike e))
meets-none false ps text none e = told_as ps (chars text) Unlike e

pub meets-later : (ps cs rest : List ℕ) (c : ℕ) → cs ≡ c ∷ rest → passed ps cs ≡ Unlike
    → meets true ps cs ≡ some_tail (matches ps) rest
meets-later ps cs rest c is e = rw is (rw (subst (λ l. matches ps l ≡ false) is (told_as ps cs Unlike e)) refl)

-- ---- the ends of a walk

pub passed-over : (pattern text : List ℕ) → pattern ≡ [] → text ≡ [] → passed (chars pattern) (chars text) ≡ Over
passed-over pattern text p t =
    let p' : chars pattern ≡ [] = ap chars p ∙ chars-nil in let t' : chars text ≡ [] = ap chars t ∙ chars-nil in
    rw (p', t') refl

pub passed-longer : (pattern text rest : List ℕ) (c : ℕ) → pattern ≡ [] → text ≡ c ∷ rest
    → passed (chars pattern) text ≡ Unlike
passed-longer pattern text rest c p t = let p' : chars pattern ≡ [] = ap chars p ∙ chars-nil in rw (p', t) refl

pub passed-shorter : (pattern rest text : List ℕ) (p : ℕ) → pattern ≡ p ∷ rest → (p ≡ any_run → ⊥) → text ≡ []
    → passed pattern (chars text) ≡ Unlike
passed-shorter pattern rest text p e other t =
    let t' : chars text ≡ [] = ap chars t ∙ chars-nil in
    let no : (p == any_run) ≡ false = grind (arith, nat_tests) in
    rw (e, t', no) refl
