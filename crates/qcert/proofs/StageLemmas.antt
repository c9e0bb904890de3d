-- Functions that take steps, one after the other on one shelf.
use Rattle.std.proofs.Common.{◌≤◌, ◌≡◌, ◌⊎◌, inl, inr, refl, sym, ◌∙◌, ap, subst, ℕ, List, [], ◌++◌, arith}
use Rattle.std.proofs.Common.{Option, Some, None, Result, Ok, Err, MatchResult}
use Rattle.std.specs.Result.{result_map_both}
use Rattle.std.proofs.lemmas.List.{append_assoc, append-nil}
use Rattle.qc_io.specs.Device.{Texts, Rose, HasAsked, and_then_asked}
use Rattle.qc_work.specs.declared.refusal.File.{File}
use Rattle.qc_work.specs.declared.refusal.Refusal.{Refusal}
use Rattle.qc_work.specs.declared.refusal.Refusal.TheVariants.{Memory}
use Rattle.qc_work.specs.Promises.{Acts}
use Rattle.qc_work.specs.Work.{Work, IsTextFor, Refuses, IsClear}
use Rattle.qcert.specs.inner.Promises.{Stage}
use Rattle.qcert.specs.Files.{fetch, read_as}
use Rattle.qcert.specs.Steps.{Names, Step, Visit, MayEnd, firm, pure, then}
use Rattle.qcert.specs.Fetching.{act}

pub itself : (n : ℕ) → n ≤ n
itself n = omega arith

pub up : (a b c : ℕ) → a ≤ b → b ≤ c → a ≤ c
up a b c le more = omega arith

-- ---- what a shelf was asked for

none_asked : (old : Option Names) → HasAsked old old []
none_asked None = inl refl
none_asked (Some names) = inr (ap (λ (l : Names). Some l) (sym (append-nil names)))

asked_twice : (old : Option Names) (a b : Names)
    → and_then_asked (and_then_asked old a) b ≡ and_then_asked old (a ++ b)
asked_twice None a b = refl
asked_twice (Some names) a b = ap (λ (l : Names). Some l) (append_assoc names a b)

asked_after : (old mid new : Option Names) (a b : Names) → HasAsked old mid a → HasAsked mid new b
    → HasAsked old new (a ++ b)
asked_after old mid new a b u (inl none) = inl none
asked_after old mid new a b (inl none) (inr e) = inl (e ∙ ap (λ (o : Option Names). and_then_asked o b) none)
asked_after old mid new a b (inr d) (inr e) =
    inr (e ∙ ap (λ (o : Option Names). and_then_asked o b) d ∙ asked_twice old a b)

-- ---- steps

-- a visit, by its parts
abbrev at : Option Texts → ℕ → ℕ → Option Names → Option Names → Visit
at texts before after old new =
    record { texts = texts; faults_old = before; faults_new = after; asked_old = old; asked_new = new }

-- a computation asks for nothing
module _ {A : Type 0} (Accepts : A → Type 0) (Refuses : Refusal → Type 0) (texts : Option Texts) where
  ends_so : (failed : Type 0) (ending : Result A Refusal) → MatchResult ending Accepts (λ r. Refuses r ⊎ (r ≡ Memory))
      → MayEnd (firm Accepts Refuses) texts failed ending []
  ends_so failed (Ok x) u = (u, refl)
  ends_so failed (Err r) (inl u) = (inl u, refl)
  ends_so failed (Err r) (inr e) = (inr (inr e), refl)

  pub computed : (n : ℕ) (names : Option Names) (ending : Result A Refusal)
      → MatchResult ending Accepts (λ r. Refuses r ⊎ (r ≡ Memory))
      → Stage (firm Accepts Refuses) (at texts n n names names) ending
  computed n names ending u = λ before after le ge. record {
    names = [];
    ends = ends_so (Rose before after) ending u;
    asked = none_asked names;
  }

module _ {A B : Type 0} (first : Step A) (next : A → Step B) where
  module _ (texts : Option Texts) (n m : ℕ) (old new : Option Names) where
    -- the first step was refused
    pub stops : (r : Refusal) → Stage first (at texts n m old new) (Err r)
        → Stage (then first next) (at texts n m old new) (Err r)
    stops r u = λ before after le ge.
        let s = u before after le ge in
        record { names = s.names; ends = inl s.ends; asked = s.asked }

  goes_so : (x : A) (texts : Option Texts) (failed : Type 0) (ending : Result B Refusal) (front back : Names)
      → first.accepts texts x → first.asks texts x front → MayEnd (next x) texts failed ending back
      → MayEnd (then first next) texts failed ending (front ++ back)
  goes_so x texts failed (Ok y) front back a asks u = (
    (x, a, u.0),
    record {
      value = x;
      accepted = a;
      front = front;
      asks = asks;
      back = back;
      follows = u;
      joined = refl;
    },
  )
  goes_so x texts failed (Err r) front back a asks u = inr (record {
    value = x;
    accepted = a;
    front = front;
    asks = asks;
    back = back;
    follows = u;
    joined = refl;
  })

  module _ (texts mid : Option Texts) (n m k : ℕ) (old asked new : Option Names) (x : A)
      (ending : Result B Refusal) where
    -- the first step accepted a value, and the next step ended
    pub goes : mid ≡ texts → n ≤ m → m ≤ k → Stage first (at texts n m old asked) (Ok x)
        → Stage (next x) (at mid m k asked new) ending → Stage (then first next) (at texts n k old new) ending
    goes kept up on u w = λ before after le ge.
        let s = u before after le (omega arith) in
        let here : Stage (next x) (at texts m k asked new) ending =
        subst (λ (t : Option Texts). Stage (next x) (at t m k asked new) ending) kept w in
        let v = here before after (omega arith) ge in
        record {
          names = s.names ++ v.names;
          ends = goes_so x texts (Rose before after) ending s.names v.names s.ends.0 s.ends.1 v.ends;
          asked = asked_after old asked new s.names v.names s.asked v.asked;
        }

-- a step, and then a computation on its value
module _ {A B : Type 0} (first : Step A) (Accepts : A → B → Type 0) (Refuses : A → Refusal → Type 0)
    (texts : Option Texts) (n m : ℕ) (old new : Option Names) where
  pub computes : (x : A) (ending : Result B Refusal) → n ≤ m → Stage first (at texts n m old new) (Ok x)
      → MatchResult ending (Accepts x) (λ r. Refuses x r ⊎ (r ≡ Memory))
      → Stage (then first (λ x. firm (Accepts x) (Refuses x))) (at texts n m old new) ending
  computes x ending up u w =
      goes first (λ x. firm (Accepts x) (Refuses x)) texts texts n m m old new new x ending refl up (itself m) u
      (computed (Accepts x) (Refuses x) texts m new ending w)

-- a step, and then what was made of its value
pub made : {A B : Type 0} (first : Step A) (make : A → B) (x : A) (texts : Option Texts) (n m : ℕ)
    (old new : Option Names) → n ≤ m → Stage first (at texts n m old new) (Ok x)
    → Stage (then first (λ y. pure (make y))) (at texts n m old new) (Ok (make x))
made first make x texts n m old new up u =
    computes first (λ y z. z ≡ make y) (λ y r. ⊥) texts n m old new x (Ok (make x)) up u refl

-- ---- a file

module _ {A : Type 0} (Means : List ℕ → A → Type 0) (IsBad : List ℕ → Refusal → Type 0) (file : File) (name : List ℕ)
    (texts : Option Texts) (n m : ℕ) (old new : Option Names) where
  -- the file was not fetched
  pub unread : (r : Refusal) → Stage (fetch file name) (at texts n m old new) (Err r)
      → Stage (read_as Means IsBad file name) (at texts n m old new) (Err r)
  unread r u = stops (fetch file name) (λ bytes. firm (Means bytes) (IsBad bytes)) texts n m old new r u

  -- the file was fetched, and its text was read
  pub read : (bytes : List ℕ) (ending : Result A Refusal) → n ≤ m
      → Stage (fetch file name) (at texts n m old new) (Ok bytes)
      → MatchResult ending (Means bytes) (λ r. IsBad bytes r ⊎ (r ≡ Memory))
      → Stage (read_as Means IsBad file name) (at texts n m old new) ending
  read bytes ending up u w = computes (fetch file name) Means IsBad texts n m old new bytes ending up u w

-- ---- work

-- the files of a job were read, and the work was done
pub acted : (reading : Step Work) (work : Work) {T : Type 0} (bytes : T → List ℕ) (result : Result T Refusal)
    (texts : Option Texts) (n m : ℕ) (old new : Option Names) → n ≤ m → Stage reading (at texts n m old new) (Ok work)
    → Acts bytes work result → Stage (then reading act) (at texts n m old new)
    (result_map_both bytes (λ (r : Refusal). r) result)
acted reading work bytes (Ok t) texts n m old new up u w =
    computes reading (λ work text. IsTextFor work text × IsClear work) Refuses texts n m old new work
    (Ok (bytes t)) up u w
acted reading work bytes (Err r) texts n m old new up u w =
    computes reading (λ work text. IsTextFor work text × IsClear work) Refuses texts n m old new work (Err r) up u w
