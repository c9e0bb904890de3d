-- Steps on a shelf: what each accepts, what it must and what it may be refused for, and which names it asks for by
-- then.
use Rattle.std.specs.Prelude.{◌≡◌, ◌⊎◌, ℕ, List, [], ◌++◌, Option, Result, Ok, Err}
use Rattle.qc_io.specs.Device.{Texts, Rose, HasAsked}
use Rattle.qc_work.specs.declared.refusal.Refusal.{Refusal}
use Rattle.qc_work.specs.declared.refusal.Refusal.TheVariants.{Memory}

-- names of texts, in order
abbrev pub Names : Type 0
Names = List (List ℕ)

-- a step that ends with a value or a refusal, on a shelf with these texts, where they are told
pub record Step (A : Type 0) : Type 1 where
  -- the value that it accepts
  pub accepts : Option Texts → A → Type 0
  -- the names that it asks for where it accepts the value
  pub asks : Option Texts → A → Names → Type 0
  -- what it has to be refused for, unless the shelf failed or memory was wanting
  pub must : Option Texts → Refusal → Type 0
  -- what it can be refused for at all, where this says that the shelf failed, and the names that it asks for until then
  pub may : Option Texts → Type 0 → Refusal → Names → Type 0

-- a computation: what it accepts, what it has to be refused for, and what it may be refused for though it need not be
abbrev pub loose : {A : Type 0} → (A → Type 0) → (Refusal → Type 0) → (Refusal → Type 0) → Step A
loose Accepts Refuses Doubts = record {
  accepts = λ texts x. Accepts x;
  asks = λ texts x names. names ≡ [];
  must = λ texts r. Refuses r;
  may = λ texts failed r names. (Refuses r ⊎ Doubts r ⊎ (r ≡ Memory)) × (names ≡ []);
}

-- a computation that has to be refused for what it may be refused for
abbrev pub firm : {A : Type 0} → (A → Type 0) → (Refusal → Type 0) → Step A
firm Accepts Refuses = loose Accepts Refuses (λ r. ⊥)

-- the value is there
abbrev pub pure : {A : Type 0} → A → Step A
pure x = firm (λ y. y ≡ x) (λ r. ⊥)

-- the first step accepts a value, and the names are those that it asks for, and then those of what follows
pub record GoesOn {A : Type 0} (first : Step A) (texts : Option Texts) (Follows : A → Names → Type 0)
    (names : Names) : Type 0 where
  pub value : A
  pub accepted : first.accepts texts value
  pub front : Names
  pub asks : first.asks texts value front
  pub back : Names
  pub follows : Follows value back
  pub joined : names ≡ front ++ back

-- a step, and then a step on what it accepts
abbrev pub then : {A B : Type 0} → Step A → (A → Step B) → Step B
then {A = A} first next = record {
  accepts = λ texts y. (x : A) × first.accepts texts x × (next x).accepts texts y;
  asks = λ texts y names.
      GoesOn first texts (λ x back. (next x).accepts texts y × (next x).asks texts y back) names;
  must = λ texts r. first.must texts r ⊎ ((x : A) × first.accepts texts x × (next x).must texts r);
  may = λ texts failed r names. first.may texts failed r names
      ⊎ GoesOn first texts (λ x back. (next x).may texts failed r back) names;
}

-- the step may end so, and asks for these names until then
abbrev pub MayEnd : {A : Type 0} → Step A → Option Texts → Type 0 → Result A Refusal → Names → Type 0
MayEnd s texts failed (Ok x) names = s.accepts texts x × s.asks texts x names
MayEnd s texts failed (Err r) names = s.may texts failed r names

-- ---- what was done with a shelf

-- the texts that a shelf tells, its counts of faults before and after, and what it was asked for before and after
pub record Visit : Type 0 where
  pub texts : Option Texts
  pub faults_old : ℕ
  pub faults_new : ℕ
  pub asked_old : Option Names
  pub asked_new : Option Names

-- the visit of a shelf between two of its states
abbrev pub visit : {S : Type 0} → (S → Option Texts) → (S → ℕ) → (S → Option Names) → S → S → Visit
visit texts faults asked old new = record {
  texts = texts old;
  faults_old = faults old;
  faults_new = faults new;
  asked_old = asked old;
  asked_new = asked new;
}

-- the shelf failed
abbrev pub HasFailed : Visit → Type 0
HasFailed v = Rose v.faults_old v.faults_new

-- the step ended so, and asked for the names that it asks for until then, and for no others
pub record Ended {A : Type 0} (s : Step A) (v : Visit) (failed : Type 0) (ending : Result A Refusal) : Type 0 where
  pub names : Names
  pub ends : MayEnd s v.texts failed ending names
  pub asked : HasAsked v.asked_old v.asked_new names
