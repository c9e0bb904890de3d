-- Outcomes against types, one step after another.
use Rattle.std.proofs.Common.{◌≡◌, ℤ, List, [], ◌∷◌, ◌++◌, Option, Some, None, Bool, true, false, cond, IsTrue, refl}
use Rattle.std.proofs.Common.{subst}
use Rattle.std.specs.Prelude.{option_map, option_and_then}
use Rattle.qc_data.specs.Outcome.{Mode, any_size, within, Outcome, Why, Range, Stuck, Value, Halts, and_then, gather}
use Rattle.qc_data.specs.Outcome.{each, alone, Agrees}
use Rattle.qc_data.specs.declared.data.Datum.{Datum}
use Rattle.qc_data.proofs.Outcomes.{same_or_range}
use Rattle.qc_types.specs.declared.ty.Ty.{Ty}
use Rattle.qc_types.specs.Classes.{Defs}
use Rattle.qc_types.proofs.Inductions.{AllOf}
use Rattle.qc_typing.specs.Typed.{HasType, IsTyped}

-- a value of which P holds; within bounds it may be Range instead
abbrev pub Holds : {A : Type 0} → Mode → (A → Type 0) → Outcome A → Type 0
Holds m P (Value v) = P v
Holds any_size P (Halts why) = ⊥
Holds (within low high) P (Halts Range) = Unit {0}
Holds (within low high) P (Halts Stuck) = ⊥

-- where there is a type, a value of it; within bounds it may be Range instead
abbrev pub Typed : {A T : Type 0} → Mode → (A → T → Type 0) → Option T → Outcome A → Type 0
Typed m R None o = Unit {0}
Typed m R (Some t) o = Holds m (λ v. R v t) o

-- where there is no value, of whatever type it was to be
halted : {A B : Type 0} (m : Mode) (P : A → Type 0) (Q : B → Type 0) (why : Why) → Holds {A = A} m P (Halts why)
    → Holds {A = B} m Q (Halts why)
halted any_size P Q why h = absurd h
halted (within low high) P Q Range h = tt
halted (within low high) P Q Stuck h = absurd h

halted_typed : {A B T : Type 0} (m : Mode) (P : A → Type 0) (R : B → T → Type 0) (r : Option T) (why : Why)
    → Holds {A = A} m P (Halts why) → Typed {A = B} m R r (Halts why)
halted_typed m P R None why h = tt
halted_typed m P R (Some t) why h = halted m P (λ v. R v t) why h

pub holds_then : {A B : Type 0} (m : Mode) (P : A → Type 0) (Q : B → Type 0) (o : Outcome A) (f : A → Outcome B)
    → Holds m P o → ((v : A) → P v → Holds m Q (f v)) → Holds m Q (and_then o f)
holds_then m P Q (Value v) f h k = k v h
holds_then m P Q (Halts why) f h k = halted m P Q why h

-- a weaker fact
pub holds_weaker : {A : Type 0} (m : Mode) (P Q : A → Type 0) (o : Outcome A) → ((v : A) → P v → Q v) → Holds m P o
    → Holds m Q o
holds_weaker m P Q (Value v) f h = f v h
holds_weaker m P Q (Halts why) f h = halted m P Q why h

pub typed_weaker : {A T : Type 0} (m : Mode) (R S : A → T → Type 0) (r : Option T) (o : Outcome A)
    → ((v : A) (t : T) → R v t → S v t) → Typed m R r o → Typed m S r o
typed_weaker m R S None o f h = tt
typed_weaker m R S (Some t) o f h = holds_weaker m (λ v. R v t) (λ v. S v t) o (λ v. f v t) h

-- the type that is there
pub typed_at : {A T : Type 0} (m : Mode) (R : A → T → Type 0) (r : Option T) (t : T) (o : Outcome A) → r ≡ Some t
    → Typed m R r o → Holds m (λ v. R v t) o
typed_at m R r t o e h = let P : Option _ → Type 0 = λ s. Typed m R s o in subst P e h

-- a type found by way of another
pub typed_by : {A T U : Type 0} (m : Mode) (R : A → U → Type 0) (r : Option T) (g : T → Option U) (o : Outcome A)
    → ((t : T) → r ≡ Some t → Typed m R (g t) o) → Typed m R (option_and_then g r) o
typed_by m R None g o h = tt
typed_by m R (Some t) g o h = h t refl

-- a value of which P holds, and then a type
pub typed_after : {A B T : Type 0} (m : Mode) (P : A → Type 0) (R : B → T → Type 0) (r : Option T) (o : Outcome A)
    (f : A → Outcome B) → Holds m P o → ((v : A) → P v → Typed m R r (f v)) → Typed m R r (and_then o f)
typed_after m P R r (Value v) f h k = k v h
typed_after m P R r (Halts why) f h k = halted_typed m P R r why h

pub typed_then : {A B T U : Type 0} (m : Mode) (R : A → T → Type 0) (S : B → U → Type 0) (r : Option T) (o : Outcome A)
    (g : T → Option U) (f : A → Outcome B)
    → Typed m R r o → ((t : T) (v : A) → R v t → Typed m S (g t) (f v)) → Typed m S (option_and_then g r) (and_then o f)
typed_then m R S None o g f h k = tt
typed_then m R S (Some t) o g f h k = typed_after m (λ v. R v t) S (g t) o f h (k t)

pub typed_map : {A B T U : Type 0} (m : Mode) (R : A → T → Type 0) (S : B → U → Type 0) (r : Option T) (o : Outcome A)
    (g : T → U) (f : A → Outcome B)
    → Typed m R r o → ((t : T) (v : A) → R v t → Holds m (λ w. S w (g t)) (f v))
    → Typed m S (option_map g r) (and_then o f)
typed_map m R S None o g f h k = tt
typed_map m R S (Some t) o g f h k = holds_then m (λ v. R v t) (λ w. S w (g t)) o f h (k t)

-- a type under a test
pub typed_when : {A T : Type 0} (m : Mode) (R : A → T → Type 0) (b : Bool) (t : T) (o : Outcome A)
    → (IsTrue b → Holds m (λ v. R v t) o) → Typed m R (cond b (Some t) None) o
typed_when m R true t o h = h refl
typed_when m R false t o h = tt

-- a type that is there
pub typed_some : {A T : Type 0} (m : Mode) (R : A → T → Type 0) (r : Option T) (o : Outcome A)
    → ((t : T) → r ≡ Some t → Holds m (λ v. R v t) o) → Typed m R r o
typed_some m R None o h = tt
typed_some m R (Some t) o h = h t refl

-- what cannot be has each type
pub typed_never : {A T : Type 0} (m : Mode) (R : A → T → Type 0) (b : Bool) (r s : Option T) (o : Outcome A)
    → (IsTrue b → ⊥) → Typed m R s o → Typed m R (cond b r s) o
typed_never m R true r s o never h = absurd (never refl)
typed_never m R false r s o never h = h

-- ---- lists
pub all_append : {A : Type 0} (P : A → Type 0) (xs ys : List A) → AllOf P xs → AllOf P ys → AllOf P (xs ++ ys)
all_append P [] ys h k = k
all_append P (x ∷ xs) ys h k = (h.0, all_append P xs ys h.1 k)

pub all_to : {A : Type 0} (P Q : A → Type 0) (xs : List A) → ((x : A) → P x → Q x) → AllOf P xs → AllOf Q xs
all_to P Q [] f h = tt
all_to P Q (x ∷ xs) f h = (f x h.0, all_to P Q xs f h.1)

pub holds_gather : {A B : Type 0} (m : Mode) (P : A → Type 0) (Q : B → Type 0) (f : A → Outcome (List B)) (xs : List A)
    → AllOf P xs → ((x : A) → P x → Holds m (AllOf Q) (f x)) → Holds m (AllOf Q) (gather f xs)
holds_gather m P Q f [] h k = tt
holds_gather m P Q f (x ∷ xs) h k =
    holds_then m (AllOf Q) (AllOf Q) (f x) (λ ys. and_then (gather f xs) (λ zs. Value (ys ++ zs))) (k x h.0)
    (λ ys q. holds_then m (AllOf Q) (AllOf Q) (gather f xs) (λ zs. Value (ys ++ zs)) (holds_gather m P Q f xs h.1 k)
    (λ zs r. all_append Q ys zs q r))

pub holds_each : {A B : Type 0} (m : Mode) (P : A → Type 0) (Q : B → Type 0) (f : A → Outcome B) (xs : List A)
    → AllOf P xs → ((x : A) → P x → Holds m Q (f x)) → Holds m (AllOf Q) (each f xs)
holds_each m P Q f xs h k =
    holds_gather m P Q (λ x. alone (f x)) xs h
    (λ x p. holds_then m Q (AllOf Q) (f x) (λ y. Value (y ∷ [])) (k x p) (λ y q. (q, tt)))

-- the same of members whose outcomes have a type, if there is one
pub typed_each : {A B T : Type 0} (m : Mode) (P : A → Type 0) (R : B → T → Type 0) (r : Option T) (f : A → Outcome B)
    (xs : List A) → AllOf P xs → ((x : A) → P x → Typed m R r (f x))
    → Typed m (λ ys t. AllOf (λ y. R y t) ys) r (each f xs)
typed_each m P R None f xs h k = tt
typed_each m P R (Some t) f xs h k = holds_each m P (λ y. R y t) f xs h k

-- ---- all modes

-- the value at any size
pub value_of : {A : Type 0} (P : A → Type 0) (o : Outcome A) → Holds any_size P o → (v : A) × P v × (o ≡ Value v)
value_of P (Value v) h = (v, h, refl)
value_of P (Halts why) h = absurd h

-- what is typed at any size, and agrees within bounds
pub typed_all : (c : Defs) (r : Option Ty) (o : Mode → Outcome Datum) → Typed any_size (HasType c) r (o any_size)
    → ((low high : ℤ) → Agrees (o any_size) (o (within low high))) → IsTyped c r o
typed_all c None o h k = tt
typed_all c (Some t) o h k =
    let w = value_of (λ v. HasType c v t) (o any_size) h in
    (w.0, w.1, w.2, λ low high. same_or_range (o any_size) (o (within low high)) w.0 (k low high) w.2)
