-- Bindings against their types, and what it is that a typing is sound.
use Rattle.std.proofs.Common.{◌≡◌, ℕ, Bool, true, false, cond, List, [], ◌∷◌, Option, Some, None, IsTrue, refl}
use Rattle.std.specs.Str.{bytes_eq}
use Rattle.qc_data.specs.Outcome.{Mode}
use Rattle.qc_containers.specs.Pairs.{lookup}
use Rattle.qc_data.specs.declared.data.Datum.{Datum}
use Rattle.qc_ops.specs.Operands.{found}
use Rattle.qc_types.specs.declared.ty.Ty.{Ty}
use Rattle.qc_types.specs.Classes.{Defs}
use Rattle.qc_types.specs.Schemas.{SchemaOf, WorldOf, global, is_world}
use Rattle.qc_typing.specs.Checking.{or_fault}
use Rattle.qc_typing.specs.Typed.{HasType}
use Rattle.qc_typing.proofs.WorldValues.{global_typed, world_typed}
use Rattle.qc_oql_tree.specs.Bindings.{Bindings, Meaning, or_else_some, value_of}
use Rattle.qc_oql_tree.specs.FormMeanings.{NamedMeaning}
use Rattle.qc_oql_tree.specs.SelectMeaning.{KeyMeaning}
use Rattle.qc_oql_tree.specs.FormTypings.{Types, Typing, NamedTyping, FilterTyping, OrderTyping, type_of}
use Rattle.qc_oql_check.proofs.Checked.{Checked, Zip}

-- one name, with a value of the type
abbrev pub Binds : Defs → List ℕ × Datum → List ℕ × Ty → Type 0
Binds c p q = (p.0 ≡ q.0) × HasType c p.1 q.1

-- the same names in the same order, each with a value of its type
abbrev pub Agree : Defs → Bindings → Types → Type 0
Agree c s e = Zip (Binds c) s e

-- at each bindings that agree with the types, a value of the type that the typing gives
abbrev pub Sound : Defs → Mode → Typing → Meaning → Type 0
Sound c m f a = (s : Bindings) (e : Types) → Agree c s e → Checked m (HasType c) (f e) (a s)

-- the same under one name
abbrev pub SoundN : Defs → Mode → NamedTyping → NamedMeaning → Type 0
SoundN c m f a = (f.name ≡ a.0) × Sound c m f.of a.1

-- the same of a condition
abbrev pub SoundF : Defs → Mode → FilterTyping → Meaning → Type 0
SoundF c m f a = Sound c m f.test a

-- the same of a key
abbrev pub SoundK : Defs → Mode → Typing → KeyMeaning → Type 0
SoundK c m f a = Sound c m f a.0

-- the same of an order
abbrev pub SoundO : Defs → Mode → OrderTyping → List KeyMeaning → Type 0
SoundO c m f a = Zip (SoundK c m) f.keys a

-- ---- names

-- both are there, the value of the type, or neither
abbrev Both : Defs → Option Datum → Option Ty → Type 0
Both c None None = Unit {0}
Both c None (Some t) = ⊥
Both c (Some v) None = ⊥
Both c (Some v) (Some t) = HasType c v t

both_cond : (c : Defs) (b : Bool) (v : Datum) (t : Ty) (x : Option Datum) (y : Option Ty) → HasType c v t → Both c x y
    → Both c (cond b (Some v) x) (cond b (Some t) y)
both_cond c true v t x y h k = h
both_cond c false v t x y h k = k

looked_up : (c : Defs) (name : List ℕ) (s : Bindings) (e : Types) → Agree c s e → Both c (lookup name s) (lookup name e)
looked_up c name [] [] h = tt
looked_up c name [] (q ∷ e) h = absurd h
looked_up c name (p ∷ s) [] h = absurd h
looked_up c name (p ∷ s) (q ∷ e) h =
    rw h.0.0 (both_cond c (bytes_eq q.0 name) p.1 q.1 (lookup name s) (lookup name e) h.0.1 (looked_up c name s e h.1))

found_checked : (c : Defs) (m : Mode) (at : ℕ) (x z : Option Datum) (y u : Option Ty) → Both c x y
    → ((t : Ty) → u ≡ Some t → (v : Datum) × (z ≡ Some v) × HasType c v t)
    → Checked m (HasType c) (or_fault at (or_else_some y u)) (found (or_else_some x z))
found_checked c m at None z None None h k = tt
found_checked c m at None z None (Some t) h k = let w = k t refl in rw w.1 w.2
found_checked c m at None z (Some t) u h k = absurd h
found_checked c m at (Some v) z None u h k = absurd h
found_checked c m at (Some v) z (Some t) u h k = h

pub sound_name : (schema : SchemaOf) (w : WorldOf) (m : Mode) → IsTrue (is_world schema.classes schema.globals w.datum)
    → (at : ℕ) (name : List ℕ) → Sound schema.classes m (type_of schema at name) (value_of w name)
sound_name schema w m is at name s e h =
    let c = schema.classes in
    found_checked c m at (lookup name s) (global name w.datum) (lookup name e) (lookup name schema.globals)
    (looked_up c name s e h) (λ t k. global_typed c schema.globals w.datum
    (world_typed c schema.globals w.datum is) name t k)
