-- Classes by their places in the order listed, counted from 0, as the index of a list of classes has them.
use Rattle.std.specs.Prelude.{ℕ, zero, suc, ◌-◌, ◌≡◌, ◌<◌, Bool, false, List, [], ◌∷◌, Option, Some, None, cond}
use Rattle.std.specs.Prelude.{drop, length, map, option_map, reverse, slice_get}
use Rattle.std.specs.Str.{bytes_eq}
use Rattle.qc_containers.specs.Pairs.{put}
use Rattle.qc_types.specs.declared.index.Entry.{Entry}
use Rattle.qc_types.specs.declared.index.Jump.{Jump}
use Rattle.qc_types.specs.declared.index.Place.{Place}
use Rattle.qc_types.specs.declared.ty.ClassDef.{ClassDef}
use Rattle.qc_types.specs.Classes.{Defs, chain, is_in, listed, parents}

-- the place of the class of a name
abbrev pub place_of : Defs → List ℕ → Option ℕ
place_of [] a = None
place_of (d ∷ ds) a = cond (bytes_eq d.name a) (Some (length ds)) (place_of ds a)

-- the place of a parent, if there is one and it is listed
abbrev pub parent_place : Defs → Option (List ℕ) → Option ℕ
parent_place ds None = None
parent_place ds (Some p) = place_of ds p

-- the classes listed before a place
abbrev pub earlier : Defs → ℕ → Defs
earlier c n = drop (length c - n) c

-- the classes of entries in the order listed
abbrev pub defs_of : List Entry → Defs
defs_of es = reverse (map (λ e. e.def) es)

-- the place of a class's parent among the classes ds, if there is a class
abbrev pub parent_of : Defs → Option ClassDef → Option ℕ
parent_of ds None = None
parent_of ds (Some d) = parent_place ds d.parent

-- the place of the parent of the class at a place
abbrev pub parent_at : Defs → ℕ → Option ℕ
parent_at c n = parent_of (earlier c n) (slice_get (reverse c) n)

-- the place, if there is one, is before place k
abbrev pub Within : ℕ → Option ℕ → Type 0
Within k None = Unit {0}
Within k (Some n) = n < k

-- the place so many parents upward from a place, if there is one
abbrev pub up : Defs → ℕ → Option ℕ → Option ℕ
up c zero o = o
up c (suc k) None = None
up c (suc k) (Some n) = up c k (parent_at c n)

-- the jump, if there is one, of a class whose parent has the place o: over so many classes, the parent first
abbrev pub IsJump : Defs → Option ℕ → Option Jump → Type 0
IsJump c o None = Unit {0}
IsJump c o (Some j) = up c j.over o ≡ Some j.to

-- the name of the first class and those of its ancestors, upward
abbrev pub own_chain : Defs → List (List ℕ)
own_chain [] = []
own_chain (d ∷ ds) = d.name ∷ parents (λ p. chain ds p) d.parent

-- the name of the class at a place and those of its ancestors, upward
abbrev pub path : Defs → Option ℕ → List (List ℕ)
path c None = []
path c (Some n) = own_chain (earlier c (suc n))

-- the first of the names ns that is one of the names ms
abbrev pub first_in : List (List ℕ) → List (List ℕ) → Option (List ℕ)
first_in ms [] = None
first_in ms (n ∷ ns) = cond (is_in n ms) (Some n) (first_in ms ns)

-- the name of the class at a place
abbrev pub name_at : Defs → Option ℕ → Option (List ℕ)
name_at c None = None
name_at c (Some n) = option_map (λ d. d.name) (slice_get (reverse c) n)

-- the name is one of the names, if there is one
abbrev pub is_some_in : Option (List ℕ) → List (List ℕ) → Bool
is_some_in None ns = false
is_some_in (Some n) ns = is_in n ns

-- the class at place m is the one at a place or an ancestor of it
abbrev pub on_path : Defs → ℕ → Option ℕ → Bool
on_path c m o = is_some_in (name_at c (Some m)) (path c o)

-- the places by name
abbrev pub places_of : Defs → List (List ℕ × Place)
places_of [] = []
places_of (d ∷ ds) = put d.name (record { at = length ds }) (places_of ds)

-- no class has the name of an earlier one
abbrev pub New : Defs → Type 0
New [] = Unit {0}
New (d ∷ ds) = (listed ds d.name ≡ false) × New ds

-- an entry that has the class at a place, its parent's place and a jump of it
pub record IsEntry (c : Defs) (n : ℕ) (e : Entry) : Type 0 where
  pub def_is : slice_get (reverse c) n ≡ Some e.def
  pub parent_is : e.parent ≡ parent_at c n
  pub jump_is : IsJump c (parent_at c n) e.jump

-- the entry of a place, exactly where there is a class
abbrev pub EntryAt : Defs → ℕ → Option Entry → Type 0
EntryAt c n None = slice_get (reverse c) n ≡ None
EntryAt c n (Some e) = IsEntry c n e

-- entries in the order listed and places by name that are those of one list of classes without a repeated name
pub record IsIndex (entries : List Entry) (places : List (List ℕ × Place)) : Type 0 where
  pub entries_are : (n : ℕ) → EntryAt (defs_of entries) n (slice_get entries n)
  pub places_are : places ≡ places_of (defs_of entries)
  pub names : New (defs_of entries)
