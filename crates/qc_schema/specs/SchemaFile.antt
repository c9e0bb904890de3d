-- The schema that a JSON tree means: the file's first version.
use Rattle.std.specs.Prelude.{ℕ, ◌==◌, pos, List, [], ◌∷◌, reverse, Bool, false, ◌&&◌, cond, Option, Some, None}
use Rattle.std.specs.Prelude.{option_map, option_and_then, codes, ◌≡◌}
use Rattle.std.specs.Str.{bytes_eq}
use Rattle.qc_data.specs.declared.data.Json.{Json}
use Rattle.qc_data.specs.declared.data.Json.TheOpen.{Json-F}
use Rattle.qc_data.specs.declared.data.Json.TheViews.{out-Json}
use Rattle.qc_types.specs.Schemas.{SchemaOf, good_classes, good_globals}
use Rattle.qc_types.specs.declared.ty.ClassDef.{ClassDef}
use Rattle.qc_types.specs.declared.ty.Ty.{Ty}
use Rattle.qc_schema.specs.JsonReading.{Means}
use Rattle.qc_schema.specs.TypeForms.{said}

-- the class of a name, a parent and a type that are there
abbrev pub class_from : Option (List ℕ) → Option (Option (List ℕ)) → Option Ty → Option ClassDef
class_from n p t =
    option_and_then (λ n. option_and_then (λ p. option_map (λ t. record { name = n; parent = p; shape = t }) t) p) n

-- by the outermost layer of a tree
abbrev pub parent_at : Json-F Json → Option (List ℕ) → Option (Option (List ℕ))
parent_at Json-F.Null name = Some None
parent_at x name = option_map Some name

-- the parent that a tree means: a name, or none for null
abbrev pub parent_of : Json → Option (Option (List ℕ))
parent_of j = parent_at (out-Json j) (said j).class

-- an object of exactly a class's names, which rise
abbrev pub class_parts : List (List ℕ × Json) → Option ClassDef
class_parts [] = None
class_parts (a ∷ []) = None
class_parts (a ∷ b ∷ []) = None
class_parts (a ∷ b ∷ c ∷ []) =
    cond (bytes_eq a.0 (codes "name") && (bytes_eq b.0 (codes "parent") && bytes_eq c.0 (codes "type")))
    (class_from (said a.1).class (parent_of b.1) (said c.1).ty) None
class_parts (a ∷ b ∷ c ∷ d ∷ ps) = None

-- by the outermost layer of a tree
abbrev pub class_at : Json-F Json → Option ClassDef
class_at (Json-F.Object ps) = class_parts ps
class_at x = None

-- the class that a tree means
abbrev pub class_of : Json → Option ClassDef
class_of j = class_at (out-Json j)

-- all classes, where each is one
abbrev pub each_class : List Json → Option (List ClassDef)
each_class [] = Some []
each_class (j ∷ js) = option_and_then (λ d. option_map (λ ds. d ∷ ds) (each_class js)) (class_of j)

-- by the outermost layer of a tree
abbrev pub classes_at : Json-F Json → Option (List ClassDef)
classes_at (Json-F.Array js) = each_class js
classes_at x = None

-- the classes that a tree lists
abbrev pub classes_of : Json → Option (List ClassDef)
classes_of j = classes_at (out-Json j)

-- by the outermost layer of a tree
abbrev pub one_at : Json-F Json → Bool
one_at (Json-F.Int (pos n)) = n == 1
one_at x = false

-- whether the tree is the integer 1
abbrev pub is_one : Json → Bool
is_one j = one_at (out-Json j)

-- the schema of classes in the order listed, and of globals, where they make one
abbrev pub schema_from : List ClassDef → List (List ℕ × Ty) → Option SchemaOf
schema_from ds gs =
    cond (good_classes (reverse ds) && good_globals (reverse ds) gs)
    (Some (record { classes = reverse ds; globals = gs })) None

-- the same of the file's parts, in the first version
abbrev pub from_parts : Option (List ClassDef) → Option (List (List ℕ × Ty)) → Bool → Option SchemaOf
from_parts ds gs one = cond one (option_and_then (λ ds. option_and_then (λ gs. schema_from ds gs) gs) ds) None

-- an object of exactly the file's names, which rise
abbrev pub file_parts : List (List ℕ × Json) → Option SchemaOf
file_parts [] = None
file_parts (a ∷ []) = None
file_parts (a ∷ b ∷ []) = None
file_parts (a ∷ b ∷ c ∷ []) =
    cond (bytes_eq a.0 (codes "classes") && (bytes_eq b.0 (codes "globals") && bytes_eq c.0 (codes "version")))
    (from_parts (classes_of a.1) (said b.1).row (is_one c.1)) None
file_parts (a ∷ b ∷ c ∷ d ∷ ps) = None

-- by the outermost layer of a tree
abbrev pub file_at : Json-F Json → Option SchemaOf
file_at (Json-F.Object ps) = file_parts ps
file_at x = None

-- the schema that a tree means
abbrev pub schema_of : Json → Option SchemaOf
schema_of j = file_at (out-Json j)

-- the bytes mean the schema
abbrev pub MeansSchema : List ℕ → SchemaOf → Type 0
MeansSchema bytes s = (j : Json) × Means bytes j × (schema_of j ≡ Some s)
