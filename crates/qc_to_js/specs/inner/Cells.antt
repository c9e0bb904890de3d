-- Variables of programs on JSON beside those of programs over imp.
use Rattle.std.specs.Prelude.{◌≡◌, ℕ, true, map, Some, None, option_map}
use Rattle.std.specs.List.{AllByRecursion}
use Rattle.qc_data.specs.Encoding.{enc}
use Rattle.qc_rt.specs.Laws.{plain}
use Rattle.qc_imp.specs.Meaning as imp
use Rattle.qc_imp.specs.WellFormed as rules
use Rattle.qc_js.specs.Meaning as json
use Rattle.qc_js.specs.WellFormed as scopes
use Rattle.qc_js.specs.declared.scope.Class.{Class}
use Rattle.qc_js.specs.declared.scope.Class.TheVariants as class

-- ---- what variables hold

abbrev pub cell_json : imp.Cell → json.Cell
cell_json (imp.Settable o) = json.Settable (option_map enc o)
cell_json (imp.Constant d) = json.Constant (enc d)
cell_json (imp.Collecting ds) = json.Collecting (map enc ds)

abbrev pub store_json : imp.Store → json.Store
store_json st = map (λ c. (c.0, cell_json c.1)) st

-- all data that a cell holds are plain
abbrev pub PlainCell : imp.Cell → Type 0
PlainCell (imp.Settable None) = Unit {0}
PlainCell (imp.Settable (Some d)) = plain d ≡ true
PlainCell (imp.Constant d) = plain d ≡ true
PlainCell (imp.Collecting ds) = AllByRecursion (λ d. plain d ≡ true) ds

abbrev pub PlainStore : imp.Store → Type 0
PlainStore st = AllByRecursion (λ c. PlainCell c.1) st

-- ---- how variables may be used

abbrev pub class_json : rules.Class → Class
class_json rules.Settable = class.Settable
class_json rules.Readable = class.Readable
class_json rules.Pushable = class.Pushable

-- the same variables are in scope, with the same classes
abbrev pub Mirrors : rules.Scope → scopes.Scope → Type 0
Mirrors s t = (x : ℕ) → scopes.class_of x t ≡ option_map class_json (rules.class_of x s)
