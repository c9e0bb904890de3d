-- The list behind an owner that may be absent.
use Rattle.std.specs.Prelude.{List, [], Option, Some, None}
use Rattle.std.specs.declared.alloc.Global.{Global}
use Rattle.std.specs.declared.vec.Vec.{Vec}
use Rattle.std.specs.declared.rc.Rc.{Rc}

-- the items, none where there is no owner
abbrev pub list_of : {T : Type 0} → Option (Rc (Vec T Global) Global) → List T
list_of None = []
list_of (Some owner) = owner.value.items
