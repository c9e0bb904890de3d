-- Data that stand for what is seen in trees wherever only sameness matters. Their names are names, whatever those of
-- objects are, and they are in the same order.
use Rattle.std.specs.Prelude.{◌≡◌, ℕ, suc, pos, Bool, true, false, codes, List, [], ◌∷◌, map}
use Rattle.qc_data.specs.declared.data.Datum.{Datum}
use Rattle.qc_data.specs.declared.data.Datum.TheOpen.{Datum-F}
use Rattle.qc_data.specs.declared.data.Datum.TheViews.{roll-Datum}
use Rattle.qc_data.specs.declared.data.Datum.TheFolds.{fold-Datum}
use Rattle.qc_data.specs.declared.data.Datum.TheVariants.{Int, Text, Coll, Rec, Brand}
use Rattle.qc_data.specs.declared.data.Json.{Json}
use Rattle.qc_rt.specs.Seen.{seen}

-- a member at a place, of the name and the value
abbrev pub member_twin : ℕ → List ℕ → Datum → Datum
member_twin i n d = Rec ((codes "a", Int (pos i)) ∷ (codes "b", Text n) ∷ (codes "c", d) ∷ [])

-- the members from place i on
abbrev pub numbered : ℕ → List (List ℕ × Datum) → List Datum
numbered i [] = []
numbered i (p ∷ ps) = member_twin i p.0 p.1 ∷ numbered (suc i) ps

-- a class's value, of the class and the content
abbrev pub class_twin : List ℕ → Datum → Datum
class_twin n d = Brand (codes "a") (Rec ((codes "a", Text n) ∷ (codes "b", d) ∷ []))

-- one layer, whose parts are twins
abbrev pub twin_step : Datum-F Datum → Datum
twin_step (Datum-F.Rec ps) = Rec ((codes "a", Coll (numbered 0 ps)) ∷ [])
twin_step (Datum-F.Brand n d) = class_twin n d
twin_step x = roll-Datum x

-- the datum that stands for the datum
abbrev pub twin : Datum → Datum
twin = fold-Datum Datum twin_step

-- the datum itself, or its twin
abbrev pub mark : Bool → Datum → Datum
mark true d = d
mark false d = twin d

-- the lists are of marks of what is seen in the trees, all of one kind
abbrev pub Marks : List Datum → List Json → List Datum → List Json → Type 0
Marks xs js ys ks = (b : Bool) × (xs ≡ map (mark b) (map seen js)) × (ys ≡ map (mark b) (map seen ks))
