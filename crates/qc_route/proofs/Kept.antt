-- What stages keep.
use Rattle.std.proofs.Common.{◌≡◌, refl, sym, ap, subst}
use Rattle.std.specs.Prelude.{Err, IfOk, Ok, Result}
use Rattle.qc_containers.specs.declared.memory.Memory.{Memory}
use Rattle.qc_data.specs.Encoding.{encoded}
use Rattle.qc_data.specs.Outcome.{IsKept, Mode, Outcome, Value, Halts}
use Rattle.qc_data.specs.declared.data.Datum.{Datum}
use Rattle.qc_lang.specs.Keeping as lang
use Rattle.qc_types.specs.Schemas.{SchemaOf, WorldOf}
use Rattle.qc_imp.specs.declared.tree.Imp.{Imp as Imperative}
use Rattle.qc_js.specs.declared.tree.Program.{Program}
use Rattle.qc_to_js.specs.Answering.{AnswersAs}
use Rattle.qc_route.specs.declared.stage.Stage.{Stage}
use Rattle.qc_route.specs.declared.stage.Stage.TheVariants.{Imp, Js}
use Rattle.qc_route.specs.Stages.{Keeps, outcome}

-- ---- outcomes

kept_encoded : (o p : Outcome Datum) → IsKept o p → IsKept (encoded o) (encoded p)
kept_encoded (Value v) p h = ap encoded h
kept_encoded (Halts why) p h = tt

kept_same : {A : Type 0} (o p : Outcome A) → p ≡ o → IsKept o p
kept_same (Value v) p e = e
kept_same (Halts why) p e = tt

kept_twice : {A : Type 0} (o p q : Outcome A) → IsKept o p → IsKept p q → IsKept o q
kept_twice (Value v) p q h k = subst (λ x. IsKept x q) h k
kept_twice (Halts why) p q h k = tt

-- ---- stages

abbrev Meaning : Type 0
Meaning = Mode → WorldOf → Outcome Datum

-- a stage answers the encoding of what its tree means
abbrev Encodes : Stage → Meaning → Type 0
Encodes stage means = (m : Mode) (w : WorldOf) → outcome m w stage ≡ encoded (means m w)

-- a pass of trees is one of stages
pub passed : (s : SchemaOf) (a b : Stage) (f g : Meaning) → Encodes a f → Encodes b g → lang.Keeps s f g → Keeps s a b
passed s a b f g p q h = record {
  kept = λ m w of. subst (λ o. IsKept o (outcome m w b)) (sym (p m w))
      (subst (λ o. IsKept (encoded (f m w)) o) (sym (q m w)) (kept_encoded (f m w) (g m w) (h.kept m w of)));
}

pub programmed : (s : SchemaOf) (p : Imperative) (made : Program) → AnswersAs s p made → Keeps s (Imp p) (Js made)
programmed s p made h = record {
  kept = λ m w of. kept_same (outcome m w (Imp p)) (outcome m w (Js made)) (h.answers m w of);
}

pub keeps_itself : (s : SchemaOf) (a : Stage) → Keeps s a a
keeps_itself s a = record { kept = λ m w of. kept_same (outcome m w a) (outcome m w a) refl }

keeps_on : (s : SchemaOf) (a b c : Stage) → Keeps s a b → Keeps s b c → Keeps s a c
keeps_on s a b c h k = record {
  kept = λ m w of. kept_twice (outcome m w a) (outcome m w b) (outcome m w c) (h.kept m w of) (k.kept m w of);
}

pub keeps_further : (s : SchemaOf) (a b : Stage) (r : Result Stage Memory) → Keeps s a b → IfOk r (Keeps s b)
    → IfOk r (Keeps s a)
keeps_further s a b (Ok c) h k = keeps_on s a b c h k
keeps_further s a b (Err e) h k = tt
