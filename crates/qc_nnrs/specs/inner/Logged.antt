-- What statements make of the writes before them, as private functions run them: these, and their own behind.
use Rattle.std.specs.Prelude.{ℕ, cond, List, [], ◌∷◌, ◌++◌, Some}
use Rattle.qc_data.specs.Kinds.{as_coll}
use Rattle.qc_data.specs.Outcome.{Mode, Outcome, Value, and_then}
use Rattle.qc_data.specs.declared.data.Datum.{Datum}
use Rattle.qc_data.specs.declared.data.Datum.TheVariants.{Coll}
use Rattle.qc_ops.specs.Sides.{by_side}
use Rattle.qc_trees.specs.Branches.{truth}
use Rattle.qc_types.specs.Schemas.{WorldOf}
use Rattle.qc_nnrs.specs.declared.tree.NnrsStmt.{NnrsStmt}
use Rattle.qc_nnrs.specs.declared.tree.NnrsStmt.TheOpen.{NnrsStmt-F}
use Rattle.qc_nnrs.specs.declared.tree.NnrsStmt.TheFolds.{fold-NnrsStmt}
use Rattle.qc_nnrs.specs.Meaning.{Reads, Sets, Pushes, Frame, Writes, class_of, set_at, push_at}
use Rattle.qc_nnrs.specs.Meaning.{written, without, last_of, expr}
use Rattle.qc_nnrs_store.specs.Logs.{added}

-- what a statement makes of the writes before it, by what variables stand for
abbrev pub Logging : Type 0
Logging = Frame → Writes → Outcome Writes

-- the body with a variable that is read
abbrev pub logs_with : ℕ → Logging → Frame → Writes → Datum → Outcome Writes
logs_with x b f log d = b ((x, Reads (Some d)) ∷ f) log

-- each member behind the ones before it
abbrev pub all_logged : (Writes → Datum → Outcome Writes) → Writes → List Datum → Outcome Writes
all_logged g log [] = Value log
all_logged g log (d ∷ ds) = and_then (g log d) (λ all. all_logged g all ds)

-- the body for each member
unfoldable pub logs_for : ℕ → Logging → Frame → Writes → Datum → Outcome Writes
logs_for x b f log v = and_then (as_coll v) (all_logged (logs_with x b f) log)

-- the body behind what a first part wrote to others, which reads the last value that the part set the variable to
abbrev pub logs_after_set : ℕ → Logging → Frame → Writes → Writes → Outcome Writes
logs_after_set x b f log us = b ((x, Reads (last_of (written x us))) ∷ f) (log ++ without x us)

-- the same, where the body reads the collection of all that the part pushed to the variable
abbrev pub logs_after_push : ℕ → Logging → Frame → Writes → Writes → Outcome Writes
logs_after_push x b f log us = logs_with x b f (log ++ without x us) (Coll (written x us))

-- a statement by its parts
abbrev pub log_form : Mode → WorldOf → NnrsStmt-F Logging → Logging
log_form m w (NnrsStmt-F.Seq a b) f log = and_then (a f log) (b f)
log_form m w (NnrsStmt-F.Let x e b) f log = and_then (expr m w e f) (logs_with x b f log)
log_form m w (NnrsStmt-F.LetMut x a b) f log = and_then (a ((x, Sets) ∷ f) []) (logs_after_set x b f log)
log_form m w (NnrsStmt-F.LetColl x a b) f log = and_then (a ((x, Pushes) ∷ f) []) (logs_after_push x b f log)
log_form m w (NnrsStmt-F.Set x e) f log = and_then (expr m w e f) (λ d. added log (set_at x d (class_of x f)))
log_form m w (NnrsStmt-F.Push x e) f log = and_then (expr m w e f) (λ d. added log (push_at x d (class_of x f)))
log_form m w (NnrsStmt-F.For x e b) f log = and_then (expr m w e f) (logs_for x b f log)
log_form m w (NnrsStmt-F.If e a b) f log = and_then (truth (expr m w e f)) (λ holds. cond holds (a f log) (b f log))
log_form m w (NnrsStmt-F.Either e x a y b) f log =
    and_then (expr m w e f) (by_side (logs_with x a f log) (logs_with y b f log))

-- a statement, in a mode and a world
abbrev pub logged : Mode → WorldOf → NnrsStmt → Logging
logged m w s = fold-NnrsStmt Logging (log_form m w) s
