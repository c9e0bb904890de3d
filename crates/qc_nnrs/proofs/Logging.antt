-- What statements make of the writes before them is these and what they write behind.
use Rattle.std.proofs.Common.{◌≡◌, ◌∙◌, ◌++◌, ℕ, Bool, true, false, cond, List, [], ◌∷◌, Some}
use Rattle.std.proofs.Common.{ap, append_assoc, append-nil, refl, sym}
use Rattle.qc_data.specs.Kinds.{as_coll}
use Rattle.qc_data.specs.Outcome.{Mode, Outcome, Value, Halts, and_then, gather}
use Rattle.qc_data.specs.declared.data.Datum.{Datum}
use Rattle.qc_data.specs.declared.data.Datum.TheOpen.{Datum-F}
use Rattle.qc_data.specs.declared.data.Datum.TheViews.{out-Datum}
use Rattle.qc_data.specs.declared.data.Datum.TheVariants.{Coll}
use Rattle.qc_ops.specs.Sides.{side_at}
use Rattle.qc_trees.specs.Branches.{truth}
use Rattle.qc_types.specs.Schemas.{WorldOf}
use Rattle.qc_nnrs.specs.declared.tree.NnrsStmt.{NnrsStmt}
use Rattle.qc_nnrs.specs.declared.tree.NnrsStmt.TheOpen.{NnrsStmt-F}
use Rattle.qc_nnrs.specs.declared.tree.NnrsStmt.TheViews.{roll-NnrsStmt}
use Rattle.qc_nnrs.specs.declared.tree.NnrsStmt.TheFolds.{fold-roll-NnrsStmt, map-NnrsStmt}
use Rattle.qc_nnrs.specs.Meaning.{Class, Reads, Sets, Pushes, Frame, Writes, Meaning}
use Rattle.qc_nnrs.specs.Meaning.{written, without, last_of, expr, seq_of, reads_as, handed_on, for_of, form, stmt}
use Rattle.qc_nnrs.specs.inner.Induction.{HeldStmt, stmt_ind}
use Rattle.qc_nnrs_store.specs.Logs.{added}
use Rattle.qc_nnrs.specs.inner.Logged.{Logging, logs_with, all_logged, logs_for, log_form, logged}
use Rattle.qc_nnrs.specs.inner.Logged.{logs_after_set, logs_after_push}

-- behind nothing
added_none : (o : Outcome Writes) → added [] o ≡ o
unfolding added
added_none (Value ws) = refl
added_none (Halts why) = refl

-- behind two
added_twice : (log us : Writes) (o : Outcome Writes)
    → added (log ++ us) o ≡ added log (and_then o (λ vs. Value (us ++ vs)))
unfolding added
added_twice log us (Value vs) = ap Value (append_assoc log us vs)
added_twice log us (Halts why) = refl

-- what follows a value
added_after : {A : Type 0} (log : Writes) (o : Outcome A) (g h : A → Outcome Writes) → ((a : A) → g a ≡ added log (h a))
    → and_then o g ≡ added log (and_then o h)
unfolding added
added_after log (Value a) g h same = same a
added_after log (Halts why) g h same = refl

-- one statement after another
seq_added : (log : Writes) (o p : Outcome Writes) (g : Writes → Outcome Writes)
    → ((us : Writes) → g us ≡ added us p)
    → and_then (added log o) g ≡ added log (and_then o (λ us. and_then p (λ vs. Value (us ++ vs))))
unfolding added
seq_added log (Value us) p g same = same (log ++ us) ∙ added_twice log us p
seq_added log (Halts why) p g same = refl

-- what follows a first part, behind its writes to others
part_added : (x : ℕ) (log : Writes) (o : Outcome Writes) (g b : Writes → Outcome Writes)
    → ((us : Writes) → g us ≡ added (log ++ without x us) (b us))
    → and_then o g ≡ added log (and_then o (λ us. and_then (b us) (λ vs. Value (without x us ++ vs))))
unfolding added
part_added x log (Value us) g b same = same us ∙ added_twice log (without x us) (b us)
part_added x log (Halts why) g b same = refl

-- each member
all_added : (g : Writes → Datum → Outcome Writes) (h : Datum → Outcome Writes)
    → ((log : Writes) (d : Datum) → g log d ≡ added log (h d)) → (log : Writes) (ds : List Datum)
    → all_logged g log ds ≡ added log (gather h ds)
unfolding added
all_added g h same log [] = sym (ap Value (append-nil log))
all_added g h same log (d ∷ ds) =
    ap (λ o. and_then o (λ all. all_logged g all ds)) (same log d)
    ∙ seq_added log (h d) (gather h ds) (λ all. all_logged g all ds) (λ us. all_added g h same us ds)

-- one of two statements
choice_added : (log : Writes) (t : Bool) (a b c d : Outcome Writes) → a ≡ added log c → b ≡ added log d
    → cond t a b ≡ added log (cond t c d)
choice_added log true a b c d p q = p
choice_added log false a b c d p q = q

-- by the side
side_added : (log : Writes) (g h j k : Datum → Outcome Writes) → ((d : Datum) → g d ≡ added log (j d))
    → ((d : Datum) → h d ≡ added log (k d)) → (v : Datum-F Datum) → side_at g h v ≡ added log (side_at j k v)
unfolding added
side_added log g h j k p q (Datum-F.Left d) = p d
side_added log g h j k p q (Datum-F.Right d) = q d
side_added log g h j k p q _ = refl

-- ---- statements

-- the log with what a statement writes
abbrev Adds : Logging → Meaning → Type 0
Adds l s = (f : Frame) (log : Writes) → l f log ≡ added log (s f)

adds_seq : (a b : Logging) (c d : Meaning) → Adds a c → Adds b d → (f : Frame) (log : Writes)
    → and_then (a f log) (b f) ≡ added log (seq_of c d f)
unfolding seq_of
adds_seq a b c d p q f log =
    ap (λ o. and_then o (b f)) (p f log) ∙ seq_added log (c f) (d f) (b f) (q f)

adds_with : (x : ℕ) (b : Logging) (d : Meaning) → Adds b d → (f : Frame) (log : Writes) (v : Datum)
    → logs_with x b f log v ≡ added log (reads_as x d f v)
unfolding reads_as
adds_with x b d q f log v = q ((x, Reads (Some v)) ∷ f) log

adds_for : (x : ℕ) (b : Logging) (d : Meaning) → Adds b d → (f : Frame) (log : Writes) (v : Datum)
    → logs_for x b f log v ≡ added log (for_of x d f v)
unfolding logs_for for_of
adds_for x b d q f log v =
    added_after log (as_coll v) (all_logged (logs_with x b f) log) (gather (reads_as x d f))
    (all_added (logs_with x b f) (reads_as x d f) (adds_with x b d q f) log)

-- the writes of a first part, which stand behind none
first_part : (x : ℕ) (class : Class) (a : Logging) (c : Meaning) → Adds a c → (f : Frame)
    → a ((x, class) ∷ f) [] ≡ c ((x, class) ∷ f)
first_part x class a c p f = p ((x, class) ∷ f) [] ∙ added_none (c ((x, class) ∷ f))

adds_set : (x : ℕ) (a b : Logging) (c d : Meaning) → Adds a c → Adds b d → (f : Frame) (log : Writes)
    → and_then (a ((x, Sets) ∷ f) []) (logs_after_set x b f log) ≡ added log (handed_on x Sets last_of c d f)
unfolding handed_on
adds_set x a b c d p q f log =
    rw (first_part x Sets a c p f) (part_added x log (c ((x, Sets) ∷ f)) (logs_after_set x b f log)
    (λ us. d ((x, Reads (last_of (written x us))) ∷ f))
    (λ us. q ((x, Reads (last_of (written x us))) ∷ f) (log ++ without x us)))

adds_pushed : (x : ℕ) (a b : Logging) (c d : Meaning) → Adds a c → Adds b d → (f : Frame) (log : Writes)
    → and_then (a ((x, Pushes) ∷ f) []) (logs_after_push x b f log)
    ≡ added log (handed_on x Pushes (λ ds. Some (Coll ds)) c d f)
unfolding handed_on
adds_pushed x a b c d p q f log =
    rw (first_part x Pushes a c p f) (part_added x log (c ((x, Pushes) ∷ f)) (logs_after_push x b f log)
    (λ us. d ((x, Reads (Some (Coll (written x us)))) ∷ f))
    (λ us. q ((x, Reads (Some (Coll (written x us)))) ∷ f) (log ++ without x us)))

module _ (m : Mode) (w : WorldOf) where
  abbrev log_of : NnrsStmt → Logging
  log_of s = logged m w s

  abbrev write_of : NnrsStmt → Meaning
  write_of s = stmt m w s

  abbrev Of : NnrsStmt → Type 0
  Of s = Adds (log_of s) (write_of s)

  layer : (x : NnrsStmt-F NnrsStmt) → HeldStmt Of x
      → Adds (log_form m w (map-NnrsStmt NnrsStmt Logging log_of x))
      (form m w (map-NnrsStmt NnrsStmt Meaning write_of x))
  layer (NnrsStmt-F.Seq a b) h f log = adds_seq (log_of a) (log_of b) (write_of a) (write_of b) h.0 h.1 f log
  layer (NnrsStmt-F.Let x e b) h f log =
      added_after log (expr m w e f) _ _ (adds_with x (log_of b) (write_of b) h f log)
  layer (NnrsStmt-F.LetMut x a b) h f log =
      adds_set x (log_of a) (log_of b) (write_of a) (write_of b) h.0 h.1 f log
  layer (NnrsStmt-F.LetColl x a b) h f log =
      adds_pushed x (log_of a) (log_of b) (write_of a) (write_of b) h.0 h.1 f log
  layer (NnrsStmt-F.Set x e) h f log = added_after log (expr m w e f) _ _ (λ d. refl)
  layer (NnrsStmt-F.Push x e) h f log = added_after log (expr m w e f) _ _ (λ d. refl)
  layer (NnrsStmt-F.For x e b) h f log =
      added_after log (expr m w e f) _ _ (adds_for x (log_of b) (write_of b) h f log)
  layer (NnrsStmt-F.If e a b) h f log =
      added_after log (truth (expr m w e f)) _ _
      (λ holds. choice_added log holds _ _ (write_of a f) (write_of b f) (h.0 f log) (h.1 f log))
  layer (NnrsStmt-F.Either e x a y b) h f log =
      added_after log (expr m w e f) _ _
      (λ v. side_added log _ _ _ _ (adds_with x (log_of a) (write_of a) h.0 f log)
      (adds_with y (log_of b) (write_of b) h.1 f log) (out-Datum v))

  of_layer : (x : NnrsStmt-F NnrsStmt) → HeldStmt Of x → Of (roll-NnrsStmt x)
  of_layer x h f log =
      let logs : log_of (roll-NnrsStmt x) ≡ log_form m w (map-NnrsStmt NnrsStmt Logging log_of x) =
      fold-roll-NnrsStmt Logging (log_form m w) x in
      let writes : write_of (roll-NnrsStmt x) ≡ form m w (map-NnrsStmt NnrsStmt Meaning write_of x) =
      fold-roll-NnrsStmt Meaning (form m w) x in
      rw (logs, writes) (layer x h f log)

  logged_is : (s : NnrsStmt) → Of s
  logged_is = stmt_ind Of of_layer

  -- what a statement writes is what it makes of no writes
  pub stmt_is : (s : NnrsStmt) (f : Frame) → stmt m w s f ≡ logged m w s f []
  stmt_is s f = sym (logged_is s f [] ∙ added_none (stmt m w s f))
