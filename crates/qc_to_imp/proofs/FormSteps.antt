-- Each form of a statement and of its program, by those of their parts.
use Rattle.std.proofs.Common.{◌≡◌, ℕ, ◌+◌, Bool, cond, [], ◌∷◌, Option, Some, None, refl, ap}
use Rattle.qc_data.specs.Kinds.{as_coll}
use Rattle.qc_data.specs.Outcome.{Outcome, Value, and_then, gather}
use Rattle.qc_data.specs.declared.data.Datum.{Datum}
use Rattle.qc_data.specs.declared.data.Datum.TheVariants as datum
use Rattle.qc_data.proofs.Outcomes.{kept_same}
use Rattle.qc_nnrs.specs.Meaning as source
use Rattle.qc_nnrs.specs.Meaning.{Reads, Sets, Pushes, Frame, Writes, last_of, reads_as, seq_of, handed_on, for_of}
use Rattle.qc_imp.specs.Meaning as target
use Rattle.qc_imp.specs.Meaning.{Settable, Constant, Collecting, Store, outer, newest_done, all_of, scoped, collected}
use Rattle.qc_imp.specs.Meaning.{with_constant, for_each}
use Rattle.qc_to_imp.specs.inner.Numbering.{Numbers}
use Rattle.qc_to_imp.proofs.Frames.{Holds, holds_under, holds_after}
use Rattle.qc_to_imp.proofs.StatementSteps.{Done, Runs, First, done_to, done_then, done_seq, done_choice, done_last}
use Rattle.qc_to_imp.proofs.StatementSteps.{done_scoped, loop_done, set_first, pushed_first, handed_done}
use Rattle.qc_to_imp.proofs.Stores.{after}

module _ (g : Frame) (r : Numbers) (n : ℕ) (st : Store) (h : Holds g r n st) where
  -- one after the other
  pub seq_done : (a b : source.Meaning) (p q : target.Meaning) → Runs g r n a p → Runs g r n b q
      → Done g r st (seq_of a b g) (scoped (all_of (p ∷ q ∷ [])) st)
  unfolding seq_of scoped
  seq_done a b p q k l =
      done_scoped g r st (seq_of a b g) (and_then (p st) (all_of (q ∷ [])))
      (done_seq g r st (a g) (p st) (b g) (all_of (q ∷ [])) (k st h) (λ us w.
      done_last g r (after r us st) (b g) (q (after r us st)) (l (after r us st) (holds_after g r n us st h w))))

  -- a variable that is set in the first part and read in the second
  pub assigned_done : (x : ℕ) (a b : source.Meaning) (v p q : target.Meaning) → v st ≡ Value ((n, Settable None) ∷ st)
      → Runs ((x, Sets) ∷ g) ((x, n) ∷ r) (n + 1) a p
      → ((o : Option Datum) → Runs ((x, Reads o) ∷ g) ((x, n) ∷ r) (n + 1) b q)
      → Done g r st (handed_on x Sets last_of a b g) (scoped (all_of (v ∷ p ∷ q ∷ [])) st)
  unfolding handed_on scoped
  assigned_done x a b v p q is k l =
      let begun : Store = (n, Settable None) ∷ st in
      let part : First g r n st x Sets (λ ds. Settable (last_of ds)) (a ((x, Sets) ∷ g)) (p begun) =
      set_first g r n st x (a ((x, Sets) ∷ g)) (p begun) h.below
      (k begun (holds_under g r n st x Sets (Settable None) h (None, refl))) in
      done_to g r st (handed_on x Sets last_of a b g)
      (and_then (and_then (p begun) (all_of (q ∷ []))) (λ t. Value (outer st t)))
      (scoped (all_of (v ∷ p ∷ q ∷ [])) st)
      (ap (λ (o : Outcome Store). and_then (and_then o (all_of (p ∷ q ∷ []))) (λ t. Value (outer st t))) is)
      (handed_done g r n st x Sets (λ ds. Settable (last_of ds)) last_of (a ((x, Sets) ∷ g)) (p begun) b q h
      (λ ds. refl) part l)

  -- a variable that is pushed to in the first part and read in the second
  pub collected_done : (x : ℕ) (a b : source.Meaning) (v p q : target.Meaning)
      → v st ≡ collected n (all_of (p ∷ [])) st → Runs ((x, Pushes) ∷ g) ((x, n) ∷ r) (n + 1) a p
      → ((o : Option Datum) → Runs ((x, Reads o) ∷ g) ((x, n) ∷ r) (n + 1) b q)
      → Done g r st (handed_on x Pushes (λ ds. Some (datum.Coll ds)) a b g) (scoped (all_of (v ∷ q ∷ [])) st)
  unfolding handed_on scoped collected
  collected_done x a b v p q is k l =
      let begun : Store = (n, Collecting []) ∷ st in
      let pushed : Outcome Writes = a ((x, Pushes) ∷ g) in
      let ended : Outcome Store = and_then (and_then (p begun) (all_of [])) (λ t. Value (outer begun t)) in
      let part : First g r n st x Pushes (λ ds. Constant (datum.Coll ds)) pushed
      (and_then ended (λ t. Value (newest_done t))) =
      pushed_first g r n st x pushed ended h.below
      (done_scoped ((x, Pushes) ∷ g) ((x, n) ∷ r) begun pushed (and_then (p begun) (all_of []))
      (done_last ((x, Pushes) ∷ g) ((x, n) ∷ r) begun pushed (p begun)
      (k begun (holds_under g r n st x Pushes (Collecting []) h ([], refl))))) in
      done_to g r st (handed_on x Pushes (λ ds. Some (datum.Coll ds)) a b g)
      (and_then (and_then (and_then ended (λ t. Value (newest_done t))) (all_of (q ∷ []))) (λ t. Value (outer st t)))
      (scoped (all_of (v ∷ q ∷ [])) st)
      (ap (λ (o : Outcome Store). and_then (and_then o (all_of (q ∷ []))) (λ t. Value (outer st t))) is)
      (handed_done g r n st x Pushes (λ ds. Constant (datum.Coll ds)) (λ ds. Some (datum.Coll ds)) pushed
      (and_then ended (λ t. Value (newest_done t))) b q h (λ ds. refl) part l)

  -- a choice of two statements
  pub choice_done : (holds : Bool) (a b : source.Meaning) (p q : target.Meaning) → Runs g r n a p → Runs g r n b q
      → Done g r st (cond holds (a g) (b g)) (cond holds (scoped p st) (scoped q st))
  unfolding scoped
  choice_done holds a b p q k l =
      done_choice g r st holds (a g) (b g) (scoped p st) (scoped q st) (done_scoped g r st (a g) (p st) (k st h))
      (done_scoped g r st (b g) (q st) (l st h))

  -- a loop over the members of a value
  pub for_done : (x : ℕ) (v : Datum) (a : source.Meaning) (b : target.Meaning)
      → ((d : Datum) → Runs ((x, Reads (Some d)) ∷ g) ((x, n) ∷ r) (n + 1) a b)
      → Done g r st (for_of x a g v) (and_then (as_coll v) (λ ds. for_each (with_constant n b) ds st))
  unfolding for_of
  for_done x v a b k =
      done_then g r st (as_coll v) (as_coll v) (gather (reads_as x a g)) (λ ds. for_each (with_constant n b) ds st)
      (kept_same (as_coll v)) (λ ds. loop_done g r n x a b k ds st h)
