-- What follows of a call of the program.
use Rattle.std.proofs.Common.{◌≡◌, ◌⊎◌, inl, inr, sym, ◌∙◌, ap, subst, ℕ, List, [], Option, Some, None, Result, Ok, Err}
use Rattle.std.proofs.lemmas.List.{append-nil}
use Rattle.qc_io.specs.Device.{Texts}
use Rattle.qc_work.specs.declared.refusal.Refusal.{Refusal}
use Rattle.qc_work.specs.declared.refusal.Refusal.TheVariants.{Usage, ReadFault, TooLong, BadSchema, BadScan}
use Rattle.qc_work.specs.declared.refusal.Refusal.TheVariants.{TooManyTokens, BadSyntax, BadType, BadInput, BadJs}
use Rattle.qc_work.specs.declared.refusal.Refusal.TheVariants.{Range, Stuck, WriteFault, Memory}
use Rattle.std.specs.Io.KnownBytes.{append_known}
use Rattle.std.specs.Prelude.{IsOk}
use Rattle.qc_work.specs.Refusals.{status_of}
use Rattle.qc_work.specs.Work.{IsTextFor}
use Rattle.qcert.specs.Delivery.{Put, OutputFailed, IsDelivered, IsRefusedFor}
use Rattle.qcert.specs.Jobs.{Subject, Job, Compile, job_of}
use Rattle.qcert.specs.Ran.{IsEnding, no_job, of_job, Ran, AskedFor, HasAskedFor, nothing, its_files}
use Rattle.qcert.specs.Ran.{IsServed, IsCompiled, IsServable, IsDue}
use Rattle.qcert.specs.Ran as ran
use Rattle.qcert.specs.Fetching.{read, files_of, act, serve}
use Rattle.qcert.specs.Steps.{Names, Visit, HasFailed, MayEnd, Ended}
use Rattle.qcert.proofs.JobLaws.{reads_good, serve_lawful, serve_asks, clear_work}
use Rattle.qcert.proofs.StepLaws.{IsFront, complete as completed, refused as refused_for}

-- ---- the words have one job

no_clash : (words : List (List ℕ)) (job : Job) → job_of words ≡ None → job_of words ≡ Some job → ⊥
no_clash words job e f = cc

one_job : (words : List (List ℕ)) (a b : Job) → job_of words ≡ Some a → job_of words ≡ Some b → a ≡ b
one_job words a b e f = cc

no_text : (text : List ℕ) → Ok text ≡ Err Usage → ⊥
no_text text e = cc

-- no refusal has the status of success
fails : (r : Refusal) → status_of r ≡ 0 → ⊥
fails Usage e = cc
fails (ReadFault file) e = cc
fails (TooLong file) e = cc
fails BadSchema e = cc
fails (BadScan file at) e = cc
fails TooManyTokens e = cc
fails (BadSyntax at) e = cc
fails (BadType at) e = cc
fails BadInput e = cc
fails BadJs e = cc
fails Range e = cc
fails Stuck e = cc
fails WriteFault e = cc
fails Memory e = cc

module _ (words : List (List ℕ)) (shelf : Visit) (out err : Put) (status : ℕ) where
  abbrev Ending : Type 0
  Ending = Result (List ℕ) Refusal

  -- ---- at status 0

  served_text : (text : List ℕ) → IsEnding words shelf (Ok text) → out.new ≡ append_known out.old text
      → IsServed words shelf.texts out
  served_text text (no_job none still e) added = absurd (no_text text e)
  served_text text (of_job job e a) added = record {
    job = job;
    is_job = e;
    work = a.ends.0.0;
    is_work = a.ends.0.1;
    text = text;
    given = a.ends.0.2.0;
    added = added;
  }

  served_from : (ending : Ending) → IsEnding words shelf ending → IsDelivered ending out err status → status ≡ 0
      → IsServed words shelf.texts out
  served_from (Ok text) a (inl d) z = served_text text a d.added
  served_from (Ok text) a (inr d) z = absurd (fails WriteFault (sym d.is_status ∙ z))
  served_from (Err r) a d z = absurd (fails r (sym d.is_status ∙ z))

  -- the output is what the job's work gives
  pub served : Ran words shelf out err status → status ≡ 0 → IsServed words shelf.texts out
  served r = served_from r.ending r.is_ending r.delivered

  compiled_text : (subject : Subject) (s : IsServed words shelf.texts out) → s.job ≡ Compile subject
      → IsCompiled subject shelf.texts out
  compiled_text subject s e =
      let found = subst (λ (j : Job). (read j).accepts shelf.texts s.work) e s.is_work in
      let given = subst (λ w. IsTextFor w s.text) found.2 s.given in
      record { checked = found.0; is_checked = found.1; text = s.text; right = given; added = s.added }

  -- a text of JavaScript is right
  pub compiled : Ran words shelf out err status → (subject : Subject) → status ≡ 0
      → job_of words ≡ Some (Compile subject) → IsCompiled subject shelf.texts out
  compiled r subject z is =
      let s = served r z in
      compiled_text subject s (one_job words s.job (Compile subject) s.is_job is)

  -- ---- what was asked for

  front_asked : (job : Job) (ending : Ending) (names : Names)
      → MayEnd (serve job) shelf.texts (HasFailed shelf) ending names → IsFront (files_of job) names
  front_asked job (Ok text) names u =
      let all = (serve_asks job).whole shelf.texts text names u.1 in
      record { others = []; joined = sym all ∙ sym (append-nil names) }
  front_asked job (Err r) names u = (serve_asks job).until shelf.texts (HasFailed shelf) r names u

  all_asked : (job : Job) (ending : Ending) (names : Names)
      → MayEnd (serve job) shelf.texts (HasFailed shelf) ending names → IsOk ending → names ≡ files_of job
  all_asked job (Ok text) names u ok = (serve_asks job).whole shelf.texts text names u.1
  all_asked job (Err r) names u ok = absurd (cc)

  asked_for : (job : Job) (ending : Ending) → Ended (serve job) shelf (HasFailed shelf) ending
      → AskedFor job shelf ending
  asked_for job ending a =
      let front = front_asked job ending a.names a.ends in
      record {
        names = a.names;
        others = front.others;
        files = front.joined;
        all = all_asked job ending a.names a.ends;
        until = a.ends;
        asked = a.asked;
      }

  asked_from : (ending : Ending) → IsEnding words shelf ending → IsDelivered ending out err status
      → HasAskedFor words shelf out err status
  asked_from ending (no_job none still e) d = nothing none still
  asked_from ending (of_job job e a) d = its_files job e ending d (asked_for job ending a)

  pub asked : Ran words shelf out err status → HasAskedFor words shelf out err status
  asked r = asked_from r.ending r.is_ending r.delivered

  -- ---- refusals

  module _ (sound : ¬ HasFailed shelf) where
    told_end : (text_of : Texts) (job other : Job) (ending : Ending) (names : Names) → shelf.texts ≡ Some text_of
        → other ≡ job → MayEnd (serve other) shelf.texts (HasFailed shelf) ending names
        → MayEnd (serve job) (Some text_of) (HasFailed shelf) ending names
    told_end text_of job other ending names told is u =
        subst (λ (t : Option Texts). MayEnd (serve job) t (HasFailed shelf) ending names) told
        (subst (λ (j : Job). MayEnd (serve j) shelf.texts (HasFailed shelf) ending names) is u)

    only_ending : (due : Refusal) → IsDue words shelf.texts due → (ending : Ending) → IsEnding words shelf ending
        → (ending ≡ Err due) ⊎ (ending ≡ Err Memory)
    only_ending due (ran.IsDue.no_job none e) ending (no_job also still f) =
        inl (f ∙ ap (λ (r : Refusal). Err r) (sym e))
    only_ending due (ran.IsDue.no_job none e) ending (of_job job f a) = absurd (no_clash words job none f)
    only_ending due (ran.IsDue.of_job text_of told job e m) ending (no_job none still f) =
        absurd (no_clash words job none e)
    only_ending due (ran.IsDue.of_job text_of told job e m) ending (of_job other f a) =
        refused_for text_of (HasFailed shelf) sound (serve job) (serve_lawful text_of job) due ending a.names m
        (told_end text_of job other ending a.names told (one_job words other job f e) a.ends)

    refused_from : (due : Refusal) (ending : Ending) → (ending ≡ Err due) ⊎ (ending ≡ Err Memory)
        → IsDelivered ending out err status → IsRefusedFor out err status due
    refused_from due ending (inl e) d = inl (subst (λ (x : Ending). IsDelivered x out err status) e d)
    refused_from due ending (inr e) d = inr (subst (λ (x : Ending). IsDelivered x out err status) e d)

    -- a refusal with its cause comes, or want of memory
    pub refused : Ran words shelf out err status → (due : Refusal) → IsDue words shelf.texts due
        → IsRefusedFor out err status due
    refused r due d = refused_from due r.ending (only_ending due d r.ending r.is_ending) r.delivered

    -- ---- completeness

    memory_only : IsServable words shelf.texts → (r : Refusal) → IsEnding words shelf (Err r) → r ≡ Memory
    memory_only s r (no_job none still e) = absurd (no_clash words s.job none s.is_job)
    memory_only s r (of_job other f a) =
        completed s.text_of (HasFailed shelf) sound (read s.job) act
        (reads_good s.text_of s.job) s.work r a.names s.is_work
        (clear_work s.work s.clear (Some s.text_of) (HasFailed shelf))
        (told_end s.text_of s.job other (Err r) a.names s.told (one_job words other s.job f s.is_job) a.ends)

    complete_from : IsServable words shelf.texts → ¬ OutputFailed out → (ending : Ending) → IsEnding words shelf ending
        → IsDelivered ending out err status → (status ≡ 0) ⊎ (status ≡ 5)
    complete_from s out_sound (Ok text) a (inl d) = inl d.is_status
    complete_from s out_sound (Ok text) a (inr d) = absurd (out_sound d.failed)
    complete_from s out_sound (Err r) a d = inr (d.is_status ∙ ap status_of (memory_only s r a))

    -- a job that can be served is, or memory was wanting
    pub complete : Ran words shelf out err status → IsServable words shelf.texts → ¬ OutputFailed out
        → (status ≡ 0) ⊎ (status ≡ 5)
    complete r s out_sound = complete_from s out_sound r.ending r.is_ending r.delivered
