-- What a call of the program did.
use Rattle.std.specs.Prelude.{◌≡◌, ℕ, List, ◌++◌, Option, Some, None, Result, Err, IsOk}
use Rattle.std.specs.Io.KnownBytes.{append_known}
use Rattle.qc_data.specs.Outcome.{bits64}
use Rattle.qc_io.specs.Device.{Texts, HasAsked}
use Rattle.qc_work.specs.declared.refusal.Refusal.{Refusal}
use Rattle.qc_work.specs.declared.refusal.Refusal.TheVariants.{Usage}
use Rattle.qc_work.specs.declared.sources.Checked.{Checked}
use Rattle.qc_work.specs.Right.{IsRight}
use Rattle.qc_work.specs.Sources.{meaning_of}
use Rattle.qc_work.specs.Work.{Work, IsTextFor, IsClear}
use Rattle.qcert.specs.Delivery.{Put, IsDelivered}
use Rattle.qcert.specs.Jobs.{Subject, Job, job_of}
use Rattle.qcert.specs.Fetching.{checked_in, read, files_of, serve}
use Rattle.qcert.specs.Steps.{Names, Visit, HasFailed, MayEnd, Ended}

-- the words may end so: without a job nothing is asked for, and a job is served
pub data IsEnding (words : List (List ℕ)) (shelf : Visit) (ending : Result (List ℕ) Refusal) : Type 0 where
  no_job : job_of words ≡ None → shelf.asked_new ≡ shelf.asked_old → ending ≡ Err Usage → IsEnding words shelf ending
  of_job : (job : Job) → job_of words ≡ Some job → Ended (serve job) shelf (HasFailed shelf) ending
      → IsEnding words shelf ending

-- an ending that the words may have was delivered
pub record Ran (words : List (List ℕ)) (shelf : Visit) (out err : Put) (status : ℕ) : Type 0 where
  pub ending : Result (List ℕ) Refusal
  pub is_ending : IsEnding words shelf ending
  pub delivered : IsDelivered ending out err status

-- the shelf was asked for these of the job's files, in order, and for no others: for all of them where the job ended
-- with a text, and else for those up to the step that was refused
pub record AskedFor (job : Job) (shelf : Visit) (ending : Result (List ℕ) Refusal) : Type 0 where
  pub names : Names
  pub others : Names
  pub files : files_of job ≡ names ++ others
  pub all : IsOk ending → names ≡ files_of job
  pub until : MayEnd (serve job) shelf.texts (HasFailed shelf) ending names
  pub asked : HasAsked shelf.asked_old shelf.asked_new names

-- without a job the shelf was asked for nothing, and else for the job's files until it ended, as was delivered
pub data HasAskedFor (words : List (List ℕ)) (shelf : Visit) (out err : Put) (status : ℕ) : Type 0 where
  nothing : job_of words ≡ None → shelf.asked_new ≡ shelf.asked_old → HasAskedFor words shelf out err status
  its_files : (job : Job) → job_of words ≡ Some job → (ending : Result (List ℕ) Refusal)
      → IsDelivered ending out err status → AskedFor job shelf ending → HasAskedFor words shelf out err status

-- the words ask for a job, its files were read, and what was added to the output is what its work gives
pub record IsServed (words : List (List ℕ)) (texts : Option Texts) (out : Put) : Type 0 where
  pub job : Job
  pub is_job : job_of words ≡ Some job
  pub work : Work
  pub is_work : (read job).accepts texts work
  pub text : List ℕ
  pub given : IsTextFor work text
  pub added : out.new ≡ append_known out.old text

-- what was added to the output is right for the subject's query, in every world of the subject's schema
pub record IsCompiled (subject : Subject) (texts : Option Texts) (out : Put) : Type 0 where
  pub checked : Checked
  pub is_checked : (checked_in subject).accepts texts checked
  pub text : List ℕ
  pub right : IsRight bits64 checked.schema (meaning_of checked.query) text
  pub added : out.new ≡ append_known out.old text

-- texts are told, the words ask for a job whose files they have, and there is no cause to refuse its work
pub record IsServable (words : List (List ℕ)) (texts : Option Texts) : Type 0 where
  pub text_of : Texts
  pub told : texts ≡ Some text_of
  pub job : Job
  pub is_job : job_of words ≡ Some job
  pub work : Work
  pub is_work : (read job).accepts (Some text_of) work
  pub clear : IsClear work

-- the words are no job, or texts are told and the job must be refused for this
pub data IsDue (words : List (List ℕ)) (texts : Option Texts) (due : Refusal) : Type 0 where
  no_job : job_of words ≡ None → due ≡ Usage → IsDue words texts due
  of_job : (text_of : Texts) → texts ≡ Some text_of → (job : Job) → job_of words ≡ Some job
      → (serve job).must (Some text_of) due → IsDue words texts due
