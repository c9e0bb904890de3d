-- Jobs, and the words that ask for them.
use Rattle.std.specs.Prelude.{ℕ, List, [], ◌∷◌, Option, Some, None, Bool, true, false, if◌then◌else◌, ◌&&◌, ◌||◌, not}
use Rattle.std.specs.Prelude.{codes, is_some, option_map, option_and_then}
use Rattle.std.specs.Option.{option_copied}
use Rattle.std.specs.Str.{bytes_eq}
use Rattle.qc_work.specs.declared.sources.Source.{Source}
use Rattle.qc_work.specs.declared.sources.Source.TheVariants.{Oql}
use Rattle.qcert.specs.declared.job.Action.{Action}
use Rattle.qcert.specs.declared.job.Action.TheVariants as action
use Rattle.qcert.specs.declared.job.Job.{Job as HeldJob}
use Rattle.qcert.specs.declared.job.Job.TheVariants as held
use Rattle.qcert.specs.declared.job.Subject.{Subject as HeldSubject}

-- the query in the file of this name, and the file of its schema, if one is named
pub record Subject : Type 0 where
  pub source : Source
  pub query : List ℕ
  pub schema : Option (List ℕ)

-- an action with the files that it needs
pub data Job : Type 0 where
  Check : (subject : Subject) → Job
  Compile : (subject : Subject) → Job
  Run : (subject : Subject) (input : Option (List ℕ)) → Job
  Exec : (script : List ℕ) (input : Option (List ℕ)) → Job

-- a word of a call, by its bytes
abbrev pub Word : Type 0
Word = List ℕ

-- ---- what is seen of the job that code holds

abbrev pub subject_seen : HeldSubject → Subject
subject_seen s = record { source = s.source; query = s.query.now; schema = option_copied s.schema }

abbrev pub job_seen : HeldJob → Job
job_seen (held.Check subject) = Check (subject_seen subject)
job_seen (held.Compile subject) = Compile (subject_seen subject)
job_seen (held.Run subject input) = Run (subject_seen subject) (option_copied input)
job_seen (held.Exec script input) = Exec script.now (option_copied input)

-- ---- words

-- the source of a word
abbrev pub source_of : Word → Option Source
source_of word = if bytes_eq word (codes "oql") then Some Oql else None

-- what stands behind a name, in words that are names with their values
abbrev pub value_at : Word → List Word → Option Word
value_at name (key ∷ value ∷ words) = if bytes_eq key name then Some value else value_at name words
value_at name words = None

abbrev pub is_among : Word → List Word → Bool
is_among word [] = false
is_among word (name ∷ names) = bytes_eq word name || is_among word names

-- the word is one of the names, and no name in the words that follow
abbrev pub is_new : Word → List Word → List Word → Bool
is_new key names words = is_among key names && not (is_some (value_at key words))

-- the words are some of these names, in any order, each once and with its value, which may be any word
abbrev pub are_options : List Word → List Word → Bool
are_options names [] = true
are_options names (key ∷ value ∷ words) =
    if is_new key names words then are_options names words else false
are_options names (word ∷ []) = false

-- ---- actions, a line each

-- the action of a word
abbrev pub action_of : Word → Option Action
action_of word =
    if bytes_eq word (codes "check") then Some action.Check
    else if bytes_eq word (codes "compile") then Some action.Compile
    else if bytes_eq word (codes "run") then Some action.Run
    else if bytes_eq word (codes "exec") then Some action.Exec
    else None

-- the options that it takes
abbrev pub takes : Action → List Word
takes action.Check = codes "--source" ∷ codes "--query" ∷ codes "--schema" ∷ []
takes action.Compile = codes "--source" ∷ codes "--query" ∷ codes "--schema" ∷ []
takes action.Run = codes "--source" ∷ codes "--query" ∷ codes "--schema" ∷ codes "--input" ∷ []
takes action.Exec = codes "--script" ∷ codes "--input" ∷ []

-- the query that options name: its source and its file are needed
abbrev pub subject_in : List Word → Option Subject
subject_in words =
    option_and_then (λ source. option_map (λ query.
    record { source = source; query = query; schema = value_at (codes "--schema") words })
    (value_at (codes "--query") words)) (option_and_then source_of (value_at (codes "--source") words))

-- the job of an action with its options, where those that are needed are among them
abbrev pub job_on : Action → List Word → Option Job
job_on action.Check words = option_map Check (subject_in words)
job_on action.Compile words = option_map Compile (subject_in words)
job_on action.Run words = option_map (λ subject. Run subject (value_at (codes "--input") words)) (subject_in words)
job_on action.Exec words =
    option_map (λ script. Exec script (value_at (codes "--input") words)) (value_at (codes "--script") words)

-- the job of the words, of which the first is the program's name and the second an action's word
abbrev pub job_of : List Word → Option Job
job_of (program ∷ word ∷ words) =
    option_and_then (λ a. if are_options (takes a) words then job_on a words else None) (action_of word)
job_of words = None
