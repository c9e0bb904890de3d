-- How an ending reaches the outputs and the status.
use Rattle.std.specs.Prelude.{◌≡◌, ◌⊎◌, ℕ, List, [], ◌∷◌, ◌++◌, Option, Result, Ok, Err, codes}
use Rattle.std.specs.Io.KnownBytes.{append_known}
use Rattle.qc_io.specs.Device.{AppendsFront, Rose}
use Rattle.qc_work.specs.Refusals.{refusal_text, status_of}
use Rattle.qc_work.specs.declared.refusal.Refusal.{Refusal}
use Rattle.qc_work.specs.declared.refusal.Refusal.TheVariants.{WriteFault, Memory}

-- the line that tells of a refusal, with its line feed
abbrev pub fault_line : Refusal → List ℕ
fault_line refusal = codes "qcert: " ++ refusal_text refusal ++ 10 ∷ []

-- ---- what was put

-- the bytes that an output has and had, where they are told, and its counts of faults before and after
pub record Put : Type 0 where
  pub old : Option (List ℕ)
  pub new : Option (List ℕ)
  pub faults_old : ℕ
  pub faults_new : ℕ

-- what was put into an output between two of its states
abbrev pub put : {O : Type 0} → (O → Option (List ℕ)) → (O → ℕ) → O → O → Put
put written faults old new = record {
  old = written old;
  new = written new;
  faults_old = faults old;
  faults_new = faults new;
}

-- the output failed
abbrev pub OutputFailed : Put → Type 0
OutputFailed output = Rose output.faults_old output.faults_new

-- the bytes were added, or a front of them where the output failed
abbrev pub IsPut : Option (List ℕ) → Option (List ℕ) → Type 0 → List ℕ → Type 0
IsPut old new failed bytes = (new ≡ append_known old bytes) ⊎ (failed × AppendsFront old new bytes)

-- the fault line was put
abbrev pub Complains : Put → Refusal → Type 0
Complains err refusal = IsPut err.old err.new (OutputFailed err) (fault_line refusal)

-- the text was put whole
pub record IsWhole (out err : Put) (status : ℕ) (text : List ℕ) : Type 0 where
  pub is_status : status ≡ 0
  pub added : out.new ≡ append_known out.old text
  pub still : err.new ≡ err.old

-- a front of the text was put, since the output failed
pub record IsCutShort (out err : Put) (status : ℕ) (text : List ℕ) : Type 0 where
  pub is_status : status ≡ status_of WriteFault
  pub failed : OutputFailed out
  pub front : AppendsFront out.old out.new text
  pub complaint : Complains err WriteFault

-- nothing was put into the output, and the fault line told of the refusal
pub record IsRefused (out err : Put) (status : ℕ) (refusal : Refusal) : Type 0 where
  pub is_status : status ≡ status_of refusal
  pub still : out.new ≡ out.old
  pub complaint : Complains err refusal

-- it was refused for this, or for want of memory
abbrev pub IsRefusedFor : Put → Put → ℕ → Refusal → Type 0
IsRefusedFor out err status due = IsRefused out err status due ⊎ IsRefused out err status Memory

-- what the ending did to the outputs and to the status
abbrev pub IsDelivered : Result (List ℕ) Refusal → Put → Put → ℕ → Type 0
IsDelivered (Ok text) out err status = IsWhole out err status text ⊎ IsCutShort out err status text
IsDelivered (Err refusal) out err status = IsRefused out err status refusal
