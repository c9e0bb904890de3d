-- The files of a job, as steps.
use Rattle.std.specs.Prelude.{◌≡◌, ◌⊎◌, ℕ, List, [], ◌∷◌, Option}
use Rattle.qc_io.specs.Device.{Texts, IsText, IsTooLong, IsMissing}
use Rattle.qc_work.specs.declared.refusal.File.{File}
use Rattle.qc_work.specs.declared.refusal.File.TheVariants.{Schema, Query, Input, Script}
use Rattle.qc_work.specs.declared.refusal.Refusal.{Refusal}
use Rattle.qc_work.specs.declared.refusal.Refusal.TheVariants.{ReadFault, TooLong, Memory}
use Rattle.qcert.specs.Steps.{Step, firm, then}

-- the most bytes of a file
abbrev pub most_of : File → ℕ
most_of Schema = 1048576
most_of Query = 65536
most_of Input = 16777216
most_of Script = 16777216

-- the shelf has no text of this name, or it is too long
abbrev pub HasNoText : Option Texts → File → List ℕ → Refusal → Type 0
HasNoText texts file name r = ((r ≡ ReadFault file) × IsMissing texts name)
    ⊎ ((r ≡ TooLong file) × (got : List ℕ) × IsTooLong texts name (most_of file) got)

-- the text of the file of this name, within the file's limit
abbrev pub fetch : File → List ℕ → Step (List ℕ)
fetch file name = record {
  accepts = λ texts bytes. IsText texts name (most_of file) bytes;
  asks = λ texts bytes names. names ≡ name ∷ [];
  must = λ texts r. HasNoText texts file name r;
  may = λ texts failed r names.
      (HasNoText texts file name r ⊎ ((r ≡ ReadFault file) × failed) ⊎ (r ≡ Memory)) × (names ≡ name ∷ []);
}

-- what the text of the file of this name means, or why it means nothing
abbrev pub read_as : {A : Type 0} → (List ℕ → A → Type 0) → (List ℕ → Refusal → Type 0) → File → List ℕ → Step A
read_as Means IsBad file name = then (fetch file name) (λ bytes. firm (Means bytes) (IsBad bytes))
