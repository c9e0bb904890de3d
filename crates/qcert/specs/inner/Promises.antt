-- What the functions of a job promise each other.
use Rattle.std.specs.Prelude.{◌≤◌, ℕ, Result}
use Rattle.qc_io.specs.Device.{Rose}
use Rattle.qc_work.specs.declared.refusal.Refusal.{Refusal}
use Rattle.qcert.specs.Steps.{Step, Visit, Ended}

-- the step ended so, also where it is told of counts of faults from earlier and later
abbrev pub Stage : {A : Type 0} → Step A → Visit → Result A Refusal → Type 0
Stage s v ending =
    (before after : ℕ) → before ≤ v.faults_old → v.faults_new ≤ after → Ended s v (Rose before after) ending
