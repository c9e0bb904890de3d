-- Records of fields that may repeat a name, from the last field on.
use Rattle.std.proofs.Common.{◌≡◌, ℕ, List, [], ◌∷◌, ◌++◌, refl, ap}
use Rattle.qc_data.specs.declared.data.Datum.{Datum}
use Rattle.qc_ops.specs.Records.{put_new}
use Rattle.qc_oql_tree.specs.FormMeanings.{record_of}

-- the fields before those that are put
abbrev pub record_onto : List (List ℕ × Datum) → List (List ℕ × Datum) → List (List ℕ × Datum)
record_onto [] done = done
record_onto (f ∷ fs) done = put_new f.0 f.1 (record_onto fs done)

pub record_onto_none : (fs : List (List ℕ × Datum)) → record_onto fs [] ≡ record_of fs
record_onto_none [] = refl
record_onto_none (f ∷ fs) = ap (put_new f.0 f.1) (record_onto_none fs)

pub record_onto_last : (fs : List (List ℕ × Datum)) (f : List ℕ × Datum) (done : List (List ℕ × Datum))
    → record_onto (fs ++ f ∷ []) done ≡ record_onto fs (put_new f.0 f.1 done)
record_onto_last [] f done = refl
record_onto_last (g ∷ fs) f done = ap (put_new g.0 g.1) (record_onto_last fs f done)
