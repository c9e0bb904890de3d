-- Rows in the order of keys, by the directions of the keys.
use Rattle.std.proofs.Common.{◌≡◌, List, [], ◌∷◌, map, refl}
use Rattle.qc_data.specs.Outcome.{Mode, Value, each}
use Rattle.qc_data.specs.declared.data.Datum.{the_lemmas as datum_lemmas}
use Rattle.qc_ops.specs.Operands.{only_if}
use Rattle.qc_types.specs.Schemas.{WorldOf}
use Rattle.qc_oql_tree.specs.declared.tree.Oql.TheViews.{the_lemmas}
use Rattle.qc_oql_tree.specs.declared.tree.Key.{Key}
use Rattle.qc_oql_tree.specs.Bindings.{Bindings}
use Rattle.qc_oql_tree.specs.SelectMeaning.{KeyedRow, are_sortable, keyed, ordered_by, sorted}
use Rattle.qc_oql_tree.specs.Meaning.{key}
use Rattle.qc_oql_tree.proofs.MeaningForms.{key_is}
use Rattle.qc_oql_eval.specs.inner.SelectRows.{directions}

module _ (m : Mode) (w : WorldOf) where
  directions_is : (keys : List Key) → map (λ key. key.1) (map (key m w) keys) ≡ directions keys
  directions_is [] = refl
  directions_is (k ∷ keys) = let e = directions_is keys in rw (key_is m w k, e) refl

  pub ordered_by_is : (keys : List Key) (s : Bindings) (rows : List Bindings) (ks : List KeyedRow)
      → each (keyed (map (key m w) keys) s) rows ≡ Value ks
      → ordered_by (map (key m w) keys) s rows
      ≡ only_if (are_sortable (directions keys) (map (λ row. row.0) ks))
      (Value (map (λ row. row.1) (sorted (directions keys) ks)))
  unfolding ordered_by
  ordered_by_is keys s rows ks e = rw (e, directions_is keys) refl

-- the layers of trees and of data
pub ruleset layers = (the_lemmas, datum_lemmas)
