-- What each form of the algebra means, by its parts.
use Rattle.std.proofs.Common.{◌≡◌, ℕ, List, cond, rules, sym, ap, ◌∙◌}
use Rattle.qc_data.specs.Outcome.{Mode, Value, and_then}
use Rattle.qc_data.specs.declared.data.Datum.{Datum}
use Rattle.qc_ops.specs.declared.op.Binary.{Binary}
use Rattle.qc_ops.specs.declared.op.Unary.{Unary}
use Rattle.qc_ops.specs.Operands.{found}
use Rattle.qc_ops.specs.Operators.{unary, binary}
use Rattle.qc_types.specs.Schemas.{WorldOf, global}
use Rattle.qc_nra.specs.declared.tree.Nra.{Nra}
use Rattle.qc_nra.specs.declared.tree.Nra.TheVariants as tree
use Rattle.qc_nra.specs.declared.tree.Nra.TheOpen.{Nra-F}
use Rattle.qc_nra.specs.declared.tree.Nra.TheViews.{roll-Nra, the_lemmas}
use Rattle.qc_nra.specs.declared.tree.Nra.TheFolds.{fold-roll-Nra, map-Nra}
use Rattle.qc_nra.specs.Forms.{Meaning, map_of, select_of, join_of}
use Rattle.qc_trees.specs.Branches.{truth}
use Rattle.qc_ops.specs.Sides.{by_side}
use Rattle.qc_nra.specs.Meaning.{form, nra}

module _ (m : Mode) (w : WorldOf) where
  layer : (x : Nra-F Nra) (t : Nra) (i e : Datum) → roll-Nra x ≡ t
      → nra m w t i e ≡ form m w (map-Nra Nra Meaning (nra m w) x) i e
  layer x t i e is = ap (λ t. nra m w t i e) (sym is) ∙ ap (λ f. f i e) (fold-roll-Nra Meaning (form m w) x)

  pub nra-Const : (d i e : Datum) → nra m w (tree.Const d) i e ≡ Value d
  nra-Const d i e = layer (Nra-F.Const d) (tree.Const d) i e (search (rules, the_lemmas))

  pub nra-Input : (i e : Datum) → nra m w tree.Input i e ≡ Value i
  nra-Input i e = layer Nra-F.Input tree.Input i e (search (rules, the_lemmas))

  pub nra-Env : (i e : Datum) → nra m w tree.Env i e ≡ Value e
  nra-Env i e = layer Nra-F.Env tree.Env i e (search (rules, the_lemmas))

  pub nra-Global : (name : List ℕ) (i e : Datum) → nra m w (tree.Global name) i e ≡ found (global name w.datum)
  nra-Global name i e = layer (Nra-F.Global name) (tree.Global name) i e (search (rules, the_lemmas))

  pub nra-Unary : (op : Unary) (a : Nra) (i e : Datum)
      → nra m w (tree.Unary op a) i e ≡ and_then (nra m w a i e) (unary m w.classes op)
  nra-Unary op a i e = layer (Nra-F.Unary op a) (tree.Unary op a) i e (search (rules, the_lemmas))

  pub nra-Binary : (op : Binary) (a b : Nra) (i e : Datum) → nra m w (tree.Binary op a b) i e
      ≡ and_then (nra m w a i e) (λ x. and_then (nra m w b i e) (λ y. binary m op x y))
  nra-Binary op a b i e = layer (Nra-F.Binary op a b) (tree.Binary op a b) i e (search (rules, the_lemmas))

  pub nra-Comp : (a b : Nra) (i e : Datum)
      → nra m w (tree.Comp a b) i e ≡ and_then (nra m w b i e) (λ v. nra m w a v e)
  nra-Comp a b i e = layer (Nra-F.Comp a b) (tree.Comp a b) i e (search (rules, the_lemmas))

  pub nra-Map : (a b : Nra) (i e : Datum)
      → nra m w (tree.Map a b) i e ≡ and_then (nra m w b i e) (map_of (nra m w a) e)
  nra-Map a b i e = layer (Nra-F.Map a b) (tree.Map a b) i e (search (rules, the_lemmas))

  pub nra-Select : (a b : Nra) (i e : Datum)
      → nra m w (tree.Select a b) i e ≡ and_then (nra m w b i e) (select_of (nra m w a) e)
  nra-Select a b i e = layer (Nra-F.Select a b) (tree.Select a b) i e (search (rules, the_lemmas))

  pub nra-DepJoin : (a b : Nra) (i e : Datum)
      → nra m w (tree.DepJoin a b) i e ≡ and_then (nra m w b i e) (join_of (nra m w a) e)
  nra-DepJoin a b i e = layer (Nra-F.DepJoin a b) (tree.DepJoin a b) i e (search (rules, the_lemmas))

  pub nra-EnvComp : (a b : Nra) (i e : Datum)
      → nra m w (tree.EnvComp a b) i e ≡ and_then (nra m w b i e) (λ v. nra m w a i v)
  nra-EnvComp a b i e = layer (Nra-F.EnvComp a b) (tree.EnvComp a b) i e (search (rules, the_lemmas))

  pub nra-Either : (a b : Nra) (i e : Datum)
      → nra m w (tree.Either a b) i e ≡ by_side (λ v. nra m w a v e) (λ v. nra m w b v e) i
  nra-Either a b i e = layer (Nra-F.Either a b) (tree.Either a b) i e (search (rules, the_lemmas))

  pub nra-If : (a b c : Nra) (i e : Datum) → nra m w (tree.If a b c) i e
      ≡ and_then (truth (nra m w a i e)) (λ holds. cond holds (nra m w b i e) (nra m w c i e))
  nra-If a b c i e = layer (Nra-F.If a b c) (tree.If a b c) i e (search (rules, the_lemmas))
