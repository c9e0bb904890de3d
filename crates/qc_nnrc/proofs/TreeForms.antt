-- What is defined form by form, at each form.
use Rattle.std.proofs.Common.{◌≡◌, ℕ, List, rules, sym, ap, ◌∙◌}
use Rattle.qc_data.specs.declared.data.Datum.{Datum}
use Rattle.qc_ops.specs.declared.op.Binary.{Binary}
use Rattle.qc_ops.specs.declared.op.Unary.{Unary}
use Rattle.qc_nnrc.specs.declared.tree.Nnrc.{Nnrc}
use Rattle.qc_nnrc.specs.declared.tree.Nnrc.TheVariants as tree
use Rattle.qc_nnrc.specs.declared.tree.Nnrc.TheOpen.{Nnrc-F}
use Rattle.qc_nnrc.specs.declared.tree.Nnrc.TheViews.{roll-Nnrc, the_lemmas}
use Rattle.qc_nnrc.specs.declared.tree.Nnrc.TheFolds.{fold-Nnrc, fold-roll-Nnrc, map-Nnrc}

module _ (A : Type 0) (form : Nnrc-F A → A) where
  abbrev of : Nnrc → A
  of e = fold-Nnrc A form e

  layer : (x : Nnrc-F Nnrc) (t : Nnrc) → roll-Nnrc x ≡ t → of t ≡ form (map-Nnrc Nnrc A of x)
  layer x t is = ap of (sym is) ∙ fold-roll-Nnrc A form x

  pub of-Var : (x : ℕ) → of (tree.Var x) ≡ form (Nnrc-F.Var x)
  of-Var x = layer (Nnrc-F.Var x) (tree.Var x) (search (rules, the_lemmas))

  pub of-Const : (d : Datum) → of (tree.Const d) ≡ form (Nnrc-F.Const d)
  of-Const d = layer (Nnrc-F.Const d) (tree.Const d) (search (rules, the_lemmas))

  pub of-Global : (name : List ℕ) → of (tree.Global name) ≡ form (Nnrc-F.Global name)
  of-Global name = layer (Nnrc-F.Global name) (tree.Global name) (search (rules, the_lemmas))

  pub of-Unary : (op : Unary) (a : Nnrc) → of (tree.Unary op a) ≡ form (Nnrc-F.Unary op (of a))
  of-Unary op a = layer (Nnrc-F.Unary op a) (tree.Unary op a) (search (rules, the_lemmas))

  pub of-Binary : (op : Binary) (a b : Nnrc) → of (tree.Binary op a b) ≡ form (Nnrc-F.Binary op (of a) (of b))
  of-Binary op a b = layer (Nnrc-F.Binary op a b) (tree.Binary op a b) (search (rules, the_lemmas))

  pub of-Let : (x : ℕ) (a b : Nnrc) → of (tree.Let x a b) ≡ form (Nnrc-F.Let x (of a) (of b))
  of-Let x a b = layer (Nnrc-F.Let x a b) (tree.Let x a b) (search (rules, the_lemmas))

  pub of-For : (x : ℕ) (a b : Nnrc) → of (tree.For x a b) ≡ form (Nnrc-F.For x (of a) (of b))
  of-For x a b = layer (Nnrc-F.For x a b) (tree.For x a b) (search (rules, the_lemmas))

  pub of-If : (a b c : Nnrc) → of (tree.If a b c) ≡ form (Nnrc-F.If (of a) (of b) (of c))
  of-If a b c = layer (Nnrc-F.If a b c) (tree.If a b c) (search (rules, the_lemmas))

  pub of-Either : (a : Nnrc) (x : ℕ) (b : Nnrc) (y : ℕ) (c : Nnrc)
      → of (tree.Either a x b y c) ≡ form (Nnrc-F.Either (of a) x (of b) y (of c))
  of-Either a x b y c = layer (Nnrc-F.Either a x b y c) (tree.Either a x b y c) (search (rules, the_lemmas))
