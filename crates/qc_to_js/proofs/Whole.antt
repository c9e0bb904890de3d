-- The program that is made for one over data answers as that one does.
use Rattle.std.proofs.Common.{◌≡◌, ◌∙◌, ℕ, true, List, [], map, Option, Some, None, refl, sym, ap, true≢false}
use Rattle.std.proofs.Common.{rules as basic}
use Rattle.std.specs.Prelude.{IsTrue}
use Rattle.qc_data.specs.Encoding.{enc}
use Rattle.qc_ops.specs.Operands.{found}
use Rattle.qc_types.specs.Schemas.{SchemaOf}
use Rattle.qc_imp.specs.declared.tree.Imp.{Imp}
use Rattle.qc_imp.specs.declared.tree.ImpStmt.{ImpStmt}
use Rattle.qc_imp.specs.declared.tree.ImpStmt.TheOpen.{ImpStmt-F}
use Rattle.qc_imp.specs.declared.tree.ImpStmt.TheViews.{out-ImpStmt, roll-ImpStmt, the_lemmas}
use Rattle.qc_imp.specs.declared.tree.ImpStmt.TheVariants as tree
use Rattle.qc_imp.specs.Meaning as imp
use Rattle.qc_imp.specs.WellFormed as rules
use Rattle.qc_js.specs.Meaning as json
use Rattle.qc_js.specs.WellFormed as scopes
use Rattle.qc_js.specs.declared.tree.Program.{Program}
use Rattle.qc_js.specs.declared.tree.Stmt.{Stmt}
use Rattle.qc_js.specs.declared.tree.Expr.TheVariants as js
use Rattle.qc_to_js.specs.Answering.{AnswersAs}
use Rattle.qc_to_js.specs.inner.Cells.{PlainStore, store_json}
use Rattle.qc_to_js.specs.inner.Kept.{AreStmts, IsSetting, Plain}
use Rattle.qc_to_js.proofs.JsonForms.{expr-Var, fits-Var}
use Rattle.qc_to_js.proofs.Outcomes.{related_then}
use Rattle.qc_to_js.proofs.Scopes.{none_mirrors, reads_too}
use Rattle.qc_to_js.proofs.Stores.{variable_read}
use Rattle.qc_to_js.proofs.Worlds.{world_plain}

abbrev made_of : List Stmt → ℕ → Program
made_of body x = record { body = body; result = js.Var x }

module _ (schema : SchemaOf) (p : Imp) (body : List Stmt)
    (are : AreStmts schema.classes (imp.statements (out-ImpStmt p.body)) body) where
  pub program_answers : AnswersAs schema p (made_of body p.result)
  program_answers = record {
    answers = λ m w of.
        let set : IsSetting schema.classes w =
        record { classes_are = of.classes; is_plain = world_plain schema w of } in
        (related_then PlainStore store_json Plain enc
        (imp.all_of (map (imp.stmt m w) (imp.statements (out-ImpStmt p.body))) [])
        (json.all_of (map (json.stmt m (enc w.datum)) body) []) (λ st. found (imp.value_in (imp.cell_of p.result st)))
        (json.expr m (enc w.datum) (js.Var p.result)) (are.runs m w [] set tt)
        (λ st h. rw (expr-Var m (enc w.datum) (store_json st) p.result) (variable_read p.result st h))).1;
  }

  scope_known : (x : ImpStmt-F ImpStmt) (s : rules.Scope) → rules.scope_at x ≡ Some s
      → rules.all_fit (map rules.fits_stmt (imp.statements x)) [] ≡ Some s
  scope_known (ImpStmt-F.Block ss) s e = e
  scope_known (ImpStmt-F.Var x) s e = absurd (cc)
  scope_known (ImpStmt-F.Val x a) s e = absurd (cc)
  scope_known (ImpStmt-F.Set x a) s e = absurd (cc)
  scope_known (ImpStmt-F.Collect x ss) s e = absurd (cc)
  scope_known (ImpStmt-F.Push x a) s e = absurd (cc)
  scope_known (ImpStmt-F.For x a b) s e = absurd (cc)
  scope_known (ImpStmt-F.If a b d) s e = absurd (cc)

  fits_at : (o : Option rules.Scope) → rules.scope_at (out-ImpStmt p.body) ≡ o → rules.result_fits p.result o ≡ true
      → scopes.well_formed (made_of body p.result) ≡ true
  fits_at None e h = absurd (true≢false (sym h))
  fits_at (Some s) e h =
      let scope = are.ruled [] s [] none_mirrors (scope_known (out-ImpStmt p.body) s e) in
      rw (scope.1) (fits-Var scope.0 p.result ∙ ap scopes.may_read (scope.2 p.result)
      ∙ reads_too (rules.class_of p.result s) h)

  pub program_fits : IsTrue (rules.well_formed p) → IsTrue (scopes.well_formed (made_of body p.result))
  program_fits h = fits_at (rules.scope_at (out-ImpStmt p.body)) refl h

-- a statement that is no block has no statements
not_block_at : (x : ImpStmt-F ImpStmt) → ((ss : List ImpStmt) → roll-ImpStmt x ≡ tree.Block ss → ⊥)
    → imp.statements x ≡ []
not_block_at (ImpStmt-F.Block ss) h = absurd (h ss (tree.rolls-Block ss))
not_block_at (ImpStmt-F.Var x) h = refl
not_block_at (ImpStmt-F.Val x a) h = refl
not_block_at (ImpStmt-F.Set x a) h = refl
not_block_at (ImpStmt-F.Collect x ss) h = refl
not_block_at (ImpStmt-F.Push x a) h = refl
not_block_at (ImpStmt-F.For x a b) h = refl
not_block_at (ImpStmt-F.If a b d) h = refl

roll-out : (a : ImpStmt) → roll-ImpStmt (out-ImpStmt a) ≡ a
roll-out a = search (basic, the_lemmas)

pub not_block : (a : ImpStmt) → ((ss : List ImpStmt) → a ≡ tree.Block ss → ⊥) → imp.statements (out-ImpStmt a) ≡ []
not_block a h = not_block_at (out-ImpStmt a) (λ ss e. h ss (sym (roll-out a) ∙ e))
