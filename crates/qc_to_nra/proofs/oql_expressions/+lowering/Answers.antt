use Rattle.std.proofs.Common.{◌≡◌, arith, map, rules, take}
use Rattle.std.proofs.lemmas.Grind.{common_steps}
use Rattle.qc_oql_nra.specs.OqlForms.{with_sources}
use Rattle.qc_oql_nra.specs.OqlTrees.{named_tree}
use Rattle.qc_to_nra.specs.inner.Scopes.{names_of}
use Rattle.qc_oql_nra.proofs.NameForms.{and_second}
use Rattle.qc_oql_nra.proofs.OqlTreeForms.{named_is}
use Rattle.qc_to_nra.proofs.SourceRows.{rows_more}
use Rattle.qc_to_nra.proofs.oql_expressions.+lowering.Goals as goal

pub rows_of-loop-at-preserved : goal.rows_of-loop-at-preserved
rows_of-loop-at-preserved t c =
    let members : c.in_ok-members.members ≡ (named_tree c.index-sources-at.result).1
    (with_sources (map named_tree (take c.loop-at.at c.args.sources.now)) (names_of c.args.scope.now)) =
    search (rules, named_is) in
    record {
      made =
          rows_more c.args.sources.now c.loop-at.at c.index-sources-at.result (names_of c.args.scope.now) _
          c.in_ok-members.members c.loop-at.rows c.in_ok-rows-2.rows (omega arith) c.index-sources-at.is members
          c.in_ok-rows-2.ensures c.loop-at.invariant.made;
      names = grind (arith, common_steps, and_second);
    }
