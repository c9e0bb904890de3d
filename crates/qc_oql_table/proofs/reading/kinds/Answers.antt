use Rattle.std.proofs.Common.{◌++◌, ◌∷◌, [], refl, ap, ◌∙◌, arith}
use Rattle.std.proofs.lemmas.List.{length-append}
use Rattle.qc_oql_table.proofs.Scanned.{next_kind, all_kinds}
use Rattle.qc_oql_table.proofs.reading.kinds.Goals as goal

pub loop-at-init : goal.loop-at-init
loop-at-init c = rw c.new-kinds.ensures (refl, refl)

pub loop-at-preserved : goal.loop-at-preserved
loop-at-preserved c =
    let e = c.in_ok-add.ensures.ok in
    rw e (
      ap (λ k. c.loop-at.kinds ++ k ∷ []) c.kind.ensures
          ∙ next_kind c.args.words.now c.loop-at.at c.loop-at.kinds (omega arith) c.loop-at.invariant.0,
      omega (arith, length-append c.loop-at.kinds (c.kind.result ∷ []), c.loop-at.invariant.1),
    )

pub returns-clause-all : goal.returns-clause-all
returns-clause-all c = all_kinds c.args.words.now c.loop-at.at c.loop-at.kinds (omega arith) c.loop-at.invariant.0

pub returns-clause-few : goal.returns-clause-few
returns-clause-few c = omega (arith, c.loop-at.invariant.1)
