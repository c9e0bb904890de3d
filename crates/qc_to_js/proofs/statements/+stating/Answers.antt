use Rattle.qc_to_js.proofs.Stated.{all_statements, block_as, block_of_all, block_of_one, blocked, collect_kept}
use Rattle.qc_to_js.proofs.Stated.{const_kept, expr_as, for_kept, if_kept, let_kept, next_statement, no_statements}
use Rattle.qc_to_js.proofs.Stated.{only_one}
use Rattle.qc_to_js.proofs.Stated.{part_alone, part_as, part_of_block, push_kept, set_kept}
use Rattle.qc_to_js.proofs.statements.+stating.Goals as goal

pub statement-returns-in-Var : goal.statement-returns-in-Var
statement-returns-in-Var t c = rw c.in-Var.is (let_kept c.args.classes.now c.in-Var.x)

pub statement-returns-in_ok-block-in-Block : goal.statement-returns-in_ok-block-in-Block
statement-returns-in_ok-block-in-Block t c =
    let classes = c.args.classes.now in
    rw c.in-Block.is (blocked classes c.in-Block.statements c.in_ok-block-in-Block.field-0
    (block_as classes c.in-Block.statements c.as_slice.result.now c.in_ok-block-in-Block.field-0 c.as_slice.ensures
    c.in_ok-block-in-Block.ensures))

pub statement-returns-in_ok-expression-in-Val : goal.statement-returns-in_ok-expression-in-Val
statement-returns-in_ok-expression-in-Val t c =
    let classes = c.args.classes.now in
    let made = c.in_ok-expression-in-Val.field-0 in
    rw c.in-Val.is (const_kept classes c.in-Val.x c.in-Val.e made
    (expr_as classes c.in-Val.e c.get.result.now made c.get.ensures c.in_ok-expression-in-Val.ensures))

pub statement-returns-in_ok-expression-in-Set : goal.statement-returns-in_ok-expression-in-Set
statement-returns-in_ok-expression-in-Set t c =
    let classes = c.args.classes.now in
    let made = c.in_ok-expression-in-Set.field-0 in
    rw c.in-Set.is (set_kept classes c.in-Set.x c.in-Set.e made
    (expr_as classes c.in-Set.e c.get-in-Set.result.now made c.get-in-Set.ensures c.in_ok-expression-in-Set.ensures))

pub statement-returns-in_ok-expression-in-Push : goal.statement-returns-in_ok-expression-in-Push
statement-returns-in_ok-expression-in-Push t c =
    let classes = c.args.classes.now in
    let made = c.in_ok-expression-in-Push.field-0 in
    rw c.in-Push.is (push_kept classes c.in-Push.x c.in-Push.e made
    (expr_as classes c.in-Push.e c.get-in-Push.result.now made c.get-in-Push.ensures
    c.in_ok-expression-in-Push.ensures))

pub statement-returns-in_ok-block-in-Collect : goal.statement-returns-in_ok-block-in-Collect
statement-returns-in_ok-block-in-Collect t c =
    let classes = c.args.classes.now in
    rw c.in-Collect.is (collect_kept classes c.in-Collect.statements c.in_ok-block-in-Collect.field-0
    (block_as classes c.in-Collect.statements c.as_slice-in-Collect.result.now c.in_ok-block-in-Collect.field-0
    c.as_slice-in-Collect.ensures c.in_ok-block-in-Collect.ensures) c.in-Collect.x)

pub statement-returns-in_ok-expression-in-For : goal.statement-returns-in_ok-expression-in-For
statement-returns-in_ok-expression-in-For t c =
    let classes = c.args.classes.now in
    let made = c.in_ok-expression-in-For.field-0 in
    rw c.in-For.is (for_kept classes c.in-For.x c.in-For.e made
    (expr_as classes c.in-For.e c.get-in-For-2.result.now made c.get-in-For-2.ensures c.in_ok-expression-in-For.ensures)
    c.in-For.a c.in_ok-body-in-For.body
    (part_as classes c.in-For.a c.get-in-For.result.now c.in_ok-body-in-For.body c.get-in-For.ensures
    c.in_ok-body-in-For.ensures))

pub statement-returns-in_ok-expression-in-If : goal.statement-returns-in_ok-expression-in-If
statement-returns-in_ok-expression-in-If t c =
    let classes = c.args.classes.now in
    let made = c.in_ok-expression-in-If.field-0 in
    rw c.in-If.is (if_kept classes c.in-If.e made
    (expr_as classes c.in-If.e c.get-in-If-3.result.now made c.get-in-If-3.ensures c.in_ok-expression-in-If.ensures)
    c.in-If.a c.in-If.b c.in_ok-first-in-If.first c.in_ok-second-in-If.second
    (part_as classes c.in-If.a c.get-in-If.result.now c.in_ok-first-in-If.first c.get-in-If.ensures
    c.in_ok-first-in-If.ensures)
    (part_as classes c.in-If.b c.get-in-If-2.result.now c.in_ok-second-in-If.second c.get-in-If-2.ensures
    c.in_ok-second-in-If.ensures))

pub statements-loop-a-init : goal.statements-loop-a-init
statements-loop-a-init t c = rw c.new-made.ensures (no_statements c.args.classes.now)

pub statements-loop-a-preserved : goal.statements-loop-a-preserved
statements-loop-a-preserved t c =
    next_statement c.args.classes.now c.args.all.now c.loop-a.a-index c.a-item.result c.loop-a.made c.add.new.self
    c.in_ok-statement.field-0 c.loop-a.invariant c.loop-a-test.true c.a-item.is c.in_ok-statement.ensures
    c.in_ok-add.ensures.ok

pub statements-returns : goal.statements-returns
statements-returns t c =
    all_statements c.args.classes.now c.args.all.now c.loop-a.a-index c.loop-a.made c.loop-a.invariant
    c.loop-a-test.false

pub part-returns-in-Block : goal.part-returns-in-Block
part-returns-in-Block t c =
    part_of_block c.args.classes.now c.args.a.now c.in-Block.statements c.as_slice.result.now c.block.result
    c.in-Block.is
    c.as_slice.ensures c.block.ensures

pub part-returns : goal.part-returns
part-returns t c =
    rw (c.in_ok-add.ensures.ok, c.new-made.ensures)
    (part_alone c.args.classes.now c.args.a.now c.in_ok-statement.field-0
    c.in_ok-statement.ensures)

pub block-returns-in-len1 : goal.block-returns-in-len1
block-returns-in-len1 t c =
    block_of_one c.args.classes.now c.args.all.now c.a-item.result c.part.result
    (only_one c.args.all.now c.a-item.result c.in-len1.len_at_least c.in-len1.len_below c.a-item.is) c.part.ensures

pub block-returns-in_default : goal.block-returns-in_default
block-returns-in_default t c = block_of_all c.args.classes.now c.args.all.now c.statements.result c.statements.ensures
