use Rattle.qc_to_js.proofs.OperatorForms.{cast_made, classes_are, group_made, like_made, order_made, project_made}
use Rattle.qc_to_js.proofs.parameters.parameters.Goals as goal

pub returns-in-Project : goal.returns-in-Project
returns-in-Project c =
    project_made c.args.classes.now c.args.op.now c.in-Project.names c.some_names.result c.in-Project.is
    c.some_names.ensures.made c.some_names.ensures.names

pub returns-in-Cast : goal.returns-in-Cast
returns-in-Cast c =
    cast_made c.args.classes.now c.args.op.now c.in-Cast.name c.classes_for.result c.in-Cast.is
    c.classes_for.ensures.made c.classes_for.ensures.names (classes_are c.args.classes.now c.in-Cast.name)

pub returns-in-Order : goal.returns-in-Order
returns-in-Order c =
    order_made c.args.classes.now c.args.op.now c.in-Order.keys c.ordering.result c.in-Order.is c.ordering.ensures.made
    c.ordering.ensures.names

pub returns-in-Group : goal.returns-in-Group
returns-in-Group c =
    group_made c.args.classes.now c.args.op.now c.in-Group.name c.in-Group.names c.grouping.result c.in-Group.is
    c.grouping.ensures.made c.grouping.ensures.name c.grouping.ensures.names

pub returns-in_ok-copy-in-Like : goal.returns-in_ok-copy-in-Like
returns-in_ok-copy-in-Like c =
    like_made c.args.classes.now c.args.op.now c.in-Like.pattern c.in_ok-copy-in-Like.field-0 c.alone.result
    c.in-Like.is
    c.in_ok-copy-in-Like.ensures c.alone.ensures
