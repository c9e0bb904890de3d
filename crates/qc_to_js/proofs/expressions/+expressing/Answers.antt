use Rattle.qc_to_js.proofs.Expressed.{constant_made, global_made, isleft_made, one_made, payload_made, two_made}
use Rattle.qc_to_js.proofs.Expressed.{variable_kept}
use Rattle.qc_to_js.proofs.expressions.+expressing.Goals as goal

pub returns-in-Var : goal.returns-in-Var
returns-in-Var t c = rw c.in-Var.is (variable_kept c.args.classes.now c.in-Var.x)

pub returns-in-Const : goal.returns-in-Const
returns-in-Const t c =
    constant_made c.args.classes.now c.args.e.now c.constant.result c.in-Const.d c.in-Const.is c.constant.ensures

pub returns-in_ok-named-in-Global : goal.returns-in_ok-named-in-Global
returns-in_ok-named-in-Global t c =
    global_made c.args.classes.now c.args.e.now c.call.result c.in-Global.name c.in_ok-named-in-Global.field-0
    c.in-Global.is c.in_ok-named-in-Global.ensures.made c.in_ok-named-in-Global.ensures.name c.call.ensures

pub returns-in_ok-a-in-Unary : goal.returns-in_ok-a-in-Unary
returns-in_ok-a-in-Unary t c =
    one_made c.args.classes.now c.args.e.now c.of_one.result c.in-Unary.a c.get.result.now c.get.ensures
    c.in_ok-a-in-Unary.a c.in_ok-a-in-Unary.ensures c.in-Unary.op c.in-Unary.is c.of_one.ensures

pub returns-in_ok-b-in-Binary : goal.returns-in_ok-b-in-Binary
returns-in_ok-b-in-Binary t c =
    two_made c.args.classes.now c.args.e.now c.of_two.result c.in-Binary.a c.get-in-Binary.result.now
    c.get-in-Binary.ensures c.in_ok-a-in-Binary.a c.in_ok-a-in-Binary.ensures c.in-Binary.op c.in-Binary.b
    c.get-in-Binary-2.result.now c.in_ok-b-in-Binary.b c.in-Binary.is c.get-in-Binary-2.ensures
    c.in_ok-b-in-Binary.ensures c.of_two.ensures

pub returns-in_ok-a-in-IsLeft : goal.returns-in_ok-a-in-IsLeft
returns-in_ok-a-in-IsLeft t c =
    isleft_made c.args.classes.now c.args.e.now c.call-in-IsLeft.result c.in-IsLeft.a c.get-in-IsLeft.result.now
    c.get-in-IsLeft.ensures c.in_ok-a-in-IsLeft.a c.in_ok-a-in-IsLeft.ensures c.new.result c.in-IsLeft.is
    c.new.ensures c.call-in-IsLeft.ensures

pub returns-in_ok-a-in-Payload : goal.returns-in_ok-a-in-Payload
returns-in_ok-a-in-Payload t c =
    payload_made c.args.classes.now c.args.e.now c.call-in-Payload.result c.in-Payload.a c.get-in-Payload.result.now
    c.get-in-Payload.ensures c.in_ok-a-in-Payload.a c.in_ok-a-in-Payload.ensures c.new-in-Payload.result c.in-Payload.is
    c.new-in-Payload.ensures c.call-in-Payload.ensures
