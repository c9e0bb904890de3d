use Rattle.std.proofs.Common.{◌≡◌, ◌∙◌, arith, rules}
use Rattle.qc_oql_tree.specs.declared.tree.Oql.TheVariants as tree
use Rattle.qc_oql_check.specs.inner.Scopes.{types_of}
use Rattle.qc_oql_check.proofs.Arms.{arm}
use Rattle.qc_oql_check.proofs.Binding.{bound_more}
use Rattle.qc_oql_check.proofs.Forms.{layers, oql-Name, oql-Struct, oql-Bag, oql-Unary, oql-Divide, oql-Like, oql-Dot}
use Rattle.qc_oql_check.proofs.Forms.{oql-Brand, oql-Select, select_is}
use Rattle.qc_oql_check.proofs.expression.+typing.Goals as goal

pub type_of-returns-in-Name : goal.type_of-returns-in-Name
type_of-returns-in-Name t c =
    let is : c.args.of.now ≡ tree.Name c.in-Name.at c.in-Name.name = search (rules, layers) in
    arm c.args.schema.now (types_of c.args.scope.now) c.args.of.now
    (tree.Name c.in-Name.at c.in-Name.name) _ c.name_type.result is
    (oql-Name c.args.schema.now c.in-Name.at c.in-Name.name) c.name_type.ensures

pub type_of-returns-in-Struct : goal.type_of-returns-in-Struct
type_of-returns-in-Struct t c =
    let is : c.args.of.now ≡ tree.Struct c.in-Struct.field-0 c.as_slice.result.now = search (rules, layers) in
    arm c.args.schema.now (types_of c.args.scope.now) c.args.of.now
    (tree.Struct c.in-Struct.field-0 c.as_slice.result.now) _ c.structured.result is
    (oql-Struct c.args.schema.now c.in-Struct.field-0 c.as_slice.result.now) c.structured.ensures

pub type_of-returns-in-Bag : goal.type_of-returns-in-Bag
type_of-returns-in-Bag t c =
    let is : c.args.of.now ≡ tree.Bag c.in-Bag.at c.as_slice-in-Bag.result.now = search (rules, layers) in
    arm c.args.schema.now (types_of c.args.scope.now) c.args.of.now
    (tree.Bag c.in-Bag.at c.as_slice-in-Bag.result.now) _ c.collected.result is
    (oql-Bag c.args.schema.now c.in-Bag.at c.as_slice-in-Bag.result.now) c.collected.ensures

pub type_of-returns-in-Unary : goal.type_of-returns-in-Unary
type_of-returns-in-Unary t c =
    let is : c.args.of.now ≡ tree.Unary c.in-Unary.at c.in-Unary.operator c.get.result.now = search (rules, layers) in
    arm c.args.schema.now (types_of c.args.scope.now) c.args.of.now
    (tree.Unary c.in-Unary.at c.in-Unary.operator c.get.result.now) _ c.of_one.result is
    (oql-Unary c.args.schema.now c.in-Unary.at c.in-Unary.operator c.get.result.now) c.of_one.ensures

pub type_of-returns-in-Divide : goal.type_of-returns-in-Divide
type_of-returns-in-Divide t c =
    let is : c.args.of.now ≡ tree.Divide c.in-Divide.at c.in-Divide.division c.get-in-Divide.result.now c.in-Divide.k =
    search (rules, layers) in
    arm c.args.schema.now (types_of c.args.scope.now) c.args.of.now
    (tree.Divide c.in-Divide.at c.in-Divide.division c.get-in-Divide.result.now c.in-Divide.k) _
    c.of_division.result is (oql-Divide c.args.schema.now c.in-Divide.at c.in-Divide.division
    c.get-in-Divide.result.now c.in-Divide.k) c.of_division.ensures

pub type_of-returns-in-Like : goal.type_of-returns-in-Like
type_of-returns-in-Like t c =
    let is : c.args.of.now ≡ tree.Like c.in-Like.at c.get-in-Like.result.now c.in-Like.pattern =
    search (rules, layers) in
    arm c.args.schema.now (types_of c.args.scope.now) c.args.of.now
    (tree.Like c.in-Like.at c.get-in-Like.result.now c.in-Like.pattern) _ c.of_like.result is
    (oql-Like c.args.schema.now c.in-Like.at c.get-in-Like.result.now c.in-Like.pattern) c.of_like.ensures

pub type_of-returns-in-Dot : goal.type_of-returns-in-Dot
type_of-returns-in-Dot t c =
    let is : c.args.of.now ≡ tree.Dot c.in-Dot.at c.get-in-Dot.result.now c.in-Dot.label = search (rules, layers) in
    arm c.args.schema.now (types_of c.args.scope.now) c.args.of.now
    (tree.Dot c.in-Dot.at c.get-in-Dot.result.now c.in-Dot.label) _ c.of_dot.result is
    (oql-Dot c.args.schema.now c.in-Dot.at c.get-in-Dot.result.now c.in-Dot.label) c.of_dot.ensures

pub type_of-returns-in-Brand : goal.type_of-returns-in-Brand
type_of-returns-in-Brand t c =
    let is : c.args.of.now ≡ tree.Brand c.in-Brand.at c.in-Brand.branding c.in-Brand.class c.get-in-Brand.result.now =
    search (rules, layers) in
    arm c.args.schema.now (types_of c.args.scope.now) c.args.of.now
    (tree.Brand c.in-Brand.at c.in-Brand.branding c.in-Brand.class c.get-in-Brand.result.now) _ c.of_class.result is
    (oql-Brand c.args.schema.now c.in-Brand.at c.in-Brand.branding c.in-Brand.class c.get-in-Brand.result.now)
    c.of_class.ensures

pub type_of-returns-in-Select : goal.type_of-returns-in-Select
type_of-returns-in-Select t c =
    let is : c.args.of.now ≡ tree.Select c.in-Select.field-0 c.get-in-Select.result.now = search (rules, layers) in
    arm c.args.schema.now (types_of c.args.scope.now) c.args.of.now
    (tree.Select c.in-Select.field-0 c.get-in-Select.result.now) _ c.selected.result is
    (oql-Select c.args.schema.now c.in-Select.field-0 c.get-in-Select.result.now
    ∙ select_is c.args.schema.now c.get-in-Select.result.now) c.selected.ensures

pub bound_row-loop-source-preserved : goal.bound_row-loop-source-preserved
bound_row-loop-source-preserved t c =
    bound_more c.args.schema.now c.args.sources.now c.loop-source.source-index c.source-item.result
    (types_of c.args.scope.now) c.loop-source.row c.as_slice.result.now c.add.new.self c.in_ok-member.member
    c.in_ok-copy.field-0 (omega arith) c.source-item.is c.as_slice.ensures c.in_ok-member.ensures
    c.in_ok-copy.ensures c.in_ok-add.ensures.ok c.loop-source.invariant
