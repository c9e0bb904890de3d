use Rattle.std.proofs.Common.{◌≡◌, IsTrue, rules}
use Rattle.qc_oql_nra.specs.HasNames.{are_names}
use Rattle.qc_oql_nra.proofs.OqlNames.{typed_names}
use Rattle.qc_to_nra.proofs.oql.OqlToNraPassTypedQueryNra.pass.Goals as goal

pub query_tree-requires : goal.query_tree-requires
query_tree-requires c =
    let known : IsTrue (are_names c.args.schema.now.globals) = search rules in
    typed_names c.args.schema.now known c.args.from.query c.args.from.ty c.requires.takes
