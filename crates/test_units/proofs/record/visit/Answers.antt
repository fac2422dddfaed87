use Rattle.js_record.proofs.CheckedLemmas.{tree_at}
use Rattle.js_record.proofs.TreeLemmas.{read_contained}
use Rattle.test_units.proofs.record.visit.Goals as goal

pub visit_import_expression-requires : goal.visit_import_expression-requires
visit_import_expression-requires c = tree_at c.args.tree.now c.args.source.now c.args.id c.requires

pub span-requires : goal.span-requires
span-requires c = read_contained c.args.tree.now c.args.source.now c.args.id c.requires
