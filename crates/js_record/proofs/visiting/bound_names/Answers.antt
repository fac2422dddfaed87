use Rattle.js_record.proofs.TreeLemmas.{whole_contained, whole_good, whole_names}
use Rattle.js_record.proofs.visiting.bound_names.Goals as goal
use Rattle.std.proofs.lemmas.Result.{IfOk-weaker}

pub bound_names-requires : goal.bound_names-requires
bound_names-requires c = whole_contained c.args.tree.now c.args.source.now c.args.id c.requires

pub names_of-requires : goal.names_of-requires
names_of-requires c = whole_good c.args.tree.now c.args.source.now c.args.id c.in_ok-ids.ids.items c.requires c.in_ok-ids.ensures

pub returns : goal.returns
returns c = IfOk-weaker c.names_of.result _ _ (λ names e. whole_names c.args.tree.now c.args.source.now c.args.id c.in_ok-ids.ids.items names.items c.in_ok-ids.ensures e) c.names_of.ensures
