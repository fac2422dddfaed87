use Rattle.js_graph.proofs.NameLemmas.{are_exported}
use Rattle.js_graph.proofs.names.exported_names.Goals as goal

pub returns : goal.returns
returns c = are_exported c.args.modules.now.items c.args.number c.index.result.now c.requires c.index.ensures c.in_ok-names.names c.in_ok-stars.stars.items c.push_all.new.names c.in_ok-names.ensures c.in_ok-stars.ensures c.in_ok-push_all.ensures
