use Rattle.std.proofs.Common.{Some, None, ◌∙◌}
use Rattle.js_graph.proofs.PlaceLemmas.{found_at}
use Rattle.js_graph.proofs.module.export_at.Goals as goal

pub returns-in-Some : goal.returns-in-Some
returns-in-Some c = c.get-in-Some.ensures ∙ found_at c.args.places.now.entries c.args.entries.now c.args.name.now (Some c.in-Some.place.now) c.requires c.in-Some.ensures.value

pub returns-in-None : goal.returns-in-None
returns-in-None c = found_at c.args.places.now.entries c.args.entries.now c.args.name.now None c.requires c.in-None.ensures.value
