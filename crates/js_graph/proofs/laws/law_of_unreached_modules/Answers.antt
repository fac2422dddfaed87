use Rattle.js_graph.proofs.UnreachedLemmas.{law}
use Rattle.js_graph.proofs.laws.law_of_unreached_modules.Goals as goal

pub returns : goal.returns
returns c = law
