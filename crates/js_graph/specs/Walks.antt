-- The step of a walk.
use Rattle.std.specs.Prelude.{◌≡◌, fold}
use Rattle.js_graph.specs.declared.walk.Walk.{Walk}
use Rattle.js_graph.specs.Following.{entered, noted}
use Rattle.js_graph.specs.Leads.{Lead, bindings_of, pairs_of}

-- the walk has gone on where this leads
pub record IsFollowed (old new : Walk) (lead : Lead) : Type 0 where
  pub reached : new.reached.keys ≡ entered old.reached.keys (pairs_of lead)
  pub found : new.found ≡ fold noted old.found (bindings_of lead)
