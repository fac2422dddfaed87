use Rattle.std.proofs.Common.{List, ℕ, subst}
use Rattle.js_cursor.specs.Notes.{NotesPlace}
use Rattle.js_cursor.proofs.Noting.{place_noted}
use Rattle.js_cursor.proofs.state.NotedPlaces.insert.Goals as goal

pub returns-clause-ok : goal.returns-clause-ok
returns-clause-ok c = let u = c.in_ok-insert.ensures.updates in subst (λ (v : List ℕ). NotesPlace c.args.ctx c.args.place v c.insert.new.self.keys) c.self.view_is (place_noted c.noted_number.ensures.small c.noted_number.ensures.number u.1 u.2)
