use Rattle.std.proofs.Common.{inl, inr}
use Rattle.js_cursor.specs.Moves.{MovesOn}
use Rattle.js_cursor.specs.Parsers.{Parser}
use Rattle.js_cursor.specs.Places.{IsAt}
use Rattle.js_cursor.proofs.Later.{may_turn_back}
use Rattle.test_units.proofs.cursor.on_and_back.Goals as goal

-- behind a move the parser stands at a place
moved_at : {p q : Parser} → MovesOn p q → IsAt q
moved_at (mid, c, inl h) = h.2
moved_at (mid, c, inr h) = h.1.at

pub rewind-requires-clause-may : goal.rewind-requires-clause-may
rewind-requires-clause-may c = may_turn_back c.requires c.in_ok-here.ensures.remembers c.checkpoint.ensures.same c.in_ok-bump_any.ensures

pub rewind-requires-clause-at : goal.rewind-requires-clause-at
rewind-requires-clause-at c = moved_at c.in_ok-bump_any.ensures
