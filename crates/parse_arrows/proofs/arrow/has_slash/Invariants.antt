use Rattle.laws_operators.specs.Arrows.{NoSlash}
use Rattle.parse_arrows.proofs.arrow.has_slash.Given as goal

-- none was found so far
abbrev pub invariant-places : goal.invariant-places
invariant-places l = NoSlash l.text l.start l.place
