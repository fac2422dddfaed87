use Rattle.parse_shared.specs.laws_shared.Nesting.{room}
use Rattle.parse_declarations.specs.Declarations.{is_constant}
use Rattle.parse_declarations.proofs.DeclaratorLists.{DeclaratorLoop}
use Rattle.parse_declarations.proofs.declaration.parse_declarators.Given as goal

abbrev pub invariant-declarators : goal.invariant-declarators
invariant-declarators g l = DeclaratorLoop (is_constant l.fn.kind) l.declarators.items l.fn.p l.p

abbrev pub decreases-declarators : goal.decreases-declarators
decreases-declarators g l = room l.p
