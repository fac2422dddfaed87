use Rattle.laws_primary.specs.laws_shared.Nesting.{room}
use Rattle.laws_primary.proofs.ArgumentLists.{ArgumentLoop}
use Rattle.parse_primary.proofs.arguments.parse_call_arguments.Given as goal

abbrev pub invariant-arguments : goal.invariant-arguments
invariant-arguments g l = ArgumentLoop l.fn.spreads l.opening l.first l.fn.children.items l.arguments.items l.fn.p l.p

abbrev pub decreases-arguments : goal.decreases-arguments
decreases-arguments g l = room l.p
