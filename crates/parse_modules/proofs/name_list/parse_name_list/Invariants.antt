use Rattle.laws_modules.specs.laws_primary.laws_shared.Nesting.{room}
use Rattle.laws_modules.proofs.NameLists.{NameLoop}
use Rattle.parse_modules.proofs.name_list.parse_name_list.Given as goal

abbrev pub invariant-items : goal.invariant-items
invariant-items g l = NameLoop l.list l.opening l.fn.children.items l.items.items l.fn.p l.p

abbrev pub decreases-items : goal.decreases-items
decreases-items g l = room l.p
