use Rattle.laws_primary.specs.laws_shared.Nesting.{room}
use Rattle.laws_primary.proofs.Templates.{PartsLoop}
use Rattle.parse_primary.proofs.template.parse_template_literal.Given as goal

abbrev pub invariant-parts : goal.invariant-parts
invariant-parts g l = PartsLoop l.start l.fn.p l.p l.children.items l.part.is_last

abbrev pub decreases-parts : goal.decreases-parts
decreases-parts g l = room l.p
