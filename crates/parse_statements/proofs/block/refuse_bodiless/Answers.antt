use Rattle.std.proofs.Common.{refl}
use Rattle.js_grammar.specs.Marks.{the_end, the_start}
use Rattle.parse_statements.proofs.block.refuse_bodiless.Goals as goal

pub refuse_annotation-requires-clause-colon : goal.refuse_annotation-requires-clause-colon
refuse_annotation-requires-clause-colon t c = c.at.ensures.0 c.if-at.true

pub refuse_due-requires-clause-may : goal.refuse_due-requires-clause-may
refuse_due-requires-clause-may t c = λ s l i. ((the_start l.of_text l.is.0, the_end l.of_text l.is.1), (refl, refl))

pub refuse_due-requires-clause-ends : goal.refuse_due-requires-clause-ends
refuse_due-requires-clause-ends t c = refl
