use Rattle.std.proofs.Common.{refl}
use Rattle.js_grammar.specs.Marks.{the_end, the_start}
use Rattle.parse_members.proofs.decorator.refuse_form.Goals as goal

pub refuse_due-requires-clause-may : goal.refuse_due-requires-clause-may
refuse_due-requires-clause-may g c = λ s l i. ((the_start l.of_text l.is.0, the_end l.of_text l.is.1), (refl, refl))

pub refuse_due-requires-clause-ends : goal.refuse_due-requires-clause-ends
refuse_due-requires-clause-ends g c = refl
