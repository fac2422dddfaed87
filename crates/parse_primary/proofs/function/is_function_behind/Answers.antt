use Rattle.std.proofs.Common.{sym, ◌∙◌}
use Rattle.laws_primary.proofs.AsyncWords.{next_escaped, next_on_new_line, next_other, next_told}
use Rattle.parse_primary.proofs.function.is_function_behind.Goals as goal

pub returns-then-is_on_new_line : goal.returns-then-is_on_new_line
returns-then-is_on_new_line g c = (c.in_ok-next.ensures.same, next_on_new_line c.in_ok-next.ensures.answer (sym c.is_on_new_line.ensures ∙ c.if-is_on_new_line.true))

pub returns-then-escaped : goal.returns-then-escaped
returns-then-escaped g c = (c.in_ok-next.ensures.same, next_escaped c.in_ok-next.ensures.answer (sym c.escaped.ensures ∙ c.if-escaped.true))

pub returns-in-Function : goal.returns-in-Function
returns-in-Function g c = (c.in_ok-next.ensures.same, next_told c.in_ok-next.ensures.answer (sym c.kind.ensures ∙ c.in-Function.is) (sym c.escaped.ensures ∙ c.if-escaped.false) (sym c.is_on_new_line.ensures ∙ c.if-is_on_new_line.false))

pub returns-in_default : goal.returns-in_default
returns-in_default g c = (c.in_ok-next.ensures.same, next_other c.in_ok-next.ensures.answer (λ k. c.in_default.not-Function (c.kind.ensures ∙ k)))
