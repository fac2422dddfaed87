use Rattle.std.proofs.Common.{Bool, ap, subst}
use Rattle.js_base.specs.declared.span.Span.{Span}
use Rattle.parse_shared.proofs.laws_shared.Moving.{standing}
use Rattle.laws_operators.specs.Closings.{LexemePassed}
use Rattle.laws_operators.proofs.NotedClosings.{looking_ends, looking_on, more_unmoved}
use Rattle.parse_arrows.proofs.closing.look_for_closings.Goals as goal

pub pass_lexeme-requires-clause-at : goal.pass_lexeme-requires-clause-at
pass_lexeme-requires-clause-at g c = standing ((more_unmoved c.requires.at c.lexemes.invariant.more).at _ _ c.requires.at)

pub returns-then-not-goes_on : goal.returns-then-not-goes_on
returns-then-not-goes_on g c = looking_ends c.pass_lexeme.new.p c.in_ok-next.next c.pass_lexeme.new.brackets.items c.in_ok-goes_on.goes_on c.lexemes.invariant c.in_ok-goes_on.ensures c.set_looked.ensures

pub lexemes-preserved : goal.lexemes-preserved
lexemes-preserved g c = looking_on c.pass_lexeme.new.p c.in_ok-next.next c.pass_lexeme.new.brackets.items (ap (λ (s : Span). s.end) c.span-place.ensures) c.lexemes.invariant (subst (λ (b : Bool). LexemePassed c.lexemes.p c.in_ok-next.next c.pass_lexeme.new.p c.pass_lexeme.new.brackets.items b) c.if-not-goes_on.false c.in_ok-goes_on.ensures) c.set_looked.ensures

pub whole_behind-requires-clause-at : goal.whole_behind-requires-clause-at
whole_behind-requires-clause-at g c = standing ((more_unmoved c.requires.at c.lexemes.invariant.more).at _ _ c.requires.at)
