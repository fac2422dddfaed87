use Rattle.std.proofs.Common.{sym, ap, subst, ◌∙◌}
use Rattle.std.proofs.lemmas.Bool.{false≢true}
use Rattle.laws_operators.specs.Lookaheads.{begins_operand}
use Rattle.parse_shared.specs.js_cursor.Parsers.{Parser}
use Rattle.parse_shared.specs.laws_shared.States.{Standing}
use Rattle.laws_operators.proofs.Arrows.{unmoved}
use Rattle.laws_operators.proofs.Lookaheads.{looks_from, looks_head, looks_none}
use Rattle.parse_arrows.proofs.lookahead.is_parenthesized_head.Goals as goal
use Rattle.parse_arrows.proofs.lookahead.is_parenthesized_head.Goals.{in-Dot3, in_default}

pub returns-then-matches : goal.returns-then-matches
returns-then-matches g c = elim c.match-matches.branch [
  | in-Dot3 w ↦ (unmoved c.in_ok-next.ensures.same, looks_head c.in_ok-next.ensures.answer c.requires.open (sym c.kind-kind.ensures ∙ w.in-Dot3.is))
  | in_default w ↦ absurd (false≢true (sym w.matches-is ∙ c.if-matches.true))
]

pub returns-then-begins_no_parameter : goal.returns-then-begins_no_parameter
returns-then-begins_no_parameter g c = (unmoved c.in_ok-next.ensures.same, looks_none c.in_ok-next.ensures.answer c.requires.open (ap begins_operand (sym c.kind-kind.ensures) ∙ (sym c.begins_no_parameter.ensures ∙ c.if-begins_no_parameter.true)))

pub look_behind_closing-requires-clause-at : goal.look_behind_closing-requires-clause-at
look_behind_closing-requires-clause-at g c = subst (λ (z : Parser). Standing z) (sym c.in_ok-next.ensures.same) c.requires.at

pub look_behind_closing-requires-clause-open : goal.look_behind_closing-requires-clause-open
look_behind_closing-requires-clause-open g c = ap (λ (z : Parser). z.token.kind) c.in_ok-next.ensures.same ∙ c.requires.open

pub returns : goal.returns
returns g c = looks_from c.args.p.now _ c.look_behind_closing.new.p c.in_ok-found.found c.in_ok-next.ensures.same c.in_ok-found.ensures
