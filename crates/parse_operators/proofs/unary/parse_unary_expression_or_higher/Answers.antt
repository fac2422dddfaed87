use Rattle.std.proofs.Common.{refl, sym, ◌∙◌}
use Rattle.js_base.specs.Kinds.{one_of_kinds}
use Rattle.parse_shared.specs.laws_shared.Operators.{unary_kinds}
use Rattle.parse_shared.proofs.laws_shared.Escapes.{no_name_where, plain_here, word_plain}
use Rattle.parse_primary.proofs.laws_primary.Operands.{unary_listed}
use Rattle.parse_shared.proofs.laws_shared.Phrases.{unary_escaped, unary_result}
use Rattle.laws_operators.proofs.Awaits.{not_awaiting}
use Rattle.std.proofs.lemmas.Bool.{false≢true, and_parts}
use Rattle.parse_operators.proofs.unary.parse_unary_expression_or_higher.Goals as goal

pub returns-then-escaped_word_stands : goal.returns-then-escaped_word_stands
returns-then-escaped_word_stands t c = λ text f a. unary_escaped _ c.parse_update_expression.result a (and_parts c.args.p.now.token.escaped _ (sym c.escaped_word_stands.ensures ∙ c.if-escaped_word_stands.true)).0 (c.parse_update_expression.ensures text f a)

pub parse_unary_expression-requires-clause-operator : goal.parse_unary_expression-requires-clause-operator
parse_unary_expression-requires-clause-operator t c = unary_listed c.cur_kind.ensures c.is_unary_operator.ensures c.if-is_unary_operator.true

pub returns : goal.returns
returns t c = λ text f a. unary_result _ c.parse_update_expression-2.result a (unary_listed c.cur_kind.ensures c.is_unary_operator.ensures c.if-is_unary_operator.false) (not_awaiting a (λ h. false≢true (sym c.if-begins_await.false ∙ c.begins_await.ensures.1 h))) (c.parse_update_expression-2.ensures text f a)

pub parse_await_expression-requires-clause-word : goal.parse_await_expression-requires-clause-word
parse_await_expression-requires-clause-word t c = c.begins_await.ensures.0 c.if-begins_await.true

pub parse_unary_expression-requires-clause-plain : goal.parse_unary_expression-requires-clause-plain
parse_unary_expression-requires-clause-plain t c = word_plain _ _ (no_name_where (one_of_kinds unary_kinds) c.args.p.now.token.kind (unary_listed c.cur_kind.ensures c.is_unary_operator.ensures c.if-is_unary_operator.true) refl) (sym c.escaped_word_stands.ensures ∙ c.if-escaped_word_stands.false)

pub parse_await_expression-requires-clause-plain : goal.parse_await_expression-requires-clause-plain
parse_await_expression-requires-clause-plain t c = (plain_here c.args.p.now (c.begins_await.ensures.0 c.if-begins_await.true).kind refl c.escaped_word_stands.ensures c.if-escaped_word_stands.false).1
