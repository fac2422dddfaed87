use Rattle.std.proofs.Common.{ap, ◌∙◌}
use Rattle.parse_shared.specs.js_cursor.Parsers.{Parser}
use Rattle.laws_operators.proofs.HeadContexts.{head_stands_at, tries_back}
use Rattle.parse_arrows.proofs.arrow.try_parse_head.Goals as goal

pub try_parse_parameters-requires-clause-at : goal.try_parse_parameters-requires-clause-at
try_parse_parameters-requires-clause-at g c = head_stands_at c.args.is_async c.requires.at c.context-outer.ensures c.in_head.ensures c.set_context.ensures

pub try_parse_parameters-requires-clause-open : goal.try_parse_parameters-requires-clause-open
try_parse_parameters-requires-clause-open g c = ap (λ (z : Parser). z.token.kind) c.set_context.ensures ∙ c.requires.open

pub returns : goal.returns
returns g c = tries_back c.args.is_async c.requires.at c.context-outer.ensures c.in_head.ensures c.set_context.ensures c.try_parse_parameters.new.p c.set_context-2.ensures _ c.in_ok-found.ensures
