use Rattle.std.proofs.Common.{ap, arith, subst, sym, ◌∙◌}
use Rattle.js_base.specs.Contexts.{has_flag, in_flag}
use Rattle.parse_shared.specs.js_cursor.Parsers.{Parser}
use Rattle.parse_shared.specs.laws_shared.Nesting.{room}
use Rattle.parse_shared.specs.laws_shared.States.{Standing}
use Rattle.parse_shared.proofs.laws_shared.Nesting.{nests_later}
use Rattle.laws_statements.specs.ForParts.{BeginsHead, NoneBegins}
use Rattle.laws_statements.proofs.ForParts.{found_head, none_in_head, part_from}
use Rattle.parse_control.proofs.for_parts.parse_part_without_in.Goals as goal

pub parse_head_declaration-requires-clause-at : goal.parse_head_declaration-requires-clause-at
parse_head_declaration-requires-clause-at g c = let z = found_head c.args.p.now c.head_kind.new.p _ _ c.in-Some.is c.in_ok-kind.ensures in subst (λ (v : Parser). Standing v) (sym z.0) c.requires.at

pub parse_head_declaration-requires-clause-nests : goal.parse_head_declaration-requires-clause-nests
parse_head_declaration-requires-clause-nests g c = let z = found_head c.args.p.now c.head_kind.new.p _ _ c.in-Some.is c.in_ok-kind.ensures in nests_later c.requires.nests (let e = ap room z.0 in omega arith)

pub parse_head_declaration-requires-clause-no_in : goal.parse_head_declaration-requires-clause-no_in
parse_head_declaration-requires-clause-no_in g c = let z = found_head c.args.p.now c.head_kind.new.p _ _ c.in-Some.is c.in_ok-kind.ensures in ap (λ (v : Parser). has_flag in_flag v.ctx) z.0 ∙ c.requires.no_in

pub parse_head_declaration-requires-clause-begins : goal.parse_head_declaration-requires-clause-begins
parse_head_declaration-requires-clause-begins g c = let z = found_head c.args.p.now c.head_kind.new.p _ _ c.in-Some.is c.in_ok-kind.ensures in subst (λ (v : Parser). BeginsHead c.in-Some.kind v) (sym z.0) z.1

pub parse_head_expression-requires-clause-at : goal.parse_head_expression-requires-clause-at
parse_head_expression-requires-clause-at g c = let z = none_in_head c.args.p.now c.head_kind.new.p _ c.in-None.is c.in_ok-kind.ensures in subst (λ (v : Parser). Standing v) (sym z.0) c.requires.at

pub parse_head_expression-requires-clause-nests : goal.parse_head_expression-requires-clause-nests
parse_head_expression-requires-clause-nests g c = let z = none_in_head c.args.p.now c.head_kind.new.p _ c.in-None.is c.in_ok-kind.ensures in nests_later c.requires.nests (let e = ap room z.0 in omega arith)

pub parse_head_expression-requires-clause-no_in : goal.parse_head_expression-requires-clause-no_in
parse_head_expression-requires-clause-no_in g c = let z = none_in_head c.args.p.now c.head_kind.new.p _ c.in-None.is c.in_ok-kind.ensures in ap (λ (v : Parser). has_flag in_flag v.ctx) z.0 ∙ c.requires.no_in

pub parse_head_expression-requires-clause-other : goal.parse_head_expression-requires-clause-other
parse_head_expression-requires-clause-other g c = let z = none_in_head c.args.p.now c.head_kind.new.p _ c.in-None.is c.in_ok-kind.ensures in λ k. c.requires.other (ap (λ (v : Parser). v.token.kind) (sym z.0) ∙ k)

pub parse_head_expression-requires-clause-none : goal.parse_head_expression-requires-clause-none
parse_head_expression-requires-clause-none g c = let z = none_in_head c.args.p.now c.head_kind.new.p _ c.in-None.is c.in_ok-kind.ensures in subst (λ (v : Parser). NoneBegins v) (sym z.0) z.1

pub returns-in-Some : goal.returns-in-Some
returns-in-Some g c = part_from c.args.is_await c.args.p.now c.head_kind.new.p _ _ (found_head c.args.p.now c.head_kind.new.p _ _ c.in-Some.is c.in_ok-kind.ensures).0 (c.parse_head_declaration.ensures c.args.is_await)

pub returns-in-None : goal.returns-in-None
returns-in-None g c = part_from c.args.is_await c.args.p.now c.head_kind.new.p _ _ (none_in_head c.args.p.now c.head_kind.new.p _ c.in-None.is c.in_ok-kind.ensures).0 c.parse_head_expression.ensures
