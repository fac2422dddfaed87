use Rattle.std.proofs.Common.{arith}
use Rattle.std.proofs.lemmas.Result.{err_from_is_err_and}
use Rattle.js_base.specs.declared.kind.Kind.TheVariants.{LParen}
use Rattle.parse_shared.proofs.laws_shared.Moving.{standing}
use Rattle.parse_shared.proofs.laws_shared.Nesting.{nests_later}
use Rattle.parse_primary.proofs.laws_primary.Members.{stands_so, taken_room}
use Rattle.parse_primary.proofs.laws_primary.DecoratorMembers.{decorated_alone, decorated_called, decorated_in_parens, decorated_stops}
use Rattle.parse_members.proofs.decorator.parse_decorator_expression.Goals as goal

pub parse_parenthesized_expression-requires-clause-kind : goal.parse_parenthesized_expression-requires-clause-kind
parse_parenthesized_expression-requires-clause-kind t c = (stands_so c.args.p.now LParen c.if-stands.true c.stands.ensures).0

pub returns-then-stands : goal.returns-then-stands
returns-then-stands t c = λ text f a. decorated_in_parens _ c.parse_parenthesized_expression.result a (stands_so c.args.p.now LParen c.if-stands.true c.stands.ensures).0 (c.parse_parenthesized_expression.ensures text f a)

pub returns-in_err-member : goal.returns-in_err-member
returns-in_err-member t c = λ text f a.
    let p = err_from_is_err_and c.from_residual.result c.from_residual.ensures.1 in
    rw (p.1, p.2) (decorated_stops a (stands_so c.args.p.now LParen c.if-stands.false c.stands.ensures) _ _ (c.in_err-member.ensures text f a))

pub returns-then-not-stands : goal.returns-then-not-stands
returns-then-not-stands t c = λ text f a. decorated_alone a (stands_so c.args.p.now LParen c.if-stands.false c.stands.ensures) (c.in_ok-member.ensures text f a) (stands_so c.parse_decorator_member.new.p LParen c.if-not-stands.true c.stands-2.ensures)

pub parse_with_arguments-requires-clause-at : goal.parse_with_arguments-requires-clause-at
parse_with_arguments-requires-clause-at t c = standing (c.in_ok-member.ensures _ _ c.requires.at).at

pub parse_with_arguments-requires-clause-nests : goal.parse_with_arguments-requires-clause-nests
parse_with_arguments-requires-clause-nests t c = nests_later c.requires.nests (taken_room c.requires.at (c.in_ok-member.ensures _ _ c.requires.at))

pub parse_with_arguments-requires-clause-start : goal.parse_with_arguments-requires-clause-start
parse_with_arguments-requires-clause-start t c = let j = (c.in_ok-member.ensures _ _ c.requires.at).further in let e = c.cur_start-start.ensures in omega arith

pub parse_with_arguments-requires-clause-open : goal.parse_with_arguments-requires-clause-open
parse_with_arguments-requires-clause-open t c = (stands_so c.parse_decorator_member.new.p LParen c.if-not-stands.false c.stands-2.ensures).0

pub returns : goal.returns
returns t c = λ text f a. decorated_called a (stands_so c.args.p.now LParen c.if-stands.false c.stands.ensures) (c.in_ok-member.ensures text f a) (stands_so c.parse_decorator_member.new.p LParen c.if-not-stands.false c.stands-2.ensures) _ c.parse_with_arguments.result c.cur_start-start.ensures c.parse_with_arguments.ensures
