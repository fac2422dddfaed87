use Rattle.std.proofs.Common.{false, ap, arith, subst, sym, ◌∙◌}
use Rattle.js_base.specs.Contexts.{has_flag, in_flag}
use Rattle.js_base.specs.declared.kind.Kind.TheVariants.{Const}
use Rattle.parse_shared.specs.js_cursor.Parsers.{Parser}
use Rattle.js_grammar.specs.Productions.{at, Sub}
use Rattle.parse_shared.specs.laws_shared.Nesting.{room}
use Rattle.parse_shared.specs.laws_shared.Stands.{StandsHere}
use Rattle.parse_shared.specs.laws_shared.States.{Standing}
use Rattle.parse_shared.proofs.laws_shared.Nesting.{nests_later}
use Rattle.parse_primary.specs.laws_primary.Functions.{NoFunctionHere}
use Rattle.parse_primary.proofs.laws_primary.AsyncWords.{begun_at, found_so}
use Rattle.parse_control.specs.laws_statements.LetStatements.{NoLet}
use Rattle.parse_control.proofs.laws_statements.LetStatements.{found_lexical, none_found, taken_from}
use Rattle.parse_statements.proofs.statement.parse_statement.Goals as goal

pub returns-in-Some : goal.returns-in-Some
returns-in-Some g c = taken_from (at Sub) c.args.p.now c.lexical_kind.new.p _ _ (found_lexical false c.args.p.now c.lexical_kind.new.p _ _ c.in-Some.is c.in_ok-kind.ensures).0 c.parse_lexical_body.ensures.taken

pub function_stands-requires : goal.function_stands-requires
function_stands-requires g c = let z = none_found false c.args.p.now c.lexical_kind.new.p _ c.in_default.is c.in_ok-kind.ensures in subst (λ (v : Parser). Standing v) (sym z.0) c.requires.at

pub parse_function_as_body-requires-clause-at : goal.parse_function_as_body-requires-clause-at
parse_function_as_body-requires-clause-at g c = let z = none_found false c.args.p.now c.lexical_kind.new.p _ c.in_default.is c.in_ok-kind.ensures in let s = found_so c.lexical_kind.new.p c.function_stands.new.p c.if-branch.true c.in_ok-function_stands.ensures in subst (λ (v : Parser). Standing v) (sym (s.0 ∙ z.0)) c.requires.at

pub parse_function_as_body-requires-clause-nests : goal.parse_function_as_body-requires-clause-nests
parse_function_as_body-requires-clause-nests g c = let z = none_found false c.args.p.now c.lexical_kind.new.p _ c.in_default.is c.in_ok-kind.ensures in let s = found_so c.lexical_kind.new.p c.function_stands.new.p c.if-branch.true c.in_ok-function_stands.ensures in nests_later c.requires.nests (let e = ap room (s.0 ∙ z.0) in omega arith)

pub parse_function_as_body-requires-clause-word : goal.parse_function_as_body-requires-clause-word
parse_function_as_body-requires-clause-word g c = begun_at (found_so c.lexical_kind.new.p c.function_stands.new.p c.if-branch.true c.in_ok-function_stands.ensures)

pub returns-then-branch : goal.returns-then-branch
returns-then-branch g c = let z = none_found false c.args.p.now c.lexical_kind.new.p _ c.in_default.is c.in_ok-kind.ensures in let s = found_so c.lexical_kind.new.p c.function_stands.new.p c.if-branch.true c.in_ok-function_stands.ensures in taken_from (at Sub) c.args.p.now c.function_stands.new.p _ _ (s.0 ∙ z.0) c.parse_function_as_body.ensures

pub parse_class_as_body-requires-clause-at : goal.parse_class_as_body-requires-clause-at
parse_class_as_body-requires-clause-at g c = let z = none_found false c.args.p.now c.lexical_kind.new.p _ c.in_default.is c.in_ok-kind.ensures in let s = found_so c.lexical_kind.new.p c.function_stands.new.p c.if-branch.false c.in_ok-function_stands.ensures in subst (λ (v : Parser). Standing v) (sym (s.0 ∙ z.0)) c.requires.at

pub parse_class_as_body-requires-clause-nests : goal.parse_class_as_body-requires-clause-nests
parse_class_as_body-requires-clause-nests g c = let z = none_found false c.args.p.now c.lexical_kind.new.p _ c.in_default.is c.in_ok-kind.ensures in let s = found_so c.lexical_kind.new.p c.function_stands.new.p c.if-branch.false c.in_ok-function_stands.ensures in nests_later c.requires.nests (let e = ap room (s.0 ∙ z.0) in omega arith)

pub parse_class_as_body-requires-clause-class : goal.parse_class_as_body-requires-clause-class
parse_class_as_body-requires-clause-class g c = c.class_stands.ensures ∙ c.if-class_stands.true

pub returns-then-class_stands : goal.returns-then-class_stands
returns-then-class_stands g c = let z = none_found false c.args.p.now c.lexical_kind.new.p _ c.in_default.is c.in_ok-kind.ensures in let s = found_so c.lexical_kind.new.p c.function_stands.new.p c.if-branch.false c.in_ok-function_stands.ensures in taken_from (at Sub) c.args.p.now c.function_stands.new.p _ _ (s.0 ∙ z.0) c.parse_class_as_body.ensures

pub parse_any_statement-requires-clause-no_class : goal.parse_any_statement-requires-clause-no_class
parse_any_statement-requires-clause-no_class g c = c.class_stands.ensures ∙ c.if-class_stands.false

pub parse_any_statement-requires-clause-at : goal.parse_any_statement-requires-clause-at
parse_any_statement-requires-clause-at g c = let z = none_found false c.args.p.now c.lexical_kind.new.p _ c.in_default.is c.in_ok-kind.ensures in let s = found_so c.lexical_kind.new.p c.function_stands.new.p c.if-branch.false c.in_ok-function_stands.ensures in subst (λ (v : Parser). Standing v) (sym (s.0 ∙ z.0)) c.requires.at

pub parse_any_statement-requires-clause-nests : goal.parse_any_statement-requires-clause-nests
parse_any_statement-requires-clause-nests g c = let z = none_found false c.args.p.now c.lexical_kind.new.p _ c.in_default.is c.in_ok-kind.ensures in let s = found_so c.lexical_kind.new.p c.function_stands.new.p c.if-branch.false c.in_ok-function_stands.ensures in nests_later c.requires.nests (let e = ap room (s.0 ∙ z.0) in omega arith)

pub parse_any_statement-requires-clause-allows_in : goal.parse_any_statement-requires-clause-allows_in
parse_any_statement-requires-clause-allows_in g c = let z = none_found false c.args.p.now c.lexical_kind.new.p _ c.in_default.is c.in_ok-kind.ensures in let s = found_so c.lexical_kind.new.p c.function_stands.new.p c.if-branch.false c.in_ok-function_stands.ensures in ap (λ (v : Parser). has_flag in_flag v.ctx) (s.0 ∙ z.0) ∙ c.requires.allows_in

pub parse_any_statement-requires-clause-other : goal.parse_any_statement-requires-clause-other
parse_any_statement-requires-clause-other g c = let z = none_found false c.args.p.now c.lexical_kind.new.p _ c.in_default.is c.in_ok-kind.ensures in let s = found_so c.lexical_kind.new.p c.function_stands.new.p c.if-branch.false c.in_ok-function_stands.ensures in subst (λ (v : Parser). StandsHere v Const false) (sym (s.0 ∙ z.0)) z.1

pub parse_any_statement-requires-clause-no_function : goal.parse_any_statement-requires-clause-no_function
parse_any_statement-requires-clause-no_function g c = let s = found_so c.lexical_kind.new.p c.function_stands.new.p c.if-branch.false c.in_ok-function_stands.ensures in subst (λ (v : Parser). NoFunctionHere v) (sym s.0) s.1

pub returns : goal.returns
returns g c = let z = none_found false c.args.p.now c.lexical_kind.new.p _ c.in_default.is c.in_ok-kind.ensures in let s = found_so c.lexical_kind.new.p c.function_stands.new.p c.if-branch.false c.in_ok-function_stands.ensures in taken_from (at Sub) c.args.p.now c.function_stands.new.p _ _ (s.0 ∙ z.0) (c.parse_any_statement.ensures false (subst (λ (v : Parser). NoLet false v) (sym (s.0 ∙ z.0)) z.2))
