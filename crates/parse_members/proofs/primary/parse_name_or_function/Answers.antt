use Rattle.std.proofs.Common.{◌≡◌, ap, arith, sym, subst, true}
use Rattle.js_base.specs.Kinds.{one_of_kinds}
use Rattle.js_base.specs.KindSets.{identifier_name_kinds}
use Rattle.std.specs.Prelude.{MatchResult}
use Rattle.js_grammar.specs.Productions.{at, Primary}
use Rattle.parse_shared.specs.js_tree.declared.kind.NodeKind.TheVariants as node
use Rattle.parse_shared.specs.js_tree.declared.op.Op.TheVariants as op
use Rattle.parse_shared.specs.js_cursor.Moves.{OnlyMemory}
use Rattle.parse_shared.specs.js_cursor.Parsers.{Parser}
use Rattle.parse_shared.specs.laws_shared.Answers.{Outcome}
use Rattle.parse_shared.specs.laws_shared.Moves.{IsWholeHere, TakesLeaf}
use Rattle.parse_shared.specs.laws_shared.Nesting.{room}
use Rattle.parse_shared.proofs.laws_shared.Nesting.{nests_later}
use Rattle.parse_shared.specs.laws_shared.States.{At, Standing}
use Rattle.parse_shared.proofs.laws_shared.NameKinds.{listed_here, name_at, name_whole}
use Rattle.parse_shared.proofs.laws_shared.NodeTexts.{name_word}
use Rattle.parse_primary.proofs.laws_primary.AsyncWords.{begun_at, found_so}
use Rattle.parse_primary.proofs.laws_primary.Operands.{name_outcome}
use Rattle.parse_members.proofs.primary.parse_name_or_function.Goals as goal

pub parse_function_expression-requires-clause-at : goal.parse_function_expression-requires-clause-at
parse_function_expression-requires-clause-at g c = subst (λ (v : Parser). Standing v) (sym (found_so c.args.p.now c.function_stands.new.p c.if-branch.true c.in_ok-function_stands.ensures).0) c.requires.at

pub parse_function_expression-requires-clause-nests : goal.parse_function_expression-requires-clause-nests
parse_function_expression-requires-clause-nests g c = nests_later c.requires.nests (let e = ap room (found_so c.args.p.now c.function_stands.new.p c.if-branch.true c.in_ok-function_stands.ensures).0 in omega arith)

pub parse_function_expression-requires-clause-word : goal.parse_function_expression-requires-clause-word
parse_function_expression-requires-clause-word g c = begun_at (found_so c.args.p.now c.function_stands.new.p c.if-branch.true c.in_ok-function_stands.ensures)

pub returns-then-branch : goal.returns-then-branch
returns-then-branch g c = λ text f a.
    let s = (found_so c.args.p.now c.function_stands.new.p c.if-branch.true c.in_ok-function_stands.ensures) in
    subst (λ (v : Parser). Outcome text f (at Primary f) v c.parse_function_expression.new.p c.parse_function_expression.result) s.0 (c.parse_function_expression.ensures text f (subst (λ (v : Parser). At text f v) (sym s.0) a))

pub parse_name-requires-clause-at : goal.parse_name-requires-clause-at
parse_name-requires-clause-at g c = subst (λ (v : Parser). Standing v) (sym (found_so c.args.p.now c.function_stands.new.p c.if-branch.false c.in_ok-function_stands.ensures).0) c.requires.at

pub parse_name-requires-clause-whole : goal.parse_name-requires-clause-whole
parse_name-requires-clause-whole g c = subst (λ (v : Parser). IsWholeHere v) (sym (found_so c.args.p.now c.function_stands.new.p c.if-branch.false c.in_ok-function_stands.ensures).0) (name_whole c.requires.at (listed_here c.args.p.now c.requires.name))

pub parse_name-requires-clause-word : goal.parse_name-requires-clause-word
parse_name-requires-clause-word g c = subst (λ (v : Parser). one_of_kinds identifier_name_kinds v.token.kind ≡ true) (sym (found_so c.args.p.now c.function_stands.new.p c.if-branch.false c.in_ok-function_stands.ensures).0) (name_word c.args.p.now.token.kind (listed_here c.args.p.now c.requires.name))

pub returns : goal.returns
returns g c = λ text f a.
    let s = found_so c.args.p.now c.function_stands.new.p c.if-branch.false c.in_ok-function_stands.ensures in
    let n = name_at true a c.requires.name in
    name_outcome c.parse_name.new.p c.parse_name.result a n s.1 (subst (λ (v : Parser). MatchResult c.parse_name.result (λ id. TakesLeaf node.IdentifierReference op.None v c.parse_name.new.p id) OnlyMemory) s.0 c.parse_name.ensures)
