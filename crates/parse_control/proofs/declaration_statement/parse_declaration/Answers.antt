use Rattle.std.proofs.Common.{arith, ◌∙◌}
use Rattle.std.proofs.lemmas.Result.{err_from_is_err_and}
use Rattle.parse_shared.proofs.laws_shared.Moving.{standing, stops_behind}
use Rattle.parse_shared.proofs.laws_shared.Nesting.{later_room, nests_later}
use Rattle.parse_shared.proofs.laws_shared.Verdicts.{grown_then}
use Rattle.laws_statements.proofs.Statements.{ended_so, in_of}
use Rattle.laws_statements.proofs.DeclarationStatements.{declaration_answers, declaration_grown, declaration_none, declaration_same, declaration_unended, declaration_whole}
use Rattle.parse_control.proofs.declaration_statement.parse_declaration.Goals as goal

pub advance-requires-clause-whole : goal.advance-requires-clause-whole
advance-requires-clause-whole g c = declaration_whole c.args.kind c.requires.at c.requires.word

pub parse_declarators-requires-clause-at : goal.parse_declarators-requires-clause-at
parse_declarators-requires-clause-at g c = standing (c.in_ok-advance.ensures _ _ c.requires.at).at

pub parse_declarators-requires-clause-nests : goal.parse_declarators-requires-clause-nests
parse_declarators-requires-clause-nests g c =
    let m = c.in_ok-advance.ensures _ _ c.requires.at in
    nests_later c.requires.nests (later_room (let i = m.further in let j = c.requires.at.behind in omega arith) m.same)

pub returns-in_err-declarators : goal.returns-in_err-declarators
returns-in_err-declarators g c =
    let p = err_from_is_err_and c.from_residual-in_err-declarators.result c.from_residual-in_err-declarators.ensures.1 in
    rw (p.1, p.2) (λ text f a.
    let m = c.in_ok-advance.ensures text f a in
    stops_behind _ _ m.same (λ d. grown_then m.kept d) (λ n. declaration_none c.args.kind a c.requires.word m n) (c.in_err-declarators.ensures text f m.at))

pub end_statement-requires : goal.end_statement-requires
end_statement-requires g c = standing (c.in_ok-declarators.ensures _ _ (c.in_ok-advance.ensures _ _ c.requires.at).at).at

pub returns-in_err-end_statement : goal.returns-in_err-end_statement
returns-in_err-end_statement g c =
    let p = err_from_is_err_and c.from_residual-in_err-end_statement.result c.from_residual-in_err-end_statement.ensures.1 in
    rw (p.1, p.2) (λ text f a.
    let m = c.in_ok-advance.ensures text f a in
    let x = c.in_ok-declarators.ensures text f m.at in
    stops_behind _ _ (declaration_same c.args.kind a c.requires.word m x) (λ d. declaration_grown c.args.kind a c.requires.word m x d) (λ n. declaration_unended c.args.kind a c.requires.word m x n) c.in_err-end_statement.ensures)

pub end_span-span-requires : goal.end_span-span-requires
end_span-span-requires g c =
    let m = c.in_ok-advance.ensures _ _ c.requires.at in
    let x = c.in_ok-declarators.ensures _ _ m.at in
    let z = ended_so x.at c.in_ok-end_statement.ensures in
    let a = m.further in let b = z.further in let d = x.further in let s = c.cur_start-start.ensures in omega arith

pub returns : goal.returns
returns g c = λ text f a.
    let m = c.in_ok-advance.ensures text f a in
    let x = c.in_ok-declarators.ensures text f m.at in
    declaration_answers c.args.kind a c.requires.word m x _ (in_of a c.requires.allows_in) c.in_ok-end_statement.ensures (c.end_span-span.ensures.start ∙ c.cur_start-start.ensures) c.end_span-span.ensures.end c.in_ok-node.ensures
