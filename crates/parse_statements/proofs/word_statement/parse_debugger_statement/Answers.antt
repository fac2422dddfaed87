use Rattle.std.proofs.Common.{◌∙◌, refl, arith}
use Rattle.std.proofs.lemmas.Result.{err_from_is_err_and}
use Rattle.js_base.specs.declared.kind.Kind.TheVariants.{Debugger}
use Rattle.parse_shared.proofs.laws_shared.Moving.{standing, stops_behind}
use Rattle.parse_control.proofs.laws_statements.Statements.{ended_so}
use Rattle.parse_shared.proofs.laws_shared.Verdicts.{grown_then}
use Rattle.parse_control.proofs.laws_statements.WordStatements.{debugger_answers, debugger_unended, word_here}
use Rattle.parse_statements.proofs.word_statement.parse_debugger_statement.Goals as goal

pub advance-requires-clause-whole : goal.advance-requires-clause-whole
advance-requires-clause-whole g c = word_here Debugger c.requires.at c.requires.word refl

pub end_statement-requires : goal.end_statement-requires
end_statement-requires g c = standing (c.in_ok-advance.ensures _ _ c.requires.at).at

pub returns-in_err-end_statement : goal.returns-in_err-end_statement
returns-in_err-end_statement g c = λ b text f a.
    let p = err_from_is_err_and c.from_residual-in_err-end_statement.result c.from_residual-in_err-end_statement.ensures.1 in
    let m = c.in_ok-advance.ensures text f a in
    rw (p.1, p.2) (stops_behind _ _ m.same (λ k. grown_then m.kept k) (λ n. debugger_unended a c.requires.word m b n) c.in_err-end_statement.ensures)

pub end_span-span-requires : goal.end_span-span-requires
end_span-span-requires g c =
    let m = c.in_ok-advance.ensures _ _ c.requires.at in
    let z = ended_so m.at c.in_ok-end_statement.ensures in
    let a = m.further in let b = z.further in let s = c.cur_start-start.ensures in omega arith

pub returns : goal.returns
returns g c = λ b text f a. debugger_answers a c.requires.word (c.in_ok-advance.ensures text f a) b _ c.in_ok-end_statement.ensures (c.end_span-span.ensures.start ∙ c.cur_start-start.ensures) c.end_span-span.ensures.end c.in_ok-node.ensures
