use Rattle.std.proofs.Common.{◌∙◌, sym}
use Rattle.std.proofs.lemmas.Bool.{false≢true}
use Rattle.std.proofs.lemmas.Result.{err_from_is_err_and}
use Rattle.parse_shared.proofs.laws_shared.Moving.{standing}
use Rattle.parse_shared.proofs.laws_shared.Nesting.{nested_room}
use Rattle.parse_control.proofs.laws_statements.SwitchStatements.{case_outcome, case_refused, default_outcome, test_memory, word_whole}
use Rattle.parse_statements.proofs.switch_statement.parse_test.Goals as goal

pub advance-requires-clause-whole : goal.advance-requires-clause-whole
advance-requires-clause-whole t c = word_whole c.requires.at c.requires.begins

pub returns-in_err-advance : goal.returns-in_err-advance
returns-in_err-advance t c =
    let p = err_from_is_err_and c.from_residual.result c.from_residual.ensures.1 in
    rw (p.1, p.2) (test_memory c.args.p.now c.advance.new.p _ c.in_err-advance.ensures)

pub returns-then-is_default : goal.returns-then-is_default
returns-then-is_default t c = default_outcome _ _ (c.at-is_default.ensures.0 c.if-is_default.true) c.in_ok-advance.ensures

pub expression-requires : goal.expression-requires
expression-requires t c = let m = c.in_ok-advance.ensures _ _ c.requires.at in c.requires.nests _ _ (standing m.at) (nested_room c.requires.at m)

pub returns-in_err-test : goal.returns-in_err-test
returns-in_err-test t c =
    let p = err_from_is_err_and c.from_residual-in_err-test.result c.from_residual-in_err-test.ensures.1 in
    rw (p.1, p.2) (case_refused c.args.p.now c.advance.new.p c.expression.new.p _ (λ e. false≢true (sym c.if-is_default.false ∙ c.at-is_default.ensures.1 e)) c.in_ok-advance.ensures c.in_err-test.ensures)

pub returns : goal.returns
returns t c = case_outcome c.args.p.now c.advance.new.p c.expression.new.p (λ e. false≢true (sym c.if-is_default.false ∙ c.at-is_default.ensures.1 e)) c.in_ok-advance.ensures c.in_ok-test.ensures
