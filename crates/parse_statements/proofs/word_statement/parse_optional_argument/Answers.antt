use Rattle.std.proofs.Common.{◌∙◌, sym, refl}
use Rattle.std.proofs.lemmas.Bool.{false≢true}
use Rattle.std.proofs.lemmas.Result.{err_from_is_err_and}
use Rattle.parse_statements.proofs.word_statement.parse_optional_argument.Goals as goal

pub returns-then-can_insert_semicolon : goal.returns-then-can_insert_semicolon
returns-then-can_insert_semicolon g c = (c.can_insert_semicolon.ensures.0 c.if-can_insert_semicolon.true, refl)

pub returns-in_err-argument : goal.returns-in_err-argument
returns-in_err-argument g c =
    let p = err_from_is_err_and c.from_residual.result c.from_residual.ensures.1 in
    rw (p.1, p.2) (λ m. false≢true (sym c.if-can_insert_semicolon.false ∙ c.can_insert_semicolon.ensures.1 m), c.in_err-argument.ensures.answers)

pub returns : goal.returns
returns g c = (λ m. false≢true (sym c.if-can_insert_semicolon.false ∙ c.can_insert_semicolon.ensures.1 m), c.in_ok-argument.ensures.answers)
