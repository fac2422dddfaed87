use Rattle.std.proofs.Common.{sym, ◌∙◌}
use Rattle.std.proofs.lemmas.Bool.{false≢true}
use Rattle.parse_shared.proofs.laws_shared.Beginning.{begins}
use Rattle.js_core.proofs.Readings.{program_answers}
use Rattle.js_core.proofs.program.parse_program.Goals as goal

pub parse_directives_and_statements-requires-clause-at : goal.parse_directives_and_statements-requires-clause-at
parse_directives_and_statements-requires-clause-at c = begins c.requires.1 (λ e. false≢true (sym c.if-at.false ∙ c.at.ensures.1 e))

pub returns : goal.returns
returns c = program_answers c.requires.1 (λ e. false≢true (sym c.if-at.false ∙ c.at.ensures.1 e)) (λ v. v.items) _ c.parse_directives_and_statements.result c.parse_directives_and_statements.ensures
