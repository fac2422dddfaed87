use Rattle.laws_statements.proofs.DeclarationStatements.{var_outcome}
use Rattle.parse_control.proofs.declaration_statement.parse_variable_statement.Goals as goal

pub returns : goal.returns
returns g c = λ b text f a. var_outcome a c.requires.word b _ c.parse_declaration.result c.parse_declaration.ensures
