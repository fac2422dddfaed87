use Rattle.parse_control.proofs.laws_statements.Statements.{empty_outcome, whole_semicolon}
use Rattle.parse_statements.proofs.statement.parse_empty_statement.Goals as goal

pub parse_leaf-requires-clause-whole : goal.parse_leaf-requires-clause-whole
parse_leaf-requires-clause-whole t c = whole_semicolon c.requires.at c.requires.here

pub returns : goal.returns
returns t c = λ b text f a. empty_outcome a b _ c.parse_leaf.result c.requires.here c.parse_leaf.ensures
