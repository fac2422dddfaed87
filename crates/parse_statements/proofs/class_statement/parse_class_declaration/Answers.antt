use Rattle.parse_control.proofs.laws_statements.ClassStatements.{class_item}
use Rattle.parse_statements.proofs.class_statement.parse_class_declaration.Goals as goal

pub returns : goal.returns
returns g c = λ text f a. class_item a c.requires.class _ c.parse_class.result c.parse_class.ensures.kind (c.parse_class.ensures.taken text f a)
