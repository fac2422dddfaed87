use Rattle.std.proofs.Common.{true}
use Rattle.laws_statements.proofs.LetStatements.{lexical_outcome, lexical_word}
use Rattle.parse_control.proofs.declaration_statement.parse_lexical_declaration.Goals as goal

pub parse_declaration-requires-clause-word : goal.parse_declaration-requires-clause-word
parse_declaration-requires-clause-word g c = lexical_word true c.args.kind c.args.p.now c.requires.begins

pub returns : goal.returns
returns g c = λ text f a. lexical_outcome c.args.kind a c.requires.begins _ c.parse_declaration.result c.parse_declaration.ensures
