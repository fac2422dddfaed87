use Rattle.js_grammar.proofs.BuiltLines.{built_in_whole}
use Rattle.js_grammar.proofs.table_laws.law_of_built_lines.Goals as goal

pub returns : goal.returns
returns c = built_in_whole
