use Rattle.std.proofs.Common.{sym, ◌∙◌}
use Rattle.js_core.proofs.parse.parse_statement_list_item.Goals as goal

pub returns-then-is_single_statement : goal.returns-then-is_single_statement
returns-then-is_single_statement c = rw (sym c.is_single_statement.ensures ∙ c.if-is_single_statement.true) c.parse.ensures

pub returns : goal.returns
returns c = rw (sym c.is_single_statement.ensures ∙ c.if-is_single_statement.false) c.parse-2.ensures
