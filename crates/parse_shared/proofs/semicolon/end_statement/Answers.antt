use Rattle.std.proofs.Common.{sym, ◌∙◌}
use Rattle.laws_shared.proofs.Semicolons.{end_answers, link_ends}
use Rattle.parse_shared.proofs.semicolon.end_statement.Goals as goal

pub returns-then-has_link_on_new_line : goal.returns-then-has_link_on_new_line
returns-then-has_link_on_new_line t c = link_ends _ _ c.set_unexpected.result c.requires (sym c.has_link_on_new_line.ensures ∙ c.if-has_link_on_new_line.true) c.set_unexpected.ensures

pub returns : goal.returns
returns t c = end_answers _ _ c.asi.result c.requires (sym c.has_link_on_new_line.ensures ∙ c.if-has_link_on_new_line.false) c.asi.ensures
