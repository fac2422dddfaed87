use Rattle.part_scan.proofs.TemplateLexemes.{is_template, no_template_ends}
use Rattle.part_scan.proofs.template.template_at.Goals as goal

pub returns-in-Some : goal.returns-in-Some
returns-in-Some c = is_template c.part_of.ensures c.requires.opening c.in-Some.ensures

pub returns-in-None : goal.returns-in-None
returns-in-None c = no_template_ends c.unterminated.ensures c.requires.boundary c.requires.opening c.in-None.ensures
