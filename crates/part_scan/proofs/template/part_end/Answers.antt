use Rattle.part_scan.proofs.TemplateParts.{read_on, read_end, read_all}
use Rattle.part_scan.proofs.template.part_end.Goals as goal

pub part-preserved : goal.part-preserved
part-preserved c = read_on c.part.invariant c.in-Some.ensures c.in-On.ensures

pub returns-in-Ends : goal.returns-in-Ends
returns-in-Ends c = read_end c.part.invariant c.in-Some.ensures c.in-Ends.ensures

pub returns : goal.returns
returns c = read_all c.utf8.text c.part.invariant c.in_default.ensures
