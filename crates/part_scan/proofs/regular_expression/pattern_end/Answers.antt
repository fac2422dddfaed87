use Rattle.part_scan.proofs.RegularExpressionParts.{read_on, read_end}
use Rattle.part_scan.proofs.regular_expression.pattern_end.Goals as goal

pub pattern-preserved : goal.pattern-preserved
pattern-preserved c = read_on c.pattern.invariant c.in-Some.ensures c.in-On.ensures

pub returns-in-Ends : goal.returns-in-Ends
returns-in-Ends c = read_end c.pattern.invariant c.in-Some.ensures c.in-Ends.ensures
