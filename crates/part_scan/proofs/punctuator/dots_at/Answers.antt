use Rattle.part_scan.proofs.PunctuatorScans.{three_dots, dot_alone, dot_before_one}
use Rattle.part_scan.proofs.punctuator.dots_at.Goals.{else-is_at-via-then-is_at+else-is_at-2, else-is_at-via-else-is_at}
use Rattle.part_scan.proofs.punctuator.dots_at.Goals as goal

pub returns-then-is_at-2 : goal.returns-then-is_at-2
returns-then-is_at-2 c = three_dots c.requires c.if-is_at.ensures c.if-is_at-2.ensures

pub returns-else-is_at : goal.returns-else-is_at
returns-else-is_at c = elim c.else-is_at.branch [
  | else-is_at-via-then-is_at+else-is_at-2 w ↦ dot_before_one c.requires w.if-is_at.ensures w.if-is_at-2.ensures
  | else-is_at-via-else-is_at w ↦ dot_alone c.requires w.if-is_at.ensures
]
