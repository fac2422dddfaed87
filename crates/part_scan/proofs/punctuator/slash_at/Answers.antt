use Rattle.part_scan.proofs.PunctuatorScans.{slash_equals, slash_alone}
use Rattle.part_scan.proofs.punctuator.slash_at.Goals as goal

pub returns-then-is_at : goal.returns-then-is_at
returns-then-is_at c = slash_equals c.requires.word c.if-is_at.ensures

pub returns-else-is_at : goal.returns-else-is_at
returns-else-is_at c = slash_alone c.requires.word c.requires.no_comment c.if-is_at.ensures
