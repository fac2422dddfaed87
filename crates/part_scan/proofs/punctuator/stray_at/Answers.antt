use Rattle.part_scan.proofs.PunctuatorLexemes.{binary, stray}
use Rattle.part_scan.proofs.punctuator.stray_at.Goals as goal

pub returns-in-Some : goal.returns-in-Some
returns-in-Some c = binary c.requires.boundary c.requires.opens c.requires.none c.in-Some.ensures c.if-next-eq65533.true

pub returns-in-Some-2 : goal.returns-in-Some-2
returns-in-Some-2 c = stray c.requires.boundary c.requires.opens c.requires.none c.in-Some.ensures c.if-next-eq65533.false
