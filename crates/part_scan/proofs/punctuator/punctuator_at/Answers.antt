use Rattle.std.proofs.Common.{sym}
use Rattle.part_scan.proofs.PunctuatorLexemes.{scanned, unterminated}
use Rattle.part_scan.proofs.punctuator.punctuator_at.Goals as goal

pub returns-then-opens_comment : goal.returns-then-opens_comment
returns-then-opens_comment c = unterminated c.utf8.text c.requires.boundary (sym c.if-opens_comment.ensures) c.requires.no_comment

pub returns-in-Some : goal.returns-in-Some
returns-in-Some c = scanned c.requires.opens c.in-Some.ensures.is
