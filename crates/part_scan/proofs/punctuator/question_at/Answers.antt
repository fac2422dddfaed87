use Rattle.part_scan.proofs.PunctuatorScans.{two_questions, two_questions_is, question_dot, question_alone, question_before_number}
use Rattle.part_scan.proofs.punctuator.question_at.Goals.{else-is_at-2-via-then-is_at-2+else-not-digit_at, else-is_at-2-via-else-is_at-2}
use Rattle.part_scan.proofs.punctuator.question_at.Goals as goal

pub longer_than_two-requires-clause-word : goal.longer_than_two-requires-clause-word
longer_than_two-requires-clause-word c = two_questions c.requires c.if-is_at.ensures

pub longer_than_two-requires-clause-kind : goal.longer_than_two-requires-clause-kind
longer_than_two-requires-clause-kind c = two_questions_is

pub returns-then-not-digit_at : goal.returns-then-not-digit_at
returns-then-not-digit_at c = question_dot c.requires c.if-is_at-2.ensures c.if-not-digit_at.ensures

pub returns-else-is_at-2 : goal.returns-else-is_at-2
returns-else-is_at-2 c = elim c.else-is_at-2.branch [
  | else-is_at-2-via-then-is_at-2+else-not-digit_at w ↦ question_before_number c.requires w.if-is_at-2.ensures w.if-not-digit_at.ensures
  | else-is_at-2-via-else-is_at-2 w ↦ question_alone c.requires c.if-is_at.ensures w.if-is_at-2.ensures
]
