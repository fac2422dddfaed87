use Rattle.std.proofs.Common.{sym, ◌∙◌}
use Rattle.part_words.proofs.Words.{short_enough}
use Rattle.part_words.proofs.word.candidate.Goals as goal

pub returns-then-word-le11 : goal.returns-then-word-le11
returns-then-word-le11 c = c.word_in.ensures ∙ sym (short_enough c.args.word.now c.if-word-ge2.true c.if-word-le11.true)
