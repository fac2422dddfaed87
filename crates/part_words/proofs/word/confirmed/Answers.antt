use Rattle.std.proofs.Common.{sym, ◌∙◌}
use Rattle.part_words.proofs.Words.{candidate_word, another_word}
use Rattle.part_words.proofs.word.confirmed.Goals as goal

pub returns-then-eq : goal.returns-then-eq
returns-then-eq c = candidate_word c.args.kind c.written.result.now c.args.word.now c.requires c.written.ensures (sym c.eq.ensures ∙ c.if-eq.true)

pub returns-else-eq : goal.returns-else-eq
returns-else-eq c = another_word c.args.kind c.written.result.now c.args.word.now c.requires c.written.ensures (sym c.eq.ensures ∙ c.if-eq.false)
