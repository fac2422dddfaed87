use Rattle.std.proofs.Common.{sym}
use Rattle.part_words.proofs.Places.{goes_step, goes_stop, goes_all}
use Rattle.part_words.proofs.place.goes_on.Goals as goal

pub returns-in_default-2-clause-is : goal.returns-in_default-2-clause-is
returns-in_default-2-clause-is c = sym (goes_stop c.args.text.now c.args.characters.now c.args.at c.loop-character.end c.loop-character.character-index c.byte_at.result c.requires.ascii c.loop-character-test.true c.byte_at.ensures (λ e. let n = c.in_default.is in cc) c.loop-character.invariant.1)

pub loop-character-preserved : goal.loop-character-preserved
loop-character-preserved c = goes_step _ _ _ _ _ c.in-Some.byte c.requires.ascii c.loop-character-test.true c.if-byte-character.true c.in-Some.ensures c.loop-character.invariant.0 c.loop-character.invariant.1

pub returns-clause-word : goal.returns-clause-word
returns-clause-word c = λ t. goes_all _ _ _ _ _ c.requires.ascii c.loop-character-test.false c.loop-character.invariant.0
