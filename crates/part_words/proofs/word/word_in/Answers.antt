use Rattle.std.proofs.Common.{refl}
use Rattle.part_words.proofs.word.word_in.Goals as goal

pub returns : goal.returns
returns c = refl
