use Rattle.std.proofs.Common.{sym, ◌∙◌}
use Rattle.part_words.proofs.Words.{no_candidate}
use Rattle.part_words.proofs.word.kind_of_word.Goals as goal

pub returns-in-Ident : goal.returns-in-Ident
returns-in-Ident c = sym (no_candidate c.args.word.now (sym c.candidate.ensures ∙ c.in-Ident.is))
