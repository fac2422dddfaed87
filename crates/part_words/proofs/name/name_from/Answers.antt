use Rattle.js_grammar.proofs.LongestLemmas.{not-true}
use Rattle.part_words.proofs.NameWords.{ascii-whole}
use Rattle.part_words.proofs.name.name_from.Goals as goal

pub ascii_name-requires-clause-name : goal.ascii_name-requires-clause-name
ascii_name-requires-clause-name c = ascii-whole c.requires.first c.if-first-lt128.true (not-true c.args.first.escaped c.if-not-first.true) c.ascii_parts_end-end.ensures
