use Rattle.std.proofs.Common.{sym, ◌∙◌}
use Rattle.part_words.proofs.NameWords.{ascii-opened}
use Rattle.part_words.proofs.name.ascii_name_end.Goals as goal

pub returns-then-ends_ascii : goal.returns-then-ends_ascii
returns-then-ends_ascii c = record {
  name = ascii-opened c.in-Some.ensures (sym c.class_of.ensures.letter ∙ sym c.is_letter.ensures ∙ c.if-is_letter.true) c.ascii_parts_end-end.ensures;
  ends = c.ends_ascii.ensures c.if-ends_ascii.true;
}
