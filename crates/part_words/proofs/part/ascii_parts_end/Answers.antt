use Rattle.std.proofs.Common.{sym, ◌∙◌}
use Rattle.part_words.proofs.NameWords.{ascii-more}
use Rattle.part_words.proofs.part.ascii_parts_end.Goals as goal

pub parts-preserved : goal.parts-preserved
parts-preserved c = ascii-more c.parts.invariant c.in-Some.ensures (sym c.is_ascii_part.ensures ∙ c.if-not-is_ascii_part.false)
