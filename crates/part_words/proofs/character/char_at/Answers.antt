use Rattle.std.proofs.Common.{ap, ◌∙◌}
use Rattle.std.specs.Prelude.{chars, slice_get}
use Rattle.part_words.proofs.Places.{reads}
use Rattle.part_words.proofs.character.char_at.Goals as goal

pub returns : goal.returns
returns c = reads _ _ _ c.utf8.text c.requires (c.next.ensures.steps.2 ∙ ap (λ x. slice_get (chars x) 0) (c.chars.ensures.rest ∙ c.range_from.ensures.value))
