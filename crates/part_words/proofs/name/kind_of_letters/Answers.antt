use Rattle.std.proofs.Common.{sym, ◌∙◌, ap, []}
use Rattle.std.proofs.lemmas.List.{append-nil}
use Rattle.js_base.specs.Keywords.{keyword_of}
use Rattle.part_words.proofs.name.kind_of_letters.Goals as goal

pub returns-then-letters : goal.returns-then-letters
returns-then-letters c = λ ps h. sym (h.other c.if-letters.true []) ∙ ap keyword_of (append-nil ps)
