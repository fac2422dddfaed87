use Rattle.std.proofs.Common.{sym, ◌∙◌}
use Rattle.part_words.proofs.Parts.{parts_none, parts_on, parts_ascii, parts_stop, parts_all}
use Rattle.part_words.proofs.part.parts_end.Goals as goal

pub parts-init : goal.parts-init
parts-init c = parts_ascii (parts_none c.args.dots c.args.text.now c.args.at c.requires) c.ascii_parts_end-end.ensures

pub parts-preserved : goal.parts-preserved
parts-preserved c = parts_ascii (parts_on c.parts.invariant c.in-Some.ensures (sym c.is_part.ensures ∙ c.if-not-is_part.false)) c.ascii_parts_end-end-in-Some.ensures

pub returns-then-not-is_part : goal.returns-then-not-is_part
returns-then-not-is_part c = parts_stop c.parts.invariant c.in-Some.ensures (sym c.is_part.ensures ∙ c.if-not-is_part.true)

pub returns : goal.returns
returns c = parts_all c.parts.invariant c.in_default.ensures
