use Rattle.std.proofs.Common.{ℕ, List, ap, refl, subst, sym, ◌∙◌}
use Rattle.parse_shared.specs.js_cursor.Parsers.{Parser}
use Rattle.laws_operators.specs.Arrows.{SlashFound}
use Rattle.laws_operators.proofs.SlashedHeads.{excluded_arrow, excluded_closed, excluded_noted, excluded_unslashed}
use Rattle.parse_arrows.proofs.arrow.excludes_operand.Goals as goal

pub returns-then-operand_failed : goal.returns-then-operand_failed
returns-then-operand_failed g c = excluded_noted _ _ c.args.p.now c.args.p.now refl c.operand_failed.ensures.small c.operand_failed.ensures.found c.if-operand_failed.true

pub returns-then-is_arrow_noted : goal.returns-then-is_arrow_noted
returns-then-is_arrow_noted g c = excluded_arrow _ _ c.args.p.now c.args.p.now refl (c.is_arrow_noted.ensures c.if-is_arrow_noted.true)

pub returns-then-kept_so_far-kept : goal.returns-then-kept_so_far-kept
returns-then-kept_so_far-kept g c = excluded_closed _ _ c.args.p.now c.is_arrow_behind_one.new.p c.is_arrow_behind_one.result c.is_arrow_behind_one.ensures

pub returns : goal.returns
returns g c = excluded_unslashed _ _ c.args.p.now c.args.p.now _ refl (sym c.kept_so_far.ensures ∙ c.if-kept_so_far-kept.false) c.cur_start.ensures (subst (λ (t : List ℕ). SlashFound t c.args.place c.cur_start.result c.has_slash.result) (ap (λ (z : Parser). z.text) c.p.view_is) c.has_slash.ensures)
