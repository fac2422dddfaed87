use Rattle.std.proofs.Common.{arith, subst, sym, List, ℕ}
use Rattle.std.specs.Prelude.{IsSome}
use Rattle.js_base.specs.part_text.Decoding.{string_points}
use Rattle.js_tree.proofs.Quotations.{literal}
use Rattle.js_tree.proofs.reading.between_quotes.Goals as goal

pub overflow_sub-literal : goal.overflow_sub-literal
overflow_sub-literal c = let q = (literal c.args.literal.now c.utf8.literal c.requires).quotes in omega arith

pub range-requires-clause-start_le_end : goal.range-requires-clause-start_le_end
range-requires-clause-start_le_end c = let q = (literal c.args.literal.now c.utf8.literal c.requires).quotes in omega arith

pub range-requires-clause-start_boundary : goal.range-requires-clause-start_boundary
range-requires-clause-start_boundary c = λ p. (literal c.args.literal.now c.utf8.literal c.requires).starts_whole

pub range-requires-clause-end_boundary : goal.range-requires-clause-end_boundary
range-requires-clause-end_boundary c = (literal c.args.literal.now c.utf8.literal c.requires).ends_whole

pub returns-clause-inside : goal.returns-clause-inside
returns-clause-inside c = (literal c.args.literal.now c.utf8.literal c.requires).inside c.range.result.now c.range.ensures.value

pub returns-clause-right : goal.returns-clause-right
returns-clause-right c = let l = literal c.args.literal.now c.utf8.literal c.requires in subst (λ (v : List ℕ). IsSome (string_points v)) (sym (l.inside c.range.result.now c.range.ensures.value)) l.right
