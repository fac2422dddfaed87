use Rattle.std.proofs.Common.{arith}
use Rattle.js_tree.proofs.Quotations.{literal}
use Rattle.js_parser.proofs.member_names.between_quotes.Goals as goal

pub overflow_sub-literal : goal.overflow_sub-literal
overflow_sub-literal c = let q = (literal c.args.literal.now c.utf8.literal c.requires).quotes in omega arith

pub range-requires-clause-start_le_end : goal.range-requires-clause-start_le_end
range-requires-clause-start_le_end c = let q = (literal c.args.literal.now c.utf8.literal c.requires).quotes in omega arith

pub range-requires-clause-start_boundary : goal.range-requires-clause-start_boundary
range-requires-clause-start_boundary c = λ p. (literal c.args.literal.now c.utf8.literal c.requires).starts_whole

pub range-requires-clause-end_boundary : goal.range-requires-clause-end_boundary
range-requires-clause-end_boundary c = (literal c.args.literal.now c.utf8.literal c.requires).ends_whole

pub returns : goal.returns
returns c = (literal c.args.literal.now c.utf8.literal c.requires).inside c.range.result.now c.range.ensures.value
