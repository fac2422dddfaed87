use Rattle.std.proofs.Common.{false, arith}
use Rattle.js_lex.proofs.Passing.{passed_none, blanks_between, space_more, blank_more, blanks_passed}
use Rattle.js_lex.proofs.trivia.pass_blanks.Goals as goal

pub blanks-init : goal.blanks-init
blanks-init c = λ m kept. passed_none m c.args.text.now c.args.at kept c.requires.boundary

pub is_space_at-requires : goal.is_space_at-requires
is_space_at-requires c = blanks_between c.blanks.invariant

pub plain_blank_at-requires : goal.plain_blank_at-requires
plain_blank_at-requires c = blanks_between c.blanks.invariant

pub overflow_add-end : goal.overflow_add-end
overflow_add-end c = let b = (blanks_between c.blanks.invariant).0 in let s = c.requires.short in omega arith

pub overflow_add-end-in-blanks : goal.overflow_add-end-in-blanks
overflow_add-end-in-blanks c = let b = (blanks_between c.blanks.invariant).0 in let s = c.requires.short in omega arith

pub blanks-smaller-then-is_space_at : goal.blanks-smaller-then-is_space_at
blanks-smaller-then-is_space_at c = let b = (c.is_space_at.ensures c.if-is_space_at.true false).stands.boundary.0 in omega arith

pub blanks-preserved-then-is_space_at : goal.blanks-preserved-then-is_space_at
blanks-preserved-then-is_space_at c = space_more c.blanks.invariant (c.is_space_at.ensures c.if-is_space_at.true)

pub blanks-smaller : goal.blanks-smaller
blanks-smaller c = let b = (c.in-Some.ensures false).stands.boundary.0 in omega arith

pub blanks-preserved : goal.blanks-preserved
blanks-preserved c = blank_more c.in-Some.is_newline c.blanks.invariant c.in-Some.ensures

pub returns-in_default-clause-boundary : goal.returns-in_default-clause-boundary
returns-in_default-clause-boundary c = blanks_between c.blanks.invariant

pub returns-in_default-clause-passes : goal.returns-in_default-clause-passes
returns-in_default-clause-passes c = blanks_passed c.blanks.invariant
