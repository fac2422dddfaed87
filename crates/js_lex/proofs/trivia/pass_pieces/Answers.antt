use Rattle.std.proofs.Common.{Bool, subst, ◌+◌, false, None, arith}
use Rattle.js_lex.proofs.Passing.{Passing, passed_none, passed_more, passed_all, nothing_grows}
use Rattle.js_lex.proofs.Keeping.{extend_on, on_err}
use Rattle.std.proofs.Math.Bool.{or-false}
use Rattle.js_lex.proofs.trivia.pass_pieces.Goals as goal

pub pieces-smaller-in-Some : goal.pieces-smaller-in-Some
pieces-smaller-in-Some c = let b = (c.in-Some.ensures false).stands.boundary.0 in omega arith

pub pieces-preserved-in-Some : goal.pieces-preserved-in-Some
pieces-preserved-in-Some c = passed_more (record { end = c.pieces.end + 1; comment = None; is_html = false; is_irregular = false; has_newline = c.in-Some.is_newline }) c.pieces.invariant (c.in-Some.ensures _) (nothing_grows c.args.is_module _ _)

pub pieces-preserved : goal.pieces-preserved
pieces-preserved c = passed_more c.in-Some-piece_at.piece c.pieces.invariant c.in-Some-piece_at.ensures c.in_ok-keep_piece.ensures.ok

pub returns-in_default-piece_at-clause-ok : goal.returns-in_default-piece_at-clause-ok
returns-in_default-piece_at-clause-ok c = passed_all c.pieces.invariant c.in_default-piece_at.ensures

pub returns-then-begins_no_trivia-clause-ok : goal.returns-then-begins_no_trivia-clause-ok
returns-then-begins_no_trivia-clause-ok c = passed_all c.pieces.invariant (c.begins_no_trivia.ensures c.if-begins_no_trivia.true _)

pub pieces-smaller-then-is_space_at : goal.pieces-smaller-then-is_space_at
pieces-smaller-then-is_space_at c = let b = (c.is_space_at.ensures c.if-is_space_at.true false).stands.boundary.0 in omega arith

pub pieces-preserved-then-is_space_at : goal.pieces-preserved-then-is_space_at
pieces-preserved-then-is_space_at c =
    subst (λ (b : Bool). Passing c.args.is_module c.args.text.now c.args.at (c.pieces.end + 1) b c.args.kept.now c.pieces.kept) (or-false c.pieces.has_newline)
    (passed_more (record { end = c.pieces.end + 1; comment = None; is_html = false; is_irregular = false; has_newline = false }) c.pieces.invariant (c.is_space_at.ensures c.if-is_space_at.true _) (nothing_grows c.args.is_module _ _))

pub pieces-init : goal.pieces-init
pieces-init c = passed_none c.args.is_module c.args.text.now c.args.at c.args.kept.now c.requires.boundary

pub is_space_at-requires : goal.is_space_at-requires
is_space_at-requires c = c.pieces.invariant.stands.boundary

pub plain_blank_at-requires : goal.plain_blank_at-requires
plain_blank_at-requires c = c.pieces.invariant.stands.boundary

pub begins_no_trivia-requires : goal.begins_no_trivia-requires
begins_no_trivia-requires c = c.pieces.invariant.stands.boundary

pub piece_at-requires-clause-boundary : goal.piece_at-requires-clause-boundary
piece_at-requires-clause-boundary c = c.pieces.invariant.stands.boundary

pub keep_piece-requires-clause-ordered : goal.keep_piece-requires-clause-ordered
keep_piece-requires-clause-ordered c = let e = c.in-Some-piece_at.ensures.stands.end in omega arith

pub keep_piece-requires-clause-short : goal.keep_piece-requires-clause-short
keep_piece-requires-clause-short c = let b = c.in-Some-piece_at.ensures.stands.boundary.0 in let s = c.requires.short in omega arith

pub returns-in_err-keep_piece-clause-err : goal.returns-in_err-keep_piece-clause-err
returns-in_err-keep_piece-clause-err c = on_err c.from_residual.result (extend_on c.pieces.invariant.grows c.in_err-keep_piece.ensures.err)
