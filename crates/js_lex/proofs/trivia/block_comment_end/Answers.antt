use Rattle.std.proofs.Common.{◌++◌, sym, ◌∙◌, ap, append-nil}
use Rattle.part_words.proofs.Places.{then}
use Rattle.js_lex.proofs.TriviaLemmas.{block_on, block_more, block_closed, newline_more, newline_same, never_closed}
use Rattle.js_lex.proofs.trivia.block_comment_end.Goals as goal

pub returns-then-next-eq47 : goal.returns-then-next-eq47
returns-then-next-eq47 c =
    let i = c.block.invariant in
    record {
      word = _;
      stands = then i.1 c.in-Some.ensures;
      closes = block_closed i.0 c.block.star c.in-Some.next.value i.2 c.if-star.true c.if-next-eq47.true;
      newline = newline_same i.0 c.in-Some.next.value c.block.has_newline i.3 c.if-next-eq47.true;
    }

pub block-preserved : goal.block-preserved
block-preserved c =
    let i = c.block.invariant in
    (_, then i.1 c.in-Some.ensures, block_more i.0 c.block.star c.in-Some.next.value i.2 c.else-star.either, newline_more i.0 c.in-Some.next.value c.block.has_newline _ i.3 c.is_line_terminator-has_newline.ensures)

pub block-preserved-then-stays_in_comment : goal.block-preserved-then-stays_in_comment
block-preserved-then-stays_in_comment c =
    let i = c.block.invariant in
    block_on i.0 i.1 i.2 i.3 (c.stays_in_comment.ensures c.if-stays_in_comment.true)

pub returns-in_default : goal.returns-in_default
returns-in_default c =
    let i = c.block.invariant in
    λ w rest e. never_closed c.block.star i.0 i.2 w rest (sym (i.1.splits ∙ ap (λ v. i.0 ++ v) c.in_default.ensures ∙ append-nil i.0) ∙ e)
