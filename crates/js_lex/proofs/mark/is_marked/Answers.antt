use Rattle.std.proofs.Common.{sym, ◌∙◌, true, false}
use Rattle.js_lex.specs.Comments.{sort_of}
use Rattle.js_lex.proofs.Marked.{looked_enough, looked_none, looked_on, looked_found, there, not_there}
use Rattle.js_lex.proofs.mark.is_marked.Goals.{then-comment-place+else-is_of_sort, else-comment-place+else-in_order}
use Rattle.js_lex.proofs.mark.is_marked.Goals as goal

pub returns-then-comment-place-2 : goal.returns-then-comment-place-2
returns-then-comment-place-2 c = looked_enough c.index-comment.result.now c.comments.invariant c.comments-test.true c.index-comment.ensures (c.requires.order c.if-in_order.true) c.if-comment-place-2.true

pub comments-init : goal.comments-init
comments-init c = looked_none (sort_of c.args.sort) c.args.text.now c.args.place c.args.comments.now c.len-left.result c.len-left.ensures

pub comments-preserved : goal.comments-preserved
comments-preserved c = looked_on c.index-comment.result.now c.comments.invariant c.comments-test.true c.index-comment.ensures (elim c.if-comment-place.branch [
  | then-comment-place+else-is_of_sort w ↦ there (sort_of c.args.sort) c.args.text.now w.range-words.result.now c.args.place c.index-comment.result.now false w.if-comment-place.true w.range-words.ensures.value (sym w.if-is_of_sort.false ∙ w.is_of_sort.ensures)
  | else-comment-place+else-in_order w ↦ not_there (sort_of c.args.sort) c.args.text.now c.args.place c.index-comment.result.now w.if-comment-place.false
])

pub returns-then-is_of_sort : goal.returns-then-is_of_sort
returns-then-is_of_sort c = looked_found c.index-comment.result.now c.comments.invariant c.comments-test.true c.index-comment.ensures (there (sort_of c.args.sort) c.args.text.now c.range-words.result.now c.args.place c.index-comment.result.now true c.if-comment-place.true c.range-words.ensures.value (sym c.if-is_of_sort.true ∙ c.is_of_sort.ensures))
