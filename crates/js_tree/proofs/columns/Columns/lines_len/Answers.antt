use Rattle.std.proofs.Common.{◌∙◌, ap, length, arith}
use Rattle.std.proofs.lemmas.List.{nil_from_length}
use Rattle.js_grammar.specs.Lines.{tree_text}
use Rattle.js_tree.specs.Walking.{line_at}
use Rattle.js_tree.specs.declared.lines.PendingSlot.{PendingSlot}
use Rattle.js_tree.proofs.WalkLemmas.{within_lighter, Counted-start, Counted-step, Counted-end}
use Rattle.js_tree.proofs.columns.Columns.lines_len.Goals as goal

pub loop-at-init : goal.loop-at-init
loop-at-init c t h = rw (c.in_ok-program.ensures.stack, c.new-stack.ensures.items) (Counted-start c.args.self.now t c.in_ok-total.total h (c.in_ok-total.ensures ∙ ap (λ (p : PendingSlot). length (line_at c.args.self.now p)) c.in_ok-program.ensures.program))

pub loop-at-preserved : goal.loop-at-preserved
loop-at-preserved c t h = rw (c.in_ok-enter.ensures, c.in-Some-checked_add.ensures.1) (Counted-step c.pop.new.self.items c.in-Some.at c.loop-at.total c.in_ok-line_len.field-0 (tree_text t) c.in_ok-line_len.ensures (rw c.in-Some.ensures.items at (c.loop-at.invariant t h)))

pub loop-at-smaller : goal.loop-at-smaller
loop-at-smaller c = rw (c.in_ok-enter.ensures, c.in-Some.ensures.items) (within_lighter c.args.self.now c.pop.new.self.items c.in-Some.at)

pub returns-clause-lines : goal.returns-clause-lines
returns-clause-lines c t h = Counted-end c.loop-at.total (tree_text t) (rw (nil_from_length c.loop-at.stack.items (omega (arith, c.in_default.ensures.cases, c.loop-at.stack.ok.0))) at (c.loop-at.invariant t h))
