use Rattle.std.proofs.Common.{arith}
use Rattle.std.proofs.lemmas.List.{nil_from_length}
use Rattle.js_grammar.specs.Lines.{tree_text}
use Rattle.js_tree.proofs.WalkLemmas.{within_lighter, Walked-start, Walked-step, Walked-end}
use Rattle.js_tree.proofs.columns.Columns.tree_lines.Goals as goal

pub loop-at-init : goal.loop-at-init
loop-at-init c t h = rw (c.in_ok-write_line.ensures, c.in_ok-out.ensures.items, c.in_ok-program.ensures.stack, c.in_ok-program.ensures.program, c.new-stack.ensures.items) (Walked-start c.args.self.now t h)

pub loop-at-preserved : goal.loop-at-preserved
loop-at-preserved c t h = rw (c.in_ok-enter.ensures, c.in_ok-write_line-2.ensures) (Walked-step c.pop.new.self.items c.in-Some.at c.loop-at.out.items (tree_text t) (rw c.in-Some.ensures.items at (c.loop-at.invariant t h)))

pub loop-at-smaller : goal.loop-at-smaller
loop-at-smaller c = rw (c.in_ok-enter.ensures, c.in-Some.ensures.items) (within_lighter c.args.self.now c.pop.new.self.items c.in-Some.at)

pub returns : goal.returns
returns c t h = Walked-end c.loop-at.out.items (tree_text t) (rw (nil_from_length c.loop-at.stack.items (omega (arith, c.in_default.ensures.cases, c.loop-at.stack.ok.0))) at (c.loop-at.invariant t h))
