use Rattle.std.proofs.Common.{arith}
use Rattle.std.proofs.lemmas.List.{nil_from_length}
use Rattle.js_grammar.specs.CoverInitialisers.{initialised_in}
use Rattle.js_tree.proofs.CountLemmas.{children_lighter}
use Rattle.js_tree.proofs.CoverLemmas.{Found-start, Found-step, Found-end}
use Rattle.js_tree.proofs.columns.Columns.cover_initializers.Goals as goal

pub nodes-init : goal.nodes-init
nodes-init c t h = rw (c.in_ok-push_children.ensures, c.new-stack.ensures.items, c.new-spans.ensures.items, c.len.ensures.len, c.children.ensures) (Found-start c.args.self.now t h)

pub nodes-preserved : goal.nodes-preserved
nodes-preserved c t h = rw (c.in_ok-push_children_of.ensures, c.in_ok-note_initialized.ensures) (Found-step c.pop.new.self.items c.in-Some.id c.nodes.spans.items (initialised_in t.slots) (rw c.in-Some.ensures.items at (c.nodes.invariant t h)))

pub nodes-smaller : goal.nodes-smaller
nodes-smaller c = rw (c.in_ok-push_children_of.ensures, c.in-Some.ensures.items) (children_lighter c.args.self.now c.pop.new.self.items c.in-Some.id)

pub returns : goal.returns
returns c t h = Found-end c.nodes.spans.items (initialised_in t.slots) (rw (nil_from_length c.nodes.stack.items (omega (arith, c.in_default.ensures.cases, c.nodes.stack.ok.0))) at (c.nodes.invariant t h))
