use Rattle.std.proofs.Common.{arith}
use Rattle.std.proofs.lemmas.List.{nil_from_length, length-map}
use Rattle.js_grammar.specs.Modules.{found_in, in_order_of_ends}
use Rattle.js_record.proofs.Finding.{found_below}
use Rattle.js_record.proofs.WalkLemmas.{forward_lighter, walked_start, walked_below, walked_step, walked_end}
use Rattle.js_record.proofs.walking.found_in.Goals as goal

pub nodes-init : goal.nodes-init
nodes-init c cs rs a = rw (c.in_ok-push_slots.ensures, c.new-stack.ensures.items, c.new-found.ensures.items, c.kinds.ensures, length-map c.args.tree.now (λ n. n.kind)) (walked_start a)

pub keep-requires-clause-contained : goal.keep-requires-clause-contained
keep-requires-clause-contained c = walked_below c.pop.new.self.items c.in-Some.id c.nodes.found.items (rw c.in-Some.ensures.items at (c.nodes.invariant c.requires.slots c.requires.numbers c.requires.stand))

pub keep-requires-clause-found : goal.keep-requires-clause-found
keep-requires-clause-found c = let w = c.nodes.invariant c.requires.slots c.requires.numbers c.requires.stand in found_below c.nodes.found.items (in_order_of_ends w.past) w.kept

pub children-requires : goal.children-requires
children-requires c = walked_below c.pop.new.self.items c.in-Some.id c.nodes.found.items (rw c.in-Some.ensures.items at (c.nodes.invariant c.requires.slots c.requires.numbers c.requires.stand))

pub nodes-smaller : goal.nodes-smaller
nodes-smaller c = rw (c.in_ok-push_slots-2.ensures, c.children.ensures, c.in-Some.ensures.items) (forward_lighter c.args.tree.now c.pop.new.self.items c.in-Some.id)

pub nodes-preserved : goal.nodes-preserved
nodes-preserved c cs rs a = rw (c.in_ok-push_slots-2.ensures, c.children.ensures) (walked_step c.pop.new.self.items c.in-Some.id c.nodes.found.items c.keep.new.found.items (found_in cs) c.in_ok-keep.ensures (rw c.in-Some.ensures.items at (c.nodes.invariant cs rs a)))

pub returns : goal.returns
returns c cs rs a = walked_end c.nodes.found.items (found_in cs) (rw (nil_from_length c.nodes.stack.items (omega (arith, c.in_default.ensures.cases, c.nodes.stack.ok.0))) at (c.nodes.invariant cs rs a))
