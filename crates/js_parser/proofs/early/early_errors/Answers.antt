use Rattle.std.proofs.Common.{◌≡◌, false, arith, sym, ◌∙◌}
use Rattle.std.proofs.lemmas.List.{nil_from_length, length-map}
use Rattle.js_parser.specs.Broken.{told_in}
use Rattle.js_parser.specs.declared.early.Position.TheVariants.{Anywhere}
use Rattle.js_parser.proofs.Broken.{telling_start, telling_step, telling_end, none_told, within_lighter}
use Rattle.js_parser.proofs.early.early_errors.Goals as goal

pub nodes-init : goal.nodes-init
nodes-init c t h = rw (c.in_ok-push_children.ensures, c.new-stack.ensures.items, c.new-told.ensures, c.kinds.ensures, length-map c.args.tree.now (λ n. n.kind), c.children.ensures) (telling_start c.args.source.now c.args.tree.now t h)

pub nodes-preserved : goal.nodes-preserved
nodes-preserved c t h = rw (c.in_ok-push_within.ensures, c.in_ok-tell.ensures) (telling_step c.pop.new.self.items c.in-Some.node c.nodes.told (told_in c.args.source.now Anywhere t.slots) (rw c.in-Some.ensures.items at (c.nodes.invariant t h)))

pub nodes-smaller : goal.nodes-smaller
nodes-smaller c = rw (c.in_ok-push_within.ensures, c.in-Some.ensures.items) (within_lighter c.args.tree.now c.pop.new.self.items c.in-Some.node)

pub returns : goal.returns
returns c t h = telling_end c.nodes.told (told_in c.args.source.now Anywhere t.slots) (rw (nil_from_length c.nodes.stack.items (omega (arith, c.in_default.ensures.cases, c.nodes.stack.ok.0))) at (c.nodes.invariant t h))

pub returns-then-not-branch : goal.returns-then-not-branch
returns-then-not-branch c t h = c.new-told.ensures ∙ sym (none_told c.args.source.now (c.in_ok-has_suspect.ensures.none (let e : c.in_ok-has_suspect.field-0 ≡ false = search in e)) t h)
