use Rattle.std.proofs.Common.{sym, ◌∙◌}
use Rattle.js_tree.proofs.HoldingLemmas.{IsTree-finished}
use Rattle.js_tree.proofs.CountLemmas.{IsCount-finished}
use Rattle.js_tree.proofs.Coverings.{HasNone-finished}
use Rattle.js_tree.proofs.builder.ParserAstBuilder.finish.Goals as goal

pub new-requires-clause-count : goal.new-requires-clause-count
new-requires-clause-count c = rw (c.in_ok-columns.ensures, c.in_ok-count.ensures, c.as_slice.ensures.value, c.as_slice-2.ensures.value, c.as_slice-3.ensures.value) (IsCount-finished c.args.span c.args.children.items c.self.inside.columns c.self.inside.counts.items c.self.invariant.0)

pub new-requires-clause-covers : goal.new-requires-clause-covers
new-requires-clause-covers c e =
    let none = sym (rw (c.as_slice-4.ensures.value, c.as_slice-5.ensures.value) at c.covers_with-covers.ensures) ∙ e in
    rw (c.in_ok-columns.ensures, c.as_slice-3.ensures.value) (HasNone-finished c.args.span c.args.children.items c.self.inside.columns c.self.inside.covers.items (c.self.invariant.0).some c.self.invariant.1 none)

pub returns-clause-tree : goal.returns-clause-tree
returns-clause-tree c cs h = rw (c.new.ensures, c.in_ok-columns.ensures, c.as_slice-3.ensures.value, c.self.view_is) (IsTree-finished c.args.span c.args.children.items c.args.self cs h)
