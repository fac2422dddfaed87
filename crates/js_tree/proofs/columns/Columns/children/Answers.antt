use Rattle.std.proofs.Common.{◌≡◌, ap, sym, arith, length, rules, ◌+◌, ◌-◌}
use Rattle.std.proofs.lemmas.List.{get_or_read}
use Rattle.js_tree.specs.Nodes.{Node}
use Rattle.js_tree.specs.Rows.{entries_of, no_entry}
use Rattle.js_tree.proofs.RowLemmas.{number_below, node_is}
use Rattle.js_tree.proofs.columns.Columns.children.Goals as goal

pub index-entry-requires : goal.index-entry-requires
index-entry-requires c = let b = number_below (entries_of c.self.inside) c.args.self.now c.args.id.0 c.self.view_is c.requires in let l = c.self.invariant.entries in omega (arith, c.self.inside.entries.ok.0)

pub slice_bounds-result-end : goal.slice_bounds-result-end
slice_bounds-result-end c =
    let b = number_below (entries_of c.self.inside) c.args.self.now c.args.id.0 c.self.view_is c.requires in
    let l = c.self.invariant.entries in
    let e = get_or_read c.self.inside.entries.items c.args.id.0 c.index-entry.result.now (omega arith) c.index-entry.ensures no_entry in
    let r = c.self.invariant.ranges c.args.id.0 in
    let v = ap length c.deref.ensures.value in
    search (rules, v, r, e)

pub returns : goal.returns
returns c =
    let b = number_below (entries_of c.self.inside) c.args.self.now c.args.id.0 c.self.view_is c.requires in
    let l = c.self.invariant.entries in
    let e = get_or_read c.self.inside.entries.items c.args.id.0 c.index-entry.result.now (omega arith) c.index-entry.ensures no_entry in
    let w : (c.index-entry.result.now.start + c.index-entry.result.now.count) - c.index-entry.result.now.start ≡ c.index-entry.result.now.count = omega arith in
    rw (w, c.deref.ensures.value, e) (sym (ap (λ (m : Node). m.children) (node_is (entries_of c.self.inside) c.args.self.now c.args.id c.self.view_is c.requires)))
