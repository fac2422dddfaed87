use Rattle.std.proofs.Common.{ℕ, List, ap, arith, length, sym, take, ◌∙◌}
use Rattle.std.proofs.lemmas.List.{take_all}
use Rattle.js_tree.specs.Nodes.{Node}
use Rattle.js_tree.specs.Rows.{entries_of, slots_before}
use Rattle.js_tree.specs.declared.columns.Entry.{Entry}
use Rattle.js_tree.proofs.RowLemmas.{AreEntries-truncated, Truncated, length-rows, rows-truncated}
use Rattle.js_tree.proofs.columns.Columns.truncate.Goals as goal

pub returns-then-len-last : goal.returns-then-len-last
returns-then-len-last c =
    let e = length-rows (entries_of c.self.inside) in
    let v = ap length c.self.view_is in
    sym (take_all c.args.len c.args.self.now (omega (arith, c.len-last.ensures, c.if-len-last.true, c.self.inside.kinds.ok.0)))

truncated : (c : goal.After-truncate-3) → Truncated (entries_of c.self.inside) (entries_of record { kinds = c.truncate.new.self; entries = c.truncate-2.new.self; slots = c.truncate-3.new.self; names = c.drop_names.new.names }) c.args.len
truncated c = record {
  some = c.requires;
  below = omega (arith, c.len-last.ensures, c.if-len-last.false, c.self.inside.kinds.ok.0);
  kinds = c.truncate.ensures.items;
  entries = c.truncate-2.ensures.items;
  slots = c.truncate-3.ensures.items ∙ ap (λ (n : ℕ). take n c.self.inside.slots.items) (c.slots_before-slots.ensures ∙ ap (λ (es : List Entry). slots_before es c.args.len) c.as_slice.ensures.value);
  kept = c.drop_names.ensures.kept;
  dropped = c.drop_names.ensures.dropped;
}

pub invariant_of-self : goal.invariant_of-self
invariant_of-self c = AreEntries-truncated (entries_of c.self.inside) _ c.args.len c.self.invariant (truncated c)

pub returns : goal.returns
returns c = rows-truncated (entries_of c.self.inside) _ c.args.len c.self.invariant (truncated c) ∙ ap (λ (ns : List Node). take c.args.len ns) c.self.view_is
