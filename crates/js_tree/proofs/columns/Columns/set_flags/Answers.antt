use Rattle.std.proofs.Common.{◌∙◌, ap, refl, arith, List}
use Rattle.std.proofs.lemmas.List.{get_or_read}
use Rattle.js_tree.specs.Nodes.{Node, flags_set}
use Rattle.js_tree.specs.Rows.{entries_of, no_entry}
use Rattle.js_tree.proofs.RowLemmas.{number_below, rows-flags}
use Rattle.js_tree.proofs.columns.Columns.set_flags.Goals as goal

pub index_mut-requires : goal.index_mut-requires
index_mut-requires c = let b = number_below (entries_of c.self.inside) c.args.self.now c.args.id.0 c.self.view_is c.requires in let l = c.self.invariant.entries in omega (arith, c.self.inside.entries.ok.0)

pub returns : goal.returns
returns c =
    let b = number_below (entries_of c.self.inside) c.args.self.now c.args.id.0 c.self.view_is c.requires in
    let l = c.self.invariant.entries in
    let old = get_or_read c.self.inside.entries.items c.args.id.0 c.index_mut.result.now (omega arith) c.index_mut.ensures.value no_entry in
    rows-flags (entries_of c.self.inside) _ c.args.id.0 c.bits_of.result c.args.flags c.index_mut.result.now c.self.invariant b old refl refl refl (λ k. refl) c.bits_of.ensures.flags c.args.id refl ∙ ap (λ (ns : List Node). flags_set ns c.args.id c.args.flags) c.self.view_is
