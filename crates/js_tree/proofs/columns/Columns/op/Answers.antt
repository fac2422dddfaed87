use Rattle.std.proofs.Common.{refl, arith}
use Rattle.js_tree.specs.Rows.{entries_of, no_entry}
use Rattle.js_tree.proofs.RowLemmas.{number_below, read}
use Rattle.js_tree.proofs.columns.Columns.op.Goals as goal

pub index-requires : goal.index-requires
index-requires c = let b = number_below (entries_of c.self.inside) c.args.self.now c.args.id.0 c.self.view_is c.requires in let l = c.self.invariant.entries in omega (arith, c.self.inside.entries.ok.0)

pub returns : goal.returns
returns c = read (entries_of c.self.inside) c.args.self.now c.args.id (λ n. n.op) c.self.inside.entries.items c.index.result.now no_entry (λ e. e.op) c.self.view_is c.requires c.self.invariant.entries refl c.index.ensures
