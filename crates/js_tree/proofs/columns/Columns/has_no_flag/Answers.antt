use Rattle.std.proofs.Common.{◌∙◌, refl, arith, sym, ap}
use Rattle.std.proofs.lemmas.Bool.{eqb-true}
use Rattle.js_tree.specs.Bits.{flags_of}
use Rattle.js_tree.specs.Rows.{entries_of, no_entry}
use Rattle.js_tree.proofs.BitLemmas.{flags_of-none}
use Rattle.js_tree.proofs.RowLemmas.{number_below, read}
use Rattle.js_tree.proofs.columns.Columns.has_no_flag.Goals as goal

pub index-requires : goal.index-requires
index-requires c = let b = number_below (entries_of c.self.inside) c.args.self.now c.args.id.0 c.self.view_is c.requires in let l = c.self.invariant.entries in omega (arith, c.self.inside.entries.ok.0)

pub returns : goal.returns
returns c h = sym (read (entries_of c.self.inside) c.args.self.now c.args.id (λ n. n.flags) c.self.inside.entries.items c.index.result.now no_entry (λ e. flags_of e.flags) c.self.view_is c.requires c.self.invariant.entries refl c.index.ensures) ∙ ap flags_of (eqb-true c.index.result.now.flags 0 h) ∙ flags_of-none
