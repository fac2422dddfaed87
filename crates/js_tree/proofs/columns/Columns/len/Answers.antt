use Rattle.std.proofs.Common.{arith}
use Rattle.js_tree.specs.Rows.{entries_of}
use Rattle.js_tree.proofs.RowLemmas.{length_same}
use Rattle.js_tree.proofs.columns.Columns.len.Goals as goal

pub returns-clause-len : goal.returns-clause-len
returns-clause-len c = let l = length_same (entries_of c.self.inside) c.args.self.now c.self.view_is in omega (arith, c.len.ensures, c.self.inside.kinds.ok.0, l)

pub returns-clause-some : goal.returns-clause-some
returns-clause-some c = let l = length_same (entries_of c.self.inside) c.args.self.now c.self.view_is in let s = c.self.invariant.some in omega arith
