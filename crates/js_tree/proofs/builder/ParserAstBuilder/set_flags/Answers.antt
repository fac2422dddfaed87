use Rattle.js_tree.proofs.CountLemmas.{AreCounts-flags}
use Rattle.js_tree.proofs.Coverings.{AreCovers-flags}
use Rattle.js_tree.proofs.builder.ParserAstBuilder.set_flags.Goals as goal

pub invariant_of-self : goal.invariant_of-self
invariant_of-self c = rw (c.set_flags.ensures) (AreCounts-flags c.self.inside.columns c.self.inside.counts.items c.args.id c.args.flags c.self.invariant.0, AreCovers-flags c.self.inside.columns c.self.inside.covers.items c.args.id c.args.flags c.self.invariant.1)
