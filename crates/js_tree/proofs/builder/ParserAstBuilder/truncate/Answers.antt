use Rattle.js_tree.proofs.CountLemmas.{AreCounts-truncated}
use Rattle.js_tree.proofs.Coverings.{AreCovers-truncated}
use Rattle.js_tree.proofs.builder.ParserAstBuilder.truncate.Goals as goal

pub invariant_of-self : goal.invariant_of-self
invariant_of-self c = rw (c.truncate.ensures, c.truncate-2.ensures.items, c.truncate-3.ensures.items) (AreCounts-truncated c.self.inside.columns c.self.inside.counts.items c.args.len c.requires c.self.invariant.0, AreCovers-truncated c.self.inside.columns c.self.inside.covers.items c.args.len c.self.invariant.1)
