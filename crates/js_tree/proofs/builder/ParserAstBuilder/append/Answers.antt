use Rattle.js_tree.proofs.CountLemmas.{AreCounts-appended}
use Rattle.js_tree.proofs.Coverings.{AreCovers-appended}
use Rattle.js_tree.proofs.builder.ParserAstBuilder.append.Goals as goal

pub invariant_of-self-2 : goal.invariant_of-self-2
invariant_of-self-2 c = rw (c.push_reserved.ensures.items, c.push_reserved-2.ensures.items, c.in_ok-reserve.ensures.items, c.in_ok-reserve-2.ensures.items, c.in_ok-count.ensures, c.covers_with-cover.ensures, c.may_cover-itself.ensures, c.as_slice.ensures.value, c.as_slice-2.ensures.value, (c.in_ok-id.ensures).nodes) (AreCounts-appended c.self.inside.columns _ c.self.inside.counts.items c.self.invariant.0, AreCovers-appended c.self.inside.columns _ c.self.inside.covers.items c.self.invariant.1)
