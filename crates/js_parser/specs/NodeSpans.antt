-- Where the nodes of a tree stand in a text.
use Rattle.std.specs.Prelude.{ℕ, List}
use Rattle.js_base.specs.Spans.{LiesIn}
use Rattle.js_grammar.specs.Trees.{Label, Slots, end, hole, tree}

-- the span of a node lies in the text and splits no character of it
abbrev pub NodeLies : List ℕ → Label → Type 0
NodeLies text l = LiesIn (record { start = l.span.from; end = l.span.to }) text

-- so do those of all nodes in these slots
abbrev pub SlotsLie : List ℕ → Slots → Type 0
SlotsLie text end = Unit {0}
SlotsLie text (hole us) = SlotsLie text us
SlotsLie text (tree l cs us) = NodeLies text l × SlotsLie text cs × SlotsLie text us
