use Rattle.std.proofs.Common.{refl, sym, ◌∙◌}
use Rattle.std.proofs.lemmas.Str.{IsCharBoundary-start}
use Rattle.js_lex.proofs.Marked.{sought_on, sought_found, sought_all}
use Rattle.js_lex.proofs.mark.holds.Goals as goal

pub places-init : goal.places-init
places-init c = record { boundary = IsCharBoundary-start _ c.utf8.text; same = refl }

pub goes_on-requires-clause-boundary : goal.goes_on-requires-clause-boundary
goes_on-requires-clause-boundary c = c.places.invariant.boundary

pub places-preserved : goal.places-preserved
places-preserved c = sought_on c.places.invariant c.in-Some.ensures (sym c.goes_on.ensures.is ∙ c.if-goes_on.false)

pub returns-then-goes_on : goal.returns-then-goes_on
returns-then-goes_on c = sought_found c.places.invariant c.in-Some.ensures (sym c.goes_on.ensures.is ∙ c.if-goes_on.true)

pub returns : goal.returns
returns c = sought_all c.places.invariant c.requires.some c.in_default.ensures
