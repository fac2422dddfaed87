use Rattle.part_scan.proofs.StringPlaces.{inside_starts, inside_grows}
use Rattle.part_scan.proofs.string.inside_at.Goals as goal

pub inside-init : goal.inside-init
inside-init c = inside_starts c.args.quote c.args.text.now c.args.at c.requires.boundary

pub inside-preserved : goal.inside-preserved
inside-preserved c = inside_grows c.args.quote c.args.text.now c.args.at c.inside.end c.passed_end-end.result c.in-Some.byte c.inside.has_backslash c.inside.invariant c.passed_end-end.ensures.passes
