use Rattle.std.proofs.Common.{◌≡◌, length}
use Rattle.test_rows.proofs.WasRead.{expression_read, expression_stands}
use Rattle.test_rows.proofs.covered.cover_text.Goals as goal

pub cover_as-requires-clause-at : goal.cover_as-requires-clause-at
cover_as-requires-clause-at c = expression_stands c.requires.at c.in_ok-id.ensures

pub cover_as-requires-clause-read : goal.cover_as-requires-clause-read
cover_as-requires-clause-read c =
    let e : length c.parse_assignment_expression_or_higher.new.p.errors ≡ length c.args.p.now.errors = search in
    expression_read c.requires.at c.requires.allows_in c.in_ok-id.ensures e (c.at.ensures.0 c.if-not-at.false)
