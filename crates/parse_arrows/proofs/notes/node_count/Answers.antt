use Rattle.std.proofs.Common.{ap, length, ◌∙◌}
use Rattle.parse_shared.specs.js_cursor.Parsers.{Parser}
use Rattle.parse_arrows.proofs.notes.node_count.Goals as goal

pub returns-clause-count : goal.returns-clause-count
returns-clause-count g c = c.len.ensures.len ∙ ap (λ (z : Parser). length z.nodes) c.p.view_is
