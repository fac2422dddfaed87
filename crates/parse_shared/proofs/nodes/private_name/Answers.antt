use Rattle.std.proofs.Common.{sym, ◌∙◌}
use Rattle.laws_shared.proofs.NodeTexts.{private_plain, private_spelled}
use Rattle.parse_shared.proofs.nodes.private_name.Goals as goal

pub returns-then-escaped : goal.returns-then-escaped
returns-then-escaped g c = private_spelled c.requires (sym c.escaped.ensures ∙ c.if-escaped.true) c.in_ok-name.ensures

pub returns : goal.returns
returns g c = private_plain c.requires (sym c.escaped.ensures ∙ c.if-escaped.false)
