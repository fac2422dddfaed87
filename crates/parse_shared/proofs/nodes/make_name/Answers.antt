use Rattle.laws_shared.proofs.MadeNodes.{name_seen}
use Rattle.parse_shared.proofs.nodes.make_name.Goals as goal

pub returns-then-not-escaped : goal.returns-then-not-escaped
returns-then-not-escaped g c = name_seen c.p.view_is c.leaf.new.self c.args.kind c.args.token c.span.ensures c.no_flags.result _ c.leaf.result c.no_flags.ensures c.requires.kind c.plain_name-name.ensures c.leaf.ensures
