use Rattle.laws_shared.proofs.Moving.{advances}
use Rattle.parse_shared.proofs.lexemes.advance.Goals as goal

pub returns : goal.returns
returns t c = advances c.args.p.now c.bump_any.new.self c.bump_any.result c.requires.whole c.bump_any.ensures
