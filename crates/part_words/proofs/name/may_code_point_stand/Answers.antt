use Rattle.std.proofs.Common.{sym}
use Rattle.part_words.proofs.NameSurrogates.{may_stand-scalar, no-scalar}
use Rattle.part_words.proofs.name.may_code_point_stand.Goals as goal

pub returns-in-None : goal.returns-in-None
returns-in-None c = sym (may_stand-scalar c.args.position c.args.code_point (no-scalar c.args.code_point c.in-None.ensures.cases))
