use Rattle.std.proofs.Common.{sym}
use Rattle.part_words.specs.Names.{may_stand}
use Rattle.part_words.proofs.NameEscapes.{escape-refused}
use Rattle.part_words.proofs.name.escaped_piece.Goals as goal

pub returns-in_default : goal.returns-in_default
returns-in_default c = escape-refused (may_stand c.args.position) c.in-Some.ensures (sym c.if-may_code_point_stand.ensures)

pub returns-in_default-2 : goal.returns-in_default-2
returns-in_default-2 c = c.in_default.ensures (may_stand c.args.position)
