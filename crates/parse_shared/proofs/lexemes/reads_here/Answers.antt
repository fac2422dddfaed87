use Rattle.std.proofs.Common.{ap, ◌∙◌}
use Rattle.laws_shared.specs.Lexemes.{is_read_kind}
use Rattle.laws_shared.proofs.ReadKinds.{reads_so}
use Rattle.parse_shared.proofs.lexemes.reads_here.Goals as goal

pub returns : goal.returns
returns g c = reads_so _ c.requires (c.is_read_kind.ensures ∙ ap is_read_kind c.cur_kind.ensures)
