use Rattle.parse_declarations.specs.Declarations.{is_constant}
use Rattle.parse_declarations.proofs.Declarators.{told_missing}
use Rattle.parse_declarations.proofs.declaration.check_initialiser.Goals as goal

pub returns : goal.returns
returns g c = told_missing c.args.p.now c.error.new.self (is_constant c.args.kind) c.args.is_name c.error.result c.diagnostic_at.ensures c.missing_kind.ensures c.may_lack_initialiser.ensures c.if-may_lack_initialiser.false c.error.ensures
