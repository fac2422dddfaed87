use Rattle.std.proofs.Common.{rules, sym, ◌∙◌}
use denote.Enum.Bare.{same_true}
use Rattle.laws_operators.specs.contracts.forms.OpenBracket.{the_type}
use Rattle.parse_arrows.proofs.closing.is_same.Goals as goal

pub returns : goal.returns
returns c = λ e. same_true the_type (search rules) c.args.last c.args.bracket (sym c.eq.ensures ∙ e)
