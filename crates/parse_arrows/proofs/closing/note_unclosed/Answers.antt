use Rattle.std.proofs.Common.{Option, refl, ap, ◌++◌, ◌∙◌}
use Rattle.std.specs.Prelude.{option_to_list}
use Rattle.laws_operators.specs.declared.forms.OpenedBracket.{OpenedBracket}
use Rattle.laws_operators.proofs.NotedClosings.{more_none, noting_on}
use Rattle.parse_arrows.proofs.closing.note_unclosed.Goals as goal

pub brackets-init : goal.brackets-init
brackets-init g c = record { more = more_none refl; none = c.requires }

pub brackets-preserved : goal.brackets-preserved
brackets-preserved g c = noting_on c.in-Some.last (c.pop.ensures.items ∙ ap (λ (o : Option OpenedBracket). c.pop.new.self.items ++ option_to_list o) c.in-Some.is) c.brackets.invariant c.in_ok-note_closing.ensures

pub returns : goal.returns
returns g c = (refl, c.brackets.invariant.more)
