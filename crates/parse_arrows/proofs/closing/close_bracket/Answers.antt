use Rattle.std.proofs.Common.{Option, ap, ◌++◌, ◌∙◌}
use Rattle.std.specs.Prelude.{option_to_list}
use Rattle.laws_operators.specs.declared.forms.OpenedBracket.{OpenedBracket}
use Rattle.parse_arrows.proofs.closing.close_bracket.Goals as goal

pub returns : goal.returns
returns g c = (c.in-Some.last, c.pop.ensures.items ∙ ap (λ (o : Option OpenedBracket). c.pop.new.self.items ++ option_to_list o) c.in-Some.is, c.is_same.ensures c.if-not-is_same.false, c.in_ok-found.found, c.in_ok-found.ensures, c.in_ok-note_closing.ensures)
