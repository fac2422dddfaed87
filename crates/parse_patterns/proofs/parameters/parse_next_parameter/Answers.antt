use Rattle.std.proofs.Common.{sym, ◌∙◌}
use Rattle.std.proofs.lemmas.Bool.{false≢true}
use Rattle.laws_patterns.proofs.ParameterLists.{list_closed}
use Rattle.parse_patterns.proofs.parameters.parse_next_parameter.Goals as goal

pub returns-in-RParen : goal.returns-in-RParen
returns-in-RParen g c = (λ e. absurd (false≢true e), λ text f a. list_closed a (sym c.cur_kind.ensures ∙ c.in-RParen.is))
