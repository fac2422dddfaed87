use Rattle.std.proofs.Common.{sym, ◌∙◌}
use Rattle.std.proofs.lemmas.Bool.{false≢true}
use Rattle.laws_patterns.proofs.PatternLists.{pattern_closed}
use Rattle.parse_patterns.proofs.binding.parse_next_element.Goals as goal

pub returns-in-RBrack : goal.returns-in-RBrack
returns-in-RBrack g c = (λ e. absurd (false≢true e), λ text f a. pattern_closed a (sym c.cur_kind.ensures ∙ c.in-RBrack.is))
