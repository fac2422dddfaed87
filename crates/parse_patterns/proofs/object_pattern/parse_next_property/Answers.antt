use Rattle.std.proofs.Common.{sym, ◌∙◌}
use Rattle.std.proofs.lemmas.Bool.{false≢true}
use Rattle.laws_patterns.proofs.ObjectLists.{properties_closed}
use Rattle.parse_patterns.proofs.object_pattern.parse_next_property.Goals as goal

pub returns-in-RCurly : goal.returns-in-RCurly
returns-in-RCurly g c = (λ e. absurd (false≢true e), λ text f a. properties_closed a (sym c.cur_kind.ensures ∙ c.in-RCurly.is))
