use Rattle.std.proofs.Common.{sym, ◌∙◌}
use Rattle.std.proofs.lemmas.Bool.{false≢true}
use Rattle.laws_classes.proofs.laws_primary.Members.{private_taken}
use Rattle.laws_classes.proofs.Names.{names_public, private_key}
use Rattle.parse_classes.proofs.element_name.parse_element_name.Goals as goal

pub returns-then-at : goal.returns-then-at
returns-then-at g c = λ text f a. private_key a (c.at.ensures.0 c.if-at.true) (private_taken text f _ _ _ a (c.at.ensures.0 c.if-at.true) c.in_ok-key.ensures)

pub returns : goal.returns
returns g c = names_public _ _ c.parse_property_name.result (λ k. false≢true (sym c.if-at.false ∙ c.at.ensures.1 k)) c.parse_property_name.ensures
