use Rattle.std.proofs.Common.{sym, ◌∙◌}
use Rattle.std.proofs.lemmas.Bool.{false≢true}
use Rattle.laws_modules.proofs.Attributes.{string_key, word_key}
use Rattle.parse_modules.proofs.attributes.parse_key.Goals as goal

pub returns-then-at : goal.returns-then-at
returns-then-at g c = λ text f a. string_key text f _ _ c.parse_string.result a (c.at.ensures.0 c.if-at.true) c.parse_string.ensures

pub returns : goal.returns
returns g c = λ text f a. word_key text f _ _ c.parse_identifier_name.result a (λ k. false≢true (sym c.if-at.false ∙ c.at.ensures.1 k)) (c.parse_identifier_name.ensures text f a)
