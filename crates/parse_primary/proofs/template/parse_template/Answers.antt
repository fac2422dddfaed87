use Rattle.laws_primary.proofs.Templates.{template_outcome}
use Rattle.parse_primary.proofs.template.parse_template.Goals as goal

pub returns : goal.returns
returns g c = λ text f a. template_outcome text f _ _ c.parse_template_literal.result a c.requires.template (c.parse_template_literal.ensures text f a)
