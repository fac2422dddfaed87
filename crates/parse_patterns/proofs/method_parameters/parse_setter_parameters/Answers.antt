use Rattle.std.proofs.Common.{inl, inr, ap, refl}
use Rattle.js_base.specs.declared.diagnostic.DiagnosticKind.TheVariants.{SetterWithParameters, SetterWithRestParameter}
use Rattle.js_base.specs.Kinds.{one_of_kinds}
use Rattle.parse_shared.specs.laws_shared.Methods.{parameters_of}
use Rattle.parse_shared.specs.laws_shared.declared.nested.MethodForm.TheVariants.{Setter}
use Rattle.laws_patterns.specs.Accessors.{beside_parameters}
use Rattle.laws_patterns.proofs.Accessors.{setter_told, whole_there}
use Rattle.parse_patterns.proofs.method_parameters.parse_setter_parameters.Goals as goal

pub returns-in-RParen : goal.returns-in-RParen
returns-in-RParen g c = setter_told SetterWithParameters c.args.p.now _ _ _ (inr (inl refl)) c.requires.open c.in_ok-kind_behind.ensures (ap (one_of_kinds beside_parameters) c.in-RParen.is) c.parse_told_parameters.ensures

pub returns-in-Dot3 : goal.returns-in-Dot3
returns-in-Dot3 g c = setter_told SetterWithRestParameter c.args.p.now _ _ _ (inr (inr refl)) c.requires.open c.in_ok-kind_behind.ensures (ap (one_of_kinds beside_parameters) c.in-Dot3.is) c.parse_told_parameters-in-Dot3.ensures

pub returns-in_default : goal.returns-in_default
returns-in_default g c = whole_there (parameters_of Setter) c.args.p.now _ _ _ c.in_ok-kind_behind.ensures.0 c.parse_one_parameter.ensures
