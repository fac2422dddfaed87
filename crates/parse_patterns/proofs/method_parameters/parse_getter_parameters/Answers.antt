use Rattle.parse_shared.specs.laws_shared.Methods.{parameters_of}
use Rattle.parse_shared.specs.laws_shared.declared.nested.MethodForm.TheVariants.{Getter}
use Rattle.laws_patterns.proofs.Accessors.{getter_told, whole_there}
use Rattle.parse_patterns.proofs.method_parameters.parse_getter_parameters.Goals as goal

pub returns-in-RParen : goal.returns-in-RParen
returns-in-RParen g c = whole_there (parameters_of Getter) c.args.p.now _ _ _ c.in_ok-kind_behind.ensures.0 c.parse_no_parameters.ensures

pub returns-in_default : goal.returns-in_default
returns-in_default g c = getter_told c.args.p.now _ _ _ c.requires.open c.in_ok-kind_behind.ensures c.in_default.not-RParen c.parse_told_parameters.ensures
