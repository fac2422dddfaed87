use Rattle.std.proofs.Common.{◌||◌, ap, ◌∙◌}
use Rattle.js_base.specs.Kinds.{one_of_kinds}
use Rattle.js_base.specs.KindSets.{binding_identifier_kinds}
use Rattle.js_base.proofs.KindSetLemmas.{identifier_name-of}
use Rattle.js_base.proofs.kind.Kind.is_identifier_name.Goals as goal

pub returns-then-is_reserved_keyword : goal.returns-then-is_reserved_keyword
returns-then-is_reserved_keyword c = c.if-is_reserved_keyword.true ∙ ap (λ b. b || one_of_kinds binding_identifier_kinds c.args.self) c.if-is_reserved_keyword.ensures ∙ identifier_name-of c.args.self

pub returns-else-is_reserved_keyword : goal.returns-else-is_reserved_keyword
returns-else-is_reserved_keyword c = c.is_binding_identifier.ensures ∙ ap (λ b. b || one_of_kinds binding_identifier_kinds c.args.self) c.if-is_reserved_keyword.ensures ∙ identifier_name-of c.args.self
