use Rattle.std.proofs.Common.{ap, sym, ◌∙◌}
use Rattle.js_base.specs.declared.token.Token.{Token}
use Rattle.laws_modules.proofs.laws_primary.laws_shared.Moving.{standing}
use Rattle.laws_modules.proofs.ModuleNames.{lone_marked, lone_stops, paired_here, string_name, string_taken}
use Rattle.laws_modules.proofs.StringUnits.{string_contained, string_is, string_lies}
use Rattle.parse_modules.proofs.module_name.parse_module_string.Goals as goal

pub is_well_formed-requires-clause-contained : goal.is_well_formed-requires-clause-contained
is_well_formed-requires-clause-contained g c = string_contained c.requires.at c.requires.string c.in_ok-string.ensures

pub is_well_formed-requires-clause-lies : goal.is_well_formed-requires-clause-lies
is_well_formed-requires-clause-lies g c = string_lies c.requires.at c.requires.string c.in_ok-string.ensures

pub is_well_formed-requires-clause-string : goal.is_well_formed-requires-clause-string
is_well_formed-requires-clause-string g c = string_is c.requires.at c.requires.string c.in_ok-string.ensures

pub refuse_lone_surrogate-requires-clause-at : goal.refuse_lone_surrogate-requires-clause-at
refuse_lone_surrogate-requires-clause-at g c = standing (string_taken c.requires.at c.requires.string c.in_ok-string.ensures).at

pub refuse_lone_surrogate-requires-clause-mark : goal.refuse_lone_surrogate-requires-clause-mark
refuse_lone_surrogate-requires-clause-mark g c = lone_marked c.requires.at c.requires.string c.in_ok-string.ensures (c.span-span.ensures ∙ ap (λ (t : Token). t.span) c.cur_token.ensures)

pub returns-then-not-branch : goal.returns-then-not-branch
returns-then-not-branch g c = λ text f a. lone_stops c.span-span.result _ _ a c.requires.string c.in_ok-string.ensures (paired_here _ c.requires.string c.in_ok-string.ensures (sym c.if-not-branch.true ∙ c.in_ok-is_well_formed.ensures)) c.refuse_lone_surrogate.ensures

pub returns : goal.returns
returns g c = string_name c.requires.string c.in_ok-string.ensures (paired_here _ c.requires.string c.in_ok-string.ensures (sym c.if-not-branch.false ∙ c.in_ok-is_well_formed.ensures))
