use Rattle.std.proofs.Common.{◌≡◌, [], ◌∷◌, sym, ap, ◌∙◌}
use Rattle.js_base.specs.declared.kind.Kind.TheVariants.{Colon, LParen}
use Rattle.js_base.specs.Kinds.{one_of_kinds}
use Rattle.js_grammar.proofs.Calculus.{left, right}
use Rattle.laws_primary.proofs.laws_shared.Giving.{gives_up_here}
use Rattle.laws_primary.proofs.laws_shared.Moving.{stops_behind}
use Rattle.laws_primary.proofs.laws_shared.Signs.{other_kind}
use Rattle.laws_primary.proofs.laws_shared.Verdicts.{after}
use Rattle.laws_primary.proofs.Properties.{method_part, name_part, no_method_behind, no_named, no_value_behind}
use Rattle.laws_primary.proofs.Wholes.{part_by}
use Rattle.parse_primary.proofs.object.parse_behind_name.Goals as goal

pub parse_value-requires-clause-colon : goal.parse_value-requires-clause-colon
parse_value-requires-clause-colon g c = sym c.cur_kind.ensures ∙ c.in-Colon.is

pub returns-in-Colon : goal.returns-in-Colon
returns-in-Colon g c = λ text f first a e i u x.
    let k : c.args.p.now.token.kind ≡ Colon = sym c.cur_kind.ensures ∙ c.in-Colon.is in
    part_by text f first _ c.parse_value.result (left (no_method_behind a c.args.name.computed x i u (ap (one_of_kinds (LParen ∷ [])) k))) (c.parse_value.ensures text f first _ a e (name_part a c.args.name.computed x))

pub returns-in-LParen : goal.returns-in-LParen
returns-in-LParen g c = λ text f first a e i u x.
    let k : c.args.p.now.token.kind ≡ LParen = sym c.cur_kind.ensures ∙ c.in-LParen.is in
    part_by text f first _ c.parse_method.result (right (no_value_behind a c.args.name.computed x (ap (one_of_kinds (Colon ∷ [])) k))) (c.parse_method.ensures text f first _ a e (method_part a c.args.name.computed x i u))

pub returns-in_default : goal.returns-in_default
returns-in_default g c = λ text f first a e i u x.
    stops_behind _ c.set_unexpected.result x.same (λ g. after x.verdict g) (λ n. n) (gives_up_here _ _ c.set_unexpected.result x.at c.set_unexpected.ensures
    (no_named f c.args.name.computed (no_value_behind a c.args.name.computed x (other_kind Colon _ (λ k. c.in_default.not-Colon (c.cur_kind.ensures ∙ k)))) (no_method_behind a c.args.name.computed x i u (other_kind LParen _ (λ k. c.in_default.not-LParen (c.cur_kind.ensures ∙ k))))))
