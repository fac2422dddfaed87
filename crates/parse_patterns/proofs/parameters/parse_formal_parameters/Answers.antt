use Rattle.std.proofs.Common.{◌≡◌, ◌∙◌, sym, ap, subst, arith}
use Rattle.std.proofs.lemmas.Result.{err_from_is_err_and}
use Rattle.js_base.specs.declared.span.Span.{Span}
use Rattle.js_base.specs.declared.token.Token.{Token}
use Rattle.js_base.specs.declared.kind.Kind.TheVariants.{LParen, LBrack, LCurly}
use Rattle.js_base.specs.Kinds.{one_of_kinds}
use Rattle.std.specs.Prelude.{◌∷◌, []}
use Rattle.parse_shared.specs.js_cursor.Moves.{Opened}
use Rattle.parse_shared.proofs.laws_shared.Bracketed.{opened_here, opened_later}
use Rattle.parse_shared.proofs.laws_shared.Moving.{standing, stops_behind}
use Rattle.parse_shared.proofs.laws_shared.Nesting.{nested_room, nests_later}
use Rattle.laws_patterns.proofs.laws_primary.Parentheses.{paren_whole, unclosed}
use Rattle.laws_patterns.proofs.Lists.{list_goes_on, list_stops}
use Rattle.laws_patterns.proofs.ParameterLists.{behind_children, list_answers, list_begins, no_params, unclosed_list}
use Rattle.parse_shared.proofs.laws_shared.Verdicts.{after}
use Rattle.parse_shared.proofs.laws_shared.Moving.{stops_so}
use Rattle.parse_patterns.proofs.parameters.parse_formal_parameters.Goals as goal

pub advance-requires-clause-whole : goal.advance-requires-clause-whole
advance-requires-clause-whole g c = paren_whole c.requires.at c.requires.open

pub parse_parameter_list-requires-clause-at : goal.parse_parameter_list-requires-clause-at
parse_parameter_list-requires-clause-at g c = standing (c.in_ok-advance.ensures _ _ c.requires.at).at

pub parse_parameter_list-requires-clause-nests : goal.parse_parameter_list-requires-clause-nests
parse_parameter_list-requires-clause-nests g c = nests_later c.requires.nests (let r = nested_room c.requires.at (c.in_ok-advance.ensures _ _ c.requires.at) in omega arith)

pub returns-in_err-parse_parameter_list : goal.returns-in_err-parse_parameter_list
returns-in_err-parse_parameter_list g c = λ text f a.
    let p = err_from_is_err_and c.from_residual-in_err-parse_parameter_list.result c.from_residual-in_err-parse_parameter_list.ensures.1 in
    let m = c.in_ok-advance.ensures text f a in
    rw (p.1, p.2) (stops_so _ _ _ (λ n. no_params f n) (list_stops _ _ (list_begins a c.requires.open m) (c.in_err-parse_parameter_list.ensures text f m.at)))

pub close_parentheses-requires-clause-at : goal.close_parentheses-requires-clause-at
close_parentheses-requires-clause-at g c = standing (c.in_ok-parse_parameter_list.ensures _ _ (c.in_ok-advance.ensures _ _ c.requires.at).at).at

pub close_parentheses-requires-clause-opened : goal.close_parentheses-requires-clause-opened
close_parentheses-requires-clause-opened g c =
    let m = c.in_ok-advance.ensures _ _ c.requires.at in
    let x = c.in_ok-parse_parameter_list.ensures _ _ m.at in
    subst (λ (s : Span). Opened c.parse_parameter_list.new.p s) (sym (c.span-opening.ensures ∙ ap (λ (t : Token). t.span) c.cur_token.ensures)) (opened_later x.same x.forward (opened_here c.requires.at (ap (one_of_kinds (LParen ∷ LBrack ∷ LCurly ∷ [])) c.requires.open) m))

pub returns-in_err-close_parentheses : goal.returns-in_err-close_parentheses
returns-in_err-close_parentheses g c = λ text f a.
    let p = err_from_is_err_and c.from_residual-in_err-close_parentheses.result c.from_residual-in_err-close_parentheses.ensures.1 in
    let m = c.in_ok-advance.ensures text f a in
    let y = c.in_ok-parse_parameter_list.ensures text f m.at in
    let x = list_goes_on (list_begins a c.requires.open m) (behind_children (let e : c.new-parameters.result.items ≡ [] = search in e) y) in
    rw (p.1, p.2) (stops_behind _ _ x.same (λ e. after x.verdict e) (λ n. unclosed_list a x n) (unclosed _ _ _ x.at c.in_err-close_parentheses.ensures (λ n. n)))

pub end_span-span-requires : goal.end_span-span-requires
end_span-span-requires g c =
    let m = c.in_ok-advance.ensures _ _ c.requires.at in
    let x = c.in_ok-parse_parameter_list.ensures _ _ m.at in
    let d = c.in_ok-close_parentheses.ensures.1 _ _ x.at in
    let s = ap (λ (s : Span). s.start) (c.span-opening.ensures ∙ ap (λ (t : Token). t.span) c.cur_token.ensures) in
    let i = m.further in let k = x.forward in let l = x.at.behind in let n = d.further in omega arith

pub returns : goal.returns
returns g c = λ text f a.
    let m = c.in_ok-advance.ensures text f a in
    let y = c.in_ok-parse_parameter_list.ensures text f m.at in
    let x = list_goes_on (list_begins a c.requires.open m) (behind_children (let e : c.new-parameters.result.items ≡ [] = search in e) y) in
    list_answers a x c.in_ok-close_parentheses.ensures.0 (c.in_ok-close_parentheses.ensures.1 text f x.at) _ (c.end_span-span.ensures.start ∙ ap (λ (s : Span). s.start) (c.span-opening.ensures ∙ ap (λ (t : Token). t.span) c.cur_token.ensures)) c.end_span-span.ensures.end c.in_ok-node.ensures
