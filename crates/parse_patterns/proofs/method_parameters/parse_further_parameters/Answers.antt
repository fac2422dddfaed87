use Rattle.std.proofs.Common.{[], ◌≡◌, ◌∙◌, arith, refl}
use Rattle.std.proofs.lemmas.Result.{err_from_is_err_and}
use Rattle.js_base.specs.declared.kind.Kind.TheVariants.{Comma}
use Rattle.laws_patterns.proofs.laws_primary.Parentheses.{unclosed}
use Rattle.parse_shared.proofs.laws_shared.Bracketed.{opened_later}
use Rattle.parse_shared.proofs.laws_shared.Moving.{same_both, standing}
use Rattle.parse_shared.proofs.laws_shared.Nesting.{nested_room, nests_later}
use Rattle.parse_shared.proofs.laws_shared.Signs.{whole_sign}
use Rattle.laws_patterns.proofs.FurtherParameters.{behind_first, further_early, further_marked, further_stops, further_taken, unclosed_further}
use Rattle.parse_patterns.proofs.method_parameters.parse_further_parameters.Goals as goal

pub advance-requires-clause-whole : goal.advance-requires-clause-whole
advance-requires-clause-whole g c = whole_sign Comma c.requires.at c.requires.comma refl refl

pub parse_parameter_list-requires-clause-at : goal.parse_parameter_list-requires-clause-at
parse_parameter_list-requires-clause-at g c = standing (c.in_ok-advance.ensures _ _ c.requires.at).at

pub parse_parameter_list-requires-clause-nests : goal.parse_parameter_list-requires-clause-nests
parse_parameter_list-requires-clause-nests g c = nests_later c.requires.nests (let r = nested_room c.requires.at (c.in_ok-advance.ensures _ _ c.requires.at) in omega arith)

pub returns-in_err-parse_parameter_list : goal.returns-in_err-parse_parameter_list
returns-in_err-parse_parameter_list g c = λ text f o a e x.
    let p = err_from_is_err_and c.from_residual-in_err-parse_parameter_list.result c.from_residual-in_err-parse_parameter_list.ensures.1 in
    let m = c.in_ok-advance.ensures text f x.at in
    rw (p.1, p.2) (further_stops a x c.requires.comma m _ _ (c.in_err-parse_parameter_list.ensures text f m.at))

pub close_parentheses-requires-clause-at : goal.close_parentheses-requires-clause-at
close_parentheses-requires-clause-at g c = standing (c.in_ok-parse_parameter_list.ensures _ _ (c.in_ok-advance.ensures _ _ c.requires.at).at).at

pub close_parentheses-requires-clause-opened : goal.close_parentheses-requires-clause-opened
close_parentheses-requires-clause-opened g c =
    let m = c.in_ok-advance.ensures _ _ c.requires.at in
    let y = c.in_ok-parse_parameter_list.ensures _ _ m.at in
    opened_later (same_both m.same y.same) (let a = c.requires.at.behind in let b = m.further in let d = y.forward in omega arith) c.requires.opened

pub returns-in_err-close_parentheses : goal.returns-in_err-close_parentheses
returns-in_err-close_parentheses g c = λ text f o a e x.
    let p = err_from_is_err_and c.from_residual-in_err-close_parentheses.result c.from_residual-in_err-close_parentheses.ensures.1 in
    let m = c.in_ok-advance.ensures text f x.at in
    let y = behind_first (let e : c.new-parameters.result.items ≡ [] = search in e) c.in_ok-push.ensures.items (c.in_ok-parse_parameter_list.ensures text f m.at) in
    rw (p.1, p.2) (unclosed_further a x c.requires.comma m y _ _ (unclosed _ _ _ y.at c.in_err-close_parentheses.ensures (λ n. n)))

pub end_span-span-requires : goal.end_span-span-requires
end_span-span-requires g c =
    let m = c.in_ok-advance.ensures _ _ c.requires.at in
    let y = c.in_ok-parse_parameter_list.ensures _ _ m.at in
    let d = c.in_ok-close_parentheses.ensures.1 _ _ y.at in
    let s = c.requires.begins.before in let a = c.requires.at.behind in let i = m.further in let k = y.forward in let l = y.at.behind in let n = d.further in omega arith

pub error-requires-clause-at : goal.error-requires-clause-at
error-requires-clause-at g c =
    let m = c.in_ok-advance.ensures _ _ c.requires.at in
    let y = c.in_ok-parse_parameter_list.ensures _ _ m.at in
    (c.in_ok-close_parentheses.ensures.1 _ _ y.at).at.at

pub error-requires-clause-mark : goal.error-requires-clause-mark
error-requires-clause-mark g c =
    let m = c.in_ok-advance.ensures _ _ c.requires.at in
    let y = c.in_ok-parse_parameter_list.ensures _ _ m.at in
    further_marked c.requires.at m y (c.in_ok-close_parentheses.ensures.1 _ _ y.at) _ c.diagnostic_at.ensures c.requires.begins c.end_span-span.ensures.start c.end_span-span.ensures.end

pub returns : goal.returns
returns g c = λ text f o a e x.
    let m = c.in_ok-advance.ensures text f x.at in
    let y = behind_first (let e : c.new-parameters.result.items ≡ [] = search in e) c.in_ok-push.ensures.items (c.in_ok-parse_parameter_list.ensures text f m.at) in
    further_taken a x c.requires.comma m y (c.in_ok-close_parentheses.ensures.1 text f y.at) c.in_ok-error.ensures (further_early _ c.diagnostic_at.ensures) _ (c.end_span-span.ensures.start ∙ e) c.end_span-span.ensures.end c.in_ok-node.ensures
