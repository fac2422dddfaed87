use Rattle.std.proofs.Common.{[], ◌∷◌, ◌∙◌, sym, ap, subst, arith}
use Rattle.std.proofs.lemmas.Result.{err_from_is_err_and}
use Rattle.js_base.specs.declared.span.Span.{Span}
use Rattle.js_base.specs.declared.token.Token.{Token}
use Rattle.js_base.specs.declared.kind.Kind.TheVariants.{LParen, LBrack, LCurly}
use Rattle.js_base.specs.Kinds.{one_of_kinds}
use Rattle.parse_shared.specs.js_cursor.Moves.{Opened}
use Rattle.laws_patterns.proofs.laws_primary.Parentheses.{paren_whole, unclosed}
use Rattle.parse_shared.proofs.laws_shared.Bracketed.{opened_here, opened_later}
use Rattle.parse_shared.proofs.laws_shared.Moving.{same_both, standing}
use Rattle.parse_shared.proofs.laws_shared.Nesting.{later_room, nested_room, nests_later}
use Rattle.laws_patterns.proofs.Accessors.{parentheses_begin}
use Rattle.laws_patterns.proofs.MethodParameters.{no_parameter, one_between, parameters_taken, setter_unclosed, with_parameter}
use Rattle.parse_patterns.proofs.method_parameters.parse_one_parameter.Goals as goal

pub advance-requires-clause-whole : goal.advance-requires-clause-whole
advance-requires-clause-whole g c = paren_whole c.requires.at c.requires.open

pub parse_formal_parameter-requires-clause-at : goal.parse_formal_parameter-requires-clause-at
parse_formal_parameter-requires-clause-at g c = standing (c.in_ok-advance.ensures _ _ c.requires.at).at

pub parse_formal_parameter-requires-clause-nests : goal.parse_formal_parameter-requires-clause-nests
parse_formal_parameter-requires-clause-nests g c = nests_later c.requires.nests (let r = nested_room c.requires.at (c.in_ok-advance.ensures _ _ c.requires.at) in omega arith)

pub returns-in_err-parameter : goal.returns-in_err-parameter
returns-in_err-parameter g c = λ text f a.
    let p = err_from_is_err_and c.from_residual-in_err-parameter.result c.from_residual-in_err-parameter.ensures.1 in
    let m = c.in_ok-advance.ensures text f a in
    rw (p.1, p.2) (no_parameter a c.requires.open m _ _ (c.in_err-parameter.ensures text f m.at))

pub parse_further_parameters-requires-clause-at : goal.parse_further_parameters-requires-clause-at
parse_further_parameters-requires-clause-at g c = standing (c.in_ok-parameter.ensures _ _ (c.in_ok-advance.ensures _ _ c.requires.at).at).at

pub parse_further_parameters-requires-clause-nests : goal.parse_further_parameters-requires-clause-nests
parse_further_parameters-requires-clause-nests g c =
    let m = c.in_ok-advance.ensures _ _ c.requires.at in
    let x = c.in_ok-parameter.ensures _ _ m.at in
    nests_later c.requires.nests (let r = nested_room c.requires.at m in let s = later_room (let i = x.further in let j = m.at.behind in omega arith) x.same in omega arith)

pub parse_further_parameters-requires-clause-opened : goal.parse_further_parameters-requires-clause-opened
parse_further_parameters-requires-clause-opened g c =
    let m = c.in_ok-advance.ensures _ _ c.requires.at in
    let x = c.in_ok-parameter.ensures _ _ m.at in
    subst (λ (s : Span). Opened c.parse_formal_parameter.new.p s) (sym (c.span-opening.ensures ∙ ap (λ (t : Token). t.span) c.cur_token.ensures)) (opened_later x.same (let i = x.further in let j = m.at.behind in omega arith) (opened_here c.requires.at (ap (one_of_kinds (LParen ∷ LBrack ∷ LCurly ∷ [])) c.requires.open) m))

pub parse_further_parameters-requires-clause-begins : goal.parse_further_parameters-requires-clause-begins
parse_further_parameters-requires-clause-begins g c =
    let m = c.in_ok-advance.ensures _ _ c.requires.at in
    let x = c.in_ok-parameter.ensures _ _ m.at in
    parentheses_begin c.requires.at c.requires.open (same_both m.same x.same) (let a = m.further in let b = m.at.behind in let d = x.further in omega arith) (ap (λ (s : Span). s.start) (c.span-opening.ensures ∙ ap (λ (t : Token). t.span) c.cur_token.ensures))

pub returns-then-at : goal.returns-then-at
returns-then-at g c = λ text f a.
    let m = c.in_ok-advance.ensures text f a in
    c.parse_further_parameters.ensures text f _ a (ap (λ (s : Span). s.start) (c.span-opening.ensures ∙ ap (λ (t : Token). t.span) c.cur_token.ensures)) (with_parameter a c.requires.open m (c.in_ok-parameter.ensures text f m.at))

pub close_parentheses-requires-clause-at : goal.close_parentheses-requires-clause-at
close_parentheses-requires-clause-at g c = standing (c.in_ok-parameter.ensures _ _ (c.in_ok-advance.ensures _ _ c.requires.at).at).at

pub close_parentheses-requires-clause-opened : goal.close_parentheses-requires-clause-opened
close_parentheses-requires-clause-opened g c =
    let m = c.in_ok-advance.ensures _ _ c.requires.at in
    let x = c.in_ok-parameter.ensures _ _ m.at in
    subst (λ (s : Span). Opened c.parse_formal_parameter.new.p s) (sym (c.span-opening.ensures ∙ ap (λ (t : Token). t.span) c.cur_token.ensures)) (opened_later x.same (let i = x.further in let j = m.at.behind in omega arith) (opened_here c.requires.at (ap (one_of_kinds (LParen ∷ LBrack ∷ LCurly ∷ [])) c.requires.open) m))

pub returns-in_err-close_parentheses : goal.returns-in_err-close_parentheses
returns-in_err-close_parentheses g c = λ text f a.
    let p = err_from_is_err_and c.from_residual-in_err-close_parentheses.result c.from_residual-in_err-close_parentheses.ensures.1 in
    let m = c.in_ok-advance.ensures text f a in
    let x = c.in_ok-parameter.ensures text f m.at in
    rw (p.1, p.2) (setter_unclosed a c.requires.open m x _ _ (unclosed _ _ _ x.at c.in_err-close_parentheses.ensures (λ n. n)))

pub end_span-span-requires : goal.end_span-span-requires
end_span-span-requires g c =
    let m = c.in_ok-advance.ensures _ _ c.requires.at in
    let x = c.in_ok-parameter.ensures _ _ m.at in
    let d = c.in_ok-close_parentheses.ensures.1 _ _ x.at in
    let s = ap (λ (s : Span). s.start) (c.span-opening.ensures ∙ ap (λ (t : Token). t.span) c.cur_token.ensures) in
    let i = m.further in let j = m.at.behind in let k = x.further in let l = x.at.behind in let n = d.further in omega arith

pub returns : goal.returns
returns g c = λ text f a.
    let m = c.in_ok-advance.ensures text f a in
    let x = c.in_ok-parameter.ensures text f m.at in
    parameters_taken a (one_between a c.requires.open m x c.in_ok-close_parentheses.ensures.0 (c.in_ok-close_parentheses.ensures.1 text f x.at)) (c.end_span-span.ensures.start ∙ ap (λ (s : Span). s.start) (c.span-opening.ensures ∙ ap (λ (t : Token). t.span) c.cur_token.ensures)) c.end_span-span.ensures.end c.in_ok-node.ensures
