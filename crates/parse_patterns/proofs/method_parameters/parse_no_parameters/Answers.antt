use Rattle.std.proofs.Common.{[], ◌∷◌, ◌∙◌, sym, ap, subst, arith}
use Rattle.std.proofs.lemmas.Result.{err_from_is_err_and}
use Rattle.js_base.specs.declared.span.Span.{Span}
use Rattle.js_base.specs.declared.token.Token.{Token}
use Rattle.js_base.specs.declared.kind.Kind.TheVariants.{LParen, LBrack, LCurly}
use Rattle.js_base.specs.Kinds.{one_of_kinds}
use Rattle.parse_shared.specs.js_cursor.Moves.{Opened}
use Rattle.laws_patterns.proofs.laws_primary.Parentheses.{paren_whole, unclosed}
use Rattle.parse_shared.proofs.laws_shared.Bracketed.{opened_here}
use Rattle.parse_shared.proofs.laws_shared.Moving.{standing}
use Rattle.laws_patterns.proofs.MethodParameters.{getter_unclosed, none_between, parameters_taken}
use Rattle.parse_patterns.proofs.method_parameters.parse_no_parameters.Goals as goal

pub advance-requires-clause-whole : goal.advance-requires-clause-whole
advance-requires-clause-whole g c = paren_whole c.requires.at c.requires.open

pub close_parentheses-requires-clause-at : goal.close_parentheses-requires-clause-at
close_parentheses-requires-clause-at g c = standing (c.in_ok-advance.ensures _ _ c.requires.at).at

pub close_parentheses-requires-clause-opened : goal.close_parentheses-requires-clause-opened
close_parentheses-requires-clause-opened g c =
    let m = c.in_ok-advance.ensures _ _ c.requires.at in
    subst (λ (s : Span). Opened c.advance.new.p s) (sym (c.span-opening.ensures ∙ ap (λ (t : Token). t.span) c.cur_token.ensures)) (opened_here c.requires.at (ap (one_of_kinds (LParen ∷ LBrack ∷ LCurly ∷ [])) c.requires.open) m)

pub returns-in_err-close_parentheses : goal.returns-in_err-close_parentheses
returns-in_err-close_parentheses g c = λ text f a.
    let p = err_from_is_err_and c.from_residual-in_err-close_parentheses.result c.from_residual-in_err-close_parentheses.ensures.1 in
    let m = c.in_ok-advance.ensures text f a in
    rw (p.1, p.2) (getter_unclosed a c.requires.open m _ _ (unclosed _ _ _ m.at c.in_err-close_parentheses.ensures (λ n. n)))

pub end_span-span-requires : goal.end_span-span-requires
end_span-span-requires g c =
    let m = c.in_ok-advance.ensures _ _ c.requires.at in
    let d = c.in_ok-close_parentheses.ensures.1 _ _ m.at in
    let s = ap (λ (s : Span). s.start) (c.span-opening.ensures ∙ ap (λ (t : Token). t.span) c.cur_token.ensures) in
    let i = m.further in let l = m.at.behind in let n = d.further in omega arith

pub returns : goal.returns
returns g c = λ text f a.
    let m = c.in_ok-advance.ensures text f a in
    parameters_taken a (none_between a c.requires.open m c.in_ok-close_parentheses.ensures.0 (c.in_ok-close_parentheses.ensures.1 text f m.at)) (c.end_span-span.ensures.start ∙ ap (λ (s : Span). s.start) (c.span-opening.ensures ∙ ap (λ (t : Token). t.span) c.cur_token.ensures)) c.end_span-span.ensures.end c.in_ok-node.ensures
