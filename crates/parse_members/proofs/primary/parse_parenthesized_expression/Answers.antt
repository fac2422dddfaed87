use Rattle.std.proofs.Common.{◌∙◌, sym, ap, subst, arith}
use Rattle.std.proofs.lemmas.Result.{err_from_is_err_and}
use Rattle.js_base.specs.declared.span.Span.{Span}
use Rattle.js_base.specs.declared.token.Token.{Token}
use Rattle.js_base.specs.declared.kind.Kind.TheVariants.{LParen, LBrack, LCurly}
use Rattle.js_base.specs.Kinds.{one_of_kinds}
use Rattle.std.specs.Prelude.{◌∷◌, []}
use Rattle.parse_shared.specs.js_cursor.Moves.{Opened}
use Rattle.parse_shared.proofs.laws_shared.Bracketed.{opened_here, opened_later}
use Rattle.parse_shared.proofs.laws_shared.Moving.{standing, stops_behind, same_both}
use Rattle.parse_shared.proofs.laws_shared.Nesting.{nested_room, nests_later}
use Rattle.parse_primary.proofs.laws_primary.Parentheses.{expression_fails, close_fails, paren_answers, unclosed, paren_whole}
use Rattle.parse_shared.specs.js_tree.Nodes.{Node}
use Rattle.parse_shared.specs.js_cursor.Parsers.{Parser}
use Rattle.std.proofs.Common.{List, ◌<◌, length}
use Rattle.parse_shared.proofs.js_tree.HoldingLemmas.{Holds-below}
use Rattle.parse_shared.proofs.laws_shared.Verdicts.{after, grown_then}
use Rattle.parse_members.proofs.primary.parse_parenthesized_expression.Goals as goal

pub advance-requires-clause-whole : goal.advance-requires-clause-whole
advance-requires-clause-whole t c = paren_whole c.requires.at c.requires.kind

pub expression_with_in-requires-clause-at : goal.expression_with_in-requires-clause-at
expression_with_in-requires-clause-at t c = standing (c.in_ok-advance.ensures _ _ c.requires.at).at

pub expression_with_in-requires-clause-nests : goal.expression_with_in-requires-clause-nests
expression_with_in-requires-clause-nests t c = nests_later c.requires.nests (let r = nested_room c.requires.at (c.in_ok-advance.ensures _ _ c.requires.at) in omega arith)

pub returns-in_err-expression : goal.returns-in_err-expression
returns-in_err-expression t c = λ text f a.
    let p = err_from_is_err_and c.from_residual-in_err-expression.result c.from_residual-in_err-expression.ensures.1 in
    let m = c.in_ok-advance.ensures text f a in
    rw (p.1, p.2) (stops_behind _ _ m.same (λ g. grown_then m.kept g) (λ n. expression_fails a c.requires.kind m n) (c.in_err-expression.ensures text f m.at))

pub close_parentheses-requires-clause-at : goal.close_parentheses-requires-clause-at
close_parentheses-requires-clause-at t c = standing (c.in_ok-expression.ensures _ _ (c.in_ok-advance.ensures _ _ c.requires.at).at).answer.at

pub close_parentheses-requires-clause-opened : goal.close_parentheses-requires-clause-opened
close_parentheses-requires-clause-opened t c =
    let m = c.in_ok-advance.ensures _ _ c.requires.at in
    let x = (c.in_ok-expression.ensures _ _ m.at).answer in
    subst (λ (s : Span). Opened c.expression_with_in.new.p s) (sym (c.span-opening.ensures ∙ ap (λ (t : Token). t.span) c.cur_token.ensures)) (opened_later x.same (let a = x.further in let b = m.at.behind in omega arith) (opened_here c.requires.at (ap (one_of_kinds (LParen ∷ LBrack ∷ LCurly ∷ [])) c.requires.kind) m))

pub returns-in_err-close_parentheses : goal.returns-in_err-close_parentheses
returns-in_err-close_parentheses t c = λ text f a.
    let p = err_from_is_err_and c.from_residual-in_err-close_parentheses.result c.from_residual-in_err-close_parentheses.ensures.1 in
    let m = c.in_ok-advance.ensures text f a in
    let x = c.in_ok-expression.ensures text f m.at in
    rw (p.1, p.2) (stops_behind _ _ (same_both m.same x.answer.same) (λ g. grown_then m.kept (after x.answer.verdict g)) (λ n. close_fails a c.requires.kind m x.answer n) (unclosed _ _ _ x.answer.at c.in_err-close_parentheses.ensures (λ n. n)))

pub end_span-span-requires : goal.end_span-span-requires
end_span-span-requires t c =
    let m = c.in_ok-advance.ensures _ _ c.requires.at in
    let x = (c.in_ok-expression.ensures _ _ m.at).answer in
    let d = c.in_ok-close_parentheses.ensures.1 _ _ x.at in
    let s = ap (λ (s : Span). s.start) (c.span-opening.ensures ∙ ap (λ (t : Token). t.span) c.cur_token.ensures) in
    let v = ap (λ (z : Parser). z.prev_token_end) c.mark_in_parentheses.ensures.0 in
    let i = m.further in let j = m.at.behind in let k = x.further in let l = x.at.behind in let n = d.further in omega arith

pub returns : goal.returns
returns t c = λ text f a.
    let m = c.in_ok-advance.ensures text f a in
    let x = c.in_ok-expression.ensures text f m.at in
    let d = c.in_ok-close_parentheses.ensures.1 text f x.answer.at in
    paren_answers _ a c.requires.kind m x c.in_ok-close_parentheses.ensures.0 d c.mark_in_parentheses.ensures (c.end_span-span.ensures.start ∙ ap (λ (s : Span). s.start) (c.span-opening.ensures ∙ ap (λ (t : Token). t.span) c.cur_token.ensures)) (c.end_span-span.ensures.end ∙ ap (λ (z : Parser). z.prev_token_end) c.mark_in_parentheses.ensures.0) c.in_ok-node.ensures

pub mark_in_parentheses-requires : goal.mark_in_parentheses-requires
mark_in_parentheses-requires t c =
    let m = c.in_ok-advance.ensures _ _ c.requires.at in
    let x = c.in_ok-expression.ensures _ _ m.at in
    let d = c.in_ok-close_parentheses.ensures.1 _ _ x.answer.at in
    subst (λ (ns : List Node). c.in_ok-expression.expression.0 < length ns) (sym d.nodes) (Holds-below x.holds)
