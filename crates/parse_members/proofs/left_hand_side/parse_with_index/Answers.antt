use Rattle.std.proofs.Common.{◌∷◌, [], Some, sym, ap, subst, arith, ◌∙◌}
use Rattle.parse_shared.specs.laws_shared.Moves.{unpassable}
use Rattle.std.proofs.lemmas.Result.{err_from_is_err_and}
use Rattle.js_base.specs.declared.span.Span.{Span}
use Rattle.js_base.specs.declared.token.Token.{Token}
use Rattle.js_base.specs.declared.kind.Kind.TheVariants.{RAngle, LParen, LBrack, LCurly}
use Rattle.js_base.specs.Kinds.{same_kind, one_of_kinds}
use Rattle.parse_shared.specs.js_cursor.Moves.{Opened}
use Rattle.parse_shared.proofs.laws_shared.Bracketed.{opened_here, opened_later}
use Rattle.parse_shared.proofs.laws_shared.Here.{uncut}
use Rattle.parse_primary.proofs.laws_primary.Members.{no_index, index_closed, index_part, unclosed_stops}
use Rattle.parse_shared.proofs.laws_shared.Moving.{standing, stops_behind}
use Rattle.parse_shared.proofs.laws_shared.Nesting.{nested_room, nests_later}
use Rattle.parse_shared.proofs.laws_shared.Verdicts.{grown_then}
use Rattle.parse_members.proofs.left_hand_side.parse_with_index.Goals as goal

pub advance-requires-clause-whole : goal.advance-requires-clause-whole
advance-requires-clause-whole t c = (uncut c.requires.at (ap (same_kind RAngle) c.requires.open), ap unpassable c.requires.open)

pub expression_with_in-requires-clause-at : goal.expression_with_in-requires-clause-at
expression_with_in-requires-clause-at t c = standing (c.in_ok-advance.ensures _ _ c.requires.at).at

pub expression_with_in-requires-clause-nests : goal.expression_with_in-requires-clause-nests
expression_with_in-requires-clause-nests t c = nests_later c.requires.nests (let r = nested_room c.requires.at (c.in_ok-advance.ensures _ _ c.requires.at) in omega arith)

pub returns-in_err-index : goal.returns-in_err-index
returns-in_err-index t c =
    let p = err_from_is_err_and c.from_residual-in_err-index.result c.from_residual-in_err-index.ensures.1 in
    rw (p.1, p.2) (λ text f a. let m = c.in_ok-advance.ensures text f a in stops_behind _ _ m.same (λ g. grown_then m.kept g) (λ n. no_index a c.requires.open m n) (c.in_err-index.ensures text f m.at))

pub expect_closing-requires-clause-at : goal.expect_closing-requires-clause-at
expect_closing-requires-clause-at t c = (c.in_ok-index.ensures _ _ (c.in_ok-advance.ensures _ _ c.requires.at).at).answer.at.at

pub expect_closing-requires-clause-opened : goal.expect_closing-requires-clause-opened
expect_closing-requires-clause-opened t c =
    let m = c.in_ok-advance.ensures _ _ c.requires.at in
    let x = (c.in_ok-index.ensures _ _ m.at).answer in
    subst (λ (s : Span). Opened c.expression_with_in.new.p s) (sym (c.span-opening.ensures ∙ ap (λ (t : Token). t.span) c.cur_token.ensures)) (opened_later x.same (let i = x.further in let j = m.at.behind in omega arith) (opened_here c.requires.at (ap (one_of_kinds (LParen ∷ LBrack ∷ LCurly ∷ [])) c.requires.open) m))

pub returns-in_err-expect_closing : goal.returns-in_err-expect_closing
returns-in_err-expect_closing t c =
    let p = err_from_is_err_and c.from_residual-in_err-expect_closing.result c.from_residual-in_err-expect_closing.ensures.1 in
    rw (p.1, p.2) (λ text f a. let m = c.in_ok-advance.ensures text f a in unclosed_stops a c.requires.open m (c.in_ok-index.ensures text f m.at) _ _ _ c.in_err-expect_closing.ensures)

pub make_member-requires-clause-start : goal.make_member-requires-clause-start
make_member-requires-clause-start t c =
    let m = c.in_ok-advance.ensures _ _ c.requires.at in
    let x = c.in_ok-index.ensures _ _ m.at in
    let d = index_closed c.requires.at c.requires.open m x c.in_ok-expect_closing.ensures.0 c.in_ok-expect_closing.ensures.1 in
    let a = m.further in let b = x.answer.further in let e = d.further in let g = m.at.behind in let h = x.answer.at.behind in let i = c.requires.at.behind in let s = c.requires.start in omega arith

pub returns : goal.returns
returns t c = record {
  behind = c.expect_closing.new.self;
  children = _;
  part = λ text f a.
      let m = c.in_ok-advance.ensures text f a in
      let x = c.in_ok-index.ensures text f m.at in
      index_part a c.requires.open m x (Some c.args.left ∷ []) c.in_ok-expect_closing.ensures.0 (index_closed a c.requires.open m x c.in_ok-expect_closing.ensures.0 c.in_ok-expect_closing.ensures.1);
  made = c.in_ok-node.ensures;
}
