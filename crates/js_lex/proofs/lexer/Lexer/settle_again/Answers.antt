use Rattle.std.proofs.Common.{sym, subst, ap, ◌∙◌, Bool}
use Rattle.std.specs.Prelude.{IsCharBoundary}
use Rattle.js_lex.specs.declared.output.LexerOutput.{LexerOutput}
use Rattle.js_lex.specs.States.{State, IsReady, goal_of}
use Rattle.js_lex.specs.Settling.{ScanEnds, HasFlags, SettledBehind}
use Rattle.js_lex.specs.Comments.{AreInOrder}
use Rattle.js_lex.proofs.Giving.{settled_ends}
use Rattle.js_lex.proofs.Lying.{lie_behind, cut_back}
use Rattle.js_lex.proofs.lexer.Lexer.settle_again.Goals as goal

pub invariant_of-self : goal.invariant_of-self
invariant_of-self g c =
    let ends = subst (λ v. ScanEnds v c.args.scan) (sym (ap (λ (s : State). s.text) c.self.view_is)) c.requires.ends in
    let between = settled_ends c.self.inside.source_text.now c.tokens.result c.args.token c.args.scan _ c.settle_again.new.kept c.in-Ok.again ends c.in-Ok.ensures.ok.settled in
    let text = sym (ap (λ (s : State). s.text) c.self.view_is) in
    let kept = lie_behind c.self.inside.source_text.now _ c.tokens.result c.args.token c.args.scan c.args.flags c.self.inside.kept c.settle_again.new.kept c.in-Ok.again c.self.invariant.utf8 (subst (λ v. IsCharBoundary v c.args.token.span.start) text c.requires.starts) c.requires.fits ends (subst (λ v. HasFlags v c.args.flags) text c.requires.flags) c.in-Ok.ensures.ok c.self.invariant.lie in
    record {
      utf8 = c.self.invariant.utf8;
      short = c.self.invariant.short;
      between = subst (λ n. IsCharBoundary c.self.inside.source_text.now n) (sym c.end.ensures) between;
      lie = kept.0;
      order = λ t. subst AreInOrder (sym kept.1) (c.self.invariant.order t);
    }

pub settle_again-requires-clause-flags : goal.settle_again-requires-clause-flags
settle_again-requires-clause-flags g c = subst (λ v. HasFlags v c.args.flags) (sym (ap (λ (s : State). s.text) c.self.view_is)) c.requires.flags

pub invariant_of-self-in-Err : goal.invariant_of-self-in-Err
invariant_of-self-in-Err g c =
    let e = c.truncate.ensures ∙ cut_back c.lengths-lengths.result c.self.inside.kept c.settle_again.new.kept c.lengths-lengths.ensures c.in-Err.ensures.err in
    subst (λ (o : LexerOutput). IsReady c.self.inside.source_text.now c.self.inside.place o c.self.inside.in_order) (sym e) c.self.invariant

pub returns-in-Ok-clause-ok : goal.returns-in-Ok-clause-ok
returns-in-Ok-clause-ok g c =
    let k = subst (λ (b : Bool). SettledBehind c.self.inside.source_text.now b c.args.token c.args.scan c.args.flags c.self.inside.kept c.settle_again.new.kept c.in-Ok.again) c.tokens.ensures c.in-Ok.ensures.ok in
    (c.end.ensures, subst (λ (s : State). SettledBehind s.text s.keeps_tokens c.args.token c.args.scan c.args.flags s.kept c.settle_again.new.kept c.in-Ok.again) c.self.view_is k)

pub returns-in-Err-clause-err : goal.returns-in-Err-clause-err
returns-in-Err-clause-err g c =
    let e = c.truncate.ensures ∙ cut_back c.lengths-lengths.result c.self.inside.kept c.settle_again.new.kept c.lengths-lengths.ensures c.in-Err.ensures.err in
    let at : LexerOutput → State = λ o. record { text = c.self.inside.source_text.now; goal = goal_of c.self.inside.source_type; keeps_tokens = g.C.LexerConfig.asks_for_tokens c.self.inside.config; place = c.self.inside.place; kept = o } in
    ap at e ∙ c.self.view_is
