use Rattle.std.proofs.Common.{ℕ, sym, ap, subst, ◌∙◌}
use Rattle.std.specs.Prelude.{IsCharBoundary}
use Rattle.js_lex.specs.declared.output.LexerOutput.{LexerOutput}
use Rattle.js_lex.specs.declared.checkpoint.Lengths.{Lengths}
use Rattle.js_lex.specs.Comments.{Follow}
use Rattle.js_lex.specs.States.{IsReady}
use Rattle.js_lex.proofs.Lying.{lie_next, cut_back}
use Rattle.js_lex.proofs.Ordered.{order_next}
use Rattle.js_lex.proofs.lexer.Lexer.read_next.Goals.{then-self, else-self}
use Rattle.js_lex.proofs.lexer.Lexer.read_next.Goals as goal

pub invariant_of-self : goal.invariant_of-self
invariant_of-self g c = record {
  utf8 = c.self.invariant.utf8;
  short = c.self.invariant.short;
  between = subst (λ (n : ℕ). IsCharBoundary c.self.inside.source_text.now n) (sym c.end.ensures) c.in-Ok.ensures.boundary;
  lie = lie_next _ _ _ c.in-Ok.ensures.ok c.self.invariant.lie;
  order = λ t. elim c.if-self.branch [
    | then-self w ↦ order_next _ _ _ c.in-Ok.ensures.ok (subst (λ (n : ℕ). Follow c.read_plain.new.kept.comments n) (ap (λ (m : Lengths). m.comments) c.lengths-lengths.ensures) (w.follow-self-inside.ensures (sym w.self-is ∙ t))) (c.self.invariant.order w.if-self.true)
    | else-self w ↦ absurd (let a = w.self-is in let b = t in cc)
  ];
}

pub invariant_of-self-in-Err : goal.invariant_of-self-in-Err
invariant_of-self-in-Err g c =
    let e = c.truncate.ensures ∙ cut_back c.lengths-lengths.result c.self.inside.kept c.read_plain.new.kept c.lengths-lengths.ensures c.in-Err.ensures.err in
    subst (λ (o : LexerOutput). IsReady c.self.inside.source_text.now c.self.inside.place o c.self.inside.in_order) (sym e) c.self.invariant
