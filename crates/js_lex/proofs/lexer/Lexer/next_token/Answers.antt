use Rattle.std.proofs.Common.{ℕ, refl, sym, subst}
use Rattle.std.specs.Prelude.{IsCharBoundary}
use Rattle.js_base.specs.declared.token.Token.{Token}
use Rattle.part_words.specs.js_grammar.Lexemes.{division}
use Rattle.js_lex.specs.States.{State, goal_of}
use Rattle.js_lex.specs.Reading.{GivesNext}
use Rattle.js_lex.proofs.Keeping.{on_err}
use Rattle.js_lex.proofs.Settled.{at_once}
use Rattle.js_lex.proofs.lexer.Lexer.next_token.Goals as goal

pub invariant_of-self : goal.invariant_of-self
invariant_of-self g c = record {
  utf8 = c.self.invariant.utf8;
  short = c.self.invariant.short;
  between = subst (λ (n : ℕ). IsCharBoundary c.self.inside.source_text.now n) (sym c.end.ensures) c.in-Some.ensures.boundary;
  lie = c.self.invariant.lie;
  order = c.self.invariant.order;
}

pub returns-in-Some-clause-ok : goal.returns-in-Some-clause-ok
returns-in-Some-clause-ok g c =
    let q : State = record { text = c.self.inside.source_text.now; goal = goal_of c.self.inside.source_type; keeps_tokens = g.C.LexerConfig.asks_for_tokens c.self.inside.config; place = c.self.inside.place; kept = c.self.inside.kept } in
    subst (λ (s : State). GivesNext division s (record q { place = c.end.result }) c.in-Some.token) c.self.view_is
    (subst (λ (n : ℕ). GivesNext division q (record q { place = n }) c.in-Some.token) (sym c.end.ensures)
    (at_once q c.self.inside.source_text.now c.self.inside.place c.in-Some.token refl refl c.in-Some.ensures.gives (sym c.if-not-tokens.ensures)))

pub returns-in_err-token-clause-err : goal.returns-in_err-token-clause-err
returns-in_err-token-clause-err g c = on_err c.from_residual.result c.in_err-token.ensures.err

pub returns-clause-ok : goal.returns-clause-ok
returns-clause-ok g c = subst (λ (t : Token). GivesNext division c.args.self.now c.read_next.new.self t) (sym c.copy_of.ensures) c.in_ok-token.ensures.ok
