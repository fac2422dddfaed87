use Rattle.std.proofs.Common.{sym, subst, ap, ◌∙◌}
use Rattle.js_lex.specs.States.{State}
use Rattle.std.specs.Prelude.{IsCharBoundary, Result, Ok, Err, IfOk}
use Rattle.js_base.specs.declared.token.Token.{Token}
use Rattle.part_words.specs.js_grammar.Lexemes.{division}
use Rattle.js_lex.specs.Reading.{GivesNext}
use Rattle.js_lex.proofs.Giving.{text_stays}
use Rattle.js_lex.proofs.Settled.{at_once, next_same, ok_only}
use Rattle.js_lex.proofs.lexer.Lexer.peek_token.Goals as goal

-- what is given is given with some state behind it
ok_some : (old mid : State) {E : Type 0} (r : Result Token E) → IfOk r (λ t. GivesNext division old mid t) → IfOk r (λ t. (after : State) × GivesNext division old after t)
ok_some old mid (Ok t) h = (mid, h)
ok_some old mid (Err e) h = tt

pub returns-clause-ok : goal.returns-clause-ok
returns-clause-ok g c = ok_some c.args.self.now c.next_token-token.new.self c.next_token-token.result c.next_token-token.ensures.ok

pub rewind-requires-clause-between : goal.rewind-requires-clause-between
rewind-requires-clause-between g c = subst (λ (v : Rattle.std.specs.Prelude.List Rattle.std.specs.Prelude.ℕ). IsCharBoundary v c.checkpoint-here.result.place) (sym (text_stays _ _ c.next_token-token.result c.next_token-token.ensures.ok c.next_token-token.ensures.err)) c.checkpoint-here.ensures.between

pub returns-clause-only : goal.returns-clause-only
returns-clause-only g c = ok_only _ _ c.next_token-token.result c.next_token-token.ensures.ok

pub returns-in-Some-clause-ok : goal.returns-in-Some-clause-ok
returns-in-Some-clause-ok g c = (record c.args.self.now { place = c.in-Some.token.span.end }, at_once c.args.self.now _ _ c.in-Some.token (sym (ap (λ (q : State). q.text) c.self.view_is)) (sym (ap (λ (q : State). q.place) c.self.view_is)) c.in-Some.ensures.gives (sym (ap (λ (q : State). q.keeps_tokens) c.self.view_is) ∙ (sym c.tokens.ensures ∙ c.if-not-tokens.true)))

pub returns-in-Some-clause-only : goal.returns-in-Some-clause-only
returns-in-Some-clause-only g c = λ after u h. next_same c.args.self.now after (let x = returns-in-Some-clause-ok g c in x.0) u c.in-Some.token h (let x = returns-in-Some-clause-ok g c in x.1)
