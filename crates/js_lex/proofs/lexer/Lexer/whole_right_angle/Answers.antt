use Rattle.std.proofs.Common.{◌≡◌, List, ℕ, sym, ap, subst, ◌∙◌}
use Rattle.std.specs.Prelude.{IsUtf8}
use Rattle.js_base.specs.declared.token.Token.{Token}
use Rattle.part_words.specs.js_grammar.Lexemes.{division}
use Rattle.part_words.specs.Scans.{IsScanned, IsStopped}
use Rattle.js_lex.specs.States.{State}
use Rattle.js_lex.specs.Reading.{GivesLexeme}
use Rattle.js_lex.specs.Settling.{token_of}
use Rattle.js_lex.proofs.Again.{angle_last, last_text, no_trivia_for, one_given, whole_given}
use Rattle.js_lex.proofs.lexer.Lexer.whole_right_angle.Goals as goal

pub plain_at-requires-clause-no_trivia : goal.plain_at-requires-clause-no_trivia
plain_at-requires-clause-no_trivia g c = no_trivia_for c.requires.given.after c.args.token c.self.inside.source_text.now c.start-start.result (ap (λ (s : State). s.text) c.self.view_is ∙ last_text c.requires.given) c.start-start.ensures c.self.invariant.utf8 (angle_last c.requires.given c.requires.kind).0

pub returns-in-Ok : goal.returns-in-Ok
returns-in-Ok g c =
    let e = ap (λ (s : State). s.text) c.self.view_is in
    let sc = c.in-Ok.scanned in
    let h : IsScanned division c.args.self.now.text c.args.token.span.start sc = subst (λ (v : List ℕ). IsScanned division v c.args.token.span.start sc) e (subst (λ (n : ℕ). IsScanned division c.self.inside.source_text.now n sc) c.start-start.ensures c.in-Ok.ensures) in
    let t : c.token_of.result ≡ token_of sc c.args.token.span.start c.args.token.is_on_new_line = c.token_of.ensures ∙ (λ i. token_of sc (c.start-start.ensures i) (c.is_on_new_line.ensures i)) in
    subst (λ (v : Token). GivesLexeme division (λ y. y) c.args.self.now.text c.args.place v) (sym t) (whole_given c.requires.given c.requires.kind (subst IsUtf8 e c.self.invariant.utf8) sc h)

pub returns-in-Err : goal.returns-in-Err
returns-in-Err g c =
    let e = ap (λ (s : State). s.text) c.self.view_is in
    let f = c.in-Err.field-0 in
    let h : IsStopped division c.args.self.now.text c.args.token.span.start f = subst (λ (v : List ℕ). IsStopped division v c.args.token.span.start f) e (subst (λ (n : ℕ). IsStopped division c.self.inside.source_text.now n f) c.start-start.ensures c.in-Err.ensures) in
    absurd (one_given c.requires.given c.requires.kind (subst IsUtf8 e c.self.invariant.utf8) f h)
