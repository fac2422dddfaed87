use Rattle.std.proofs.Common.{subst, ap, inl, refl, Some, ◌∙◌}
use Rattle.std.specs.Prelude.{IsUtf8}
use Rattle.js_lex.specs.States.{State}
use Rattle.part_words.proofs.KindsOfLexemes.{hashbang_is}
use Rattle.js_lex.proofs.Firsts.{gives_hashbang, ok_first, hashbang_for, none_for}
use Rattle.js_lex.proofs.lexer.Lexer.first_token.Goals as goal

pub returns-in-Some-clause-ok : goal.returns-in-Some-clause-ok
returns-in-Some-clause-ok g c =
    let text = ap (λ (s : State). s.text) c.self.view_is in
    let h = hashbang_for c.args.self.now c.self.inside.source_text.now c.self.inside.place c.in-Some.scanned text (ap (λ (s : State). s.place) c.self.view_is) c.requires c.in-Some.ensures in
    inl (gives_hashbang c.args.self.now _ c.in-Some.scanned c.token_of.result (subst IsUtf8 text c.self.invariant.utf8) (record { text = text; goal = ap (λ (s : State). s.goal) c.self.view_is; keeps_tokens = ap (λ (s : State). s.keeps_tokens) c.self.view_is }) refl (ap (λ (s : State). s.kept) c.self.view_is) h (h.lexeme.kind ∙ ap Some (hashbang_is h.word c.in-Some.scanned.kind h.lexeme.kind)) c.token_of.ensures)

pub returns-in-None-clause-ok : goal.returns-in-None-clause-ok
returns-in-None-clause-ok g c = ok_first c.args.self.now c.next_token.new.self c.next_token.result (none_for c.args.self.now c.self.inside.source_text.now c.self.inside.place (ap (λ (s : State). s.text) c.self.view_is) (ap (λ (s : State). s.place) c.self.view_is) c.requires c.in-None.ensures) c.next_token.ensures.ok
