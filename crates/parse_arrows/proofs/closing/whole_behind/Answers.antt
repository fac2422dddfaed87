use Rattle.std.proofs.Common.{◌≡◌, List, ℕ, inl, sym, ap, subst, ◌∙◌}
use Rattle.js_base.specs.declared.token.Token.{Token}
use Rattle.parse_shared.specs.js_lex.Reading.{GivesBehind, GivesLexeme}
use Rattle.parse_shared.specs.js_lex.States.{State}
use Rattle.parse_shared.specs.js_cursor.Parsers.{Parser}
use Rattle.js_grammar.specs.Lexemes.{division}
use Rattle.laws_operators.proofs.Closings.{whole_told}
use Rattle.parse_arrows.proofs.closing.whole_behind.Goals as goal

pub whole_right_angle-requires-clause-kind : goal.whole_right_angle-requires-clause-kind
whole_right_angle-requires-clause-kind g c = sym c.kind.ensures ∙ c.in-RAngle.is

pub returns-in-RAngle : goal.returns-in-RAngle
returns-in-RAngle g c =
    let e : c.args.p.now.lexer ≡ c.p.inside.lexer = sym (ap (λ (v : Parser). v.lexer) c.p.view_is) in
    inl (subst (λ (v : List ℕ). GivesLexeme division (λ y. y) v c.args.place c.whole_right_angle.result) (sym (ap (λ (s : State). s.text) e) ∙ c.requires.at.at.reads) c.whole_right_angle.ensures)

pub returns-in_default : goal.returns-in_default
returns-in_default g c =
    let e : c.args.p.now.lexer ≡ c.p.inside.lexer = sym (ap (λ (v : Parser). v.lexer) c.p.view_is) in
    let b : GivesBehind c.args.p.now.text c.args.place c.in_ok-next.next = subst (λ (v : List ℕ). GivesBehind v c.args.place c.in_ok-next.next) (sym (ap (λ (s : State). s.text) e) ∙ c.requires.at.at.reads) c.in_ok-next.ensures in
    whole_told b (λ k. c.in_default.not-RAngle (c.kind.ensures ∙ k))
