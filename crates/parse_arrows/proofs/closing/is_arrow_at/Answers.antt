use Rattle.std.proofs.Common.{◌≡◌, List, ℕ, sym, ap, subst, ◌∙◌}
use Rattle.parse_shared.specs.js_lex.Reading.{GivesBehind}
use Rattle.parse_shared.specs.js_lex.States.{State}
use Rattle.parse_shared.specs.js_cursor.Parsers.{Parser}
use Rattle.laws_operators.proofs.Closings.{arrow_behind, no_arrow_behind}
use Rattle.parse_arrows.proofs.closing.is_arrow_at.Goals as goal

pub returns-in-Arrow : goal.returns-in-Arrow
returns-in-Arrow g c =
    let e : c.args.p.now.lexer ≡ c.p.inside.lexer = sym (ap (λ (v : Parser). v.lexer) c.p.view_is) in
    let b : GivesBehind c.args.p.now.text c.args.place c.in_ok-next.next = subst (λ (v : List ℕ). GivesBehind v c.args.place c.in_ok-next.next) (sym (ap (λ (s : State). s.text) e) ∙ c.requires.at.at.reads) c.in_ok-next.ensures in
    arrow_behind b (sym c.kind.ensures ∙ c.in-Arrow.is)

pub returns-in_default : goal.returns-in_default
returns-in_default g c =
    let e : c.args.p.now.lexer ≡ c.p.inside.lexer = sym (ap (λ (v : Parser). v.lexer) c.p.view_is) in
    let b : GivesBehind c.args.p.now.text c.args.place c.in_ok-next.next = subst (λ (v : List ℕ). GivesBehind v c.args.place c.in_ok-next.next) (sym (ap (λ (s : State). s.text) e) ∙ c.requires.at.at.reads) c.in_ok-next.ensures in
    no_arrow_behind b (λ k. c.in_default.not-Arrow (c.kind.ensures ∙ k))
