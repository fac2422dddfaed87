use Rattle.std.proofs.Common.{◌≡◌, inl, inr, refl, List, ℕ, sym, ap, subst, ◌∙◌}
use Rattle.js_base.specs.declared.diagnostic.Diagnostic.{Diagnostic}
use Rattle.js_grammar.specs.Marks.{Mark}
use Rattle.parse_shared.specs.js_lex.Reading.{GivesBehind}
use Rattle.parse_shared.specs.js_lex.States.{State}
use Rattle.parse_shared.specs.js_cursor.Parsers.{Parser}
use Rattle.parse_shared.specs.js_cursor.Places.{goal as source}
use Rattle.parse_targets.proofs.PlacesTold.{comma_marked, not_open, open_behind}
use Rattle.parse_targets.proofs.widening.tell_comma.Goals as goal

pub error-requires-clause-mark : goal.error-requires-clause-mark
error-requires-clause-mark g c =
    let e : c.args.p.now.lexer ≡ c.p.inside.lexer = sym (ap (λ (v : Parser). v.lexer) c.p.view_is) in
    let b : GivesBehind c.args.p.now.text c.args.rest.end c.in_ok-next.next = subst (λ (v : List ℕ). GivesBehind v c.args.rest.end c.in_ok-next.next) (sym (ap (λ (s : State). s.text) e) ∙ c.requires.at.at.reads) c.in_ok-next.ensures in
    subst (λ (d : Diagnostic). Mark (source c.args.p.now) c.args.p.now.text d) (sym c.diagnostic_at.ensures) (comma_marked b (source c.args.p.now) c.span.result c.requires.at.at.utf8 c.requires.ended (sym c.kind.ensures ∙ c.in-Comma.is) c.span.ensures)

pub returns-in_ok-error : goal.returns-in_ok-error
returns-in_ok-error g c =
    let e : c.args.p.now.lexer ≡ c.p.inside.lexer = sym (ap (λ (v : Parser). v.lexer) c.p.view_is) in
    let b : GivesBehind c.args.p.now.text c.args.rest.end c.in_ok-next.next = subst (λ (v : List ℕ). GivesBehind v c.args.rest.end c.in_ok-next.next) (sym (ap (λ (s : State). s.text) e) ∙ c.requires.at.at.reads) c.in_ok-next.ensures in
    inr (not_open b (sym c.kind.ensures ∙ c.in-Comma.is), (_, ap (λ (d : Diagnostic). d.kind) c.diagnostic_at.ensures, c.in_ok-error.ensures))

pub returns-in_default : goal.returns-in_default
returns-in_default g c =
    let e : c.args.p.now.lexer ≡ c.p.inside.lexer = sym (ap (λ (v : Parser). v.lexer) c.p.view_is) in
    let b : GivesBehind c.args.p.now.text c.args.rest.end c.in_ok-next.next = subst (λ (v : List ℕ). GivesBehind v c.args.rest.end c.in_ok-next.next) (sym (ap (λ (s : State). s.text) e) ∙ c.requires.at.at.reads) c.in_ok-next.ensures in
    inl (open_behind b (λ k. c.in_default.not-Comma (c.kind.ensures ∙ k)), refl)
