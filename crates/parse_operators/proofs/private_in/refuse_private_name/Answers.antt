use Rattle.std.proofs.Common.{◌≡◌, ◌∙◌, ap, subst, sym}
use Rattle.js_base.specs.declared.diagnostic.Diagnostic.{Diagnostic}
use Rattle.js_base.specs.declared.span.Span.{Span}
use Rattle.js_base.specs.declared.token.Token.{Token}
use Rattle.js_grammar.specs.Marks.{Mark}
use Rattle.laws_operators.proofs.PrivateOperands.{private_marked}
use Rattle.parse_shared.specs.js_cursor.Moves.{GivesUp}
use Rattle.parse_shared.specs.js_cursor.Places.{goal as goal_at}
use Rattle.parse_shared.specs.laws_shared.Told.{unrelated_at}
use Rattle.parse_operators.proofs.private_in.refuse_private_name.Goals as goal

pub set_fatal_error-requires-clause-mark : goal.set_fatal_error-requires-clause-mark
set_fatal_error-requires-clause-mark g c = subst (λ (d : Diagnostic). Mark (goal_at c.args.p.now) c.args.p.now.text d) (sym c.diagnostic_at.ensures) (private_marked c.args.kind c.span-span.result c.requires.at c.requires.private c.requires.kind (c.span-span.ensures ∙ ap (λ (t : Token). t.span) c.cur_token.ensures))

pub returns : goal.returns
returns g c =
    let e = c.span-span.ensures ∙ ap (λ (t : Token). t.span) c.cur_token.ensures in
    subst (λ (d' : Diagnostic). GivesUp (λ d. d ≡ d') c.args.p.now c.set_fatal_error.new.self c.set_fatal_error.result) (c.diagnostic_at.ensures ∙ ap (λ (s : Span). unrelated_at c.args.kind s) e) c.set_fatal_error.ensures
