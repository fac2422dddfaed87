use Rattle.std.proofs.Common.{ap, refl, subst, sym, ◌∙◌}
use Rattle.js_base.specs.declared.kind.Kind.TheVariants.{Await}
use Rattle.js_base.specs.declared.span.Span.{Span}
use Rattle.js_base.specs.declared.token.Token.{Token}
use Rattle.js_grammar.specs.Marks.{Mark}
use Rattle.parse_shared.specs.js_cursor.Places.{goal as goal_at}
use Rattle.parse_primary.proofs.laws_primary.Members.{stands_so}
use Rattle.laws_statements.specs.ForWords.{ChecksAwait, await_at}
use Rattle.laws_statements.proofs.ForStatements.{await_marked, await_passable}
use Rattle.parse_control.proofs.for_statement.pass_await.Goals as goal

pub returns-then-not-stands : goal.returns-then-not-stands
returns-then-not-stands g c = (stands_so c.args.p.now Await c.if-not-stands.true c.stands.ensures, refl)

pub check_await-requires-clause-at : goal.check_await-requires-clause-at
check_await-requires-clause-at g c = c.requires.at

pub check_await-requires-clause-mark : goal.check_await-requires-clause-mark
check_await-requires-clause-mark g c = subst (λ (s : Span). Mark (goal_at c.args.p.now) c.args.p.now.text (await_at s)) (sym (c.span-word.ensures ∙ ap (λ (t : Token). t.span) c.cur_token.ensures)) (await_marked c.requires (stands_so c.args.p.now Await c.if-not-stands.false c.stands.ensures))

pub advance-requires-clause-whole : goal.advance-requires-clause-whole
advance-requires-clause-whole g c = await_passable c.requires (stands_so c.args.p.now Await c.if-not-stands.false c.stands.ensures) c.in_ok-check_await.ensures

pub returns : goal.returns
returns g c = (stands_so c.args.p.now Await c.if-not-stands.false c.stands.ensures, c.check_await.new.p, subst (λ (s : Span). ChecksAwait s c.args.p.now c.check_await.new.p) (c.span-word.ensures ∙ ap (λ (t : Token). t.span) c.cur_token.ensures) c.in_ok-check_await.ensures, c.in_ok-advance.ensures)
