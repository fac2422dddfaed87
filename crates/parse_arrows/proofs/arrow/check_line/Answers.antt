use Rattle.std.proofs.Common.{◌≡◌, inl, true, sym, subst}
use Rattle.js_base.specs.declared.diagnostic.Diagnostic.{Diagnostic}
use Rattle.js_grammar.specs.Marks.{Mark}
use Rattle.parse_shared.specs.js_cursor.Places.{goal as goal_of}
use Rattle.laws_operators.proofs.Arrows.{late_marked, late_told}
use Rattle.parse_arrows.proofs.arrow.check_line.Goals as goal

pub error-requires-clause-mark : goal.error-requires-clause-mark
error-requires-clause-mark g c = subst (λ (d : Diagnostic). Mark (goal_of c.args.p.now) c.args.p.now.text d) (sym c.diagnostic_at.ensures) (late_marked _ c.requires.at c.requires.arrow (let e : c.args.p.now.token.is_on_new_line ≡ true = search in e) (let e : c.span-arrow.result ≡ c.args.p.now.token.span = search in e))

pub returns-in_ok-error : goal.returns-in_ok-error
returns-in_ok-error g c = inl ((let e : c.args.p.now.token.is_on_new_line ≡ true = search in e), late_told _ c.diagnostic_at.ensures (let e : c.span-arrow.result ≡ c.args.p.now.token.span = search in e) c.in_ok-error.ensures)
