use Rattle.std.proofs.Common.{ℕ, ◌≡◌, List, refl, sym, ap, subst, ◌++◌, ◌∙◌, length, take}
use Rattle.js_base.specs.declared.diagnostic.Diagnostic.{Diagnostic}
use Rattle.js_cursor.specs.Parsers.{Parser}
use Rattle.js_cursor.specs.js_lex.Kept.{LieIn}
use Rattle.js_cursor.specs.js_lex.States.{State}
use Rattle.js_parser.specs.FaultsTold.{AreBesideFatal}
use Rattle.js_parser.proofs.Answering.{refused_answer, found_kept}
use Rattle.js_parser.proofs.answer.refused.Goals as goal
use Rattle.js_core.proofs.laws_shared.Verdicts.{ending}

-- of other lists that are the same
beside_of : {faults faults' found found' told : List Diagnostic} → faults ≡ faults' → found ≡ found' → AreBesideFatal faults found told → AreBesideFatal faults' found' told
beside_of {faults} {faults'} {found} {found'} {told} e f h = subst (λ (v : List Diagnostic). AreBesideFatal faults' v told) f (subst (λ (v : List Diagnostic). AreBesideFatal v found told) e h)

front_of : {faults faults' told : List Diagnostic} → faults ≡ faults' → (count : ℕ) × (told ≡ take count faults) → (count : ℕ) × (told ≡ take count faults')
front_of e h = (h.0, h.1 ∙ ap (take h.0) e)

pub returns-clause-answer : goal.returns-clause-answer
returns-clause-answer c = λ text s o h. refused_answer c.into_parts-parts.result.ast c.new-span.result _ c.beside_fatal-faults.result _ c.finish-kept.result
    (c.finish-kept.ensures.kept ∙ ap (λ (l : State). l.kept) c.into_parts-parts.ensures.lexer)
    c.new-span.ensures.start
    (c.new-span.ensures.end ∙ ap (λ (q : Parser). length q.text) c.p.view_is)
    (beside_of (ap (λ (l : State). l.kept.errors) c.into_parts-parts.ensures.lexer) c.into_parts-parts.ensures.errors (beside_of (λ i. (c.finish-kept.ensures.kept i).errors) refl c.beside_fatal-faults.ensures.beside))
    (front_of ((λ i. (c.finish-kept.ensures.kept i).errors) ∙ ap (λ (l : State). l.kept.errors) c.into_parts-parts.ensures.lexer) c.beside_fatal-faults.ensures.front)
    c.new.ensures.items
    c.in_ok-tree.ensures.nodes
    c.into_parts-parts.ensures.ast
    (λ i. record { comments = c.finish-kept.result.comments; irregular_whitespaces = c.finish-kept.result.irregular_whitespaces; tokens = c.new-2.ensures i; errors = (c.in_ok-diagnostics.ensures ∙ (λ j. c.beside_fatal-faults.result ++ c.into_parts-parts.ensures.errors j)) i })
    (subst (λ (v : State). LieIn v.text c.finish-kept.result) c.into_parts-parts.ensures.lexer c.finish-kept.ensures.lies)
    h

pub returns-clause-kept : goal.returns-clause-kept
returns-clause-kept c = λ text s o asks h. found_kept c.new-2.ensures (λ z. h.some (ending c.beside_fatal-faults.result _ (sym (c.in_ok-diagnostics.ensures ∙ (λ j. c.beside_fatal-faults.result ++ c.into_parts-parts.ensures.errors j)) ∙ z)))

pub returns-clause-told : goal.returns-clause-told
returns-clause-told c = (c.beside_fatal-faults.result, beside_of (ap (λ (l : State). l.kept.errors) c.into_parts-parts.ensures.lexer) c.into_parts-parts.ensures.errors (beside_of (λ i. (c.finish-kept.ensures.kept i).errors) refl c.beside_fatal-faults.ensures.beside), c.in_ok-diagnostics.ensures ∙ (λ j. c.beside_fatal-faults.result ++ c.into_parts-parts.ensures.errors j))
