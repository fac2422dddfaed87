use Rattle.std.proofs.Common.{◌∙◌, ap, refl, arith}
use Rattle.std.proofs.lemmas.Result.{err_from_is_err_and}
use Rattle.js_base.specs.declared.kind.Kind.TheVariants.{Throw}
use Rattle.js_base.specs.declared.span.Span.{Span}
use Rattle.js_base.specs.declared.token.Token.{Token}
use Rattle.parse_shared.proofs.laws_shared.Moving.{standing, stops_behind}
use Rattle.parse_shared.proofs.laws_shared.Nesting.{nests_later, later_room}
use Rattle.parse_control.proofs.laws_statements.Statements.{ended_so, in_of}
use Rattle.parse_shared.proofs.laws_shared.Verdicts.{after}
use Rattle.parse_control.proofs.laws_statements.WordStatements.{checked_at, checked_place, late_marked, throw_answers, throw_grown, throw_no_operand, throw_same, throw_unended, word_here}
use Rattle.parse_statements.proofs.word_statement.parse_throw_statement.Goals as goal

pub advance-requires-clause-whole : goal.advance-requires-clause-whole
advance-requires-clause-whole g c = word_here Throw c.requires.at c.requires.word refl

pub check_operand-requires-clause-at : goal.check_operand-requires-clause-at
check_operand-requires-clause-at g c = (c.in_ok-advance.ensures _ _ c.requires.at).at.at

pub check_operand-requires-clause-mark : goal.check_operand-requires-clause-mark
check_operand-requires-clause-mark g c = late_marked _ c.requires.at c.requires.word (c.span-word.ensures ∙ ap (λ (t : Token). t.span) c.cur_token.ensures) (c.in_ok-advance.ensures _ _ c.requires.at)

pub sequence-requires-clause-at : goal.sequence-requires-clause-at
sequence-requires-clause-at g c = standing (checked_at (c.in_ok-advance.ensures _ _ c.requires.at).at c.in_ok-check_operand.ensures)

pub sequence-requires-clause-nests : goal.sequence-requires-clause-nests
sequence-requires-clause-nests g c =
    let m = c.in_ok-advance.ensures _ _ c.requires.at in
    nests_later c.requires.nests (later_room (let i = m.further in let j = c.requires.at.behind in let k = checked_place c.in_ok-check_operand.ensures in omega arith) (throw_same c.requires.at c.requires.word m c.in_ok-check_operand.ensures))

pub returns-in_err-operand : goal.returns-in_err-operand
returns-in_err-operand g c = λ b text f a.
    let p = err_from_is_err_and c.from_residual-in_err-operand.result c.from_residual-in_err-operand.ensures.1 in
    let m = c.in_ok-advance.ensures text f a in
    let k = c.in_ok-check_operand.ensures in
    rw (p.1, p.2) (stops_behind _ _ (throw_same a c.requires.word m k) (λ d. throw_grown a c.requires.word m k d) (λ n. throw_no_operand a c.requires.word m k b n) (c.in_err-operand.ensures.answers text f (checked_at m.at k)))

pub end_statement-requires : goal.end_statement-requires
end_statement-requires g c = standing (c.in_ok-operand.ensures.answers _ _ (checked_at (c.in_ok-advance.ensures _ _ c.requires.at).at c.in_ok-check_operand.ensures)).answer.at

pub returns-in_err-end_statement : goal.returns-in_err-end_statement
returns-in_err-end_statement g c = λ b text f a.
    let p = err_from_is_err_and c.from_residual-in_err-end_statement.result c.from_residual-in_err-end_statement.ensures.1 in
    let m = c.in_ok-advance.ensures text f a in
    let k = c.in_ok-check_operand.ensures in
    let x = c.in_ok-operand.ensures.answers text f (checked_at m.at k) in
    rw (p.1, p.2) (stops_behind _ _ (throw_same a c.requires.word m k) (λ d. throw_grown a c.requires.word m k d) (λ n. n) (stops_behind _ _ x.answer.same (λ d. after x.answer.verdict d) (λ n. throw_unended a c.requires.word m k x b n) c.in_err-end_statement.ensures))

pub end_span-span-requires : goal.end_span-span-requires
end_span-span-requires g c =
    let m = c.in_ok-advance.ensures _ _ c.requires.at in
    let k = c.in_ok-check_operand.ensures in
    let x = (c.in_ok-operand.ensures.answers _ _ (checked_at m.at k)).answer in
    let z = ended_so x.at c.in_ok-end_statement.ensures in
    let a = m.further in let b = z.further in let d = x.further in let e = checked_place k in let h = (checked_at m.at k).behind in let s = ap (λ (v : Span). v.start) (c.span-word.ensures ∙ ap (λ (t : Token). t.span) c.cur_token.ensures) in omega arith

pub returns : goal.returns
returns g c = λ b text f a.
    let m = c.in_ok-advance.ensures text f a in
    let k = c.in_ok-check_operand.ensures in
    throw_answers a c.requires.word m k (c.in_ok-operand.ensures.answers text f (checked_at m.at k)) b _ (in_of a c.requires.allows_in) c.in_ok-end_statement.ensures (c.end_span-span.ensures.start ∙ ap (λ (v : Span). v.start) (c.span-word.ensures ∙ ap (λ (t : Token). t.span) c.cur_token.ensures)) c.end_span-span.ensures.end c.in_ok-node.ensures
