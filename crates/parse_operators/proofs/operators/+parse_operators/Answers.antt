use Rattle.std.proofs.Common.{sym, ap, arith, subst, ℕ, List, Option, length, ◌≡◌, ◌∙◌, ◌+◌, ◌-◌, ◌<◌, ◌≤◌, true}
use Rattle.std.proofs.lemmas.Bool.{false≢true}
use Rattle.std.proofs.lemmas.Result.{err_from_is_err_and}
use Rattle.js_grammar.specs.Levels.{level_at}
use Rattle.js_base.specs.declared.kind.Kind.{Kind}
use Rattle.parse_shared.specs.laws_shared.Operators.{power_of}
use Rattle.parse_shared.specs.laws_shared.Answers.{Underived}
use Rattle.parse_shared.proofs.laws_shared.Moving.{standing, stops_so, stops_behind}
use Rattle.parse_shared.proofs.laws_shared.Nesting.{nests_later}
use Rattle.laws_operators.proofs.Operations.{fails_at_level, no_private, operand_init, next_level, as_next, right_less, smaller, made_link, small, is_operator, not_last, same_so, grown_so, step_fails, start_before, operand_step, operands_answer}
use Rattle.js_grammar.specs.Productions.{Flags}
use Rattle.parse_shared.specs.js_cursor.Parsers.{Parser}
use Rattle.parse_shared.specs.js_tree.declared.id.NodeId.{NodeId}
use Rattle.parse_shared.specs.laws_shared.Moves.{MadeHere}
use Rattle.parse_shared.specs.laws_shared.States.{At}
use Rattle.laws_operators.specs.PrivateOperands.{PrivateTaken, private_in_label}
use Rattle.laws_operators.proofs.PrivateOperands.{operand_private, right_stops}
use Rattle.parse_operators.proofs.operators.+parse_operators.Goals.{then-at+in_ok-name+in_ok-right+in_ok-left, else-at+in_ok-left-2}
use Rattle.parse_operators.proofs.operators.+parse_operators.Goals as goal

-- less of the text is left behind a private name and `in`
private_less : {text : List ℕ} {f : Flags} {m : ℕ} {p q : Parser} {id : NodeId} → At text f p → PrivateTaken text f m p q id → length q.text + 1 - q.prev_token_end < length p.text + 1 - p.prev_token_end
private_less a b =
    let c = b.name.answer in
    let d = b.passed in
    let e = a.behind in let g = c.further in let h = c.at.behind in let i = d.further in let j = d.at.at.between.0 in let k = d.at.text_is in let l = a.text_is in omega (arith, ap length k, ap length l)

pub returns-in_err-left-2 : goal.returns-in_err-left-2
returns-in_err-left-2 t n c = λ text f a. let p = err_from_is_err_and c.from_residual-in_err-left-2.result c.from_residual-in_err-left-2.ensures.1 in rw (p.1, p.2) (stops_so _ _ _ (λ z. fails_at_level (c.args.least - 5) (let h = c.requires.high in omega arith) (no_private a (λ e. false≢true (sym c.if-at.false ∙ c.at.ensures.1 e))) z) (c.in_err-left-2.ensures text f a))

pub parse_operators-requires : goal.parse_operators-requires
parse_operators-requires t n c = λ κs ls.
    let b = c.in_ok-name.ensures _ _ c.requires.at in
    let a = private_less c.requires.at b in
    (let e = c.decreases in omega arith, (λ a i. ls.0 a i, (λ a i. ls.1.0 a i, (λ a i. ls.1.1 a i, (standing b.passed.at, (nests_later c.requires.nests (omega arith), (omega arith, omega arith)))))))

pub returns-in_err-right : goal.returns-in_err-right
returns-in_err-right t n c = λ text f a.
    let p = err_from_is_err_and c.from_residual-in_err-right.result c.from_residual-in_err-right.ensures.1 in
    let b = c.in_ok-name.ensures text f a in
    rw (p.1, p.2) (right_stops a (c.at.ensures.0 c.if-at.true) b.name b.word b.passed (c.args.least - 5) (let h = c.requires.high in omega arith) _ _ (c.in_err-right.ensures text f b.passed.at))

pub make_private_in-requires : goal.make_private_in-requires
make_private_in-requires t n c =
    let b = c.in_ok-name.ensures _ _ c.requires.at in
    let x = (c.in_ok-right.ensures _ _ b.passed.at).answer in
    let d = b.name.answer in
    let e = d.further in let g = d.at.behind in let h = b.passed.further in let i = b.passed.at.behind in let j = x.further in let k = c.cur_start-start.ensures in omega arith

begun : {v w : Parser} {ids : List (Option NodeId)} {made : NodeId} {from start to : ℕ} → from ≡ start → MadeHere (private_in_label from to) ids v w made → MadeHere (private_in_label start to) ids v w made
begun {v} {w} {ids} {made} {to = to} e n = subst (λ (k : ℕ). MadeHere (private_in_label k to) ids v w made) e n

pub operators-init : goal.operators-init
operators-init t n c = λ text f a. elim c.if-at.branch [
  | then-at+in_ok-name+in_ok-right+in_ok-left w ↦
      let b = w.in_ok-name.ensures text f a in
      rw (w.p-is, w.left-is) (operand_private a (c.at.ensures.0 w.if-at.true) b.name b.word b.passed (w.in_ok-right.ensures text f b.passed.at) b.loose b.allowed (begun c.cur_start-start.ensures w.in_ok-left.ensures))
  | else-at+in_ok-left-2 w ↦
      rw (w.p-is, w.left-is) (operand_init (let h = c.requires.high in omega arith) a (no_private a (λ e. false≢true (sym w.if-at.false ∙ c.at.ensures.1 e))) (w.in_ok-left-2.ensures text f a))
]

pub operator_here-requires : goal.operator_here-requires
operator_here-requires t n c = standing (c.operators.invariant _ _ c.requires.at).at

pub advance-requires-clause-at : goal.advance-requires-clause-at
advance-requires-clause-at t n c = standing (c.in_ok-power.ensures _ _ (c.operators.invariant _ _ c.requires.at).at).at

pub advance-requires-clause-whole : goal.advance-requires-clause-whole
advance-requires-clause-whole t n c = let s = c.operators.invariant _ _ c.requires.at in let o = c.in_ok-power.ensures _ _ s.at in (o.uncut, not_last s o (let h = c.if-power-least.false in let l = c.requires.low in omega arith))

pub overflow_add-power : goal.overflow_add-power
overflow_add-power t n c = let s = c.operators.invariant _ _ c.requires.at in let o = c.in_ok-power.ensures _ _ s.at in let k = small s o (let h = c.if-power-least.false in let l = c.requires.low in omega arith) in omega arith

pub parse_operators-requires-in-operators : goal.parse_operators-requires-in-operators
parse_operators-requires-in-operators t n c = λ κs ls.
    let s = c.operators.invariant _ _ c.requires.at in
    let o = c.in_ok-power.ensures _ _ s.at in
    let h : c.args.least - 5 + 5 ≤ c.in_ok-power.power = (let k = c.if-power-least.false in let l = c.requires.low in omega arith) in
    let d = c.in_ok-advance.ensures _ _ o.at in
    let a = right_less s o h d c.requires.at in
    (let e = c.decreases in omega arith, (λ a i. ls.0 a i, (λ a i. ls.1.0 a i, (λ a i. ls.1.1 a i, (standing d.at, (nests_later c.requires.nests (omega arith), (let k = c.if-power-least.false in let l = c.requires.low in omega arith, let k = small s o h in omega arith)))))))

pub returns-in_err-right-2 : goal.returns-in_err-right-2
returns-in_err-right-2 t n c = λ text f a.
    let p = err_from_is_err_and c.from_residual-in_err-right-2.result c.from_residual-in_err-right-2.ensures.1 in
    let s = c.operators.invariant text f a in
    let o = c.in_ok-power.ensures _ _ s.at in
    let h : c.args.least - 5 + 5 ≤ c.in_ok-power.power = (let k = c.if-power-least.false in let l = c.requires.low in omega arith) in
    let d = c.in_ok-advance.ensures _ _ o.at in
    (rw (p.1, p.2) (stops_behind _ _ (same_so s o h d) (λ g. grown_so s o h d g) (λ z. step_fails s o h d (subst (λ (n : ℕ). Underived text (level_at f n) c.advance.new.p.prev_token_end) (next_level s o h) z)) (c.in_err-right-2.ensures _ _ d.at)))

pub make_operation-requires-clause-start : goal.make_operation-requires-clause-start
make_operation-requires-clause-start t n c =
    let s = c.operators.invariant _ _ c.requires.at in
    let o = c.in_ok-power.ensures _ _ s.at in
    let h : c.args.least - 5 + 5 ≤ c.in_ok-power.power = (let k = c.if-power-least.false in let l = c.requires.low in omega arith) in
    let d = c.in_ok-advance.ensures _ _ o.at in
    let a = start_before s o h d (as_next s o h (c.in_ok-right-2.ensures _ _ d.at)) in let b = c.cur_start-start.ensures in omega arith

pub make_operation-requires-clause-operator : goal.make_operation-requires-clause-operator
make_operation-requires-clause-operator t n c =
    let s = c.operators.invariant _ _ c.requires.at in
    let o = c.in_ok-power.ensures _ _ s.at in
    let h : c.args.least - 5 + 5 ≤ c.in_ok-power.power = (let k = c.if-power-least.false in let l = c.requires.low in omega arith) in
    subst (λ (k : Kind). 1 ≤ power_of true k) (sym c.cur_kind-operator.ensures) (is_operator s o h)

pub operators-smaller : goal.operators-smaller
operators-smaller t n c =
    let s = c.operators.invariant _ _ c.requires.at in
    let o = c.in_ok-power.ensures _ _ s.at in
    let h : c.args.least - 5 + 5 ≤ c.in_ok-power.power = (let k = c.if-power-least.false in let l = c.requires.low in omega arith) in
    let d = c.in_ok-advance.ensures _ _ o.at in
    smaller s o h d (as_next s o h (c.in_ok-right-2.ensures _ _ d.at)) c.in_ok-left-3.ensures

pub operators-preserved : goal.operators-preserved
operators-preserved t n c = λ text f a.
    let s = c.operators.invariant text f a in
    let o = c.in_ok-power.ensures _ _ s.at in
    let h : c.args.least - 5 + 5 ≤ c.in_ok-power.power = (let k = c.if-power-least.false in let l = c.requires.low in omega arith) in
    let d = c.in_ok-advance.ensures _ _ o.at in
    let x = as_next s o h (c.in_ok-right-2.ensures _ _ d.at) in
    operand_step s o h d x (made_link s o h d x c.cur_kind-operator.ensures c.cur_start-start.ensures c.in_ok-left-3.ensures)

pub returns : goal.returns
returns t n c = λ text f a.
    let s = c.operators.invariant text f a in
    let o = c.in_ok-power.ensures _ _ s.at in
    (operands_answer s o (let k = c.if-power-least.true in let l = c.requires.low in omega arith) (let h = c.requires.high in omega arith))
