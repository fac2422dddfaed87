-- What is read one level deeper, of the state around it.
use Rattle.std.proofs.Common.{ℕ, ◌≡◌, ◌+◌, List, sym, ap, subst, arith, ◌∙◌}
use Rattle.std.specs.Prelude.{Ok, Err}
use Rattle.js_base.specs.Contexts.{has_flag, in_flag}
use Rattle.js_grammar.specs.Productions.{Flags, Symbol, at}
use Rattle.js_grammar.specs.Productions as n
use Rattle.js_cursor.specs.js_tree.declared.id.NodeId.{NodeId}
use Rattle.js_cursor.specs.Moves.{Enters, Leaves}
use Rattle.js_cursor.specs.Parsers.{Parser}
use Rattle.js_cursor.specs.Places.{IsAt}
use Rattle.js_cursor.specs.declared.stop.Stop.{Stop}
use Rattle.js_cursor.proofs.Later.{follows_on}
use Rattle.laws_shared.specs.declared.nested.Nonterminal.{Nonterminal}
use Rattle.laws_shared.specs.declared.nested.Nonterminal.TheVariants.{Expression, Assignment, Element, Unary, LeftHandSide, Exponentiation, Binding, Statement, ListItem, Body, ClassBody, Params, MethodParameters}
use Rattle.laws_shared.specs.Methods.{WholeTaken, parameters_of}
use Rattle.js_grammar.specs.Parsing.{plain, full, Fails}
use Rattle.js_grammar.specs.Productions.{G}
use Rattle.js_grammar.specs.Table.{rule}
use Rattle.js_grammar.specs.Trees.{end}
use Rattle.laws_shared.specs.Lexemes.{Lex}
use Rattle.laws_shared.specs.Nesting.{Ready, AnswersFor}
use Rattle.laws_shared.specs.States.{Standing}
use Rattle.laws_shared.specs.Statements.{NoStatement}
use Rattle.laws_shared.specs.Statements.{Statement as TheStatement}
use Rattle.laws_shared.proofs.Moving.{standing, deeper, elsewhere, at_depth, stops_in, entered_none, entered_place, left}

pub ready_at : {p : Parser} (g : Nonterminal) → Ready g p → Standing p
ready_at Statement r = r.0
ready_at ListItem r = r.0
ready_at Body r = r.0
ready_at Expression r = r
ready_at Assignment r = r
ready_at Element r = r
ready_at Unary r = r
ready_at LeftHandSide r = r
ready_at ClassBody r = r
ready_at Exponentiation r = r
ready_at Binding r = r
ready_at Params r = r
ready_at (MethodParameters form) r = r

pub ready_deeper : {k : ℕ} {p q : Parser} (g : Nonterminal) → Ready g p → Enters k p q → Ready g q
ready_deeper Statement r i = (standing (deeper r.0 i), ap (λ (q : Parser). has_flag in_flag q.ctx) i.is ∙ r.1)
ready_deeper ListItem r i = (standing (deeper r.0 i), ap (λ (q : Parser). has_flag in_flag q.ctx) i.is ∙ r.1)
ready_deeper Body r i = (standing (deeper r.0 i), ap (λ (q : Parser). has_flag in_flag q.ctx) i.is ∙ r.1)
ready_deeper Expression r i = standing (deeper r i)
ready_deeper Assignment r i = standing (deeper r i)
ready_deeper Element r i = standing (deeper r i)
ready_deeper Unary r i = standing (deeper r i)
ready_deeper LeftHandSide r i = standing (deeper r i)
ready_deeper ClassBody r i = standing (deeper r i)
ready_deeper Exponentiation r i = standing (deeper r i)
ready_deeper Binding r i = standing (deeper r i)
ready_deeper Params r i = standing (deeper r i)
ready_deeper (MethodParameters form) r i = standing (deeper r i)

none_deeper : {k : ℕ} {text : List ℕ} {g : G} {p q : Parser} → Enters k p q → Fails rule (Lex text) (plain full) end g q.prev_token_end → Fails rule (Lex text) (plain full) end g p.prev_token_end
none_deeper {text = text} {g = g} i x = subst (λ (s : ℕ). Fails rule (Lex text) (plain full) end g s) (entered_place i) x

no_deeper : {k : ℕ} {text : List ℕ} {n : Symbol} {p q : Parser} → Enters k p q → NoStatement text n q.prev_token_end → NoStatement text n p.prev_token_end
no_deeper {text = text} {n = n} i x = subst (λ (s : ℕ). NoStatement text n s) (entered_place i) x

pub stops_deeper : {k : ℕ} {p q : Parser} (r : Parser) (e : Stop) (g : Nonterminal) → Enters k p q → AnswersFor g q r (Err e) → AnswersFor g p r (Err e)
stops_deeper r e Statement i x = λ text f a. stops_in r e a.at i (no_deeper {n = at n.Sub f} i) (x text f (deeper a i))
stops_deeper r e ListItem i x = λ text f a. stops_in r e a.at i (no_deeper {n = at n.ListItem f} i) (x text f (deeper a i))
stops_deeper r e Body i x = λ text f a. stops_in r e a.at i (entered_none {n = at n.Body f} i) (x text f (deeper a i))
stops_deeper r e Expression i x = λ text f a. stops_in r e a.at i (entered_none {n = at n.Expression f} i) (x text f (deeper a i))
stops_deeper r e Assignment i x = λ text f a. stops_in r e a.at i (entered_none {n = at n.Assignment f} i) (x text f (deeper a i))
stops_deeper r e Element i x = λ text f a. stops_in r e a.at i (entered_none {n = at n.Assignment f} i) (x text f (deeper a i))
stops_deeper r e Unary i x = λ text f a. stops_in r e a.at i (entered_none {n = at n.Unary f} i) (x text f (deeper a i))
stops_deeper r e LeftHandSide i x = λ text f a. stops_in r e a.at i (entered_none {n = at n.LeftHandSide f} i) (x text f (deeper a i))
stops_deeper r e ClassBody i x = λ text f a. stops_in r e a.at i (entered_none {n = at n.ClassBody f} i) (x text f (deeper a i))
stops_deeper r e Exponentiation i x = λ text f a. stops_in r e a.at i (entered_none {n = at n.Exponent f} i) (x text f (deeper a i))
stops_deeper r e Binding i x = λ text f a. stops_in r e a.at i (entered_none {n = at n.Binding f} i) (x text f (deeper a i))
stops_deeper r e Params i x = λ text f a. stops_in r e a.at i (entered_none {n = at n.Params f} i) (x text f (deeper a i))
stops_deeper r e (MethodParameters form) i x = λ text f a. stops_in r e a.at i (none_deeper {g = parameters_of form f} i) (x text f (deeper a i))

-- the state before the level is given back
pub read_deeper : {k : ℕ} {p e q : Parser} (id : NodeId) (g : Nonterminal) → Ready g p → Enters k p e → AnswersFor g e q (Ok id) → IsAt q × (q.depth ≡ e.depth)
read_deeper id Statement r i x = let y = x _ _ (deeper r.0 i) in (y.at.at, y.same.depth)
read_deeper id ListItem r i x = let y = x _ _ (deeper r.0 i) in (y.at.at, y.same.depth)
read_deeper id Body r i x = let y = (x _ _ (deeper r.0 i)).answer in (y.at.at, y.same.depth)
read_deeper id Expression r i x = let y = (x _ _ (deeper r i)).answer in (y.at.at, y.same.depth)
read_deeper id Assignment r i x = let y = (x _ _ (deeper r i)).answer in (y.at.at, y.same.depth)
read_deeper id Element r i x = let y = (x _ _ (deeper r i)).answer in (y.at.at, y.same.depth)
read_deeper id Unary r i x = let y = (x _ _ (deeper r i)).answer in (y.at.at, y.same.depth)
read_deeper id LeftHandSide r i x = let y = (x _ _ (deeper r i)).answer in (y.at.at, y.same.depth)
read_deeper id ClassBody r i x = let y = (x _ _ (deeper r i)).answer in (y.at.at, y.same.depth)
read_deeper id Exponentiation r i x = let y = (x _ _ (deeper r i)).answer in (y.at.at, y.same.depth)
read_deeper id Binding r i x = let y = (x _ _ (deeper r i)).answer in (y.at.at, y.same.depth)
read_deeper id Params r i x = let y = (x _ _ (deeper r i)).answer in (y.at.at, y.same.depth)
read_deeper id (MethodParameters form) r i x = let y = x _ _ (deeper r i) in (y.at.at, y.same.depth)

statement_out : {text : List ℕ} {f : Flags} {n : Symbol} {p q : Parser} {id : NodeId} (k j : ℕ) → j ≡ p.depth → IsAt p → TheStatement text f n (record p { depth = k }) q id → TheStatement text f n p (record q { depth = j }) id
statement_out {q = q} k j e a x = record {
  at = elsewhere q.nodes j x.at;
  same = record { follows = follows_on (at_depth k a) (follows_on x.same.follows (at_depth j x.at.at)); options = x.same.options; ctx = x.same.ctx; depth = e; visits = x.same.visits; early = x.same.early; lies = x.same.lies };
  further = x.further;
  label = x.label;
  slots = x.slots;
  closed = x.closed;
  pass = x.pass;
  walked = x.walked;
  verdict = x.verdict;
  holds = x.holds;
  keeps = x.keeps;
}

left_statement : {k : ℕ} {text : List ℕ} {f : Flags} {n : Symbol} {p e q w : Parser} {id : NodeId} → IsAt p → Enters k p e → Leaves k q w → TheStatement text f n e q id → TheStatement text f n p w id
left_statement {k} {text} {f} {n} {p} {e} {q} {w} {id} a h l x =
    let d : w.depth ≡ p.depth = (let a = l.depth in let b = x.same.depth in let c = ap (λ (r : Parser). r.depth) h.is in omega arith) in
    subst (λ (r : Parser). TheStatement text f n p r id) (sym l.is) (statement_out (p.depth + k) w.depth d a (subst (λ (r : Parser). TheStatement text f n r q id) h.is x))

whole_out : {text : List ℕ} {f : Flags} {g : G} {p q : Parser} {id : NodeId} (k j : ℕ) → j ≡ p.depth → IsAt p → WholeTaken text f g (record p { depth = k }) q id → WholeTaken text f g p (record q { depth = j }) id
whole_out {q = q} k j e a x = record {
  at = elsewhere q.nodes j x.at;
  same = record { follows = follows_on (at_depth k a) (follows_on x.same.follows (at_depth j x.at.at)); options = x.same.options; ctx = x.same.ctx; depth = e; visits = x.same.visits; early = x.same.early; lies = x.same.lies };
  further = x.further;
  label = x.label;
  slots = x.slots;
  pass = x.pass;
  walked = x.walked;
  verdict = x.verdict;
  holds = x.holds;
  keeps = x.keeps;
}

left_whole : {k : ℕ} {text : List ℕ} {f : Flags} {g : G} {p e q w : Parser} {id : NodeId} → IsAt p → Enters k p e → Leaves k q w → WholeTaken text f g e q id → WholeTaken text f g p w id
left_whole {k} {text} {f} {g} {p} {e} {q} {w} {id} a h l x =
    let d : w.depth ≡ p.depth = (let a = l.depth in let b = x.same.depth in let c = ap (λ (r : Parser). r.depth) h.is in omega arith) in
    subst (λ (r : Parser). WholeTaken text f g p r id) (sym l.is) (whole_out (p.depth + k) w.depth d a (subst (λ (r : Parser). WholeTaken text f g r q id) h.is x))

pub left_deeper : {k : ℕ} {p e q w : Parser} (id : NodeId) (g : Nonterminal) → Enters k p e → Leaves k q w → AnswersFor g e q (Ok id) → AnswersFor g p w (Ok id)
left_deeper id Statement i l x = λ text f a. left_statement a.at i l (x text f (deeper a i))
left_deeper id ListItem i l x = λ text f a. left_statement a.at i l (x text f (deeper a i))
left_deeper id Body i l x = λ text f a. left a.at i l (x text f (deeper a i))
left_deeper id Expression i l x = λ text f a. left a.at i l (x text f (deeper a i))
left_deeper id Assignment i l x = λ text f a. left a.at i l (x text f (deeper a i))
left_deeper id Element i l x = λ text f a. left a.at i l (x text f (deeper a i))
left_deeper id Unary i l x = λ text f a. left a.at i l (x text f (deeper a i))
left_deeper id LeftHandSide i l x = λ text f a. left a.at i l (x text f (deeper a i))
left_deeper id ClassBody i l x = λ text f a. left a.at i l (x text f (deeper a i))
left_deeper id Exponentiation i l x = λ text f a. left a.at i l (x text f (deeper a i))
left_deeper id Binding i l x = λ text f a. left a.at i l (x text f (deeper a i))
left_deeper id Params i l x = λ text f a. left a.at i l (x text f (deeper a i))
left_deeper id (MethodParameters form) i l x = λ text f a. left_whole a.at i l (x text f (deeper a i))
