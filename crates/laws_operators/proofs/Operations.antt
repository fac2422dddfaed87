-- Operators and their operands: the start, a step, the end, and failures of the loop over binding power.
use Rattle.std.proofs.Common.{ℕ, zero, suc, ◌≡◌, ◌<◌, ◌≤◌, ◌+◌, ◌-◌, max, Some, Option, List, [], ◌∷◌, length, Bool, true, false, cond, not, ◌||◌, IsTrue, refl, sym, ap, subst, arith, ◌∙◌, nat_lt}
use Rattle.std.proofs.lemmas.Bool.{false≢true, and_parts, or_left, or_right, ltb-true, lt-ltb}
use Rattle.js_base.specs.declared.diagnostic.Diagnostic.{Diagnostic}
use Rattle.js_base.specs.declared.kind.Kind.{Kind}
use Rattle.js_base.specs.declared.kind.Kind.TheVariants.{PrivateIdentifier, Eof, RegExp, Slash, Undetermined}
use Rattle.js_base.specs.Kinds.{one_of_kinds}
use Rattle.js_grammar.proofs.FirstClaims.{firsts}
use Rattle.js_grammar.proofs.First.{starts}
use Rattle.js_grammar.proofs.Looks.{apart}
use Rattle.js_grammar.specs.Trees.{Label, Slots, end, tree}
use Rattle.js_grammar.specs.Grammar.{Lexeme, Lexemes, next, seen, seq, such, nothing}
use Rattle.js_grammar.specs.Insertion.{Row}
use Rattle.js_grammar.specs.Parsing.{Test, Goes, always, passing, full, Reads, Way}
use Rattle.js_grammar.specs.Productions.{G, Flags, at, tok, Exponent, Symbol}
use Rattle.js_grammar.specs.Table.{rule}
use Rattle.js_grammar.specs.Levels.{level_at, node_at, operators_at, top_level, feet_at}
use Rattle.js_grammar.specs.Follow.{row_of, tight, looser, after}
use Rattle.js_grammar.specs.RightEdges.{of_operand, may_end}
use Rattle.js_grammar.specs.Towers.{Link, linked_label, Around}
use Rattle.js_grammar.proofs.Calculus.{◌▹◌, ◌▹✗◌}
use Rattle.js_grammar.proofs.Towers.{OneOf, head, later, of_operations}
use Rattle.js_grammar.proofs.Loops.{Step, finish, part_at}
use Rattle.js_grammar.proofs.Operators.{levels, operates}
use Rattle.js_grammar.proofs.OperatorEdges.{level_looser, operator_exactly, operator_level, last_at, some_level}
use Rattle.js_grammar.proofs.OperatorLoops.{loop_start, loop_start_fails}
use Rattle.laws_operators.proofs.SlashOperators.{division_sign, operator_plain, slash_step, slash_step_fails}
use Rattle.laws_shared.specs.js_tree.declared.id.NodeId.{NodeId}
use Rattle.laws_shared.specs.js_tree.Nodes.{Node}
use Rattle.laws_shared.specs.js_tree.Holding.{Holds, Keeps}
use Rattle.laws_shared.proofs.js_tree.HoldingLemmas.{Keeps-trans, Keeps-made}
use Rattle.laws_shared.specs.js_cursor.Moves.{is_last}
use Rattle.laws_shared.specs.js_cursor.Parsers.{Parser}
use Rattle.laws_shared.specs.Lexemes.{Lex, Plain, other_goals, Walked, spot}
use Rattle.laws_shared.specs.States.{At, Same}
use Rattle.laws_shared.specs.Moves.{Moved, Tightness, MadeHere, operation_label}
use Rattle.laws_shared.specs.Operators.{power_of}
use Rattle.laws_shared.specs.Answers.{Grown, Verdict, Stretch, Underived, Numbered, beside}
use Rattle.laws_shared.proofs.Here.{told_plain, begins_here, found, plain_token, slash_here}
use Rattle.laws_shared.proofs.Signs.{other_kind}
use Rattle.laws_shared.proofs.Paths.{not_here, skips, read_of, walked_both, walked_one, walked_to, walked_from}
use Rattle.laws_shared.proofs.Tight.{stops_by_power, power_listed, Level, level_of, operator_read, plain_is_none, plain_lex, plain_so, power_anywhere}
use Rattle.laws_shared.proofs.Verdicts.{verdict_of, either_way, and_then, behind_none, grown_then}
use Rattle.laws_shared.proofs.Verdicts.{after as grown_behind}
use Rattle.laws_shared.proofs.Moving.{same_both, same_with, beside_nodes}
use Rattle.laws_shared.proofs.MadeNodes.{two_held, made_lies}

-- A node of the level cap has been read, and what remains is the parts behind it.
pub record Ring (text : List ℕ) (f : Flags) (m s from cap : ℕ) (l : Label) (cs : Slots) (s' : ℕ) (pass : Lexemes → Lexemes) : Type 0 where
  pub reach : ℕ
  pub near : reach ≤ s'
  pub around : Around (Lex text) (after (level_at f m)) (levels f) m s from cap l cs s' (record { reach = reach; pass = pass })

-- Operands and operators, as far as they have been read, for operators of the level m at least.
pub record Operand (text : List ℕ) (f : Flags) (m : ℕ) (p q : Parser) (id : NodeId) : Type 0 where
  pub at : At text f q
  pub same : Same p q
  pub further : p.token.span.start < q.prev_token_end
  pub label : Label
  pub slots : Slots
  pub row : of_operand (row_of label slots) ≡ true
  pub pass : Lexemes → Lexemes
  pub walked : Walked text (spot p) (spot q) pass
  pub cap : ℕ
  pub low : cap ≤ 10
  pub verdict : Verdict (f.wide ≡ true) p.errors q.errors (Ring text f m p.prev_token_end p.token.span.start cap label slots q.prev_token_end pass) (Underived text (level_at f m) p.prev_token_end)
  pub stops : (y : Lexeme) → Plain text q.prev_token_end y → IsTrue (seen (looser (cap + 6) f.in_ (row_of label slots)) y || seen beside y)
  pub loose : (y : Lexeme) → Plain text q.prev_token_end y → IsTrue (seen (looser 15 f.in_ (row_of label slots)) y || seen beside y)
  pub holds : Holds q.nodes (length p.nodes) (length q.nodes) id.0 label slots
  pub keeps : Keeps p.nodes q.nodes

-- no private name stands there
abbrev pub NoPrivate : List ℕ → ℕ → Type 0
NoPrivate text s = (y : Lexeme) → Lex text s y → y.kind ≡ PrivateIdentifier → ⊥

pub no_private : {text : List ℕ} {f : Flags} {p : Parser} → At text f p → (p.token.kind ≡ PrivateIdentifier → ⊥) → NoPrivate text p.prev_token_end
unfolding apart
no_private {p = p} a n y l e = not_here a (PrivateIdentifier ∷ []) refl (other_kind PrivateIdentifier p.token.kind n) y l (ap (one_of_kinds (PrivateIdentifier ∷ [])) e)

-- the rows of operands
pub level_rows : (f : Flags) (q : ℕ) (r : Row) → may_end (level_at f q).name r ≡ of_operand r
level_rows f zero r = refl
level_rows f (suc zero) r = refl
level_rows f (suc (suc zero)) r = refl
level_rows f (suc (suc (suc zero))) r = refl
level_rows f (suc (suc (suc (suc zero)))) r = refl
level_rows f (suc (suc (suc (suc (suc zero))))) r = refl
level_rows f (suc (suc (suc (suc (suc (suc zero)))))) r = refl
level_rows f (suc (suc (suc (suc (suc (suc (suc zero))))))) r = refl
level_rows f (suc (suc (suc (suc (suc (suc (suc (suc zero)))))))) r = refl
level_rows f (suc (suc (suc (suc (suc (suc (suc (suc (suc zero))))))))) r = refl
level_rows f (suc (suc (suc (suc (suc (suc (suc (suc (suc (suc n)))))))))) r = refl

-- the levels that have operators
none_listed : {k : Kind} {ks : List Kind} → OneOf k ks → ks ≡ [] → ⊥
none_listed head e = cc
none_listed (later i) e = cc

pub looser_or : (n m t : ℕ) (b : Bool) → n ≤ m → (nat_lt t n || b) ≡ true → (nat_lt t m || b) ≡ true
looser_or n m t true h e = or_right (nat_lt t m) true refl
looser_or n m t false h e = go (nat_lt t n) refl e
  where
    go : (x : Bool) → nat_lt t n ≡ x → (x || false) ≡ true → (nat_lt t m || false) ≡ true
    go true q z = or_left (nat_lt t m) false (lt-ltb t m (let i = ltb-true t n q in omega arith))
    go false q z = absurd (false≢true z)

module _ {text : List ℕ} {f : Flags} where
  pub fails_at_level : {s : ℕ} (m : ℕ) → m ≤ 10 → NoPrivate text s → Underived text (at Exponent f) s → Underived text (level_at f m) s
  fails_at_level {s} m h u x = go m h
    where
      go : (m : ℕ) → m ≤ 10 → Underived text (level_at f m) s
      go (suc (suc (suc (suc (suc (suc (suc (suc (suc (suc n)))))))))) h = x
      go m h = loop_start_fails f {m = m} (omega arith) u x

  pub operand_init : {p q : Parser} {id : NodeId} {m : ℕ} → m ≤ 10 → At text f p → NoPrivate text p.prev_token_end → Numbered text f (at Exponent f) p q id → Operand text f m p q id
  operand_init {p} {q} {id} {m} h a u x = record {
    at = x.answer.at;
    same = x.answer.same;
    further = x.answer.further;
    label = x.answer.label;
    slots = x.answer.slots;
    row = sym (level_rows f 10 _) ∙ x.answer.row;
    pass = x.answer.pass;
    walked = x.answer.walked;
    cap = 10;
    low = omega arith;
    verdict = verdict_of x.answer.verdict (λ y. record { reach = y.reach; near = y.near; around = loop_start f h u y.goes (begins_here a) }) (λ n. fails_at_level m h u n);
    stops = λ y l. wider y (x.answer.stops y l);
    loose = λ y l. x.answer.stops y l;
    holds = x.holds;
    keeps = x.keeps;
  }
    where
      wider : (y : Lexeme) → IsTrue (seen (looser 15 f.in_ (row_of x.answer.label x.answer.slots)) y || seen beside y) → IsTrue (seen (looser 16 f.in_ (row_of x.answer.label x.answer.slots)) y || seen beside y)
      wider y h = looser_or 15 16 (tight f.in_ (row_of x.answer.label x.answer.slots) y.kind y.newline y.escaped) (seen beside y) (omega arith) h

  -- the right operand, behind the operator
  module _ {m : ℕ} {p q t : Parser} {id : NodeId} (s : Operand text f m p q id) {power : ℕ} (o : Tightness text f q t power) (c : m + 5 ≤ power) where
    kind : Kind
    kind = t.token.kind

    abbrev strong : (t.token.escaped ≡ false) × (power ≡ power_of f.in_ t.token.kind)
    strong = go t.token.escaped refl o.is
      where
        go : (b : Bool) → t.token.escaped ≡ b → power ≡ cond b 0 (power_of f.in_ t.token.kind) → (t.token.escaped ≡ false) × (power ≡ power_of f.in_ t.token.kind)
        go true e h = absurd (omega arith)
        go false e h = (e, h)

    abbrev it : Level f.in_ t.token.kind
    it = level_of f.in_ t.token.kind (let h = strong.1 in omega arith)

    -- what makes the call of the right operand
    pub next_level : power + 1 - 5 ≡ it.level + 1
    next_level = let h = strong.1 in let i = it.is in omega arith

    pub as_next : {r v : Parser} {right : NodeId} → Numbered text f (level_at f (power + 1 - 5)) r v right → Numbered text f (level_at f (it.level + 1)) r v right
    as_next {r} {v} {right} x = subst (λ (n : ℕ). Numbered text f (level_at f n) r v right) next_level x

    pub small : power ≤ 14
    small = let h = strong.1 in let i = it.is in let j = it.top in omega arith

    pub is_operator : 1 ≤ power_of true t.token.kind
    is_operator = power_anywhere f.in_ t.token.kind (let h = strong.1 in omega arith)

    pub not_last : is_last t.token.kind ≡ false
    not_last = go (is_last t.token.kind) refl
      where
        none_binds : (k : Kind) → is_last k ≡ true → power_of f.in_ k ≡ 0
        none_binds Eof h = refl
        none_binds Undetermined h = refl
        none_binds _ h = absurd (false≢true h)

        go : (b : Bool) → is_last t.token.kind ≡ b → b ≡ false
        go true e = let z = none_binds t.token.kind e in let h = strong.1 in absurd (omega arith)
        go false e = refl

    above : m ≤ it.level
    above = let h = strong.1 in let i = it.is in omega arith

    -- the operator stands behind the operand
    here : (y : Lexeme) → Plain text q.prev_token_end y → (y.kind ≡ t.token.kind) × (y.escaped ≡ false)
    here y l = let z = told_plain o.at o.uncut y (plain_is_none y l.1) (subst (λ (v : ℕ). Lex text v y) (sym o.place) (plain_lex l)) in (sym z.kind, sym z.escaped ∙ strong.0)

    -- a regular expression may stand in the place of the division sign
    pattern_here : (y : Lexeme) → Lex text q.prev_token_end y → y.kind ≡ RegExp → t.token.kind ≡ Slash
    pattern_here y l e = division_sign f.in_ t.token.kind (slash_here o.at y (subst (λ (v : ℕ). Lex text v y) (sym o.place) l) e) (let h = strong.1 in omega arith)

    abbrev link_label : ℕ → Label
    link_label to = linked_label (operates f it.level t.token.kind) p.token.span.start to

    standing : (y : Lexeme) × Plain text q.prev_token_end y
    standing =
        let z = found o.at o.uncut not_last in
        let h = strong.1 in
        (z.0, subst (λ (v : ℕ). Plain text v z.0) o.place (z.1, plain_so z.0 (read_of z.0 (sym z.2.kind) (operator_read f.in_ t.token.kind true (omega arith)).0) (ap (one_of_kinds other_goals) (sym z.2.kind) ∙ plain_token o.at.plain)))

    -- it binds no tighter than what was read
    within : of_operand (row_of s.label s.slots) ≡ true → it.level ≤ s.cap
    within r = go (seen beside standing.0) refl (s.stops standing.0 standing.1)
      where
        k : standing.0.kind ≡ t.token.kind
        k = (here standing.0 standing.1).0

        e : standing.0.escaped ≡ false
        e = (here standing.0 standing.1).1

        none : beside standing.0.kind standing.0.newline standing.0.escaped ≡ true → ⊥
        none z = let h = strong.1 in false≢true (not_true (beside t.token.kind standing.0.newline false) (operator_read f.in_ t.token.kind standing.0.newline (omega arith)).1 (subst (λ (v : Bool). beside t.token.kind standing.0.newline v ≡ true) e (subst (λ (v : Kind). beside v standing.0.newline standing.0.escaped ≡ true) k z)))
          where
            not_true : (b : Bool) → not b ≡ true → b ≡ true → false ≡ true
            not_true true a c = a
            not_true false a c = c

        go : (b : Bool) → seen beside standing.0 ≡ b → (seen (looser (s.cap + 6) f.in_ (row_of s.label s.slots)) standing.0 || b) ≡ true → it.level ≤ s.cap
        go true q h = absurd (none q)
        go false q h =
            let l : looser (s.cap + 6) f.in_ (row_of s.label s.slots) standing.0.kind standing.0.newline standing.0.escaped ≡ true = or_false _ h in
            let m : looser (s.cap + 6) f.in_ (row_of s.label s.slots) t.token.kind standing.0.newline false ≡ true = subst (λ (v : Bool). looser (s.cap + 6) f.in_ (row_of s.label s.slots) t.token.kind standing.0.newline v ≡ true) e (subst (λ (v : Kind). looser (s.cap + 6) f.in_ (row_of s.label s.slots) v standing.0.newline standing.0.escaped ≡ true) k l) in
            let n = ltb-true (tight f.in_ (row_of s.label s.slots) t.token.kind standing.0.newline false) (s.cap + 6) m in
            let x = operator_exactly f it.level it.among (row_of s.label s.slots) standing.0.newline r in
            omega arith
          where
            or_false : (b : Bool) → (b || false) ≡ true → b ≡ true
            or_false true h = refl
            or_false false h = h

    module _ {r : Parser} (d : Moved text f t r) where
      -- the operator was passed
      skip : {X : Test} {b : G} → Goes rule (Lex text) X end (seq (tok t.token.kind) b) q.prev_token_end b r.prev_token_end (λ us. us) (passing d.lexeme)
      skip {X} {b} = subst (λ (v : ℕ). Goes rule (Lex text) X end (seq (tok t.token.kind) b) v b r.prev_token_end (λ us. us) (passing d.lexeme)) o.place (skips o.at t.token.kind refl strong.0 (let h = strong.1 in (operator_read f.in_ t.token.kind true (omega arith)).0) d)

      ring_fails : Ring text f m p.prev_token_end p.token.span.start s.cap s.label s.slots q.prev_token_end s.pass → Underived text (level_at f (it.level + 1)) r.prev_token_end → Underived text (level_at f m) p.prev_token_end
      ring_fails u n = slash_step_fails f here pattern_here above (within s.row) it.top it.among s.row u.around (skip ▹✗ n)

      pub right_less : At text f p → length r.text + 1 - r.prev_token_end < length p.text + 1 - p.prev_token_end
      right_less a = let b = o.place in let g = o.at.behind in let e = d.further in let i = s.further in let j = a.behind in let k = a.at.between.0 in let t = d.at.text_is in let u = a.text_is in omega (arith, ap length t, ap length u)

      pub same_so : Same p r
      same_so = same_both s.same (same_both o.same d.same)

      pub grown_so : {ds : List Diagnostic} → Grown r.errors ds → Grown p.errors ds
      grown_so g = grown_behind s.verdict (grown_then (d.kept ∙ o.kept) g)

      pub step_fails : Underived text (level_at f (it.level + 1)) r.prev_token_end → Underived text (level_at f m) p.prev_token_end
      step_fails n = either_way s.verdict (λ u. ring_fails u n) (λ z. z)

      -- and so was the right operand
      module _ {v : Parser} {right : NodeId} (x : Numbered text f (level_at f (it.level + 1)) r v right) where
        forward : q.prev_token_end < v.prev_token_end
        forward = let a = o.place in let b = o.at.behind in let c = d.further in let e = d.at.behind in let g = x.answer.further in omega arith

        pub start_before : p.token.span.start ≤ v.prev_token_end
        start_before = let a = s.further in let b = forward in omega arith

        -- there is less of the text left
        pub less_left : length v.text + 1 - v.prev_token_end < length q.text + 1 - q.prev_token_end
        less_left = let a = forward in let b = s.at.at.between.0 in let c = x.answer.at.text_is in let e = s.at.text_is in omega (arith, ap length c, ap length e)

        pub link_is : operation_label t.token.kind p.token.span.start v.prev_token_end ≡ link_label v.prev_token_end
        link_is = rw (it.node) refl

        pub smaller : {w : Parser} {l : Label} {ids : List (Option NodeId)} {made : NodeId} → MadeHere l ids v w made → length w.text + 1 - w.prev_token_end < length q.text + 1 - q.prev_token_end
        smaller n = let a = less_left in let b = ap (λ (r : Parser). r.prev_token_end) n.stays in let c = ap (λ (r : Parser). length r.text) n.stays in omega arith

        pub made_link : {w : Parser} {made : NodeId} {k : Kind} {from : ℕ} → k ≡ t.token.kind → from ≡ p.token.span.start → MadeHere (operation_label k from v.prev_token_end) (Some id ∷ Some right ∷ []) v w made → MadeHere (link_label v.prev_token_end) (Some id ∷ Some right ∷ []) v w made
        made_link {w} {made} e g n = subst (λ (l : Label). MadeHere l (Some id ∷ Some right ∷ []) v w made) (rw (e, g) link_is) n

        step_row : of_operand (row_of (link_label v.prev_token_end) (tree s.label s.slots (tree x.answer.label x.answer.slots end))) ≡ true
        step_row = rw (last_at it.level) (sym (level_rows f (it.level + 1) _) ∙ x.answer.row)

        ring_step : (y : Stretch text (after (level_at f (it.level + 1))) (such (level_at f (it.level + 1)) always) r.prev_token_end nothing v.prev_token_end (tree x.answer.label x.answer.slots) x.answer.pass) → Ring text f m p.prev_token_end p.token.span.start s.cap s.label s.slots q.prev_token_end s.pass
            → Ring text f m p.prev_token_end p.token.span.start it.level (link_label v.prev_token_end) (tree s.label s.slots (tree x.answer.label x.answer.slots end)) v.prev_token_end (λ ls. s.pass (next d.lexeme (x.answer.pass ls)))
        ring_step y u = record {
          reach = max u.reach (max 0 y.reach);
          near = let i = u.near in let j = y.near in let k = forward in omega arith;
          around = slash_step f here pattern_here above (within s.row) it.top it.among s.row u.around (skip ▹ y.goes);
        }

        step_stops : (y : Lexeme) → Plain text v.prev_token_end y → IsTrue (seen (looser (it.level + 6) f.in_ (row_of (link_label v.prev_token_end) (tree s.label s.slots (tree x.answer.label x.answer.slots end)))) y || seen beside y)
        step_stops y l = rw (last_at it.level) (subst (λ (n : ℕ). (seen (looser n f.in_ (row_of x.answer.label x.answer.slots)) y || seen beside y) ≡ true) (let z : it.level + 1 + 5 ≡ it.level + 6 = omega arith in z) (subst (λ b. (b || seen beside y) ≡ true) (level_looser f (it.level + 1) (tree x.answer.label x.answer.slots end) y (let h = it.top in omega arith)) (x.answer.stops y l)))

        pub operand_step : {w : Parser} {made : NodeId} → MadeHere (link_label v.prev_token_end) (Some id ∷ Some right ∷ []) v w made → Operand text f m p w made
        operand_step {w} {made} n = subst (λ (z : Parser). Operand text f m p z made) (sym n.stays) (record {
          at = beside_nodes w.nodes x.answer.at;
          same = same_with w.nodes (same_both s.same (same_both o.same (same_both d.same x.answer.same))) (Keeps-trans s.keeps (Keeps-trans (subst (λ (ns : List Node). Keeps ns v.nodes) (d.nodes ∙ o.nodes) x.keeps) (Keeps-made n.made))) (made_lies (same_both s.same (same_both o.same (same_both d.same x.answer.same))) x.answer.at.at start_before n refl);
          further = let a = s.further in let b = forward in omega arith;
          label = link_label v.prev_token_end;
          slots = tree s.label s.slots (tree x.answer.label x.answer.slots end);
          row = step_row;
          pass = λ ls. s.pass (next d.lexeme (x.answer.pass ls));
          walked = walked_both s.walked (walked_both (walked_from o.spot_is (walked_one d)) x.answer.walked);
          cap = it.level;
          low = let h = it.top in omega arith;
          verdict = and_then s.verdict (behind_none (d.kept ∙ o.kept) x.answer.verdict) (λ u y. ring_step y u) (λ z. z) (λ u z. ring_fails u z);
          stops = step_stops;
          loose = λ y l. looser_or (it.level + 6) 15 (tight f.in_ (row_of (link_label v.prev_token_end) (tree s.label s.slots (tree x.answer.label x.answer.slots end))) y.kind y.newline y.escaped) (seen beside y) (let h = it.top in omega arith) (step_stops y l);
          holds = two_held n s.holds s.keeps (subst (λ (ns : List Node). Holds v.nodes (length ns) (length v.nodes) right.0 x.answer.label x.answer.slots) (d.nodes ∙ o.nodes) x.holds) (subst (λ (ns : List Node). Keeps ns v.nodes) (d.nodes ∙ o.nodes) x.keeps);
          keeps = Keeps-trans s.keeps (Keeps-trans (subst (λ (ns : List Node). Keeps ns v.nodes) (d.nodes ∙ o.nodes) x.keeps) (Keeps-made n.made));
        })

  -- no operator of these levels stands here
  module _ {m : ℕ} {p q t : Parser} {id : NodeId} (s : Operand text f m p q id) {power : ℕ} (o : Tightness text f q t power) (c : power < m + 5) where
    weak : (y : Lexeme) → Plain text q.prev_token_end y → cond y.escaped 0 (power_of f.in_ y.kind) < m + 5
    weak y l =
        let z = told_plain o.at o.uncut y (plain_is_none y l.1) (subst (λ (v : ℕ). Lex text v y) (sym o.place) (plain_lex l)) in
        let e : power ≡ cond y.escaped 0 (power_of f.in_ y.kind) = o.is ∙ (λ i. cond (z.escaped i) 0 (power_of f.in_ (z.kind i))) in omega arith

    no_operator : (q' : ℕ) → m ≤ q' → q' ≤ s.cap → (y : Lexeme) → Lex text q.prev_token_end y → y.escaped ≡ false → OneOf y.kind (operators_at f q') → ⊥
    no_operator q' a b y l e i =
        let h = operator_level f q' i in
        let o = some_level f.in_ q' i in
        let p : Plain text q.prev_token_end y = (l.0, plain_so y l.1 (operator_plain f q' i)) in
        let k = power_listed f.in_ y p.1 (omega arith) (omega arith) in
        let w : power_of f.in_ y.kind < m + 5 = subst (λ (b : Bool). cond b 0 (power_of f.in_ y.kind) < m + 5) e (weak y p) in absurd (omega arith)

    -- an operator has no escape
    part_plain : (q' : ℕ) (x : Link Symbol) → Step (levels f) m s.cap q' x → (k : Kind) (w e : Bool) → starts firsts.first x.part full k w e ≡ true → e ≡ false
    part_plain q' x st k w e h =
        let y = of_operations (level_at f) node_at q' (operators_at f q') st.3 in
        not_true e (and_parts _ _ (subst (λ (v : Link Symbol). starts firsts.first v.part full k w e ≡ true) y.2 h)).1
      where
        not_true : (b : Bool) → not b ≡ true → b ≡ false
        not_true true i = absurd (false≢true i)
        not_true false i = refl

    operators_over : {ks : Slots} {l : Label} {cs : Slots} {from : ℕ} {way : Way} → Around (Lex text) (after (level_at f m)) (levels f) m p.prev_token_end from s.cap l cs q.prev_token_end way → Reads rule (Lex text) (after (level_at f m)) ks (such (level_at f m) always) p.prev_token_end q.prev_token_end (tree l cs) way
    operators_over a = finish firsts refl (λ l cs vs y e. e) a (λ q' x st y l t. no_operator q' st.0 st.1 y l (part_plain q' x st y.kind y.newline y.escaped t) (part_at firsts (level_at f) top_level node_at (feet_at f) (operators_at f) m s.cap q' x st y.kind y.newline y.escaped t).0)

    pub operands_answer : m ≤ 10 → Numbered text f (level_at f m) p t id
    operands_answer h = record {
      answer = record {
        at = o.at;
        same = same_both s.same o.same;
        further = let a = s.further in let b = o.place in omega arith;
        label = s.label;
        slots = s.slots;
        stops = λ y l. let k = subst (λ (v : ℕ). Plain text v y) o.place l in subst (λ b. (b || seen beside y) ≡ true) (sym (level_looser f m (tree s.label s.slots end) y h)) (stops_by_power (m + 5) f.in_ (row_of s.label s.slots) s.row y l.1 (s.loose y k) (weak y k) (omega arith));
        row = level_rows f m _ ∙ s.row;
        pass = s.pass;
        walked = walked_to (sym o.spot_is) s.walked;
        verdict = subst (λ (v : ℕ). Verdict (f.wide ≡ true) p.errors t.errors (Stretch text (after (level_at f m)) (such (level_at f m) always) p.prev_token_end nothing v (tree s.label s.slots) s.pass) (Underived text (level_at f m) p.prev_token_end)) (sym o.place)
            (subst (λ (ds : List Diagnostic). Verdict (f.wide ≡ true) p.errors ds (Stretch text (after (level_at f m)) (such (level_at f m) always) p.prev_token_end nothing q.prev_token_end (tree s.label s.slots) s.pass) (Underived text (level_at f m) p.prev_token_end)) (sym o.kept)
            (verdict_of s.verdict (λ z. record { reach = z.reach; near = z.near; goes = operators_over z.around }) (λ n. n)));
      };
      holds = subst (λ (ns : List Node). Holds ns (length p.nodes) (length ns) id.0 s.label s.slots) (sym o.nodes) s.holds;
      keeps = subst (λ (ns : List Node). Keeps p.nodes ns) (sym o.nodes) s.keeps;
    }
