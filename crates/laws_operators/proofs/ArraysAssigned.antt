-- A literal before an assignment operator that needs a simple target (ECMA-262, 13.15.1).
use Rattle.parse_targets.proofs.Refused.{literal_no_target}
use Rattle.std.proofs.Common.{ℕ, ◌≡◌, inl, inr, List, [], ◌∷◌, length, Bool, true, false, not, IsTrue, Some, None, refl, sym, ap, subst, arith, ◌∙◌}
use Rattle.std.specs.Prelude.{IsCharBoundary, ◌↔◌}
use Rattle.js_base.proofs.KindLemmas.{kind_of_same}
use Rattle.laws_shared.specs.js_cursor.declared.stop.Stop.TheVariants.{NoMemory}
use Rattle.std.proofs.lemmas.Bool.{false≢true, and_from}
use Rattle.js_base.specs.declared.diagnostic.Diagnostic.{Diagnostic}
use Rattle.js_base.specs.declared.kind.Kind.{Kind}
use Rattle.js_base.specs.declared.kind.Kind.TheVariants.{Eq}
use Rattle.js_base.specs.declared.operator.AssignmentOperator.{AssignmentOperator}
use Rattle.js_base.specs.declared.span.Span.{Span}
use Rattle.js_base.specs.Kinds.{same_kind, one_of_kinds}
use Rattle.js_base.specs.Operators.{row_of as row_in, assignment_operators}
use Rattle.js_grammar.specs.Trees.{Label, Slots, end, tree, of, assignment_expression}
use Rattle.js_grammar.specs.Grammar.{Lexeme, Lexemes, here, last, such, nothing, Takes, is_nothing}
use Rattle.js_grammar.specs.Insertion.{assign_operators}
use Rattle.js_grammar.specs.Lexemes.{is_escaped}
use Rattle.js_grammar.specs.Marks.{Mark, StandsAt, Part, loose}
use Rattle.js_base.specs.declared.diagnostic.DiagnosticKind.TheVariants.{AssignmentIsNotSimple}
use Rattle.js_grammar.specs.Settings.{Goal}
use Rattle.js_grammar.specs.Parsing.{always}
use Rattle.js_grammar.specs.Productions.{Flags, at, Assignment, Short, Primary}
use Rattle.js_grammar.specs.Table.{rule}
use Rattle.js_grammar.specs.Follow.{after}
use Rattle.js_grammar.proofs.BuiltLines.{in_whole}
use Rattle.js_grammar.proofs.Loose.{strict_is_loose}
use Rattle.laws_shared.specs.js_tree.declared.id.NodeId.{NodeId}
use Rattle.laws_shared.specs.js_tree.declared.kind.NodeKind.TheVariants as node
use Rattle.laws_shared.specs.js_tree.declared.op.Op.TheVariants as op_made
use Rattle.laws_shared.specs.js_tree.Nodes.{Node}
use Rattle.laws_shared.specs.js_tree.Holding.{Holds, Keeps}
use Rattle.laws_shared.proofs.js_tree.HoldingLemmas.{Keeps-trans, Keeps-made}
use Rattle.laws_shared.specs.js_cursor.Parsers.{Parser}
use Rattle.laws_shared.specs.js_cursor.Places.{goal}
use Rattle.laws_shared.specs.js_cursor.declared.stop.Stop.{Stop}
use Rattle.laws_shared.specs.Answers.{Grown, unclean, Underived, Answer, Numbered, Stretch, Stops}
use Rattle.laws_shared.specs.Lexemes.{Lex, spot}
use Rattle.laws_shared.specs.Moves.{Moved, MadeHere, plain_label}
use Rattle.laws_shared.specs.Nesting.{room}
use Rattle.parse_targets.specs.Taken.{TellsOnce, not_simple_at}
use Rattle.laws_shared.specs.States.{At, Same}
use Rattle.parse_targets.specs.Targets.{is_object, is_literal, literal_kind}
use Rattle.laws_operators.specs.Rests.{OnlyOperand}
use Rattle.parse_targets.proofs.Assigned.{assigns}
use Rattle.laws_operators.proofs.Assignments.{assign_refused, assign_named}
use Rattle.parse_targets.proofs.Covers.{begins_there, part_there}
use Rattle.laws_shared.proofs.Giving.{kept_one}
use Rattle.laws_shared.proofs.Here.{found}
use Rattle.laws_shared.proofs.MadeNodes.{two_held, made_lies}
use Rattle.laws_shared.proofs.Moving.{same_both, same_itself, same_with, beside_nodes, stops_behind}
use Rattle.laws_shared.proofs.Paths.{label_here, read_of, walked_both, walked_from, walked_one}
use Rattle.laws_shared.proofs.Signs.{grew, none_kept, plain_of}
use Rattle.parse_targets.proofs.Targets.{Literal, of_array, of_object, literal_shape, kind_of_literal, by_braces, by_brackets, may_literal, of_short}
use Rattle.laws_shared.proofs.Told.{told_at, told_same}
use Rattle.laws_shared.proofs.Verdicts.{grown_both, grown_first, grown_on, grown_then}
use Rattle.laws_shared.proofs.Verdicts.{after as grown_behind}
use Rattle.laws_shared.specs.Classes.{IsEarly}

literal_stands : (source : Goal) (text : List ℕ) (s s' from : ℕ) (f : Flags) (l : Label) (cs : Slots) (ls : Lexemes) (y : Lexeme) → Part text s ls → (here ls).from ≡ from → Takes rule (rule (at Primary f)) end (tree l cs end) s ls end s' (last y) → (o : Bool) → l.kind ≡ literal_kind o → one_of_kinds assign_operators y.kind ≡ true → same_kind Eq y.kind ≡ false
    → StandsAt AssignmentIsNotSimple source text (record { start = from; end = s' }) None None
literal_stands source text s s' from f l cs ls y part b d false k u e = (
  record {
    place = s;
    lexemes = ls;
    part = part;
    begins = b;
    flags = f;
    tree = record { label = l; slots = cs };
    rest = last y;
    derived = in_whole (at Primary (loose f)) (record { label = l; slots = cs }) (strict_is_loose (at Primary f) (record { label = l; slots = cs }) d);
    passes = rw k (and_from _ _ u (ap not e));
  },
  (refl, refl),
)
literal_stands source text s s' from f l cs ls y part b d true k u e = (
  record {
    place = s;
    lexemes = ls;
    part = part;
    begins = b;
    flags = f;
    tree = record { label = l; slots = cs };
    rest = last y;
    derived = in_whole (at Primary (loose f)) (record { label = l; slots = cs }) (strict_is_loose (at Primary f) (record { label = l; slots = cs }) d);
    passes = rw k (and_from _ _ u (ap not e));
  },
  (refl, refl),
)

primary_of : {f : Flags} {l : Label} {cs : Slots} {i j : ℕ} {ls rest : Lexemes} → Literal f l cs i ls j rest → Takes rule (rule (at Primary f)) end (tree l cs end) i ls end j rest
primary_of (of_array d) = by_brackets d
primary_of {f} (of_object d) = by_braces f d

-- that was told, or something else was before
module _ {d : Diagnostic} {kept : ℕ} {q o : Parser} (t : TellsOnce d kept q o) where
  pub once_at : {text : List ℕ} {f : Flags} → At text f q → At text f o
  once_at {text} {f} a = by t
    where
      by : TellsOnce d kept q o → At text f o
      by (inl k) = told_at k a
      by (inr e) = subst (λ (z : Parser). At text f z) (sym e.1) a

  pub once_same : IsEarly d → Same q o
  once_same y = by t
    where
      by : TellsOnce d kept q o → Same q o
      by (inl k) = told_same k y
      by (inr e) = subst (λ (z : Parser). Same q z) (sym e.1) same_itself

  -- all but the diagnostics stays
  pub once_stays : {K : Type 0} (g : Parser → K) → ((z : Parser) (ds : List Diagnostic) → g (record z { errors = ds }) ≡ g z) → g o ≡ g q
  once_stays g h = by t
    where
      by : TellsOnce d kept q o → g o ≡ g q
      by (inl k) = ap g k.is ∙ h q _
      by (inr e) = ap g e.1

  pub once_kind : o.token.kind ≡ q.token.kind
  once_kind = once_stays (λ z. z.token.kind) (λ z ds. refl)

  pub once_cut : o.cut ≡ q.cut
  once_cut = once_stays (λ z. z.cut) (λ z ds. refl)

  pub once_place : o.prev_token_end ≡ q.prev_token_end
  once_place = once_stays (λ z. z.prev_token_end) (λ z ds. refl)

  pub once_start : o.token.span.start ≡ q.token.span.start
  once_start = once_stays (λ z. z.token.span.start) (λ z ds. refl)

  pub once_room : room o ≡ room q
  once_room = once_stays (λ z. room z) (λ z ds. refl)

  once_spot : spot o ≡ spot q
  once_spot = once_stays (λ z. spot z) (λ z ds. refl)

  once_nodes : o.nodes ≡ q.nodes
  once_nodes = once_stays (λ z. z.nodes) (λ z ds. refl)

module _ {text : List ℕ} {f : Flags} {p q : Parser} (a : At text f p) (x : Answer text f (at Short f) p q) (c : q.cut ≡ false) (u : one_of_kinds assign_operators q.token.kind ≡ true) (h : is_literal x.label.kind ≡ true) (n : same_kind Eq q.token.kind ≡ false) where
  stood : (y : Lexeme) × Lex text q.prev_token_end y × (y.kind ≡ q.token.kind)
  stood =
      let g = assigns q.token.kind u in
      let z = found x.at c g.no_end in
      let e : z.0.escaped ≡ false = plain_of q.token.kind z.1.word z.0.escaped (subst (λ (v : Kind). z.0.escaped ≡ is_escaped v z.1.word) (sym z.2.kind) z.1.escaped) g.unescaped in
      (z.0, (z.1, read_of z.0 (sym z.2.kind) g.is_read), sym z.2.kind)

  pub not_simple_marked : (start : ℕ) → start ≡ p.token.span.start → length q.errors ≡ length p.errors → Mark (goal q) q.text (not_simple_at start q.prev_token_end)
  not_simple_marked start d k = subst (λ (v : List ℕ). Mark (goal q) v (not_simple_at start q.prev_token_end)) (sym x.at.text_is) it
    where
      z : Stretch text (after (at Short f)) (such (at Short f) always) p.prev_token_end nothing q.prev_token_end (tree x.label x.slots) x.pass
      z = none_kept x.verdict k

      literal : {ls : Lexemes} → Takes rule (such (at Short f) always) end (tree x.label x.slots end) p.prev_token_end ls end q.prev_token_end (last stood.0) → Takes rule (rule (at Primary f)) end (tree x.label x.slots end) p.prev_token_end ls end q.prev_token_end (last stood.0)
      literal t = primary_of (literal_shape {f = f} h ((of_short f).down (may_literal x.label.kind h) t))

      it : Mark (goal q) text (not_simple_at start q.prev_token_end)
      it = record {
        ordered = let i = x.further in omega arith;
        within = (subst (λ (v : List ℕ). IsCharBoundary v q.prev_token_end) x.at.text_is x.at.at.between).0;
        begins_between = subst (λ (v : ℕ). IsCharBoundary text v) (sym d) (subst (λ (v : List ℕ). IsCharBoundary v p.token.span.start) a.text_is a.at.lies.starts_whole);
        ends_between = subst (λ (v : List ℕ). IsCharBoundary v q.prev_token_end) x.at.text_is x.at.at.between;
        stands = literal_stands (goal q) text p.prev_token_end q.prev_token_end start f x.label x.slots (x.pass (last stood.0)) stood.0 (part_there x a z stood.0 stood.1) (begins_there x a z stood.0 stood.1 ∙ sym d)
            (literal (z.goes.sound end end q.prev_token_end (last stood.0) (last stood.0) stood.1 (inl z.near) is_nothing)) (is_object x.label.kind) (kind_of_literal x.label.kind h) (subst (λ (v : Kind). one_of_kinds assign_operators v ≡ true) (sym stood.2) u) (subst (λ (v : Kind). same_kind Eq v ≡ false) (sym stood.2) n);
      }

  pub array_refused : OnlyOperand text f p.prev_token_end → Underived text (at Assignment f) p.prev_token_end
  array_refused na = assign_refused x na c u (inr n) (literal_no_target x.label x.slots h)

  -- behind what was told, or was told before
  module _ {o : Parser} {start kept : ℕ} (na : OnlyOperand text f p.prev_token_end) (i : kept ≡ length p.errors) (t : TellsOnce (not_simple_at start q.prev_token_end) kept q o) where
    once_grown : Grown p.errors o.errors
    once_grown = by t
      where
        by : TellsOnce (not_simple_at start q.prev_token_end) kept q o → Grown p.errors o.errors
        by (inl k) = grown_behind x.verdict (kept_one k)
        by (inr e) = subst (λ (z : Parser). Grown p.errors z.errors) (sym e.1) (grew kept i e.0 x.verdict)

    module _ {r : Parser} (m : Moved text f o r) where
      passed_grown : {ds : List Diagnostic} → Grown r.errors ds → Grown p.errors ds
      passed_grown g = grown_both once_grown (grown_then m.kept g)

      pub array_stops : (w : Parser) (e : Stop) (F : Type 0) → Stops r w e F → Stops p w e (Underived text (at Assignment f) p.prev_token_end)
      array_stops w e F s = stops_behind w e (same_both x.same (same_both (once_same t refl) m.same)) (λ g. passed_grown g) (λ i. array_refused na) s

      pub array_assigned : {w z : Parser} {left second id : NodeId} {operator : AssignmentOperator} (s : Span) → row_in assignment_operators q.token.kind ≡ Some operator → Holds q.nodes (length p.nodes) (length q.nodes) left.0 x.label x.slots → Keeps p.nodes q.nodes → (y : Numbered text f (at Assignment f) r w second) → s.start ≡ p.token.span.start → s.end ≡ w.prev_token_end
          → MadeHere (plain_label node.AssignmentExpression (op_made.Assignment operator) s) (Some left ∷ Some second ∷ []) w z id → Numbered text f (at Assignment f) p z id
      array_assigned {w} {z} {left} {second} {id} {operator} s v l ks y b d made =
          let e : plain_label node.AssignmentExpression (op_made.Assignment operator) s ≡ label_here assignment_expression (of q.token.kind) p w = rw (assign_named q.token.kind operator u v, b, d) refl in
          let j : MadeHere (label_here assignment_expression (of q.token.kind) p w) (Some left ∷ Some second ∷ []) w z id = subst (λ (v : Label). MadeHere v (Some left ∷ Some second ∷ []) w z id) e made in
          let same_nodes_there : r.nodes ≡ q.nodes = m.nodes ∙ once_nodes t in
          let k : Keeps q.nodes w.nodes = subst (λ (ns : List Node). Keeps ns w.nodes) same_nodes_there y.keeps in
          let held : Holds w.nodes (length q.nodes) (length w.nodes) second.0 y.answer.label y.answer.slots = subst (λ (ns : List Node). Holds w.nodes (length ns) (length w.nodes) second.0 y.answer.label y.answer.slots) same_nodes_there y.holds in
          subst (λ (v : Parser). Numbered text f (at Assignment f) p v id) (sym j.stays) (record {
            answer = record {
              at = beside_nodes z.nodes y.answer.at;
              same = same_with z.nodes (same_both x.same (same_both (once_same t refl) (same_both m.same y.answer.same))) (Keeps-trans ks (Keeps-trans k (Keeps-made j.made))) (made_lies (same_both x.same (same_both (once_same t refl) (same_both m.same y.answer.same))) y.answer.at.at (let i = x.further in let o = once_place t in let g = m.further in let h = m.at.behind in let k = y.answer.further in let l = (once_at t x.at).behind in omega arith) j refl);
              further = let i = x.further in let o = once_place t in let g = m.further in let h = m.at.behind in let k = y.answer.further in let l = (once_at t x.at).behind in omega arith;
              label = label_here assignment_expression (of q.token.kind) p w;
              slots = tree x.label x.slots (tree y.answer.label y.answer.slots end);
              stops = λ i j. y.answer.stops i j;
              row = y.answer.row;
              pass = _;
              walked = walked_both x.walked (walked_from (once_spot t) (walked_both (walked_one m) y.answer.walked));
              verdict = unclean (grown_on (grown_first once_grown m.kept) y.answer.verdict) (array_refused na);
            };
            holds = two_held j l ks held k;
            keeps = Keeps-trans ks (Keeps-trans k (Keeps-made j.made));
          })

pub unread : (p q : Parser) {e : Stop} (F : Type 0) → e ≡ NoMemory → Stops p q e F
unread p q {e} F h = subst (λ (v : Stop). Stops p q v F) (sym h) tt

pub no_equals : {r : Bool} {k : Kind} → IsTrue r ↔ (k ≡ Eq) → r ≡ false → same_kind Eq k ≡ false
no_equals {r} {k} h e = go (same_kind Eq k) refl
  where
    go : (b : Bool) → same_kind Eq k ≡ b → b ≡ false
    go true q = absurd (false≢true (sym e ∙ h.1 (sym (kind_of_same Eq k q))))
    go false q = refl
