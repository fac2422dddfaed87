-- Answers of assignments (ECMA-262, 13.15).
use Rattle.parse_targets.proofs.Refused.{no_target}
use Rattle.std.proofs.Common.{ℕ, ◌≡◌, ◌⊎◌, inl, inr, List, [], ◌∷◌, length, Bool, true, false, not, ◌||◌, IsTrue, Option, Some, None, refl, sym, ap, subst, arith, ◌∙◌}
use Rattle.std.specs.Prelude.{IsCharBoundary, is_some, if◌then◌else◌}
use Rattle.std.proofs.lemmas.Bool.{false≢true, and_from}
use Rattle.js_base.specs.declared.diagnostic.Diagnostic.{Diagnostic}
use Rattle.js_base.specs.declared.kind.Kind.{Kind}
use Rattle.js_base.specs.declared.kind.Kind.TheVariants.{Question, Eq}
use Rattle.js_base.specs.declared.operator.AssignmentOperator.{AssignmentOperator}
use Rattle.js_base.specs.declared.span.Span.{Span}
use Rattle.js_base.specs.Kinds.{same_kind, one_of_kinds}
use Rattle.js_base.specs.Operators.{row_of as row_in, assignment_operators}
use Rattle.js_base.proofs.KindLemmas.{kind_of_same}
use Rattle.js_grammar.specs.Trees.{Span as TreeSpan, Label, Slots, end, tree, Tree, of, assignment_expression}
use Rattle.js_grammar.specs.Grammar.{Lexeme, Lexemes, Look, here, seen, such, nothing, exact, Takes, is_seq, is_lexeme, is_such}
use Rattle.js_grammar.specs.Insertion.{Row, after_expression, assign_operators}
use Rattle.js_grammar.specs.Lexemes.{is_escaped}
use Rattle.js_grammar.specs.Marks.{Mark}
use Rattle.js_grammar.specs.Parsing.{Test, always, Admits, Goes, still}
use Rattle.js_grammar.specs.Productions.{Flags, Symbol, at, Assignment, Short, Target}
use Rattle.js_grammar.specs.Productions.{sym as symbol}
use Rattle.js_grammar.specs.Table.{rule}
use Rattle.js_grammar.specs.Follow.{edge_of, follow, after, looser, widest}
use Rattle.js_grammar.proofs.Looks.{covered}
use Rattle.js_grammar.proofs.Calculus.{On, Inside, ◌▹✗◌, fails_node, weaken_fails_on}
use Rattle.js_grammar.proofs.FollowLaws.{fails_by}
use Rattle.laws_shared.specs.js_tree.declared.id.NodeId.{NodeId}
use Rattle.laws_shared.specs.js_tree.declared.kind.NodeKind.TheVariants as node
use Rattle.laws_shared.specs.js_tree.declared.op.Op.TheVariants as op_made
use Rattle.laws_shared.specs.js_tree.Labels.{assignment_kind}
use Rattle.laws_shared.specs.js_tree.Nodes.{Node}
use Rattle.laws_shared.specs.js_tree.Holding.{Holds, Keeps}
use Rattle.laws_shared.proofs.js_tree.HoldingLemmas.{Keeps-trans, Keeps-made}
use Rattle.laws_shared.specs.js_cursor.Parsers.{Parser}
use Rattle.laws_shared.specs.js_cursor.Moves.{is_last}
use Rattle.laws_shared.specs.js_cursor.Places.{goal}
use Rattle.laws_shared.specs.Answers.{Underived, Answer, Numbered, Stretch, Verdict}
use Rattle.laws_shared.specs.Lexemes.{Lex, Plain, other_goals}
use Rattle.laws_shared.specs.Moves.{Moved, MadeHere, Tightness, plain_label}
use Rattle.parse_targets.specs.Taken.{no_target_at}
use Rattle.laws_shared.specs.States.{At}
use Rattle.parse_targets.specs.Targets.{target_of, TargetNode}
use Rattle.parse_targets.proofs.Assigned.{an_assign, Assigns, assigns, assign_slots, assign_part, then_assign, not_target, assigned, assign_follows}
use Rattle.laws_operators.proofs.Conditionals.{no_conditional}
use Rattle.laws_shared.proofs.Signs.{other_kind}
use Rattle.parse_targets.proofs.ArraysBeforeSigns.{is_cover, no_array, no_array_there, no_object_there, target_no_literal}
use Rattle.laws_operators.specs.Rests.{OnlyOperand}
use Rattle.parse_targets.specs.Targets.{is_literal}
use Rattle.parse_targets.proofs.Covers.{row_of_target, lexed_there, no_simple_there, underived_there}
use Rattle.laws_shared.proofs.Here.{found, told_plain}
use Rattle.laws_shared.proofs.MadeNodes.{two_held, one_lies}
use Rattle.laws_shared.proofs.Moving.{same_both}
use Rattle.laws_patterns.proofs.laws_primary.Operands.{by_path}
use Rattle.laws_shared.proofs.Paths.{Path, ◌⟼◌, ◌⟶◌, ◌⟶✗◌, token, last_called, noded_by, label_here, read_of, walked_to}
use Rattle.laws_shared.proofs.Signs.{none_kept, plain_of}
use Rattle.parse_targets.proofs.Targets.{of_short}
use Rattle.laws_shared.proofs.Escapes.{read_listed}
use Rattle.laws_shared.proofs.Tight.{plain_lex, plain_is_none}

-- the sign behind was told whole
pub shifted : {text : List ℕ} {f : Flags} {n : Symbol} {p q t : Parser} {id : NodeId} {power : ℕ} → Numbered text f n p q id → Tightness text f q t power → Numbered text f n p t id
shifted {text} {f} {n} {p} {q} {t} {id} x o = record {
  answer = record {
    at = o.at;
    same = same_both x.answer.same o.same;
    further = let a = x.answer.further in let b = o.place in omega arith;
    label = x.answer.label;
    slots = x.answer.slots;
    stops = λ y l. x.answer.stops y (subst (λ (v : ℕ). Plain text v y) o.place l);
    row = x.answer.row;
    pass = x.answer.pass;
    walked = walked_to (sym o.spot_is) x.answer.walked;
    verdict = subst (λ (v : ℕ). Verdict (f.wide ≡ true) p.errors t.errors (Stretch text (after n) (such n always) p.prev_token_end nothing v (tree x.answer.label x.answer.slots) x.answer.pass) (Underived text n p.prev_token_end)) (sym o.place)
        (subst (λ (ds : List Diagnostic). Verdict (f.wide ≡ true) p.errors ds (Stretch text (after n) (such n always) p.prev_token_end nothing q.prev_token_end (tree x.answer.label x.answer.slots) x.answer.pass) (Underived text n p.prev_token_end)) (sym o.kept) x.answer.verdict);
  };
  holds = subst (λ (ns : List Node). Holds ns (length p.nodes) (length ns) id.0 x.answer.label x.answer.slots) (sym o.nodes) x.holds;
  keeps = subst (λ (ns : List Node). Keeps p.nodes ns) (sym o.nodes) x.keeps;
}

-- behind two slots may stand what may stand behind the second one
abbrev pub by_second : Flags → Slots → Look
by_second f (tree a ds (tree b es end)) k w e = follow (at Assignment f) (edge_of b es) k w e
by_second f _ k w e = false

abbrev pub second : Flags → Test
second f = record { base = widest Assignment; by = λ ts. by_second f ts }

inside_second : (f : Flags) (o : Kind) (s : ℕ) → Inside rule (record { kind = assignment_expression; op = of o; flags = 0; extent = exact }) (after (at Assignment f)) (second f) end (assign_slots f o) s
inside_second f o s = record { ends = λ p cs vs j ls mid d e. go p cs vs d e }
  where
    go : (p : TreeSpan) (cs vs : Slots) {i j : ℕ} {ls mid : Lexemes} → Takes rule (assign_slots f o) end cs i ls end j mid → Admits (after (at Assignment f)) (tree (record { kind = assignment_expression; op = of o; flags = 0; span = p }) cs vs) (here mid) → Admits (second f) cs (here mid)
    go p cs vs (is_seq (is_such a b) (is_seq (is_lexeme c) (is_such d e))) x = x

pub on_second : (f : Flags) (a : Label) (ds : Slots) (s : ℕ) → On rule (record { base = widest Assignment; by = λ us. by_second f (tree a ds us) }) (after (at Assignment f)) end (such (at Assignment f) always) s
on_second f a ds s = record { admits = λ ts vs k ls rest d e. go ts vs d e }
  where
    go : (ts vs : Slots) {i k : ℕ} {ls rest : Lexemes} → Takes rule (such (at Assignment f) always) end ts i ls vs k rest → Admits (record { base = widest Assignment; by = λ us. by_second f (tree a ds us) }) ts (here rest) → Admits (after (at Assignment f)) ts (here rest)
    go ts end (is_such d h) x = x
    go ts vs (is_such d h) x = absurd (false≢true x.1)

module _ {text : List ℕ} {f : Flags} {p q : Parser} (x : Answer text f (at Short f) p q) (na : OnlyOperand text f p.prev_token_end) (c : q.cut ≡ false) (u : one_of_kinds assign_operators q.token.kind ≡ true) where
  sign_here : (y : Lexeme) → Lex text q.prev_token_end y → one_of_kinds other_goals y.kind ≡ false → y.kind ≡ q.token.kind
  sign_here y l r = sym (told_plain x.at c y r l).kind

  pub all_assign : (y : Lexeme) → Plain text q.prev_token_end y → IsTrue (seen an_assign y)
  all_assign y l = let m = subst (λ (k : Kind). one_of_kinds assign_operators k ≡ true) (sym (sign_here y (plain_lex l) (plain_is_none y l.1))) u in and_from _ _ m (ap not (read_listed assign_operators y (plain_lex l) m refl))

  pub plain_here : q.token.escaped ≡ false
  plain_here = let z = found x.at c (assigns q.token.kind u).no_end in z.2.escaped ∙ plain_of q.token.kind z.1.word z.0.escaped (subst (λ (v : Kind). z.0.escaped ≡ is_escaped v z.1.word) (sym z.2.kind) z.1.escaped) (assigns q.token.kind u).unescaped

  pub no_question : one_of_kinds (Question ∷ []) q.token.kind ≡ false
  no_question = other_kind Question q.token.kind (λ e. false≢true (subst (λ (k : Kind). one_of_kinds assign_operators k ≡ true) e u))

  -- an array literal before `=` aside
  to_assign : (is_literal x.label.kind ≡ false) ⊎ (same_kind Eq q.token.kind ≡ false) → Goes rule (Lex text) (after (at Assignment f)) end (rule (at Assignment f)) p.prev_token_end (assign_part f q.token.kind) p.prev_token_end (λ us. us) (still 0)
  to_assign b = assigned na x q.token.kind u sign_here (no_conditional x no_question all_assign) b

  -- the left side is no target
  pub assign_refused : (is_literal x.label.kind ≡ false) ⊎ (same_kind Eq q.token.kind ≡ false) → target_of x.label x.slots ≡ None → Underived text (at Assignment f) p.prev_token_end
  assign_refused b e = fails_by (to_assign b ▹✗ fails_node (inside_second f q.token.kind p.prev_token_end) (not_target x (second f) q.token.kind u e))

  module _ {r : Parser} (m : Moved text f q r) (t : Tree) (e : target_of x.label x.slots ≡ Some t) where
    sign_read : Path text f (second f) (assign_slots f q.token.kind) p (symbol Assignment f) r (tree t.label t.slots)
    sign_read = then_assign x (second f) q.token.kind u t e ⟶ token q.token.kind x.at refl plain_here (assigns q.token.kind u).is_read m

    pub right_fails : Underived text (at Assignment f) r.prev_token_end → Underived text (at Assignment f) p.prev_token_end
    right_fails n = fails_by (to_assign (inl (target_no_literal x.label x.slots t e)) ▹✗ fails_node (inside_second f q.token.kind p.prev_token_end) (sign_read ⟶✗ weaken_fails_on n (on_second f t.label t.slots r.prev_token_end)))

    assign_path : {w : Parser} → At text f p → (y : Answer text f (at Assignment f) r w) → Path text f (after (at Assignment f)) (rule (at Assignment f)) p nothing w (tree (label_here assignment_expression (of q.token.kind) p w) (tree t.label t.slots (tree y.label y.slots end)))
    assign_path a y = to_assign (inl (target_no_literal x.label x.slots t e)) ⟼ noded_by a (inside_second f q.token.kind p.prev_token_end) (sign_read ⟶ last_called y (on_second f t.label t.slots r.prev_token_end))

-- ---- the tables

abbrev AllOf : (Kind → Type 0) → List Kind → Type 0
AllOf P [] = Unit {0}
AllOf P (k ∷ ks) = P k × AllOf P ks

here_or_later : (P : Kind → Type 0) (j : Kind) (ks : List Kind) (k : Kind) (b : Bool) → same_kind j k ≡ b → (b || one_of_kinds ks k) ≡ true → P j → (one_of_kinds ks k ≡ true → P k) → P k
here_or_later P j ks k true e m a r = subst P (kind_of_same j k e) a
here_or_later P j ks k false e m a r = r m

of_all : (P : Kind → Type 0) (ks : List Kind) (k : Kind) → AllOf P ks → one_of_kinds ks k ≡ true → P k
of_all P [] k a h = absurd (false≢true h)
of_all P (j ∷ ks) k a h = here_or_later P j ks k (same_kind j k) refl h a.0 (λ m. of_all P ks k a.1 m)

pub assign_named : (k : Kind) (o : AssignmentOperator) → one_of_kinds assign_operators k ≡ true → row_in assignment_operators k ≡ Some o → assignment_kind o ≡ k
assign_named k o h = of_all (λ k. row_in assignment_operators k ≡ Some o → assignment_kind o ≡ k) assign_operators k (λ e. cc, (λ e. cc, (λ e. cc, (λ e. cc, (λ e. cc, (λ e. cc, (λ e. cc, (λ e. cc, (λ e. cc, (λ e. cc, (λ e. cc, (λ e. cc, (λ e. cc, (λ e. cc, (λ e. cc, (λ e. cc, tt)))))))))))))))) h

kinds_in : List (Kind × AssignmentOperator) → List Kind
kinds_in [] = []
kinds_in (r ∷ rows) = r.0 ∷ kinds_in rows

some_row : (b : Bool) (o : AssignmentOperator) (r : Option AssignmentOperator) → is_some (if b then Some o else r) ≡ (b || is_some r)
some_row true o r = refl
some_row false o r = refl

listed : (rows : List (Kind × AssignmentOperator)) (k : Kind) → is_some (row_in rows k) ≡ one_of_kinds (kinds_in rows) k
unfolding kinds_in
listed [] k = refl
listed (row ∷ rows) k = some_row (same_kind row.0 k) row.1 (row_in rows k) ∙ ap (λ b. same_kind row.0 k || b) (listed rows k)

table : (k : Kind) → is_some (row_in assignment_operators k) ≡ one_of_kinds assign_operators k
unfolding kinds_in
table k = listed assignment_operators k

pub assign_listed : {k l : Kind} {b c : Bool} → k ≡ l → b ≡ is_some (row_in assignment_operators k) → b ≡ c → one_of_kinds assign_operators l ≡ c
assign_listed {k} {c = c} e h g = subst (λ (j : Kind). one_of_kinds assign_operators j ≡ c) e (sym (table k) ∙ (sym h ∙ g))

pub row_assign : {k l : Kind} {o : AssignmentOperator} → k ≡ l → row_in assignment_operators k ≡ Some o → row_in assignment_operators l ≡ Some o
row_assign {o = o} e h = subst (λ (j : Kind). row_in assignment_operators j ≡ Some o) e h

-- ---- answers

pub assign_answers : {text : List ℕ} {f : Flags} {p q r w z : Parser} {left target second id : NodeId} {o : AssignmentOperator} (s : Span) → At text f p → OnlyOperand text f p.prev_token_end → (x : Numbered text f (at Short f) p q left) → q.cut ≡ false → (u : one_of_kinds assign_operators q.token.kind ≡ true) → row_in assignment_operators q.token.kind ≡ Some o → (m : Moved text f q r)
    → TargetNode q.nodes (length p.nodes) (length q.nodes) x.answer.label x.answer.slots target → (y : Numbered text f (at Assignment f) r w second) → s.start ≡ p.token.span.start → s.end ≡ w.prev_token_end → MadeHere (plain_label node.AssignmentExpression (op_made.Assignment o) s) (Some target ∷ Some second ∷ []) w z id → Numbered text f (at Assignment f) p z id
assign_answers {text} {f} {p} {q} {r} {w} {z} {left} {target} {second} {id} {o} s a na x c u v m t y b d n =
    let l : plain_label node.AssignmentExpression (op_made.Assignment o) s ≡ label_here assignment_expression (of q.token.kind) p w = rw (assign_named q.token.kind o u v, b, d) refl in
    let made : MadeHere (label_here assignment_expression (of q.token.kind) p w) (Some target ∷ Some second ∷ []) w z id = subst (λ (v : Label). MadeHere v (Some target ∷ Some second ∷ []) w z id) l n in
    let h : Holds w.nodes (length q.nodes) (length w.nodes) second.0 y.answer.label y.answer.slots = subst (λ (ns : List Node). Holds w.nodes (length ns) (length w.nodes) second.0 y.answer.label y.answer.slots) m.nodes y.holds in
    let k : Keeps q.nodes w.nodes = subst (λ (ns : List Node). Keeps ns w.nodes) m.nodes y.keeps in
    by_path (assign_path x.answer na c u m t.tree t.is a y.answer) (same_both x.answer.same (same_both m.same y.answer.same)) made.stays (λ i j. y.answer.stops i j) y.answer.row
    (two_held made t.holds x.keeps h k) (Keeps-trans x.keeps (Keeps-trans k (Keeps-made made.made))) refl (one_lies made)

-- ---- what is told of a left side that is no target

pub assign_marked : {text : List ℕ} {f : Flags} {p q : Parser} → At text f p → (x : Answer text f (at Short f) p q) → q.cut ≡ false → one_of_kinds assign_operators q.token.kind ≡ true → is_literal x.label.kind ≡ false → target_of x.label x.slots ≡ None → (start : ℕ) → start ≡ p.token.span.start → length q.errors ≡ length p.errors → Mark (goal q) q.text (no_target_at start q.prev_token_end)
assign_marked {text} {f} {p} {q} a x c u b e start d k = subst (λ (v : List ℕ). Mark (goal q) v (no_target_at start q.prev_token_end)) (sym x.at.text_is) it
  where
    g : Assigns q.token.kind
    g = assigns q.token.kind u

    stood : (y : Lexeme) × Lex text q.prev_token_end y × (y.kind ≡ q.token.kind)
    stood =
        let z = found x.at c g.no_end in
        let n : z.0.escaped ≡ false = plain_of q.token.kind z.1.word z.0.escaped (subst (λ (v : Kind). z.0.escaped ≡ is_escaped v z.1.word) (sym z.2.kind) z.1.escaped) g.unescaped in
        (z.0, (z.1, read_of z.0 (sym z.2.kind) g.is_read), sym z.2.kind)

    stood_sign : IsTrue (seen an_assign stood.0)
    stood_sign = let m = subst (λ (v : Kind). one_of_kinds assign_operators v ≡ true) (sym stood.2) u in and_from _ _ m (ap not (read_listed assign_operators stood.0 stood.1 m refl))

    follows : (l : Label) (cs : Slots) (t : Tree) → target_of l cs ≡ Some t → IsTrue (seen (follow (at Short f) (edge_of l cs)) stood.0)
    follows l cs t h = subst (λ (r : Row). IsTrue (seen (looser 4 f.in_ r) stood.0)) (sym (row_of_target l cs t h)) (covered an_assign (looser 4 f.in_ after_expression) (assign_follows f.in_) stood.0.kind stood.0.newline stood.0.escaped stood_sign)

    it : Mark (goal q) text (no_target_at start q.prev_token_end)
    it =
        let z = none_kept x.verdict k in
        let sign : IsTrue (seen an_assign stood.0) = stood_sign in
        let m = lexed_there x a z stood.0 stood.1 in
        record {
          ordered = let i = x.further in omega arith;
          within = (subst (λ (v : List ℕ). IsCharBoundary v q.prev_token_end) x.at.text_is x.at.at.between).0;
          begins_between = subst (λ (v : ℕ). IsCharBoundary text v) (sym d) (subst (λ (v : List ℕ). IsCharBoundary v p.token.span.start) a.text_is a.at.lies.starts_whole);
          ends_between = subst (λ (v : List ℕ). IsCharBoundary v q.prev_token_end) x.at.text_is x.at.at.between;
          stands = (inr (underived_there x a z stood.0 stood.1 f Target (record { start = start; end = q.prev_token_end }) d refl (λ t h. no_target f (λ t h. no_object_there (is_cover a) z b stood.0 m sign h) (λ t h. no_simple_there x a z stood.0 stood.1 (of_short f) e follows t h) (λ t h. no_array_there (is_cover a) z (no_array x.label.kind b) stood.0 m sign h) t h)), (refl, refl));
        }

pub assign_whole : {text : List ℕ} {f : Flags} {p q : Parser} {power : ℕ} → Tightness text f p q power → one_of_kinds assign_operators q.token.kind ≡ true → (q.cut ≡ false) × (is_last q.token.kind ≡ false)
assign_whole {q = q} o u = (o.uncut, (assigns q.token.kind u).no_end)
