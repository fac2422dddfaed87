-- A private name before `in`, as an operand: it is read where nothing else can be, and fails where it may not stand.
use Rattle.std.proofs.Common.{ℕ, zero, suc, ◌≡◌, ◌<◌, ◌≤◌, ◌-◌, ◌⊎◌, inl, inr, max, Bool, true, false, ◌||◌, IsTrue, List, [], ◌∷◌, Some, length, refl, sym, ap, subst, arith, ◌∙◌}
use Rattle.std.specs.Prelude.{◌↔◌, None, Err}
use Rattle.js_base.specs.Contexts.{has_flag, in_flag}
use Rattle.std.proofs.lemmas.Bool.{false≢true}
use Rattle.js_base.specs.declared.diagnostic.DiagnosticKind.{DiagnosticKind}
use Rattle.js_base.specs.declared.diagnostic.DiagnosticKind.TheVariants.{ExpectToken, PrivateInPrivate, UnexpectedPrivateIdentifier}
use Rattle.js_base.specs.declared.kind.Kind.{Kind}
use Rattle.js_base.specs.declared.kind.Kind.TheVariants.{In, PrivateIdentifier, RAngle}
use Rattle.js_base.specs.declared.span.Span.{Span}
use Rattle.js_base.specs.Kinds.{same_kind}
use Rattle.js_base.specs.Texts.{words}
use Rattle.js_grammar.specs.Trees.{Label, Slots, Span as TreeSpan, end, tree, private_in_expression, of}
use Rattle.js_grammar.specs.Grammar.{Lexeme, Lexemes, Look, here, seen, exact, such, nothing, Takes, when, is_such, is_seq, is_lexeme, is_when, ◌▸◌}
use Rattle.js_grammar.specs.Follow.{after, edge_of, follow, looser, row_of, tight, widest}
use Rattle.js_grammar.specs.FirstSets.{first}
use Rattle.js_grammar.specs.Levels.{feet_at, level_at, private_in}
use Rattle.js_grammar.specs.Lexed.{NextLexeme, all_faults}
use Rattle.js_grammar.specs.Marks.{EdgeOf, Mark, StandsAt, a_lexeme, the_end, the_start}
use Rattle.js_grammar.specs.Parsing.{Test, Admits, Fails, always, full, plain}
use Rattle.js_grammar.specs.Productions.{G, Flags, at, op, tok, Exponent, PrivateName, Shift}
use Rattle.js_grammar.specs.Productions.{sym as symbol}
use Rattle.js_grammar.specs.RightEdges.{of_operand}
use Rattle.js_grammar.specs.Settings.{Goal}
use Rattle.js_grammar.specs.Table.{rule}
use Rattle.js_grammar.proofs.Calculus.{Inside, On, ◌▹◌, fails_never, fails_node, fails_under, weaken_fails_on, where_true}
use Rattle.js_grammar.proofs.First.{starts}
use Rattle.js_grammar.proofs.FirstClaims.{firsts}
use Rattle.js_grammar.proofs.FirstRules.{fails_here}
use Rattle.js_grammar.proofs.Looks.{apart, covers, not_both}
use Rattle.js_grammar.proofs.OperatorEdges.{level_looser, tighter_level}
use Rattle.js_grammar.proofs.OperatorLoops.{operand_follow}
use Rattle.js_grammar.proofs.Operators.{levels, levels_lawful}
use Rattle.js_grammar.proofs.Towers.{Foot, of_level, topmost}
use Rattle.laws_shared.specs.js_cursor.Moves.{Expects, GivesUp, IsKind, is_last}
use Rattle.laws_shared.specs.js_cursor.Parsers.{Parser}
use Rattle.laws_shared.specs.js_cursor.Places.{goal}
use Rattle.laws_shared.specs.js_cursor.declared.stop.Stop.{Stop}
use Rattle.laws_shared.specs.js_tree.declared.id.NodeId.{NodeId}
use Rattle.laws_shared.specs.js_tree.Holding.{Holds, Keeps}
use Rattle.laws_shared.specs.js_tree.Nodes.{Node}
use Rattle.laws_shared.proofs.js_tree.HoldingLemmas.{Keeps-made, Keeps-trans}
use Rattle.laws_shared.specs.Answers.{Numbered, Stops, Stretch, Underived, beside}
use Rattle.laws_shared.specs.Classes.{EndsParse}
use Rattle.laws_shared.specs.Lexemes.{Lex, Plain}
use Rattle.laws_shared.specs.Moves.{MadeHere, Moved}
use Rattle.laws_shared.specs.Stands.{StandsHere}
use Rattle.laws_shared.specs.States.{At, Same}
use Rattle.laws_shared.specs.Told.{unrelated_at}
use Rattle.laws_shared.proofs.Expected.{not_due, unexpected}
use Rattle.laws_shared.proofs.Giving.{gives_up}
use Rattle.laws_shared.proofs.Here.{begins_here, found, kind_here, uncut}
use Rattle.laws_shared.proofs.MadeNodes.{made_lies, two_held}
use Rattle.laws_shared.proofs.Moving.{beside_nodes, same_both, same_with, stops_behind}
use Rattle.laws_shared.proofs.Paths.{Path, ◌⟶◌, ◌⟶✗◌, called, label_here, last_called, noded_by, token}
use Rattle.laws_shared.proofs.Verdicts.{grown_then, verdict_of}
use Rattle.laws_shared.proofs.Verdicts.{after as grown_behind}
use Rattle.laws_operators.specs.PrivateOperands.{private_in_label, tells_private}
use Rattle.laws_operators.proofs.Operations.{Operand, Ring, level_rows, looser_or}
use Rattle.laws_operators.proofs.PrivateLoops.{Unread, start_each, start_none}

-- ---- what is told

told_stands : (k : DiagnosticKind) (g : Goal) (t : List ℕ) (s : Span) → tells_private k ≡ true → EdgeOf g t s.start × EdgeOf g t s.end → StandsAt k g t s None None
told_stands UnexpectedPrivateIdentifier g t s h z = (z, (refl, refl))
told_stands PrivateInPrivate g t s h z = (z, (refl, refl))
told_stands _ g t s h z = absurd (false≢true h)

told_ends : (k : DiagnosticKind) (s : Span) → tells_private k ≡ true → EndsParse (unrelated_at k s)
told_ends UnexpectedPrivateIdentifier s h = refl
told_ends PrivateInPrivate s h = refl
told_ends _ s h = absurd (false≢true h)

-- what is told of a private name that stands here has its mark
pub private_marked : {text : List ℕ} {f : Flags} {p : Parser} (k : DiagnosticKind) (s : Span) → At text f p → p.token.kind ≡ PrivateIdentifier → tells_private k ≡ true → s ≡ p.token.span → Mark (goal p) p.text (unrelated_at k s)
private_marked {p = p} k s a e h i = subst (λ (v : Span). Mark (goal p) p.text (unrelated_at k v)) (sym i) it
  where
    it : Mark (goal p) p.text (unrelated_at k p.token.span)
    it =
        let y = found a (uncut a (ap (same_kind RAngle) e)) (ap is_last e) in
        let o = a_lexeme a.at.reached (subst (λ (t : List ℕ). NextLexeme all_faults t p.prev_token_end y.0) (sym a.text_is) y.1) in
        record {
          ordered = a.at.lies.ordered;
          within = a.at.lies.ends_whole.0;
          begins_between = a.at.lies.starts_whole;
          ends_between = a.at.lies.ends_whole;
          stands = told_stands k (goal p) p.text p.token.span h (the_start o (sym y.2.start), the_end o (sym y.2.end));
        }

pub private_stops : {text : List ℕ} {f : Flags} {F : Type 0} (k : DiagnosticKind) (p q : Parser) (e : Stop) → At text f p → tells_private k ≡ true → GivesUp (λ d. d ≡ unrelated_at k p.token.span) p q e → F → Stops p q e F
private_stops k p q e a h g x = gives_up (λ d. d ≡ unrelated_at k p.token.span) p q e a g (λ d i. subst EndsParse (sym i) (told_ends k p.token.span h)) x

-- ---- where a private name stands

abbrev a_private : Look
a_private k w e = same_kind PrivateIdentifier k

abbrev pub private_slots : Flags → G
private_slots f = symbol PrivateName f ▸ (tok In ▸ symbol Shift f)

-- behind the name and the operand may stand what may stand behind the operand
abbrev by_second : Flags → Slots → Look
by_second f (tree a ds (tree b cs end)) k w e = follow (at Shift f) (edge_of b cs) k w e
by_second f _ k w e = false

abbrev second : Flags → Test
second f = record { base = widest Shift; by = λ ts. by_second f ts }

inside_second : (f : Flags) (s : ℕ) → Inside rule (record { kind = private_in_expression; op = of In; flags = 0; extent = exact }) (after (at Shift f)) (second f) end (private_slots f) s
inside_second f s = record { ends = λ p cs vs j ls mid d e. go p cs vs d e }
  where
    go : (p : TreeSpan) (cs vs : Slots) {i j : ℕ} {ls mid : Lexemes} → Takes rule (private_slots f) end cs i ls end j mid → Admits (after (at Shift f)) (tree (record { kind = private_in_expression; op = of In; flags = 0; span = p }) cs vs) (here mid) → Admits (second f) cs (here mid)
    go p cs vs (is_seq (is_such a b) (is_seq (is_lexeme c) (is_such d e))) x = x

on_second : (f : Flags) (a : Label) (ds : Slots) (s : ℕ) → On rule (record { base = widest Shift; by = λ us. by_second f (tree a ds us) }) (after (at Shift f)) end (such (at Shift f) always) s
on_second f a ds s = record { admits = λ ts vs k ls rest d e. go ts vs d e }
  where
    go : (ts vs : Slots) {i k : ℕ} {ls rest : Lexemes} → Takes rule (such (at Shift f) always) end ts i ls vs k rest → Admits (record { base = widest Shift; by = λ us. by_second f (tree a ds us) }) ts (here rest) → Admits (after (at Shift f)) ts (here rest)
    go ts end (is_such d h) x = x
    go ts vs (is_such d h) x = absurd (false≢true x.1)

module _ {text : List ℕ} {f : Flags} {p : Parser} (a : At text f p) (h : p.token.kind ≡ PrivateIdentifier) where
  at_private : {X : Test} (g : G) → apart (starts first g X.base) a_private ≡ true → Fails rule (Lex text) X end g p.prev_token_end
  at_private {X} g c = fails_here firsts (λ y l t. not_both (starts first g X.base) a_private c y.kind y.newline y.escaped t (subst (λ (v : Kind). same_kind PrivateIdentifier v ≡ true) (sym (kind_here a h refl y l)) refl))

  -- no operand without operators
  no_operand : {X : Test} → Fails rule (Lex text) X end (such (at Exponent f) always) p.prev_token_end
  unfolding apart
  no_operand = at_private (such (at Exponent f) always) refl

  pub no_shift : Underived text (at Shift f) p.prev_token_end
  unfolding apart
  no_shift = at_private (such (at Shift f) always) refl

  -- what fails before a comparison's operators, or fails anyhow
  abbrev Foot' : ℕ → ℕ → G → Type 0
  Foot' m c g = Unread firsts (Lex text) (levels f) m (after (level_at f m)) p.prev_token_end c g

  anyhow : {m c : ℕ} {g : G} → Fails rule (Lex text) (plain full) end g p.prev_token_end → Foot' m c g
  anyhow n = record { test = plain full; fails = n; within = λ ts y e. (refl, refl); follows = record { goes = λ q x i ts y t. (refl, refl) } }

  no_foot : {m : ℕ} → Fails rule (Lex text) (after (at Shift f)) end (private_in f) p.prev_token_end → m ≤ 6 → Foot' m 6 (private_in f)
  no_foot {m} n i = record { test = after (level_at f 7); fails = n; within = tighter_level f m 7 (omega arith) (omega arith); follows = operand_follow f m 6 7 (omega arith) (inl (omega arith)) }

  other_foot : {m : ℕ} (q : ℕ) → q ≤ 9 → ((q ≡ 6) × (feet_at f q ≡ private_in f)) ⊎ Foot' m q (feet_at f q)
  other_foot zero i = inr (anyhow fails_never)
  other_foot (suc zero) i = inr (anyhow fails_never)
  other_foot (suc (suc zero)) i = inr (anyhow fails_never)
  other_foot (suc (suc (suc zero))) i = inr (anyhow fails_never)
  other_foot (suc (suc (suc (suc zero)))) i = inr (anyhow fails_never)
  other_foot (suc (suc (suc (suc (suc zero))))) i = inr (anyhow fails_never)
  other_foot (suc (suc (suc (suc (suc (suc zero)))))) i = inl (refl, refl)
  other_foot (suc (suc (suc (suc (suc (suc (suc k))))))) i = inr (anyhow fails_never)

  -- where `#x in ..` isn't read, nothing is
  pub private_fails : (m : ℕ) → m ≤ 10 → (m ≤ 6 → Fails rule (Lex text) (after (at Shift f)) end (private_in f) p.prev_token_end) → Underived text (level_at f m) p.prev_token_end
  private_fails (suc (suc (suc (suc (suc (suc (suc (suc (suc (suc n)))))))))) i n' = no_operand
  private_fails m i n = start_none firsts {w = levels f} {m = m} {X = after (level_at f m)} (levels_lawful f) refl (omega arith) each (λ l cs vs y e. e)
    where
      each : (c : ℕ) (g : G) → Foot (levels f) m c g → Foot' m c g
      each c g topmost = anyhow no_operand
      each c g (of_level {q = q} b d) = by (other_foot q d)
        where
          by : ((q ≡ 6) × (feet_at f q ≡ private_in f)) ⊎ Foot' m q (feet_at f q) → Foot' m q (feet_at f q)
          by (inl z) = subst (λ (k : ℕ). Foot' m k (feet_at f q)) (sym z.0) (subst (λ (g : G). Foot' m 6 g) (sym z.1) (no_foot (n (let j = z.0 in omega arith)) (let j = z.0 in omega arith)))
          by (inr z) = z

  -- no comparison may stand here
  pub private_misplaced : (m : ℕ) → m ≤ 10 → (m ≤ 6 → f.in_ ≡ false) → Underived text (level_at f m) p.prev_token_end
  private_misplaced m i n = private_fails m i (λ j. no_in f.in_ (n j))
    where
      never_when : {g : G} {ks ts vs : Slots} {i k : ℕ} {ls rest : Lexemes} → Takes rule (when false g) ks ts i ls vs k rest → ⊥
      never_when (is_when c d) = false≢true c

      no_in : (b : Bool) → b ≡ false → Fails rule (Lex text) (after (at Shift f)) end (when b (op private_in_expression In (private_slots f))) p.prev_token_end
      no_in b e = subst (λ (v : Bool). Fails rule (Lex text) (after (at Shift f)) end (when v (op private_in_expression In (private_slots f))) p.prev_token_end) (sym e) (record { no = λ ts vs k ls rest l d x. never_when d })

  -- by what the parser's context says
  abbrev pub Compares : ℕ → Bool → Type 0
  Compares least b = IsTrue b ↔ ((least ≤ 11) × (has_flag in_flag p.ctx ≡ true))

  pub misplaced_at : (least : ℕ) → 5 ≤ least → least ≤ 15 → {b : Bool} → Compares least b → b ≡ false → Underived text (level_at f (least - 5)) p.prev_token_end
  misplaced_at least l h {b} c n = private_misplaced (least - 5) (omega arith) (λ j. sym (ap (λ (g : Flags). g.in_) a.flags_are) ∙ go (has_flag in_flag p.ctx) refl (omega arith))
    where
      go : (i : Bool) → has_flag in_flag p.ctx ≡ i → least ≤ 11 → has_flag in_flag p.ctx ≡ false
      go true e j = absurd (false≢true (sym n ∙ c.1 (j, e)))
      go false e j = e

  pub allowed_at : (least : ℕ) {b : Bool} → Compares least b → b ≡ true → (least - 5 ≤ 6) × (f.in_ ≡ true)
  allowed_at least c t = let z = c.0 t in let j = z.0 in (omega arith, sym (ap (λ (g : Flags). g.in_) a.flags_are) ∙ z.1)

  -- the name was read
  module _ {q : Parser} {name : NodeId} (x : Numbered text f (at PrivateName f) p q name) where
    name_path : Path text f (second f) (private_slots f) p (tok In ▸ symbol Shift f) q (tree x.answer.label x.answer.slots)
    unfolding covers words
    name_path = called x.answer refl

    pub no_in_behind : (m : ℕ) → m ≤ 10 → StandsHere q In false → Underived text (level_at f m) p.prev_token_end
    no_in_behind m i s = private_fails m i (λ j. fails_under (fails_node (inside_second f p.prev_token_end) (name_path ⟶✗ not_due x.answer.at In refl s)))

    pub no_in_stops : (m : ℕ) → m ≤ 10 → (r : Parser) (e : Stop) → Expects (IsKind In) ExpectToken None q r (Err e) → Stops p r e (Underived text (level_at f m) p.prev_token_end)
    no_in_stops m i r e y = stops_behind r e x.answer.same (λ g. grown_behind x.answer.verdict g) (λ n. n) (unexpected x.answer.at In r e y (λ s. no_in_behind m i s))

    -- and `in` behind it
    module _ (s : StandsHere q In true) {r : Parser} (d : Moved text f q r) where
      word_path : Path text f (second f) (private_slots f) p (symbol Shift f) r (tree x.answer.label x.answer.slots)
      unfolding covers words
      word_path = name_path ⟶ token In x.answer.at s.0 s.1 refl d

      pub no_right : (m : ℕ) → m ≤ 10 → Underived text (at Shift f) r.prev_token_end → Underived text (level_at f m) p.prev_token_end
      no_right m i n = private_fails m i (λ j. fails_under (fails_node (inside_second f p.prev_token_end) (word_path ⟶✗ weaken_fails_on n (on_second f x.answer.label x.answer.slots r.prev_token_end))))

      pub right_stops : (m : ℕ) → m ≤ 10 → (v : Parser) (e : Stop) → Stops r v e (Underived text (at Shift f) r.prev_token_end) → Stops p v e (Underived text (level_at f m) p.prev_token_end)
      right_stops m i v e z = stops_behind v e (same_both x.answer.same d.same) (λ g. grown_behind x.answer.verdict (grown_then d.kept g)) (λ n. no_right m i n) z

      -- and an operand
      module _ {v : Parser} {right : NodeId} (y : Numbered text f (at Shift f) r v right) where
        operand_path : Path text f (after (at Shift f)) (op private_in_expression In (private_slots f)) p nothing v (tree (label_here private_in_expression (of In) p v) (tree x.answer.label x.answer.slots (tree y.answer.label y.answer.slots end)))
        operand_path = noded_by a (inside_second f p.prev_token_end) (word_path ⟶ last_called y.answer (on_second f x.answer.label x.answer.slots r.prev_token_end))

        forward : p.token.span.start < v.prev_token_end
        forward = operand_path.further

        abbrev slots : Slots
        slots = tree x.answer.label x.answer.slots (tree y.answer.label y.answer.slots end)

        row : of_operand (row_of (private_in_label p.token.span.start v.prev_token_end) slots) ≡ true
        row = sym (level_rows f 7 _) ∙ y.answer.row

        private_end : (z : Lexeme) → Plain text v.prev_token_end z → IsTrue (seen (looser 12 f.in_ (row_of (private_in_label p.token.span.start v.prev_token_end) slots)) z || seen beside z)
        private_end z l = subst (λ b. (b || seen beside z) ≡ true) (level_looser f 7 (tree y.answer.label y.answer.slots end) z (omega arith)) (y.answer.stops z l)

        ring : {m : ℕ} → m ≤ 6 → f.in_ ≡ true → Stretch text (after (at Shift f)) (op private_in_expression In (private_slots f)) p.prev_token_end nothing v.prev_token_end (tree (private_in_label p.token.span.start v.prev_token_end) slots) operand_path.pass → Ring text f m p.prev_token_end p.token.span.start 6 (private_in_label p.token.span.start v.prev_token_end) slots v.prev_token_end operand_path.pass
        ring {m} i b u = record {
          reach = max 0 u.reach;
          near = let j = u.near in omega arith;
          around = start_each firsts {w = levels f} {m = m} {X = after (level_at f m)} {X' = after (level_at f 7)} (levels_lawful f) (omega arith) (of_level {q = 6} i (omega arith)) (where_true b ▹ u.goes) others (tighter_level f m 7 (omega arith) (omega arith)) (operand_follow f m 6 7 (omega arith) (inl (omega arith))) (begins_here a);
        }
          where
            others : (c : ℕ) (g : G) → Foot (levels f) m c g → ((c ≡ 6) × (g ≡ private_in f)) ⊎ Foot' m c g
            others c g topmost = inr (anyhow no_operand)
            others c g (of_level {q = q} k j) = other_foot q j

        -- the node of both
        pub operand_private : {m : ℕ} → m ≤ 6 → f.in_ ≡ true → {w : Parser} {made : NodeId} → MadeHere (private_in_label p.token.span.start v.prev_token_end) (Some name ∷ Some right ∷ []) v w made → Operand text f m p w made
        operand_private {m} i b {w} {made} n = subst (λ (z : Parser). Operand text f m p z made) (sym n.stays) (record {
          at = beside_nodes w.nodes y.answer.at;
          same = same_with w.nodes same_so keeps_so (made_lies same_so y.answer.at.at (let j = forward in omega arith) n refl);
          further = forward;
          label = private_in_label p.token.span.start v.prev_token_end;
          slots = slots;
          row = row;
          pass = operand_path.pass;
          walked = operand_path.walked;
          cap = 6;
          low = omega arith;
          verdict = verdict_of operand_path.verdict (λ u. ring i b u) (λ z. private_fails m (omega arith) (λ j. fails_under z));
          stops = private_end;
          loose = λ z l. looser_or 12 15 (tight f.in_ (row_of (private_in_label p.token.span.start v.prev_token_end) slots) z.kind z.newline z.escaped) (seen beside z) (omega arith) (private_end z l);
          holds = two_held n x.holds x.keeps right_holds right_keeps;
          keeps = keeps_so;
        })
          where
            same_so : Same p v
            same_so = same_both x.answer.same (same_both d.same y.answer.same)

            right_holds : Holds v.nodes (length q.nodes) (length v.nodes) right.0 y.answer.label y.answer.slots
            right_holds = subst (λ (ns : List Node). Holds v.nodes (length ns) (length v.nodes) right.0 y.answer.label y.answer.slots) d.nodes y.holds

            right_keeps : Keeps q.nodes v.nodes
            right_keeps = subst (λ (ns : List Node). Keeps ns v.nodes) d.nodes y.keeps

            keeps_so : Keeps p.nodes w.nodes
            keeps_so = Keeps-trans x.keeps (Keeps-trans right_keeps (Keeps-made n.made))
