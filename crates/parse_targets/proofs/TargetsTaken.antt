-- A literal before `=`, as it was converted to a target (ECMA-262, 13.15.5).
use Rattle.std.proofs.Common.{ℕ, ◌≡◌, ◌≤◌, ◌<◌, ◌⊎◌, inl, inr, List, [], ◌∷◌, length, Bool, true, false, not, IsTrue, Option, Some, None, refl, sym, ap, subst, arith, ◌∙◌}
use Rattle.std.specs.Prelude.{IsCharBoundary, IsUtf8}
use Rattle.std.proofs.lemmas.Bool.{and_from}
use Rattle.js_base.specs.declared.diagnostic.Diagnostic.{Diagnostic}
use Rattle.js_base.specs.declared.kind.Kind.{Kind}
use Rattle.js_base.specs.declared.kind.Kind.TheVariants.{Eq, In, Of}
use Rattle.js_base.specs.declared.span.Span.{Span}
use Rattle.js_base.specs.Contexts.{has_flag, in_flag}
use Rattle.js_base.specs.Kinds.{one_of_kinds}
use Rattle.js_grammar.specs.Trees.{Label, Slots, end, tree, Tree}
use Rattle.js_grammar.specs.Grammar.{Lexeme, last, seen, such, nothing, Derives}
use Rattle.js_grammar.specs.Insertion.{Row, after_expression, assign_operators}
use Rattle.js_grammar.specs.Lexemes.{is_escaped}
use Rattle.js_grammar.specs.LexicalFaults.{Reached}
use Rattle.js_grammar.specs.Marks.{loose, Mark}
use Rattle.js_grammar.specs.Parsing.{always, Fails}
use Rattle.js_grammar.specs.Productions.{Flags, at, Short, Target}
use Rattle.js_grammar.specs.Table.{rule}
use Rattle.js_grammar.specs.Follow.{after, edge_of, follow, looser}
use Rattle.js_grammar.proofs.Looks.{covers, covered}
use Rattle.parse_shared.specs.js_tree.declared.id.NodeId.{NodeId}
use Rattle.parse_shared.specs.js_tree.Nodes.{Node}
use Rattle.parse_shared.specs.js_tree.Holding.{Holds, Keeps}
use Rattle.parse_shared.proofs.js_tree.HoldingLemmas.{Keeps-trans, Keeps-longer}
use Rattle.parse_shared.specs.js_cursor.Parsers.{Parser}
use Rattle.parse_shared.specs.js_cursor.Places.{goal}
use Rattle.parse_shared.specs.js_cursor.declared.stop.Stop.{Stop}
use Rattle.parse_shared.specs.laws_shared.Answers.{Grown, Numbered, Stops, Stretch, Underived, Verdict, clean, unclean, wider}
use Rattle.parse_shared.specs.laws_shared.Lexemes.{Lex, spot, is_read_kind}
use Rattle.parse_shared.specs.laws_shared.Stands.{StandsHere}
use Rattle.parse_targets.specs.Taken.{EndsTarget, PlacesTold, TargetTaken, behind_target, target_name, no_target_at, refusal_at}
use Rattle.parse_shared.specs.laws_shared.States.{At, Same, NodesLie}
use Rattle.parse_targets.specs.declared.widening.Widening.{Widening}
use Rattle.parse_targets.specs.declared.widening.Widening.TheVariants.{Rest}
use Rattle.parse_targets.specs.Targets.{Each, IsIn, Narrow, Fits, Spotted, Noted, unnoted, Blames, Slotted, Converts, Converted, converts, refuses, in_literal, is_object, is_literal, literal_kind, pattern_kind, relabelled, literal_tree, slot_of, elements_in, places_in, target_of}
use Rattle.js_base.specs.declared.diagnostic.DiagnosticKind.TheVariants.{SpreadLastElement}
use Rattle.parse_shared.specs.laws_shared.Told.{unrelated_at}
use Rattle.parse_targets.proofs.LiteralsAsTargets.{one_of_each}
use Rattle.parse_targets.proofs.PlacesTold.{spread_marked}
use Rattle.parse_targets.proofs.Refused.{literal_no_target}
use Rattle.parse_targets.proofs.ArraysBeforeSigns.{is_cover}
use Rattle.parse_targets.proofs.ArraysConverted.{signs, targets_follow, no_target_there, no_target_unread, target_there, ended_there, loose_there, spots_there, none_derived}
use Rattle.parse_targets.proofs.Assigned.{an_assign, assigns}
use Rattle.parse_targets.proofs.Refused.{no_target}
use Rattle.parse_targets.proofs.ConvertedNodes.{LiteralAnswer}
use Rattle.parse_targets.proofs.Covers.{lexed_there, no_simple_there, row_of_target, underived_there}
use Rattle.parse_shared.specs.js_cursor.Moves.{is_last}
use Rattle.parse_shared.proofs.laws_shared.Here.{found}
use Rattle.parse_shared.proofs.laws_shared.Moving.{beside_nodes, same_both, same_itself, same_with}
use Rattle.parse_shared.proofs.laws_shared.Paths.{read_of, walked_to}
use Rattle.parse_shared.proofs.laws_shared.Signs.{none_kept, plain_of}
use Rattle.parse_targets.proofs.Refused.{refused}
use Rattle.parse_targets.proofs.Targets.{kind_of_literal, of_short}
use Rattle.parse_targets.proofs.Answers.{held_of}
use Rattle.parse_shared.proofs.laws_shared.Verdicts.{either_way, grown_both, grown_then}
use Rattle.parse_shared.specs.laws_shared.Classes.{EndsParse}
use Rattle.parse_shared.specs.js_cursor.Moves.{GivesUp}

-- ---- what the conversion says

none_of : (l : Label) (r : Option Slots) → slot_of (literal_tree l r) ≡ None → r ≡ None
none_of l None e = refl
none_of l (Some ds) e = absurd (cc)

some_of : (l : Label) (r : Option Slots) (ts : Slots) → slot_of (literal_tree l r) ≡ Some ts → (ds : Slots) × (r ≡ Some ds) × (ts ≡ tree (relabelled (pattern_kind (is_object l.kind)) l) ds end)
some_of l (Some ds) ts e = (ds, refl, (let k : tree (relabelled (pattern_kind (is_object l.kind)) l) ds end ≡ ts = cc in sym k))
some_of l None ts e = absurd (cc)

-- an assignment operator may stand behind a target
assign_covered : (b : Bool) → covers an_assign (behind_target b) ≡ true
unfolding covers
assign_covered true = refl
assign_covered false = refl

-- What its places say of a target that a literal is: where targets are wide it is one whatever they are.
with_places : {K : Type 0} {p q r : List K} {C B N X Y : Type 0} (b : Bool) → Verdict (b ≡ true) p q C B → Verdict ⊥ q r N (N → ⊥) → (C → (b ≡ true) ⊎ N → X) → (B → Y) → (C → b ≡ false → (N → ⊥) → Y) → Verdict (b ≡ true) p r X Y
with_places {p = p} b (clean e c) (clean g n) t u w = clean (g ∙ e) (t c (inr n))
with_places {p = p} b (unclean a d) (clean g n) t u w = unclean (subst (λ (ds : List _). Grown p ds) (sym g) a) (u d)
with_places {p = p} b (wider i a c) (clean g n) t u w = wider i (subst (λ (ds : List _). Grown p ds) (sym g) a) (t c (inr n))
with_places true (clean e c) (unclean g n) t u w = wider refl (grown_then e g) (t c (inl refl))
with_places false (clean e c) (unclean g n) t u w = unclean (grown_then e g) (w c refl n)
with_places b (unclean a d) (unclean g n) t u w = unclean (grown_both a g) (u d)
with_places b (wider i a c) (unclean g n) t u w = wider i (grown_both a g) (t c (inl i))
with_places b v (wider x g n) t u w = elim x [ ]

pub assign_behind : (b : Bool) (y : Lexeme) → IsTrue (seen an_assign y) → IsTrue (seen (behind_target b) y)
assign_behind b y h = covered an_assign (behind_target b) (assign_covered b) y.kind y.newline y.escaped h

module _ {text : List ℕ} {f : Flags} {p q : Parser} {left : NodeId} (a : At text f p) (x : Numbered text f (at Short f) p q left) (c : q.cut ≡ false) (k : EndsTarget q) (h : is_literal x.answer.label.kind ≡ true) where
  shape : x.answer.label.kind ≡ literal_kind (is_object x.answer.label.kind)
  shape = kind_of_literal x.answer.label.kind h

  sign_there : (y : Lexeme) × Lex text q.prev_token_end y × IsTrue (seen (behind_target f.in_) y)
  sign_there = by k
    where
      equals : q.token.kind ≡ Eq → (y : Lexeme) × Lex text q.prev_token_end y × IsTrue (seen (behind_target f.in_) y)
      equals e =
          let u : one_of_kinds assign_operators q.token.kind ≡ true = subst (λ (v : Kind). one_of_kinds assign_operators v ≡ true) (sym e) refl in
          let g = assigns q.token.kind u in
          let z = found x.answer.at c g.no_end in
          let n : z.0.escaped ≡ false = plain_of q.token.kind z.1.word z.0.escaped (subst (λ (v : Kind). z.0.escaped ≡ is_escaped v z.1.word) (sym z.2.kind) z.1.escaped) g.unescaped in
          let r = read_of z.0 (sym z.2.kind) g.is_read in
          (z.0, (z.1, r), assign_behind f.in_ z.0 (and_from (one_of_kinds assign_operators z.0.kind) (not z.0.escaped) (subst (λ (v : Kind). one_of_kinds assign_operators v ≡ true) z.2.kind u) (ap not n)))

      word : (w : Kind) → is_last w ≡ false → is_read_kind w ≡ true → one_of_kinds (In ∷ Of ∷ assign_operators) w ≡ true → has_flag in_flag q.ctx ≡ false → StandsHere q w true → (y : Lexeme) × Lex text q.prev_token_end y × IsTrue (seen (behind_target f.in_) y)
      word w l r m n h =
          let z = found x.answer.at c (ap is_last h.0 ∙ l) in
          let kind : z.0.kind ≡ w = sym z.2.kind ∙ h.0 in
          let e : z.0.escaped ≡ false = sym z.2.escaped ∙ h.1 in
          let b : f.in_ ≡ false = sym (ap (λ (g : Flags). g.in_) x.answer.at.flags_are) ∙ n in
          (z.0, (z.1, read_of z.0 kind r), subst (λ (v : Bool). IsTrue (seen (behind_target v) z.0)) (sym b) (and_from (one_of_kinds (In ∷ Of ∷ assign_operators) z.0.kind) (not z.0.escaped) (ap (one_of_kinds (In ∷ Of ∷ assign_operators)) kind ∙ m) (ap not e)))

      by : EndsTarget q → (y : Lexeme) × Lex text q.prev_token_end y × IsTrue (seen (behind_target f.in_) y)
      by (inl e) = equals e
      by (inr (n, inl h)) = word In refl refl refl n h
      by (inr (n, inr h)) = word Of refl refl refl n h

  utf8_there : IsUtf8 text
  utf8_there = subst IsUtf8 a.text_is a.at.utf8

  reached_there : Reached text p.prev_token_end
  reached_there = subst (λ (v : List ℕ). Reached v p.prev_token_end) a.text_is a.at.reached

  between_there : IsCharBoundary text p.prev_token_end
  between_there = subst (λ (v : List ℕ). IsCharBoundary v p.prev_token_end) a.text_is a.at.between

  -- the literal is no target
  pub untargeted_marked : elements_in (in_literal (is_object x.answer.label.kind)) x.answer.slots ≡ None → (start : ℕ) → start ≡ p.token.span.start → length q.errors ≡ length p.errors → Mark (goal q) q.text (no_target_at start q.prev_token_end)
  untargeted_marked e start d n = subst (λ (v : List ℕ). Mark (goal q) v (no_target_at start q.prev_token_end)) (sym x.answer.at.text_is) it
    where
      y : Lexeme
      y = sign_there.0

      l : Lex text q.prev_token_end y
      l = sign_there.1

      z : Stretch text (after (at Short f)) (such (at Short f) always) p.prev_token_end nothing q.prev_token_end (tree x.answer.label x.answer.slots) x.answer.pass
      z = none_kept x.answer.verdict n

      follows : (m : Label) (cs : Slots) (t : Tree) → target_of m cs ≡ Some t → IsTrue (seen (follow (at Short f) (edge_of m cs)) y)
      follows m cs t g = subst (λ (r : Row). IsTrue (seen (looser 4 f.in_ r) y)) (sym (row_of_target m cs t g)) (covered (behind_target f.in_) (looser 4 f.in_ after_expression) (targets_follow f.in_) y.kind y.newline y.escaped sign_there.2)

      it : Mark (goal q) text (no_target_at start q.prev_token_end)
      it =
          let m = lexed_there x.answer a z y l in
          record {
            ordered = let i = x.answer.further in omega arith;
            within = (subst (λ (v : List ℕ). IsCharBoundary v q.prev_token_end) x.answer.at.text_is x.answer.at.at.between).0;
            begins_between = subst (λ (v : ℕ). IsCharBoundary text v) (sym d) (subst (λ (v : List ℕ). IsCharBoundary v p.token.span.start) a.text_is a.at.lies.starts_whole);
            ends_between = subst (λ (v : List ℕ). IsCharBoundary v q.prev_token_end) x.answer.at.text_is x.answer.at.at.between;
            stands = (inr (underived_there x.answer a z y l f Target (record { start = start; end = q.prev_token_end }) d refl (λ t g. no_target f (λ t g. none_derived (is_cover a) (is_object x.answer.label.kind) z shape e true y m sign_there.2 g) (λ t g. no_simple_there x.answer a z y l (of_short f) (literal_no_target x.answer.label x.answer.slots h) follows t g) (λ t g. none_derived (is_cover a) (is_object x.answer.label.kind) z shape e false y m sign_there.2 g) t g)), (refl, refl));
          }

  no_target_fails : elements_in (in_literal (is_object x.answer.label.kind)) x.answer.slots ≡ None → Fails rule (Lex text) (signs f) end (such (at (target_name (is_object x.answer.label.kind)) f) always) p.prev_token_end
  no_target_fails e = either_way x.answer.verdict (λ z. no_target_there (is_cover a) (is_object x.answer.label.kind) z shape (inl e)) (λ n. no_target_unread (is_object x.answer.label.kind) (is_cover a) n)

  -- ---- behind the conversion

  module _ {q1 : Parser} (e1 : q1 ≡ record q { nodes = q1.nodes }) where
    converted_at : At text f q1
    converted_at = subst (λ (z : Parser). At text f z) (sym e1) (beside_nodes q1.nodes x.answer.at)

  module _ {q1 : Parser} (e1 : q1 ≡ record q { nodes = q1.nodes }) {notes : Noted} where
    none_there : LiteralAnswer q.nodes q1.nodes left unnoted notes None → Keeps q.nodes q1.nodes × (elements_in (in_literal (is_object x.answer.label.kind)) x.answer.slots ≡ None) × Blames (places_in (in_literal (is_object x.answer.label.kind)) x.answer.slots) unnoted notes × ((text : List ℕ) → NodesLie text q.nodes → NodesLie text q1.nodes)
    none_there v = by (v x.answer.label x.answer.slots (x.holds).numbers (x.holds).stands (x.holds).distinct)
      where
        by : Converted q.nodes q1.nodes (x.holds).numbers unnoted notes (places_in (in_literal (is_object x.answer.label.kind)) x.answer.slots) None (slot_of (literal_tree x.answer.label (elements_in (in_literal (is_object x.answer.label.kind)) x.answer.slots))) → Keeps q.nodes q1.nodes × (elements_in (in_literal (is_object x.answer.label.kind)) x.answer.slots ≡ None) × Blames (places_in (in_literal (is_object x.answer.label.kind)) x.answer.slots) unnoted notes × ((text : List ℕ) → NodesLie text q.nodes → NodesLie text q1.nodes)
        by (refuses r) = (r.keeps, none_of x.answer.label (elements_in (in_literal (is_object x.answer.label.kind)) x.answer.slots) r.is, r.blames, r.lies)

    -- of whatever is told of it
    pub refused_marked : LiteralAnswer q.nodes q1.nodes left unnoted notes None → (start : ℕ) → start ≡ p.token.span.start → length q1.errors ≡ length p.errors → Mark (goal q1) q1.text (refusal_at start q1.prev_token_end notes.misplaced)
    refused_marked v start d n = by notes.misplaced (none_there v).2
      where
        m : length q.errors ≡ length p.errors
        m = subst (λ (z : Parser). length z.errors ≡ length p.errors) e1 n

        text_is : q1.text ≡ text
        text_is = ap (λ (z : Parser). z.text) e1 ∙ x.answer.at.text_is

        untargeted : Mark (goal q1) q1.text (no_target_at start q1.prev_token_end)
        untargeted = subst (λ (z : Parser). Mark (goal z) z.text (no_target_at start z.prev_token_end)) (sym e1) (untargeted_marked (none_there v).1 start d m)

        spread : (s : Span) → IsIn (places_in (in_literal (is_object x.answer.label.kind)) x.answer.slots) (Rest s) → Mark (goal q1) q1.text (unrelated_at SpreadLastElement s)
        spread s i = subst (λ (t : List ℕ). Mark (goal q1) t (unrelated_at SpreadLastElement s)) (sym text_is) (spread_marked (goal q1) s (one_of_each (Spotted text) (places_in (in_literal (is_object x.answer.label.kind)) x.answer.slots) (Rest s) i (spots_there (is_cover a) (is_object x.answer.label.kind) (none_kept x.answer.verdict m) shape utf8_there reached_there between_there sign_there.0 sign_there.1)))

        by : (o : Option Span) → (o ≡ None) ⊎ ((s : Span) × (o ≡ Some s) × IsIn (places_in (in_literal (is_object x.answer.label.kind)) x.answer.slots) (Rest s)) → Mark (goal q1) q1.text (refusal_at start q1.prev_token_end o)
        by None b = untargeted
        by (Some s) (inl e) = absurd (cc)
        by (Some s) (inr b) = let e : b.0 ≡ s = (let k : Some s ≡ Some b.0 = b.1 in cc) in spread s (subst (λ (t : Span). IsIn (places_in (in_literal (is_object x.answer.label.kind)) x.answer.slots) (Rest t)) e b.2)

    pub array_refusal : LiteralAnswer q.nodes q1.nodes left unnoted notes None → (w : Parser) (st : Stop) → GivesUp EndsParse q1 w st → Stops p w st (Fails rule (Lex text) (signs f) end (such (at (target_name (is_object x.answer.label.kind)) f) always) p.prev_token_end)
    array_refusal v w st r = refused {q = record q { nodes = q1.nodes }} w st (beside_nodes q1.nodes x.answer.at) (same_with q1.nodes x.answer.same (Keeps-trans x.keeps (none_there v).0) (λ b h. (none_there v).3 q.text h)) x.answer.verdict (subst (λ (z : Parser). GivesUp EndsParse z w st) e1 r) (no_target_fails (none_there v).1)

    module _ {target : NodeId} (v : LiteralAnswer q.nodes q1.nodes left unnoted notes (Some target)) where
      made : Converts q.nodes q1.nodes (x.holds).numbers unnoted notes (places_in (in_literal (is_object x.answer.label.kind)) x.answer.slots) (Some target ∷ []) (slot_of (literal_tree x.answer.label (elements_in (in_literal (is_object x.answer.label.kind)) x.answer.slots)))
      made = by (v x.answer.label x.answer.slots (x.holds).numbers (x.holds).stands (x.holds).distinct)
        where
          by : Converted q.nodes q1.nodes (x.holds).numbers unnoted notes (places_in (in_literal (is_object x.answer.label.kind)) x.answer.slots) (Some (Some target ∷ [])) (slot_of (literal_tree x.answer.label (elements_in (in_literal (is_object x.answer.label.kind)) x.answer.slots))) → Converts q.nodes q1.nodes (x.holds).numbers unnoted notes (places_in (in_literal (is_object x.answer.label.kind)) x.answer.slots) (Some target ∷ []) (slot_of (literal_tree x.answer.label (elements_in (in_literal (is_object x.answer.label.kind)) x.answer.slots)))
          by (converts r) = r

      parts : (ds : Slots) × (elements_in (in_literal (is_object x.answer.label.kind)) x.answer.slots ≡ Some ds) × (made.slots ≡ tree (relabelled (pattern_kind (is_object x.answer.label.kind)) x.answer.label) ds end)
      parts = some_of x.answer.label (elements_in (in_literal (is_object x.answer.label.kind)) x.answer.slots) made.slots made.is

      places_are : notes.places ≡ places_in (in_literal (is_object x.answer.label.kind)) x.answer.slots
      places_are = made.places_are

      told_text : q1.text ≡ text
      told_text = ap (λ (z : Parser). z.text) e1 ∙ x.answer.at.text_is

      -- its places, where nothing was told
      pub places_fit : length q.errors ≡ length p.errors → Each (Fits q1.text) notes.places
      places_fit n = subst (λ (t : List ℕ). Each (Fits t) notes.places) (sym told_text) (subst (λ (ws : List Widening). Each (Fits text) ws) (sym places_are) (ended_there (is_cover a) (is_object x.answer.label.kind) (none_kept x.answer.verdict n) shape parts.0 parts.1 utf8_there reached_there between_there sign_there.0 sign_there.1))

      pub places_spotted : length q.errors ≡ length p.errors → Each (Spotted q1.text) notes.places
      places_spotted n = subst (λ (t : List ℕ). Each (Spotted t) notes.places) (sym told_text) (subst (λ (ws : List Widening). Each (Spotted text) ws) (sym places_are) (spots_there (is_cover a) (is_object x.answer.label.kind) (none_kept x.answer.verdict n) shape utf8_there reached_there between_there sign_there.0 sign_there.1))

      target_held : Holds q1.nodes (length p.nodes) (length q1.nodes) target.0 (relabelled (pattern_kind (is_object x.answer.label.kind)) x.answer.label) parts.0
      target_held = held_of (x.holds).within (Keeps-longer x.keeps) (Keeps-longer made.keeps) (subst (λ (ts : Slots). Slotted q.nodes q1.nodes (x.holds).numbers (Some target ∷ []) ts) parts.2 made.slotted)

      -- with a verdict of the state behind
      taken : {r : Parser} → r ≡ record q1 { errors = r.errors } → At text f r → Same q1 r → Verdict (f.wide ≡ true) p.errors r.errors (Stretch text (signs f) (such (at (target_name (is_object x.answer.label.kind)) f) always) p.prev_token_end nothing q.prev_token_end (tree (relabelled (pattern_kind (is_object x.answer.label.kind)) x.answer.label) parts.0) x.answer.pass) (Fails rule (Lex text) (signs f) end (such (at (target_name (is_object x.answer.label.kind)) f) always) p.prev_token_end) → TargetTaken (is_object x.answer.label.kind) text f p q r target
      taken {r} e b s g =
          let place : r.prev_token_end ≡ q.prev_token_end = ap (λ (z : Parser). z.prev_token_end) e ∙ ap (λ (z : Parser). z.prev_token_end) e1 in
          let same : Same p q1 = subst (λ (z : Parser). Same p z) (sym e1) (same_with q1.nodes x.answer.same (Keeps-trans x.keeps made.keeps) (λ b h. made.lies q.text h)) in
          let nodes : r.nodes ≡ q1.nodes = ap (λ (z : Parser). z.nodes) e in
          record {
            stands_at = b;
            same = same_both same s;
            token = ap (λ (z : Parser). z.token) e ∙ ap (λ (z : Parser). z.token) e1;
            cut = ap (λ (z : Parser). z.cut) e ∙ ap (λ (z : Parser). z.cut) e1;
            place = place;
            label = relabelled (pattern_kind (is_object x.answer.label.kind)) x.answer.label;
            slots = parts.0;
            pass = x.answer.pass;
            walked = walked_to (sym (ap spot e ∙ ap spot e1)) x.answer.walked;
            loosely = λ n y l. subst (λ (v : ℕ). Derives rule (at (target_name (is_object x.answer.label.kind)) (loose f)) (record { label = relabelled (pattern_kind (is_object x.answer.label.kind)) x.answer.label; slots = parts.0 }) p.prev_token_end (x.answer.pass (last y)) v (last y)) (sym place) (loose_there (is_cover a) (is_object x.answer.label.kind) (none_kept x.answer.verdict n) shape parts.0 parts.1 utf8_there reached_there between_there y (subst (λ (v : ℕ). Lex text v y) place l));
            verdict = subst (λ (v : ℕ). Verdict (f.wide ≡ true) p.errors r.errors (Stretch text (signs f) (such (at (target_name (is_object x.answer.label.kind)) f) always) p.prev_token_end nothing v (tree (relabelled (pattern_kind (is_object x.answer.label.kind)) x.answer.label) parts.0) x.answer.pass) (Fails rule (Lex text) (signs f) end (such (at (target_name (is_object x.answer.label.kind)) f) always) p.prev_token_end)) (sym place) g;
            holds = subst (λ (ns : List Node). Holds ns (length p.nodes) (length ns) target.0 (relabelled (pattern_kind (is_object x.answer.label.kind)) x.answer.label) parts.0) (sym nodes) target_held;
            keeps = subst (λ (ns : List Node). Keeps p.nodes ns) (sym nodes) (Keeps-trans x.keeps made.keeps);
          }

      -- its places were looked at
      pub taken_told : {r : Parser} → PlacesTold notes.places q1 r → TargetTaken (is_object x.answer.label.kind) text f p q r target
      taken_told {r} t = taken t.is (t.at text f (converted_at e1)) t.same (with_places f.wide x.answer.verdict (subst (λ (ds : List Diagnostic). Verdict ⊥ ds r.errors (Each (Narrow text) (places_in (in_literal (is_object x.answer.label.kind)) x.answer.slots)) (Each (Narrow text) (places_in (in_literal (is_object x.answer.label.kind)) x.answer.slots) → ⊥)) (ap (λ (z : Parser). z.errors) e1) it)
          (λ z o. target_there (is_cover a) (is_object x.answer.label.kind) z shape parts.0 parts.1 utf8_there reached_there between_there o) (λ n. no_target_unread (is_object x.answer.label.kind) (is_cover a) n) (λ z w n. no_target_there (is_cover a) (is_object x.answer.label.kind) z shape (inr (w, n))))
        where
          it : Verdict ⊥ q1.errors r.errors (Each (Narrow text) (places_in (in_literal (is_object x.answer.label.kind)) x.answer.slots)) (Each (Narrow text) (places_in (in_literal (is_object x.answer.label.kind)) x.answer.slots) → ⊥)
          it = subst (λ (ws : List Widening). Verdict ⊥ q1.errors r.errors (Each (Narrow text) ws) (Each (Narrow text) ws → ⊥)) places_are (subst (λ (v : List ℕ). Verdict ⊥ q1.errors r.errors (Each (Narrow v) notes.places) (Each (Narrow v) notes.places → ⊥)) told_text t.verdict)

      -- a diagnostic was kept before
      pub taken_kept : (length q1.errors ≡ length p.errors → ⊥) → TargetTaken (is_object x.answer.label.kind) text f p q q1 target
      taken_kept n = taken refl (converted_at e1) same_itself (by x.answer.verdict)
        where
          by : Verdict (f.wide ≡ true) p.errors q.errors (Stretch text (after (at Short f)) (such (at Short f) always) p.prev_token_end nothing q.prev_token_end (tree x.answer.label x.answer.slots) x.answer.pass) (Underived text (at Short f) p.prev_token_end) → Verdict (f.wide ≡ true) p.errors q1.errors (Stretch text (signs f) (such (at (target_name (is_object x.answer.label.kind)) f) always) p.prev_token_end nothing q.prev_token_end (tree (relabelled (pattern_kind (is_object x.answer.label.kind)) x.answer.label) parts.0) x.answer.pass) (Fails rule (Lex text) (signs f) end (such (at (target_name (is_object x.answer.label.kind)) f) always) p.prev_token_end)
          by (clean g z) = absurd (n (ap (λ (w : Parser). length w.errors) e1 ∙ ap length g))
          by (unclean g u) = unclean (subst (λ (ds : List Diagnostic). Grown p.errors ds) (sym (ap (λ (z : Parser). z.errors) e1)) g) (no_target_unread (is_object x.answer.label.kind) (is_cover a) u)
          by (wider w g z) = wider w (subst (λ (ds : List Diagnostic). Grown p.errors ds) (sym (ap (λ (z : Parser). z.errors) e1)) g) (target_there (is_cover a) (is_object x.answer.label.kind) z shape parts.0 parts.1 utf8_there reached_there between_there (inl w))
