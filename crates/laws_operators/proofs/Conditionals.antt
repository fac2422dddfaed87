-- Conditional expressions (ECMA-262, 13.14), and an AssignmentExpression that is none.
use Rattle.js_base.proofs.KindLemmas.{kind_of_same}
use Rattle.laws_shared.proofs.Signs.{plain_sign, other_kind}
use Rattle.std.proofs.Common.{ℕ, ◌≡◌, ◌≤◌, List, [], ◌∷◌, length, Bool, true, false, not, ◌&&◌, ◌||◌, IsTrue, Some, None, refl, sym, ap, subst, arith, ◌∙◌}
use Rattle.std.specs.Prelude.{Err}
use Rattle.std.proofs.lemmas.Bool.{false≢true, and_from, and_parts}
use Rattle.js_base.specs.declared.kind.Kind.{Kind}
use Rattle.js_base.specs.declared.kind.Kind.TheVariants.{Question, Colon, Undetermined, RegExp}
use Rattle.js_base.specs.declared.span.Span.{Span}
use Rattle.js_base.specs.Kinds.{same_kind, one_of_kinds}
use Rattle.js_grammar.specs.Trees.{Span as TreeSpan, Slots, end, tree, Label, no_op, conditional_expression}
use Rattle.js_grammar.specs.Grammar.{Lexeme, Lexemes, Look, here, seen, such, nothing, exact, is_seq, is_lexeme, is_such, alt, Takes, ◌▸◌}
use Rattle.js_grammar.specs.Insertion.{Row, after_expression, after_postfix, after_body, after_yield, after_declarator, after_word, assign_operators}
use Rattle.js_grammar.specs.Parsing.{Test, always, Admits, Goes, Fails, still}
use Rattle.js_grammar.specs.Productions.{G, Flags, at, tok, mk, plus_in, Assignment, Conditional, Short}
use Rattle.js_grammar.specs.Productions.{sym as symbol}
use Rattle.js_grammar.specs.Table.{rule, rule_of}
use Rattle.js_grammar.specs.Follow.{edge_of, row_of, follow, after, looser, widest}
use Rattle.js_grammar.proofs.Looks.{covers, covered, apart}
use Rattle.js_grammar.proofs.Calculus.{On, Inside, inside_full, ◌▹✗◌, left, right, fails_alt, fails_node, fails_rule, fails_nothing, part_fails, weaken_fails_on}
use Rattle.js_grammar.proofs.FirstClaims.{firsts}
use Rattle.js_grammar.proofs.FirstRules.{by_first}
use Rattle.js_grammar.proofs.FollowLaws.{passes_on, surely, same_read, fails_by}
use Rattle.js_grammar.proofs.Finding.{contrary}
use Rattle.laws_shared.specs.js_tree.declared.id.NodeId.{NodeId}
use Rattle.laws_shared.specs.js_tree.declared.kind.NodeKind.TheVariants as node
use Rattle.laws_shared.specs.js_tree.declared.op.Op.TheVariants as op
use Rattle.laws_shared.specs.js_tree.Nodes.{Node}
use Rattle.laws_shared.specs.js_tree.Holding.{Holds, Keeps}
use Rattle.laws_shared.proofs.js_tree.HoldingLemmas.{HoldsAll-two, HoldsAll-next, Keeps-trans, Keeps-made}
use Rattle.laws_shared.specs.js_cursor.Parsers.{Parser}
use Rattle.laws_shared.specs.js_cursor.Moves.{at_lexeme}
use Rattle.laws_shared.specs.js_cursor.declared.stop.Stop.{Stop}
use Rattle.laws_shared.specs.js_cursor.declared.stop.Stop.TheVariants.{Fatal, NoMemory}
use Rattle.js_base.specs.declared.diagnostic.DiagnosticKind.TheVariants as fault
use Rattle.js_base.specs.declared.source_type.SourceType.{SourceType}
use Rattle.js_grammar.specs.LexicalFaults.{Reached}
use Rattle.js_grammar.specs.Lexed.{NextLexeme, all_faults}
use Rattle.js_grammar.specs.Marks.{Mark, LexemeAt, a_lexeme, of_kinds}
use Rattle.js_grammar.specs.RightEdges.{of_operand}
use Rattle.laws_shared.specs.js_lex.States.{goal_of}
use Rattle.laws_shared.specs.js_cursor.Places.{IsAt, goal}
use Rattle.laws_shared.proofs.js_cursor.Standing.{mark_here}
use Rattle.laws_operators.specs.Rests.{Asked, OnlyOperand}
use Rattle.laws_shared.specs.Moves.{Passes}
use Rattle.laws_shared.proofs.Giving.{gives_up}
use Rattle.laws_shared.specs.Lexemes.{Lex, Plain, other_goals}
use Rattle.laws_operators.proofs.OnePlace.{brace_stands}
use Rattle.laws_shared.specs.States.{At, Same}
use Rattle.laws_shared.specs.Moves.{Moved, MadeHere, plain_label}
use Rattle.laws_shared.specs.Answers.{Underived, Answer, Numbered, Stops, beside}
use Rattle.parse_targets.proofs.Assigned.{an_assign, unassigned, nothing_assigned, assign_plain}
use Rattle.laws_shared.proofs.Here.{kind_here, told_plain}
use Rattle.laws_shared.proofs.MadeNodes.{node_held, one_lies}
use Rattle.laws_shared.proofs.Moving.{same_both}
use Rattle.laws_patterns.proofs.laws_primary.Operands.{by_path}
use Rattle.laws_shared.proofs.Paths.{Path, ◌⟼◌, ◌⟶◌, ◌⟶✗◌, fails_at, not_here, token, called, last_called, noded_by, by_symbol_as, label_here}
use Rattle.laws_shared.proofs.Phrases.{lift, lift_fails, narrow_operand, operand_assigned}
use Rattle.laws_shared.proofs.Escapes.{read_listed, read_plain}
use Rattle.laws_shared.proofs.Tight.{narrows, plain_lex, plain_so}
use Rattle.laws_shared.proofs.PlainSigns.{question_plain, colon_plain}
use Rattle.laws_shared.specs.Classes.{EndsParse}

-- none of these kinds stands here
pub none_here : {text : List ℕ} {f : Flags} {p : Parser} (ks : List Kind) → At text f p → (y : Lexeme) → (one_of_kinds ks y.kind ≡ true → ⊥) → one_of_kinds ks y.kind ≡ false
none_here ks a y n = go (one_of_kinds ks y.kind) refl
  where
    go : (b : Bool) → one_of_kinds ks y.kind ≡ b → one_of_kinds ks y.kind ≡ false
    go true e = absurd (n e)
    go false e = e

-- ---- the slots of a conditional expression

abbrev branches_behind : Flags → G
branches_behind f = tok Question ▸ symbol Assignment (plus_in f) ▸ tok Colon ▸ symbol Assignment f

abbrev conditional_slots : Flags → G
conditional_slots f = symbol Short f ▸ branches_behind f

abbrev conditional_part : Flags → G
conditional_part f = mk conditional_expression (conditional_slots f)

conditional_line : (f : Flags) → rule (at Conditional f) ≡ alt (such (at Short f) always) (conditional_part f)
unfolding rule rule_of
conditional_line f = refl

-- behind three slots may stand what may stand behind the third one
abbrev by_third : Flags → Slots → Look
by_third f (tree a ds (tree b es (tree c cs end))) k w e = follow (at Assignment f) (edge_of c cs) k w e
by_third f _ k w e = false

abbrev third : Flags → Test
third f = record { base = widest Assignment; by = λ ts. by_third f ts }

inside_third : (f : Flags) (s : ℕ) → Inside rule (record { kind = conditional_expression; op = no_op; flags = 0; extent = exact }) (after (at Assignment f)) (third f) end (conditional_slots f) s
inside_third f s = record { ends = λ p cs vs j ls mid d e. go p cs vs d e }
  where
    go : (p : TreeSpan) (cs vs : Slots) {i j : ℕ} {ls mid : Lexemes} → Takes rule (conditional_slots f) end cs i ls end j mid → Admits (after (at Assignment f)) (tree (record { kind = conditional_expression; op = no_op; flags = 0; span = p }) cs vs) (here mid) → Admits (third f) cs (here mid)
    go p cs vs (is_seq (is_such a b) (is_seq (is_lexeme c) (is_seq (is_such d e) (is_seq (is_lexeme g) (is_such h i))))) x = x

on_third : (f : Flags) (a b : Label) (ds es : Slots) (s : ℕ) → On rule (record { base = widest Assignment; by = λ us. by_third f (tree a ds (tree b es us)) }) (after (at Assignment f)) end (such (at Assignment f) always) s
on_third f a b ds es s = record { admits = λ ts vs k ls rest d e. go ts vs d e }
  where
    go : (ts vs : Slots) {i k : ℕ} {ls rest : Lexemes} → Takes rule (such (at Assignment f) always) end ts i ls vs k rest → Admits (record { base = widest Assignment; by = λ us. by_third f (tree a ds (tree b es us)) }) ts (here rest) → Admits (after (at Assignment f)) ts (here rest)
    go ts end (is_such d h) x = x
    go ts vs (is_such d h) x = absurd (false≢true x.1)

-- ---- which of the two it is

-- a `?` may stand behind the test, and not behind an AssignmentExpression that is an operand
abbrev a_question : Look
a_question k w e = same_kind Question k && not e

question_binds : (b : Bool) (r : Row) → of_operand r ≡ true → covers a_question (λ k w e. not (looser 2 b r k w e)) ≡ true
unfolding covers
question_binds true after_expression h = refl
question_binds true after_postfix h = refl
question_binds false after_expression h = refl
question_binds false after_postfix h = refl
question_binds b after_body h = absurd (false≢true h)
question_binds b after_yield h = absurd (false≢true h)
question_binds b after_declarator h = absurd (false≢true h)
question_binds b after_word h = absurd (false≢true h)

short_passes : passes_on Assignment Short ≡ true
unfolding covers
short_passes = refl

-- the test alone
short_none : {text : List ℕ} {f : Flags} {s : ℕ} → Underived text (at Short f) s → Goes rule (Lex text) (after (at Conditional f)) end (rule (at Conditional f)) s (such (at Short f) always) s (λ us. us) (still 0)
unfolding rule rule_of covers
short_none {f = f} x = left (fails_node inside_full (part_fails x (by_first firsts (surely (at Short f)) refl)))

conditional_passes : passes_on Assignment Conditional ≡ true
unfolding covers
conditional_passes = refl

pub conditional_none : {text : List ℕ} (f : Flags) {s : ℕ} → Underived text (at Short f) s → Fails rule (Lex text) (after (at Assignment f)) end (such (at Conditional f) always) s
unfolding covers
conditional_none {text} f {s} x = weaken_fails_on (lift_fails (at Conditional f) (at Short f) refl refl text s (short_none x) x) (same_read (at Assignment f) (at Conditional f) conditional_passes refl)

pub test_none : {text : List ℕ} (f : Flags) {s : ℕ} → f.cover ≡ true → OnlyOperand text f s → Underived text (at Short f) s → Underived text (at Assignment f) s
unfolding covers
test_none {text} f {s} v a x = lift_fails (at Assignment f) (at Conditional f) refl refl text s (nothing_assigned f v a x) (lift_fails (at Conditional f) (at Short f) refl refl text s (short_none x) x)

module _ {text : List ℕ} {f : Flags} {p q : Parser} (x : Answer text f (at Short f) p q) where
  no_branches : one_of_kinds (Question ∷ []) q.token.kind ≡ false → Goes rule (Lex text) (after (at Conditional f)) end (rule (at Conditional f)) p.prev_token_end (such (at Short f) always) p.prev_token_end (λ us. us) (still 0)
  unfolding rule rule_of covers apart
  no_branches n = left (fails_node inside_full (called x refl ⟶✗ fails_at x.at (branches_behind f) (Question ∷ []) refl n))

  behind_test : one_of_kinds (Question ∷ []) q.token.kind ≡ false → (y : Lexeme) → Plain text q.prev_token_end y → IsTrue (seen (looser 3 f.in_ (row_of x.label x.slots)) y || seen beside y)
  unfolding covers apart
  behind_test n y l = narrows 4 3 (Question ∷ []) f.in_ (row_of x.label x.slots) (narrow_operand 4 3 (Question ∷ []) refl refl refl refl f.in_ (row_of x.label x.slots) x.row) y l.1 (none_here (Question ∷ []) x.at y (λ h. not_here x.at (Question ∷ []) refl n y (plain_lex l) h)) (x.stops y l)

  behind_alone : one_of_kinds (Question ∷ []) q.token.kind ≡ false → ((y : Lexeme) → Lex text q.prev_token_end y → IsTrue (seen an_assign y) → ⊥) → (y : Lexeme) → Plain text q.prev_token_end y → IsTrue (seen (looser 2 f.in_ (row_of x.label x.slots)) y || seen beside y)
  unfolding covers
  behind_alone n z y l = narrows 3 2 assign_operators f.in_ (row_of x.label x.slots) (narrow_operand 3 2 assign_operators refl refl refl refl f.in_ (row_of x.label x.slots) x.row) y l.1 (none_here assign_operators x.at y (λ h. z y (plain_lex l) (and_from _ _ h (ap not (read_listed assign_operators y (plain_lex l) h refl))))) (behind_test n y l)

  -- a `?` is no assignment operator
  no_sign : q.token.kind ≡ Question → (y : Lexeme) → Lex text q.prev_token_end y → IsTrue (seen an_assign y) → ⊥
  no_sign e y l s = false≢true (subst (λ (k : Kind). one_of_kinds assign_operators k ≡ true) (kind_here x.at e refl y l) (and_parts (one_of_kinds assign_operators y.kind) (not y.escaped) s).0)

  -- where a `?` stands behind the test
  no_end : q.token.kind ≡ Question → Fails rule (Lex text) (record { base = widest Assignment; by = λ us. follow (at Assignment f) (edge_of x.label x.slots) }) end nothing q.prev_token_end
  no_end e = fails_nothing (λ ts y l h. no y l h.1)
    where
      asked : (y : Lexeme) → Lex text q.prev_token_end y → (same_kind Question y.kind && not y.escaped) ≡ true
      asked y l = let k = kind_here x.at e refl y l in rw (k, read_plain y l k refl) refl

      no : (y : Lexeme) → Lex text q.prev_token_end y → IsTrue (seen (looser 2 f.in_ (row_of x.label x.slots)) y) → ⊥
      no y l h = contrary (seen (looser 2 f.in_ (row_of x.label x.slots)) y) (covered a_question (λ k w e. not (looser 2 f.in_ (row_of x.label x.slots) k w e)) (question_binds f.in_ (row_of x.label x.slots) x.row) y.kind y.newline y.escaped (asked y l)) h

  branches_only : q.token.kind ≡ Question → Goes rule (Lex text) (after (at Assignment f)) end (rule (at Conditional f)) p.prev_token_end (conditional_part f) p.prev_token_end (λ us. us) (still 0)
  unfolding rule rule_of
  branches_only e = right (last_called x (same_read (at Assignment f) (at Short f) short_passes refl) ⟶✗ no_end e)

  wrapped : {w : Parser} {l : Label} {cs : Slots} → OnlyOperand text f p.prev_token_end → q.token.kind ≡ Question → Path text f (after (at Assignment f)) (conditional_part f) p nothing w (tree l cs) → Path text f (after (at Assignment f)) (rule (at Assignment f)) p nothing w (tree l cs)
  wrapped na e r = unassigned na x (no_sign e) ⟼ by_symbol_as (λ l cs vs y d. d) (branches_only e ⟼ r)

  wrapped_fails : OnlyOperand text f p.prev_token_end → q.token.kind ≡ Question → Fails rule (Lex text) (third f) end (conditional_slots f) p.prev_token_end → Underived text (at Assignment f) p.prev_token_end
  wrapped_fails na e n = fails_by (unassigned na x (no_sign e) ▹✗ fails_rule {X' = after (at Assignment f)} (λ l cs vs y d. d) (branches_only e ▹✗ fails_node (inside_third f p.prev_token_end) n))

  module _ {r : Parser} (na : OnlyOperand text f p.prev_token_end) (e : q.token.kind ≡ Question) (m : Moved text f q r) where
    asked : Path text f (third f) (conditional_slots f) p (symbol Assignment (plus_in f) ▸ tok Colon ▸ symbol Assignment f) r (tree x.label x.slots)
    unfolding covers
    asked = called x refl ⟶ token Question x.at e (plain_sign Question x.at e refl refl question_plain) refl m

    -- the first branch can't be read
    pub first_fails : Underived text (at Assignment (plus_in f)) r.prev_token_end → Underived text (at Assignment f) p.prev_token_end
    unfolding covers
    first_fails n = wrapped_fails na e (asked ⟶✗ part_fails n (by_first firsts (surely (at Assignment (plus_in f))) refl))

    module _ {u : Parser} (c : Answer text f (at Assignment (plus_in f)) r u) where
      first_read : Path text f (third f) (conditional_slots f) p (tok Colon ▸ symbol Assignment f) u (λ us. tree x.label x.slots (tree c.label c.slots us))
      unfolding covers
      first_read = asked ⟶ called c refl

      -- no colon stands behind it
      pub colon_fails : one_of_kinds (Colon ∷ []) u.token.kind ≡ false → Underived text (at Assignment f) p.prev_token_end
      unfolding covers apart
      colon_fails n = wrapped_fails na e (first_read ⟶✗ fails_at c.at (tok Colon ▸ symbol Assignment f) (Colon ∷ []) refl n)

      module _ {v : Parser} (k : u.token.kind ≡ Colon) (d : Moved text f u v) where
        colon_passed : Path text f (third f) (conditional_slots f) p (symbol Assignment f) v (λ us. tree x.label x.slots (tree c.label c.slots us))
        colon_passed = first_read ⟶ token Colon c.at k (plain_sign Colon c.at k refl refl colon_plain) refl d

        pub second_fails : Underived text (at Assignment f) v.prev_token_end → Underived text (at Assignment f) p.prev_token_end
        second_fails n = wrapped_fails na e (colon_passed ⟶✗ weaken_fails_on n (on_third f x.label c.label x.slots c.slots v.prev_token_end))

        conditional_path : {w : Parser} → At text f p → (y : Answer text f (at Assignment f) v w) → Path text f (after (at Assignment f)) (rule (at Assignment f)) p nothing w (tree (label_here conditional_expression no_op p w) (tree x.label x.slots (tree c.label c.slots (tree y.label y.slots end))))
        conditional_path a y = wrapped na e (noded_by a (inside_third f p.prev_token_end) (colon_passed ⟶ last_called y (on_third f x.label c.label x.slots c.slots v.prev_token_end)))

-- before an assignment operator it is none
assign_binds : (b : Bool) (r : Row) → of_operand r ≡ true → covers an_assign (λ k w e. not (looser 2 b r k w e)) ≡ true
unfolding covers
assign_binds true after_expression h = refl
assign_binds true after_postfix h = refl
assign_binds false after_expression h = refl
assign_binds false after_postfix h = refl
assign_binds b after_body h = absurd (false≢true h)
assign_binds b after_yield h = absurd (false≢true h)
assign_binds b after_declarator h = absurd (false≢true h)
assign_binds b after_word h = absurd (false≢true h)

-- nor before a regular expression, which counts as the division sign
abbrev a_pattern : Look
a_pattern k w e = same_kind RegExp k && not e

pattern_binds : (b : Bool) (r : Row) → of_operand r ≡ true → covers a_pattern (λ k w e. not (looser 2 b r k w e)) ≡ true
unfolding covers
pattern_binds true after_expression h = refl
pattern_binds true after_postfix h = refl
pattern_binds false after_expression h = refl
pattern_binds false after_postfix h = refl
pattern_binds b after_body h = absurd (false≢true h)
pattern_binds b after_yield h = absurd (false≢true h)
pattern_binds b after_declarator h = absurd (false≢true h)
pattern_binds b after_word h = absurd (false≢true h)

pub no_conditional : {text : List ℕ} {f : Flags} {p q : Parser} → Answer text f (at Short f) p q → one_of_kinds (Question ∷ []) q.token.kind ≡ false → ((y : Lexeme) → Plain text q.prev_token_end y → IsTrue (seen an_assign y)) → Fails rule (Lex text) (after (at Assignment f)) end (such (at Conditional f) always) p.prev_token_end
unfolding rule rule_of covers apart
no_conditional {text} {f} {p} {q} x n s = fails_rule {X' = after (at Assignment f)} (λ l cs vs y d. d) (fails_alt (last_called x (same_read (at Assignment f) (at Short f) short_passes refl) ⟶✗ fails_nothing (λ ts y l h. no y l h.1)) (fails_node inside_full (called x refl ⟶✗ fails_at x.at (branches_behind f) (Question ∷ []) refl n)))
  where
    no : (y : Lexeme) → Lex text q.prev_token_end y → IsTrue (seen (looser 2 f.in_ (row_of x.label x.slots)) y) → ⊥
    no y l h = by (one_of_kinds other_goals y.kind) refl
      where
        -- a template part begins with a brace by the plain goal, which is no operator
        no_part : one_of_kinds other_goals y.kind ≡ true → same_kind RegExp y.kind ≡ false → ⊥
        no_part o n = let z = brace_stands l o n in false≢true (ap (one_of_kinds assign_operators) (sym z.2) ∙ (and_parts (one_of_kinds assign_operators z.0.kind) _ (s z.0 z.1)).0)

        of_another : (b : Bool) → same_kind RegExp y.kind ≡ b → one_of_kinds other_goals y.kind ≡ true → ⊥
        of_another true e o = contrary (seen (looser 2 f.in_ (row_of x.label x.slots)) y) (covered a_pattern (λ k w e. not (looser 2 f.in_ (row_of x.label x.slots) k w e)) (pattern_binds f.in_ (row_of x.label x.slots) x.row) y.kind y.newline y.escaped (and_from _ _ e (ap not (read_plain y l (sym (kind_of_same RegExp y.kind e)) refl)))) h
        of_another false e o = no_part o e

        by : (b : Bool) → one_of_kinds other_goals y.kind ≡ b → ⊥
        by false e = contrary (seen (looser 2 f.in_ (row_of x.label x.slots)) y) (covered an_assign (λ k w e. not (looser 2 f.in_ (row_of x.label x.slots) k w e)) (assign_binds f.in_ (row_of x.label x.slots) x.row) y.kind y.newline y.escaped (s y (l.0, plain_so y l.1 e))) h
        by true e = of_another (same_kind RegExp y.kind) refl e

-- ---- answers

-- the test alone
pub test_alone : {text : List ℕ} {f : Flags} {p q : Parser} {id : NodeId} → OnlyOperand text f p.prev_token_end → Numbered text f (at Short f) p q id → one_of_kinds (Question ∷ []) q.token.kind ≡ false → ((y : Lexeme) → Lex text q.prev_token_end y → IsTrue (seen an_assign y) → ⊥) → Numbered text f (at Assignment f) p q id
unfolding covers lift
test_alone {text} {f} {p} a x n z = lift (at Assignment f) (at Conditional f) refl refl text p.prev_token_end (unassigned a x.answer z) refl
    (lift (at Conditional f) (at Short f) refl refl text p.prev_token_end (no_branches x.answer n) refl x (operand_assigned (row_of x.answer.label x.answer.slots) x.answer.row) (behind_test x.answer n))
    (operand_assigned (row_of x.answer.label x.answer.slots) x.answer.row) (behind_alone x.answer n z)

three_held : (o p q r w : Parser) {l a b c : Label} {ds es cs : Slots} {id x y z : NodeId} → MadeHere l (Some x ∷ Some y ∷ Some z ∷ []) r w id → Holds p.nodes (length o.nodes) (length p.nodes) x.0 a ds → Holds q.nodes (length p.nodes) (length q.nodes) y.0 b es → Keeps p.nodes q.nodes → Holds r.nodes (length q.nodes) (length r.nodes) z.0 c cs → Keeps q.nodes r.nodes → Holds w.nodes (length o.nodes) (length w.nodes) id.0 l (tree a ds (tree b es (tree c cs end)))
three_held o p q r w {x = x} {y = y} {z = z} n h i j k m = node_held n (HoldsAll-next z m (HoldsAll-two x y j h i) k)

-- both branches were read
pub conditional_answers : {text : List ℕ} {f : Flags} {p q r u v w z : Parser} {test first second id : NodeId} (s : Span) → At text f p → OnlyOperand text f p.prev_token_end → (x : Numbered text f (at Short f) p q test) → (e : q.token.kind ≡ Question) → (m : Moved text f q r) → (c : Numbered text f (at Assignment (plus_in f)) r u first) → (k : u.token.kind ≡ Colon) → (d : Moved text f u v) → (y : Numbered text f (at Assignment f) v w second) → s.start ≡ p.token.span.start → s.end ≡ w.prev_token_end
    → MadeHere (plain_label node.ConditionalExpression op.None s) (Some test ∷ Some first ∷ Some second ∷ []) w z id → Numbered text f (at Assignment f) p z id
conditional_answers {text} {f} {p} {q} {r} {u} {v} {w} {z} {test} {first} {second} {id} s a na x e m c k d y g h n =
    let l : plain_label node.ConditionalExpression op.None s ≡ label_here conditional_expression no_op p w = rw (g, h) refl in
    let made : MadeHere (label_here conditional_expression no_op p w) (Some test ∷ Some first ∷ Some second ∷ []) w z id = subst (λ (v : Label). MadeHere v (Some test ∷ Some first ∷ Some second ∷ []) w z id) l n in
    let b : Holds u.nodes (length q.nodes) (length u.nodes) first.0 c.answer.label c.answer.slots = subst (λ (ns : List Node). Holds u.nodes (length ns) (length u.nodes) first.0 c.answer.label c.answer.slots) m.nodes c.holds in
    let kb : Keeps q.nodes u.nodes = subst (λ (ns : List Node). Keeps ns u.nodes) m.nodes c.keeps in
    let t : Holds w.nodes (length u.nodes) (length w.nodes) second.0 y.answer.label y.answer.slots = subst (λ (ns : List Node). Holds w.nodes (length ns) (length w.nodes) second.0 y.answer.label y.answer.slots) d.nodes y.holds in
    let kt : Keeps u.nodes w.nodes = subst (λ (ns : List Node). Keeps ns w.nodes) d.nodes y.keeps in
    by_path (conditional_path x.answer na e m c.answer k d a y.answer) (same_both x.answer.same (same_both m.same (same_both c.answer.same (same_both d.same y.answer.same)))) n.stays (λ o i. y.answer.stops o i) y.answer.row
    (three_held p q u w z made x.holds b kb t kt) (Keeps-trans x.keeps (Keeps-trans kb (Keeps-trans kt (Keeps-made n.made)))) refl (one_lies made)

-- ---- the colon

-- the `?` that was passed
pub asked_here : {text : List ℕ} {f : Flags} {p q : Parser} → At text f p → p.token.kind ≡ Question → p.token.escaped ≡ false → Moved text f p q → Asked q p.token.span
asked_here {text} {f} {p} {q} a k e m = record {
  sign = record {
    lexeme = m.lexeme;
    of_text = a_lexeme (subst (λ (v : List ℕ). Reached v p.prev_token_end) (a.text_is ∙ sym m.at.text_is) a.at.reached) (subst (λ (v : List ℕ). NextLexeme all_faults v p.prev_token_end m.lexeme) (sym m.at.text_is) m.stood);
    is = (sym m.tells.start, sym m.tells.end);
    passes = rw (sym m.tells.kind ∙ k, sym m.tells.escaped ∙ e) refl;
  };
  before = let t = m.tells.end in let u = m.ends in omega arith;
}

pub asked_later : {p q : Parser} {question : Span} → Same p q → p.prev_token_end ≤ q.prev_token_end → Asked p question → Asked q question
asked_later {p} {q} {question} s l a = record {
  sign = subst (λ (v : List ℕ). LexemeAt (of_kinds (Question ∷ [])) (goal q) v question) (sym s.follows.text) (subst (λ (v : SourceType). LexemeAt (of_kinds (Question ∷ [])) (goal_of v) p.text question) (sym s.follows.source_type) a.sign);
  before = let b = a.before in omega arith;
}

-- a diagnostic of what stands in its place has its mark
pub alternative_marked : {p : Parser} {question : Span} → IsAt p → Asked p question → (s : Span) → s ≡ p.token.span → (p.token.kind ≡ Undetermined → ⊥) → Mark (goal p) p.text (record { kind = fault.ExpectConditionalAlternative; span = s; first = Some question; second = None })
alternative_marked {p} {question} a q s e n = mark_here fault.ExpectConditionalAlternative s (Some question) a (at_lexeme n e) (λ v x b. (x, record { place = question; is_first = refl; no_second = refl; lexeme = q.sign; earlier = let c = q.before in omega arith }))

pub colon_missing : {text : List ℕ} {f : Flags} (p q : Parser) (e : Stop) → At text f p → Passes Colon p q (Err e) → Stops p q e (one_of_kinds (Colon ∷ []) p.token.kind ≡ false)
colon_missing p q Fatal a h = gives_up EndsParse p q Fatal a h.1 (λ d u. u) (other_kind Colon p.token.kind (h.0 refl))
colon_missing p q NoMemory a h = tt

pub no_assign_here : {text : List ℕ} {f : Flags} {q : Parser} → At text f q → q.cut ≡ false → one_of_kinds assign_operators q.token.kind ≡ false → (y : Lexeme) → Lex text q.prev_token_end y → IsTrue (seen an_assign y) → ⊥
no_assign_here a c n y l s = false≢true (sym n ∙ subst (λ (k : Kind). one_of_kinds assign_operators k ≡ true) (sym (told_plain a c y (assign_plain y.kind (and_parts (one_of_kinds assign_operators y.kind) (not y.escaped) s).0) l).kind) (and_parts (one_of_kinds assign_operators y.kind) (not y.escaped) s).0)
