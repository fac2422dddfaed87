-- Answers of assignments to array and object targets (ECMA-262, 13.15.5).
use Rattle.std.proofs.Common.{ℕ, ◌≡◌, List, [], ◌∷◌, ◌+◌, ◌-◌, length, true, false, not, Some, refl, sym, ap, subst, ◌∙◌}
use Rattle.std.proofs.lemmas.Bool.{and_parts, and_from}
use Rattle.js_base.specs.declared.kind.Kind.{Kind}
use Rattle.js_base.specs.declared.kind.Kind.TheVariants.{Eq}
use Rattle.js_base.specs.declared.operator.AssignmentOperator.TheVariants as assign_by
use Rattle.js_base.specs.declared.span.Span.{Span}
use Rattle.js_base.specs.Kinds.{same_kind, one_of_kinds}
use Rattle.js_base.proofs.KindLemmas.{kind_of_same}
use Rattle.js_grammar.specs.Trees.{Span as TreeSpan, Label, Slots, end, tree, of, assignment_expression}
use Rattle.js_grammar.specs.Grammar.{Lexemes, here, such, nothing, exact, alt, Takes, is_lexeme, is_seq, is_left, is_right, is_such, ◌▸◌}
use Rattle.js_grammar.specs.Insertion.{assign_operators}
use Rattle.js_grammar.specs.Parsing.{Test, plain, full, always, Admits, Goes, Fails, still}
use Rattle.js_grammar.specs.Productions.{Flags, at, tok, Assignment, Short, ArrayTarget, ObjectTarget}
use Rattle.js_grammar.specs.Productions.{sym as symbol}
use Rattle.js_grammar.specs.Table.{rule}
use Rattle.js_grammar.specs.Follow.{after}
use Rattle.js_grammar.proofs.Calculus.{Between, Inside, inside_full, ◌▹◌, ◌▹✗◌, right, fails_node, then_by, part_fails, weaken_fails_on}
use Rattle.js_grammar.proofs.FollowLaws.{fails_by}
use Rattle.laws_shared.specs.js_tree.declared.id.NodeId.{NodeId}
use Rattle.laws_shared.specs.js_tree.declared.kind.NodeKind.TheVariants as node
use Rattle.laws_shared.specs.js_tree.declared.op.Op.TheVariants as op_made
use Rattle.laws_shared.specs.js_tree.Nodes.{Node}
use Rattle.laws_shared.specs.js_tree.Holding.{Holds, Keeps}
use Rattle.laws_shared.proofs.js_tree.HoldingLemmas.{Keeps-trans, Keeps-made}
use Rattle.laws_shared.specs.js_cursor.Parsers.{Parser}
use Rattle.laws_shared.specs.Answers.{Answer, Numbered, Underived}
use Rattle.laws_shared.specs.Lexemes.{Lex}
use Rattle.laws_shared.specs.Moves.{Moved, MadeHere, plain_label}
use Rattle.laws_shared.specs.Nesting.{room}
use Rattle.parse_targets.specs.Taken.{TargetTaken, target_name}
use Rattle.laws_shared.specs.States.{At}
use Rattle.parse_targets.specs.Targets.{is_object, is_literal}
use Rattle.laws_operators.specs.Rests.{OnlyOperand}
use Rattle.parse_targets.proofs.Refused.{literal_no_target}
use Rattle.parse_targets.proofs.ArraysBeforeSigns.{array_slots, array_part}
use Rattle.parse_targets.proofs.ArraysConverted.{signs}
use Rattle.parse_targets.proofs.HeadTargets.{converted_path, neither, no_other, of_either}
use Rattle.parse_targets.proofs.TargetsTaken.{assign_behind}
use Rattle.parse_targets.proofs.Assigned.{assign_part, no_branch, not_target, to_parts}
use Rattle.laws_operators.proofs.Assignments.{all_assign, no_question, on_second, plain_here, second}
use Rattle.laws_operators.proofs.Conditionals.{no_conditional}
use Rattle.laws_shared.proofs.MadeNodes.{two_held, one_lies}
use Rattle.laws_shared.proofs.Moving.{same_both}
use Rattle.laws_patterns.proofs.laws_primary.Operands.{by_path}
use Rattle.laws_shared.proofs.Paths.{Path, ◌⟼◌, ◌⟶◌, ◌⟶✗◌, label_here, last_called, noded_by, token}
use Rattle.laws_shared.proofs.Verdicts.{verdict_of}

-- as much is left where the place is the same
pub room_same : {text : List ℕ} {f g : Flags} {p q : Parser} → At text f p → At text g q → q.prev_token_end ≡ p.prev_token_end → room q ≡ room p
room_same a b e = λ i. length ((b.text_is ∙ sym a.text_is) i) + 1 - e i

-- ---- the paths

inside_array : (f : Flags) (s : ℕ) → Inside rule (record { kind = assignment_expression; op = of Eq; flags = 0; extent = exact }) (after (at Assignment f)) (second f) end (array_slots f) s
inside_array f s = record { ends = λ p cs vs j ls mid d e. go p cs vs d e }
  where
    go : (p : TreeSpan) (cs vs : Slots) {i j : ℕ} {ls mid : Lexemes} → Takes rule (array_slots f) end cs i ls end j mid → Admits (after (at Assignment f)) (tree (record { kind = assignment_expression; op = of Eq; flags = 0; span = p }) cs vs) (here mid) → Admits (second f) cs (here mid)
    go p cs vs (is_seq (is_left (is_such a b)) (is_seq (is_lexeme c) (is_such d e))) x = x
    go p cs vs (is_seq (is_right (is_such a b)) (is_seq (is_lexeme c) (is_such d e))) x = x

before_equals : (f : Flags) (X : Test) (s : ℕ) → Between rule X (signs f) end (alt (symbol ArrayTarget f) (symbol ObjectTarget f)) (tok Eq ▸ symbol Assignment f) s
before_equals f X s = record { admits = λ ts us vs j k ls mid rest d d' e. go ts d' }
  where
    go : (ts : Slots) {us vs : Slots} {j k : ℕ} {mid rest : Lexemes} → Takes rule (tok Eq ▸ symbol Assignment f) end us j mid vs k rest → Admits (signs f) ts (here mid)
    go ts (is_seq (is_lexeme {x = x} q) d) = let z = and_parts (same_kind Eq x.kind) (not x.escaped) q in (assign_behind f.in_ x (and_from (one_of_kinds assign_operators x.kind) (not x.escaped) (subst (λ (k : Kind). one_of_kinds assign_operators k ≡ true) (kind_of_same Eq x.kind z.0) refl) z.1), refl)

module _ {text : List ℕ} {f : Flags} {p q : Parser} (x : Answer text f (at Short f) p q) (na : OnlyOperand text f p.prev_token_end) (c : q.cut ≡ false) (k : q.token.kind ≡ Eq) (h : is_literal x.label.kind ≡ true) where
  listed : one_of_kinds assign_operators q.token.kind ≡ true
  listed = subst (λ (v : Kind). one_of_kinds assign_operators v ≡ true) (sym k) refl

  to_array : Goes rule (Lex text) (after (at Assignment f)) end (rule (at Assignment f)) p.prev_token_end (array_part f) p.prev_token_end (λ us. us) (still 0)
  to_array = to_parts f p.prev_token_end na ▹ (right (no_conditional x (no_question x na c listed) (all_assign x na c listed)) ▹ right (no_branch (assign_part f) assign_operators (λ o m. fails_node inside_full (not_target x (plain full) o m (literal_no_target x.label x.slots h)))))

  pub without_target : Fails rule (Lex text) (signs f) end (such (at (target_name (is_object x.label.kind)) f) always) p.prev_token_end → Underived text (at Assignment f) p.prev_token_end
  without_target n = fails_by (to_array ▹✗ fails_node (inside_array f p.prev_token_end) (part_fails (neither (is_object x.label.kind) n (no_other x h)) (before_equals f (second f) p.prev_token_end)))

  module _ {r : Parser} {id : NodeId} (t : TargetTaken (is_object x.label.kind) text f p q r id) where
    either_target : Path text f (signs f) (alt (symbol ArrayTarget f) (symbol ObjectTarget f)) p nothing r (tree t.label t.slots)
    either_target = of_either (is_object x.label.kind) (no_other x h) (converted_path x h t)

    then_equals : Path text f (second f) (array_slots f) p (tok Eq ▸ symbol Assignment f) r (tree t.label t.slots)
    then_equals = let y = either_target in record { at = y.at; further = y.further; pass = y.pass; walked = y.walked; verdict = verdict_of y.verdict (λ z. record { reach = z.reach; near = z.near; goes = then_by z.goes (before_equals f (second f) p.prev_token_end) }) (λ n. part_fails n (before_equals f (second f) p.prev_token_end)) }

    module _ {v : Parser} (m : Moved text f r v) where
      sign_read : Path text f (second f) (array_slots f) p (symbol Assignment f) v (tree t.label t.slots)
      sign_read = then_equals ⟶ token Eq t.stands_at (ap (λ (z : _). z.kind) t.token ∙ k) (ap (λ (z : _). z.escaped) t.token ∙ plain_here x na c listed) refl m

      pub right_unread : Underived text (at Assignment f) v.prev_token_end → Underived text (at Assignment f) p.prev_token_end
      right_unread n = fails_by (to_array ▹✗ fails_node (inside_array f p.prev_token_end) (sign_read ⟶✗ weaken_fails_on n (on_second f t.label t.slots v.prev_token_end)))

      target_assigned : {w : Parser} → At text f p → (y : Answer text f (at Assignment f) v w) → Path text f (after (at Assignment f)) (rule (at Assignment f)) p nothing w (tree (label_here assignment_expression (of Eq) p w) (tree t.label t.slots (tree y.label y.slots end)))
      target_assigned a y = to_array ⟼ noded_by a (inside_array f p.prev_token_end) (sign_read ⟶ last_called y (on_second f t.label t.slots v.prev_token_end))

      pub array_answers : {w z : Parser} {right made : NodeId} (s : Span) → At text f p → (y : Numbered text f (at Assignment f) v w right) → s.start ≡ p.token.span.start → s.end ≡ w.prev_token_end → MadeHere (plain_label node.AssignmentExpression (op_made.Assignment assign_by.Assign) s) (Some id ∷ Some right ∷ []) w z made → Numbered text f (at Assignment f) p z made
      array_answers {w} {z} {right} {made} s a y b d n =
          let l : plain_label node.AssignmentExpression (op_made.Assignment assign_by.Assign) s ≡ label_here assignment_expression (of Eq) p w = rw (b, d) refl in
          let g : MadeHere (label_here assignment_expression (of Eq) p w) (Some id ∷ Some right ∷ []) w z made = subst (λ (v : Label). MadeHere v (Some id ∷ Some right ∷ []) w z made) l n in
          let i : Holds w.nodes (length r.nodes) (length w.nodes) right.0 y.answer.label y.answer.slots = subst (λ (ns : List Node). Holds w.nodes (length ns) (length w.nodes) right.0 y.answer.label y.answer.slots) m.nodes y.holds in
          let j : Keeps r.nodes w.nodes = subst (λ (ns : List Node). Keeps ns w.nodes) m.nodes y.keeps in
          by_path (target_assigned a y.answer) (same_both t.same (same_both m.same y.answer.same)) g.stays (λ i j. y.answer.stops i j) y.answer.row (two_held g t.holds t.keeps i j) (Keeps-trans t.keeps (Keeps-trans j (Keeps-made g.made))) refl (one_lies g)
