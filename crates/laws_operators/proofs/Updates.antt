-- Updates (ECMA-262, 13.4), and an UpdateExpression that is none.
use Rattle.std.proofs.Common.{ℕ, ◌≡◌, List, [], ◌∷◌, length, Bool, true, false, not, ◌&&◌, ◌||◌, IsTrue, Option, Some, None, refl, sym, ap, subst, ◌∙◌}
use Rattle.std.proofs.lemmas.Bool.{false≢true, and_parts, and_from}
use Rattle.js_base.specs.declared.kind.Kind.{Kind}
use Rattle.js_base.specs.declared.kind.Kind.TheVariants.{Plus2, Minus2, PrivateIdentifier, RAngle}
use Rattle.js_base.specs.declared.operator.UpdateOperator.{UpdateOperator}
use Rattle.js_base.specs.declared.span.Span.{Span}
use Rattle.js_base.specs.Kinds.{same_kind, one_of_kinds}
use Rattle.js_base.specs.Operators.{row_of as row_in, update_operators}
use Rattle.js_base.specs.Texts.{words}
use Rattle.js_base.proofs.KindLemmas.{kind_of_same}
use Rattle.js_grammar.specs.Trees.{Slots, end, tree, Tree, Label, of, update_expression}
use Rattle.js_grammar.specs.Grammar.{Lexeme, Look, seen, such, nothing, exact, alt, ◌▸◌}
use Rattle.js_grammar.specs.Insertion.{Row, after_expression, after_postfix}
use Rattle.js_grammar.specs.Lexemes.{is_word}
use Rattle.js_grammar.specs.Parsing.{Test, plain, full, always, Admits, Goes, Fails, still}
use Rattle.js_grammar.specs.Productions.{G, Flags, at, tok, op, make, no_newline, prefix_flag, Update, Unary, LeftHandSide, SimpleTarget}
use Rattle.js_grammar.specs.Productions.{sym as symbol}
use Rattle.js_grammar.specs.Table.{rule, rule_of}
use Rattle.js_grammar.specs.Follow.{row_of, after, looser, widest}
use Rattle.js_grammar.proofs.Lexemes.{first_or}
use Rattle.js_grammar.proofs.Looks.{covers, covered, apart}
use Rattle.js_grammar.proofs.Calculus.{Inside, ◌▹◌, ◌▹✗◌, left, right, then_by, looks, fails_node, inside_full, fails_alt, fails_nothing, weaken_fails_on}
use Rattle.js_grammar.proofs.FirstClaims.{firsts}
use Rattle.js_grammar.proofs.FirstRules.{then, fails_part, fails_here}
use Rattle.js_grammar.proofs.FollowLaws.{admits, same_read, fails_by, passes_on}
use Rattle.js_grammar.proofs.Finding.{contrary}
use Rattle.laws_shared.specs.js_tree.declared.id.NodeId.{NodeId}
use Rattle.laws_shared.specs.js_tree.declared.kind.NodeKind.TheVariants as node
use Rattle.laws_shared.specs.js_tree.declared.op.Op.TheVariants as op_made
use Rattle.laws_shared.specs.js_tree.Labels.{update_kind}
use Rattle.laws_shared.specs.js_tree.Nodes.{Node}
use Rattle.laws_shared.specs.js_tree.Holding.{Holds, Keeps}
use Rattle.laws_shared.proofs.js_tree.HoldingLemmas.{Keeps-trans, Keeps-made}
use Rattle.laws_shared.specs.js_cursor.Parsers.{Parser}
use Rattle.laws_shared.specs.js_cursor.Moves.{is_last}
use Rattle.laws_shared.specs.Lexemes.{Lex, is_read, Plain, is_read_kind}
use Rattle.laws_operators.specs.Rests.{update_kinds}
use Rattle.laws_shared.specs.States.{At}
use Rattle.laws_shared.specs.Moves.{Moved, MadeHere, plain_label}
use Rattle.laws_shared.specs.Answers.{Underived, Answer, Numbered, beside}
use Rattle.parse_targets.specs.Targets.{target_of, TargetNode}
use Rattle.laws_shared.proofs.Signs.{plain_sign}
use Rattle.parse_targets.proofs.Covers.{row_of_target, target_path, target_fails, target_unread}
use Rattle.laws_shared.proofs.Here.{kind_here, unsettled, newline_here}
use Rattle.laws_shared.proofs.MadeNodes.{one_held, one_lies}
use Rattle.laws_shared.proofs.Moving.{same_both}
use Rattle.laws_patterns.proofs.laws_primary.Operands.{by_path}
use Rattle.laws_shared.proofs.Paths.{reads, Path, ◌⟼◌, ◌⟶◌, ◌⟶✗◌, at_kind, fails_at, token, last_token, last_called, noded, flagged_by, flagged_here, label_here}
use Rattle.laws_shared.proofs.Phrases.{lift, plain_row, primary_operand}
use Rattle.parse_targets.proofs.Targets.{passes_itself, of_unary}
use Rattle.laws_shared.proofs.Escapes.{read_plain, no_word_among}
use Rattle.laws_shared.proofs.Tight.{plain_is_read, plain_lex}
use Rattle.laws_shared.proofs.Verdicts.{verdict_of}

-- a claim on both operators
pub of_update : (P : Kind → Type 0) (k : Kind) → one_of_kinds update_kinds k ≡ true → P Plus2 → P Minus2 → P k
of_update P k h a b = first_or P Plus2 k _ _ refl h a (λ h. first_or P Minus2 k _ _ refl h b (λ h. absurd (false≢true h)))

pub update_settled : (k : Kind) → one_of_kinds update_kinds k ≡ true → one_of_kinds unsettled k ≡ false
update_settled k h = of_update (λ k. one_of_kinds unsettled k ≡ false) k h refl refl

pub update_plain : (k : Kind) → one_of_kinds update_kinds k ≡ true → ((is_word k || same_kind PrivateIdentifier k) ≡ false) × (same_kind RAngle k ≡ false) × (is_last k ≡ false)
unfolding words
update_plain k h = of_update (λ k. ((is_word k || same_kind PrivateIdentifier k) ≡ false) × (same_kind RAngle k ≡ false) × (is_last k ≡ false)) k h (refl, refl, refl) (refl, refl, refl)

pub update_named : (k : Kind) (o : UpdateOperator) → one_of_kinds update_kinds k ≡ true → row_in update_operators k ≡ Some o → update_kind o ≡ k
update_named k o h = of_update (λ k. row_in update_operators k ≡ Some o → update_kind o ≡ k) k h (λ e. cc) (λ e. cc)

-- ---- the parts

-- the operator on the same line
abbrev on_the_line : Kind → Look
on_the_line o k w e = not w && (same_kind o k && not e)

abbrev pub a_postfix : Look
a_postfix k w e = not w && (one_of_kinds update_kinds k && not e)

abbrev sign_behind : Kind → G
sign_behind o = no_newline ▸ tok o

abbrev postfix_part : Flags → Kind → G
postfix_part f o = op update_expression o (symbol SimpleTarget f ▸ sign_behind o)

abbrev prefix_slots : Flags → Kind → G
prefix_slots f o = tok o ▸ symbol SimpleTarget f

abbrev prefix_part : Flags → Kind → G
prefix_part f o = make update_expression (of o) prefix_flag (prefix_slots f o)

abbrev update_part : Flags → Kind → G
update_part f o = alt (postfix_part f o) (prefix_part f o)

update_line : (f : Flags) → rule (at Update f) ≡ alt (such (at LeftHandSide f) always) (alt (update_part f Plus2) (update_part f Minus2))
unfolding rule rule_of
update_line f = refl

-- ---- behind a left-hand side

postfix_follows : (b : Bool) → covers a_postfix (looser 17 b after_expression) ≡ true
unfolding covers
postfix_follows true = refl
postfix_follows false = refl

postfix_ends : (b : Bool) → covers a_postfix (λ k w e. not (looser 16 b after_expression k w e)) ≡ true
unfolding covers
postfix_ends true = refl
postfix_ends false = refl

postfix_heads : (f : Flags) (l : Label) (cs vs : Slots) (t : Tree) (y : Lexeme) → target_of l cs ≡ Some t → Admits (plain a_postfix) (tree t.label t.slots vs) y → Admits (after (at LeftHandSide f)) (tree l cs vs) y
postfix_heads f l cs vs t y e h = admits (at LeftHandSide f) (tree l cs vs) y (covered a_postfix (looser 17 f.in_ after_expression) (postfix_follows f.in_) y.kind y.newline y.escaped h.0)

left_hand_side_passes : passes_on Update LeftHandSide ≡ true
unfolding covers
left_hand_side_passes = refl

module _ {text : List ℕ} {f : Flags} {p q : Parser} (x : Answer text f (at LeftHandSide f) p q) where
  -- the target, before what stands behind it
  then_sign : (o : Kind) → one_of_kinds update_kinds o ≡ true → (t : Tree) → target_of x.label x.slots ≡ Some t → Path text f (plain full) (symbol SimpleTarget f ▸ sign_behind o) p (sign_behind o) q (tree t.label t.slots)
  unfolding covers
  then_sign o h = of_update (λ o. (t : Tree) → target_of x.label x.slots ≡ Some t → Path text f (plain full) (symbol SimpleTarget f ▸ sign_behind o) p (sign_behind o) q (tree t.label t.slots)) o h
      (λ t e. let r = target_path passes_itself (postfix_heads f) x t e in record { at = r.at; further = r.further; pass = r.pass; walked = r.walked; verdict = verdict_of r.verdict (λ y. record { reach = y.reach; near = y.near; goes = then firsts y.goes refl }) (λ n. fails_part firsts n refl) })
      (λ t e. let r = target_path passes_itself (postfix_heads f) x t e in record { at = r.at; further = r.further; pass = r.pass; walked = r.walked; verdict = verdict_of r.verdict (λ y. record { reach = y.reach; near = y.near; goes = then firsts y.goes refl }) (λ n. fails_part firsts n refl) })

  no_sign : (o : Kind) {X : Test} → ((y : Lexeme) → Lex text q.prev_token_end y → IsTrue (seen (on_the_line o) y) → ⊥) → Fails rule (Lex text) X end (sign_behind o) q.prev_token_end
  no_sign o n = fails_here firsts (λ y l h. n y l h)

  untargeted : (o : Kind) → one_of_kinds update_kinds o ≡ true → target_of x.label x.slots ≡ None → Fails rule (Lex text) (plain full) end (symbol SimpleTarget f ▸ sign_behind o) p.prev_token_end
  unfolding covers
  untargeted o h = of_update (λ o. target_of x.label x.slots ≡ None → Fails rule (Lex text) (plain full) end (symbol SimpleTarget f ▸ sign_behind o) p.prev_token_end) o h (λ e. fails_part firsts (target_fails passes_itself (postfix_heads f) x e) refl) (λ e. fails_part firsts (target_fails passes_itself (postfix_heads f) x e) refl)

  -- no postfix operator of this kind stands behind it
  no_postfix : (o : Kind) → one_of_kinds update_kinds o ≡ true → ((y : Lexeme) → Lex text q.prev_token_end y → IsTrue (seen (on_the_line o) y) → ⊥) → Fails rule (Lex text) (after (at Update f)) end (postfix_part f o) p.prev_token_end
  no_postfix o h n = fails_node inside_full (by (target_of x.label x.slots) refl)
    where
      by : (r : Option Tree) → target_of x.label x.slots ≡ r → Fails rule (Lex text) (plain full) end (symbol SimpleTarget f ▸ sign_behind o) p.prev_token_end
      by (Some t) e = then_sign o h t e ⟶✗ no_sign o n
      by None e = untargeted o h e

  no_prefix : (o : Kind) → one_of_kinds update_kinds o ≡ true → At text f p → one_of_kinds update_kinds p.token.kind ≡ false → Fails rule (Lex text) (after (at Update f)) end (prefix_part f o) p.prev_token_end
  unfolding covers apart
  no_prefix o h a n = of_update (λ o. Fails rule (Lex text) (after (at Update f)) end (prefix_part f o) p.prev_token_end) o h (fails_at a (prefix_part f Plus2) update_kinds refl n) (fails_at a (prefix_part f Minus2) update_kinds refl n)

  -- where a postfix operator stands behind it, it is no UpdateExpression
  not_alone : ((y : Lexeme) → Lex text q.prev_token_end y → IsTrue (seen a_postfix y)) → Fails rule (Lex text) (after (at Update f)) end (such (at LeftHandSide f) always) p.prev_token_end
  not_alone h = last_called x (same_read (at Update f) (at LeftHandSide f) left_hand_side_passes refl) ⟶✗ fails_nothing (λ ts y l e. no y l e.1)
    where
      row : row_of x.label x.slots ≡ after_expression
      row = plain_row (row_of x.label x.slots) x.row

      no : (y : Lexeme) → Lex text q.prev_token_end y → IsTrue (seen (looser 16 f.in_ (row_of x.label x.slots)) y) → ⊥
      no y l e = contrary (seen (looser 16 f.in_ after_expression) y) (covered a_postfix (λ k w e. not (looser 16 f.in_ after_expression k w e)) (postfix_ends f.in_) y.kind y.newline y.escaped (h y l)) (subst (λ (r : Row). IsTrue (seen (looser 16 f.in_ r) y)) row e)

-- the operator that stands behind is one
module _ {text : List ℕ} {f : Flags} {q : Parser} (a : At text f q) (h : one_of_kinds update_kinds q.token.kind ≡ true) where
  pub stands_here : (y : Lexeme) → Lex text q.prev_token_end y → y.kind ≡ q.token.kind
  stands_here y l = kind_here a refl (update_settled q.token.kind h) y l

  pub line_here : (y : Lexeme) → Lex text q.prev_token_end y → y.newline ≡ q.token.is_on_new_line
  line_here y l = newline_here a y l

  pub postfix_here : q.token.is_on_new_line ≡ false → (y : Lexeme) → Lex text q.prev_token_end y → IsTrue (seen a_postfix y)
  postfix_here n y l = rw (line_here y l ∙ n, stands_here y l, read_plain y l (stands_here y l) (no_word_among update_kinds q.token.kind refl h), h) refl

  -- and no other is
  pub not_another : (o : Kind) → same_kind o q.token.kind ≡ false → (y : Lexeme) → Lex text q.prev_token_end y → IsTrue (seen (on_the_line o) y) → ⊥
  not_another o d y l s = false≢true (sym d ∙ subst (λ (k : Kind). same_kind o k ≡ true) (stands_here y l) (and_parts (same_kind o y.kind) (not y.escaped) (and_parts (not y.newline) _ s).1).0)

-- ---- a left-hand side alone

pub left_alone : {text : List ℕ} {f : Flags} {p q : Parser} {id : NodeId} → At text f p → one_of_kinds update_kinds p.token.kind ≡ false → Numbered text f (at LeftHandSide f) p q id → ((y : Lexeme) → Lex text q.prev_token_end y → IsTrue (seen a_postfix y) → ⊥) → Numbered text f (at Update f) p q id
unfolding rule rule_of covers
left_alone {text} {f} {p} {q} a n x h = lift (at Update f) (at LeftHandSide f) refl refl text p.prev_token_end
    (left (fails_alt (fails_alt (no_postfix x.answer Plus2 refl (λ y l s. h y l (is_postfix Plus2 refl y s))) (no_prefix x.answer Plus2 refl a n)) (fails_alt (no_postfix x.answer Minus2 refl (λ y l s. h y l (is_postfix Minus2 refl y s))) (no_prefix x.answer Minus2 refl a n))))
    refl x (primary_operand (row_of x.answer.label x.answer.slots) x.answer.row) (λ y l. narrower y l)
  where
    is_postfix : (o : Kind) → one_of_kinds update_kinds o ≡ true → (y : Lexeme) → IsTrue (seen (on_the_line o) y) → IsTrue (seen a_postfix y)
    is_postfix o u y s =
        let b = and_parts (not y.newline) (same_kind o y.kind && not y.escaped) s in
        let c = and_parts (same_kind o y.kind) (not y.escaped) b.1 in
        and_from _ _ b.0 (and_from _ _ (subst (λ (k : Kind). one_of_kinds update_kinds k ≡ true) (kind_of_same o y.kind c.0) u) c.1)

    row : row_of x.answer.label x.answer.slots ≡ after_expression
    row = plain_row (row_of x.answer.label x.answer.slots) x.answer.row

    below : (b : Bool) (y : Lexeme) → IsTrue (is_read y) → (IsTrue (seen a_postfix y) → ⊥) → IsTrue (seen (looser 17 b after_expression) y || seen beside y) → IsTrue (seen (looser 16 b after_expression) y || seen beside y)
    below b y r n s = last_of (seen (looser 17 b after_expression) y) (seen a_postfix y) (seen (looser 16 b after_expression) y) (seen beside y) (covered reads (narrowed b) (narrowed_at b) y.kind y.newline y.escaped r) n s
      where
        narrowed : Bool → Look
        narrowed b k w e = not (looser 17 b after_expression k w e) || (a_postfix k w e || (looser 16 b after_expression k w e || beside k w e))

        narrowed_at : (b : Bool) → covers reads (narrowed b) ≡ true
        narrowed_at true = refl
        narrowed_at false = refl

        last_of : (s p t d : Bool) → (not s || (p || (t || d))) ≡ true → (p ≡ true → ⊥) → (s || d) ≡ true → (t || d) ≡ true
        last_of true true t d e n s = absurd (n refl)
        last_of true false t d e n s = e
        last_of false p true d e n s = refl
        last_of false p false d e n s = s

    narrower : (y : Lexeme) → Plain text q.prev_token_end y → IsTrue (seen (looser 16 f.in_ (row_of x.answer.label x.answer.slots)) y || seen beside y)
    narrower y l = subst (λ (r : Row). IsTrue (seen (looser 16 f.in_ r) y || seen beside y)) (sym row) (below f.in_ y (plain_is_read y l.1) (h y (plain_lex l)) (x.answer.stops y l))

pub nothing_read : {text : List ℕ} {f : Flags} {p : Parser} → At text f p → one_of_kinds update_kinds p.token.kind ≡ false → Underived text (at LeftHandSide f) p.prev_token_end → Underived text (at Update f) p.prev_token_end
unfolding rule rule_of covers apart
nothing_read {text} {f} {p} a n x = fails_by (fails_alt (weaken_fails_on x (same_read (at Update f) (at LeftHandSide f) left_hand_side_passes refl))
    (fails_alt (fails_alt (unread Plus2 refl) (fails_at a (prefix_part f Plus2) update_kinds refl n)) (fails_alt (unread Minus2 refl) (fails_at a (prefix_part f Minus2) update_kinds refl n))))
  where
    unread : (o : Kind) → one_of_kinds update_kinds o ≡ true → Fails rule (Lex text) (after (at Update f)) end (postfix_part f o) p.prev_token_end
    unread o h = of_update (λ o. Fails rule (Lex text) (after (at Update f)) end (postfix_part f o) p.prev_token_end) o h (fails_node inside_full (fails_part firsts (target_unread passes_itself (postfix_heads f) x) refl)) (fails_node inside_full (fails_part firsts (target_unread passes_itself (postfix_heads f) x) refl))

-- ---- a postfix operator

module _ {text : List ℕ} {f : Flags} {p q : Parser} (a : At text f p) (n : one_of_kinds update_kinds p.token.kind ≡ false) (x : Answer text f (at LeftHandSide f) p q) (w : q.token.is_on_new_line ≡ false) where
  abbrev Ending : Kind → Type 0
  Ending o = q.token.kind ≡ o → one_of_kinds update_kinds o ≡ true → Goes rule (Lex text) (after (at Update f)) end (rule (at Update f)) p.prev_token_end (postfix_part f o) p.prev_token_end (λ us. us) (still 0)

  by_postfix : (o : Kind) → one_of_kinds update_kinds o ≡ true → Ending o
  unfolding rule rule_of
  by_postfix o h = of_update Ending o h
      (λ e u. let k : one_of_kinds update_kinds q.token.kind ≡ true = subst (λ (v : Kind). one_of_kinds update_kinds v ≡ true) (sym e) u in
      right (not_alone x (postfix_here x.at k w)) ▹ (left (fails_alt (no_postfix x Minus2 refl (not_another x.at k Minus2 (ap (same_kind Minus2) e))) (no_prefix x Minus2 refl a n)) ▹ left (no_prefix x Plus2 refl a n)))
      (λ e u. let k : one_of_kinds update_kinds q.token.kind ≡ true = subst (λ (v : Kind). one_of_kinds update_kinds v ≡ true) (sym e) u in
      right (not_alone x (postfix_here x.at k w)) ▹ (right (fails_alt (no_postfix x Plus2 refl (not_another x.at k Plus2 (ap (same_kind Plus2) e))) (no_prefix x Plus2 refl a n)) ▹ left (no_prefix x Minus2 refl a n)))

  sign_path : (o : Kind) → one_of_kinds update_kinds o ≡ true → {r : Parser} → q.token.kind ≡ o → q.token.escaped ≡ false → Moved text f q r → Path text f (plain full) (sign_behind o) q nothing r (λ us. us)
  sign_path o u {r} e d m = then_by {X' = plain full} (looks (λ k w e. not w) on_line) (record { admits = λ ts us vs j k ls mid rest d d' e. (refl, refl) }) ⟼ last_token o x.at e d (sign_read o u) m
    where
      on_line : (y : Lexeme) → Lex text q.prev_token_end y → IsTrue (not y.newline)
      on_line y l = ap not (line_here x.at (subst (λ (v : Kind). one_of_kinds update_kinds v ≡ true) (sym e) u) y l ∙ w)

      sign_read : (o : Kind) → one_of_kinds update_kinds o ≡ true → is_read_kind o ≡ true
      sign_read o u = of_update (λ o. is_read_kind o ≡ true) o u refl refl

  postfix_path : {r : Parser} (o : Kind) → one_of_kinds update_kinds o ≡ true → q.token.kind ≡ o → q.token.escaped ≡ false → Moved text f q r → (t : Tree) → target_of x.label x.slots ≡ Some t → Path text f (after (at Update f)) (rule (at Update f)) p nothing r (tree (label_here update_expression (of o) p r) (tree t.label t.slots end))
  postfix_path o u e d m t h = by_postfix o u e u ⟼ noded a (then_sign x o u t h ⟶ sign_path o u e d m)

  -- the operand is no target
  pub postfix_fails : (o : Kind) → one_of_kinds update_kinds o ≡ true → q.token.kind ≡ o → target_of x.label x.slots ≡ None → Underived text (at Update f) p.prev_token_end
  postfix_fails o u e h = fails_by (by_postfix o u e u ▹✗ fails_node inside_full (untargeted x o u h))

pub named_made : (p r : Parser) (o : UpdateOperator) (k : Kind) (s : Span) → update_kind o ≡ k → s.start ≡ p.token.span.start → s.end ≡ r.prev_token_end → plain_label node.UpdateExpression (op_made.Update o) s ≡ label_here update_expression (of k) p r
named_made p r o k s u b c = rw (u, b, c) refl

behind_sign : (b : Bool) → covers reads (λ k w e. looser 16 b after_postfix k w e || beside k w e) ≡ true
unfolding covers
behind_sign true = refl
behind_sign false = refl

-- the operator was passed, and the node was made
pub postfix_answers : {text : List ℕ} {f : Flags} {p q r z : Parser} {operand target id : NodeId} {o : UpdateOperator} (s : Span) → At text f p → one_of_kinds update_kinds p.token.kind ≡ false → (x : Numbered text f (at LeftHandSide f) p q operand) → q.token.is_on_new_line ≡ false → (u : one_of_kinds update_kinds q.token.kind ≡ true) → row_in update_operators q.token.kind ≡ Some o → (m : Moved text f q r)
    → TargetNode q.nodes (length p.nodes) (length q.nodes) x.answer.label x.answer.slots target → s.start ≡ p.token.span.start → s.end ≡ r.prev_token_end → MadeHere (plain_label node.UpdateExpression (op_made.Update o) s) (Some target ∷ []) r z id → Numbered text f (at Update f) p z id
postfix_answers {text} {f} {p} {q} {r} {z} {operand} {target} {id} {o} s a n x w u v m t b c d =
    let l = named_made p r o q.token.kind s (update_named q.token.kind o u v) b c in
    let e : q.token.escaped ≡ false = plain_sign q.token.kind x.answer.at refl (update_plain q.token.kind u).1 (update_plain q.token.kind u).2 (update_plain q.token.kind u).0 in
    let made : MadeHere (label_here update_expression (of q.token.kind) p r) (Some target ∷ []) r z id = subst (λ (v : Label). MadeHere v (Some target ∷ []) r z id) l d in
    let h : Holds r.nodes (length p.nodes) (length r.nodes) target.0 t.tree.label t.tree.slots = subst (λ (ns : List Node). Holds ns (length p.nodes) (length ns) target.0 t.tree.label t.tree.slots) (sym m.nodes) t.holds in
    let k : Keeps p.nodes r.nodes = subst (λ (ns : List Node). Keeps p.nodes ns) (sym m.nodes) x.keeps in
    by_path (postfix_path a n x.answer w q.token.kind u refl e m t.tree t.is) (same_both x.answer.same m.same) made.stays
    (λ y i. covered reads (λ k w e. looser 16 f.in_ after_postfix k w e || beside k w e) (behind_sign f.in_) y.kind y.newline y.escaped (plain_is_read y i.1)) refl (one_held p.nodes made h) (Keeps-trans k (Keeps-made made.made)) refl (one_lies made)

-- ---- a prefix operator

-- what stands behind the operand stands behind the node
abbrev behind_prefix : Flags → Test
behind_prefix f = record { base = widest Update; by = λ cs. looser 16 f.in_ after_expression }

prefix_edge : (f : Flags) (o : Kind) (s : ℕ) → Inside rule (record { kind = update_expression; op = of o; flags = prefix_flag; extent = exact }) (after (at Update f)) (behind_prefix f) end (prefix_slots f o) s
prefix_edge f o s = record { ends = λ p cs vs j ls mid d e. e }

prefix_heads : (f : Flags) (l : Label) (cs vs : Slots) (t : Tree) (y : Lexeme) → target_of l cs ≡ Some t → Admits (behind_prefix f) (tree t.label t.slots vs) y → Admits (after (at Unary f)) (tree l cs vs) y
prefix_heads f l cs vs t y e h = admits (at Unary f) (tree l cs vs) y (subst (λ (r : Row). IsTrue (seen (looser 16 f.in_ r) y)) (sym (row_of_target l cs t e)) h.1)

module _ {text : List ℕ} {f : Flags} {p : Parser} (a : At text f p) where
  abbrev Prefixed : Kind → Type 0
  Prefixed o = p.token.kind ≡ o → Goes rule (Lex text) (after (at Update f)) end (rule (at Update f)) p.prev_token_end (prefix_part f o) p.prev_token_end (λ us. us) (still 0)

  by_prefix : (o : Kind) → one_of_kinds update_kinds o ≡ true → Prefixed o
  unfolding rule rule_of covers
  by_prefix o h = of_update Prefixed o h (λ e. at_kind a Plus2 e refl) (λ e. at_kind a Minus2 e refl)

module _ {text : List ℕ} {f : Flags} {p q : Parser} (a : At text f p) where
  sign_passed : (o : Kind) → one_of_kinds update_kinds o ≡ true → p.token.kind ≡ o → p.token.escaped ≡ false → Moved text f p q → Path text f (behind_prefix f) (prefix_slots f o) p (symbol SimpleTarget f) q (λ us. us)
  sign_passed o h e n m = token o a e n (of_update (λ o. is_read_kind o ≡ true) o h refl refl) m

  prefix_path : {r : Parser} (o : Kind) → one_of_kinds update_kinds o ≡ true → p.token.kind ≡ o → p.token.escaped ≡ false → Moved text f p q → (x : Answer text f (at Unary f) q r) → (t : Tree) → target_of x.label x.slots ≡ Some t → Path text f (after (at Update f)) (rule (at Update f)) p nothing r (tree (flagged_here update_expression (of o) prefix_flag p r) (tree t.label t.slots end))
  prefix_path o h e n m x t k = by_prefix a o h e ⟼ flagged_by a (prefix_edge f o p.prev_token_end) (sign_passed o h e n m ⟶ target_path (of_unary f) (prefix_heads f) x t k)

  prefix_fails : (o : Kind) → one_of_kinds update_kinds o ≡ true → p.token.kind ≡ o → p.token.escaped ≡ false → Moved text f p q → Fails rule (Lex text) (behind_prefix f) end (symbol SimpleTarget f) q.prev_token_end → Underived text (at Update f) p.prev_token_end
  prefix_fails o h e n m x = fails_by (by_prefix a o h e ▹✗ fails_node (prefix_edge f o p.prev_token_end) (sign_passed o h e n m ⟶✗ x))

  -- the operand can't be read, or is no target
  pub no_operand : (o : Kind) → one_of_kinds update_kinds o ≡ true → p.token.kind ≡ o → p.token.escaped ≡ false → Moved text f p q → Underived text (at Unary f) q.prev_token_end → Underived text (at Update f) p.prev_token_end
  no_operand o h e n m x = prefix_fails o h e n m (target_unread (of_unary f) (prefix_heads f) x)

  pub wrong_operand : {r : Parser} (o : Kind) → one_of_kinds update_kinds o ≡ true → p.token.kind ≡ o → p.token.escaped ≡ false → Moved text f p q → (x : Answer text f (at Unary f) q r) → target_of x.label x.slots ≡ None → Underived text (at Update f) p.prev_token_end
  wrong_operand o h e n m x k = prefix_fails o h e n m (target_fails (of_unary f) (prefix_heads f) x k)

-- the operand was read, and the node was made
pub prefix_answers : {text : List ℕ} {f : Flags} {p q r z : Parser} {operand target id : NodeId} {o : UpdateOperator} (s : Span) → At text f p → (u : one_of_kinds update_kinds p.token.kind ≡ true) → row_in update_operators p.token.kind ≡ Some o → (m : Moved text f p q) → (x : Numbered text f (at Unary f) q r operand) → TargetNode r.nodes (length q.nodes) (length r.nodes) x.answer.label x.answer.slots target
    → s.start ≡ p.token.span.start → s.end ≡ r.prev_token_end → MadeHere (record (plain_label node.UpdateExpression (op_made.Update o) s) { flags = prefix_flag }) (Some target ∷ []) r z id → Numbered text f (at Update f) p z id
prefix_answers {text} {f} {p} {q} {r} {z} {operand} {target} {id} {o} s a u v m x t b c d =
    let e : p.token.escaped ≡ false = plain_sign p.token.kind a refl (update_plain p.token.kind u).1 (update_plain p.token.kind u).2 (update_plain p.token.kind u).0 in
    let l : record (plain_label node.UpdateExpression (op_made.Update o) s) { flags = prefix_flag } ≡ flagged_here update_expression (of p.token.kind) prefix_flag p r = ap (λ (m : Label). record m { flags = prefix_flag }) (named_made p r o p.token.kind s (update_named p.token.kind o u v) b c) in
    let made : MadeHere (flagged_here update_expression (of p.token.kind) prefix_flag p r) (Some target ∷ []) r z id = subst (λ (v : Label). MadeHere v (Some target ∷ []) r z id) l d in
    let h : Holds r.nodes (length p.nodes) (length r.nodes) target.0 t.tree.label t.tree.slots = subst (λ (ns : List Node). Holds r.nodes (length ns) (length r.nodes) target.0 t.tree.label t.tree.slots) m.nodes t.holds in
    let k : Keeps p.nodes r.nodes = subst (λ (ns : List Node). Keeps ns r.nodes) m.nodes x.keeps in
    by_path (prefix_path a p.token.kind u refl e m x.answer t.tree t.is) (same_both m.same x.answer.same) made.stays
    (λ y i. subst (λ (w : Row). IsTrue (seen (looser 16 f.in_ w) y || seen beside y)) (row_of_target x.answer.label x.answer.slots t.tree t.is) (x.answer.stops y i)) refl (one_held p.nodes made h) (Keeps-trans k (Keeps-made made.made)) refl (one_lies made)
