-- Assignments to simple targets (ECMA-262, 13.15), and where none stands.
use Rattle.js_base.specs.Operators.{row_of as row_in, assignment_operators}
use Rattle.std.specs.Prelude.{IsSome, is_some}
use Rattle.std.proofs.Common.{ℕ, ◌≡◌, ◌⊎◌, inl, inr, List, [], ◌∷◌, Bool, true, false, not, ◌&&◌, ◌||◌, IsTrue, Option, Some, None, refl, sym, ap, subst, ◌∙◌}
use Rattle.std.proofs.lemmas.Bool.{false≢true, and_parts, and_from, or_left, or_right, not-true}
use Rattle.js_base.specs.declared.kind.Kind.{Kind}
use Rattle.js_base.specs.declared.kind.Kind.TheVariants.{Eq, RAngle, PrivateIdentifier, Yield}
use Rattle.js_base.specs.Kinds.{same_kind, one_of_kinds}
use Rattle.js_base.specs.Texts.{words}
use Rattle.js_base.proofs.KindLemmas.{kind_of_same}
use Rattle.js_grammar.specs.Trees.{Label, Slots, end, tree, Tree, assignment_expression}
use Rattle.js_grammar.specs.Grammar.{Lexeme, Lexemes, Look, here, seen, such, alt, is, when, Takes, ◌▸◌, is_seq, is_lexeme}
use Rattle.js_grammar.specs.Insertion.{Row, after_expression, assign_operators}
use Rattle.js_grammar.specs.Lexemes.{is_word}
use Rattle.js_grammar.specs.Parsing.{Test, plain, full, always, Admits, Goes, Fails, still}
use Rattle.js_grammar.specs.Productions.{G, Flags, at, tok, op, branches, Arrow', Assignment, Conditional, Short, SimpleTarget}
use Rattle.js_grammar.specs.Productions.{sym as symbol, Yield as Yield'}
use Rattle.js_grammar.specs.Table.{rule, rule_of}
use Rattle.js_grammar.specs.Follow.{after, looser}
use Rattle.js_grammar.proofs.Looks.{covers, covered, apart, same_self, not_both}
use Rattle.js_grammar.proofs.Calculus.{Between, inside_full, ◌▹◌, both, stay, left, right, then_by, part_fails, weaken_fails_on, fails_node, fails_alt, fails_lexeme, fails_when, fails_under, fails_rule}
use Rattle.js_grammar.proofs.FollowLaws.{admits, passes_on, same_read}
use Rattle.parse_shared.specs.js_cursor.Parsers.{Parser}
use Rattle.parse_shared.specs.js_cursor.Moves.{is_last}
use Rattle.parse_shared.proofs.laws_shared.Giving.{fails_unescaped}
use Rattle.parse_shared.specs.laws_shared.Answers.{Underived, Answer}
use Rattle.parse_shared.specs.laws_shared.States.{At}
use Rattle.parse_shared.specs.laws_shared.Lexemes.{Lex, other_goals, is_read_kind}
use Rattle.parse_targets.specs.Others.{NoYield, OnlyOthers}
use Rattle.parse_targets.specs.Targets.{target_of}
use Rattle.parse_targets.proofs.Covers.{row_of_target, target_path, target_fails, target_unread}
use Rattle.parse_targets.proofs.ArraysBeforeSigns.{array_part, no_array_part, no_array_unread}
use Rattle.parse_targets.specs.Targets.{is_literal}
use Rattle.parse_shared.proofs.laws_shared.Dead.{live, lives}
use Rattle.parse_shared.proofs.laws_shared.Paths.{Path, fails_at, ◌⟶✗◌}
use Rattle.parse_shared.proofs.laws_shared.Signs.{other_kind}
use Rattle.parse_targets.proofs.Targets.{of_short}
use Rattle.parse_shared.proofs.laws_shared.Verdicts.{verdict_of}

abbrev pub an_assign : Look
an_assign k w e = one_of_kinds assign_operators k && not e

-- what holds of each assignment operator, by computing
abbrev is_assign : Look
is_assign k w e = one_of_kinds assign_operators k

abbrev assigns_so : Look
assigns_so k w e = (is_read_kind k && not (is_word k || same_kind PrivateIdentifier k)) && (not (same_kind RAngle k) && not (is_last k))

assign_facts : covers is_assign assigns_so ≡ true
unfolding covers words
assign_facts = refl

pub record Assigns (k : Kind) : Type 0 where
  pub is_read : is_read_kind k ≡ true
  pub unescaped : (is_word k || same_kind PrivateIdentifier k) ≡ false
  pub no_angle : same_kind RAngle k ≡ false
  pub no_end : is_last k ≡ false

pub assigns : (k : Kind) → one_of_kinds assign_operators k ≡ true → Assigns k
assigns k h =
    let x = and_parts _ _ (covered is_assign assigns_so assign_facts k false false h) in
    let a = and_parts (is_read_kind k) _ x.0 in
    let b = and_parts (not (same_kind RAngle k)) _ x.1 in
    record { is_read = a.0; unescaped = not-true _ a.1; no_angle = not-true _ b.0; no_end = not-true _ b.1 }

abbrev has_row : Look
has_row k w e = is_some (row_in assignment_operators k)

assign_rows : covers is_assign has_row ≡ true
unfolding covers
assign_rows = refl

pub assign_some_at : {k l : Kind} → l ≡ k → one_of_kinds assign_operators k ≡ true → IsSome (row_in assignment_operators l)
assign_some_at {k} e h = subst (λ (j : Kind). IsSome (row_in assignment_operators j)) (sym e) (covered is_assign has_row assign_rows k false false h)

-- ---- one branch of many

-- no kind is twice in the list
abbrev distinct : List Kind → Bool
distinct [] = true
distinct (k ∷ ks) = not (one_of_kinds ks k) && distinct ks

module _ {text : List ℕ} {X : Test} {s : ℕ} (g : Kind → G) where
  pub no_branch : (ks : List Kind) → ((k : Kind) → one_of_kinds ks k ≡ true → Fails rule (Lex text) X end (g k) s) → Fails rule (Lex text) X end (branches ks g) s
  no_branch [] f = record { no = λ ts vs k ls rest l d e. elim d [ ] }
  no_branch (k ∷ []) f = f k (or_left _ _ (same_self k))
  no_branch (k ∷ j ∷ js) f = fails_alt (f k (or_left _ _ (same_self k))) (no_branch (j ∷ js) (λ i h. f i (or_right (same_kind k i) _ h)))

  first_or_later : (k j : Kind) (js : List Kind) (o : Kind) (b : Bool) → same_kind k o ≡ b → (b || one_of_kinds (j ∷ js) o) ≡ true → ((i : Kind) → one_of_kinds (k ∷ j ∷ js) i ≡ true → same_kind i o ≡ false → Fails rule (Lex text) X end (g i) s) → (same_kind k o ≡ true → one_of_kinds (j ∷ js) o ≡ false) → (one_of_kinds (j ∷ js) o ≡ true → Goes rule (Lex text) X end (branches (j ∷ js) g) s (g o) s (λ us. us) (still 0)) → Goes rule (Lex text) X end (branches (k ∷ j ∷ js) g) s (g o) s (λ us. us) (still 0)
  first_or_later k j js o true e h f d r = subst (λ (v : Kind). Goes rule (Lex text) X end (branches (k ∷ j ∷ js) g) s (g v) s (λ us. us) (still 0)) (kind_of_same k o e) (left (no_branch (j ∷ js) (λ i m. f i (or_right (same_kind k i) _ m) (other i m (same_kind i o) refl))))
    where
      other : (i : Kind) → one_of_kinds (j ∷ js) i ≡ true → (b : Bool) → same_kind i o ≡ b → same_kind i o ≡ false
      other i m true q = absurd (false≢true (sym (d e) ∙ subst (λ (v : Kind). one_of_kinds (j ∷ js) v ≡ true) (kind_of_same i o q) m))
      other i m false q = q
  first_or_later k j js o false e h f d r = right (f k (or_left _ _ (same_self k)) e) ▹ r h

  pub one_branch : (ks : List Kind) (o : Kind) → one_of_kinds ks o ≡ true → distinct ks ≡ true → ((k : Kind) → one_of_kinds ks k ≡ true → same_kind k o ≡ false → Fails rule (Lex text) X end (g k) s) → Goes rule (Lex text) X end (branches ks g) s (g o) s (λ us. us) (still 0)
  one_branch [] o h d f = absurd (false≢true h)
  one_branch (k ∷ []) o h d f = subst (λ (v : Kind). Goes rule (Lex text) X end (g k) s (g v) s (λ us. us) (still 0)) (kind_of_same k o (alone (same_kind k o) h)) stay
    where
      alone : (b : Bool) → (b || false) ≡ true → b ≡ true
      alone true q = refl
      alone false q = absurd (false≢true q)
  one_branch (k ∷ j ∷ js) o h d f = first_or_later k j js o (same_kind k o) refl h f (λ e. subst (λ (v : Kind). one_of_kinds (j ∷ js) v ≡ false) (kind_of_same k o e) (not-true _ (and_parts (not (one_of_kinds (j ∷ js) k)) _ d).0)) (λ m. one_branch (j ∷ js) o m (and_parts (not (one_of_kinds (j ∷ js) k)) _ d).1 (λ i n. f i (or_right (same_kind k i) _ n)))

-- ---- the slots of an assignment

abbrev behind_target : Flags → Kind → G
behind_target f o = tok o ▸ symbol Assignment f

abbrev pub assign_slots : Flags → Kind → G
assign_slots f o = symbol SimpleTarget f ▸ behind_target f o

abbrev pub assign_part : Flags → Kind → G
assign_part f o = op assignment_expression o (assign_slots f o)

-- no YieldExpression begins where no `yield` stands, or it is a name
pub no_yield : {text : List ℕ} {f : Flags} {p : Parser} → At text f p → (p.token.kind ≡ Yield → f.yield_ ≡ false) → NoYield text f p.prev_token_end
unfolding covers apart
no_yield {text} {f} {p} a n = go (same_kind Yield p.token.kind) refl
  where
    go : (b : Bool) → same_kind Yield p.token.kind ≡ b → NoYield text f p.prev_token_end
    go true e = fails_when (n (sym (kind_of_same Yield p.token.kind e)))
    go false e = fails_at a (when f.yield_ (symbol Yield' f)) (Yield ∷ []) refl (other_kind Yield p.token.kind (λ k. false≢true (sym e ∙ subst (λ (v : Kind). same_kind Yield v ≡ true) (sym k) refl)))

-- nor where the word there has an escape
pub no_yield_escaped : {text : List ℕ} {f : Flags} {p : Parser} → At text f p → p.token.escaped ≡ true → NoYield text f p.prev_token_end
unfolding rule rule_of apart
no_yield_escaped {f = f} a e = fails_under (fails_rule {X' = plain full} (λ l cs vs y d. (refl, refl)) (fails_unescaped (rule (at Yield' f)) a refl e))

pub assignment_left : (f : Flags) → live (rule (at Assignment f)) ≡ alt (such (at Conditional f) always) (alt (such (at Arrow' f) always) (alt (when f.yield_ (symbol Yield' f)) (alt (branches assign_operators (assign_part f)) (array_part f))))
unfolding rule rule_of apart
assignment_left f = refl

-- with all its parts
pub all_parts : {text : List ℕ} (f : Flags) (s : ℕ) → Goes rule (Lex text) (after (at Assignment f)) end (rule (at Assignment f)) s (alt (such (at Conditional f) always) (alt (such (at Arrow' f) always) (alt (when f.yield_ (symbol Yield' f)) (alt (branches assign_operators (assign_part f)) (array_part f))))) s (λ us. us) (still 0)
all_parts {text} f s = subst (λ (g : G). Goes rule (Lex text) (after (at Assignment f)) end (rule (at Assignment f)) s g s (λ us. us) (still 0)) (assignment_left f) (lives (rule (at Assignment f)))

pub to_choice : {text : List ℕ} (f : Flags) (s : ℕ) → NoYield text f s → Goes rule (Lex text) (after (at Assignment f)) end (rule (at Assignment f)) s (alt (such (at Conditional f) always) (alt (such (at Arrow' f) always) (alt (branches assign_operators (assign_part f)) (array_part f)))) s (λ us. us) (still 0)
to_choice f s y = all_parts f s ▹ both stay (both stay (right y))

pub arrow_passes : passes_on Assignment Arrow' ≡ true
unfolding covers
arrow_passes = refl

-- where no arrow function is derived
pub to_parts : {text : List ℕ} (f : Flags) (s : ℕ) → OnlyOthers text f s → Goes rule (Lex text) (after (at Assignment f)) end (rule (at Assignment f)) s (alt (such (at Conditional f) always) (alt (branches assign_operators (assign_part f)) (array_part f))) s (λ us. us) (still 0)
to_parts f s n = to_choice f s n.1 ▹ both stay (right (weaken_fails_on n.0 (same_read (at Assignment f) (at Arrow' f) arrow_passes refl)))

pub assign_follows : (b : Bool) → covers an_assign (looser 4 b after_expression) ≡ true
unfolding covers
assign_follows true = refl
assign_follows false = refl

pub assign_heads : (f : Flags) (l : Label) (cs vs : Slots) (t : Tree) (y : Lexeme) → target_of l cs ≡ Some t → Admits (plain an_assign) (tree t.label t.slots vs) y → Admits (after (at Short f)) (tree l cs vs) y
assign_heads f l cs vs t y e h = admits (at Short f) (tree l cs vs) y (subst (λ (r : Row). IsTrue (seen (looser 4 f.in_ r) y)) (sym (row_of_target l cs t e)) (covered an_assign (looser 4 f.in_ after_expression) (assign_follows f.in_) y.kind y.newline y.escaped h.0))

-- before an operator, the test of the target
pub before_sign : (f : Flags) (o : Kind) → one_of_kinds assign_operators o ≡ true → (X : Test) (s : ℕ) → Between rule X (plain an_assign) end (symbol SimpleTarget f) (behind_target f o) s
before_sign f o h X s = record { admits = λ ts us vs j k ls mid rest d d' e. go ts d' }
  where
    go : (ts : Slots) {us vs : Slots} {j k : ℕ} {mid rest : Lexemes} → Takes rule (behind_target f o) end us j mid vs k rest → Admits (plain an_assign) ts (here mid)
    go ts (is_seq (is_lexeme {x = x} q) d) = let z = and_parts (same_kind o x.kind) (not x.escaped) q in (and_from _ _ (subst (λ (k : Kind). one_of_kinds assign_operators k ≡ true) (kind_of_same o x.kind z.0) h) z.1, refl)

module _ {text : List ℕ} {f : Flags} {p q : Parser} (x : Answer text f (at Short f) p q) (X : Test) where
  pub then_assign : (o : Kind) → one_of_kinds assign_operators o ≡ true → (t : Tree) → target_of x.label x.slots ≡ Some t → Path text f X (assign_slots f o) p (behind_target f o) q (tree t.label t.slots)
  then_assign o h t e = let r = target_path (of_short f) (assign_heads f) x t e in record { at = r.at; further = r.further; pass = r.pass; walked = r.walked; verdict = verdict_of r.verdict (λ y. record { reach = y.reach; near = y.near; goes = then_by y.goes (before_sign f o h X p.prev_token_end) }) (λ n. part_fails n (before_sign f o h X p.prev_token_end)) }

  pub not_target : (o : Kind) → one_of_kinds assign_operators o ≡ true → target_of x.label x.slots ≡ None → Fails rule (Lex text) X end (assign_slots f o) p.prev_token_end
  not_target o h e = part_fails (target_fails (of_short f) (assign_heads f) x e) (before_sign f o h X p.prev_token_end)

  -- this operator doesn't stand behind it
  no_assign_slots : (o : Kind) → one_of_kinds assign_operators o ≡ true → ((y : Lexeme) → Lex text q.prev_token_end y → IsTrue (seen (is o) y) → ⊥) → Fails rule (Lex text) X end (assign_slots f o) p.prev_token_end
  no_assign_slots o h n = by (target_of x.label x.slots) refl
    where
      by : (r : Option Tree) → target_of x.label x.slots ≡ r → Fails rule (Lex text) X end (assign_slots f o) p.prev_token_end
      by (Some t) e = then_assign o h t e ⟶✗ part_fails {X' = plain full} (fails_lexeme (is o) n) (record { admits = λ ts us vs j k ls mid rest d d' e. (refl, refl) })
      by None e = not_target o h e

is_sign : (o : Kind) (y : Lexeme) → one_of_kinds assign_operators o ≡ true → IsTrue (seen (is o) y) → IsTrue (seen an_assign y)
is_sign o y h s = let z = and_parts (same_kind o y.kind) (not y.escaped) s in and_from _ _ (subst (λ (k : Kind). one_of_kinds assign_operators k ≡ true) (kind_of_same o y.kind z.0) h) z.1

-- no assignment operator stands behind a ShortCircuitExpression
pub unassigned : {text : List ℕ} {f : Flags} {p q : Parser} → OnlyOthers text f p.prev_token_end → Answer text f (at Short f) p q → ((y : Lexeme) → Lex text q.prev_token_end y → IsTrue (seen an_assign y) → ⊥) → Goes rule (Lex text) (after (at Assignment f)) end (rule (at Assignment f)) p.prev_token_end (such (at Conditional f) always) p.prev_token_end (λ us. us) (still 0)
unassigned {f = f} {p = p} a x n = to_parts f p.prev_token_end a ▹ left (fails_alt (no_branch (assign_part f) assign_operators (λ o h. fails_node inside_full (no_assign_slots x (plain full) o h (λ y l s. n y l (is_sign o y h s))))) (fails_node inside_full (no_array_part x (inr (λ y l s. n y l (is_sign Eq y refl s))))))

no_assignment : {text : List ℕ} {X : Test} (f : Flags) {s : ℕ} → f.cover ≡ true → Underived text (at Short f) s → Fails rule (Lex text) X end (alt (branches assign_operators (assign_part f)) (array_part f)) s
no_assignment f {s} v x = fails_alt (no_branch (assign_part f) assign_operators (λ o h. fails_node inside_full (part_fails (target_unread (of_short f) (assign_heads f) x) (before_sign f o h (plain full) s)))) (fails_node inside_full (no_array_unread v x))

-- where neither a conditional expression nor a target begins, an arrow function is left
pub only_arrow : {text : List ℕ} (f : Flags) {s : ℕ} → f.cover ≡ true → NoYield text f s → Fails rule (Lex text) (after (at Assignment f)) end (such (at Conditional f) always) s → Underived text (at Short f) s → Goes rule (Lex text) (after (at Assignment f)) end (rule (at Assignment f)) s (such (at Arrow' f) always) s (λ us. us) (still 0)
only_arrow f {s} v y c x = to_choice f s y ▹ (right c ▹ left (no_assignment f v x))

pub nothing_assigned : {text : List ℕ} (f : Flags) {s : ℕ} → f.cover ≡ true → OnlyOthers text f s → Underived text (at Short f) s → Goes rule (Lex text) (after (at Assignment f)) end (rule (at Assignment f)) s (such (at Conditional f) always) s (λ us. us) (still 0)
nothing_assigned f {s} v a x = to_parts f s a ▹ left (no_assignment f v x)

abbrev an_assign_kind : Look
an_assign_kind k w e = one_of_kinds assign_operators k

abbrev another_goal : Look
another_goal k w e = one_of_kinds other_goals k

no_assign_other : apart an_assign_kind another_goal ≡ true
unfolding apart
no_assign_other = refl

-- no lexeme of another goal is an operator of an assignment
pub assign_plain : (k : Kind) → one_of_kinds assign_operators k ≡ true → one_of_kinds other_goals k ≡ false
assign_plain k h = go (one_of_kinds other_goals k) refl
  where
    go : (b : Bool) → one_of_kinds other_goals k ≡ b → one_of_kinds other_goals k ≡ false
    go true e = absurd (not_both an_assign_kind another_goal no_assign_other k false false h e)
    go false e = e

-- one stands there
all_distinct : distinct assign_operators ≡ true
all_distinct = refl

pub assigned : {text : List ℕ} {f : Flags} {p q : Parser} → OnlyOthers text f p.prev_token_end → (x : Answer text f (at Short f) p q) → (o : Kind) → one_of_kinds assign_operators o ≡ true → ((y : Lexeme) → Lex text q.prev_token_end y → one_of_kinds other_goals y.kind ≡ false → y.kind ≡ o) → Fails rule (Lex text) (after (at Assignment f)) end (such (at Conditional f) always) p.prev_token_end → (is_literal x.label.kind ≡ false) ⊎ (same_kind Eq o ≡ false) → Goes rule (Lex text) (after (at Assignment f)) end (rule (at Assignment f)) p.prev_token_end (assign_part f o) p.prev_token_end (λ us. us) (still 0)
assigned {text} {f} {p} {q} a x o h k n b = to_parts f p.prev_token_end a ▹ (right n ▹ (left (fails_node inside_full (no_array_part x (other b))) ▹ one_branch (assign_part f) assign_operators o h all_distinct (λ i m d. fails_node inside_full (no_assign_slots x (plain full) i m (λ y l s. let e = (and_parts (same_kind i y.kind) (not y.escaped) s).0 in false≢true (sym d ∙ subst (λ (v : Kind). same_kind i v ≡ true) (k y l (subst (λ (v : Kind). one_of_kinds other_goals v ≡ false) (kind_of_same i y.kind e) (assign_plain i m))) e))))))
  where
    other : (is_literal x.label.kind ≡ false) ⊎ (same_kind Eq o ≡ false) → (is_literal x.label.kind ≡ false) ⊎ ((y : Lexeme) → Lex text q.prev_token_end y → IsTrue (seen (is Eq) y) → ⊥)
    other (inl e) = inl e
    other (inr e) = inr (λ y l s. let i = (and_parts (same_kind Eq y.kind) (not y.escaped) s).0 in false≢true (sym e ∙ subst (λ (v : Kind). same_kind Eq v ≡ true) (k y l (ap (one_of_kinds other_goals) (sym (kind_of_same Eq y.kind i)))) i))
