-- YieldExpressions (ECMA-262, 15.5).
use Rattle.std.proofs.Common.{ℕ, ◌≡◌, ◌⊎◌, inl, inr, Bool, true, false, not, ◌&&◌, ◌||◌, IsTrue, List, [], ◌∷◌, length, Some, None, refl, sym, ap, subst, ◌∙◌}
use Rattle.std.proofs.lemmas.Bool.{false≢true, and_from, or_left, or_right, not-true}
use Rattle.js_base.specs.declared.kind.Kind.{Kind}
use Rattle.js_base.specs.declared.kind.Kind.TheVariants.{RAngle, RCurly, RegExp, Star, Yield}
use Rattle.js_base.specs.declared.span.Span.{Span}
use Rattle.js_base.specs.Kinds.{same_kind, one_of_kinds}
use Rattle.js_base.proofs.KindLemmas.{kind_of_same}
use Rattle.js_grammar.specs.Trees.{Span as TreeSpan, Label, Slots, end, hole, tree, yield_expression, no_op}
use Rattle.js_grammar.specs.Grammar.{Lexeme, Lexemes, Look, here, seen, exact, such, nothing, alt, empty_slot, Takes, is_seq, is_left, is_right, is_lexeme, is_look, is_such, is_empty_slot, ◌▸◌}
use Rattle.js_grammar.specs.Insertion.{after_yield}
use Rattle.js_grammar.specs.Lexed.{Lexes}
use Rattle.js_grammar.specs.Parsing.{Test, plain, full, Admits, always, Goes, Fails, still}
use Rattle.js_grammar.specs.Productions.{G, Flags, at, tok, mk, make, slot, no_newline, delegate_flag, Arrow', Assignment, Conditional, Target}
use Rattle.js_grammar.specs.Productions.{sym as symbol, Yield as Yield'}
use Rattle.js_grammar.specs.Table.{rule, rule_of}
use Rattle.js_grammar.specs.FirstSets.{first}
use Rattle.js_grammar.specs.Follow.{edge_of, follow, after, looser, widest}
use Rattle.js_grammar.proofs.First.{starts}
use Rattle.js_grammar.proofs.FirstClaims.{firsts}
use Rattle.js_grammar.proofs.FirstRules.{fails_here}
use Rattle.js_grammar.proofs.Looks.{covers, covered, apart, not_both}
use Rattle.js_grammar.proofs.Calculus.{Inside, On, here_at, inside_full, ◌▹◌, ◌▹✗◌, left, right, where_true, weaken_fails_on, fails_alt, fails_node, fails_rule, reads_empty_slot}
use Rattle.js_grammar.proofs.FollowLaws.{fails_by}
use Rattle.laws_shared.specs.js_tree.declared.id.NodeId.{NodeId}
use Rattle.laws_shared.specs.js_tree.declared.kind.NodeKind.TheVariants as node
use Rattle.laws_shared.specs.js_tree.declared.op.Op.TheVariants as op_made
use Rattle.laws_shared.specs.js_tree.Nodes.{Node}
use Rattle.laws_shared.specs.js_tree.Holding.{Holds, Keeps}
use Rattle.laws_shared.proofs.js_tree.HoldingLemmas.{HoldsAll-one_hole, Keeps-refl, Keeps-trans, Keeps-made, Keeps-longer}
use Rattle.laws_shared.specs.js_cursor.Parsers.{Parser}
use Rattle.laws_shared.specs.Answers.{Underived, Answer, Numbered}
use Rattle.laws_shared.specs.Lexemes.{Lex, other_goals, slashes, template_tails}
use Rattle.laws_shared.specs.Moves.{Moved, MadeHere, plain_label}
use Rattle.laws_shared.specs.States.{At}
use Rattle.laws_shared.proofs.Here.{told_plain, angled, uncut, kind_here, newline_here, sign_here, slash_here}
use Rattle.laws_shared.proofs.MadeNodes.{node_held, one_held, one_lies}
use Rattle.laws_shared.proofs.Moving.{same_both}
use Rattle.laws_shared.proofs.NamedFirsts.{fails_at_yield}
use Rattle.laws_shared.proofs.Paths.{Path, angles, reads, ◌⟼◌, ◌⟶◌, ◌⟶✗◌, fails_at, token, last_called, noded_by, flagged_by, flagged_here, label_here, by_symbol_as}
use Rattle.laws_shared.proofs.Signs.{other_kind, plain_sign}
use Rattle.laws_shared.proofs.Tight.{plain_lex}
use Rattle.laws_shared.proofs.PlainSigns.{star_plain}
use Rattle.laws_patterns.proofs.laws_primary.Operands.{by_path}
use Rattle.laws_patterns.proofs.laws_primary.AsyncWords.{same_line, no_same_line}
use Rattle.laws_operators.proofs.OnePlace.{brace_of, tail_of}
use Rattle.laws_patterns.proofs.Bindings.{ended_by}
use Rattle.parse_targets.specs.Taken.{NoTargetFrom, goes_through}
use Rattle.parse_targets.proofs.Assigned.{assign_part, all_parts}
use Rattle.parse_targets.proofs.ArraysBeforeSigns.{array_part}
use Rattle.js_grammar.specs.Insertion.{assign_operators}
use Rattle.js_grammar.specs.Productions.{branches}
use Rattle.laws_operators.specs.Yields.{BeginsYield, yields_argument}

-- ---- its slots

abbrev argument_of : Flags → G
argument_of f = no_newline ▸ symbol Assignment f

abbrev yield_slots : Flags → G
yield_slots f = tok Yield ▸ slot (argument_of f)

abbrev delegate_slots : Flags → G
delegate_slots f = tok Yield ▸ no_newline ▸ tok Star ▸ symbol Assignment f

abbrev bare_part : Flags → G
bare_part f = mk yield_expression (yield_slots f)

abbrev delegate_part : Flags → G
delegate_part f = make yield_expression no_op delegate_flag (delegate_slots f)

-- what may stand behind them: what may behind the argument, or behind a bare `yield`
abbrev by_argument : Flags → Slots → Look
by_argument f (tree b es end) k w e = follow (at Assignment f) (edge_of b es) k w e
by_argument f (hole end) k w e = looser 2 f.in_ after_yield k w e
by_argument f _ k w e = false

abbrev behind_argument : Flags → Test
behind_argument f = record { base = widest Assignment; by = λ ts. by_argument f ts }

inside_yield : (f : Flags) (s : ℕ) → Inside rule (record { kind = yield_expression; op = no_op; flags = 0; extent = exact }) (after (at Assignment f)) (behind_argument f) end (yield_slots f) s
inside_yield f s = record { ends = λ p cs vs j ls mid d e. go p cs vs d e }
  where
    go : (p : TreeSpan) (cs vs : Slots) {i j : ℕ} {ls mid : Lexemes} → Takes rule (yield_slots f) end cs i ls end j mid → Admits (after (at Assignment f)) (tree (record { kind = yield_expression; op = no_op; flags = 0; span = p }) cs vs) (here mid) → Admits (behind_argument f) cs (here mid)
    go p cs vs (is_seq (is_lexeme c) (is_left (is_seq (is_look l) (is_such d e)))) x = x
    go p cs vs (is_seq (is_lexeme c) (is_right is_empty_slot)) x = x

inside_delegate : (f : Flags) (s : ℕ) → Inside rule (record { kind = yield_expression; op = no_op; flags = delegate_flag; extent = exact }) (after (at Assignment f)) (behind_argument f) end (delegate_slots f) s
inside_delegate f s = record { ends = λ p cs vs j ls mid d e. go p cs vs d e }
  where
    go : (p : TreeSpan) (cs vs : Slots) {i j : ℕ} {ls mid : Lexemes} → Takes rule (delegate_slots f) end cs i ls end j mid → Admits (after (at Assignment f)) (tree (record { kind = yield_expression; op = no_op; flags = delegate_flag; span = p }) cs vs) (here mid) → Admits (behind_argument f) cs (here mid)
    go p cs vs (is_seq (is_lexeme c) (is_seq (is_look l) (is_seq (is_lexeme o) (is_such d e)))) x = x

on_argument : (f : Flags) (s : ℕ) → On rule (behind_argument f) (after (at Assignment f)) end (such (at Assignment f) always) s
on_argument f s = record { admits = λ ts vs k ls rest d e. go ts vs d e }
  where
    go : (ts vs : Slots) {i k : ℕ} {ls rest : Lexemes} → Takes rule (such (at Assignment f) always) end ts i ls vs k rest → Admits (behind_argument f) ts (here rest) → Admits (after (at Assignment f)) ts (here rest)
    go ts end (is_such d h) x = x
    go ts vs (is_such d h) x = absurd (false≢true x.1)

-- ---- what its argument begins with, by computing

abbrev an_argument : Look
an_argument k w e = yields_argument k

abbrev argued : Look
argued k w e = not w && yields_argument k

abbrev too_tight : Bool → Look
too_tight b k w e = not (looser 2 b after_yield k w e)

argued_tight : (b : Bool) → covers argued (too_tight b) ≡ true
unfolding covers
argued_tight true = refl
argued_tight false = refl

abbrev unargued : Look
unargued k w e = (w || not (yields_argument k)) && reads k w e

unargued_loose : (b : Bool) → covers unargued (λ k w e. looser 2 b after_yield k w e) ≡ true
unfolding covers
unargued_loose true = refl
unargued_loose false = refl

no_angle : apart angles an_argument ≡ true
unfolding apart
no_angle = refl

abbrev no_argument_angle : Look
no_argument_angle k w e = not (same_kind RAngle k)

argument_whole : covers an_argument no_argument_angle ≡ true
unfolding covers
argument_whole = refl

abbrev a_slash : Look
a_slash k w e = one_of_kinds slashes k

slash_argued : covers a_slash an_argument ≡ true
unfolding covers
slash_argued = refl

abbrev a_brace : Look
a_brace k w e = one_of_kinds (RCurly ∷ template_tails) k

-- neither a brace nor a part of a template that begins with one begins an argument
no_brace : apart an_argument a_brace ≡ true
unfolding apart
no_brace = refl

-- the current token is none of an argument's, or stands on a new line
abbrev Bare : Parser → Type 0
Bare q = (q.token.is_on_new_line ≡ true) ⊎ (yields_argument q.token.kind ≡ false)

module _ {text : List ℕ} {f : Flags} {q : Parser} (b : At text f q) where
  -- one stands here
  argument_there : yields_argument q.token.kind ≡ true → (y : Lexeme) → Lex text q.prev_token_end y → yields_argument y.kind ≡ true
  argument_there h y l = go (one_of_kinds other_goals y.kind) refl (same_kind RegExp y.kind) refl
    where
      go : (r : Bool) → one_of_kinds other_goals y.kind ≡ r → (t : Bool) → same_kind RegExp y.kind ≡ t → yields_argument y.kind ≡ true
      go true o true e = subst (λ (v : Kind). yields_argument v ≡ true) (kind_of_same RegExp y.kind e) refl
      go true o false e = absurd (false≢true (sym (ap yields_argument (brace_of y.kind q.token.kind o e (sign_here b y l o))) ∙ h))
      go false o t e = subst (λ (v : Kind). yields_argument v ≡ true) (told_plain b (uncut b (not-true (same_kind RAngle q.token.kind) (covered an_argument no_argument_angle argument_whole q.token.kind false false h))) y o l).kind h

  -- or none does
  no_argument_there : yields_argument q.token.kind ≡ false → (y : Lexeme) → Lex text q.prev_token_end y → yields_argument y.kind ≡ true → ⊥
  no_argument_there n y l h = go q.cut refl (one_of_kinds other_goals y.kind) refl (same_kind RegExp y.kind) refl
    where
      go : (c : Bool) → q.cut ≡ c → (r : Bool) → one_of_kinds other_goals y.kind ≡ r → (t : Bool) → same_kind RegExp y.kind ≡ t → ⊥
      go true e r o t i = not_both angles an_argument no_angle y.kind y.newline y.escaped (angled b e y l) h
      go false e true o true i = false≢true (sym n ∙ covered a_slash an_argument slash_argued q.token.kind false false (slash_here b y l (sym (kind_of_same RegExp y.kind i))))
      go false e true o false i = not_both an_argument a_brace no_brace y.kind y.newline y.escaped h (or_right (same_kind RCurly y.kind) _ (tail_of y.kind o i))
      go false e false o t i = false≢true (sym n ∙ subst (λ (v : Kind). yields_argument v ≡ true) (sym (told_plain b e y o l).kind) h)

  no_argument : {X : Test} (g : G) → covers (λ k w e. starts first g X.base k w e && reads k w e) an_argument ≡ true → yields_argument q.token.kind ≡ false → Fails rule (Lex text) X end g q.prev_token_end
  no_argument {X} g c n = fails_here firsts (λ y l h. no_argument_there n y l (covered (λ k w e. starts first g X.base k w e && reads k w e) an_argument c y.kind y.newline y.escaped (and_from _ _ h l.1)))

  bare_argument : {X : Test} → Bare q → Fails rule (Lex text) X end (argument_of f) q.prev_token_end
  unfolding covers
  bare_argument (inl w) = no_same_line b w
  bare_argument (inr n) = no_argument (argument_of f) refl n

  bare_delegate : {X : Test} → Bare q → Fails rule (Lex text) X end (no_newline ▸ tok Star ▸ symbol Assignment f) q.prev_token_end
  unfolding covers
  bare_delegate (inl w) = no_same_line b w
  bare_delegate (inr n) = no_argument (no_newline ▸ tok Star ▸ symbol Assignment f) refl n

  bare_loose : Bare q → (y : Lexeme) → Lex text q.prev_token_end y → IsTrue (seen (looser 2 f.in_ after_yield) y)
  bare_loose h y l = covered unargued (λ k w e. looser 2 f.in_ after_yield k w e) (unargued_loose f.in_) y.kind y.newline y.escaped (and_from _ _ (by h) l.1)
    where
      by : Bare q → (y.newline || not (yields_argument y.kind)) ≡ true
      by (inl w) = or_left y.newline _ (newline_here b y l ∙ w)
      by (inr n) = go (yields_argument y.kind) y.newline refl
        where
          go : (c d : Bool) → yields_argument y.kind ≡ c → (d || not c) ≡ true
          go true d e = absurd (no_argument_there n y l e)
          go false true e = refl
          go false false e = refl

  -- where an argument stands on the line, no `yield` is bare
  not_bare : q.token.is_on_new_line ≡ false → yields_argument q.token.kind ≡ true → Fails rule (Lex text) (behind_argument f) end empty_slot q.prev_token_end
  not_bare w h = record { no = λ ts vs k ls rest l d e. go ts vs l d e }
    where
      tight_there : (y : Lexeme) → Lex text q.prev_token_end y → IsTrue (seen (looser 2 f.in_ after_yield) y) → ⊥
      tight_there y l e = false≢true (sym (not-true (looser 2 f.in_ after_yield y.kind y.newline y.escaped) (covered argued (too_tight f.in_) (argued_tight f.in_) y.kind y.newline y.escaped (and_from _ _ (ap not (newline_here b y l ∙ w)) (argument_there h y l)))) ∙ e)

      go : (ts vs : Slots) {k : ℕ} {ls rest : Lexemes} → Lexes (Lex text) q.prev_token_end ls → Takes rule empty_slot end ts q.prev_token_end ls vs k rest → Admits (behind_argument f) ts (here rest) → ⊥
      go ts end {ls = ls} l is_empty_slot e = tight_there (here ls) (here_at (Lex text) ls l) e.1
      go ts (hole us) l is_empty_slot e = false≢true e.1
      go ts (tree m cs us) l is_empty_slot e = false≢true e.1

-- ---- the whole

begun : {text : List ℕ} {f : Flags} {p : Parser} → At text f p → BeginsYield p → f.yield_ ≡ true
begun a y = sym (ap (λ (g : Flags). g.yield_) a.flags_are) ∙ y.yields

-- no target begins with it
pub yield_no_target : {text : List ℕ} {f : Flags} {p : Parser} → At text f p → BeginsYield p → NoTargetFrom text f p.prev_token_end
unfolding apart
yield_no_target a y = fails_at_yield a _ {X = plain goes_through} (λ g. symbol Target g) refl refl y.kind (begun a y)

module _ {text : List ℕ} {f : Flags} {p q : Parser} (a : At text f p) (y : BeginsYield p) (m : Moved text f p q) where
  to_yield : Goes rule (Lex text) (after (at Assignment f)) end (rule (at Assignment f)) p.prev_token_end (such (at Yield' f) always) p.prev_token_end (λ us. us) (still 0)
  unfolding apart
  to_yield = all_parts f p.prev_token_end
      ▹ (right (fails_at_yield a f {X = after (at Assignment f)} (λ g. symbol Conditional g) refl refl y.kind (begun a y))
      ▹ (right (fails_at_yield a f {X = after (at Assignment f)} (λ g. symbol Arrow' g) refl refl y.kind (begun a y))
      ▹ (left (fails_at_yield a f {X = after (at Assignment f)} (λ g. alt (branches assign_operators (assign_part g)) (array_part g)) refl refl y.kind (begun a y))
      ▹ where_true (begun a y))))

  yield_passed : {X : Test} {g : G} → Path text f X (tok Yield ▸ g) p g q (λ us. us)
  yield_passed = token Yield a y.kind y.plain refl m

  wrapped : {r : Parser} {l : Label} {cs : Slots} → Path text f (after (at Assignment f)) (alt (bare_part f) (delegate_part f)) p nothing r (tree l cs) → Path text f (after (at Assignment f)) (rule (at Assignment f)) p nothing r (tree l cs)
  unfolding rule rule_of
  wrapped x = to_yield ⟼ by_symbol_as {X' = after (at Assignment f)} (λ l cs vs y d. d) x

  neither_form : Fails rule (Lex text) (after (at Assignment f)) end (bare_part f) p.prev_token_end → Fails rule (Lex text) (after (at Assignment f)) end (delegate_part f) p.prev_token_end → Underived text (at Assignment f) p.prev_token_end
  unfolding rule rule_of
  neither_form x z = fails_by (to_yield ▹✗ fails_rule {X' = after (at Assignment f)} (λ l cs vs y d. d) (fails_alt x z))

  -- ---- nothing behind it

  no_delegate : {X : Test} → Fails rule (Lex text) (plain full) end (no_newline ▸ tok Star ▸ symbol Assignment f) q.prev_token_end → Fails rule (Lex text) X end (delegate_part f) p.prev_token_end
  no_delegate n = fails_node inside_full (yield_passed ⟶✗ n)

  pub bare_answers : {w : Parser} {id : NodeId} (s : Span) → Bare q → s.start ≡ p.token.span.start → s.end ≡ q.prev_token_end → MadeHere (plain_label node.YieldExpression op_made.None s) (None ∷ []) q w id → Numbered text f (at Assignment f) p w id
  bare_answers {w} {id} s h b c d =
      let l : plain_label node.YieldExpression op_made.None s ≡ label_here yield_expression no_op p q = rw (b, c) refl in
      let made : MadeHere (label_here yield_expression no_op p q) (None ∷ []) q w id = subst (λ (v : Label). MadeHere v (None ∷ []) q w id) l d in
      let ks : Keeps p.nodes q.nodes = subst (λ (ns : List Node). Keeps p.nodes ns) (sym m.nodes) (Keeps-refl p.nodes) in
      by_path (wrapped (left (no_delegate (bare_delegate m.at h)) ⟼ noded_by a (inside_yield f p.prev_token_end) (ended_by yield_passed (right (bare_argument m.at h) ▹ reads_empty_slot)))) m.same made.stays (λ z i. or_left _ _ (bare_loose m.at h z (plain_lex i))) refl
      (node_held made (HoldsAll-one_hole q.nodes (length p.nodes) (length q.nodes) (Keeps-longer ks))) (Keeps-trans ks (Keeps-made made.made)) refl (one_lies made)

  module _ (w : q.token.is_on_new_line ≡ false) where
    -- ---- an argument behind it

    module _ (h : yields_argument q.token.kind ≡ true) where
      no_star : (q.token.kind ≡ Star → ⊥) → {X : Test} → Fails rule (Lex text) X end (no_newline ▸ tok Star ▸ symbol Assignment f) q.prev_token_end
      unfolding covers apart
      no_star n = fails_at m.at (no_newline ▸ tok Star ▸ symbol Assignment f) (Star ∷ []) refl (other_kind Star q.token.kind n)

      pub argument_none : (q.token.kind ≡ Star → ⊥) → Underived text (at Assignment f) q.prev_token_end → Underived text (at Assignment f) p.prev_token_end
      argument_none n z = neither_form (fails_node (inside_yield f p.prev_token_end) (yield_passed ⟶✗ fails_alt (same_line m.at w ▹✗ weaken_fails_on z (on_argument f q.prev_token_end)) (not_bare m.at w h))) (no_delegate (no_star n))

      argument_path : {r : Parser} → (q.token.kind ≡ Star → ⊥) → (x : Answer text f (at Assignment f) q r) → Path text f (after (at Assignment f)) (rule (at Assignment f)) p nothing r (tree (label_here yield_expression no_op p r) (tree x.label x.slots end))
      argument_path n x = wrapped (left (no_delegate (no_star n)) ⟼ noded_by a (inside_yield f p.prev_token_end) (yield_passed ⟶ ((left (not_bare m.at w h) ▹ same_line m.at w) ⟼ last_called x (on_argument f q.prev_token_end))))

      pub argument_answers : {r v : Parser} {id arg : NodeId} (s : Span) → (q.token.kind ≡ Star → ⊥) → (x : Numbered text f (at Assignment f) q r arg) → s.start ≡ p.token.span.start → s.end ≡ r.prev_token_end → MadeHere (plain_label node.YieldExpression op_made.None s) (Some arg ∷ []) r v id → Numbered text f (at Assignment f) p v id
      argument_answers {r} {v} {id} {arg} s n x b c d =
          let l : plain_label node.YieldExpression op_made.None s ≡ label_here yield_expression no_op p r = rw (b, c) refl in
          let made : MadeHere (label_here yield_expression no_op p r) (Some arg ∷ []) r v id = subst (λ (v' : Label). MadeHere v' (Some arg ∷ []) r v id) l d in
          let ks : Keeps p.nodes r.nodes = subst (λ (ns : List Node). Keeps ns r.nodes) m.nodes x.keeps in
          by_path (argument_path n x.answer) (same_both m.same x.answer.same) made.stays x.answer.stops x.answer.row (one_held p.nodes made (subst (λ (ns : List Node). Holds r.nodes (length ns) (length r.nodes) arg.0 x.answer.label x.answer.slots) m.nodes x.holds)) (Keeps-trans ks (Keeps-made made.made)) refl (one_lies made)

    -- ---- a star behind it

    module _ (k : q.token.kind ≡ Star) {o : Parser} (ms : Moved text f q o) where
      no_plain : Fails rule (Lex text) (after (at Assignment f)) end (bare_part f) p.prev_token_end
      unfolding covers apart
      no_plain = fails_node (inside_yield f p.prev_token_end) (yield_passed ⟶✗ fails_alt (same_line m.at w ▹✗ fails_here firsts {X = behind_argument f} (λ z l h. not_both (starts first (symbol Assignment f) (widest Assignment)) (λ k w e. same_kind Star k) refl z.kind z.newline z.escaped h (subst (λ (v : Kind). same_kind Star v ≡ true) (sym (kind_here m.at k refl z l)) refl))) (not_bare m.at w (ap yields_argument k)))

      star_passed : {X : Test} → Path text f X (delegate_slots f) p (symbol Assignment f) o (λ us. us)
      star_passed = yield_passed ⟶ (same_line m.at w ⟼ token Star m.at k (plain_sign Star m.at k refl refl star_plain) refl ms)

      pub delegate_none : Underived text (at Assignment f) o.prev_token_end → Underived text (at Assignment f) p.prev_token_end
      delegate_none z = neither_form no_plain (fails_node (inside_delegate f p.prev_token_end) (star_passed ⟶✗ weaken_fails_on z (on_argument f o.prev_token_end)))

      pub delegate_answers : {r v : Parser} {id arg : NodeId} (s : Span) → (x : Numbered text f (at Assignment f) o r arg) → s.start ≡ p.token.span.start → s.end ≡ r.prev_token_end → MadeHere (record (plain_label node.YieldExpression op_made.None s) { flags = delegate_flag }) (Some arg ∷ []) r v id → Numbered text f (at Assignment f) p v id
      delegate_answers {r} {v} {id} {arg} s x b c d =
          let l : record (plain_label node.YieldExpression op_made.None s) { flags = delegate_flag } ≡ flagged_here yield_expression no_op delegate_flag p r = rw (b, c) refl in
          let made : MadeHere (flagged_here yield_expression no_op delegate_flag p r) (Some arg ∷ []) r v id = subst (λ (v' : Label). MadeHere v' (Some arg ∷ []) r v id) l d in
          let ks : Keeps p.nodes r.nodes = subst (λ (ns : List Node). Keeps ns r.nodes) (ms.nodes ∙ m.nodes) x.keeps in
          by_path (wrapped (right no_plain ⟼ flagged_by a (inside_delegate f p.prev_token_end) (star_passed ⟶ last_called x.answer (on_argument f o.prev_token_end)))) (same_both m.same (same_both ms.same x.answer.same)) made.stays x.answer.stops x.answer.row
          (one_held p.nodes made (subst (λ (ns : List Node). Holds r.nodes (length ns) (length r.nodes) arg.0 x.answer.label x.answer.slots) (ms.nodes ∙ m.nodes) x.holds)) (Keeps-trans ks (Keeps-made made.made)) refl (one_lies made)

-- what the test of what stands behind it says
pub bare_is : (w y : Bool) → (w || not y) ≡ true → (w ≡ true) ⊎ (y ≡ false)
bare_is true y h = inl refl
bare_is false true h = absurd (false≢true h)
bare_is false false h = inr refl

pub argued_is : (w y : Bool) → (w || not y) ≡ false → (w ≡ false) × (y ≡ true)
argued_is true y h = absurd (false≢true (sym h))
argued_is false true h = (refl, refl)
argued_is false false h = absurd (false≢true (sym h))
