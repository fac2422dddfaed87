-- The operator `**` (ECMA-262, 13.6): a base that begins with no unary operator, and behind it an exponent.
use Rattle.std.proofs.Common.{ℕ, ◌≡◌, ◌⊎◌, inl, inr, Bool, true, false, not, ◌&&◌, ◌||◌, IsTrue, List, [], ◌∷◌, length, Some, refl, sym, ap, subst, arith, ◌∙◌, length-append}
use Rattle.std.proofs.lemmas.Bool.{false≢true, and_from, and_parts, or_left, or_parts}
use Rattle.std.specs.Prelude.{IsCharBoundary, None}
use Rattle.parse_targets.proofs.Covers.{all_stand}
use Rattle.js_base.specs.declared.diagnostic.Diagnostic.{Diagnostic}
use Rattle.js_base.specs.declared.diagnostic.DiagnosticKind.TheVariants.{UnaryExponentiationLeftOperand}
use Rattle.js_base.specs.declared.kind.Kind.{Kind}
use Rattle.js_base.specs.declared.kind.Kind.TheVariants.{Await, RAngle, Star2}
use Rattle.js_base.specs.declared.span.Span.{Span}
use Rattle.js_base.specs.Contexts.{has_flag, await_flag, await_expression_flag}
use Rattle.js_base.specs.Kinds.{same_kind, one_of_kinds}
use Rattle.js_base.specs.Texts.{words}
use Rattle.js_base.proofs.KindLemmas.{kind_of_same}
use Rattle.js_grammar.specs.Trees.{Label, Slots, Span as TreeSpan, end, tree, binary_expression, unary_expression, await_expression, of}
use Rattle.js_grammar.specs.Grammar.{Lexeme, Lexemes, last, Look, here, seen, is, exact, such, nothing, Takes, is_nothing, is_such, is_seq, is_left, is_right, is_lexeme, is_node, is_when, ◌▸◌}
use Rattle.js_grammar.specs.Insertion.{Row, after_expression, after_postfix, after_body, after_yield, after_declarator, after_word}
use Rattle.js_grammar.specs.Lexed.{Lexes, all_faults}
use Rattle.js_grammar.specs.Lexed.{NextLexeme}
use Rattle.js_grammar.specs.LexicalFaults.{Reached}
use Rattle.js_grammar.specs.Marks.{Mark, StandsAt, Part, loose}
use Rattle.js_grammar.specs.Settings.{Goal}
use Rattle.js_grammar.proofs.BuiltLines.{in_whole}
use Rattle.js_grammar.proofs.Loose.{strict_is_loose}
use Rattle.js_grammar.specs.Parsing.{Test, plain, full, always, Admits, Goes, Fails, still}
use Rattle.js_grammar.specs.Productions.{G, Flags, at, tok, op, Exponent, Unary, Update}
use Rattle.js_grammar.specs.Productions.{sym as symbol}
use Rattle.js_grammar.specs.Table.{rule, rule_of}
use Rattle.js_grammar.specs.FirstSets.{first}
use Rattle.js_grammar.specs.Follow.{edge_of, row_of, follow, after, widest, looser, surest}
use Rattle.js_grammar.specs.RightEdges.{of_operand}
use Rattle.js_grammar.proofs.Looks.{covers, covered, apart, not_both}
use Rattle.js_grammar.proofs.Calculus.{On, Inside, here_at, ends, inside_full, ◌▹✗◌, left, right, fails_alt, fails_nothing, fails_node, weaken_fails_on}
use Rattle.js_grammar.proofs.First.{starts}
use Rattle.js_grammar.proofs.FirstClaims.{firsts}
use Rattle.js_grammar.proofs.FirstRules.{fails_here}
use Rattle.js_grammar.proofs.FollowLaws.{passes_on, same_read, fails_by, surely}
use Rattle.laws_shared.specs.js_tree.declared.id.NodeId.{NodeId}
use Rattle.laws_shared.specs.js_tree.declared.kind.NodeKind.TheVariants as node
use Rattle.laws_shared.specs.js_tree.declared.op.Op.TheVariants as made
use Rattle.js_base.specs.declared.operator.BinaryOperator.TheVariants as binary
use Rattle.laws_shared.specs.js_tree.Nodes.{Node}
use Rattle.laws_shared.specs.js_tree.Holding.{Holds, Keeps}
use Rattle.laws_shared.proofs.js_tree.HoldingLemmas.{Keeps-trans, Keeps-made}
use Rattle.laws_shared.specs.js_cursor.Parsers.{Parser}
use Rattle.laws_shared.specs.js_cursor.Checkpoints.{Follows}
use Rattle.laws_shared.specs.js_cursor.Moves.{is_last}
use Rattle.laws_shared.specs.js_cursor.Moves.{KeepsDiagnostic}
use Rattle.laws_shared.specs.js_cursor.Places.{IsAt, goal}
use Rattle.laws_shared.proofs.js_cursor.Later.{keeps_follows, follows_on}
use Rattle.laws_operators.specs.Exponents.{ChecksBase, begins_by_unary, unary_base}
use Rattle.laws_shared.specs.Lexemes.{Lex}
use Rattle.laws_shared.specs.Operators.{unary_kinds}
use Rattle.laws_shared.specs.States.{At}
use Rattle.laws_shared.specs.Moves.{Moved, MadeHere, IsWholeHere, plain_label, unpassable}
use Rattle.laws_shared.specs.Answers.{Grown, Verdict, clean, unclean, wider, Stretch, Underived, Answer, Numbered}
use Rattle.laws_shared.proofs.Signs.{plain_sign, other_kind}
use Rattle.laws_shared.proofs.Giving.{kept_one}
use Rattle.laws_shared.proofs.Told.{beside_errors}
use Rattle.laws_shared.proofs.Here.{kind_here, found, uncut, begins_here, unsettled}
use Rattle.laws_shared.proofs.MadeNodes.{two_held, one_lies}
use Rattle.laws_shared.proofs.Moving.{same_both}
use Rattle.laws_patterns.proofs.laws_primary.Operands.{by_path, of_unary}
use Rattle.laws_shared.proofs.Paths.{Path, ◌⟼◌, ◌⟶◌, ◌⟶✗◌, fails_at, not_here, token, called, last_called, noded_by, label_here, read_of}
use Rattle.laws_shared.proofs.Phrases.{lift, narrow_operand, unary_part, no_await}
use Rattle.laws_shared.proofs.Escapes.{read_plain}
use Rattle.laws_shared.proofs.Tight.{narrows, plain_lex}
use Rattle.laws_shared.proofs.NamedFirsts.{fails_at_await}
use Rattle.laws_shared.proofs.Verdicts.{verdict_of, either_way}
use Rattle.laws_shared.proofs.Verdicts.{after as grown_behind}
use Rattle.laws_shared.specs.Classes.{IsEarly}
use Rattle.laws_shared.proofs.Classes.{one_early}

abbrev power_behind : Flags → G
power_behind f = tok Star2 ▸ symbol Exponent f

abbrev power_slots : Flags → G
power_slots f = symbol Update f ▸ power_behind f

abbrev power_part : Flags → G
power_part f = op binary_expression Star2 (power_slots f)

-- behind two slots may stand what may stand behind the second one
abbrev by_second : Flags → Slots → Look
by_second f (tree a ds (tree b cs end)) k w e = follow (at Exponent f) (edge_of b cs) k w e
by_second f _ k w e = false

abbrev second : Flags → Test
second f = record { base = widest Exponent; by = λ ts. by_second f ts }

inside_second : (f : Flags) (s : ℕ) → Inside rule (record { kind = binary_expression; op = of Star2; flags = 0; extent = exact }) (after (at Exponent f)) (second f) end (power_slots f) s
inside_second f s = record { ends = λ p cs vs j ls mid d e. go p cs vs d e }
  where
    go : (p : TreeSpan) (cs vs : Slots) {i j : ℕ} {ls mid : Lexemes} → Takes rule (power_slots f) end cs i ls end j mid → Admits (after (at Exponent f)) (tree (record { kind = binary_expression; op = of Star2; flags = 0; span = p }) cs vs) (here mid) → Admits (second f) cs (here mid)
    go p cs vs (is_seq (is_such a b) (is_seq (is_lexeme c) (is_such d e))) x = x

on_second : (f : Flags) (a : Label) (ds : Slots) (s : ℕ) → On rule (record { base = widest Exponent; by = λ us. by_second f (tree a ds us) }) (after (at Exponent f)) end (such (at Exponent f) always) s
on_second f a ds s = record { admits = λ ts vs k ls rest d e. go ts vs d e }
  where
    go : (ts vs : Slots) {i k : ℕ} {ls rest : Lexemes} → Takes rule (such (at Exponent f) always) end ts i ls vs k rest → Admits (record { base = widest Exponent; by = λ us. by_second f (tree a ds us) }) ts (here rest) → Admits (after (at Exponent f)) ts (here rest)
    go ts end (is_such d h) x = x
    go ts vs (is_such d h) x = absurd (false≢true x.1)

-- ---- a base is a UnaryExpression

update_is_unary : {f : Flags} {ks ts us : Slots} {i j : ℕ} {ls rest : Lexemes} → Takes rule (symbol Update f) ks ts i ls us j rest → Takes rule (symbol Unary f) ks ts i ls us j rest
unfolding rule rule_of
update_is_unary (is_such d c) = is_such (is_left (is_such d refl)) refl

star_may_follow : covers (is Star2) (surest Unary) ≡ true
unfolding covers
star_may_follow = refl

star_behind : (f : Flags) (ts : Slots) (y : Lexeme) → IsTrue (seen (is Star2) y) → Admits (after (at Unary f)) ts y
star_behind f ts y h = (surely (at Unary f)).admits ts y (covered (is Star2) (surest Unary) star_may_follow y.kind y.newline y.escaped h)

-- an Exponent that is an operand has none behind it
star_apart : (b : Bool) (r : Row) → of_operand r ≡ true → apart (is Star2) (looser 15 b r) ≡ true
unfolding apart
star_apart true after_expression h = refl
star_apart true after_postfix h = refl
star_apart false after_expression h = refl
star_apart false after_postfix h = refl
star_apart b after_body h = absurd (false≢true h)
star_apart b after_yield h = absurd (false≢true h)
star_apart b after_declarator h = absurd (false≢true h)
star_apart b after_word h = absurd (false≢true h)

exponent_passes : passes_on Exponent Unary ≡ true
unfolding covers
exponent_passes = refl

not_angle : (k : Kind) → one_of_kinds unary_kinds k ≡ true → one_of_kinds unsettled k ≡ false
not_angle k h = of_unary (λ k. one_of_kinds unsettled k ≡ false) k h refl refl refl refl refl refl refl

module _ {text : List ℕ} {f : Flags} where
  base_unread : {X : Test} {s : ℕ} → Underived text (at Unary f) s → Fails rule (Lex text) X end (power_slots f) s
  base_unread {X} {s} n = record { no = λ ts vs k ls rest lx d e. go ts vs k ls rest lx d }
    where
      go : (ts vs : Slots) (k : ℕ) (ls rest : Lexemes) → Lexes (Lex text) s ls → Takes rule (power_slots f) end ts s ls vs k rest → ⊥
      go ts vs k ls rest lx (is_seq {us = us} {j = j} {mid = mid} d (is_seq (is_lexeme q) c)) = n.no ts us j ls mid lx (update_is_unary d) (star_behind f ts (here mid) q)

  no_power : {X : Test} {s s' : ℕ} {l : Label} {cs : Slots} {pass : Lexemes → Lexemes} → Stretch text (after (at Unary f)) (such (at Unary f) always) s nothing s' (tree l cs) pass → ((y : Lexeme) → Lex text s' y → IsTrue (seen (is Star2) y) → ⊥) → Fails rule (Lex text) X end (power_slots f) s
  no_power {X} {s} {s'} y n = record { no = λ ts vs k ls rest lx d e. go ts vs k ls rest lx d }
    where
      go : (ts vs : Slots) (k : ℕ) (ls rest : Lexemes) → Lexes (Lex text) s ls → Takes rule (power_slots f) end ts s ls vs k rest → ⊥
      go ts vs k ls rest lx (is_seq {us = us} {j = j} {mid = mid} d (is_seq (is_lexeme q) c)) =
          let x = y.goes.only ts us j ls mid lx (update_is_unary d) (star_behind f ts (here mid) q) in
          n (here mid) (here_at (Lex text) mid (subst (λ (v : Lexemes). Lexes (Lex text) s' v) (ends x.4).2 x.3)) q

  star_none : {q : Parser} → At text f q → (q.token.kind ≡ Star2 → ⊥) → (y : Lexeme) → Lex text q.prev_token_end y → IsTrue (seen (is Star2) y) → ⊥
  unfolding apart
  star_none {q} a n y l h = not_here a (Star2 ∷ []) refl (other_kind Star2 q.token.kind n) y l (or_left (same_kind Star2 y.kind) false (and_parts (same_kind Star2 y.kind) (not y.escaped) h).0)

  star_here : {q : Parser} → At text f q → q.token.kind ≡ Star2 → (y : Lexeme) → Lex text q.prev_token_end y → IsTrue (seen (is Star2) y)
  star_here a k y l = and_from _ _ (subst (λ (v : Kind). same_kind Star2 v ≡ true) (sym (kind_here a k refl y l)) refl) (ap not (read_plain y l (kind_here a k refl y l) refl))

-- ---- an operand alone

pub power_alone : {text : List ℕ} {f : Flags} {p q : Parser} {id : NodeId} → Numbered text f (at Unary f) p q id → (q.token.kind ≡ Star2 → ⊥) → Numbered text f (at Exponent f) p q id
unfolding covers lift rule rule_of
power_alone {text} {f} {p} {q} x n =
    let r = row_of x.answer.label x.answer.slots in
    let none : Fails rule (Lex text) (after (at Exponent f)) end (power_part f) p.prev_token_end = either_way x.answer.verdict (λ y. fails_node inside_full (no_power y (star_none x.answer.at n))) (λ m. fails_node inside_full (base_unread m)) in
    lift (at Exponent f) (at Unary f) refl refl text p.prev_token_end (left none) refl x x.answer.row
    (λ y l. narrows 16 15 (Star2 ∷ []) f.in_ r (narrow_operand 16 15 (Star2 ∷ []) refl refl refl refl f.in_ r x.answer.row) y l.1 (no_kind y (plain_lex l)) (x.answer.stops y l))
  where
    no_kind : (y : Lexeme) → Lex text q.prev_token_end y → one_of_kinds (Star2 ∷ []) y.kind ≡ false
    no_kind y l = other_kind Star2 y.kind (λ e. star_none x.answer.at n y l (and_from _ _ (subst (λ (v : Kind). same_kind Star2 v ≡ true) (sym e) refl) (ap not (read_plain y l e refl))))

pub power_none : (text : List ℕ) (f : Flags) (s : ℕ) → Underived text (at Unary f) s → Underived text (at Exponent f) s
unfolding rule rule_of
power_none text f s n = fails_by {s = at Exponent f} (fails_alt (weaken_fails_on n (same_read (at Exponent f) (at Unary f) exponent_passes refl)) (fails_node inside_full (base_unread n)))

-- ---- the base

-- where `await` is an operator it is no name
pub no_name_awaits : {text : List ℕ} {f : Flags} {p : Parser} → At text f p → f.awaits ≡ true → f.await_ ≡ true
no_name_awaits {p = p} a h = sym (ap (λ (g : Flags). g.await_) a.flags_are) ∙ (and_parts (has_flag await_flag p.ctx) (has_flag await_expression_flag p.ctx) (ap (λ (g : Flags). g.awaits) a.flags_are ∙ h)).0

no_unary : (b : Bool) (k : Kind) → begins_by_unary b k ≡ false → (one_of_kinds unary_kinds k ≡ false) × (k ≡ Await → b ≡ false)
no_unary b k h = let z = or_parts (one_of_kinds unary_kinds k) _ h in (z.0, λ e. subst (λ (v : Kind). (same_kind Await v && b) ≡ false) e z.1)

module _ {text : List ℕ} {f : Flags} {p : Parser} (a : At text f p) where
  -- where no operator stands, a UnaryExpression is an UpdateExpression
  down : begins_by_unary f.awaits p.token.kind ≡ false → {ts vs : Slots} {k : ℕ} {ls rest : Lexemes} → Lexes (Lex text) p.prev_token_end ls → Takes rule (symbol Unary f) end ts p.prev_token_end ls vs k rest → Takes rule (symbol Update f) end ts p.prev_token_end ls vs k rest
  unfolding rule rule_of covers apart
  down n {ls = ls} lx (is_such {l = l} {cs = cs} (is_left (is_such d c)) e) = is_such d refl
  down n {k = k} {ls = ls} {rest = rest} lx (is_such {l = l} {cs = cs} (is_right d) e) = absurd ((fails_alt {X = plain full} (fails_at a {X = plain full} (unary_part f) unary_kinds refl (no_unary f.awaits p.token.kind n).0) (no_await a (no_unary f.awaits p.token.kind n).1)).no (tree l cs end) end k ls rest lx d (refl, refl))

  as_update : {q : Parser} {id : NodeId} → begins_by_unary f.awaits p.token.kind ≡ false → Numbered text f (at Unary f) p q id → Numbered text f (at Update f) p q id
  as_update {q} n x = record {
    answer = record {
      at = x.answer.at;
      same = x.answer.same;
      further = x.answer.further;
      label = x.answer.label;
      slots = x.answer.slots;
      stops = x.answer.stops;
      row = x.answer.row;
      pass = x.answer.pass;
      walked = x.answer.walked;
      verdict = verdict_of x.answer.verdict (λ y. record { reach = y.reach; near = y.near; goes = record { passes = y.goes.passes; sound = λ us vs k ls rest lx r d. down n (y.goes.passes.lexed ls lx) (y.goes.sound us vs k ls rest lx r d); only = λ ts vs k ls rest lx d e. y.goes.only ts vs k ls rest lx (update_is_unary d) e } })
          (λ m. record { no = λ ts vs k ls rest lx d e. m.no ts vs k ls rest lx (update_is_unary d) e });
    };
    holds = x.holds;
    keeps = x.keeps;
  }

  -- where one stands, none is derived
  no_update : begins_by_unary f.awaits p.token.kind ≡ true → Underived text (at Update f) p.prev_token_end
  unfolding apart
  no_update h = go (one_of_kinds unary_kinds p.token.kind) refl h
    where
      go : (b : Bool) → one_of_kinds unary_kinds p.token.kind ≡ b → (b || (same_kind Await p.token.kind && f.awaits)) ≡ true → Underived text (at Update f) p.prev_token_end
      go true e i = fails_here firsts (λ y l s. not_both (starts first (symbol Update f) (widest Update)) (λ k w e. one_of_kinds unary_kinds k) refl y.kind y.newline y.escaped s (subst (λ (v : Kind). one_of_kinds unary_kinds v ≡ true) (sym (kind_here a refl (not_angle p.token.kind e) y l)) e))
      go false e i = let z = and_parts (same_kind Await p.token.kind) f.awaits i in fails_at_await a f {X = after (at Update f)} (λ g. symbol Update g) refl refl (sym (kind_of_same Await p.token.kind z.0)) (no_name_awaits a z.1)

pub longer : {K : Type 0} {p q : List K} → Grown p q → length p ≡ length q → ⊥
longer {p = p} g e = none g.more g.some (let i = length-append p g.more in let j = ap length g.kept in omega arith)
  where
    none : {K : Type 0} (xs : List K) → (xs ≡ [] → ⊥) → length xs ≡ 0 → ⊥
    none [] n e = n refl
    none (x ∷ xs) n e = absurd (omega arith)

base_stands_there : (source : Goal) (text : List ℕ) (s s' from : ℕ) (f : Flags) (l : Label) (cs : Slots) (ls : Lexemes) (y : Lexeme) → Part text s ls → (here ls).from ≡ from → Takes rule (rule (at Unary f)) end (tree l cs end) s ls end s' (last y) → (l.kind ≡ unary_expression) ⊎ (l.kind ≡ await_expression) → y.kind ≡ Star2 → StandsAt UnaryExponentiationLeftOperand source text (record { start = from; end = s' }) None None
base_stands_there source text s s' from f l cs ls y part b d (inl k) e = (
  record {
    place = s;
    lexemes = ls;
    part = part;
    begins = b;
    flags = f;
    tree = record { label = l; slots = cs };
    rest = last y;
    derived = in_whole (at Unary (loose f)) (record { label = l; slots = cs }) (strict_is_loose (at Unary f) (record { label = l; slots = cs }) d);
    passes = rw (k, e) refl;
  },
  (refl, refl),
)
base_stands_there source text s s' from f l cs ls y part b d (inr k) e = (
  record {
    place = s;
    lexemes = ls;
    part = part;
    begins = b;
    flags = f;
    tree = record { label = l; slots = cs };
    rest = last y;
    derived = in_whole (at Unary (loose f)) (record { label = l; slots = cs }) (strict_is_loose (at Unary f) (record { label = l; slots = cs }) d);
    passes = rw (k, e) refl;
  },
  (refl, refl),
)

-- the node of a unary operator
operator_node : (f : Flags) {l : Label} {cs : Slots} {i j : ℕ} {ls rest : Lexemes} → Takes rule (unary_part f) end (tree l cs end) i ls end j rest → l.kind ≡ unary_expression
operator_node f (is_left (is_node d)) = refl
operator_node f (is_right (is_left (is_node d))) = refl
operator_node f (is_right (is_right (is_left (is_node d)))) = refl
operator_node f (is_right (is_right (is_right (is_left (is_node d))))) = refl
operator_node f (is_right (is_right (is_right (is_right (is_left (is_node d)))))) = refl
operator_node f (is_right (is_right (is_right (is_right (is_right (is_left (is_node d))))))) = refl
operator_node f (is_right (is_right (is_right (is_right (is_right (is_right (is_node d))))))) = refl

module _ {text : List ℕ} {f : Flags} {p q : Parser} {id : NodeId} (a : At text f p) (x : Numbered text f (at Unary f) p q id) (k : q.token.kind ≡ Star2) where
  -- the `**` that stands there
  star : (y : Lexeme) × Lex text q.prev_token_end y × (y.kind ≡ Star2)
  unfolding words
  star =
      let z = found x.answer.at (uncut x.answer.at (ap (same_kind RAngle) k)) (ap is_last k) in
      let e : q.token.escaped ≡ false = plain_sign Star2 x.answer.at k refl refl refl in
      (z.0, (z.1, read_of z.0 (sym z.2.kind ∙ k) refl), sym z.2.kind ∙ k)

  base_node : begins_by_unary f.awaits p.token.kind ≡ true → {l : Label} {cs : Slots} {ls : Lexemes} → Lexes (Lex text) p.prev_token_end ls → Takes rule (rule (at Unary f)) end (tree l cs end) p.prev_token_end ls end q.prev_token_end (last star.0) → (l.kind ≡ unary_expression) ⊎ (l.kind ≡ await_expression)
  unfolding rule rule_of apart
  base_node h {l} {cs} {ls} lx (is_left d) = absurd ((no_update a h).no (tree l cs end) end q.prev_token_end ls (last star.0) lx d (star_behind f (tree l cs end) star.0 (star_here x.answer.at k star.0 star.1)))
  base_node h {l} {cs} {ls} lx (is_right (is_left d)) = inl (operator_node f d)
  base_node h {l} {cs} {ls} lx (is_right (is_right (is_when q (is_node d)))) = inr refl

  base_stands : begins_by_unary f.awaits p.token.kind ≡ true → Stretch text (after (at Unary f)) (such (at Unary f) always) p.prev_token_end nothing q.prev_token_end (tree x.answer.label x.answer.slots) x.answer.pass → StandsAt UnaryExponentiationLeftOperand (goal q) q.text (record { start = p.token.span.start; end = q.prev_token_end }) None None
  base_stands h y =
      let ls = x.answer.pass (last star.0) in
      let lx : Lexes (Lex text) q.prev_token_end (last star.0) = star.1 in
      let l = y.goes.passes.lexed (last star.0) lx in
      let d = derived_of (y.goes.sound end end q.prev_token_end (last star.0) (last star.0) lx (inl y.near) is_nothing) in
      base_stands_there (goal q) q.text p.prev_token_end q.prev_token_end p.token.span.start f x.answer.label x.answer.slots ls star.0
      (record { reached = subst (λ (v : List ℕ). Reached v p.prev_token_end) (sym x.answer.same.follows.text) a.at.reached; lexed = subst (λ (v : List ℕ). Lexes (NextLexeme all_faults v) p.prev_token_end ls) (sym x.answer.at.text_is) (all_stand text p.prev_token_end ls l) })
      (begins_here a (here ls) (here_at (Lex text) ls l)) d (base_node h l d) star.2
    where
      derived_of : {ls : Lexemes} → Takes rule (such (at Unary f) always) end (tree x.answer.label x.answer.slots end) p.prev_token_end ls end q.prev_token_end (last star.0) → Takes rule (rule (at Unary f)) end (tree x.answer.label x.answer.slots end) p.prev_token_end ls end q.prev_token_end (last star.0)
      derived_of (is_such d c) = d

  pub base_marked : begins_by_unary f.awaits p.token.kind ≡ true → length p.errors ≡ length q.errors → Mark (goal q) q.text (unary_base p.token.span.start q.prev_token_end)
  base_marked h e = record {
    ordered = let i = x.answer.further in omega arith;
    within = x.answer.at.at.between.0;
    begins_between = subst (λ (v : List ℕ). IsCharBoundary v p.token.span.start) (sym x.answer.same.follows.text) a.at.lies.starts_whole;
    ends_between = x.answer.at.at.between;
    stands = by x.answer.verdict;
  }
    where
      by : Verdict (f.wide ≡ true) p.errors q.errors (Stretch text (after (at Unary f)) (such (at Unary f) always) p.prev_token_end nothing q.prev_token_end (tree x.answer.label x.answer.slots) x.answer.pass) (Underived text (at Unary f) p.prev_token_end) → StandsAt UnaryExponentiationLeftOperand (goal q) q.text (record { start = p.token.span.start; end = q.prev_token_end }) None None
      by (clean i y) = base_stands h y
      by (unclean g m) = absurd (longer g e)
      by (wider w g m) = absurd (longer g e)

  -- it begins with a unary operator, and diagnostics were kept
  broken : begins_by_unary f.awaits p.token.kind ≡ true → Grown p.errors q.errors → Numbered text f (at Update f) p q id
  broken h g = record {
    answer = record { at = x.answer.at; same = x.answer.same; further = x.answer.further; label = x.answer.label; slots = x.answer.slots; stops = x.answer.stops; row = x.answer.row; pass = x.answer.pass; walked = x.answer.walked; verdict = unclean g (no_update a h) };
    holds = x.holds;
    keeps = x.keeps;
  }

  told : {d : Diagnostic} {r : Parser} → begins_by_unary f.awaits p.token.kind ≡ true → KeepsDiagnostic d q r → IsEarly d → Numbered text f (at Update f) p r id
  told {d} {r} h c y = subst (λ (z : Parser). Numbered text f (at Update f) p z id) (sym c.is) (record {
    answer = record {
      at = beside_errors x.answer.at (subst IsAt c.is c.at);
      same = record { follows = follows_on x.answer.same.follows (subst (Follows q) c.is (keeps_follows c)); options = x.answer.same.options; ctx = x.answer.same.ctx; depth = x.answer.same.depth; visits = x.answer.same.visits; early = λ w. one_early _ q.errors y (x.answer.same.early w); lies = x.answer.same.lies };
      further = x.answer.further;
      label = x.answer.label;
      slots = x.answer.slots;
      stops = x.answer.stops;
      row = x.answer.row;
      pass = x.answer.pass;
      walked = x.answer.walked;
      verdict = unclean (grown_behind x.answer.verdict (subst (λ (z : Parser). Grown q.errors z.errors) c.is (kept_one c))) (no_update a h);
    };
    holds = x.holds;
    keeps = x.keeps;
  })

  -- the base was checked: it is an UpdateExpression, or none is derived
  pub base_checked : {r : Parser} {is_unary : Bool} {n start : ℕ} → is_unary ≡ begins_by_unary f.awaits p.token.kind → n ≡ length p.errors → ChecksBase start is_unary n q r → Numbered text f (at Update f) p r id
  base_checked {r} {is_unary = true} {n} e i (inl c) = told (sym e) c.1 refl
  base_checked {r} {is_unary = true} {n} e i (inr c) = subst (λ (z : Parser). Numbered text f (at Update f) p z id) (sym c.0) (broken (sym e) (by x.answer.verdict))
    where
      by : Verdict (f.wide ≡ true) p.errors q.errors (Stretch text (after (at Unary f)) (such (at Unary f) always) p.prev_token_end nothing q.prev_token_end (tree x.answer.label x.answer.slots) x.answer.pass) (Underived text (at Unary f) p.prev_token_end) → Grown p.errors q.errors
      by (clean j y) = absurd (c.1 refl (i ∙ sym (ap length j)))
      by (unclean g m) = g
      by (wider w g m) = g
  base_checked {r} {is_unary = false} {n} e i (inl c) = absurd (false≢true c.0)
  base_checked {r} {is_unary = false} {n} e i (inr c) = subst (λ (z : Parser). Numbered text f (at Update f) p z id) (sym c.0) (as_update a (sym e) x)

-- ---- the exponent

module _ {text : List ℕ} {f : Flags} {p q : Parser} (x : Answer text f (at Unary f) p q) (k : q.token.kind ≡ Star2) where
  -- an operand that stands before `**` is no Exponent alone
  star_behind_it : Fails rule (Lex text) (record { base = widest Exponent; by = λ us. follow (at Exponent f) (edge_of x.label x.slots) }) end nothing q.prev_token_end
  star_behind_it = fails_nothing (λ ts y l h. not_both (is Star2) (looser 15 f.in_ (row_of x.label x.slots)) (star_apart f.in_ (row_of x.label x.slots) x.row) y.kind y.newline y.escaped (star_here x.at k y l) h.1)

  power_only : Goes rule (Lex text) (after (at Exponent f)) end (rule (at Exponent f)) p.prev_token_end (power_part f) p.prev_token_end (λ us. us) (still 0)
  unfolding rule rule_of
  power_only = right (last_called x (same_read (at Exponent f) (at Unary f) exponent_passes refl) ⟶✗ star_behind_it)

module _ {text : List ℕ} {f : Flags} {p q r u : Parser} (x : Answer text f (at Unary f) p q) (k : q.token.kind ≡ Star2) (b : Answer text f (at Update f) p r) (kb : r.token.kind ≡ Star2) (m : Moved text f r u) where
  base_passed : Path text f (second f) (power_slots f) p (symbol Exponent f) u (tree b.label b.slots)
  unfolding covers words
  base_passed = called b refl ⟶ token Star2 b.at kb (plain_sign Star2 b.at kb refl refl refl) refl m

  pub exponent_fails : Underived text (at Exponent f) u.prev_token_end → Underived text (at Exponent f) p.prev_token_end
  exponent_fails n = fails_by (power_only x k ▹✗ fails_node (inside_second f p.prev_token_end) (base_passed ⟶✗ weaken_fails_on n (on_second f b.label b.slots u.prev_token_end)))

  power_path : {v : Parser} → At text f p → (y : Answer text f (at Exponent f) u v) → Path text f (after (at Exponent f)) (rule (at Exponent f)) p nothing v (tree (label_here binary_expression (of Star2) p v) (tree b.label b.slots (tree y.label y.slots end)))
  power_path a y = power_only x k ⟼ noded_by a (inside_second f p.prev_token_end) (base_passed ⟶ last_called y (on_second f b.label b.slots u.prev_token_end))

-- the base and the exponent were read
pub power_answers : {text : List ℕ} {f : Flags} {p q r u v w : Parser} {base exponent id : NodeId} (s : Span) → At text f p → Numbered text f (at Unary f) p q base → q.token.kind ≡ Star2 → (b : Numbered text f (at Update f) p r base) → r.token.kind ≡ Star2 → (m : Moved text f r u) → (y : Numbered text f (at Exponent f) u v exponent) → s.start ≡ p.token.span.start → s.end ≡ v.prev_token_end
    → MadeHere (plain_label node.BinaryExpression (made.Binary binary.Exponential) s) (Some base ∷ Some exponent ∷ []) v w id → Numbered text f (at Exponent f) p w id
power_answers {text} {f} {p} {q} {r} {u} {v} {w} {base} {exponent} {id} s a x k b kb m y g h n =
    let l : plain_label node.BinaryExpression (made.Binary binary.Exponential) s ≡ label_here binary_expression (of Star2) p v = rw (g, h) refl in
    let z : MadeHere (label_here binary_expression (of Star2) p v) (Some base ∷ Some exponent ∷ []) v w id = subst (λ (t : Label). MadeHere t (Some base ∷ Some exponent ∷ []) v w id) l n in
    let t : Holds v.nodes (length r.nodes) (length v.nodes) exponent.0 y.answer.label y.answer.slots = subst (λ (ns : List Node). Holds v.nodes (length ns) (length v.nodes) exponent.0 y.answer.label y.answer.slots) m.nodes y.holds in
    let kt : Keeps r.nodes v.nodes = subst (λ (ns : List Node). Keeps ns v.nodes) m.nodes y.keeps in
    by_path (power_path x.answer k b.answer kb m a y.answer) (same_both b.answer.same (same_both m.same y.answer.same)) z.stays (λ o i. y.answer.stops o i) y.answer.row (two_held z b.holds b.keeps t kt) (Keeps-trans b.keeps (Keeps-trans kt (Keeps-made z.made))) refl (one_lies z)

-- what stands behind the base is the same after the check
pub still_star : {start n : ℕ} {c : Bool} {q r : Parser} → ChecksBase start c n q r → q.token.kind ≡ Star2 → r.token.kind ≡ Star2
still_star (inl c) k = ap (λ (z : Parser). z.token.kind) c.1.is ∙ k
still_star (inr c) k = ap (λ (z : Parser). z.token.kind) c.0 ∙ k

pub same_span : {s : Span} {from to : ℕ} → s.start ≡ from → s.end ≡ to → s ≡ record { start = from; end = to }
same_span e g = λ i. record { start = e i; end = g i }

pub star_whole : {text : List ℕ} {f : Flags} {p : Parser} → At text f p → p.token.kind ≡ Star2 → IsWholeHere p
star_whole a k = (uncut a (ap (same_kind RAngle) k), ap unpassable k)
