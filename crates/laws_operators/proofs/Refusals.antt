-- What is told of an operand that is no target.
use Rattle.laws_shared.proofs.Signs.{plain_of, none_kept}
use Rattle.parse_targets.proofs.Refused.{refused}
use Rattle.std.proofs.Common.{ℕ, ◌≡◌, ◌≤◌, ◌⊎◌, inl, inr, List, length, Bool, true, false, not, ◌&&◌, ◌||◌, IsTrue, Some, None, refl, sym, ap, subst, arith, ◌∙◌, nat_lt}
use Rattle.std.specs.Prelude.{IsCharBoundary, IsSome, is_some, if◌then◌else◌}
use Rattle.js_base.specs.declared.operator.UpdateOperator.{UpdateOperator}
use Rattle.js_base.specs.declared.operator.UpdateOperator.TheVariants as update
use Rattle.js_base.specs.Operators.{row_of as row_in, update_operators}
use Rattle.laws_shared.specs.js_tree.declared.id.NodeId.{NodeId}
use Rattle.std.proofs.lemmas.Bool.{false≢true, and_from, and_parts}
use Rattle.js_base.specs.declared.diagnostic.Diagnostic.{Diagnostic}
use Rattle.js_base.specs.declared.kind.Kind.{Kind}
use Rattle.js_base.specs.declared.kind.Kind.TheVariants.{Plus2, Minus2}
use Rattle.js_base.specs.declared.span.Span.{Span}
use Rattle.js_base.specs.Kinds.{same_kind, one_of_kinds}
use Rattle.js_grammar.specs.Grammar.{Lexeme, Lexemes, Look, seen, here}
use Rattle.js_grammar.specs.Insertion.{Row, after_expression}
use Rattle.js_grammar.specs.LexicalFaults.{Reached}
use Rattle.js_grammar.specs.Lexemes.{is_escaped}
use Rattle.js_grammar.specs.Marks.{Mark, BehindUpdate, a_lexeme}
use Rattle.js_grammar.specs.Productions.{Flags, Symbol, at, LeftHandSide, Unary}
use Rattle.js_grammar.specs.Follow.{looser}
use Rattle.js_grammar.proofs.Looks.{covers, covered, apart}
use Rattle.laws_shared.specs.js_cursor.Parsers.{Parser}
use Rattle.laws_shared.specs.js_cursor.Places.{goal}
use Rattle.laws_shared.specs.js_cursor.declared.stop.Stop.{Stop}
use Rattle.laws_shared.specs.Answers.{Answer, Numbered, Verdict, Stops}
use Rattle.laws_shared.specs.Lexemes.{Lex, is_read_kind}
use Rattle.laws_shared.specs.Moves.{Moved}
use Rattle.laws_shared.specs.Operators.{power_of}
use Rattle.laws_operators.specs.Rests.{update_kinds}
use Rattle.laws_shared.specs.Stands.{ending_kinds, Ended}
use Rattle.parse_targets.specs.Taken.{no_target_at}
use Rattle.laws_shared.specs.States.{At, Same}
use Rattle.parse_targets.specs.Targets.{target_of, Stood}
use Rattle.parse_targets.proofs.Covers.{row_of_target, Untargeted, no_target_there}
use Rattle.laws_shared.proofs.Here.{found, uncut}
use Rattle.laws_shared.proofs.Moving.{same_itself, same_both}
use Rattle.laws_shared.proofs.Paths.{read_of, not_here, settles}
use Rattle.parse_targets.proofs.Targets.{passes_itself, of_unary}
use Rattle.laws_operators.proofs.Updates.{of_update, update_plain, a_postfix, postfix_here, line_here}
use Rattle.laws_shared.specs.Classes.{EndsParse}
use Rattle.laws_shared.specs.js_cursor.Moves.{GivesUp}

-- ---- what ends an operand

-- ---- marks

a_postfix_follows : (f : Flags) → (b : Bool) → covers a_postfix (looser 17 b after_expression) ≡ true
unfolding covers
a_postfix_follows f true = refl
a_postfix_follows f false = refl

abbrev an_end : Bool → Look
an_end b k w e = (one_of_kinds ending_kinds k || nat_lt 0 (power_of b k)) && not e

an_end_follows : (b : Bool) → covers (an_end b) (looser 16 b after_expression) ≡ true
unfolding covers
an_end_follows true = refl
an_end_follows false = refl

-- of a text between two places
marked_there : {text : List ℕ} {f : Flags} {p q : Parser} (to : Parser) (place : ℕ) → At text f p → At text f q → Same q to → to.prev_token_end ≡ q.prev_token_end → p.token.span.start ≤ q.prev_token_end → ((s : Span) → s.start ≡ p.token.span.start → s.end ≡ q.prev_token_end → (y : Lexeme) × (u : Untargeted text s place y) × (BehindUpdate (goal to) text place ⊎ IsTrue (one_of_kinds update_kinds y.kind))) → (start : ℕ) → start ≡ p.token.span.start → Mark (goal to) to.text (no_target_at start to.prev_token_end)
marked_there {text} {f} {p} {q} to place a b s e l u start d = subst (λ (v : List ℕ). Mark (goal to) v (no_target_at start to.prev_token_end)) (sym (s.follows.text ∙ b.text_is)) it
  where
    beside_it : {s : Span} {y : Lexeme} (u : Untargeted text s place y) → BehindUpdate (goal to) text place ⊎ IsTrue (one_of_kinds update_kinds y.kind) → BehindUpdate (goal to) text u.there.place ⊎ IsTrue (one_of_kinds update_kinds (here u.there.rest).kind)
    beside_it u (inl h) = inl (subst (λ (v : ℕ). BehindUpdate (goal to) text v) (sym u.place_is) h)
    beside_it u (inr h) = inr (subst (λ (v : Lexemes). IsTrue (one_of_kinds update_kinds (here v).kind)) (sym u.rest_is) h)

    it : Mark (goal to) text (no_target_at start to.prev_token_end)
    it = let x = u (record { start = start; end = to.prev_token_end }) d e in record {
      ordered = omega arith;
      within = let i = (subst (λ (v : List ℕ). IsCharBoundary v q.prev_token_end) b.text_is b.at.between).0 in omega arith;
      begins_between = subst (λ (v : ℕ). IsCharBoundary text v) (sym d) (subst (λ (v : List ℕ). IsCharBoundary v p.token.span.start) a.text_is a.at.lies.starts_whole);
      ends_between = subst (λ (v : ℕ). IsCharBoundary text v) (sym e) (subst (λ (v : List ℕ). IsCharBoundary v q.prev_token_end) b.text_is b.at.between);
      stands = (inl (record { underived = x.1.there; beside = beside_it x.1 x.2 }), (refl, refl));
    }

module _ {text : List ℕ} {f : Flags} {p q : Parser} (a : At text f p) where
  -- before a postfix operator
  pub postfix_marked : (x : Answer text f (at LeftHandSide f) p q) → one_of_kinds update_kinds q.token.kind ≡ true → q.token.is_on_new_line ≡ false → target_of x.label x.slots ≡ None → (start : ℕ) → start ≡ p.token.span.start → length q.errors ≡ length p.errors → Mark (goal q) q.text (no_target_at start q.prev_token_end)
  postfix_marked x u w e start d k =
      let c = update_plain q.token.kind u in
      let z = found x.at (uncut x.at c.1) c.2 in
      let r : is_read_kind q.token.kind ≡ true = of_update (λ o. is_read_kind o ≡ true) q.token.kind u refl refl in
      let n : z.0.escaped ≡ false = plain_of q.token.kind z.1.word z.0.escaped (subst (λ (v : Kind). z.0.escaped ≡ is_escaped v z.1.word) (sym z.2.kind) z.1.escaped) c.0 in
      let y : Lex text q.prev_token_end z.0 = (z.1, read_of z.0 (sym z.2.kind) r) in
      marked_there q p.prev_token_end a x.at (same_itself) refl (let i = x.further in omega arith)
      (λ s b g. (z.0, no_target_there passes_itself x a (none_kept x.verdict k) e z.0 y (λ l cs t h. covered a_postfix (looser 17 f.in_ after_expression) (a_postfix_follows f f.in_) z.0.kind z.0.newline z.0.escaped (postfix_here x.at u w z.0 y)) s b g, inr (subst (λ (v : Kind). one_of_kinds update_kinds v ≡ true) z.2.kind u))) start d

  -- behind a prefix operator
  pub prefix_marked : {r t : Parser} {b : Bool} → one_of_kinds update_kinds p.token.kind ≡ true → (m : Moved text f p q) → (x : Answer text f (at Unary f) q r) → Ended text f r t b → IsTrue b → target_of x.label x.slots ≡ None → (start : ℕ) → start ≡ q.token.span.start → length t.errors ≡ length q.errors → Mark (goal t) t.text (no_target_at start t.prev_token_end)
  prefix_marked {r} {t} {b} u m x o i e start d k =
      let z = o.lexeme i in
      let y : Lex text r.prev_token_end z.0 = subst (λ (v : ℕ). Lex text v z.0) o.place z.1 in
      marked_there t q.prev_token_end m.at x.at o.same o.place (let i = x.further in omega arith)
      (λ s b g. (
        z.0,
        no_target_there (of_unary f) x m.at (none_kept x.verdict (sym (ap length o.kept) ∙ k)) e z.0 y (λ l cs v h. subst (λ (w : Row). IsTrue (seen (looser 16 f.in_ w) z.0)) (sym (row_of_target l cs v h)) (covered (an_end f.in_) (looser 16 f.in_ after_expression) (an_end_follows f.in_) z.0.kind z.0.newline z.0.escaped (ending z.0 z.2 z.3))) s b g,
        inl (record { lexeme = m.lexeme; of_text = a_lexeme (subst (λ (v : List ℕ). Reached v p.prev_token_end) a.text_is a.at.reached) m.stood; ends = m.ends; is = subst (λ (v : Kind). one_of_kinds update_kinds v ≡ true) m.tells.kind u }),
      )) start d
    where
      ending : (y : Lexeme) → y.escaped ≡ false → IsTrue (one_of_kinds ending_kinds y.kind || nat_lt 0 (power_of f.in_ y.kind)) → an_end f.in_ y.kind y.newline y.escaped ≡ true
      ending y e h = and_from _ _ h (ap not e)

-- ---- what the tests of the code say

update_table : (k : Kind) → is_some (row_in update_operators k) ≡ one_of_kinds update_kinds k
update_table k = listed_in (same_kind Plus2 k) (same_kind Minus2 k)
  where
    listed_in : (a b : Bool) → is_some (if a then Some update.Increment else (if b then Some update.Decrement else None)) ≡ (a || (b || false))
    listed_in true b = refl
    listed_in false true = refl
    listed_in false false = refl

pub update_listed : {k l : Kind} {b c : Bool} → k ≡ l → b ≡ is_some (row_in update_operators k) → b ≡ c → one_of_kinds update_kinds l ≡ c
update_listed {k} {c = c} e h g = subst (λ (j : Kind). one_of_kinds update_kinds j ≡ c) e (sym (update_table k) ∙ (sym h ∙ g))

-- a node that was read stands for a tree
pub stood : {text : List ℕ} {f : Flags} {n : Symbol} {p q : Parser} {id : NodeId} → Numbered text f n p q id → Stood q.nodes id
stood {p = p} {q = q} x = record { lo = length p.nodes; hi = length q.nodes; label = x.answer.label; slots = x.answer.slots; holds = x.holds }

pub update_some : (k : Kind) → one_of_kinds update_kinds k ≡ true → IsSome (row_in update_operators k)
update_some k h = of_update (λ k. IsSome (row_in update_operators k)) k h refl refl

pub both_of : {r : Bool} (n u : Bool) → r ≡ (not n && u) → r ≡ true → (n ≡ false) × (u ≡ true)
both_of true u e h = absurd (false≢true (sym e ∙ h))
both_of false u e h = (refl, sym e ∙ h)

apart_updates : settles update_kinds ≡ true
unfolding apart
apart_updates = refl

-- no operator stands behind on the line
pub none_behind : {text : List ℕ} {f : Flags} {q : Parser} {r : Bool} → At text f q → r ≡ (not q.token.is_on_new_line && one_of_kinds update_kinds q.token.kind) → r ≡ false → (y : Lexeme) → Lex text q.prev_token_end y → IsTrue (seen a_postfix y) → ⊥
none_behind {q = q} a e h y l s = go (one_of_kinds update_kinds q.token.kind) refl (q.token.is_on_new_line) refl
  where
    parts : (not y.newline ≡ true) × ((one_of_kinds update_kinds y.kind && not y.escaped) ≡ true)
    parts = and_parts (not y.newline) _ s

    go : (u : Bool) → one_of_kinds update_kinds q.token.kind ≡ u → (n : Bool) → q.token.is_on_new_line ≡ n → ⊥
    go false u n w = not_here a update_kinds apart_updates u y l (and_parts (one_of_kinds update_kinds y.kind) (not y.escaped) parts.1).0
    go true u true w = false≢true (sym (ap not (line_here a u y l ∙ w)) ∙ parts.0)
    go true u false w = false≢true (sym h ∙ (e ∙ ((λ i. not (w i) && u i))))

pub row_update : {k l : Kind} {o : UpdateOperator} → k ≡ l → row_in update_operators k ≡ Some o → row_in update_operators l ≡ Some o
row_update {o = o} e h = subst (λ (j : Kind). row_in update_operators j ≡ Some o) e h

pub refused_behind : {text : List ℕ} {f : Flags} {p q t : Parser} {b : Bool} {C B F : Type 0} (r : Parser) (e : Stop) → Same p q → Verdict (f.wide ≡ true) p.errors q.errors C B → Ended text f q t b → GivesUp EndsParse t r e → F → Stops p r e F
refused_behind {f = f} {p = p} {q = q} {t = t} {C = C} {B = B} r e s v o h n = refused r e o.at (same_both s o.same) (subst (λ (ds : List Diagnostic). Verdict (f.wide ≡ true) p.errors ds C B) (sym o.kept) v) h n

pub update_some_at : {k l : Kind} → l ≡ k → one_of_kinds update_kinds k ≡ true → IsSome (row_in update_operators l)
update_some_at {k} e h = subst (λ (j : Kind). IsSome (row_in update_operators j)) (sym e) (update_some k h)
