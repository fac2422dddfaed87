-- How a ShortCircuitExpression is read (ECMA-262, 13.13): the states of the loop over `??`, and what is told of operands without parentheses.
use Rattle.std.proofs.Common.{ℕ, ◌≡◌, ◌≤◌, ◌<◌, ◌+◌, ◌-◌, inl, inr, max, Bool, true, false, not, ◌||◌, IsTrue, List, [], ◌∷◌, length, Some, Option, refl, sym, ap, subst, arith, ◌∙◌}
use Rattle.std.specs.Prelude.{IsCharBoundary, Ok, Err}
use Rattle.std.proofs.lemmas.Bool.{false≢true, and_from, and_parts, or_left, or_right}
use Rattle.parse_targets.proofs.Covers.{all_stand}
use Rattle.js_base.specs.declared.diagnostic.Diagnostic.{Diagnostic}
use Rattle.js_base.specs.declared.kind.Kind.{Kind}
use Rattle.js_base.specs.declared.kind.Kind.TheVariants.{Question2}
use Rattle.js_base.specs.Kinds.{same_kind, one_of_kinds}
use Rattle.js_base.specs.Texts.{words}
use Rattle.js_grammar.specs.Trees.{NodeKind, Op, of, Label, Slots, end, tree, logical_expression}
use Rattle.js_grammar.specs.Grammar.{Lexeme, Lexemes, last, next, here, seen, such, nothing, Takes, Derives, is_nothing, is_left, is_right}
use Rattle.js_grammar.specs.Lexed.{Lexes, all_faults}
use Rattle.js_grammar.specs.Lexed.{NextLexeme}
use Rattle.js_grammar.specs.LexicalFaults.{Reached}
use Rattle.js_grammar.specs.Marks.{Mark, loose}
use Rattle.js_grammar.specs.Parsing.{Test, Goes, Reaches, always, passing}
use Rattle.js_grammar.specs.Productions.{Flags, at, Short, Or, BitOr}
use Rattle.js_grammar.specs.Productions.{sym as symbol}
use Rattle.js_grammar.specs.Table.{rule, rule_of}
use Rattle.js_grammar.specs.Follow.{row_of, looser, after}
use Rattle.js_grammar.specs.RightEdges.{of_operand}
use Rattle.js_grammar.specs.Towers.{linked_label, tail_none}
use Rattle.js_grammar.proofs.Calculus.{here_at, reaches_less, ◌▹◌, ◌▹✗◌}
use Rattle.js_grammar.proofs.BuiltLines.{in_whole}
use Rattle.js_grammar.proofs.Loose.{strict_is_loose}
use Rattle.js_grammar.proofs.Looks.{covers, apart}
use Rattle.laws_shared.specs.js_tree.declared.id.NodeId.{NodeId}
use Rattle.laws_shared.specs.js_tree.Nodes.{Node}
use Rattle.laws_shared.specs.js_tree.Holding.{Holds, Keeps}
use Rattle.laws_shared.proofs.js_tree.HoldingLemmas.{Holds-kept, Keeps-trans, Keeps-made}
use Rattle.laws_shared.specs.js_cursor.Checkpoints.{Follows}
use Rattle.laws_shared.specs.js_cursor.Parsers.{Parser}
use Rattle.laws_shared.specs.js_cursor.Places.{IsAt, goal}
use Rattle.laws_shared.proofs.js_cursor.Later.{keeps_follows}
use Rattle.laws_shared.specs.js_cursor.declared.stop.Stop.{Stop}
use Rattle.laws_shared.specs.Answers.{Grown, Verdict, clean, unclean, wider, Stretch, Underived, Numbered, Stops, beside}
use Rattle.parse_targets.specs.Targets.{Stood}
use Rattle.laws_operators.specs.Coalescing.{is_or_and, mixed_at, ChecksMixed}
use Rattle.laws_shared.specs.Lexemes.{Lex, Walked, spot, Plain}
use Rattle.laws_shared.specs.Moves.{Moved, MadeHere, IsWholeHere}
use Rattle.laws_shared.specs.States.{At, Same}
use Rattle.laws_operators.proofs.Coalescing.{Begun, operand, operands, coalesced, part, PartReads, AllSigns, NoSign, as_bit_or, no_bit_or, unread_operand, no_short, kind_of_or, begun_alone, begun_fails, begun_step}
use Rattle.laws_shared.proofs.Signs.{plain_sign, whole_sign, other_kind}
use Rattle.laws_shared.proofs.Told.{beside_errors}
use Rattle.laws_shared.proofs.Giving.{gives_up, kept_one}
use Rattle.laws_shared.proofs.Here.{kind_here, begins_here}
use Rattle.laws_shared.proofs.MadeNodes.{two_held, made_lies}
use Rattle.laws_shared.proofs.Moving.{stops_behind, same_both, same_itself, same_with, beside_nodes}
use Rattle.laws_shared.proofs.Paths.{skips, not_here, read_of, walked_both, walked_one, walked_to}
use Rattle.laws_shared.proofs.Phrases.{narrow_operand}
use Rattle.laws_shared.proofs.Signs.{none_kept}
use Rattle.laws_shared.proofs.Escapes.{read_plain}
use Rattle.laws_shared.proofs.Tight.{narrows, plain_lex}
use Rattle.laws_shared.proofs.Verdicts.{verdict_of, either_way, and_then, behind_none, grown_then}
use Rattle.laws_shared.proofs.Verdicts.{after as grown_behind}
use Rattle.laws_shared.specs.Classes.{EndsParse}
use Rattle.laws_shared.proofs.Classes.{one_early}

-- the same of a node's kind and operator
abbrev is_or_and_node : NodeKind → Op → Bool
is_or_and_node logical_expression o = is_or_and o
is_or_and_node _ o = false

-- no ShortCircuitExpression is derived
abbrev pub Unread : List ℕ → Flags → ℕ → Type 0
Unread text f s = Underived text (at Short f) s

-- Operands with `??` between them, as far as they were read.
pub record Operands (text : List ℕ) (f : Flags) (p q : Parser) (id : NodeId) : Type 0 where
  pub at : At text f q
  pub same : Same p q
  pub further : p.token.span.start < q.prev_token_end
  pub label : Label
  pub slots : Slots
  pub row : of_operand (row_of label slots) ≡ true
  pub pass : Lexemes → Lexemes
  pub walked : Walked text (spot p) (spot q) pass
  pub verdict : Verdict (f.wide ≡ true) p.errors q.errors (Begun text f p.prev_token_end p.token.span.start label slots pass q.prev_token_end) (Unread text f p.prev_token_end)
  pub stops : (y : Lexeme) → Plain text q.prev_token_end y → IsTrue (seen (looser 5 f.in_ (row_of label slots)) y || seen beside y)
  pub holds : Holds q.nodes (length p.nodes) (length q.nodes) id.0 label slots
  pub keeps : Keeps p.nodes q.nodes

-- A `??` was passed and the operand behind it was read, up to v; and it was checked that no parentheses are missing.
pub record Checked (text : List ℕ) (f : Flags) (p v w : Parser) (l : Label) (cs : Slots) (pass : Lexemes → Lexemes) : Type 0 where
  pub at : At text f w
  pub same : Same v w
  pub nodes : w.nodes ≡ v.nodes
  pub place : w.prev_token_end ≡ v.prev_token_end
  pub spot_is : spot w ≡ spot v
  pub verdict : Verdict (f.wide ≡ true) p.errors w.errors (Begun text f p.prev_token_end p.token.span.start l cs pass v.prev_token_end) (Unread text f p.prev_token_end)

pub operands_init : {text : List ℕ} {f : Flags} {p q : Parser} {id : NodeId} → Numbered text f (at Or f) p q id → Operands text f p q id
operands_init {f = f} x = record {
  at = x.answer.at;
  same = x.answer.same;
  further = x.answer.further;
  label = x.answer.label;
  slots = x.answer.slots;
  row = x.answer.row;
  pass = x.answer.pass;
  walked = x.answer.walked;
  verdict = verdict_of x.answer.verdict (λ y. operand y) (λ n. no_short f n);
  stops = x.answer.stops;
  holds = x.holds;
  keeps = x.keeps;
}

-- what was read so far is a ShortCircuitExpression
begun_derived : (text : List ℕ) (f : Flags) (s from s' : ℕ) (l : Label) (cs : Slots) (pass : Lexemes → Lexemes) → Begun text f s from l cs pass s' → (ls : Lexemes) → Lexes (Lex text) s' ls → Reaches s' s' ls → Takes rule (rule (at Short f)) end (tree l cs end) s (pass ls) end s' ls
unfolding rule rule_of
begun_derived text f s from s' l cs pass (operand x) ls i r = is_left (x.goes.sound end end s' ls ls i (reaches_less x.reach s' x.near s' ls r) is_nothing)
begun_derived text f s from s' l cs pass (operands o h x) ls i r = is_right (x.around.sound l cs s' ls ls i (reaches_less x.reach s' x.near s' ls r) tail_none)

begun_lexed : {text : List ℕ} {f : Flags} {s from s' : ℕ} {l : Label} {cs : Slots} {pass : Lexemes → Lexemes} → Begun text f s from l cs pass s' → (ls : Lexemes) → Lexes (Lex text) s' ls → Lexes (Lex text) s (pass ls)
begun_lexed (operand x) ls i = x.goes.passes.lexed ls i
begun_lexed (operands o h x) ls i = x.around.passes.lexed ls i

module _ {text : List ℕ} {f : Flags} where
  sign_here : {q : Parser} → At text f q → q.token.kind ≡ Question2 → AllSigns text f q.prev_token_end
  sign_here a k y l = and_from _ _ (subst (λ (v : Kind). same_kind Question2 v ≡ true) (sym (kind_here a k refl y l)) refl) (ap not (read_plain y l (kind_here a k refl y l) refl))

  sign_none : {q : Parser} → At text f q → (q.token.kind ≡ Question2 → ⊥) → NoSign text f q.prev_token_end
  unfolding apart
  sign_none {q} a n y l h = not_here a (Question2 ∷ []) refl (other_kind Question2 q.token.kind n) y l (or_left (same_kind Question2 y.kind) false (and_parts (same_kind Question2 y.kind) (not y.escaped) h).0)

  -- no `??` stands here
  pub short_answer : {p q : Parser} {id : NodeId} → Operands text f p q id → (q.token.kind ≡ Question2 → ⊥) → Numbered text f (at Short f) p q id
  unfolding covers
  short_answer {p} {q} s n = record {
    answer = record {
      at = s.at;
      same = s.same;
      further = s.further;
      label = s.label;
      slots = s.slots;
      stops = λ y l. narrows 5 4 (Question2 ∷ []) f.in_ (row_of s.label s.slots) (narrow_operand 5 4 (Question2 ∷ []) refl refl refl refl f.in_ (row_of s.label s.slots) s.row) y l.1 (no_kind y (plain_lex l)) (s.stops y l);
      row = s.row;
      pass = s.pass;
      walked = s.walked;
      verdict = verdict_of s.verdict (λ b. begun_alone f b (sign_none s.at n)) (λ m. m);
    };
    holds = s.holds;
    keeps = s.keeps;
  }
    where
      no_kind : (y : Lexeme) → Lex text q.prev_token_end y → one_of_kinds (Question2 ∷ []) y.kind ≡ false
      no_kind y l = other_kind Question2 y.kind (λ e. sign_none s.at n y l (and_from _ _ (subst (λ (v : Kind). same_kind Question2 v ≡ true) (sym e) refl) (ap not (read_plain y l e refl))))

  sign_plain : {q : Parser} → At text f q → q.token.kind ≡ Question2 → q.token.escaped ≡ false
  unfolding words
  sign_plain a k = plain_sign Question2 a k refl refl refl

  pub sign_whole : {q : Parser} → At text f q → q.token.kind ≡ Question2 → IsWholeHere q
  sign_whole a k = whole_sign Question2 a k refl refl

  module _ {p q r : Parser} {left : NodeId} (s : Operands text f p q left) (k : q.token.kind ≡ Question2) (m : Moved text f q r) where
    skip : {X : Test} → Goes rule (Lex text) X end (part f) q.prev_token_end (symbol BitOr f) r.prev_token_end (λ us. us) (passing m.lexeme)
    skip = skips s.at Question2 k (sign_plain s.at k) refl m

    pub right_room : At text f p → length r.text + 1 - r.prev_token_end < length p.text + 1 - p.prev_token_end
    right_room a = let g = s.at.behind in let e = m.further in let i = s.further in let j = a.behind in let n = a.at.between.0 in let t = m.at.text_is in let u = a.text_is in omega (arith, ap length t, ap length u)

    pub same_so : Same p r
    same_so = same_both s.same m.same

    pub grown_so : {ds : List Diagnostic} → Grown r.errors ds → Grown p.errors ds
    grown_so g = grown_behind s.verdict (grown_then m.kept g)

    -- the operand behind it can't be read
    pub right_none : Underived text (at Or f) r.prev_token_end → Underived text (at Short f) p.prev_token_end
    right_none n = either_way s.verdict (λ b. begun_fails f b s.row (sign_here s.at k) (inr (skip ▹✗ unread_operand n))) (λ z. z)

    module _ {v : Parser} {right : NodeId} (x : Numbered text f (at Or f) r v right) where
      forward : q.prev_token_end < v.prev_token_end
      forward = let b = s.at.behind in let c = m.further in let e = m.at.behind in let g = x.answer.further in omega arith

      pub start_before : p.token.span.start ≤ v.prev_token_end
      start_before = let a = s.further in let b = forward in omega arith

      abbrev RightReads : Type 0
      RightReads = Stretch text (after (at Or f)) (such (at Or f) always) r.prev_token_end nothing v.prev_token_end (tree x.answer.label x.answer.slots) x.answer.pass

      abbrev LeftReads : Type 0
      LeftReads = Begun text f p.prev_token_end p.token.span.start s.label s.slots s.pass q.prev_token_end

      abbrev Nowhere : Type 0
      Nowhere = Unread text f p.prev_token_end

      both : Verdict (f.wide ≡ true) p.errors v.errors (LeftReads × RightReads) Nowhere
      both = and_then s.verdict (behind_none m.kept x.answer.verdict) (λ b y. (b, y)) (λ z. z) (λ b n. begun_fails f b s.row (sign_here s.at k) (inr (skip ▹✗ unread_operand n)))

      -- whether parentheses are missing
      abbrev pub is_mixed : Bool
      is_mixed = is_or_and s.label.op || is_or_and x.answer.label.op

      mixed_fails : is_mixed ≡ true → LeftReads × RightReads → Nowhere
      mixed_fails e z = go (is_or_and s.label.op) refl e
        where
          go : (b : Bool) → is_or_and s.label.op ≡ b → (b || is_or_and x.answer.label.op) ≡ true → Nowhere
          go true i e = begun_fails f z.0 s.row (sign_here s.at k) (inl i)
          go false i e = begun_fails f z.0 s.row (sign_here s.at k) (inr (skip ▹✗ no_bit_or e z.1))

      mixed_none : is_mixed ≡ true → Nowhere
      mixed_none e = either_way both (mixed_fails e) (λ n. n)

      abbrev pub pair_label : Label
      pair_label = linked_label (coalesced f) p.token.span.start v.prev_token_end

      abbrev pair_slots : Slots
      pair_slots = tree s.label s.slots (tree x.answer.label x.answer.slots end)

      abbrev pair_pass : Lexemes → Lexemes
      pair_pass ls = s.pass (next m.lexeme (x.answer.pass ls))

      part_reads : is_or_and x.answer.label.op ≡ false → RightReads → PartReads text f q.prev_token_end v.prev_token_end x.answer.label x.answer.slots (λ ls. next m.lexeme (x.answer.pass ls))
      part_reads e y = let z = as_bit_or e y in record { reach = max 0 z.reach; near = let i = z.near in omega arith; goes = skip ▹ z.goes }

      neither : (a b : Bool) → (a || b) ≡ false → (a ≡ false) × (b ≡ false)
      neither true b e = absurd (false≢true (sym e))
      neither false b e = (refl, e)

      pair_reads : At text f p → is_mixed ≡ false → LeftReads × RightReads → Begun text f p.prev_token_end p.token.span.start pair_label pair_slots pair_pass v.prev_token_end
      pair_reads a e z = let h = neither (is_or_and s.label.op) (is_or_and x.answer.label.op) e in begun_step f (let i = forward in omega arith) (begins_here a) z.0 s.row (sign_here s.at k) h.0 (part_reads h.1 z.1)

      grown_of : {found : ℕ} → found ≡ length p.errors → (found ≡ length v.errors → ⊥) → Grown p.errors v.errors
      grown_of {found} e n = go both
        where
          go : Verdict (f.wide ≡ true) p.errors v.errors (LeftReads × RightReads) Nowhere → Grown p.errors v.errors
          go (clean i c) = absurd (n (e ∙ sym (ap length i)))
          go (unclean g c) = g
          go (wider w g c) = g

      pub checked : {w : Parser} {mixed : Bool} {start found : ℕ} → At text f p → mixed ≡ is_mixed → found ≡ length p.errors → ChecksMixed start mixed found v w (Ok tt) → Checked text f p v w pair_label pair_slots pair_pass
      checked {w} {mixed} {start} {found} a e i (inl c) = subst (λ (z : Parser). Checked text f p v z pair_label pair_slots pair_pass) (sym c.1.is) (record {
        at = beside_errors x.answer.at (subst IsAt c.1.is c.1.at);
        same = record { follows = subst (Follows v) c.1.is (keeps_follows c.1); options = refl; ctx = refl; depth = refl; visits = refl; early = λ w. one_early _ v.errors refl w; lies = λ w. w };
        nodes = refl;
        place = refl;
        spot_is = refl;
        verdict = unclean (grown_behind both (subst (λ (z : Parser). Grown v.errors z.errors) c.1.is (kept_one c.1))) (mixed_none (sym e ∙ c.0));
      })
      checked {w} {mixed} {start} {found} a e i (inr c) = subst (λ (z : Parser). Checked text f p v z pair_label pair_slots pair_pass) (sym c.0) (record {
        at = x.answer.at;
        same = same_itself;
        nodes = refl;
        place = refl;
        spot_is = refl;
        verdict = go mixed refl;
      })
        where
          go : (b : Bool) → mixed ≡ b → Verdict (f.wide ≡ true) p.errors v.errors (Begun text f p.prev_token_end p.token.span.start pair_label pair_slots pair_pass v.prev_token_end) Nowhere
          go true h = unclean (grown_of i (c.1 h)) (mixed_none (sym e ∙ h))
          go false h = verdict_of both (pair_reads a (sym e ∙ h)) (λ n. n)

      -- where nothing was told so far, and a lexeme stands behind
      pub mixed_marked : At text f p → is_mixed ≡ true → length v.errors ≡ length p.errors → (y : Lexeme) → Lex text v.prev_token_end y → Mark (goal v) v.text (mixed_at p.token.span.start v.prev_token_end)
      unfolding rule rule_of
      mixed_marked a e g y l = record {
        ordered = start_before;
        within = x.answer.at.at.between.0;
        begins_between = subst (λ (t : List ℕ). IsCharBoundary t p.token.span.start) (sym whole.text) a.at.lies.starts_whole;
        ends_between = x.answer.at.at.between;
        stands = (
          record {
            place = p.prev_token_end;
            lexemes = s.pass behind_left;
            part = record { reached = subst (λ (t : List ℕ). Reached t p.prev_token_end) (sym whole.text) a.at.reached; lexed = subst (λ (t : List ℕ). Lexes (NextLexeme all_faults t) p.prev_token_end (s.pass behind_left)) (sym x.answer.at.text_is) (all_stand text p.prev_token_end (s.pass behind_left) all_lexed) };
            begins = begins_here a (here (s.pass behind_left)) (here_at (Lex text) (s.pass behind_left) all_lexed);
            flags = f;
            left = record { label = s.label; slots = s.slots };
            right = record { label = x.answer.label; slots = x.answer.slots };
            middle = q.prev_token_end;
            operator = m.lexeme;
            behind = x.answer.pass (last y);
            rest = last y;
            left_derived = in_whole (at Short (loose f)) (record { label = s.label; slots = s.slots }) (strict_is_loose (at Short f) (record { label = s.label; slots = s.slots }) left_derived);
            is_operator = sign_is;
            right_derived = in_whole (at Short (loose f)) (record { label = x.answer.label; slots = x.answer.slots }) (strict_is_loose (at Short f) (record { label = x.answer.label; slots = x.answer.slots }) right_derived);
            mixed = mixed_nodes;
          },
          (refl, refl),
        );
      }
        where
          read : LeftReads × RightReads
          read = none_kept both g

          whole : Follows p v
          whole = (same_both s.same (same_both m.same x.answer.same)).follows

          sign_is : m.lexeme.kind ≡ Question2
          sign_is = sym m.tells.kind ∙ k

          behind_left : Lexemes
          behind_left = next m.lexeme (x.answer.pass (last y))

          right_lexed : Lexes (Lex text) r.prev_token_end (x.answer.pass (last y))
          right_lexed = read.1.goes.passes.lexed (last y) l

          left_lexed : Lexes (Lex text) q.prev_token_end behind_left
          left_lexed = ((m.stood, read_of m.lexeme sign_is refl), subst (λ (e : ℕ). Lexes (Lex text) e (x.answer.pass (last y))) (sym m.ends) right_lexed)

          all_lexed : Lexes (Lex text) p.prev_token_end (s.pass behind_left)
          all_lexed = begun_lexed read.0 behind_left left_lexed

          reached : Reaches q.prev_token_end q.prev_token_end behind_left
          reached = subst (λ (e : ℕ). Reaches q.prev_token_end e (x.answer.pass (last y))) (sym m.ends) (read.1.goes.passes.reaches q.prev_token_end (last y) (inl (let i = forward in omega arith)))

          left_derived : Derives rule (at Short f) (record { label = s.label; slots = s.slots }) p.prev_token_end (s.pass behind_left) q.prev_token_end behind_left
          left_derived = begun_derived text f p.prev_token_end p.token.span.start q.prev_token_end s.label s.slots s.pass read.0 behind_left left_lexed reached

          right_taken : Takes rule (symbol Or f) end (tree x.answer.label x.answer.slots end) r.prev_token_end (x.answer.pass (last y)) end v.prev_token_end (last y)
          right_taken = read.1.goes.sound end end v.prev_token_end (last y) (last y) l (inl read.1.near) is_nothing

          right_derived : Derives rule (at Short f) (record { label = x.answer.label; slots = x.answer.slots }) m.lexeme.to (x.answer.pass (last y)) v.prev_token_end (last y)
          right_derived = subst (λ (e : ℕ). Takes rule (rule (at Short f)) end (tree x.answer.label x.answer.slots end) e (x.answer.pass (last y)) end v.prev_token_end (last y)) (sym m.ends) (is_left right_taken)

          left_kind : LeftReads → is_or_and s.label.op ≡ true → s.label.kind ≡ logical_expression
          left_kind (operand z) h = kind_of_or (z.goes.sound end end q.prev_token_end behind_left behind_left left_lexed (reaches_less z.reach q.prev_token_end z.near q.prev_token_end behind_left reached) is_nothing) h
          left_kind (operands o n z) h = absurd (false≢true (sym n ∙ h))

          as_node : (n : NodeKind) (o : Op) → n ≡ logical_expression → is_or_and o ≡ true → is_or_and_node n o ≡ true
          as_node n o e h = rw e h

          mixed_nodes : (is_or_and_node s.label.kind s.label.op || is_or_and_node x.answer.label.kind x.answer.label.op) ≡ true
          mixed_nodes = go (is_or_and s.label.op) refl e
            where
              go : (b : Bool) → is_or_and s.label.op ≡ b → (b || is_or_and x.answer.label.op) ≡ true → (is_or_and_node s.label.kind s.label.op || is_or_and_node x.answer.label.kind x.answer.label.op) ≡ true
              go true i h = or_left _ _ (as_node s.label.kind s.label.op (left_kind read.0 i) i)
              go false i h = or_right (is_or_and_node s.label.kind s.label.op) _ (as_node x.answer.label.kind x.answer.label.op (kind_of_or right_taken h) h)

      -- what the code calls so
      pub mixed_marked_so : {start found : ℕ} {mixed : Bool} → At text f p → mixed ≡ is_mixed → start ≡ p.token.span.start → found ≡ length p.errors → mixed ≡ true → found ≡ length v.errors → (y : Lexeme) → Lex v.text v.prev_token_end y → Mark (goal v) v.text (mixed_at start v.prev_token_end)
      mixed_marked_so {start} {found} a e g h i j y l = subst (λ (n : ℕ). Mark (goal v) v.text (mixed_at n v.prev_token_end)) (sym g) (mixed_marked a (sym e ∙ i) (sym j ∙ h) y (subst (λ (t : List ℕ). Lex t v.prev_token_end y) x.answer.at.text_is l))

      pub mixed_stops : (start found : ℕ) {mixed : Bool} (w : Parser) (e : Stop) → mixed ≡ is_mixed → ChecksMixed start mixed found v w (Err e) → Stops p w e Nowhere
      mixed_stops start found w e g c = stops_behind w e (same_both s.same (same_both m.same x.answer.same)) (λ h. grown_behind both h) (λ z. z) (gives_up EndsParse v w e x.answer.at c.1 (λ d u. u) (mixed_none (sym g ∙ c.0)))

      pub left_held : Holds v.nodes (length p.nodes) (length q.nodes) left.0 s.label s.slots
      left_held = Holds-kept (subst (λ (ns : List Node). Keeps ns v.nodes) m.nodes x.keeps) s.holds

      pub left_stood : Stood v.nodes left
      left_stood = record { lo = length p.nodes; hi = length q.nodes; label = s.label; slots = s.slots; holds = left_held }

      pair_stops : (y : Lexeme) → Plain text v.prev_token_end y → IsTrue (seen (looser 5 f.in_ (row_of pair_label pair_slots)) y || seen beside y)
      pair_stops y l = x.answer.stops y l

      module _ {w : Parser} (c : Checked text f p v w pair_label pair_slots pair_pass) where
        pub operands_step : {z : Parser} {made : NodeId} → MadeHere pair_label (Some left ∷ Some right ∷ []) w z made → Operands text f p z made
        operands_step {z} {made} n = subst (λ (u : Parser). Operands text f p u made) (sym n.stays) (record {
          at = beside_nodes z.nodes c.at;
          same = same_with z.nodes (same_both s.same (same_both m.same (same_both x.answer.same c.same))) (Keeps-trans s.keeps (Keeps-trans right_keeps (Keeps-made n.made))) (made_lies (same_both s.same (same_both m.same (same_both x.answer.same c.same))) c.at.at (let a = s.further in let b = forward in let e = c.place in omega arith) n (ap (λ (v : ℕ). record { from = p.token.span.start; to = v }) (sym c.place)));
          further = let a = s.further in let b = forward in let e = c.place in omega arith;
          label = pair_label;
          slots = pair_slots;
          row = x.answer.row;
          pass = pair_pass;
          walked = walked_to (sym c.spot_is) (walked_both s.walked (walked_both (walked_one m) x.answer.walked));
          verdict = subst (λ (e : ℕ). Verdict (f.wide ≡ true) p.errors w.errors (Begun text f p.prev_token_end p.token.span.start pair_label pair_slots pair_pass e) Nowhere) (sym c.place) c.verdict;
          stops = subst (λ (e : ℕ). (y : Lexeme) → Plain text e y → IsTrue (seen (looser 5 f.in_ (row_of pair_label pair_slots)) y || seen beside y)) (sym c.place) pair_stops;
          holds = two_held n s.holds s.keeps right_held right_keeps;
          keeps = Keeps-trans s.keeps (Keeps-trans right_keeps (Keeps-made n.made));
        })
          where
            right_held : Holds w.nodes (length q.nodes) (length w.nodes) right.0 x.answer.label x.answer.slots
            right_held = subst (λ (ns : List Node). Holds ns (length q.nodes) (length ns) right.0 x.answer.label x.answer.slots) (sym c.nodes) (subst (λ (ns : List Node). Holds v.nodes (length ns) (length v.nodes) right.0 x.answer.label x.answer.slots) m.nodes x.holds)

            right_keeps : Keeps q.nodes w.nodes
            right_keeps = subst (λ (ns : List Node). Keeps q.nodes ns) (sym c.nodes) (subst (λ (ns : List Node). Keeps ns v.nodes) m.nodes x.keeps)

        pub made_pair : {start : ℕ} {z : Parser} {made : NodeId} → start ≡ p.token.span.start → MadeHere (record { kind = logical_expression; op = of Question2; flags = 0; span = record { from = start; to = w.prev_token_end } }) (Some left ∷ Some right ∷ []) w z made → MadeHere pair_label (Some left ∷ Some right ∷ []) w z made
        made_pair {start} {z} {made} e n = subst (λ (to : ℕ). MadeHere (linked_label (coalesced f) p.token.span.start to) (Some left ∷ Some right ∷ []) w z made) c.place (subst (λ (from : ℕ). MadeHere (linked_label (coalesced f) from w.prev_token_end) (Some left ∷ Some right ∷ []) w z made) e n)

        pub smaller : {z : Parser} {l : Label} {ids : List (Option NodeId)} {made : NodeId} → MadeHere l ids w z made → length z.text + 1 - z.prev_token_end < length q.text + 1 - q.prev_token_end
        smaller n = let a = forward in let b = s.at.at.between.0 in let d = c.at.text_is in let e = s.at.text_is in let g = c.place in let h = ap (λ (r : Parser). r.prev_token_end) n.stays in let i = ap (λ (r : Parser). length r.text) n.stays in omega (arith, ap length d, ap length e)
