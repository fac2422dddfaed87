-- Arrow functions behind `async` (ECMA-262, 15.9): what stands there is a head alone, or none does.
use Rattle.std.proofs.Common.{ℕ, ◌≡◌, inl, inr, List, [], ◌∷◌, length, Bool, true, false, not, ◌&&◌, ◌||◌, IsTrue, Option, Some, None, refl, sym, ap, subst, arith, ◌∙◌}
use Rattle.std.specs.Prelude.{MatchResult, Result, Ok, Err}
use Rattle.std.proofs.lemmas.Bool.{false≢true, and_parts, and_from, or_left, or_right, not-true}
use Rattle.js_base.specs.declared.kind.Kind.{Kind}
use Rattle.js_base.specs.declared.kind.Kind.TheVariants.{Arrow, Async, In, LBrack, LCurly, LParen, Of, Question, RAngle, Yield}
use Rattle.js_base.specs.declared.token.Token.{Token}
use Rattle.js_base.specs.Kinds.{same_kind, one_of_kinds}
use Rattle.js_base.specs.KindSets.{binding_identifier_kinds}
use Rattle.js_base.proofs.KindLemmas.{kind_of_same}
use Rattle.js_grammar.specs.Trees.{Label, Slots, end, tree}
use Rattle.js_grammar.specs.Grammar.{Lexeme, Lexemes, Look, here, is, next, seen, alt, such, Takes, is_seq, is_lexeme, is_look, is_left, is_right, is_such, is_node, ◌▸◌}
use Rattle.js_grammar.specs.Follow.{after, looser}
use Rattle.js_grammar.specs.Insertion.{Row, assign_operators, may_bind, after_expression, after_postfix, after_body, after_yield, after_declarator, after_word}
use Rattle.js_grammar.specs.Lexed.{Lexes}
use Rattle.js_grammar.specs.Parsing.{Fails, plain, full, always}
use Rattle.js_grammar.specs.Productions.{Flags, Symbol, at, any_of, branches, Arrow', Assignment, Conditional, Params, Short, SimpleTarget, Target, ArrayTarget, ObjectTarget}
use Rattle.js_grammar.specs.Productions.{sym as symbol}
use Rattle.js_grammar.specs.Table.{rule, rule_of, args}
use Rattle.js_grammar.specs.RightEdges.{of_operand}
use Rattle.js_grammar.proofs.Behind.{lexed_behind}
use Rattle.js_grammar.proofs.Calculus.{◌▹◌, ◌▹✗◌, here_at, left, right, fails_alt, fails_node, inside_full, weaken_fails_on}
use Rattle.js_grammar.proofs.FollowLaws.{fails_by, row_claimed, same_read}
use Rattle.js_grammar.proofs.Heads.{One, the_last, and_more, begins_head, of_operands, operand_taken}
use Rattle.js_grammar.proofs.Looks.{apart, covers, covered, not_both}
use Rattle.js_grammar.proofs.RightEdges.{first_row}
use Rattle.js_grammar.proofs.Finding.{contrary}
use Rattle.laws_shared.specs.js_tree.declared.id.NodeId.{NodeId}
use Rattle.laws_shared.specs.js_tree.Holding.{Holds, Keeps}
use Rattle.laws_shared.specs.js_tree.Nodes.{Node}
use Rattle.laws_shared.specs.js_cursor.Checkpoints.{GoesBack, MayGoBack, Remembers}
use Rattle.laws_shared.specs.js_cursor.Tokens.{may_be_read_again}
use Rattle.laws_shared.specs.js_cursor.declared.checkpoint.ParserCheckpoint.{ParserCheckpoint}
use Rattle.laws_shared.proofs.js_cursor.Changing.{may_return}
use Rattle.laws_shared.specs.js_cursor.Moves.{OnlyMemory, Peeks, is_last}
use Rattle.laws_shared.specs.js_cursor.Parsers.{Parser}
use Rattle.laws_shared.specs.js_cursor.declared.stop.Stop.{Stop}
use Rattle.laws_shared.proofs.js_cursor.Later.{follows_on}
use Rattle.laws_shared.specs.Answers.{Underived}
use Rattle.laws_shared.specs.Contexts.{arrow_head}
use Rattle.laws_shared.specs.Heads.{NoHead, OnlyArrow}
use Rattle.laws_shared.specs.Lexemes.{Lex, other_goals, signs, is_read_kind}
use Rattle.laws_shared.specs.Moves.{Moved, Moves}
use Rattle.laws_shared.specs.Stands.{StandsHere}
use Rattle.laws_shared.specs.States.{At, Standing}
use Rattle.laws_shared.proofs.Here.{found, kind_here, one_plain, plainly, told, uncut, unsettled}
use Rattle.laws_shared.proofs.Moving.{same_both}
use Rattle.laws_shared.proofs.NameKinds.{name_apart, name_read, name_whole}
use Rattle.laws_shared.proofs.Paths.{fails_at, read_of, walked_both, walked_one}
use Rattle.laws_shared.proofs.Signs.{other_kind}
use Rattle.laws_shared.proofs.Escapes.{escapable_kinds, read_as, read_plain, plain_or_escapable}
use Rattle.laws_shared.proofs.Verdicts.{grown_then}
use Rattle.laws_patterns.proofs.laws_primary.Operands.{name_signless}
use Rattle.laws_patterns.proofs.laws_primary.AsyncWords.{given_behind}
use Rattle.parse_targets.proofs.ArraysBeforeSigns.{array_part, is_cover}
use Rattle.parse_targets.proofs.Assigned.{arrow_passes, assign_part, assign_slots, no_branch, no_yield, only_arrow, to_choice}
use Rattle.laws_operators.specs.Arrows.{AsyncHead, list_head, name_head, AsyncHeadBegins, AsyncPassed, AttemptsHead, BeforeArrow, led_head, told_led, BehindWord, FindsAnyHead, FindsAsyncHead, FindsHead, Head, HeadBehindAsync, read_clean, read_unclean, IsHeadBefore, IsHeadOf, NoAsyncHere, NoLed, NoLine, OnlyLed, PlainHead, a_head, told_head, SearchesHead, SearchesPlainHead, ToldHead, Unmoved, WentOn, lead_of, line_of}
use Rattle.laws_operators.specs.declared.forms.ArrowHead.{ArrowHead}
use Rattle.laws_operators.specs.HeadOperands.{NoTargetPart}
use Rattle.laws_operators.specs.Lists.{NoParameters, parameters_of}
use Rattle.laws_operators.proofs.Arrows.{from_unmoved, head_one, no_arrow, no_arrow_behind, no_async_here, no_head_no_line, no_plain_led, plain_head_flags, unmoved_went_on, went_back, no_async_escaped}
use Rattle.laws_operators.proofs.CalledFronts.{Front, word_alone, with_arguments, word_front}
use Rattle.laws_shared.specs.js_lex.Reading.{Tells, is_right_angle}
use Rattle.laws_shared.proofs.js_lex.Again.{cut_same}
use Rattle.laws_operators.specs.Lookaheads.{NoHeadThere}
use Rattle.laws_operators.proofs.Conditionals.{conditional_none}
use Rattle.laws_operators.proofs.HeadOperands.{from_none}
use Rattle.laws_patterns.proofs.Peeks.{peeked_kind}
use Rattle.laws_operators.proofs.SlashedHeads.{attempted_there, found_there}

-- ---- the table, where `async` stands with a head behind it

-- Behind the word: parentheses, with `=>` behind arguments, or a name with `=>` behind it.
data Behind (text : List ℕ) (f : Flags) (s : ℕ) : Type 0 where
  list_behind : ((y : Lexeme) → Lex text s y → y.kind ≡ LParen) → OnlyArrow text f s → Behind text f s
  name_behind : ((y : Lexeme) → Lex text s y → (y.kind ≡ LParen → ⊥) × ((z : Lexeme) → Lex text y.to z → z.kind ≡ Arrow)) → Behind text f s

-- What stands behind an operand that begins with the word: what stands behind the word, where the operand is that alone; or `=>`.
data Stood (text : List ℕ) (s : ℕ) (ts : Slots) (rest : Lexemes) : Type 0 where
  behind_word : Lexes (Lex text) s rest → first_row ts ≡ after_expression → Stood text s ts rest
  at_arrow : same_kind Arrow (here rest).kind ≡ true → Stood text s ts rest

-- lexemes of which one is passed
one_passed : {ls rest : Lexemes} {e : ℕ} → One [] ls e rest → (x : Lexeme) × (mid : Lexemes) × (ls ≡ next x mid)
one_passed (the_last {x = x} {ls = ls} m) = (x, ls, refl)
one_passed (and_more {x = x} {ls = ls} m o) = (x, ls, refl)

abbrev a_head_there : Look
a_head_there k w e = begins_head k w e && (not w && (not e || one_of_kinds escapable_kinds k))

-- an operand doesn't end before a head on its line
head_binds : (b : Bool) → covers a_head_there (λ k w e. not (looser 2 b after_expression k w e)) ≡ true
unfolding covers
head_binds true = refl
head_binds false = refl

abbrev an_arrow : Look
an_arrow k w e = same_kind Arrow k && not e

-- nor before `=>`
arrow_binds : (b : Bool) (r : Row) → of_operand r ≡ true → covers an_arrow (λ k w e. not (looser 2 b r k w e)) ≡ true
unfolding covers
arrow_binds true after_expression h = refl
arrow_binds true after_postfix h = refl
arrow_binds false after_expression h = refl
arrow_binds false after_postfix h = refl
arrow_binds b after_body h = absurd (false≢true h)
arrow_binds b after_yield h = absurd (false≢true h)
arrow_binds b after_declarator h = absurd (false≢true h)
arrow_binds b after_word h = absurd (false≢true h)

-- neither an operator of an assignment nor a question mark begins a head, nor is it `=>`
abbrev begins_or_arrow : Look
begins_or_arrow k w e = begins_head k w e || same_kind Arrow k

abbrev an_assign_kind : Look
an_assign_kind k w e = one_of_kinds assign_operators k

assign_apart : apart begins_or_arrow an_assign_kind ≡ true
unfolding apart
assign_apart = refl

abbrev a_question : Look
a_question k w e = same_kind Question k

question_apart : apart begins_or_arrow a_question ≡ true
unfolding apart
question_apart = refl

module _ {text : List ℕ} {f : Flags} {s t : ℕ} (w : (y : Lexeme) → Lex text s y → (y.kind ≡ Async) × (y.to ≡ t)) (b : BehindWord text t) (o : Behind text f t) where
  -- arguments that begin behind the word have `=>` behind them
  arguments_arrow : {vs : Slots} {e : ℕ} {mid r : Lexemes} → Lexes (Lex text) t mid → Takes rule (args f) end vs t mid end e r → same_kind Arrow (here r).kind ≡ false → ⊥
  arguments_arrow {vs} {e} {mid} {r} l d n = by o
    where
      opens : {ks ts us : Slots} {i j : ℕ} {ls rest : Lexemes} → Takes rule (args f) ks ts i ls us j rest → (here ls).kind ≡ LParen
      opens (is_seq (is_lexeme {x = x} q) m) = sym (kind_of_same LParen x.kind (and_parts (same_kind LParen x.kind) _ q).0)

      by : Behind text f t → ⊥
      by (list_behind p m) = m.no vs end e mid r l d (ap not n, refl)
      by (name_behind m) = (m (here mid) (here_at (Lex text) mid l)).0 (opens d)

  stood : {n : Symbol} → of_operands n.name ≡ true → n.flags ≡ f → {ts us : Slots} {j : ℕ} {ls rest : Lexemes} → Lexes (Lex text) s ls → Takes rule (such n always) end ts s ls us j rest → Stood text t ts rest
  stood {n} p q {ts} {us} {j} {ls} {rest} l d = front (one_passed (operand_taken n p d (ap (λ (k : Kind). may_bind k || same_kind LParen k) (w (here ls) (here_at (Lex text) ls l)).0)).2)
    where
      here_arrow : (r : Lexemes) → (same_kind Arrow (here r).kind ≡ false → ⊥) → same_kind Arrow (here r).kind ≡ true
      here_arrow r n = go (same_kind Arrow (here r).kind) refl
        where
          go : (b : Bool) → same_kind Arrow (here r).kind ≡ b → same_kind Arrow (here r).kind ≡ true
          go true e = e
          go false e = absurd (n e)

      by : (x : Lexeme) (mid : Lexemes) → x.to ≡ t → Lexes (Lex text) t mid → Front n.flags ts x mid rest → Stood text t ts rest
      by x mid e m (word_alone r i) = behind_word (subst (λ (v : Lexemes). Lexes (Lex text) t v) (sym r) m) i
      by x mid e m (with_arguments vs k r c g) =
          let a : Takes rule (args f) end vs t mid end k r = subst (λ (v : ℕ). Takes rule (args f) end vs v mid end k r) e (subst (λ (v : Flags). Takes rule (args v) end vs x.to mid end k r) q c) in
          let u = here_arrow r (arguments_arrow m a) in
          elim g [
            | inl i ↦ at_arrow (ap (λ (v : Lexemes). same_kind Arrow (here v).kind) i ∙ u)
            | inr i ↦ absurd (false≢true (sym i ∙ u))
          ]

      front : (x : Lexeme) × (mid : Lexemes) × (ls ≡ next x mid) → Stood text t ts rest
      front z =
          let m : Lexes (Lex text) s (next z.0 z.1) = subst (λ (v : Lexemes). Lexes (Lex text) s v) z.2 l in
          let e : z.0.to ≡ t = (w z.0 m.0).1 in
          let g : Lexes (Lex text) t z.1 = subst (λ (v : ℕ). Lexes (Lex text) v z.1) e m.1 in
          by z.0 z.1 e g (word_front n p (subst (λ (v : Lexemes). Takes rule (such n always) end ts s v us j rest) z.2 d) (ap (same_kind Async) (w z.0 m.0).0) (b (here z.1) (here_at (Lex text) z.1 g)).1)

  -- what stands behind an operand begins a head or is `=>`
  none_of : (p : Look) → apart begins_or_arrow p ≡ true → {ts : Slots} {rest : Lexemes} → Stood text t ts rest → IsTrue (seen p (here rest)) → ⊥
  none_of p h {rest = rest} (behind_word l i) q = not_both begins_or_arrow p h (here rest).kind (here rest).newline (here rest).escaped (or_left _ _ (b (here rest) (here_at (Lex text) rest l)).1) q
  none_of p h {rest = rest} (at_arrow u) q = not_both begins_or_arrow p h (here rest).kind (here rest).newline (here rest).escaped (or_right (begins_head (here rest).kind (here rest).newline (here rest).escaped) _ u) q

  -- no operand ends there as an assignment does
  no_end_there : {ts us : Slots} {j : ℕ} {ls rest : Lexemes} → Lexes (Lex text) s ls → Takes rule (such (at Short f) always) end ts s ls us j rest → IsTrue (seen (looser 2 f.in_ (first_row ts)) (here rest)) → ⊥
  no_end_there {ts} {us} {j} {ls} {rest} l d a = by (stood {n = at Short f} refl refl l d)
    where
      lexed : Lexes (Lex text) j rest
      lexed = lexed_behind (Lex text) d l

      by : Stood text t ts rest → ⊥
      by (behind_word m i) =
          let y = b (here rest) (here_at (Lex text) rest m) in
          contrary (seen (looser 2 f.in_ (first_row ts)) (here rest)) (subst (λ (r : Row). not (seen (looser 2 f.in_ r) (here rest)) ≡ true) (sym i) (covered a_head_there (λ k w e. not (looser 2 f.in_ after_expression k w e)) (head_binds f.in_) (here rest).kind (here rest).newline (here rest).escaped (and_from _ _ y.1 (and_from _ _ (ap not y.0) (plain_or_escapable (here rest) (here_at (Lex text) rest m)))))) a
      by (at_arrow u) = contrary (seen (looser 2 f.in_ (first_row ts)) (here rest)) (covered an_arrow (λ k w e. not (looser 2 f.in_ (first_row ts) k w e)) (arrow_binds f.in_ (first_row ts) (row_claimed d)) (here rest).kind (here rest).newline (here rest).escaped (and_from _ _ u (ap not (read_plain (here rest) (here_at (Lex text) rest lexed) (sym (kind_of_same Arrow (here rest).kind u)) refl)))) a

  conditional_fails : Fails rule (Lex text) (after (at Assignment f)) end (such (at Conditional f) always) s
  unfolding rule rule_of
  conditional_fails = record { no = λ ts vs j ls rest l d a. go ts vs l d a.1 }
    where
      within : (cs : Slots) {l : Label} {us : Slots} {j : ℕ} {ls rest : Lexemes} → Lexes (Lex text) s ls → Takes rule (rule (at Conditional f)) end (tree l cs end) s ls us j rest → IsTrue (seen (looser 2 f.in_ (first_row (tree l cs end))) (here rest)) → ⊥
      within cs m (is_left (is_such d c)) a = no_end_there {us = end} m (is_such d refl) a
      within cs m (is_right (is_node (is_seq d (is_seq (is_lexeme {x = x} q) e)))) a = none_of a_question question_apart (stood {n = at Short f} refl refl m d) (and_parts (same_kind Question x.kind) _ q).0

      go : (ts vs : Slots) {j : ℕ} {ls rest : Lexemes} → Lexes (Lex text) s ls → Takes rule (such (at Conditional f) always) end ts s ls vs j rest → IsTrue (seen (looser 2 f.in_ (first_row ts)) (here rest)) → ⊥
      go ts vs l (is_such {cs = cs} d c) a = within cs l d a

  assignments_fail : Fails rule (Lex text) (plain full) end (array_part f) s → Fails rule (Lex text) (after (at Assignment f)) end (alt (branches assign_operators (assign_part f)) (array_part f)) s
  assignments_fail n = fails_alt (no_branch (assign_part f) assign_operators (λ k h. fails_node inside_full (no_slots_at k h))) (weaken_fails_on n (record { admits = λ ts vs k ls rest d e. (refl, refl) }))
    where
      no_slots_at : (k : Kind) → one_of_kinds assign_operators k ≡ true → Fails rule (Lex text) (plain full) end (assign_slots f k) s
      no_slots_at k h = record { no = λ ts vs j ls rest l d a. go ts vs j ls rest l d }
        where
          go : (ts vs : Slots) (j : ℕ) (ls rest : Lexemes) → Lexes (Lex text) s ls → Takes rule (assign_slots f k) end ts s ls vs j rest → ⊥
          go ts vs j ls rest l (is_seq d (is_seq (is_lexeme {x = x} q) e)) = none_of an_assign_kind assign_apart (stood {n = at SimpleTarget f} refl refl l d) (subst (λ (v : Kind). one_of_kinds assign_operators v ≡ true) (kind_of_same k x.kind (and_parts (same_kind k x.kind) _ q).0) h)

  target_fails_there : Fails rule (Lex text) (plain full) end (alt (such (at ArrayTarget f) always) (such (at ObjectTarget f) always)) s → NoTargetPart text f s
  unfolding rule rule_of
  target_fails_there n = record { no = λ ts vs j ls rest l d a. go l d a.0 }
    where
      of_name : {ts us : Slots} {i : ℕ} {ls : Lexemes} {z : Lexeme} {rest : Lexemes} → Lexes (Lex text) s ls → Takes rule (such (at SimpleTarget f) always) end ts s ls us i (next z rest) → IsTrue (one_of_kinds (In ∷ Of ∷ []) z.kind) → not (same_kind Arrow (here rest).kind) ≡ true → ⊥
      of_name {ts} {us} {i} {ls} {z} {rest} l d q e = by (stood {n = at SimpleTarget f} refl refl l d)
        where
          apart_paren : (k : Kind) → one_of_kinds (In ∷ Of ∷ []) k ≡ true → k ≡ LParen → ⊥
          apart_paren k h i = false≢true (sym (ap (one_of_kinds (In ∷ Of ∷ [])) i) ∙ h)

          apart_arrow : (k : Kind) → one_of_kinds (In ∷ Of ∷ []) k ≡ true → same_kind Arrow k ≡ true → ⊥
          apart_arrow k h i = false≢true (sym (ap (one_of_kinds (In ∷ Of ∷ [])) (sym (kind_of_same Arrow k i))) ∙ h)

          by : Stood text t ts (next z rest) → ⊥
          by (at_arrow u) = apart_arrow z.kind q u
          by (behind_word m i) = which o
            where
              which : Behind text f t → ⊥
              which (list_behind p x) = apart_paren z.kind q (p z m.0)
              which (name_behind p) = contrary (same_kind Arrow (here rest).kind) e (ap (same_kind Arrow) ((p z m.0).1 (here rest) (here_at (Lex text) rest m.1)))

      go : {ts vs : Slots} {j : ℕ} {ls rest : Lexemes} → Lexes (Lex text) s ls → Takes rule (symbol Target f ▸ any_of (In ∷ Of ∷ [])) end ts s ls vs j rest → not (same_kind Arrow (here rest).kind) ≡ true → ⊥
      go l (is_seq (is_such (is_left (is_such d c)) h) (is_lexeme {x = z} q)) e = of_name l (is_such {us = end} d refl) (and_parts (one_of_kinds (In ∷ Of ∷ []) z.kind) _ q).0 e
      go l (is_seq {j = i} {mid = mid} (is_such {l = k} {cs = cs} {ls = ls} (is_right d) h) m) e = n.no (tree k cs end) end i ls mid l d (refl, refl)

-- ---- the state at `async`

name_listed : one_of_kinds binding_identifier_kinds Async ≡ true
name_listed = refl

module _ {text : List ℕ} {f : Flags} {p : Parser} (a : At text f p) (k : p.token.kind ≡ Async) where
  the_word : (y : Lexeme) → Lex text p.prev_token_end y → (y.kind ≡ Async) × (y.to ≡ p.token.span.end)
  the_word y l = let t = told a (uncut a (ap (same_kind RAngle) k)) (ap (one_of_kinds signs) k) y l in (sym t.kind ∙ k, sym t.end)

  no_array : Fails rule (Lex text) (plain full) end (array_part f) p.prev_token_end
  unfolding covers apart
  no_array = fails_at a {X = plain full} (array_part f) (LBrack ∷ LCurly ∷ []) refl (ap (one_of_kinds (LBrack ∷ LCurly ∷ [])) k)

  no_literal_target : Fails rule (Lex text) (plain full) end (alt (such (at ArrayTarget f) always) (such (at ObjectTarget f) always)) p.prev_token_end
  unfolding covers apart
  no_literal_target = fails_at a {X = plain full} (alt (such (at ArrayTarget f) always) (such (at ObjectTarget f) always)) (LBrack ∷ LCurly ∷ []) refl (ap (one_of_kinds (LBrack ∷ LCurly ∷ [])) k)

  module _ (b : BehindWord text p.token.span.end) (o : Behind text f p.token.span.end) where
    only_led : OnlyLed true text f p.prev_token_end
    only_led = record {
      arrow = to_choice f p.prev_token_end (no_yield a (λ e. let z : Async ≡ Yield = sym k ∙ e in absurd (cc))) ▹ (right (conditional_fails the_word b o) ▹ left (assignments_fail the_word b o no_array));
      other = no_plain_led f (no_arrow_behind a (ap (one_of_kinds binding_identifier_kinds) k ∙ name_listed) (λ y l e. false≢true (ap (λ (k : Kind). may_bind k || same_kind LParen k) (sym e) ∙ (b y l).1)));
    }

    no_target_there : NoTargetPart text f p.prev_token_end
    no_target_there = target_fails_there the_word b o no_literal_target

  -- where no head stands behind it
  module _ {q : Parser} (m : Moved text f p q) where
    word_ends : p.token.span.end ≡ q.prev_token_end
    word_ends = m.tells.end ∙ m.ends

    led_none : NoLine text (arrow_head true f) q.prev_token_end → NoLed true text f p.prev_token_end
    led_none n = record { no = λ ts vs j ls rest l d e. go ts vs j ls rest l d }
      where
        go : (ts vs : Slots) (j : ℕ) (ls rest : Lexemes) → Lexes (Lex text) p.prev_token_end ls → Takes rule (lead_of true ▸ line_of (arrow_head true f)) end ts p.prev_token_end ls vs j rest → ⊥
        go ts vs j ls rest l (is_seq (is_seq (is_lexeme {x = x} {ls = mid} c) (is_look w)) d) =
            let e : x.to ≡ q.prev_token_end = (the_word x l.0).1 ∙ word_ends in
            n.no ts vs j mid rest (subst (λ (v : ℕ). Lexes (Lex text) v mid) e l.1) (subst (λ (v : ℕ). Takes rule (line_of (arrow_head true f)) end ts v mid vs j rest) e d) (refl, refl)

-- ---- a head behind it

module _ {text : List ℕ} {f : Flags} {q w : Parser} {id : NodeId} (a : At text f q) where
  behind_so : AsyncHead text f q w id → Behind text f q.prev_token_end
  unfolding apart
  behind_so (list_head k h n) = list_behind (λ y l. kind_here a k refl y l) n
  behind_so (name_head k h n) = name_behind (λ y l.
      let t = told a (name_whole a k).0 (name_signless q.token.kind k) y l in
      ((λ i. false≢true (sym (name_apart (LParen ∷ []) refl q.token.kind k) ∙ ap (one_of_kinds (LParen ∷ [])) (t.kind ∙ i))), λ z m. n z (subst (λ (v : ℕ). Lex text v z) (sym t.end) m)))

  on_its_line : BehindWord text q.prev_token_end → AsyncHead text f q w id → q.token.is_on_new_line ≡ false
  on_its_line b (list_head k h n) =
      let y = found a (uncut a (ap (same_kind RAngle) k)) (ap is_last k) in
      let e : y.0.kind ≡ LParen = sym y.2.kind ∙ k in
      y.2.newline ∙ (b y.0 (y.1, read_of y.0 e refl)).0
  on_its_line b (name_head k h n) =
      let u = name_whole a k in
      let y = found a u.0 u.1 in
      y.2.newline ∙ (b y.0 (y.1, read_as y.0 y.2 (name_read q.token.kind k))).0

-- what was told of parameters behind the word
told_before : {text : List ℕ} {f : Flags} {p q w : Parser} {id : NodeId} → Moved text f p q → ToldHead text f q w id → ToldHead text f p w id
told_before {text} {f} {p} {q} {w} {id} m t = record {
  at = t.at;
  same = same_both m.same t.same;
  further = let g = m.further in let b = m.at.behind in let i = t.further in omega arith;
  grown = grown_then m.kept t.grown;
  label = t.label;
  slots = t.slots;
  pass = λ ls. next m.lexeme (t.pass ls);
  walked = walked_both (walked_one m) t.walked;
  holds = subst (λ (ns : List Node). Holds w.nodes (length ns) (length w.nodes) id.0 t.label t.slots) m.nodes t.holds;
  keeps = subst (λ (ns : List Node). Keeps ns w.nodes) m.nodes t.keeps;
}

module _ {p q : Parser} (k : StandsHere p Async true) (b : (text : List ℕ) (f : Flags) → At text f p → BehindWord text p.token.span.end) (mv : (text : List ℕ) (f : Flags) → At text f p → Moved text f p q) where
  module _ {w : Parser} {id : NodeId} (x : HeadBehindAsync q w (Some id)) where
    module _ {text : List ℕ} {f : Flags} (a : At text f p) where
      m : Moved text f p q
      m = mv text f a

      head : AsyncHead text f q w id
      head = x.1 text f m.at

      b_there : BehindWord text q.prev_token_end
      b_there = subst (λ (v : ℕ). BehindWord text v) (word_ends a k.0 m) (b text f a)

      behind_there : Behind text f p.token.span.end
      behind_there = subst (λ (v : ℕ). Behind text f v) (sym (word_ends a k.0 m)) (behind_so m.at head)

      only : OnlyLed true text f p.prev_token_end
      only = only_led a k.0 (b text f a) behind_there

      passed : AsyncPassed text f p q
      passed = record { at = a; kind = k.0; plain = k.1; moved = m; on_line = on_its_line m.at b_there head }

      -- where something was told of it
      underived : q.token.kind ≡ LParen → NoHead text (arrow_head true f) q.prev_token_end → Underived text (at Assignment f) p.prev_token_end
      underived e n = fails_by (only.arrow ▹✗ weaken_fails_on (no_arrow f only.other (led_none a k.0 m (no_head_no_line m.at e n))) (same_read (at Assignment f) (at Arrow' f) arrow_passes refl))

      before : AsyncHead text f q w id → BeforeArrow true text f p w id
      before (list_head e (read_clean h) n) = led_head q passed h only
      before (list_head e (read_unclean t h) n) = told_led (told_before m t) (underived e h)
      before (name_head e h n) = led_head q passed h only

    async_head : IsHeadBefore true p w id
    async_head = (x.0, (λ text f a. before a (head a)), λ text f a i. inr (k.0, no_target_there a k.0 (b text f a) (behind_there a)))

  -- none stands behind it, and the parser went on
  pub async_unread : {w : Parser} → Standing p → HeadBehindAsync q w None → WentOn p w × NoAsyncHere p
  async_unread {w} a x = ((let m = mv _ _ a in (follows_on m.same.follows x.0.0.0, x.0.0.1), x.0.1, λ s. x.0.2 ((mv _ _ a).same.lies s)), λ text f b. led_none b k.0 (mv text f b) (x.1 text f (mv text f b).at))

  pub async_read : {w : Parser} (id : NodeId) → HeadBehindAsync q w (Some id) → FindsAsyncHead p w (Some id)
  async_read id x = async_head x

-- ---- whether one begins

abbrev a_first : Look
a_first k w e = one_of_kinds (LParen ∷ binding_identifier_kinds) k

firsts_begin : covers a_first begins_head ≡ true
unfolding covers
firsts_begin = refl

firsts_settled : covers a_first (λ k w e. not (one_of_kinds unsettled k)) ≡ true
unfolding covers
firsts_settled = refl

begins_plain : covers begins_head (λ k w e. not (is_right_angle k) && not (one_of_kinds other_goals k)) ≡ true
unfolding covers
begins_plain = refl

begins_first : covers (λ k w e. begins_head k w e && is_read_kind k) a_first ≡ true
unfolding covers
begins_first = refl

-- no head is derived behind the word, where none begins on its line
led_unless : {text : List ℕ} {f : Flags} {p : Parser} → At text f p → p.token.kind ≡ Async → ((y : Lexeme) → Lex text p.token.span.end y → y.newline ≡ false → IsTrue (seen begins_head y) → ⊥) → NoLed true text f p.prev_token_end
led_unless {text} {f} {p} a k n = record { no = λ ts vs j ls rest l d e. go ts vs j ls rest l d }
  where
    go : (ts vs : Slots) (j : ℕ) (ls rest : Lexemes) → Lexes (Lex text) p.prev_token_end ls → Takes rule (lead_of true ▸ line_of (arrow_head true f)) end ts p.prev_token_end ls vs j rest → ⊥
    go ts vs j ls rest l (is_seq (is_seq (is_lexeme {x = x} {ls = mid} c) (is_look w)) (is_seq h d)) =
        let y : Lex text x.to (here mid) = here_at (Lex text) mid l.1 in
        n (here mid) (subst (λ (v : ℕ). Lex text v (here mid)) (the_word a k x l.0).1 y) (not-true (here mid).newline w) (head_one h).2

-- parameters begin with a parenthesis
params_first : (g : Flags) {ts us : Slots} {i j : ℕ} {ls rest : Lexemes} → Takes rule (symbol Params g) end ts i ls us j rest → IsTrue (seen (is LParen) (here ls))
unfolding rule rule_of
params_first g (is_such (is_node (is_seq (is_lexeme q) d)) h) = q

module _ {text : List ℕ} {f : Flags} {p : Parser} {t : Token} (a : At text f p) (h : Peeks p t) where
  -- what begins a head is told whole
  head_told : (y : Lexeme) → Lex text p.token.span.end y → IsTrue (seen begins_head y) → Tells y t
  head_told y l b = given_behind a h
      (λ d u i. absurd (i.none y (record { lex = l.0; of_goal = plainly l.0 l.1 o })))
      (λ x. let e = one_plain l o x in subst (λ (z : Lexeme). Tells z t) (cut_same x.lexeme (ap (λ (z : Lexeme). is_right_angle z.kind) (sym e) ∙ r) ∙ sym e) x.tells)
    where
      z : (not (is_right_angle y.kind) ≡ true) × (not (one_of_kinds other_goals y.kind) ≡ true)
      z = and_parts (not (is_right_angle y.kind)) _ (covered begins_head (λ k w e. not (is_right_angle k) && not (one_of_kinds other_goals k)) begins_plain y.kind y.newline y.escaped b)

      r : is_right_angle y.kind ≡ false
      r = not-true _ z.0

      o : one_of_kinds other_goals y.kind ≡ false
      o = not-true _ z.1

  -- it stands on a new line, or is none
  async_late : p.token.kind ≡ Async → t.is_on_new_line ≡ true → NoLed true text f p.prev_token_end
  async_late k w = led_unless a k (λ y l n b. false≢true (sym n ∙ (sym (head_told y l b).newline ∙ w)))

  async_other : p.token.kind ≡ Async → one_of_kinds (LParen ∷ binding_identifier_kinds) t.kind ≡ false → NoLed true text f p.prev_token_end
  async_other k q = led_unless a k (λ y l n b. false≢true (sym q ∙ (ap (one_of_kinds (LParen ∷ binding_identifier_kinds)) (head_told y l b).kind ∙ covered (λ k w e. begins_head k w e && is_read_kind k) a_first begins_first y.kind y.newline y.escaped (and_from _ _ b l.1))))

  -- no parenthesis stands behind the word
  pub list_other : p.token.kind ≡ Async → (t.kind ≡ LParen → ⊥) → NoParameters true text f p.prev_token_end
  list_other k q = record { no = λ ts vs j ls rest l d e. go ts vs j ls rest l d }
    where
      go : (ts vs : Slots) (j : ℕ) (ls rest : Lexemes) → Lexes (Lex text) p.prev_token_end ls → Takes rule (parameters_of true f) end ts p.prev_token_end ls vs j rest → ⊥
      go ts vs j ls rest l (is_seq (is_seq (is_lexeme {x = x} {ls = mid} c) (is_look w)) (is_seq d z)) =
          let i : LParen ≡ (here mid).kind = kind_of_same LParen (here mid).kind (and_parts (same_kind LParen (here mid).kind) _ (params_first (arrow_head true f) d)).0 in
          let y : Lex text p.token.span.end (here mid) = subst (λ (v : ℕ). Lex text v (here mid)) (the_word a k x l.0).1 (here_at (Lex text) mid l.1) in
          let b : IsTrue (seen begins_head (here mid)) = covered a_first begins_head firsts_begin (here mid).kind (here mid).newline (here mid).escaped (ap (one_of_kinds (LParen ∷ binding_identifier_kinds)) (sym i)) in
          q ((head_told (here mid) y b).kind ∙ sym i)

  async_follows : t.is_on_new_line ≡ false → one_of_kinds (LParen ∷ binding_identifier_kinds) t.kind ≡ true → BehindWord text p.token.span.end
  async_follows w q y l =
      let i : y.kind ≡ t.kind = peeked_kind a h (not-true _ (covered a_first (λ k w e. not (one_of_kinds unsettled k)) firsts_settled t.kind false false q)) y l in
      let b : IsTrue (seen begins_head y) = covered a_first begins_head firsts_begin y.kind y.newline y.escaped (ap (one_of_kinds (LParen ∷ binding_identifier_kinds)) i ∙ q) in
      (sym (head_told y l b).newline ∙ w, b)

pub async_begins : {p q : Parser} {t : Token} → StandsHere p Async true → q ≡ p → Peeks p t → t.is_on_new_line ≡ false → (r : Bool) → r ≡ one_of_kinds (LParen ∷ binding_identifier_kinds) t.kind → AsyncHeadBegins p q r
async_begins k e h w true r = (e, k, λ text f a. async_follows a h w (sym r))
async_begins k e h w false r = (e, λ text f a. async_other a h k.0 (sym r))

pub async_on_new_line : {p : Parser} {t : Token} → StandsHere p Async true → Peeks p t → t.is_on_new_line ≡ true → NoAsyncHere p
async_on_new_line k h w = λ text f a. async_late a h k.0 w

pub no_async_word : {p : Parser} → StandsHere p Async false → NoAsyncHere p
no_async_word {p} n = λ text f a. by p.token.escaped refl a
  where
    by : {text : List ℕ} {f : Flags} (e : Bool) → p.token.escaped ≡ e → At text f p → NoLed true text f p.prev_token_end
    by true e a = no_async_escaped a e
    by false e a = no_async_here a (other_kind Async p.token.kind (λ k. n k e))

pub begins_so : (p q : Parser) {b r : Bool} → r ≡ b → AsyncHeadBegins p q r → AsyncHeadBegins p q b
begins_so p q e h = subst (λ (v : Bool). AsyncHeadBegins p q v) e h

-- ---- what stands behind the word

pub no_list_behind : {p q : Parser} → Standing p → p.token.kind ≡ LParen → Unmoved p q × NoHeadThere p → HeadBehindAsync p q None
no_list_behind a k x = (unmoved_went_on a x.0, λ text f b. no_head_no_line b k (x.1 text f (arrow_head true f) b))

list_behind_word : (p q : Parser) (found : Option NodeId) → Standing p → p.token.kind ≡ LParen → AttemptsHead true p q found → HeadBehindAsync p q found
list_behind_word p q (Some id) a k x = (x.0.0, λ text f b. list_head k (x.0.1 text f b) (x.1 text f b))
list_behind_word p q None a k x = (unmoved_went_on a x.0, λ text f b. no_head_no_line b k (x.1 text f b))

pub lists_behind : (p o q : Parser) (r : Result (Option NodeId) Stop) → Unmoved p o → Standing p → p.token.kind ≡ LParen → MatchResult r (λ found. AttemptsHead true o q found) OnlyMemory → MatchResult r (λ found. HeadBehindAsync p q found) OnlyMemory
lists_behind p o q (Ok found) u a k x = list_behind_word p q found a k (attempted_there u true q found x)
lists_behind p o q (Err e) u a k x = x

pub none_behind : (p q : Parser) (r : Option NodeId) → r ≡ None → HeadBehindAsync p q r → HeadBehindAsync p q None
none_behind p q r e h = subst (HeadBehindAsync p q) e h

pub some_behind : (p q : Parser) (id : NodeId) (r : Option NodeId) → r ≡ Some id → HeadBehindAsync p q r → HeadBehindAsync p q (Some id)
some_behind p q id r e h = subst (HeadBehindAsync p q) e h

-- `async` is passed from where it was looked at
pub moves_from : {p o q : Parser} → o ≡ p → Moves o q → Moves p q
moves_from {p} {o} {q} e m = subst (λ (z : Parser). Moves z q) e m

-- the parser goes back to it
pub back_to_word : {p o w r : Parser} {c : ParserCheckpoint} → o ≡ p → p.token.kind ≡ Async → Remembers o c → WentOn p w → GoesBack c w r → Unmoved p r
back_to_word {p} {o} {w} {r} {c} e k m g b = went_back (ap may_be_read_again k) (subst (λ (z : Parser). Remembers z c) e m) g b

pub may_go_to_word : {p o w : Parser} {c : ParserCheckpoint} → Standing p → o ≡ p → Remembers o c → WentOn p w → MayGoBack c w
may_go_to_word {p} {o} {w} {c} a e m g = may_return a.at (subst (λ (z : Parser). Remembers z c) e m) refl g.0.0

-- ---- a head, with `async` or without

pub some_async : (p q : Parser) (id : NodeId) (r : Option NodeId) → r ≡ Some id → FindsAsyncHead p q r → IsHeadBefore true p q id
some_async p q id r e h = subst (FindsAsyncHead p q) e h

pub none_async : (p q : Parser) (r : Option NodeId) → r ≡ None → FindsAsyncHead p q r → Unmoved p q × NoAsyncHere p
none_async p q r e h = subst (FindsAsyncHead p q) e h

module _ {p r : Parser} (a : Standing p) (u : Unmoved p r) (n : NoAsyncHere p) where
  plain_before : {text : List ℕ} {f : Flags} {q : Parser} {id : NodeId} → At text f p → PlainHead text f p q id → BeforeArrow false text f p q id
  plain_before {text} {f} {q} {id} b (a_head h y v) = led_head p refl (subst (λ (g : Flags). Head text f g p q id) (sym (plain_head_flags f)) h) (record { arrow = only_arrow f (is_cover b) y (conditional_none f v) v; other = n text f b })
  plain_before b (told_head t v) = told_led t v

  plain_any : (q : Parser) (found : Option NodeId) (res : Option ArrowHead) → FindsHead p q found → IsHeadOf false found res → FindsAnyHead p q res
  plain_any q (Some id) res y e = subst (FindsAnyHead p q) (sym e) (y.0, (λ text f b. plain_before b (y.1 text f b)), λ text f b i. from_none i b (y.2 text f b))
  plain_any q None res y e = subst (FindsAnyHead p q) (sym e) (y.0, λ text f b. no_arrow f (no_plain_led f (y.1 text f b)) (n text f b))

  pub plain_found : (q : Parser) (found : Option NodeId) (res : Option ArrowHead) → FindsHead r q found → IsHeadOf false found res → FindsAnyHead p q res
  plain_found q found res x e = plain_any q found res (found_there u q found x) e

  pub plain_stops : (q : Parser) (e : Stop) → SearchesPlainHead r q (Err e) → SearchesHead p q (Err e)
  plain_stops q e x = ((λ text f b. from_unmoved text f (at Assignment f) q (Err e) u (x.0 text f (u.at text f b))), λ i text f b. subst (λ (s : ℕ). Underived text (at Short f) s) u.place (x.1 i text f (u.at text f b)))
