-- Arrow functions (ECMA-262, 15.3 and 15.9), and where none is derived.
use Rattle.std.proofs.Common.{ℕ, ◌≡◌, ◌≤◌, ◌<◌, inl, inr, List, [], ◌∷◌, length, take, Bool, true, false, not, cond, ◌&&◌, ◌||◌, IsTrue, Option, Some, None, refl, sym, ap, subst, arith, ◌∙◌, ◌+◌, ◌⊎◌, max}
use Rattle.std.specs.Prelude.{IsCharBoundary, Result, Ok, Err, nat_lt}
use Rattle.std.proofs.lemmas.Bool.{false≢true, and_parts, or_left, or_right, not-true}
use Rattle.js_base.specs.Contexts.{has_flag, yield_flag}
use Rattle.js_base.specs.declared.kind.Kind.{Kind}
use Rattle.js_base.specs.declared.kind.Kind.TheVariants.{Arrow, Await, Comma, LParen, LCurly, RAngle, Yield, RegExp, Async}
use Rattle.js_base.specs.declared.span.Span.{Span}
use Rattle.js_base.specs.Kinds.{same_kind, one_of_kinds}
use Rattle.js_base.specs.KindSets.{binding_identifier_kinds}
use Rattle.js_base.proofs.KindLemmas.{kind_of_same}
use Rattle.js_grammar.specs.Trees.{Span as TreeSpan, Label, Slots, end, tree, no_op, arrow_function_expression}
use Rattle.js_grammar.specs.Grammar.{Lexeme, Lexemes, Look, last, next, here, seen, is, such, nothing, exact, Make, node, Takes, ◌▸◌, ◌◇◌, is_nothing, is_seq, is_lexeme, is_look, is_such, is_left, is_right, is_node, is_empty_slot, alt}
use Rattle.js_grammar.specs.Brackets.{Bracket, bracket, move}
use Rattle.js_grammar.specs.Brackets.{plain as bracket_plain}
use Rattle.js_grammar.proofs.Matched.{brackets, not_bracket}
use Rattle.js_grammar.specs.Insertion.{may_bind, Row, after_expression, after_postfix, after_body, after_yield, after_declarator, after_word}
use Rattle.js_grammar.specs.Lexed.{Lexes}
use Rattle.js_grammar.specs.Parsing.{Test, plain, full, always, Admits, Goes, Fails, still}
use Rattle.js_grammar.specs.Productions.{G, Flags, Symbol, at, tok, mk, other, if_next, no_newline, Arrow', Assignment, Body, Params, Short, flag, async_flag, generator_flag}
use Rattle.js_grammar.specs.Productions.{sym as symbol}
use Rattle.js_grammar.specs.Table.{rule, rule_of, args}
use Rattle.js_grammar.specs.Follow.{after, looser, row_of, widest}
use Rattle.js_grammar.proofs.Heads.{One, the_last, and_more, begins_head, operand_taken, in_one, one_name}
use Rattle.js_grammar.proofs.Looks.{covers, covered, apart, not_both}
use Rattle.js_grammar.proofs.Calculus.{On, Inside, inside_full, ◌▹◌, ◌▹✗◌, here_at, done, left, right, looks, part_fails, fails_node, fails_look, fails_alt, weaken_on}
use Rattle.js_grammar.proofs.FollowLaws.{fails_by}
use Rattle.js_base.specs.declared.token.Token.{Token}
use Rattle.js_grammar.specs.Grammar.{empty_slot}
use Rattle.js_grammar.specs.Lexemes.{division}
use Rattle.js_grammar.specs.Productions.{BindingIdentifier}
use Rattle.js_grammar.specs.Trees.{NodeKind, hole, formal_parameters, formal_parameter, binding_identifier}
use Rattle.js_grammar.proofs.Calculus.{fails_rule, weaken_fails_on, reads_empty_slot}
use Rattle.js_grammar.proofs.FollowLaws.{same_read}
use Rattle.laws_shared.specs.js_lex.Reading.{cut, is_right_angle, GivesLexeme, LexemeBehind}
use Rattle.laws_shared.proofs.js_lex.Again.{cut_same}
use Rattle.laws_shared.specs.js_lex.States.{goal_of}
use Rattle.js_base.specs.declared.diagnostic.Diagnostic.{Diagnostic}
use Rattle.js_base.specs.declared.kind.Kind.TheVariants.{Undetermined}
use Rattle.js_grammar.specs.Lexed.{NextLexeme, all_faults}
use Rattle.js_grammar.specs.Lexemes.{is_escaped}
use Rattle.js_grammar.specs.Marks.{Mark, a_lexeme}
use Rattle.js_grammar.specs.RightEdges.{may_end}
use Rattle.laws_shared.specs.js_cursor.Moves.{Peeks}
use Rattle.laws_shared.specs.js_cursor.Moves.{KeepsDiagnostic as Keeps_one}
use Rattle.js_base.specs.declared.diagnostic.DiagnosticKind.TheVariants.{LineterminatorBeforeArrow}
use Rattle.laws_shared.specs.Told.{unrelated_at}
use Rattle.laws_shared.specs.js_cursor.Places.{goal}
use Rattle.laws_shared.specs.js_tree.declared.id.NodeId.{NodeId}
use Rattle.laws_shared.specs.js_tree.declared.kind.NodeKind.TheVariants as node_kind
use Rattle.laws_shared.specs.js_tree.declared.op.Op.TheVariants as op_made
use Rattle.laws_shared.specs.js_tree.Nodes.{Node}
use Rattle.laws_shared.specs.js_tree.Holding.{Holds, Keeps}
use Rattle.laws_shared.proofs.js_tree.HoldingLemmas.{Holds-wider, HoldsAll-one, HoldsAll-hole, Keeps-longer, Keeps-refl, Keeps-trans, Keeps-made}
use Rattle.laws_shared.specs.js_cursor.Checkpoints.{Remembers, GoesBack}
use Rattle.laws_shared.specs.js_cursor.declared.checkpoint.ParserCheckpoint.{ParserCheckpoint}
use Rattle.laws_shared.specs.js_cursor.declared.stop.Stop.{Stop}
use Rattle.laws_shared.specs.js_cursor.declared.stop.Stop.TheVariants.{Fatal}
use Rattle.laws_shared.specs.Stands.{NameHere, StandsHere}
use Rattle.laws_shared.proofs.NameKinds.{a_name, listed_name, name_apart, name_at, name_test, name_whole, or_kind, listed_here}
use Rattle.laws_shared.specs.js_cursor.Moves.{is_last}
use Rattle.laws_shared.specs.js_cursor.Parsers.{Parser}
use Rattle.laws_shared.specs.js_cursor.Places.{IsAt}
use Rattle.laws_shared.proofs.js_cursor.Changing.{came_back, back_follows}
use Rattle.laws_shared.proofs.js_cursor.Later.{keeps_follows}
use Rattle.laws_shared.specs.Answers.{Underived, Answer, Answers, beside, Numbered, Outcome, Refuses, Stretch, Stops, Grown, Verdict, clean, unclean, wider}
use Rattle.laws_shared.specs.js_cursor.Notes.{Notes}
use Rattle.laws_shared.specs.NodeTexts.{NodeFits}
use Rattle.laws_shared.specs.Contexts.{arrow_body, braced_body, arrow_head}
use Rattle.laws_operators.specs.Arrows.{ArrowBehind, AsyncPassed, BeforeArrow, led_head, told_led, ChecksLine, FindsAnyHead, FindsHead, Head, HeadDerived, HeadRead, read_clean, read_unclean, IsHeadBefore, IsHeadHere, Leads, LooksForHead, NamesHead, NoArrowHere, NoLed, NoLine, NoLineHere, NoParametersHere, OnlyLed, ParametersRead, PlainHead, Quiet, a_head, told_head, Single, ToldHead, Unmoved, WentOn, arrow_label, body_of, head_of, late_arrow, lead_of, line_of}
use Rattle.laws_operators.specs.declared.forms.ArrowHead.{ArrowHead}
use Rattle.laws_shared.specs.Heads.{NoHead, OnlyArrow}
use Rattle.laws_operators.specs.Rests.{OnlyOperandHere}
use Rattle.laws_operators.specs.Closings.{ArrowBehindOne}
use Rattle.laws_operators.proofs.Closings.{closes_alike, none_left}
use Rattle.laws_operators.proofs.OnePlace.{calm, one_alone, one_move, one_told}
use Rattle.laws_operators.proofs.ParenthesizedFronts.{no_arrow_admitted, args_one}
use Rattle.laws_shared.specs.js_cursor.Tokens.{may_be_read_again}
use Rattle.laws_shared.proofs.KeptTokens.{before_back, last_back}
use Rattle.laws_shared.specs.Lexemes.{Lex, other_goals, signs, spot, slashes, Plain, may_name, Walked}
use Rattle.laws_shared.specs.Moves.{Moved, MadeHere, LeafTaken, TakesLeaf, plain_label}
use Rattle.laws_shared.specs.States.{At, Same, Standing, IsPlain, whole, sign, nothing as nothing_here, NodesLie, SpansLie}
use Rattle.parse_targets.proofs.ArraysBeforeSigns.{is_cover}
use Rattle.parse_targets.proofs.Assigned.{arrow_passes, no_yield, only_arrow, no_yield_escaped}
use Rattle.parse_targets.specs.Others.{NoYield}
use Rattle.laws_shared.proofs.NamedFirsts.{fails_unnamed, fails_escaped}
use Rattle.laws_operators.specs.Yields.{BeginsYield}
use Rattle.laws_operators.proofs.Assignments.{by_second, second}
use Rattle.laws_operators.proofs.Conditionals.{conditional_none}
use Rattle.laws_shared.proofs.Signs.{other_kind, plain_sign}
use Rattle.laws_shared.proofs.Told.{beside_errors}
use Rattle.laws_shared.proofs.Giving.{kept_one, fails_unescaped}
use Rattle.laws_shared.proofs.Here.{angled, found, plainly, one_plain, newline_here, kind_here, told, uncut, told_plain}
use Rattle.laws_shared.proofs.MadeNodes.{leaf_held, node_held, two_held, one_lies, one_lies_in, LabelLies, from_start}
use Rattle.laws_shared.proofs.Moving.{beside_nodes, flags_same, heads_kept, same_both, same_itself, same_with, standing_for, stops_behind, nodes_lie}
use Rattle.laws_patterns.proofs.laws_primary.Operands.{by_path, by_such, name_signless}
use Rattle.laws_patterns.proofs.laws_primary.AsyncWords.{given_behind}
use Rattle.laws_patterns.proofs.Bindings.{bound_path, ended_by, then_any}
use Rattle.laws_shared.proofs.Paths.{Path, ◌⟼◌, ◌⟶◌, ◌⟶✗◌, fails_at, not_here, token, last_called, noded, by_symbol_as, label_here, read_of, walked_both, walked_from, walked_one, flagged_here, flagged_by}
use Rattle.laws_shared.proofs.Signs.{none_kept, plain_of}
use Rattle.laws_shared.proofs.Ahead.{pass_over}
use Rattle.laws_shared.proofs.Escapes.{read_plain, escaped_unnamed}
use Rattle.laws_shared.proofs.Verdicts.{grown_both, grown_first, grown_on, grown_then}
use Rattle.laws_shared.specs.Classes.{IsEarly}
use Rattle.laws_shared.proofs.Classes.{kept_early}
use Rattle.laws_shared.proofs.PlainSigns.{arrow_plain}
use Rattle.std.proofs.Math.Seq.{take-append_seam}
use Rattle.std.proofs.lemmas.List.Elements.{All-same, All-take}
use Rattle.std.proofs.Math.Bool.{or-false}

-- ---- what begins like a head, with `=>` behind it, is no operand

-- each lexeme is neither a regular expression nor a sign that begins with a slash, up to where no bracket is open
abbrev pub AllCalm : {st : List ℕ} {ls r : Lexemes} {e : ℕ} → One st ls e r → Type 0
AllCalm (the_last {x = x} p) = calm x.kind ≡ true
AllCalm (and_more {x = x} p o) = (calm x.kind ≡ true) × AllCalm o

-- two lists of lexemes from one place go on alike, where those of the first are so
agree : (text : List ℕ) (s : ℕ) {st : List ℕ} {ls ls' r r' : Lexemes} {e e' : ℕ} → Lexes (Lex text) s ls → Lexes (Lex text) s ls' → (o : One st ls e r) → One st ls' e' r' → AllCalm o → (e ≡ e') × Lexes (Lex text) e r × Lexes (Lex text) e' r'
agree text s {st = st} l m (the_last {x = x} p) (the_last {x = y} q) c = (ap (λ (z : Lexeme). z.to) (one_move st l.0 m.0 c p q), l.1, m.1)
agree text s {st = st} l m (the_last {x = x} p) (and_more {x = y} q o) c = absurd (none_left (sym p ∙ (ap (λ (z : Lexeme). move (bracket z.kind) st) (one_move st l.0 m.0 c p q) ∙ q)))
agree text s {st = st} l m (and_more {x = x} p o) (the_last {x = y} q) c = absurd (none_left (sym q ∙ (ap (λ (z : Lexeme). move (bracket z.kind) st) (sym (one_move st l.0 m.0 c.0 p q)) ∙ p)))
agree text s {st = st} {r' = r'} {e' = e'} l m (and_more {b = b} {s = t} {x = x} p o) (and_more {b = c} {s = u} {x = y} {ls = ls'} q o') d =
    let w : x ≡ y = one_move st l.0 m.0 d.0 p q in
    let v : Some (c ∷ u) ≡ Some (b ∷ t) = sym q ∙ (ap (λ (z : Lexeme). move (bracket z.kind) st) (sym w) ∙ p) in
    let z : c ∷ u ≡ b ∷ t = cc in
    agree text x.to l.1 (subst (λ (x : Lexeme). Lexes (Lex text) x.to ls') (sym w) m.1) o (subst (λ (n : List ℕ). One n ls' e' r') z o') d.1

-- what a head begins with stands alone, and so does its arrow
abbrev stands_alone : Look
stands_alone k w e = not (one_of_kinds other_goals k || one_of_kinds signs k)

heads_alone : covers begins_head stands_alone ≡ true
unfolding covers
heads_alone = refl

same_head : {text : List ℕ} {s : ℕ} {x y : Lexeme} → Lex text s x → Lex text s y → IsTrue (seen begins_head x) → x ≡ y
same_head {x = x} {y = y} l m b = go (one_of_kinds other_goals x.kind) refl (one_of_kinds signs x.kind) refl (covered begins_head stands_alone heads_alone x.kind x.newline x.escaped b)
  where
    go : (a : Bool) → one_of_kinds other_goals x.kind ≡ a → (c : Bool) → one_of_kinds signs x.kind ≡ c → not (a || c) ≡ true → x ≡ y
    go true o c n h = absurd (false≢true h)
    go false o true n h = absurd (false≢true h)
    go false o false n h = one_alone l m o n

pub same_arrow : {text : List ℕ} {s : ℕ} {x y : Lexeme} → Lex text s x → Lex text s y → x.kind ≡ Arrow → x ≡ y
same_arrow l m k = one_alone l m (ap (one_of_kinds other_goals) k) (ap (one_of_kinds signs) k)

pub no_operand : {text : List ℕ} (f : Flags) {s : ℕ} {ls r : Lexemes} {e : ℕ} → Lexes (Lex text) s ls → (o : One [] ls e r) → AllCalm o → IsTrue (seen begins_head (here ls)) → same_kind Arrow (here r).kind ≡ true → Underived text (at Short f) s
no_operand {text} f {s} {ls} {r} {e} l o c b k = record { no = λ ts vs j ls' rest m d a. go ts m d a }
  where
    go : (ts : Slots) {vs : Slots} {j : ℕ} {ls' rest : Lexemes} → Lexes (Lex text) s ls' → Takes rule (such (at Short f) always) end ts s ls' vs j rest → Admits (after (at Short f)) ts (here rest) → ⊥
    go ts {ls' = ls'} {rest = rest} m d a =
        let same : here ls ≡ here ls' = same_head (here_at (Lex text) ls l) (here_at (Lex text) ls' m) b in
        let z = operand_taken (at Short f) refl d (subst (λ (y : Lexeme). IsTrue (seen begins_head y)) same b) in
        let g = agree text s l m o z.2 c in
        let w : here r ≡ here z.1 = same_arrow (here_at (Lex text) r g.1) (subst (λ (v : ℕ). Lex text v (here z.1)) (sym g.0) (here_at (Lex text) z.1 g.2)) (sym (kind_of_same Arrow (here r).kind k)) in
        let arrow : same_kind Arrow (here z.1).kind ≡ true = subst (λ (y : Lexeme). same_kind Arrow y.kind ≡ true) w k in
        elim z.3 [
          | inl q ↦ no_arrow_admitted text f ts m d a (ap (λ (v : Lexemes). same_kind Arrow (here v).kind) q ∙ arrow)
          | inr n ↦ false≢true (sym n ∙ arrow)
        ]

-- what may bind is no parenthesis
abbrev binds_name : Look
binds_name k w e = may_bind k

abbrev a_paren : Look
a_paren k w e = same_kind LParen k

names_apart : apart binds_name a_paren ≡ true
unfolding apart
names_apart = refl

no_paren : (k : Kind) → may_bind k ≡ true → same_kind LParen k ≡ false
no_paren k h = go (same_kind LParen k) refl
  where
    go : (b : Bool) → same_kind LParen k ≡ b → same_kind LParen k ≡ false
    go true e = absurd (not_both binds_name a_paren names_apart k false false h e)
    go false e = e

binds : (f : Flags) (x : Lexeme) → IsTrue (seen (name_test f) x) → may_bind x.kind ≡ true
binds f x q = (and_parts (may_bind x.kind) (not (same_kind Yield x.kind && f.yield_)) (and_parts (may_bind x.kind && not (same_kind Yield x.kind && f.yield_)) (not (same_kind Await x.kind && f.await_)) q).0).0

-- the lexemes of a head
pub head_one : {f : Flags} {ks ts us : Slots} {i j : ℕ} {ls rest : Lexemes} → Takes rule (head_of f) ks ts i ls us j rest → (e : ℕ) × One [] ls e rest × IsTrue (seen begins_head (here ls))
unfolding rule rule_of covers apart
head_one {f} (is_left (is_node (is_node (is_seq (is_such (is_node (is_lexeme {x = x} {ls = ls} q)) c) is_empty_slot)))) =
    let b : IsTrue (seen begins_head x) = or_left (may_bind x.kind) (same_kind LParen x.kind) (binds f x q) in
    (x.to, the_last (one_name x ls b (no_paren x.kind (binds f x q))), b)
head_one {i = i} (is_right (is_such (is_node (is_seq (is_lexeme {x = x} q) e)) c)) =
    let z = in_one {i = i} (is_seq (is_lexeme {p = is LParen} q) e) refl in
    (z.0, z.1, or_right (may_bind x.kind) (same_kind LParen x.kind) (and_parts (same_kind LParen x.kind) _ q).0)

-- ---- the line of arrow functions

abbrev body_slots : Bool → Flags → G
body_slots a f = symbol Body (braced_body a f) ◇ if_next (other (is LCurly)) ▸ symbol Assignment (arrow_body a f)

abbrev behind_head : Bool → Flags → G
behind_head a f = no_newline ▸ tok Arrow ▸ body_slots a f

abbrev arrow_slots : Bool → Flags → G
arrow_slots a f = lead_of a ▸ head_of (arrow_head a f) ▸ behind_head a f

abbrev arrow_made : Bool → Make
arrow_made a = record { kind = arrow_function_expression; op = no_op; flags = flag a async_flag; extent = exact }

abbrev arrow_line : Bool → Flags → G
arrow_line a f = node (arrow_made a) (arrow_slots a f)

both_lines : (f : Flags) → rule (at Arrow' f) ≡ alt (arrow_line false f) (arrow_line true f)
unfolding rule rule_of
both_lines f = refl

-- without `async` the parameters are those around
pub plain_head_flags : (f : Flags) → arrow_head false f ≡ f
plain_head_flags f = ap (λ (b : Bool). record f { await_ = b }) (or-false f.await_)

-- a head with `=>` behind it on its line
abbrev on_line : Flags → G
on_line f = head_of f ▸ no_newline ▸ tok Arrow

abbrev NoneOnLine : Bool → List ℕ → Flags → ℕ → Type 0
NoneOnLine a text f s = Fails rule (Lex text) (plain full) end (lead_of a ▸ on_line (arrow_head a f)) s

none_on_line : {text : List ℕ} (f : Flags) {s : ℕ} (a : Bool) → NoLed a text f s → NoneOnLine a text f s
none_on_line {text} f {s} a n = record { no = λ ts vs k ls rest l d e. go ts vs k ls rest l d }
  where
    go : (ts vs : Slots) (k : ℕ) (ls rest : Lexemes) → Lexes (Lex text) s ls → Takes rule (lead_of a ▸ on_line (arrow_head a f)) end ts s ls vs k rest → ⊥
    go ts vs k ls rest l (is_seq w (is_seq h (is_seq (is_look o) q))) = n.no ts vs k ls rest l (is_seq w (is_seq h q)) (refl, refl)

module _ {text : List ℕ} (f : Flags) {s : ℕ} where
  line_fails : (a : Bool) {X : Test} → NoneOnLine a text f s → Fails rule (Lex text) X end (arrow_line a f) s
  line_fails a n = fails_node inside_full (record { no = λ ts vs k ls rest l d e. go ts vs k ls rest l d })
    where
      go : (ts vs : Slots) (k : ℕ) (ls rest : Lexemes) → Lexes (Lex text) s ls → Takes rule (arrow_slots a f) end ts s ls vs k rest → ⊥
      go ts vs k ls rest l (is_seq w (is_seq h (is_seq o (is_seq {us = us} {j = j} {mid = mid} q b)))) = n.no ts us j ls mid l (is_seq w (is_seq h (is_seq o q))) (refl, refl)

  to_line : (a : Bool) {X : Test} → NoLed (not a) text f s → Goes rule (Lex text) X end (rule (at Arrow' f)) s (arrow_line a f) s (λ us. us) (still 0)
  to_line true {X} n = subst (λ (g : G). Goes rule (Lex text) X end g s (arrow_line true f) s (λ us. us) (still 0)) (sym (both_lines f)) (right (line_fails false (none_on_line f false n)))
  to_line false {X} n = subst (λ (g : G). Goes rule (Lex text) X end g s (arrow_line false f) s (λ us. us) (still 0)) (sym (both_lines f)) (left (line_fails true (none_on_line f true n)))

  pub no_arrow : NoLed false text f s → NoLed true text f s → Underived text (at Arrow' f) s
  no_arrow n m = fails_by (subst (λ (g : G). Fails rule (Lex text) (after (at Arrow' f)) end g s) (sym (both_lines f)) (fails_alt (line_fails false (none_on_line f false n)) (line_fails true (none_on_line f true m))))

  pub no_plain_led : NoLine text f s → NoLed false text f s
  no_plain_led n = subst (λ (g : Flags). Fails rule (Lex text) (plain full) end (nothing ▸ line_of g) s) (sym (plain_head_flags f)) (done ▹✗ n)

-- ---- where none is derived

-- neither a name nor a parenthesis stands here
pub no_line_here : {text : List ℕ} {f : Flags} {p : Parser} → At text f p → may_name f.yield_ f.await_ p.token.kind ≡ false → one_of_kinds (LParen ∷ []) p.token.kind ≡ false → NoLine text f p.prev_token_end
unfolding covers apart
no_line_here {f = f} a m n = fails_unnamed a f {X = plain full} line_of (LParen ∷ []) refl refl refl refl refl m n

-- nor does a word with an escape begin one
pub no_line_escaped : {text : List ℕ} {f : Flags} {p : Parser} → At text f p → may_name f.yield_ f.await_ p.token.kind ≡ false → p.token.escaped ≡ true → NoLine text f p.prev_token_end
unfolding covers apart
no_line_escaped {f = f} {p} a m e = fails_escaped a f {X = plain full} line_of refl refl refl refl (escaped_unnamed f.yield_ f.await_ p.token.kind p.token.escaped m e) m

pub no_async_escaped : {text : List ℕ} {f : Flags} {p : Parser} → At text f p → p.token.escaped ≡ true → NoLed true text f p.prev_token_end
unfolding covers apart
no_async_escaped {f = f} a e = fails_unescaped {X = plain full} (lead_of true ▸ line_of (arrow_head true f)) a refl e

-- `async` doesn't stand here
pub no_async_here : {text : List ℕ} {f : Flags} {p : Parser} → At text f p → one_of_kinds (Async ∷ []) p.token.kind ≡ false → NoLed true text f p.prev_token_end
unfolding covers apart
no_async_here {f = f} a n = fails_at a {X = plain full} (lead_of true ▸ line_of (arrow_head true f)) (Async ∷ []) refl n

-- no `=>` stands behind the first name or parentheses
one_arrow : {text : List ℕ} {f : Flags} {s : ℕ} {X : Test} → ((ls mid : Lexemes) (e : ℕ) → Lexes (Lex text) s ls → One [] ls e mid → same_kind Arrow (here mid).kind ≡ true → ⊥) → Fails rule (Lex text) X end (line_of f) s
one_arrow {text} {f} {s} n = record { no = λ ts vs k ls rest l d e. go ts vs k ls rest l d }
  where
    go : (ts vs : Slots) (k : ℕ) (ls rest : Lexemes) → Lexes (Lex text) s ls → Takes rule (line_of f) end ts s ls vs k rest → ⊥
    go ts vs k ls rest l (is_seq {mid = mid} d (is_lexeme {x = x} q)) = let z = head_one d in n ls mid z.0 l z.1 (and_parts (same_kind Arrow x.kind) _ q).0

-- a name is no bracket
name_no_bracket : (k : Kind) → one_of_kinds binding_identifier_kinds k ≡ true → bracket k ≡ bracket_plain
unfolding apart
name_no_bracket k h = not_bracket k false false (λ b. not_both a_name brackets refl k false false h b)

calm_name : (k : Kind) → one_of_kinds binding_identifier_kinds k ≡ true → calm k ≡ true
unfolding covers apart
calm_name k h = ap not (name_apart (RegExp ∷ slashes) refl k h)

-- nor does a name begin with a slash
name_calm : {ls r : Lexemes} {e : ℕ} (o : One [] ls e r) → one_of_kinds binding_identifier_kinds (here ls).kind ≡ true → AllCalm o
unfolding bracket move
name_calm (the_last {x = x} m) h = calm_name x.kind h
name_calm (and_more {b = b} {s = t} {x = x} m o) h = absurd (none_left (subst (λ (v : Bracket). move v [] ≡ Some (b ∷ t)) (name_no_bracket x.kind h) m))

pub no_arrow_behind : {text : List ℕ} {f : Flags} {p : Parser} → At text f p → one_of_kinds binding_identifier_kinds p.token.kind ≡ true → ((y : Lexeme) → Lex text p.token.span.end y → y.kind ≡ Arrow → ⊥) → NoLine text f p.prev_token_end
unfolding bracket move
no_arrow_behind {text} {f} {p} a k n = one_arrow (λ ls mid e l o q. go ls mid e l o q)
  where
    there : (x : Lexeme) → Lex text p.prev_token_end x → (bracket x.kind ≡ bracket_plain) × (p.token.span.end ≡ x.to)
    there x l = let t = told a (name_whole a k).0 (name_signless p.token.kind k) x l in (name_no_bracket x.kind (subst (λ (v : Kind). one_of_kinds binding_identifier_kinds v ≡ true) t.kind k), t.end)

    go : (ls mid : Lexemes) (e : ℕ) → Lexes (Lex text) p.prev_token_end ls → One [] ls e mid → same_kind Arrow (here mid).kind ≡ true → ⊥
    go ls mid e l (the_last {x = x} m) q = n (here mid) (subst (λ (v : ℕ). Lex text v (here mid)) (sym (there x l.0).1) (here_at (Lex text) mid l.1)) (sym (kind_of_same Arrow (here mid).kind q))
    go ls mid e l (and_more {b = b} {s = t} {x = x} m o) q = none_left (subst (λ (v : Bracket). move v [] ≡ Some (b ∷ t)) (there x l.0).0 m)

module _ {text : List ℕ} {f : Flags} {p : Parser} (a : At text f p) where
  name_only : {X : Test} → one_of_kinds binding_identifier_kinds p.token.kind ≡ true → Fails rule (Lex text) X end (symbol Params f) p.prev_token_end
  unfolding covers apart
  name_only k = fails_at a (symbol Params f) (LParen ∷ []) refl (name_apart (LParen ∷ []) refl _ k)

  -- a name as the parameters
  name_path : {q : Parser} → may_name f.yield_ f.await_ p.token.kind ≡ true → Moved text f p q → Path text f (plain full) (head_of f) p nothing q (tree (label_here formal_parameters no_op p q) (tree (label_here formal_parameter no_op p q) (tree (label_here binding_identifier no_op p q) end (hole end)) end))
  name_path k m = left (name_only (listed_name f.yield_ f.await_ p.token.kind k)) ⟼ noded a (noded a (ended_by (then_any (bound_path a k m)) reads_empty_slot))

  -- parentheses as the parameters
  no_name : (g : Flags) {X : Test} → p.token.kind ≡ LParen → Fails rule (Lex text) X end (mk formal_parameters (mk formal_parameter (symbol BindingIdentifier g ▸ empty_slot))) p.prev_token_end
  unfolding covers apart
  no_name g k = fails_at a (mk formal_parameters (mk formal_parameter (symbol BindingIdentifier g ▸ empty_slot))) binding_identifier_kinds refl (ap (one_of_kinds binding_identifier_kinds) k)

  pub no_parameters : {g : Flags} → Underived text (at Params g) p.prev_token_end → NoHead text g p.prev_token_end
  no_parameters n = part_fails {X' = plain full} (weaken_fails_on n (record { admits = λ ts vs k ls rest d e. (refl, refl) })) (record { admits = λ ts us vs j k ls mid rest d d' e. (refl, refl) })

  -- where no head in parentheses stands, none begins with a parenthesis
  pub no_head_no_line : {g : Flags} → p.token.kind ≡ LParen → NoHead text g p.prev_token_end → NoLine text g p.prev_token_end
  no_head_no_line {g} k n = record { no = λ ts vs j ls rest l d e. go ts vs j ls rest l d }
    where
      go : (ts vs : Slots) (j : ℕ) (ls rest : Lexemes) → Lexes (Lex text) p.prev_token_end ls → Takes rule (line_of g) end ts p.prev_token_end ls vs j rest → ⊥
      go ts vs j ls rest l (is_seq {us = us} {j = i} {mid = mid} (is_left d) e) = (no_name g {X = plain full} k).no ts us i ls mid l d (refl, refl)
      go ts vs j ls rest l (is_seq (is_right d) (is_lexeme q)) = n.no ts vs j ls rest l (is_seq d (is_lexeme q)) (refl, refl)

  -- so no arrow function does
  pub no_head_no_arrow : p.token.kind ≡ LParen → NoHead text f p.prev_token_end → Underived text (at Arrow' f) p.prev_token_end
  no_head_no_arrow k n = no_arrow f (no_plain_led f (no_head_no_line k n)) (no_async_here a (ap (one_of_kinds (Async ∷ [])) k))

  module _ {q : Parser} (k : p.token.kind ≡ LParen) (x : Answer text f (at Params f) p q) where
    parameters_path : Path text f (plain full) (head_of f) p nothing q (tree x.label x.slots)
    parameters_path = right (no_name f k) ⟼ last_called x (record { admits = λ ts vs k ls rest d e. (refl, refl) })

  module _ {q : Parser} (x : Answer text f (at Params f) p q) where
    parameters_alone : Path text f (plain full) (symbol Params f) p nothing q (tree x.label x.slots)
    parameters_alone = last_called x (record { admits = λ ts vs k ls rest d e. (refl, refl) })

    -- no `=>` stands behind them
    pub unarrowed : (q.token.kind ≡ Arrow → ⊥) → NoHead text f p.prev_token_end
    unfolding covers apart
    unarrowed n = then_any parameters_alone ⟶✗ fails_at x.at {X = plain full} (tok Arrow) (Arrow ∷ []) refl (other_kind Arrow q.token.kind n)

-- ---- what stands behind a name

module _ {text : List ℕ} {f : Flags} {p : Parser} {t : Token} (a : At text f p) (h : Peeks p t) where
  -- an arrow is told where it stands
  pub arrow_peeked : (y : Lexeme) → Lex text p.token.span.end y → y.kind ≡ Arrow → t.kind ≡ Arrow
  arrow_peeked y l k = given_behind a h
      (λ d u n. absurd (n.none y (record { lex = l.0; of_goal = plainly l.0 l.1 (ap (one_of_kinds other_goals) k) })))
      (λ x. x.tells.kind ∙ (ap (λ (z : Lexeme). z.kind) (cut_same x.lexeme (ap is_right_angle (ap (λ (z : Lexeme). z.kind) (sym (one_plain l (ap (one_of_kinds other_goals) k) x)) ∙ k))) ∙ (ap (λ (z : Lexeme). z.kind) (sym (one_plain l (ap (one_of_kinds other_goals) k) x)) ∙ k)))

  pub arrow_told : t.kind ≡ Arrow → (y : Lexeme) × Lex text p.token.span.end y × (y.kind ≡ Arrow)
  arrow_told k = given_behind a h (λ d u n. let w : Arrow ≡ Undetermined = sym k ∙ u in absurd (cc)) (λ x. by x (is_right_angle x.lexeme.kind) refl)
    where
      by : (x : GivesLexeme division cut text p.token.span.end t) → (b : Bool) → is_right_angle x.lexeme.kind ≡ b → (y : Lexeme) × Lex text p.token.span.end y × (y.kind ≡ Arrow)
      by x true e = let w : RAngle ≡ Arrow = (let c : (cut x.lexeme).kind ≡ RAngle = rw (e, cut) refl in sym c ∙ (sym x.tells.kind ∙ k)) in absurd (cc)
      by x false e =
          let i : x.lexeme.kind ≡ Arrow = ap (λ (z : Lexeme). z.kind) (sym (cut_same x.lexeme e)) ∙ (sym x.tells.kind ∙ k) in
          let n : x.lexeme.escaped ≡ false = plain_of Arrow x.stands.lex.word x.lexeme.escaped (subst (λ (v : Kind). x.lexeme.escaped ≡ is_escaped v x.stands.lex.word) i x.stands.lex.escaped) arrow_plain in
          (x.lexeme, (x.stands.lex, read_of x.lexeme i refl), i)

-- ---- what is answered of a head

head_of_path : {text : List ℕ} {f : Flags} {p q : Parser} (w : Parser) {l : Label} {cs : Slots} {id : NodeId} → Path text f (plain full) (head_of f) p nothing q (tree l cs) → q.errors ≡ p.errors → Same p q → w ≡ record q { nodes = w.nodes } → Holds w.nodes (length p.nodes) (length w.nodes) id.0 l cs → Keeps p.nodes w.nodes → (IsCharBoundary p.text p.token.span.start → NodesLie q.text q.nodes → NodesLie q.text w.nodes) → Head text f f p w id
head_of_path {text} {f} {p} {q} w {l} {cs} {id} r e s n h k i = go w.nodes n h k i
  where
    go : (ns : List Node) → w ≡ record q { nodes = ns } → Holds w.nodes (length p.nodes) (length w.nodes) id.0 l cs → Keeps p.nodes w.nodes → (IsCharBoundary p.text p.token.span.start → NodesLie q.text q.nodes → NodesLie q.text w.nodes) → Head text f f p w id
    go ns n h k i = subst (λ (z : Parser). Head text f f p z id) (sym n) (record {
      at = beside_nodes ns r.at;
      same = same_with ns s (subst (λ (z : Parser). Keeps p.nodes z.nodes) n k) (λ b z. subst (λ (v : Parser). NodesLie q.text v.nodes) n (i b z));
      further = r.further;
      quiet = inl e;
      label = l;
      slots = cs;
      pass = r.pass;
      walked = r.walked;
      read = none_kept r.verdict (ap length e);
      holds = subst (λ (z : Parser). Holds z.nodes (length p.nodes) (length z.nodes) id.0 l cs) n h;
      keeps = subst (λ (z : Parser). Keeps p.nodes z.nodes) n k;
    })

-- the `=>` that stands here
arrow_here : {text : List ℕ} {f : Flags} {p : Parser} → At text f p → p.token.kind ≡ Arrow → (y : Lexeme) × Lex text p.prev_token_end y × (same_kind Arrow y.kind ≡ true) × (p.token.span.start ≡ y.from)
arrow_here a k =
    let z = found a (uncut a (ap (same_kind RAngle) k)) (ap is_last k) in
    let e : z.0.kind ≡ Arrow = sym z.2.kind ∙ k in
    (z.0, (z.1, read_of z.0 e refl), ap (same_kind Arrow) e, z.2.start)

-- what stands behind them
one_behind : (text : List ℕ) (s : ℕ) {st : List ℕ} {ls r : Lexemes} {e : ℕ} → Lexes (Lex text) s ls → One st ls e r → Lexes (Lex text) e r
one_behind text s l (the_last m) = l.1
one_behind text s l (and_more {x = x} m o) = one_behind text x.to l.1 o

-- its trivia stands between
lexeme_from : {text : List ℕ} {s : ℕ} {y : Lexeme} → Lex text s y → s ≤ y.from
lexeme_from l = let e = l.0.from in omega arith

-- where a head was read, and none of its lexemes is a regular expression or a sign that begins with a slash, no operand is derived
head_no_operand : {text : List ℕ} {f : Flags} {o p : Parser} {id : NodeId} → Head text f f o p id → p.token.kind ≡ Arrow → ((ls r : Lexemes) (e : ℕ) → Lexes (Lex text) o.prev_token_end ls → (z : One [] ls e r) → e ≤ p.token.span.start → AllCalm z) → Underived text (at Short f) o.prev_token_end
head_no_operand {text} {f} {o} {p} h k c =
    let y = arrow_here h.at k in
    let d = h.read.goes.sound end end p.prev_token_end (last y.0) (last y.0) y.1 (inl h.read.near) is_nothing in
    let z = head_one d in
    let l = h.read.goes.passes.lexed (last y.0) y.1 in
    let e : z.0 ≤ p.token.span.start = (let i = lexeme_from (one_behind text o.prev_token_end l z.1) in let j = y.3 in omega arith) in
    no_operand f l z.1 (c _ _ z.0 l z.1 e) z.2 y.2

-- of parameters so: behind arguments `=>` stands
pub head_only_arrow : {text : List ℕ} {f g : Flags} {o p : Parser} {id : NodeId} → Head text f g o p id → p.token.kind ≡ Arrow → ((ls r : Lexemes) (e : ℕ) → Lexes (Lex text) o.prev_token_end ls → (z : One [] ls e r) → e ≤ p.token.span.start → AllCalm z) → OnlyArrow text f o.prev_token_end
head_only_arrow {text} {f} {g} {o} {p} h k c = record { no = λ ts vs j ls rest m d a. go ts vs j ls rest m d a.0 }
  where
    y : (y : Lexeme) × Lex text p.prev_token_end y × (same_kind Arrow y.kind ≡ true) × (p.token.span.start ≡ y.from)
    y = arrow_here h.at k

    d : Takes rule (head_of g) end (tree h.label h.slots end) o.prev_token_end (h.pass (last y.0)) end p.prev_token_end (last y.0)
    d = h.read.goes.sound end end p.prev_token_end (last y.0) (last y.0) y.1 (inl h.read.near) is_nothing

    l : Lexes (Lex text) o.prev_token_end (h.pass (last y.0))
    l = h.read.goes.passes.lexed (last y.0) y.1

    go : (ts vs : Slots) (j : ℕ) (ls rest : Lexemes) → Lexes (Lex text) o.prev_token_end ls → Takes rule (args f) end ts o.prev_token_end ls vs j rest → not (same_kind Arrow (here rest).kind) ≡ true → ⊥
    go ts vs j ls rest m e n =
        let z = head_one d in
        let x = args_one f e in
        let b : z.0 ≤ p.token.span.start = (let i = lexeme_from (one_behind text o.prev_token_end l z.1) in let q = y.3 in omega arith) in
        let q = agree text o.prev_token_end l m z.1 x.1 (c _ _ z.0 l z.1 b) in
        let w : y.0 ≡ here rest = same_arrow (here_at (Lex text) (last y.0) q.1) (subst (λ (v : ℕ). Lex text v (here rest)) (sym q.0) (here_at (Lex text) rest q.2)) (sym (kind_of_same Arrow y.0.kind y.2)) in
        false≢true (sym (ap not (subst (λ (v : Lexeme). same_kind Arrow v.kind ≡ true) w y.2)) ∙ n)

-- and they are derived, where they begin with a parenthesis
pub head_derived : {text : List ℕ} {f g : Flags} {o p : Parser} {id : NodeId} → At text f o → o.token.kind ≡ LParen → Head text f g o p id → p.token.kind ≡ Arrow → HeadDerived text g o.prev_token_end
head_derived {text} {f} {g} {o} {p} a k h r = record { lexemes = h.pass (last y.0); lexed = l; slots = tree h.label h.slots end; end = p.prev_token_end; rest = last y.0; derived = by (h.read.goes.sound end end p.prev_token_end (last y.0) (last y.0) y.1 (inl h.read.near) is_nothing); arrow = y.2 }
  where
    y : (y : Lexeme) × Lex text p.prev_token_end y × (same_kind Arrow y.kind ≡ true) × (p.token.span.start ≡ y.from)
    y = arrow_here h.at r

    l : Lexes (Lex text) o.prev_token_end (h.pass (last y.0))
    l = h.read.goes.passes.lexed (last y.0) y.1

    by : Takes rule (head_of g) end (tree h.label h.slots end) o.prev_token_end (h.pass (last y.0)) end p.prev_token_end (last y.0) → Takes rule (symbol Params g) end (tree h.label h.slots end) o.prev_token_end (h.pass (last y.0)) end p.prev_token_end (last y.0)
    by (is_left d) = absurd ((no_name a g {X = plain full} k).no (tree h.label h.slots end) end p.prev_token_end (h.pass (last y.0)) (last y.0) l d (refl, refl))
    by (is_right d) = d

-- so the arrow that stands behind is the token
pub arrow_is_here : {text : List ℕ} {f : Flags} {p : Parser} → At text f p → (y : Lexeme) → Lex text p.prev_token_end y → y.kind ≡ Arrow → p.token.kind ≡ Arrow
arrow_is_here {p = p} a y l k = by p.cut refl
  where
    by : (b : Bool) → p.cut ≡ b → p.token.kind ≡ Arrow
    by true e = absurd (false≢true (ap is_right_angle (sym k) ∙ angled a e y l))
    by false e = (told_plain a e y (ap (one_of_kinds other_goals) k) l).kind ∙ k

pub behind_so : (p q : Parser) {b r : Bool} → r ≡ b → ArrowBehind p q r → ArrowBehind p q b
behind_so p q e h = subst (λ (v : Bool). ArrowBehind p q v) e h

pub unmoved : {p q : Parser} → q ≡ p → Unmoved p q
unmoved {p} e = subst (Unmoved p) (sym e) (record { at = λ text f a. a; same = same_itself; kept = refl; place = refl; spot_is = refl; start = refl; kind = refl; keeps = Keeps-refl p.nodes })

-- the node of a name stands before the arrow
pub name_found : {p q w : Parser} {id : NodeId} → Standing p → ArrowBehind p q true → Single q w id → NamesHead p w (Some id)
name_found {p} {q} {w} {id} a b s = (k, head, b.1)
  where
    z : Single p w id
    z = subst (λ (v : Parser). Single v w id) b.0 s

    head : (text : List ℕ) (f : Flags) → At text f p → Head text f f p w id
    head text f a = z.1 text f a

    k : w.token.kind ≡ Arrow
    k = let y = b.1 _ _ a in arrow_is_here (head _ _ a).at y.0 (subst (λ (v : ℕ). Lex p.text v y.0) (sym z.0) y.1) y.2

-- no YieldExpression begins with a name
no_yield_named : {text : List ℕ} {f : Flags} {p : Parser} → At text f p → may_name f.yield_ f.await_ p.token.kind ≡ true → NoYield text f p.prev_token_end
no_yield_named {f = f} a k = no_yield a (λ e. not-true f.yield_ (subst (λ (v : Kind). may_name f.yield_ f.await_ v ≡ true) e k))

-- nor with a parenthesis
pub no_yield_paren : {text : List ℕ} {f : Flags} {p : Parser} → At text f p → p.token.kind ≡ LParen → NoYield text f p.prev_token_end
no_yield_paren a k = no_yield a (λ i. let z : LParen ≡ Yield = sym k ∙ i in absurd (cc))

-- no operand begins with it
pub named_head : {p w : Parser} {id : NodeId} → Standing p → NameHere p true → NamesHead p w (Some id) → IsHeadHere p w id
named_head {p} {w} {id} a n h = (h.0, (λ text f b. a_head (h.1 text f b) (no_yield_named b (name_at true b n)) (none text f b)), none)
  where
    listed : one_of_kinds binding_identifier_kinds p.token.kind ≡ true
    listed = listed_here p n

    named : {text : List ℕ} {f : Flags} → At text f p → (x : Lexeme) → Lex text p.prev_token_end x → one_of_kinds binding_identifier_kinds x.kind ≡ true
    named a x l = subst (λ (v : Kind). one_of_kinds binding_identifier_kinds v ≡ true) (told a (name_whole a listed).0 (name_signless p.token.kind listed) x l).kind listed

    none : (text : List ℕ) (f : Flags) → At text f p → Underived text (at Short f) p.prev_token_end
    none text f a = head_no_operand (h.1 text f a) h.0 (λ ls r i l o b. name_calm o (named a (here ls) (here_at (Lex text) ls l)))

pub name_finds : (p q : Parser) (found : Option NodeId) → Standing p → NameHere p true → NamesHead p q found → FindsHead p q found
name_finds p q (Some id) a n h = named_head a n h
name_finds p q None a n h = h

-- parameters in parentheses
pub parenthesized_head : {text : List ℕ} {f : Flags} {p q : Parser} {id : NodeId} → At text f p → p.token.kind ≡ LParen → (x : Numbered text f (at Params f) p q id) → Quiet f p q → Stretch text (after (at Params f)) (such (at Params f) always) p.prev_token_end nothing q.prev_token_end (tree x.answer.label x.answer.slots) x.answer.pass → Head text f f p q id
parenthesized_head {f = f} {p = p} a k x e z = record {
  at = x.answer.at;
  same = x.answer.same;
  further = x.answer.further;
  quiet = e;
  label = x.answer.label;
  slots = x.answer.slots;
  pass = x.answer.pass;
  walked = x.answer.walked;
  read = record { reach = max 0 z.reach; near = let i = z.near in omega arith; goes = right (no_name a f k) ▹ weaken_on z.goes (record { admits = λ ts vs k ls rest d e. (refl, refl) }) };
  holds = x.holds;
  keeps = x.keeps;
}

-- a name
pub single_head : {text : List ℕ} {f : Flags} {p q v w : Parser} {name parameter id : NodeId} (s : Span) → At text f p → may_name f.yield_ f.await_ p.token.kind ≡ true → s ≡ p.token.span → LeafTaken node_kind.BindingIdentifier op_made.None text f p q name → MadeHere (plain_label node_kind.FormalParameter op_made.None s) (Some name ∷ None ∷ []) q v parameter → MadeHere (plain_label node_kind.FormalParameters op_made.None s) (Some parameter ∷ []) v w id → Head text f f p w id
single_head {text} {f} {p} {q} {v} {w} {name} {parameter} {id} s a k b t n m =
    let i : p.token.span.end ≡ t.mid.prev_token_end = t.moved.tells.end ∙ t.moved.ends in
    let ks : Keeps p.nodes t.mid.nodes = subst (λ (ns : List Node). Keeps p.nodes ns) (sym t.moved.nodes) (Keeps-refl p.nodes) in
    let h = leaf_held t.made ks in
    let kq : Keeps p.nodes q.nodes = Keeps-trans ks (Keeps-made t.made.made) in
    let hv = node_held n (HoldsAll-hole (HoldsAll-one name h)) in
    let kv : Keeps p.nodes v.nodes = Keeps-trans kq (Keeps-made n.made) in
    let hw = node_held m (HoldsAll-one parameter hv) in
    head_of_path w (subst (λ (x : ℕ). Path text f (plain full) (head_of f) p nothing t.mid (tree (label_to formal_parameters x) (tree (label_to formal_parameter x) (tree (label_to binding_identifier x) end (hole end)) end))) (sym i) (name_path a k t.moved)) t.moved.kept t.moved.same (m.stays ∙ ap (λ (z : Parser). record z { nodes = w.nodes }) (n.stays ∙ ap (λ (z : Parser). record z { nodes = v.nodes }) t.made.stays))
    (subst (λ (x : Span). Holds w.nodes (length p.nodes) (length w.nodes) id.0 (plain_label node_kind.FormalParameters op_made.None x) (tree (plain_label node_kind.FormalParameter op_made.None x) (tree (label_to binding_identifier p.token.span.end) end (hole end)) end)) b hw) (Keeps-trans kv (Keeps-made m.made))
    (λ c z. let y = from_start (plain_label node_kind.FormalParameters op_made.None s) t.moved.same t.moved.at.at (let j = t.moved.further in omega arith) (ap (λ (x : Span). record { from = x.start; to = x.end }) b ∙ ap (λ (x : ℕ). record { from = p.token.span.start; to = x }) i) c in one_lies_in (ap (λ (x : Parser). x.text) n.stays ∙ ap (λ (x : Parser). x.text) t.made.stays) m y (one_lies_in (ap (λ (x : Parser). x.text) t.made.stays) n y (one_lies t.made (subst (λ (x : Span). LabelLies t.mid.text (plain_label node_kind.BindingIdentifier op_made.None x)) b y) z)))
  where
    label_to : NodeKind → ℕ → Label
    label_to n x = record { kind = n; op = no_op; flags = 0; span = record { from = p.token.span.start; to = x } }

pub single_place : {p q v w : Parser} {k : _} {o : _} {l m : Label} {ids js : List (Option NodeId)} {name parameter id : NodeId} → Standing p → TakesLeaf k o p q name → MadeHere l ids q v parameter → MadeHere m js v w id → w.prev_token_end ≡ p.token.span.end
single_place a t n m = let x = t _ _ a in ap (λ (z : Parser). z.prev_token_end) m.stays ∙ (ap (λ (z : Parser). z.prev_token_end) n.stays ∙ (ap (λ (z : Parser). z.prev_token_end) x.made.stays ∙ sym (x.moved.tells.end ∙ x.moved.ends)))

-- where `=>` stands behind the parentheses that begin here, it stands behind arguments
pub closed_arrow : {text : List ℕ} {f : Flags} {s : ℕ} → ArrowBehindOne text s → OnlyArrow text f s
closed_arrow {text} {f} {s} h = record { no = λ ts vs j ls rest m d e. go ts vs j ls rest m d e.0 }
  where
    go : (ts vs : Slots) (j : ℕ) (ls rest : Lexemes) → Lexes (Lex text) s ls → Takes rule (args f) end ts s ls vs j rest → not (same_kind Arrow (here rest).kind) ≡ true → ⊥
    go ts vs j ls rest m d n =
        let z = args_one f d in
        let g = closes_alike text s m z.1 h.closing in
        let l : Lex text z.0 (here rest) = here_at (Lex text) rest g.1 in
        let w : here rest ≡ h.arrow = one_told l (subst (λ (v : ℕ). LexemeBehind division text v h.arrow) (sym g.0) h.stands) (ap (one_of_kinds signs) h.is) in
        false≢true (sym (ap (λ (y : Lexeme). not (same_kind Arrow y.kind)) w ∙ ap (λ (k : Kind). not (same_kind Arrow k)) h.is) ∙ n)

-- neither a head nor an operand begins here
pub unassigned : {text : List ℕ} {f : Flags} {p : Parser} → At text f p → p.token.kind ≡ LParen → NoHead text f p.prev_token_end → Underived text (at Short f) p.prev_token_end → Underived text (at Assignment f) p.prev_token_end
unassigned {f = f} a k n s = fails_by (only_arrow f (is_cover a) (no_yield_paren a k) (conditional_none f s) s ▹✗ weaken_fails_on (no_head_no_arrow a k n) (same_read (at Assignment f) (at Arrow' f) arrow_passes refl))

-- parameters of which something was told
told_parameters : {text : List ℕ} {f : Flags} {p q : Parser} {id : NodeId} → Numbered text f (at Params f) p q id → Grown p.errors q.errors → ToldHead text f p q id
told_parameters x g = record {
  at = x.answer.at;
  same = x.answer.same;
  further = x.answer.further;
  grown = g;
  label = x.answer.label;
  slots = x.answer.slots;
  pass = x.answer.pass;
  walked = x.answer.walked;
  holds = x.holds;
  keeps = x.keeps;
}

-- parameters where no operand begins
pub certain_head : {text : List ℕ} {f : Flags} {p q : Parser} {id : NodeId} → At text f p → p.token.kind ≡ LParen → Underived text (at Short f) p.prev_token_end → Numbered text f (at Params f) p q id → PlainHead text f p q id
certain_head a k s x = elim x.answer.verdict [
  | clean e z ↦ a_head (parenthesized_head a k x (inl e) z) (no_yield_paren a k) s
  | unclean g z ↦ told_head (told_parameters x g) (unassigned a k (no_parameters a z) s)
  | wider w g z ↦ a_head (parenthesized_head a k x (inr (w, g)) z) (no_yield_paren a k) s
]

module _ {p q : Parser} (a : Standing p) (k : p.token.kind ≡ LParen) where
  -- parameters, and whether they are a head
  pub head_read : {id : NodeId} → Answers (at Params) p q (Ok id) → q.token.kind ≡ Arrow → ParametersRead p q id
  head_read {id} x h = (h, (λ text f a. by a (x text f a)))
    where
      by : {text : List ℕ} {f : Flags} → At text f p → Numbered text f (at Params f) p q id → HeadRead text f f p q id
      by a y = elim y.answer.verdict [
        | clean e z ↦ read_clean (parenthesized_head a k y (inl e) z)
        | unclean g z ↦ read_unclean (told_parameters y g) (no_parameters a z)
        | wider w g z ↦ read_clean (parenthesized_head a k y (inr (w, g)) z)
      ]

  pub head_unread : {id : NodeId} → Answers (at Params) p q (Ok id) → (q.token.kind ≡ Arrow → ⊥) → WentOn p q × NoParametersHere p
  head_unread x h = let y = (x _ _ a).answer in (((y.same.follows, y.at.at), y.at.heads, λ w. (y.same.lies w).1), λ text f a. unarrowed a (x text f a).answer h)

-- where they began is a place between characters
pub start_between : {text : List ℕ} {f g : Flags} {p q : Parser} {start : ℕ} → At text f p → At text g q → start ≡ p.prev_token_end → IsCharBoundary q.text start
start_between {p = p} {q} {start} a b e = subst (λ (v : ℕ). IsCharBoundary q.text v) (sym e) (subst (λ (t : List ℕ). IsCharBoundary t p.prev_token_end) (a.text_is ∙ sym b.text_is) a.at.between)

-- they can't be read
pub head_refused : {p q : Parser} (e : Stop) → Standing p → e ≡ Fatal → ((text : List ℕ) (f : Flags) → At text f p → Stops p q e (Underived text (at Params f) p.prev_token_end)) → WentOn p q × NoParametersHere p
head_refused {p} {q} e a i s = go (λ text f b. subst (λ (v : Stop). Stops p q v (Underived text (at Params f) p.prev_token_end)) i (s text f b))
  where
    go : ((text : List ℕ) (f : Flags) → At text f p → Refuses p q (Underived text (at Params f) p.prev_token_end)) → WentOn p q × NoParametersHere p
    go x = let y = x _ _ a in (((y.follows, y.at), y.heads, y.lies), λ text f b. no_parameters b (x text f b).none)

-- what was found
pub some_found : (p q : Parser) (head : ArrowHead) (r : Option ArrowHead) → r ≡ Some head → FindsAnyHead p q r → IsHeadBefore head.is_async p q head.parameters
some_found p q head r e h = subst (FindsAnyHead p q) e h

pub none_found : (p q : Parser) (r : Option ArrowHead) → r ≡ None → FindsAnyHead p q r → Unmoved p q × NoArrowHere p
none_found p q r e h = subst (FindsAnyHead p q) e h

pub none_looked : (p o q : Parser) (r : Option NodeId) → o ≡ p → r ≡ None → LooksForHead o q r → WentOn p q × NoParametersHere p
none_looked p o q r s e h = subst (λ (z : Parser). WentOn z q × NoParametersHere z) s (subst (LooksForHead o q) e h)

pub some_looked : (p o q : Parser) (id : NodeId) (r : Option NodeId) → o ≡ p → r ≡ Some id → LooksForHead o q r → ParametersRead p q id
some_looked p o q id r s e h = subst (λ (z : Parser). ParametersRead z q id) s (subst (LooksForHead o q) e h)

-- neither a name nor a parenthesis
pub neither : {p : Parser} → NameHere p false → StandsHere p LParen false → NoLineHere p
neither {p} n m = λ text f a. by text f p.token.escaped refl a
  where
    by : (text : List ℕ) (f : Flags) (e : Bool) → p.token.escaped ≡ e → At text f p → NoLine text f p.prev_token_end
    by text f true e a = no_line_escaped a (name_at false a n) e
    by text f false e a = no_line_here a (name_at false a n) (or_kind LParen [] p.token.kind (λ k. m k e) refl)

-- ---- where the parser is where it was

-- it stood so there before
pub before_unmoved : {text : List ℕ} {f : Flags} {p q : Parser} → Standing p → Unmoved p q → At text f q → At text f p
before_unmoved {p = p} {q = q} a u b = standing_for a (sym u.same.follows.text ∙ b.text_is) (sym (flags_same p q u.same.ctx u.same.follows.source_type u.same.options) ∙ b.flags_are)

pub unmoved_none : {p q : Parser} → Standing p → Unmoved p q → NoArrowHere p → NoArrowHere q
unmoved_none {p} {q} a u n = λ text f b. subst (λ (s : ℕ). Underived text (at Arrow' f) s) (sym u.place) (n text f (before_unmoved a u b))

pub unmoved_went_on : {p q : Parser} → Standing p → Unmoved p q → WentOn p q
unmoved_went_on a u = let b = u.at _ _ a in ((u.same.follows, b.at), b.heads, λ w. (u.same.lies w).1)

-- where no YieldExpression begins
no_yield_here : {text : List ℕ} {f : Flags} {p : Parser} → At text f p → (BeginsYield p → ⊥) → NoYield text f p.prev_token_end
no_yield_here {text} {f} {p} a n = go p.token.escaped refl
  where
    by : (b : Bool) → has_flag yield_flag p.ctx ≡ b → p.token.kind ≡ Yield → p.token.escaped ≡ false → f.yield_ ≡ false
    by true i k e = absurd (n (record { kind = k; plain = e; yields = i }))
    by false i k e = sym (ap (λ (g : Flags). g.yield_) a.flags_are) ∙ i

    go : (e : Bool) → p.token.escaped ≡ e → NoYield text f p.prev_token_end
    go true e = no_yield_escaped a e
    go false e = no_yield a (λ k. by (has_flag yield_flag p.ctx) refl k e)

unmoved_yield : {p q : Parser} → Standing p → Unmoved p q → (BeginsYield p → ⊥) → (text : List ℕ) (f : Flags) → At text f q → NoYield text f q.prev_token_end
unmoved_yield {p} {q} a u n text f b = subst (λ (s : ℕ). NoYield text f s) (sym u.place) (no_yield_here (before_unmoved a u b) n)

pub only_operand : {p q : Parser} → Standing p → (BeginsYield p → ⊥) → Unmoved p q → NoArrowHere p → OnlyOperandHere q
only_operand a y u n = λ text f b. (unmoved_none a u n text f b, unmoved_yield a u y text f b)

pub from_unmoved : (text : List ℕ) (f : Flags) (n : Symbol) {p q : Parser} (w : Parser) (r : Result NodeId Stop) → Unmoved p q → Outcome text f n q w r → Outcome text f n p w r
from_unmoved text f n {p} {q} w (Ok id) u x = record {
  answer = record {
    at = x.answer.at;
    same = same_both u.same x.answer.same;
    further = let a = x.answer.further in let b = u.start in omega arith;
    label = x.answer.label;
    slots = x.answer.slots;
    stops = x.answer.stops;
    row = x.answer.row;
    pass = x.answer.pass;
    walked = walked_from u.spot_is x.answer.walked;
    verdict = subst (λ (s : ℕ). Verdict (f.wide ≡ true) p.errors w.errors (Stretch text (after n) (such n always) s nothing w.prev_token_end (tree x.answer.label x.answer.slots) x.answer.pass) (Underived text n s)) u.place
        (subst (λ (ds : List Diagnostic). Verdict (f.wide ≡ true) ds w.errors (Stretch text (after n) (such n always) q.prev_token_end nothing w.prev_token_end (tree x.answer.label x.answer.slots) x.answer.pass) (Underived text n q.prev_token_end)) u.kept x.answer.verdict);
  };
  holds = Holds-wider (length p.nodes) (length w.nodes) (Keeps-longer u.keeps) (omega arith) x.holds;
  keeps = Keeps-trans u.keeps x.keeps;
}
from_unmoved text f n {p} {q} w (Err e) u s = stops_behind w e u.same (λ g. subst (λ (ds : List Diagnostic). Grown ds w.errors) u.kept g) (λ z. subst (λ (s : ℕ). Underived text n s) u.place z) s

-- ---- the parser goes back

plain_back : {text : List ℕ} {p r : Parser} → r.token ≡ p.token → r.cut ≡ p.cut → r.prev_token_end ≡ p.prev_token_end → IsPlain text p → IsPlain text r
plain_back {text} {p} {r} t c e (whole d n x) = whole (c ∙ d) (λ k. n (sym (ap (λ z. z.kind) t) ∙ k)) (subst (λ (v : ℕ). GivesLexeme division (λ y. y) text v r.token) (sym e) (subst (λ (v : Token). GivesLexeme division (λ y. y) text p.prev_token_end v) (sym t) x))
plain_back {text} {p} {r} t c e (sign d k x) = sign (c ∙ d) (ap (λ z. z.kind) t ∙ k) (subst (λ (v : ℕ). GivesLexeme division cut text v r.token) (sym e) (subst (λ (v : Token). GivesLexeme division cut text p.prev_token_end v) (sym t) x))
plain_back {text} {p} {r} t c e (nothing_here d k n) = nothing_here (c ∙ d) (ap (λ z. z.kind) t ∙ k) (subst (λ (v : ℕ). (y : Lexeme) → LexemeBehind division text v y → ⊥) (sym e) n)

pub went_back : {p q r : Parser} {c : ParserCheckpoint} → may_be_read_again p.token.kind ≡ false → Remembers p c → WentOn p q → GoesBack c q r → Unmoved p r
went_back {p} {q} {r} o m (f, n, l) g =
    let b = came_back m f.0 g in
    let s : Same p r = record { follows = back_follows m f.0 g; options = g.options ∙ f.0.options; ctx = b.ctx; depth = b.depth; visits = b.visits; early = λ h. All-same IsEarly r.errors p.errors b.errors h; lies = λ h. (g.at.lies.starts_whole, nodes_lie q r g.text g.nodes (l h)) } in
    record {
      at = λ text f a. record { text_is = b.text ∙ a.text_is; flags_are = flags_same p r b.ctx b.source_type s.options ∙ a.flags_are; at = g.at; plain = plain_back b.token b.cut b.prev_token_end a.plain; behind = let i = b.prev_token_end in let j = ap (λ z. z.span.start) b.token in let k = a.behind in omega arith; heads = heads_kept q r g.text g.source_type g.options (ap (λ (z : Notes). z.failed) g.state) (ap (λ (z : Notes). z.operands) g.state) (ap (λ (z : Notes). z.arrows) g.state) (ap (λ (z : Notes). z.others) g.state) n; kept_last = last_back p.lexer r.lexer b.token b.keeps_tokens (b.tokens o) a.kept_last };
      same = s;
      kept = b.errors;
      place = b.prev_token_end;
      spot_is = λ i. record {
        source = goal_of (b.source_type i);
        keeps_tokens = b.keeps_tokens i;
        place = b.prev_token_end i;
        kept = record { comments = b.comments i; irregular_whitespaces = b.blanks i; tokens = before_back p.lexer r.lexer b.token b.keeps_tokens (b.tokens o) i; errors = b.faults i };
      };
      start = ap (λ z. z.span.start) b.token;
      kind = ap (λ z. z.kind) b.token;
      keeps = s.follows.nodes;
    }

-- and the nodes that were made since are dropped
pub dropped : {p q r : Parser} {n : ℕ} → n ≡ length p.nodes → Unmoved p q → r ≡ record q { nodes = take n q.nodes } → Unmoved p r
dropped {p} {q} {r} {n} e u i = subst (λ (z : Parser). Unmoved p z) (sym i) (record {
  at = λ text f a. beside_nodes (take n q.nodes) (u.at text f a);
  same = same_with (take n q.nodes) u.same before (λ b h. All-take (NodeFits q.text) n q.nodes h);
  kept = u.kept;
  place = u.place;
  spot_is = u.spot_is;
  start = u.start;
  kind = u.kind;
  keeps = before;
})
  where
    before : Keeps p.nodes (take n q.nodes)
    before = subst (Keeps p.nodes) (sym (ap (λ (m : ℕ). take m q.nodes) e ∙ (ap (take (length p.nodes)) u.keeps.whole ∙ take-append_seam p.nodes u.keeps.more))) (Keeps-refl p.nodes)

-- ---- an arrow function

-- what is said of what was read
quiet_verdict : {W K : Type 0} {p q : List K} {C B : Type 0} → (q ≡ p) ⊎ (W × Grown p q) → C → Verdict W p q C B
quiet_verdict (inl e) c = clean e c
quiet_verdict (inr (w, g)) c = wider w g c

-- behind what kept none
pub quiet_behind : {W K : Type 0} {o p q : List K} → p ≡ o → (q ≡ p) ⊎ (W × Grown p q) → (q ≡ o) ⊎ (W × Grown o q)
quiet_behind e (inl i) = inl (i ∙ e)
quiet_behind e (inr (w, g)) = inr (w, grown_then e g)

-- and more was kept behind it
quiet_grown : {W K : Type 0} {p q r : List K} → (q ≡ p) ⊎ (W × Grown p q) → Grown q r → Grown p r
quiet_grown (inl e) g = grown_then e g
quiet_grown (inr (w, h)) g = grown_both h g

-- what a later call says of what was kept
behind : {W K : Type 0} {p q r : List K} {C B : Type 0} → Grown p q → Verdict W q r C B → Grown p r
behind g v = grown_on g v

-- the body: in braces where a brace stands, else an expression
to_body : {text : List ℕ} {f : Flags} {X : Test} {r : Parser} (m : Bool) → At text f r → (b : Bool) → same_kind LCurly r.token.kind ≡ b → Goes rule (Lex text) X end (body_slots m f) r.prev_token_end (such (body_of b m f) always) r.prev_token_end (λ us. us) (still 0)
unfolding covers apart
to_body {r = r} m a true c = left (part_fails {X' = plain full} (fails_look (other (is LCurly)) (λ y l z. let e = kind_here a (sym (kind_of_same LCurly r.token.kind c)) refl y l in braced y e (read_plain y l e refl) z)) (record { admits = λ ts us vs j k ls mid rest d d' e. (refl, refl) }))
  where
    braced : (y : Lexeme) → y.kind ≡ LCurly → y.escaped ≡ false → IsTrue (seen (other (is LCurly)) y) → ⊥
    braced y k n z = let w : not (same_kind LCurly y.kind && not y.escaped) ≡ false = rw (k, n) refl in false≢true (sym w ∙ z)
to_body {text} {f} {r = r} m a false c = right (fails_at a (symbol Body (braced_body m f)) (LCurly ∷ []) refl none) ▹ pass_over (looks (other (is LCurly)) (λ y l. unbraced y (same_kind LCurly y.kind) refl l))
  where
    none : one_of_kinds (LCurly ∷ []) r.token.kind ≡ false
    none = rw c refl

    unbraced : (y : Lexeme) (b : Bool) → same_kind LCurly y.kind ≡ b → Lex text r.prev_token_end y → seen (other (is LCurly)) y ≡ true
    unbraced y true e l = absurd (not_here a (LCurly ∷ []) refl none y l (rw e refl))
    unbraced y false e l = rw e refl

-- another lexeme than a brace
pub no_brace : (k : Kind) → (k ≡ LCurly → ⊥) → same_kind LCurly k ≡ false
no_brace k n = go (same_kind LCurly k) refl
  where
    go : (b : Bool) → same_kind LCurly k ≡ b → same_kind LCurly k ≡ false
    go true e = absurd (n (sym (kind_of_same LCurly k e)))
    go false e = e

-- the row of a body in braces
body_row : (r : Row) → may_end Body r ≡ true → r ≡ after_body
body_row after_body h = refl
body_row after_expression h = absurd (false≢true h)
body_row after_postfix h = absurd (false≢true h)
body_row after_yield h = absurd (false≢true h)
body_row after_declarator h = absurd (false≢true h)
body_row after_word h = absurd (false≢true h)

-- behind an arrow function stands what may stand behind its body: behind one in braces anything, but a comma goes on with what is around
behind_body : (b m : Bool) {text : List ℕ} {f : Flags} {r w : Parser} (y : Answer text f (body_of b m f) r w) (z : Lexeme) → Plain text w.prev_token_end z → IsTrue (seen (looser 2 f.in_ (row_of y.label y.slots)) z || seen beside z)
behind_body false m y z l = y.stops z l
behind_body true m {f = f} y z l = or_left _ _ (subst (λ (r : Row). IsTrue (seen (looser 2 f.in_ r) z)) (sym (body_row (row_of y.label y.slots) y.row)) (at_most (same_kind Comma z.kind && not z.escaped)))
  where
    at_most : (c : Bool) → nat_lt (cond c 1 0) 2 ≡ true
    at_most true = refl
    at_most false = refl

row_of_body : (b m : Bool) {text : List ℕ} {f : Flags} {r w : Parser} (y : Answer text f (body_of b m f) r w) → may_end Assignment (row_of y.label y.slots) ≡ true
row_of_body false m y = y.row
row_of_body true m y = subst (λ (r : Row). may_end Assignment r ≡ true) (sym (body_row (row_of y.label y.slots) y.row)) refl

-- behind two slots may stand what may stand behind the second one
arrow_inside : (a : Bool) (f : Flags) (s : ℕ) → Inside rule (arrow_made a) (after (at Assignment f)) (second f) end (arrow_slots a f) s
arrow_inside a f s = record { ends = λ p cs vs j ls mid d e. go a p cs vs d e }
  where
    go : (a : Bool) (p : TreeSpan) (cs vs : Slots) {i j : ℕ} {ls mid : Lexemes} → Takes rule (arrow_slots a f) end cs i ls end j mid → Admits (after (at Assignment f)) (tree (record { kind = arrow_function_expression; op = no_op; flags = flag a async_flag; span = p }) cs vs) (here mid) → Admits (second f) cs (here mid)
    go false s cs vs (is_seq is_nothing (is_seq (is_left (is_node b)) (is_seq (is_look c) (is_seq (is_lexeme d) (is_left (is_such e g)))))) x = x
    go false s cs vs (is_seq is_nothing (is_seq (is_left (is_node b)) (is_seq (is_look c) (is_seq (is_lexeme d) (is_right (is_seq (is_look l) (is_such e g))))))) x = x
    go false s cs vs (is_seq is_nothing (is_seq (is_right (is_such b m)) (is_seq (is_look c) (is_seq (is_lexeme d) (is_left (is_such e g)))))) x = x
    go false s cs vs (is_seq is_nothing (is_seq (is_right (is_such b m)) (is_seq (is_look c) (is_seq (is_lexeme d) (is_right (is_seq (is_look l) (is_such e g))))))) x = x
    go true s cs vs (is_seq (is_seq (is_lexeme q) (is_look w)) (is_seq (is_left (is_node b)) (is_seq (is_look c) (is_seq (is_lexeme d) (is_left (is_such e g)))))) x = x
    go true s cs vs (is_seq (is_seq (is_lexeme q) (is_look w)) (is_seq (is_left (is_node b)) (is_seq (is_look c) (is_seq (is_lexeme d) (is_right (is_seq (is_look l) (is_such e g))))))) x = x
    go true s cs vs (is_seq (is_seq (is_lexeme q) (is_look w)) (is_seq (is_right (is_such b m)) (is_seq (is_look c) (is_seq (is_lexeme d) (is_left (is_such e g)))))) x = x
    go true s cs vs (is_seq (is_seq (is_lexeme q) (is_look w)) (is_seq (is_right (is_such b m)) (is_seq (is_look c) (is_seq (is_lexeme d) (is_right (is_seq (is_look l) (is_such e g))))))) x = x

-- ---- the word before the head

async_path : {text : List ℕ} {f : Flags} {o l : Parser} → AsyncPassed text f o l → Path text f (plain full) (lead_of true) o nothing l (λ us. us)
async_path x = ended_by (token Async x.at x.kind x.plain refl x.moved) (looks (λ k w e. not w) (λ y l. ap not (newline_here x.moved.at y l ∙ x.on_line)))

lead_then : {text : List ℕ} (a : Bool) {f : Flags} {o l q : Parser} {X : Test} {b c : G} {i : Slots → Slots} → Leads a text f o l → Path text f X b l c q i → Path text f X (lead_of a ▸ b) o c q i
lead_then true d r = then_any (async_path d) ⟶ r
lead_then {text} false {f} {o} {l} {q} {X} {b} {c} {i} d r = subst (λ (v : Parser). Path text f X (nothing ▸ b) v c q i) d (done ⟼ r)

module _ (text : List ℕ) (f : Flags) (o l : Parser) where
  lead_fails : (a : Bool) {X : Test} {b : G} → Leads a text f o l → Fails rule (Lex text) X end b l.prev_token_end → Fails rule (Lex text) X end (lead_of a ▸ b) o.prev_token_end
  lead_fails true d n = then_any (async_path d) ⟶✗ n
  lead_fails false {X} {b} d n = subst (λ (v : Parser). Fails rule (Lex text) X end (nothing ▸ b) v.prev_token_end) d (done ▹✗ n)

  lead_same : (a : Bool) → Leads a text f o l → Same o l
  lead_same true d = d.moved.same
  lead_same false d = subst (λ (v : Parser). Same o v) (sym d) same_itself

  lead_kept : (a : Bool) → Leads a text f o l → l.errors ≡ o.errors
  lead_kept true d = d.moved.kept
  lead_kept false d = ap (λ (z : Parser). z.errors) d

  lead_nodes : (a : Bool) → Leads a text f o l → l.nodes ≡ o.nodes
  lead_nodes true d = d.moved.nodes
  lead_nodes false d = ap (λ (z : Parser). z.nodes) d

  lead_start : (a : Bool) → Leads a text f o l → o.token.span.start ≤ l.token.span.start
  lead_start true d = let g = d.moved.further in let b = d.moved.at.behind in omega arith
  lead_start false d = let e = ap (λ (z : Parser). z.token.span.start) d in omega arith

  abbrev lead_pass : (a : Bool) → Leads a text f o l → Lexemes → Lexemes
  lead_pass true d ls = next d.moved.lexeme ls
  lead_pass false d ls = ls

  -- and what was passed behind it
  led_walk : (a : Bool) (p : Parser) {pass : Lexemes → Lexemes} (d : Leads a text f o l) → Walked text (spot l) (spot p) pass → Walked text (spot o) (spot p) (λ ls. lead_pass a d (pass ls))
  led_walk true p d w = walked_both (walked_one d.moved) w
  led_walk false p d w = walked_from (ap spot d) w

arrow_flags : (a : Bool) → flag a async_flag + flag false generator_flag ≡ flag a async_flag
arrow_flags true = refl
arrow_flags false = refl

-- neither line
no_led : {text : List ℕ} (a : Bool) (f : Flags) {s : ℕ} → NoneOnLine a text f s → NoLed (not a) text f s → Underived text (at Arrow' f) s
no_led {text} true f {s} n m = fails_by (subst (λ (g : G). Fails rule (Lex text) (after (at Arrow' f)) end g s) (sym (both_lines f)) (fails_alt (line_fails f false (none_on_line f false m)) (line_fails f true n)))
no_led {text} false f {s} n m = fails_by (subst (λ (g : G). Fails rule (Lex text) (after (at Arrow' f)) end g s) (sym (both_lines f)) (fails_alt (line_fails f false n) (line_fails f true (none_on_line f true m))))

module _ {text : List ℕ} (a : Bool) {f : Flags} (o : Parser) {l p : Parser} {id : NodeId} (d : Leads a text f o l) (h : Head text f (arrow_head a f) l p id) (y : OnlyLed a text f o.prev_token_end) (k : p.token.kind ≡ Arrow) where
  on_body : (b : Bool) {e : ℕ} → On rule (record { base = widest Assignment; by = λ us. by_second f (tree h.label h.slots us) }) (after (body_of b a f)) end (such (body_of b a f) always) e
  on_body true = record { admits = λ ts vs j ls rest d e. braced ts (here rest) }
    where
      braced : (ts : Slots) (y : Lexeme) → Admits (after (at Body (braced_body a f))) ts y
      braced end y = (refl, refl)
      braced (hole us) y = (refl, refl)
      braced (tree l cs us) y = (refl, refl)
  on_body false = record { admits = λ ts vs j ls rest d e. go ts vs d e }
    where
      go : (ts vs : Slots) {i j : ℕ} {ls rest : Lexemes} → Takes rule (such (at Assignment (arrow_body a f)) always) end ts i ls vs j rest → Admits (record { base = widest Assignment; by = λ us. by_second f (tree h.label h.slots us) }) ts (here rest) → Admits (after (at Assignment (arrow_body a f))) ts (here rest)
      go ts end (is_such d c) x = x
      go ts vs (is_such d c) x = absurd (false≢true x.1)

  head_path : Path text f (plain full) (head_of (arrow_head a f)) l nothing p (tree h.label h.slots)
  head_path = record { at = h.at; further = h.further; pass = h.pass; walked = h.walked; verdict = quiet_verdict h.quiet h.read }

  -- the line where `=>` stands on a new one
  late_rule : p.token.is_on_new_line ≡ true → Fails rule (Lex text) (after (at Assignment f)) end (rule (at Assignment f)) o.prev_token_end
  late_rule w = y.arrow ▹✗ weaken_fails_on (no_led a f (lead_fails text f o l a d (then_any head_path ⟶✗ part_fails {X' = plain full} (fails_look (λ k n e. not n) (λ y l z. false≢true (sym (ap not (newline_here h.at y l ∙ w)) ∙ z))) (record { admits = λ ts us vs j k ls mid rest d d' e. (refl, refl) }))) y.other) (same_read (at Assignment f) (at Arrow' f) arrow_passes refl)

  module _ (n : p.token.is_on_new_line ≡ false) {r : Parser} (m : Moved text f p r) (b : Bool) (c : same_kind LCurly r.token.kind ≡ b) where
    body_due : Path text f (second f) (arrow_slots a f) o (such (body_of b a f) always) r (tree h.label h.slots)
    body_due = lead_then a d (then_any head_path ⟶ (pass_over (looks (λ k w e. not w) (λ y l. ap not (newline_here h.at y l ∙ n))) ⟼ ended_by (token Arrow h.at k (plain_sign Arrow h.at k refl refl arrow_plain) refl m) (to_body a m.at b c)))

    body_fails : Underived text (body_of b a f) r.prev_token_end → Underived text (at Assignment f) o.prev_token_end
    body_fails z = fails_by (y.arrow ▹✗ fails_rule {X' = after (at Assignment f)} (λ l cs vs y d. d) (to_line f a y.other ▹✗ fails_node (arrow_inside a f o.prev_token_end) (body_due ⟶✗ weaken_fails_on z (on_body b))))

    body_path : {w : Parser} → At text f o → (x : Answer text f (body_of b a f) r w) → Path text f (after (at Assignment f)) (rule (at Assignment f)) o nothing w (tree (flagged_here arrow_function_expression no_op (flag a async_flag) o w) (tree h.label h.slots (tree x.label x.slots end)))
    body_path s x = y.arrow ⟼ by_symbol_as {X' = after (at Assignment f)} (λ l cs vs y d. d) (to_line f a y.other ⟼ flagged_by s (arrow_inside a f o.prev_token_end) (body_due ⟶ last_called x (on_body b)))

-- whether `=>` stands on a new line was looked at
pub line_at : {text : List ℕ} {f : Flags} {p q : Parser} → At text f p → ChecksLine p q → At text f q
line_at {text} {f} a (inl (e, c)) = subst (At text f) (sym c.is) (beside_errors a (subst IsAt c.is c.at))
line_at {text} {f} a (inr (e, i)) = subst (At text f) (sym i) a

pub line_same : {p q : Parser} → ChecksLine p q → Same p q
line_same {p} {q} (inl (e, c)) = record { follows = keeps_follows c; options = ap (λ (z : Parser). z.options) c.is; ctx = ap (λ (z : Parser). z.ctx) c.is; depth = ap (λ (z : Parser). z.depth) c.is; visits = ap (λ (z : Parser). z.visits) c.is; early = λ h. kept_early c refl h; lies = λ h. subst SpansLie (sym c.is) h }
line_same {p} (inr (e, i)) = subst (λ (z : Parser). Same p z) (sym i) same_itself

pub line_place : {p q : Parser} → ChecksLine p q → q.prev_token_end ≡ p.prev_token_end
line_place (inl (e, c)) = ap (λ (z : Parser). z.prev_token_end) c.is
line_place (inr (e, i)) = ap (λ (z : Parser). z.prev_token_end) i

line_spot : {p q : Parser} → ChecksLine p q → spot q ≡ spot p
line_spot (inl (e, c)) = ap spot c.is
line_spot (inr (e, i)) = ap spot i

pub line_token : {p q : Parser} → ChecksLine p q → q.token ≡ p.token
line_token (inl (e, c)) = ap (λ (z : Parser). z.token) c.is
line_token (inr (e, i)) = ap (λ (z : Parser). z.token) i

line_nodes : {p q : Parser} → ChecksLine p q → q.nodes ≡ p.nodes
line_nodes (inl (e, c)) = ap (λ (z : Parser). z.nodes) c.is
line_nodes (inr (e, i)) = ap (λ (z : Parser). z.nodes) i

module _ {text : List ℕ} (a : Bool) {f : Flags} (o : Parser) {l p q r : Parser} {id : NodeId} (d : Leads a text f o l) (h : Head text f (arrow_head a f) l p id) (y : OnlyLed a text f o.prev_token_end) (k : p.token.kind ≡ Arrow) (c : ChecksLine p q) (m : Moved text f q r) (b : Bool) (i : same_kind LCurly r.token.kind ≡ b) where
  up_to : Same o p
  up_to = same_both (lead_same text f o l a d) h.same

  quietly : Quiet f o p
  quietly = quiet_behind (lead_kept text f o l a d) h.quiet

  -- the body can't be read
  pub arrow_stops : (w : Parser) (e : Stop) → Stops r w e (Underived text (body_of b a f) r.prev_token_end) → Stops o w e (Underived text (at Assignment f) o.prev_token_end)
  arrow_stops w e s = go c m s
    where
      go : {q : Parser} → ChecksLine p q → Moved text f q r → Stops r w e (Underived text (body_of b a f) r.prev_token_end) → Stops o w e (Underived text (at Assignment f) o.prev_token_end)
      go (inl (l, c)) m s = stops_behind w e (same_both up_to (same_both (line_same (inl (l, c))) m.same)) (λ g. quiet_grown quietly (grown_both (kept_one c) (grown_then m.kept g))) (λ z. fails_by (late_rule a o d h y k l)) s
      go (inr (n, j)) m s = stops_behind w e (same_both up_to (same_both (line_same (inr (n, j))) m.same)) (λ g. quiet_grown quietly (grown_then (m.kept ∙ ap (λ (z : Parser). z.errors) j) g)) (λ z. body_fails a o d h y k n (subst (λ (z : Parser). Moved text f z r) j m) b i z) s

  arrow_path : {w : Parser} → At text f o → (x : Answer text f (body_of b a f) r w) → Path text f (after (at Assignment f)) (rule (at Assignment f)) o nothing w (tree (flagged_here arrow_function_expression no_op (flag a async_flag) o w) (tree h.label h.slots (tree x.label x.slots end)))
  arrow_path {w} t x = go c m
    where
      go : {q : Parser} → ChecksLine p q → Moved text f q r → Path text f (after (at Assignment f)) (rule (at Assignment f)) o nothing w (tree (flagged_here arrow_function_expression no_op (flag a async_flag) o w) (tree h.label h.slots (tree x.label x.slots end)))
      go (inr (n, j)) m = body_path a o d h y k n (subst (λ (z : Parser). Moved text f z r) j m) b i t x
      go {q} (inl (n, c)) m = record {
        at = x.at;
        further = let v = lead_start text f o l a d in let j = h.further in let d = line_place (inl (n, c)) in let e = (line_at h.at (inl (n, c))).behind in let g = m.further in let u = m.at.behind in let i = x.further in omega arith;
        pass = λ ls. lead_pass text f o l a d (h.pass (next m.lexeme (x.pass ls)));
        walked = walked_both (led_walk text f o l a p d h.walked) (walked_both (walked_from (line_spot (inl (n, c))) (walked_one m)) x.walked);
        verdict = unclean (quiet_grown quietly (behind (grown_first (kept_one c) m.kept) x.verdict)) (late_rule a o d h y k n);
      }

  pub arrow_answers : {w z : Parser} {body made : NodeId} (s : Span) → At text f o → (x : Numbered text f (body_of b a f) r w body) → s.start ≡ o.token.span.start → s.end ≡ w.prev_token_end → MadeHere (arrow_label a s) (Some id ∷ Some body ∷ []) w z made → Numbered text f (at Assignment f) o z made
  arrow_answers {w} {z} {body} {made} s t y u v n =
      let g : arrow_label a s ≡ flagged_here arrow_function_expression no_op (flag a async_flag) o w = rw (arrow_flags a, u, v) refl in
      let x : MadeHere (flagged_here arrow_function_expression no_op (flag a async_flag) o w) (Some id ∷ Some body ∷ []) w z made = subst (λ (j : Label). MadeHere j (Some id ∷ Some body ∷ []) w z made) g n in
      let e : r.nodes ≡ p.nodes = m.nodes ∙ line_nodes c in
      let j : Holds w.nodes (length p.nodes) (length w.nodes) body.0 y.answer.label y.answer.slots = subst (λ (ns : List Node). Holds w.nodes (length ns) (length w.nodes) body.0 y.answer.label y.answer.slots) e y.holds in
      let i : Keeps p.nodes w.nodes = subst (λ (ns : List Node). Keeps ns w.nodes) e y.keeps in
      let hs : Holds p.nodes (length o.nodes) (length p.nodes) id.0 h.label h.slots = subst (λ (ns : List Node). Holds p.nodes (length ns) (length p.nodes) id.0 h.label h.slots) (lead_nodes text f o l a d) h.holds in
      let ks : Keeps o.nodes p.nodes = subst (λ (ns : List Node). Keeps ns p.nodes) (lead_nodes text f o l a d) h.keeps in
      by_path (arrow_path t y.answer) (same_both up_to (same_both (line_same c) (same_both m.same y.answer.same))) x.stays (λ j w. behind_body b a y.answer j w) (row_of_body b a y.answer) (two_held x hs ks j i) (Keeps-trans ks (Keeps-trans i (Keeps-made x.made))) refl (one_lies x)

-- ---- and behind what was no head

line_grown : {p q : Parser} {ds : List Diagnostic} → ChecksLine p q → Grown ds p.errors → Grown ds q.errors
line_grown (inl (e, c)) g = grown_both g (kept_one c)
line_grown (inr (e, i)) g = grown_first g (ap (λ (z : Parser). z.errors) i)

module _ {text : List ℕ} (a : Bool) {f : Flags} {o p : Parser} {id : NodeId} where
  pub before_at : BeforeArrow a text f o p id → At text f p
  before_at (led_head l d h y) = h.at
  before_at (told_led x n) = x.at

  pub before_same : BeforeArrow a text f o p id → Same o p
  before_same (led_head l d h y) = same_both (lead_same text f o l a d) h.same
  before_same (told_led x n) = x.same

  pub before_further : BeforeArrow a text f o p id → o.token.span.start < p.prev_token_end
  before_further (led_head l d h y) = let b = lead_start text f o l a d in let c = h.further in omega arith
  before_further (told_led x n) = x.further

pub before_stops : {text : List ℕ} (a : Bool) {f : Flags} {o p q r : Parser} {id : NodeId} → BeforeArrow a text f o p id → p.token.kind ≡ Arrow → ChecksLine p q → Moved text f q r → (b : Bool) → same_kind LCurly r.token.kind ≡ b → (w : Parser) (e : Stop) → Stops r w e (Underived text (body_of b a f) r.prev_token_end) → Stops o w e (Underived text (at Assignment f) o.prev_token_end)
before_stops a {f} {o} (led_head l d h y) k c m b i w e s = arrow_stops a o d h y k c m b i w e s
before_stops a (told_led x n) k c m b i w e s = stops_behind w e (same_both x.same (same_both (line_same c) m.same)) (λ g. grown_both (grown_first (line_grown c x.grown) m.kept) g) (λ z. n) s

pub before_answers : {text : List ℕ} (a : Bool) {f : Flags} {o p q r w z : Parser} {id body made : NodeId} → BeforeArrow a text f o p id → p.token.kind ≡ Arrow → ChecksLine p q → Moved text f q r → (b : Bool) → same_kind LCurly r.token.kind ≡ b → (s : Span) → At text f o → Numbered text f (body_of b a f) r w body → s.start ≡ o.token.span.start → s.end ≡ w.prev_token_end → MadeHere (arrow_label a s) (Some id ∷ Some body ∷ []) w z made → Numbered text f (at Assignment f) o z made
before_answers a {f} {o} (led_head l d h j) k c m b i s t y u v n = arrow_answers a o d h j k c m b i s t y u v n
before_answers {text} a {f} {o} {p} {q} {r} {w} {z} {id} {body} {made} (told_led v none) k c m b t s j y u d n =
    let l : arrow_label a s ≡ flagged_here arrow_function_expression no_op (flag a async_flag) o w = rw (arrow_flags a, u, d) refl in
    let x : MadeHere (flagged_here arrow_function_expression no_op (flag a async_flag) o w) (Some id ∷ Some body ∷ []) w z made = subst (λ (j : Label). MadeHere j (Some id ∷ Some body ∷ []) w z made) l n in
    let e : r.nodes ≡ p.nodes = m.nodes ∙ line_nodes c in
    let g : Holds w.nodes (length p.nodes) (length w.nodes) body.0 y.answer.label y.answer.slots = subst (λ (ns : List Node). Holds w.nodes (length ns) (length w.nodes) body.0 y.answer.label y.answer.slots) e y.holds in
    let i : Keeps p.nodes w.nodes = subst (λ (ns : List Node). Keeps ns w.nodes) e y.keeps in
    let path : Path text f (after (at Assignment f)) (such (at Assignment f) always) o nothing w (tree (flagged_here arrow_function_expression no_op (flag a async_flag) o w) (tree v.label v.slots (tree y.answer.label y.answer.slots end))) = record {
      at = y.answer.at;
      further = let u = v.further in let d = line_place c in let e = (line_at v.at c).behind in let g = m.further in let i = m.at.behind in let j = y.answer.further in omega arith;
      pass = λ ls. v.pass (next m.lexeme (y.answer.pass ls));
      walked = walked_both v.walked (walked_both (walked_from (line_spot c) (walked_one m)) y.answer.walked);
      verdict = unclean (behind (grown_first (line_grown c v.grown) m.kept) y.answer.verdict) none;
    } in
    by_such path (same_both v.same (same_both (line_same c) (same_both m.same y.answer.same))) x.stays (λ j w. behind_body b a y.answer j w) (row_of_body b a y.answer) (two_held x v.holds v.keeps g i) (Keeps-trans v.keeps (Keeps-trans i (Keeps-made x.made))) refl (one_lies x)

-- it is told of the token that stands here
pub late_told : {p q : Parser} {d : Diagnostic} (s : Span) → d ≡ unrelated_at LineterminatorBeforeArrow s → s ≡ p.token.span → Keeps_one d p q → Keeps_one (late_arrow p.token.span) p q
late_told {p} {q} s e h k = subst (λ (v : Diagnostic). Keeps_one v p q) (e ∙ ap late_arrow h) k

-- what is told of `=>` on a new line
pub late_marked : {text : List ℕ} {f : Flags} {p : Parser} (s : Span) → At text f p → p.token.kind ≡ Arrow → p.token.is_on_new_line ≡ true → s ≡ p.token.span → Mark (goal p) p.text (late_arrow s)
late_marked {text} {f} {p} s a k w e =
    let y = found a (uncut a (ap (same_kind RAngle) k)) (ap is_last k) in
    let m : Mark (goal p) p.text (late_arrow p.token.span) = record {
      ordered = a.at.lies.ordered;
      within = a.at.lies.ends_whole.0;
      begins_between = a.at.lies.starts_whole;
      ends_between = a.at.lies.ends_whole;
      stands = (record { lexeme = y.0; of_text = a_lexeme a.at.reached (subst (λ (t : List ℕ). NextLexeme all_faults t p.prev_token_end y.0) (sym a.text_is) y.1); is = (sym y.2.start, sym y.2.end); passes = rw (sym y.2.kind ∙ k, sym y.2.newline ∙ w) refl }, (refl, refl));
    } in
    subst (λ (v : Span). Mark (goal p) p.text (late_arrow v)) (sym e) m
