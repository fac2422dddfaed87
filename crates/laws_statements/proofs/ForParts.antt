-- The first part of the head of a `for` (ECMA-262, 14.7.4, 14.7.5).
use Rattle.std.proofs.Common.{ℕ, ◌≡◌, ◌⊎◌, inl, inr, max, List, [], ◌∷◌, length, Option, Some, None, Bool, true, false, not, cond, ◌||◌, IsTrue, refl, sym, ap, subst, arith, ◌∙◌}
use Rattle.std.proofs.lemmas.Bool.{false≢true, and_from, and_parts}
use Rattle.js_base.specs.declared.diagnostic.Diagnostic.{Diagnostic}
use Rattle.js_base.specs.declared.diagnostic.DiagnosticKind.TheVariants.{ForLoopAsyncOf, ForLoopLetReservedWord}
use Rattle.parse_declarations.proofs.SpansMarked.{span_marked}
use Rattle.parse_declarations.proofs.HeadDeclarators.{through_not}
use Rattle.laws_shared.specs.Told.{unrelated_at}
use Rattle.js_base.specs.Contexts.{has_flag, in_flag}
use Rattle.js_base.specs.declared.kind.Kind.{Kind}
use Rattle.js_base.specs.declared.kind.Kind.TheVariants as kind
use Rattle.js_base.specs.Kinds.{same_kind, one_of_kinds}
use Rattle.js_base.proofs.KindLemmas.{kind_of_same}
use Rattle.js_grammar.specs.Trees.{Label, Slots, end, tree, variable_declaration, variable_declarator}
use Rattle.js_grammar.specs.Grammar.{Lexeme, Lexemes, here, seen, is, such, empty_slot, nothing, commas, Takes, is_seq, is_lexeme, is_look, is_ahead, is_left, is_right, is_nothing, is_node, ◌▸◌}
use Rattle.js_grammar.specs.Lexed.{Lexes}
use Rattle.js_grammar.specs.Parsing.{Test, plain, full, always, Admits, Fails}
use Rattle.js_grammar.specs.Productions.{G, Flags, at, branches, minus_in, mk, not_then, op, other, tok, word_or, Binding, Expression, ForInit, Target}
use Rattle.js_grammar.specs.Productions.{sym as symbol}
use Rattle.js_grammar.specs.Table.{rule, rule_of, declarator, declarators, for_binding, words_of_declarations}
use Rattle.js_grammar.specs.FirstSets.{first}
use Rattle.js_grammar.proofs.First.{starts}
use Rattle.js_grammar.proofs.FirstClaims.{firsts}
use Rattle.js_grammar.proofs.FirstRules.{fails_here}
use Rattle.js_grammar.proofs.Looks.{covers, covered}
use Rattle.js_grammar.proofs.Calculus.{On, ◌▹◌, ◌▹✗◌, done, ends, here_at, left, looks, part_by, part_fails, fails_alt, fails_look, fails_node, fails_rule, inside_full, weaken_fails_on, weaken_on}
use Rattle.laws_shared.specs.js_tree.declared.op.DeclarationKind.{DeclarationKind}
use Rattle.laws_shared.specs.js_tree.declared.id.NodeId.{NodeId}
use Rattle.laws_shared.specs.js_tree.Holding.{Holds, Keeps}
use Rattle.laws_shared.specs.js_tree.Nodes.{Node}
use Rattle.laws_shared.proofs.js_tree.HoldingLemmas.{HoldsAll-one}
use Rattle.laws_shared.specs.js_lex.Reading.{is_right_angle}
use Rattle.laws_shared.specs.js_cursor.Parsers.{Parser}
use Rattle.laws_shared.specs.js_cursor.declared.stop.Stop.{Stop}
use Rattle.laws_shared.specs.Answers.{Answer, Grown, Numbered, Stops, Stretch, Underived, Verdict}
use Rattle.laws_shared.specs.Lexemes.{Lex, other_goals, is_read_kind}
use Rattle.laws_shared.specs.Stands.{StandsHere}
use Rattle.laws_shared.specs.States.{At}
use Rattle.laws_operators.specs.parse_targets.Taken.{NoTargetFrom, goes_through}
use Rattle.parse_declarations.specs.HeadDeclarators.{ThroughHere}
use Rattle.laws_statements.specs.declared.forms.Ending.{Ending}
use Rattle.laws_statements.specs.declared.forms.Ending.TheVariants as ending
use Rattle.laws_statements.specs.ForHeads.{FirstTaken, NoFirst, NoFirstPart, end_kind, first_part}
use Rattle.laws_statements.specs.ForParts.{BeginsHead, ChecksAsync, ChecksLet, FindsHead, HeadExpressionRead, HeadTargetTaken, IsAsyncAlone, NoneBegins, TakesHeadTarget, TakesPartWithoutIn}
use Rattle.laws_statements.specs.LetStatements.{behind_let, LetIsName}
use Rattle.laws_shared.proofs.Ahead.{pass_over}
use Rattle.laws_shared.proofs.Moving.{stops_so}
use Rattle.laws_shared.proofs.Paths.{Path, ◌⟼◌, by_symbol_as, last_called}
use Rattle.laws_shared.proofs.Signs.{stands_not, NoneIs, none_seen}
use Rattle.laws_shared.proofs.Verdicts.{either_way, verdict_of}
use Rattle.laws_shared.proofs.Verdicts.{after as grown_behind}
use Rattle.laws_statements.proofs.CompoundStatements.{no_token}
use Rattle.std.specs.Prelude.{IsCharBoundary, Result, Ok, Err}
use Rattle.js_base.specs.declared.span.Span.{Span}
use Rattle.js_base.specs.declared.token.Token.{Token}
use Rattle.js_grammar.specs.Grammar.{last, next, is_such}
use Rattle.js_grammar.specs.Follow.{after}
use Rattle.js_grammar.specs.Marks.{Mark}
use Rattle.laws_shared.specs.js_cursor.Moves.{GivesUp, is_last}
use Rattle.laws_shared.specs.js_cursor.Moves.{KeepsDiagnostic}
use Rattle.laws_shared.specs.js_cursor.Places.{IsAt, goal}
use Rattle.laws_shared.specs.Answers.{unclean}
use Rattle.laws_shared.specs.Classes.{EndsParse, IsEarly}
use Rattle.laws_shared.specs.Lexemes.{spot}
use Rattle.laws_shared.proofs.Giving.{kept_one}
use Rattle.laws_shared.proofs.Here.{found, uncut}
use Rattle.laws_shared.proofs.Moving.{same_both}
use Rattle.laws_shared.proofs.Paths.{read_of, walked_to}
use Rattle.laws_shared.proofs.Signs.{none_kept}
use Rattle.laws_shared.proofs.Told.{told_at, told_same}
use Rattle.laws_shared.proofs.Verdicts.{grown_both}
use Rattle.laws_shared.proofs.NameKinds.{name_test}
use Rattle.laws_operators.specs.parse_targets.Taken.{LiteralRead, TakesTarget, no_target_at}
use Rattle.laws_operators.specs.parse_targets.Targets.{IsTarget, is_literal, target_of}
use Rattle.laws_operators.proofs.parse_targets.ArraysConverted.{signs}
use Rattle.laws_operators.proofs.parse_targets.Covers.{lexed_there, underived_there}
use Rattle.laws_operators.proofs.parse_targets.HeadTargets.{before_these, goes_behind, literal_none, literal_path, none_before, simple_none, simple_path}
use Rattle.laws_operators.proofs.parse_targets.Refused.{refused}
use Rattle.laws_operators.specs.HeadOperands.{HeadOperand, NoTargetPart, OperandOutcome, no_target, operand}
use Rattle.laws_operators.proofs.HeadOperands.{seen_part, target_part}
use Rattle.laws_shared.specs.js_cursor.declared.stop.Stop.TheVariants.{Fatal, NoMemory}
use Rattle.laws_statements.proofs.ForHeads.{last_between, no_empty, no_first_part, on_semicolon}
use Rattle.laws_statements.proofs.Strings.{name_target}
use Rattle.laws_statements.proofs.WordLookaheads.{IsWord, Leads, async_word, at_once, ends_at, followed, is_word, leads_to, let_word, no_word, not_followed, stands_word, ◌⇒◌, ◌⇒✗◌}

-- ---- whatever is read before a lexeme that doesn't stand there

pub stretch_not : {text : List ℕ} {g : G} {s s' : ℕ} {h : Slots → Slots} {pass : Lexemes → Lexemes} (k : Kind) → Stretch text (plain (is k)) g s nothing s' h pass → NoneIs text s' k → Fails rule (Lex text) (plain (is k)) end g s
stretch_not {text} {g} {s} {s'} k z n = record { no = λ ts vs j ls rest l d e. go ts vs j ls rest l d e }
  where
    go : (ts vs : Slots) (j : ℕ) (ls rest : Lexemes) → Lexes (Lex text) s ls → Takes rule g end ts s ls vs j rest → Admits (plain (is k)) ts (here rest) → ⊥
    go ts vs j ls rest l d e =
        let y = z.goes.only ts vs j ls rest l d e in
        none_seen n (here rest) (here_at (Lex text) rest (subst (λ (v : Lexemes). Lexes (Lex text) s' v) (ends y.4).2 y.3)) e.0

ending_angle : (e : Ending) → (is_right_angle (end_kind e) || one_of_kinds other_goals (end_kind e)) ≡ false
ending_angle ending.Semicolon = refl
ending_angle ending.In = refl
ending_angle ending.Of = refl

-- of what ends where another lexeme stands
pub verdict_not : {text : List ℕ} {f : Flags} {W : Type 0} {g : G} {s : ℕ} {q : Parser} {es ds : List Diagnostic} {h : Slots → Slots} {pass : Lexemes → Lexemes} (e : Ending) → Verdict W es ds (Stretch text (plain (is (end_kind e))) g s nothing q.prev_token_end h pass) (Fails rule (Lex text) (plain (is (end_kind e))) end g s) → At text f q → StandsHere q (end_kind e) false → Fails rule (Lex text) (plain (is (end_kind e))) end g s
verdict_not e v a n = either_way v (λ z. stretch_not (end_kind e) z (stands_not a (ending_angle e) n)) (λ z. z)

pub path_not : {text : List ℕ} {f f' : Flags} {g : G} {p q : Parser} {h : Slots → Slots} (e : Ending) → Path text f (plain (is (end_kind e))) g p nothing q h → At text f' q → StandsHere q (end_kind e) false → Fails rule (Lex text) (plain (is (end_kind e))) end g p.prev_token_end
path_not e y a n = verdict_not e y.verdict a n

pub look_in : (y : Lexeme) → IsTrue (seen (is kind.In) y) → IsTrue (seen goes_through y)
look_in y q = let z = and_parts (same_kind kind.In y.kind) (not y.escaped) q in and_from (one_of_kinds (kind.In ∷ kind.Of ∷ []) y.kind) (not y.escaped) (subst (λ (k : Kind). one_of_kinds (kind.In ∷ kind.Of ∷ []) k ≡ true) (kind_of_same kind.In y.kind z.0) refl) z.1

look_of : (y : Lexeme) → IsTrue (seen (is kind.Of) y) → IsTrue (seen goes_through y)
look_of y q = let z = and_parts (same_kind kind.Of y.kind) (not y.escaped) q in and_from (one_of_kinds (kind.In ∷ kind.Of ∷ []) y.kind) (not y.escaped) (subst (λ (k : Kind). one_of_kinds (kind.In ∷ kind.Of ∷ []) k ≡ true) (kind_of_same kind.Of y.kind z.0) refl) z.1

in_or_of : (k : Kind) → one_of_kinds (kind.In ∷ kind.Of ∷ []) k ≡ true → (k ≡ kind.In) ⊎ (k ≡ kind.Of)
in_or_of k h = by (same_kind kind.In k) refl h
  where
    last : (b : Bool) → same_kind kind.Of k ≡ b → (b || false) ≡ true → (k ≡ kind.In) ⊎ (k ≡ kind.Of)
    last true e h = inr (sym (kind_of_same kind.Of k e))
    last false e h = absurd (false≢true h)

    by : (b : Bool) → same_kind kind.In k ≡ b → (b || (same_kind kind.Of k || false)) ≡ true → (k ≡ kind.In) ⊎ (k ≡ kind.Of)
    by true e h = inl (sym (kind_of_same kind.In k e))
    by false e h = last (same_kind kind.Of k) refl h

pub through_at : (q r : Parser) → r.token ≡ q.token → ThroughHere q true → ThroughHere r true
through_at q r e (inl h) = inl (ap (λ (z : Token). z.kind) e ∙ h.0, ap (λ (z : Token). z.escaped) e ∙ h.1)
through_at q r e (inr h) = inr (ap (λ (z : Token). z.kind) e ∙ h.0, ap (λ (z : Token). z.escaped) e ∙ h.1)

-- ---- where no declaration begins

-- without In the flags are the same without it
pub without : {f : Flags} → f.in_ ≡ false → minus_in f ≡ f
without {f} i = λ j. record f { in_ = sym i j }

begins_list : (f : Flags) → covers (starts first (commas false (declarator false f)) full) (λ k w e. behind_let true k) ≡ true
unfolding covers
begins_list f = refl

begins_bound : (f : Flags) → covers (starts first (mk variable_declarator (symbol Binding f ▸ empty_slot)) full) (λ k w e. behind_let true k) ≡ true
unfolding covers
begins_bound f = refl

goes_on_let : covers (word_or (kind.LBrack ∷ kind.LCurly ∷ [])) (λ k w e. behind_let true k) ≡ true
unfolding covers
goes_on_let = refl

-- where `async` stands behind the place, no `of` stands behind it
abbrev NoAsyncOf : List ℕ → ℕ → Type 0
NoAsyncOf text s = (y z : Lexeme) → Lex text s y → IsTrue (seen (is kind.Async) y) → Lex text y.to z → IsTrue (seen (is kind.Of) z) → ⊥

-- No line with `of`, where neither a target with it nor a declaration is derived: its lookaheads pass nothing.
no_of_part : {text : List ℕ} {f : Flags} {X : Test} {s : ℕ} (is_await : Bool) → Fails rule (Lex text) X end (symbol Target f ▸ tok kind.Of) s → Fails rule (Lex text) (plain full) end (for_binding f) s → Fails rule (Lex text) X end (first_part is_await ending.Of f ▸ tok kind.Of) s
no_of_part {text} {f} {X} {s} is_await n m = record { no = λ ts vs k ls rest l d e. go is_await l d e }
  where
    go : (b : Bool) {ts vs : Slots} {k : ℕ} {ls rest : Lexemes} → Lexes (Lex text) s ls → Takes rule (first_part b ending.Of f ▸ tok kind.Of) end ts s ls vs k rest → Admits X ts (here rest) → ⊥
    go true l (is_seq (is_left (is_seq (is_look q) (is_seq is_nothing d))) c) e = n.no _ _ _ _ _ l (is_seq d c) e
    go false l (is_seq (is_left (is_seq (is_look q) (is_seq (is_left (is_look r)) d))) c) e = n.no _ _ _ _ _ l (is_seq d c) e
    go false l (is_seq (is_left (is_seq (is_look q) (is_seq (is_right (is_ahead (is_seq (is_lexeme r) (is_look o)))) d))) c) e = n.no _ _ _ _ _ l (is_seq d c) e
    go b l (is_seq (is_right d) c) e = m.no _ _ _ _ _ l d (refl, refl)

of_word : IsWord kind.Of
of_word = record { settled = refl; plain = refl; goes_on = refl }

module _ {text : List ℕ} {f : Flags} (is_await : Bool) {p : Parser} (a : At text f p) (n : NoneBegins p) where
  name_here : LetIsName text true p.prev_token_end
  name_here = n.2 text f a

  no_declared : {X : Test} {g : G} (w : Kind) → (is_right_angle w || one_of_kinds other_goals w) ≡ false → StandsHere p w false → Fails rule (Lex text) X end (op variable_declaration w (tok w ▸ g)) p.prev_token_end
  no_declared w r s = fails_node inside_full (no_token a w r s)

  no_let_word : {X : Test} (g : G) → covers (starts first g full) (λ k w e. behind_let true k) ≡ true → Fails rule (Lex text) X end (op variable_declaration kind.Let (tok kind.Let ▸ g)) p.prev_token_end
  no_let_word g b = record { no = λ ts vs k ls rest l d e. go l d }
    where
      go : {ts vs : Slots} {k : ℕ} {ls rest : Lexemes} → Lexes (Lex text) p.prev_token_end ls → Takes rule (op variable_declaration kind.Let (tok kind.Let ▸ g)) end ts p.prev_token_end ls vs k rest → ⊥
      go l (is_node {cs = cs} (is_seq {us = us} (is_lexeme {x = y} {ls = more} c) d)) =
          let none : Fails rule (Lex text) (plain full) end g y.to = fails_here firsts {X = plain full} (λ z m h. false≢true (sym (name_here y z l.0 c m) ∙ covered (starts first g full) (λ k w e. behind_let true k) b z.kind z.newline z.escaped h)) in
          none.no us end _ more _ l.1 d (refl, refl)

  no_declarators : {X : Test} → Fails rule (Lex text) X end (branches words_of_declarations (λ w. op variable_declaration w (declarators w (minus_in f)))) p.prev_token_end
  no_declarators = fails_alt (no_declared kind.Var refl n.0) (fails_alt (no_let_word (commas false (declarator false (minus_in f))) (begins_list (minus_in f))) (no_declared kind.Const refl n.1))

  no_binding : {X : Test} → Fails rule (Lex text) X end (for_binding f) p.prev_token_end
  no_binding = fails_alt (no_declared kind.Var refl n.0) (fails_alt (no_let_word (mk variable_declarator (symbol Binding f ▸ empty_slot)) (begins_bound f)) (no_declared kind.Const refl n.1))

  -- no lexeme behind `let` makes it a declaration
  let_passes : {X : Test} {g : G} → Leads text X (not_then (is kind.Let) (word_or (kind.LBrack ∷ kind.LCurly ∷ [])) ▸ g) p.prev_token_end g
  let_passes = not_followed a let_word (word_or (kind.LBrack ∷ kind.LCurly ∷ [])) (λ y z l q m h. false≢true (sym (name_here y z l q m) ∙ covered (word_or (kind.LBrack ∷ kind.LCurly ∷ [])) (λ k w e. behind_let true k) goes_on_let z.kind z.newline z.escaped h))

  -- before a semicolon an Expression
  init_leads : {X : Test} → Leads text X (rule (at ForInit f)) p.prev_token_end (symbol Expression (minus_in f))
  unfolding rule rule_of
  init_leads = at_once (left no_declarators) ⇒ let_passes

  -- before `in` a target
  in_leads : {X : Test} → Leads text X (first_part is_await ending.In f) p.prev_token_end (symbol Target f)
  in_leads = at_once (left (fails_alt no_binding (no_declared kind.Var refl n.0))) ⇒ let_passes

  not_let : StandsHere p kind.Let false → (y : Lexeme) → Lex text p.prev_token_end y → IsTrue (seen (other (is kind.Let)) y)
  not_let s y l = by (seen (is kind.Let) y) refl
    where
      by : (b : Bool) → seen (is kind.Let) y ≡ b → not (seen (is kind.Let) y) ≡ true
      by true e = absurd (no_word a let_word s y l e)
      by false e = ap not e

  async_passes : (b : Bool) → (b ≡ false → NoAsyncOf text p.prev_token_end) → {X : Test} {g : G} → Leads text X (cond b nothing (not_then (is kind.Async) (is kind.Of)) ▸ g) p.prev_token_end g
  async_passes true m = at_once done
  async_passes false m = not_followed a async_word (is kind.Of) (m refl)

  -- before `of` one that doesn't begin with `let`, and isn't `async` alone
  of_leads : {X : Test} → StandsHere p kind.Let false → (is_await ≡ false → NoAsyncOf text p.prev_token_end) → Leads text X (first_part is_await ending.Of f) p.prev_token_end (symbol Target f)
  of_leads s m = at_once (left no_binding ▹ pass_over (looks (other (is kind.Let)) (not_let s))) ⇒ async_passes is_await m

  no_of_let : {X : Test} → StandsHere p kind.Let true → Fails rule (Lex text) X end (first_part is_await ending.Of f) p.prev_token_end
  no_of_let s = fails_alt (part_fails {X' = plain full} (fails_look (other (is kind.Let)) (λ y l q. false≢true (sym (ap not (is_word a let_word s y l)) ∙ q))) (record { admits = λ ts us vs j k ls mid rest d d' e. (refl, refl) })) no_binding

  no_of_async : {X : Test} → is_await ≡ false → StandsHere p kind.Async true → ((z : Lexeme) → Lex text p.token.span.end z → IsTrue (seen (is kind.Of) z)) → Fails rule (Lex text) X end (first_part is_await ending.Of f) p.prev_token_end
  no_of_async {X} e s o = subst (λ (b : Bool). Fails rule (Lex text) X end (first_part b ending.Of f) p.prev_token_end) (sym e) (fails_alt (pass_over (looks (other (is kind.Let)) (not_let (λ k i. let z : kind.Async ≡ kind.Let = sym s.0 ∙ k in cc))) ▹✗ followed a async_word (is kind.Of) s o) no_binding)

  -- where no target is derived before these
  through : (e : Ending) → (e ≡ ending.Semicolon → ⊥) → NoTargetPart text f p.prev_token_end → Fails rule (Lex text) (plain (other (λ k w e. same_kind kind.Arrow k))) end (symbol Target f ▸ tok (end_kind e)) p.prev_token_end
  through e m z = record { no = λ ts vs k ls rest l d h. go e m ts vs k ls rest l d h }
    where
      go : (e : Ending) → (e ≡ ending.Semicolon → ⊥) → (ts vs : Slots) (k : ℕ) (ls rest : Lexemes) → Lexes (Lex text) p.prev_token_end ls → Takes rule (symbol Target f ▸ tok (end_kind e)) end ts p.prev_token_end ls vs k rest → Admits (plain (other (λ k w e. same_kind kind.Arrow k))) ts (here rest) → ⊥
      go ending.Semicolon m ts vs k ls rest l d h = absurd (m refl)
      go ending.In m ts vs k ls rest l (is_seq {mid = mid} d (is_lexeme q)) h = z.no ts vs k ls rest l (is_seq d (is_lexeme (look_in (here mid) q))) h
      go ending.Of m ts vs k ls rest l (is_seq {mid = mid} d (is_lexeme q)) h = z.no ts vs k ls rest l (is_seq d (is_lexeme (look_of (here mid) q))) h

  pub no_target_part : (e : Ending) → (e ≡ ending.Semicolon → ⊥) → NoTargetPart text f p.prev_token_end → NoFirstPart text is_await e f p.prev_token_end
  no_target_part ending.Semicolon m z = absurd (m refl)
  no_target_part ending.In m z = part_by (in_leads {X = plain (is kind.In)}).goes (last_between kind.In _ (first_part is_await ending.In f) p.prev_token_end) ▹✗ through ending.In m z
  no_target_part ending.Of m z = no_of_part is_await (through ending.Of m z) no_binding

  -- ---- an expression
  module _ (i : f.in_ ≡ false) (o : p.token.kind ≡ kind.Semicolon → ⊥) where
    to_init : {q : Parser} (x : Answer text f (at Expression f) p q) → Path text f (plain (is kind.Semicolon)) (symbol Expression (minus_in f)) p nothing q (tree x.label x.slots)
    to_init {q} x = subst (λ (g : Flags). Path text f (plain (is kind.Semicolon)) (symbol Expression g) p nothing q (tree x.label x.slots)) (sym (without i)) (last_called x on_semicolon)

    init_path : {q : Parser} (x : Answer text f (at Expression f) p q) → Path text f (plain (is kind.Semicolon)) (first_part is_await ending.Semicolon f) p nothing q (tree x.label x.slots)
    init_path x = left (no_empty a kind.Semicolon (inl refl) o) ⟼ by_symbol_as {X' = plain (is kind.Semicolon)} (λ l cs vs y e. e) (leads_to a init_leads (to_init x))

    no_init : Underived text (at Expression f) p.prev_token_end → NoFirst text is_await ending.Semicolon f p.prev_token_end
    no_init n = fails_alt (fails_rule {X' = plain (is kind.Semicolon)} (λ l cs vs y e. e) (init_leads ⇒✗ subst (λ (g : Flags). Fails rule (Lex text) (plain (is kind.Semicolon)) end (symbol Expression g) p.prev_token_end) (sym (without i)) (weaken_fails_on n on_semicolon))) (no_empty a kind.Semicolon (inl refl) o)

    -- none can be read
    pub nothing_first : Underived text (at Expression f) p.prev_token_end → NoTargetPart text f p.prev_token_end → (e : Ending) → NoFirstPart text is_await e f p.prev_token_end
    nothing_first n z ending.Semicolon = no_first_part f is_await ending.Semicolon (no_init n)
    nothing_first n z ending.In = no_target_part ending.In (λ k. cc) z
    nothing_first n z ending.Of = no_target_part ending.Of (λ k. cc) z

    -- one before neither `in` nor `of`
    pub expression_first : {q : Parser} {id : NodeId} (x : Numbered text f (at Expression f) p q id) → ThroughHere q false → NoTargetPart text f p.prev_token_end → FirstTaken text f is_await p q (Some id)
    expression_first {q} x t z = record {
      at = x.answer.at;
      same = x.answer.same;
      forward = let j = x.answer.further in let k = a.behind in omega arith;
      begins = let j = x.answer.further in let k = x.answer.at.behind in omega arith;
      slots = tree x.answer.label x.answer.slots;
      puts = λ us. refl;
      strips = λ us. refl;
      pass = (init_path x.answer).pass;
      walked = (init_path x.answer).walked;
      read = λ e s. reads e s;
      none = λ e s. fails e s;
      kept = λ ds g. grown_behind x.answer.verdict g;
      held = HoldsAll-one _ x.holds;
      keeps = x.keeps;
    }
      where
        reads : (e : Ending) → StandsHere q (end_kind e) true → Verdict (f.wide ≡ true) p.errors q.errors (Stretch text (plain (is (end_kind e))) (first_part is_await e f) p.prev_token_end nothing q.prev_token_end (tree x.answer.label x.answer.slots) (init_path x.answer).pass) (NoFirstPart text is_await e f p.prev_token_end)
        reads ending.Semicolon s = verdict_of (init_path x.answer).verdict (λ y. y) (λ n. no_first_part f is_await ending.Semicolon n)
        reads ending.In s = absurd (t.0 s.0 s.1)
        reads ending.Of s = absurd (t.1 s.0 s.1)

        fails : (e : Ending) → StandsHere q (end_kind e) false → NoFirstPart text is_await e f p.prev_token_end
        fails ending.Semicolon s = no_first_part f is_await ending.Semicolon (path_not ending.Semicolon (init_path x.answer) x.answer.at s)
        fails ending.In s = no_target_part ending.In (λ k. cc) z
        fails ending.Of s = no_target_part ending.Of (λ k. cc) z

    -- whether it is a target or not
    pub expression_alone : {q : Parser} {id : NodeId} (x : Numbered text f (at Expression f) p q id) → HeadOperand text f p q id → ThroughHere q false → FirstTaken text f is_await p q (Some id)
    expression_alone {q} {id} x y h = expression_first x h (by y)
      where
        by : HeadOperand text f p q id → NoTargetPart text f p.prev_token_end
        by (no_target m z) = seen_part p z
        by (operand y) = target_part (none_before i y.answer (through_not y.answer.at h))

    -- one before `in` or `of` is none before a semicolon
    no_init_through : {q : Parser} {id : NodeId} (x : Numbered text f (at Expression f) p q id) → ThroughHere q true → NoFirst text is_await ending.Semicolon f p.prev_token_end
    no_init_through {q} x h = path_not ending.Semicolon (init_path x.answer) x.answer.at (by h)
      where
        by : ThroughHere q true → StandsHere q kind.Semicolon false
        by (inl h) = λ k e. let w : kind.In ≡ kind.Semicolon = sym h.0 ∙ k in cc
        by (inr h) = λ k e. let w : kind.Of ≡ kind.Semicolon = sym h.0 ∙ k in cc

    pub head_unread : (q : Parser) (x : Stop) → Stops p q x (Underived text (at Expression f) p.prev_token_end) → OperandOutcome text f p q (Err x) → Stops p q x ((e : Ending) → NoFirstPart text is_await e f p.prev_token_end)
    head_unread q Fatal s z = stops_so p q Fatal (λ n e. nothing_first n (seen_part p z) e) s
    head_unread q NoMemory s z = tt

    pub target_unread : {q : Parser} {id : NodeId} (x : Numbered text f (at Expression f) p q id) → ThroughHere q true → (r : Parser) (e : Stop) → Stops p r e (NoTargetPart text f p.prev_token_end) → Stops p r e ((d : Ending) → NoFirstPart text is_await d f p.prev_token_end)
    target_unread {q} x h r e s = stops_so p r e (λ z d. by d z) s
      where
        by : (d : Ending) → NoTargetPart text f p.prev_token_end → NoFirstPart text is_await d f p.prev_token_end
        by ending.Semicolon z = no_first_part f is_await ending.Semicolon (no_init_through x h)
        by ending.In z = no_target_part ending.In (λ k. cc) z
        by ending.Of z = no_target_part ending.Of (λ k. cc) z

    -- one before `in` or `of`, as the target that it is; it doesn't begin with `let` before `of`
    module _ {q r : Parser} {id target : NodeId} (x : Numbered text f (at Expression f) p q id) (t : HeadTargetTaken text f p q r target) where
      target_verdict : (e : Ending) → (e ≡ ending.Semicolon → ⊥) → Verdict (f.wide ≡ true) p.errors r.errors (Stretch text (plain (is (end_kind e))) (symbol Target f) p.prev_token_end nothing r.prev_token_end (tree t.label t.slots) t.path.pass) (Fails rule (Lex text) (plain (is (end_kind e))) end (symbol Target f) p.prev_token_end)
      target_verdict e m = verdict_of t.path.verdict (λ y. record { reach = y.reach; near = y.near; goes = weaken_on y.goes (on_through e m) }) (λ y. weaken_fails_on y (on_through e m))
        where
          on_through : (e : Ending) → (e ≡ ending.Semicolon → ⊥) → On rule (plain (is (end_kind e))) (plain goes_through) end (symbol Target f) p.prev_token_end
          on_through ending.Semicolon m = absurd (m refl)
          on_through ending.In m = record { admits = λ ts vs k ls rest d e. (look_in (here rest) e.0, refl) }
          on_through ending.Of m = record { admits = λ ts vs k ls rest d e. (look_of (here rest) e.0, refl) }

      in_verdict : Verdict (f.wide ≡ true) p.errors r.errors (Stretch text (plain (is kind.In)) (first_part is_await ending.In f) p.prev_token_end nothing r.prev_token_end (tree t.label t.slots) t.path.pass) (NoFirst text is_await ending.In f p.prev_token_end)
      in_verdict = let l = in_leads {X = plain (is kind.In)} in verdict_of (target_verdict ending.In (λ k. cc)) (λ z. record { reach = max l.reach z.reach; near = let i = l.near in let j = z.near in let o = t.path.further in let u = a.behind in omega arith; goes = l.goes ▹ z.goes }) (λ z. l.goes ▹✗ z)

      of_verdict : StandsHere p kind.Let false → (is_await ≡ false → NoAsyncOf text p.prev_token_end) → Verdict (f.wide ≡ true) p.errors r.errors (Stretch text (plain (is kind.Of)) (first_part is_await ending.Of f) p.prev_token_end nothing r.prev_token_end (tree t.label t.slots) t.path.pass) (NoFirst text is_await ending.Of f p.prev_token_end)
      of_verdict s m = let l = of_leads {X = plain (is kind.Of)} s m in verdict_of (target_verdict ending.Of (λ k. cc)) (λ z. record { reach = max l.reach z.reach; near = let i = l.near in let j = z.near in let o = t.path.further in let u = a.behind in omega arith; goes = l.goes ▹ z.goes }) (λ z. l.goes ▹✗ z)

      -- where it is `async` with `of` behind it, it is `async` alone
      async_alone : (y z : Lexeme) → Lex text p.prev_token_end y → IsTrue (seen (is kind.Async) y) → Lex text y.to z → IsTrue (seen (is kind.Of) z) → IsAsyncAlone p.token r
      async_alone y z l q m o = by (stands_word p kind.Async)
        where
          word_passes : IsTrue (seen (name_test f) y)
          word_passes = subst (λ (k : Kind). name_test f k y.newline y.escaped ≡ true) (kind_of_same kind.Async y.kind (and_parts (same_kind kind.Async y.kind) (not y.escaped) q).0) refl

          ends_there : y.to ≡ r.prev_token_end
          ends_there = either_way t.path.verdict
              (λ u. let w = u.goes.only _ end y.to (next y (last z)) (last z) (l, m) (name_target word_passes) (look_of z o, refl) in sym (ends w.4).1)
              (λ u. absurd (u.no _ end y.to (next y (last z)) (last z) (l, m) (name_target word_passes) (look_of z o, refl)))

          by : (b : Bool) × StandsHere p kind.Async b → IsAsyncAlone p.token r
          by (true, h) = (h.0, h.1, sym (ends_at a async_word h y l) ∙ ends_there)
          by (false, h) = absurd (no_word a async_word h y l q)

      no_semicolon : ThroughHere r true → StandsHere r kind.Semicolon true → ⊥
      no_semicolon (inl h) s = let k : kind.In ≡ kind.Semicolon = sym h.0 ∙ s.0 in cc
      no_semicolon (inr h) s = let k : kind.Of ≡ kind.Semicolon = sym h.0 ∙ s.0 in cc

      -- no semicolon stands behind it
      no_init_there : ThroughHere q true → NoFirst text is_await ending.Semicolon f p.prev_token_end
      no_init_there h = no_init_through x h

      no_of : StandsHere r kind.Of false → NoFirstPart text is_await ending.Of f p.prev_token_end
      no_of s = no_of_part is_await (part_fails (verdict_not ending.Of (target_verdict ending.Of (λ k. cc)) t.path.at s) (last_between kind.Of _ (symbol Target f) p.prev_token_end)) no_binding

      target_grown : {ds : List Diagnostic} → Grown r.errors ds → Grown p.errors ds
      target_grown g = grown_behind t.path.verdict g

      pub target_first : ThroughHere q true → ThroughHere r true → (StandsHere p kind.Let true → StandsHere r kind.Of true → ⊥) → (is_await ≡ false → IsAsyncAlone p.token r → StandsHere r kind.Of true → ⊥) → FirstTaken text f is_await p r (Some target)
      target_first hq h n m = record {
        at = t.path.at;
        same = t.same;
        forward = let j = t.path.further in let k = a.behind in omega arith;
        begins = let j = t.path.further in let k = t.path.at.behind in omega arith;
        slots = tree t.label t.slots;
        puts = λ us. refl;
        strips = λ us. refl;
        pass = t.path.pass;
        walked = t.path.walked;
        read = λ e s. verdict_of (reads e s) (λ y. y) (λ n. no_first_part f is_await e n);
        none = λ e s. fails e s;
        kept = λ ds g. target_grown g;
        held = HoldsAll-one target t.holds;
        keeps = t.keeps;
      }
        where
          of_read : (b : Bool) × StandsHere p kind.Let b → StandsHere r kind.Of true → Verdict (f.wide ≡ true) p.errors r.errors (Stretch text (plain (is kind.Of)) (first_part is_await ending.Of f) p.prev_token_end nothing r.prev_token_end (tree t.label t.slots) t.path.pass) (NoFirst text is_await ending.Of f p.prev_token_end)
          of_read (true, l) s = absurd (n l s)
          of_read (false, l) s = of_verdict l (λ e y z i q j o. m e (async_alone y z i q j o) s)

          reads : (e : Ending) → StandsHere r (end_kind e) true → Verdict (f.wide ≡ true) p.errors r.errors (Stretch text (plain (is (end_kind e))) (first_part is_await e f) p.prev_token_end nothing r.prev_token_end (tree t.label t.slots) t.path.pass) (NoFirst text is_await e f p.prev_token_end)
          reads ending.Semicolon s = absurd (no_semicolon h s)
          reads ending.In s = in_verdict
          reads ending.Of s = of_read (stands_word p kind.Let) s

          fails : (e : Ending) → StandsHere r (end_kind e) false → NoFirstPart text is_await e f p.prev_token_end
          fails ending.Semicolon s = no_first_part f is_await ending.Semicolon (no_init_there hq)
          fails ending.In s = no_first_part f is_await ending.In (verdict_not ending.In in_verdict t.path.at s)
          fails ending.Of s = no_of s

      -- one before `of` that may not stand there, which was told
      pub told_first : ThroughHere q true → NoFirst text is_await ending.Of f p.prev_token_end → StandsHere r kind.Of true → {w : Parser} {d : Diagnostic} → KeepsDiagnostic d r w → IsEarly d → FirstTaken text f is_await p w (Some target)
      told_first hq l o {w} {d} u y =
          let nodes : w.nodes ≡ r.nodes = ap (λ (z : Parser). z.nodes) u.is in
          let place : w.prev_token_end ≡ r.prev_token_end = ap (λ (z : Parser). z.prev_token_end) u.is in
          let token : w.token ≡ r.token = ap (λ (z : Parser). z.token) u.is in
          record {
            at = told_at u t.path.at;
            same = same_both t.same (told_same u y);
            forward = let j = t.path.further in let k = a.behind in omega arith;
            begins = let j = t.path.further in let k = (told_at u t.path.at).behind in omega arith;
            slots = tree t.label t.slots;
            puts = λ us. refl;
            strips = λ us. refl;
            pass = t.path.pass;
            walked = walked_to (sym (ap spot u.is)) t.path.walked;
            read = λ e s. verdict_of (reads e (here_in token s)) (λ y. y) (λ n. no_first_part f is_await e n);
            none = λ e s. no_first_part f is_await e (fails e (λ k i. s (ap (λ (z : Token). z.kind) token ∙ k) (ap (λ (z : Token). z.escaped) token ∙ i)));
            kept = λ ds g. target_grown (grown_both (kept_one u) g);
            held = HoldsAll-one target (subst (λ (ns : List Node). Holds ns (length p.nodes) (length ns) target.0 t.label t.slots) (sym nodes) t.holds);
            keeps = subst (λ (ns : List Node). Keeps p.nodes ns) (sym nodes) t.keeps;
          }
        where
          here_in : {k : Kind} → w.token ≡ r.token → StandsHere w k true → StandsHere r k true
          here_in e s = (sym (ap (λ (z : Token). z.kind) e) ∙ s.0, sym (ap (λ (z : Token). z.escaped) e) ∙ s.1)

          reads : (e : Ending) → StandsHere r (end_kind e) true → Verdict (f.wide ≡ true) p.errors w.errors (Stretch text (plain (is (end_kind e))) (first_part is_await e f) p.prev_token_end nothing w.prev_token_end (tree t.label t.slots) t.path.pass) (NoFirst text is_await e f p.prev_token_end)
          reads ending.Semicolon s = absurd (no_semicolon (inr o) s)
          reads ending.In s = absurd (let k : kind.Of ≡ kind.In = sym o.0 ∙ s.0 in cc)
          reads ending.Of s = unclean (grown_behind t.path.verdict (kept_one u)) l

          fails : (e : Ending) → StandsHere r (end_kind e) false → NoFirst text is_await e f p.prev_token_end
          fails ending.Semicolon s = no_init_there hq
          fails ending.In s = verdict_not ending.In in_verdict t.path.at s
          fails ending.Of s = absurd (s o.0 o.1)

      -- whether it was told or not
      pub checked_first : ThroughHere q true → (b : Bool) → StandsHere p kind.Let b → (w : Parser) {v : Parser} {s : Span} {first : Token} → first ≡ p.token → ChecksLet b s r w → ChecksAsync is_await first w v → FirstTaken text f is_await p v (Some target)
      checked_first hq b l w {v} {s} {first} i (inl (e, o, u)) c = by c
        where
          let_here : StandsHere p kind.Let true
          let_here = subst (λ (c : Bool). StandsHere p kind.Let c) e l

          by : ChecksAsync is_await first w v → FirstTaken text f is_await p v (Some target)
          by (inl (m, k, o', u')) = absurd (let z : kind.Let ≡ kind.Async = sym let_here.0 ∙ (ap (λ (t : Token). t.kind) (sym i) ∙ k.0) in cc)
          by (inr (m, j)) = subst (λ (z : Parser). FirstTaken text f is_await p z (Some target)) (sym j) (told_first hq (no_of_let let_here) o u refl)
      checked_first hq b l w {v} {s} {first} i (inr (m, e)) c = by (subst (λ (z : Parser). ChecksAsync is_await first z v) e c)
        where
          by_let : (b : Bool) → StandsHere p kind.Let b → StandsHere p kind.Let true → b ≡ true
          by_let true l h = refl
          by_let false l h = absurd (l h.0 h.1)

          by : ChecksAsync is_await first r v → FirstTaken text f is_await p v (Some target)
          by (inl (j, k, o, u)) =
              let h = subst (λ (t : Token). IsAsyncAlone t r) i k in
              told_first hq (no_of_async j (h.0, h.1) (λ z y. is_word t.path.at of_word o z (subst (λ (c : ℕ). Lex text c z) h.2 y))) o u refl
          by (inr (j, k)) = subst (λ (z : Parser). FirstTaken text f is_await p z (Some target)) (sym k) (target_first hq (through_at q r t.token hq) (λ h o. m (by_let b l h) o) (λ y h o. j y (subst (λ (t : Token). IsAsyncAlone t r) (sym i) h) o))

-- ---- the target that an expression stands for

-- before `in` and `of`
before_path : {text : List ℕ} {f : Flags} {p q : Parser} {h : Slots → Slots} → f.in_ ≡ false → Path text f (signs f) (symbol Target f) p nothing q h → Path text f (plain goes_through) (symbol Target f) p nothing q h
before_path {f = f} {p = p} i y = record {
  at = y.at;
  further = y.further;
  pass = y.pass;
  walked = y.walked;
  verdict = verdict_of y.verdict (λ z. record { reach = z.reach; near = z.near; goes = weaken_on z.goes on }) (λ z. weaken_fails_on z on);
}
  where
    on : On rule (plain goes_through) (signs f) end (symbol Target f) p.prev_token_end
    on = record { admits = λ ts vs k ls rest d e. (goes_behind f i (here rest) e.0, refl) }

-- what is said of the node, whichever tree it stands for
abbrev OfTree : Parser → NodeId → (ℕ → ℕ → Label → Slots → Type 0) → Type 0
OfTree q id P = (lo hi : ℕ) (l : Label) (cs : Slots) → Holds q.nodes lo hi id.0 l cs → P lo hi l cs

module _ {text : List ℕ} {f : Flags} {p q : Parser} {id : NodeId} (a : At text f p) (i : f.in_ ≡ false) (x : Numbered text f (at Expression f) p q id) (o : HeadOperand text f p q id) where
  -- a literal
  module _ (h : OfTree q id (λ lo hi l cs. is_literal l.kind ≡ true)) {start kept : ℕ} (s : start ≡ p.token.span.start) (k : kept ≡ length p.errors) where
    pub literal_taken : {r : Parser} {target : NodeId} → TakesTarget start id kept q r (Ok target) → HeadTargetTaken text f p q r target
    literal_taken {r} {target} t = by o
      where
        by : HeadOperand text f p q id → HeadTargetTaken text f p q r target
        by (no_target n z) = absurd (false≢true (sym (n _ _ _ _ x.holds).0 ∙ h _ _ _ _ x.holds))
        by (operand y) =
            let l = h _ _ _ _ y.holds in
            let w = t text f p a s k y l in
            record { same = w.same; place = w.place; token = w.token; label = w.label; slots = w.slots; path = before_path i (literal_path y.answer l w); holds = w.holds; keeps = w.keeps }

    pub literal_stops : (r : Parser) (e : Stop) → TakesTarget start id kept q r (Err e) → Stops p r e (NoTargetPart text f p.prev_token_end)
    literal_stops r e t = by o
      where
        by : HeadOperand text f p q id → Stops p r e (NoTargetPart text f p.prev_token_end)
        by (no_target n z) = absurd (false≢true (sym (n _ _ _ _ x.holds).0 ∙ h _ _ _ _ x.holds))
        by (operand y) = let l = h _ _ _ _ y.holds in stops_so p r e (λ n. target_part (before_these i (literal_none y.answer l n))) (t text f p a s k y l)

  -- a simple one
  pub simple_taken : {target : NodeId} → OfTree q id (λ lo hi l cs. IsTarget q.nodes lo hi l cs (Some target)) → HeadTargetTaken text f p q q target
  simple_taken {target} t = by o
    where
      by : HeadOperand text f p q id → HeadTargetTaken text f p q q target
      by (no_target n z) = absurd (let w = t _ _ _ _ x.holds in let k : None ≡ Some w.tree = sym (n _ _ _ _ x.holds).1 ∙ w.is in cc)
      by (operand y) = let w = t _ _ _ _ y.holds in record { same = y.answer.same; place = refl; token = refl; label = w.tree.label; slots = w.tree.slots; path = before_path i (simple_path y.answer w.tree w.is); holds = w.holds; keeps = y.keeps }

  -- or none
  module _ (h : OfTree q id (λ lo hi l cs. is_literal l.kind ≡ false)) (e : OfTree q id (λ lo hi l cs. target_of l cs ≡ None)) where
    none_there : NoTargetPart text f p.prev_token_end
    none_there = by o
      where
        by : HeadOperand text f p q id → NoTargetPart text f p.prev_token_end
        by (no_target n z) = seen_part p z
        by (operand y) = target_part (before_these i (simple_none y.answer (h _ _ _ _ y.holds) (e _ _ _ _ y.holds)))

    pub simple_stops : (r : Parser) (s : Stop) → GivesUp EndsParse q r s → Stops p r s (NoTargetPart text f p.prev_token_end)
    simple_stops r s g = refused r s x.answer.at x.answer.same x.answer.verdict g none_there

    -- which has its mark
    pub none_marked : (p.token.kind ≡ kind.Async → ⊥) → ThroughHere q true → (start : ℕ) → start ≡ p.token.span.start → length q.errors ≡ length p.errors → Mark (goal q) q.text (no_target_at start q.prev_token_end)
    none_marked m t start d n = subst (λ (v : List ℕ). Mark (goal q) v (no_target_at start q.prev_token_end)) (sym x.answer.at.text_is) it
      where
        word : (k : Kind) → is_last k ≡ false → is_right_angle k ≡ false → is_read_kind k ≡ true → one_of_kinds (kind.In ∷ kind.Of ∷ []) k ≡ true → StandsHere q k true → (y : Lexeme) × Lex text q.prev_token_end y × IsTrue (seen goes_through y)
        word k l g r m h =
            let z = found x.answer.at (uncut x.answer.at (ap (same_kind kind.RAngle) h.0 ∙ no_sign k g)) (ap is_last h.0 ∙ l) in
            let w : z.0.kind ≡ k = sym z.2.kind ∙ h.0 in
            let e : z.0.escaped ≡ false = sym z.2.escaped ∙ h.1 in
            (z.0, (z.1, read_of z.0 w r), and_from (one_of_kinds (kind.In ∷ kind.Of ∷ []) z.0.kind) (not z.0.escaped) (ap (one_of_kinds (kind.In ∷ kind.Of ∷ [])) w ∙ m) (ap not e))
          where
            no_sign : (k : Kind) → is_right_angle k ≡ false → same_kind kind.RAngle k ≡ false
            no_sign k g = by (same_kind kind.RAngle k) refl
              where
                by : (b : Bool) → same_kind kind.RAngle k ≡ b → same_kind kind.RAngle k ≡ false
                by true e = absurd (false≢true (sym g ∙ ap is_right_angle (sym (kind_of_same kind.RAngle k e))))
                by false e = e

        behind : ThroughHere q true → (y : Lexeme) × Lex text q.prev_token_end y × IsTrue (seen goes_through y)
        behind (inl h) = word kind.In refl refl refl refl h
        behind (inr h) = word kind.Of refl refl refl refl h

        y : Lexeme
        y = (behind t).0

        l : Lex text q.prev_token_end y
        l = (behind t).1

        z : Stretch text (after (at Expression f)) (such (at Expression f) always) p.prev_token_end nothing q.prev_token_end (tree x.answer.label x.answer.slots) x.answer.pass
        z = none_kept x.answer.verdict n

        strong : NoTargetFrom text f p.prev_token_end
        strong = by o
          where
            by : HeadOperand text f p q id → NoTargetFrom text f p.prev_token_end
            by (no_target n (inl k)) = k
            by (no_target n (inr (k, w))) = absurd (m k)
            by (operand u) = before_these i (simple_none u.answer (h _ _ _ _ u.holds) (e _ _ _ _ u.holds))

        it : Mark (goal q) text (no_target_at start q.prev_token_end)
        it = record {
          ordered = let j = x.answer.further in omega arith;
          within = (subst (λ (v : List ℕ). IsCharBoundary v q.prev_token_end) x.answer.at.text_is x.answer.at.at.between).0;
          begins_between = subst (λ (v : ℕ). IsCharBoundary text v) (sym d) (subst (λ (v : List ℕ). IsCharBoundary v p.token.span.start) a.text_is a.at.lies.starts_whole);
          ends_between = subst (λ (v : List ℕ). IsCharBoundary v q.prev_token_end) x.answer.at.text_is x.answer.at.at.between;
          stands = (inr (underived_there x.answer a z y l f Target (record { start = start; end = q.prev_token_end }) d refl (λ u g. strong.no (tree u.label u.slots end) end q.prev_token_end (x.answer.pass (last y)) (last y) (lexed_there x.answer a z y l) (is_such g refl) ((behind t).2, refl))), (refl, refl));
        }

-- as a call needs it
pub literal_read : {b : Bool} {start kept : ℕ} {id : NodeId} {q : Parser} (h : HeadExpressionRead b start id kept q) → OfTree q id (λ lo hi l cs. is_literal l.kind ≡ true) → LiteralRead start id kept q
literal_read {start} {kept} {id} {q} h t = by h.operand
  where
    by : HeadOperand h.text h.flags h.first q id → LiteralRead start id kept q
    by (no_target n z) = absurd (false≢true (sym (n _ _ _ _ h.read.holds).0 ∙ t _ _ _ _ h.read.holds))
    by (operand y) = record { text = h.text; flags = h.flags; first = h.first; begins = h.begins; start_is = h.start_is; kept_is = h.kept_is; read = y; literal = t _ _ _ _ y.holds }

pub literal_outcome : {start kept : ℕ} {id : NodeId} {q : Parser} (w : Parser) (r : Result NodeId Stop) → OfTree q id (λ lo hi l cs. is_literal l.kind ≡ true) → TakesTarget start id kept q w r → TakesHeadTarget start id kept q w r
literal_outcome w (Ok t) h y = λ text f p a i s k x o. literal_taken a i x o h s k y
literal_outcome w (Err e) h y = λ text f p a i s k x o. literal_stops a i x o h s k w e y

-- ---- `let` and `async` before `of`

-- what is told of it has its mark
pub let_marked : {text : List ℕ} {f : Flags} {p q r : Parser} {target : NodeId} → At text f p → StandsHere p kind.Let true → HeadTargetTaken text f p q r target → (s : Span) {d : Diagnostic} → d ≡ unrelated_at ForLoopLetReservedWord s → s.start ≡ p.token.span.start → s.end ≡ r.prev_token_end → Mark (goal r) r.text d
let_marked {p = p} a h t s e c d = span_marked a (λ k. let z : kind.Let ≡ kind.Undetermined = sym h.0 ∙ k in cc) t.path.at t.same t.path.walked t.path.further ForLoopLetReservedWord s e (λ s i j. ((i, j), (refl, refl))) c d

pub async_marked : {text : List ℕ} {f : Flags} {p q r : Parser} {target : NodeId} → At text f p → HeadTargetTaken text f p q r target → (t : Token) → t ≡ p.token → IsAsyncAlone t r → Mark (goal r) r.text (unrelated_at ForLoopAsyncOf t.span)
async_marked {p = p} a h t e i = span_marked a (λ k. let z : kind.Async ≡ kind.Undetermined = sym i.0 ∙ (ap (λ (t : Token). t.kind) e ∙ k) in cc) h.path.at h.same h.path.walked h.path.further ForLoopAsyncOf t.span refl (λ s i j. ((i, j), (refl, refl))) (ap (λ (t : Token). t.span.start) e) i.2

-- behind the check for `let`
pub let_checked : {b : Bool} {s : Span} {p q : Parser} → ChecksLet b s p q → IsAt p → IsAt q
let_checked (inl (e, o, u)) a = u.at
let_checked (inr (n, e)) a = subst (λ (z : Parser). IsAt z) (sym e) a

pub marked_behind : (t : Token) (d : Diagnostic) {b : Bool} {s : Span} {p q : Parser} → ChecksLet b s p q → (IsAsyncAlone t p → Mark (goal p) p.text d) → IsAsyncAlone t q → Mark (goal q) q.text d
marked_behind t d (inl (e, o, u)) m = subst (λ (z : Parser). IsAsyncAlone t z → Mark (goal z) z.text d) (sym u.is) m
marked_behind t d (inr (n, e)) m = subst (λ (z : Parser). IsAsyncAlone t z → Mark (goal z) z.text d) (sym e) m

pub through_uncut : {text : List ℕ} {f : Flags} {q : Parser} → At text f q → ThroughHere q true → q.cut ≡ false
through_uncut a (inl h) = uncut a (ap (same_kind kind.RAngle) h.0)
through_uncut a (inr h) = uncut a (ap (same_kind kind.RAngle) h.0)

pub without_in : {text : List ℕ} {f : Flags} {p : Parser} → At text f p → has_flag in_flag p.ctx ≡ false → f.in_ ≡ false
without_in a h = sym (ap (λ (g : Flags). g.in_) a.flags_are) ∙ h

-- ---- what begins the head

pub found_head : (p q : Parser) (r : Option DeclarationKind) (k : DeclarationKind) → r ≡ Some k → FindsHead p q r → (q ≡ p) × BeginsHead k p
found_head p q r k e h = subst (λ (v : Option DeclarationKind). FindsHead p q v) e h

pub none_in_head : (p q : Parser) (r : Option DeclarationKind) → r ≡ None → FindsHead p q r → (q ≡ p) × NoneBegins p
none_in_head p q r e h = subst (λ (v : Option DeclarationKind). FindsHead p q v) e h

pub part_from : (is_await : Bool) (p q w : Parser) (r : Result NodeId Stop) → q ≡ p → TakesPartWithoutIn is_await q w r → TakesPartWithoutIn is_await p w r
part_from is_await p q w r e h = subst (λ (v : Parser). TakesPartWithoutIn is_await v w r) e h

pub cover_is : (q : Parser) (id : NodeId) (r s : Option NodeId) → r ≡ s → OfTree q id (λ lo hi l cs. IsTarget q.nodes lo hi l cs r) → OfTree q id (λ lo hi l cs. IsTarget q.nodes lo hi l cs s)
cover_is q id r s e h = subst (λ (v : Option NodeId). OfTree q id (λ lo hi l cs. IsTarget q.nodes lo hi l cs v)) e h

pub head_marked : {start kept : ℕ} {id : NodeId} {q : Parser} → HeadExpressionRead false start id kept q → OfTree q id (λ lo hi l cs. is_literal l.kind ≡ false) → OfTree q id (λ lo hi l cs. target_of l cs ≡ None) → ThroughHere q true → length q.errors ≡ kept → Mark (goal q) q.text (no_target_at start q.prev_token_end)
head_marked r h e t n = none_marked r.begins r.no_in r.read r.operand h e (r.begins_with refl) t _ r.start_is (n ∙ r.kept_is)
