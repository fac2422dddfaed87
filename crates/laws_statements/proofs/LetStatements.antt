-- LexicalDeclarations (ECMA-262, 14.3.1): in a list of statements, and as the body of another one, where none may stand.
use Rattle.std.proofs.Common.{ℕ, ◌≡◌, List, [], ◌∷◌, ◌++◌, length, Bool, true, false, not, ◌&&◌, IsTrue, Option, Some, None, refl, sym, ap, subst, arith, ◌∙◌}
use Rattle.std.specs.Prelude.{Result, Ok, Err}
use Rattle.std.proofs.lemmas.Bool.{false≢true, and_from, and_parts}
use Rattle.js_base.specs.declared.diagnostic.Diagnostic.{Diagnostic}
use Rattle.js_base.specs.declared.diagnostic.DiagnosticKind.TheVariants.{LexicalDeclarationSingleStatement}
use Rattle.js_base.specs.declared.span.Span.{Span}
use Rattle.js_base.specs.declared.kind.Kind.{Kind}
use Rattle.js_base.specs.declared.kind.Kind.TheVariants.{Async, Colon, Const, LBrack, LCurly, Let, Undetermined}
use Rattle.js_base.specs.declared.token.Token.{Token}
use Rattle.js_base.specs.Kinds.{same_kind, one_of_kinds}
use Rattle.js_base.proofs.KindLemmas.{kind_of_same}
use Rattle.js_grammar.specs.Conditions.{ends_in_sub}
use Rattle.js_grammar.specs.Trees.{end}
use Rattle.js_grammar.specs.Grammar.{Lexeme, seen, is, ◌▸◌}
use Rattle.js_grammar.specs.Parsing.{Test, plain, full, still, Goes, Fails}
use Rattle.js_grammar.specs.Productions.{G, Flags, Symbol, at, not_then, word_or, ExprStmt, Labeled, Lexical, ListItem, Sub}
use Rattle.js_grammar.specs.Productions.{Statement as AStatement}
use Rattle.js_grammar.specs.Productions.{sym as symbol}
use Rattle.js_grammar.specs.Table.{rule, rule_of}
use Rattle.js_grammar.proofs.Looks.{covers, covered, apart, not_both}
use Rattle.js_grammar.proofs.Calculus.{◌▹◌, ◌▹✗◌, looks, right, fails_alt, fails_node, fails_rule, inside_full}
use Rattle.laws_shared.specs.js_tree.declared.id.NodeId.{NodeId}
use Rattle.laws_shared.specs.js_tree.declared.op.DeclarationKind.{DeclarationKind}
use Rattle.laws_shared.specs.js_tree.declared.op.DeclarationKind.TheVariants as declared
use Rattle.laws_shared.specs.js_tree.Holding.{Holds, Keeps}
use Rattle.laws_shared.specs.js_tree.Labels.{declaration_kind}
use Rattle.laws_shared.specs.js_tree.Nodes.{Node}
use Rattle.laws_shared.specs.js_lex.Reading.{is_right_angle}
use Rattle.laws_shared.specs.js_cursor.Moves.{KeepsDiagnostic, Peeks}
use Rattle.laws_shared.specs.js_cursor.Parsers.{Parser}
use Rattle.laws_shared.specs.js_cursor.declared.stop.Stop.{Stop}
use Rattle.laws_shared.specs.Answers.{unclean}
use Rattle.laws_shared.specs.Classes.{IsEarly}
use Rattle.laws_shared.specs.Lexemes.{Lex, keyword_kind, other_goals, spot}
use Rattle.laws_shared.specs.Stands.{StandsHere}
use Rattle.laws_shared.specs.States.{At}
use Rattle.laws_shared.specs.Statements.{after_statement, no_link, statement_kinds, NoStatement, Statement, StatementOutcome, TakesStatement}
use Rattle.laws_shared.proofs.Ahead.{pass_over}
use Rattle.laws_shared.proofs.Here.{kind_here, unsettled}
use Rattle.laws_shared.proofs.Dead.{lives}
use Rattle.laws_shared.proofs.Giving.{kept_one}
use Rattle.laws_shared.proofs.Moving.{same_both, stops_so}
use Rattle.laws_shared.proofs.Paths.{◌⟼◌, at_kind, by_symbol_as, walked_to}
use Rattle.laws_shared.proofs.Escapes.{keyword_none, read_plain}
use Rattle.laws_shared.specs.Told.{unrelated_at}
use Rattle.laws_shared.proofs.Told.{told_at, told_same}
use Rattle.laws_shared.proofs.Signs.{span_is}
use Rattle.laws_shared.proofs.Verdicts.{after as grown_behind}
use Rattle.parse_declarations.proofs.laws_patterns.Peeks.{peeked_kind, peeked_whole}
use Rattle.laws_statements.specs.DeclarationStatements.{Declaration, ReadsDeclaration, declaration}
use Rattle.laws_statements.specs.LetStatements.{behind_let, BeginsLexical, FindsLexical, LetBegins, LetHere, NoLet, TellsLexical}
use Rattle.laws_statements.proofs.DeclarationStatements.{as_statement, const_alone, const_listed, declaration_read, no_const_body}
use Rattle.laws_statements.proofs.WordLookaheads.{async_word, elsewhere, ends_at, followed, let_word, no_async_here, not_followed, ◌⇒✗◌}
use Rattle.laws_statements.proofs.Statements.{item_left, labels_fail, never_open, no_class, no_expression, no_function, no_function_body, no_symbol, sub_left}
use Rattle.laws_statements.proofs.WordStatements.{unlinked}
use Rattle.js_grammar.specs.Productions.{is_one_of, other, function_on_line}

-- ---- where `let` begins a declaration

-- behind it, no colon
not_colon : (b : Bool) (k : Kind) → behind_let b k ≡ true → same_kind Colon k ≡ true → ⊥
unfolding apart
not_colon true k h c = not_both (λ k w e. behind_let true k) (λ k w e. same_kind Colon k) refl k false false h c
not_colon false k h c = not_both (λ k w e. behind_let false k) (λ k w e. same_kind Colon k) refl k false false h c

-- in a list, what isn't `[` is a word or a brace
or_word : (k : Kind) → behind_let true k ≡ true → same_kind LBrack k ≡ false → (z : Lexeme) → z.kind ≡ k → IsTrue (seen (word_or (LCurly ∷ [])) z)
unfolding covers
or_word k h n z e = covered (λ k w e. behind_let true k && not (same_kind LBrack k)) (word_or (LCurly ∷ [])) refl z.kind z.newline z.escaped (and_from _ _ (ap (behind_let true) e ∙ h) (ap (λ (v : Kind). not (same_kind LBrack v)) e ∙ ap not n))

no_bracketed_word : (z : Lexeme) → same_kind LBrack z.kind ≡ true → IsTrue (seen (word_or (LCurly ∷ [])) z) → ⊥
unfolding apart
no_bracketed_word z e h = not_both (λ k w e. same_kind LBrack k) (word_or (LCurly ∷ [])) refl z.kind z.newline z.escaped e h

module _ {text : List ℕ} {f : Flags} {p : Parser} (a : At text f p) {b : Bool} (h : LetHere b p) where
  kind_behind : (z : Lexeme) → Lex text p.token.span.end z → z.kind ≡ h.kind
  kind_behind = h.behind text f a

  no_async : StandsHere p Async false
  no_async k e = let w : Let ≡ Async = sym h.here.0 ∙ k in cc

  let_label : (X : Test) → Fails rule (Lex text) X end (symbol Labeled f) p.prev_token_end
  let_label X = labels_fail (λ y z rest l i t c. not_colon b z.kind (ap (behind_let b) (kind_behind z (subst (λ (v : ℕ). Lex text v z) (ends_at a let_word h.here y l) i.0)) ∙ h.goes_on) (and_parts (same_kind Colon z.kind) (not z.escaped) c).0)

  let_statement : {X : Test} → Fails rule (Lex text) X end (symbol AStatement f) p.prev_token_end
  unfolding rule rule_of covers
  let_statement = fails_rule {X' = plain full} (λ l cs vs y e. (refl, refl)) (at_kind a Let h.here.0 refl ▹✗ let_label (plain full))

  -- before `[` no expression statement begins so
  let_expression : same_kind LBrack h.kind ≡ true → {X : Test} → Fails rule (Lex text) X end (symbol ExprStmt f) p.prev_token_end
  unfolding rule rule_of apart
  let_expression k = fails_rule {X' = plain full} (λ l cs vs y e. (refl, refl)) (fails_node inside_full (pass_over (looks (other (is_one_of no_expression)) (λ y l. subst (λ (k : Kind). not (one_of_kinds no_expression k && not y.escaped) ≡ true) (sym (kind_here a h.here.0 refl y l)) refl)) ▹✗ (elsewhere a async_word function_on_line no_async ▹✗ followed a let_word (is LBrack) h.here (λ z l. let m = ap (same_kind LBrack) (kind_behind z l) ∙ k in and_from _ _ m (ap not (read_plain z l (sym (kind_of_same LBrack z.kind m)) refl))))))

-- in a list
module _ {text : List ℕ} {f : Flags} {p : Parser} (a : At text f p) (h : LetHere true p) where
  no_expression_item : {X : Test} → Fails rule (Lex text) X end (not_then (is Let) (word_or (LCurly ∷ [])) ▸ symbol ExprStmt f) p.prev_token_end
  no_expression_item = by (same_kind LBrack h.kind) refl
    where
      by : {X : Test} (b : Bool) → same_kind LBrack h.kind ≡ b → Fails rule (Lex text) X end (not_then (is Let) (word_or (LCurly ∷ [])) ▸ symbol ExprStmt f) p.prev_token_end
      by true k = not_followed a let_word (word_or (LCurly ∷ [])) (λ y z l q m t. no_bracketed_word z (ap (same_kind LBrack) (kind_behind a h z (subst (λ (v : ℕ). Lex text v z) (ends_at a let_word h.here y l) m)) ∙ k) t) ⇒✗ let_expression a h k
      by false k = followed a let_word (word_or (LCurly ∷ [])) h.here (λ z l. or_word h.kind h.goes_on k z (kind_behind a h z l))

  no_word_here : one_of_kinds statement_kinds (keyword_kind p.token) ≡ false
  no_word_here = keyword_none p.token statement_kinds (ap (one_of_kinds statement_kinds) h.here.0) refl

  let_listed : {X : Test} → Goes rule (Lex text) X end (rule (at ListItem f)) p.prev_token_end (symbol Lexical f) p.prev_token_end (λ us. us) (still 0)
  let_listed {X} = subst (λ (g : G). Goes rule (Lex text) X end (rule (at ListItem f)) p.prev_token_end g p.prev_token_end (λ us. us) (still 0)) (item_left f) (lives (rule (at ListItem f))) ▹ right (let_statement a h) ▹ right no_expression_item ▹ right (no_function a no_word_here (no_async_here a (no_async a h))) ▹ right (no_class a no_word_here)

  let_alone : {X : Test} → Goes rule (Lex text) X end (rule (at Lexical f)) p.prev_token_end (declaration declared.Let f) p.prev_token_end (λ us. us) (still 0)
  unfolding rule rule_of covers
  let_alone = at_kind a Let h.here.0 refl

-- as a body
no_let_body : {text : List ℕ} {f : Flags} {p : Parser} → At text f p → LetHere false p → NoStatement text (at Sub f) p.prev_token_end
no_let_body {text} {f} {p} a h = no_symbol (subst (λ (g : G). Goes rule (Lex text) (after_statement (at Sub f)) end (rule (at Sub f)) p.prev_token_end g p.prev_token_end (λ us. us) (still 0)) (sub_left f) (lives (rule (at Sub f))) ▹✗ fails_alt (let_statement a h) (fails_alt (let_expression a h h.goes_on) (no_function_body a (keyword_none p.token statement_kinds (ap (one_of_kinds statement_kinds) h.here.0) refl))))

-- ---- of both words

-- what is derived in a list
record Listed (text : List ℕ) (f : Flags) (k : DeclarationKind) (s : ℕ) : Type 0 where
  listed : {X : Test} → Goes rule (Lex text) X end (rule (at ListItem f)) s (symbol Lexical f) s (λ us. us) (still 0)
  alone : {X : Test} → Goes rule (Lex text) X end (rule (at Lexical f)) s (declaration k f) s (λ us. us) (still 0)

lexical_listed : {text : List ℕ} {f : Flags} {p : Parser} (k : DeclarationKind) → At text f p → BeginsLexical true k p → Listed text f k p.prev_token_end
lexical_listed declared.Const a h = record { listed = const_listed a h; alone = const_alone a h }
lexical_listed declared.Let a h = record { listed = let_listed a h; alone = let_alone a h }
lexical_listed declared.Var a h = absurd h

pub lexical_outcome : {text : List ℕ} {f : Flags} {p : Parser} (k : DeclarationKind) → At text f p → BeginsLexical true k p → (w : Parser) (r : Result NodeId Stop) → ReadsDeclaration k p w r → StatementOutcome text f (at ListItem f) p w r
lexical_outcome {text} {f} {p} k a h w (Ok id) x =
    let z = lexical_listed k a h in
    as_statement true (x text f a) (z.listed ⟼ by_symbol_as {X' = plain no_link} (unlinked f true) (z.alone ⟼ declaration_read (x text f a)))
lexical_outcome {text} {f} {p} k a h w (Err e) x =
    let z = lexical_listed k a h in
    stops_so p w e (λ n. no_symbol (z.listed ▹✗ fails_rule {X' = plain no_link} (unlinked f true) (z.alone ▹✗ n))) (x text f a)

pub no_lexical_body : {text : List ℕ} {f : Flags} {p : Parser} (k : DeclarationKind) → At text f p → BeginsLexical false k p → NoStatement text (at Sub f) p.prev_token_end
no_lexical_body declared.Const a h = no_const_body a h
no_lexical_body declared.Let a h = no_let_body a h
no_lexical_body declared.Var a h = absurd h

-- it is told last, from where it begins to where it ends
pub lexical_last : {text : List ℕ} {f : Flags} {p w v : Parser} {k : DeclarationKind} {id : NodeId} (s : Span) → Declaration text f k p w id → KeepsDiagnostic (unrelated_at LexicalDeclarationSingleStatement s) w v → s.start ≡ p.token.span.start → s.end ≡ w.prev_token_end → TellsLexical p v
lexical_last {p = p} {v = v} s x t b e =
    let span : s ≡ record { start = p.token.span.start; end = v.prev_token_end } = span_is s b (e ∙ sym (ap (λ (z : Parser). z.prev_token_end) t.is)) in
    record { before = x.same.follows.later_errors; told = ap (λ (z : Parser). z.errors) t.is ∙ (λ i. x.same.follows.errors i ++ unrelated_at LexicalDeclarationSingleStatement (span i) ∷ []) }

pub lexical_told : {text : List ℕ} {f : Flags} {p w v : Parser} {k : DeclarationKind} {d : Diagnostic} {id : NodeId} → At text f p → BeginsLexical false k p → Declaration text f k p w id → KeepsDiagnostic d w v → IsEarly d → Statement text f (at Sub f) p v id
lexical_told {text} {f} {p} {w} {v} {k} {d} {id} a h x t i =
    let nodes : v.nodes ≡ w.nodes = ap (λ (z : Parser). z.nodes) t.is in
    let place : v.prev_token_end ≡ w.prev_token_end = ap (λ (z : Parser). z.prev_token_end) t.is in
    record {
      at = told_at t x.at;
      same = same_both x.same (told_same t i);
      further = let j = x.further in omega arith;
      label = x.label;
      slots = x.slots;
      closed = never_open x.label x.slots (ap ends_in_sub x.kind_is);
      pass = x.pass;
      walked = walked_to (sym (ap spot t.is)) x.walked;
      verdict = unclean (grown_behind x.verdict (kept_one t)) (no_lexical_body k a h);
      holds = subst (λ (ns : List Node). Holds ns (length p.nodes) (length ns) id.0 x.label x.slots) (sym nodes) x.holds;
      keeps = subst (λ (ns : List Node). Keeps p.nodes ns) (sym nodes) x.keeps;
    }

-- the word that stands here
pub lexical_word : (b : Bool) (k : DeclarationKind) (p : Parser) → BeginsLexical b k p → StandsHere p (declaration_kind k) true
lexical_word b declared.Const p h = h
lexical_word b declared.Let p h = h.here
lexical_word b declared.Var p h = absurd h

pub a_word_stands : (b : Bool) (k : DeclarationKind) (p : Parser) → BeginsLexical b k p → p.token.kind ≡ Undetermined → ⊥
a_word_stands b declared.Const p h e = false≢true (ap (same_kind Const) (sym e ∙ h.0))
a_word_stands b declared.Let p h e = false≢true (ap (same_kind Let) (sym e ∙ h.here.0))
a_word_stands b declared.Var p h e = absurd h

-- ---- what was seen behind `let`

not_angle : (b : Bool) (k : Kind) → behind_let b k ≡ true → one_of_kinds unsettled k ≡ false
unfolding apart
not_angle b k h = go (one_of_kinds unsettled k) refl
  where
    none : (b : Bool) → behind_let b k ≡ true → one_of_kinds unsettled k ≡ true → ⊥
    none true h e = not_both (λ k w e. behind_let true k) (λ k w e. one_of_kinds unsettled k) refl k false false h e
    none false h e = not_both (λ k w e. behind_let false k) (λ k w e. one_of_kinds unsettled k) refl k false false h e

    go : (c : Bool) → one_of_kinds unsettled k ≡ c → one_of_kinds unsettled k ≡ false
    go true e = absurd (none b h e)
    go false e = e

pub let_seen : (b : Bool) {p : Parser} {t : Token} → StandsHere p Let true → Peeks p t → behind_let b t.kind ≡ true → LetHere b p
let_seen b {p} {t} h k g = record { here = h; kind = t.kind; goes_on = g; behind = λ text f a z l. peeked_kind a k (not_angle b t.kind g) z l }

not_right_angle : (b : Bool) (k : Kind) → behind_let b k ≡ true → is_right_angle k ≡ false
unfolding apart
not_right_angle b k h = go (is_right_angle k) refl
  where
    none : (b : Bool) → behind_let b k ≡ true → is_right_angle k ≡ true → ⊥
    none true h e = not_both (λ k w e. behind_let true k) (λ k w e. is_right_angle k) refl k false false h e
    none false h e = not_both (λ k w e. behind_let false k) (λ k w e. is_right_angle k) refl k false false h e

    go : (c : Bool) → is_right_angle k ≡ c → is_right_angle k ≡ false
    go true e = absurd (none b h e)
    go false e = e

not_other_goal : (b : Bool) (k : Kind) → behind_let b k ≡ true → one_of_kinds other_goals k ≡ false
unfolding apart
not_other_goal b k h = go (one_of_kinds other_goals k) refl
  where
    none : (b : Bool) → behind_let b k ≡ true → one_of_kinds other_goals k ≡ true → ⊥
    none true h e = not_both (λ k w e. behind_let true k) (λ k w e. one_of_kinds other_goals k) refl k false false h e
    none false h e = not_both (λ k w e. behind_let false k) (λ k w e. one_of_kinds other_goals k) refl k false false h e

    go : (c : Bool) → one_of_kinds other_goals k ≡ c → one_of_kinds other_goals k ≡ false
    go true e = absurd (none b h e)
    go false e = e

pub let_unseen : (b : Bool) {p : Parser} {t : Token} → StandsHere p Let true → Peeks p t → behind_let b t.kind ≡ false → NoLet b p
let_unseen b {p} {t} h k g = λ text f a y z l q m. go text f a z (subst (λ (v : ℕ). Lex text v z) (ends_at a let_word h y l) m) (behind_let b z.kind) refl
  where
    go : (text : List ℕ) (f : Flags) → At text f p → (z : Lexeme) → Lex text p.token.span.end z → (c : Bool) → behind_let b z.kind ≡ c → behind_let b z.kind ≡ false
    go text f a z m true e = absurd (false≢true (sym g ∙ (sym (ap (behind_let b) (peeked_whole a k z m (not_right_angle b z.kind e) (not_other_goal b z.kind e))) ∙ e)))
    go text f a z m false e = e

pub let_begins : (b : Bool) (p q : Parser) (t : Token) (k : Kind) (r : Bool) → StandsHere p Let true → q ≡ p → Peeks p t → k ≡ t.kind → r ≡ behind_let b k → LetBegins b p q r
let_begins b p q t k true h e y i j = (e, let_seen b h y (ap (behind_let b) (sym i) ∙ sym j))
let_begins b p q t k false h e y i j = (e, let_unseen b h y (ap (behind_let b) (sym i) ∙ sym j))

-- ---- which declaration stands here

pub found_lexical : (b : Bool) (p q : Parser) (r : Option DeclarationKind) (k : DeclarationKind) → r ≡ Some k → FindsLexical b p q r → (q ≡ p) × BeginsLexical b k p
found_lexical b p q r k e h = subst (λ (v : Option DeclarationKind). FindsLexical b p q v) e h

pub none_found : (b : Bool) (p q : Parser) (r : Option DeclarationKind) → r ≡ None → FindsLexical b p q r → (q ≡ p) × StandsHere p Const false × NoLet b p
none_found b p q r e h = subst (λ (v : Option DeclarationKind). FindsLexical b p q v) e h

pub taken_from : (n : Flags → Symbol) (p q w : Parser) (r : Result NodeId Stop) → q ≡ p → TakesStatement n q w r → TakesStatement n p w r
taken_from n p q w r e h = subst (λ (v : Parser). TakesStatement n v w r) e h
