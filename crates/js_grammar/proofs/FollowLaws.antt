-- Laws of what may stand behind a nonterminal.
use Rattle.std.proofs.Common.{ℕ, ◌≡◌, ◌≤◌, Bool, true, false, not, ◌&&◌, ◌||◌, IsTrue, nat_lt, cond, refl, subst, arith}
use Rattle.std.proofs.lemmas.Bool.{false≢true, or_right, and_parts, and_from, ltb-true, lt-ltb}
use Rattle.js_base.specs.declared.kind.Kind.{Kind}
use Rattle.js_base.specs.declared.kind.Kind.TheVariants.{RCurly, Semicolon, Slash, RegExp, TemplateMiddle, TemplateTail}
use Rattle.js_grammar.specs.Trees.{Slots, end, Tree, tree, put}
use Rattle.js_grammar.specs.Insertion.{Row, after_expression, after_postfix, after_body, after_yield, after_declarator, after_word, goes_on, by_edge}
use Rattle.js_grammar.specs.Grammar.{Lexeme, Lexemes, here, Look, seen, is, may_omit, such, Takes, Derives, is_such}
use Rattle.js_grammar.specs.Productions.{Flags, Name, Symbol, at, Program, Expression, Assignment, Arrow', Yield, Conditional, Short, Coalesce, Or, Exponent, Unary, Update, LeftHandSide, New, Member, Call, Chain, Primary}
use Rattle.js_grammar.specs.Parsing.{always, full, Admits, Fails}
use Rattle.js_grammar.specs.Table.{rule}
use Rattle.js_grammar.specs.Follow.{Edge, row_of, edge_of, first_edge, tight, larger, looser, behind_statement, follow_of, follow, widest, surest, after}
use Rattle.js_grammar.specs.RightEdges.{may_end}
use Rattle.js_grammar.proofs.Looks.{covers, covered}
use Rattle.js_grammar.proofs.Calculus.{Sure, On, closes, fails_rule}
use Rattle.js_grammar.proofs.RightEdges.{each_row, at_row, edged, first_row}
use Rattle.js_grammar.proofs.Finding.{holds_if}

-- A regular expression counts as a slash, a template's middle and its tail as a right brace.

pub slash_of : (n : Name) (b : Bool) (r : Row) (o w e : Bool) → follow_of n b (record { row = r; open_if = o }) RegExp w e ≡ follow_of n b (record { row = r; open_if = o }) Slash w e
slash_of Program b r o w e = refl
slash_of n b after_expression o w e = refl
slash_of n b after_postfix o w e = refl
slash_of n b after_body o w e = refl
slash_of n b after_yield o w e = refl
slash_of n b after_declarator o w e = refl
slash_of n b after_word o w e = refl

pub middle_of : (n : Name) (b : Bool) (r : Row) (o w e : Bool) → follow_of n b (record { row = r; open_if = o }) TemplateMiddle w e ≡ follow_of n b (record { row = r; open_if = o }) RCurly w e
middle_of Program b r o w e = refl
middle_of n b after_expression o w e = refl
middle_of n b after_postfix o w e = refl
middle_of n b after_body o w e = refl
middle_of n b after_yield o w e = refl
middle_of n b after_declarator o w e = refl
middle_of n b after_word o w e = refl

pub tail_of : (n : Name) (b : Bool) (r : Row) (o w e : Bool) → follow_of n b (record { row = r; open_if = o }) TemplateTail w e ≡ follow_of n b (record { row = r; open_if = o }) RCurly w e
tail_of Program b r o w e = refl
tail_of n b after_expression o w e = refl
tail_of n b after_postfix o w e = refl
tail_of n b after_body o w e = refl
tail_of n b after_yield o w e = refl
tail_of n b after_declarator o w e = refl
tail_of n b after_word o w e = refl

pub counts_as_slash : (s : Symbol) (d : Edge) (w e : Bool) → follow s d RegExp w e ≡ follow s d Slash w e
counts_as_slash s d w e = slash_of s.name s.flags.in_ d.row d.open_if w e

pub middle_counts_as_brace : (s : Symbol) (d : Edge) (w e : Bool) → follow s d TemplateMiddle w e ≡ follow s d RCurly w e
middle_counts_as_brace s d w e = middle_of s.name s.flags.in_ d.row d.open_if w e

pub tail_counts_as_brace : (s : Symbol) (d : Edge) (w e : Bool) → follow s d TemplateTail w e ≡ follow s d RCurly w e
tail_counts_as_brace s d w e = tail_of s.name s.flags.in_ d.row d.open_if w e

-- What may stand behind every tree may stand behind each, and what may stand behind some tree passes the widest test: computed over all kinds, for each row.
abbrev at_most : (Kind → Bool → Bool → ℕ) → (Kind → Bool → Bool → ℕ) → Look
at_most a c k w e = not (nat_lt (c k w e) (a k w e))

tightest : Kind → Bool → Bool → ℕ
tightest k w e = larger (tight true after_expression k w e) (tight true after_yield k w e)

bounded_at : (b : Bool) (r : Row) → covers full (at_most (tight b r) tightest) ≡ true
unfolding covers tightest
bounded_at true after_expression = refl
bounded_at true after_postfix = refl
bounded_at true after_body = refl
bounded_at true after_yield = refl
bounded_at true after_declarator = refl
bounded_at true after_word = refl
bounded_at false after_expression = refl
bounded_at false after_postfix = refl
bounded_at false after_body = refl
bounded_at false after_yield = refl
bounded_at false after_declarator = refl
bounded_at false after_word = refl

loosest_at : (b : Bool) (r : Row) → covers full (at_most (tight false after_body) (tight b r)) ≡ true
unfolding covers
loosest_at true after_expression = refl
loosest_at true after_postfix = refl
loosest_at true after_body = refl
loosest_at true after_yield = refl
loosest_at true after_declarator = refl
loosest_at true after_word = refl
loosest_at false after_expression = refl
loosest_at false after_postfix = refl
loosest_at false after_body = refl
loosest_at false after_yield = refl
loosest_at false after_declarator = refl
loosest_at false after_word = refl

not_less : (a c : ℕ) → not (nat_lt c a) ≡ true → a ≤ c
not_less a c h = go (nat_lt c a) refl h
  where
    go : (v : Bool) → nat_lt c a ≡ v → not v ≡ true → a ≤ c
    go true e h = absurd (false≢true h)
    go false e h = grind (arith, e)

below : (a c p : ℕ) → a ≤ c → nat_lt c p ≡ true → nat_lt a p ≡ true
below a c p h e = let i = ltb-true c p e in lt-ltb a p (omega arith)

pub looser_widest : (p : ℕ) (b : Bool) (r : Row) (k : Kind) (w e : Bool) → looser p b r k w e ≡ true → looser p false after_body k w e ≡ true
looser_widest p b r k w e h = below _ _ p (not_less _ _ (covered full (at_most (tight false after_body) (tight b r)) (loosest_at b r) k w e refl)) h

both_below : (a c p : ℕ) → nat_lt a p ≡ true → nat_lt c p ≡ true → nat_lt (larger a c) p ≡ true
both_below a c p h i = go (nat_lt a c)
  where
    go : (v : Bool) → nat_lt (cond v c a) p ≡ true
    go true = i
    go false = h

pub looser_surest : (p : ℕ) (b : Bool) (r : Row) (k : Kind) (w e : Bool) → looser p true after_expression k w e ≡ true → looser p true after_yield k w e ≡ true → looser p b r k w e ≡ true
unfolding tightest
looser_surest p b r k w e h i = below _ _ p (not_less _ _ (covered full (at_most (tight b r) tightest) (bounded_at b r) k w e refl)) (both_below _ _ p h i)

statement_widest : (d : Edge) (k : Kind) (w e : Bool) → behind_statement d k w e ≡ true → behind_statement (record { row = after_body; open_if = false }) k w e ≡ true
statement_widest d k w e h = let x = and_parts _ _ h in and_from _ _ x.0 refl

statement_surest : (d : Edge) (r : Row) (k : Kind) (w e : Bool) → behind_statement (record { row = r; open_if = true }) k w e ≡ true → behind_statement d k w e ≡ true
statement_surest d r k w e h = let x = and_parts _ _ h in and_from _ _ x.0 (go d.open_if _ x.1)
  where
    go : (o v : Bool) → not v ≡ true → not (o && v) ≡ true
    go true v h = h
    go false v h = refl

-- of those that have one edge alone, the parameter In decides
fewer_at : (b : Bool) → covers full (at_most (tight false after_expression) (tight b after_expression)) ≡ true
unfolding covers
fewer_at true = refl
fewer_at false = refl

more_at : (b : Bool) → covers full (at_most (tight b after_expression) (tight true after_expression)) ≡ true
unfolding covers
more_at true = refl
more_at false = refl

operand_widest : (p : ℕ) (b : Bool) (k : Kind) (w e : Bool) → looser p b after_expression k w e ≡ true → looser p false after_expression k w e ≡ true
operand_widest p b k w e h = below _ _ p (not_less _ _ (covered full (at_most (tight false after_expression) (tight b after_expression)) (fewer_at b) k w e refl)) h

operand_surest : (p : ℕ) (b : Bool) (k : Kind) (w e : Bool) → looser p true after_expression k w e ≡ true → looser p b after_expression k w e ≡ true
operand_surest p b k w e h = below _ _ p (not_less _ _ (covered full (at_most (tight b after_expression) (tight true after_expression)) (more_at b) k w e refl)) h

widest_of : (n : Name) (b : Bool) (d : Edge) (k : Kind) (w e : Bool) → follow_of n b d k w e ≡ true → widest n k w e ≡ true
widest_of Program b d k w e h = h
widest_of n b d k w e h = search (looser_widest, statement_widest, operand_widest)

surest_of : (n : Name) (b : Bool) (d : Edge) (k : Kind) (w e : Bool) → follow_of n true (record { row = after_expression; open_if = true }) k w e ≡ true → follow_of n true (record { row = after_yield; open_if = true }) k w e ≡ true → follow_of n b d k w e ≡ true
surest_of Program b d k w e h i = h
surest_of n b d k w e h i = search (looser_surest, statement_surest, operand_surest)

-- The base of a symbol's test takes nothing away.
pub admits : (s : Symbol) (ts : Slots) (y : Lexeme) → IsTrue (seen (follow s (first_edge ts)) y) → Admits (after s) ts y
admits s ts y h = (widest_of s.name s.flags.in_ (first_edge ts) y.kind y.newline y.escaped h, h)

pub surely : (s : Symbol) → Sure (surest s.name) (after s)
surely s = record { admits = λ ts y h. let x = and_parts _ _ h in admits s ts y (surest_of s.name s.flags.in_ (first_edge ts) y.kind y.newline y.escaped x.0 x.1) }

-- a symbol that its rule can't derive
pub fails_by : {Lex : ℕ → Lexeme → Type 0} {s : Symbol} {ks : Slots} {i : ℕ} → Fails rule Lex (after s) end (rule s) i → Fails rule Lex (after s) ks (such s always) i
fails_by {s = s} r = fails_rule {X' = after s} (λ l cs vs y e. e) r

-- What binds less than p binds less than more.
pub looser_than : (p q : ℕ) (b : Bool) (r : Row) (k : Kind) (w e : Bool) → p ≤ q → looser p b r k w e ≡ true → looser q b r k w e ≡ true
looser_than p q b r k w e h i = let a = ltb-true (tight b r k w e) p i in lt-ltb (tight b r k w e) q (omega arith)

-- What may stand behind one nonterminal may stand behind another that is read as the same tree: computed over all kinds, for each row that the other's trees may have.
abbrev pub passes_at : Name → Name → Bool → Bool → Bool
passes_at n m b o = each_row (λ r. not (may_end m r) || covers (follow_of n b (record { row = r; open_if = o })) (follow_of m b (record { row = r; open_if = o })))

abbrev pub passes_on : Name → Name → Bool
passes_on n m = (passes_at n m true true && passes_at n m true false) && (passes_at n m false true && passes_at n m false false)

passed_at : (n m : Name) (b o : Bool) → passes_on n m ≡ true → passes_at n m b o ≡ true
passed_at n m true true h = (and_parts (passes_at n m true true) _ (and_parts (passes_at n m true true && passes_at n m true false) _ h).0).0
passed_at n m true false h = (and_parts (passes_at n m true true) _ (and_parts (passes_at n m true true && passes_at n m true false) _ h).0).1
passed_at n m false true h = (and_parts (passes_at n m false true) _ (and_parts (passes_at n m true true && passes_at n m true false) _ h).1).0
passed_at n m false false h = (and_parts (passes_at n m false true) _ (and_parts (passes_at n m true true && passes_at n m true false) _ h).1).1

-- a symbol's tree has one of the rows that are claimed of it
pub row_claimed : {m : Symbol} {c : Tree → Bool} {ks ts us : Slots} {i j : ℕ} {ls rest : Lexemes} → Takes rule (such m c) ks ts i ls us j rest → may_end m.name (first_row ts) ≡ true
row_claimed d = edged d

pub same_read : (n m : Symbol) {c : Tree → Bool} {ks : Slots} {s : ℕ} → passes_on n.name m.name ≡ true → n.flags.in_ ≡ m.flags.in_ → On rule (after n) (after m) ks (such m c) s
same_read n m h q = record {
  admits = λ ts vs k ls rest d e. let r = first_row ts in let o = (first_edge ts).open_if in let b = m.flags.in_ in
      admits m ts (here rest) (covered (follow_of n.name b (record { row = r; open_if = o })) (follow_of m.name b (record { row = r; open_if = o }))
      (holds_if (may_end m.name r) _ (at_row (λ r. not (may_end m.name r) || covers (follow_of n.name b (record { row = r; open_if = o })) (follow_of m.name b (record { row = r; open_if = o }))) (passed_at n.name m.name b o h) r) (row_claimed d))
      (here rest).kind (here rest).newline (here rest).escaped
      (subst (λ v. IsTrue (seen (follow_of n.name v (first_edge ts)) (here rest))) q e.1));
}

-- each level of expressions passes on to the next one
levels_pass_on : (passes_on Expression Assignment && (passes_on Assignment Conditional && (passes_on Assignment Arrow' && (passes_on Assignment Yield && (passes_on Conditional Short && (passes_on Short Or && passes_on Short Coalesce)))))) ≡ true
unfolding covers
levels_pass_on = refl

operands_pass_on : (passes_on Exponent Unary && (passes_on Unary Update && (passes_on Update LeftHandSide && (passes_on LeftHandSide New && (passes_on LeftHandSide Call && (passes_on LeftHandSide Chain && (passes_on New Member && passes_on Member Primary))))))) ≡ true
unfolding covers
operands_pass_on = refl

-- Before a semicolon, or where one may be left out by the row of its right edge, an expression ends.
abbrev pub ends_at_row : Name → Bool → Bool → Bool
ends_at_row n b o = each_row (λ r. not (may_end n r) || covers (closes (goes_on r) full) (follow_of n b (record { row = r; open_if = o })))

ends_expression : (b o : Bool) → ends_at_row Expression b o ≡ true
unfolding covers
ends_expression true true = refl
ends_expression true false = refl
ends_expression false true = refl
ends_expression false false = refl

ends_assignment : (b o : Bool) → ends_at_row Assignment b o ≡ true
unfolding covers
ends_assignment true true = refl
ends_assignment true false = refl
ends_assignment false true = refl
ends_assignment false false = refl

closes_less : (p F : Look) (y : Lexeme) → IsTrue (seen (closes p F) y) → IsTrue (seen (closes p full) y)
closes_less p F y h = go (seen (is Semicolon) y) (seen (may_omit p) y) (seen F y) h
  where
    go : (a b c : Bool) → (a || (b && c)) ≡ true → (a || (b && true)) ≡ true
    go true b c h = refl
    go false b c h = let x = and_parts b c h in and_from b true x.0 refl

ended_by : (n : Name) (f : Flags) → ((b o : Bool) → ends_at_row n b o ≡ true) → (F : Look) {ks us : Slots} {i j : ℕ} {ls mid : Lexemes} (ts : Slots) → Takes rule (such (at n f) always) ks ts i ls us j mid → us ≡ end → (y : Lexeme) → IsTrue (seen (closes (by_edge y ts) F) (here mid)) → Admits (after (at n f)) ts (here mid)
ended_by n f c F {mid = mid} ts (is_such {l = l} {cs = cs} {us = us} d t) q y h =
    let m = is_such {n = at n f} {c = always} {ks = end} {us = end} d t in
    admits (at n f) (tree l cs us) (here mid) (covered (closes (goes_on (row_of l cs)) full) (follow_of n f.in_ (edge_of l cs))
    (holds_if (may_end n (row_of l cs)) _ (at_row (λ r. not (may_end n r) || covers (closes (goes_on r) full) (follow_of n f.in_ (record { row = r; open_if = (edge_of l cs).open_if }))) (c f.in_ (edge_of l cs).open_if) (row_of l cs)) (row_claimed m))
    (here mid).kind (here mid).newline (here mid).escaped
    (closes_less (goes_on (row_of l cs)) F (here mid) (subst (λ v. IsTrue (seen (closes (by_edge y (tree l cs v)) F) (here mid))) q h)))

pub expression_ended : (f : Flags) (F : Look) {ks cs : Slots} {i j : ℕ} {ls mid : Lexemes} → Takes rule (such (at Expression f) always) ks cs i ls end j mid → (y : Lexeme) → IsTrue (seen (closes (by_edge y cs) F) (here mid)) → Admits (after (at Expression f)) cs (here mid)
expression_ended f F {cs = cs} d y h = ended_by Expression f ends_expression F cs d refl y h

pub assignment_ended : (f : Flags) (F : Look) {ks cs : Slots} {i j : ℕ} {ls mid : Lexemes} → Takes rule (such (at Assignment f) always) ks cs i ls end j mid → (y : Lexeme) → IsTrue (seen (closes (by_edge y cs) F) (here mid)) → Admits (after (at Assignment f)) cs (here mid)
assignment_ended f F {cs = cs} d y h = ended_by Assignment f ends_assignment F cs d refl y h

pub omission_ends : (f : Flags) (t : Tree) {i j : ℕ} {ls rest : Lexemes} → Derives rule (at Expression f) t i ls j rest → IsTrue (seen (may_omit (by_edge (here ls) (put t end))) (here rest)) → IsTrue (seen (follow (at Expression f) (edge_of t.label t.slots)) (here rest))
omission_ends f t {ls = ls} {rest = rest} d h = (expression_ended f full {ks = end} {cs = put t end} (is_such d refl) (here ls) (or_right (seen (is Semicolon) (here rest)) _ (and_from _ true h refl))).1
