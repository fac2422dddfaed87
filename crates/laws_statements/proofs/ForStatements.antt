-- `for` statements, whose head was read (ECMA-262, 14.7.4, 14.7.5).
use Rattle.std.proofs.Common.{ℕ, ◌≡◌, ◌<◌, ◌⊎◌, inl, inr, List, [], ◌∷◌, ◌++◌, length, Option, Some, Bool, true, false, not, ◌&&◌, ◌||◌, IsTrue, IsCharBoundary, refl, sym, ap, subst, arith, ◌∙◌}
use Rattle.std.proofs.lemmas.Bool.{false≢true, and_parts}
use Rattle.js_base.specs.declared.diagnostic.Diagnostic.{Diagnostic}
use Rattle.js_base.specs.declared.kind.Kind.TheVariants as kind
use Rattle.js_base.specs.declared.span.Span.{Span}
use Rattle.js_base.specs.Contexts.{reads_await}
use Rattle.js_base.specs.Kinds.{same_kind}
use Rattle.js_grammar.specs.Conditions.{ends_in_sub, lacks_else}
use Rattle.js_grammar.specs.Trees.{Span as TreeSpan, Label, Slots, append, end, hole, tree, no_op}
use Rattle.js_grammar.specs.Grammar.{Lexeme, Lexemes, Look, here, seen, exact, such, nothing, alt, Takes, is_seq, is_lexeme, is_such, is_left, is_right, is_look, is_ahead, is_node, is_nothing, is_empty_slot, ◌▸◌}
use Rattle.js_grammar.specs.LexicalFaults.{Reached}
use Rattle.js_grammar.specs.Lexed.{NextLexeme, all_faults}
use Rattle.js_grammar.specs.Marks.{EdgeOf, Mark, a_lexeme, the_end, the_start}
use Rattle.js_grammar.specs.Parsing.{Test, plain, full, behind, always, still, Admits, Goes, Fails}
use Rattle.js_grammar.specs.Productions.{G, Flags, at, await_flag, flag, make, only, parens, slot, tok, Expression, For, ForIn, ForOf, Sub}
use Rattle.js_grammar.specs.Productions.{Statement as AStatement}
use Rattle.js_grammar.specs.Productions.{sym as symbol}
use Rattle.js_grammar.specs.Table.{rule, rule_of}
use Rattle.js_grammar.specs.Follow.{behind_statement, by_tree, edge_of, widest}
use Rattle.js_grammar.proofs.Looks.{covers}
use Rattle.js_grammar.proofs.Calculus.{Inside, On, ◌▹◌, ◌▹✗◌, done, fails_alt, fails_node, fails_rule, fails_under, fails_when, inside_full, left, right, stay, where_true, weaken_fails_on}
use Rattle.laws_shared.specs.js_tree.declared.id.NodeId.{NodeId}
use Rattle.laws_shared.specs.js_tree.declared.kind.NodeKind.{NodeKind as MadeKind}
use Rattle.laws_shared.specs.js_tree.Labels.{kind_of}
use Rattle.laws_shared.specs.js_tree.Nodes.{Node}
use Rattle.laws_shared.specs.js_tree.Holding.{HoldsAll, Keeps}
use Rattle.laws_shared.proofs.js_tree.HoldingLemmas.{HoldsAll-next, Keeps-made, Keeps-trans}
use Rattle.laws_shared.specs.js_cursor.Moves.{is_last}
use Rattle.laws_shared.specs.js_cursor.Moves.{KeepsDiagnostic as Tells}
use Rattle.laws_shared.specs.js_cursor.Parsers.{Parser}
use Rattle.laws_shared.specs.js_cursor.Places.{goal}
use Rattle.laws_shared.specs.js_cursor.declared.stop.Stop.{Stop}
use Rattle.laws_shared.specs.Answers.{Grown, Stops, unclean}
use Rattle.laws_shared.specs.Lexemes.{Lex, Walked, spot}
use Rattle.laws_shared.specs.Moves.{IsWholeHere, Moved, MadeHere}
use Rattle.laws_shared.specs.Stands.{StandsHere}
use Rattle.laws_shared.specs.States.{At, Same}
use Rattle.laws_shared.specs.Statements.{placed, no_link, after_statement, NoStatement, Statement}
use Rattle.laws_statements.specs.declared.forms.Ending.{Ending}
use Rattle.laws_statements.specs.declared.forms.Ending.TheVariants as ending
use Rattle.laws_statements.specs.ForHeads.{NoParensHead, ParensHeadTaken, behind_head, first_part, head_part, name_of, node_of}
use Rattle.laws_statements.specs.ForWords.{ChecksAwait, ChecksEnding, PassesAwait, await_at, for_label, is_of, no_of_from}
use Rattle.laws_shared.specs.Nesting.{room}
use Rattle.laws_shared.proofs.MadeNodes.{node_held, one_lies}
use Rattle.laws_shared.proofs.Nesting.{nested_room}
use Rattle.laws_shared.proofs.Edges.{last_edge}
use Rattle.laws_shared.proofs.Here.{found, uncut}
use Rattle.laws_shared.proofs.Moving.{same_both, same_itself, stops_behind}
use Rattle.laws_shared.proofs.Paths.{Path, ◌⟼◌, ◌⟶◌, ◌⟶✗◌, at_kind, by_symbol_as, flagged_by, flagged_here, token, walked_both, walked_from, walked_one}
use Rattle.laws_shared.proofs.Told.{told_at, told_same}
use Rattle.laws_shared.proofs.Verdicts.{grown_both, grown_first, grown_on, grown_then}
use Rattle.laws_shared.proofs.Verdicts.{after as grown_behind}
use Rattle.laws_shared.proofs.Giving.{kept_one}
use Rattle.laws_statements.proofs.CompoundStatements.{no_token, statement_read, then_fails, then_part}
use Rattle.laws_statements.proofs.ForHeads.{which}
use Rattle.laws_statements.proofs.Statements.{by_such_statement, no_symbol, ◌⟝◌}
use Rattle.laws_statements.proofs.WordStatements.{Alone, alone_fails, alone_path, word_here}

-- ---- the lines

-- behind the word, as the line of `of` has it: with `await` or without
abbrev behind_word : Bool → Ending → G → G
behind_word w ending.Semicolon g = g
behind_word w ending.In g = g
behind_word w ending.Of g = only w (tok kind.Await) ▸ g

abbrev for_slots : Bool → Ending → Flags → G
for_slots w e f = tok kind.For ▸ behind_word w e (parens (head_part w e f) ▸ symbol Sub f)

abbrev for_node : Bool → Ending → Flags → G
for_node w e f = make (kind_of (node_of e)) no_op (flag w await_flag) (for_slots w e f)

-- ---- what may stand behind the body, the last slot

abbrev by_alone : Flags → Slots → Look
by_alone f (tree l cs end) = by_tree (at Sub f) (tree l cs end)
by_alone f _ = λ k w e. false

abbrev behind_for : Ending → Flags → Test
behind_for e f = record { base = λ k w e. no_link k w e && widest Sub k w e; by = λ ts. by_alone f (behind_head e ts) }

on_body : (e : Ending) (f : Flags) (hs : Slots) → ((us : Slots) → behind_head e (append hs us) ≡ us) → (s : ℕ) → On rule (behind (behind_for e f) (λ us. append hs us)) (after_statement (at Sub f)) end (such (at Sub f) always) s
on_body e f hs strips s = record { admits = λ ts vs k ls rest d x. go ts vs d (x.0, subst (λ (us : Slots). IsTrue (seen (by_alone f us) (here rest))) (strips ts) x.1) }
  where
    go : (ts vs : Slots) {i k : ℕ} {ls rest : Lexemes} → Takes rule (such (at Sub f) always) end ts i ls vs k rest → IsTrue (seen (behind_for e f).base (here rest)) × IsTrue (seen (by_alone f ts) (here rest)) → Admits (after_statement (at Sub f)) ts (here rest)
    go ts end (is_such d h) x = x
    go ts (hole vs) (is_such d h) x = absurd (false≢true x.1)
    go ts (tree l cs vs) (is_such d h) x = absurd (false≢true x.1)

-- a part that is one slot
data OneSlot (us : Slots) : Slots → Type 0 where
  a_hole : OneSlot us (hole us)
  a_tree : (l : Label) (cs : Slots) → OneSlot us (tree l cs us)

an_expression : (f : Flags) {ks ts us : Slots} {i j : ℕ} {ls rest : Lexemes} → Takes rule (slot (symbol Expression f)) ks ts i ls us j rest → OneSlot us ts
an_expression f (is_left (is_such {l = l} {cs = cs} d t)) = a_tree l cs
an_expression f (is_right is_empty_slot) = a_hole

first_slot : (w : Bool) (e : Ending) (f : Flags) {ks ts us : Slots} {i j : ℕ} {ls rest : Lexemes} → Takes rule (first_part w e f) ks ts i ls us j rest → OneSlot us ts
first_slot w ending.Semicolon f (is_left (is_such {l = l} {cs = cs} d t)) = a_tree l cs
first_slot w ending.Semicolon f (is_right is_empty_slot) = a_hole
first_slot w ending.In f (is_left (is_seq (is_left (is_look q)) (is_such {l = l} {cs = cs} d t))) = a_tree l cs
first_slot w ending.In f (is_left (is_seq (is_right (is_ahead (is_seq (is_lexeme q) (is_look r)))) (is_such {l = l} {cs = cs} d t))) = a_tree l cs
first_slot w ending.In f (is_right (is_left (is_left (is_node d)))) = a_tree _ _
first_slot w ending.In f (is_right (is_left (is_right (is_left (is_node d))))) = a_tree _ _
first_slot w ending.In f (is_right (is_left (is_right (is_right (is_node d))))) = a_tree _ _
first_slot w ending.In f (is_right (is_right (is_node d))) = a_tree _ _
first_slot false ending.Of f (is_left (is_seq (is_look p) (is_seq (is_left (is_look q)) (is_such {l = l} {cs = cs} d t)))) = a_tree l cs
first_slot false ending.Of f (is_left (is_seq (is_look p) (is_seq (is_right (is_ahead (is_seq (is_lexeme q) (is_look r)))) (is_such {l = l} {cs = cs} d t)))) = a_tree l cs
first_slot true ending.Of f (is_left (is_seq (is_look p) (is_seq is_nothing (is_such {l = l} {cs = cs} d t)))) = a_tree l cs
first_slot w ending.Of f (is_right (is_left (is_node d))) = a_tree _ _
first_slot w ending.Of f (is_right (is_right (is_left (is_node d)))) = a_tree _ _
first_slot w ending.Of f (is_right (is_right (is_right (is_node d)))) = a_tree _ _

-- behind a node what may stand behind its right edge
abbrev Ends : Label → Slots → Lexeme → Type 0
Ends m cs y = IsTrue (seen (λ k w e. no_link k w e && widest Sub k w e) y) × IsTrue (seen (behind_statement (edge_of m cs)) y)

in_its_place : (b : Bool) (f : Flags) (m : Label) (cs vs : Slots) (y : Lexeme) → Admits (after_statement (placed b f)) (tree m cs vs) y → Ends m cs y
in_its_place true f m cs vs y x = x
in_its_place false f m cs vs y x = x

-- which is that of the body
module _ (w : Bool) (f : Flags) (p : TreeSpan) (y : Lexeme) where
  abbrev made_by : Ending → Label
  made_by e = record { kind = kind_of (node_of e); op = no_op; flags = flag w await_flag; span = p }

  behind_two : {a l : Label} {bs ds cs : Slots} → OneSlot (tree a bs (tree l ds end)) cs → Ends (made_by ending.In) cs y → Admits (behind_for ending.In f) cs y
  behind_two a_hole x = x
  behind_two (a_tree m ms) x = x

  behind_two_of : {a l : Label} {bs ds cs : Slots} → OneSlot (tree a bs (tree l ds end)) cs → Ends (made_by ending.Of) cs y → Admits (behind_for ending.Of f) cs y
  behind_two_of a_hole x = x
  behind_two_of (a_tree m ms) x = x

  behind_three : {l : Label} {ds us ws cs : Slots} → OneSlot (tree l ds end) us → OneSlot us ws → OneSlot ws cs → Ends (made_by ending.Semicolon) cs y → Admits (behind_for ending.Semicolon f) cs y
  behind_three a_hole a_hole a_hole x = x
  behind_three a_hole a_hole (a_tree c cs) x = x
  behind_three a_hole (a_tree b bs) a_hole x = x
  behind_three a_hole (a_tree b bs) (a_tree c cs) x = x
  behind_three (a_tree a es) a_hole a_hole x = x
  behind_three (a_tree a es) a_hole (a_tree c cs) x = x
  behind_three (a_tree a es) (a_tree b bs) a_hole x = x
  behind_three (a_tree a es) (a_tree b bs) (a_tree c cs) x = x

abbrev for_made : Bool → Ending → TreeSpan → Label
for_made w e p = record { kind = kind_of (node_of e); op = no_op; flags = flag w await_flag; span = p }

inside_for : (w b : Bool) (e : Ending) (f : Flags) (s : ℕ) → Inside rule (record { kind = kind_of (node_of e); op = no_op; flags = flag w await_flag; extent = exact }) (after_statement (placed b f)) (behind_for e f) end (for_slots w e f) s
inside_for w b e f s = record { ends = λ p cs vs j ls mid d x. go w e p cs d (in_its_place b f (for_made w e p) cs vs (here mid) x) }
  where
    go : (w : Bool) (e : Ending) (p : TreeSpan) (cs : Slots) {i j : ℕ} {ls mid : Lexemes} → Takes rule (for_slots w e f) end cs i ls end j mid → Ends (for_made w e p) cs (here mid) → Admits (behind_for e f) cs (here mid)
    go w ending.Semicolon p cs {mid = mid} (is_seq (is_lexeme a) (is_seq (is_seq (is_lexeme c) (is_seq (is_seq d (is_seq (is_lexeme k) (is_seq t (is_seq (is_lexeme l) u)))) (is_lexeme z))) (is_such h i))) x = behind_three w f p (here mid) (an_expression f u) (an_expression f t) (first_slot w ending.Semicolon f d) x
    go w ending.In p cs {mid = mid} (is_seq (is_lexeme a) (is_seq (is_seq (is_lexeme c) (is_seq (is_seq d (is_seq (is_lexeme k) (is_such g t))) (is_lexeme z))) (is_such h i))) x = behind_two w f p (here mid) (first_slot w ending.In f d) x
    go false ending.Of p cs {mid = mid} (is_seq (is_lexeme a) (is_seq is_nothing (is_seq (is_seq (is_lexeme c) (is_seq (is_seq d (is_seq (is_lexeme k) (is_such g t))) (is_lexeme z))) (is_such h i)))) x = behind_two_of false f p (here mid) (first_slot false ending.Of f d) x
    go true ending.Of p cs {mid = mid} (is_seq (is_lexeme a) (is_seq (is_lexeme o) (is_seq (is_seq (is_lexeme c) (is_seq (is_seq d (is_seq (is_lexeme k) (is_such g t))) (is_lexeme z))) (is_such h i)))) x = behind_two_of true f p (here mid) (first_slot true ending.Of f d) x

lacks_append : (ps : Slots) (l : Label) (cs : Slots) → lacks_else (append ps (tree l cs end)) ≡ (ends_in_sub l.kind && lacks_else cs)
lacks_append end l cs = refl
lacks_append (hole end) l cs = refl
lacks_append (hole (hole ps)) l cs = lacks_append (hole ps) l cs
lacks_append (hole (tree m ds ps)) l cs = lacks_append (tree m ds ps) l cs
lacks_append (tree k ks end) l cs = refl
lacks_append (tree k ks (hole ps)) l cs = lacks_append (hole ps) l cs
lacks_append (tree k ks (tree m ds ps)) l cs = lacks_append (tree m ds ps) l cs

ends_so : (e : Ending) → ends_in_sub (kind_of (node_of e)) ≡ true
ends_so ending.Semicolon = refl
ends_so ending.In = refl
ends_so ending.Of = refl

-- ---- `for`, and `await` behind it

-- with `await` the head ends its first part by `of`
abbrev Fits : Bool → Ending → Type 0
Fits false e = Unit {0}
Fits true ending.Semicolon = ⊥
Fits true ending.In = ⊥
Fits true ending.Of = Unit {0}

fits : (w : Bool) (e : Ending) → (Fits w e) ⊎ (Fits w e → ⊥)
fits false e = inl tt
fits true ending.Semicolon = inr (λ n. n)
fits true ending.In = inr (λ n. n)
fits true ending.Of = inl tt

fits_so : (w : Bool) (e : Ending) → (not w || is_of e) ≡ true → Fits w e
fits_so false e h = tt
fits_so true ending.Semicolon h = false≢true h
fits_so true ending.In h = false≢true h
fits_so true ending.Of h = tt

unfit : (w : Bool) (e : Ending) → (not w || is_of e) ≡ false → Fits w e → ⊥
unfit false e h n = false≢true (sym h)
unfit true ending.Semicolon h n = n
unfit true ending.In h n = n
unfit true ending.Of h n = false≢true (sym h)

-- The words were passed, and this is what is left of the three lines.
pub record Opened (text : List ℕ) (f : Flags) (w : Bool) (p q : Parser) : Type 0 where
  pub kept : q.errors ≡ p.errors
  pub opened : {X : Test} (e : Ending) → Fits w e → Path text f X (for_slots w e f) p (parens (head_part w e f) ▸ symbol Sub f) q (λ us. us)
  pub line : {X : Test} (e : Ending) → Fits w e → Goes rule (Lex text) X end (rule (at (name_of e) f)) p.prev_token_end (for_node w e f) p.prev_token_end (λ us. us) (still 0)
  pub dead : {X : Test} (e : Ending) → (Fits w e → ⊥) → Fails rule (Lex text) X end (rule (at (name_of e) f)) p.prev_token_end

-- That no statement is derived was told.
pub record NoneTold (text : List ℕ) (f : Flags) (p q : Parser) : Type 0 where
  pub grown : Grown p.errors q.errors
  pub none : (b : Bool) → NoStatement text (placed b f) p.prev_token_end

-- The words were passed.
pub record Begun (text : List ℕ) (f : Flags) (w : Bool) (p q : Parser) : Type 0 where
  pub same : Same p q
  pub further : p.token.span.start < q.prev_token_end
  pub less : room q < room p
  pub nodes : q.nodes ≡ p.nodes
  pub pass : Lexemes → Lexemes
  pub walked : Walked text (spot p) (spot q) pass
  pub lines : Opened text f w p q ⊎ NoneTold text f p q
  pub at : At text f q

module _ {text : List ℕ} {f : Flags} {p : Parser} (a : At text f p) (h : StandsHere p kind.For true) where
  all_three : {X : Test} → Goes rule (Lex text) X end (rule (at AStatement f)) p.prev_token_end (alt (symbol For f) (alt (symbol ForIn f) (symbol ForOf f))) p.prev_token_end (λ us. us) (still 0)
  unfolding rule rule_of covers
  all_three = at_kind a kind.For h.0 refl

  listed : {X : Test} (b : Bool) → Goes rule (Lex text) X end (rule (placed b f)) p.prev_token_end (symbol AStatement f) p.prev_token_end (λ us. us) (still 0)
  unfolding rule rule_of covers
  listed true = at_kind a kind.For h.0 refl
  listed false = at_kind a kind.For h.0 refl

  none_of_three : (b : Bool) → ((X : Test) (d : Ending) → Fails rule (Lex text) X end (symbol (name_of d) f) p.prev_token_end) → NoStatement text (placed b f) p.prev_token_end
  none_of_three b n = no_symbol (listed b ▹✗ fails_rule {X' = plain full} (λ l cs vs y d. (refl, refl)) (all_three ▹✗ fails_alt (n _ ending.Semicolon) (fails_alt (n _ ending.In) (n _ ending.Of))))

-- what is told leaves all else
beside_told : {d : Diagnostic} {o r : Parser} → Tells d o r → r ≡ record o { errors = r.errors }
beside_told {o = o} k = k.is ∙ ap (λ (es : List Diagnostic). record o { errors = es }) (sym (ap (λ (v : Parser). v.errors) k.is))

beside_await : {s : Span} {o r : Parser} → ChecksAwait s o r → r ≡ record o { errors = r.errors }
beside_await (inl (i, k)) = beside_told k
beside_await {o = o} (inr (i, e)) = subst (λ (v : Parser). v ≡ record o { errors = v.errors }) (sym e) refl

await_same : {s : Span} {o r : Parser} → ChecksAwait s o r → Same o r
await_same (inl (i, k)) = told_same k refl
await_same {o = o} (inr (i, e)) = subst (λ (v : Parser). Same o v) (sym e) same_itself

pub await_at_checked : {text : List ℕ} {f : Flags} {s : Span} {o r : Parser} → At text f o → ChecksAwait s o r → At text f r
await_at_checked a (inl (i, k)) = told_at k a
await_at_checked {text} {f} a (inr (i, e)) = subst (λ (v : Parser). At text f v) (sym e) a

pub await_passable : {text : List ℕ} {f : Flags} {s : Span} {o r : Parser} → At text f o → StandsHere o kind.Await true → ChecksAwait s o r → IsWholeHere r
await_passable a h c = let e = beside_await c in word_here kind.Await (await_at_checked a c) (ap (λ (v : Parser). v.token.kind) e ∙ h.0, ap (λ (v : Parser). v.token.escaped) e ∙ h.1) refl

module _ {text : List ℕ} {f : Flags} {p o : Parser} (a : At text f p) (h : StandsHere p kind.For true) (m : Moved text f p o) where
  behind_for_word : {X : Test} {g : G} → Path text f X (tok kind.For ▸ g) p g o (λ us. us)
  behind_for_word = token kind.For a h.0 h.1 refl m

  -- without `await`
  opens : {X : Test} (e : Ending) → Path text f X (for_slots false e f) p (parens (head_part false e f) ▸ symbol Sub f) o (λ us. us)
  opens ending.Semicolon = behind_for_word
  opens ending.In = behind_for_word
  opens ending.Of = behind_for_word ⟝ done

  plain_line : {X : Test} (e : Ending) → StandsHere o kind.Await false → Goes rule (Lex text) X end (rule (at (name_of e) f)) p.prev_token_end (for_node false e f) p.prev_token_end (λ us. us) (still 0)
  unfolding rule rule_of
  plain_line ending.Semicolon n = stay
  plain_line ending.In n = stay
  plain_line ending.Of n = left (fails_under (fails_node inside_full (behind_for_word ⟶✗ no_token m.at kind.Await refl n))) ▹ where_true refl

  begun_plain : StandsHere o kind.Await false → Begun text f false p o
  begun_plain n = record { at = m.at; same = m.same; further = m.further; less = nested_room a m; nodes = m.nodes; pass = _; walked = walked_one m; lines = inl (record { kept = m.kept; opened = λ e i. opens e; line = λ e i. plain_line e n; dead = λ e i. absurd (i tt) }) }

  -- with it
  module _ (s : StandsHere o kind.Await true) where
    no_paren : {X : Test} {g g' : G} → Fails rule (Lex text) X end (parens g ▸ g') o.prev_token_end
    no_paren = then_fails (no_token m.at kind.LParen refl (λ k e. let z : kind.Await ≡ kind.LParen = sym s.0 ∙ k in cc))

    no_await : {X : Test} → Fails rule (Lex text) X end (for_node false ending.Of f) p.prev_token_end
    no_await = fails_node inside_full ((behind_for_word ⟝ done) ⟶✗ no_paren)

    no_other_line : {X : Test} (e : Ending) → (Fits true e → ⊥) → Fails rule (Lex text) X end (rule (at (name_of e) f)) p.prev_token_end
    unfolding rule rule_of
    no_other_line ending.Semicolon z = fails_node inside_full (behind_for_word ⟶✗ no_paren)
    no_other_line ending.In z = fails_node inside_full (behind_for_word ⟶✗ no_paren)
    no_other_line ending.Of z = absurd (z tt)

    -- where it is no operator, no line goes on
    no_line_at_all : f.awaits ≡ false → {X : Test} (e : Ending) → Fails rule (Lex text) X end (rule (at (name_of e) f)) p.prev_token_end
    unfolding rule rule_of
    no_line_at_all i ending.Semicolon = no_other_line ending.Semicolon (λ n. n)
    no_line_at_all i ending.In = no_other_line ending.In (λ n. n)
    no_line_at_all i ending.Of = right (fails_under no_await) ▹✗ fails_when i

    opens_await : {X : Test} {q : Parser} → Moved text f o q → (e : Ending) → Fits true e → Path text f X (for_slots true e f) p (parens (head_part true e f) ▸ symbol Sub f) q (λ us. us)
    opens_await n ending.Semicolon z = absurd z
    opens_await n ending.In z = absurd z
    opens_await n ending.Of z = behind_for_word ⟶ token kind.Await m.at s.0 s.1 refl n

    await_line : f.awaits ≡ true → {X : Test} (e : Ending) → Fits true e → Goes rule (Lex text) X end (rule (at (name_of e) f)) p.prev_token_end (for_node true e f) p.prev_token_end (λ us. us) (still 0)
    unfolding rule rule_of
    await_line i ending.Semicolon z = absurd z
    await_line i ending.In z = absurd z
    await_line i ending.Of z = right (fails_under no_await) ▹ where_true i

    module _ {t : Span} {r q : Parser} (c : ChecksAwait t o r) (n : Moved text f r q) where
      awaits_are : {b : Bool} → reads_await o.ctx ≡ b → f.awaits ≡ b
      awaits_are e = sym (ap (λ (g : Flags). g.awaits) m.at.flags_are) ∙ e

      await_lines : Opened text f true p q ⊎ NoneTold text f p q
      await_lines = go c
        where
          go : ChecksAwait t o r → Opened text f true p q ⊎ NoneTold text f p q
          go (inl (i, k)) = inr (record { grown = grown_then m.kept (grown_first (kept_one k) n.kept); none = λ b. none_of_three a h b (λ X d. fails_rule {X' = plain full} (λ l cs vs y d. (refl, refl)) (no_line_at_all (awaits_are i) d)) })
          go (inr (i, e)) = inl (record { kept = n.kept ∙ (ap (λ (v : Parser). v.errors) e ∙ m.kept); opened = λ d z. opens_await (subst (λ (v : Parser). Moved text f v q) e n) d z; line = λ d z. await_line (awaits_are i) d z; dead = λ d z. no_other_line d z })

      begun_await : Begun text f true p q
      begun_await =
          let e = beside_await c in
          let nodes : r.nodes ≡ o.nodes = ap (λ (v : Parser). v.nodes) e in
          let token : r.token ≡ o.token = ap (λ (v : Parser). v.token) e in
          record {
            at = n.at;
            same = same_both m.same (same_both (await_same c) n.same);
            further = let i = m.further in let j = m.at.behind in let l = n.further in let k = ap (λ t. t.span.start) token in omega arith;
            less = let i = nested_room a m in let j = nested_room (await_at_checked m.at c) n in let k = ap room e in omega arith;
            nodes = n.nodes ∙ (nodes ∙ m.nodes);
            pass = _;
            walked = walked_both (walked_one m) (walked_from (ap spot e) (walked_one n));
            lines = await_lines;
          }

  pub begun : (w : Bool) (q : Parser) → PassesAwait o q w → Begun text f w p q
  begun true q y = begun_await y.0 y.2 (y.3 text f (await_at_checked m.at y.2))
  begun false q y = subst (λ (z : Parser). Begun text f false p z) (sym y.1) (begun_plain y.0)

-- ---- the statement

module _ {text : List ℕ} {f : Flags} {w : Bool} {p q : Parser} (a : At text f p) (h : StandsHere p kind.For true) (m : Begun text f w p q) where
  -- where no head of the line is derived
  no_line : Opened text f w p q → {X : Test} (e : Ending) → NoParensHead text w e f q.prev_token_end → Fails rule (Lex text) X end (symbol (name_of e) f) p.prev_token_end
  no_line o {X} e n = fails_rule {X' = plain full} (λ l cs vs y d. (refl, refl)) (by (fits w e))
    where
      by : (Fits w e) ⊎ (Fits w e → ⊥) → Fails rule (Lex text) (plain full) end (rule (at (name_of e) f)) p.prev_token_end
      by (inl i) = o.line e i ▹✗ fails_node inside_full (o.opened e i ⟶✗ then_fails n)
      by (inr i) = o.dead e i

  pub for_stops : (b : Bool) (r : Parser) (x : Stop) → Stops q r x ((d : Ending) → NoParensHead text w d f q.prev_token_end) → Stops p r x (NoStatement text (placed b f) p.prev_token_end)
  for_stops b r x s = go m.lines
    where
      go : Opened text f w p q ⊎ NoneTold text f p q → Stops p r x (NoStatement text (placed b f) p.prev_token_end)
      go (inl o) = stops_behind r x m.same (λ g. grown_then o.kept g) (λ n. none_of_three a h b (λ X d. no_line o d (n d))) s
      go (inr t) = stops_behind r x m.same (λ g. grown_both t.grown g) (λ n. t.none b) s

  only_line : (e : Ending) → ((X : Test) (d : Ending) → (d ≡ e → ⊥) → Fails rule (Lex text) X end (symbol (name_of d) f) p.prev_token_end) → {X : Test} → Goes rule (Lex text) X end (rule (at AStatement f)) p.prev_token_end (symbol (name_of e) f) p.prev_token_end (λ us. us) (still 0)
  only_line ending.Semicolon n = all_three a h ▹ left (fails_alt (n _ ending.In (λ k. cc)) (n _ ending.Of (λ k. cc)))
  only_line ending.In n = all_three a h ▹ (right (n _ ending.Semicolon (λ k. cc)) ▹ left (n _ ending.Of (λ k. cc)))
  only_line ending.Of n = all_three a h ▹ (right (n _ ending.Semicolon (λ k. cc)) ▹ right (n _ ending.In (λ k. cc)))

  module _ {r : Parser} {e : Ending} {ids : List (Option NodeId)} (x : ParensHeadTaken text f w e q r ids) where
    pub head_same : Same p r
    head_same = same_both m.same x.same

    head_walked : Walked text (spot p) (spot r) (λ ls. m.pass (x.path.pass ls))
    head_walked = walked_both m.walked x.path.walked

    pub head_further : p.token.span.start < r.prev_token_end
    head_further = let i = m.further in let j = m.at.behind in let k = x.path.further in omega arith

    -- a lexeme ends behind the head
    pub head_edge : EdgeOf (goal r) r.text r.prev_token_end
    head_edge = subst (λ (t : List ℕ). EdgeOf (goal r) t r.prev_token_end) (sym x.path.at.text_is) (last_edge head_walked (subst (λ (t : List ℕ). Reached t p.prev_token_end) a.text_is a.at.reached) (let i = a.behind in let j = head_further in omega arith))

    other_lines : Opened text f w p q → {X : Test} (d : Ending) → (d ≡ e → ⊥) → Fails rule (Lex text) X end (symbol (name_of d) f) p.prev_token_end
    other_lines o d n = no_line o d (x.others d n)

    -- with `await` another one than that of `of`
    unfit_none : Opened text f w p q → (b : Bool) → (Fits w e → ⊥) → NoStatement text (placed b f) p.prev_token_end
    unfit_none o b i = none_of_three a h b (λ X d. by d (which e d))
      where
        by : {X : Test} (d : Ending) → (d ≡ e) ⊎ (d ≡ e → ⊥) → Fails rule (Lex text) X end (symbol (name_of d) f) p.prev_token_end
        by d (inl k) = fails_rule {X' = plain full} (λ l cs vs y d. (refl, refl)) (o.dead d (λ z. i (subst (λ (v : Ending). Fits w v) k z)))
        by d (inr k) = other_lines o d k

    module _ {start : ℕ} {u : Parser} (c : ChecksEnding w e start r u) where
      beside_ending : u ≡ record r { errors = u.errors }
      beside_ending = go c
        where
          go : ChecksEnding w e start r u → u ≡ record r { errors = u.errors }
          go (inl (i, k)) = beside_told k
          go (inr (i, k)) = subst (λ (v : Parser). v ≡ record r { errors = v.errors }) (sym k) refl

      pub ending_at : At text f u
      ending_at = go c
        where
          go : ChecksEnding w e start r u → At text f u
          go (inl (i, k)) = told_at k x.path.at
          go (inr (i, k)) = subst (λ (v : Parser). At text f v) (sym k) x.path.at

      pub ending_room : room u ≡ room r
      ending_room = ap room beside_ending

      pub ending_same : Same p u
      ending_same = same_both head_same (go c)
        where
          go : ChecksEnding w e start r u → Same r u
          go (inl (i, k)) = told_same k refl
          go (inr (i, k)) = subst (λ (v : Parser). Same r v) (sym k) same_itself

      -- The head is one of the line that is left; or that there is none was told.
      is_one : (Opened text f w p q × Fits w e × (u ≡ r)) ⊎ NoneTold text f p u
      is_one = go m.lines c
        where
          go : Opened text f w p q ⊎ NoneTold text f p q → ChecksEnding w e start r u → (Opened text f w p q × Fits w e × (u ≡ r)) ⊎ NoneTold text f p u
          go (inl o) (inl (i, k)) = inr (record { grown = grown_then o.kept (grown_behind x.path.verdict (kept_one k)); none = λ b. unfit_none o b (unfit w e i) })
          go (inl o) (inr (i, k)) = inl (o, fits_so w e i, k)
          go (inr t) (inl (i, k)) = inr (record { grown = grown_both (grown_on t.grown x.path.verdict) (kept_one k); none = t.none })
          go (inr t) (inr (i, k)) = inr (record { grown = subst (λ (v : Parser). Grown p.errors v.errors) (sym k) (grown_on t.grown x.path.verdict); none = t.none })

      module _ (o : Opened text f w p q) (i : Fits w e) where
        alone : Alone text f (name_of e) p.prev_token_end
        alone = record { listed = λ b X. listed a h b; alone = λ X. only_line e (λ X d n. other_lines o d n) }

        head_read : Path text f (behind_for e f) (for_slots w e f) p (symbol Sub f) r (λ us. append x.slots us)
        head_read = o.opened e i ⟶ then_part x.path

        for_none : (b : Bool) → Fails rule (Lex text) (behind_for e f) end (for_slots w e f) p.prev_token_end → NoStatement text (placed b f) p.prev_token_end
        for_none b n = alone_fails alone b (after_statement (placed b f)) (λ l cs vs y d. d) (λ l cs vs y d. d) (o.line e i ▹✗ fails_node (inside_for w b e f p.prev_token_end) n)

      pub body_stops : (b : Bool) (v : Parser) (s : Stop) → Stops u v s (NoStatement text (at Sub f) u.prev_token_end) → Stops p v s (NoStatement text (placed b f) p.prev_token_end)
      body_stops b v s z = go is_one
        where
          go : (Opened text f w p q × Fits w e × (u ≡ r)) ⊎ NoneTold text f p u → Stops p v s (NoStatement text (placed b f) p.prev_token_end)
          go (inl (o, i, k)) = stops_behind v s head_same (λ g. grown_then o.kept (grown_behind x.path.verdict g)) (λ n. for_none o i b (head_read o i ⟶✗ weaken_fails_on n (on_body e f x.slots x.strips r.prev_token_end))) (subst (λ (t : Parser). Stops t v s (NoStatement text (at Sub f) t.prev_token_end)) k z)
          go (inr t) = stops_behind v s ending_same (λ g. grown_both t.grown g) (λ n. t.none b) z

      module _ {v : Parser} {body : NodeId} (y : Statement text f (at Sub f) u v body) where
        pub for_further : p.token.span.start < v.prev_token_end
        for_further = let i = head_further in let j = ending_at.behind in let k = y.further in let l = ap (λ (t : Parser). t.prev_token_end) beside_ending in omega arith

        for_path : (b : Bool) → Path text f (after_statement (placed b f)) (such (placed b f) always) p nothing v (tree (flagged_here (kind_of (node_of e)) no_op (flag w await_flag) p v) (append x.slots (tree y.label y.slots end)))
        for_path b = go is_one
          where
            go : (Opened text f w p q × Fits w e × (u ≡ r)) ⊎ NoneTold text f p u → Path text f (after_statement (placed b f)) (such (placed b f) always) p nothing v (tree (flagged_here (kind_of (node_of e)) no_op (flag w await_flag) p v) (append x.slots (tree y.label y.slots end)))
            go (inl (o, i, k)) = by_symbol_as {X' = after_statement (placed b f)} (λ l cs vs y d. d) (alone_path (alone o i) b (after_statement (placed b f)) (λ l cs vs y d. d) (λ l cs vs y d. d) (o.line e i ⟼ flagged_by a (inside_for w b e f p.prev_token_end) (head_read o i ⟶ subst (λ (t : Parser). Path text f (behind (behind_for e f) (λ us. append x.slots us)) (symbol Sub f) t nothing v (tree y.label y.slots)) k (statement_read y (on_body e f x.slots x.strips u.prev_token_end)))))
            go (inr t) = record {
              at = y.at;
              further = for_further;
              pass = λ ls. m.pass (x.path.pass (y.pass ls));
              walked = walked_both head_walked (walked_from (ap spot beside_ending) y.walked);
              verdict = unclean (grown_on t.grown y.verdict) (t.none b);
            }

        pub for_answers : (b : Bool) {t : Parser} {id : NodeId} {js : List (Option NodeId)} (s : Span) → js ≡ ids ++ Some body ∷ [] → s.start ≡ p.token.span.start → s.end ≡ v.prev_token_end → (k : MadeKind) → k ≡ node_of e → MadeHere (for_label k w s) js v t id → Statement text f (placed b f) p t id
        for_answers b {t} {id} {js} s g c d k o n =
            let l : for_label k w s ≡ flagged_here (kind_of (node_of e)) no_op (flag w await_flag) p v = rw (o, c, d) refl in
            let made : MadeHere (flagged_here (kind_of (node_of e)) no_op (flag w await_flag) p v) js v t id = subst (λ (z : Label). MadeHere z js v t id) l n in
            let nodes : u.nodes ≡ r.nodes = ap (λ (z : Parser). z.nodes) beside_ending in
            let kr : Keeps p.nodes r.nodes = subst (λ (ns : List Node). Keeps ns r.nodes) m.nodes x.keeps in
            let hr : HoldsAll r.nodes (length p.nodes) (length r.nodes) ids x.slots = subst (λ (ns : List Node). HoldsAll r.nodes (length ns) (length r.nodes) ids x.slots) m.nodes x.held in
            let ku : Keeps p.nodes u.nodes = subst (λ (ns : List Node). Keeps p.nodes ns) (sym nodes) kr in
            let hu : HoldsAll u.nodes (length p.nodes) (length u.nodes) ids x.slots = subst (λ (ns : List Node). HoldsAll ns (length p.nodes) (length ns) ids x.slots) (sym nodes) hr in
            let hv : HoldsAll v.nodes (length p.nodes) (length v.nodes) js (append x.slots (tree y.label y.slots end)) = subst (λ (is : List (Option NodeId)). HoldsAll v.nodes (length p.nodes) (length v.nodes) is (append x.slots (tree y.label y.slots end))) (sym g) (HoldsAll-next body y.keeps hu y.holds) in
            by_such_statement (for_path b) (λ o. y.closed (sym (lacks_append x.slots y.label y.slots) ∙ (and_parts (ends_in_sub (kind_of (node_of e))) _ o).1)) (same_both ending_same y.same) made.stays
            (node_held made hv) (Keeps-trans ku (Keeps-trans y.keeps (Keeps-made made.made))) refl (one_lies made)

-- ---- what is told has its mark

pub await_marked : {text : List ℕ} {f : Flags} {p : Parser} → At text f p → StandsHere p kind.Await true → Mark (goal p) p.text (await_at p.token.span)
await_marked {p = p} a h =
    let y = found a (uncut a (ap (same_kind kind.RAngle) h.0)) (ap is_last h.0) in
    let o = a_lexeme a.at.reached (subst (λ (t : List ℕ). NextLexeme all_faults t p.prev_token_end y.0) (sym a.text_is) y.1) in
    record {
      ordered = a.at.lies.ordered;
      within = a.at.lies.ends_whole.0;
      begins_between = a.at.lies.starts_whole;
      ends_between = a.at.lies.ends_whole;
      stands = ((the_start o (sym y.2.start), the_end o (sym y.2.end)), (refl, refl));
    }

pub ending_marked : {text : List ℕ} {f : Flags} {p r : Parser} {start : ℕ} → At text f p → StandsHere p kind.For true → Same p r → At text f r → EdgeOf (goal r) r.text r.prev_token_end → start ≡ p.token.span.start → p.token.span.start < r.prev_token_end → Mark (goal r) r.text (no_of_from start r.prev_token_end)
ending_marked {text} {f} {p} {r} {start} a h s b g e l =
    let y = found a (uncut a (ap (same_kind kind.RAngle) h.0)) (ap is_last h.0) in
    let t : r.text ≡ p.text = s.follows.text in
    let o = a_lexeme (subst (λ (v : List ℕ). Reached v p.prev_token_end) (sym t) a.at.reached) (subst (λ (v : List ℕ). NextLexeme all_faults v p.prev_token_end y.0) (sym b.text_is) y.1) in
    record {
      ordered = omega arith;
      within = b.at.between.0;
      begins_between = subst (λ (v : List ℕ). IsCharBoundary v start) (sym t) (subst (λ (v : ℕ). IsCharBoundary p.text v) (sym e) a.at.lies.starts_whole);
      ends_between = b.at.between;
      stands = ((subst (λ (v : ℕ). EdgeOf (goal r) r.text v) (sym e) (the_start o (sym y.2.start)), g), (refl, refl));
    }
