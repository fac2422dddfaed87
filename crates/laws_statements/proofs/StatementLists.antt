-- Directives and statements, one behind the other.
use Rattle.laws_shared.proofs.Escapes.{keyword_none}
use Rattle.laws_shared.proofs.MadeNodes.{held_label, one_lies, LabelLies, from_start}
use Rattle.std.proofs.Common.{ℕ, ◌≡◌, ◌<◌, max, List, [], ◌∷◌, ◌++◌, length, Bool, true, false, not, ◌&&◌, ◌||◌, cond, IsTrue, Option, Some, refl, sym, ap, subst, arith, ◌∙◌}
use Rattle.std.specs.Prelude.{◌↔◌, Result, Ok, Err}
use Rattle.std.proofs.lemmas.Bool.{false≢true, and_parts, and_from}
use Rattle.js_base.specs.declared.kind.Kind.{Kind}
use Rattle.js_base.specs.declared.kind.Kind.TheVariants.{Async, Case, Default, Eof, Import, RCurly, Let, Str, Undetermined}
use Rattle.js_base.specs.declared.span.Span.{Span}
use Rattle.js_base.specs.Contexts.{has_flag, in_flag}
use Rattle.js_base.specs.Kinds.{same_kind, one_of_kinds}
use Rattle.js_base.specs.KindSets.{binding_identifier_kinds}
use Rattle.js_grammar.specs.Trees.{Label, Slots, end, tree, append, no_op, directive, expression_statement}
use Rattle.js_grammar.specs.Grammar.{Lexeme, Lexemes, Look, is, here, seen, seq, alt, many, such, nothing, Takes, is_nothing, is_seq, is_left, is_right, is_many, is_such}
use Rattle.js_grammar.specs.Insertion.{goes_on}
use Rattle.js_grammar.specs.Conditions.{not_string}
use Rattle.js_grammar.specs.Lexed.{Lexes}
use Rattle.js_grammar.specs.Parsing.{Test, plain, always, still, Goes, Fails}
use Rattle.js_grammar.specs.Productions.{G, Flags, at, opt, ListItem, ImportDecl, Item, Labeled, Directive, Expression}
use Rattle.js_grammar.specs.Productions.{sym as symbol}
use Rattle.js_grammar.specs.Table.{rule, rule_of, string}
use Rattle.js_grammar.specs.Follow.{row_of, after}
use Rattle.js_grammar.proofs.Looks.{covers, covered, apart}
use Rattle.js_grammar.proofs.Calculus.{Between, Sure, ◌▹◌, ◌▹✗◌, stay, same, passes_none, left, right, by_plain, by_rule, then_by, tested, more_of, part_fails, fails_alt, fails_test, fails_tested, fails_under, fails_ended, fails_rule, fails_node, inside_plain, here_at}
use Rattle.js_grammar.proofs.FirstRules.{by_first}
use Rattle.js_grammar.proofs.FirstClaims.{firsts}
use Rattle.js_grammar.proofs.FollowLaws.{expression_ended, surely}
use Rattle.js_grammar.proofs.Frame.{append_assoc}
use Rattle.js_grammar.specs.Follow.{surest}
use Rattle.laws_shared.specs.js_tree.declared.id.NodeId.{NodeId}
use Rattle.laws_shared.specs.js_tree.declared.kind.NodeKind.{NodeKind}
use Rattle.laws_shared.specs.js_tree.declared.kind.NodeKind.TheVariants as node
use Rattle.laws_shared.specs.js_tree.declared.op.Op.TheVariants as op
use Rattle.laws_shared.specs.js_tree.Labels.{kind_of}
use Rattle.laws_shared.specs.js_tree.Nodes.{Node, node_at, label}
use Rattle.laws_shared.specs.js_tree.Holding.{Holds, HoldsAll, Keeps}
use Rattle.laws_shared.proofs.js_tree.HoldingLemmas.{HoldsAll-none, HoldsAll-next, Holds-below, Keeps-refl, Keeps-trans, Keeps-made}
use Rattle.laws_shared.specs.js_cursor.Moves.{is_last}
use Rattle.laws_shared.specs.js_cursor.Parsers.{Parser}
use Rattle.laws_shared.specs.js_cursor.declared.stop.Stop.{Stop}
use Rattle.laws_shared.specs.Lexemes.{Lex, nowhere, keyword_kind}
use Rattle.laws_shared.specs.States.{At, Same, NodesLie}
use Rattle.laws_shared.specs.Nesting.{room}
use Rattle.laws_shared.specs.Moves.{MadeHere, plain_label}
use Rattle.laws_shared.specs.Answers.{Grown, Verdict, clean, unclean, wider, Stretch, Underived, Answer, Numbered}
use Rattle.laws_shared.specs.Statements.{statement_kinds, no_link, after_statement, NoStatement, Statement, EndsStatement, NoEnd, StatementOutcome}
use Rattle.laws_statements.specs.StatementLists.{at_end, ends_at, ends_list, has_directives, item_of, list_of, with_directives, statements, NoList, OneTaken, Taken, OpeningTaken}
use Rattle.laws_statements.specs.declared.forms.StatementList.{StatementList}
use Rattle.laws_statements.specs.declared.forms.StatementList.TheVariants.{Text, Block, Body, Clause}
use Rattle.laws_shared.proofs.Verdicts.{verdict_of, either_way, and_then}
use Rattle.laws_shared.proofs.Moving.{same_both, same_itself, same_with, beside_nodes, stops_so}
use Rattle.laws_shared.proofs.MadeNodes.{one_held}
use Rattle.laws_shared.proofs.Paths.{Path, ◌⟶✗◌, not_here, fails_at, noded_by, by_symbol_as, label_here, walked_both}
use Rattle.laws_shared.proofs.Signs.{other_kind}
use Rattle.laws_statements.specs.LetStatements.{LetIsName}
use Rattle.laws_statements.proofs.WordLookaheads.{AsyncIsName, no_async_here, no_let_here}
use Rattle.laws_statements.proofs.Statements.{to_semicolon, end_path, unended, statement_path, statement_fails, statement_unended, ended_so, no_label_at}
use Rattle.laws_statements.proofs.Strings.{is_literal, string_first, string_alone, string_expression, first_is_string, stated, stating, string_statement, other_statement}

-- ---- lists that grew, or did not

cancelled : {K : Type 0} (a m : List K) → a ≡ a ++ m → m ≡ []
cancelled [] m e = sym e
cancelled (x ∷ a) m e = cancelled a m cc

not_grown : {K : Type 0} {p q : List K} → q ≡ p → Grown p q → ⊥
not_grown {p = p} e g = g.some (cancelled p g.more (sym e ∙ g.kept))

-- what is said of a call that kept something
pub uncleanly : {W K : Type 0} {p q : List K} {C B : Type 0} → Grown p q → (C → B) → Verdict W p q C B → B
uncleanly g k (clean h c) = absurd (not_grown h g)
uncleanly g k (unclean h n) = n
uncleanly g k (wider w h c) = k c

-- ---- the grammar of a list

abbrev directives : Flags → G
directives f = symbol Directive f

-- what stands behind the directives
abbrev behind_directives : StatementList → Flags → G
behind_directives sl f = opt (seq (such (at (item_of sl) f) not_string) (statements sl f))

-- several, and something behind them: one more, or none
pub unrolled : {text : List ℕ} {X : Test} {a b : G} {s : ℕ} → Goes rule (Lex text) X end (seq (many a) b) s (alt (seq a (seq (many a) b)) b) s (λ us. us) (still 0)
unrolled = same (λ ts us i j ls rest d. to d) (λ ts us i j ls rest d. of d)
  where
    to : {a b : G} {ks ts us : Slots} {i j : ℕ} {ls rest : Lexemes} → Takes rule (seq (many a) b) ks ts i ls us j rest → Takes rule (alt (seq a (seq (many a) b)) b) ks ts i ls us j rest
    to (is_seq (is_many (is_left (is_seq d e))) r) = is_left (is_seq d (is_seq e r))
    to (is_seq (is_many (is_right is_nothing)) r) = is_right r

    of : {a b : G} {ks ts us : Slots} {i j : ℕ} {ls rest : Lexemes} → Takes rule (alt (seq a (seq (many a) b)) b) ks ts i ls us j rest → Takes rule (seq (many a) b) ks ts i ls us j rest
    of (is_left (is_seq d (is_seq e r))) = is_seq (is_many (is_left (is_seq d e))) r
    of (is_right r) = is_seq (is_many (is_right is_nothing)) r

-- one directive more, or none
split : {text : List ℕ} {X : Test} {s : ℕ} (sl : StatementList) (f : Flags) → Goes rule (Lex text) X end (with_directives sl f) s (alt (seq (directives f) (with_directives sl f)) (behind_directives sl f)) s (λ us. us) (still 0)
split sl f = unrolled

-- what may stand behind every statement
abbrev surely_behind : StatementList → Look
surely_behind sl k w e = no_link k w e && surest (item_of sl) k w e

surely_statement : (sl : StatementList) (f : Flags) → Sure (surely_behind sl) (after_statement (at (item_of sl) f))
surely_statement sl f = record { admits = λ ts y h. let x = and_parts (seen no_link y) _ h in let z = (surely (at (item_of sl) f)).admits ts y x.1 in (and_from _ _ x.0 z.0, z.1) }

-- statements stand behind a statement, and whatever behind a directive
before_statements : (sl : StatementList) {f : Flags} {ks : Slots} {a : G} {s : ℕ} → Between rule (plain (at_end sl)) (after_statement (at (item_of sl) f)) ks a (statements sl f) s
unfolding covers
before_statements Text {f} = by_first firsts (surely_statement Text f) refl
before_statements Block {f} = by_first firsts (surely_statement Block f) refl
before_statements Body {f} = by_first firsts (surely_statement Body f) refl
before_statements Clause {f} = by_first firsts (surely_statement Clause f) refl

before_list : (sl : StatementList) {f : Flags} {ks : Slots} {a : G} {s : ℕ} → Between rule (plain (at_end sl)) (plain no_link) ks a (with_directives sl f) s
unfolding covers
before_list Text = by_first firsts (by_plain no_link) refl
before_list Block = by_first firsts (by_plain no_link) refl
before_list Body = by_first firsts (by_plain no_link) refl
before_list Clause = by_first firsts (by_plain no_link) refl

-- ---- items

-- no declaration of an import stands at a place
abbrev pub NoImport : List ℕ → Flags → ℕ → Type 0
NoImport text f s = Fails rule (Lex text) (after_statement (at Item f)) end (symbol ImportDecl f) s

-- there an item of a text is one of a list
item_rule : {text : List ℕ} {f : Flags} {s : ℕ} → NoImport text f s → Goes rule (Lex text) (after_statement (at Item f)) end (rule (at Item f)) s (symbol ListItem f) s (λ us. us) (still 0)
unfolding rule rule_of
item_rule n = left (fails_under n)

item_stretch : (sl : StatementList) {text : List ℕ} {f : Flags} {s s' : ℕ} {l : Label} {cs : Slots} {pass : Lexemes → Lexemes} → NoImport text f s → Stretch text (after_statement (at ListItem f)) (symbol ListItem f) s nothing s' (tree l cs) pass → Stretch text (after_statement (at (item_of sl) f)) (symbol (item_of sl) f) s nothing s' (tree l cs) pass
item_stretch Text {f = f} n y = record { reach = max 0 y.reach; near = let k = y.near in omega arith; goes = by_rule {X' = after_statement (at Item f)} (λ l cs vs z d. d) (item_rule n ▹ y.goes) refl }
item_stretch Block n y = y
item_stretch Body n y = y
item_stretch Clause n y = y

no_item : (sl : StatementList) {text : List ℕ} {f : Flags} {s : ℕ} → NoImport text f s → NoStatement text (at ListItem f) s → NoStatement text (at (item_of sl) f) s
no_item Text {f = f} i n = fails_rule {X' = after_statement (at Item f)} (λ l cs vs y e. e) (item_rule i ▹✗ n)
no_item Block i n = n
no_item Body i n = n
no_item Clause i n = n

-- an item of a list, as one of a text
pub as_item : {text : List ℕ} {f : Flags} (p q : Parser) (r : Result NodeId Stop) → NoImport text f p.prev_token_end → StatementOutcome text f (at ListItem f) p q r → StatementOutcome text f (at Item f) p q r
as_item p q (Ok id) n x = record { at = x.at; same = x.same; further = x.further; label = x.label; slots = x.slots; closed = x.closed; pass = x.pass; walked = x.walked; verdict = verdict_of x.verdict (λ y. item_stretch Text n y) (λ m. no_item Text n m); holds = x.holds; keeps = x.keeps }
as_item p q (Err e) n x = stops_so p q e (λ m. no_item Text n m) x

-- the items of another list than that of a text
pub listed : (n : StatementList) → (n ≡ Text → ⊥) → item_of n ≡ ListItem
listed Text o = absurd (o refl)
listed Block o = refl
listed Body o = refl
listed Clause o = refl

not_the_one : (a k : Kind) → same_kind a k ≡ false → one_of_kinds (a ∷ []) k ≡ false
not_the_one a k n = ap (λ (b : Bool). b || false) n

-- it isn't what ends the list that stands here
not_end : (sl : StatementList) {text : List ℕ} {f : Flags} {p : Parser} → At text f p → ends_at sl p.token.kind ≡ false → Fails rule (Lex text) (plain (at_end sl)) end nothing p.prev_token_end
unfolding covers apart
not_end Text {p = p} a n = fails_at a {X = plain (at_end Text)} nothing (Eof ∷ []) refl (not_the_one Eof p.token.kind n)
not_end Block {p = p} a n = fails_at a {X = plain (at_end Block)} nothing (RCurly ∷ []) refl (not_the_one RCurly p.token.kind n)
not_end Body {p = p} a n = fails_at a {X = plain (at_end Body)} nothing (RCurly ∷ []) refl (not_the_one RCurly p.token.kind n)
not_end Clause {p = p} a n = fails_at a {X = plain (at_end Clause)} nothing (Case ∷ Default ∷ RCurly ∷ []) refl n

module _ {text : List ℕ} {f : Flags} {p : Parser} (a : At text f p) (sl : StatementList) (n : ends_at sl p.token.kind ≡ false) where
  one_more : {s : ℕ} {l : Label} {cs : Slots} {pass : Lexemes → Lexemes} → Stretch text (after_statement (at (item_of sl) f)) (symbol (item_of sl) f) p.prev_token_end nothing s (tree l cs) pass → Stretch text (plain (at_end sl)) (statements sl f) p.prev_token_end (statements sl f) s (tree l cs) pass
  one_more y = record { reach = max 0 (max 0 y.reach); near = let k = y.near in omega arith; goes = more_of ▹ left (not_end sl a n) ▹ then_by y.goes (before_statements sl) }

  pub no_more : NoStatement text (at (item_of sl) f) p.prev_token_end → NoList text sl (statements sl f) p.prev_token_end
  no_more x = more_of ▹✗ fails_alt (part_fails x (before_statements sl)) (not_end sl a n)

  -- a statement more
  pub statement_taken : {q : Parser} {id : NodeId} → Statement text f (at (item_of sl) f) p q id → OneTaken text f sl (statements sl f) (statements sl f) p q id
  statement_taken x = record {
    at = x.at;
    same = x.same;
    further = x.further;
    label = x.label;
    slots = x.slots;
    pass = x.pass;
    walked = x.walked;
    verdict = verdict_of x.verdict (λ y. one_more y) (λ m. no_more m);
    holds = x.holds;
    keeps = x.keeps;
  }

  -- a statement that is none of a string alone, where no directive stands
  statement_first : {s : ℕ} {l : Label} {cs : Slots} {pass : Lexemes → Lexemes} → not_string (record { label = l; slots = cs }) ≡ true → Fails rule (Lex text) (plain no_link) end (directives f) p.prev_token_end → Stretch text (after_statement (at (item_of sl) f)) (symbol (item_of sl) f) p.prev_token_end nothing s (tree l cs) pass
      → Stretch text (plain (at_end sl)) (with_directives sl f) p.prev_token_end (statements sl f) s (tree l cs) pass
  statement_first t d y = record { reach = max 0 (max 0 (max 0 y.reach)); near = let k = y.near in omega arith; goes = split sl f ▹ right (part_fails d (before_list sl)) ▹ left (not_end sl a n) ▹ then_by (tested y.goes t) (before_statements sl) }

  -- no statement is derived that is none of a string alone
  abbrev NoTested : Type 0
  NoTested = Fails rule (Lex text) (after_statement (at (item_of sl) f)) end (such (at (item_of sl) f) not_string) p.prev_token_end

  none_tested : Fails rule (Lex text) (plain no_link) end (directives f) p.prev_token_end → NoTested → NoList text sl (with_directives sl f) p.prev_token_end
  none_tested d x = split sl f ▹✗ fails_alt (part_fails d (before_list sl)) (fails_alt (part_fails x (before_statements sl)) (not_end sl a n))

  none_first : Fails rule (Lex text) (plain no_link) end (directives f) p.prev_token_end → NoStatement text (at (item_of sl) f) p.prev_token_end → NoList text sl (with_directives sl f) p.prev_token_end
  none_first d x = none_tested d (fails_tested x)

  -- a directive
  directive_first : {s : ℕ} {l : Label} {cs : Slots} {pass : Lexemes → Lexemes} → NoTested → Stretch text (plain no_link) (directives f) p.prev_token_end nothing s (tree l cs) pass
      → Stretch text (plain (at_end sl)) (with_directives sl f) p.prev_token_end (with_directives sl f) s (tree l cs) pass
  directive_first x y = record { reach = max 0 (max 0 y.reach); near = let k = y.near in omega arith; goes = split sl f ▹ left (fails_alt (part_fails x (before_statements sl)) (not_end sl a n)) ▹ then_by y.goes (before_list sl) }

-- ---- statements that begin with a string

module _ {text : List ℕ} {f : Flags} {p q : Parser} (x : Answer text f (at Expression f) p q) where
  string_path : is_literal x.label.kind ≡ true → Path text f (after (at Expression f)) string p nothing q (tree x.label x.slots)
  string_path t = record {
    at = x.at;
    further = x.further;
    pass = x.pass;
    walked = x.walked;
    verdict = verdict_of x.verdict
        (λ y. record { reach = y.reach; near = y.near; goes = record { passes = y.goes.passes; sound = λ us vs k ls rest l r d. string_alone (y.goes.sound us vs k ls rest l r d) t; only = λ ts vs k ls rest l d e. y.goes.only ts vs k ls rest l (string_expression d) e } })
        (λ n. record { no = λ ts vs k ls rest l d e. n.no ts vs k ls rest l (string_expression d) e });
  }

  no_string : is_literal x.label.kind ≡ false → Fails rule (Lex text) (after (at Expression f)) end string p.prev_token_end
  no_string t = either_way x.verdict
      (λ y. record { no = λ ts vs k ls rest l d e. let z = y.goes.only ts vs k ls rest l (string_expression d) e in false≢true (sym t ∙ (sym (ap string_first z.2) ∙ first_is_string d)) })
      (λ n. record { no = λ ts vs k ls rest l d e. n.no ts vs k ls rest l (string_expression d) e })

no_directive : {text : List ℕ} {f : Flags} {s : ℕ} → Fails rule (Lex text) (after (at Expression f)) end string s → Fails rule (Lex text) (plain no_link) end (directives f) s
unfolding rule rule_of covers
no_directive {f = f} n = fails_rule {X' = plain no_link} (λ l cs vs y e. (e.0, refl)) (fails_node (inside_plain {F' = no_link} refl) (fails_ended n (λ cs j ls mid l d h. expression_ended f no_link (string_expression d) (here ls) h)))

underived_string : {text : List ℕ} {f : Flags} {s : ℕ} → Underived text (at Expression f) s → Fails rule (Lex text) (after (at Expression f)) end string s
underived_string n = record { no = λ ts vs k ls rest l d e. n.no ts vs k ls rest l (string_expression d) e }

-- a node of what was taken
one_taken : {text : List ℕ} {f : Flags} {sl : StatementList} {g g' : G} {p q w : Parser} {l : Label} {cs : Slots} {id : NodeId} → Path text f (plain (at_end sl)) g p g' q (tree l cs) → Same p q → w ≡ record q { nodes = w.nodes } → Holds w.nodes (length p.nodes) (length w.nodes) id.0 l cs → Keeps p.nodes w.nodes → (l.span ≡ record { from = p.token.span.start; to = q.prev_token_end }) → (LabelLies q.text l → NodesLie q.text q.nodes → NodesLie q.text w.nodes) → OneTaken text f sl g g' p w id
one_taken {text} {f} {sl} {g} {g'} {p} {q} {w} {l} {cs} {id} y b e h k i m = go w.nodes e h k m
  where
    go : (ns : List Node) → w ≡ record q { nodes = ns } → Holds w.nodes (length p.nodes) (length w.nodes) id.0 l cs → Keeps p.nodes w.nodes → (LabelLies q.text l → NodesLie q.text q.nodes → NodesLie q.text w.nodes) → OneTaken text f sl g g' p w id
    go ns e h k m = subst (λ (r : Parser). OneTaken text f sl g g' p r id) (sym e) (record {
      at = beside_nodes ns y.at;
      same = same_with ns b (subst (λ (r : Parser). Keeps p.nodes r.nodes) e k) (λ c z. subst (λ (r : Parser). NodesLie q.text r.nodes) e (m (from_start l b y.at.at (let g = y.further in omega arith) i c) z));
      further = y.further;
      label = l;
      slots = cs;
      pass = y.pass;
      walked = y.walked;
      verdict = y.verdict;
      holds = subst (λ (r : Parser). Holds r.nodes (length p.nodes) (length r.nodes) id.0 l cs) e h;
      keeps = subst (λ (r : Parser). Keeps p.nodes r.nodes) e k;
    })

string_kind : (k : NodeKind) → is_literal (kind_of k) ≡ true → k ≡ node.StringLiteral
string_kind node.StringLiteral h = refl
string_kind _ h = absurd (false≢true h)

-- what the code asks of the node
literal_of : (b : Bool) (k : NodeKind) → IsTrue b ↔ (k ≡ node.StringLiteral) → is_literal (kind_of k) ≡ b
literal_of true k i = ap (λ (v : NodeKind). is_literal (kind_of v)) (i.0 refl)
literal_of false k i = go (is_literal (kind_of k)) refl
  where
    go : (c : Bool) → is_literal (kind_of k) ≡ c → is_literal (kind_of k) ≡ false
    go true e = absurd (false≢true (i.1 (string_kind k e)))
    go false e = e

abbrev left_by : StatementList → Bool → Flags → G
left_by sl b f = cond b (with_directives sl f) (statements sl f)

module _ {text : List ℕ} {f : Flags} {p : Parser} (a : At text f p) (s : p.token.kind ≡ Str) where
  not_eof : (sl : StatementList) → ends_at sl p.token.kind ≡ false
  not_eof Text = ap (ends_at Text) s
  not_eof Block = ap (ends_at Block) s
  not_eof Body = ap (ends_at Body) s
  not_eof Clause = ap (ends_at Clause) s

  pub no_own_kind : one_of_kinds statement_kinds (keyword_kind p.token) ≡ false
  no_own_kind = keyword_none p.token statement_kinds (ap (one_of_kinds statement_kinds) s) refl

  -- no import begins with it
  no_import : NoImport text f p.prev_token_end
  unfolding covers apart
  no_import = fails_at a (symbol ImportDecl f) (Import ∷ []) refl (ap (one_of_kinds (Import ∷ [])) s)

  no_let : LetIsName text true p.prev_token_end
  no_let = no_let_here a (λ k e. let q : Str ≡ Let = sym s ∙ k in absurd (cc)) true

  no_async : AsyncIsName text p.prev_token_end
  no_async = no_async_here a (λ k e. let q : Str ≡ Async = sym s ∙ k in absurd (cc))

  no_label : (X : Test) → Fails rule (Lex text) X end (symbol Labeled f) p.prev_token_end
  no_label X = no_label_at a (ap (one_of_kinds binding_identifier_kinds) s) X

  -- neither an expression stands here, nor a directive
  pub no_opening : (sl : StatementList) → Underived text (at Expression f) p.prev_token_end → NoList text sl (with_directives sl f) p.prev_token_end
  no_opening sl n = none_first a sl (not_eof sl) (no_directive (underived_string n)) (no_item sl no_import (statement_fails a no_own_kind no_label no_async true no_let n))

  module _ {q : Parser} (x : Answer text f (at Expression f) p q) where
    -- no statement ends behind it
    pub opening_unended : (sl : StatementList) → NoEnd q → NoList text sl (with_directives sl f) p.prev_token_end
    unfolding rule rule_of covers
    opening_unended sl m = none_first a sl (not_eof sl) (go (is_literal x.label.kind) refl) (no_item sl no_import (statement_unended a no_own_kind no_label no_async true no_let x m))
      where
        go : (b : Bool) → is_literal x.label.kind ≡ b → Fails rule (Lex text) (plain no_link) end (directives f) p.prev_token_end
        go true t = fails_rule {X' = plain no_link} (λ l cs vs y e. (e.0, refl)) (fails_node (inside_plain refl) (to_semicolon (λ ds i j ls mid d. string_expression d) (string_path x t) ⟶✗ unended x.at (goes_on (row_of x.label x.slots)) m))
        go false t = no_directive (no_string x t)

    module _ {r : Parser} (i : f.in_ ≡ true) (e : EndsStatement q r) where
      directive_path : is_literal x.label.kind ≡ true → Path text f (plain no_link) (directives f) p nothing r (tree (label_here directive no_op p r) (tree x.label x.slots end))
      unfolding rule rule_of covers
      directive_path t = by_symbol_as {X' = plain no_link} (λ l cs vs y d. (d.0, refl)) (noded_by a (inside_plain refl) (end_path i x e (to_semicolon (λ ds i j ls mid d. string_expression d) (string_path x t))))

      item_path : Path text f (after_statement (at ListItem f)) (symbol ListItem f) p nothing r (tree (label_here expression_statement no_op p r) (tree x.label x.slots end))
      item_path = by_symbol_as {X' = after_statement (at ListItem f)} (λ l cs vs y d. d) (statement_path a no_own_kind no_label no_async true no_let i x e)

      -- and no statement stands here that is none of a string alone
      no_other : (sl : StatementList) → is_literal x.label.kind ≡ true → Fails rule (Lex text) (after_statement (at (item_of sl) f)) end (such (at (item_of sl) f) not_string) p.prev_token_end
      no_other sl t = either_way item_path.verdict (λ z. fails_test (item_stretch sl no_import z).goes (string_statement x.label (label_here expression_statement no_op p r) x.slots x.label.kind refl t)) (λ n. fails_tested (no_item sl no_import n))

      as_directive : (sl : StatementList) → is_literal x.label.kind ≡ true → Path text f (plain (at_end sl)) (with_directives sl f) p (with_directives sl f) r (tree (label_here directive no_op p r) (tree x.label x.slots end))
      as_directive sl t = let d = directive_path t in record {
        at = d.at;
        further = d.further;
        pass = d.pass;
        walked = d.walked;
        verdict = verdict_of d.verdict (λ y. directive_first a sl (not_eof sl) (no_other sl t) y) (λ m. none_tested a sl (not_eof sl) m (no_other sl t));
      }

      as_statement : (sl : StatementList) → is_literal x.label.kind ≡ false → Path text f (plain (at_end sl)) (with_directives sl f) p (statements sl f) r (tree (label_here expression_statement no_op p r) (tree x.label x.slots end))
      as_statement sl t = let d = no_directive (no_string x t) in record {
        at = item_path.at;
        further = item_path.further;
        pass = item_path.pass;
        walked = item_path.walked;
        verdict = verdict_of item_path.verdict (λ y. statement_first a sl (not_eof sl) (other_statement x.label (label_here expression_statement no_op p r) x.slots x.label.kind refl t) d (item_stretch sl no_import y)) (λ n. none_first a sl (not_eof sl) d (no_item sl no_import n));
      }

-- a statement that begins with a string, and its node
opening_node : {text : List ℕ} {f : Flags} {sl : StatementList} {g g' : G} {p q r w : Parser} {child id : NodeId} {l : Label} (k : NodeKind) (s : Span) (x : Numbered text f (at Expression f) p q child) → EndsStatement q r → plain_label k op.None s ≡ l → MadeHere (plain_label k op.None s) (Some child ∷ []) r w id → Path text f (plain (at_end sl)) g p g' r (tree l (tree x.answer.label x.answer.slots end)) → l.span ≡ record { from = p.token.span.start; to = r.prev_token_end } → OneTaken text f sl g g' p w id
opening_node {text} {f} {sl} {g} {g'} {p} {q} {r} {w} {child} {id} {l} k s x e u d y i =
    let made : MadeHere l (Some child ∷ []) r w id = subst (λ (v : Label). MadeHere v (Some child ∷ []) r w id) u d in
    let z = ended_so x.answer.at e in
    let ks : Keeps p.nodes r.nodes = subst (λ (ns : List Node). Keeps p.nodes ns) (sym z.nodes) x.keeps in
    one_taken y (same_both x.answer.same z.same) made.stays (one_held p.nodes made (subst (λ (ns : List Node). Holds ns (length p.nodes) (length ns) child.0 x.answer.label x.answer.slots) (sym z.nodes) x.holds)) (Keeps-trans ks (Keeps-made made.made)) i (one_lies made)

pub opening_answers : (sl : StatementList) {text : List ℕ} {f : Flags} {p q r w : Parser} {child id : NodeId} (b : Bool) (k : NodeKind) (s : Span) → At text f p → p.token.kind ≡ Str → f.in_ ≡ true → (x : Numbered text f (at Expression f) p q child) → EndsStatement q r → IsTrue b ↔ ((node_at r.nodes child).kind ≡ node.StringLiteral) → k ≡ cond b node.Directive node.ExpressionStatement → s.start ≡ p.token.span.start → s.end ≡ r.prev_token_end → MadeHere (plain_label k op.None s) (Some child ∷ []) r w id
    → OneTaken text f sl (with_directives sl f) (left_by sl b f) p w id
opening_answers sl {text} {f} {p} {q} {r} {w} {child} {id} b k s a t i x e n u c d m = go b n u
  where
    is_label : x.answer.label ≡ label (node_at r.nodes child)
    is_label = held_label child (subst (λ (ns : List Node). Holds ns (length p.nodes) (length ns) child.0 x.answer.label x.answer.slots) (sym (ended_so x.answer.at e).nodes) x.holds)

    literal : (b : Bool) → IsTrue b ↔ ((node_at r.nodes child).kind ≡ node.StringLiteral) → is_literal x.answer.label.kind ≡ b
    literal b n = ap (λ (l : Label). is_literal l.kind) is_label ∙ literal_of b (node_at r.nodes child).kind n

    go : (b : Bool) → IsTrue b ↔ ((node_at r.nodes child).kind ≡ node.StringLiteral) → k ≡ cond b node.Directive node.ExpressionStatement → OneTaken text f sl (with_directives sl f) (left_by sl b f) p w id
    go true n u = opening_node k s x e (rw (u, c, d) refl) m (as_directive a t x.answer i e sl (literal true n)) refl
    go false n u = opening_node k s x e (rw (u, c, d) refl) m (as_statement a t x.answer i e sl (literal false n)) refl

-- the number of an expression lies among the nodes
pub child_below : {text : List ℕ} {f : Flags} {p q r : Parser} {child : NodeId} → (x : Numbered text f (at Expression f) p q child) → EndsStatement q r → child.0 < length r.nodes
child_below {child = child} x e = subst (λ (ns : List Node). child.0 < length ns) (sym (ended_so x.answer.at e).nodes) (Holds-below x.holds)

pub opening_taken : (p w : Parser) (id : NodeId) (b : Bool) → ((sl : StatementList) (text : List ℕ) (f : Flags) → At text f p → OneTaken text f sl (with_directives sl f) (left_by sl b f) p w id) → OpeningTaken p w id b
opening_taken p w id true h = h
opening_taken p w id false h = h

-- ---- lists

append_tree : (h : Slots → Slots) (l : Label) (cs : Slots) → ((us : Slots) → h us ≡ append (h end) us) → (us : Slots) → h (tree l cs us) ≡ append (h (tree l cs end)) us
append_tree h l cs e us = e (tree l cs us) ∙ (sym (append_assoc (h end) (tree l cs end) us) ∙ ap (λ (v : Slots). append v us) (sym (e (tree l cs end))))

module _ {text : List ℕ} {f : Flags} {sl : StatementList} {g : G} where
  pub none_taken : {p : Parser} {ids : List (Option NodeId)} → At text f p → ids ≡ [] → Taken text f sl g g p p ids
  none_taken {p} {ids} a e = record {
    at = a;
    same = same_itself;
    further = omega arith;
    slots = λ us. us;
    appends = λ us. refl;
    pass = λ ls. ls;
    walked = nowhere;
    verdict = clean refl (record { reach = 0; near = omega arith; goes = stay });
    holds = subst (λ (js : List (Option NodeId)). HoldsAll p.nodes (length p.nodes) (length p.nodes) js end) (sym e) (HoldsAll-none p.nodes (length p.nodes) (length p.nodes) (omega arith));
    keeps = Keeps-refl p.nodes;
  }

  pub one_taken_more : {g' g'' : G} {p q r : Parser} {ids js : List (Option NodeId)} {id : NodeId} → Taken text f sl g g' p q ids → OneTaken text f sl g' g'' q r id → js ≡ ids ++ Some id ∷ [] → Taken text f sl g g'' p r js
  one_taken_more {g'} {g''} {p} {q} {r} {ids} {js} {id} s x e = record {
    at = x.at;
    same = same_both s.same x.same;
    further = let i = s.further in let j = x.further in let h = s.at.behind in omega arith;
    slots = λ us. s.slots (tree x.label x.slots us);
    appends = append_tree s.slots x.label x.slots s.appends;
    pass = λ ls. s.pass (x.pass ls);
    walked = walked_both s.walked x.walked;
    verdict = and_then s.verdict x.verdict
        (λ u y. record { reach = max u.reach y.reach; near = let i = u.near in let j = y.near in let k = x.further in let h = s.at.behind in omega arith; goes = u.goes ▹ y.goes })
        (λ m. m)
        (λ u m. u.goes ▹✗ m);
    holds = subst (λ (ks : List (Option NodeId)). HoldsAll r.nodes (length p.nodes) (length r.nodes) ks (s.slots (tree x.label x.slots end))) (sym e) (subst (λ (v : Slots). HoldsAll r.nodes (length p.nodes) (length r.nodes) (ids ++ Some id ∷ []) v) (sym (s.appends (tree x.label x.slots end))) (HoldsAll-next id x.keeps s.holds x.holds));
    keeps = Keeps-trans s.keeps x.keeps;
  }

  -- what is left is read as something else
  pub taken_so : {g' g'' : G} {p q : Parser} {ids : List (Option NodeId)} → Taken text f sl g g' p q ids → Goes rule (Lex text) (plain (at_end sl)) end g' q.prev_token_end g'' q.prev_token_end (λ us. us) (still 0) → Taken text f sl g g'' p q ids
  taken_so s h = record {
    at = s.at;
    same = s.same;
    further = s.further;
    slots = s.slots;
    appends = s.appends;
    pass = s.pass;
    walked = s.walked;
    verdict = verdict_of s.verdict (λ u. record { reach = max u.reach 0; near = let i = u.near in omega arith; goes = u.goes ▹ h }) (λ m. m);
    holds = s.holds;
    keeps = s.keeps;
  }

  -- what is left can't be read
  pub none_left : {g' : G} {p q : Parser} {ids : List (Option NodeId)} → Taken text f sl g g' p q ids → NoList text sl g' q.prev_token_end → NoList text sl g p.prev_token_end
  none_left s n = either_way s.verdict (λ u. u.goes ▹✗ n) (λ m. m)

item_stating : (sl : StatementList) (f : Flags) → stating (such (at (item_of sl) f) always) ≡ true
item_stating Text f = refl
item_stating Block f = refl
item_stating Body f = refl
item_stating Clause f = refl

-- where no string stands, statements follow, and none is one of a string alone
untested : {text : List ℕ} {X : Test} {s : ℕ} (sl : StatementList) (f : Flags) → ((y : Lexeme) → Lex text s y → IsTrue (seen (is Str) y) → ⊥) → Goes rule (Lex text) X end (behind_directives sl f) s (statements sl f) s (λ us. us) (still 0)
untested {text} {X} {s} sl f n = record { passes = passes_none; sound = λ us vs k ls rest l w d. go_sound us vs k ls rest l d; only = λ ts vs k ls rest l d e. go_only ts vs k ls rest l d }
  where
    with_test : {us ws : Slots} {j : ℕ} {ls mid : Lexemes} → Lexes (Lex text) s ls → Takes rule (symbol (item_of sl) f) end us s ls ws j mid → Takes rule (such (at (item_of sl) f) not_string) end us s ls ws j mid
    with_test {j = j} {ls = ls} {mid = mid} l (is_such {l = m} {cs = cs} {us = us} d t) = go (not_string (record { label = m; slots = cs })) refl
      where
        go : (b : Bool) → not_string (record { label = m; slots = cs }) ≡ b → Takes rule (such (at (item_of sl) f) not_string) end (tree m cs us) s ls us j mid
        go true e = is_such d e
        go false e = absurd (n (here ls) (here_at (Lex text) ls l) (stated (such (at (item_of sl) f) always) (is_such {ks = end} {us = us} d t) (item_stating sl f) (ap not e)))

    go_sound : (us vs : Slots) (k : ℕ) (ls rest : Lexemes) → Lexes (Lex text) s ls → Takes rule (statements sl f) end us s ls vs k rest → Takes rule (behind_directives sl f) end us s ls vs k rest
    go_sound us vs k ls rest l (is_many (is_left (is_seq d e))) = is_left (is_seq (with_test l d) e)
    go_sound us vs k ls rest l (is_many (is_right is_nothing)) = is_right is_nothing

    go_only : (ts vs : Slots) (k : ℕ) (ls rest : Lexemes) → Lexes (Lex text) s ls → Takes rule (behind_directives sl f) end ts s ls vs k rest → (us : Slots) × (ls' : Lexemes) × (ts ≡ us) × Lexes (Lex text) s ls' × Takes rule (statements sl f) end us s ls' vs k rest × (ls ≡ ls')
    go_only ts vs k ls rest l (is_left (is_seq (is_such d t) e)) = (ts, ls, refl, l, is_many (is_left (is_seq (is_such d refl) e)), refl)
    go_only ts vs k ls rest l (is_right is_nothing) = (ts, ls, refl, l, is_many (is_right is_nothing), refl)

module _ {text : List ℕ} {f : Flags} {p q : Parser} {ids : List (Option NodeId)} (sl : StatementList) where
  pub statements_follow : Taken text f sl (with_directives sl f) (with_directives sl f) p q ids → (q.token.kind ≡ Str → ⊥) → Taken text f sl (with_directives sl f) (statements sl f) p q ids
  unfolding covers apart
  statements_follow s n =
      let none = other_kind Str q.token.kind n in
      taken_so s (split sl f ▹ right (part_fails (fails_at s.at {X = plain no_link} (directives f) (Str ∷ []) refl none) (before_list sl))
      ▹ untested sl f (λ y l h. not_here s.at (Str ∷ []) refl none y l (covered (is Str) (λ k w e. one_of_kinds (Str ∷ []) k) refl y.kind y.newline y.escaped h)))

-- what ends the list doesn't stand where neither it nor an end stands
pub goes_on_here : (sl : StatementList) (k : Kind) → ends_list sl k ≡ false → ends_at sl k ≡ false
goes_on_here sl k h = or_first (ends_at sl k) (is_last k) h
  where
    or_first : (b c : Bool) → (b || c) ≡ false → b ≡ false
    or_first true c g = absurd (false≢true (sym g))
    or_first false c g = refl

-- the list of a text ends at its end, or where no lexeme stands
pub text_ends : (k : Kind) → ends_list Text k ≡ true → is_last k ≡ true
text_ends k h = once (same_kind Eof k) (same_kind Undetermined k) h
  where
    once : (b c : Bool) → (b || (b || c)) ≡ true → (b || c) ≡ true
    once true c g = refl
    once false c g = g

-- less of the text is left
pub smaller_room : {text : List ℕ} {f : Flags} {sl : StatementList} {g g' : G} {p q : Parser} {id : NodeId} → At text f p → OneTaken text f sl g g' p q id → room q < room p
smaller_room a x = let i = x.further in let y = a.behind in let z = a.at.between.0 in let g = x.same.follows.text in omega (arith, ap length g)

pub opened_statement : {p w : Parser} {id : NodeId} (b : Bool) → b ≡ false → OpeningTaken p w id b → (sl : StatementList) (text : List ℕ) (f : Flags) → At text f p → OneTaken text f sl (with_directives sl f) (statements sl f) p w id
opened_statement true e h = absurd (false≢true (sym e))
opened_statement false e h = h

pub opened_directive : {p w : Parser} {id : NodeId} (b : Bool) → b ≡ true → OpeningTaken p w id b → (sl : StatementList) (text : List ℕ) (f : Flags) → At text f p → OneTaken text f sl (with_directives sl f) (with_directives sl f) p w id
opened_directive true e h = h
opened_directive false e h = absurd (false≢true e)

-- the parameter In lasts
pub in_lasts : {text : List ℕ} {f : Flags} {sl : StatementList} {g g' : G} {p q : Parser} {ids : List (Option NodeId)} → Taken text f sl g g' p q ids → has_flag in_flag p.ctx ≡ true → has_flag in_flag q.ctx ≡ true
in_lasts s h = ap (has_flag in_flag) s.same.ctx ∙ h

-- the whole of a list that begins with directives, or with none
pub list_is : (sl : StatementList) (f : Flags) → has_directives sl ≡ true → list_of sl f ≡ with_directives sl f
list_is Text f h = refl
list_is Block f h = absurd (false≢true h)
list_is Body f h = refl
list_is Clause f h = absurd (false≢true h)

pub list_alone : (sl : StatementList) (f : Flags) → has_directives sl ≡ false → list_of sl f ≡ statements sl f
list_alone Text f h = absurd (false≢true (sym h))
list_alone Block f h = refl
list_alone Body f h = absurd (false≢true (sym h))
list_alone Clause f h = refl

pub as_list : {text : List ℕ} {f : Flags} (sl : StatementList) {p q : Parser} {ids : List (Option NodeId)} → has_directives sl ≡ true → Taken text f sl (with_directives sl f) (statements sl f) p q ids → Taken text f sl (list_of sl f) (statements sl f) p q ids
as_list {text} {f} sl {p} {q} {ids} h x = subst (λ (g : G). Taken text f sl g (statements sl f) p q ids) (sym (list_is sl f h)) x

pub no_such_list : {text : List ℕ} {f : Flags} (sl : StatementList) {s : ℕ} → has_directives sl ≡ true → NoList text sl (with_directives sl f) s → NoList text sl (list_of sl f) s
no_such_list {text} {f} sl {s} h x = subst (λ (g : G). NoList text sl g s) (sym (list_is sl f h)) x

pub none_yet : {text : List ℕ} {f : Flags} (sl : StatementList) {p : Parser} {ids : List (Option NodeId)} → has_directives sl ≡ false → At text f p → ids ≡ [] → Taken text f sl (list_of sl f) (statements sl f) p p ids
none_yet {text} {f} sl {p} {ids} h a e = subst (λ (g : G). Taken text f sl g (statements sl f) p p ids) (sym (list_alone sl f h)) (none_taken a e)
