-- Lists of statements in braces (ECMA-262, 14.2, 15.2).
use Rattle.std.proofs.Common.{ℕ, ◌≡◌, ◌≤◌, max, List, [], ◌∷◌, length, Option, Bool, true, false, ◌||◌, refl, sym, ap, subst, arith, ◌∙◌}
use Rattle.std.specs.Prelude.{Some, Err}
use Rattle.std.proofs.lemmas.Bool.{false≢true}
use Rattle.js_base.specs.declared.diagnostic.Diagnostic.{Diagnostic}
use Rattle.js_base.specs.declared.diagnostic.DiagnosticKind.TheVariants.{ExpectClosing}
use Rattle.js_base.specs.declared.kind.Kind.TheVariants as kind
use Rattle.js_base.specs.declared.span.Span.{Span}
use Rattle.js_base.specs.Kinds.{same_kind, one_of_kinds}
use Rattle.js_base.specs.Texts.{words}
use Rattle.js_base.proofs.KindLemmas.{kind_of_same}
use Rattle.js_grammar.specs.Trees.{Slots, end, tree, no_op, block_statement, function_body}
use Rattle.js_grammar.specs.Grammar.{Lexeme, Lexemes, nothing, ◌▸◌}
use Rattle.js_grammar.specs.Parsing.{Test, plain, full, behind, still, Goes, Fails}
use Rattle.js_grammar.specs.Productions.{G, Flags, at, tok, Block, Body}
use Rattle.js_grammar.specs.Productions.{Statement as AStatement}
use Rattle.js_grammar.specs.Productions.{sym as symbol}
use Rattle.js_grammar.specs.Table.{rule, rule_of}
use Rattle.js_grammar.specs.Follow.{after}
use Rattle.js_grammar.proofs.Looks.{covers, apart}
use Rattle.js_grammar.proofs.Calculus.{Between, ◌▹◌, ◌▹✗◌, by_plain, inside_full, more_of, then_by, part_fails, fails_never, fails_node}
use Rattle.js_grammar.proofs.FirstClaims.{firsts}
use Rattle.js_grammar.specs.FirstSets.{first as first_of}
use Rattle.js_grammar.proofs.FirstRules.{by_first, pick}
use Rattle.js_grammar.proofs.FollowLaws.{fails_by}
use Rattle.laws_shared.specs.js_tree.declared.id.NodeId.{NodeId}
use Rattle.laws_shared.specs.js_tree.declared.kind.NodeKind.TheVariants as node
use Rattle.laws_shared.specs.js_tree.declared.op.Op.TheVariants as op
use Rattle.laws_shared.specs.js_tree.Nodes.{Node}
use Rattle.laws_shared.specs.js_tree.Holding.{HoldsAll, Keeps}
use Rattle.laws_shared.proofs.js_tree.HoldingLemmas.{Keeps-made, Keeps-trans}
use Rattle.laws_shared.specs.js_cursor.Moves.{Expects, IsKind, MovesOn, is_last}
use Rattle.laws_shared.specs.js_cursor.Parsers.{Parser}
use Rattle.laws_shared.specs.js_cursor.declared.stop.Stop.{Stop}
use Rattle.laws_shared.specs.js_cursor.declared.stop.Stop.TheVariants.{Fatal, NoMemory}
use Rattle.laws_shared.specs.Answers.{Grown, Numbered, Stops, Stretch, Underived, Verdict}
use Rattle.laws_shared.specs.Lexemes.{Lex, Walked, spot, template_tails, is_read_kind}
use Rattle.laws_shared.specs.Moves.{Moved, MadeHere, plain_label}
use Rattle.laws_shared.specs.States.{At, Same}
use Rattle.laws_shared.specs.Statements.{placed, after_statement, NoStatement, Statement}
use Rattle.laws_statements.specs.Blocks.{BracesTaken, NoBraces, in_braces}
use Rattle.laws_statements.specs.StatementLists.{NoList, Taken, at_end, ends_at, ends_in_brace, ends_list, list_of, statements}
use Rattle.laws_statements.specs.declared.forms.StatementList.{StatementList}
use Rattle.laws_statements.specs.declared.forms.StatementList.TheVariants as list
use Rattle.laws_shared.proofs.Classes.{here_ends}
use Rattle.laws_shared.proofs.Giving.{fails_none, gives_up}
use Rattle.laws_shared.proofs.Here.{kind_here, uncut}
use Rattle.laws_shared.proofs.MadeNodes.{node_held, one_lies}
use Rattle.laws_shared.proofs.Moving.{moves, same_both, stops_behind}
use Rattle.laws_shared.proofs.Paths.{Path, ◌⟶◌, ◌⟶✗◌, at_kind, at_kinds, fails_at, label_here, last_token, noded, token, walked_both}
use Rattle.laws_shared.proofs.Signs.{other_kind, plain_sign}
use Rattle.laws_shared.proofs.Verdicts.{and_then, grown_then, verdict_of}
use Rattle.laws_shared.proofs.Verdicts.{after as grown_behind}
use Rattle.parse_declarations.proofs.laws_primary.Operands.{by_path}
use Rattle.laws_statements.proofs.CompoundStatements.{no_token}
use Rattle.laws_statements.proofs.Statements.{by_statement, never_open}
use Rattle.laws_statements.proofs.StatementLists.{none_left}
use Rattle.laws_statements.proofs.WordStatements.{Alone, alone_fails, alone_path}

-- a path, and what passes some lexemes behind it or none
pub then_some : {text : List ℕ} {X : Test} {f : Flags} {g g' g'' : G} {p q r : Parser} {h i : Slots → Slots} {pass : Lexemes → Lexemes} → Path text f X g p g' q h → At text f r → q.prev_token_end ≤ r.prev_token_end → Walked text (spot q) (spot r) pass
    → Verdict (f.wide ≡ true) q.errors r.errors (Stretch text (behind X h) g' q.prev_token_end g'' r.prev_token_end i pass) (Fails rule (Lex text) (behind X h) end g' q.prev_token_end) → Path text f X g p g'' r (λ us. h (i us))
then_some {pass = w} a b l u v = record {
  at = b;
  further = let i = a.further in omega arith;
  pass = λ ls. a.pass (w ls);
  walked = walked_both a.walked u;
  verdict = and_then a.verdict v (λ x y. record { reach = max x.reach y.reach; near = let i = x.near in let j = y.near in omega arith; goes = x.goes ▹ y.goes }) (λ n. n) (λ x n. x.goes ▹✗ n);
}

-- ---- what ends the list

-- no lexeme that is read stands where none is told
pub none_told : {text : List ℕ} {f : Flags} {q : Parser} → At text f q → q.token.kind ≡ kind.Undetermined → (y : Lexeme) → Lex text q.prev_token_end y → ⊥
none_told a e y l = false≢true (sym (ap is_read_kind (kind_here a e refl y l)) ∙ l.1)

-- at a brace a choice is cut down to what begins with it, or with a part of a template that may stand in its place
pub at_brace : {text : List ℕ} {f : Flags} {q : Parser} {X : Test} {g : G} → At text f q → q.token.kind ≡ kind.RCurly → Goes rule (Lex text) X end g q.prev_token_end (pick first_of X.base g (kind.RCurly ∷ template_tails)) q.prev_token_end (λ us. us) (still 0)
unfolding apart
at_brace a e = at_kinds a (kind.RCurly ∷ template_tails) refl (ap (one_of_kinds (kind.RCurly ∷ template_tails)) e)

module _ {text : List ℕ} {f : Flags} {q : Parser} (a : At text f q) where
  -- a brace closes it
  list_closes : (sl : StatementList) → ends_in_brace sl ≡ true → q.token.kind ≡ kind.RCurly → Goes rule (Lex text) (plain (at_end sl)) end (statements sl f) q.prev_token_end nothing q.prev_token_end (λ us. us) (still 0)
  unfolding rule rule_of covers
  list_closes list.Text h e = absurd (false≢true h)
  list_closes list.Block h e = more_of ▹ at_brace a e
  list_closes list.Body h e = more_of ▹ at_brace a e
  list_closes list.Clause h e = absurd (false≢true h)

  -- at the end of the text it is open
  open_at_end : (sl : StatementList) → ends_in_brace sl ≡ true → q.token.kind ≡ kind.Eof → NoList text sl (statements sl f) q.prev_token_end
  unfolding rule rule_of covers
  open_at_end list.Text h e = absurd (false≢true h)
  open_at_end list.Block h e = more_of ▹✗ (at_kind a kind.Eof e refl ▹✗ fails_never)
  open_at_end list.Body h e = more_of ▹✗ (at_kind a kind.Eof e refl ▹✗ fails_never)
  open_at_end list.Clause h e = absurd (false≢true h)

  -- and where a closing brace is due and doesn't stand
  list_open : (sl : StatementList) → ends_in_brace sl ≡ true → ends_list sl q.token.kind ≡ true → (q.token.kind ≡ kind.RCurly → ⊥) → NoList text sl (statements sl f) q.prev_token_end
  list_open sl h e n = first (ends_at sl q.token.kind) refl e
    where
      brace : (sl : StatementList) → ends_in_brace sl ≡ true → ends_at sl q.token.kind ≡ true → q.token.kind ≡ kind.RCurly
      brace list.Text h k = absurd (false≢true h)
      brace list.Block h k = sym (kind_of_same kind.RCurly q.token.kind k)
      brace list.Body h k = sym (kind_of_same kind.RCurly q.token.kind k)
      brace list.Clause h k = absurd (false≢true h)

      third : (c : Bool) → same_kind kind.Undetermined q.token.kind ≡ c → c ≡ true → NoList text sl (statements sl f) q.prev_token_end
      third true k i = fails_none (none_told a (sym (kind_of_same kind.Undetermined q.token.kind k)))
      third false k i = absurd (false≢true i)

      second : (b : Bool) → same_kind kind.Eof q.token.kind ≡ b → (b || same_kind kind.Undetermined q.token.kind) ≡ true → NoList text sl (statements sl f) q.prev_token_end
      second true k i = open_at_end sl h (sym (kind_of_same kind.Eof q.token.kind k))
      second false k i = third (same_kind kind.Undetermined q.token.kind) refl i

      first : (b : Bool) → ends_at sl q.token.kind ≡ b → (b || is_last q.token.kind) ≡ true → NoList text sl (statements sl f) q.prev_token_end
      first true k i = absurd (n (brace sl h k))
      first false k i = second (same_kind kind.Eof q.token.kind) refl i

-- a closing brace ends the list
before_brace : (sl : StatementList) (f : Flags) (s : ℕ) → ends_in_brace sl ≡ true → Between rule (plain full) (plain (at_end sl)) end (list_of sl f) (tok kind.RCurly) s
unfolding covers
before_brace list.Text f s h = absurd (false≢true h)
before_brace list.Block f s h = by_first firsts (by_plain (at_end list.Block)) refl
before_brace list.Body f s h = by_first firsts (by_plain (at_end list.Body)) refl
before_brace list.Clause f s h = absurd (false≢true h)

-- ---- the braces

-- no brace stands here
pub unopened : {text : List ℕ} {f : Flags} {p : Parser} (sl : StatementList) → At text f p → (p.token.kind ≡ kind.LCurly → p.token.escaped ≡ false → ⊥) → NoBraces text sl f p.prev_token_end
unopened sl a n = no_token a kind.LCurly refl n

-- what closes a bracket was passed
pub closed_by : {text : List ℕ} {f : Flags} {p q : Parser} → At text f p → p.token.kind ≡ kind.RCurly → MovesOn p q → Moved text f p q
closed_by a k m = moves (uncut a (ap (same_kind kind.RAngle) k), ap is_last k) m a

module _ {text : List ℕ} {f : Flags} {p q : Parser} (a : At text f p) (k : IsKind kind.LCurly p) (m : Moved text f p q) (sl : StatementList) (h : ends_in_brace sl ≡ true) where
  braces_opened : {X : Test} → Path text f X (in_braces sl f) p (list_of sl f ▸ tok kind.RCurly) q (λ us. us)
  braces_opened = token kind.LCurly a k.0 k.1 refl m

  pub list_refused : NoList text sl (list_of sl f) q.prev_token_end → NoBraces text sl f p.prev_token_end
  list_refused n = braces_opened ⟶✗ part_fails n (before_brace sl f q.prev_token_end h)

  module _ {r : Parser} {ids : List (Option NodeId)} (e : ends_list sl r.token.kind ≡ true) (x : Taken text f sl (list_of sl f) (statements sl f) q r ids) where
    pub list_same : Same p r
    list_same = same_both m.same x.same

    pub list_grown : {ds : List Diagnostic} → Grown r.errors ds → Grown p.errors ds
    list_grown g = grown_then m.kept (grown_behind x.verdict g)

    pub braces_unclosed : (u : Parser) (s : Stop) (opening : Span) → Expects (λ (v : Parser). v.token.kind ≡ kind.RCurly) ExpectClosing (Some opening) r u (Err s) → Stops p u s (NoBraces text sl f p.prev_token_end)
    braces_unclosed u s opening z = stops_behind u s list_same (λ g. list_grown g) (λ n. list_refused (none_left x n)) (go s z)
      where
        go : (s : Stop) → Expects (λ (v : Parser). v.token.kind ≡ kind.RCurly) ExpectClosing (Some opening) r u (Err s) → Stops r u s (NoList text sl (statements sl f) r.prev_token_end)
        go Fatal z = gives_up _ r u Fatal x.at z.1 (here_ends ExpectClosing refl) (list_open x.at sl h e (z.0 refl))
        go NoMemory z = tt

    module _ {u : Parser} (c : r.token.kind ≡ kind.RCurly) (d : Moved text f r u) where
      braces_path : Path text f (plain full) (in_braces sl f) p nothing u x.slots
      unfolding words
      braces_path = then_some {g'' = tok kind.RCurly} {i = x.slots} braces_opened x.at x.further x.walked (verdict_of x.verdict
          (λ y. record { reach = max y.reach (max 0 0); near = let i = y.near in omega arith; goes = then_by (y.goes ▹ list_closes x.at sl h c) (before_brace sl f q.prev_token_end h) })
          (λ n. part_fails n (before_brace sl f q.prev_token_end h)))
          ⟶ last_token kind.RCurly x.at c (plain_sign kind.RCurly x.at c refl refl refl) refl d

      pub braces_taken : BracesTaken text f sl p u ids
      braces_taken = let y = braces_path in record {
        at = d.at;
        same = same_both list_same d.same;
        further = y.further;
        slots = x.slots;
        pass = y.pass;
        walked = y.walked;
        verdict = y.verdict;
        holds = subst (λ (ns : List Node). HoldsAll ns (length p.nodes) (length ns) ids (x.slots end)) (sym d.nodes) (subst (λ (ns : List Node). HoldsAll r.nodes (length ns) (length r.nodes) ids (x.slots end)) m.nodes x.holds);
        keeps = subst (λ (ns : List Node). Keeps p.nodes ns) (sym d.nodes) (subst (λ (ns : List Node). Keeps ns r.nodes) m.nodes x.keeps);
      }

braces_read : {text : List ℕ} {f : Flags} {sl : StatementList} {p q : Parser} {ids : List (Option NodeId)} (x : BracesTaken text f sl p q ids) → Path text f (plain full) (in_braces sl f) p nothing q x.slots
braces_read x = record { at = x.at; further = x.further; pass = x.pass; walked = x.walked; verdict = x.verdict }

-- ---- a block

module _ {text : List ℕ} {f : Flags} {p : Parser} (a : At text f p) (k : p.token.kind ≡ kind.LCurly) where
  block_alone : Alone text f Block p.prev_token_end
  unfolding rule rule_of covers
  block_alone = record { listed = λ b X. listed b; alone = λ X. at_kind a kind.LCurly k refl }
    where
      listed : {X : Test} (b : Bool) → Goes rule (Lex text) X end (rule (placed b f)) p.prev_token_end (symbol AStatement f) p.prev_token_end (λ us. us) (still 0)
      listed true = at_kind a kind.LCurly k refl
      listed false = at_kind a kind.LCurly k refl

  pub block_none : (b : Bool) → NoBraces text list.Block f p.prev_token_end → NoStatement text (placed b f) p.prev_token_end
  unfolding rule rule_of
  block_none b n = alone_fails block_alone b (after_statement (placed b f)) (λ l cs vs y d. d) (λ l cs vs y d. d) (fails_node (record { ends = λ l cs vs j ls mid d e. (refl, refl) }) n)

  module _ {q : Parser} {ids : List (Option NodeId)} (x : BracesTaken text f list.Block p q ids) where
    block_path : (b : Bool) → Path text f (after_statement (placed b f)) (rule (placed b f)) p nothing q (tree (label_here block_statement no_op p q) (x.slots end))
    unfolding rule rule_of
    block_path b = alone_path block_alone b (after_statement (placed b f)) (λ l cs vs y d. d) (λ l cs vs y d. d) (noded a (braces_read x))

    pub block_answers : (b : Bool) {w : Parser} {id : NodeId} (s : Span) → s.start ≡ p.token.span.start → s.end ≡ q.prev_token_end → MadeHere (plain_label node.BlockStatement op.None s) ids q w id → Statement text f (placed b f) p w id
    block_answers b {w} {id} s g d i =
        let l : plain_label node.BlockStatement op.None s ≡ label_here block_statement no_op p q = rw (g, d) refl in
        let made : MadeHere (label_here block_statement no_op p q) ids q w id = subst (λ v. MadeHere v ids q w id) l i in
        by_statement (block_path b) (never_open (label_here block_statement no_op p q) (x.slots end) refl) x.same made.stays (node_held made x.holds) (Keeps-trans x.keeps (Keeps-made made.made)) refl (one_lies made)

-- ---- a function's body

-- no brace opens one
pub bodiless : {text : List ℕ} {f : Flags} {p : Parser} → At text f p → (p.token.kind ≡ kind.LCurly → ⊥) → Underived text (at Body f) p.prev_token_end
unfolding covers apart
bodiless {f = f} {p = p} a n = fails_at a (symbol Body f) (kind.LCurly ∷ []) refl (other_kind kind.LCurly p.token.kind n)

pub body_none : {text : List ℕ} {f : Flags} {s : ℕ} → NoBraces text list.Body f s → Underived text (at Body f) s
unfolding rule rule_of
body_none n = fails_by (fails_node inside_full n)

module _ {text : List ℕ} {f : Flags} {p q : Parser} {ids : List (Option NodeId)} (a : At text f p) (x : BracesTaken text f list.Body p q ids) where
  body_path : Path text f (after (at Body f)) (rule (at Body f)) p nothing q (tree (label_here function_body no_op p q) (x.slots end))
  unfolding rule rule_of
  body_path = noded a (braces_read x)

  pub body_answers : {w : Parser} {id : NodeId} (s : Span) → s.start ≡ p.token.span.start → s.end ≡ q.prev_token_end → MadeHere (plain_label node.FunctionBody op.None s) ids q w id → Numbered text f (at Body f) p w id
  body_answers {w} {id} s g d i =
      let l : plain_label node.FunctionBody op.None s ≡ label_here function_body no_op p q = rw (g, d) refl in
      let made : MadeHere (label_here function_body no_op p q) ids q w id = subst (λ v. MadeHere v ids q w id) l i in
      by_path body_path x.same made.stays (λ y l. refl) refl (node_held made x.holds) (Keeps-trans x.keeps (Keeps-made made.made)) refl (one_lies made)

-- ---- a block as a part

pub part_none : {text : List ℕ} {f : Flags} {s : ℕ} → NoBraces text list.Block f s → Underived text (at Block f) s
unfolding rule rule_of
part_none n = fails_by (fails_node inside_full n)

module _ {text : List ℕ} {f : Flags} {p q : Parser} {ids : List (Option NodeId)} (a : At text f p) (x : BracesTaken text f list.Block p q ids) where
  part_path : Path text f (after (at Block f)) (rule (at Block f)) p nothing q (tree (label_here block_statement no_op p q) (x.slots end))
  unfolding rule rule_of
  part_path = noded a (braces_read x)

  pub part_answers : {w : Parser} {id : NodeId} (s : Span) → s.start ≡ p.token.span.start → s.end ≡ q.prev_token_end → MadeHere (plain_label node.BlockStatement op.None s) ids q w id → Numbered text f (at Block f) p w id
  part_answers {w} {id} s g d i =
      let l : plain_label node.BlockStatement op.None s ≡ label_here block_statement no_op p q = rw (g, d) refl in
      let made : MadeHere (label_here block_statement no_op p q) ids q w id = subst (λ v. MadeHere v ids q w id) l i in
      by_path part_path x.same made.stays (λ y l. refl) refl (node_held made x.holds) (Keeps-trans x.keeps (Keeps-made made.made)) refl (one_lies made)
