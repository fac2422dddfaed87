-- Declarations of functions, asynchronous or not, generators or not, in lists and as the bodies of other statements (ECMA-262, 15.2, 15.5, 15.6, 15.8, B.3.1, B.3.3).
use Rattle.std.proofs.Common.{ℕ, ◌≡◌, ◌<◌, ◌+◌, inl, inr, List, [], ◌∷◌, length, Some, Bool, true, false, not, ◌&&◌, ◌||◌, IsTrue, refl, sym, ap, subst, arith, ◌∙◌}
use Rattle.std.proofs.lemmas.Bool.{false≢true}
use Rattle.js_base.specs.declared.diagnostic.DiagnosticKind.TheVariants.{AsyncFunctionDeclaration, GeneratorFunctionDeclaration}
use Rattle.js_base.specs.declared.diagnostic.DiagnosticClass.TheVariants.{Early}
use Rattle.js_base.specs.Diagnostics.{class_of}
use Rattle.js_base.specs.declared.kind.Kind.{Kind}
use Rattle.js_base.specs.declared.kind.Kind.TheVariants as kind
use Rattle.js_base.specs.declared.source_type.SourceType.{SourceType}
use Rattle.js_base.specs.declared.span.Span.{Span}
use Rattle.js_base.specs.Kinds.{one_of_kinds}
use Rattle.js_grammar.specs.Marks.{Mark}
use Rattle.js_grammar.specs.Trees.{Label, Slots, end, tree, no_op, function_declaration}
use Rattle.js_grammar.specs.Grammar.{Lexeme, is, seen, such, nothing}
use Rattle.js_grammar.specs.Parsing.{Test, plain, full, always, still, Goes, Fails}
use Rattle.js_grammar.specs.Productions.{G, Flags, at, async_flag, flag, function_on_line, generator_flag, is_one_of, other, word_or, ExprStmt, Labeled, ListItem, Sub}
use Rattle.js_grammar.specs.Productions.{Function as AFunction}
use Rattle.js_grammar.specs.Productions.{Statement as AStatement}
use Rattle.js_grammar.specs.Productions.{sym as symbol}
use Rattle.js_grammar.specs.Table.{rule, rule_of}
use Rattle.js_grammar.proofs.Looks.{covers, apart, not_both}
use Rattle.js_grammar.proofs.Calculus.{◌▹◌, ◌▹✗◌, inside_full, fails_alt, fails_node, fails_rule, left, looks, right, stay, weaken_on, weaken_fails_on}
use Rattle.laws_shared.specs.js_tree.declared.id.NodeId.{NodeId}
use Rattle.laws_shared.specs.js_tree.declared.kind.NodeKind.TheVariants as node
use Rattle.laws_shared.specs.js_tree.declared.op.Op.TheVariants as op
use Rattle.laws_shared.specs.js_tree.Nodes.{Node}
use Rattle.laws_shared.specs.js_tree.Holding.{HoldsAll, Keeps}
use Rattle.laws_shared.proofs.js_tree.HoldingLemmas.{HoldsAll-none, Keeps-trans, Keeps-made}
use Rattle.laws_shared.specs.js_lex.States.{goal_of}
use Rattle.laws_shared.specs.js_cursor.Parsers.{Parser}
use Rattle.laws_shared.specs.js_cursor.Places.{goal}
use Rattle.laws_shared.specs.Answers.{unclean}
use Rattle.laws_shared.specs.Lexemes.{Lex, keyword_kind, spot}
use Rattle.laws_shared.specs.Moves.{MadeHere, plain_label}
use Rattle.laws_shared.specs.Stands.{StandsHere}
use Rattle.laws_shared.specs.States.{At, Same}
use Rattle.laws_shared.specs.Statements.{after_statement, statement_kinds, NoStatement, Statement}
use Rattle.parse_declarations.specs.laws_primary.declared.forms.FunctionForm.TheVariants.{Declaration}
use Rattle.parse_declarations.specs.laws_primary.declared.forms.FunctionParts.{FunctionParts}
use Rattle.parse_declarations.specs.laws_primary.Functions.{BeginsFunction, FunctionNext, HeadRead, NoFunction, PartsTaken, function_line}
use Rattle.parse_declarations.proofs.laws_primary.AsyncWords.{one_function}
use Rattle.parse_declarations.proofs.laws_primary.Functions.{four_lines, line_flags, line_left, none_left}
use Rattle.laws_statements.specs.FunctionStatements.{ChecksPlain, fault_of_body, told_of_body}
use Rattle.parse_declarations.proofs.SpansMarked.{span_marked}
use Rattle.laws_shared.proofs.Ahead.{pass_over}
use Rattle.laws_shared.proofs.Dead.{lives}
use Rattle.laws_shared.proofs.Giving.{kept_one}
use Rattle.laws_shared.proofs.Here.{kind_here}
use Rattle.laws_shared.proofs.MadeNodes.{node_held, one_lies}
use Rattle.laws_shared.proofs.Moving.{same_both, same_itself}
use Rattle.laws_shared.proofs.Parts.{part_path}
use Rattle.laws_shared.proofs.Paths.{Path, ◌⟼◌, at_kind, by_symbol_as, flagged_by, flagged_here, walked_to}
use Rattle.laws_shared.proofs.Escapes.{keyword_none}
use Rattle.laws_shared.proofs.Told.{told_at, told_same}
use Rattle.laws_shared.proofs.Verdicts.{after as grown_behind, verdict_of}
use Rattle.laws_statements.proofs.Statements.{by_such_statement, item_left, labels_fail, never_open, no_class, no_expression, no_lexical, no_symbol, sub_left}
use Rattle.laws_statements.proofs.WordLookaheads.{async_word, elsewhere, ends_at, followed, let_word, no_let_here}

-- ---- at `async` with `function` behind it on its line

module _ {text : List ℕ} {f : Flags} {p : Parser} (a : At text f p) (h : StandsHere p kind.Async true) (n : FunctionNext p true) where
  on_line : (z : Lexeme) → Lex text p.token.span.end z → IsTrue (seen function_on_line z)
  on_line z l =
      let w = n text f a in
      let e : z ≡ w.0 = one_function w.1 w.2 l in
      subst (λ (y : Lexeme). IsTrue (seen function_on_line y)) (sym e) (rw (w.2, w.3, w.4) refl)

  -- no colon stands there, so it is no label
  no_label_there : (X : Test) → Fails rule (Lex text) X end (symbol Labeled f) p.prev_token_end
  unfolding apart
  no_label_there X = labels_fail (λ y z rest l i t c. apart_there z (on_line z (subst (λ (v : ℕ). Lex text v z) (ends_at a async_word h y l) i.0)) c)
    where
      apart_there : (z : Lexeme) → IsTrue (seen function_on_line z) → IsTrue (seen (is kind.Colon) z) → ⊥
      apart_there z w c = not_both function_on_line (is kind.Colon) refl z.kind z.newline z.escaped w c

  no_statement_there : {X : Test} → Fails rule (Lex text) X end (symbol AStatement f) p.prev_token_end
  unfolding rule rule_of covers
  no_statement_there = fails_rule {X' = plain full} (λ l cs vs y e. (refl, refl)) (at_kind a kind.Async h.0 refl ▹✗ no_label_there (plain full))

  no_expression_there : {X : Test} → Fails rule (Lex text) X end (symbol ExprStmt f) p.prev_token_end
  unfolding rule rule_of
  no_expression_there = fails_rule {X' = plain full} (λ l cs vs y e. (refl, refl)) (fails_node inside_full (pass_over (looks (other (is_one_of no_expression)) (λ y l. ap (λ (k : Kind). not (one_of_kinds no_expression k && not y.escaped)) (kind_here a h.0 refl y l))) ▹✗ followed a async_word function_on_line h on_line))

  let_elsewhere : StandsHere p kind.Let false
  let_elsewhere k e = let w : kind.Async ≡ kind.Let = sym h.0 ∙ k in cc

  no_word_there : one_of_kinds statement_kinds (keyword_kind p.token) ≡ false
  no_word_there = keyword_none p.token statement_kinds (ap (one_of_kinds statement_kinds) h.0) refl

  listed_there : {X : Test} → Goes rule (Lex text) X end (rule (at ListItem f)) p.prev_token_end (symbol AFunction f) p.prev_token_end (λ us. us) (still 0)
  listed_there {X} = subst (λ (g : G). Goes rule (Lex text) X end (rule (at ListItem f)) p.prev_token_end g p.prev_token_end (λ us. us) (still 0)) (item_left f) (lives (rule (at ListItem f)))
      ▹ right no_statement_there ▹ right (elsewhere a let_word (word_or (kind.LCurly ∷ [])) let_elsewhere ▹✗ no_expression_there) ▹ left (fails_alt (no_class a no_word_there) (no_lexical a no_word_there (no_let_here a let_elsewhere true)))

  body_there : {X : Test} → Goes rule (Lex text) X end (rule (at Sub f)) p.prev_token_end (function_line Declaration false false f) p.prev_token_end (λ us. us) (still 0)
  body_there {X} = subst (λ (g : G). Goes rule (Lex text) X end (rule (at Sub f)) p.prev_token_end g p.prev_token_end (λ us. us) (still 0)) (sub_left f) (lives (rule (at Sub f))) ▹ right no_statement_there ▹ right no_expression_there

module _ {text : List ℕ} {f : Flags} {p : Parser} (a : At text f p) (h : BeginsFunction p) where
  -- ---- in a list

  to_function : Goes rule (Lex text) (after_statement (at ListItem f)) end (rule (at ListItem f)) p.prev_token_end (symbol AFunction f) p.prev_token_end (λ us. us) (still 0)
  unfolding rule rule_of covers
  to_function = by h
    where
      by : BeginsFunction p → Goes rule (Lex text) (after_statement (at ListItem f)) end (rule (at ListItem f)) p.prev_token_end (symbol AFunction f) p.prev_token_end (λ us. us) (still 0)
      by (inl w) = at_kind a kind.Function w.0 refl
      by (inr w) = listed_there a w.0 w.1

  to_lines : Goes rule (Lex text) (plain full) end (rule (at AFunction f)) p.prev_token_end (four_lines Declaration f) p.prev_token_end (λ us. us) (still 0)
  unfolding rule rule_of
  to_lines = stay

  pub no_item : NoFunction text Declaration f p.prev_token_end → NoStatement text (at ListItem f) p.prev_token_end
  no_item n = no_symbol (to_function ▹✗ fails_rule {X' = plain full} (λ l cs vs y d. (refl, refl)) (to_lines ▹✗ none_left f Declaration n))

  -- ---- as a body

  to_body : Goes rule (Lex text) (after_statement (at Sub f)) end (rule (at Sub f)) p.prev_token_end (function_line Declaration false false f) p.prev_token_end (λ us. us) (still 0)
  unfolding rule rule_of covers
  to_body = by h
    where
      by : BeginsFunction p → Goes rule (Lex text) (after_statement (at Sub f)) end (rule (at Sub f)) p.prev_token_end (function_line Declaration false false f) p.prev_token_end (λ us. us) (still 0)
      by (inl w) = at_kind a kind.Function w.0 refl
      by (inr w) = body_there a w.0 w.1

  no_line : Fails rule (Lex text) (plain full) end (function_line Declaration false false f) p.prev_token_end → NoStatement text (at Sub f) p.prev_token_end
  no_line n = no_symbol (to_body ▹✗ weaken_fails_on n (record { admits = λ ts vs k ls rest d e. (refl, refl) }))

  pub no_body : NoFunction text Declaration f p.prev_token_end → NoStatement text (at Sub f) p.prev_token_end
  no_body n = no_line (n false false)

  -- some lexeme stands here
  pub function_stood : p.token.kind ≡ kind.Undetermined → ⊥
  function_stood e = by h
    where
      by : BeginsFunction p → ⊥
      by (inl w) = let z : kind.Function ≡ kind.Undetermined = sym w.0 ∙ e in cc
      by (inr w) = let z : kind.Async ≡ kind.Undetermined = sym w.0.0 ∙ e in cc

  module _ {v : Parser} (r : FunctionParts) (x : PartsTaken text f Declaration p v r) where
    abbrev its_flags : ℕ
    its_flags = line_flags r.is_async r.is_generator

    abbrev its_label : Label
    its_label = flagged_here function_declaration no_op its_flags p v

    line_path : Path text f (plain full) (function_line Declaration r.is_async r.is_generator f) p nothing v (tree its_label (x.whole.slots end))
    line_path = flagged_by a inside_full (part_path x.whole)

    item_path : Path text f (after_statement (at ListItem f)) (such (at ListItem f) always) p nothing v (tree its_label (x.whole.slots end))
    item_path = by_symbol_as {X' = after_statement (at ListItem f)} (λ l cs vs y d. d) (to_function ⟼ by_symbol_as {X' = plain full} (λ l cs vs y d. (refl, refl)) (to_lines ⟼ (line_left f Declaration r.is_async r.is_generator x.other x.others ⟼ line_path)))

    held : HoldsAll v.nodes (length p.nodes) (length v.nodes) (r.name ∷ Some r.parameters ∷ Some r.body ∷ []) (x.whole.slots end)
    held = x.whole.holds (length p.nodes) end (HoldsAll-none p.nodes (length p.nodes) (length p.nodes) (omega arith))

    pub item_answers : {w : Parser} {id : NodeId} (z : Span) → z.start ≡ p.token.span.start → z.end ≡ v.prev_token_end → MadeHere (record (plain_label node.FunctionDeclaration op.None z) { flags = flag r.is_async async_flag + flag r.is_generator generator_flag }) (r.name ∷ Some r.parameters ∷ Some r.body ∷ []) v w id → Statement text f (at ListItem f) p w id
    item_answers {w} {id} z b c d =
        let l : record (plain_label node.FunctionDeclaration op.None z) { flags = line_flags r.is_async r.is_generator } ≡ its_label = rw (b, c) refl in
        let made : MadeHere its_label (r.name ∷ Some r.parameters ∷ Some r.body ∷ []) v w id = subst (λ (u : Label). MadeHere u (r.name ∷ Some r.parameters ∷ Some r.body ∷ []) v w id) l d in
        by_such_statement item_path (never_open its_label (x.whole.slots end) refl) x.whole.same made.stays (node_held made held) (Keeps-trans x.whole.keeps (Keeps-made made.made)) refl (one_lies made)

    -- ---- a body, where an asynchronous function and a generator are told

    -- the line of plain functions isn't derived where another one was read
    not_plain : (asynchronous generator : Bool) → r.is_async ≡ asynchronous → r.is_generator ≡ generator → (asynchronous || generator) ≡ true → Fails rule (Lex text) (plain full) end (function_line Declaration false false f) p.prev_token_end
    not_plain true generator i j e = subst (λ (b : Bool). Fails rule (Lex text) (plain full) end (function_line Declaration (not b) false f) p.prev_token_end) i (x.others false)
    not_plain false true i j e = subst (λ (b : Bool). Fails rule (Lex text) (plain full) end (function_line Declaration false (not b) f) p.prev_token_end) j (subst (λ (b : Bool). Fails rule (Lex text) (plain full) end (function_line Declaration b (not r.is_generator) f) p.prev_token_end) i x.other)
    not_plain false false i j e = absurd (false≢true e)

    both_false : (asynchronous generator : Bool) → (asynchronous || generator) ≡ false → (asynchronous ≡ false) × (generator ≡ false)
    both_false true generator e = absurd (false≢true (sym e))
    both_false false generator e = (refl, e)

    module _ {head : Span} {w : Parser} (c : ChecksPlain r.is_async r.is_generator head v w) where
      body_path : Path text f (after_statement (at Sub f)) (such (at Sub f) always) p nothing w (tree its_label (x.whole.slots end))
      body_path = go c
        where
          as_line : (r.is_async || r.is_generator) ≡ false → Path text f (after_statement (at Sub f)) (such (at Sub f) always) p nothing v (tree its_label (x.whole.slots end))
          as_line e =
              let o = both_false r.is_async r.is_generator e in
              by_symbol_as {X' = after_statement (at Sub f)} (λ l cs vs y d. d) (to_body ⟼ weaker (subst (λ (b : Bool). Path text f (plain full) (function_line Declaration false b f) p nothing v (tree its_label (x.whole.slots end))) o.1 (subst (λ (b : Bool). Path text f (plain full) (function_line Declaration b r.is_generator f) p nothing v (tree its_label (x.whole.slots end))) o.0 line_path)))
            where
              weaker : {h : Slots → Slots} → Path text f (plain full) (function_line Declaration false false f) p nothing v h → Path text f (after_statement (at Sub f)) (function_line Declaration false false f) p nothing v h
              weaker y = record { at = y.at; further = y.further; pass = y.pass; walked = y.walked; verdict = verdict_of y.verdict (λ u. record { reach = u.reach; near = u.near; goes = weaken_on u.goes (record { admits = λ ts vs k ls rest d e. (refl, refl) }) }) (λ n. weaken_fails_on n (record { admits = λ ts vs k ls rest d e. (refl, refl) })) }

          go : ChecksPlain r.is_async r.is_generator head v w → Path text f (after_statement (at Sub f)) (such (at Sub f) always) p nothing w (tree its_label (x.whole.slots end))
          go (inl (e, k)) = record {
            at = told_at k x.whole.at;
            further = subst (λ (u : ℕ). p.token.span.start < u) (sym (ap (λ (u : Parser). u.prev_token_end) k.is)) x.whole.further;
            pass = x.whole.pass;
            walked = walked_to (sym (ap spot k.is)) x.whole.walked;
            verdict = unclean (grown_behind x.whole.verdict (kept_one k)) (no_line (not_plain r.is_async r.is_generator refl refl e));
          }
          go (inr (e, q)) = subst (λ (u : Parser). Path text f (after_statement (at Sub f)) (such (at Sub f) always) p nothing u (tree its_label (x.whole.slots end))) (sym q) (as_line e)

      checked_same : Same v w
      checked_same = go c
        where
          early : (b : Bool) → class_of (fault_of_body b) ≡ Early
          early true = refl
          early false = refl

          go : ChecksPlain r.is_async r.is_generator head v w → Same v w
          go (inl (e, k)) = told_same k (early r.is_async)
          go (inr (e, q)) = subst (λ (u : Parser). Same v u) (sym q) same_itself

      checked_nodes : w.nodes ≡ v.nodes
      checked_nodes = go c
        where
          go : ChecksPlain r.is_async r.is_generator head v w → w.nodes ≡ v.nodes
          go (inl (e, k)) = ap (λ (u : Parser). u.nodes) k.is
          go (inr (e, q)) = ap (λ (u : Parser). u.nodes) q

      pub checked_place : w.prev_token_end ≡ v.prev_token_end
      checked_place = go c
        where
          go : ChecksPlain r.is_async r.is_generator head v w → w.prev_token_end ≡ v.prev_token_end
          go (inl (e, k)) = ap (λ (u : Parser). u.prev_token_end) k.is
          go (inr (e, q)) = ap (λ (u : Parser). u.prev_token_end) q

      pub body_answers : {z : Parser} {id : NodeId} (s : Span) → s.start ≡ p.token.span.start → s.end ≡ w.prev_token_end → MadeHere (record (plain_label node.FunctionDeclaration op.None s) { flags = flag r.is_async async_flag + flag r.is_generator generator_flag }) (r.name ∷ Some r.parameters ∷ Some r.body ∷ []) w z id → Statement text f (at Sub f) p z id
      body_answers {z} {id} s b d n =
          let l : record (plain_label node.FunctionDeclaration op.None s) { flags = line_flags r.is_async r.is_generator } ≡ flagged_here function_declaration no_op its_flags p w = rw (b, d) refl in
          let made : MadeHere (flagged_here function_declaration no_op its_flags p w) (r.name ∷ Some r.parameters ∷ Some r.body ∷ []) w z id = subst (λ (u : Label). MadeHere u (r.name ∷ Some r.parameters ∷ Some r.body ∷ []) w z id) l n in
          let ks : Keeps p.nodes w.nodes = subst (λ (ns : List Node). Keeps p.nodes ns) (sym checked_nodes) x.whole.keeps in
          let hs : HoldsAll w.nodes (length p.nodes) (length w.nodes) (r.name ∷ Some r.parameters ∷ Some r.body ∷ []) (x.whole.slots end) = subst (λ (ns : List Node). HoldsAll ns (length p.nodes) (length ns) (r.name ∷ Some r.parameters ∷ Some r.body ∷ []) (x.whole.slots end)) (sym checked_nodes) held in
          let y : Path text f (after_statement (at Sub f)) (such (at Sub f) always) p nothing w (tree (flagged_here function_declaration no_op its_flags p w) (x.whole.slots end)) = subst (λ (u : ℕ). Path text f (after_statement (at Sub f)) (such (at Sub f) always) p nothing w (tree (record { kind = function_declaration; op = no_op; flags = its_flags; span = record { from = p.token.span.start; to = u } }) (x.whole.slots end))) (sym checked_place) body_path in
          by_such_statement y (never_open (flagged_here function_declaration no_op its_flags p w) (x.whole.slots end) refl) (same_both x.whole.same checked_same) made.stays (node_held made hs) (Keeps-trans ks (Keeps-made made.made)) refl (one_lies made)

    -- what is told of it has its mark
    pub body_marked : (asynchronous : Bool) (s : Span) → s.start ≡ p.token.span.start → s.end ≡ r.head_end → Mark (goal v) v.text (told_of_body asynchronous s)
    body_marked asynchronous s i j = subst (λ (t : List ℕ). Mark (goal v) t (told_of_body asynchronous s)) (sym y.later.follows.text) (subst (λ (o : SourceType). Mark (goal_of o) y.mid.text (told_of_body asynchronous s)) (sym y.later.follows.source_type) (at_head asynchronous))
      where
        y : HeadRead text f p v r.head_end
        y = x.head

        at_head : (asynchronous : Bool) → Mark (goal y.mid) y.mid.text (told_of_body asynchronous s)
        at_head true = span_marked a function_stood y.at y.same y.walked y.further AsyncFunctionDeclaration s refl (λ s x y. ((x, y), (refl, refl))) i (j ∙ y.is)
        at_head false = span_marked a function_stood y.at y.same y.walked y.further GeneratorFunctionDeclaration s refl (λ s x y. ((x, y), (refl, refl))) i (j ∙ y.is)
