-- Attributes of imports and exports (ECMA-262, 16.2.2): one of them, and the clause.
use Rattle.std.proofs.Common.{ℕ, ◌≡◌, ◌≤◌, List, [], ◌∷◌, length, Option, Some, None, true, not, refl, sym, ap, subst, arith, ◌∙◌}
use Rattle.std.specs.Prelude.{Result, Ok, Err, MatchResult}
use Rattle.js_base.specs.declared.diagnostic.Diagnostic.{Diagnostic}
use Rattle.js_base.specs.declared.diagnostic.DiagnosticKind.TheVariants.{ExpectToken, ImportAttributeValueMustBeStringLiteral}
use Rattle.js_base.specs.declared.kind.Kind.TheVariants.{Assert, Colon, Str, Undetermined, With}
use Rattle.js_base.specs.declared.span.Span.{Span}
use Rattle.js_grammar.specs.Grammar.{exact, nothing, seq}
use Rattle.js_grammar.specs.Marks.{Mark, the_start, the_end}
use Rattle.js_grammar.specs.Parsing.{Test, plain, full, still, Goes, Fails}
use Rattle.js_grammar.specs.Productions.{G, Flags, at, op, tok, Attr, Attrs, IdentifierName}
use Rattle.js_grammar.specs.Productions.{sym as symbol}
use Rattle.js_grammar.specs.Table.{rule, rule_of, string}
use Rattle.js_grammar.specs.Trees.{Label, end, import_attribute, no_op, of, with_clause}
use Rattle.js_grammar.proofs.Looks.{apart, covers}
use Rattle.js_grammar.proofs.Calculus.{Between, Inside, ◌▹◌, fails_node, fails_rule, inside_full, left, looks, part_fails}
use Rattle.laws_shared.specs.js_tree.Labels.{clause_kind}
use Rattle.laws_shared.specs.js_tree.declared.id.NodeId.{NodeId}
use Rattle.laws_shared.specs.js_tree.declared.kind.NodeKind.TheVariants as node
use Rattle.laws_shared.specs.js_tree.declared.op.ClauseWord.{ClauseWord}
use Rattle.laws_shared.specs.js_tree.declared.op.ClauseWord.TheVariants as clause
use Rattle.laws_shared.specs.js_tree.declared.op.Op.TheVariants as made_op
use Rattle.laws_shared.proofs.js_tree.HoldingLemmas.{HoldsAll-none, Keeps-trans, Keeps-made}
use Rattle.laws_shared.specs.js_cursor.Moves.{Expects, GivesUp, IsKind, IsUnexpected, MovesOn, OnlyMemory, at_lexeme}
use Rattle.laws_shared.specs.js_cursor.Parsers.{Parser}
use Rattle.laws_shared.specs.js_cursor.Places.{IsAt, goal}
use Rattle.laws_shared.specs.js_cursor.declared.stop.Stop.{Stop}
use Rattle.laws_shared.specs.js_cursor.declared.stop.Stop.TheVariants.{Fatal, NoMemory}
use Rattle.laws_shared.proofs.js_cursor.Standing.{mark_here}
use Rattle.laws_shared.specs.Answers.{Outcome, Stops}
use Rattle.laws_shared.specs.Arguments.{PartTaken, Partway, behind_item}
use Rattle.laws_shared.specs.Classes.{EndsParse}
use Rattle.laws_shared.specs.Lexemes.{Lex, is_read_kind}
use Rattle.laws_shared.specs.Methods.{WholeOutcome, WholeTaken}
use Rattle.laws_shared.specs.Moves.{MadeHere, Moved, TakesLeaf, plain_label}
use Rattle.laws_shared.specs.Stands.{StandsHere}
use Rattle.laws_shared.specs.States.{At}
use Rattle.laws_shared.proofs.Ahead.{pass_over}
use Rattle.laws_shared.proofs.Classes.{gives_up_by, unexpected_ends}
use Rattle.laws_shared.proofs.Expected.{expected, not_due, unexpected}
use Rattle.laws_shared.proofs.Giving.{gives_up}
use Rattle.laws_shared.proofs.Here.{newline_here}
use Rattle.laws_shared.proofs.MadeNodes.{held_label, node_held, one_lies}
use Rattle.laws_shared.proofs.Moving.{stops_behind, stops_so}
use Rattle.laws_shared.proofs.Parts.{part_path, part_path_fails, part_sign, parts}
use Rattle.laws_shared.proofs.Paths.{at_kind, by_symbol_as, fails_at, label_here, last_token, noded, noded_by}
use Rattle.laws_shared.proofs.Signs.{other_kind}
use Rattle.laws_shared.proofs.Verdicts.{after as grown_behind}
use Rattle.laws_primary.proofs.DecoratedNodes.{made_kind}
use Rattle.laws_primary.proofs.PropertyNames.{string_plain}
use Rattle.laws_primary.proofs.Wholes.{part_answers, whole_answers, whole_last, whole_part}
use Rattle.laws_modules.specs.declared.forms.NameList.TheVariants.{Attributes}
use Rattle.laws_modules.specs.Attributes.{BeginsClause, ClauseTaken, ill_valued, key_part, with_line}
use Rattle.laws_modules.specs.NameLists.{ListTaken, list_of}
use Rattle.laws_modules.proofs.ModuleNames.{whole_name}
use Rattle.laws_modules.proofs.WholeParts.{leaf_whole, whole_behind, whole_by, whole_symbol}

-- ---- the key

module _ {text : List ℕ} {f : Flags} {p : Parser} (a : At text f p) where
  -- a string
  pub string_read : {q : Parser} {id : NodeId} → p.token.kind ≡ Str → TakesLeaf node.StringLiteral made_op.None p q id → WholeTaken text f string p q id
  string_read k t = leaf_whole node.StringLiteral made_op.None (t text f a) (noded a (last_token Str a k (string_plain a k) refl (t text f a).moved))

  pub no_string : (p.token.kind ≡ Str → ⊥) → Fails rule (Lex text) (plain full) end string p.prev_token_end
  unfolding covers apart
  no_string n = fails_at a string (Str ∷ []) refl (other_kind Str p.token.kind n)

  to_string : p.token.kind ≡ Str → Goes rule (Lex text) (plain full) end (key_part f) p.prev_token_end string p.prev_token_end (λ us. us) (still 0)
  unfolding covers
  to_string k = at_kind a Str k refl

pub string_key : (text : List ℕ) (f : Flags) (p q : Parser) (r : Result NodeId Stop) → At text f p → p.token.kind ≡ Str → MatchResult r (λ id. TakesLeaf node.StringLiteral made_op.None p q id) OnlyMemory → WholeOutcome text f (key_part f) p q r
string_key text f p q (Ok id) a k t = whole_by text f p q (Ok id) (to_string a k) (string_read a k t)
string_key text f p q (Err Fatal) a k t = absurd t
string_key text f p q (Err NoMemory) a k t = tt

pub word_key : (text : List ℕ) (f : Flags) (p q : Parser) (r : Result NodeId Stop) → (a : At text f p) → (p.token.kind ≡ Str → ⊥) → Outcome text f (at IdentifierName f) p q r → WholeOutcome text f (key_part f) p q r
word_key text f p q r a n x = whole_by text f p q r (left (no_string a n)) (whole_name a q r x)

-- ---- an attribute

inside : {f : Flags} {s : ℕ} → Inside rule (record { kind = import_attribute; op = no_op; flags = 0; extent = exact }) behind_item (plain full) end (seq (key_part f) (seq (tok Colon) string)) s
inside = inside_full

any_between : {X : Test} {a b : G} {s : ℕ} → Between rule X (plain full) end a b s
any_between = record { admits = λ ts us vs j k ls mid rest d d' e. (refl, refl) }

no_attribute : {text : List ℕ} {f : Flags} {s : ℕ} → Fails rule (Lex text) (plain full) end (seq (key_part f) (seq (tok Colon) string)) s → Fails rule (Lex text) behind_item end (symbol Attr f) s
unfolding rule rule_of
no_attribute n = fails_rule {X' = behind_item} (λ l cs vs y d. (d.0, refl)) (fails_node inside n)

pub key_stops : {text : List ℕ} {f : Flags} {p : Parser} (q : Parser) (e : Stop) → At text f p → Stops p q e (Fails rule (Lex text) (plain full) end (key_part f) p.prev_token_end) → Stops p q e (Fails rule (Lex text) behind_item end (symbol Attr f) p.prev_token_end)
key_stops {p = p} q e a s = stops_so p q e (λ n. no_attribute (part_fails n any_between)) s

module _ {text : List ℕ} {f : Flags} {p q : Parser} {key : NodeId} (a : At text f p) (x : WholeTaken text f (key_part f) p q key) where
  keyed : Partway text f (seq (key_part f) (seq (tok Colon) string)) (seq (tok Colon) string) p q [] (Some key ∷ [])
  keyed = whole_part x []

  pub no_colon : (r : Parser) (e : Stop) → Expects (IsKind Colon) ExpectToken None q r (Err e) → Stops p r e (Fails rule (Lex text) behind_item end (symbol Attr f) p.prev_token_end)
  no_colon r e s = stops_behind r e x.same (λ g. grown_behind x.verdict g) (λ n. no_attribute (part_path_fails keyed n)) (unexpected x.at Colon r e s (λ n. not_due x.at Colon refl n))

  module _ {r : Parser} (e : IsKind Colon q × MovesOn q r) where
    pub colon_moved : Moved text f q r
    colon_moved = expected x.at Colon e.0 e.1 refl refl

    to_value : Partway text f (seq (key_part f) (seq (tok Colon) string)) string p r [] (Some key ∷ [])
    to_value = parts keyed (part_sign Colon x.at e.0.0 e.0.1 refl colon_moved)

    -- no string stands there
    pub no_value : (t : Parser) (z : Stop) → (r.token.kind ≡ Str → ⊥) → GivesUp EndsParse r t z → Stops p t z (Fails rule (Lex text) behind_item end (symbol Attr f) p.prev_token_end)
    no_value t z n g = stops_behind t z to_value.same (λ d. grown_behind to_value.verdict d) (λ m. no_attribute (part_path_fails to_value m)) (gives_up EndsParse r t z to_value.at g (λ d u. u) (no_string to_value.at n))

    module _ {t : Parser} {value : NodeId} (k : r.token.kind ≡ Str) (y : TakesLeaf node.StringLiteral made_op.None r t value) where
      valued : Partway text f (seq (key_part f) (seq (tok Colon) string)) nothing p t [] (Some key ∷ Some value ∷ [])
      valued = parts to_value (whole_last (string_read to_value.at k y) (Some key ∷ []))

      pub attribute_start : p.token.span.start ≤ t.prev_token_end
      attribute_start = let i = valued.further in omega arith

      pub attribute_answers : {w : Parser} {id : NodeId} (s : Span) → s.start ≡ p.token.span.start → s.end ≡ t.prev_token_end → MadeHere (plain_label node.ImportAttribute made_op.None s) (Some key ∷ Some value ∷ []) t w id → PartTaken text f (symbol Attr f) p w id
      unfolding rule rule_of
      attribute_answers {w} {id} s b c d =
          let l : plain_label node.ImportAttribute made_op.None s ≡ label_here import_attribute no_op p t = rw (b, c) refl in
          let made : MadeHere (label_here import_attribute no_op p t) (Some key ∷ Some value ∷ []) t w id = subst (λ (v : Label). MadeHere v (Some key ∷ Some value ∷ []) t w id) l d in
          part_answers valued.same made.stays (node_held made (valued.holds (length p.nodes) end (HoldsAll-none p.nodes (length p.nodes) (length p.nodes) (omega arith)))) (Keeps-trans valued.keeps (Keeps-made made.made)) refl (one_lies made)
          (by_symbol_as {X' = behind_item} (λ l cs vs y d. (d.0, refl)) (noded_by a inside (part_path valued)))

-- ---- what is told of a value that is no string

pub value_marked : (p : Parser) {d : Diagnostic} → IsAt p → (p.token.kind ≡ Undetermined → ⊥) → d ≡ ill_valued p.token.span → Mark (goal p) p.text d
value_marked p a n e = subst (λ (v : Diagnostic). Mark (goal p) p.text v) (sym e) (mark_here ImportAttributeValueMustBeStringLiteral p.token.span None a (at_lexeme n refl) (λ s l i. ((the_start l.of_text l.is.0, the_end l.of_text l.is.1), (refl, refl))))

pub value_ends : (p q : Parser) (d : Diagnostic) (e : Stop) → d ≡ ill_valued p.token.span → GivesUp (λ v. v ≡ d) p q e → GivesUp EndsParse p q e
value_ends p q d e i g = gives_up_by p q e g (λ v u. subst EndsParse (sym (u ∙ i)) refl)

pub lexeme_ends : (p q : Parser) (e : Stop) → IsAt p → GivesUp (IsUnexpected p) p q e → GivesUp EndsParse p q e
lexeme_ends p q e a g = gives_up_by p q e g (λ d u. unexpected_ends a d u)

-- ---- the clause

clause_read : (w : ClauseWord) → is_read_kind (clause_kind w) ≡ true
clause_read clause.With = refl
clause_read clause.Assert = refl

clause_stands : (p : Parser) (w : ClauseWord) → BeginsClause w p → StandsHere p (clause_kind w) true
clause_stands p clause.With b = b
clause_stands p clause.Assert b = b.0

module _ {text : List ℕ} {f : Flags} {p : Parser} (w : ClauseWord) (a : At text f p) (b : BeginsClause w p) where
  -- its line is the one of its word
  to_line : Goes rule (Lex text) (plain full) end (rule (at Attrs f)) p.prev_token_end (with_line w f) p.prev_token_end (λ us. us) (still 0)
  unfolding rule rule_of covers
  to_line = by w b
    where
      by : (w : ClauseWord) → BeginsClause w p → Goes rule (Lex text) (plain full) end (rule (at Attrs f)) p.prev_token_end (with_line w f) p.prev_token_end (λ us. us) (still 0)
      by clause.With b = at_kind a With b.0 refl
      by clause.Assert b = at_kind a Assert b.0.0 refl ▹ pass_over (looks (λ k w e. not w) (λ y l. ap not (newline_here a y l ∙ b.1)))

  module _ {q : Parser} (m : Moved text f p q) where
    pub clause_stops : (r : Parser) (e : Stop) → Stops q r e (Fails rule (Lex text) (plain full) end (list_of Attributes f) q.prev_token_end) → Stops p r e (Fails rule (Lex text) (plain full) end (symbol Attrs f) p.prev_token_end)
    clause_stops r e s = whole_symbol text f p (at Attrs f) r (Err e) (whole_by text f p r (Err e) to_line (whole_behind text f (op with_clause (clause_kind w) (list_of Attributes f)) p q (clause_kind w) a (clause_stands p w b) (clause_read w) m r (Err e) (stops_so q r e (λ n. fails_node inside_full n) s)))

    module _ {r : Parser} {ids : List (Option NodeId)} (y : ListTaken Attributes [] ids q r) where
      entries : Partway text f (list_of Attributes f) nothing q r [] ids
      entries = y text f m.at

      pub clause_start : q.token.span.start ≤ r.prev_token_end
      clause_start = let i = entries.further in omega arith

      pub clause_answers : {v : Parser} {id : NodeId} (s : Span) → s.start ≡ q.token.span.start → s.end ≡ r.prev_token_end → MadeHere (plain_label node.WithClause (made_op.Clause w) s) ids r v id → ClauseTaken text f p v id
      clause_answers {v} {id} s i j d = record { whole = whole; is = kept }
        where
          l : plain_label node.WithClause (made_op.Clause w) s ≡ label_here with_clause (of (clause_kind w)) q r
          l = rw (i, j) refl

          made : MadeHere (label_here with_clause (of (clause_kind w)) q r) ids r v id
          made = subst (λ (u : Label). MadeHere u ids r v id) l d

          node_read : WholeTaken text f (op with_clause (clause_kind w) (list_of Attributes f)) q v id
          node_read = whole_answers entries.same made.stays (node_held made (entries.holds (length q.nodes) end (HoldsAll-none q.nodes (length q.nodes) (length q.nodes) (omega arith)))) (Keeps-trans entries.keeps (Keeps-made made.made)) refl (one_lies made) (noded m.at (part_path entries))

          whole : WholeTaken text f (symbol Attrs f) p v id
          whole = whole_symbol text f p (at Attrs f) v (Ok id) (whole_by text f p v (Ok id) to_line (whole_behind text f (op with_clause (clause_kind w) (list_of Attributes f)) p q (clause_kind w) a (clause_stands p w b) (clause_read w) m v (Ok id) node_read))

          kept : whole.label.kind ≡ with_clause
          kept = ap (λ (u : Label). u.kind) (held_label id whole.holds) ∙ made_kind d
