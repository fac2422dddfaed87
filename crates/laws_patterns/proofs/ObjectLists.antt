-- Object patterns (ECMA-262, 14.3.3): the list between the braces, what is left of it behind a property or a rest.
use Rattle.std.proofs.Common.{ℕ, ◌≡◌, List, [], ◌∷◌, ◌++◌, length, Option, Some, Bool, true, false, refl, sym, ap, subst, arith, ◌∙◌}
use Rattle.std.proofs.lemmas.Bool.{false≢true}
use Rattle.js_base.specs.declared.kind.Kind.{Kind}
use Rattle.js_base.specs.declared.kind.Kind.TheVariants.{LCurly, RCurly, Comma, Dot3}
use Rattle.js_base.specs.declared.span.Span.{Span}
use Rattle.js_base.specs.Kinds.{one_of_kinds}
use Rattle.js_grammar.specs.Trees.{Label, end, tree, no_op, object_pattern}
use Rattle.js_grammar.specs.Grammar.{never, nothing, seq, ◌▸◌}
use Rattle.js_grammar.specs.Parsing.{plain, full, still, Goes, Fails}
use Rattle.js_grammar.specs.Productions.{G, Flags, at, tok, mk, Binding, Pattern, PatternProperty}
use Rattle.js_grammar.specs.Productions.{sym as symbol}
use Rattle.js_grammar.specs.Table.{rest_of, rule, rule_of}
use Rattle.js_grammar.specs.FirstSets.{first as first_of}
use Rattle.js_grammar.specs.Follow.{after}
use Rattle.js_grammar.proofs.Looks.{covers, apart, not_both}
use Rattle.js_grammar.proofs.Calculus.{◌▹✗◌, fails_node, fails_rule, inside_full}
use Rattle.js_grammar.proofs.First.{starts}
use Rattle.js_grammar.proofs.FirstClaims.{firsts}
use Rattle.js_grammar.proofs.FirstRules.{fails_here}
use Rattle.js_grammar.proofs.FollowLaws.{fails_by}
use Rattle.laws_shared.specs.js_tree.declared.id.NodeId.{NodeId}
use Rattle.laws_shared.specs.js_tree.declared.kind.NodeKind.TheVariants as node_kind
use Rattle.laws_shared.specs.js_tree.declared.op.Op.TheVariants as op_made
use Rattle.laws_shared.specs.js_tree.Holding.{HoldsAll}
use Rattle.laws_shared.proofs.js_tree.HoldingLemmas.{HoldsAll-none, Keeps-trans, Keeps-made}
use Rattle.laws_shared.specs.js_cursor.Parsers.{Parser}
use Rattle.laws_shared.specs.js_cursor.declared.stop.Stop.{Stop}
use Rattle.laws_primary.proofs.ArgumentLists.{none_there}
use Rattle.laws_primary.proofs.Arrays.{behind_one}
use Rattle.laws_primary.proofs.Operands.{by_path}
use Rattle.laws_shared.specs.Answers.{Underived, Numbered, Stops}
use Rattle.laws_shared.specs.Arguments.{Partway, ItemTaken, NoItem, PartTaken, behind_item}
use Rattle.laws_shared.specs.Lexemes.{Lex, template_tails}
use Rattle.laws_shared.specs.Lists.{NoneLeft, OneMore}
use Rattle.laws_shared.specs.Moves.{Moved, MadeHere, plain_label}
use Rattle.laws_shared.specs.States.{At}
use Rattle.laws_shared.proofs.Dead.{fails_dead}
use Rattle.laws_shared.proofs.Here.{kind_here, unsettled}
use Rattle.laws_shared.proofs.MadeNodes.{node_held, one_lies}
use Rattle.laws_shared.proofs.Moving.{stops_so}
use Rattle.laws_shared.proofs.Parts.{part_path, part_path_fails, part_sign, part_last, parts}
use Rattle.laws_shared.proofs.Paths.{Path, ◌⟼◌, at_kind, by_symbol_as, fails_at, label_here, noded}
use Rattle.laws_shared.proofs.Signs.{closing_there, plain_sign}
use Rattle.laws_shared.proofs.PlainSigns.{brace_plain, closing_brace_plain}
use Rattle.laws_patterns.specs.Bindings.{rest_comma}
use Rattle.laws_patterns.specs.ObjectPatterns.{named_rest, properties_left}
use Rattle.laws_patterns.proofs.Lists.{end_due, item_comma, item_due, item_fails, item_last, item_more, last_due, more_from, none_yet, rest_fails, rest_more}

-- no property takes its comma itself
pub no_gap : {text : List ℕ} {s : ℕ} → NoneLeft text never s
no_gap = fails_dead never refl

module _ {text : List ℕ} {f : Flags} {p : Parser} (a : At text f p) where
  -- nothing that begins with the lexeme that stands here
  not_begun : {g : G} (k : Kind) → p.token.kind ≡ k → one_of_kinds unsettled k ≡ false → ((w e : Bool) → starts first_of g full k w e ≡ false) → NoneLeft text g p.prev_token_end
  not_begun {g} k i n h = fails_here firsts (λ y l c. false≢true (sym (h y.newline y.escaped) ∙ subst (λ (v : Kind). starts first_of g full v y.newline y.escaped ≡ true) (kind_here a i n y l) c))

  no_rest_at : one_of_kinds (Dot3 ∷ []) p.token.kind ≡ false → NoneLeft text (rest_of f (named_rest f)) p.prev_token_end
  unfolding covers apart
  no_rest_at n = fails_at a (rest_of f (named_rest f)) (Dot3 ∷ []) refl n

  no_end_at : one_of_kinds (RCurly ∷ []) p.token.kind ≡ false → NoneLeft text (tok RCurly) p.prev_token_end
  unfolding covers apart
  no_end_at n = fails_at a (tok RCurly) (RCurly ∷ []) refl n

  no_property_here : p.token.kind ≡ RCurly → NoneLeft text (symbol PatternProperty f) p.prev_token_end
  unfolding apart
  no_property_here k = fails_here firsts (λ y l c. not_both (λ k w e. starts first_of (symbol PatternProperty f) full k w e) (λ k w e. one_of_kinds (RCurly ∷ template_tails) k) refl y.kind y.newline y.escaped c (closing_there a k y l).0)

  -- the closing brace stands here
  pub properties_closed : {ids : List (Option NodeId)} → p.token.kind ≡ RCurly → OneMore text f (properties_left f) (tok RCurly) p p ids ids
  unfolding covers
  properties_closed {ids} k = more_from (end_due never (symbol PatternProperty f) (rest_of f (named_rest f)) RCurly no_gap (no_property_here k) (no_rest_at (ap (one_of_kinds (Dot3 ∷ [])) k))) (none_yet ids a)

  -- neither that nor a rest
  module _ (n : one_of_kinds (RCurly ∷ Dot3 ∷ []) p.token.kind ≡ false) where
    property_first : Goes rule (Lex text) (plain full) end (properties_left f) p.prev_token_end (seq (symbol PatternProperty f) (behind_one never (symbol PatternProperty f) (rest_of f (named_rest f)) (tok RCurly))) p.prev_token_end (λ us. us) (still 0)
    unfolding covers apart
    property_first = item_due never (symbol PatternProperty f) (rest_of f (named_rest f)) RCurly no_gap (fails_at a (rest_of f (named_rest f)) (RCurly ∷ Dot3 ∷ []) refl n) (fails_at a (tok RCurly) (RCurly ∷ Dot3 ∷ []) refl n)

    pub property_stops : (q : Parser) (e : Stop) → Stops p q e (NoItem text (at PatternProperty f) p.prev_token_end) → Stops p q e (NoneLeft text (properties_left f) p.prev_token_end)
    unfolding covers
    property_stops q e s = stops_so p q e (λ m. property_first ▹✗ item_fails refl m) s

    module _ {q : Parser} {ids js : List (Option NodeId)} {id : NodeId} (x : ItemTaken text f (at PatternProperty f) p q id) (g : js ≡ ids ++ Some id ∷ []) where
      property_read : OneMore text f (properties_left f) (behind_one never (symbol PatternProperty f) (rest_of f (named_rest f)) (tok RCurly)) p q ids js
      unfolding covers
      property_read = more_from property_first (item_more a refl x g)

      -- it is the last one
      pub property_last : (q.token.kind ≡ Comma → ⊥) → OneMore text f (properties_left f) (tok RCurly) p q ids js
      unfolding apart
      property_last m = item_last never (symbol PatternProperty f) (rest_of f (named_rest f)) RCurly property_read (none_there Comma x.at refl m)

      -- a comma stands behind it
      pub property_comma : {r : Parser} → q.token.kind ≡ Comma → Moved text f q r → OneMore text f (properties_left f) (properties_left f) p r ids js
      unfolding covers apart
      property_comma k m = item_comma never (symbol PatternProperty f) (rest_of f (named_rest f)) RCurly property_read (fails_at x.at (tok RCurly) (RCurly ∷ []) refl (ap (one_of_kinds (RCurly ∷ [])) k)) k m

  -- a rest stands here
  module _ (k : p.token.kind ≡ Dot3) where
    rest_first : Goes rule (Lex text) (plain full) end (properties_left f) p.prev_token_end (seq (rest_of f (named_rest f)) (tok RCurly)) p.prev_token_end (λ us. us) (still 0)
    unfolding covers
    rest_first = last_due never (symbol PatternProperty f) (rest_of f (named_rest f)) RCurly no_gap (not_begun Dot3 k refl (λ w e. refl)) (no_end_at (ap (one_of_kinds (RCurly ∷ [])) k))

    pub rest_stops : (q : Parser) (e : Stop) → Stops p q e (Fails rule (Lex text) behind_item end (named_rest f) p.prev_token_end) → Stops p q e (NoneLeft text (properties_left f) p.prev_token_end)
    unfolding covers
    rest_stops q e s = stops_so p q e (λ m. rest_first ▹✗ rest_fails f refl m) s

    pub rest_taken : {q : Parser} {ids js : List (Option NodeId)} {id : NodeId} → PartTaken text f (named_rest f) p q id → js ≡ ids ++ Some id ∷ [] → OneMore text f (properties_left f) (seq (rest_comma f) (tok RCurly)) p q ids js
    unfolding covers
    rest_taken x g = more_from rest_first (rest_more a refl x g)

-- ---- the pattern with its braces

abbrev in_braces : Flags → G
in_braces f = tok LCurly ▸ properties_left f

module _ {text : List ℕ} {f : Flags} {o : Parser} (a : At text f o) (k : o.token.kind ≡ LCurly) where
  pattern_alone : Goes rule (Lex text) (after (at Binding f)) end (rule (at Binding f)) o.prev_token_end (symbol Pattern f) o.prev_token_end (λ us. us) (still 0)
  unfolding rule rule_of covers
  pattern_alone = at_kind a LCurly k refl

  object_alone : Goes rule (Lex text) (plain full) end (rule (at Pattern f)) o.prev_token_end (mk object_pattern (in_braces f)) o.prev_token_end (λ us. us) (still 0)
  unfolding rule rule_of covers
  object_alone = at_kind a LCurly k refl

  pub no_object : Fails rule (Lex text) (plain full) end (in_braces f) o.prev_token_end → Underived text (at Binding f) o.prev_token_end
  no_object n = fails_by (pattern_alone ▹✗ fails_rule {X' = plain full} (λ l cs vs y d. (refl, refl)) (object_alone ▹✗ fails_node inside_full n))

  pub object_opened : {q : Parser} → Moved text f o q → Partway text f (in_braces f) (properties_left f) o q [] []
  object_opened m = part_sign LCurly a k (plain_sign LCurly a k refl refl brace_plain) refl m

  module _ {p : Parser} {js : List (Option NodeId)} (x : Partway text f (in_braces f) (tok RCurly) o p [] js) where
    pub unclosed_object : one_of_kinds (RCurly ∷ []) p.token.kind ≡ false → Underived text (at Binding f) o.prev_token_end
    unclosed_object n = no_object (part_path_fails x (no_end_at x.at n))

    module _ {q : Parser} (e : p.token.kind ≡ RCurly) (m : Moved text f p q) where
      whole_object : Partway text f (in_braces f) nothing o q [] js
      whole_object = parts x (part_last RCurly x.at e (plain_sign RCurly x.at e refl refl closing_brace_plain) refl m)

      object_path : Path text f (after (at Binding f)) (rule (at Binding f)) o nothing q (tree (label_here object_pattern no_op o q) (whole_object.slots end))
      object_path = pattern_alone ⟼ by_symbol_as {X' = plain full} (λ l cs vs y d. (refl, refl)) (object_alone ⟼ noded a (part_path whole_object))

      pub object_answers : {w : Parser} {id : NodeId} (s : Span) → s.start ≡ o.token.span.start → s.end ≡ q.prev_token_end → MadeHere (plain_label node_kind.ObjectPattern op_made.None s) js q w id → Numbered text f (at Binding f) o w id
      object_answers {w} {id} s b d n =
          let l : plain_label node_kind.ObjectPattern op_made.None s ≡ label_here object_pattern no_op o q = rw (b, d) refl in
          let y : MadeHere (label_here object_pattern no_op o q) js q w id = subst (λ (v : Label). MadeHere v js q w id) l n in
          let h : HoldsAll q.nodes (length o.nodes) (length q.nodes) js (whole_object.slots end) = whole_object.holds (length o.nodes) end (HoldsAll-none o.nodes (length o.nodes) (length o.nodes) (omega arith)) in
          by_path object_path whole_object.same y.stays (λ u v. refl) refl (node_held y h) (Keeps-trans whole_object.keeps (Keeps-made y.made)) refl (one_lies y)
