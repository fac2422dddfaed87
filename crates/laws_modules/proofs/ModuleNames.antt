-- Names of imports and exports (ECMA-262, 16.2.2).
use Rattle.std.proofs.Common.{ℕ, ◌≡◌, inl, inr, List, [], ◌∷◌, Option, Some, None, Bool, true, false, refl, sym, ap, subst, ◌∙◌}
use Rattle.std.specs.Prelude.{MatchResult, Result, Ok, Err, unwrap_or}
use Rattle.std.proofs.lemmas.Bool.{false≢true}
use Rattle.js_base.specs.KindSets.{identifier_name_kinds}
use Rattle.js_base.specs.Kinds.{one_of_kinds}
use Rattle.js_base.specs.Texts.{words}
use Rattle.js_base.specs.declared.diagnostic.DiagnosticKind.TheVariants.{ExportLoneSurrogate}
use Rattle.js_base.specs.declared.kind.Kind.{Kind}
use Rattle.js_base.specs.declared.kind.Kind.TheVariants.{Str, Undetermined}
use Rattle.js_base.specs.declared.span.Span.{Span}
use Rattle.js_base.specs.part_text.Decoding.{string_units}
use Rattle.js_grammar.specs.Conditions.{well_formed}
use Rattle.js_grammar.specs.Grammar.{nothing, seq, text as spelled}
use Rattle.js_grammar.specs.Parsing.{plain, full, still, Goes, Fails}
use Rattle.js_grammar.specs.Productions.{G, Flags, at, ExportName, IdentifierName}
use Rattle.js_grammar.specs.Productions.{sym as symbol}
use Rattle.js_grammar.specs.Strings.{string_inside}
use Rattle.js_grammar.specs.Table.{rule, rule_of, string}
use Rattle.js_grammar.specs.Trees.{end, no_op, string_literal, tree}
use Rattle.js_grammar.proofs.Looks.{apart, covers}
use Rattle.js_grammar.proofs.Calculus.{◌▹✗◌, fails_alt, fails_rule, fails_text, left, part_fails, reads_text, weaken_fails_on}
use Rattle.laws_shared.specs.js_tree.Nodes.{node_at}
use Rattle.laws_shared.specs.js_tree.Sources.{units_of}
use Rattle.laws_shared.specs.js_tree.declared.id.NodeId.{NodeId}
use Rattle.laws_shared.specs.js_tree.declared.kind.NodeKind.{NodeKind}
use Rattle.laws_shared.specs.js_tree.declared.kind.NodeKind.TheVariants as node
use Rattle.laws_shared.specs.js_tree.declared.op.Op.TheVariants as op
use Rattle.js_grammar.specs.Marks.{Mark}
use Rattle.laws_shared.specs.js_cursor.Moves.{GivesUp, OnlyMemory}
use Rattle.laws_shared.specs.js_cursor.Parsers.{Parser}
use Rattle.laws_shared.specs.js_cursor.Places.{goal}
use Rattle.laws_shared.specs.js_cursor.declared.stop.Stop.TheVariants.{Fatal, NoMemory}
use Rattle.laws_shared.specs.Classes.{EndsParse}
use Rattle.laws_shared.proofs.Giving.{gives_up}
use Rattle.laws_shared.proofs.Verdicts.{after as grown_behind}
use Rattle.laws_modules.proofs.TokenMarks.{marked_later, token_marked}
use Rattle.laws_shared.specs.js_cursor.declared.stop.Stop.{Stop}
use Rattle.laws_shared.specs.Answers.{Outcome, Stops}
use Rattle.laws_shared.specs.Lexemes.{Lex}
use Rattle.laws_shared.specs.Methods.{WholeOutcome, WholeTaken}
use Rattle.laws_shared.specs.Moves.{LeafTaken, Moved, TakesLeaf}
use Rattle.laws_shared.specs.NodeTexts.{spelled_at}
use Rattle.laws_shared.specs.States.{At, Standing}
use Rattle.laws_shared.proofs.Ahead.{pass_over}
use Rattle.laws_shared.proofs.Moving.{stops_behind, stops_so}
use Rattle.laws_shared.proofs.Paths.{Path, ◌⟼◌, at_kind, by_symbol_as, fails_at, label_here, last_token, noded}
use Rattle.laws_shared.proofs.Signs.{other_kind}
use Rattle.laws_primary.proofs.Members.{name_taken, no_name}
use Rattle.laws_primary.proofs.Properties.{kinds_apart}
use Rattle.laws_primary.proofs.PropertyNames.{string_plain}
use Rattle.laws_primary.proofs.Wholes.{whole_of}
use Rattle.laws_modules.specs.ModuleNames.{NoExportName, PairedHere, TakesExportName, export_node, is_paired, lone_surrogate}
use Rattle.laws_modules.proofs.StringUnits.{string_spelled, string_units_are}
use Rattle.laws_modules.proofs.WellFormed.{well_formed_as}
use Rattle.laws_modules.proofs.WholeParts.{leaf_whole, whole_by, whole_symbol}

-- a string in which no surrogate is alone
abbrev string_line : G
string_line = seq (spelled (well_formed false)) string

-- a word is no string
pub word_no_string : (k : Kind) → one_of_kinds identifier_name_kinds k ≡ true → one_of_kinds (Str ∷ []) k ≡ false
unfolding apart words
word_no_string k h = kinds_apart identifier_name_kinds (Str ∷ []) refl k h

-- the node of a word
pub word_node : (k : Kind) → one_of_kinds identifier_name_kinds k ≡ true → export_node k ≡ node.IdentifierName
unfolding words
word_node Str h = absurd (false≢true h)
word_node k h = refl

module _ {text : List ℕ} {f : Flags} {p : Parser} (a : At text f p) where
  no_string : one_of_kinds (Str ∷ []) p.token.kind ≡ false → Fails rule (Lex text) (plain full) end string_line p.prev_token_end
  unfolding covers apart
  no_string n = fails_at a string_line (Str ∷ []) refl n

  -- ---- a name or a word

  pub whole_name : (q : Parser) (r : Result NodeId Stop) → Outcome text f (at IdentifierName f) p q r → WholeOutcome text f (symbol IdentifierName f) p q r
  whole_name q (Ok id) x = whole_of x (record { admits = λ ts vs k ls rest d e. (refl, refl) })
  whole_name q (Err e) x = stops_so p q e (λ n. weaken_fails_on n (record { admits = λ ts vs k ls rest d e. (refl, refl) })) x

  word_read : (q : Parser) (r : Result NodeId Stop) → one_of_kinds identifier_name_kinds p.token.kind ≡ true → Outcome text f (at IdentifierName f) p q r → WholeOutcome text f (symbol ExportName f) p q r
  unfolding rule rule_of
  word_read q r h x = whole_symbol text f p (at ExportName f) q r (whole_by text f p q r (left (no_string (word_no_string p.token.kind h))) (whole_name q r x))

  -- ---- a string

  module _ (k : p.token.kind ≡ Str) where
    to_string : Goes rule (Lex text) (plain full) end (rule (at ExportName f)) p.prev_token_end string_line p.prev_token_end (λ us. us) (still 0)
    unfolding rule rule_of covers
    to_string = at_kind a Str k refl

    string_path : PairedHere p true → {q : Parser} → Moved text f p q → Path text f (plain full) (symbol ExportName f) p nothing q (tree (label_here string_literal no_op p q) end)
    string_path w m = by_symbol_as {X' = plain full} (λ l cs vs y d. (refl, refl)) (to_string ⟼ (pass_over (reads_text (well_formed false) (λ y l. w text f a y l)) ⟼ noded a (last_token Str a k (string_plain a k) refl m)))

    pub lone_fails : PairedHere p false → NoExportName text f p.prev_token_end
    lone_fails w = fails_rule {X' = plain full} (λ l cs vs y d. (refl, refl)) (to_string ▹✗ part_fails {X' = plain full} (fails_text (well_formed false) (λ y l. w text f a y l)) (record { admits = λ ts us vs j k ls mid rest d d' e. (refl, refl) }))

  -- ---- either

  pub export_name_read : {q : Parser} {id : NodeId} → TakesExportName p q (Ok id) → WholeTaken text f (symbol ExportName f) p q id
  export_name_read {q} {id} (inl h, t) =
      let u : TakesLeaf node.IdentifierName op.None p q id = subst (λ (v : NodeKind). TakesLeaf v op.None p q id) (word_node p.token.kind h) t in
      word_read q (Ok id) h (name_taken text f p q (Ok id) a h u)
  export_name_read {q} {id} (inr (k, w), t) =
      let u : TakesLeaf node.StringLiteral op.None p q id = subst (λ (v : NodeKind). TakesLeaf v op.None p q id) (ap export_node k) t in
      leaf_whole node.StringLiteral op.None (u text f a) (string_path k w (u text f a).moved)

  -- and the lexeme that was passed
  pub export_name_leaf : {q : Parser} {id : NodeId} → TakesExportName p q (Ok id) → LeafTaken (export_node p.token.kind) op.None text f p q id
  export_name_leaf z = z.1 text f a

  -- neither stands here
  pub no_export_name : one_of_kinds identifier_name_kinds p.token.kind ≡ false → (p.token.kind ≡ Str → ⊥) → NoExportName text f p.prev_token_end
  unfolding rule rule_of
  no_export_name h n = fails_rule {X' = plain full} (λ l cs vs y d. (refl, refl)) (fails_alt (weaken_fails_on (no_name a h) (record { admits = λ ts vs k ls rest d e. (refl, refl) })) (no_string (other_kind Str p.token.kind n)))

-- ---- what is known of the string's code units

paired_as : (o : Option (List ℕ)) → is_paired o ≡ well_formed false (unwrap_or o [])
paired_as (Some us) = well_formed_as us
paired_as None = refl

pub paired_here : {p q : Parser} {id : NodeId} (b : Bool) → p.token.kind ≡ Str → TakesLeaf node.StringLiteral op.None p q id → b ≡ is_paired (units_of (node_at q.nodes id) q.text) → PairedHere p b
paired_here {p} {q} {id} b k t e text f a y l =
    ap (well_formed false) (string_spelled a k y l).1 ∙ (sym (paired_as (string_units (string_inside (spelled_at p.text p.token)))) ∙ (ap is_paired (sym (string_units_are a k t)) ∙ sym e))

-- ---- what is told of a string in which a surrogate is alone

pub no_undetermined : (p : Parser) → p.token.kind ≡ Str → p.token.kind ≡ Undetermined → ⊥
no_undetermined p k e = let z : Str ≡ Undetermined = sym k ∙ e in cc

pub string_taken : {text : List ℕ} {f : Flags} {p q : Parser} {id : NodeId} (a : At text f p) → p.token.kind ≡ Str → TakesLeaf node.StringLiteral op.None p q id → WholeTaken text f string p q id
string_taken a k t = leaf_whole node.StringLiteral op.None (t _ _ a) (noded a (last_token Str a k (string_plain a k) refl (t _ _ a).moved))

pub lone_marked : {p q : Parser} {id : NodeId} {s : Span} → Standing p → p.token.kind ≡ Str → TakesLeaf node.StringLiteral op.None p q id → s ≡ p.token.span → Mark (goal q) q.text (lone_surrogate s)
lone_marked {p} {q} {s = s} a k t e = subst (λ (v : Span). Mark (goal q) q.text (lone_surrogate v)) (sym e) (marked_later (string_taken a k t).same (token_marked p ExportLoneSurrogate a.at (no_undetermined p k) (λ p s x y. ((x, y), (refl, refl)))))

pub lone_stops : {text : List ℕ} {f : Flags} {p q : Parser} {id : NodeId} (s : Span) (r : Parser) (e : Stop) → (a : At text f p) → p.token.kind ≡ Str → TakesLeaf node.StringLiteral op.None p q id → PairedHere p false → GivesUp (λ d. d ≡ lone_surrogate s) q r e → Stops p r e (NoExportName text f p.prev_token_end)
lone_stops {q = q} s r e a k t w g = let x = string_taken a k t in stops_behind r e x.same (λ d. grown_behind x.verdict d) (λ z. z) (gives_up (λ d. d ≡ lone_surrogate s) q r e x.at g (λ d u. subst EndsParse (sym u) refl) (lone_fails a k w))

pub memory_name : (p q : Parser) (r : Result NodeId Stop) → MatchResult r (λ id. TakesExportName p q (Ok id)) OnlyMemory → TakesExportName p q r
memory_name p q (Ok id) x = x
memory_name p q (Err Fatal) x = absurd x
memory_name p q (Err NoMemory) x = λ text f a. tt

-- a name or a word was passed
pub word_taken : (p q : Parser) (r : Result NodeId Stop) → one_of_kinds identifier_name_kinds p.token.kind ≡ true → MatchResult r (λ id. TakesLeaf node.IdentifierName op.None p q id) OnlyMemory → TakesExportName p q r
word_taken p q (Ok id) h t = (inl h, subst (λ (v : NodeKind). TakesLeaf v op.None p q id) (sym (word_node p.token.kind h)) t)
word_taken p q (Err Fatal) h t = absurd t
word_taken p q (Err NoMemory) h t = λ text f a. tt

-- a string was
pub string_name : {p q : Parser} {id : NodeId} → p.token.kind ≡ Str → TakesLeaf node.StringLiteral op.None p q id → PairedHere p true → TakesExportName p q (Ok id)
string_name {p} {q} {id} k t w = (inr (k, w), subst (λ (v : NodeKind). TakesLeaf v op.None p q id) (sym (ap export_node k)) t)
