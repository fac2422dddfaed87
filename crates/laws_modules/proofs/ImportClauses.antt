-- Import clauses (ECMA-262, 16.2.2): names for the default export, for all exports, and for some.
use Rattle.std.proofs.Common.{ℕ, ◌≡◌, ◌≤◌, List, [], ◌∷◌, ◌++◌, length, Option, Some, None, true, false, not, refl, sym, ap, subst, arith, ◌∙◌}
use Rattle.std.specs.Prelude.{Err}
use Rattle.std.proofs.lemmas.Bool.{false≢true, and_parts}
use Rattle.js_base.specs.Kinds.{one_of_kinds, same_kind}
use Rattle.js_base.specs.declared.diagnostic.DiagnosticKind.TheVariants.{ExpectToken, ImportEqualsInTs}
use Rattle.js_base.specs.declared.kind.Kind.TheVariants.{As, Comma, Eq, From, LCurly, Star}
use Rattle.js_base.specs.declared.span.Span.{Span}
use Rattle.js_grammar.specs.Grammar.{Lexeme, nothing, seq}
use Rattle.js_grammar.specs.Parsing.{Test, plain, full, still, Goes, Fails}
use Rattle.js_grammar.specs.Productions.{G, Flags, tok, BindingIdentifier}
use Rattle.js_grammar.specs.Productions.{sym as symbol}
use Rattle.js_grammar.specs.Table.{rule, import_clause}
use Rattle.js_grammar.specs.Trees.{Label, end, tree, import_default_specifier, import_namespace_specifier, no_op}
use Rattle.js_grammar.proofs.Looks.{apart, covers}
use Rattle.js_grammar.proofs.Calculus.{Between, ◌▹◌, ◌▹✗◌, fails_alt, fails_node, fails_nothing, inside_full, left, part_fails, right, weaken_fails}
use Rattle.laws_shared.specs.js_tree.declared.id.NodeId.{NodeId}
use Rattle.laws_shared.specs.js_tree.declared.kind.NodeKind.TheVariants as node
use Rattle.laws_shared.specs.js_tree.declared.op.Op.TheVariants as op
use Rattle.laws_shared.proofs.js_tree.HoldingLemmas.{HoldsAll-none, Keeps-trans, Keeps-made}
use Rattle.laws_shared.specs.js_cursor.Moves.{Expects, GivesUp, IsKind, IsUnexpected, MovesOn}
use Rattle.laws_shared.specs.js_cursor.Parsers.{Parser}
use Rattle.laws_shared.specs.js_cursor.declared.stop.Stop.{Stop}
use Rattle.laws_shared.specs.Answers.{Stops}
use Rattle.laws_shared.specs.Arguments.{Partway}
use Rattle.laws_shared.specs.Classes.{EndsParse}
use Rattle.laws_shared.specs.Lexemes.{Lex}
use Rattle.laws_shared.specs.Methods.{WholeTaken}
use Rattle.laws_shared.specs.Moves.{MadeHere, Moved, plain_label}
use Rattle.laws_shared.specs.Stands.{NameHere, StandsHere}
use Rattle.laws_shared.specs.States.{At, Standing}
use Rattle.laws_shared.proofs.Expected.{expected, not_due, unexpected}
use Rattle.laws_shared.proofs.Giving.{gives_up, gives_up_here}
use Rattle.laws_shared.proofs.MadeNodes.{node_held, one_held, one_lies}
use Rattle.laws_shared.proofs.Moving.{stops_behind, stops_so}
use Rattle.laws_shared.proofs.NameKinds.{listed_name, name_apart, name_at}
use Rattle.laws_shared.proofs.Parts.{part_from, part_path, part_path_fails, part_sign, parts}
use Rattle.laws_shared.proofs.Paths.{Path, ◌⟼◌, ◌⟶✗◌, at_kind, fails_at, label_here, noded}
use Rattle.laws_shared.proofs.PlainSigns.{eq_plain, star_plain}
use Rattle.laws_shared.proofs.Signs.{plain_sign, stands_there}
use Rattle.laws_shared.proofs.Verdicts.{after as grown_behind}
use Rattle.laws_primary.proofs.Functions.{no_name_part}
use Rattle.laws_primary.proofs.Wholes.{part_under, whole_answers, whole_last, whole_part}
use Rattle.js_base.specs.declared.diagnostic.Diagnostic.{Diagnostic}
use Rattle.js_grammar.specs.Marks.{Mark}
use Rattle.laws_shared.specs.js_cursor.Places.{goal}
use Rattle.laws_shared.proofs.Classes.{gives_up_by}
use Rattle.laws_primary.proofs.Members.{kind_marked}
use Rattle.laws_modules.specs.declared.forms.NameList.TheVariants.{Imports}
use Rattle.laws_modules.specs.ImportClauses.{ImportsRead, NoImports, NoOthers, OthersTaken, default_part, ends_clause, import_equals, namespace_part, other_parts}
use Rattle.laws_modules.specs.NameLists.{ListTaken, NoList, list_of}

any_between : {X : Test} {a b : G} {s : ℕ} → Between rule X (plain full) end a b s
any_between = record { admits = λ ts us vs j k ls mid rest d d' e. (refl, refl) }

-- ---- a name for the default export

pub default_answers : {text : List ℕ} {f : Flags} {p q w : Parser} {local id : NodeId} → (a : At text f p) → (x : WholeTaken text f (symbol BindingIdentifier f) p q local) → (s : Span) → s.start ≡ p.token.span.start → s.end ≡ q.prev_token_end → MadeHere (plain_label node.ImportDefaultSpecifier op.None s) (Some local ∷ []) q w id → WholeTaken text f (default_part f) p w id
default_answers {p = p} {q} {w} {local} {id} a x s b c d =
    let l : plain_label node.ImportDefaultSpecifier op.None s ≡ label_here import_default_specifier no_op p q = rw (b, c) refl in
    let made : MadeHere (label_here import_default_specifier no_op p q) (Some local ∷ []) q w id = subst (λ (v : Label). MadeHere v (Some local ∷ []) q w id) l d in
    whole_answers x.same made.stays (one_held p.nodes made x.holds) (Keeps-trans x.keeps (Keeps-made made.made)) refl (one_lies made) (noded a (part_of x))
  where
    part_of : {text : List ℕ} {f : Flags} {g : G} {p q : Parser} {id : NodeId} (x : WholeTaken text f g p q id) → Path text f (plain full) g p nothing q (tree x.label x.slots)
    part_of x = record { at = x.at; further = x.further; pass = x.pass; walked = x.walked; verdict = x.verdict }

pub default_stops : (text : List ℕ) (f : Flags) (p q : Parser) (e : Stop) → Stops p q e (Fails rule (Lex text) (plain full) end (symbol BindingIdentifier f) p.prev_token_end) → Stops p q e (Fails rule (Lex text) (plain full) end (default_part f) p.prev_token_end)
default_stops text f p q e s = stops_so p q e (λ n. fails_node inside_full n) s

-- ---- a name for all exports

module _ {text : List ℕ} {f : Flags} {p q : Parser} (a : At text f p) (k : p.token.kind ≡ Star) (m : Moved text f p q) where
  star : Partway text f (seq (tok Star) (seq (tok As) (symbol BindingIdentifier f))) (seq (tok As) (symbol BindingIdentifier f)) p q [] []
  star = part_sign Star a k (plain_sign Star a k refl refl star_plain) refl m

  pub no_as : (r : Parser) (e : Stop) → Expects (IsKind As) ExpectToken None q r (Err e) → Stops p r e (Fails rule (Lex text) (plain full) end (namespace_part f) p.prev_token_end)
  no_as r e s = stops_behind r e star.same (λ g. grown_behind star.verdict g) (λ n. fails_node inside_full (part_path_fails star n)) (unexpected m.at As r e s (λ n. not_due m.at As refl n))

  module _ {r : Parser} (e : IsKind As q × MovesOn q r) where
    pub as_moved : Moved text f q r
    as_moved = expected m.at As e.0 e.1 refl refl

    to_local : Partway text f (seq (tok Star) (seq (tok As) (symbol BindingIdentifier f))) (symbol BindingIdentifier f) p r [] []
    to_local = parts star (part_sign As m.at e.0.0 e.0.1 refl as_moved)

    pub namespace_stops : (t : Parser) (x : Stop) → Stops r t x (Fails rule (Lex text) (plain full) end (symbol BindingIdentifier f) r.prev_token_end) → Stops p t x (Fails rule (Lex text) (plain full) end (namespace_part f) p.prev_token_end)
    namespace_stops t x s = stops_behind t x to_local.same (λ g. grown_behind to_local.verdict g) (λ n. fails_node inside_full (part_path_fails to_local n)) s

    module _ {t : Parser} {local : NodeId} (y : WholeTaken text f (symbol BindingIdentifier f) r t local) where
      namespace : Partway text f (seq (tok Star) (seq (tok As) (symbol BindingIdentifier f))) nothing p t [] (Some local ∷ [])
      namespace = parts to_local (whole_last y [])

      pub namespace_start : p.token.span.start ≤ t.prev_token_end
      namespace_start = let i = namespace.further in omega arith

      pub namespace_answers : {w : Parser} {id : NodeId} (s : Span) → s.start ≡ p.token.span.start → s.end ≡ t.prev_token_end → MadeHere (plain_label node.ImportNamespaceSpecifier op.None s) (Some local ∷ []) t w id → WholeTaken text f (namespace_part f) p w id
      namespace_answers {w} {id} s b c d =
          let l : plain_label node.ImportNamespaceSpecifier op.None s ≡ label_here import_namespace_specifier no_op p t = rw (b, c) refl in
          let made : MadeHere (label_here import_namespace_specifier no_op p t) (Some local ∷ []) t w id = subst (λ (v : Label). MadeHere v (Some local ∷ []) t w id) l d in
          whole_answers namespace.same made.stays (node_held made (namespace.holds (length p.nodes) end (HoldsAll-none p.nodes (length p.nodes) (length p.nodes) (omega arith)))) (Keeps-trans namespace.keeps (Keeps-made made.made)) refl (one_lies made) (noded a (part_path namespace))

-- ---- either of the two last

module _ {text : List ℕ} {f : Flags} {p : Parser} (a : At text f p) where
  pub namespace_other : {q : Parser} {id : NodeId} (ids : List (Option NodeId)) → p.token.kind ≡ Star → WholeTaken text f (namespace_part f) p q id → Partway text f (other_parts f) nothing p q ids (ids ++ Some id ∷ [])
  unfolding covers
  namespace_other ids k x = part_from (at_kind a Star k refl) (whole_last x ids)

  pub namespace_other_stops : (q : Parser) (e : Stop) → p.token.kind ≡ Star → Stops p q e (Fails rule (Lex text) (plain full) end (namespace_part f) p.prev_token_end) → Stops p q e (Fails rule (Lex text) (plain full) end (other_parts f) p.prev_token_end)
  unfolding covers
  namespace_other_stops q e k s = stops_so p q e (λ n. at_kind a Star k refl ▹✗ n) s

  to_list : p.token.kind ≡ LCurly → Goes rule (Lex text) (plain full) end (other_parts f) p.prev_token_end (list_of Imports f) p.prev_token_end (λ us. us) (still 0)
  unfolding covers
  to_list k = at_kind a LCurly k refl

  pub list_other : {q : Parser} (ids js : List (Option NodeId)) → p.token.kind ≡ LCurly → ListTaken Imports ids js p q → Partway text f (other_parts f) nothing p q ids js
  list_other ids js k x = part_from (to_list k) (x text f a)

  pub list_other_stops : (q : Parser) (e : Stop) → p.token.kind ≡ LCurly → NoList Imports p q e → Stops p q e (Fails rule (Lex text) (plain full) end (other_parts f) p.prev_token_end)
  list_other_stops q e k s = stops_so p q e (λ n. to_list k ▹✗ n) (s text f a)

  no_others : {X : Test} → one_of_kinds (Star ∷ LCurly ∷ []) p.token.kind ≡ false → Fails rule (Lex text) X end (other_parts f) p.prev_token_end
  unfolding covers apart
  no_others n = fails_at a (other_parts f) (Star ∷ LCurly ∷ []) refl n

  pub others_stop : (q : Parser) (e : Stop) → one_of_kinds (Star ∷ LCurly ∷ []) p.token.kind ≡ false → GivesUp (IsUnexpected p) p q e → Stops p q e (Fails rule (Lex text) (plain full) end (other_parts f) p.prev_token_end)
  others_stop q e n g = gives_up_here p q e a g (no_others n)

  -- ---- the clause without a name for the default export

  module _ (n : NameHere p false) where
    no_default : Fails rule (Lex text) (plain full) end (default_part f) p.prev_token_end
    no_default = fails_node inside_full (no_name_part a f (name_at false a n))

    to_others : Goes rule (Lex text) (plain ends_clause) end (import_clause f) p.prev_token_end (other_parts f) p.prev_token_end (λ us. us) (still 0)
    to_others = right (weaken_fails no_default (λ ts y e. (refl, refl))) ▹ right (part_fails no_default any_between)

    pub others_read : {q : Parser} {ids : List (Option NodeId)} → OthersTaken [] ids p q → ImportsRead text f p q ids
    others_read x = let y = x text f a in record { same = y.same; slots = y.slots; puts = y.puts; path = to_others ⟼ part_under y; held = y.holds (length p.nodes) end (HoldsAll-none p.nodes (length p.nodes) (length p.nodes) (omega arith)); keeps = y.keeps }

    pub others_fail : (q : Parser) (e : Stop) → NoOthers p q e → Stops p q e (NoImports text f p.prev_token_end)
    others_fail q e s = stops_so p q e (λ m. to_others ▹✗ weaken_fails m (λ ts y d. (refl, refl))) (s text f a)

  -- ---- and with one

  module _ (h : NameHere p true) where
    nor_others : {X : Test} → Fails rule (Lex text) X end (other_parts f) p.prev_token_end
    unfolding apart
    nor_others = no_others (name_apart (Star ∷ LCurly ∷ []) refl p.token.kind (listed_name f.yield_ f.await_ p.token.kind (name_at true a h)))

    pub no_clause : (q : Parser) (e : Stop) → Stops p q e (Fails rule (Lex text) (plain full) end (default_part f) p.prev_token_end) → Stops p q e (NoImports text f p.prev_token_end)
    no_clause q e s = stops_so p q e (λ n. fails_alt (weaken_fails n (λ ts y d. (refl, refl))) (fails_alt (part_fails n any_between) nor_others)) s

    module _ {q : Parser} {id : NodeId} (x : WholeTaken text f (default_part f) p q id) where
      named : Partway text f (seq (default_part f) (seq (tok Comma) (other_parts f))) (seq (tok Comma) (other_parts f)) p q [] (Some id ∷ [])
      named = whole_part x []

      -- no comma stands behind it
      module _ (s : StandsHere q Comma false) where
        no_more : {X : Test} → Fails rule (Lex text) X end (seq (default_part f) (seq (tok Comma) (other_parts f))) p.prev_token_end
        no_more = weaken_fails (part_path_fails named (not_due x.at Comma refl s)) (λ ts y d. (refl, refl))

        pub default_alone : ImportsRead text f p q (Some id ∷ [])
        default_alone = let y = whole_last x [] in record { same = y.same; slots = y.slots; puts = y.puts; path = left (fails_alt no_more nor_others) ⟼ part_under y; held = y.holds (length p.nodes) end (HoldsAll-none p.nodes (length p.nodes) (length p.nodes) (omega arith)); keeps = y.keeps }

        -- nor `from`: nothing is derived
        pub equals_stops : (r : Parser) (e : Stop) → q.token.kind ≡ Eq → GivesUp EndsParse q r e → Stops p r e (NoImports text f p.prev_token_end)
        equals_stops r e k g = stops_behind r e x.same (λ d. grown_behind x.verdict d) (λ z. z) (gives_up EndsParse q r e x.at g (λ d u. u) (fails_alt (alone_fails (λ y l. (stands_there x.at k refl y l).0)) (fails_alt no_more nor_others)))
          where
            alone_fails : ((y : Lexeme) → Lex text q.prev_token_end y → y.kind ≡ Eq) → Fails rule (Lex text) (plain ends_clause) end (default_part f) p.prev_token_end
            alone_fails i = part_under (whole_last x []) ⟶✗ fails_nothing (λ ts y l e. false≢true (sym (ap (same_kind From) (i y l)) ∙ (and_parts (same_kind From y.kind) (not y.escaped) e.0).0))

      -- one stands there
      module _ {r : Parser} (e : IsKind Comma q × MovesOn q r) where
        pub comma_moved : Moved text f q r
        comma_moved = expected x.at Comma e.0 e.1 refl refl

        alone_fails : Fails rule (Lex text) (plain ends_clause) end (default_part f) p.prev_token_end
        alone_fails = part_under (whole_last x []) ⟶✗ fails_nothing (λ ts y l d. false≢true (sym (ap (same_kind From) (stands_there x.at e.0.0 refl y l).0) ∙ (and_parts (same_kind From y.kind) (not y.escaped) d.0).0))

        to_both : Goes rule (Lex text) (plain ends_clause) end (import_clause f) p.prev_token_end (seq (default_part f) (seq (tok Comma) (other_parts f))) p.prev_token_end (λ us. us) (still 0)
        to_both = right alone_fails ▹ left nor_others

        to_rest : Partway text f (seq (default_part f) (seq (tok Comma) (other_parts f))) (other_parts f) p r [] (Some id ∷ [])
        to_rest = parts named (part_sign Comma x.at e.0.0 e.0.1 refl comma_moved)

        pub both_read : {t : Parser} {ids : List (Option NodeId)} → OthersTaken (Some id ∷ []) ids r t → ImportsRead text f p t ids
        both_read o = let y = parts to_rest (o text f to_rest.at) in record { same = y.same; slots = y.slots; puts = y.puts; path = to_both ⟼ part_under y; held = y.holds (length p.nodes) end (HoldsAll-none p.nodes (length p.nodes) (length p.nodes) (omega arith)); keeps = y.keeps }

        pub both_stop : (t : Parser) (z : Stop) → NoOthers r t z → Stops p t z (NoImports text f p.prev_token_end)
        both_stop t z s = stops_behind t z to_rest.same (λ d. grown_behind to_rest.verdict d) (λ n. to_both ▹✗ weaken_fails (part_path_fails to_rest n) (λ ts y d. (refl, refl))) (s text f to_rest.at)

-- what is told of an import of TypeScript

pub equals_marked : (p : Parser) {d : Diagnostic} → Standing p → p.token.kind ≡ Eq → d ≡ import_equals p.token.span → Mark (goal p) p.text d
equals_marked p a k e = subst (λ (v : Diagnostic). Mark (goal p) p.text v) (sym e) (kind_marked Eq refl refl ImportEqualsInTs p.token.span (λ s x. (x, (refl, refl))) a (k, plain_sign Eq a k refl refl eq_plain) refl)

pub equals_ends : (p q : Parser) (d : Diagnostic) (e : Stop) → d ≡ import_equals p.token.span → GivesUp (λ v. v ≡ d) p q e → GivesUp EndsParse p q e
equals_ends p q d e i g = gives_up_by p q e g (λ v u. subst EndsParse (sym (u ∙ i)) refl)
