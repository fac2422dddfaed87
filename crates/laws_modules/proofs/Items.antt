-- An item of a text: a declaration of an import, told outside modules, or an item of a list of statements (ECMA-262, 16.1, 16.2).
use Rattle.std.proofs.Common.{ℕ, ◌≡◌, inl, inr, max, List, Bool, true, false, not, ◌||◌, IsTrue, refl, sym, ap, subst, arith, ◌∙◌}
use Rattle.std.specs.Prelude.{◌↔◌, IfOk, Result, Ok, Err}
use Rattle.std.proofs.lemmas.Bool.{or_right}
use Rattle.js_base.specs.KindSets.{binding_identifier_kinds}
use Rattle.js_base.specs.Kinds.{one_of_kinds}
use Rattle.js_base.specs.Sources.{is_goal}
use Rattle.js_base.specs.declared.diagnostic.Diagnostic.{Diagnostic}
use Rattle.js_base.specs.declared.kind.Kind.TheVariants.{Async, Import, Let}
use Rattle.js_base.specs.declared.source_type.Goal.TheVariants as source
use Rattle.js_grammar.specs.Conditions.{ends_in_sub}
use Rattle.js_grammar.specs.Follow.{after}
use Rattle.js_grammar.specs.Grammar.{Lexemes, nothing}
use Rattle.js_grammar.specs.Parsing.{Goes, still}
use Rattle.js_grammar.specs.Productions.{Flags, at, ImportDecl, Item, ListItem}
use Rattle.js_grammar.specs.Productions.{sym as symbol}
use Rattle.js_grammar.specs.Table.{rule, rule_of}
use Rattle.js_grammar.specs.Trees.{Label, Slots, end, import_declaration, tree}
use Rattle.js_grammar.proofs.Calculus.{◌▹◌, by_rule, fails_alt, fails_under, fails_when, right, weaken_fails_on, weaken_on, where_true}
use Rattle.laws_shared.specs.js_tree.Labels.{kind_of}
use Rattle.laws_shared.specs.js_tree.Nodes.{node_at}
use Rattle.laws_shared.specs.js_tree.declared.id.NodeId.{NodeId}
use Rattle.laws_shared.specs.js_cursor.Moves.{KeepsDiagnostic}
use Rattle.laws_shared.specs.js_cursor.Parsers.{Parser}
use Rattle.laws_shared.specs.js_cursor.Starts.{is_module}
use Rattle.laws_shared.specs.js_cursor.declared.stop.Stop.{Stop}
use Rattle.laws_shared.specs.Answers.{Grown, Numbered, Stops, Stretch, Underived, Verdict, clean, unclean, wider, Outcome}
use Rattle.laws_shared.specs.Lexemes.{Lex}
use Rattle.laws_shared.specs.States.{At, Same}
use Rattle.laws_shared.specs.Statements.{NoStatement, Statement, StatementOutcome, after_statement, statement_kinds}
use Rattle.laws_shared.proofs.Escapes.{keyword_none}
use Rattle.laws_shared.proofs.Giving.{kept_one}
use Rattle.laws_shared.proofs.MadeNodes.{held_label}
use Rattle.laws_shared.proofs.Moving.{same_both, same_itself, stops_behind, stops_so}
use Rattle.laws_shared.proofs.Told.{told_at, told_same}
use Rattle.laws_shared.proofs.Verdicts.{grown_both, grown_first, grown_on, verdict_of}
use Rattle.laws_primary.proofs.ImportWords.{module_so}
use Rattle.laws_statements.proofs.Statements.{never_open, no_label_at, no_symbol, statement_fails}
use Rattle.laws_statements.proofs.WordLookaheads.{no_async_here, no_let_here}
use Rattle.laws_statements.proofs.StatementLists.{as_item}
use Rattle.laws_shared.specs.js_cursor.Moves.{Peeks}
use Rattle.laws_shared.specs.Stands.{StandsHere}
use Rattle.js_base.specs.declared.token.Token.{Token}
use Rattle.js_grammar.proofs.Looks.{apart, not_both}
use Rattle.laws_modules.specs.Items.{BeginsImport, ChecksGoal, ImportHere, NoImportHere, import_links, import_openings, outside_module}
use Rattle.laws_modules.proofs.ImportOpenings.{no_declaration, no_expression, peeked_none}

-- what was told before what was read in wider forms
told_before : {W K : Type 0} {p q r : List K} {C B D E : Type 0} → W → Grown p q → Verdict W q r C B → (C → D) → (B → E) → Verdict W p r D E
told_before w g (clean e c) f i = wider w (grown_first g e) (f c)
told_before w g (unclean h n) f i = unclean (grown_both g h) (i n)
told_before w g (wider v h c) f i = wider w (grown_both g h) (f c)

module _ {text : List ℕ} {f : Flags} {p : Parser} (a : At text f p) where
  -- ---- where no declaration begins

  pub other_item : (q : Parser) (r : Result NodeId Stop) → NoImportHere p → StatementOutcome text f (at ListItem f) p q r → StatementOutcome text f (at Item f) p q r
  other_item q r n x = as_item p q r (weaken_fails_on (no_declaration a n) (record { admits = λ ts vs k ls rest d e. (refl, refl) })) x

  -- ---- where one begins

  module _ (s : BeginsImport p) where
    no_list_item : NoStatement text (at ListItem f) p.prev_token_end
    no_list_item = statement_fails a (keyword_none p.token statement_kinds (ap (one_of_kinds statement_kinds) s.0.0) refl)
        (λ X. no_label_at a (ap (one_of_kinds binding_identifier_kinds) s.0.0) X)
        (no_async_here a (λ k e. let q : Import ≡ Async = sym s.0.0 ∙ k in absurd (cc)))
        true (no_let_here a (λ k e. let q : Import ≡ Let = sym s.0.0 ∙ k in absurd (cc)) true)
        (no_expression a s.0 s.1)

    to_import : f.module_goal ≡ true → Goes rule (Lex text) (after_statement (at Item f)) end (rule (at Item f)) p.prev_token_end (symbol ImportDecl f) p.prev_token_end (λ us. us) (still 0)
    unfolding rule rule_of
    to_import h = right no_list_item ▹ where_true h

    item_read : f.module_goal ≡ true → {k : ℕ} {l : Label} {cs : Slots} {pass : Lexemes → Lexemes} → Stretch text (after (at ImportDecl f)) (symbol ImportDecl f) p.prev_token_end nothing k (tree l cs) pass → Stretch text (after_statement (at Item f)) (symbol Item f) p.prev_token_end nothing k (tree l cs) pass
    item_read h y = record { reach = max 0 y.reach; near = let i = y.near in omega arith; goes = by_rule {X' = after_statement (at Item f)} (λ l cs vs z d. d) (to_import h ▹ weaken_on y.goes (record { admits = λ ts vs k ls rest d e. (refl, refl) })) refl }

    no_item_there : f.module_goal ≡ false → NoStatement text (at Item f) p.prev_token_end
    unfolding rule rule_of
    no_item_there h = no_symbol (fails_alt no_list_item (fails_when h))

    no_import_there : Underived text (at ImportDecl f) p.prev_token_end → NoStatement text (at Item f) p.prev_token_end
    unfolding rule rule_of
    no_import_there n = no_symbol (fails_alt no_list_item (fails_under (weaken_fails_on n (record { admits = λ ts vs k ls rest d e. (refl, refl) }))))

    allowed : {b : Bool} → is_module p.source_type ≡ b → f.module_goal ≡ (f.wide || b)
    allowed i = sym (ap (λ (h : Flags). h.module_goal) a.flags_are) ∙ ap (λ (b : Bool). f.wide || b) i

    module _ {es : List Diagnostic} {w : Parser} {id : NodeId} (x : Numbered text f (at ImportDecl f) (record p { errors = es }) w id) where
      abbrev Said : Type 0
      Said = Verdict (f.wide ≡ true) p.errors w.errors (Stretch text (after_statement (at Item f)) (symbol Item f) p.prev_token_end nothing w.prev_token_end (tree x.answer.label x.answer.slots) x.answer.pass) (NoStatement text (at Item f) p.prev_token_end)

      taken : Same p (record p { errors = es }) → kind_of (node_at w.nodes id).kind ≡ import_declaration → Said → Statement text f (at Item f) p w id
      taken m k v = record {
        at = x.answer.at;
        same = same_both m x.answer.same;
        further = x.answer.further;
        label = x.answer.label;
        slots = x.answer.slots;
        closed = never_open x.answer.label x.answer.slots (ap (λ (l : Label). ends_in_sub l.kind) (held_label id x.holds) ∙ ap ends_in_sub k);
        pass = x.answer.pass;
        walked = x.answer.walked;
        verdict = v;
        holds = x.holds;
        keeps = x.keeps;
      }

      told_said : is_module p.source_type ≡ false → Grown p.errors es → Said
      told_said i g = go f.wide refl (allowed i)
        where
          go : (b : Bool) → f.wide ≡ b → f.module_goal ≡ (b || false) → Said
          go false h j = unclean (grown_on g x.answer.verdict) (no_item_there j)
          go true h j = told_before h g x.answer.verdict (λ y. item_read j y) (λ n. no_import_there n)

    read_said : is_module p.source_type ≡ true → {w : Parser} {id : NodeId} → kind_of (node_at w.nodes id).kind ≡ import_declaration → Numbered text f (at ImportDecl f) p w id → Statement text f (at Item f) p w id
    read_said i k x = taken {es = p.errors} x same_itself k (verdict_of x.answer.verdict (λ y. item_read (allowed i ∙ or_right f.wide true refl) y) (λ n. no_import_there n))

    import_item : {q w : Parser} {id : NodeId} → ChecksGoal p q → kind_of (node_at w.nodes id).kind ≡ import_declaration → Numbered text f (at ImportDecl f) q w id → Statement text f (at Item f) p w id
    import_item {q} {w} {id} (inl (i, k)) j x =
        let y = subst (λ (u : Parser). Numbered text f (at ImportDecl f) u w id) k.is x in
        taken y (subst (λ (u : Parser). Same p u) k.is (told_same k refl)) j (told_said y i (subst (λ (u : Parser). Grown p.errors u.errors) k.is (kept_one k)))
    import_item {q} {w} {id} (inr (i, k)) j x = read_said i j (subst (λ (u : Parser). Numbered text f (at ImportDecl f) u w id) k x)

    import_stops : {q : Parser} (w : Parser) (e : Stop) → ChecksGoal p q → Stops q w e (Underived text (at ImportDecl f) q.prev_token_end) → Stops p w e (NoStatement text (at Item f) p.prev_token_end)
    import_stops {q} w e (inl (i, k)) x =
        stops_behind w e (told_same k refl) (λ g. grown_both (kept_one k) g) (λ n. no_import_there n) (subst (λ (v : ℕ). Stops q w e (Underived text (at ImportDecl f) v)) (ap (λ (u : Parser). u.prev_token_end) k.is) x)
    import_stops {q} w e (inr (i, k)) x = stops_so p w e (λ n. no_import_there n) (subst (λ (u : Parser). Stops u w e (Underived text (at ImportDecl f) u.prev_token_end)) k x)

    pub item_outcome : {q : Parser} (w : Parser) (r : Result NodeId Stop) → ChecksGoal p q → IfOk r (λ id. kind_of (node_at w.nodes id).kind ≡ import_declaration) → Outcome text f (at ImportDecl f) q w r → StatementOutcome text f (at Item f) p w r
    item_outcome w (Ok id) c k x = import_item c k x
    item_outcome w (Err e) c k x = import_stops w e c x

    pub checked_at : {q : Parser} → ChecksGoal p q → At text f q
    checked_at (inl (i, k)) = told_at k a
    checked_at (inr (i, k)) = subst (λ (u : Parser). At text f u) (sym k) a

-- what the code asks of the goal
pub goal_checked : (p q : Parser) (b : Bool) → IsTrue b ↔ (is_goal p.source_type ≡ source.Module) → (b ≡ false → KeepsDiagnostic (outside_module p.token.span) p q) → (b ≡ true → q ≡ p) → ChecksGoal p q
goal_checked p q true h k e = inr (module_so p.source_type true h, e refl)
goal_checked p q false h k e = inl (module_so p.source_type false h, k refl)

-- what a peek behind the word tells
pub by_peek : {p q : Parser} {t : Token} (b : Bool) → StandsHere p Import true → Peeks p t → q ≡ p → b ≡ one_of_kinds import_links t.kind → ImportHere p q (not b)
unfolding apart
by_peek {t = t} true s h e k = (e, inr (s, peeked_none import_openings refl h (apart_so (one_of_kinds import_openings t.kind) refl)))
  where
    apart_so : (c : Bool) → one_of_kinds import_openings t.kind ≡ c → c ≡ false
    apart_so true i = absurd (not_both (λ k w e. one_of_kinds import_openings k) (λ k w e. one_of_kinds import_links k) refl t.kind false false i (sym k))
    apart_so false i = refl
by_peek false s h e k = (e, (s, peeked_none import_links refl h (sym k)))

-- where it doesn't stand
pub no_word : {p : Parser} → StandsHere p Import false → ImportHere p p false
no_word s = (refl, inl s)

-- whether one begins, as it is asked
pub here_so : (p q : Parser) {r b : Bool} → r ≡ b → ImportHere p q r → ImportHere p q b
here_so p q e h = subst (λ (c : Bool). ImportHere p q c) e h
