-- A WithClause stands behind the string that names a module, and its keys stand in its entries. So what is told of them has its mark (ECMA-262, 16.2.2).
use Rattle.std.proofs.Common.{ℕ, ◌≡◌, Bool, true, false, not, cond, ◌&&◌, ◌||◌, List, [], ◌∷◌, Option, Some, None, refl, sym, ap, subst, ◌∙◌}
use Rattle.std.specs.List.{All}
use Rattle.std.specs.Prelude.{IsUtf8}
use Rattle.std.proofs.lemmas.Str.{IsCharBoundary-start}
use Rattle.std.proofs.lemmas.Bool.{false≢true, not-true, and_parts, and_from, or_left, or_right}
use Rattle.std.proofs.lemmas.List.Elements.{All-nil, All-cons, All-append}
use Rattle.std.proofs.lemmas.Slice.Eq.{bytes_eq-Decides}
use Rattle.js_base.specs.Kinds.{same_kind}
use Rattle.js_base.specs.declared.diagnostic.DiagnosticKind.TheVariants.{Redeclaration}
use Rattle.js_base.specs.declared.kind.Kind.{Kind}
use Rattle.js_base.specs.declared.kind.Kind.TheVariants.{Str, LCurly, Colon, Comma}
use Rattle.js_grammar.specs.EarlyRules.{same_value}
use Rattle.js_grammar.specs.Grammar.{Lexeme, Lexemes, last, next, here, is, lexeme, ahead, seq, alt, when, many, commas, such, marked, node, ended, keep, commas_once, Takes, Derives, is_nothing, is_lexeme, is_look, is_text, is_ahead, is_empty_slot, is_seq, is_left, is_right, is_when, is_many, is_commas, is_such, is_marked, is_node, is_ended, is_keep, is_kept}
use Rattle.js_grammar.specs.Lexed.{Lexes, NextLexeme, all_faults}
use Rattle.js_grammar.specs.LexicalFaults.{Reached}
use Rattle.js_grammar.specs.Lexemes.{is_word}
use Rattle.js_grammar.specs.Marks.{of_kinds, EntriesLead, none, one_more, Part, Mark}
use Rattle.js_grammar.specs.Productions.{G, Flags, Name, Symbol, at, Program, Attrs, Attr, opt, with_pife}
use Rattle.js_grammar.specs.Productions.{sym as symbol}
use Rattle.js_grammar.specs.Settings.{Goal}
use Rattle.js_grammar.specs.Table.{rule, rule_of}
use Rattle.js_grammar.specs.Trees.{identifier_name, string_literal, no_op, Label, Op, Slots, end, hole, tree, Tree, append}
use Rattle.js_grammar.specs.Words.{'with', 'assert'}
use Rattle.js_grammar.proofs.Behind.{lexed_behind}
use Rattle.js_grammar.proofs.CoverInitialisers.{line_marked, Led}
use Rattle.js_grammar.proofs.Looks.{covers, covered}
use Rattle.js_grammar.proofs.Renamed.{remarked, first_of, second_of, mark_of}
use Rattle.js_tree.specs.Covering.{placed}
use Rattle.js_parser.specs.AttributeKeys.{value_of, same_before, told_again, told_keys, keys_in, is_clause}
use Rattle.js_parser.specs.NodeSpans.{NodeLies, SlotsLie}
use Rattle.js_parser.proofs.BuiltTrees.{pife_kind}
use Rattle.js_parser.proofs.KeyUnits.{Spelt, all_spelt, word_units, string_key_units}

-- ---- what the mark asks of lexemes

abbrev is_key : Lexeme → Bool
is_key x = is_word x.kind || same_kind Str x.kind

abbrev is_entry : Lexeme → Lexeme → Lexeme → Lexeme → Bool
is_entry key colon value comma = is_key key && (of_kinds (Colon ∷ []) colon && (of_kinds (Str ∷ []) value && of_kinds (Comma ∷ []) comma))

abbrev begins_clause : Lexeme → Bool
begins_clause x = of_kinds ('with' ∷ []) x || (of_kinds ('assert' ∷ []) x && not x.newline)

-- a quoted lexeme is of its kind alone
of_one : (k : Kind) (x : Lexeme) → (same_kind k x.kind && not x.escaped) ≡ true → of_kinds (k ∷ []) x ≡ true
of_one k x h = let p = and_parts (same_kind k x.kind) (not x.escaped) h in and_from _ _ (or_left _ _ p.0) p.1

of_entry : (x y z m : Lexeme) → is_key x ≡ true → (same_kind Colon y.kind && not y.escaped) ≡ true → (same_kind Str z.kind && not z.escaped) ≡ true → (same_kind Comma m.kind && not m.escaped) ≡ true → is_entry x y z m ≡ true
of_entry x y z m a b c d = and_from _ _ a (and_from _ _ (of_one Colon y b) (and_from _ _ (of_one Str z c) (of_one Comma m d)))

-- one entry further on
lead_on : {ls rest : Lexemes} {x y z m : Lexeme} → EntriesLead ls (next x (next y (next z (next m rest)))) → is_entry x y z m ≡ true → EntriesLead ls rest
lead_on none h = one_more h none
lead_on (one_more g l) h = one_more g (lead_on l h)

spelt_lexed : (text : List ℕ) (i : ℕ) (ls : Lexemes) → Lexes (Spelt text) i ls → Lexes (NextLexeme all_faults text) i ls
spelt_lexed text i (last x) l = (l.led).1
spelt_lexed text i (next x ls) l = ((l.0).led.1, spelt_lexed text x.to ls l.1)

spelt_reached : (text : List ℕ) (i : ℕ) (ls : Lexemes) → Lexes (Spelt text) i ls → Reached text i
spelt_reached text i (last x) l = (l.led).0
spelt_reached text i (next x ls) l = (l.0).led.0

module _ (goal : Goal) (text : List ℕ) where
  -- a clause, up to its entries
  record Clause (entries : Lexemes) : Type 0 where
    place : ℕ
    specifier : Lexeme
    word : Lexeme
    brace : Lexeme
    part : Part text place (next specifier (next word (next brace entries)))
    is_specifier : of_kinds (Str ∷ []) specifier ≡ true
    is_clause : begins_clause word ≡ true
    is_brace : of_kinds (LCurly ∷ []) brace ≡ true

  -- a lexeme is that of a key
  record IsKey (x : Lexeme) (k : Label) : Type 0 where
    from : x.from ≡ k.span.from
    to : x.to ≡ k.span.to
    passes : is_key x ≡ true
    units : (v : List ℕ) → value_of text k.kind k ≡ Some v → x.units ≡ v

  -- a key in an entry before
  record Before (entries ls : Lexemes) (b : Label) : Type 0 where
    key : Lexeme
    colon : Lexeme
    value : Lexeme
    comma : Lexeme
    between : Lexemes
    lead : EntriesLead entries (next key (next colon (next value (next comma between))))
    entry : is_entry key colon value comma ≡ true
    behind : EntriesLead between ls
    is : IsKey key b

  abbrev Each : Lexemes → Lexemes → List Label → Type 0
  Each entries ls [] = Unit {0}
  Each entries ls (b ∷ bs) = Before entries ls b × Each entries ls bs

  each_on : (entries ls : Lexemes) (x y z m : Lexeme) (bs : List Label) → is_entry x y z m ≡ true → Each entries (next x (next y (next z (next m ls)))) bs → Each entries ls bs
  each_on entries ls x y z m [] h e = tt
  each_on entries ls x y z m (b ∷ bs) h e = let p = e.0 in (record { key = p.key; colon = p.colon; value = p.value; comma = p.comma; between = p.between; lead = p.lead; entry = p.entry; behind = lead_on p.behind h; is = p.is }, each_on entries ls x y z m bs h e.1)

  -- the one that is found
  record Found (entries ls : Lexemes) (k b : Label) : Type 0 where
    before : Before entries ls b
    same : same_value (value_of text b.kind b) (value_of text k.kind k) ≡ true

  found : {entries ls : Lexemes} (bs : List Label) (k b : Label) → Each entries ls bs → same_before text bs k ≡ Some b → Found entries ls k b
  found [] k b e q = absurd (let z = q in cc)
  found {entries} {ls} (c ∷ bs) k b e q = go (λ r. found bs k b e.1 r) (same_value (value_of text c.kind c) (value_of text k.kind k)) refl q
    where
      go : (same_before text bs k ≡ Some b → Found entries ls k b) → (t : Bool) → same_value (value_of text c.kind c) (value_of text k.kind k) ≡ t → cond t (Some c) (same_before text bs k) ≡ Some b → Found entries ls k b
      go f true p r = let z : c ≡ b = cc in subst (λ (d : Label). Found entries ls k d) z (record { before = e.0; same = p })
      go f false p r = f r

  -- keys of the same value stand for the same
  same_units : (x y : Lexeme) (u v : Option (List ℕ)) → ((w : List ℕ) → u ≡ Some w → x.units ≡ w) → ((w : List ℕ) → v ≡ Some w → y.units ≡ w) → same_value u v ≡ true → x.units ≡ y.units
  same_units x y None v f g h = absurd (false≢true h)
  same_units x y (Some a) None f g h = absurd (false≢true h)
  same_units x y (Some a) (Some b) f g h = f a refl ∙ ((bytes_eq-Decides a b).0 h ∙ sym (g b refl))

  told_marked_one : {entries : Lexemes} (c : Clause entries) (bs : List Label) (k : Label) (ls : Lexemes) → IsKey (here ls) k → Each entries ls bs → NodeLies text k → All (Mark goal text) (told_again k (same_before text bs k))
  told_marked_one {entries} c bs k ls h e s = go (same_before text bs k) refl
    where
      one : (b : Label) → Found entries ls k b → Mark goal text (record { kind = Redeclaration; span = placed k.span; first = Some (placed b.span); second = None })
      one b f = let p = f.before in record {
        ordered = s.ordered;
        within = s.ends_whole.0;
        begins_between = s.starts_whole;
        ends_between = s.ends_whole;
        stands = record {
          place = c.place;
          specifier = c.specifier;
          word = c.word;
          brace = c.brace;
          entries = entries;
          part = c.part;
          is_specifier = c.is_specifier;
          is_clause = c.is_clause;
          is_brace = c.is_brace;
          earlier = p.key;
          colon = p.colon;
          value = p.value;
          comma = p.comma;
          between = p.between;
          before = p.lead;
          is_entry = p.entry;
          later = ls;
          behind = p.behind;
          is = (h.from, h.to);
          is_key = h.passes;
          same = same_units p.key (here ls) (value_of text b.kind b) (value_of text k.kind k) (p.is).units h.units f.same;
          is_first = λ i. Some (record { start = sym (p.is).from i; end = sym (p.is).to i });
          no_second = refl;
        };
      }

      go : (o : Option Label) → same_before text bs k ≡ o → All (Mark goal text) (told_again k o)
      go None q = All-nil (Mark goal text)
      go (Some b) q = All-cons (Mark goal text) _ [] (one b (found bs k b e q)) (All-nil (Mark goal text))

  -- this key and those before it are before what stands behind its comma
  with_this : {entries : Lexemes} {x y z m : Lexeme} {ls : Lexemes} (bs : List Label) (k : Label) → EntriesLead entries (next x (next y (next z (next m ls)))) → is_entry x y z m ≡ true → IsKey x k → Each entries (next x (next y (next z (next m ls)))) bs → Each entries ls (k ∷ bs)
  with_this {entries} {x = x} {y = y} {z = z} {m = m} {ls = ls} bs k l h i e = (record { key = x; colon = y; value = z; comma = m; between = ls; lead = l; entry = h; behind = none; is = i }, each_on entries ls x y z m bs h e)

  -- ---- the entries

  word_key : {i : ℕ} {x : Lexeme} → Spelt text i x → is_word x.kind ≡ true → (o : Op) (n : ℕ) → IsKey x (record { kind = identifier_name; op = o; flags = n; span = record { from = x.from; to = x.to } })
  word_key s p o n = record { from = refl; to = refl; passes = or_left _ _ p; units = λ v e. word_units s o n v p e }

  string_key : {i : ℕ} {x : Lexeme} → Spelt text i x → (same_kind Str x.kind && not x.escaped) ≡ true → (o : Op) (n : ℕ) → IsKey x (record { kind = string_literal; op = o; flags = n; span = record { from = x.from; to = x.to } })
  string_key {x = x} s p o n = let q = (and_parts (same_kind Str x.kind) (not x.escaped) p).0 in record { from = refl; to = refl; passes = or_right (is_word x.kind) _ q; units = λ v e. string_key_units s o n v q e }

  alone : {entries : Lexemes} (c : Clause entries) (bs : List Label) (k : Label) (ls : Lexemes) → IsKey (here ls) k → Each entries ls bs → NodeLies text k → All (Mark goal text) (told_keys text bs (k ∷ []))
  alone c bs k ls h e s = All-append (Mark goal text) (told_again k (same_before text bs k)) [] (told_marked_one c bs k ls h e s) (All-nil (Mark goal text))

  walk : {entries : Lexemes} (c : Clause entries) {f : Flags} {ks ts : Slots} {i j : ℕ} {ls rest : Lexemes} (bs : List Label) → Takes rule (commas true (symbol Attr f)) ks ts i ls end j rest → EntriesLead entries ls → Each entries ls bs → Lexes (Spelt text) i ls → SlotsLie text ts → All (Mark goal text) (told_keys text bs (keys_in ts))
  unfolding rule rule_of
  walk c bs (is_commas (is_seq (is_such (is_node (is_seq (is_left (is_such (is_node (is_lexeme a)) d)) (is_seq (is_lexeme b) (is_node (is_lexeme g))))) h) (is_right is_nothing))) l e x s = alone c bs _ _ (word_key x.0 a no_op 0) e s.1.0
  walk c bs (is_commas (is_seq (is_such (is_node (is_seq (is_right (is_node (is_lexeme a))) (is_seq (is_lexeme b) (is_node (is_lexeme g))))) h) (is_right is_nothing))) l e x s = alone c bs _ _ (string_key x.0 a no_op 0) e s.1.0
  walk c bs (is_commas (is_seq (is_such (is_node (is_seq (is_left (is_such (is_node (is_lexeme a)) d)) (is_seq (is_lexeme b) (is_node (is_lexeme g))))) h) (is_left (is_seq (is_lexeme m) (is_right is_nothing))))) l e x s = alone c bs _ _ (word_key x.0 a no_op 0) e s.1.0
  walk c bs (is_commas (is_seq (is_such (is_node (is_seq (is_right (is_node (is_lexeme a))) (is_seq (is_lexeme b) (is_node (is_lexeme g))))) h) (is_left (is_seq (is_lexeme m) (is_right is_nothing))))) l e x s = alone c bs _ _ (string_key x.0 a no_op 0) e s.1.0
  walk c bs (is_commas (is_seq (is_such (is_node (is_seq (is_left (is_such (is_node (is_lexeme {x = key} a)) d)) (is_seq (is_lexeme {x = colon} b) (is_node (is_lexeme {x = value} g))))) h) (is_left (is_seq (is_lexeme {x = comma} m) (is_left y))))) l e x s =
      let k = word_key x.0 a no_op 0 in
      let p = of_entry key colon value comma (or_left _ _ a) b g m in
      All-append (Mark goal text) _ _ (told_marked_one c bs _ _ k e s.1.0) (walk c _ y (lead_on l p) (with_this bs _ l p k e) x.1.1.1.1 s.2)
  walk c bs (is_commas (is_seq (is_such (is_node (is_seq (is_right (is_node (is_lexeme {x = key} a))) (is_seq (is_lexeme {x = colon} b) (is_node (is_lexeme {x = value} g))))) h) (is_left (is_seq (is_lexeme {x = comma} m) (is_left y))))) l e x s =
      let k = string_key x.0 a no_op 0 in
      let p = of_entry key colon value comma (or_right (is_word key.kind) _ (and_parts (same_kind Str key.kind) (not key.escaped) a).0) b g m in
      All-append (Mark goal text) _ _ (told_marked_one c bs _ _ k e s.1.0) (walk c _ y (lead_on l p) (with_this bs _ l p k e) x.1.1.1.1 s.2)

  -- ---- the clause

  -- a string that names a module stands directly before a place
  record Specified (i : ℕ) : Type 0 where
    place : ℕ
    specifier : Lexeme
    led : Spelt text place specifier
    is_string : (same_kind Str specifier.kind && not specifier.escaped) ≡ true
    to : specifier.to ≡ i

  clause_of : (i : ℕ) (w b : Lexeme) (ls : Lexemes) → Specified i → Lexes (Spelt text) i (next w (next b ls)) → begins_clause w ≡ true → (same_kind LCurly b.kind && not b.escaped) ≡ true → Clause ls
  clause_of i w b ls s x h e = record {
    place = s.place;
    specifier = s.specifier;
    word = w;
    brace = b;
    part = record { reached = (s.led).led.0; lexed = ((s.led).led.1, spelt_lexed text (s.specifier).to (next w (next b ls)) (subst (λ (n : ℕ). Lexes (Spelt text) n (next w (next b ls))) (sym s.to) x)) };
    is_specifier = of_one Str s.specifier s.is_string;
    is_clause = h;
    is_brace = of_one LCurly b e;
  }

  -- what is told of a clause's keys has its mark
  abbrev pub KeysMarked : Slots → Type 0
  KeysMarked cs = SlotsLie text cs → All (Mark goal text) (told_keys text [] (keys_in cs))

  entries_marked : {entries : Lexemes} (c : Clause entries) {f : Flags} {ks cs : Slots} {i j : ℕ} {rest : Lexemes} → Takes rule (opt (commas true (symbol Attr f))) ks cs i entries end j rest → Lexes (Spelt text) i entries → KeysMarked cs
  entries_marked c (is_left d) x s = walk c [] d none tt x s
  entries_marked c (is_right is_nothing) x s = All-nil (Mark goal text)

  clause_marked : (f : Flags) {l : Label} {cs : Slots} {i j : ℕ} {ls rest : Lexemes} → Takes rule (rule (at Attrs f)) end (tree l cs end) i ls end j rest → Specified i → Lexes (Spelt text) i ls → KeysMarked cs
  unfolding rule rule_of
  clause_marked f {i = i} (is_left (is_seq (is_lexeme {x = w} a) (is_node (is_seq (is_lexeme {x = b} e) (is_seq d (is_lexeme g)))))) p x = entries_marked (clause_of i w b _ p x (or_left _ _ (of_one 'with' w a)) e) d x.1.1
  clause_marked f {i = i} (is_right (is_seq (is_look n) (is_seq (is_lexeme {x = w} a) (is_node (is_seq (is_lexeme {x = b} e) (is_seq d (is_lexeme g))))))) p x = entries_marked (clause_of i w b _ p x (or_right (of_kinds ('with' ∷ []) w) _ (and_from _ _ (of_one 'assert' w a) n)) e) d x.1.1

  -- ---- each clause of a tree

  abbrev pub Clauses : Slots → Type 0
  Clauses end = Unit {0}
  Clauses (hole us) = Clauses us
  Clauses (tree l cs us) = (is_clause l.kind ≡ true → KeysMarked cs) × (Clauses cs × Clauses us)

  joined : (cs us : Slots) → Clauses cs → Clauses us → Clauses (append cs us)
  joined end us a b = b
  joined (hole cs) us a b = joined cs us a b
  joined (tree l ds cs) us a b = (a.0, (a.1.0, joined cs us a.1.1 b))

  -- in an attribute stands none
  in_entry : {f : Flags} {ks ts us : Slots} {i j : ℕ} {ls rest : Lexemes} → Takes rule (symbol Attr f) ks ts i ls us j rest → Clauses us → Clauses ts
  unfolding rule rule_of
  in_entry (is_such (is_node (is_seq (is_left (is_such (is_node (is_lexeme a)) d)) (is_seq (is_lexeme b) (is_node (is_lexeme g))))) h) u = (λ q. absurd (false≢true q), (((λ q. absurd (false≢true q)), (tt, ((λ q. absurd (false≢true q)), (tt, tt)))), u))
  in_entry (is_such (is_node (is_seq (is_right (is_node (is_lexeme a))) (is_seq (is_lexeme b) (is_node (is_lexeme g))))) h) u = (λ q. absurd (false≢true q), (((λ q. absurd (false≢true q)), (tt, ((λ q. absurd (false≢true q)), (tt, tt)))), u))

  in_entries : {f : Flags} {ks ts us : Slots} {i j : ℕ} {ls rest : Lexemes} → Takes rule (commas true (symbol Attr f)) ks ts i ls us j rest → Clauses us → Clauses ts
  in_entries (is_commas (is_seq x (is_right is_nothing))) u = in_entry x u
  in_entries (is_commas (is_seq x (is_left (is_seq (is_lexeme a) (is_right is_nothing))))) u = in_entry x u
  in_entries (is_commas (is_seq x (is_left (is_seq (is_lexeme a) (is_left y))))) u = in_entry x (in_entries y u)

  in_clause : (f : Flags) {l : Label} {cs : Slots} {i j : ℕ} {ls rest : Lexemes} → Takes rule (rule (at Attrs f)) end (tree l cs end) i ls end j rest → Clauses cs
  unfolding rule rule_of
  in_clause f (is_left (is_seq (is_lexeme a) (is_node (is_seq (is_lexeme e) (is_seq (is_left d) (is_lexeme g)))))) = in_entries d tt
  in_clause f (is_left (is_seq (is_lexeme a) (is_node (is_seq (is_lexeme e) (is_seq (is_right is_nothing) (is_lexeme g)))))) = tt
  in_clause f (is_right (is_seq (is_look n) (is_seq (is_lexeme a) (is_node (is_seq (is_lexeme e) (is_seq (is_left d) (is_lexeme g))))))) = in_entries d tt
  in_clause f (is_right (is_seq (is_look n) (is_seq (is_lexeme a) (is_node (is_seq (is_lexeme e) (is_seq (is_right is_nothing) (is_lexeme g))))))) = tt

-- ---- the lines of the table: a WithClause stands behind a string alone

abbrev is_attrs : Name → Bool
is_attrs Attrs = true
is_attrs _ = false

-- a node of one lexeme, a string
abbrev specifies : G → Bool
specifies (node m (lexeme p)) = covers p (is Str)
specifies g = false

-- behind a string or not, each WithClause has one before it, and no other node is one
abbrev Clear : Bool → G → Type 0
Clear b (ahead a) = Clear b a
Clear b (seq a c) = Clear b a × Clear (specifies a) c
Clear b (alt a c) = Clear b a × Clear b c
Clear b (when q a) = Clear b a
Clear b (many a) = Clear false a
Clear b (commas x a) = Clear false a
Clear b (such n c) = (is_attrs n.name && not b) ≡ false
Clear b (marked h n) = (is_attrs n.name ≡ false) × (h ≡ with_pife)
Clear b (node m a) = (is_clause m.kind ≡ false) × Clear b a
Clear b (ended r a) = Clear b a
Clear b (keep a c) = Clear b a × Clear false c
Clear b g = Unit {0}

abbrev clear : Bool → G → Bool
clear b (ahead a) = clear b a
clear b (seq a c) = clear b a && clear (specifies a) c
clear b (alt a c) = clear b a && clear b c
clear b (when q a) = clear b a
clear b (many a) = clear false a
clear b (commas x a) = clear false a
clear b (such n c) = not (is_attrs n.name && not b)
clear b (marked h n) = not (is_attrs n.name)
clear b (node m a) = not (is_clause m.kind) && clear b a
clear b (ended r a) = clear b a
clear b (keep a c) = clear b a && clear false c
clear b g = true

is_clear : (b : Bool) (g : G) → remarked with_pife g ≡ g → clear b g ≡ true → Clear b g
is_clear b (ahead a) e h = is_clear b a (ap first_of e) h
is_clear b (seq a c) e h = let q = and_parts (clear b a) _ h in (is_clear b a (ap first_of e) q.0, is_clear (specifies a) c (ap second_of e) q.1)
is_clear b (alt a c) e h = let q = and_parts (clear b a) _ h in (is_clear b a (ap first_of e) q.0, is_clear b c (ap second_of e) q.1)
is_clear b (when q a) e h = is_clear b a (ap first_of e) h
is_clear b (many a) e h = is_clear false a (ap first_of e) h
is_clear b (commas x a) e h = is_clear false a (ap first_of e) h
is_clear b (such n c) e h = not-true (is_attrs n.name && not b) h
is_clear b (marked k n) e h = (not-true (is_attrs n.name) h, sym (ap mark_of e))
is_clear b (node m a) e h = let q = and_parts (not (is_clause m.kind)) _ h in (not-true (is_clause m.kind) q.0, is_clear b a (ap first_of e) q.1)
is_clear b (ended r a) e h = is_clear b a (ap first_of e) h
is_clear b (keep a c) e h = let q = and_parts (clear b a) _ h in (is_clear b a (ap first_of e) q.0, is_clear false c (ap second_of e) q.1)
is_clear b g e h = tt

line_clear : (n : Name) (f : Flags) → (is_attrs n || clear false (rule_of n f)) ≡ true
unfolding rule_of covers
line_clear Program f = refl
line_clear n f = refl

clear_at : (n : Name) → is_attrs n ≡ false → (f : Flags) → Clear false (rule_of n f)
clear_at n e f = is_clear false (rule_of n f) (line_marked n f) (subst (λ (b : Bool). (b || clear false (rule_of n f)) ≡ true) e (line_clear n f))

clear_line : (n : Symbol) → is_attrs n.name ≡ false → Clear false (rule n)
unfolding rule
clear_line n e = clear_at n.name e n.flags

-- ---- all nodes

module _ (goal : Goal) (text : List ℕ) where
  abbrev Prev : Bool → ℕ → Type 0
  Prev true i = Specified goal text i
  Prev false i = Unit {0}

  specified : (a : G) {ks ts us : Slots} {i j : ℕ} {ls rest : Lexemes} → Takes rule a ks ts i ls us j rest → Lexes (Spelt text) i ls → Prev (specifies a) j
  specified (node m (lexeme p)) {i = i} (is_node (is_lexeme {x = x} s)) l = go (covers p (is Str)) refl
    where
      go : (b : Bool) → covers p (is Str) ≡ b → Prev b x.to
      go true e = record { place = i; specifier = x; led = l.0; is_string = covered p (is Str) e x.kind x.newline x.escaped s; to = refl }
      go false e = tt
  specified g d l = tt

  commas_clear : (x : Bool) (a : G) → Clear false a → Clear false (commas_once x a)
  commas_clear true a h = (h, ((tt, (h, tt)), tt))
  commas_clear false a h = (h, ((tt, h), tt))

  -- behind a string, where one is asked for
  behind_string : (b : Bool) (a : Bool) (i : ℕ) → a ≡ true → (a && not b) ≡ false → Prev b i → Specified goal text i
  behind_string true a i e h p = p
  behind_string false true i e h p = absurd (false≢true (sym h))
  behind_string false false i e h p = absurd (false≢true e)

  attrs_is : (n : Symbol) → is_attrs n.name ≡ true → n ≡ at Attrs n.flags
  attrs_is n e = ap (λ (m : Name). at m n.flags) (go n.name e)
    where
      go : (m : Name) → is_attrs m ≡ true → m ≡ Attrs
      go Attrs f = refl
      go m f = absurd (false≢true f)

  attrs_clause : (n : Symbol) {l : Label} {cs : Slots} {i j : ℕ} {ls rest : Lexemes} → is_attrs n.name ≡ true → Takes rule (rule n) end (tree l cs end) i ls end j rest → Specified goal text i → Lexes (Spelt text) i ls → KeysMarked goal text cs × Clauses goal text cs
  attrs_clause n {l} {cs} {i} {j} {ls} {rest} e d p x =
      let a : Takes rule (rule (at Attrs n.flags)) end (tree l cs end) i ls end j rest = subst (λ (m : Symbol). Takes rule (rule m) end (tree l cs end) i ls end j rest) (attrs_is n e) d in
      (clause_marked goal text n.flags a p x, in_clause goal text n.flags a)

  each_clause : (b : Bool) {g : G} {ks ts us : Slots} {i j : ℕ} {ls rest : Lexemes} → Takes rule g ks ts i ls us j rest → Clear b g → Prev b i → Lexes (Spelt text) i ls → Clauses goal text ks → Clauses goal text us → Clauses goal text ts
  each_clause b is_nothing w p l k u = u
  each_clause b (is_lexeme h) w p l k u = u
  each_clause b (is_look h) w p l k u = u
  each_clause b (is_text h) w p l k u = u
  each_clause b (is_ahead d) w p l k u = each_clause b d w p l k u
  each_clause b is_empty_slot w p l k u = u
  each_clause b (is_seq {a = a} x y) w p l k u = each_clause b x w.0 p l k (each_clause (specifies a) y w.1 (specified a x l) (lexed_behind (Spelt text) x l) k u)
  each_clause b (is_left x) w p l k u = each_clause b x w.0 p l k u
  each_clause b (is_right x) w p l k u = each_clause b x w.1 p l k u
  each_clause b (is_when q x) w p l k u = each_clause b x w p l k u
  each_clause b (is_many x) w p l k u = each_clause false x ((w, w), tt) tt l k u
  each_clause b (is_commas {b = c} {a = a} x) w p l k u = each_clause false x (commas_clear c a w) tt l k u
  each_clause b {us = us} {i = i} (is_such {n = n} {l = m} {cs = cs} d c) w p l k u = go (λ e. let x = each_clause false d (clear_line n e) tt l tt tt in (x.0, x.1.0)) (is_attrs n.name) refl
    where
      go : (is_attrs n.name ≡ false → (is_clause m.kind ≡ true → KeysMarked goal text cs) × Clauses goal text cs) → (a : Bool) → is_attrs n.name ≡ a → Clauses goal text (tree m cs us)
      go f false e = let x = f e in (x.0, (x.1, u))
      go f true e = let x = attrs_clause n e d (behind_string b (is_attrs n.name) i e w p) l in (λ q. x.0, (x.1, u))
  each_clause b (is_marked {h = h} {n = n} {l = m} {cs = cs} d) w p l k u =
      let x = each_clause false d (clear_line n w.0) tt l tt tt in
      (λ q. x.0 (ap is_clause (sym (pife_kind m)) ∙ (ap (λ (v : Label → Label). is_clause (v m).kind) (sym w.1) ∙ q)), (x.1.0, u))
  each_clause b (is_node {m = m} d) w p l k u = (λ q. absurd (false≢true (sym w.0 ∙ q)), (each_clause b d w.1 p l k tt, u))
  each_clause b (is_ended {ks = ks} {cs = cs} {us = us} q d x) w p l k u = subst (Clauses goal text) (sym q) (joined goal text cs us (each_clause b d w p l k tt) (each_clause false x (tt, tt) tt (lexed_behind (Spelt text) d l) k u))
  each_clause b (is_keep x y) w p l k u = each_clause false y w.1 tt (lexed_behind (Spelt text) x l) (each_clause b x w.0 p l k tt) u
  each_clause b (is_kept {ks = ks} {us = us} q) w p l k u = subst (Clauses goal text) (sym q) (joined goal text ks us k u)

  -- in a whole text
  pub clauses_marked : (f : Flags) (t : Tree) {j : ℕ} {ls rest : Lexemes} → IsUtf8 text → Lexes (Led text) 0 ls → Derives rule (at Program f) t 0 ls j rest → Clauses goal text t.slots
  clauses_marked f t {ls = ls} u l d = (each_clause false d (clear_line (at Program f) refl) tt (all_spelt u 0 ls (IsCharBoundary-start text u) l) tt tt).1.0
