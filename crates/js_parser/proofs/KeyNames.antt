-- The names that keys of members stand for (ECMA-262, 12.7.1 and 12.9.4), by the texts of their nodes.
use Rattle.std.proofs.Common.{ℕ, zero, suc, ◌≡◌, ◌<◌, ◌≤◌, ◌+◌, ◌-◌, ◌/◌, ◌%◌, ◌==◌, Bool, true, false, not, cond, List, [], ◌∷◌, ◌++◌, Option, Some, None, length, take, drop, get_or, eqb, nat_lt, slice_get, refl, sym, ap, subst, arith, ◌∙◌, lt-ltb}
use Rattle.std.specs.Prelude.{bytes_eq, chars, codes, encode_utf8, encode_utf8_all, flat_map, is_some, IsUtf8, option_map, slice_range, unwrap_or}
use Rattle.std.specs.List.{list_all}
use Rattle.std.specs.Option.{option_eq}
use Rattle.std.proofs.lemmas.Bool.{false≢true, and_parts, and_from, leb-true, eqb-true, not-false}
use Rattle.std.proofs.lemmas.List.{drop_more}
use Rattle.std.proofs.lemmas.Option.{slice_get-get_or}
use Rattle.std.proofs.lemmas.Slice.Eq.{bytes_eq-Decides}
use Rattle.std.proofs.lemmas.Str.{IsUtf8-between, encode_ascii, encodes-chars, encodes_same}
use Rattle.js_base.specs.part_text.Characters.{is_scalar}
use Rattle.js_base.specs.part_text.Decoding.{name_points, name_text, only_if, string_units, utf8_of}
use Rattle.js_base.specs.part_text.Escapes.{in_name, in_string, code_units, line_feeds, line_feeds_after}
use Rattle.js_grammar.specs.Names.{has_backslash}
use Rattle.js_grammar.specs.Strings.{string_inside}
use Rattle.js_grammar.specs.Trees.{NodeKind, identifier_name, string_literal, private_identifier, Op, Label, Span}
use Rattle.js_grammar.proofs.CorePlain.{no_backslash, points-plain}
use Rattle.js_grammar.proofs.Finding.{neither-left, neither-right, neither}
use Rattle.js_tree.specs.Labels.{kind_of}
use Rattle.js_tree.specs.Nodes.{Node, label}
use Rattle.js_tree.specs.Sources.{text_of, name_of}
use Rattle.js_tree.specs.declared.kind.NodeKind.{NodeKind as NodeKind'}
use Rattle.js_tree.specs.declared.kind.NodeKind.TheVariants as node
use Rattle.js_core.specs.laws_shared.NodeTexts.{NodeFits, Texted, IsKept, IsKeptPrivate}
use Rattle.js_parser.specs.MemberNodes.{is_small}
use Rattle.js_grammar.specs.EarlyRules.{is_named, key_units, is_private_constructor, same_value}
use Rattle.js_grammar.proofs.CoreOmission.{one_truth}
use Rattle.js_parser.proofs.Cooked.{feeds}

-- ---- tests

same_lists : (xs ys zs : List ℕ) → (xs ≡ zs → ys ≡ zs) → (ys ≡ zs → xs ≡ zs) → bytes_eq xs zs ≡ bytes_eq ys zs
same_lists xs ys zs f g = one_truth (bytes_eq xs zs) (bytes_eq ys zs) (λ e. (bytes_eq-Decides ys zs).1 (f ((bytes_eq-Decides xs zs).0 e))) (λ e. (bytes_eq-Decides xs zs).1 (g ((bytes_eq-Decides ys zs).0 e)))

-- ---- small letters stand for themselves

small_bound : (c : ℕ) → is_small c ≡ true → (97 ≤ c) × (c ≤ 122)
small_bound c h = let p = and_parts _ _ h in (leb-true 97 c p.0, leb-true c 122 p.1)

units_small : (xs : List ℕ) → list_all is_small xs ≡ true → code_units xs ≡ xs
units_small [] h = refl
units_small (x ∷ xs) h =
    let p = and_parts (is_small x) (list_all is_small xs) h in
    let w = small_bound x p.0 in
    let b : nat_lt x 0x1_0000 ≡ true = lt-ltb x 0x1_0000 (omega arith) in
    ap (λ (t : Bool). cond t (x ∷ []) ((0xD800 + (x - 0x1_0000) / 0x400) ∷ (0xDC00 + (x - 0x1_0000) % 0x400) ∷ []) ++ code_units xs) b ∙ ap (λ (v : List ℕ). x ∷ v) (units_small xs p.1)

bytes_small : (xs : List ℕ) → list_all is_small xs ≡ true → encode_utf8_all xs ≡ xs
bytes_small [] h = refl
bytes_small (x ∷ xs) h =
    let p = and_parts (is_small x) (list_all is_small xs) h in
    let w = small_bound x p.0 in
    ap (λ (v : List ℕ). v ++ encode_utf8_all xs) (encode_ascii x (omega arith)) ∙ ap (λ (v : List ℕ). x ∷ v) (bytes_small xs p.1)

-- code units that are small letters are the code points themselves
points_of_units : (ps xs : List ℕ) → list_all is_small xs ≡ true → code_units ps ≡ xs → ps ≡ xs
points_of_units [] xs h e = e
points_of_units (c ∷ ps) xs h e = go (λ ys. points_of_units ps ys) (nat_lt c 0x1_0000) xs h e
  where
    go : ((ys : List ℕ) → list_all is_small ys ≡ true → code_units ps ≡ ys → ps ≡ ys) → (b : Bool) (xs : List ℕ) → list_all is_small xs ≡ true → cond b (c ∷ []) ((0xD800 + (c - 0x1_0000) / 0x400) ∷ (0xDC00 + (c - 0x1_0000) % 0x400) ∷ []) ++ code_units ps ≡ xs → c ∷ ps ≡ xs
    go r true [] h e = absurd cc
    go r true (x ∷ xs) h e = let i : c ≡ x = cc in let j : code_units ps ≡ xs = cc in rw (i, r xs (and_parts (is_small x) (list_all is_small xs) h).1 j) refl
    go r false [] h e = absurd cc
    go r false (x ∷ xs) h e =
        let i : 0xD800 + (c - 0x1_0000) / 0x400 ≡ x = cc in
        let w = small_bound x (and_parts (is_small x) (list_all is_small xs) h).0 in
        absurd (omega arith)

-- bytes are those of small letters where the characters are these
spelled_same : (bytes ps name : List ℕ) → list_all is_small name ≡ true → bytes ≡ encode_utf8_all ps → bytes_eq bytes name ≡ bytes_eq ps name
spelled_same bytes ps name h e = same_lists bytes ps name
    (λ i. encodes_same ps name (sym e ∙ i ∙ sym (bytes_small name h)))
    (λ i. e ∙ ap encode_utf8_all i ∙ bytes_small name h)

units_same : (ps name : List ℕ) → list_all is_small name ≡ true → bytes_eq ps name ≡ bytes_eq (code_units ps) name
units_same ps name h = same_lists ps (code_units ps) name (λ i. ap code_units i ∙ units_small name h) (points_of_units ps name h)

-- ---- line ends

feed_small : (b : Bool) (c : ℕ) (cs : List ℕ) → b ≡ false → elim b [ true ↦ 10 ∷ line_feeds_after true cs | false ↦ c ∷ line_feeds_after false cs ] ≡ c ∷ line_feeds_after false cs
feed_small true c cs e = absurd (false≢true (sym e))
feed_small false c cs e = refl

no_return : (c : ℕ) → is_small c ≡ true → (c == 13) ≡ false
no_return c h = go (c == 13) refl
  where
    go : (b : Bool) → (c == 13) ≡ b → (c == 13) ≡ false
    go true e = let w = small_bound c h in let i : c ≡ 13 = eqb-true c 13 e in absurd (omega arith)
    go false e = e

feeds_small : (xs : List ℕ) → list_all is_small xs ≡ true → line_feeds xs ≡ xs
feeds_small [] h = refl
feeds_small (x ∷ xs) h =
    let p = and_parts (is_small x) (list_all is_small xs) h in
    feed_small (x == 13) x xs (no_return x p.0) ∙ ap (λ (v : List ℕ). x ∷ v) (feeds_small xs p.1)

feeds_same : (cs xs : List ℕ) → list_all is_small xs ≡ true → line_feeds cs ≡ xs → cs ≡ xs
feeds_same [] xs h e = e
feeds_same (c ∷ cs) xs h e = go (λ ys. feeds_same cs ys) (c == 13) xs h e
  where
    go : ((ys : List ℕ) → list_all is_small ys ≡ true → line_feeds cs ≡ ys → cs ≡ ys) → (b : Bool) (xs : List ℕ) → list_all is_small xs ≡ true → elim b [ true ↦ 10 ∷ line_feeds_after true cs | false ↦ c ∷ line_feeds_after false cs ] ≡ xs → c ∷ cs ≡ xs
    go r true [] h e = absurd cc
    go r true (x ∷ xs) h e =
        let i : 10 ≡ x = cc in
        let w = small_bound x (and_parts (is_small x) (list_all is_small xs) h).0 in
        absurd (omega arith)
    go r false [] h e = absurd cc
    go r false (x ∷ xs) h e = let i : c ≡ x = cc in let j : line_feeds cs ≡ xs = cc in rw (i, r xs (and_parts (is_small x) (list_all is_small xs) h).1 j) refl

fed_same : (cs name : List ℕ) → list_all is_small name ≡ true → bytes_eq cs name ≡ bytes_eq (line_feeds cs) name
fed_same cs name h = same_lists cs (line_feeds cs) name (λ i. ap line_feeds i ∙ feeds_small name h) (feeds_same cs name h)

-- ---- backslashes

none_escaped : (cs : List ℕ) → has_backslash cs ≡ false → list_all no_backslash cs ≡ true
none_escaped [] h = refl
none_escaped (c ∷ cs) h = and_from _ _ (ap not (neither-left (c == 92) (has_backslash cs) h)) (none_escaped cs (neither-right (c == 92) (has_backslash cs) h))

none_taken : (n : ℕ) (cs : List ℕ) → has_backslash cs ≡ false → has_backslash (take n cs) ≡ false
none_taken zero cs h = refl
none_taken (suc n) [] h = refl
none_taken (suc n) (c ∷ cs) h = neither (c == 92) _ (neither-left (c == 92) (has_backslash cs) h) (none_taken n cs (neither-right (c == 92) (has_backslash cs) h))

none_dropped : (cs : List ℕ) → has_backslash cs ≡ false → has_backslash (drop 1 cs) ≡ false
none_dropped [] h = refl
none_dropped (c ∷ cs) h = neither-right (c == 92) (has_backslash cs) h

none_inside : (cs : List ℕ) → has_backslash cs ≡ false → has_backslash (string_inside cs) ≡ false
none_inside cs h = none_dropped (take (length cs - 1) cs) (none_taken (length cs - 1) cs h)

-- ---- a name that a node keeps

flat_encodes : (ps : List ℕ) → flat_map encode_utf8 ps ≡ encode_utf8_all ps
flat_encodes [] = refl
flat_encodes (p ∷ ps) = ap (λ (v : List ℕ). encode_utf8 p ++ v) (flat_encodes ps)

record Spelling (points name : Option (List ℕ)) : Type 0 where
  word : List ℕ
  points_are : points ≡ Some word
  name_is : (d : List ℕ) → unwrap_or name d ≡ encode_utf8_all word

spelling : (points name : Option (List ℕ)) → is_some name ≡ true → name ≡ utf8_of points → Spelling points name
spelling None name s e = absurd (false≢true (sym (ap is_some e) ∙ s))
spelling (Some ps) name s e = go (list_all is_scalar ps) e
  where
    go : (b : Bool) → name ≡ only_if b (flat_map encode_utf8 ps) → Spelling (Some ps) name
    go true f = record { word = ps; points_are = refl; name_is = λ d. ap (λ (v : Option (List ℕ)). unwrap_or v d) f ∙ flat_encodes ps }
    go false f = absurd (false≢true (sym (ap is_some f) ∙ s))

-- ---- what nodes are named

abbrev points_value : Option (List ℕ) → Option (List ℕ)
points_value v = elim v [ None ↦ None | Some cs ↦ Some (code_units cs) ]

-- the value of a word as a key
word_units : (text : List ℕ) (k : NodeKind) (o : Op) (n : ℕ) (s : Span) (ps : List ℕ) → k ≡ identifier_name → name_points (chars (slice_range text s.from s.to)) ≡ Some ps → key_units text (record { kind = k; op = o; flags = n; span = s }) ≡ Some (code_units ps)
word_units text k o n s ps e p = subst (λ (j : NodeKind). key_units text (record { kind = j; op = o; flags = n; span = s }) ≡ Some (code_units ps)) (sym e) (ap points_value p)

word_named : (text name : List ℕ) (k : NodeKind) (o : Op) (n : ℕ) (s : Span) (ps : List ℕ) → k ≡ identifier_name → name_points (chars (slice_range text s.from s.to)) ≡ Some ps → is_named text k name (record { kind = k; op = o; flags = n; span = s }) ≡ bytes_eq (code_units ps) name
word_named text name k o n s ps e p = subst (λ (j : NodeKind). is_named text j name (record { kind = j; op = o; flags = n; span = s }) ≡ bytes_eq (code_units ps) name) (sym e) (ap (λ (v : Option (List ℕ)). same_value (points_value v) (Some name)) p)

string_named : (text name : List ℕ) (k : NodeKind) (o : Op) (n : ℕ) (s : Span) (us : List ℕ) → k ≡ string_literal → string_units (string_inside (chars (slice_range text s.from s.to))) ≡ Some us → is_named text k name (record { kind = k; op = o; flags = n; span = s }) ≡ bytes_eq us name
string_named text name k o n s us e p = subst (λ (j : NodeKind). is_named text j name (record { kind = j; op = o; flags = n; span = s }) ≡ bytes_eq us name) (sym e) (ap (λ (v : Option (List ℕ)). same_value v (Some name)) p)

other_named : (text name : List ℕ) (k : NodeKind) (l : Label) → (k ≡ identifier_name → ⊥) → (k ≡ string_literal → ⊥) → is_named text k name l ≡ false
other_named text name identifier_name l a b = absurd (a refl)
other_named text name string_literal l a b = absurd (b refl)
other_named text name k l a b = refl

module _ (text : List ℕ) (n : Node) (u : IsUtf8 text) (fits : NodeFits text n) where
  abbrev cs : List ℕ
  cs = chars (text_of n text)

  utf8 : IsUtf8 (text_of n text)
  utf8 = IsUtf8-between text n.span.start n.span.end u fits.lies.ordered fits.lies.starts_whole fits.lies.ends_whole

  module _ (k : n.kind ≡ node.IdentifierName) where
    kept : IsKept n.name cs
    kept = subst (λ (j : NodeKind'). Texted j n.name cs) k fits.texted

    -- a word that is written without an escape
    plain_points : is_some n.name ≡ false → name_points cs ≡ Some cs
    plain_points e = points-plain in_name cs (none_escaped cs (sym kept.where_escaped ∙ e))

    -- one with an escape
    escaped_points : is_some n.name ≡ true → Spelling (name_points cs) n.name
    escaped_points e = spelling (name_points cs) n.name e (kept.is ∙ ap (λ (t : Bool). cond t (name_text cs) None) (sym kept.where_escaped ∙ e))

    -- the value of either as a key
    pub plain_value : is_some n.name ≡ false → key_units text (label n) ≡ Some (code_units cs)
    plain_value e = word_units text (label n).kind (label n).op (label n).flags (label n).span cs (ap kind_of k) (plain_points e)

    pub escaped_value : is_some n.name ≡ true → (name : List ℕ) → IsUtf8 name → name ≡ name_of n text → key_units text (label n) ≡ Some (code_units (chars name))
    escaped_value e name w i =
        let s = escaped_points e in
        let same : chars name ≡ s.word = encodes_same (chars name) s.word (encodes-chars name w ∙ (i ∙ s.name_is _)) in
        word_units text (label n).kind (label n).op (label n).flags (label n).span s.word (ap kind_of k) s.points_are ∙ ap (λ (v : List ℕ). Some (code_units v)) (sym same)

  module _ (name : List ℕ) (small : list_all is_small name ≡ true) where
    abbrev is_it : Bool
    is_it = is_named text (kind_of n.kind) name (label n)

    module _ (k : n.kind ≡ node.IdentifierName) where
      -- a word that is written without an escape
      pub plain_word : is_some n.name ≡ false → bytes_eq (text_of n text) name ≡ is_it
      plain_word e =
          spelled_same (text_of n text) cs name small (sym (encodes-chars (text_of n text) utf8))
          ∙ (units_same cs name small
          ∙ sym (word_named text name (label n).kind (label n).op (label n).flags (label n).span cs (ap kind_of k) (plain_points k e)))

      -- one with an escape
      pub escaped_word : is_some n.name ≡ true → bytes_eq (name_of n text) name ≡ is_it
      escaped_word e =
          let s = escaped_points k e in
          spelled_same (name_of n text) s.word name small (s.name_is _)
          ∙ (units_same s.word name small
          ∙ sym (word_named text name (label n).kind (label n).op (label n).flags (label n).span s.word (ap kind_of k) s.points_are))

    module _ (k : n.kind ≡ node.StringLiteral) where
      -- a string without one, by what stands between its quotes
      pub plain_string : (part : List ℕ) → IsUtf8 part → chars part ≡ string_inside cs → has_backslash cs ≡ false → bytes_eq part name ≡ is_it
      plain_string part w e b =
          let i = string_inside cs in
          let p : string_units i ≡ Some (code_units (line_feeds i)) = ap (λ (v : Option (List ℕ)). option_map code_units v) (points-plain in_string (line_feeds i) (none_escaped (line_feeds i) (feeds false i (none_inside cs b)))) in
          spelled_same part i name small (sym (encodes-chars part w) ∙ ap encode_utf8_all e)
          ∙ (fed_same i name small
          ∙ (units_same (line_feeds i) name small
          ∙ sym (string_named text name (label n).kind (label n).op (label n).flags (label n).span (code_units (line_feeds i)) (ap kind_of k) p)))

      -- by its value
      pub string_by_value : (us : List ℕ) → Some us ≡ string_units (string_inside cs) → bytes_eq us name ≡ is_it
      string_by_value us e = sym (string_named text name (label n).kind (label n).op (label n).flags (label n).span us (ap kind_of k) (sym e))

  abbrev it_is_private : Bool
  it_is_private = is_private_constructor text (kind_of n.kind) (label n)

  private_is : (k : NodeKind) (o : Op) (f : ℕ) (s : Span) (w : List ℕ) → k ≡ private_identifier → chars (slice_range text s.from s.to) ≡ w → is_private_constructor text k (record { kind = k; op = o; flags = f; span = s }) ≡ elim w [ [] ↦ false | c ∷ ds ↦ elim (name_points ds) [ None ↦ false | Some ps ↦ bytes_eq ps (codes "constructor") ] ]
  private_is k o f s w e p = subst (λ (j : NodeKind). is_private_constructor text j (record { kind = j; op = o; flags = f; span = s }) ≡ elim w [ [] ↦ false | c ∷ ds ↦ elim (name_points ds) [ None ↦ false | Some ps ↦ bytes_eq ps (codes "constructor") ] ]) (sym e) (ap (λ (v : List ℕ). elim v [ [] ↦ false | c ∷ ds ↦ elim (name_points ds) [ None ↦ false | Some ps ↦ bytes_eq ps (codes "constructor") ] ]) p)

  points_test : (v : Option (List ℕ)) (ps : List ℕ) → v ≡ Some ps → elim v [ None ↦ false | Some qs ↦ bytes_eq qs (codes "constructor") ] ≡ bytes_eq ps (codes "constructor")
  points_test v ps e = ap (λ (o : Option (List ℕ)). elim o [ None ↦ false | Some qs ↦ bytes_eq qs (codes "constructor") ]) e

  module _ (k : n.kind ≡ node.PrivateIdentifier) where
    kept_private : IsKeptPrivate n.name cs
    kept_private = subst (λ (j : NodeKind'). Texted j n.name cs) k fits.texted

    -- a private name without an escape, by what stands behind its sign
    pub plain_private : (rest : List ℕ) → IsUtf8 rest → chars rest ≡ drop 1 cs → is_some n.name ≡ false → bytes_eq rest (codes "constructor") ≡ it_is_private
    plain_private rest w e f = go cs refl e (sym kept_private.where_escaped ∙ f)
      where
        go : (ds : List ℕ) → cs ≡ ds → chars rest ≡ drop 1 ds → has_backslash ds ≡ false → bytes_eq rest (codes "constructor") ≡ it_is_private
        go [] q i b =
            spelled_same rest [] (codes "constructor") refl (sym (encodes-chars rest w) ∙ ap encode_utf8_all i)
            ∙ sym (private_is (label n).kind (label n).op (label n).flags (label n).span [] (ap kind_of k) q)
        go (c ∷ ds) q i b =
            spelled_same rest ds (codes "constructor") refl (sym (encodes-chars rest w) ∙ ap encode_utf8_all i)
            ∙ (sym (points_test (name_points ds) ds (points-plain in_name ds (none_escaped ds (neither-right (c == 92) (has_backslash ds) b))))
            ∙ sym (private_is (label n).kind (label n).op (label n).flags (label n).span (c ∷ ds) (ap kind_of k) q))

    -- one with an escape
    pub escaped_private : is_some n.name ≡ true → bytes_eq (name_of n text) (codes "constructor") ≡ it_is_private
    escaped_private f = go cs refl (sym kept_private.where_escaped ∙ f)
      where
        go : (ds : List ℕ) → cs ≡ ds → has_backslash cs ≡ true → bytes_eq (name_of n text) (codes "constructor") ≡ it_is_private
        go [] q b = absurd (false≢true (ap has_backslash (sym q) ∙ b))
        go (c ∷ ds) q b =
            let s = spelling (name_points ds) n.name f (kept_private.is ∙ (ap (λ (t : Bool). cond t (name_text (drop 1 cs)) None) b ∙ ap (λ (v : List ℕ). name_text (drop 1 v)) q)) in
            spelled_same (name_of n text) s.word (codes "constructor") refl (s.name_is _)
            ∙ (sym (points_test (name_points ds) s.word s.points_are)
            ∙ sym (private_is (label n).kind (label n).op (label n).flags (label n).span (c ∷ ds) (ap kind_of k) q))

pub other_private : (text : List ℕ) (k : NodeKind) (l : Label) → (k ≡ private_identifier → ⊥) → is_private_constructor text k l ≡ false
other_private text private_identifier l a = absurd (a refl)
other_private text k l a = refl

-- ---- lists by their items

like : (o : Option ℕ) (x : ℕ) → false ≡ not (option_eq eqb o (Some x)) → o ≡ Some x
like None x e = absurd (false≢true e)
like (Some y) x e = ap (λ (v : ℕ). Some v) (eqb-true y x (not-false (eqb y x) (sym e)))

-- one item more is the same
pub one_more_same : (us xs : List ℕ) (o : Option ℕ) (i x : ℕ) → 0 < i → i ≤ length xs → length us ≡ length xs → o ≡ slice_get us (i - 1) → get_or xs (i - 1) 0 ≡ x → false ≡ not (option_eq eqb o (Some x)) → drop i us ≡ drop i xs → drop (i - 1) us ≡ drop (i - 1) xs
one_more_same us xs o i x p w l g r e h =
    let j = i - 1 in
    let k : j < length us = omega arith in
    let m : j < length xs = omega arith in
    let q : j + 1 ≡ i = omega arith in
    let there : Some (get_or us j 0) ≡ Some x = sym (slice_get-get_or us j 0 k) ∙ (sym g ∙ like o x e) in
    let same : get_or us j 0 ≡ get_or xs j 0 = let z : get_or us j 0 ≡ x = cc in z ∙ sym r in
    let tails : drop (j + 1) us ≡ drop (j + 1) xs = subst (λ (n : ℕ). drop n us ≡ drop n xs) (sym q) h in
    drop_more us j 0 k ∙ ((λ t. same t ∷ tails t) ∙ sym (drop_more xs j 0 m))
