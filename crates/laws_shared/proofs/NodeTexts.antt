-- What nodes keep of their text, and what tokens tell of it.
use Rattle.std.proofs.Common.{ℕ, ◌≡◌, ◌≤◌, ◌+◌, ◌++◌, ◌==◌, Bool, true, false, cond, ◌&&◌, ◌||◌, List, [], ◌∷◌, drop, Option, Some, None, refl, sym, ap, subst, arith, ◌∙◌}
use Rattle.std.specs.Prelude.{IsSome, chars, slice_range}
use Rattle.std.proofs.lemmas.Bool.{false≢true, eqb-true}
use Rattle.js_base.specs.part_text.Characters.{is_decimal}
use Rattle.js_base.specs.part_text.Decoding.{name_text}
use Rattle.js_base.specs.KindSets.{identifier_name_kinds, binding_identifier_kinds}
use Rattle.js_base.specs.Kinds.{same_kind, one_of_kinds}
use Rattle.js_base.specs.Texts.{words}
use Rattle.js_base.specs.declared.kind.Kind.{Kind}
use Rattle.js_base.specs.declared.kind.Kind.TheVariants.{PrivateIdentifier, Str}
use Rattle.js_base.specs.declared.span.Span.{Span}
use Rattle.js_base.specs.declared.token.Token.{Token}
use Rattle.js_grammar.specs.Characters.{begins, width}
use Rattle.js_grammar.specs.Grammar.{Look}
use Rattle.js_grammar.specs.Lexemes.{LexicalGoal, Opening, a_private_name, division, is_word, kind_in, kind_of, opening}
use Rattle.js_grammar.specs.LexicalFaults.{behind}
use Rattle.js_grammar.specs.Longest.{joined}
use Rattle.js_grammar.specs.Names.{has_backslash, name_of, private_of}
use Rattle.js_grammar.specs.Productions.{Flags}
use Rattle.js_grammar.specs.Strings.{string_kind}
use Rattle.js_grammar.proofs.Looks.{covers, covered}
use Rattle.js_cursor.specs.part_words.Places.{Word}
use Rattle.js_cursor.specs.js_lex.Reading.{GivesLexeme}
use Rattle.js_cursor.proofs.js_lex.Again.{cancel}
use Rattle.js_cursor.proofs.part_words.Flags.{others_stand, spelled}
use Rattle.js_cursor.proofs.part_words.KindsOfLexemes.{opened, opened_is, plain_end}
use Rattle.js_cursor.proofs.js_lex.Given.{string_of_kind}
use Rattle.js_cursor.proofs.js_lex.NamesGiven.{name_of_kind, name_stands_for, word_opened}
use Rattle.js_cursor.proofs.part_scan.StringPlaces.{front_word}
use Rattle.js_cursor.specs.Parsers.{Parser}
use Rattle.js_cursor.specs.Places.{IsAt}
use Rattle.js_cursor.specs.js_tree.declared.kind.NodeKind.{NodeKind}
use Rattle.js_cursor.specs.js_tree.declared.kind.NodeKind.TheVariants as node
use Rattle.laws_shared.specs.NodeTexts.{IsKept, IsKeptPrivate, SpellsName, SpellsPrivate, Texted, TextedAs, behind_sign, is_name_node, is_textual, spelled_at}
use Rattle.laws_shared.specs.States.{At, IsPlain, whole, sign, nothing}

-- ---- nodes

unnamed : (k : NodeKind) → is_textual k ≡ false → is_name_node k ≡ false
unnamed node.StringLiteral h = refl
unnamed node.PrivateIdentifier h = refl
unnamed k h = h

-- a node that is no name and no string
pub untextual : (k : NodeKind) (name : Option (List ℕ)) (cs : List ℕ) → is_textual k ≡ false → Texted k name cs
untextual node.PrivateIdentifier name cs h = absurd (false≢true (sym h))
untextual k name cs h = subst (λ (a : Bool). TextedAs a (is_textual k) name cs) (sym (unnamed k h)) (subst (λ (b : Bool). TextedAs false b name cs) (sym h) tt)

-- a name
pub textual_name : (k : NodeKind) (name : Option (List ℕ)) (cs : List ℕ) → is_name_node k ≡ true → IsKept name cs → Texted k name cs
textual_name node.PrivateIdentifier name cs h i = absurd (false≢true h)
textual_name k name cs h i = subst (λ (a : Bool). TextedAs a (is_textual k) name cs) (sym h) i

-- ---- tokens

module _ {p : Parser} (i : IsAt p) (x : GivesLexeme division (λ y. y) p.text p.prev_token_end p.token) where
  -- the lexeme's characters stand at the token
  word_here : Word p.text p.token.span.start p.token.span.end x.stands.lex.word
  word_here =
      let l = x.stands.lex in
      let v : Word p.text p.prev_token_end x.lexeme.from (joined l.trivia) = subst (λ (n : ℕ). Word p.text p.prev_token_end n (joined l.trivia)) (sym l.from) (front_word p.text p.prev_token_end (joined l.trivia) (l.word ++ l.rest) i.utf8 i.between l.stands.splits) in
      let here : behind p.text p.token.span.start ≡ l.word ++ l.rest = ap (behind p.text) x.tells.start ∙ cancel (joined l.trivia) (behind p.text x.lexeme.from) (l.word ++ l.rest) (sym v.splits ∙ l.stands.splits) in
      let w : Word p.text p.token.span.start (p.token.span.start + width l.word) l.word = front_word p.text p.token.span.start l.word l.rest i.utf8 i.lies.starts_whole here in
      let to : p.token.span.end ≡ p.token.span.start + width l.word = x.tells.end ∙ l.to ∙ ap (λ (n : ℕ). n + width l.word) (sym x.tells.start) in
      subst (λ (n : ℕ). Word p.text p.token.span.start n l.word) (sym to) w

  -- the characters at a token are those of its lexeme
  spelled_here : spelled_at p.text p.token ≡ x.stands.lex.word
  spelled_here = spelled p.text p.token.span.start p.token.span.end x.stands.lex.word i.utf8 i.lies.starts_whole i.lies.ordered word_here

  -- which of them is of its kind, by the plain goal
  kind_of_word : kind_in division x.stands.lex.word x.stands.lex.rest ≡ Some x.lexeme.kind
  kind_of_word = subst (λ (g : LexicalGoal). kind_in g x.stands.lex.word x.stands.lex.rest ≡ Some x.lexeme.kind) x.stands.of_goal x.stands.lex.lexeme.kind

abbrev a_word : Look
a_word k w e = one_of_kinds identifier_name_kinds k

abbrev in_table : Look
in_table k w e = is_word k || same_kind PrivateIdentifier k

words_are : covers a_word in_table ≡ true
unfolding covers words
words_are = refl

no_word : (t : Token) (k : Kind) → one_of_kinds identifier_name_kinds k ≡ false → t.kind ≡ k → one_of_kinds identifier_name_kinds t.kind ≡ true → ⊥
no_word t k n e h = false≢true (sym n ∙ (ap (one_of_kinds identifier_name_kinds) (sym e) ∙ h))

-- the kinds of names are words
pub name_word : (k : Kind) → one_of_kinds binding_identifier_kinds k ≡ true → one_of_kinds identifier_name_kinds k ≡ true
unfolding covers
name_word k h = covered (λ k w e. one_of_kinds binding_identifier_kinds k) a_word refl k false false h

-- a word that stands here is a name, whatever else it is
pub spells_name : {text : List ℕ} {f : Flags} {p : Parser} → At text f p → one_of_kinds identifier_name_kinds p.token.kind ≡ true → SpellsName p.text p.token
spells_name {text} {p = p} a h = by a.plain
  where
    of_lexeme : GivesLexeme division (λ y. y) p.text p.prev_token_end p.token → SpellsName p.text p.token
    of_lexeme x =
        let e = spelled_here a.at x in
        let k : one_of_kinds identifier_name_kinds x.lexeme.kind ≡ true = ap (one_of_kinds identifier_name_kinds) (sym x.tells.kind) ∙ h in
        let w : (is_word x.lexeme.kind || same_kind PrivateIdentifier x.lexeme.kind) ≡ true = covered a_word in_table words_are x.lexeme.kind false false k in
        record {
          lies = a.at.lies;
          escaped = ap has_backslash e ∙ sym (x.tells.escaped ∙ x.stands.lex.escaped ∙ ap (λ (b : Bool). b && has_backslash x.stands.lex.word) w);
          named = subst (λ (cs : List ℕ). IsSome (name_text cs)) (sym e) (name_of_kind x.stands.lex.word x.stands.lex.rest x.lexeme.kind (kind_of_word a.at x) (word_opened x.lexeme.kind k));
        }

    by : IsPlain text p → SpellsName p.text p.token
    by (whole c n x) = of_lexeme (subst (λ (t : List ℕ). GivesLexeme division (λ y. y) t p.prev_token_end p.token) (sym a.text_is) x)
    by (sign c k x) = absurd (no_word p.token _ refl k h)
    by (nothing c k n) = absurd (no_word p.token _ refl k h)

-- ---- private names

-- the characters of a private name: `#` and a name
private_parts : (w rest : List ℕ) → kind_in division w rest ≡ Some PrivateIdentifier → (cs : List ℕ) × (w ≡ 35 ∷ cs) × IsSome (name_text cs)
private_parts [] rest h = absurd (let z = (plain_end rest PrivateIdentifier h).0 in cc)
private_parts (c ∷ cs) rest h = go (c == 35) refl (private_here _ (opened_is c cs rest PrivateIdentifier h))
  where
    private_here : (o : Opening) → opened PrivateIdentifier ≡ Some o → kind_of o (c ∷ cs) rest ≡ kind_of a_private_name (c ∷ cs) rest
    private_here o e = ap (λ (o : Opening). kind_of o (c ∷ cs) rest) (some_opening o a_private_name (sym e))
      where
        some_opening : (a b : Opening) → Some a ≡ Some b → a ≡ b
        some_opening a b e = cc

    with_name : (o : Option (List ℕ)) → name_of cs ≡ o → private_of o ≡ Some PrivateIdentifier → IsSome (name_text cs)
    with_name None e q = absurd (let z = q in cc)
    with_name (Some ps) e q = name_stands_for cs ps e

    go : (b : Bool) → (c == 35) ≡ b → kind_of (opening c (begins is_decimal cs)) (c ∷ cs) rest ≡ elim (c == 35) [ true ↦ private_of (name_of cs) | false ↦ None ] → (ds : List ℕ) × (c ∷ cs ≡ 35 ∷ ds) × IsSome (name_text ds)
    go true e k = (cs, ap (λ (d : ℕ). d ∷ cs) (eqb-true c 35 e), with_name (name_of cs) refl (sym (k ∙ ap (λ (b : Bool). elim b [ true ↦ private_of (name_of cs) | false ↦ None ]) e) ∙ h))
    go false e k = absurd (let z : None ≡ Some PrivateIdentifier = sym (k ∙ ap (λ (b : Bool). elim b [ true ↦ private_of (name_of cs) | false ↦ None ]) e) ∙ h in cc)

-- a private name that stands here is one
pub spells_private : {text : List ℕ} {f : Flags} {p : Parser} → At text f p → p.token.kind ≡ PrivateIdentifier → SpellsPrivate p.text p.token
spells_private {text} {p = p} a h = by a.plain
  where
    of_word : (w : List ℕ) → spelled_at p.text p.token ≡ w → Word p.text p.token.span.start p.token.span.end w → (has_backslash w ≡ p.token.escaped) → (cs : List ℕ) × (w ≡ 35 ∷ cs) × IsSome (name_text cs) → SpellsPrivate p.text p.token
    of_word w e s b (cs, q, n) =
        let whole : Word p.text p.token.span.start p.token.span.end (35 ∷ cs) = subst (λ (v : List ℕ). Word p.text p.token.span.start p.token.span.end v) q s in
        let first : Word p.text p.token.span.start (p.token.span.start + 1) (35 ∷ []) = front_word p.text p.token.span.start (35 ∷ []) (cs ++ behind p.text p.token.span.end) a.at.utf8 a.at.lies.starts_whole whole.splits in
        let others = (others_stand first whole).1 in
        let before : p.token.span.start + 1 ≤ p.token.span.end = (let z = others.end in omega arith) in
        let inside : behind_sign p.text p.token ≡ cs = spelled p.text (p.token.span.start + 1) p.token.span.end cs a.at.utf8 first.boundary before others in
        record {
          lies = a.at.lies;
          before = before;
          between = first.boundary;
          sign = e ∙ q ∙ ap (λ (v : List ℕ). 35 ∷ v) (sym inside);
          escaped = ap has_backslash e ∙ b;
          named = subst (λ (v : List ℕ). IsSome (name_text v)) (sym inside) n;
        }

    of_lexeme : GivesLexeme division (λ y. y) p.text p.prev_token_end p.token → SpellsPrivate p.text p.token
    of_lexeme x =
        let k : x.lexeme.kind ≡ PrivateIdentifier = sym x.tells.kind ∙ h in
        let w : (is_word x.lexeme.kind || same_kind PrivateIdentifier x.lexeme.kind) ≡ true = ap (λ (v : Kind). is_word v || same_kind PrivateIdentifier v) k in
        of_word x.stands.lex.word (spelled_here a.at x) (word_here a.at x) (sym (x.tells.escaped ∙ x.stands.lex.escaped ∙ ap (λ (b : Bool). b && has_backslash x.stands.lex.word) w)) (private_parts x.stands.lex.word x.stands.lex.rest (kind_of_word a.at x ∙ ap (λ (v : Kind). Some v) k))

    by : IsPlain text p → SpellsPrivate p.text p.token
    by (whole c n x) = of_lexeme (subst (λ (t : List ℕ). GivesLexeme division (λ y. y) t p.prev_token_end p.token) (sym a.text_is) x)
    by (sign c k x) = absurd (let e = sym k ∙ h in cc)
    by (nothing c k n) = absurd (let e = sym k ∙ h in cc)

-- the same of that token behind it
pub private_later : {text : List ℕ} {f : Flags} {p : Parser} {w : List ℕ} {t : Token} → At text f p → p.token.kind ≡ PrivateIdentifier → t ≡ p.token → w ≡ p.text → SpellsPrivate w t
private_later {p = p} {w} {t} a h e s = subst (λ (v : List ℕ). SpellsPrivate v t) (sym s) (subst (λ (u : Token). SpellsPrivate p.text u) (sym e) (spells_private a h))

-- what is kept of it: nothing, or what it spells
pub private_plain : {text : List ℕ} {t : Token} → SpellsPrivate text t → t.escaped ≡ false → IsKeptPrivate None (spelled_at text t)
private_plain {text} {t} s n = let e : has_backslash (spelled_at text t) ≡ false = s.escaped ∙ n in record { is = sym (ap (λ (b : Bool). cond b (name_text (drop 1 (spelled_at text t))) None) e); where_escaped = sym e }

pub private_spelled : {text : List ℕ} {t : Token} {name : List ℕ} → SpellsPrivate text t → t.escaped ≡ true → Some name ≡ name_text (behind_sign text t) → IsKeptPrivate (Some name) (spelled_at text t)
private_spelled {text} {t} s n k =
    let e : has_backslash (spelled_at text t) ≡ true = s.escaped ∙ n in
    record { is = k ∙ (ap (λ (v : List ℕ). name_text (drop 1 v)) (sym s.sign) ∙ sym (ap (λ (b : Bool). cond b (name_text (drop 1 (spelled_at text t))) None) e)); where_escaped = sym e }

-- a string that stands here is a string literal
pub spells_string : {text : List ℕ} {f : Flags} {p : Parser} → At text f p → p.token.kind ≡ Str → string_kind (spelled_at p.text p.token) ≡ Some Str
spells_string {text} {p = p} a h = by a.plain
  where
    of_lexeme : GivesLexeme division (λ y. y) p.text p.prev_token_end p.token → string_kind (spelled_at p.text p.token) ≡ Some Str
    of_lexeme x = ap string_kind (spelled_here a.at x) ∙ string_of_kind x.stands.lex.word x.stands.lex.rest x.lexeme.kind (kind_of_word a.at x) (sym x.tells.kind ∙ h)

    by : IsPlain text p → string_kind (spelled_at p.text p.token) ≡ Some Str
    by (whole c n x) = of_lexeme (subst (λ (t : List ℕ). GivesLexeme division (λ y. y) t p.prev_token_end p.token) (sym a.text_is) x)
    by (sign c k x) = absurd (let e = sym k ∙ h in cc)
    by (nothing c k n) = absurd (let e = sym k ∙ h in cc)

-- the same of that token behind it
pub spells_later : {text : List ℕ} {f : Flags} {p : Parser} {w : List ℕ} {t : Token} → At text f p → one_of_kinds identifier_name_kinds p.token.kind ≡ true → t ≡ p.token → w ≡ p.text → SpellsName w t
spells_later {p = p} {w} {t} a h e s = subst (λ (v : List ℕ). SpellsName v t) (sym s) (subst (λ (u : Token). SpellsName p.text u) (sym e) (spells_name a h))

pub string_later : {text : List ℕ} {f : Flags} {p : Parser} (w : List ℕ) {s : Span} → At text f p → p.token.kind ≡ Str → s ≡ p.token.span → w ≡ p.text → string_kind (chars (slice_range w s.start s.end)) ≡ Some Str
string_later {p = p} w {s} a h e t = subst (λ (v : List ℕ). string_kind (chars (slice_range v s.start s.end)) ≡ Some Str) (sym t) (subst (λ (u : Span). string_kind (chars (slice_range p.text u.start u.end)) ≡ Some Str) (sym e) (spells_string a h))
