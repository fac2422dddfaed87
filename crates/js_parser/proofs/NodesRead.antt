-- Each node of a tree that is derived from a text is read from it: a name there is well-formed, and a string literal is one.
use Rattle.std.proofs.Common.{ℕ, ◌≡◌, ◌==◌, ◌++◌, drop, Bool, true, false, List, [], ◌∷◌, Option, Some, None, if◌then◌else◌, refl, sym, ap, subst, arith, ◌∙◌}
use Rattle.std.specs.Prelude.{chars, encode_utf8, encode_utf8_all, slice_range, IsSome, IsUtf8}
use Rattle.std.proofs.lemmas.Bool.{eqb-true}
use Rattle.std.proofs.lemmas.Str.{IsUtf8-between, chars_past_char, encode_ascii, encodes-chars}
use Rattle.js_base.specs.Kinds.{same_kind}
use Rattle.js_base.proofs.KindLemmas.{kind_of_same}
use Rattle.js_base.specs.Spans.{LiesIn}
use Rattle.js_base.specs.declared.kind.Kind.{Kind}
use Rattle.js_base.specs.declared.kind.Kind.TheVariants.{PrivateIdentifier, Str}
use Rattle.js_base.specs.part_text.Characters.{is_decimal}
use Rattle.js_base.specs.part_text.Decoding.{name_text}
use Rattle.js_grammar.specs.Characters.{begins}
use Rattle.js_grammar.specs.Lexemes.{division, Opening, a_name, a_private_name, is_word, kind_in, kind_of, opening}
use Rattle.js_grammar.specs.Names.{name_of, private_of}
use Rattle.js_grammar.specs.NodeNames.{without_sign, IsReadAs, AreReadFrom}
use Rattle.js_grammar.specs.Strings.{string_kind}
use Rattle.js_grammar.specs.Trees.{NodeKind, identifier_reference, binding_identifier, label_identifier, identifier_name, private_identifier, string_literal, Op, Span, Slots, end, hole, tree}
use Rattle.js_grammar.proofs.Looks.{covered}
use Rattle.js_cursor.proofs.js_lex.Given.{string_of_kind}
use Rattle.js_cursor.proofs.js_lex.NamesGiven.{name_of_kind, name_stands_for, word_opened}
use Rattle.js_cursor.proofs.part_words.KindsOfLexemes.{opened, opened_is, plain_end}
use Rattle.js_parser.proofs.PlainKinds.{plainly, a_word, a_name_kind, words_are, same_opening}
use Rattle.js_parser.specs.NodeSpans.{SlotsLie}
use Rattle.js_parser.specs.SameSource.{IsOneLexeme, HasSource, HaveSources, source_of}

-- ---- names

opens_sign : (d : Bool) → opening 35 d ≡ a_private_name
opens_sign d = refl

names_apart : a_name ≡ a_private_name → ⊥
names_apart e = absurd cc

-- a word is a name, and begins with no `#`
word_parts : (w rest : List ℕ) (k : Kind) → kind_in division w rest ≡ Some k → is_word k ≡ true → IsSome (name_text w) × ((cs : List ℕ) → w ≡ 35 ∷ cs → ⊥)
word_parts w rest k h p =
    let o : opened k ≡ Some a_name = word_opened k (covered a_word a_name_kind words_are k false false p) in (
      name_of_kind w rest k h o,
      λ cs e.
          let s : opened k ≡ Some (opening 35 (begins is_decimal cs)) = opened_is 35 cs rest k (sym (ap (λ (v : List ℕ). kind_in division v rest) e) ∙ h) in
          names_apart (same_opening a_name a_private_name (sym o ∙ s ∙ ap Some (opens_sign (begins is_decimal cs)))),
    )

-- a private name is `#` and a name
private_parts : (w rest : List ℕ) → kind_in division w rest ≡ Some PrivateIdentifier → (cs : List ℕ) × (w ≡ 35 ∷ cs) × IsSome (name_text cs)
private_parts [] rest h = absurd (let z = (plain_end rest PrivateIdentifier h).0 in cc)
private_parts (c ∷ cs) rest h = go (c == 35) refl (private_here _ (opened_is c cs rest PrivateIdentifier h))
  where
    private_here : (o : Opening) → opened PrivateIdentifier ≡ Some o → kind_of o (c ∷ cs) rest ≡ kind_of a_private_name (c ∷ cs) rest
    private_here o e = ap (λ (o : Opening). kind_of o (c ∷ cs) rest) (same_opening o a_private_name (sym e))

    with_name : (o : Option (List ℕ)) → name_of cs ≡ o → private_of o ≡ Some PrivateIdentifier → IsSome (name_text cs)
    with_name None e q = absurd (let z = q in cc)
    with_name (Some ps) e q = name_stands_for cs ps e

    go : (b : Bool) → (c == 35) ≡ b → kind_of (opening c (begins is_decimal cs)) (c ∷ cs) rest ≡ elim (c == 35) [ true ↦ private_of (name_of cs) | false ↦ None ] → (ds : List ℕ) × (c ∷ cs ≡ 35 ∷ ds) × IsSome (name_text ds)
    go true e k = (cs, ap (λ (d : ℕ). d ∷ cs) (eqb-true c 35 e), with_name (name_of cs) refl (sym (k ∙ ap (λ (b : Bool). elim b [ true ↦ private_of (name_of cs) | false ↦ None ]) e) ∙ h))
    go false e k = absurd (let z : None ≡ Some PrivateIdentifier = sym (k ∙ ap (λ (b : Bool). elim b [ true ↦ private_of (name_of cs) | false ↦ None ]) e) ∙ h in cc)

-- ---- bytes, and the `#` before them

sign_alone : encode_utf8 35 ≡ 35 ∷ []
sign_alone = encode_ascii 35 (omega arith)

unsigned : (bs : List ℕ) → IsUtf8 bs → ((cs : List ℕ) → chars bs ≡ 35 ∷ cs → ⊥) → without_sign bs ≡ bs
unsigned [] u n = refl
unsigned (b ∷ bs) u n = go (b == 35) refl
  where
    go : (t : Bool) → (b == 35) ≡ t → (if t then bs else b ∷ bs) ≡ b ∷ bs
    go false e = refl
    go true e = absurd (n (chars bs) (chars_past_char (b ∷ bs) bs 35 u (ap (λ (c : ℕ). c ∷ bs) (eqb-true b 35 e) ∙ ap (λ (v : List ℕ). v ++ bs) (sym sign_alone))))

same_behind : (c : ℕ) (xs ys : List ℕ) → c ∷ xs ≡ c ∷ ys → xs ≡ ys
same_behind c xs ys e = cc

signed : (bs cs : List ℕ) → IsUtf8 bs → chars bs ≡ 35 ∷ cs → chars (without_sign bs) ≡ cs
signed bs cs u e =
    let q : bs ≡ encode_utf8 35 ++ encode_utf8_all cs = sym (encodes-chars bs u) ∙ ap encode_utf8_all e in
    ap (λ (v : List ℕ). chars (without_sign v)) (q ∙ ap (λ (v : List ℕ). v ++ encode_utf8_all cs) sign_alone) ∙ same_behind 35 (chars (encode_utf8_all cs)) cs (sym (chars_past_char bs (encode_utf8_all cs) 35 u q) ∙ e)

-- ---- nodes

module _ (text : List ℕ) (u : IsUtf8 text) where
  abbrev Lies : ℕ → ℕ → Type 0
  Lies from to = LiesIn (record { start = from; end = to }) text

  piece : (from to : ℕ) → Lies from to → IsUtf8 (slice_range text from to)
  piece from to l = IsUtf8-between text from to u l.ordered l.starts_whole l.ends_whole

  word_read : (from to : ℕ) → Lies from to → IsOneLexeme text is_word from to → IsSome (name_text (chars (without_sign (slice_range text from to))))
  word_read from to l x =
      let w = word_parts (chars (slice_range text from to)) (chars (drop to text)) x.kind (plainly is_word refl refl refl refl x.goal (chars (slice_range text from to)) (chars (drop to text)) x.kind x.is.kind x.passing) x.passing in
      subst (λ (v : List ℕ). IsSome (name_text (chars v))) (sym (unsigned (slice_range text from to) (piece from to l) w.1)) w.0

  private_read : (from to : ℕ) → Lies from to → IsOneLexeme text (same_kind PrivateIdentifier) from to → IsSome (name_text (chars (without_sign (slice_range text from to))))
  private_read from to l x =
      let k : PrivateIdentifier ≡ x.kind = kind_of_same PrivateIdentifier x.kind x.passing in
      let w = private_parts (chars (slice_range text from to)) (chars (drop to text)) (plainly (same_kind PrivateIdentifier) refl refl refl refl x.goal (chars (slice_range text from to)) (chars (drop to text)) x.kind x.is.kind x.passing ∙ ap Some (sym k)) in
      subst (λ (v : List ℕ). IsSome (name_text v)) (sym (signed (slice_range text from to) w.0 (piece from to l) w.1)) w.2

  string_read : (from to : ℕ) → IsOneLexeme text (same_kind Str) from to → string_kind (chars (slice_range text from to)) ≡ Some Str
  string_read from to x = string_of_kind (chars (slice_range text from to)) (chars (drop to text)) x.kind (plainly (same_kind Str) refl refl refl refl x.goal (chars (slice_range text from to)) (chars (drop to text)) x.kind x.is.kind x.passing) (sym (kind_of_same Str x.kind x.passing))

  node_read : (k : NodeKind) (o : Op) (n : ℕ) (s : Span) → Lies s.from s.to → HasSource text (source_of k) s → IsReadAs k text (record { kind = k; op = o; flags = n; span = s })
  node_read identifier_reference o n s l x = word_read s.from s.to l x
  node_read binding_identifier o n s l x = word_read s.from s.to l x
  node_read label_identifier o n s l x = word_read s.from s.to l x
  node_read identifier_name o n s l x = word_read s.from s.to l x
  node_read private_identifier o n s l x = private_read s.from s.to l x
  node_read string_literal o n s l x = string_read s.from s.to x
  node_read _ o n s l x = tt

  pub slots_read : (us : Slots) → SlotsLie text us → HaveSources text us → AreReadFrom text us
  slots_read end l h = tt
  slots_read (hole us) l h = slots_read us l h
  slots_read (tree m cs us) l h = ((l.0, node_read m.kind m.op m.flags m.span l.0 h.0), slots_read cs l.1 h.1, slots_read us l.2 h.2)
