-- Which lexemes have an escape: names and words alone.
use Rattle.std.proofs.Common.{ℕ, ◌≡◌, Bool, true, false, not, ◌&&◌, ◌||◌, List, ◌∷◌, IsTrue, refl, sym, ap, subst, ◌∙◌, cond}
use Rattle.std.proofs.lemmas.Bool.{false≢true, and_parts, and_from, or_left, or_right, not-true}
use Rattle.js_base.specs.declared.kind.Kind.{Kind}
use Rattle.js_base.specs.declared.kind.Kind.TheVariants.{Ident, PrivateIdentifier}
use Rattle.js_base.specs.declared.token.Token.{Token}
use Rattle.js_base.specs.Kinds.{same_kind, one_of_kinds, every_kind}
use Rattle.js_base.specs.KindSets.{identifier_name_kinds}
use Rattle.js_base.specs.Texts.{words}
use Rattle.js_base.proofs.KindLemmas.{kind_of_same}
use Rattle.js_grammar.specs.Grammar.{Lexeme, Look}
use Rattle.js_grammar.specs.Lexemes.{is_word}
use Rattle.js_grammar.specs.Names.{has_backslash}
use Rattle.js_grammar.specs.Productions.{Flags}
use Rattle.js_grammar.proofs.Looks.{covers, covered}
use Rattle.js_cursor.specs.js_lex.Reading.{Tells, is_right_angle}
use Rattle.js_cursor.specs.Parsers.{Parser}
use Rattle.laws_shared.specs.Lexemes.{Lex, escaped_word, is_read, may_name, other_goals, keyword_kind, is_read_kind}
use Rattle.laws_shared.specs.States.{At}
use Rattle.laws_shared.proofs.Here.{angled, escaped_here, told_plain}
use Rattle.laws_shared.proofs.Paths.{of_every}

-- what holds of a kind, and not of a plain name's
pub no_name_where : (P : Kind → Bool) (k : Kind) → P k ≡ true → P Ident ≡ false → same_kind Ident k ≡ false
no_name_where P k h n = go (same_kind Ident k) refl
  where
    go : (b : Bool) → same_kind Ident k ≡ b → b ≡ false
    go true e = absurd (false≢true (sym n ∙ (ap P (kind_of_same Ident k e) ∙ h)))
    go false e = refl

-- no word with an escape, and no plain name
pub word_plain : (k : Kind) (e : Bool) → same_kind Ident k ≡ false → escaped_word k e ≡ false → e ≡ false
word_plain k e n h = go e (same_kind Ident k) n h
  where
    go : (x b : Bool) → b ≡ false → (x && not b) ≡ false → x ≡ false
    go true true n h = absurd (false≢true (sym n))
    go true false n h = absurd (false≢true (sym h))
    go false b n h = refl

-- a plain name is none
pub no_escaped_name : (k : Kind) (e : Bool) → k ≡ Ident → escaped_word k e ≡ false
no_escaped_name k e h = go e (same_kind Ident k) (ap (same_kind Ident) h)
  where
    go : (x b : Bool) → b ≡ true → (x && not b) ≡ false
    go true true n = refl
    go true false n = absurd (false≢true n)
    go false b n = refl

-- any other lexeme is one where it has an escape
pub escaped_other : (k : Kind) (e : Bool) → (k ≡ Ident → ⊥) → escaped_word k e ≡ e
escaped_other k e n = go (same_kind Ident k) refl e
  where
    go : (b : Bool) → same_kind Ident k ≡ b → (x : Bool) → (x && not b) ≡ x
    go true q x = absurd (n (sym (kind_of_same Ident k q)))
    go false q true = refl
    go false q false = refl

-- a token of a kind, which is no word with an escape
pub plain_word : (t : Token) {k : Kind} → t.kind ≡ k → same_kind Ident k ≡ false → escaped_word t.kind t.escaped ≡ false → t.escaped ≡ false
plain_word t e n h = word_plain t.kind t.escaped (ap (same_kind Ident) e ∙ n) h

-- the same, of what stands at a parser's place
pub plain_here : (p : Parser) {k : Kind} {b : Bool} → p.token.kind ≡ k → same_kind Ident k ≡ false → b ≡ escaped_word p.token.kind p.token.escaped → b ≡ false → (p.token.kind ≡ k) × (p.token.escaped ≡ false)
plain_here p e n w h = (e, plain_word p.token e n (sym w ∙ h))

pub unescaped_word : (k : Kind) (e : Bool) → e ≡ false → escaped_word k e ≡ false
unescaped_word k e h = ap (λ (b : Bool). b && not (same_kind Ident k)) h

-- the kinds that may have an escape (ECMA-262, 12.7)
abbrev pub escapable_kinds : List Kind
escapable_kinds = PrivateIdentifier ∷ identifier_name_kinds

abbrev sign_like : Look
sign_like k w e = is_read_kind k && not (one_of_kinds escapable_kinds k)

abbrev unescapable : Look
unescapable k w e = not (is_word k || same_kind PrivateIdentifier k)

signs_unescapable : covers sign_like unescapable ≡ true
unfolding covers words
signs_unescapable = refl

-- what is read, and is no word and no private name, has no escape
pub read_unnamed : {text : List ℕ} {s : ℕ} (y : Lexeme) → Lex text s y → one_of_kinds escapable_kinds y.kind ≡ false → y.escaped ≡ false
read_unnamed y l n = l.0.escaped ∙ ap (λ (b : Bool). b && has_backslash l.0.word) (not-true (is_word y.kind || same_kind PrivateIdentifier y.kind) (covered sign_like unescapable signs_unescapable y.kind false false (and_from _ _ l.1 (ap not n))))

-- of a kind
pub read_plain : {k : Kind} {text : List ℕ} {s : ℕ} (y : Lexeme) → Lex text s y → y.kind ≡ k → one_of_kinds escapable_kinds k ≡ false → y.escaped ≡ false
read_plain y l e n = read_unnamed y l (ap (one_of_kinds escapable_kinds) e ∙ n)

-- none of these kinds is a word's or that of private names
pub no_word_among : (ks : List Kind) (k : Kind) → every_kind (λ k. not (one_of_kinds escapable_kinds k)) ks ≡ true → one_of_kinds ks k ≡ true → one_of_kinds escapable_kinds k ≡ false
no_word_among ks k n m = not-true (one_of_kinds escapable_kinds k) (of_every (λ k. not (one_of_kinds escapable_kinds k)) ks k n m)

-- one of these kinds
pub read_listed : (ks : List Kind) {text : List ℕ} {s : ℕ} (y : Lexeme) → Lex text s y → one_of_kinds ks y.kind ≡ true → every_kind (λ k. not (one_of_kinds escapable_kinds k)) ks ≡ true → y.escaped ≡ false
read_listed ks y l m n = read_unnamed y l (no_word_among ks y.kind n m)

-- what has an escape and is no name is a word with one
pub escaped_unnamed : (y t : Bool) (k : Kind) (e : Bool) → may_name y t k ≡ false → e ≡ true → escaped_word k e ≡ true
escaped_unnamed y t k e n i = and_from e _ i (ap not (go (same_kind Ident k) refl))
  where
    go : (b : Bool) → same_kind Ident k ≡ b → same_kind Ident k ≡ false
    go true q = absurd (false≢true (sym n ∙ ap (may_name y t) (sym (kind_of_same Ident k q))))
    go false q = q

-- a token of a kind that is read is the whole of a lexeme that is
pub read_as : (y : Lexeme) {t : Token} → Tells y t → is_read_kind t.kind ≡ true → IsTrue (is_read y)
read_as y s h = subst (λ (k : Kind). is_read_kind k ≡ true) s.kind h

-- where a word with an escape stands, every lexeme has one
pub all_escaped : {text : List ℕ} {f : Flags} {p : Parser} → At text f p → escaped_word p.token.kind p.token.escaped ≡ true → (y : Lexeme) → Lex text p.prev_token_end y → y.escaped ≡ true
all_escaped {p = p} a e y l = escaped_here a y l ∙ (and_parts p.token.escaped (not (same_kind Ident p.token.kind)) e).0

abbrev may_escape : Look
may_escape k w e = one_of_kinds escapable_kinds k

abbrev settled_look : Look
settled_look k w e = not (is_right_angle k) && not (one_of_kinds other_goals k)

escapable_settled : covers may_escape settled_look ≡ true
unfolding covers
escapable_settled = refl

-- what has an escape is a word or a private name
pub escaped_kind : {text : List ℕ} {s : ℕ} (y : Lexeme) → Lex text s y → y.escaped ≡ true → one_of_kinds escapable_kinds y.kind ≡ true
escaped_kind y l e = go (one_of_kinds escapable_kinds y.kind) refl
  where
    go : (b : Bool) → one_of_kinds escapable_kinds y.kind ≡ b → one_of_kinds escapable_kinds y.kind ≡ true
    go true q = q
    go false q = absurd (false≢true (sym (read_unnamed y l q) ∙ e))

-- so it has none, or it is one
pub plain_or_escapable : {text : List ℕ} {s : ℕ} (y : Lexeme) → Lex text s y → (not y.escaped || one_of_kinds escapable_kinds y.kind) ≡ true
plain_or_escapable y l = go y.escaped refl
  where
    go : (b : Bool) → y.escaped ≡ b → (not y.escaped || one_of_kinds escapable_kinds y.kind) ≡ true
    go true e = or_right (not y.escaped) _ (escaped_kind y l e)
    go false e = or_left _ _ (ap not e)

-- it is of the token's kind
pub kind_escaped : {text : List ℕ} {f : Flags} {p : Parser} → At text f p → p.token.escaped ≡ true → (y : Lexeme) → Lex text p.prev_token_end y → y.kind ≡ p.token.kind
kind_escaped {p = p} a e y l = go p.cut refl
  where
    apart : (is_right_angle y.kind ≡ false) × (one_of_kinds other_goals y.kind ≡ false)
    apart =
        let z = and_parts (not (is_right_angle y.kind)) _ (covered may_escape settled_look escapable_settled y.kind false false (escaped_kind y l (escaped_here a y l ∙ e))) in
        (not-true (is_right_angle y.kind) z.0, not-true (one_of_kinds other_goals y.kind) z.1)

    go : (b : Bool) → p.cut ≡ b → y.kind ≡ p.token.kind
    go true c = absurd (false≢true (sym apart.0 ∙ angled a c y l))
    go false c = sym (told_plain a c y apart.1 l).kind

-- ---- keywords

-- without an escape it is the keyword that it looks like
pub keyword_plain : (t : Token) → t.escaped ≡ false → keyword_kind t ≡ t.kind
keyword_plain t e = ap (λ (b : Bool). cond b Ident t.kind) e

-- a keyword has no escape
pub keyword_is : (t : Token) {k : Kind} → keyword_kind t ≡ k → same_kind Ident k ≡ false → (t.kind ≡ k) × (t.escaped ≡ false)
keyword_is t {k} h n = go t.escaped refl h
  where
    go : (b : Bool) → t.escaped ≡ b → cond b Ident t.kind ≡ k → (t.kind ≡ k) × (t.escaped ≡ false)
    go true e i = absurd (false≢true (sym n ∙ ap (same_kind Ident) (sym i)))
    go false e i = (i, e)

-- what is none of these kinds is no keyword among them
pub keyword_none : (t : Token) (ks : List Kind) → one_of_kinds ks t.kind ≡ false → one_of_kinds ks Ident ≡ false → one_of_kinds ks (keyword_kind t) ≡ false
keyword_none t ks h n = go t.escaped refl
  where
    go : (b : Bool) → t.escaped ≡ b → one_of_kinds ks (keyword_kind t) ≡ false
    go true e = ap (λ (b : Bool). one_of_kinds ks (cond b Ident t.kind)) e ∙ n
    go false e = ap (one_of_kinds ks) (keyword_plain t e) ∙ h

-- nor is what has an escape
pub keyword_escaped : (t : Token) (ks : List Kind) → t.escaped ≡ true → one_of_kinds ks Ident ≡ false → one_of_kinds ks (keyword_kind t) ≡ false
keyword_escaped t ks e n = ap (λ (b : Bool). one_of_kinds ks (cond b Ident t.kind)) e ∙ n
