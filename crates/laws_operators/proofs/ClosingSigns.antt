-- A closing sign at a place is the lexeme that stands there: each is a punctuator by itself and begins no longer one (ECMA-262, 12.8).
use Rattle.std.proofs.Common.{ℕ, ◌≡◌, ◌<◌, ◌+◌, ◌==◌, inl, Bool, true, false, ◌||◌, List, [], ◌∷◌, Some, refl, sym, ap, subst, arith, ◌∙◌}
use Rattle.std.specs.Prelude.{IsCharBoundary, IsUtf8, codes, slice_index}
use Rattle.std.proofs.lemmas.Bool.{eqb-true, false≢true}
use Rattle.js_base.specs.part_text.Characters.{one_of}
use Rattle.js_base.specs.Kinds.{one_of_kinds}
use Rattle.js_base.specs.Texts.{punctuators}
use Rattle.js_base.specs.declared.kind.Kind.{Kind}
use Rattle.js_base.specs.declared.kind.Kind.TheVariants.{Comma, RBrack, RParen, Semicolon}
use Rattle.js_grammar.specs.Grammar.{Lexeme}
use Rattle.js_grammar.specs.Lexemes.{division}
use Rattle.js_grammar.specs.Productions.{Flags}
use Rattle.js_grammar.proofs.Alike.{lex-same}
use Rattle.laws_shared.specs.part_words.Places.{Peeks}
use Rattle.laws_shared.specs.part_scan.Punctuators.{punctuator_of}
use Rattle.laws_shared.specs.part_words.ByteClasses.{is_lone}
use Rattle.laws_shared.specs.js_lex.Reading.{LexemeBehind, is_right_angle}
use Rattle.laws_shared.proofs.js_lex.Giving.{lexeme_behind}
use Rattle.laws_shared.proofs.part_words.Places.{peeks}
use Rattle.laws_shared.proofs.part_scan.PunctuatorLexemes.{lone_scanned}
use Rattle.laws_shared.proofs.js_lex.TriviaLemmas.{lone_no_trivia}
use Rattle.laws_shared.specs.js_cursor.Parsers.{Parser}
use Rattle.laws_shared.specs.States.{At, IsPlain, nothing, sign, whole}
use Rattle.laws_shared.proofs.Here.{cut_angle}
use Rattle.laws_operators.specs.ClosedOperands.{ClosesAt, closing_bytes, closing_signs}

-- such a lexeme stands at the place
record SignBehind (text : List ℕ) (s : ℕ) (k : Kind) : Type 0 where
  lexeme : Lexeme
  stands : LexemeBehind division text s lexeme
  is : lexeme.kind ≡ k

-- a punctuator of one character that begins no longer one, and no trivia
lone_behind : {text : List ℕ} {s : ℕ} (b : ℕ) (k : Kind) → IsCharBoundary text s → Peeks text s b → b < 128 → punctuator_of (b ∷ []) ≡ Some k → is_lone b ≡ true → one_of (codes "/<-") b ≡ false → SignBehind text s k
lone_behind {text} {s} b k between p a e o n =
    let t = lone_no_trivia (Some (record { kind = k; end = s + 1; escaped = false; has_separator = false })) p e n (s == 0) in
    let y = lexeme_behind [] (record { kind = k; end = s + 1; escaped = false; has_separator = false }) (let i = p.within in omega arith) (record { boundary = between; splits = refl; end = omega arith }) t (lone_scanned (p.ascii a) e (inl o)) in
    record { lexeme = _; stands = y; is = refl }

-- the token tells it
module _ {text : List ℕ} {f : Flags} {q : Parser} (a : At text f q) where
  told_sign : (k : Kind) → is_right_angle k ≡ false → SignBehind text q.prev_token_end k → q.token.kind ≡ k
  told_sign k r z = go a.plain
    where
      go : IsPlain text q → q.token.kind ≡ k
      go (whole c n x) = x.tells.kind ∙ (ap (λ (y : Lexeme). y.kind) (lex-same x.stands.lex z.stands.lex (x.stands.of_goal ∙ sym z.stands.of_goal)) ∙ z.is)
      go (sign c i x) = absurd (false≢true (sym r ∙ (ap is_right_angle (sym (ap (λ (y : Lexeme). y.kind) (lex-same x.stands.lex z.stands.lex (x.stands.of_goal ∙ sym z.stands.of_goal)) ∙ z.is)) ∙ cut_angle x.lexeme (sym x.tells.kind ∙ i))))
      go (nothing c i n) = absurd (n z.lexeme z.stands)

  by_byte : (b : ℕ) (k : Kind) → Peeks text q.prev_token_end b → b < 128 → punctuator_of (b ∷ []) ≡ Some k → is_lone b ≡ true → one_of (codes "/<-") b ≡ false → is_right_angle k ≡ false → one_of_kinds closing_signs k ≡ true → one_of_kinds closing_signs q.token.kind ≡ true
  by_byte b k p l e o n r c = ap (one_of_kinds closing_signs) (told_sign k r (lone_behind b k (subst (λ (t : List ℕ). IsCharBoundary t q.prev_token_end) a.text_is a.at.between) p l e o n)) ∙ c

  -- by the byte that it is
  by_bytes : (b : ℕ) → one_of closing_bytes b ≡ true → Peeks text q.prev_token_end b → one_of_kinds closing_signs q.token.kind ≡ true
  unfolding punctuators
  by_bytes b h p = go (44 == b) (41 == b) (59 == b) (93 == b) refl refl refl refl h
    where
      at_byte : (c : ℕ) → (c == b) ≡ true → Peeks text q.prev_token_end c
      at_byte c e = subst (λ (v : ℕ). Peeks text q.prev_token_end v) (sym (eqb-true c b e)) p

      go : (d e g i : Bool) → (44 == b) ≡ d → (41 == b) ≡ e → (59 == b) ≡ g → (93 == b) ≡ i → (d || (e || (g || (i || false)))) ≡ true → one_of_kinds closing_signs q.token.kind ≡ true
      go true e g i j k l m h = by_byte 44 Comma (at_byte 44 j) (omega arith) refl refl refl refl refl
      go false true g i j k l m h = by_byte 41 RParen (at_byte 41 k) (omega arith) refl refl refl refl refl
      go false false true i j k l m h = by_byte 59 Semicolon (at_byte 59 l) (omega arith) refl refl refl refl refl
      go false false false true j k l m h = by_byte 93 RBrack (at_byte 93 m) (omega arith) refl refl refl refl refl
      go false false false false j k l m h = absurd (false≢true h)

  -- one of them stands where such a byte does
  pub sign_at : ClosesAt text q.prev_token_end true → one_of_kinds closing_signs q.token.kind ≡ true
  sign_at z = by_bytes (slice_index text q.prev_token_end) z.1 (peeks text q.prev_token_end (subst (λ (t : List ℕ). IsUtf8 t) a.text_is a.at.utf8) (subst (λ (t : List ℕ). IsCharBoundary t q.prev_token_end) a.text_is a.at.between) z.0)
