-- The bytes of a string literal: its quotes and what stands between them.
use Rattle.std.proofs.Common.{◌≡◌, ◌≤◌, ℕ, ◌+◌, ◌-◌, ◌==◌, List, [], ◌∷◌, ◌++◌, refl, sym, ap, subst, ◌∙◌, ◌&&◌, ◌||◌, Some, length, arith}
use Rattle.std.specs.Char.{len_utf8}
use Rattle.std.specs.Prelude.{chars, IsUtf8, IsCharBoundary, slice_range, IsSome}
use Rattle.std.proofs.lemmas.Bool.{eqb-true}
use Rattle.std.proofs.lemmas.Str.{IsCharBoundary-start, encodes-chars}
use Rattle.js_base.specs.declared.kind.Kind.TheVariants.{Str}
use Rattle.js_base.specs.declared.span.Span.{Span}
use Rattle.js_base.specs.part_text.Decoding.{string_points}
use Rattle.part_words.specs.js_grammar.Characters.{width}
use Rattle.part_words.specs.js_grammar.Strings.{string_inside, string_kind}
use Rattle.part_words.proofs.js_grammar.Finding.{member}
use Rattle.part_words.proofs.js_grammar.Quotations.{quotation}
use Rattle.part_words.specs.js_grammar.LexicalFaults.{behind}
use Rattle.part_words.specs.Places.{Word}
use Rattle.js_lex.specs.States.{State}
use Rattle.part_words.proofs.Places.{width-append}
use Rattle.part_scan.proofs.StringPlaces.{front_word, part_chars}
use Rattle.part_scan.proofs.PunctuatorLexemes.{length-all}

-- the bytes of a string literal, and those between its quotes
pub record Literal (bytes word : List ℕ) : Type 0 where
  pub quotes : 2 ≤ length bytes
  pub starts_whole : IsCharBoundary bytes 1
  pub ends_whole : IsCharBoundary bytes (length bytes - 1)
  pub inside : (part : List ℕ) → part ≡ slice_range bytes 1 (length bytes - 1) → chars part ≡ string_inside (chars word)
  pub right : IsSome (string_points (string_inside (chars word)))

literal : (bytes : List ℕ) → IsUtf8 bytes → string_kind (chars bytes) ≡ Some Str → Literal bytes bytes
literal bytes u h =
    let s = quotation (chars bytes) h in
    let q = s.quote in
    let v = s.inside in
    let one : len_utf8 q ≡ 1 = eqb-true (len_utf8 q) 1 (member (λ c. len_utf8 c == 1) (34 ∷ 39 ∷ []) q s.is_quote refl) in
    let opens : Word bytes 0 1 (q ∷ []) = subst (λ (n : ℕ). Word bytes 0 n (q ∷ [])) (let z : 0 + width (q ∷ []) ≡ 1 = omega arith in z) (front_word bytes 0 (q ∷ []) (v ++ q ∷ []) u (IsCharBoundary-start bytes u) s.splits) in
    let e : q ∷ behind bytes 1 ≡ q ∷ (v ++ q ∷ []) = sym opens.splits ∙ s.splits in
    let f : behind bytes 1 ≡ v ++ q ∷ [] = cc in
    let m : length bytes ≡ width (q ∷ (v ++ q ∷ [])) = sym (ap length (encodes-chars bytes u)) ∙ length-all (chars bytes) ∙ ap width s.splits in
    let n : width (v ++ q ∷ []) ≡ width v + width (q ∷ []) = width-append v (q ∷ []) in
    let k : 1 + width v ≡ length bytes - 1 = omega arith in
    let stands : Word bytes 1 (length bytes - 1) v = subst (λ (n : ℕ). Word bytes 1 n v) k (front_word bytes 1 v (q ∷ []) u opens.boundary f) in
    record {
      quotes = omega arith;
      starts_whole = opens.boundary;
      ends_whole = stands.boundary;
      inside = λ part p. part_chars bytes 1 (length bytes - 1) v part u opens.boundary stands p ∙ sym s.same;
      right = s.right;
    }

-- the string literal that a span of a lexer's text is
pub literal_of : {view now : State} {bytes : List ℕ} (span : Span) → view ≡ now → IsUtf8 bytes → bytes ≡ slice_range view.text span.start span.end → string_kind (chars (slice_range now.text span.start span.end)) ≡ Some Str → Literal bytes (slice_range now.text span.start span.end)
literal_of {bytes = bytes} span v u e h =
    let same = e ∙ ap (λ (s : State). slice_range s.text span.start span.end) v in
    subst (λ (w : List ℕ). Literal bytes w) same (literal bytes u (ap (λ (w : List ℕ). string_kind (chars w)) same ∙ h))
