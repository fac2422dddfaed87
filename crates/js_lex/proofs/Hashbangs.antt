-- Hashbang comments as lexemes.
use Rattle.std.proofs.Common.{◌≡◌, ◌≢◌, ℕ, Bool, true, false, List, [], ◌∷◌, ◌++◌, refl, sym, ap, subst, ◌∙◌, Option, Some, None, not, ◌&&◌, ◌==◌}
use Rattle.std.specs.Prelude.{is_some, codes}
use Rattle.std.proofs.lemmas.Bool.{eqb-true}
use Rattle.js_base.specs.declared.kind.Kind.{Kind}
use Rattle.js_base.specs.declared.kind.Kind.TheVariants.{HashbangComment}
use Rattle.js_base.specs.Texts.{words}
use Rattle.js_base.specs.part_text.Characters.{is_line_terminator}
use Rattle.part_words.specs.js_grammar.Characters.{begins}
use Rattle.part_words.specs.js_grammar.Trivia.{within_line, after}
use Rattle.part_words.specs.js_grammar.Longest.{longest, none_longer}
use Rattle.part_words.specs.js_grammar.Lexemes.{hashbang, hashbang_kind, lexemes_in, is_escaped}
use Rattle.part_words.specs.js_grammar.LexicalFaults.{behind}
use Rattle.part_words.proofs.js_grammar.LongestLemmas.{both, both-left, both-right, not-true}
use Rattle.part_words.proofs.js_grammar.CoreLemmas.{none_longer-from}
use Rattle.part_words.specs.Places.{Word}
use Rattle.part_words.specs.Scans.{IsScanned, NoLexeme}
use Rattle.js_lex.specs.TriviaPassed.{IsLineEnd}
use Rattle.part_words.proofs.Places.{then}
use Rattle.part_words.proofs.Fronts.{not_all}

abbrev if_line : Bool → Option Kind
if_line b = elim b [ true ↦ Some HashbangComment | false ↦ None ]

pub comment_is : (w : List ℕ) → within_line w ≡ true → hashbang_kind (35 ∷ 33 ∷ w) ≡ Some HashbangComment
comment_is w h = ap if_line h

pub no_comment : (w : List ℕ) → within_line w ≡ false → hashbang_kind (35 ∷ 33 ∷ w) ≡ None
no_comment w h = ap if_line h

-- a hashbang comment goes up to the end of its line
pub longest_line : (w rest : List ℕ) → within_line w ≡ true → begins (λ c. not (is_line_terminator c)) rest ≡ false → longest (lexemes_in hashbang) (35 ∷ 33 ∷ w) rest ≡ true
longest_line w rest h l =
    both (lexemes_in hashbang (35 ∷ 33 ∷ w) rest) (none_longer (lexemes_in hashbang) (35 ∷ 33 ∷ w) rest) (ap is_some (comment_is w h))
    (none_longer-from (lexemes_in hashbang) (35 ∷ 33 ∷ w) rest (λ d x more e. ap is_some (no_comment (w ++ d ∷ x) (not_all (λ c. not (is_line_terminator c)) w d x (sym (ap (begins (λ c. not (is_line_terminator c))) e) ∙ l)))))

unescaped : (w : List ℕ) → false ≡ is_escaped HashbangComment w
unfolding words
unescaped w = refl

pub is_hashbang : {text : List ℕ} {i j k : ℕ} → i ≡ 0 → Word text 0 j (codes "#!") → IsLineEnd text j k → IsScanned hashbang text i (record { kind = HashbangComment; end = k; escaped = false; has_separator = false })
is_hashbang {text = text} {i = i} {j = j} {k = k} z w l = subst (λ (n : ℕ). IsScanned hashbang text n (record { kind = HashbangComment; end = k; escaped = false; has_separator = false })) (sym z) (record {
  word = 35 ∷ 33 ∷ l.word;
  stands = then w l.stands;
  lexeme = record {
    longest = longest_line l.word (behind text k) l.one_line (not-true (begins (λ c. not (is_line_terminator c)) (behind text k)) l.ends);
    kind = comment_is l.word l.one_line;
    begins = refl;
    apart = refl;
  };
  escaped = unescaped (35 ∷ 33 ∷ l.word);
  separated = refl;
})

pub not_at_start : (text : List ℕ) {i : ℕ} → i ≢ 0 → NoLexeme hashbang text i
not_at_start text {i = i} z w rest k s l = z (eqb-true i 0 l.begins)

-- what opens a hashbang comment
opened : (b : Bool) → is_some (if_line b) ≡ true → b ≡ true
opened true e = refl
opened false e = e

-- a hashbang comment begins so
pub begins_so : (w : List ℕ) → is_some (hashbang_kind w) ≡ true → (v : List ℕ) × (w ≡ 35 ∷ 33 ∷ v)
begins_so [] h = cc
begins_so (c ∷ []) h = let o = both-right (35 == c) false (opened (after (codes "#!") within_line (c ∷ [])) h) in cc
begins_so (c ∷ d ∷ v) h =
    let o = opened (after (codes "#!") within_line (c ∷ d ∷ v)) h in
    let first : 35 ≡ c = eqb-true 35 c (both-left (35 == c) ((33 == d) && within_line v) o) in
    let second : 33 ≡ d = eqb-true 33 d (both-left (33 == d) (within_line v) (both-right (35 == c) ((33 == d) && within_line v) o)) in
    (v, sym (ap (λ (x : ℕ). x ∷ 33 ∷ v) first ∙ ap (λ (x : ℕ). c ∷ x ∷ v) second))

pub no_hashbang : (text : List ℕ) {i : ℕ} → i ≡ 0 → ((rest : List ℕ) → behind text 0 ≡ 35 ∷ 33 ∷ rest → ⊥) → NoLexeme hashbang text i
no_hashbang text {i = i} z none w rest k s l = let b = begins_so w (ap is_some l.kind) in none (b.0 ++ rest) (sym (ap (behind text) z) ∙ s ∙ ap (λ (x : List ℕ). x ++ rest) b.1)
