-- What a scan of a pattern, and one of flags, has read.
use Rattle.std.proofs.Common.{◌≡◌, ℕ, true, false, List, [], ◌∷◌, ◌++◌, refl, ◌∙◌, not}
use Rattle.std.specs.Prelude.{IsCharBoundary}
use Rattle.js_base.specs.part_text.Characters.{is_line_terminator}
use Rattle.part_words.specs.js_grammar.Trivia.{within_line}
use Rattle.part_words.specs.js_grammar.RegularExpressions.{behind_pattern}
use Rattle.part_words.proofs.js_grammar.Finding.{all-append}
use Rattle.part_scan.specs.declared.regular_expression.Inside.{Inside}
use Rattle.part_scan.specs.declared.regular_expression.Step.TheVariants.{On, Ends}
use Rattle.part_words.specs.Places.{Word}
use Rattle.part_scan.specs.RegularExpressionParts.{Steps, Pattern}
use Rattle.part_words.proofs.Places.{none_passed, then}
use Rattle.part_words.proofs.Fronts.{onwards}

-- The characters from i up to j are read; they are of one line, and where in a pattern the next one stands is told.
pub record Read (text : List ℕ) (i j : ℕ) (b : Inside) : Type 0 where
  pub word : List ℕ
  pub stands : Word text i j word
  pub within : within_line word ≡ true
  pub follows : (v : List ℕ) → behind_pattern false false (word ++ v) ≡ behind_pattern b.brackets b.escaped v

pub read_none : (text : List ℕ) (i : ℕ) → IsCharBoundary text i → Read text i i (record { brackets = false; escaped = false })
read_none text i b = record { word = []; stands = none_passed text i b; within = refl; follows = λ v. refl }

pub read_on : {text : List ℕ} {i j k c : ℕ} {b s : Inside} → Read text i j b → Word text j k (c ∷ []) → Steps b c (On s) → Read text i k s
read_on {c = c} {b = b} r w f = record {
  word = r.word ++ c ∷ [];
  stands = then r.stands w;
  within = all-append (λ d. not (is_line_terminator d)) r.word (c ∷ []) r.within (let e = f.1 in rw e refl);
  follows = λ v. onwards (behind_pattern false false) (behind_pattern b.brackets b.escaped) r.word c r.follows v ∙ f.0 v;
}

pub read_end : {text : List ℕ} {i j k c : ℕ} {b : Inside} → Read text i j b → Word text j k (c ∷ []) → Steps b c Ends → Pattern text i k
read_end {c = c} {b = b} r w f = record { word = r.word ++ c ∷ []; stands = then r.stands w; ended = λ v. onwards (behind_pattern false false) (behind_pattern b.brackets b.escaped) r.word c r.follows v ∙ f v }
