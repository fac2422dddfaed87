use Rattle.std.proofs.Common.{◌≡◌, ◌++◌, ℕ, List, [], Option, Some, None, MatchOption, drop, length, sym, ap, subst, ◌∙◌}
use Rattle.std.specs.Prelude.{chars, encode_utf8, IsUtf8}
use Rattle.std.specs.Str.Iter.{chars_rest}
use Rattle.std.specs.declared.str.Chars.{Chars}
use Rattle.std.proofs.lemmas.List.{nil_from_length}
use Rattle.std.proofs.lemmas.Str.{chars-nil, chars_past_char}
use Rattle.js_parser.proofs.member_names.behind_sign.Goals as goal

behind : (s t : Chars) (r : Option ℕ) → IsUtf8 (chars_rest s) → MatchOption r ((length (chars_rest s) ≡ 0) × (t ≡ s)) (λ c. chars_rest s ≡ encode_utf8 c ++ chars_rest t) → chars (chars_rest t) ≡ drop 1 (chars (chars_rest s))
behind s t None u h = let e : chars_rest s ≡ [] = nil_from_length (chars_rest s) h.0 in ap (λ (v : Chars). chars (chars_rest v)) h.1 ∙ (ap chars e ∙ chars-nil) ∙ sym (ap (λ (v : List ℕ). drop 1 (chars v)) e ∙ ap (λ (v : List ℕ). drop 1 v) chars-nil)
behind s t (Some c) u h = sym (ap (λ (v : List ℕ). drop 1 v) (chars_past_char (chars_rest s) (chars_rest t) c u h))

pub returns : goal.returns
returns c = ap chars c.as_str.ensures ∙ (behind c.chars-rest.result c.next.new.self c.next.result (subst (λ (v : List ℕ). IsUtf8 v) (sym c.chars-rest.ensures.rest) c.utf8.text) c.next.ensures.steps.0 ∙ ap (λ (v : List ℕ). drop 1 (chars v)) c.chars-rest.ensures.rest)
