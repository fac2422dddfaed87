use Rattle.std.proofs.Common.{◌≡◌, ℕ, List, Some, refl, sym, subst}
use Rattle.std.specs.Prelude.{codes}
use Rattle.std.specs.Str.{chars}
use Rattle.js_base.specs.declared.kind.Kind.TheVariants.{Str}
use Rattle.js_grammar.specs.Strings.{string_kind}
use Rattle.test_units.proofs.tree.is_quoted.Goals as goal

known : (n bs : List ℕ) → string_kind (chars n) ≡ Some Str → bs ≡ n → string_kind (chars bs) ≡ Some Str
known n bs w e = subst (λ (v : List ℕ). string_kind (chars v) ≡ Some Str) (sym e) w

escaped_string : string_kind (chars (codes "'a\\x62'")) ≡ Some Str
unfolding chars lib.Utf8.encode
escaped_string = refl

lone_string : string_kind (chars (codes "'\\uD800'")) ≡ Some Str
unfolding chars lib.Utf8.encode
lone_string = refl

pub returns-in-text : goal.returns-in-text
returns-in-text c = λ _. known (codes "'a\\x62'") c.args.text.now escaped_string (cc)

pub returns-in-text-2 : goal.returns-in-text-2
returns-in-text-2 c = λ _. known (codes "'\\uD800'") c.args.text.now lone_string (cc)
