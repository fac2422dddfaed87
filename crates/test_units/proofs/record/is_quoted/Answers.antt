use Rattle.std.proofs.Common.{◌≡◌, ℕ, List, Some, refl, sym, subst}
use Rattle.std.specs.Prelude.{codes}
use Rattle.std.specs.Str.{chars}
use Rattle.js_base.specs.declared.kind.Kind.TheVariants.{Str}
use Rattle.js_grammar.specs.Strings.{string_kind}
use Rattle.test_units.proofs.record.is_quoted.Goals as goal

known : (n bs : List ℕ) → string_kind (chars n) ≡ Some Str → bs ≡ n → string_kind (chars bs) ≡ Some Str
known n bs w e = subst (λ (v : List ℕ). string_kind (chars v) ≡ Some Str) (sym e) w

x_string : string_kind (chars (codes "'x'")) ≡ Some Str
unfolding chars lib.Utf8.encode
x_string = refl

mod_string : string_kind (chars (codes "'mod'")) ≡ Some Str
unfolding chars lib.Utf8.encode
mod_string = refl

source_string : string_kind (chars (codes "'source'")) ≡ Some Str
unfolding chars lib.Utf8.encode
source_string = refl

lone_string : string_kind (chars (codes "'\\uD800'")) ≡ Some Str
unfolding chars lib.Utf8.encode
lone_string = refl

a_string : string_kind (chars (codes "'a'")) ≡ Some Str
unfolding chars lib.Utf8.encode
a_string = refl

b_string : string_kind (chars (codes "'b'")) ≡ Some Str
unfolding chars lib.Utf8.encode
b_string = refl

c_string : string_kind (chars (codes "'c'")) ≡ Some Str
unfolding chars lib.Utf8.encode
c_string = refl

pub returns-in-text : goal.returns-in-text
returns-in-text c = λ _. known (codes "'x'") c.args.text.now x_string (cc)

pub returns-in-text-2 : goal.returns-in-text-2
returns-in-text-2 c = λ _. known (codes "'mod'") c.args.text.now mod_string (cc)

pub returns-in-text-3 : goal.returns-in-text-3
returns-in-text-3 c = λ _. known (codes "'source'") c.args.text.now source_string (cc)

pub returns-in-text-4 : goal.returns-in-text-4
returns-in-text-4 c = λ _. known (codes "'\\uD800'") c.args.text.now lone_string (cc)

pub returns-in-text-5 : goal.returns-in-text-5
returns-in-text-5 c = λ _. known (codes "'a'") c.args.text.now a_string (cc)

pub returns-in-text-6 : goal.returns-in-text-6
returns-in-text-6 c = λ _. known (codes "'b'") c.args.text.now b_string (cc)

pub returns-in-text-7 : goal.returns-in-text-7
returns-in-text-7 c = λ _. known (codes "'c'") c.args.text.now c_string (cc)
