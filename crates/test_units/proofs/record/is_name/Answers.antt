use Rattle.std.proofs.Common.{◌≡◌, ℕ, List, refl, sym, subst}
use Rattle.std.specs.Prelude.{IsSome, codes}
use Rattle.std.specs.Str.{chars}
use Rattle.js_base.specs.part_text.Decoding.{name_text}
use Rattle.js_grammar.specs.NodeNames.{without_sign}
use Rattle.test_units.proofs.record.is_name.Goals as goal

known : (n bs : List ℕ) → IsSome (name_text (chars (without_sign n))) → bs ≡ n → IsSome (name_text (chars (without_sign bs)))
known n bs w e = subst (λ (v : List ℕ). IsSome (name_text (chars (without_sign v)))) (sym e) w

x_name : IsSome (name_text (chars (without_sign (codes "x"))))
unfolding chars lib.Utf8.encode
x_name = refl

v_name : IsSome (name_text (chars (without_sign (codes "v"))))
unfolding chars lib.Utf8.encode
v_name = refl

a_name : IsSome (name_text (chars (without_sign (codes "a"))))
unfolding chars lib.Utf8.encode
a_name = refl

f_name : IsSome (name_text (chars (without_sign (codes "f"))))
unfolding chars lib.Utf8.encode
f_name = refl

ns_name : IsSome (name_text (chars (without_sign (codes "ns"))))
unfolding chars lib.Utf8.encode
ns_name = refl

source_name : IsSome (name_text (chars (without_sign (codes "source"))))
unfolding chars lib.Utf8.encode
source_name = refl

default_name : IsSome (name_text (chars (without_sign (codes "default"))))
unfolding chars lib.Utf8.encode
default_name = refl

d_name : IsSome (name_text (chars (without_sign (codes "d"))))
unfolding chars lib.Utf8.encode
d_name = refl

pub returns-in-x : goal.returns-in-x
returns-in-x c = λ _. known (codes "x") c.args.text.now x_name (cc)

pub returns-in-x-2 : goal.returns-in-x-2
returns-in-x-2 c = λ _. known (codes "v") c.args.text.now v_name (cc)

pub returns-in-x-3 : goal.returns-in-x-3
returns-in-x-3 c = λ _. known (codes "a") c.args.text.now a_name (cc)

pub returns-in-x-4 : goal.returns-in-x-4
returns-in-x-4 c = λ _. known (codes "f") c.args.text.now f_name (cc)

pub returns-in-x-5 : goal.returns-in-x-5
returns-in-x-5 c = λ _. known (codes "ns") c.args.text.now ns_name (cc)

pub returns-in-x-6 : goal.returns-in-x-6
returns-in-x-6 c = λ _. known (codes "source") c.args.text.now source_name (cc)

pub returns-in-x-7 : goal.returns-in-x-7
returns-in-x-7 c = λ _. known (codes "default") c.args.text.now default_name (cc)

pub returns-in-x-8 : goal.returns-in-x-8
returns-in-x-8 c = λ _. known (codes "d") c.args.text.now d_name (cc)
