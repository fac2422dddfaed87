-- Claims on a kind of lexeme that is one of several.
use Rattle.std.proofs.Common.{◌≡◌, Bool, true, false, ◌||◌, subst}
use Rattle.js_base.specs.declared.kind.Kind.{Kind}
use Rattle.js_base.specs.Kinds.{same_kind}
use Rattle.js_base.proofs.KindLemmas.{kind_of_same}

-- a kind is the one, or one of the others
pub first_or : (P : Kind → Type 0) (a k : Kind) (b c : Bool) → same_kind a k ≡ b → (b || c) ≡ true → P a → (c ≡ true → P k) → P k
first_or P a k true c e h x y = subst P (kind_of_same a k e) x
first_or P a k false c e h x y = y h
