-- What `==` of two kinds tells.
use Rattle.std.proofs.Common.{◌≡◌, Bool, true, false, refl, sym, ◌∙◌, rules}
use Rattle.std.specs.Prelude.{IsTrue, ◌↔◌}
use Rattle.std.proofs.lemmas.Bool.{false≢true}
use denote.Enum.Bare.{sameb, same_true, same_false}
use Rattle.js_base.specs.contracts.kind.Kind.{the_type}
use Rattle.js_base.specs.declared.kind.Kind.{Kind}

pub told : (r : Bool) (a b c : Kind) → r ≡ sameb the_type a b → a ≡ c → IsTrue r ↔ (c ≡ b)
told true a b c e f = (λ t. sym f ∙ same_true the_type (search rules) a b (sym e), λ t. refl)
told false a b c e f = (λ t. absurd (false≢true t), λ h. absurd (same_false the_type a b (sym e) (f ∙ h)))
