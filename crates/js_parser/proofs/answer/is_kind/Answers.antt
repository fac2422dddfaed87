use Rattle.std.proofs.Common.{Bool, true, false, ◌≡◌, refl, sym, rules}
use Rattle.std.specs.Prelude.{IsTrue, ◌↔◌}
use Rattle.std.proofs.lemmas.Bool.{false≢true}
use denote.Enum.Bare.{sameb, same_true, same_false}
use Rattle.js_base.specs.contracts.diagnostic.DiagnosticKind.{the_type}
use Rattle.js_base.specs.declared.diagnostic.DiagnosticKind.{DiagnosticKind}
use Rattle.js_parser.proofs.answer.is_kind.Goals as goal

told : (r : Bool) (a b : DiagnosticKind) → r ≡ sameb the_type a b → IsTrue r ↔ (a ≡ b)
told true a b e = (λ t. same_true the_type (search rules) a b (sym e), λ t. refl)
told false a b e = (λ t. absurd (false≢true t), λ h. absurd (same_false the_type a b (sym e) h))

pub returns : goal.returns
returns c = told _ _ _ c.eq.ensures
