-- What is told where a fatal diagnostic ended a parse, worked out: of `(` and an open string the fault is the fatal diagnostic, told once; of `/a/gg )` the fault of the second flag stands before the lexeme that can't stand there.
use Rattle.std.proofs.Common.{◌≡◌, List, [], ◌∷◌, refl}
use Rattle.js_base.specs.declared.diagnostic.Diagnostic.{Diagnostic}
use Rattle.js_parser.specs.FaultsTold.{AreBesideFatal}

pub told_once : (fault : Diagnostic) (told : List Diagnostic) → AreBesideFatal (fault ∷ []) (fault ∷ []) told → told ≡ []
told_once fault told h = h.once (refl, refl)

pub told_before : (fault fatal : Diagnostic) (told : List Diagnostic) → (fault.kind ≡ fatal.kind → ⊥) → AreBesideFatal (fault ∷ []) (fatal ∷ []) told → told ≡ fault ∷ []
told_before fault fatal told n h = h.all (λ s. n s.0)
