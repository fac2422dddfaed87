-- The lines of diagnostics, one after the other.
use Rattle.std.proofs.Common.{◌≡◌, ℕ, zero, suc, ◌<◌, List, [], ◌∷◌, ◌++◌, length, Some, None, take, slice_get, ap, sym, ◌∙◌, arith, append_assoc, append-nil}
use Rattle.js_base.specs.declared.diagnostic.Diagnostic.{Diagnostic}
use Rattle.js_grammar.specs.Lines.{diagnostic_line, diagnostic_text}

pub diagnostics_more : (ds : List Diagnostic) (i : ℕ) (d : Diagnostic) → slice_get ds i ≡ Some d → diagnostic_text (take (suc i) ds) ≡ diagnostic_text (take i ds) ++ diagnostic_line d
diagnostics_more [] i d e = cc
diagnostics_more (x ∷ ds) zero d e = let m : x ≡ d = cc in append-nil (diagnostic_line x) ∙ ap diagnostic_line m
diagnostics_more (x ∷ ds) (suc i) d e = ap (λ w. diagnostic_line x ++ w) (diagnostics_more ds i d e) ∙ sym (append_assoc (diagnostic_line x) (diagnostic_text (take i ds)) (diagnostic_line d))

pub diagnostics_within : (ds : List Diagnostic) (i : ℕ) → i < length ds → slice_get ds i ≡ None → ⊥
diagnostics_within [] i h e = omega arith
diagnostics_within (x ∷ ds) zero h e = cc
diagnostics_within (x ∷ ds) (suc i) h e = diagnostics_within ds i (omega arith) e
