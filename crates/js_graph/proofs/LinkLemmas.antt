-- What specifiers mean, when one more means a module.
use Rattle.std.proofs.Common.{◌≡◌, ℕ, zero, suc, ◌<◌, cond, List, [], ◌∷◌, length, get_or, refl, ap, arith}
use Rattle.std.specs.Prelude.{bytes_eq, slice_set}
use Rattle.indexmap.specs.IndexMap.{insert_entry}
use Rattle.js_graph.specs.Modules.{Module, linked, with_link, with_target}

pub target_put : (ts : List (List ℕ × ℕ)) (request : List ℕ) (target : ℕ) → insert_entry bytes_eq ts request target ≡ with_target ts request target
target_put [] request target = refl
target_put (t ∷ ts) request target = ap (λ v. cond (bytes_eq request t.0) ((t.0, target) ∷ ts) (t ∷ v)) (target_put ts request target)

pub module_put : (ms : List Module) (number : ℕ) (request : List ℕ) (target : ℕ) (m : Module) → number < length ms → m ≡ get_or ms number m → slice_set ms number (linked m request target) ≡ with_link ms number request target
module_put [] number request target m lt at = absurd (omega arith)
module_put (n ∷ ms) zero request target m lt at = ap (λ v. linked v request target ∷ ms) at
module_put (n ∷ ms) (suc number) request target m lt at = ap (λ v. n ∷ v) (module_put ms number request target m (omega arith) at)
