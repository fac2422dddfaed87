-- Whether parts are syntax of modules alone.
use Rattle.std.proofs.Common.{◌≡◌, ℕ, ◌<◌, Bool, true, false, ◌||◌, List, [], ◌∷◌, get_or, take, length, ◌≤◌, refl, sym, ap, ◌∙◌}
use Rattle.std.proofs.lemmas.List.Folds.{list_any_at}
use Rattle.std.proofs.lemmas.List.{take_all}
use Rattle.std.specs.Prelude.{fold}
use Rattle.std.specs.List.{list_any}
use Rattle.js_grammar.specs.ModuleRecords.{Part, nothing, joined, whole}

abbrev pub is_syntax : Part → Bool
is_syntax p = p.is_module_syntax

or_assoc : (a b c : Bool) → (a || b) || c ≡ a || (b || c)
or_assoc true b c = refl
or_assoc false b c = refl

or_false : (a : Bool) → a || false ≡ a
or_false true = refl
or_false false = refl

from : (p : Part) (ps : List Part) → (fold joined p ps).is_module_syntax ≡ p.is_module_syntax || list_any is_syntax ps
from p [] = sym (or_false p.is_module_syntax)
from p (q ∷ qs) = from (joined p q) qs ∙ or_assoc p.is_module_syntax q.is_module_syntax (list_any is_syntax qs)

-- the whole is where one of them is
pub whole_syntax : (ps : List Part) → (whole ps).is_module_syntax ≡ list_any is_syntax ps
whole_syntax ps = from nothing ps

-- one that is, at a place
pub any_at : (ps : List Part) (i : ℕ) (p : Part) → i < length ps → p ≡ get_or ps i p → is_syntax p ≡ true → list_any is_syntax ps ≡ true
any_at ps i p w e h = list_any_at is_syntax ps i p w (ap is_syntax (sym e) ∙ h)

-- none is, as far as all
pub any_all : (ps : List Part) (n : ℕ) → length ps ≤ n → list_any is_syntax (take n ps) ≡ false → list_any is_syntax ps ≡ false
any_all ps n w h = ap (list_any is_syntax) (sym (take_all n ps w)) ∙ h
