-- Modules that aren't reached.
use Rattle.std.proofs.Common.{◌≡◌, ℕ, List, ◌++◌, sym, ap, ◌∙◌, subst, ◌↔◌}
use Rattle.std.specs.Prelude.{Contains}
use Rattle.js_graph.specs.declared.resolution.Binding.{Binding}
use Rattle.js_graph.specs.Leads.{Pair, lead_at, lead_of, next_of, pairs_of}
use Rattle.js_graph.specs.Modules.{Module}
use Rattle.js_graph.specs.Names.{AreExported, IsStarName, is_new, names_of, own_names, stars_at, stars_by}
use Rattle.js_graph.specs.Paths.{Reaches, itself, onward}
use Rattle.js_graph.specs.Resolving.{Bindings}
use Rattle.js_graph.specs.Unreached.{AgreesFrom, AgreesOverStars, UnreachedModulesDontMatter}

-- where what is reached leads on alike, the same is reached
module _ {A : Type 0} (next other : A → List A) (start : A) (same : (x : A) → Reaches next start x → other x ≡ next x) where
  pub there : (x : A) → Reaches next start x → Reaches other start x
  there x itself = itself
  there y (onward {x} r h) = onward (there x r) (subst (λ (v : List A). Contains v y) (sym (same x r)) h)

  pub back : (x : A) → Reaches other start x → Reaches next start x
  back x itself = itself
  back y (onward {x} r h) = let before = back x r in onward before (subst (λ (v : List A). Contains v y) (same x before) h)

module _ (g h : List Module) (number : ℕ) (name : List ℕ) (agrees : AgreesFrom g number name h) where
  lead_same : (p : Pair) → Reaches (next_of g) (number, name) p → lead_of h p ≡ lead_of g p
  lead_same p r = ap (lead_at p.0 p.1) (agrees p r)

  next_same : (p : Pair) → Reaches (next_of g) (number, name) p → next_of h p ≡ next_of g p
  next_same p r = ap pairs_of (lead_same p r)

  pub same_bindings : (b : Binding) → Bindings g number name b ↔ Bindings h number name b
  same_bindings b = (
    λ f. (f.0, there (next_of g) (next_of h) (number, name) next_same f.0 f.1, lead_same f.0 f.1 ∙ f.2),
    λ f. let r = back (next_of g) (next_of h) (number, name) next_same f.0 f.1 in (f.0, r, sym (lead_same f.0 r) ∙ f.2),
  )

module _ (g h : List Module) (number : ℕ) (agrees : AgreesOverStars g number h) where
  stars_same : (other : ℕ) → Reaches (stars_at g) number other → stars_at h other ≡ stars_at g other
  stars_same other r = ap stars_by (agrees other r)

  names_same : (other : ℕ) → Reaches (stars_at g) number other → names_of h other ≡ names_of g other
  names_same other r = ap own_names (agrees other r)

  star_there : (name : List ℕ) → IsStarName g number name → IsStarName h number name
  star_there name f = record {
    other = f.other;
    reached = there (stars_at g) (stars_at h) number stars_same f.other f.reached;
    exported = subst (λ (v : List (List ℕ)). Contains v name) (sym (names_same f.other f.reached)) f.exported;
    taken = ap (λ v. is_new v name) (names_same number itself) ∙ f.taken;
  }

  star_back : (name : List ℕ) → IsStarName h number name → IsStarName g number name
  star_back name f =
      let r = back (stars_at g) (stars_at h) number stars_same f.other f.reached in
      record {
        other = f.other;
        reached = r;
        exported = subst (λ (v : List (List ℕ)). Contains v name) (names_same f.other r) f.exported;
        taken = ap (λ v. is_new v name) (sym (names_same number itself)) ∙ f.taken;
      }

  pub same_names : (names : List (List ℕ)) → AreExported g number names ↔ AreExported h number names
  same_names names = (
    λ f. record { stars = f.stars; all = f.all ∙ ap (λ v. v ++ f.stars) (sym (names_same number itself)); brought = record { ordered = f.brought.ordered; exact = λ name. (λ c. star_there name ((f.brought.exact name).0 c), λ s. (f.brought.exact name).1 (star_back name s)) } },
    λ f. record { stars = f.stars; all = f.all ∙ ap (λ v. v ++ f.stars) (names_same number itself); brought = record { ordered = f.brought.ordered; exact = λ name. (λ c. star_back name ((f.brought.exact name).0 c), λ s. (f.brought.exact name).1 (star_there name s)) } },
  )

pub law : UnreachedModulesDontMatter
law = record { bindings = same_bindings; names = same_names }
