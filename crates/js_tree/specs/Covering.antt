-- Shorthands with an initialiser among nodes (CoverInitializedName, ECMA-262, 13.2.5).
use Rattle.std.specs.Prelude.{◌≡◌, ◌<◌, ℕ, Bool, false, ◌&&◌, ◌||◌, List, [], ◌∷◌, Option, Some, None, get_or, length, nat_lt}
use Rattle.js_base.specs.declared.span.Span.{Span}
use Rattle.js_grammar.specs.Trees.{Span as TreeSpan, Tree}
use Rattle.js_grammar.specs.CoverInitialisers.{initialised_in, is_property, is_shorthand}
use Rattle.js_tree.specs.declared.id.NodeId.{NodeId}
use Rattle.js_tree.specs.Holding.{IsTree}
use Rattle.js_tree.specs.Nodes.{Node, empty_program, label}

-- a shorthand whose third child is its initialiser
abbrev pub is_covering : Node → Bool
is_covering n = is_shorthand (label n) && nat_lt 2 (length n.children)

-- A node that may be one, by what never changes of it.
abbrev pub may_cover : Node → Bool
may_cover n = is_property (label n).kind && nat_lt 2 (length n.children)

-- whether one is reached from these children, whose numbers lie below a bound, by what is known of each number
abbrev pub covered_in : List Bool → ℕ → List (Option NodeId) → Bool
covered_in covers below [] = false
covered_in covers below (None ∷ ids) = covered_in covers below ids
covered_in covers below (Some id ∷ ids) = (nat_lt id.0 below && get_or covers id.0 false) || covered_in covers below ids

-- Of each number it is known whether a node that may be one is reached from it.
pub record AreCovers (ns : List Node) (covers : List Bool) : Type 0 where
  pub one_each : length covers ≡ length ns
  pub each : (i : ℕ) → i < length ns → get_or covers i false ≡ (may_cover (get_or ns i empty_program) || covered_in covers i (get_or ns i empty_program).children)

-- no tree that is seen has one
abbrev pub HasNone : List Node → Type 0
HasNone ns = (t : Tree) → IsTree ns t → initialised_in t.slots ≡ []

abbrev pub placed : TreeSpan → Span
placed s = record { start = s.from; end = s.to }
