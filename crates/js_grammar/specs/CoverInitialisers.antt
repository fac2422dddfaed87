-- Shorthands with an initialiser (CoverInitializedName, ECMA-262, 13.2.5) in trees of the cover grammar. A strict tree has none (13.2.5.1).
use Rattle.std.specs.Prelude.{ℕ, ◌≡◌, Bool, true, false, cond, ◌&&◌, List, [], ◌∷◌, ◌++◌, nat_eq}
use Rattle.js_grammar.specs.Trees.{NodeKind, object_property, Label, Span, Slots, end, hole, tree, Tree, put, after_first}
use Rattle.js_grammar.specs.Grammar.{Lexemes, Derives}
use Rattle.js_grammar.specs.Productions.{Flags, at, shorthand_flag, Program}
use Rattle.js_grammar.specs.Table.{rule}

abbrev pub is_property : NodeKind → Bool
is_property object_property = true
is_property _ = false

-- a property that is written as a shorthand
abbrev pub is_shorthand : Label → Bool
is_shorthand l = is_property l.kind && nat_eq l.flags shorthand_flag

abbrev pub has_one : Slots → Bool
has_one end = false
has_one (hole us) = true
has_one (tree l cs us) = true

-- three slots at least: the name, the reference and the initialiser
abbrev pub has_third : Slots → Bool
has_third cs = has_one (after_first (after_first cs))

abbrev pub is_initialised : Label → Slots → Bool
is_initialised l cs = is_shorthand l && has_third cs

-- the spans of the shorthands with an initialiser, in the order of the tree
abbrev pub initialised_in : Slots → List Span
initialised_in end = []
initialised_in (hole us) = initialised_in us
initialised_in (tree l cs us) = cond (is_initialised l cs) (l.span ∷ []) [] ++ (initialised_in cs ++ initialised_in us)

abbrev pub initialised_of : Tree → List Span
initialised_of t = initialised_in (put t end)

-- with shorthands that have an initialiser, or without
abbrev pub with_cover : Bool → Flags → Flags
with_cover c f = record f { cover = c }

-- A program is derived strictly exactly where it is derived by the cover grammar and no shorthand has an initialiser.
pub record StrictInCover : Type 0 where
  pub strictly : (f : Flags) (t : Tree) (i j : ℕ) (ls rest : Lexemes) → Derives rule (at Program (with_cover true f)) t i ls j rest → initialised_of t ≡ [] → Derives rule (at Program (with_cover false f)) t i ls j rest
  pub loosely : (f : Flags) (t : Tree) (i j : ℕ) (ls rest : Lexemes) → Derives rule (at Program (with_cover false f)) t i ls j rest → Derives rule (at Program (with_cover true f)) t i ls j rest
  pub none : (f : Flags) (t : Tree) (i j : ℕ) (ls rest : Lexemes) → Derives rule (at Program (with_cover false f)) t i ls j rest → initialised_of t ≡ []
