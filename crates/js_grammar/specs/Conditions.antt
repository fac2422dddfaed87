-- Conditions of the grammar on trees and on the decoded texts of lexemes.
use Rattle.std.specs.Prelude.{ℕ, Bool, true, false, not, ◌&&◌, List, [], ◌∷◌, nat_lt}
use Rattle.js_grammar.specs.Trees.{NodeKind, expression_statement, if_statement, while_statement, with_statement, for_statement, for_in_statement, for_of_statement, labeled_statement, string_literal, Slots, end, hole, tree, Tree}

-- The statement is not one of a string alone: a directive prologue takes such statements (11.2.1).
abbrev pub not_string : Tree → Bool
not_string t = not (is_statement t.label.kind && is_string t.slots)
  where
    is_statement : NodeKind → Bool
    is_statement expression_statement = true
    is_statement _ = false

    is_literal : NodeKind → Bool
    is_literal string_literal = true
    is_literal _ = false

    is_string : Slots → Bool
    is_string (tree l cs end) = is_literal l.kind
    is_string _ = false

-- the right spine of a statement: its last slot, where that is a statement or the missing `else`
abbrev pub ends_in_sub : NodeKind → Bool
ends_in_sub if_statement = true
ends_in_sub while_statement = true
ends_in_sub with_statement = true
ends_in_sub for_statement = true
ends_in_sub for_in_statement = true
ends_in_sub for_of_statement = true
ends_in_sub labeled_statement = true
ends_in_sub _ = false

abbrev pub lacks_else : Slots → Bool
lacks_else end = false
lacks_else (hole end) = true
lacks_else (tree l cs end) = ends_in_sub l.kind && lacks_else cs
lacks_else (hole ts) = lacks_else ts
lacks_else (tree l cs ts) = lacks_else ts

-- The statement doesn't end in an `if` without `else`: an `else` behind it belongs to the nearest `if` (14.6).
abbrev pub has_else : Tree → Bool
has_else t = not (ends_in_sub t.label.kind && lacks_else t.slots)

-- the code unit is a leading surrogate; a trailing one (6.1.4)
abbrev pub is_high : ℕ → Bool
is_high u = not (nat_lt u 0xD800) && nat_lt u 0xDC00

abbrev pub is_low : ℕ → Bool
is_low u = not (nat_lt u 0xDC00) && nat_lt u 0xE000

-- IsStringWellFormedUnicode (7.2.9): no lone surrogate; true: the unit before was a leading one
abbrev pub well_formed : Bool → List ℕ → Bool
well_formed b [] = not b
well_formed true (u ∷ us) = is_low u && well_formed false us
well_formed false (u ∷ us) = not (is_low u) && well_formed (is_high u) us
