-- "The longest possible sequence of code points" (ECMA-262, 12): stated once, of any class.
use Rattle.std.specs.Prelude.{ℕ, Bool, true, ◌&&◌, not, List, [], ◌∷◌, ◌++◌}

-- whether characters are of the class where these others stand behind them
abbrev pub Class : Type 0
Class = List ℕ → List ℕ → Bool

-- behind w no more of these characters can be taken so that the whole is of the class
abbrev pub none_longer : Class → List ℕ → List ℕ → Bool
none_longer class w [] = true
none_longer class w (c ∷ rest) = not (class (w ++ c ∷ []) rest) && none_longer class (w ++ c ∷ []) rest

-- w is of the class before rest, and no longer front of the two together is
abbrev pub longest : Class → List ℕ → List ℕ → Bool
longest class w rest = class w rest && none_longer class w rest

-- no front of these characters but the empty one is of the class
abbrev pub none_begins : Class → List ℕ → Bool
none_begins class rest = none_longer class [] rest

-- characters one behind the other
abbrev pub joined : List (List ℕ) → List ℕ
joined [] = []
joined (p ∷ ps) = p ++ joined ps
