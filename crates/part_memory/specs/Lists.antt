-- Lists.
use Rattle.std.specs.Prelude.{List, [], ◌∷◌, ◌++◌, length, take}

-- the list with an item in place of the last; where there is none, none is added
abbrev pub replaced : {A : Type 0} → List A → A → List A
replaced [] t = []
replaced (u ∷ us) t = take (length us) (u ∷ us) ++ t ∷ []
