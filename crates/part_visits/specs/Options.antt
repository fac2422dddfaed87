-- What may be there, as a list.
use Rattle.std.specs.Prelude.{List, [], ◌∷◌, Option, Some, None}

abbrev pub places_of : {A : Type 0} → Option A → List A
places_of None = []
places_of (Some x) = x ∷ []
