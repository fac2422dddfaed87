-- Comments that mark what stands behind them, as bundlers use them: pure comments, and no-side-effects comments.
use Rattle.std.specs.Prelude.{ℕ, Bool, ◌||◌, List, codes}
use Rattle.js_grammar.specs.CoreTexts.{occurs}

-- one of the two words stands in the comment
abbrev pub is_pure_comment : List ℕ → Bool
is_pure_comment comment = occurs (codes "@__PURE__") comment || occurs (codes "#__PURE__") comment

abbrev pub is_no_side_effects_comment : List ℕ → Bool
is_no_side_effects_comment comment = occurs (codes "@__NO_SIDE_EFFECTS__") comment || occurs (codes "#__NO_SIDE_EFFECTS__") comment
