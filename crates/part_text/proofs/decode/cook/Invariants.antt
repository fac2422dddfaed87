use Rattle.std.proofs.Common.{◌≡◌, drop, length}
use Rattle.std.specs.Prelude.{Some, option_map, IsTrue}
use Rattle.std.specs.Str.{chars}
use Rattle.part_text.specs.Escapes.{code_units, code_points, line_feeds, line_feeds_after}
use Rattle.part_text.specs.CodePointEscapes.{fits}
use Rattle.part_text.specs.DecodingSteps.{form_of, state_of, units_from}
use Rattle.part_text.proofs.decode.cook.Given as goal

-- what is read and the rest give what the whole gives
abbrev pub invariant-loop-c : goal.invariant-loop-c
invariant-loop-c l =
    (units_from (form_of l.form) l.units (Some (state_of l.state)) (line_feeds_after l.after_carriage (drop (length l.yielded) (chars l.raw)))
    ≡ option_map code_units (code_points (form_of l.form) (line_feeds (chars l.raw))))
    × IsTrue (fits (state_of l.state))
