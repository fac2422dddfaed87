-- Escapes that name a code point by hexadecimal digits: how their states stand for the stages of the definition of escapes.
use Rattle.std.specs.Prelude.{ℕ, Bool, true, ◌&&◌, ◌||◌, [], ◌∷◌, nat_le, nat_lt, Option, None}
use Rattle.part_text.specs.Escapes.{Stage, outside, backslash, unicode, nul, due, braced, octal, Step, go}
use Rattle.part_text.specs.declared.code_point_escape.CodePointEscape.{CodePointEscape}
use Rattle.part_text.specs.declared.code_point_escape.CodePointEscape.TheVariants.{Unicode, Due, Braced}
use Rattle.part_text.specs.declared.code_point_escape.CodePointStep.{CodePointStep}
use Rattle.part_text.specs.declared.code_point_escape.CodePointStep.TheVariants.{Goes, Names, Fails}

abbrev pub stage_of : CodePointEscape → Stage
stage_of Unicode = unicode
stage_of (Due n v) = due n v
stage_of (Braced any v) = braced any v

abbrev pub step_of : CodePointStep → Option Step
step_of (Goes e) = go (stage_of e) []
step_of (Names p) = go outside (p ∷ [])
step_of Fails = None

-- a code point
abbrev pub is_point : ℕ → Bool
is_point p = nat_le p 0x10_FFFF

-- the value so far is that of the digits read
abbrev pub fits : Stage → Bool
fits outside = true
fits backslash = true
fits unicode = true
fits nul = true
fits (due n v) = (nat_le n 1 && nat_lt v 4096) || ((nat_le n 2 && nat_lt v 256) || (nat_le n 3 && nat_lt v 16))
fits (braced any v) = is_point v
fits (octal n v) = (nat_le n 0 && nat_lt v 256) || ((nat_le n 1 && nat_lt v 32) || (nat_le n 2 && nat_lt v 4))

-- it fits where the escape goes on
abbrev pub step_fits : CodePointStep → Bool
step_fits (Goes e) = fits (stage_of e)
step_fits _ = true
