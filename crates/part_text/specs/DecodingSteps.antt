-- How the types of the decoder stand for those of the definition of escapes, and what is decoded once some characters are read.
use Rattle.std.specs.Prelude.{ℕ, List, [], ◌∷◌, ◌++◌, Option, Some, None, option_map}
use Rattle.part_text.specs.declared.decode.Form.{Form}
use Rattle.part_text.specs.declared.decode.Form.TheVariants.{Name, Inside, Part}
use Rattle.part_text.specs.declared.decode.State.{State}
use Rattle.part_text.specs.declared.decode.State.TheVariants.{Outside, Backslash, Nul, Point, Octal}
use Rattle.part_text.specs.declared.decode.Points.{Points}
use Rattle.part_text.specs.declared.decode.Points.TheVariants.{Nothing, One, Two}
use Rattle.part_text.specs.declared.decode.Progress.{Progress}
use Rattle.part_text.specs.CodePointEscapes.{stage_of}
use Rattle.part_text.specs.Decoding.{utf8_of}
use Rattle.part_text.specs.Escapes.{Where, in_name, in_string, in_template, Stage, outside, backslash, nul, octal, Step, read_from, code_units}

abbrev pub form_of : Form → Where
form_of Name = in_name
form_of Inside = in_string
form_of Part = in_template

abbrev pub state_of : State → Stage
state_of Outside = outside
state_of Backslash = backslash
state_of Nul = nul
state_of (Point e) = stage_of e
state_of (Octal n v) = octal n v

abbrev pub points_of : Points → List ℕ
points_of Nothing = []
points_of (One p) = p ∷ []
points_of (Two p q) = p ∷ q ∷ []

abbrev pub progress_of : Progress → Step
progress_of p = record { stage = state_of p.state; gives = points_of p.points }

-- the code units of the whole, where `us` are those of the characters read, and the stage before the rest is known
abbrev pub units_from : Where → List ℕ → Option Stage → List ℕ → Option (List ℕ)
units_from w us None cs = None
units_from w us (Some s) cs = option_map (λ ps. us ++ code_units ps) (read_from w s cs)

-- the UTF-8 of the whole name, where `bs` is that of the characters read
abbrev pub utf8_from : List ℕ → Option Stage → List ℕ → Option (List ℕ)
utf8_from bs None cs = None
utf8_from bs (Some s) cs = option_map (λ us. bs ++ us) (utf8_of (read_from in_name s cs))
