-- Whether the flags `u` and `v` stand in a regular expression of which a part was read.
use Rattle.std.specs.Prelude.{ℕ, Bool, false, ◌&&◌, ◌||◌, List, [], ◌∷◌, unwrap_or}
use Rattle.js_base.specs.part_text.Characters.{one_of}
use Rattle.js_grammar.specs.RegularExpressions.{behind_pattern, flags}
use Rattle.js_parser.specs.declared.flags.Read.{Read}
use Rattle.js_parser.specs.declared.flags.Read.TheVariants.{Nothing, Slash, Pattern, Flags, Other}

abbrev pub both_among : List ℕ → Bool
both_among fs = one_of fs 117 && one_of fs 118

-- the flags of a regular expression of these characters
abbrev pub has_both : List ℕ → Bool
has_both w = both_among (unwrap_or (flags w) [])

-- with these characters behind that part
abbrev pub both_behind : Read → List ℕ → Bool
both_behind Nothing cs = both_among (unwrap_or (flags cs) [])
both_behind Slash cs = both_among (unwrap_or (flags (47 ∷ cs)) [])
both_behind (Pattern i) cs = both_among (unwrap_or (behind_pattern i.brackets i.escaped cs) [])
both_behind (Flags s) cs = (s.u || one_of cs 117) && (s.v || one_of cs 118)
both_behind Other cs = false
