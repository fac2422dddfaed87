-- How the word `default` is looked for behind `export`.
use Rattle.std.specs.Prelude.{ℕ, ◌==◌, Bool, true, false}
use Rattle.js_base.specs.part_text.Characters.{is_line_terminator}
use Rattle.js_grammar.specs.Modules as def
use Rattle.js_grammar.specs.Modules.{outside, slash, in_line, in_block, behind_star}
use Rattle.js_record.specs.declared.default_word.Between.{Between}
use Rattle.js_record.specs.declared.default_word.Between.TheVariants.{Outside, Slash, InLine, InBlock, BehindStar}

abbrev pub between : Between → def.Between
between Outside = outside
between Slash = slash
between InLine = in_line
between InBlock = in_block
between BehindStar = behind_star

-- behind a character with which the word doesn't begin
abbrev pub next_of : def.Between → ℕ → def.Between
next_of outside c = elim (c == 47) [ true ↦ slash | false ↦ outside ]
next_of slash c = elim (c == 42) [ true ↦ in_block | false ↦ in_line ]
next_of in_line c = elim (is_line_terminator c) [ true ↦ outside | false ↦ in_line ]
next_of in_block c = elim (c == 42) [ true ↦ behind_star | false ↦ in_block ]
next_of behind_star c = elim (c == 47) [ true ↦ outside | false ↦ elim (c == 42) [ true ↦ behind_star | false ↦ in_block ] ]

-- whether the word begins with it
abbrev pub begins : def.Between → ℕ → Bool
begins outside c = c == 100
begins slash c = false
begins in_line c = false
begins in_block c = false
begins behind_star c = false
