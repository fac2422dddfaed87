-- Texts that need no production that isn't built.
use Rattle.std.specs.Prelude.{◌≡◌, ◌⊎◌, false}
use Rattle.js_grammar.specs.Grammar.{Lexemes}
use Rattle.js_grammar.specs.Options.{is_module}
use Rattle.js_grammar.specs.Settings.{Goal}
use Rattle.js_grammar.specs.TableLaws.{BeginNoUnbuilt}

-- Those of scripts and CommonJS, and of a module those of which no lexeme begins such a production.
abbrev pub IsBuilt : Goal → Lexemes → Type 0
IsBuilt goal ls = (is_module goal ≡ false) ⊎ BeginNoUnbuilt ls
