use Rattle.std.proofs.Common.{◌≡◌, drop, length}
use Rattle.std.specs.Prelude.{chars}
use Rattle.js_grammar.specs.Names.{has_backslash}
use Rattle.js_parser.proofs.early.has_backslash.Given as goal

-- none stands in what was passed
abbrev pub invariant-loop-c : goal.invariant-loop-c
invariant-loop-c l = has_backslash (drop (length l.yielded) (chars l.text)) ≡ has_backslash (chars l.text)
