use Rattle.std.proofs.Common.{◌≡◌, ◌++◌, drop}
use Rattle.js_grammar.specs.Lines.{words_of, flag_words}
use Rattle.js_tree.proofs.lines.write_flags.Given as goal

abbrev pub invariant-loop-bit : goal.invariant-loop-bit
invariant-loop-bit l = l.out.items ++ words_of (drop l.bit flag_words) l.rest ≡ l.initial.out.items ++ words_of flag_words l.bits
