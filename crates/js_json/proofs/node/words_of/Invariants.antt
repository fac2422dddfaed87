use Rattle.std.proofs.Common.{◌≡◌, ◌++◌, drop, map}
use Rattle.serde_json.specs.View.{view}
use Rattle.js_grammar.specs.Lines.{flag_words}
use Rattle.js_tree.specs.Labels.{number_of}
use Rattle.js_json.specs.Json.{words_set}
use Rattle.js_json.proofs.node.words_of.Given as goal

abbrev pub invariant-loop-bit : goal.invariant-loop-bit
invariant-loop-bit l = map view l.words.items ++ words_set (drop l.bit flag_words) l.rest ≡ words_set flag_words (number_of l.fn.flags)
