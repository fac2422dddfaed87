use Rattle.std.proofs.Common.{map}
use Rattle.serde_json.specs.View.{view}
use Rattle.js_grammar.specs.Lines.{flag_words}
use Rattle.js_tree.specs.Labels.{number_of}
use Rattle.js_json.specs.Json.{words_set}
use Rattle.js_json.proofs.Values.{words_step}
use Rattle.js_json.proofs.node.words_of.Goals as goal

pub loop-bit-preserved : goal.loop-bit-preserved
loop-bit-preserved c = rw c.in_ok-push_word.ensures (words_step (map view c.loop-bit.words.items) (words_set flag_words (number_of c.args.flags)) c.loop-bit.bit c.loop-bit.rest c.word.result.now c.loop-bit-test.true c.word.ensures c.loop-bit.invariant)
