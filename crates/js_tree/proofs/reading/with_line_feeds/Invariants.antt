use Rattle.std.proofs.Common.{◌≡◌, ◌++◌, drop, length}
use Rattle.std.specs.Prelude.{chars, encode_utf8_all, string_bytes}
use Rattle.js_base.specs.part_text.Escapes.{line_feeds_after}
use Rattle.js_base.specs.part_text.Decoding.{raw_text}
use Rattle.js_tree.proofs.reading.with_line_feeds.Given as goal

-- what is written and the rest make up the whole
abbrev pub invariant-loop-c : goal.invariant-loop-c
invariant-loop-c l = string_bytes l.lines ++ encode_utf8_all (line_feeds_after l.after_carriage (drop (length l.yielded) (chars l.text))) ≡ encode_utf8_all (raw_text (chars l.text))
