-- Members that are put into a node's object.
use Rattle.std.specs.Prelude.{ℕ, List, Option, Some, codes}
use Rattle.serde_json.specs.Data.{Members, put}
use Rattle.js_grammar.specs.Trees.{Label}
use Rattle.js_grammar.specs.Lines.{kind_text}
use Rattle.js_json.specs.Json.{string_or_null, word_of, raw_of}

-- the texts of a node
abbrev pub with_texts : List ℕ → Label → Option (List ℕ) → Members → Members
with_texts text l name ms = put (codes "type") (string_or_null (Some (kind_text l.kind))) (put (codes "raw") (string_or_null (raw_of text l)) (put (codes "op") (string_or_null (word_of l.op)) (put (codes "name") (string_or_null name) ms)))
