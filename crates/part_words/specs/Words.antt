-- Which word of the keyword table a word may be, by its length and its first two bytes.
use Rattle.std.specs.Prelude.{ℕ, ◌+◌, ◌*◌, ◌%◌, List, length, nat_le, ◌&&◌, slice_index, slice_index_or, if◌then◌else◌}
use Rattle.js_base.specs.declared.kind.Kind.{Kind}
use Rattle.js_base.specs.declared.kind.Kind.TheVariants.{Ident, Break}
use Rattle.part_words.specs.declared.word.TheConstants.{CANDIDATES}

abbrev pub word_in : ℕ → Kind
word_in slot = slice_index_or CANDIDATES slot Break

abbrev pub candidate : List ℕ → Kind
candidate w = if nat_le 2 (length w) && nat_le (length w) 11 then word_in ((slice_index w 0 + 20 * slice_index w 1 + 27 * length w) % 512) else Ident
