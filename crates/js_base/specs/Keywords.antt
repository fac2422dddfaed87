-- The kind of a word: reserved words and the words that may be names too (ECMA-262, 12.7.2).
use Rattle.std.specs.Prelude.{ℕ, Bool, List, [], ◌∷◌, ◌==◌, if◌then◌else◌, slice_index}
use Rattle.std.specs.Str.{bytes_eq}
use Rattle.js_base.specs.Kinds.{Kind, Ident}
use Rattle.js_base.specs.Texts.{text_of, words}

-- the first kind of a list whose text is the word, else `Ident`
abbrev pub first_with_text : List Kind → List ℕ → Kind
first_with_text [] word = Ident
first_with_text (k ∷ ks) word = if bytes_eq (text_of k) word then k else first_with_text ks word

-- the kind of a word: the one of the keyword table with this text, else `Ident`
unfoldable pub keyword_of : List ℕ → Kind
keyword_of word = first_with_text words word

-- whether the text of a kind begins with a byte
abbrev pub begins_with : ℕ → Kind → Bool
begins_with first k = slice_index (text_of k) 0 == first
