-- What a node of a tree has at its span in the text that the tree was read from, where more than the span is asked by what is read of the node: a name, a string, a big integer, a part of a template.
use Rattle.std.specs.Prelude.{ℕ, ◌≡◌, ◌+◌, ◌-◌, Bool, List, [], ◌∷◌, chars, drop, slice_range, IsTrue, IsUtf8}
use Rattle.js_base.specs.declared.kind.Kind.{Kind}
use Rattle.js_base.specs.declared.kind.Kind.TheVariants.{PrivateIdentifier, Str, DecimalBigInt, BinaryBigInt, OctalBigInt, HexBigInt}
use Rattle.js_base.specs.Kinds.{same_kind, one_of_kinds}
use Rattle.js_grammar.specs.Lexed.{IsLexeme}
use Rattle.js_grammar.specs.Lexemes.{LexicalGoal, is_word}
use Rattle.js_grammar.specs.Trees.{NodeKind, identifier_reference, binding_identifier, label_identifier, identifier_name, private_identifier, string_literal, big_int_literal, template_element, Span, Slots, end, hole, tree, Tree}
use Rattle.js_grammar.specs.Options.{Options}
use Rattle.js_grammar.specs.Settings.{Goal}
use Rattle.js_grammar.specs.Marks.{is_part, closing_width}
use Rattle.js_core.specs.Readings.{ReadingBy}

-- What stands at a node: one lexeme, of a kind that passes a test; the inside of a part of a template; or whatever is derived there.
pub data Source : Type 0 where
  one_lexeme : (Kind → Bool) → Source
  inside_part : Source
  any_source : Source

-- names (ECMA-262, 12.7), strings (12.9.4), big integers (12.9.3) and parts of templates (12.9.6)
abbrev pub source_of : NodeKind → Source
source_of identifier_reference = one_lexeme is_word
source_of binding_identifier = one_lexeme is_word
source_of label_identifier = one_lexeme is_word
source_of identifier_name = one_lexeme is_word
source_of private_identifier = one_lexeme (same_kind PrivateIdentifier)
source_of string_literal = one_lexeme (same_kind Str)
source_of big_int_literal = one_lexeme (one_of_kinds (DecimalBigInt ∷ BinaryBigInt ∷ OctalBigInt ∷ HexBigInt ∷ []))
source_of template_element = inside_part
source_of _ = any_source

-- The slice of the text from one place to another is a lexeme: the longest of a lexical goal that begins there, of a kind that passes the test.
pub record IsOneLexeme (text : List ℕ) (passes : Kind → Bool) (from to : ℕ) : Type 0 where
  pub goal : LexicalGoal
  pub kind : Kind
  pub is : IsLexeme goal from (chars (slice_range text from to)) (chars (drop to text)) kind
  pub passing : IsTrue (passes kind)

-- The slice is that between the backquote or `}` that a part of a template begins with and the backquote or `${` that ends it.
pub record IsInsidePart (text : List ℕ) (from to : ℕ) : Type 0 where
  pub start : ℕ
  pub stop : ℕ
  pub part : IsOneLexeme text is_part start stop
  pub from_is : from ≡ start + 1
  pub to_is : to ≡ stop - closing_width part.kind

abbrev pub HasSource : List ℕ → Source → Span → Type 0
HasSource text (one_lexeme passes) s = IsOneLexeme text passes s.from s.to
HasSource text inside_part s = IsInsidePart text s.from s.to
HasSource text any_source s = Unit {0}

-- each node of the slots has what its kind asks for
abbrev pub HaveSources : List ℕ → Slots → Type 0
HaveSources text end = Unit {0}
HaveSources text (hole us) = HaveSources text us
HaveSources text (tree l cs us) = HasSource text (source_of l.kind) l.span × HaveSources text cs × HaveSources text us

-- Each node of a tree that Program derives from a text, be it by the cover grammar, has there what its kind asks for.
abbrev pub ReadingsHaveSources : Type 0
ReadingsHaveSources = (cover : Bool) (text : List ℕ) (goal : Goal) (o : Options) (t : Tree) → IsUtf8 text → ReadingBy cover text goal o t → HaveSources text (tree t.label t.slots end)
