-- The trivia that a lexer passes, and what is kept of it.
use Rattle.std.specs.Prelude.{ℕ, ◌+◌, ◌≡◌, ◌==◌, Bool, true, false, not, List, [], ◌∷◌, ◌++◌, Option, Some, None, IsTrue}
use Rattle.js_base.specs.part_text.Characters.{is_line_terminator}
use Rattle.js_base.specs.declared.span.Span.{Span}
use Rattle.js_base.specs.declared.diagnostic.Diagnostic.{Diagnostic}
use Rattle.js_base.specs.declared.diagnostic.DiagnosticKind.TheVariants.{HtmlCommentInModule}
use Rattle.part_words.specs.js_grammar.Characters.{has_line_terminator, begins}
use Rattle.part_words.specs.js_grammar.Longest.{longest, none_begins, joined}
use Rattle.part_words.specs.js_grammar.Trivia.{is_trivia_piece, are_trivia, is_html_comment, is_irregular, is_blank, within_line, closes_comment}
use Rattle.js_lex.specs.declared.comment.Comment.{Comment}
use Rattle.js_lex.specs.declared.comment.CommentKind.{CommentKind}
use Rattle.js_lex.specs.declared.comment.CommentKind.TheVariants.{SingleLineBlock, MultiLineBlock}
use Rattle.part_words.specs.js_grammar.LexicalFaults.{behind}
use Rattle.js_lex.specs.declared.trivia.Piece.{Piece}
use Rattle.js_lex.specs.declared.trivia.Trivia.{Trivia}
use Rattle.js_lex.specs.declared.output.LexerOutput.{LexerOutput}
use Rattle.part_words.specs.Places.{Word}
use Rattle.js_lex.specs.Comments.{comment_kind, comment_at, irregular_at, html_fault_at, each_at}
use Rattle.js_lex.specs.Kept.{Grows}

-- the longest piece of trivia that begins at a place, and what it is
pub record IsPiece (first : Bool) (text : List ℕ) (i : ℕ) (p : Piece) : Type 0 where
  pub word : List ℕ
  pub stands : Word text i p.end word
  pub longest : IsTrue (longest (is_trivia_piece first) word (behind text p.end))
  pub comment : p.comment ≡ comment_kind word
  pub html : p.is_html ≡ is_html_comment word
  pub irregular : p.is_irregular ≡ is_irregular word
  pub newline : p.has_newline ≡ has_line_terminator word

-- the character as a piece that ends at a place, or none where it is neither white space nor a line terminator
pub record IsBlankPiece (c end : ℕ) (p : Piece) : Type 0 where
  pub blank : IsTrue (is_blank (c ∷ []))
  pub ends : p.end ≡ end
  pub comment : p.comment ≡ None
  pub html : p.is_html ≡ false
  pub irregular : p.is_irregular ≡ is_irregular (c ∷ [])
  pub newline : p.has_newline ≡ is_line_terminator c

abbrev pub BlankAt : ℕ → ℕ → Option Piece → Type 0
BlankAt c end None = IsTrue (not (is_blank (c ∷ [])))
BlankAt c end (Some p) = IsBlankPiece c end p

-- up to the place j all is on one line, and there the line ends
pub record IsLineEnd (text : List ℕ) (i j : ℕ) : Type 0 where
  pub word : List ℕ
  pub stands : Word text i j word
  pub one_line : IsTrue (within_line word)
  pub ends : IsTrue (not (begins (λ c. not (is_line_terminator c)) (behind text j)))

-- what closes a block comment behind its opening
pub record IsBlockEnd (text : List ℕ) (i : ℕ) (b : Trivia) : Type 0 where
  pub word : List ℕ
  pub stands : Word text i b.end word
  pub closes : IsTrue (closes_comment false word)
  pub newline : b.has_newline ≡ has_line_terminator word

abbrev pub BlockEnd : List ℕ → ℕ → Option Trivia → Type 0
BlockEnd text i None = (w rest : List ℕ) → behind text i ≡ w ++ rest → closes_comment false w ≡ false
BlockEnd text i (Some b) = IsBlockEnd text i b

abbrev pub block_kind : Bool → CommentKind
block_kind true = MultiLineBlock
block_kind false = SingleLineBlock

-- what is kept of a piece that begins at a place
abbrev pub told : ℕ → Piece → Span
told s p = record { start = s; end = p.end }

abbrev pub comment_told : Option CommentKind → Span → List Comment
comment_told None span = []
comment_told (Some k) span = record { span = span; kind = k; attached_to = 0 } ∷ []

abbrev pub blank_told : Bool → Span → List Span
blank_told true span = span ∷ []
blank_told false span = []

abbrev pub fault_told : Bool → Span → List Diagnostic
fault_told true span = record { kind = HtmlCommentInModule; span = span; first = None; second = None } ∷ []
fault_told false span = []

-- it, or none where none begins
abbrev pub PieceAt : Bool → List ℕ → ℕ → Option Piece → Type 0
PieceAt first text i None = IsTrue (none_begins (is_trivia_piece first) (behind text i))
PieceAt first text i (Some p) = IsPiece first text i p

-- of a space, tab, CR or LF at a place, the piece that it is; of anything else nothing is told
abbrev pub PlainBlankAt : List ℕ → ℕ → Option Bool → Type 0
PlainBlankAt text i None = Unit {0}
PlainBlankAt text i (Some newline) = (first : Bool) → PieceAt first text i (Some (record { end = i + 1; comment = None; is_html = false; is_irregular = false; has_newline = newline }))

-- all trivia from the place s on, the comments attached to the place a
pub record IsPassed (in_a_module : Bool) (text : List ℕ) (s a : ℕ) (old new : LexerOutput) (t : Trivia) : Type 0 where
  pub pieces : List (List ℕ)
  pub stands : Word text s t.end (joined pieces)
  pub trivia : IsTrue (are_trivia (s == 0) pieces (behind text t.end))
  pub newline : t.has_newline ≡ has_line_terminator (joined pieces)
  pub grows : Grows old new (each_at (comment_at a) s pieces) (each_at irregular_at s pieces) [] (each_at (html_fault_at in_a_module) s pieces)

-- no trivia begins at the place
abbrev pub NoTrivia : List ℕ → ℕ → Type 0
NoTrivia text i = (first : Bool) → PieceAt first text i None

-- all trivia from the place s on, if none begins behind it; nothing is kept of it
abbrev pub PassesBlanks : List ℕ → ℕ → Trivia → Type 0
PassesBlanks text s t = NoTrivia text t.end → (in_a_module : Bool) (a : ℕ) (kept : LexerOutput) → IsPassed in_a_module text s a kept kept t
