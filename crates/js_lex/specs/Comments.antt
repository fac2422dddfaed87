-- What is kept of the trivia that a lexer passes.
use Rattle.std.specs.Prelude.{ℕ, ◌+◌, ◌-◌, ◌≤◌, ◌<◌, ◌==◌, Bool, true, false, ◌&&◌, ◌||◌, List, [], ◌∷◌, ◌++◌, Option, Some, None, length, chars, slice_range, slice_index_or}
use Rattle.std.specs.List.{list_any}
use Rattle.std.specs.List.Sorted.{IsNonDecreasingBy}
use Rattle.js_base.specs.declared.span.Span.{Span}
use Rattle.js_base.specs.declared.diagnostic.Diagnostic.{Diagnostic}
use Rattle.js_base.specs.declared.diagnostic.DiagnosticKind.TheVariants.{HtmlCommentInModule}
use Rattle.part_words.specs.js_grammar.Characters.{width, has_line_terminator}
use Rattle.part_words.specs.js_grammar.Trivia.{is_single_line_comment, is_multi_line_comment, is_html_comment, is_irregular}
use Rattle.part_words.specs.js_grammar.CommentMarks.{is_pure_comment, is_no_side_effects_comment}
use Rattle.js_lex.specs.declared.comment.Comment.{Comment}
use Rattle.js_lex.specs.declared.mark.Sort.{Sort}
use Rattle.js_lex.specs.declared.mark.Sort.TheVariants.{Pure, NoSideEffects}
use Rattle.js_lex.specs.declared.comment.CommentKind.{CommentKind}
use Rattle.js_lex.specs.declared.comment.CommentKind.TheVariants.{Line, SingleLineBlock, MultiLineBlock}

-- the comment, attached to the lexeme that begins at a place
abbrev pub attached : ℕ → Comment → Comment
attached place c = record { span = c.span; kind = c.kind; attached_to = place }

-- the kind of comment that a piece of trivia is, if it is one
abbrev pub comment_kind : List ℕ → Option CommentKind
comment_kind p =
    elim (is_single_line_comment p || is_html_comment p) [
      | true ↦ Some Line
      | false ↦
          elim (is_multi_line_comment p) [ true ↦ elim (has_line_terminator p) [ true ↦ Some MultiLineBlock | false ↦ Some SingleLineBlock ] | false ↦ None ]
    ]

-- the span of a piece that begins at a place
abbrev pub span_at : ℕ → List ℕ → Span
span_at s p = record { start = s; end = s + width p }

-- the comment that a piece at the place s is, attached to the place a
abbrev pub comment_at : ℕ → ℕ → List ℕ → List Comment
comment_at a s p = elim (comment_kind p) [ None ↦ [] | Some k ↦ record { span = span_at s p; kind = k; attached_to = a } ∷ [] ]

-- the span of a piece that is one white space or line terminator other than space, tab, CR and LF
abbrev pub irregular_at : ℕ → List ℕ → List Span
irregular_at s p = elim (is_irregular p) [ true ↦ span_at s p ∷ [] | false ↦ [] ]

-- in a module, the fault that an HTML-like comment is
abbrev pub html_fault_at : Bool → ℕ → List ℕ → List Diagnostic
html_fault_at in_a_module s p = elim (in_a_module && is_html_comment p) [ true ↦ record { kind = HtmlCommentInModule; span = span_at s p; first = None; second = None } ∷ [] | false ↦ [] ]

-- what each piece of trivia gives, the first of them beginning at the place s
abbrev pub each_at : {A : Type 0} → (ℕ → List ℕ → List A) → ℕ → List (List ℕ) → List A
each_at f s [] = []
each_at f s (p ∷ ps) = f s p ++ each_at f (s + width p) ps

-- the comments stand in the order of the places that they are attached to
abbrev pub AreInOrder : List Comment → Type 0
AreInOrder = IsNonDecreasingBy (λ c. c.attached_to)

-- pure comments, and no-side-effects comments
abbrev pub sort_of : Sort → List ℕ → Bool
sort_of Pure = is_pure_comment
sort_of NoSideEffects = is_no_side_effects_comment

-- the comment is of a sort, and is attached to the place
abbrev pub is_before : (List ℕ → Bool) → List ℕ → ℕ → Comment → Bool
is_before sort text place c = (c.attached_to == place) && sort (chars (slice_range text c.span.start c.span.end))

-- one of the comments is
abbrev pub has_before : (List ℕ → Bool) → List ℕ → ℕ → List Comment → Bool
has_before sort text place cs = list_any (is_before sort text place) cs

-- the comment before the one of that number, if there are both, isn't attached to a place behind the one to which that is
abbrev pub Follow : List Comment → ℕ → Type 0
Follow cs n = (d : Comment) → 0 < n → n < length cs → (slice_index_or cs (n - 1) d).attached_to ≤ (slice_index_or cs n d).attached_to
