-- Spans of a text.
use Rattle.std.specs.Prelude.{ℕ, ◌≤◌, ◌++◌, List, codes}
use Rattle.std.specs.Fmt.{decimal}
use Rattle.std.specs.Str.{IsCharBoundary}
use Rattle.js_base.specs.declared.span.Span.{Span}

-- the span lies in a text and splits no character of it
pub record LiesIn (span : Span) (source : List ℕ) : Type 0 where
  pub ordered : span.start ≤ span.end
  pub starts_whole : IsCharBoundary source span.start
  pub ends_whole : IsCharBoundary source span.end

-- two places as they are written, in decimal
abbrev pub places_text : ℕ → ℕ → List ℕ
places_text a b = decimal a ++ (codes ".." ++ decimal b)

abbrev pub span_text : Span → List ℕ
span_text s = places_text s.start s.end
