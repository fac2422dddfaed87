-- The marks of what is told from a lexeme on up to the place behind what was read.
use Rattle.std.proofs.Common.{ℕ, ◌≡◌, ◌<◌, List, None, Bool, true, false, refl, sym, subst, arith, ◌∙◌}
use Rattle.std.specs.Prelude.{IsCharBoundary}
use Rattle.js_base.specs.declared.diagnostic.Diagnostic.{Diagnostic}
use Rattle.js_base.specs.declared.diagnostic.DiagnosticKind.{DiagnosticKind}
use Rattle.js_base.specs.declared.kind.Kind.TheVariants.{Undetermined}
use Rattle.js_base.specs.declared.source_type.SourceType.{SourceType}
use Rattle.js_base.specs.declared.span.Span.{Span}
use Rattle.js_grammar.specs.Grammar.{Lexemes}
use Rattle.js_grammar.specs.LexicalFaults.{Reached}
use Rattle.js_grammar.specs.Marks.{EdgeOf, Mark, StandsAt, the_start}
use Rattle.js_grammar.specs.Productions.{Flags}
use Rattle.parse_shared.specs.js_lex.States.{goal_of}
use Rattle.parse_shared.specs.js_cursor.Moves.{at_lexeme}
use Rattle.parse_shared.specs.js_cursor.Parsers.{Parser}
use Rattle.parse_shared.specs.js_cursor.Places.{goal}
use Rattle.parse_shared.proofs.js_cursor.Standing.{counts}
use Rattle.parse_shared.specs.laws_shared.Lexemes.{Walked, spot}
use Rattle.parse_shared.specs.laws_shared.States.{At, Same}
use Rattle.parse_shared.specs.laws_shared.Told.{unrelated_at}
use Rattle.parse_shared.proofs.laws_shared.Edges.{last_edge}
use Rattle.parse_declarations.specs.Declarations.{missing, no_initialiser}

module _ {text : List ℕ} {f : Flags} {p q : Parser} {pass : Lexemes → Lexemes} (a : At text f p) (n : p.token.kind ≡ Undetermined → ⊥) (b : At text f q) (c : Same p q) (w : Walked text (spot p) (spot q) pass) (l : p.token.span.start < q.prev_token_end) where
  pub span_marked : (k : DiagnosticKind) (s : Span) {d : Diagnostic} → d ≡ unrelated_at k s → ((s : Span) → EdgeOf (goal p) p.text s.start → EdgeOf (goal p) p.text s.end → StandsAt k (goal p) p.text s None None) → s.start ≡ p.token.span.start → s.end ≡ q.prev_token_end → Mark (goal q) q.text d
  span_marked k s {d} g h i j = subst (λ (t : List ℕ). Mark (goal q) t d) (sym c.follows.text) (subst (λ (v : SourceType). Mark (goal_of v) p.text d) (sym c.follows.source_type) (subst (λ (v : Diagnostic). Mark (goal p) p.text v) (sym g) it))
    where
      ending : EdgeOf (goal p) p.text q.prev_token_end
      ending = subst (λ (t : List ℕ). EdgeOf (goal p) t q.prev_token_end) (sym a.text_is) (last_edge w (subst (λ (t : List ℕ). Reached t p.prev_token_end) a.text_is a.at.reached) (let e = a.behind in omega arith))

      it : Mark (goal p) p.text (unrelated_at k s)
      it =
          let y = (counts a.at (at_lexeme n refl)).lexeme in
          let z : IsCharBoundary p.text q.prev_token_end = subst (λ (v : List ℕ). IsCharBoundary v q.prev_token_end) c.follows.text b.at.between in
          record {
            ordered = omega arith;
            within = let w = z.0 in omega arith;
            begins_between = subst (λ (v : ℕ). IsCharBoundary p.text v) (sym i) a.at.lies.starts_whole;
            ends_between = subst (λ (v : ℕ). IsCharBoundary p.text v) (sym j) z;
            stands = h s (the_start y.of_text (y.is.0 ∙ sym i)) (subst (λ (v : ℕ). EdgeOf (goal p) p.text v) (sym j) ending);
          }

  -- an initialiser that is missing
  pub missing_marked : (is_name : Bool) (s : Span) → s.start ≡ p.token.span.start → s.end ≡ q.prev_token_end → Mark (goal q) q.text (no_initialiser is_name s)
  missing_marked true s i j = span_marked (missing true) s refl (λ s x y. ((x, y), (refl, refl))) i j
  missing_marked false s i j = span_marked (missing false) s refl (λ s x y. ((x, y), (refl, refl))) i j
