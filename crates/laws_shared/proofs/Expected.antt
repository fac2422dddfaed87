-- A lexeme that is due: it was passed; or it doesn't stand here, and that was told.
use Rattle.std.proofs.Common.{◌≡◌, ◌||◌, List, false, refl}
use Rattle.std.specs.Prelude.{ℕ, None, Err}
use Rattle.js_base.specs.declared.diagnostic.DiagnosticKind.TheVariants.{ExpectToken}
use Rattle.js_base.specs.declared.kind.Kind.{Kind}
use Rattle.js_base.specs.declared.kind.Kind.TheVariants.{RAngle}
use Rattle.js_base.specs.Kinds.{same_kind, one_of_kinds}
use Rattle.js_grammar.specs.Trees.{end}
use Rattle.js_grammar.specs.Grammar.{is, seq}
use Rattle.js_grammar.specs.Parsing.{Test, plain, full, Fails}
use Rattle.js_grammar.specs.Productions.{G, Flags, tok}
use Rattle.js_grammar.specs.Table.{rule}
use Rattle.js_grammar.proofs.Calculus.{fails_lexeme, part_fails}
use Rattle.js_cursor.specs.js_lex.Reading.{is_right_angle}
use Rattle.js_cursor.specs.Parsers.{Parser}
use Rattle.js_cursor.specs.Moves.{Expects, IsKind, MovesOn}
use Rattle.js_cursor.specs.declared.stop.Stop.{Stop}
use Rattle.js_cursor.specs.declared.stop.Stop.TheVariants.{Fatal, NoMemory}
use Rattle.laws_shared.specs.Answers.{Stops}
use Rattle.laws_shared.specs.Lexemes.{Lex, other_goals}
use Rattle.laws_shared.specs.Moves.{Moved, unpassable}
use Rattle.laws_shared.specs.Stands.{StandsHere}
use Rattle.laws_shared.specs.States.{At}
use Rattle.laws_shared.proofs.Classes.{here_ends}
use Rattle.laws_shared.proofs.Giving.{gives_up}
use Rattle.laws_shared.proofs.Moving.{moves}
use Rattle.laws_shared.proofs.Signs.{none_seen, stands_not, whole_sign}

module _ {text : List ℕ} {f : Flags} {p : Parser} (a : At text f p) where
  -- it doesn't stand here
  pub not_due : {X : Test} {g : G} (k : Kind) → (is_right_angle k || one_of_kinds other_goals k) ≡ false → StandsHere p k false → Fails rule (Lex text) X end (seq (tok k) g) p.prev_token_end
  not_due k n s = part_fails {X' = plain full} (fails_lexeme (is k) (none_seen (stands_not a n s))) (record { admits = λ ts us vs j k ls mid rest d d' e. (refl, refl) })

  pub unexpected : {F : Type 0} (k : Kind) (q : Parser) (e : Stop) → Expects (IsKind k) ExpectToken None p q (Err e) → (StandsHere p k false → F) → Stops p q e F
  unexpected k q Fatal x h = gives_up _ p q Fatal a x.1 (here_ends ExpectToken refl) (h (λ i j. x.0 refl (i, j)))
  unexpected k q NoMemory x h = tt

  pub expected : (k : Kind) {q : Parser} → IsKind k p → MovesOn p q → same_kind RAngle k ≡ false → unpassable k ≡ false → Moved text f p q
  expected k i m r l = moves (whole_sign k a i.0 r l) m a
