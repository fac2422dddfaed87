-- Lookaheads that each lexeme passes.
use Rattle.std.proofs.Common.{ℕ, ◌≡◌, List, Bool, true, false, not, IsTrue, refl, ap}
use Rattle.std.proofs.lemmas.Bool.{or_left}
use Rattle.js_grammar.specs.Trees.{end}
use Rattle.js_grammar.specs.Grammar.{Lexeme, Look, seen, lexeme, look, ahead, seq, ◌▸◌}
use Rattle.js_grammar.specs.Parsing.{Test, plain, full, still, Goes, Reads}
use Rattle.js_grammar.specs.Productions.{G, other, if_next, not_then}
use Rattle.js_grammar.specs.Table.{rule}
use Rattle.js_grammar.proofs.Looks.{not_both}
use Rattle.js_grammar.proofs.Calculus.{◌▹◌, left, looks, then_by}
use Rattle.laws_shared.specs.Lexemes.{Lex}
use Rattle.laws_shared.proofs.Dead.{unread, fails_dead}
use Rattle.laws_shared.proofs.Paths.{reads}

module _ {text : List ℕ} {s : ℕ} where
  -- a lookahead that each lexeme passes
  pub pass_over : {X : Test} {a b : G} → Reads rule (Lex text) (plain full) end a s s (λ us. us) (still 0) → Goes rule (Lex text) X end (seq a b) s b s (λ us. us) (still 0)
  pass_over r = then_by r (record { admits = λ ts us vs j k ls mid rest d d' h. (refl, refl) })

  passes_other : (p : Look) → unread p ≡ true → (y : Lexeme) → Lex text s y → IsTrue (seen (other p) y)
  passes_other p h y l = go (seen p y) refl
    where
      go : (b : Bool) → seen p y ≡ b → not (seen p y) ≡ true
      go true e = absurd (not_both p reads h y.kind y.newline y.escaped e l.1)
      go false e = ap not e

  -- none of these stands here
  pub reads_other : {X : Test} (p : Look) → unread p ≡ true → Reads rule (Lex text) X end (if_next (other p)) s s (λ us. us) (still 0)
  reads_other p h = looks (other p) (passes_other p h)

  pub reads_not_then : {X : Test} (p q : Look) → unread p ≡ true → Reads rule (Lex text) X end (not_then p q) s s (λ us. us) (still 0)
  reads_not_then p q h = left (fails_dead (ahead (lexeme p ▸ look (other q))) (or_left (unread p) _ h)) ▹ looks (other p) (passes_other p h)
