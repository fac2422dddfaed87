-- What each part of a grammar begins with, where a first set is claimed of each symbol: for any grammar.
use Rattle.std.proofs.Common.{ℕ, ◌≡◌, true, ◌&&◌, IsTrue, refl}
use Rattle.std.proofs.lemmas.Bool.{or_left, or_right, and_from}
use Rattle.js_grammar.specs.Trees.{Slots, Tree}
use Rattle.js_grammar.specs.Grammar.{Lexemes, here, Look, seen, Grammar, nothing, never, lexeme, look, text, ahead, empty_slot, seq, alt, when, many, commas, such, marked, node, ended, keep, kept, Takes, Derives, is_nothing, is_lexeme, is_look, is_text, is_ahead, is_empty_slot, is_seq, is_left, is_right, is_when, is_many, is_commas, is_such, is_marked, is_node, is_ended, is_keep, is_kept}
use Rattle.js_grammar.specs.Parsing.{full}
use Rattle.js_grammar.proofs.Looks.{none, either, covers, covered}

-- What may stand first, where F stands after, and each symbol begins with its first set: a condition on flags is let go.
abbrev pub starts : {N : Type 0} → (N → Look) → Grammar N → Look → Look
starts first nothing F = F
starts first never F = none
starts first (lexeme p) F = p
starts first (look p) F = λ k w e. p k w e && F k w e
starts first (text p) F = F
starts first (ahead a) F = λ k w e. starts first a full k w e && F k w e
starts first empty_slot F = F
starts first (seq a b) F = starts first a (starts first b F)
starts first (alt a b) F = either (starts first a F) (starts first b F)
starts first (when c a) F = starts first a F
starts first (many a) F = either (starts first a full) F
starts first (commas b a) F = starts first a full
starts first (such n c) F = first n
starts first (marked h n) F = first n
starts first (node m a) F = starts first a F
starts first (ended rows a) F = starts first a full
starts first (keep a b) F = starts first a (starts first b F)
starts first kept F = F

-- A first set for each symbol, which covers what the symbol's rule may begin with.
pub record FirstSets {N : Type 0} (rule : N → Grammar N) : Type 0 where
  pub first : N → Look
  pub claims : (n : N) → covers (starts first (rule n) full) (first n) ≡ true

module _ {N : Type 0} {rule : N → Grammar N} (C : FirstSets rule) where
  pub starting : {g : Grammar N} {ks ts us : Slots} {i j : ℕ} {ls rest : Lexemes} (F : Look) → Takes rule g ks ts i ls us j rest → IsTrue (seen F (here rest)) → IsTrue (seen (starts C.first g F) (here ls))
  starting F is_nothing h = h
  starting F (is_lexeme p) h = p
  starting F (is_look p) h = and_from _ _ p h
  starting F (is_text p) h = h
  starting F (is_ahead d) h = and_from _ _ (starting full d refl) h
  starting F is_empty_slot h = h
  starting F (is_seq {b = b} d e) h = starting (starts C.first b F) d (starting F e h)
  starting F (is_left d) h = or_left _ _ (starting F d h)
  starting F (is_right d) h = or_right _ _ (starting F d h)
  starting F (is_when c d) h = starting F d h
  starting F (is_many (is_right is_nothing)) h = or_right _ _ h
  starting F (is_many (is_left (is_seq d e))) h = or_left _ _ (starting full d refl)
  starting F (is_commas (is_seq d e)) h = starting full d refl
  starting F (is_such {n = n} d c) h = covered (starts C.first (rule n) full) (C.first n) (C.claims n) _ _ _ (starting full d refl)
  starting F (is_marked {n = n} d) h = covered (starts C.first (rule n) full) (C.first n) (C.claims n) _ _ _ (starting full d refl)
  starting F (is_node d) h = starting F d h
  starting F (is_ended q d e) h = starting full d refl
  starting F (is_keep {b = b} d e) h = starting (starts C.first b F) d (starting F e h)
  starting F (is_kept q) h = h

  pub begins : (n : N) (t : Tree) {i j : ℕ} {ls rest : Lexemes} → Derives rule n t i ls j rest → IsTrue (seen (C.first n) (here ls))
  begins n t d = covered (starts C.first (rule n) full) (C.first n) (C.claims n) _ _ _ (starting full d refl)
