-- Where lexemes lead on, the last one ends.
use Rattle.std.proofs.Common.{ℕ, ◌<◌, List, refl, arith}
use Rattle.js_grammar.specs.Grammar.{Lexemes}
use Rattle.js_grammar.specs.LexicalFaults.{Reached}
use Rattle.js_grammar.specs.Marks.{EdgeOf, a_lexeme, the_end}
use Rattle.js_grammar.specs.Settings.{Goal}
use Rattle.js_cursor.proofs.Moving.{reached_next}
use Rattle.laws_shared.specs.Lexemes.{Spot, Walked, nowhere, one_more, read_again, more_faults}

-- what is walked to from a place that is reached is reached
pub walked_reached : {text : List ℕ} {s e : Spot} {pass : Lexemes → Lexemes} → Walked text s e pass → Reached text s.place → Reached text e.place
walked_reached nowhere r = r
walked_reached (one_more w i n) r = reached_next (walked_reached w r) i.stood
walked_reached (read_again w ds k i) r = reached_next (walked_reached w r) i.stood
walked_reached (more_faults w ds n) r = walked_reached w r

-- and a lexeme ends there
pub last_edge : {source : Goal} {text : List ℕ} {s e : Spot} {pass : Lexemes → Lexemes} → Walked text s e pass → Reached text s.place → s.place < e.place → EdgeOf source text e.place
last_edge nowhere r l = absurd (omega arith)
last_edge (one_more w i n) r l = the_end (a_lexeme (walked_reached w r) i.stood) refl
last_edge (read_again w ds k i) r l = the_end (a_lexeme (walked_reached w r) i.stood) refl
last_edge (more_faults w ds n) r l = last_edge w r l
