-- Parts of a list of lexemes: they can be joined where they meet, and cut at every lexeme.
use Rattle.std.proofs.Common.{ℕ, List, refl}
use Rattle.js_grammar.specs.Grammar.{Lexeme, Lexemes, last, next}
use Rattle.js_grammar.specs.Lexed.{Lexes}
use Rattle.js_grammar.specs.Lexed.{end_of, join, Passing, all_faults, NextLexeme}

-- what may be next behind a place
abbrev pub Next : Type 1
Next = ℕ → Lexeme → Type 0

pub joins : (L : Next) (s : ℕ) (ls ms : Lexemes) → Lexes L s ls → Lexes L (end_of ls) ms → Lexes L s (join ls ms)
joins L s (last x) ms h k = (h, k)
joins L s (next x ls) ms h k = (h.0, joins L x.to ls ms h.1 k)

pub cuts : (L : Next) (s : ℕ) (ls ms : Lexemes) → Lexes L s (join ls ms) → Lexes L s ls × Lexes L (end_of ls) ms
cuts L s (last x) ms h = (h.0, h.1)
cuts L s (next x ls) ms h = let k = cuts L x.to ls ms h.1 in ((h.0, k.0), k.1)

-- what may be next where fewer faults pass may be next where all do
pub lenient : {p : Passing} {text : List ℕ} {s : ℕ} {y : Lexeme} → NextLexeme p text s y → NextLexeme all_faults text s y
lenient h = record { trivia = h.trivia; goal = h.goal; word = h.word; rest = h.rest; stands = h.stands; lexeme = h.lexeme; comments = refl; flags = refl; from = h.from; to = h.to; newline = h.newline; escaped = h.escaped; units = h.units }
