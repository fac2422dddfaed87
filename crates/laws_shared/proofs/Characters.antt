-- The characters of a lexeme stand from its start to its end (ECMA-262, 12).
use Rattle.std.proofs.Common.{ℕ, ◌≡◌, List, ◌++◌, sym, subst, ◌∙◌}
use Rattle.std.specs.Prelude.{IsCharBoundary, IsUtf8}
use Rattle.std.proofs.lemmas.List.{append_cancel_left}
use Rattle.js_grammar.specs.Grammar.{Lexeme}
use Rattle.js_grammar.specs.Lexed.{NextLexeme, all_faults}
use Rattle.js_grammar.specs.Longest.{joined}
use Rattle.js_grammar.specs.LexicalFaults.{behind}
use Rattle.js_cursor.specs.part_words.Places.{Word}
use Rattle.js_cursor.proofs.part_scan.StringPlaces.{front_word}

pub characters : {text : List ℕ} {s : ℕ} {y : Lexeme} → IsUtf8 text → IsCharBoundary text s → (h : NextLexeme all_faults text s y) → IsCharBoundary text y.from × Word text y.from y.to h.word
characters {text} {s} {y} u b h =
    let before : Word text s y.from (joined h.trivia) = subst (λ (n : ℕ). Word text s n (joined h.trivia)) (sym h.from) (front_word text s (joined h.trivia) (h.word ++ h.rest) u b h.stands.splits) in
    let here : behind text y.from ≡ h.word ++ h.rest = append_cancel_left (joined h.trivia) (behind text y.from) (h.word ++ h.rest) (sym before.splits ∙ h.stands.splits) in
    (before.boundary, subst (λ (n : ℕ). Word text y.from n h.word) (sym h.to) (front_word text y.from h.word h.rest u before.boundary here))
