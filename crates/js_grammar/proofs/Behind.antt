-- Lexemes behind what is taken.
use Rattle.std.proofs.Common.{ℕ}
use Rattle.js_grammar.specs.Trees.{Slots, Tree}
use Rattle.js_grammar.specs.Grammar.{Lexeme, Lexemes, last, next, Grammar, Takes, Derives, is_nothing, is_lexeme, is_look, is_text, is_ahead, is_empty_slot, is_seq, is_left, is_right, is_when, is_many, is_commas, is_such, is_marked, is_node, is_ended, is_keep, is_kept}
use Rattle.js_grammar.specs.Lexed.{Lexes}

-- Behind what is taken from lexemes that stand one behind the other, the others do too.
pub lexed_behind : {N : Type 0} {rules : N → Grammar N} (Lex : ℕ → Lexeme → Type 0) {g : Grammar N} {ks ts us : Slots} {i j : ℕ} {ls rest : Lexemes} → Takes rules g ks ts i ls us j rest → Lexes Lex i ls → Lexes Lex j rest
lexed_behind Lex is_nothing l = l
lexed_behind Lex (is_lexeme p) l = l.1
lexed_behind Lex (is_look p) l = l
lexed_behind Lex (is_text p) l = l
lexed_behind Lex (is_ahead d) l = l
lexed_behind Lex is_empty_slot l = l
lexed_behind Lex (is_seq d e) l = lexed_behind Lex e (lexed_behind Lex d l)
lexed_behind Lex (is_left d) l = lexed_behind Lex d l
lexed_behind Lex (is_right d) l = lexed_behind Lex d l
lexed_behind Lex (is_when c d) l = lexed_behind Lex d l
lexed_behind Lex (is_many d) l = lexed_behind Lex d l
lexed_behind Lex (is_commas d) l = lexed_behind Lex d l
lexed_behind Lex (is_such d c) l = lexed_behind Lex d l
lexed_behind Lex (is_marked d) l = lexed_behind Lex d l
lexed_behind Lex (is_node d) l = lexed_behind Lex d l
lexed_behind Lex (is_ended q d e) l = lexed_behind Lex e (lexed_behind Lex d l)
lexed_behind Lex (is_keep d e) l = lexed_behind Lex e (lexed_behind Lex d l)
lexed_behind Lex (is_kept q) l = l

-- What holds of lexemes, and so of those behind the first, holds of those that are left.
pub left_behind : {N : Type 0} {rules : N → Grammar N} (P : Lexemes → Type 0) → ((x : Lexeme) (ls : Lexemes) → P (next x ls) → P ls) → {g : Grammar N} {ks ts us : Slots} {i j : ℕ} {ls rest : Lexemes} → Takes rules g ks ts i ls us j rest → P ls → P rest
left_behind P s is_nothing l = l
left_behind P s (is_lexeme {x = x} {ls = ls} p) l = s x ls l
left_behind P s (is_look p) l = l
left_behind P s (is_text p) l = l
left_behind P s (is_ahead d) l = l
left_behind P s is_empty_slot l = l
left_behind P s (is_seq d e) l = left_behind P s e (left_behind P s d l)
left_behind P s (is_left d) l = left_behind P s d l
left_behind P s (is_right d) l = left_behind P s d l
left_behind P s (is_when c d) l = left_behind P s d l
left_behind P s (is_many d) l = left_behind P s d l
left_behind P s (is_commas d) l = left_behind P s d l
left_behind P s (is_such d c) l = left_behind P s d l
left_behind P s (is_marked d) l = left_behind P s d l
left_behind P s (is_node d) l = left_behind P s d l
left_behind P s (is_ended q d e) l = left_behind P s e (left_behind P s d l)
left_behind P s (is_keep d e) l = left_behind P s e (left_behind P s d l)
left_behind P s (is_kept q) l = l

-- A text that is taken whole was lexed to its last lexeme.
pub to_the_end : {N : Type 0} {rules : N → Grammar N} (Lex : ℕ → Lexeme → Type 0) (n : N) (t : Tree) {i j : ℕ} {ls : Lexemes} {x : Lexeme} → Derives rules n t i ls j (last x) → Lexes Lex i ls → Lex j x
to_the_end Lex n t d l = lexed_behind Lex d l
