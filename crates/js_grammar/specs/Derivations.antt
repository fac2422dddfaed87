-- What stands in a derivation: where a symbol is used, and which semicolons are left out.
use Rattle.std.specs.Prelude.{ℕ, ◌⊎◌, ⊤}
use Rattle.js_grammar.specs.Trees.{Label, Slots, Tree}
use Rattle.js_grammar.specs.Grammar.{Lexeme, Lexemes, here, Grammar, Takes, is_nothing, is_lexeme, is_look, is_text, is_ahead, is_empty_slot, is_seq, is_left, is_right, is_when, is_many, is_commas, is_such, is_marked, is_node, is_ended, is_keep, is_kept}

-- A symbol, the tree that it derives there, and the first lexeme of that.
pub record Use (N : Type 0) : Type 0 where
  pub symbol : N
  pub tree : Tree
  pub first : Lexeme

abbrev use_of : {N : Type 0} → N → Label → Slots → Lexemes → Use N
use_of n l cs ls = record { symbol = n; tree = record { label = l; slots = cs }; first = here ls }

-- Somewhere in the derivation, lookahead aside, stands such a use of a symbol.
abbrev pub SomeUse : {N : Type 0} {rule : N → Grammar N} {g : Grammar N} {ks ts us : Slots} {i j : ℕ} {ls rest : Lexemes} → (Use N → Type 0) → Takes rule g ks ts i ls us j rest → Type 0
SomeUse P is_nothing = ⊥
SomeUse P (is_lexeme p) = ⊥
SomeUse P (is_look p) = ⊥
SomeUse P (is_text p) = ⊥
SomeUse P (is_ahead d) = ⊥
SomeUse P is_empty_slot = ⊥
SomeUse P (is_seq d e) = SomeUse P d ⊎ SomeUse P e
SomeUse P (is_left d) = SomeUse P d
SomeUse P (is_right d) = SomeUse P d
SomeUse P (is_when c d) = SomeUse P d
SomeUse P (is_many d) = SomeUse P d
SomeUse P (is_commas d) = SomeUse P d
SomeUse P (is_such {n = n} {l = l} {cs = cs} {ls = ls} d c) = P (use_of n l cs ls) ⊎ SomeUse P d
SomeUse P (is_marked {h = h} {n = n} {l = l} {cs = cs} {ls = ls} d) = P (use_of n (h l) cs ls) ⊎ SomeUse P d
SomeUse P (is_node d) = SomeUse P d
SomeUse P (is_ended q d e) = SomeUse P d
SomeUse P (is_keep d e) = SomeUse P d ⊎ SomeUse P e
SomeUse P (is_kept q) = ⊥

-- No semicolon is left out in the derivation.
abbrev pub FullyEnded : {N : Type 0} {rule : N → Grammar N} {g : Grammar N} {ks ts us : Slots} {i j : ℕ} {ls rest : Lexemes} → Takes rule g ks ts i ls us j rest → Type 0
FullyEnded is_nothing = ⊤
FullyEnded (is_lexeme p) = ⊤
FullyEnded (is_look p) = ⊤
FullyEnded (is_text p) = ⊤
FullyEnded (is_ahead d) = ⊤
FullyEnded is_empty_slot = ⊤
FullyEnded (is_seq d e) = FullyEnded d × FullyEnded e
FullyEnded (is_left d) = FullyEnded d
FullyEnded (is_right d) = FullyEnded d
FullyEnded (is_when c d) = FullyEnded d
FullyEnded (is_many d) = FullyEnded d
FullyEnded (is_commas d) = FullyEnded d
FullyEnded (is_such d c) = FullyEnded d
FullyEnded (is_marked d) = FullyEnded d
FullyEnded (is_node d) = FullyEnded d
FullyEnded (is_ended q d (is_left e)) = FullyEnded d
FullyEnded (is_ended q d (is_right e)) = ⊥
FullyEnded (is_keep d e) = FullyEnded d × FullyEnded e
FullyEnded (is_kept q) = ⊤
