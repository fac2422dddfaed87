-- The productions that are built, and all of them: what the former derive the latter derive, and no more where no lexeme begins another line.
use Rattle.std.proofs.Common.{ℕ, ◌≡◌, true, not, IsTrue, refl}
use Rattle.js_grammar.specs.Trees.{Slots, Tree, Label, end, tree}
use Rattle.js_grammar.specs.Grammar.{Lexemes, last, next, here, Look, seen, alt, Takes, Derives, is_nothing, is_lexeme, is_look, is_text, is_ahead, is_empty_slot, is_seq, is_left, is_right, is_when, is_many, is_commas, is_such, is_marked, is_node, is_ended, is_keep, is_kept}
use Rattle.js_grammar.specs.Productions.{G, Flags, Name, Symbol, Item, ExportDecl}
use Rattle.js_grammar.specs.Table.{rule, rule_of, unbuilt_of, whole}
use Rattle.js_grammar.specs.FirstSets.{first}
use Rattle.js_grammar.specs.TableLaws.{begins_unbuilt, BeginNoUnbuilt, BuiltInWhole}
use Rattle.js_grammar.proofs.Looks.{full, apart, not_both}
use Rattle.js_grammar.proofs.First.{starts, starting}
use Rattle.js_grammar.proofs.FirstClaims.{firsts}
use Rattle.js_grammar.proofs.Behind.{left_behind}

into_whole : {g : G} {ks ts us : Slots} {i j : ℕ} {ls rest : Lexemes} → Takes rule g ks ts i ls us j rest → Takes whole g ks ts i ls us j rest
unfolding rule whole
into_whole is_nothing = is_nothing
into_whole (is_lexeme p) = is_lexeme p
into_whole (is_look p) = is_look p
into_whole (is_text p) = is_text p
into_whole (is_ahead d) = is_ahead (into_whole d)
into_whole is_empty_slot = is_empty_slot
into_whole (is_seq d e) = is_seq (into_whole d) (into_whole e)
into_whole (is_left d) = is_left (into_whole d)
into_whole (is_right d) = is_right (into_whole d)
into_whole (is_when q d) = is_when q (into_whole d)
into_whole (is_many d) = is_many (into_whole d)
into_whole (is_commas d) = is_commas (into_whole d)
into_whole (is_such d q) = is_such (is_left (into_whole d)) q
into_whole (is_marked d) = is_marked (is_left (into_whole d))
into_whole (is_node d) = is_node (into_whole d)
into_whole (is_ended q d e) = is_ended q (into_whole d) (into_whole e)
into_whole (is_keep d e) = is_keep (into_whole d) (into_whole e)
into_whole (is_kept q) = is_kept q

-- a lexeme that begins no line that isn't built
abbrev begins_none : Look
begins_none k w e = not (begins_unbuilt k)

none_here : (ls : Lexemes) → BeginNoUnbuilt ls → IsTrue (seen begins_none (here ls))
none_here (last x) c = c
none_here (next x ls) c = c.0

stays : {r : Symbol → G} {g : G} {ks ts us : Slots} {i j : ℕ} {ls rest : Lexemes} → Takes r g ks ts i ls us j rest → BeginNoUnbuilt ls → BeginNoUnbuilt rest
stays d c = left_behind BeginNoUnbuilt (λ x ls h. h.1) d c

-- what begins with another lexeme isn't derived
away : (g : G) → apart (starts first g full) begins_none ≡ true → {ks ts us : Slots} {i j : ℕ} {ls rest : Lexemes} → Takes rule g ks ts i ls us j rest → BeginNoUnbuilt ls → ⊥
away g a {ls = ls} d c = not_both (starts first g full) begins_none a _ _ _ (starting firsts full d refl) (none_here ls c)

-- nor is an export: its word may stand behind decorators
no_export : (f : Flags) {ks ts us : Slots} {i j : ℕ} {ls rest : Lexemes} → Takes rule (rule_of ExportDecl f) ks ts i ls us j rest → BeginNoUnbuilt ls → ⊥
unfolding rule_of apart
no_export f (is_left d) c = away _ refl d c
no_export f (is_right (is_left d)) c = away _ refl d c
no_export f (is_right (is_right (is_left d))) c = away _ refl d c
no_export f (is_right (is_right (is_right (is_left d)))) c = away _ refl d c
no_export f (is_right (is_right (is_right (is_right (is_left (is_keep d e)))))) c = away _ refl e (stays d c)
no_export f (is_right (is_right (is_right (is_right (is_right (is_left d)))))) c = away _ refl d c
no_export f (is_right (is_right (is_right (is_right (is_right (is_right (is_keep d e))))))) c = away _ refl e (stays d c)

no_module_item : (f : Flags) {ks ts us : Slots} {i j : ℕ} {ls rest : Lexemes} → Takes rule (unbuilt_of Item f) ks ts i ls us j rest → BeginNoUnbuilt ls → ⊥
unfolding rule unbuilt_of apart
no_module_item f (is_when q (is_such d t)) c = no_export f d c

-- so with each nonterminal, by computing
unbuilt_away : (n : Name) (f : Flags) {ks ts us : Slots} {i j : ℕ} {ls rest : Lexemes} → Takes rule (unbuilt_of n f) ks ts i ls us j rest → BeginNoUnbuilt ls → ⊥
unfolding unbuilt_of apart
unbuilt_away Item f d c = no_module_item f d c
unbuilt_away n f d c = away (unbuilt_of n f) refl d c

built_line : (n : Symbol) {cs : Slots} {l : Label} {i j : ℕ} {ls rest : Lexemes} → BeginNoUnbuilt ls → Takes rule (alt (rule_of n.name n.flags) (unbuilt_of n.name n.flags)) end (tree l cs end) i ls end j rest → Takes rule (rule_of n.name n.flags) end (tree l cs end) i ls end j rest
built_line n c (is_left d) = d
built_line n c (is_right d) = absurd (unbuilt_away n.name n.flags d c)

back_to_built : {g : G} {ks ts us : Slots} {i j : ℕ} {ls rest : Lexemes} → Takes whole g ks ts i ls us j rest → BeginNoUnbuilt ls → Takes rule g ks ts i ls us j rest
unfolding rule whole
back_to_built is_nothing c = is_nothing
back_to_built (is_lexeme p) c = is_lexeme p
back_to_built (is_look p) c = is_look p
back_to_built (is_text p) c = is_text p
back_to_built (is_ahead d) c = is_ahead (back_to_built d c)
back_to_built is_empty_slot c = is_empty_slot
back_to_built (is_seq d e) c = is_seq (back_to_built d c) (back_to_built e (stays d c))
back_to_built (is_left d) c = is_left (back_to_built d c)
back_to_built (is_right d) c = is_right (back_to_built d c)
back_to_built (is_when q d) c = is_when q (back_to_built d c)
back_to_built (is_many d) c = is_many (back_to_built d c)
back_to_built (is_commas d) c = is_commas (back_to_built d c)
back_to_built (is_such {n = n} d q) c = is_such (built_line n c (back_to_built d c)) q
back_to_built (is_marked {n = n} d) c = is_marked (built_line n c (back_to_built d c))
back_to_built (is_node d) c = is_node (back_to_built d c)
back_to_built (is_ended q d e) c = is_ended q (back_to_built d c) (back_to_built e (stays d c))
back_to_built (is_keep d e) c = is_keep (back_to_built d c) (back_to_built e (stays d c))
back_to_built (is_kept q) c = is_kept q

pub in_whole : (n : Symbol) (t : Tree) {i j : ℕ} {ls rest : Lexemes} → Derives rule n t i ls j rest → Derives whole n t i ls j rest
unfolding rule whole
in_whole n t d = is_left (into_whole d)

pub by_built : (n : Symbol) (t : Tree) {i j : ℕ} {ls rest : Lexemes} → BeginNoUnbuilt ls → Derives whole n t i ls j rest → Derives rule n t i ls j rest
unfolding rule whole
by_built n t c d = built_line n c (back_to_built d c)

pub built_in_whole : BuiltInWhole
built_in_whole = record { into = λ n t i j ls rest d. in_whole n t d; back = λ n t i j ls rest c d. by_built n t c d }
