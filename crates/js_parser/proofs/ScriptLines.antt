-- At script and CommonJS the productions that are built are all that derive anything.
use Rattle.std.proofs.Common.{ℕ, ◌≡◌, Bool, true, false, not, ◌&&◌, refl, sym, subst}
use Rattle.std.proofs.lemmas.Bool.{false≢true, and_from, and_parts, not-true}
use Rattle.js_grammar.specs.Trees.{Slots, Tree, Label, end, tree}
use Rattle.js_grammar.specs.Grammar.{Lexemes, alt, ahead, seq, when, many, commas, such, marked, node, ended, keep, never, Takes, Derives, is_nothing, is_lexeme, is_look, is_text, is_ahead, is_empty_slot, is_seq, is_left, is_right, is_when, is_many, is_commas, is_such, is_marked, is_node, is_ended, is_keep, is_kept}
use Rattle.js_grammar.specs.Productions.{G, Flags, Name, Symbol, Program, Item}
use Rattle.js_grammar.specs.Table.{rule, rule_of, unbuilt_of, whole}

-- each nonterminal in a right side is one of scripts
abbrev of_scripts : G → Bool
of_scripts (ahead a) = of_scripts a
of_scripts (seq a b) = of_scripts a && of_scripts b
of_scripts (alt a b) = of_scripts a && of_scripts b
of_scripts (when c a) = of_scripts a
of_scripts (many a) = of_scripts a
of_scripts (commas b a) = of_scripts a
of_scripts (such n c) = not n.flags.module_goal
of_scripts (marked h n) = not n.flags.module_goal
of_scripts (node m a) = of_scripts a
of_scripts (ended r a) = of_scripts a
of_scripts (keep a b) = of_scripts a && of_scripts b
of_scripts g = true

-- the parameters at another goal than module
abbrev in_script : Flags → Flags
in_script f = record f { module_goal = false }

script_flags : (f : Flags) → f.module_goal ≡ false → in_script f ≡ f
script_flags f e = λ i. record f { module_goal = sym e i }

-- computed for each nonterminal
line_of_scripts : (n : Name) (f : Flags) → of_scripts (alt (rule_of n (in_script f)) (unbuilt_of n (in_script f))) ≡ true
unfolding rule_of unbuilt_of
line_of_scripts Program f = refl
line_of_scripts n f = refl

script_line : (n : Symbol) → n.flags.module_goal ≡ false → of_scripts (alt (rule_of n.name n.flags) (unbuilt_of n.name n.flags)) ≡ true
script_line n e = subst (λ (f : Flags). of_scripts (alt (rule_of n.name f) (unbuilt_of n.name f)) ≡ true) (script_flags n.flags e) (line_of_scripts n.name n.flags)

-- what isn't built derives nothing there, by computing
abbrev is_barren : G → Bool
is_barren never = true
is_barren (when c a) = not c
is_barren g = false

line_barren : (n : Name) (f : Flags) → is_barren (unbuilt_of n (in_script f)) ≡ true
unfolding unbuilt_of
line_barren Item f = refl
line_barren n f = refl

takes_none : {g : G} {ks ts us : Slots} {i j : ℕ} {ls rest : Lexemes} → Takes rule g ks ts i ls us j rest → is_barren g ≡ true → ⊥
takes_none (is_when {c = true} q d) h = false≢true h
takes_none (is_when {c = false} q d) h = false≢true q
takes_none is_nothing h = false≢true h
takes_none (is_lexeme p) h = false≢true h
takes_none (is_look p) h = false≢true h
takes_none (is_text p) h = false≢true h
takes_none (is_ahead d) h = false≢true h
takes_none is_empty_slot h = false≢true h
takes_none (is_seq d e) h = false≢true h
takes_none (is_left d) h = false≢true h
takes_none (is_right d) h = false≢true h
takes_none (is_many d) h = false≢true h
takes_none (is_commas d) h = false≢true h
takes_none (is_such d q) h = false≢true h
takes_none (is_marked d) h = false≢true h
takes_none (is_node d) h = false≢true h
takes_none (is_ended q d e) h = false≢true h
takes_none (is_keep d e) h = false≢true h
takes_none (is_kept q) h = false≢true h

built_line : (n : Symbol) → n.flags.module_goal ≡ false → {cs : Slots} {l : Label} {i j : ℕ} {ls rest : Lexemes} → Takes rule (alt (rule_of n.name n.flags) (unbuilt_of n.name n.flags)) end (tree l cs end) i ls end j rest → Takes rule (rule_of n.name n.flags) end (tree l cs end) i ls end j rest
built_line n e (is_left d) = d
built_line n e (is_right d) = absurd (takes_none d (subst (λ (f : Flags). is_barren (unbuilt_of n.name f) ≡ true) (script_flags n.flags e) (line_barren n.name n.flags)))

back_in_script : {g : G} {ks ts us : Slots} {i j : ℕ} {ls rest : Lexemes} → Takes whole g ks ts i ls us j rest → of_scripts g ≡ true → Takes rule g ks ts i ls us j rest
unfolding rule whole
back_in_script is_nothing c = is_nothing
back_in_script (is_lexeme p) c = is_lexeme p
back_in_script (is_look p) c = is_look p
back_in_script (is_text p) c = is_text p
back_in_script (is_ahead d) c = is_ahead (back_in_script d c)
back_in_script is_empty_slot c = is_empty_slot
back_in_script (is_seq {a = a} d e) c = let p = and_parts (of_scripts a) _ c in is_seq (back_in_script d p.0) (back_in_script e p.1)
back_in_script (is_left {a = a} d) c = is_left (back_in_script d (and_parts (of_scripts a) _ c).0)
back_in_script (is_right {a = a} d) c = is_right (back_in_script d (and_parts (of_scripts a) _ c).1)
back_in_script (is_when q d) c = is_when q (back_in_script d c)
back_in_script (is_many d) c = is_many (back_in_script d (and_from _ _ (and_from _ _ c c) refl))
back_in_script (is_commas {b = true} d) c = is_commas (back_in_script d (and_from _ _ c (and_from _ _ (and_from _ _ refl (and_from _ _ c refl)) refl)))
back_in_script (is_commas {b = false} d) c = is_commas (back_in_script d (and_from _ _ c (and_from _ _ (and_from _ _ refl c) refl)))
back_in_script (is_such {n = n} d q) c = let e = not-true n.flags.module_goal c in is_such (built_line n e (back_in_script d (script_line n e))) q
back_in_script (is_marked {n = n} d) c = let e = not-true n.flags.module_goal c in is_marked (built_line n e (back_in_script d (script_line n e)))
back_in_script (is_node d) c = is_node (back_in_script d c)
back_in_script (is_ended q d e) c = is_ended q (back_in_script d c) (back_in_script e refl)
back_in_script (is_keep {a = a} d e) c = let p = and_parts (of_scripts a) _ c in is_keep (back_in_script d p.0) (back_in_script e p.1)
back_in_script (is_kept q) c = is_kept q

pub by_built_in_script : (n : Symbol) (t : Tree) → n.flags.module_goal ≡ false → {i j : ℕ} {ls rest : Lexemes} → Derives whole n t i ls j rest → Derives rule n t i ls j rest
unfolding rule whole
by_built_in_script n t e d = built_line n e (back_in_script d (script_line n e))
