-- No nonterminal takes the end of a text: where lexemes are taken, the end is the last of them exactly if it is the last of those behind.
use Rattle.std.proofs.Common.{ℕ, ◌≡◌, Bool, true, false, not, ◌&&◌, refl, sym, subst}
use Rattle.std.proofs.lemmas.Bool.{false≢true, and_parts, and_from}
use Rattle.js_base.specs.declared.kind.Kind.{Kind}
use Rattle.js_base.specs.declared.kind.Kind.TheVariants.{Eof}
use Rattle.js_base.specs.Kinds.{same_kind}
use Rattle.js_base.proofs.KindLemmas.{kind_of_same}
use Rattle.js_grammar.specs.Trees.{Slots, Tree}
use Rattle.js_grammar.specs.Grammar.{Lexeme, Lexemes, Look, seen, lexeme, seq, alt, when, many, commas, node, ended, keep, Takes, Derives, is_nothing, is_lexeme, is_look, is_text, is_ahead, is_empty_slot, is_seq, is_left, is_right, is_when, is_many, is_commas, is_such, is_marked, is_node, is_ended, is_keep, is_kept}
use Rattle.js_grammar.specs.Lexed.{ends_once}
use Rattle.js_grammar.specs.Productions.{Flags, Name, Symbol, G, Program}
use Rattle.js_grammar.specs.Table.{rule, rule_of}

-- the end passes no test of a lexeme
abbrev not_end : Look → Bool
not_end p = (not (p Eof true true) && not (p Eof true false)) && (not (p Eof false true) && not (p Eof false false))

abbrev takes_no_end : G → Bool
takes_no_end (lexeme p) = not_end p
takes_no_end (seq a b) = takes_no_end a && takes_no_end b
takes_no_end (alt a b) = takes_no_end a && takes_no_end b
takes_no_end (when c a) = takes_no_end a
takes_no_end (many a) = takes_no_end a
takes_no_end (commas b a) = takes_no_end a
takes_no_end (node m a) = takes_no_end a
takes_no_end (ended r a) = takes_no_end a
takes_no_end (keep a b) = takes_no_end a && takes_no_end b
takes_no_end g = true

-- computed for each nonterminal
line_at : (n : Name) (f : Flags) → takes_no_end (rule_of n f) ≡ true
unfolding rule_of
line_at Program f = refl
line_at n f = refl

line : (n : Symbol) → takes_no_end (rule n) ≡ true
unfolding rule
line n = line_at n.name n.flags

not_here : (p : Look) (w e : Bool) → not_end p ≡ true → p Eof w e ≡ true → ⊥
not_here p w e h c = go w e (and_parts _ _ h) c
  where
    apart : (b : Bool) → not b ≡ true → b ≡ true → ⊥
    apart true n y = false≢true n
    apart false n y = false≢true y

    go : (w e : Bool) → (((not (p Eof true true) && not (p Eof true false)) ≡ true) × ((not (p Eof false true) && not (p Eof false false)) ≡ true)) → p Eof w e ≡ true → ⊥
    go true true h c = apart _ (and_parts _ _ h.0).0 c
    go true false h c = apart _ (and_parts _ _ h.0).1 c
    go false true h c = apart _ (and_parts _ _ h.1).0 c
    go false false h c = apart _ (and_parts _ _ h.1).1 c

no_end_here : (p : Look) (x : Lexeme) → not_end p ≡ true → seen p x ≡ true → not (same_kind Eof x.kind) ≡ true
no_end_here p x h c = go (same_kind Eof x.kind) refl
  where
    go : (b : Bool) → same_kind Eof x.kind ≡ b → not b ≡ true
    go true e = absurd (not_here p x.newline x.escaped h (subst (λ (k : Kind). p k x.newline x.escaped ≡ true) (sym (kind_of_same Eof x.kind e)) c))
    go false e = refl

-- the end stands once, if it stands once behind what is taken
once_before : {g : G} {ks ts us : Slots} {i j : ℕ} {ls rest : Lexemes} → Takes rule g ks ts i ls us j rest → takes_no_end g ≡ true → ends_once rest ≡ true → ends_once ls ≡ true
once_before is_nothing h e = e
once_before (is_lexeme {p = p} {x = x} c) h e = and_from _ _ (no_end_here p x h c) e
once_before (is_look c) h e = e
once_before (is_text c) h e = e
once_before (is_ahead d) h e = e
once_before is_empty_slot h e = e
once_before (is_seq {a = a} {b = b} x y) h e = let k = and_parts (takes_no_end a) (takes_no_end b) h in once_before x k.0 (once_before y k.1 e)
once_before (is_left {a = a} {b = b} x) h e = once_before x (and_parts (takes_no_end a) (takes_no_end b) h).0 e
once_before (is_right {a = a} {b = b} x) h e = once_before x (and_parts (takes_no_end a) (takes_no_end b) h).1 e
once_before (is_when c x) h e = once_before x h e
once_before (is_many {a = a} x) h e = once_before x (and_from _ _ (and_from _ _ h h) refl) e
once_before (is_commas {b = true} {a = a} x) h e = once_before x (and_from _ _ h (and_from _ _ (and_from _ _ refl (and_from _ _ h refl)) refl)) e
once_before (is_commas {b = false} {a = a} x) h e = once_before x (and_from _ _ h (and_from _ _ (and_from _ _ refl h) refl)) e
once_before (is_such {n = n} x c) h e = once_before x (line n) e
once_before (is_marked {n = n} x) h e = once_before x (line n) e
once_before (is_node x) h e = once_before x h e
once_before (is_ended q x y) h e = once_before x h (once_before y refl e)
once_before (is_keep {a = a} {b = b} x y) h e = let k = and_parts (takes_no_end a) (takes_no_end b) h in once_before x k.0 (once_before y k.1 e)
once_before (is_kept q) h e = e

-- what is derived from lexemes up to the end has no end within
pub ends_once_by : (n : Symbol) (t : Tree) {i j : ℕ} {ls rest : Lexemes} → Derives rule n t i ls j rest → ends_once rest ≡ true → ends_once ls ≡ true
ends_once_by n t d e = once_before d (line n) e

-- and the other way round
once_behind : {g : G} {ks ts us : Slots} {i j : ℕ} {ls rest : Lexemes} → Takes rule g ks ts i ls us j rest → ends_once ls ≡ true → ends_once rest ≡ true
once_behind is_nothing e = e
once_behind (is_lexeme {x = x} c) e = (and_parts _ _ e).1
once_behind (is_look c) e = e
once_behind (is_text c) e = e
once_behind (is_ahead d) e = e
once_behind is_empty_slot e = e
once_behind (is_seq x y) e = once_behind y (once_behind x e)
once_behind (is_left x) e = once_behind x e
once_behind (is_right x) e = once_behind x e
once_behind (is_when c x) e = once_behind x e
once_behind (is_many x) e = once_behind x e
once_behind (is_commas x) e = once_behind x e
once_behind (is_such x c) e = once_behind x e
once_behind (is_marked x) e = once_behind x e
once_behind (is_node x) e = once_behind x e
once_behind (is_ended q x y) e = once_behind y (once_behind x e)
once_behind (is_keep x y) e = once_behind y (once_behind x e)
once_behind (is_kept q) e = e

pub ends_behind : (n : Symbol) (t : Tree) {i j : ℕ} {ls rest : Lexemes} → Derives rule n t i ls j rest → ends_once ls ≡ true → ends_once rest ≡ true
ends_behind n t d e = once_behind d e
