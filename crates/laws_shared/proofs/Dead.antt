-- What needs a lexeme that isn't read derives nothing, and falls away from a choice.
use Rattle.std.proofs.Common.{ℕ, ◌≡◌, Bool, true, false, cond, ◌&&◌, ◌||◌, List, IsTrue, refl}
use Rattle.std.proofs.lemmas.Bool.{false≢true, and_parts}
use Rattle.js_grammar.specs.Trees.{Slots}
use Rattle.js_grammar.specs.Grammar.{Lexeme, Lexemes, last, next, here, Look, seen, never, lexeme, look, ahead, seq, alt, when, commas, such, marked, node, ended, keep, Takes, is_nothing, is_lexeme, is_look, is_text, is_ahead, is_empty_slot, is_seq, is_left, is_right, is_when, is_many, is_commas, is_such, is_marked, is_node, is_ended, is_keep, is_kept}
use Rattle.js_grammar.specs.Lexed.{Lexes}
use Rattle.js_grammar.specs.Parsing.{Test, Goes, Fails, still}
use Rattle.js_grammar.specs.Productions.{G, Flags, Name, Symbol}
use Rattle.js_grammar.specs.Table.{rule, rule_of}
use Rattle.js_grammar.specs.FirstSets.{first}
use Rattle.js_grammar.proofs.Looks.{apart, not_both}
use Rattle.js_grammar.proofs.FirstClaims.{begins}
use Rattle.js_grammar.proofs.Calculus.{stay, left, right, both, ◌▹◌}
use Rattle.js_grammar.proofs.Behind.{left_behind}
use Rattle.js_grammar.proofs.Finding.{either_of}
use Rattle.laws_shared.specs.Lexemes.{Lex, is_read, is_read_kind}

abbrev reads : Look
reads k w e = is_read_kind k

-- no lexeme that is read passes the test
abbrev pub unread : Look → Bool
unread p = apart p reads

-- the nonterminals whose line needs an unread lexeme
abbrev pub dead_name : Name → Bool
dead_name _ = false

abbrev pub dead : G → Bool
dead never = true
dead (lexeme p) = unread p
dead (look p) = unread p
dead (ahead a) = dead a
dead (seq a b) = dead a || dead b
dead (alt a b) = dead a && dead b
dead (when c a) = dead a
dead (commas b a) = dead a
dead (such n c) = dead_name n.name || unread (first n)
dead (marked h n) = dead_name n.name || unread (first n)
dead (node m a) = dead a
dead (ended rows a) = dead a
dead (keep a b) = dead a || dead b
dead g = false

-- each lexeme is read
abbrev pub AllRead : Lexemes → Type 0
AllRead (last x) = IsTrue (is_read x)
AllRead (next x ls) = IsTrue (is_read x) × AllRead ls

pub all_read : (t : List ℕ) (s : ℕ) (ls : Lexemes) → Lexes (Lex t) s ls → AllRead ls
all_read t s (last x) l = l.1
all_read t s (next x ls) l = (l.0.1, all_read t x.to ls l.1)

read_here : (ls : Lexemes) → AllRead ls → IsTrue (is_read (here ls))
read_here (last x) c = c
read_here (next x ls) c = c.0

pub stays : {r : Symbol → G} {g : G} {ks ts us : Slots} {i j : ℕ} {ls rest : Lexemes} → Takes r g ks ts i ls us j rest → AllRead ls → AllRead rest
stays d c = left_behind AllRead (λ x ls h. h.1) d c

unseen : (p : Look) (x : Lexeme) → unread p ≡ true → IsTrue (seen p x) → IsTrue (is_read x) → ⊥
unseen p x u h r = not_both p reads u x.kind x.newline x.escaped h r

dead_at : (n : Name) (f : Flags) → dead_name n ≡ true → dead (rule_of n f) ≡ true
unfolding rule_of apart
dead_at _ f h = absurd (false≢true h)

dead_line : (n : Symbol) → dead_name n.name ≡ true → dead (rule n) ≡ true
unfolding rule
dead_line n h = dead_at n.name n.flags h

pub none : {g : G} {ks ts us : Slots} {i j : ℕ} {ls rest : Lexemes} → Takes rule g ks ts i ls us j rest → dead g ≡ true → AllRead ls → ⊥
none is_nothing h c = false≢true h
none (is_lexeme {p = p} {x = x} q) h c = unseen p x h q c.0
none (is_look {p = p} {ls = ls} q) h c = unseen p (here ls) h q (read_here ls c)
none (is_text q) h c = false≢true h
none (is_ahead d) h c = none d h c
none is_empty_slot h c = false≢true h
none (is_seq {a = a} {b = b} d e) h c = either_of (dead a) (dead b) h (λ q. none d q c) (λ q. none e q (stays d c))
none (is_left {a = a} {b = b} d) h c = none d (and_parts (dead a) (dead b) h).0 c
none (is_right {a = a} {b = b} d) h c = none d (and_parts (dead a) (dead b) h).1 c
none (is_when q d) h c = none d h c
none (is_many d) h c = false≢true h
none (is_commas (is_seq d e)) h c = none d h c
none (is_such {n = n} {l = l} {cs = cs} {ls = ls} d q) h c = either_of (dead_name n.name) (unread (first n)) h (λ z. none d (dead_line n z) c) (λ z. unseen (first n) (here ls) z (begins n (record { label = l; slots = cs }) d) (read_here ls c))
none (is_marked {n = n} {l = l} {cs = cs} {ls = ls} d) h c = either_of (dead_name n.name) (unread (first n)) h (λ z. none d (dead_line n z) c) (λ z. unseen (first n) (here ls) z (begins n (record { label = l; slots = cs }) d) (read_here ls c))
none (is_node d) h c = none d h c
none (is_ended q d e) h c = none d h c
none (is_keep {a = a} {b = b} d e) h c = either_of (dead a) (dead b) h (λ q. none d q c) (λ q. none e q (stays d c))
none (is_kept q) h c = false≢true h

pub fails_dead : {t : List ℕ} {X : Test} {ks : Slots} {s : ℕ} (g : G) → dead g ≡ true → Fails rule (Lex t) X ks g s
fails_dead {t} {s = s} g h = record { no = λ ts vs k ls rest l d e. none d h (all_read t s ls l) }

-- what is left of a choice
abbrev pub live : G → G
live (alt a b) = cond (dead a) (live b) (cond (dead b) (live a) (alt (live a) (live b)))
live g = g

choose : {t : List ℕ} {X : Test} {ks : Slots} {s : ℕ} {a b : G} (x y : Bool) → dead a ≡ x → dead b ≡ y → Goes rule (Lex t) X ks a s (live a) s (λ us. us) (still 0) → Goes rule (Lex t) X ks b s (live b) s (λ us. us) (still 0)
    → Goes rule (Lex t) X ks (alt a b) s (cond x (live b) (cond y (live a) (alt (live a) (live b)))) s (λ us. us) (still 0)
choose {a = a} true y e h f g = right (fails_dead a e) ▹ g
choose {b = b} false true e h f g = left (fails_dead b h) ▹ f
choose false false e h f g = both f g

pub lives : {t : List ℕ} {X : Test} {ks : Slots} {s : ℕ} (g : G) → Goes rule (Lex t) X ks g s (live g) s (λ us. us) (still 0)
lives (alt a b) = choose (dead a) (dead b) refl refl (lives a) (lives b)
lives g = stay
