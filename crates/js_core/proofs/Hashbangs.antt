-- What Program derives from the start of a text, where a hashbang comment stands there (ECMA-262, 12.5) and where none does; where one stands, it is the only lexeme.
use Rattle.std.proofs.Common.{ℕ, ◌≡◌, Bool, true, false, not, ◌&&◌, List, [], ◌∷◌, ◌++◌, Some, None, refl, sym, ap, subst, ◌∙◌}
use Rattle.std.proofs.lemmas.Bool.{false≢true, and_parts}
use Rattle.js_base.specs.Kinds.{same_kind}
use Rattle.js_base.proofs.KindLemmas.{kind_of_same}
use Rattle.js_base.specs.declared.kind.Kind.{Kind}
use Rattle.js_base.specs.declared.kind.Kind.TheVariants.{HashbangComment}
use Rattle.std.proofs.Common.{◌⊎◌, inl, inr, ◌==◌, eqb-true}
use Rattle.std.specs.Prelude.{codes}
use Rattle.js_base.specs.part_text.Characters.{one_of}
use Rattle.js_grammar.specs.Trivia.{after, within_line}
use Rattle.js_grammar.specs.Lexed.{NextLexeme, all_faults}
use Rattle.js_grammar.specs.LexicalLaws.{AtSlashOrBrace}
use Rattle.js_grammar.specs.Lexemes.{LexicalGoal, kind_in, hashbang_kind, hashbang as hashbang_goal}
use Rattle.js_grammar.proofs.Alike.{stands-same}
use Rattle.js_grammar.proofs.Choices.{choice}
use Rattle.js_grammar.specs.Trees.{Label, Slots, end, tree, no_op, program, hashbang}
use Rattle.js_grammar.specs.Grammar.{Lexeme, Lexemes, last, next, here, seen, Takes, is_nothing, is_lexeme, is_seq, is_left, is_right, is_many, is_such, is_node}
use Rattle.js_grammar.specs.FirstSets.{first}
use Rattle.js_grammar.specs.Productions.{Flags, Program, Directive, Item, at}
use Rattle.js_grammar.specs.Table.{rule, rule_of, directives_then}
use Rattle.js_grammar.proofs.FirstClaims.{begins}

-- neither a directive nor an item begins with one
no_directive : (f : Flags) (y : Lexeme) → HashbangComment ≡ y.kind → seen (first (at Directive f)) y ≡ true → ⊥
no_directive f y k h = false≢true (subst (λ (a : Kind). first (at Directive f) a y.newline y.escaped ≡ true) (sym k) h)

no_item : (f : Flags) (y : Lexeme) → HashbangComment ≡ y.kind → seen (first (at Item f)) y ≡ true → ⊥
no_item f y k h = false≢true (subst (λ (a : Kind). first (at Item f) a y.newline y.escaped ≡ true) (sym k) h)

-- so a list of them takes nothing there
takes_none : {f : Flags} {ts us : Slots} {i j : ℕ} {ls rest : Lexemes} → Takes rule (directives_then Item f) end ts i ls us j rest → HashbangComment ≡ (here ls).kind → rest ≡ ls
takes_none (is_seq (is_many (is_right is_nothing)) (is_right is_nothing)) k = refl
takes_none {f} {ls = ls} (is_seq (is_many (is_left (is_seq (is_such {l = l} {cs = cs} d c) m))) r) k = absurd (no_directive f (here ls) k (begins (at Directive f) (record { label = l; slots = cs }) d))
takes_none {f} {ls = ls} (is_seq (is_many (is_right is_nothing)) (is_left (is_seq (is_such {l = l} {cs = cs} d c) m))) k = absurd (no_item f (here ls) k (begins (at Item f) (record { label = l; slots = cs }) d))

abbrev pub hashbang_label : Lexeme → Label
hashbang_label y = record { kind = hashbang; op = no_op; flags = 0; span = record { from = y.from; to = y.to } }

abbrev pub program_label : ℕ → Label
program_label v = record { kind = program; op = no_op; flags = 0; span = record { from = 0; to = v } }

-- What Program derives up to the end: what a list of directives and items derives from a place, with its front.
pub record Listed (f : Flags) (s : ℕ) (front : Slots → Slots) (ls : Lexemes) (ts : Slots) (place : ℕ) (final : Lexeme) : Type 0 where
  pub slots : Slots
  pub is : ts ≡ tree (program_label final.to) (front slots) end
  pub rest : Takes rule (directives_then Item f) end slots s ls end place (last final)

abbrev pub behind_comment : Lexeme → Slots → Slots
behind_comment y us = tree (hashbang_label y) end us

pub behind_hashbang : {f : Flags} {y : Lexeme} {ls : Lexemes} {ts : Slots} {place : ℕ} {final : Lexeme} → HashbangComment ≡ y.kind → Takes rule (rule (at Program f)) end ts 0 (next y ls) end place (last final) → Listed f y.to (behind_comment y) ls ts place final
unfolding rule rule_of
behind_hashbang k (is_node (is_seq (is_left (is_node (is_lexeme c))) d)) = record { slots = _; is = refl; rest = d }
behind_hashbang k (is_node (is_seq (is_right is_nothing) d)) = absurd (let e = takes_none d k in cc)

pub without_hashbang : {f : Flags} {ls : Lexemes} {ts : Slots} {place : ℕ} {final : Lexeme} → (HashbangComment ≡ (here ls).kind → ⊥) → Takes rule (rule (at Program f)) end ts 0 ls end place (last final) → Listed f 0 (λ us. us) ls ts place final
unfolding rule rule_of
without_hashbang n (is_node (is_seq (is_left (is_node (is_lexeme {x = x} c))) d)) = absurd (n (kind_of_same HashbangComment x.kind (and_parts (same_kind HashbangComment x.kind) (not x.escaped) c).0))
without_hashbang n (is_node (is_seq (is_right is_nothing) d)) = record { slots = _; is = refl; rest = d }

-- and the other way round
pub from_hashbang : {f : Flags} {y : Lexeme} {ls : Lexemes} {slots : Slots} {place : ℕ} {final : Lexeme} → y.kind ≡ HashbangComment → y.escaped ≡ false → Takes rule (directives_then Item f) end slots y.to ls end place (last final) → Takes rule (rule (at Program f)) end (tree (program_label final.to) (behind_comment y slots) end) 0 (next y ls) end place (last final)
unfolding rule rule_of
from_hashbang k e d = is_node (is_seq (is_left (is_node (is_lexeme (rw (k, e) refl)))) d)

pub from_start : {f : Flags} {ls : Lexemes} {slots : Slots} {place : ℕ} {final : Lexeme} → Takes rule (directives_then Item f) end slots 0 ls end place (last final) → Takes rule (rule (at Program f)) end (tree (program_label final.to) slots end) 0 ls end place (last final)
unfolding rule rule_of
from_start d = is_node (is_seq (is_right is_nothing) d)

-- a hashbang comment begins with `#`
starts_so : (w : List ℕ) (k : Kind) → hashbang_kind w ≡ Some k → (ws : List ℕ) × (w ≡ 35 ∷ ws)
starts_so [] k e = cc
starts_so (c ∷ ws) k e = go (35 == c) refl
  where
    go : (b : Bool) → (35 == c) ≡ b → (vs : List ℕ) × (c ∷ ws ≡ 35 ∷ vs)
    go false n = absurd (let m : hashbang_kind (c ∷ ws) ≡ None = ap (λ (b : Bool). elim (b && after (codes "!") within_line ws) [ true ↦ Some HashbangComment | false ↦ None ]) n in cc)
    go true n = (ws, ap (λ (a : ℕ). a ∷ ws) (sym (eqb-true 35 c n)))

-- where one stands, it is the only lexeme, whichever goal is asked for
pub alone : {text : List ℕ} {y z : Lexeme} (h : NextLexeme all_faults text 0 y) → h.goal ≡ hashbang_goal → NextLexeme all_faults text 0 z → y ≡ z
alone {text} {y} {z} h g l = go (choice all_faults all_faults text 0 y z h l)
  where
    go : (y ≡ z) ⊎ AtSlashOrBrace text 0 → y ≡ z
    go (inl e) = e
    go (inr a) =
        let w = starts_so h.word y.kind (subst (λ (v : LexicalGoal). kind_in v h.word h.rest ≡ Some y.kind) g h.lexeme.kind) in
        let same = stands-same a.stands h.stands in
        let e : a.first ∷ a.others ≡ 35 ∷ (w.0 ++ h.rest) = same.back ∙ ap (λ (v : List ℕ). v ++ h.rest) w.1 in
        let c : a.first ≡ 35 = cc in
        absurd (false≢true (subst (λ (v : ℕ). one_of (codes "/}") v ≡ true) c a.is))
