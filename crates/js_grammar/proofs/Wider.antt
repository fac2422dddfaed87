-- Where each rule is taken by another rule's weaker conditions, what a symbol derives the other symbol derives: for any grammar.
use Rattle.std.proofs.Common.{ℕ, ◌≡◌, Bool, true, false, IsTrue, refl, sym, subst}
use Rattle.js_grammar.specs.Trees.{Tree, Slots, tree}
use Rattle.js_grammar.specs.Grammar.{Lexemes, here, seen, Grammar, nothing, never, lexeme, look, text, ahead, empty_slot, seq, alt, when, many, commas, such, marked, node, ended, keep, kept, label_of, semicolon, commas_once, Takes, Derives, is_nothing, is_lexeme, is_look, is_text, is_ahead, is_empty_slot, is_seq, is_left, is_right, is_when, is_many, is_commas, is_such, is_marked, is_node, is_ended, is_keep, is_kept}
use Rattle.js_grammar.proofs.Renamed.{renamed}

module _ {N : Type 0} (w : N → N) where
  -- g, with its symbols changed by w, and weaker conditions
  abbrev pub Le : Grammar N → Grammar N → Type 0
  Le nothing nothing = Unit {0}
  Le never never = Unit {0}
  Le (lexeme p) (lexeme q) = p ≡ q
  Le (look p) (look q) = p ≡ q
  Le (text p) (text q) = p ≡ q
  Le (ahead a) (ahead b) = Le a b
  Le empty_slot empty_slot = Unit {0}
  Le (seq a b) (seq c d) = Le a c × Le b d
  Le (alt a b) (alt c d) = Le a c × Le b d
  Le (when c a) (when d b) = (c ≡ true → d ≡ true) × Le a b
  Le (many a) (many b) = Le a b
  Le (commas x a) (commas y b) = (x ≡ y) × Le a b
  Le (such n c) (such m d) = (m ≡ w n) × (c ≡ d)
  Le (marked h n) (marked k m) = (m ≡ w n) × (h ≡ k)
  Le (node m a) (node n b) = (m ≡ n) × Le a b
  Le (ended r a) (ended s b) = (r ≡ s) × Le a b
  Le (keep a b) (keep c d) = Le a c × Le b d
  Le kept kept = Unit {0}
  Le _ _ = ⊥

  pub le_renamed : (g : Grammar N) → Le g (renamed w g)
  le_renamed nothing = tt
  le_renamed never = tt
  le_renamed (lexeme p) = refl
  le_renamed (look p) = refl
  le_renamed (text p) = refl
  le_renamed (ahead a) = le_renamed a
  le_renamed empty_slot = tt
  le_renamed (seq a b) = (le_renamed a, le_renamed b)
  le_renamed (alt a b) = (le_renamed a, le_renamed b)
  le_renamed (when c a) = (λ q. q, le_renamed a)
  le_renamed (many a) = le_renamed a
  le_renamed (commas x a) = (refl, le_renamed a)
  le_renamed (such n c) = (refl, refl)
  le_renamed (marked h n) = (refl, refl)
  le_renamed (node m a) = (refl, le_renamed a)
  le_renamed (ended r a) = (refl, le_renamed a)
  le_renamed (keep a b) = (le_renamed a, le_renamed b)
  le_renamed kept = tt

commas_le : {N : Type 0} (w : N → N) (a b : Grammar N) (x y : Bool) → x ≡ y → Le w a b → Le w (commas_once x a) (commas_once y b)
commas_le w a b true true q e = (e, ((refl, ((q, e), tt)), tt))
commas_le w a b false false q e = (e, ((refl, (q, e)), tt))
commas_le w a b true false q e = absurd (cc)
commas_le w a b false true q e = absurd (cc)

module _ {N : Type 0} {rule : N → Grammar N} (w : N → N) (le_rule : (n : N) → Le w (rule n) (rule (w n))) where
  pub le_right : (g h : Grammar N) → Le w g h → {ks ts us : Slots} {i j : ℕ} {ls rest : Lexemes} → Takes rule g ks ts i ls us j rest → Takes rule h ks ts i ls us j rest
  le_right nothing nothing e is_nothing = is_nothing
  le_right (lexeme p) (lexeme q) e (is_lexeme {x = x} c) = is_lexeme (subst (λ z. IsTrue (seen z x)) e c)
  le_right (look p) (look q) e (is_look {ls = ls} c) = is_look (subst (λ z. IsTrue (seen z (here ls))) e c)
  le_right (text p) (text q) e (is_text {ls = ls} c) = is_text (subst (λ z. IsTrue (z (here ls).units)) e c)
  le_right (ahead a) (ahead b) e (is_ahead d) = is_ahead (le_right a b e d)
  le_right empty_slot empty_slot e is_empty_slot = is_empty_slot
  le_right (seq a b) (seq c d) e (is_seq x y) = is_seq (le_right a c e.0 x) (le_right b d e.1 y)
  le_right (alt a b) (alt c d) e (is_left x) = is_left (le_right a c e.0 x)
  le_right (alt a b) (alt c d) e (is_right x) = is_right (le_right b d e.1 x)
  le_right (when c a) (when d b) e (is_when h x) = is_when (e.0 h) (le_right a b e.1 x)
  le_right (many a) (many b) e (is_many x) = is_many (le_right _ _ ((e, e), tt) x)
  le_right (commas x a) (commas y b) e (is_commas d) = is_commas (le_right (commas_once x a) (commas_once y b) (commas_le w a b x y e.0 e.1) d)
  le_right (such n c) (such m f) e {ks = ks} (is_such {l = l} {cs = cs} {us = us} {i = i} {j = j} {ls = ls} {rest = rest} d h) =
      subst (λ z. Takes rule (such z f) ks (tree l cs us) i ls us j rest) (sym e.0) (is_such (le_right (rule n) (rule (w n)) (le_rule n) d) (subst (λ z. IsTrue (z (record { label = l; slots = cs }))) e.1 h))
  le_right (marked h n) (marked k m) e {ks = ks} (is_marked {l = l} {cs = cs} {us = us} {i = i} {j = j} {ls = ls} {rest = rest} d) =
      subst (λ z. Takes rule (marked z m) ks (tree (h l) cs us) i ls us j rest) e.1 (subst (λ z. Takes rule (marked h z) ks (tree (h l) cs us) i ls us j rest) (sym e.0) (is_marked (le_right (rule n) (rule (w n)) (le_rule n) d)))
  le_right (node m a) (node n b) e {ks = ks} (is_node {cs = cs} {us = us} {i = i} {j = j} {ls = ls} {rest = rest} d) =
      subst (λ z. Takes rule (node z b) ks (tree (label_of m ls j rest) cs us) i ls us j rest) e.0 (is_node (le_right a b e.1 d))
  le_right (ended r a) (ended s b) e (is_ended {ks = ks} {cs = cs} {us = us} {vs = vs} {j = j} {k = k} {ls = ls} {mid = mid} {rest = rest} q d x) =
      is_ended q (le_right a b e.1 d) (subst (λ z. Takes rule (semicolon (z (here ls) cs)) ks us j mid vs k rest) e.0 (le_right (semicolon (r (here ls) cs)) (semicolon (r (here ls) cs)) (refl, refl) x))
  le_right (keep a b) (keep c d) e (is_keep x y) = is_keep (le_right a c e.0 x) (le_right b d e.1 y)
  le_right kept kept e (is_kept q) = is_kept q
  le_right never h e d = elim d [ ]
  le_right g h e d = absurd e

  pub le_derives : (n : N) (t : Tree) {i j : ℕ} {ls rest : Lexemes} → Derives rule n t i ls j rest → Derives rule (w n) t i ls j rest
  le_derives n t d = le_right (rule n) (rule (w n)) (le_rule n) d
