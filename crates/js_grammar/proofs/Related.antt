-- Where each line of a grammar is that of another symbol, related symbols in place of its own, a symbol derives what a related one does: for any grammar.
use Rattle.std.proofs.Common.{ℕ, ◌≡◌, Bool, true, false, IsTrue, refl, subst}
use Rattle.js_grammar.specs.Trees.{Slots, tree}
use Rattle.js_grammar.specs.Grammar.{Lexemes, here, seen, Grammar, nothing, never, lexeme, look, text, ahead, empty_slot, seq, alt, when, many, commas, such, marked, node, ended, keep, kept, label_of, semicolon, commas_once, Takes, is_nothing, is_lexeme, is_look, is_text, is_ahead, is_empty_slot, is_seq, is_left, is_right, is_when, is_many, is_commas, is_such, is_marked, is_node, is_ended, is_keep, is_kept}

module _ {N : Type 0} (R : N → N → Type 0) where
  -- the same, but for related symbols
  abbrev pub Like : Grammar N → Grammar N → Type 0
  Like nothing nothing = Unit {0}
  Like never never = Unit {0}
  Like (lexeme p) (lexeme q) = p ≡ q
  Like (look p) (look q) = p ≡ q
  Like (text p) (text q) = p ≡ q
  Like (ahead a) (ahead b) = Like a b
  Like empty_slot empty_slot = Unit {0}
  Like (seq a b) (seq c d) = Like a c × Like b d
  Like (alt a b) (alt c d) = Like a c × Like b d
  Like (when c a) (when d b) = (c ≡ d) × Like a b
  Like (many a) (many b) = Like a b
  Like (commas x a) (commas y b) = (x ≡ y) × Like a b
  Like (such n c) (such m d) = R n m × (c ≡ d)
  Like (marked h n) (marked k m) = R n m × (h ≡ k)
  Like (node m a) (node n b) = (m ≡ n) × Like a b
  Like (ended r a) (ended s b) = (r ≡ s) × Like a b
  Like (keep a b) (keep c d) = Like a c × Like b d
  Like kept kept = Unit {0}
  Like _ _ = ⊥

  pub like_itself : ((n : N) → R n n) → (g : Grammar N) → Like g g
  like_itself r nothing = tt
  like_itself r never = tt
  like_itself r (lexeme p) = refl
  like_itself r (look p) = refl
  like_itself r (text p) = refl
  like_itself r (ahead a) = like_itself r a
  like_itself r empty_slot = tt
  like_itself r (seq a b) = (like_itself r a, like_itself r b)
  like_itself r (alt a b) = (like_itself r a, like_itself r b)
  like_itself r (when c a) = (refl, like_itself r a)
  like_itself r (many a) = like_itself r a
  like_itself r (commas x a) = (refl, like_itself r a)
  like_itself r (such n c) = (r n, refl)
  like_itself r (marked h n) = (r n, refl)
  like_itself r (node m a) = (refl, like_itself r a)
  like_itself r (ended s a) = (refl, like_itself r a)
  like_itself r (keep a b) = (like_itself r a, like_itself r b)
  like_itself r kept = tt

  commas_like : (a b : Grammar N) (x y : Bool) → x ≡ y → Like a b → Like (commas_once x a) (commas_once y b)
  commas_like a b true true q e = (e, ((refl, ((q, e), tt)), tt))
  commas_like a b false false q e = (e, ((refl, (q, e)), tt))
  commas_like a b true false q e = absurd (cc)
  commas_like a b false true q e = absurd (cc)

module _ {N : Type 0} {rule : N → Grammar N} (R : N → N → Type 0) (like_rule : (n m : N) → R n m → Like R (rule n) (rule m)) where
  pub related : (g h : Grammar N) → Like R g h → {ks ts us : Slots} {i j : ℕ} {ls rest : Lexemes} → Takes rule g ks ts i ls us j rest → Takes rule h ks ts i ls us j rest
  related nothing nothing e is_nothing = is_nothing
  related (lexeme p) (lexeme q) e (is_lexeme {x = x} c) = is_lexeme (subst (λ z. IsTrue (seen z x)) e c)
  related (look p) (look q) e (is_look {ls = ls} c) = is_look (subst (λ z. IsTrue (seen z (here ls))) e c)
  related (text p) (text q) e (is_text {ls = ls} c) = is_text (subst (λ z. IsTrue (z (here ls).units)) e c)
  related (ahead a) (ahead b) e (is_ahead d) = is_ahead (related a b e d)
  related empty_slot empty_slot e is_empty_slot = is_empty_slot
  related (seq a b) (seq c d) e (is_seq x y) = is_seq (related a c e.0 x) (related b d e.1 y)
  related (alt a b) (alt c d) e (is_left x) = is_left (related a c e.0 x)
  related (alt a b) (alt c d) e (is_right x) = is_right (related b d e.1 x)
  related (when c a) (when d b) e (is_when h x) = is_when (subst (λ z. IsTrue z) e.0 h) (related a b e.1 x)
  related (many a) (many b) e (is_many x) = is_many (related _ _ ((e, e), tt) x)
  related (commas x a) (commas y b) e (is_commas d) = is_commas (related (commas_once x a) (commas_once y b) (commas_like R a b x y e.0 e.1) d)
  related (such n c) (such m f) e (is_such {l = l} {cs = cs} d h) = is_such (related (rule n) (rule m) (like_rule n m e.0) d) (subst (λ z. IsTrue (z (record { label = l; slots = cs }))) e.1 h)
  related (marked h n) (marked k m) e {ks = ks} (is_marked {l = l} {cs = cs} {us = us} {i = i} {j = j} {ls = ls} {rest = rest} d) =
      subst (λ z. Takes rule (marked z m) ks (tree (h l) cs us) i ls us j rest) e.1 (is_marked (related (rule n) (rule m) (like_rule n m e.0) d))
  related (node m a) (node n b) e {ks = ks} (is_node {cs = cs} {us = us} {i = i} {j = j} {ls = ls} {rest = rest} d) =
      subst (λ z. Takes rule (node z b) ks (tree (label_of m ls j rest) cs us) i ls us j rest) e.0 (is_node (related a b e.1 d))
  related (ended r a) (ended s b) e (is_ended {ks = ks} {cs = cs} {us = us} {vs = vs} {j = j} {k = k} {ls = ls} {mid = mid} {rest = rest} q d x) =
      is_ended q (related a b e.1 d) (subst (λ z. Takes rule (semicolon (z (here ls) cs)) ks us j mid vs k rest) e.0 (related (semicolon (r (here ls) cs)) (semicolon (r (here ls) cs)) (refl, refl) x))
  related (keep a b) (keep c d) e (is_keep x y) = is_keep (related a c e.0 x) (related b d e.1 y)
  related kept kept e (is_kept q) = is_kept q
  related never h e d = elim d [ ]
  related g h e d = absurd e
