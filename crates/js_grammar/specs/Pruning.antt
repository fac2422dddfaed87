-- A grammar on texts that hold lexemes of some kinds alone, none with an escape: what needs another one falls away.
use Rattle.std.specs.Prelude.{Bool, List, [], cond, false, true, ◌&&◌, ◌||◌, ◌∷◌}
use Rattle.js_base.specs.declared.kind.Kind.{Kind}
use Rattle.js_base.specs.Kinds.{every_kind}
use Rattle.js_grammar.specs.Grammar.{Grammar, Look, ahead, alt, commas, empty_slot, ended, keep, kept, lexeme, look, many, marked, never, node, nothing, seq, such, text, when}

abbrev pub is_never : {N : Type 0} → Grammar N → Bool
is_never never = true
is_never _ = false

abbrev pub is_nothing : {N : Type 0} → Grammar N → Bool
is_nothing nothing = true
is_nothing _ = false

abbrev pub some_kind : (Kind → Bool) → List Kind → Bool
some_kind p [] = false
some_kind p (k ∷ ks) = p k || some_kind p ks

abbrev pub if_some : {N : Type 0} → Grammar N → Grammar N → Grammar N
if_some a g = cond (is_never a) never g

abbrev pub seq_of : {N : Type 0} → Grammar N → Grammar N → Grammar N
seq_of a b = cond (is_never a || is_never b) never (cond (is_nothing a) b (seq a b))

abbrev pub alt_of : {N : Type 0} → Grammar N → Grammar N → Grammar N
alt_of a b = cond (is_never a) b (cond (is_never b) a (alt a b))

abbrev pub many_of : {N : Type 0} → Grammar N → Grammar N
many_of a = cond (is_never a) nothing (many a)

-- a test of a lexeme without escape, on a new line or not
abbrev pub some_line : Look → Kind → Bool
some_line p k = p k true false || p k false false

abbrev pub each_line : Look → Kind → Bool
each_line p k = p k true false && p k false false

module _ {N : Type 0} (dead : N → Bool) (core : List Kind) where
  -- a look that each of these lexemes passes, or none
  abbrev pub look_of : Look → Grammar N
  look_of p = cond (every_kind (each_line p) core) nothing (cond (some_kind (some_line p) core) (look p) never)

  -- `dead` tells the symbols that derive nothing there
  abbrev pub pruned : Grammar N → Grammar N
  pruned nothing = nothing
  pruned never = never
  pruned (lexeme p) = cond (some_kind (some_line p) core) (lexeme p) never
  pruned (look p) = look_of p
  pruned (text p) = text p
  pruned (ahead a) = if_some (pruned a) (ahead (pruned a))
  pruned empty_slot = empty_slot
  pruned (seq a b) = seq_of (pruned a) (pruned b)
  pruned (alt a b) = alt_of (pruned a) (pruned b)
  pruned (when c a) = if_some (pruned a) (when c (pruned a))
  pruned (many a) = many_of (pruned a)
  pruned (commas b a) = if_some (pruned a) (commas b (pruned a))
  pruned (such n c) = cond (dead n) never (such n c)
  pruned (marked h n) = cond (dead n) never (marked h n)
  pruned (node m a) = if_some (pruned a) (node m (pruned a))
  pruned (ended rows a) = if_some (pruned a) (ended rows (pruned a))
  pruned (keep a b) = cond (is_never (pruned a) || is_never (pruned b)) never (keep (pruned a) (pruned b))
  pruned kept = kept
