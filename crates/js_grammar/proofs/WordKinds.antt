-- The kinds that are words stand first, in the order of the keyword table: what tests their place tests the lists of words.
use Rattle.std.proofs.Common.{◌≡◌, true, ◌||◌, refl, ◌∷◌}
use Rattle.std.proofs.Math.Bool.{beq}
use Rattle.std.specs.Cmp.{booleans_Decides}
use Rattle.js_base.specs.declared.kind.Kind.{Kind}
use Rattle.js_base.specs.declared.kind.Kind.TheVariants.{Ident}
use Rattle.js_base.specs.Kinds.{every_kind, kinds, same_kind, one_of_kinds}
use Rattle.js_base.specs.Texts.{words, contextual_words}
use Rattle.js_base.proofs.KindLemmas.{at_each}
use Rattle.js_grammar.specs.Insertion.{may_bind}
use Rattle.js_grammar.specs.Lexemes.{is_word}

words_agree : every_kind (λ k. beq (is_word k) (same_kind Ident k || one_of_kinds words k)) kinds ≡ true
unfolding kinds words
words_agree = refl

pub law_of_words : (k : Kind) → is_word k ≡ (same_kind Ident k || one_of_kinds words k)
law_of_words k = (booleans_Decides _ _).0 (at_each (λ k'. beq (is_word k') (same_kind Ident k' || one_of_kinds words k')) words_agree k)

names_agree : every_kind (λ k. beq (may_bind k) (one_of_kinds (Ident ∷ contextual_words) k)) kinds ≡ true
unfolding kinds
names_agree = refl

pub law_of_names : (k : Kind) → may_bind k ≡ one_of_kinds (Ident ∷ contextual_words) k
law_of_names k = (booleans_Decides _ _).0 (at_each (λ k'. beq (may_bind k') (one_of_kinds (Ident ∷ contextual_words) k')) names_agree k)
