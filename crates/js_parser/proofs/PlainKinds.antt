-- Kinds of lexemes of the plain goal, words among them.
use Rattle.std.proofs.Common.{ℕ, ◌≡◌, Bool, true, false, List, Some, inl, inr, refl, sym, ap, ◌∙◌}
use Rattle.std.proofs.lemmas.Bool.{false≢true}
use Rattle.js_base.specs.Kinds.{one_of_kinds}
use Rattle.js_base.specs.KindSets.{identifier_name_kinds}
use Rattle.js_base.specs.declared.kind.Kind.{Kind}
use Rattle.js_base.specs.declared.kind.Kind.TheVariants.{RegExp, TemplateMiddle, TemplateTail, HashbangComment}
use Rattle.js_grammar.specs.Grammar.{Look}
use Rattle.js_grammar.specs.Lexemes.{LexicalGoal, division, regular_expression, template_tail, hashbang, Opening, is_word, kind_in}
use Rattle.js_grammar.proofs.Looks.{covers}
use Rattle.js_cursor.proofs.part_words.KindsOfLexemes.{pattern_is, tail_is, hashbang_is}

-- a kind of no other goal is one of the plain goal
pub plainly : (passes : Kind → Bool) → passes RegExp ≡ false → passes TemplateMiddle ≡ false → passes TemplateTail ≡ false → passes HashbangComment ≡ false
    → (g : LexicalGoal) (w rest : List ℕ) (k : Kind) → kind_in g w rest ≡ Some k → passes k ≡ true → kind_in division w rest ≡ Some k
plainly passes a b c d division w rest k h p = h
plainly passes a b c d regular_expression w rest k h p = absurd (false≢true (sym a ∙ ap passes (sym (pattern_is w k h)) ∙ p))
plainly passes a b c d template_tail w rest k h p = absurd (elim (tail_is w k h) [ inl e ↦ false≢true (sym b ∙ ap passes (sym e) ∙ p) | inr e ↦ false≢true (sym c ∙ ap passes (sym e) ∙ p) ])
plainly passes a b c d hashbang w rest k h p = absurd (false≢true (sym d ∙ ap passes (sym (hashbang_is w k h)) ∙ p))

-- words
abbrev pub a_word : Look
a_word k w e = is_word k

abbrev pub a_name_kind : Look
a_name_kind k w e = one_of_kinds identifier_name_kinds k

pub words_are : covers a_word a_name_kind ≡ true
unfolding covers
words_are = refl

pub same_opening : (a b : Opening) → Some a ≡ Some b → a ≡ b
same_opening a b e = cc
