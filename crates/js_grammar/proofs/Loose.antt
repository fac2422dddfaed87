-- Strict is loose: what the table derives, it derives where more is let in, under the parameters of the cover grammar and of the wider targets.
use Rattle.std.proofs.Common.{ℕ, ◌≡◌, Bool, true, false, refl, sym, subst, rules}
use Rattle.std.proofs.lemmas.Bool.{false≢true}
use Rattle.js_grammar.specs.Trees.{Tree}
use Rattle.js_grammar.specs.Grammar.{Lexemes, Derives}
use Rattle.js_grammar.specs.Productions.{Flags, Name, Symbol, at, Params, Property, ArrayTarget, ObjectTarget, TargetElement, Pattern, BindingRest}
use Rattle.js_grammar.specs.Table.{rule, rule_of}
use Rattle.js_grammar.specs.Marks.{loose}
use Rattle.js_grammar.specs.TableLaws.{loosely}
use Rattle.js_grammar.proofs.Renamed.{renamed}
use Rattle.js_grammar.proofs.Wider.{Le, le_renamed, le_derives}

abbrev pub is_property_line : Name → Bool
is_property_line Property = true
is_property_line _ = false

-- the one of shorthands with an initialiser alone
abbrev pub cover : Symbol → Symbol
cover s = at s.name (record (s.flags) { cover = true })

-- the lines that let in more in a wider form
abbrev opens : Name → Bool
opens Params = true
opens Property = true
opens ArrayTarget = true
opens ObjectTarget = true
opens TargetElement = true
opens Pattern = true
opens BindingRest = true
opens _ = false

loose_same : (n : Name) (f : Flags) → opens n ≡ false → renamed loosely (rule_of n f) ≡ rule_of n (loose f)
unfolding rule_of
loose_same Params f h = absurd (false≢true (sym h))
loose_same Property f h = absurd (false≢true (sym h))
loose_same ArrayTarget f h = absurd (false≢true (sym h))
loose_same ObjectTarget f h = absurd (false≢true (sym h))
loose_same TargetElement f h = absurd (false≢true (sym h))
loose_same Pattern f h = absurd (false≢true (sym h))
loose_same BindingRest f h = absurd (false≢true (sym h))
loose_same n f h = refl

loose_opens : (n : Name) (f : Flags) → opens n ≡ true → Le loosely (rule_of n f) (rule_of n (loose f))
unfolding rule_of
loose_opens Params f h = search rules
loose_opens Property f h = search rules
loose_opens ArrayTarget f h = search rules
loose_opens ObjectTarget f h = search rules
loose_opens TargetElement f h = search rules
loose_opens Pattern f h = search rules
loose_opens BindingRest f h = search rules
loose_opens n f h = absurd (false≢true h)

loose_rule : (s : Symbol) → Le loosely (rule s) (rule (loosely s))
unfolding rule
loose_rule s = go (opens s.name) refl
  where
    go : (b : Bool) → opens s.name ≡ b → Le loosely (rule_of s.name s.flags) (rule_of s.name (loose s.flags))
    go true h = loose_opens s.name s.flags h
    go false h = subst (Le loosely (rule_of s.name s.flags)) (loose_same s.name s.flags h) (le_renamed loosely (rule_of s.name s.flags))

cover_same : (n : Name) (f : Flags) → is_property_line n ≡ false → renamed cover (rule_of n f) ≡ rule_of n (record f { cover = true })
unfolding rule_of
cover_same Property f h = absurd (false≢true (sym h))
cover_same n f h = refl

cover_property : (n : Name) (f : Flags) → is_property_line n ≡ true → Le cover (rule_of n f) (rule_of n (record f { cover = true }))
unfolding rule_of
cover_property Property f h = search rules
cover_property n f h = absurd (false≢true h)

cover_rule : (s : Symbol) → Le cover (rule s) (rule (cover s))
unfolding rule
cover_rule s = go (is_property_line s.name) refl
  where
    go : (b : Bool) → is_property_line s.name ≡ b → Le cover (rule_of s.name s.flags) (rule_of s.name (record (s.flags) { cover = true }))
    go true h = cover_property s.name s.flags h
    go false h = subst (Le cover (rule_of s.name s.flags)) (cover_same s.name s.flags h) (le_renamed cover (rule_of s.name s.flags))

pub strict_is_loose : (s : Symbol) (t : Tree) {i j : ℕ} {ls rest : Lexemes} → Derives rule s t i ls j rest → Derives rule (loosely s) t i ls j rest
strict_is_loose s t d = le_derives loosely loose_rule s t d

pub strict_is_cover : (s : Symbol) (t : Tree) {i j : ℕ} {ls rest : Lexemes} → Derives rule s t i ls j rest → Derives rule (cover s) t i ls j rest
strict_is_cover s t d = le_derives cover cover_rule s t d
