-- The word `super` is neither a MemberExpression nor a NewExpression.
use Rattle.std.proofs.Common.{ℕ, ◌≡◌, Bool, true, false, not, ◌&&◌, List, inl, refl, sym, ap, subst, ◌∙◌}
use Rattle.std.proofs.lemmas.Bool.{false≢true, and_parts}
use Rattle.js_base.specs.declared.kind.Kind.TheVariants.{Super as super_kind}
use Rattle.js_grammar.specs.Trees.{Slots, end, tree, Label}
use Rattle.js_grammar.specs.Grammar.{Lexeme, Lexemes, last, nothing, Takes, alt, never, node, such, when, is_nothing, is_lexeme, is_look, is_text, is_ahead, is_empty_slot, is_seq, is_left, is_right, is_when, is_many, is_commas, is_such, is_marked, is_node, is_ended, is_keep, is_kept}
use Rattle.js_grammar.specs.Follow.{after}
use Rattle.js_grammar.specs.Parsing.{always, full, plain}
use Rattle.js_grammar.specs.Productions.{G, Flags, Name, Symbol, at, New, Member, Primary, IdentifierReference, Object, FuncExpr, ClassExpr, Template}
use Rattle.js_grammar.specs.Productions.{sym as symbol}
use Rattle.js_grammar.specs.Table.{rule, rule_of}
use Rattle.laws_shared.specs.Answers.{Stretch, Underived}
use Rattle.laws_shared.specs.Lexemes.{Lex}
use Rattle.laws_shared.proofs.Signs.{NoneIs}
use Rattle.laws_primary.specs.Members.{NoBareNew, SuperWord, is_super_word, without_arguments}
use Rattle.laws_primary.proofs.Links.{no_super_word}

-- ---- over the whole table

abbrev other_name : Name → Bool
other_name New = true
other_name Member = true
other_name Primary = true
other_name IdentifierReference = true
other_name Object = true
other_name FuncExpr = true
other_name ClassExpr = true
other_name Template = true
other_name _ = false

-- each tree that it derives has another root
abbrev others : G → Bool
others never = true
others (alt a b) = others a && others b
others (when c a) = others a
others (such n c) = other_name n.name
others (node m a) = not (is_super_word m.kind)
others g = false

abbrev other_root : Slots → Bool
other_root (tree l cs us) = not (is_super_word l.kind)
other_root ts = true

others_at : (n : Name) (f : Flags) → other_name n ≡ true → others (rule_of n f) ≡ true
unfolding rule_of
others_at New f h = refl
others_at Member f h = refl
others_at Primary f h = refl
others_at IdentifierReference f h = refl
others_at Object f h = refl
others_at FuncExpr f h = refl
others_at ClassExpr f h = refl
others_at Template f h = refl
others_at _ f h = absurd (false≢true h)

others_line : (n : Symbol) → other_name n.name ≡ true → others (rule n) ≡ true
unfolding rule
others_line n h = others_at n.name n.flags h

rooted : {g : G} {ks ts us : Slots} {i j : ℕ} {ls rest : Lexemes} → Takes rule g ks ts i ls us j rest → others g ≡ true → other_root ts ≡ true
rooted (is_left {a = a} {b = b} d) h = rooted d (and_parts (others a) (others b) h).0
rooted (is_right {a = a} {b = b} d) h = rooted d (and_parts (others a) (others b) h).1
rooted (is_when c d) h = rooted d h
rooted (is_such {n = n} d c) h = rooted d (others_line n h)
rooted (is_node d) h = h
rooted is_nothing h = absurd (false≢true h)
rooted (is_lexeme q) h = absurd (false≢true h)
rooted (is_look q) h = absurd (false≢true h)
rooted (is_text q) h = absurd (false≢true h)
rooted (is_ahead d) h = absurd (false≢true h)
rooted is_empty_slot h = absurd (false≢true h)
rooted (is_seq d e) h = absurd (false≢true h)
rooted (is_many d) h = absurd (false≢true h)
rooted (is_commas d) h = absurd (false≢true h)
rooted (is_marked d) h = absurd (false≢true h)
rooted (is_ended q d e) h = absurd (false≢true h)
rooted (is_keep d e) h = absurd (false≢true h)
rooted (is_kept q) h = absurd (false≢true h)

contrary : {b : Bool} → not b ≡ true → b ≡ true → ⊥
contrary {b} n h = false≢true (sym (ap not h) ∙ n)

as_new : {f : Flags} {ts us : Slots} {i j : ℕ} {ls rest : Lexemes} → Takes rule (without_arguments f) end ts i ls us j rest → Takes rule (symbol New f) end ts i ls us j rest
unfolding rule rule_of
as_new (is_node d) = is_such (is_right (is_node d)) refl

module _ {text : List ℕ} {f : Flags} {s s' : ℕ} {l : Label} {cs : Slots} {pass : Lexemes → Lexemes} where
  pub no_super_member : is_super_word l.kind ≡ true → Stretch text (after (at Member f)) (such (at Member f) always) s nothing s' (tree l cs) pass → Underived text (at Member f) s
  no_super_member h y = record { no = λ ts vs k ls rest lx d e. let x = y.goes.only ts vs k ls rest lx d e in contrary (subst (λ (v : Slots). other_root v ≡ true) x.2 (rooted d refl)) h }

  pub no_super_new : is_super_word l.kind ≡ true → Stretch text (after (at New f)) (such (at New f) always) s nothing s' (tree l cs) pass → NoBareNew text f s
  no_super_new h y = record { no = λ ts vs k ls rest lx d e. let x = y.goes.only ts vs k ls rest lx (as_new d) e in contrary (subst (λ (v : Slots). other_root v ≡ true) x.2 (rooted (as_new d) refl)) h }

-- the word isn't read where another one stands
pub no_super_there : {text : List ℕ} (f : Flags) {s s' : ℕ} {l : Label} {cs : Slots} {pass : Lexemes → Lexemes} → NoneIs text s super_kind → SuperWord text f s l cs pass s' → (y : Lexeme) → Lex text s' y → ⊥
no_super_there f {s' = s'} n x y i = (no_super_word f {X = plain full} n).no _ _ _ _ _ (x.word.goes.passes.lexed (last y) i) (x.word.goes.sound end end s' (last y) (last y) i (inl x.word.near) is_nothing) (refl, refl)
