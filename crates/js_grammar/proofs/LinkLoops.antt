-- The loop over links behind a member, over any lexing: what begins a link, and the link that it is, are computed from the table.
use Rattle.std.proofs.Common.{ℕ, ◌≡◌, ◌⊎◌, inl, inr, Bool, true, false, refl, sym, ◌∙◌, subst}
use Rattle.std.proofs.lemmas.Bool.{false≢true}
use Rattle.js_base.specs.declared.kind.Kind.{Kind}
use Rattle.js_base.specs.declared.kind.Kind.TheVariants.{Dot, LBrack, RBrack}
use Rattle.js_grammar.specs.Trees.{static_member_expression, private_field_expression, computed_member_expression, no_op, Slots, end, Label, tree}
use Rattle.js_grammar.specs.Grammar.{Lexeme, ◌▸◌}
use Rattle.js_grammar.specs.Productions.{Flags, Symbol, at, tok, plus_in, Expression, IdentifierName, PrivateName, Member}
use Rattle.js_grammar.specs.Productions.{sym as symbol}
use Rattle.js_grammar.specs.Parsing.{full, plain, Way, joined, Admits, Reads, Fails}
use Rattle.js_grammar.specs.Table.{rule, rule_of}
use Rattle.js_grammar.specs.Follow.{Edge, edge_of, follow_of, after}
use Rattle.js_grammar.specs.Towers.{Link, link, linked_label, this, of_left, of_right, Around}
use Rattle.js_grammar.specs.Chains.{is_member, members}
use Rattle.js_grammar.proofs.Looks.{covers}
use Rattle.js_grammar.proofs.FirstClaims.{firsts}
use Rattle.js_grammar.proofs.Towers.{OneOf, head, later}
use Rattle.js_grammar.proofs.Loops.{chain_step_by, beginning}
use Rattle.js_grammar.proofs.Chains.{climbs, member_links}

-- of a member so much was read
abbrev pub OfMember : (ℕ → Lexeme → Type 0) → Flags → ℕ → ℕ → Label → Slots → ℕ → Way → Type 0
OfMember Lex f s from l cs s' way = Around Lex (after (at Member f)) (members f) 0 s from 1 l cs s' way

-- `.name`, `.#name`, `[..]`
abbrev pub named : Flags → Link Symbol
named f = link static_member_expression no_op 0 (tok Dot ▸ symbol IdentifierName f)

abbrev pub private : Flags → Link Symbol
private f = link private_field_expression no_op 0 (tok Dot ▸ symbol PrivateName f)

abbrev pub indexed : Flags → Link Symbol
indexed f = link computed_member_expression no_op 0 (tok LBrack ▸ symbol Expression (plus_in f) ▸ tok RBrack)

-- a member doesn't end before a dot or a bracket
not_before : (Lex : ℕ → Lexeme → Type 0) (f : Flags) (k : Kind) → ((d : Edge) (w : Bool) → follow_of Member f.in_ d k w false ≡ false) → {s' : ℕ} (l : Label) (cs : Slots) → ((y : Lexeme) → Lex s' y → (y.kind ≡ k) × (y.escaped ≡ false)) → (y : Lexeme) → Lex s' y → Admits (after (at Member f)) (tree l cs end) y → ⊥
not_before Lex f k h l cs z y i e = false≢true (sym (h (edge_of l cs) y.newline) ∙ subst (λ v. follow_of Member f.in_ (edge_of l cs) v y.newline false ≡ true) (z y i).0 (subst (λ v. follow_of Member f.in_ (edge_of l cs) y.kind y.newline v ≡ true) (z y i).1 e.1))

module _ {Lex : ℕ → Lexeme → Type 0} (f : Flags) where
  -- a dot and a name stand here
  pub member_name : {s from s' s'' : ℕ} {way rm : Way} {l : Label} {cs : Slots} {h : Slots → Slots} → OfMember Lex f s from l cs s' way → ((y : Lexeme) → Lex s' y → (y.kind ≡ Dot) × (y.escaped ≡ false)) → Fails rule Lex (plain full) end (private f).part s' → Reads rule Lex (plain full) end (named f).part s' s'' h rm
      → OfMember Lex f s from (linked_label (named f) from s'') (tree l cs (h end)) s'' (joined way rm)
  unfolding member_links rule_of covers
  member_name {s' = s'} {l = l} {cs = cs} a z n r = chain_step_by firsts (climbs is_member Member f) (member_links f) {F' = full} Dot a (λ y i. (z y i).0) (search (this, of_left, of_right) depth 14) others (not_before Lex f Dot (λ d w. refl) l cs z) r refl refl
    where
      others : (x' : Link Symbol) → OneOf x' (beginning firsts (member_links f) Dot) → (x' ≡ named f) ⊎ Fails rule Lex (plain full) end x'.part s'
      others x' head = inl refl
      others x' (later head) = inr n
      others x' (later (later i)) = elim i [ ]

  pub member_private : {s from s' s'' : ℕ} {way rm : Way} {l : Label} {cs : Slots} {h : Slots → Slots} → OfMember Lex f s from l cs s' way → ((y : Lexeme) → Lex s' y → (y.kind ≡ Dot) × (y.escaped ≡ false)) → Fails rule Lex (plain full) end (named f).part s' → Reads rule Lex (plain full) end (private f).part s' s'' h rm
      → OfMember Lex f s from (linked_label (private f) from s'') (tree l cs (h end)) s'' (joined way rm)
  unfolding member_links rule_of covers
  member_private {s' = s'} {l = l} {cs = cs} a z n r = chain_step_by firsts (climbs is_member Member f) (member_links f) {F' = full} Dot a (λ y i. (z y i).0) (search (this, of_left, of_right) depth 14) others (not_before Lex f Dot (λ d w. refl) l cs z) r refl refl
    where
      others : (x' : Link Symbol) → OneOf x' (beginning firsts (member_links f) Dot) → (x' ≡ private f) ⊎ Fails rule Lex (plain full) end x'.part s'
      others x' head = inr n
      others x' (later head) = inl refl
      others x' (later (later i)) = elim i [ ]

  -- an expression in brackets stands here
  pub member_index : {s from s' s'' : ℕ} {way rm : Way} {l : Label} {cs : Slots} {h : Slots → Slots} → OfMember Lex f s from l cs s' way → ((y : Lexeme) → Lex s' y → (y.kind ≡ LBrack) × (y.escaped ≡ false)) → Reads rule Lex (plain full) end (indexed f).part s' s'' h rm
      → OfMember Lex f s from (linked_label (indexed f) from s'') (tree l cs (h end)) s'' (joined way rm)
  unfolding member_links rule_of covers
  member_index {s' = s'} {l = l} {cs = cs} a z r = chain_step_by firsts (climbs is_member Member f) (member_links f) {F' = full} LBrack a (λ y i. (z y i).0) (search (this, of_left, of_right) depth 14) others (not_before Lex f LBrack (λ d w. refl) l cs z) r refl refl
    where
      others : (x' : Link Symbol) → OneOf x' (beginning firsts (member_links f) LBrack) → (x' ≡ indexed f) ⊎ Fails rule Lex (plain full) end x'.part s'
      others x' head = inl refl
      others x' (later i) = elim i [ ]
