-- The nonterminals that the table writes by left recursion, the levels of operators aside, each as a loop over links behind itself: all computed from its line.
use Rattle.std.specs.Prelude.{Bool, true, false, cond}
use Rattle.js_grammar.specs.Grammar.{Make, Grammar, never, seq, alt, when, such, node}
use Rattle.js_grammar.specs.Productions.{Flags, Name, Symbol, G, at, Coalesce, Member, Call, Links, DecoratorMember}
use Rattle.js_grammar.specs.Table.{rule, rule_of}
use Rattle.js_grammar.specs.Towers.{Tower, chain}

-- ---- the choices of a rule that stand behind the symbol itself, as links, and the others, as feet

-- What begins a node, without the symbol itself.
abbrev pub other_heads : {N : Type 0} → (N → Bool) → Grammar N → Grammar N
other_heads own (such n c) = cond (own n) never (such n c)
other_heads own (alt a b) = alt (other_heads own a) (other_heads own b)
other_heads own g = g

-- The nodes that begin with it, of those that begin with h and go on with t.
abbrev pub own_nodes : {N : Type 0} → (N → Bool) → Make → Grammar N → Grammar N → Grammar N
own_nodes own m t (such n c) = cond (own n) (node m (seq (such n c) t)) never
own_nodes own m t (alt a b) = alt (own_nodes own m t a) (own_nodes own m t b)
own_nodes own m t g = never

abbrev pub feet : {N : Type 0} → (N → Bool) → Grammar N → Grammar N
feet own (alt a b) = alt (feet own a) (feet own b)
feet own (when c a) = when c (feet own a)
feet own (node m (seq h t)) = node m (seq (other_heads own h) t)
feet own g = g

abbrev pub links : {N : Type 0} → (N → Bool) → Grammar N → Grammar N
links own (alt a b) = alt (links own a) (links own b)
links own (when c a) = when c (links own a)
links own (node m (seq h t)) = own_nodes own m t h
links own g = never

-- ---- of the table

-- the symbol itself, by its name
abbrev pub is_coalesce : Symbol → Bool
is_coalesce s = named s.name
  where
    named : Name → Bool
    named Coalesce = true
    named _ = false

abbrev pub is_member : Symbol → Bool
is_member s = named s.name
  where
    named : Name → Bool
    named Member = true
    named _ = false

abbrev pub is_call : Symbol → Bool
is_call s = named s.name
  where
    named : Name → Bool
    named Call = true
    named _ = false

abbrev pub is_links : Symbol → Bool
is_links s = named s.name
  where
    named : Name → Bool
    named Links = true
    named _ = false

abbrev pub is_decorator_member : Symbol → Bool
is_decorator_member s = named s.name
  where
    named : Name → Bool
    named DecoratorMember = true
    named _ = false

module _ (own : Symbol → Bool) (n : Name) (f : Flags) where
  -- what the loop begins with, and what goes around it
  abbrev pub base_of : G
  base_of = feet own (rule_of n f)

  abbrev pub links_of : G
  links_of = links own (rule_of n f)

module _ (f : Flags) where
  -- The loops: behind `??`; accesses and templates behind members and calls; the links of an optional chain; names behind a decorator's.
  abbrev pub coalesces : Tower rule
  coalesces = chain (at Coalesce f) (base_of is_coalesce Coalesce f) (links_of is_coalesce Coalesce f)

  abbrev pub members : Tower rule
  members = chain (at Member f) (base_of is_member Member f) (links_of is_member Member f)

  abbrev pub calls : Tower rule
  calls = chain (at Call f) (base_of is_call Call f) (links_of is_call Call f)

  abbrev pub chains : Tower rule
  chains = chain (at Links f) (base_of is_links Links f) (links_of is_links Links f)

  abbrev pub decorator_members : Tower rule
  decorator_members = chain (at DecoratorMember f) (base_of is_decorator_member DecoratorMember f) (links_of is_decorator_member DecoratorMember f)
