-- The nonterminals that the table writes by left recursion, the levels of operators aside, each as a loop over links behind itself: all computed from its line.
use Rattle.std.proofs.Common.{Bool}
use Rattle.js_grammar.specs.Grammar.{alt}
use Rattle.js_grammar.specs.Productions.{Flags, Name, Symbol, at, Coalesce, Member, Call, Links, DecoratorMember}
use Rattle.js_grammar.specs.Table.{rule, rule_of}
use Rattle.js_grammar.specs.Chains.{is_coalesce, is_member, is_call, is_links, is_decorator_member, base_of, links_of, coalesces}
use Rattle.js_grammar.proofs.Towers.{Same, one, two, guarded, none_at_all, Lawful, chain_lawful}
use Rattle.js_grammar.proofs.Towers.{Links as LinksOf}
use Rattle.js_grammar.proofs.Split.{split}

module _ (own : Symbol → Bool) (n : Name) (f : Flags) where
  pub climbs : Same rule (rule (at n f)) (alt (base_of own n f) (links_of own n f))
  unfolding rule
  climbs = split own (rule_of n f)

module _ (f : Flags) where
  unfoldable pub coalesce_links : LinksOf (at Coalesce f) (links_of is_coalesce Coalesce f)
  unfolding rule_of
  coalesce_links = search (one, two, none_at_all) depth 40

  unfoldable pub member_links : LinksOf (at Member f) (links_of is_member Member f)
  unfolding rule_of
  member_links = search (one, two, guarded, none_at_all) depth 40

  unfoldable pub call_links : LinksOf (at Call f) (links_of is_call Call f)
  unfolding rule_of
  call_links = search (one, two, none_at_all) depth 40

  unfoldable pub chain_links : LinksOf (at Links f) (links_of is_links Links f)
  unfolding rule_of
  chain_links = search (one, two, none_at_all) depth 40

  unfoldable pub decorator_links : LinksOf (at DecoratorMember f) (links_of is_decorator_member DecoratorMember f)
  unfolding rule_of
  decorator_links = search (one, two, none_at_all) depth 40

  pub coalesces_lawful : Lawful (coalesces f)
  coalesces_lawful = chain_lawful (at Coalesce f) (base_of is_coalesce Coalesce f) (links_of is_coalesce Coalesce f) (climbs is_coalesce Coalesce f) coalesce_links
