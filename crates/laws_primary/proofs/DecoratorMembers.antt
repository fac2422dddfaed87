-- Decorators (of their proposal): the loop over the names behind a name, and what stands behind `@`.
use Rattle.std.proofs.Common.{ℕ, ◌≡◌, ◌≤◌, ◌⊎◌, inl, inr, max, List, [], ◌∷◌, length, Some, None, Bool, true, false, not, ◌&&◌, refl, sym, ap, subst, arith, ◌∙◌}
use Rattle.std.specs.Prelude.{Result, Ok, Err}
use Rattle.std.proofs.lemmas.Bool.{false≢true, and_from, or_left}
use Rattle.js_base.specs.declared.kind.Kind.{Kind}
use Rattle.js_base.specs.declared.diagnostic.Diagnostic.{Diagnostic}
use Rattle.js_base.specs.declared.kind.Kind.TheVariants.{At as at_sign, Dot, LBrack, LParen, QuestionDot}
use Rattle.js_base.specs.declared.span.Span.{Span}
use Rattle.js_base.specs.Texts.{words}
use Rattle.js_base.specs.Contexts.{has_flag, yield_flag, await_flag}
use Rattle.js_base.specs.KindSets.{binding_identifier_kinds}
use Rattle.js_base.specs.Kinds.{same_kind, one_of_kinds}
use Rattle.js_grammar.specs.Trees.{Slots, end, tree, Label, no_op, identifier_reference, decorator}
use Rattle.js_grammar.specs.Grammar.{Lexeme, Lexemes, Look, here, is, such, nothing, seq}
use Rattle.js_grammar.specs.Parsing.{Test, Admits, Goes, Fails, plain, full, always, still, joined}
use Rattle.js_grammar.specs.Productions.{G, Flags, Symbol, at, tok, Decorator, IdentifierReference, DecoratorMember}
use Rattle.js_grammar.specs.Productions.{sym as symbol}
use Rattle.js_grammar.specs.Table.{rule, rule_of, args, paren_expression}
use Rattle.js_grammar.specs.Follow.{edge_of, follow_of, after}
use Rattle.js_grammar.specs.Towers.{Link, this, of_left, of_right}
use Rattle.js_grammar.specs.Chains.{is_decorator_member, base_of}
use Rattle.js_grammar.proofs.Looks.{covers, covered, apart}
use Rattle.js_grammar.proofs.Calculus.{here_at, ◌▹◌, ◌▹✗◌, right, then_by, makes_by, inside_full, inside_plain, on_itself, fails_node, fails_alt, part_fails, weaken, weaken_fails, Within}
use Rattle.js_grammar.proofs.Calculus.{left as left_of}
use Rattle.js_grammar.proofs.FirstClaims.{firsts}
use Rattle.js_grammar.proofs.FirstRules.{by_first, fails_here}
use Rattle.js_grammar.proofs.FollowLaws.{admits, fails_by, surely}
use Rattle.js_grammar.proofs.Lexemes.{first_or}
use Rattle.js_grammar.proofs.Loops.{chain_start, chain_start_fails, chain_step_by, chain_step_fails_by, chain_end, linked_starts, beginning, unfollowed}
use Rattle.js_grammar.proofs.Towers.{OneOf, head, later}
use Rattle.js_grammar.proofs.Chains.{climbs, decorator_links}
use Rattle.laws_shared.specs.js_tree.declared.id.NodeId.{NodeId}
use Rattle.laws_shared.specs.js_tree.declared.kind.NodeKind.TheVariants as node_kind
use Rattle.laws_shared.specs.js_tree.declared.op.Op.TheVariants as op
use Rattle.laws_shared.specs.js_tree.Nodes.{Node}
use Rattle.laws_shared.specs.js_tree.Holding.{Holds, Keeps}
use Rattle.laws_shared.proofs.js_tree.HoldingLemmas.{Keeps-refl, Keeps-trans, Keeps-made}
use Rattle.laws_shared.specs.js_cursor.Parsers.{Parser}
use Rattle.laws_shared.specs.js_cursor.declared.stop.Stop.{Stop}
use Rattle.laws_shared.specs.js_cursor.Moves.{GivesUp}
use Rattle.laws_shared.specs.Classes.{EndsParse}
use Rattle.laws_shared.specs.Lexemes.{Lex}
use Rattle.laws_shared.specs.States.{At}
use Rattle.laws_shared.specs.Moves.{LeafTaken, MadeHere, Moved, plain_label}
use Rattle.laws_shared.specs.Answers.{Numbered, Stops, Stretch, Underived}
use Rattle.laws_shared.specs.Stands.{NameHere, NameUnder, StandsHere}
use Rattle.laws_shared.proofs.Dead.{live, lives}
use Rattle.laws_shared.proofs.Here.{begins_here}
use Rattle.laws_shared.proofs.MadeNodes.{leaf_held, one_held, one_lies}
use Rattle.laws_shared.proofs.Giving.{gives_up}
use Rattle.laws_shared.proofs.Tight.{plain_lex}
use Rattle.laws_shared.proofs.Moving.{same_both, stops_behind, stops_so}
use Rattle.laws_shared.proofs.NamedFirsts.{fails_unnamed}
use Rattle.laws_shared.proofs.NameKinds.{name_at, no_listed_name}
use Rattle.laws_shared.proofs.Paths.{Path, ◌⟶◌, ◌⟶✗◌, label_here, noded, noded_by, not_here, reads, token}
use Rattle.laws_shared.proofs.Signs.{AllAre, NoneIs, none_seen, plain_sign, stands_not, stands_there}
use Rattle.laws_shared.proofs.Verdicts.{after as grown_behind, either_way, grown_then}
use Rattle.laws_primary.specs.Members.{LinkForm, Linked, MakesWithArguments, NoLink, OnlyLink, Taken, by_call, by_index, by_name, by_private, chained, link_label, sign_of}
use Rattle.laws_primary.specs.DecoratorMembers.{DecoratedOutcome, DecoratedTaken, NamedSoFar, NamesOutcome, NotDecorated, ParenthesesOutcome, behind_decorator, decorated}
use Rattle.laws_primary.proofs.Links.{other_link}
use Rattle.laws_primary.proofs.Members.{call_here, call_link, link_taken, no_arguments_here, none_of_links, retake, taken}
use Rattle.laws_primary.proofs.Operands.{by_path, name_leaf}

-- ---- names behind dots

-- a link by `.`
abbrev dotted : LinkForm → Bool
dotted by_name = true
dotted by_private = true
dotted _ = false

-- where a dot stands, a link is one of these
dot_form : (p : Parser) (c : LinkForm) (o : Bool) → StandsHere p Dot true → StandsHere p (sign_of c o) true → (dotted c ≡ true) × (o ≡ false)
dot_form p by_name false s z = (refl, refl)
dot_form p by_private false s z = (refl, refl)
dot_form p by_call false s z = absurd (let e : Dot ≡ LParen = sym s.0 ∙ z.0 in cc)
dot_form p by_index false s z = absurd (let e : Dot ≡ LBrack = sym s.0 ∙ z.0 in cc)
dot_form p c true s z = absurd (let e : Dot ≡ QuestionDot = sym s.0 ∙ z.0 in cc)

module _ (f : Flags) where
  -- what they begin with
  foot_left : live (base_of is_decorator_member DecoratorMember f) ≡ such (at IdentifierReference f) always
  unfolding rule_of apart
  foot_left = refl

  -- and what goes on with them
  dot_starts : covers (λ k w e. linked_starts firsts (decorator_links f) k w e && reads k w e) (is Dot) ≡ true
  unfolding decorator_links rule_of covers
  dot_starts = refl

module _ {text : List ℕ} (f : Flags) where
  foot : {X : Test} {s : ℕ} → Goes rule (Lex text) X end (base_of is_decorator_member DecoratorMember f) s (such (at IdentifierReference f) always) s (λ us. us) (still 0)
  foot {X} {s} = subst (λ (g : G). Goes rule (Lex text) X end (base_of is_decorator_member DecoratorMember f) s g s (λ us. us) (still 0)) (foot_left f) (lives (base_of is_decorator_member DecoratorMember f))

  -- a name was read
  names_start : {s s' from : ℕ} {l : Label} {cs : Slots} {pass : Lexemes → Lexemes} → Stretch text (after (at IdentifierReference f)) (such (at IdentifierReference f) always) s nothing s' (tree l cs) pass → ((y : Lexeme) → Lex text s y → y.from ≡ from) → NamedSoFar text f s from l cs pass s'
  unfolding decorator_links rule_of covers
  names_start x b = record { reach = max 0 x.reach; near = let i = x.near in omega arith; around = chain_start firsts (climbs is_decorator_member DecoratorMember f) (decorator_links f) {F' = full} (foot ▹ weaken x.goes (λ ts y e. (refl, refl))) refl refl b }

  no_names : {s : ℕ} → Underived text (at IdentifierReference f) s → Underived text (at DecoratorMember f) s
  unfolding decorator_links rule_of covers
  no_names x = chain_start_fails firsts (climbs is_decorator_member DecoratorMember f) (decorator_links f) {F' = full} (foot ▹✗ weaken_fails x (λ ts y e. (refl, refl))) refl refl

  not_before_dot : {s' : ℕ} (l : Label) (cs : Slots) → AllAre text s' Dot → (y : Lexeme) → Lex text s' y → Admits (after (at DecoratorMember f)) (tree l cs end) y → ⊥
  not_before_dot l cs z y i e = false≢true (subst (λ v. follow_of DecoratorMember f.in_ (edge_of l cs) v y.newline y.escaped ≡ true) (z y i).0 e.1)

  -- of the two links by a dot one can be read at most
  name_alone : {s : ℕ} → NoLink text f s by_private false → (x' : Link Symbol) → OneOf x' (beginning firsts (decorator_links f) Dot) → (x' ≡ chained f by_name false) ⊎ Fails rule (Lex text) (plain full) end x'.part s
  unfolding decorator_links rule_of apart
  name_alone n x' head = inl refl
  name_alone n x' (later head) = inr n
  name_alone n x' (later (later i)) = elim i [ ]

  private_alone : {s : ℕ} → NoLink text f s by_name false → (x' : Link Symbol) → OneOf x' (beginning firsts (decorator_links f) Dot) → (x' ≡ chained f by_private false) ⊎ Fails rule (Lex text) (plain full) end x'.part s
  unfolding decorator_links rule_of apart
  private_alone n x' head = inr n
  private_alone n x' (later head) = inl refl
  private_alone n x' (later (later i)) = elim i [ ]

  -- a dot and a name behind it
  names_step : {s s' s'' from : ℕ} {l : Label} {cs : Slots} {pass more : Lexemes → Lexemes} {h : Slots → Slots} (c : LinkForm) (o : Bool) → (dotted c ≡ true) × (o ≡ false) → NamedSoFar text f s from l cs pass s' → AllAre text s' Dot → OnlyLink text f s' c o → s' ≤ s'' → Stretch text (plain full) (chained f c o).part s' nothing s'' h more
      → NamedSoFar text f s from (link_label c o from s'') (tree l cs (h end)) (λ ls. pass (more ls)) s''
  unfolding decorator_links rule_of covers
  names_step {l = l} {cs = cs} by_name false q x z u o y = record { reach = max x.reach y.reach; near = let i = x.near in let j = y.near in omega arith; around = chain_step_by firsts (climbs is_decorator_member DecoratorMember f) (decorator_links f) {F' = full} Dot x.around (λ y i. (z y i).0) (search (this, of_left, of_right) depth 14) (name_alone (other_link f false by_private by_name (λ e. cc) u)) (not_before_dot l cs z) y.goes refl refl }
  names_step {l = l} {cs = cs} by_private false q x z u o y = record { reach = max x.reach y.reach; near = let i = x.near in let j = y.near in omega arith; around = chain_step_by firsts (climbs is_decorator_member DecoratorMember f) (decorator_links f) {F' = full} Dot x.around (λ y i. (z y i).0) (search (this, of_left, of_right) depth 14) (private_alone (other_link f false by_name by_private (λ e. cc) u)) (not_before_dot l cs z) y.goes refl refl }
  names_step by_call o q x z u i y = absurd (false≢true q.0)
  names_step by_index o q x z u i y = absurd (false≢true q.0)
  names_step by_name true q x z u o y = absurd (false≢true (sym q.1))
  names_step by_private true q x z u o y = absurd (false≢true (sym q.1))

  names_step_fails : {s s' from : ℕ} {l : Label} {cs : Slots} {pass : Lexemes → Lexemes} → NamedSoFar text f s from l cs pass s' → AllAre text s' Dot → ((c : LinkForm) (o : Bool) → NoLink text f s' c o) → Underived text (at DecoratorMember f) s
  unfolding decorator_links rule_of covers
  names_step_fails {l = l} {cs = cs} a z r = chain_step_fails_by firsts (climbs is_decorator_member DecoratorMember f) (decorator_links f) {F' = full} {x = chained f by_name false} Dot a.around (λ y i. (z y i).0) (search (this, of_left, of_right) depth 14) (name_alone (r by_private false)) (not_before_dot l cs z) (λ l cs vs y e. e) (r by_name false) refl refl

  -- no dot stands here
  names_end : {s s' from : ℕ} {l : Label} {cs : Slots} {pass : Lexemes → Lexemes} → NamedSoFar text f s from l cs pass s' → NoneIs text s' Dot → Stretch text (after (at DecoratorMember f)) (such (at DecoratorMember f) always) s nothing s' (tree l cs) pass
  names_end a n = record { reach = a.reach; near = a.near; goes = chain_end firsts (climbs is_decorator_member DecoratorMember f) (decorator_links f) (λ l cs vs y e. e) a.around (λ y l t. none_seen n y l (covered (λ k w e. linked_starts firsts (decorator_links f) k w e && reads k w e) (is Dot) (dot_starts f) y.kind y.newline y.escaped (and_from _ _ t l.1))) }

-- ---- from what the calls answer

abbrev pub NamesTaken : List ℕ → Flags → Parser → Parser → NodeId → Type 0
NamesTaken text f o p id = Taken text f o p id (λ l cs pass s'. NamedSoFar text f o.prev_token_end o.token.span.start l cs pass s') (Underived text (at DecoratorMember f) o.prev_token_end)

reference_numbered : {text : List ℕ} {f : Flags} {p q : Parser} {id : NodeId} → At text f p → NameUnder f.yield_ f.await_ p true → LeafTaken node_kind.IdentifierReference op.None text f p q id → Numbered text f (at IdentifierReference f) p q id
unfolding rule rule_of
reference_numbered {text} {f} {p} {q} {id} a h t =
    let l : plain_label node_kind.IdentifierReference op.None p.token.span ≡ label_here identifier_reference no_op p t.mid = ap (λ (v : ℕ). record { kind = identifier_reference; op = no_op; flags = 0; span = record { from = p.token.span.start; to = v } }) (t.moved.tells.end ∙ t.moved.ends) in
    let ks : Keeps p.nodes t.mid.nodes = subst (λ (ns : List Node). Keeps p.nodes ns) (sym t.moved.nodes) (Keeps-refl p.nodes) in
    by_path (subst (λ (v : Label). Path text f (after (at IdentifierReference f)) (rule (at IdentifierReference f)) p nothing t.mid (tree v end)) (sym l) (noded a (name_leaf a h t.moved))) t.moved.same t.made.stays (λ y i. refl) refl (leaf_held t.made ks) (Keeps-trans ks (Keeps-made t.made.made)) (ap (λ (v : Label). v.span) l) (one_lies t.made)

-- a name stands here, and was read
pub names_begun : {text : List ℕ} {f : Flags} {p q : Parser} {id : NodeId} → At text f p → NameHere p true → LeafTaken node_kind.IdentifierReference op.None text f p q id → NamesTaken text f p q id
names_begun {f = f} a h t =
    let x = reference_numbered a (name_at true a h) t in
    retake (taken x x.answer.row) (λ l cs pass c. names_start f c (begins_here a)) (λ n. no_names f n)

-- none stands here
pub no_names_here : {text : List ℕ} {f : Flags} {p : Parser} → At text f p → NameHere p false → Underived text (at DecoratorMember f) p.prev_token_end
unfolding covers apart
no_names_here {f = f} a h = no_names f (fails_unnamed a f {X = after (at IdentifierReference f)} (λ g. symbol IdentifierReference g) [] refl refl refl refl refl (name_at false a h) refl)

module _ {text : List ℕ} {f : Flags} {o p : Parser} {left : NodeId} (x : NamesTaken text f o p left) (s : StandsHere p Dot true) where
  pub names_linked : {w : Parser} {id : NodeId} {start : ℕ} → start ≡ o.token.span.start → Linked text f start left p w id → NamesTaken text f o w id
  names_linked e y = link_taken x e y (λ pass c i z. names_step f y.form y.optional (dot_form p y.form y.optional s y.sign) c (stands_there x.at s.0 refl) y.only i z) (λ c n. names_step_fails f c (stands_there x.at s.0 refl) (none_of_links y.form y.optional y.only n))

  pub names_stops : (w : Parser) (e : Stop) → Stops p w e ((c : LinkForm) (d : Bool) → NoLink text f p.prev_token_end c d) → Stops o w e (Underived text (at DecoratorMember f) o.prev_token_end)
  names_stops w e z = stops_behind w e x.same (λ g. grown_behind x.verdict g) (λ n. either_way x.verdict (λ c. names_step_fails f c (stands_there x.at s.0 refl) n) (λ n. n)) z

pub names_closed : {text : List ℕ} {f : Flags} {o p : Parser} {id : NodeId} → NamesTaken text f o p id → StandsHere p Dot false → NamesOutcome text f o p (Ok id)
names_closed {f = f} x s = retake x (λ l cs pass c. names_end f c (stands_not x.at refl s)) (λ n. n)

-- ---- what stands behind `@`

abbrev ends_look : Look
ends_look k w e = not (one_of_kinds (LParen ∷ Dot ∷ []) k)

abbrev no_dot : Look
no_dot k w e = not (same_kind Dot k)

ends_undotted : covers ends_look no_dot ≡ true
unfolding covers
ends_undotted = refl

module _ (f : Flags) where
  -- what may stand behind a decorator may stand behind its names
  within : Within behind_decorator (after (at DecoratorMember f))
  within ts y e = admits (at DecoratorMember f) ts y (covered ends_look no_dot ends_undotted y.kind y.newline y.escaped e.0)

  abbrev called_names : G
  called_names = seq (such (at DecoratorMember f) always) (args f)

module _ {text : List ℕ} (f : Flags) where
  -- names, and arguments behind them
  names_then : {s s' : ℕ} {l : Label} {cs : Slots} {pass : Lexemes → Lexemes} (x : Stretch text (after (at DecoratorMember f)) (such (at DecoratorMember f) always) s nothing s' (tree l cs) pass) → Stretch text (plain full) (called_names f) s (args f) s' (tree l cs) pass
  unfolding covers
  names_then x = record { reach = x.reach; near = x.near; goes = then_by x.goes (by_first firsts (surely (at DecoratorMember f)) refl) }

  names_lack : {s : ℕ} → Underived text (at DecoratorMember f) s → Fails rule (Lex text) (plain full) end (called_names f) s
  unfolding covers
  names_lack x = part_fails x (by_first firsts (surely (at DecoratorMember f)) refl)

  no_parentheses : {X : Test} {s : ℕ} → NoneIs text s LParen → Fails rule (Lex text) X end (paren_expression f) s
  no_parentheses n = fails_here firsts (none_seen n)

-- no parenthesis stands here
module _ {text : List ℕ} {f : Flags} {o : Parser} (a : At text f o) (n : StandsHere o LParen false) where
  none_in_parens : {X : Test} → Fails rule (Lex text) X end (paren_expression f) o.prev_token_end
  none_in_parens = no_parentheses f (stands_not a refl n)

  not_decorated : Underived text (at DecoratorMember f) o.prev_token_end → NotDecorated text f o.prev_token_end
  not_decorated z = fails_alt (weaken_fails z (within f)) (fails_alt (fails_node inside_full (names_lack f z)) none_in_parens)

  pub decorated_stops : (w : Parser) (e : Stop) → NamesOutcome text f o w (Err e) → DecoratedOutcome text f o w (Err e)
  decorated_stops w e z = stops_so o w e (λ n. not_decorated n) z

  module _ {p : Parser} {left : NodeId} (x : NamesOutcome text f o p (Ok left)) where
    -- the names alone
    pub decorated_alone : StandsHere p LParen false → DecoratedOutcome text f o p (Ok left)
    decorated_alone s = retake x (λ l cs pass c. whole c) (λ z. not_decorated z)
      where
        whole : {l : Label} {cs : Slots} {pass : Lexemes → Lexemes} → Stretch text (after (at DecoratorMember f)) (such (at DecoratorMember f) always) o.prev_token_end nothing p.prev_token_end (tree l cs) pass → Stretch text behind_decorator (decorated f) o.prev_token_end nothing p.prev_token_end (tree l cs) pass
        whole c = record { reach = max 0 c.reach; near = let i = c.near in omega arith; goes = left_of (fails_alt (fails_node inside_full ((names_then f c).goes ▹✗ no_arguments_here f (stands_not x.at refl s))) none_in_parens) ▹ weaken c.goes (within f) }

    -- with arguments
    module _ (s : StandsHere p LParen true) where
      not_alone : {l : Label} {cs : Slots} {pass : Lexemes → Lexemes} → Stretch text (after (at DecoratorMember f)) (such (at DecoratorMember f) always) o.prev_token_end nothing p.prev_token_end (tree l cs) pass → Fails rule (Lex text) behind_decorator end (such (at DecoratorMember f) always) o.prev_token_end
      not_alone c = unfollowed c.goes (record { admits = λ ts vs k ls rest d e. within f ts (here rest) e }) (λ us y i e. false≢true (subst (λ (v : Kind). not (one_of_kinds (LParen ∷ Dot ∷ []) v) ≡ true) (stands_there x.at s.0 refl y i).0 e.0))

      called_good : (c : LinkForm) (d : Bool) → (by_call ≡ c) × (d ≡ false) → {l : Label} {cs : Slots} {pass more : Lexemes → Lexemes} {h : Slots → Slots} {s'' : ℕ} → Stretch text (after (at DecoratorMember f)) (such (at DecoratorMember f) always) o.prev_token_end nothing p.prev_token_end (tree l cs) pass → p.prev_token_end ≤ s'' → Stretch text (plain full) (chained f c d).part p.prev_token_end nothing s'' h more
          → Stretch text behind_decorator (decorated f) o.prev_token_end nothing s'' (tree (link_label c d o.token.span.start s'') (tree l cs (h end))) (λ ls. pass (more ls))
      unfolding names_then
      called_good by_call false e {s'' = s''} c i y = record {
        reach = max 0 (max 0 (max c.reach y.reach));
        near = let k = c.near in let j = y.near in omega (arith, i);
        goes = right (not_alone c) ▹ (left_of none_in_parens ▹ makes_by (link_label by_call false o.token.span.start s'') inside_full ((names_then f c).goes ▹ y.goes) (λ ls ls' i j. ap (λ v. link_label by_call false v s'') (begins_here a (here ls) (here_at (Lex text) ls i))));
      }
      called_good by_call true e c i y = absurd (false≢true (sym e.1))
      called_good by_name d e c i y = absurd (let z : by_call ≡ by_name = e.0 in cc)
      called_good by_private d e c i y = absurd (let z : by_call ≡ by_private = e.0 in cc)
      called_good by_index d e c i y = absurd (let z : by_call ≡ by_index = e.0 in cc)

      not_called : {l : Label} {cs : Slots} {pass : Lexemes → Lexemes} → Stretch text (after (at DecoratorMember f)) (such (at DecoratorMember f) always) o.prev_token_end nothing p.prev_token_end (tree l cs) pass → NoLink text f p.prev_token_end by_call false → NotDecorated text f o.prev_token_end
      not_called c n = fails_alt (not_alone c) (fails_alt (fails_node inside_full ((names_then f c).goes ▹✗ n)) none_in_parens)

      before_call : Taken text f o p left (λ l cs pass s'. Stretch text (after (at DecoratorMember f)) (such (at DecoratorMember f) always) o.prev_token_end nothing s' (tree l cs) pass) (NotDecorated text f o.prev_token_end)
      before_call = retake x (λ l cs pass c. c) (λ z. not_decorated z)

      called : {w : Parser} {id : NodeId} {start : ℕ} → start ≡ o.token.span.start → Linked text f start left p w id → DecoratedTaken text f o w id
      called e y = link_taken before_call e y (λ pass c i z. called_good y.form y.optional (call_here p y.form y.optional s y.sign) c i z) (λ c n. not_called c (none_of_links y.form y.optional y.only n by_call false))

      pub decorated_called : {start : ℕ} (w : Parser) (r : Result NodeId Stop) → start ≡ o.token.span.start → MakesWithArguments node_kind.CallExpression false start left p w r → DecoratedOutcome text f o w r
      decorated_called {start} w (Ok id) e y = called e (call_link x.at s y)
      decorated_called {start} w (Err e) i y = stops_behind w e x.same (λ g. grown_behind x.verdict g) (λ n. either_way x.verdict (λ c. not_called c n) (λ z. not_decorated z)) (y text f x.at)

-- a parenthesis does
pub decorated_in_parens : {text : List ℕ} {f : Flags} {p : Parser} (q : Parser) (r : Result NodeId Stop) → At text f p → p.token.kind ≡ LParen → ParenthesesOutcome text f p q r → DecoratedOutcome text f p q r
decorated_in_parens {text} {f} {p} q r a k x = go r x
  where
    no_name_here : Underived text (at DecoratorMember f) p.prev_token_end
    no_name_here = no_names_here a (no_listed_name (has_flag yield_flag p.ctx) (has_flag await_flag p.ctx) p.token.kind (ap (one_of_kinds binding_identifier_kinds) k))

    only_parens : Goes rule (Lex text) behind_decorator end (decorated f) p.prev_token_end (paren_expression f) p.prev_token_end (λ us. us) (joined (still 0) (still 0))
    only_parens = right (weaken_fails no_name_here (within f)) ▹ right (fails_node inside_full (names_lack f no_name_here))

    none : Fails rule (Lex text) (plain full) end (paren_expression f) p.prev_token_end → NotDecorated text f p.prev_token_end
    none z = only_parens ▹✗ weaken_fails z (λ ts y e. (refl, refl))

    whole : {l : Label} {cs : Slots} {pass : Lexemes → Lexemes} → Stretch text (plain full) (paren_expression f) p.prev_token_end nothing q.prev_token_end (tree l cs) pass → Stretch text behind_decorator (decorated f) p.prev_token_end nothing q.prev_token_end (tree l cs) pass
    whole c = record { reach = max (max 0 0) c.reach; near = let i = c.near in omega arith; goes = only_parens ▹ weaken c.goes (λ ts y e. (refl, refl)) }

    go : (r : Result NodeId Stop) → ParenthesesOutcome text f p q r → DecoratedOutcome text f p q r
    go (Ok id) x = retake x (λ l cs pass c. whole c) (λ z. none z)
    go (Err e) x = stops_so p q e (λ z. none z) x

-- ---- a decorator

abbrev going_on : List Kind
going_on = LParen ∷ Dot ∷ []

module _ {text : List ℕ} {f : Flags} {p q : Parser} (a : At text f p) (k : p.token.kind ≡ at_sign) (m : Moved text f p q) where
  sign_plain : p.token.escaped ≡ false
  unfolding words
  sign_plain = plain_sign at_sign a k refl refl refl

  behind_sign : {X : Test} → Path text f X (seq (tok at_sign) (decorated f)) p (decorated f) q (λ us. us)
  behind_sign = token at_sign a k sign_plain refl m

  none_behind : NotDecorated text f q.prev_token_end → Underived text (at Decorator f) p.prev_token_end
  unfolding rule rule_of covers
  none_behind n = fails_by (fails_node (inside_plain {F' = ends_look} refl) (behind_sign ⟶✗ n))

  pub decorator_stops : (w : Parser) (e : Stop) → DecoratedOutcome text f q w (Err e) → Stops p w e (Underived text (at Decorator f) p.prev_token_end)
  decorator_stops w e z = stops_behind w e m.same (λ g. grown_then m.kept g) (λ n. none_behind n) z

  module _ {r : Parser} {inside : NodeId} (x : DecoratedTaken text f q r inside) where
    abbrev There : Kind → Type 0
    There v = r.token.kind ≡ v → AllAre text r.prev_token_end v

    -- it ends before neither of these
    not_before : one_of_kinds going_on r.token.kind ≡ true → {l : Label} {cs : Slots} {pass : Lexemes → Lexemes} → Stretch text behind_decorator (decorated f) q.prev_token_end nothing r.prev_token_end (tree l cs) pass → NotDecorated text f q.prev_token_end
    not_before h c = unfollowed c.goes on_itself (λ us y i e. false≢true (sym (ap not (ap (one_of_kinds going_on) (there refl y i).0 ∙ h)) ∙ e.0))
      where
        there : There r.token.kind
        there = first_or There LParen r.token.kind _ _ refl h (λ e. stands_there x.at e refl) (λ h. first_or There Dot r.token.kind _ _ refl h (λ e. stands_there x.at e refl) (λ h. absurd (false≢true h)))

    pub form_stops : one_of_kinds going_on r.token.kind ≡ true → (w : Parser) (e : Stop) → GivesUp EndsParse r w e → Stops p w e (Underived text (at Decorator f) p.prev_token_end)
    form_stops h w e g = stops_behind w e (same_both m.same x.same) (λ g. grown_then m.kept (grown_behind x.verdict g)) (λ n. n) (gives_up EndsParse r w e x.at g (λ d u. u) (either_way x.verdict (λ c. none_behind (not_before h c)) (λ n. none_behind n)))

    decorated_path : Path text f behind_decorator (decorated f) q nothing r (tree x.label x.slots)
    decorated_path = record { at = x.at; further = x.further; pass = x.pass; walked = x.walked; verdict = x.verdict }

    decorator_path : Path text f (after (at Decorator f)) (rule (at Decorator f)) p nothing r (tree (label_here decorator no_op p r) (tree x.label x.slots end))
    unfolding rule rule_of covers
    decorator_path = noded_by a (inside_plain {F' = ends_look} refl) (behind_sign ⟶ decorated_path)

    module _ (n : one_of_kinds going_on r.token.kind ≡ false) where
      none_goes_on : (y : Lexeme) → Lex text r.prev_token_end y → one_of_kinds going_on y.kind ≡ false
      unfolding covers apart
      none_goes_on y l = go (one_of_kinds going_on y.kind) refl
        where
          go : (b : Bool) → one_of_kinds going_on y.kind ≡ b → b ≡ false
          go true e = absurd (not_here x.at going_on refl n y l e)
          go false e = refl

      pub decorator_answers : {w : Parser} {id : NodeId} {s : Span} → s.start ≡ p.token.span.start → s.end ≡ r.prev_token_end → MadeHere (plain_label node_kind.Decorator op.None s) (Some inside ∷ []) r w id → Numbered text f (at Decorator f) p w id
      decorator_answers {w} {id} {s} b c d =
          let l : plain_label node_kind.Decorator op.None s ≡ label_here decorator no_op p r = rw (b, c) refl in
          let made : MadeHere (label_here decorator no_op p r) (Some inside ∷ []) r w id = subst (λ (v : Label). MadeHere v (Some inside ∷ []) r w id) l d in
          let ks : Keeps p.nodes r.nodes = subst (λ (ns : List Node). Keeps ns r.nodes) m.nodes x.keeps in
          by_path decorator_path (same_both m.same x.same) made.stays (λ y i. or_left _ _ (ap not (none_goes_on y (plain_lex i)))) refl (one_held p.nodes made (subst (λ (ns : List Node). Holds r.nodes (length ns) (length r.nodes) inside.0 x.label x.slots) m.nodes x.holds)) (Keeps-trans ks (Keeps-made made.made)) refl (one_lies made)

-- ---- what is told of another form

-- no name stands here
pub no_name_stops : {text : List ℕ} {f : Flags} {p : Parser} (q : Parser) (e : Stop) → At text f p → NameHere p false → GivesUp EndsParse p q e → NamesOutcome text f p q (Err e)
no_name_stops {p = p} q e a h g = gives_up EndsParse p q e a g (λ d u. u) (no_names_here a h)

-- ---- what the loop keeps

abbrev pub NamesGo : ℕ → Parser → Parser → NodeId → Type 0
NamesGo start p q left = (start ≡ p.token.span.start) × ((text : List ℕ) (f : Flags) → At text f p → NamesTaken text f p q left)
