-- The loops over links behind members and in optional chains: their starts, steps, ends and failures, over the lexemes that are read.
use Rattle.laws_shared.proofs.Signs.{none_seen, AllAre, NoneIs}
use Rattle.std.proofs.Common.{ℕ, ◌≡◌, ◌≤◌, ◌⊎◌, inl, inr, max, Bool, true, false, not, ◌&&◌, List, [], ◌∷◌, refl, sym, ap, subst, arith, ◌∙◌, ◌||◌}
use Rattle.std.proofs.lemmas.Bool.{false≢true, and_parts, and_from}
use Rattle.laws_primary.proofs.ArgumentLists.{is_one}
use Rattle.js_base.specs.declared.kind.Kind.{Kind}
use Rattle.js_base.specs.declared.kind.Kind.TheVariants.{Dot, Import, QuestionDot, New, LParen, LBrack, NoSubstitutionTemplate, TemplateHead, Function, Super as super_kind, PrivateIdentifier}
use Rattle.js_base.specs.Kinds.{same_kind, one_of_kinds}
use Rattle.js_base.proofs.KindLemmas.{kind_of_same}
use Rattle.js_grammar.specs.FirstSets.{any_word}
use Rattle.js_grammar.specs.Trees.{Slots, end, tree, Label, no_op, call_expression, import_expression, import_meta, new_expression, new_target_expression, tagged_template_expression}
use Rattle.js_grammar.specs.Grammar.{Lexeme, Lexemes, Look, here, is, such, alt, never, node, seq, nothing, when}
use Rattle.js_grammar.specs.Parsing.{Test, plain, full, always, still, joined, Goes, Reads, Fails, Admits}
use Rattle.js_grammar.specs.Productions.{G, Flags, Symbol, at, tok, optional_flag, Primary, Member, Call, Chain, Links, Super, LeftHandSide, Template}
use Rattle.js_grammar.specs.Productions.{New as new_symbol}
use Rattle.js_grammar.specs.Table.{rule, rule_of, args}
use Rattle.js_grammar.specs.Insertion.{after_expression, may_bind}
use Rattle.js_grammar.specs.Follow.{Edge, edge_of, follow_of, after}
use Rattle.js_grammar.specs.Towers.{Link, link, make_of, linked_label, this, of_left, of_right}
use Rattle.js_grammar.specs.Chains.{is_member, is_call, is_links, base_of, members, calls, chains}
use Rattle.js_grammar.proofs.Looks.{covers, covered, apart}
use Rattle.js_grammar.proofs.Calculus.{Heads, on_itself, here_at, ◌▹◌, ◌▹✗◌, left, right, then_by, makes_by, inside_full, by_plain, by_rule, fails_node, fails_alt, fails_never, fails_under, where_true, part_fails, weaken, weaken_fails, weaken_on, weaken_fails_on}
use Rattle.js_grammar.proofs.FirstClaims.{firsts}
use Rattle.js_grammar.proofs.FirstRules.{by_first, fails_here}
use Rattle.js_grammar.proofs.FollowLaws.{admits, fails_by, same_read}
use Rattle.js_grammar.proofs.Loops.{chain_start, chain_start_fails, chain_step_by, chain_step_fails_by, chain_end, linked_starts, beginning, unfollowed}
use Rattle.js_grammar.proofs.Towers.{OneOf, head, later}
use Rattle.js_grammar.proofs.Chains.{climbs, member_links, call_links, chain_links}
use Rattle.js_grammar.proofs.Lexemes.{first_or}
use Rattle.js_grammar.proofs.LinkLoops.{member_name, member_private, member_index}
use Rattle.laws_shared.specs.Lexemes.{Lex}
use Rattle.laws_shared.specs.Answers.{Stretch, Underived}
use Rattle.laws_primary.specs.Templates.{heads, tagged_label}
use Rattle.laws_primary.specs.Supers.{is_private_member}
use Rattle.laws_primary.specs.Members.{Looped, NoBareNew, NoMember, NoSuperCall, SuperWord, NoImport, before_call, import_slots, without_arguments, access_kinds, link_kinds, LinkForm, by_name, by_private, by_call, by_index, chained, admits as admits_link, NoLink, OnlyLink, sign_of, node_of, link_label}
use Rattle.laws_primary.specs.declared.forms.LinkBase.TheVariants.{Member as OfMember'}
use Rattle.laws_shared.proofs.Dead.{live, lives}
use Rattle.laws_shared.proofs.Paths.{reads}
use Rattle.laws_primary.specs.Imports.{meta_slots}
use Rattle.laws_primary.specs.NewTargets.{target_slots}

abbrev no_function : Look
no_function k w e = not (not w && (same_kind Function k && not e))

-- what may stand behind a member
abbrev behind_member : Look
behind_member k w e = not (one_of_kinds (LBrack ∷ Dot ∷ NoSubstitutionTemplate ∷ TemplateHead ∷ []) k && not e) && not (not w && (same_kind Function k && not e))

abbrev pub before_chain : Test
before_chain = plain (is QuestionDot)

-- and behind a call
abbrev behind_call : Look
behind_call k w e = not (one_of_kinds (LParen ∷ LBrack ∷ Dot ∷ NoSubstitutionTemplate ∷ TemplateHead ∷ []) k && not e) && not (not w && (same_kind Function k && not e))

abbrev lhs_follow : Bool → Look
lhs_follow b k w e = follow_of LeftHandSide b (record { row = after_expression; open_if = false }) k w e

below_call : (b : Bool) → covers (lhs_follow b) behind_call ≡ true
unfolding covers
below_call true = refl
below_call false = refl

-- what goes on with a call
abbrev pub call_kinds : List Kind
call_kinds = Dot ∷ LBrack ∷ LParen ∷ NoSubstitutionTemplate ∷ TemplateHead ∷ []

module _ (f : Flags) where
  -- `new` with arguments
  abbrev pub with_arguments : G
  with_arguments = seq (tok New) (seq (such (at Member f) always) (args f))

  abbrev new_with : G
  new_with = node (make_of new_expression no_op 0) with_arguments

  -- `new.target`, where it may stand
  abbrev pub new_target : G
  new_target = when f.new_target (node (make_of new_target_expression no_op 0) target_slots)

  -- `import.meta`, where it may stand
  abbrev pub meta_property : G
  meta_property = when f.module_goal (node (make_of import_meta no_op 0) meta_slots)

  -- a name or an expression in brackets behind `super`
  abbrev pub behind_super : LinkForm → G
  behind_super c = seq (alt never (such (at Super f) always)) (chained f c false).part

  abbrev super_link : LinkForm → G
  super_link c = node (make_of (node_of c) no_op 0) (behind_super c)

  abbrev super_links : G
  super_links = alt (super_link by_name) (super_link by_index)

  -- what a member begins with
  abbrev member_feet : G
  member_feet = alt (such (at Primary f) always) (alt new_with (alt super_links (alt new_target meta_property)))

  member_left : live (base_of is_member Member f) ≡ member_feet
  unfolding rule_of apart
  member_left = refl

  member_starts : covers (λ k w e. linked_starts firsts (member_links f) k w e && reads k w e) (λ k w e. one_of_kinds access_kinds k) ≡ true
  unfolding member_links rule_of covers
  member_starts = refl

  -- what may stand before the first arguments, and before the first `?.`
  abbrev callees : G
  callees = alt (such (at Member f) always) (alt (such (at Super f) always) never)

  abbrev pub bases : G
  bases = alt (such (at Member f) always) (alt (such (at Call f) always) never)

  abbrev first_call : G
  first_call = node (make_of call_expression no_op 0) (seq callees (args f))

  abbrev first_link : LinkForm → G
  first_link c = node (make_of (node_of c) no_op optional_flag) (seq bases (chained f c true).part)

  abbrev first_links : G
  first_links = alt (first_link by_call) (alt (first_link by_name) (alt (first_link by_private) (first_link by_index)))

  abbrev import_call : G
  import_call = node (make_of import_expression no_op 0) (import_slots f)

  call_left : live (base_of is_call Call f) ≡ alt first_call import_call
  unfolding rule_of apart
  call_left = refl

  chain_left : live (base_of is_links Links f) ≡ first_links
  unfolding rule_of apart
  chain_left = refl

  lhs_left : live (rule (at LeftHandSide f)) ≡ alt (such (at new_symbol f) always) (alt (such (at Call f) always) (such (at Chain f) always))
  unfolding rule rule_of apart
  lhs_left = refl

  call_starts : covers (λ k w e. linked_starts firsts (call_links f) k w e && reads k w e) (λ k w e. one_of_kinds call_kinds k) ≡ true
  unfolding call_links rule_of covers
  call_starts = refl

  chain_starts : covers (λ k w e. linked_starts firsts (chain_links f) k w e && reads k w e) (λ k w e. one_of_kinds link_kinds k) ≡ true
  unfolding chain_links rule_of covers
  chain_starts = refl

-- no such call is read before what may stand behind a LeftHandSideExpression
abbrev pub NotCall : List ℕ → Flags → ℕ → Type 0
NotCall text f s = Fails rule (Lex text) (after (at LeftHandSide f)) end (such (at Call f) always) s

parens_differ : LParen ≡ QuestionDot → ⊥
parens_differ e = cc

-- a tagged template
abbrev pub tagged : Flags → Link Symbol
tagged f = link tagged_template_expression no_op 0 (such (at Template f) always)

-- neither a member, a call nor a chain ends before a template
member_apart : (f : Flags) (k : Kind) (l : Label) (cs : Slots) (w : Bool) → one_of_kinds heads k ≡ true → follow_of Member f.in_ (edge_of l cs) k w false ≡ false
member_apart f k l cs w h = first_or (λ (v : Kind). follow_of Member f.in_ (edge_of l cs) v w false ≡ false) NoSubstitutionTemplate k _ _ refl h refl (λ h. first_or (λ (v : Kind). follow_of Member f.in_ (edge_of l cs) v w false ≡ false) TemplateHead k _ _ refl h refl (λ h. absurd (false≢true h)))

call_apart : (f : Flags) (k : Kind) (l : Label) (cs : Slots) (w : Bool) → one_of_kinds heads k ≡ true → follow_of Call f.in_ (edge_of l cs) k w false ≡ false
call_apart f k l cs w h = first_or (λ (v : Kind). follow_of Call f.in_ (edge_of l cs) v w false ≡ false) NoSubstitutionTemplate k _ _ refl h refl (λ h. first_or (λ (v : Kind). follow_of Call f.in_ (edge_of l cs) v w false ≡ false) TemplateHead k _ _ refl h refl (λ h. absurd (false≢true h)))

template_apart : (f : Flags) (k : Kind) (l : Label) (cs : Slots) (w : Bool) → one_of_kinds heads k ≡ true → follow_of Links f.in_ (edge_of l cs) k w false ≡ false
template_apart f k l cs w h = first_or (λ (v : Kind). follow_of Links f.in_ (edge_of l cs) v w false ≡ false) NoSubstitutionTemplate k _ _ refl h refl (λ h. first_or (λ (v : Kind). follow_of Links f.in_ (edge_of l cs) v w false ≡ false) TemplateHead k _ _ refl h refl (λ h. absurd (false≢true h)))

module _ {text : List ℕ} (f : Flags) where
  -- of two forms another one isn't read
  pub other_link : {s : ℕ} (o : Bool) (c d : LinkForm) → (c ≡ d → ⊥) → OnlyLink text f s d o → Fails rule (Lex text) (plain full) end (chained f c o).part s
  other_link {s} o c d n u = go (u c o)
    where
      go : ((c ≡ d) × (o ≡ o)) ⊎ Fails rule (Lex text) (plain full) end (chained f c o).part s → Fails rule (Lex text) (plain full) end (chained f c o).part s
      go (inl z) = absurd (n z.0)
      go (inr z) = z

  -- ---- members

  -- the word `super`
  pub no_super_word : {X : Test} {s : ℕ} → NoneIs text s super_kind → Fails rule (Lex text) X end (such (at Super f) always) s
  no_super_word n = fails_here firsts (λ y l h. let z = and_parts (same_kind super_kind y.kind) (not y.escaped || (may_bind y.kind || (same_kind PrivateIdentifier y.kind || any_word Super))) h in n y l (sym (kind_of_same super_kind y.kind z.0)) (plain y (sym (kind_of_same super_kind y.kind z.0)) z.1))
    where
      by : (e b : Bool) → (not e || b) ≡ true → b ≡ false → e ≡ false
      by true b h n = absurd (false≢true (sym n ∙ h))
      by false b h n = refl

      plain : (y : Lexeme) → y.kind ≡ super_kind → (not y.escaped || (may_bind y.kind || (same_kind PrivateIdentifier y.kind || false))) ≡ true → y.escaped ≡ false
      plain y k h = by y.escaped _ h (ap (λ (v : Kind). may_bind v || (same_kind PrivateIdentifier v || false)) k)

  member_foot : {X : Test} {s : ℕ} → Goes rule (Lex text) X end (base_of is_member Member f) s (member_feet f) s (λ us. us) (still 0)
  member_foot {X} {s} = subst (λ (g : G). Goes rule (Lex text) X end (base_of is_member Member f) s g s (λ us. us) (still 0)) (member_left f) (lives (base_of is_member Member f))

  no_with : {X : Test} {s : ℕ} → NoneIs text s New → Fails rule (Lex text) X end (new_with f) s
  no_with n = fails_here firsts (none_seen n)

  no_target : {X : Test} {s : ℕ} → NoneIs text s New → Fails rule (Lex text) X end (new_target f) s
  no_target n = fails_under (fails_here firsts (λ y l h. none_seen n y l h))

  no_meta : {X : Test} {s : ℕ} → NoneIs text s Import → Fails rule (Lex text) X end (meta_property f) s
  no_meta n = fails_under (fails_here firsts (λ y l h. none_seen n y l h))

  -- neither `new.target` nor `import.meta`
  no_property : {X : Test} {s : ℕ} → NoneIs text s New → NoneIs text s Import → Fails rule (Lex text) X end (alt (new_target f) (meta_property f)) s
  no_property n i = fails_alt (no_target n) (no_meta i)

  pub no_import : {s : ℕ} → NoneIs text s Import → NoImport text f s
  no_import n = fails_here firsts (none_seen n)

  -- where another word stands
  pub no_behind_super : (c : LinkForm) {s : ℕ} → NoneIs text s super_kind → Fails rule (Lex text) (plain full) end (behind_super f c) s
  unfolding covers
  no_behind_super by_name n = part_fails {X' = plain full} (fails_alt fails_never (no_super_word n)) (record { admits = λ ts us vs j k ls mid rest d d' h. (refl, refl) })
  no_behind_super by_call n = part_fails {X' = plain full} (fails_alt fails_never (no_super_word n)) (record { admits = λ ts us vs j k ls mid rest d d' h. (refl, refl) })
  no_behind_super by_private n = part_fails {X' = plain full} (fails_alt fails_never (no_super_word n)) (record { admits = λ ts us vs j k ls mid rest d d' h. (refl, refl) })
  no_behind_super by_index n = part_fails {X' = plain full} (fails_alt fails_never (no_super_word n)) (record { admits = λ ts us vs j k ls mid rest d d' h. (refl, refl) })

  no_super_link : {X : Test} {s : ℕ} → Fails rule (Lex text) (plain full) end (behind_super f by_name) s → Fails rule (Lex text) (plain full) end (behind_super f by_index) s → Fails rule (Lex text) X end (super_links f) s
  no_super_link n i = fails_alt (fails_node inside_full n) (fails_node inside_full i)

  no_supers : {X : Test} {s : ℕ} → NoneIs text s super_kind → Fails rule (Lex text) X end (super_links f) s
  no_supers n = no_super_link (no_behind_super by_name n) (no_behind_super by_index n)

  -- a primary expression was read
  pub member_start : {s s' from : ℕ} {l : Label} {cs : Slots} {pass : Lexemes → Lexemes} → NoneIs text s New → NoneIs text s super_kind → NoneIs text s Import → Stretch text (after (at Primary f)) (such (at Primary f) always) s nothing s' (tree l cs) pass → ((y : Lexeme) → Lex text s y → y.from ≡ from) → Looped text (members f) (after (at Member f)) s from l cs pass s'
  unfolding member_links rule_of covers
  member_start n u w x b = record { reach = max 0 (max 0 x.reach); near = let i = x.near in omega arith; around = chain_start firsts (climbs is_member Member f) (member_links f) {F' = no_function} (member_foot ▹ (left (fails_alt (no_with n) (fails_alt (no_supers u) (no_property n w))) ▹ weaken x.goes (λ ts y e. admits (at Primary f) ts y e.0))) refl refl b }

  pub no_member : {s : ℕ} → NoneIs text s New → NoneIs text s super_kind → NoneIs text s Import → Underived text (at Primary f) s → Underived text (at Member f) s
  unfolding member_links rule_of covers
  no_member n u w x = chain_start_fails firsts (climbs is_member Member f) (member_links f) {F' = no_function} (member_foot ▹✗ fails_alt (weaken_fails x (λ ts y e. admits (at Primary f) ts y e.0)) (fails_alt (no_with n) (fails_alt (no_supers u) (no_property n w)))) refl refl

  -- `new` with arguments was read
  pub member_new : {s s' from : ℕ} {h : Slots → Slots} {pass : Lexemes → Lexemes} → NoneIs text s super_kind → NoneIs text s Import → Underived text (at Primary f) s → Fails rule (Lex text) (plain full) end target_slots s → Stretch text (plain full) (with_arguments f) s nothing s' h pass → ((y : Lexeme) → Lex text s y → y.from ≡ from) → Looped text (members f) (after (at Member f)) s from (linked_label (link new_expression no_op 0 (with_arguments f)) from s') (h end) pass s'
  unfolding member_links rule_of covers
  member_new {s' = s'} {from} u w x n y b = record { reach = max 0 (max 0 (max 0 y.reach)); near = let i = y.near in omega arith; around = chain_start firsts (climbs is_member Member f) (member_links f) {F' = no_function} (member_foot ▹ (right (weaken_fails x (λ ts y e. admits (at Primary f) ts y e.0)) ▹ (left (fails_alt (no_supers u) (fails_alt (fails_under (fails_node inside_full n)) (no_meta w))) ▹ makes_by (linked_label (link new_expression no_op 0 (with_arguments f)) from s') inside_full y.goes (λ ls ls' i j. ap (λ v. linked_label (link new_expression no_op 0 (with_arguments f)) v s') (b (here ls) (here_at (Lex text) ls i)))))) refl refl b }

  pub no_member_new : {s : ℕ} → NoneIs text s super_kind → NoneIs text s Import → Underived text (at Primary f) s → Fails rule (Lex text) (plain full) end (with_arguments f) s → ((X : Test) → Fails rule (Lex text) X end (new_target f) s) → Underived text (at Member f) s
  unfolding member_links rule_of covers
  no_member_new u w x n t = chain_start_fails firsts (climbs is_member Member f) (member_links f) {F' = no_function} (member_foot ▹✗ fails_alt (weaken_fails x (λ ts y e. admits (at Primary f) ts y e.0)) (fails_alt (fails_node inside_full n) (fails_alt (no_supers u) (fails_alt (t _) (no_meta w))))) refl refl

  -- `new.target` was read
  pub member_target : {s s' from : ℕ} {h : Slots → Slots} {pass : Lexemes → Lexemes} → NoneIs text s super_kind → NoneIs text s Import → f.new_target ≡ true → Underived text (at Primary f) s → Fails rule (Lex text) (plain full) end (with_arguments f) s → Stretch text (plain full) target_slots s nothing s' h pass → ((y : Lexeme) → Lex text s y → y.from ≡ from) → Looped text (members f) (after (at Member f)) s from (linked_label (link new_target_expression no_op 0 target_slots) from s') (h end) pass s'
  unfolding member_links rule_of covers
  member_target {s' = s'} {from} u w c x n y b = record { reach = max 0 (max 0 (max 0 (max 0 (max 0 (max 0 y.reach))))); near = let i = y.near in omega arith; around = chain_start firsts (climbs is_member Member f) (member_links f) {F' = no_function} (member_foot ▹ (right (weaken_fails x (λ ts y e. admits (at Primary f) ts y e.0)) ▹ (right (fails_node inside_full n) ▹ (right (no_supers u) ▹ (left (no_meta w) ▹ (where_true c ▹ makes_by (linked_label (link new_target_expression no_op 0 target_slots) from s') inside_full y.goes (λ ls ls' i j. ap (λ v. linked_label (link new_target_expression no_op 0 target_slots) v s') (b (here ls) (here_at (Lex text) ls i))))))))) refl refl b }

  -- `import.meta` was read
  pub member_meta : {s s' from : ℕ} {h : Slots → Slots} {pass : Lexemes → Lexemes} → NoneIs text s New → NoneIs text s super_kind → f.module_goal ≡ true → Underived text (at Primary f) s → Stretch text (plain full) meta_slots s nothing s' h pass → ((y : Lexeme) → Lex text s y → y.from ≡ from) → Looped text (members f) (after (at Member f)) s from (linked_label (link import_meta no_op 0 meta_slots) from s') (h end) pass s'
  unfolding member_links rule_of covers
  member_meta {s' = s'} {from} n u c x y b = record { reach = max 0 (max 0 (max 0 (max 0 (max 0 (max 0 y.reach))))); near = let i = y.near in omega arith; around = chain_start firsts (climbs is_member Member f) (member_links f) {F' = no_function} (member_foot ▹ (right (weaken_fails x (λ ts y e. admits (at Primary f) ts y e.0)) ▹ (right (no_with n) ▹ (right (no_supers u) ▹ (right (no_target n) ▹ (where_true c ▹ makes_by (linked_label (link import_meta no_op 0 meta_slots) from s') inside_full y.goes (λ ls ls' i j. ap (λ v. linked_label (link import_meta no_op 0 meta_slots) v s') (b (here ls) (here_at (Lex text) ls i))))))))) refl refl b }

  -- or can't be
  pub no_member_import : {s : ℕ} → NoneIs text s New → NoneIs text s super_kind → Underived text (at Primary f) s → ((X : Test) → Fails rule (Lex text) X end (meta_property f) s) → Underived text (at Member f) s
  unfolding member_links rule_of covers
  no_member_import n u x t = chain_start_fails firsts (climbs is_member Member f) (member_links f) {F' = no_function} (member_foot ▹✗ fails_alt (weaken_fails x (λ ts y e. admits (at Primary f) ts y e.0)) (fails_alt (no_with n) (fails_alt (no_supers u) (fails_alt (no_target n) (t _))))) refl refl

  -- `super` was read
  module _ {s s' : ℕ} {l : Label} {cs : Slots} {pass : Lexemes → Lexemes} (n : NoneIs text s New) (w : NoneIs text s Import) (p : Underived text (at Primary f) s) (x : SuperWord text f s l cs pass s') where
    pub super_goes : (c : LinkForm) → Goes rule (Lex text) (plain full) end (behind_super f c) s (chained f c false).part s' (tree l cs) (joined (still 0) (record { reach = x.word.reach; pass = pass }))
    super_goes c = then_by {X' = plain full} (right fails_never ▹ x.word.goes) (record { admits = λ ts us vs j k ls mid rest d d' h. (refl, refl) })

    another_property : {X : Test} (c d : LinkForm) → (c ≡ d → ⊥) → OnlyLink text f s' d false → Fails rule (Lex text) X end (super_link f c) s
    another_property c d h u = fails_node inside_full (super_goes c ▹✗ other_link false c d h u)

    -- and a name or an expression in brackets behind it
    pub member_super : {s'' from : ℕ} {more : Lexemes → Lexemes} {h : Slots → Slots} (c : LinkForm) → (admits_link OfMember' c false && not (is_private_member (node_of c))) ≡ true → OnlyLink text f s' c false → s' ≤ s'' → ((y : Lexeme) → Lex text s y → y.from ≡ from) → Stretch text (plain full) (chained f c false).part s' nothing s'' h more
        → Looped text (members f) (after (at Member f)) s from (link_label c false from s'') (tree l cs (h end)) (λ ls. pass (more ls)) s''
    unfolding member_links rule_of covers
    member_super {s''} {from} by_name q u o b y = record {
      reach = max 0 (max 0 (max 0 (max 0 (max 0 (max (max 0 x.word.reach) y.reach)))));
      near = let i = x.word.near in let j = y.near in omega arith;
      around = chain_start firsts (climbs is_member Member f) (member_links f) {F' = no_function} (member_foot ▹ (right (weaken_fails p (λ ts y e. admits (at Primary f) ts y e.0)) ▹ (right (no_with n) ▹ (left (no_property n w) ▹ (left (another_property by_index by_name (λ e. cc) u) ▹ makes_by (link_label by_name false from s'') inside_full (super_goes by_name ▹ y.goes) (λ ls ls' i j. ap (λ v. link_label by_name false v s'') (b (here ls) (here_at (Lex text) ls i)))))))) refl refl b;
    }
    member_super {s''} {from} by_index q u o b y = record {
      reach = max 0 (max 0 (max 0 (max 0 (max 0 (max (max 0 x.word.reach) y.reach)))));
      near = let i = x.word.near in let j = y.near in omega arith;
      around = chain_start firsts (climbs is_member Member f) (member_links f) {F' = no_function} (member_foot ▹ (right (weaken_fails p (λ ts y e. admits (at Primary f) ts y e.0)) ▹ (right (no_with n) ▹ (left (no_property n w) ▹ (right (another_property by_name by_index (λ e. cc) u) ▹ makes_by (link_label by_index false from s'') inside_full (super_goes by_index ▹ y.goes) (λ ls ls' i j. ap (λ v. link_label by_index false v s'') (b (here ls) (here_at (Lex text) ls i)))))))) refl refl b;
    }
    member_super by_call q u o b y = absurd (false≢true q)
    member_super by_private q u o b y = absurd (false≢true q)

    -- neither stands there
    pub no_member_super : Fails rule (Lex text) (plain full) end (chained f by_name false).part s' → Fails rule (Lex text) (plain full) end (chained f by_index false).part s' → Underived text (at Member f) s
    unfolding member_links rule_of covers
    no_member_super z i = chain_start_fails firsts (climbs is_member Member f) (member_links f) {F' = no_function} (member_foot ▹✗ fails_alt (weaken_fails p (λ ts y e. admits (at Primary f) ts y e.0)) (fails_alt (no_with n) (fails_alt (no_super_link (super_goes by_name ▹✗ z) (super_goes by_index ▹✗ i)) (no_property n w)))) refl refl

  -- a name or an expression in brackets behind it
  pub member_step : {s s' s'' from : ℕ} {l : Label} {cs : Slots} {pass more : Lexemes → Lexemes} {h : Slots → Slots} (c : LinkForm) → admits_link OfMember' c false ≡ true → Looped text (members f) (after (at Member f)) s from l cs pass s' → AllAre text s' (sign_of c false) → OnlyLink text f s' c false → s' ≤ s'' → Stretch text (plain full) (chained f c false).part s' nothing s'' h more
      → Looped text (members f) (after (at Member f)) s from (link_label c false from s'') (tree l cs (h end)) (λ ls. pass (more ls)) s''
  member_step {s' = s'} by_name q x z u o y = record { reach = max x.reach y.reach; near = let i = x.near in let j = y.near in omega arith; around = member_name f x.around z (other_link false by_private by_name (λ e. cc) u) y.goes }
  member_step {s' = s'} by_private q x z u o y = record { reach = max x.reach y.reach; near = let i = x.near in let j = y.near in omega arith; around = member_private f x.around z (other_link false by_name by_private (λ e. cc) u) y.goes }
  member_step {s' = s'} by_index q x z u o y = record { reach = max x.reach y.reach; near = let i = x.near in let j = y.near in omega arith; around = member_index f x.around z y.goes }
  member_step by_call q x z u o y = absurd (false≢true q)

  not_before_access : (k : Kind) {s' : ℕ} (l : Label) (cs : Slots) → ((w : Bool) → follow_of Member f.in_ (edge_of l cs) k w false ≡ false) → AllAre text s' k → (y : Lexeme) → Lex text s' y → Admits (after (at Member f)) (tree l cs end) y → ⊥
  not_before_access k l cs h z y i e = false≢true (sym (h y.newline) ∙ subst (λ v. follow_of Member f.in_ (edge_of l cs) v y.newline false ≡ true) (z y i).0 (subst (λ v. follow_of Member f.in_ (edge_of l cs) y.kind y.newline v ≡ true) (z y i).1 e.1))

  dot_access : {s : ℕ} → NoLink text f s by_private false → (x' : Link Symbol) → OneOf x' (beginning firsts (member_links f) Dot) → (x' ≡ chained f by_name false) ⊎ Fails rule (Lex text) (plain full) end x'.part s
  unfolding member_links rule_of apart
  dot_access n x' head = inl refl
  dot_access n x' (later head) = inr n
  dot_access n x' (later (later i)) = elim i [ ]

  bracket_access : {s : ℕ} (x' : Link Symbol) → OneOf x' (beginning firsts (member_links f) LBrack) → (x' ≡ chained f by_index false) ⊎ Fails rule (Lex text) (plain full) end x'.part s
  unfolding member_links rule_of apart
  bracket_access x' head = inl refl
  bracket_access x' (later i) = elim i [ ]

  pub member_step_fails : {s s' from : ℕ} {l : Label} {cs : Slots} {pass : Lexemes → Lexemes} (c : LinkForm) → admits_link OfMember' c false ≡ true → Looped text (members f) (after (at Member f)) s from l cs pass s' → AllAre text s' (sign_of c false) → ((c : LinkForm) (o : Bool) → NoLink text f s' c o) → Underived text (at Member f) s
  unfolding member_links rule_of covers
  member_step_fails {l = l} {cs = cs} by_name q a z r = chain_step_fails_by firsts (climbs is_member Member f) (member_links f) {F' = full} {x = chained f by_name false} Dot a.around (λ y i. (z y i).0) (search (this, of_left, of_right) depth 14) (dot_access (r by_private false)) (not_before_access Dot l cs (λ w. refl) z) (λ l cs vs y e. e) (r by_name false) refl refl
  member_step_fails {l = l} {cs = cs} by_private q a z r = chain_step_fails_by firsts (climbs is_member Member f) (member_links f) {F' = full} {x = chained f by_name false} Dot a.around (λ y i. (z y i).0) (search (this, of_left, of_right) depth 14) (dot_access (r by_private false)) (not_before_access Dot l cs (λ w. refl) z) (λ l cs vs y e. e) (r by_name false) refl refl
  member_step_fails {l = l} {cs = cs} by_index q a z r = chain_step_fails_by firsts (climbs is_member Member f) (member_links f) {F' = full} {x = chained f by_index false} LBrack a.around (λ y i. (z y i).0) (search (this, of_left, of_right) depth 14) bracket_access (not_before_access LBrack l cs (λ w. refl) z) (λ l cs vs y e. e) (r by_index false) refl refl
  member_step_fails by_call q a z r = absurd (false≢true q)

  -- a template behind it
  template_access : {s : ℕ} (k : Kind) → one_of_kinds heads k ≡ true → (x' : Link Symbol) → OneOf x' (beginning firsts (member_links f) k) → (x' ≡ tagged f) ⊎ Fails rule (Lex text) (plain full) end x'.part s
  unfolding member_links rule_of apart
  template_access {s} k h = first_or (λ (v : Kind). (x' : Link Symbol) → OneOf x' (beginning firsts (member_links f) v) → (x' ≡ tagged f) ⊎ Fails rule (Lex text) (plain full) end x'.part s) NoSubstitutionTemplate k _ _ refl h (λ x' i. alone x' i) (λ h. first_or (λ (v : Kind). (x' : Link Symbol) → OneOf x' (beginning firsts (member_links f) v) → (x' ≡ tagged f) ⊎ Fails rule (Lex text) (plain full) end x'.part s) TemplateHead k _ _ refl h (λ x' i. with_more x' i) (λ h. absurd (false≢true h)))
    where
      alone : (x' : Link Symbol) → OneOf x' (beginning firsts (member_links f) NoSubstitutionTemplate) → (x' ≡ tagged f) ⊎ Fails rule (Lex text) (plain full) end x'.part s
      alone x' head = inl refl
      alone x' (later i) = elim i [ ]

      with_more : (x' : Link Symbol) → OneOf x' (beginning firsts (member_links f) TemplateHead) → (x' ≡ tagged f) ⊎ Fails rule (Lex text) (plain full) end x'.part s
      with_more x' head = inl refl
      with_more x' (later i) = elim i [ ]

  pub member_template : {s s' s'' from : ℕ} {l : Label} {cs : Slots} {pass more : Lexemes → Lexemes} {h : Slots → Slots} (k : Kind) → one_of_kinds heads k ≡ true → Looped text (members f) (after (at Member f)) s from l cs pass s' → AllAre text s' k → s' ≤ s'' → Stretch text (plain full) (tagged f).part s' nothing s'' h more
      → Looped text (members f) (after (at Member f)) s from (tagged_label from s'') (tree l cs (h end)) (λ ls. pass (more ls)) s''
  unfolding member_links rule_of covers
  member_template {l = l} {cs = cs} k i x z o y = record { reach = max x.reach y.reach; near = let i = x.near in let j = y.near in omega arith; around = chain_step_by firsts (climbs is_member Member f) (member_links f) {F' = full} k x.around (λ y i. (z y i).0) (search (this, of_left, of_right) depth 14) (template_access k i) (not_before_access k l cs (λ w. member_apart f k l cs w i) z) y.goes refl refl }

  pub member_template_fails : {s s' from : ℕ} {l : Label} {cs : Slots} {pass : Lexemes → Lexemes} (k : Kind) → one_of_kinds heads k ≡ true → Looped text (members f) (after (at Member f)) s from l cs pass s' → AllAre text s' k → Fails rule (Lex text) (plain full) end (tagged f).part s' → Underived text (at Member f) s
  unfolding member_links rule_of covers
  member_template_fails {l = l} {cs = cs} k i a z r = chain_step_fails_by firsts (climbs is_member Member f) (member_links f) {F' = full} {x = tagged f} k a.around (λ y i. (z y i).0) (search (this, of_left, of_right) depth 14) (template_access k i) (not_before_access k l cs (λ w. member_apart f k l cs w i) z) (λ l cs vs y e. e) r refl refl

  -- no access stands here
  pub member_end : {s s' from : ℕ} {l : Label} {cs : Slots} {pass : Lexemes → Lexemes} → Looped text (members f) (after (at Member f)) s from l cs pass s' → ((y : Lexeme) → Lex text s' y → one_of_kinds access_kinds y.kind ≡ false) → Stretch text (after (at Member f)) (such (at Member f) always) s nothing s' (tree l cs) pass
  member_end a n = record { reach = a.reach; near = a.near; goes = chain_end firsts (climbs is_member Member f) (member_links f) (λ l cs vs y e. e) a.around (λ y l t. false≢true (sym (n y l) ∙ covered (λ k w e. linked_starts firsts (member_links f) k w e && reads k w e) (λ k w e. one_of_kinds access_kinds k) (member_starts f) y.kind y.newline y.escaped (and_from _ _ t l.1))) }

  -- ---- `new` without arguments, and NewExpressions

  -- what is read before a lexeme that may not stand behind it is not read
  member_unfollowed : {s s' : ℕ} {l : Label} {cs : Slots} {pass : Lexemes → Lexemes} (k : Kind) → ((d : Edge) (w : Bool) → follow_of new_symbol f.in_ d k w false ≡ false) → Stretch text (after (at Member f)) (such (at Member f) always) s nothing s' (tree l cs) pass → AllAre text s' k → Fails rule (Lex text) (after (at new_symbol f)) end (such (at Member f) always) s
  unfolding covers
  member_unfollowed {l = l} {cs = cs} k h x z = unfollowed x.goes (same_read (at new_symbol f) (at Member f) refl refl) (λ us y i e. false≢true (sym (h (edge_of l cs) y.newline) ∙ subst (λ v. follow_of new_symbol f.in_ (edge_of l cs) k y.newline v ≡ true) (z y i).1 (subst (λ v. follow_of new_symbol f.in_ (edge_of l cs) v y.newline y.escaped ≡ true) (z y i).0 e.1)))

  pub no_new_before : {s s' : ℕ} {l : Label} {cs : Slots} {pass : Lexemes → Lexemes} (k : Kind) → ((d : Edge) (w : Bool) → follow_of new_symbol f.in_ d k w false ≡ false) → Stretch text (after (at Member f)) (such (at Member f) always) s nothing s' (tree l cs) pass → NoBareNew text f s → AllAre text s' k → Underived text (at new_symbol f) s
  unfolding rule rule_of
  no_new_before k h x b z = fails_by (fails_alt (member_unfollowed k h x z) b)

  pub new_unfollowed : {s s' : ℕ} {l : Label} {cs : Slots} {pass : Lexemes → Lexemes} → Stretch text (after (at new_symbol f)) (such (at new_symbol f) always) s nothing s' (tree l cs) pass → AllAre text s' QuestionDot → Underived text (at new_symbol f) s
  new_unfollowed {l = l} {cs = cs} x z = unfollowed x.goes on_itself (λ us y i e. false≢true (subst (λ v. follow_of new_symbol f.in_ (edge_of l cs) QuestionDot y.newline v ≡ true) (z y i).1 (subst (λ v. follow_of new_symbol f.in_ (edge_of l cs) v y.newline y.escaped ≡ true) (z y i).0 e.1)))

  pub no_new_by : {s : ℕ} → Underived text (at Member f) s → NoBareNew text f s → Underived text (at new_symbol f) s
  unfolding rule rule_of covers
  no_new_by n b = fails_by (fails_alt (weaken_fails_on n (same_read (at new_symbol f) (at Member f) refl refl)) b)

  pub no_new : {s : ℕ} → NoMember text f s → Underived text (at new_symbol f) s
  no_new n = no_new_by n.0 n.1.bare

  pub new_member : {s s' : ℕ} {l : Label} {cs : Slots} {pass : Lexemes → Lexemes} → Stretch text (after (at Member f)) (such (at Member f) always) s nothing s' (tree l cs) pass → NoBareNew text f s → Stretch text (after (at new_symbol f)) (such (at new_symbol f) always) s nothing s' (tree l cs) pass
  unfolding rule rule_of covers
  new_member x b = record { reach = max 0 x.reach; near = let i = x.near in omega arith; goes = by_rule {X' = after (at new_symbol f)} (λ l cs vs y e. e) (left b ▹ weaken_on x.goes (same_read (at new_symbol f) (at Member f) refl refl)) refl }

  pub new_bare : {s s' : ℕ} {l : Label} {cs : Slots} {pass : Lexemes → Lexemes} → Underived text (at Member f) s → Stretch text (after (at new_symbol f)) (without_arguments f) s nothing s' (tree l cs) pass → Stretch text (after (at new_symbol f)) (such (at new_symbol f) always) s nothing s' (tree l cs) pass
  unfolding rule rule_of covers
  new_bare n x = record { reach = max 0 x.reach; near = let i = x.near in omega arith; goes = by_rule {X' = after (at new_symbol f)} (λ l cs vs y e. e) (right (weaken_fails_on n (same_read (at new_symbol f) (at Member f) refl refl)) ▹ x.goes) refl }

  -- ---- arguments behind a member

  -- the member alone is no callee before `?.`
  pub member_before_chain : {s s' : ℕ} {l : Label} {cs : Slots} {pass : Lexemes → Lexemes} → Stretch text (after (at Member f)) (such (at Member f) always) s nothing s' (tree l cs) pass → AllAre text s' LParen → Fails rule (Lex text) before_chain end (such (at Member f) always) s
  unfolding covers
  member_before_chain x z = unfollowed x.goes (record { admits = λ ts vs k ls rest d e. admits (at Member f) ts (here rest) (covered (is QuestionDot) behind_member refl (here rest).kind (here rest).newline (here rest).escaped e.0) }) (λ us y i e. none_seen (is_one z parens_differ) y i e.0)

  call_foot : {X : Test} {s : ℕ} → Goes rule (Lex text) X end (base_of is_call Call f) s (alt (first_call f) (import_call f)) s (λ us. us) (still 0)
  call_foot {X} {s} = subst (λ (g : G). Goes rule (Lex text) X end (base_of is_call Call f) s g s (λ us. us) (still 0)) (call_left f) (lives (base_of is_call Call f))

  callee_goes : {s s' : ℕ} {l : Label} {cs : Slots} {pass : Lexemes → Lexemes} (x : Stretch text (after (at Member f)) (such (at Member f) always) s nothing s' (tree l cs) pass) → NoSuperCall text f s → Goes rule (Lex text) (plain full) end (seq (callees f) (args f)) s (args f) s' (tree l cs) (joined (still 0) (record { reach = x.reach; pass = pass }))
  unfolding covers
  callee_goes x u = then_by {X' = before_call} (left (fails_alt u fails_never) ▹ weaken x.goes (λ ts y e. admits (at Member f) ts y (covered (is LParen) behind_member refl y.kind y.newline y.escaped e.0))) (by_first firsts (by_plain (is LParen)) refl)

  no_member_call : {s : ℕ} → Underived text (at Member f) s → Fails rule (Lex text) before_call end (such (at Member f) always) s
  unfolding covers
  no_member_call x = weaken_fails x (λ ts y e. admits (at Member f) ts y (covered (is LParen) behind_member refl y.kind y.newline y.escaped e.0))

  callee_super : {s s' : ℕ} {l : Label} {cs : Slots} {pass : Lexemes → Lexemes} → Underived text (at Member f) s → (x : SuperWord text f s l cs pass s') → Goes rule (Lex text) (plain full) end (seq (callees f) (args f)) s (args f) s' (tree l cs) (joined (still 0) (joined (still 0) (record { reach = x.word.reach; pass = pass })))
  unfolding covers
  callee_super n x = then_by {X' = before_call} (right (no_member_call n) ▹ (left fails_never ▹ weaken x.word.goes (λ ts y e. (refl, refl)))) (by_first firsts (by_plain (is LParen)) refl)

  callee_fails : {s : ℕ} → Underived text (at Member f) s → NoSuperCall text f s → Fails rule (Lex text) (plain full) end (seq (callees f) (args f)) s
  unfolding covers
  callee_fails x u = part_fails {X' = before_call} (fails_alt (no_member_call x) (fails_alt u fails_never)) (by_first firsts (by_plain (is LParen)) refl)

  -- no call begins here
  no_call_by : {X : Test} {s : ℕ} → Fails rule (Lex text) (plain full) end (seq (callees f) (args f)) s → NoImport text f s → Fails rule (Lex text) X end (such (at Call f) always) s
  unfolding call_links rule_of covers
  no_call_by x i = chain_start_fails firsts (climbs is_call Call f) (call_links f) {F' = full} (call_foot ▹✗ fails_alt (fails_node inside_full x) (fails_node inside_full i)) refl refl

  pub no_call_at_all : {X : Test} {s : ℕ} → Underived text (at Member f) s → NoSuperCall text f s → NoImport text f s → Fails rule (Lex text) X end (such (at Call f) always) s
  no_call_at_all x u i = no_call_by (callee_fails x u) i

  pub no_super_call : {X : Test} {s s' : ℕ} {l : Label} {cs : Slots} {pass : Lexemes → Lexemes} → Underived text (at Member f) s → SuperWord text f s l cs pass s' → NoImport text f s → Fails rule (Lex text) (plain full) end (args f) s' → Fails rule (Lex text) X end (such (at Call f) always) s
  no_super_call x w i n = no_call_by (callee_super x w ▹✗ n) i

  pub no_call_behind : {X : Test} {s s' : ℕ} {l : Label} {cs : Slots} {pass : Lexemes → Lexemes} → Stretch text (after (at Member f)) (such (at Member f) always) s nothing s' (tree l cs) pass → NoSuperCall text f s → NoImport text f s → Fails rule (Lex text) (plain full) end (args f) s' → Fails rule (Lex text) X end (such (at Call f) always) s
  no_call_behind x u i n = no_call_by (callee_goes x u ▹✗ n) i

  -- arguments were read behind a member
  pub call_begin : {s s' s'' from : ℕ} {l : Label} {cs : Slots} {pass more : Lexemes → Lexemes} {h : Slots → Slots} → Stretch text (after (at Member f)) (such (at Member f) always) s nothing s' (tree l cs) pass → NoSuperCall text f s → NoImport text f s → s' ≤ s'' → ((y : Lexeme) → Lex text s y → y.from ≡ from) → Stretch text (plain full) (args f) s' nothing s'' h more
      → Looped text (calls f) (after (at Call f)) s from (link_label by_call false from s'') (tree l cs (h end)) (λ ls. pass (more ls)) s''
  unfolding call_links rule_of covers
  call_begin {s = s} {s'' = s''} {from = from} x u w o b y = record {
    reach = max 0 (max 0 (max (max 0 x.reach) y.reach));
    near = let i = x.near in let j = y.near in omega arith;
    around = chain_start firsts (climbs is_call Call f) (call_links f) {F' = full} (call_foot ▹ (left (fails_node inside_full w) ▹ makes_by (link_label by_call false from s'') inside_full (callee_goes x u ▹ y.goes) (λ ls ls' i j. ap (λ v. link_label by_call false v s'') (b (here ls) (here_at (Lex text) ls i))))) refl refl b;
  }

  -- and behind `super`
  pub super_begin : {s s' s'' from : ℕ} {l : Label} {cs : Slots} {pass more : Lexemes → Lexemes} {h : Slots → Slots} → Underived text (at Member f) s → SuperWord text f s l cs pass s' → NoImport text f s → s' ≤ s'' → ((y : Lexeme) → Lex text s y → y.from ≡ from) → Stretch text (plain full) (args f) s' nothing s'' h more
      → Looped text (calls f) (after (at Call f)) s from (link_label by_call false from s'') (tree l cs (h end)) (λ ls. pass (more ls)) s''
  unfolding call_links rule_of covers
  super_begin {s = s} {s'' = s''} {from = from} n x w o b y = record {
    reach = max 0 (max 0 (max (max 0 (max 0 x.word.reach)) y.reach));
    near = let i = x.word.near in let j = y.near in omega arith;
    around = chain_start firsts (climbs is_call Call f) (call_links f) {F' = full} (call_foot ▹ (left (fails_node inside_full w) ▹ makes_by (link_label by_call false from s'') inside_full (callee_super n x ▹ y.goes) (λ ls ls' i j. ap (λ v. link_label by_call false v s'') (b (here ls) (here_at (Lex text) ls i))))) refl refl b;
  }

  -- an ImportCall was read
  pub import_begin : {s s' from : ℕ} {h : Slots → Slots} {pass : Lexemes → Lexemes} → Underived text (at Member f) s → NoSuperCall text f s → Stretch text (plain full) (import_slots f) s nothing s' h pass → ((y : Lexeme) → Lex text s y → y.from ≡ from) → Looped text (calls f) (after (at Call f)) s from (linked_label (link import_expression no_op 0 (import_slots f)) from s') (h end) pass s'
  unfolding call_links rule_of covers
  import_begin {s' = s'} {from} x u y b = record { reach = max 0 (max 0 y.reach); near = let i = y.near in omega arith; around = chain_start firsts (climbs is_call Call f) (call_links f) {F' = full} (call_foot ▹ (right (fails_node inside_full (callee_fails x u)) ▹ makes_by (linked_label (link import_expression no_op 0 (import_slots f)) from s') inside_full y.goes (λ ls ls' i j. ap (λ v. linked_label (link import_expression no_op 0 (import_slots f)) v s') (b (here ls) (here_at (Lex text) ls i))))) refl refl b }

  not_before_call : (k : Kind) {s' : ℕ} (l : Label) (cs : Slots) → ((w : Bool) → follow_of Call f.in_ (edge_of l cs) k w false ≡ false) → AllAre text s' k → (y : Lexeme) → Lex text s' y → Admits (after (at Call f)) (tree l cs end) y → ⊥
  not_before_call k l cs h z y i e = false≢true (sym (h y.newline) ∙ subst (λ v. follow_of Call f.in_ (edge_of l cs) v y.newline false ≡ true) (z y i).0 (subst (λ v. follow_of Call f.in_ (edge_of l cs) y.kind y.newline v ≡ true) (z y i).1 e.1))

  dot_call : {s : ℕ} → NoLink text f s by_private false → (x' : Link Symbol) → OneOf x' (beginning firsts (call_links f) Dot) → (x' ≡ chained f by_name false) ⊎ Fails rule (Lex text) (plain full) end x'.part s
  unfolding call_links rule_of apart
  dot_call n x' head = inl refl
  dot_call n x' (later head) = inr n
  dot_call n x' (later (later i)) = elim i [ ]

  private_call : {s : ℕ} → NoLink text f s by_name false → (x' : Link Symbol) → OneOf x' (beginning firsts (call_links f) Dot) → (x' ≡ chained f by_private false) ⊎ Fails rule (Lex text) (plain full) end x'.part s
  unfolding call_links rule_of apart
  private_call n x' head = inr n
  private_call n x' (later head) = inl refl
  private_call n x' (later (later i)) = elim i [ ]

  paren_call : {s : ℕ} (x' : Link Symbol) → OneOf x' (beginning firsts (call_links f) LParen) → (x' ≡ chained f by_call false) ⊎ Fails rule (Lex text) (plain full) end x'.part s
  unfolding call_links rule_of apart
  paren_call x' head = inl refl
  paren_call x' (later i) = elim i [ ]

  bracket_call : {s : ℕ} (x' : Link Symbol) → OneOf x' (beginning firsts (call_links f) LBrack) → (x' ≡ chained f by_index false) ⊎ Fails rule (Lex text) (plain full) end x'.part s
  unfolding call_links rule_of apart
  bracket_call x' head = inl refl
  bracket_call x' (later i) = elim i [ ]

  pub call_step : {s s' s'' from : ℕ} {l : Label} {cs : Slots} {pass more : Lexemes → Lexemes} {h : Slots → Slots} (c : LinkForm) → Looped text (calls f) (after (at Call f)) s from l cs pass s' → AllAre text s' (sign_of c false) → OnlyLink text f s' c false → s' ≤ s'' → Stretch text (plain full) (chained f c false).part s' nothing s'' h more
      → Looped text (calls f) (after (at Call f)) s from (link_label c false from s'') (tree l cs (h end)) (λ ls. pass (more ls)) s''
  unfolding call_links rule_of covers
  call_step {l = l} {cs = cs} by_call x z u o y = record { reach = max x.reach y.reach; near = let i = x.near in let j = y.near in omega arith; around = chain_step_by firsts (climbs is_call Call f) (call_links f) {F' = full} LParen x.around (λ y i. (z y i).0) (search (this, of_left, of_right) depth 14) paren_call (not_before_call LParen l cs (λ w. refl) z) y.goes refl refl }
  call_step {l = l} {cs = cs} by_name x z u o y = record { reach = max x.reach y.reach; near = let i = x.near in let j = y.near in omega arith; around = chain_step_by firsts (climbs is_call Call f) (call_links f) {F' = full} Dot x.around (λ y i. (z y i).0) (search (this, of_left, of_right) depth 14) (dot_call (other_link false by_private by_name (λ e. cc) u)) (not_before_call Dot l cs (λ w. refl) z) y.goes refl refl }
  call_step {l = l} {cs = cs} by_private x z u o y = record { reach = max x.reach y.reach; near = let i = x.near in let j = y.near in omega arith; around = chain_step_by firsts (climbs is_call Call f) (call_links f) {F' = full} Dot x.around (λ y i. (z y i).0) (search (this, of_left, of_right) depth 14) (private_call (other_link false by_name by_private (λ e. cc) u)) (not_before_call Dot l cs (λ w. refl) z) y.goes refl refl }
  call_step {l = l} {cs = cs} by_index x z u o y = record { reach = max x.reach y.reach; near = let i = x.near in let j = y.near in omega arith; around = chain_step_by firsts (climbs is_call Call f) (call_links f) {F' = full} LBrack x.around (λ y i. (z y i).0) (search (this, of_left, of_right) depth 14) bracket_call (not_before_call LBrack l cs (λ w. refl) z) y.goes refl refl }

  pub call_step_fails : {X : Test} {s s' from : ℕ} {l : Label} {cs : Slots} {pass : Lexemes → Lexemes} (c : LinkForm) → Heads X (after (at Call f)) → Looped text (calls f) (after (at Call f)) s from l cs pass s' → AllAre text s' (sign_of c false) → ((c : LinkForm) (o : Bool) → NoLink text f s' c o) → Fails rule (Lex text) X end (such (at Call f) always) s
  unfolding call_links rule_of covers
  call_step_fails {l = l} {cs = cs} by_call p x z r = chain_step_fails_by firsts (climbs is_call Call f) (call_links f) {F' = full} {x = chained f by_call false} LParen x.around (λ y i. (z y i).0) (search (this, of_left, of_right) depth 14) paren_call (not_before_call LParen l cs (λ w. refl) z) p (r by_call false) refl refl
  call_step_fails {l = l} {cs = cs} by_name p x z r = chain_step_fails_by firsts (climbs is_call Call f) (call_links f) {F' = full} {x = chained f by_name false} Dot x.around (λ y i. (z y i).0) (search (this, of_left, of_right) depth 14) (dot_call (r by_private false)) (not_before_call Dot l cs (λ w. refl) z) p (r by_name false) refl refl
  call_step_fails {l = l} {cs = cs} by_private p x z r = chain_step_fails_by firsts (climbs is_call Call f) (call_links f) {F' = full} {x = chained f by_name false} Dot x.around (λ y i. (z y i).0) (search (this, of_left, of_right) depth 14) (dot_call (r by_private false)) (not_before_call Dot l cs (λ w. refl) z) p (r by_name false) refl refl
  call_step_fails {l = l} {cs = cs} by_index p x z r = chain_step_fails_by firsts (climbs is_call Call f) (call_links f) {F' = full} {x = chained f by_index false} LBrack x.around (λ y i. (z y i).0) (search (this, of_left, of_right) depth 14) bracket_call (not_before_call LBrack l cs (λ w. refl) z) p (r by_index false) refl refl

  -- a template behind it
  template_call : {s : ℕ} (k : Kind) → one_of_kinds heads k ≡ true → (x' : Link Symbol) → OneOf x' (beginning firsts (call_links f) k) → (x' ≡ tagged f) ⊎ Fails rule (Lex text) (plain full) end x'.part s
  unfolding call_links rule_of apart
  template_call {s} k h = first_or (λ (v : Kind). (x' : Link Symbol) → OneOf x' (beginning firsts (call_links f) v) → (x' ≡ tagged f) ⊎ Fails rule (Lex text) (plain full) end x'.part s) NoSubstitutionTemplate k _ _ refl h (λ x' i. alone x' i) (λ h. first_or (λ (v : Kind). (x' : Link Symbol) → OneOf x' (beginning firsts (call_links f) v) → (x' ≡ tagged f) ⊎ Fails rule (Lex text) (plain full) end x'.part s) TemplateHead k _ _ refl h (λ x' i. with_more x' i) (λ h. absurd (false≢true h)))
    where
      alone : (x' : Link Symbol) → OneOf x' (beginning firsts (call_links f) NoSubstitutionTemplate) → (x' ≡ tagged f) ⊎ Fails rule (Lex text) (plain full) end x'.part s
      alone x' head = inl refl
      alone x' (later i) = elim i [ ]

      with_more : (x' : Link Symbol) → OneOf x' (beginning firsts (call_links f) TemplateHead) → (x' ≡ tagged f) ⊎ Fails rule (Lex text) (plain full) end x'.part s
      with_more x' head = inl refl
      with_more x' (later i) = elim i [ ]

  pub call_template : {s s' s'' from : ℕ} {l : Label} {cs : Slots} {pass more : Lexemes → Lexemes} {h : Slots → Slots} (k : Kind) → one_of_kinds heads k ≡ true → Looped text (calls f) (after (at Call f)) s from l cs pass s' → AllAre text s' k → s' ≤ s'' → Stretch text (plain full) (tagged f).part s' nothing s'' h more
      → Looped text (calls f) (after (at Call f)) s from (tagged_label from s'') (tree l cs (h end)) (λ ls. pass (more ls)) s''
  unfolding call_links rule_of covers
  call_template {l = l} {cs = cs} k i x z o y = record { reach = max x.reach y.reach; near = let i = x.near in let j = y.near in omega arith; around = chain_step_by firsts (climbs is_call Call f) (call_links f) {F' = full} k x.around (λ y i. (z y i).0) (search (this, of_left, of_right) depth 14) (template_call k i) (not_before_call k l cs (λ w. call_apart f k l cs w i) z) y.goes refl refl }

  pub call_template_fails : {X : Test} {s s' from : ℕ} {l : Label} {cs : Slots} {pass : Lexemes → Lexemes} (k : Kind) → one_of_kinds heads k ≡ true → Heads X (after (at Call f)) → Looped text (calls f) (after (at Call f)) s from l cs pass s' → AllAre text s' k → Fails rule (Lex text) (plain full) end (tagged f).part s' → Fails rule (Lex text) X end (such (at Call f) always) s
  unfolding call_links rule_of covers
  call_template_fails {l = l} {cs = cs} k i p x z r = chain_step_fails_by firsts (climbs is_call Call f) (call_links f) {F' = full} {x = tagged f} k x.around (λ y i. (z y i).0) (search (this, of_left, of_right) depth 14) (template_call k i) (not_before_call k l cs (λ w. call_apart f k l cs w i) z) p r refl refl

  pub call_ends : {s s' from : ℕ} {l : Label} {cs : Slots} {pass : Lexemes → Lexemes} → Looped text (calls f) (after (at Call f)) s from l cs pass s' → ((y : Lexeme) → Lex text s' y → one_of_kinds call_kinds y.kind ≡ false) → Stretch text (after (at Call f)) (such (at Call f) always) s nothing s' (tree l cs) pass
  call_ends a n = record { reach = a.reach; near = a.near; goes = chain_end firsts (climbs is_call Call f) (call_links f) (λ l cs vs y e. e) a.around (λ y l t. false≢true (sym (n y l) ∙ covered (λ k w e. linked_starts firsts (call_links f) k w e && reads k w e) (λ k w e. one_of_kinds call_kinds k) (call_starts f) y.kind y.newline y.escaped (and_from _ _ t l.1))) }

  -- ---- optional chains

  chain_foot : {X : Test} {s : ℕ} → Goes rule (Lex text) X end (base_of is_links Links f) s (first_links f) s (λ us. us) (still 0)
  chain_foot {X} {s} = subst (λ (g : G). Goes rule (Lex text) X end (base_of is_links Links f) s g s (λ us. us) (still 0)) (chain_left f) (lives (base_of is_links Links f))

  no_arguments_part : {s : ℕ} → NoneIs text s LParen → Fails rule (Lex text) (plain full) end (args f) s
  no_arguments_part n = fails_here firsts (λ y l h. none_seen n y l h)

  -- what stands before the first `?.`: a member, or a call
  pub base_member : {s s' : ℕ} {l : Label} {cs : Slots} {pass : Lexemes → Lexemes} → Stretch text (after (at Member f)) (such (at Member f) always) s nothing s' (tree l cs) pass → NoSuperCall text f s → NoImport text f s → AllAre text s' QuestionDot → Stretch text before_chain (bases f) s nothing s' (tree l cs) pass
  unfolding covers
  base_member x u w z = record { reach = max 0 x.reach; near = let i = x.near in omega arith; goes = left (fails_alt (no_call_behind x u w (no_arguments_part (is_one z (λ e. cc)))) fails_never) ▹ weaken x.goes (λ ts y e. admits (at Member f) ts y (covered (is QuestionDot) behind_member refl y.kind y.newline y.escaped e.0)) }

  pub base_call : {s s' : ℕ} {l : Label} {cs : Slots} {pass : Lexemes → Lexemes} → Stretch text (after (at Call f)) (such (at Call f) always) s nothing s' (tree l cs) pass → Fails rule (Lex text) before_chain end (such (at Member f) always) s → Stretch text before_chain (bases f) s nothing s' (tree l cs) pass
  unfolding covers
  base_call x n = record { reach = max 0 (max 0 x.reach); near = let i = x.near in omega arith; goes = right n ▹ (left fails_never ▹ weaken x.goes (λ ts y e. admits (at Call f) ts y (covered (is QuestionDot) behind_call refl y.kind y.newline y.escaped e.0))) }

  pub base_none : {s : ℕ} → Fails rule (Lex text) before_chain end (such (at Member f) always) s → Fails rule (Lex text) before_chain end (such (at Call f) always) s → Fails rule (Lex text) before_chain end (bases f) s
  base_none m c = fails_alt m (fails_alt c fails_never)

  headed : {s s' : ℕ} {l : Label} {cs : Slots} {pass : Lexemes → Lexemes} (c : LinkForm) (x : Stretch text before_chain (bases f) s nothing s' (tree l cs) pass) → Goes rule (Lex text) (plain full) end (seq (bases f) (chained f c true).part) s (chained f c true).part s' (tree l cs) (record { reach = x.reach; pass = pass })
  unfolding covers
  headed by_call x = then_by {X' = before_chain} x.goes (by_first firsts (by_plain (is QuestionDot)) refl)
  headed by_name x = then_by {X' = before_chain} x.goes (by_first firsts (by_plain (is QuestionDot)) refl)
  headed by_private x = then_by {X' = before_chain} x.goes (by_first firsts (by_plain (is QuestionDot)) refl)
  headed by_index x = then_by {X' = before_chain} x.goes (by_first firsts (by_plain (is QuestionDot)) refl)

  headless : {s : ℕ} (c : LinkForm) → Fails rule (Lex text) before_chain end (bases f) s → Fails rule (Lex text) (plain full) end (seq (bases f) (chained f c true).part) s
  unfolding covers
  headless by_call x = part_fails {X' = before_chain} x (by_first firsts (by_plain (is QuestionDot)) refl)
  headless by_name x = part_fails {X' = before_chain} x (by_first firsts (by_plain (is QuestionDot)) refl)
  headless by_private x = part_fails {X' = before_chain} x (by_first firsts (by_plain (is QuestionDot)) refl)
  headless by_index x = part_fails {X' = before_chain} x (by_first firsts (by_plain (is QuestionDot)) refl)

  -- the first link was read, and it is no other one
  another_first : {s s' : ℕ} {l : Label} {cs : Slots} {pass : Lexemes → Lexemes} (x : Stretch text before_chain (bases f) s nothing s' (tree l cs) pass) (c d : LinkForm) → (c ≡ d → ⊥) → OnlyLink text f s' d true → Fails rule (Lex text) (plain full) end (first_link f c) s
  another_first x c d n u = fails_node inside_full (headed c x ▹✗ other_link true c d n u)

  module _ {s s' s'' from : ℕ} {l : Label} {cs : Slots} {pass more : Lexemes → Lexemes} {h : Slots → Slots} (x : Stretch text before_chain (bases f) s nothing s' (tree l cs) pass) (o : s' ≤ s'') (b : (y : Lexeme) → Lex text s y → y.from ≡ from) where
    the_first : {X : Test} (c : LinkForm) (y : Stretch text (plain full) (chained f c true).part s' nothing s'' h more) → Reads rule (Lex text) X end (first_link f c) s s'' (tree (link_label c true from s'') (tree l cs (h end))) (joined (record { reach = x.reach; pass = pass }) (record { reach = y.reach; pass = more }))
    the_first c y = makes_by (link_label c true from s'') inside_full (headed c x ▹ y.goes) (λ ls ls' i j. ap (λ v. link_label c true v s'') (b (here ls) (here_at (Lex text) ls i)))

    pub chain_begin : (c : LinkForm) → OnlyLink text f s' c true → Stretch text (plain full) (chained f c true).part s' nothing s'' h more → Looped text (chains f) (after (at Links f)) s from (link_label c true from s'') (tree l cs (h end)) (λ ls. pass (more ls)) s''
    unfolding chain_links rule_of covers
    chain_begin by_call u y = record {
      reach = max 0 (max 0 (max x.reach y.reach));
      near = let i = x.near in let j = y.near in omega arith;
      around = chain_start firsts (climbs is_links Links f) (chain_links f) {F' = full} (chain_foot ▹ (left (fails_alt (another_first x by_name by_call (λ e. cc) u) (fails_alt (another_first x by_private by_call (λ e. cc) u) (another_first x by_index by_call (λ e. cc) u))) ▹ the_first by_call y)) refl refl b;
    }
    chain_begin by_name u y = record {
      reach = max 0 (max 0 (max 0 (max x.reach y.reach)));
      near = let i = x.near in let j = y.near in omega arith;
      around = chain_start firsts (climbs is_links Links f) (chain_links f) {F' = full} (chain_foot ▹ (right (another_first x by_call by_name (λ e. cc) u) ▹ (left (fails_alt (another_first x by_private by_name (λ e. cc) u) (another_first x by_index by_name (λ e. cc) u)) ▹ the_first by_name y))) refl refl b;
    }
    chain_begin by_private u y = record {
      reach = max 0 (max 0 (max 0 (max 0 (max x.reach y.reach))));
      near = let i = x.near in let j = y.near in omega arith;
      around = chain_start firsts (climbs is_links Links f) (chain_links f) {F' = full} (chain_foot ▹ (right (another_first x by_call by_private (λ e. cc) u) ▹ (right (another_first x by_name by_private (λ e. cc) u) ▹ (left (another_first x by_index by_private (λ e. cc) u) ▹ the_first by_private y)))) refl refl b;
    }
    chain_begin by_index u y = record {
      reach = max 0 (max 0 (max 0 (max 0 (max x.reach y.reach))));
      near = let i = x.near in let j = y.near in omega arith;
      around = chain_start firsts (climbs is_links Links f) (chain_links f) {F' = full} (chain_foot ▹ (right (another_first x by_call by_index (λ e. cc) u) ▹ (right (another_first x by_name by_index (λ e. cc) u) ▹ (right (another_first x by_private by_index (λ e. cc) u) ▹ the_first by_index y)))) refl refl b;
    }

  no_chain : {s : ℕ} → Underived text (at Links f) s → Underived text (at Chain f) s
  unfolding rule rule_of
  no_chain x = fails_by (fails_node (record { ends = λ p cs vs j ls mid d e. e }) x)

  first_fails : {s : ℕ} → ((c : LinkForm) → Fails rule (Lex text) (plain full) end (seq (bases f) (chained f c true).part) s) → Underived text (at Chain f) s
  unfolding chain_links rule_of covers
  first_fails x = no_chain (chain_start_fails firsts (climbs is_links Links f) (chain_links f) {F' = full} (chain_foot ▹✗ fails_alt (fails_node inside_full (x by_call)) (fails_alt (fails_node inside_full (x by_name)) (fails_alt (fails_node inside_full (x by_private)) (fails_node inside_full (x by_index))))) refl refl)

  pub no_first : {s : ℕ} → Fails rule (Lex text) before_chain end (bases f) s → Underived text (at Chain f) s
  no_first x = first_fails (λ c. headless c x)

  -- behind a base stands no link
  pub no_link : {s s' : ℕ} {l : Label} {cs : Slots} {pass : Lexemes → Lexemes} → Stretch text before_chain (bases f) s nothing s' (tree l cs) pass → ((c : LinkForm) → Fails rule (Lex text) (plain full) end (chained f c true).part s') → Underived text (at Chain f) s
  no_link x n = first_fails (λ c. headed c x ▹✗ n c)

  not_before_link : (k : Kind) {s' : ℕ} (l : Label) (cs : Slots) → ((w : Bool) → follow_of Links f.in_ (edge_of l cs) k w false ≡ false) → AllAre text s' k → (y : Lexeme) → Lex text s' y → Admits (after (at Links f)) (tree l cs end) y → ⊥
  not_before_link k l cs h z y i e = false≢true (sym (h y.newline) ∙ subst (λ v. follow_of Links f.in_ (edge_of l cs) v y.newline false ≡ true) (z y i).0 (subst (λ v. follow_of Links f.in_ (edge_of l cs) y.kind y.newline v ≡ true) (z y i).1 e.1))

  dot_link : {s : ℕ} → NoLink text f s by_private false → (x' : Link Symbol) → OneOf x' (beginning firsts (chain_links f) Dot) → (x' ≡ chained f by_name false) ⊎ Fails rule (Lex text) (plain full) end x'.part s
  unfolding chain_links rule_of apart
  dot_link n x' head = inl refl
  dot_link n x' (later head) = inr n
  dot_link n x' (later (later i)) = elim i [ ]

  private_link : {s : ℕ} → NoLink text f s by_name false → (x' : Link Symbol) → OneOf x' (beginning firsts (chain_links f) Dot) → (x' ≡ chained f by_private false) ⊎ Fails rule (Lex text) (plain full) end x'.part s
  unfolding chain_links rule_of apart
  private_link n x' head = inr n
  private_link n x' (later head) = inl refl
  private_link n x' (later (later i)) = elim i [ ]

  paren_link : {s : ℕ} (x' : Link Symbol) → OneOf x' (beginning firsts (chain_links f) LParen) → (x' ≡ chained f by_call false) ⊎ Fails rule (Lex text) (plain full) end x'.part s
  unfolding chain_links rule_of apart
  paren_link x' head = inl refl
  paren_link x' (later i) = elim i [ ]

  bracket_link : {s : ℕ} (x' : Link Symbol) → OneOf x' (beginning firsts (chain_links f) LBrack) → (x' ≡ chained f by_index false) ⊎ Fails rule (Lex text) (plain full) end x'.part s
  unfolding chain_links rule_of apart
  bracket_link x' head = inl refl
  bracket_link x' (later i) = elim i [ ]

  optional_one : {s : ℕ} (c : LinkForm) → OnlyLink text f s c true → (x' : Link Symbol) → OneOf x' (beginning firsts (chain_links f) QuestionDot) → (x' ≡ chained f c true) ⊎ Fails rule (Lex text) (plain full) end x'.part s
  unfolding chain_links rule_of apart
  optional_one by_call u x' head = inl refl
  optional_one by_call u x' (later head) = inr (other_link true by_name by_call (λ e. cc) u)
  optional_one by_call u x' (later (later head)) = inr (other_link true by_private by_call (λ e. cc) u)
  optional_one by_call u x' (later (later (later head))) = inr (other_link true by_index by_call (λ e. cc) u)
  optional_one by_name u x' head = inr (other_link true by_call by_name (λ e. cc) u)
  optional_one by_name u x' (later head) = inl refl
  optional_one by_name u x' (later (later head)) = inr (other_link true by_private by_name (λ e. cc) u)
  optional_one by_name u x' (later (later (later head))) = inr (other_link true by_index by_name (λ e. cc) u)
  optional_one by_private u x' head = inr (other_link true by_call by_private (λ e. cc) u)
  optional_one by_private u x' (later head) = inr (other_link true by_name by_private (λ e. cc) u)
  optional_one by_private u x' (later (later head)) = inl refl
  optional_one by_private u x' (later (later (later head))) = inr (other_link true by_index by_private (λ e. cc) u)
  optional_one by_index u x' head = inr (other_link true by_call by_index (λ e. cc) u)
  optional_one by_index u x' (later head) = inr (other_link true by_name by_index (λ e. cc) u)
  optional_one by_index u x' (later (later head)) = inr (other_link true by_private by_index (λ e. cc) u)
  optional_one by_index u x' (later (later (later head))) = inl refl
  optional_one c u x' (later (later (later (later i)))) = elim i [ ]

  module _ {s s' from : ℕ} {l : Label} {cs : Slots} {pass : Lexemes → Lexemes} (x : Looped text (chains f) (after (at Links f)) s from l cs pass s') where
    pub chain_step : {s'' : ℕ} {more : Lexemes → Lexemes} {h : Slots → Slots} (c : LinkForm) (o : Bool) → AllAre text s' (sign_of c o) → OnlyLink text f s' c o → s' ≤ s'' → Stretch text (plain full) (chained f c o).part s' nothing s'' h more
        → Looped text (chains f) (after (at Links f)) s from (link_label c o from s'') (tree l cs (h end)) (λ ls. pass (more ls)) s''
    unfolding chain_links rule_of covers
    chain_step by_call true z u o y = record { reach = max x.reach y.reach; near = let i = x.near in let j = y.near in omega arith; around = chain_step_by firsts (climbs is_links Links f) (chain_links f) {F' = full} QuestionDot x.around (λ y i. (z y i).0) (search (this, of_left, of_right) depth 14) (optional_one by_call u) (not_before_link QuestionDot l cs (λ w. refl) z) y.goes refl refl }
    chain_step by_name true z u o y = record { reach = max x.reach y.reach; near = let i = x.near in let j = y.near in omega arith; around = chain_step_by firsts (climbs is_links Links f) (chain_links f) {F' = full} QuestionDot x.around (λ y i. (z y i).0) (search (this, of_left, of_right) depth 14) (optional_one by_name u) (not_before_link QuestionDot l cs (λ w. refl) z) y.goes refl refl }
    chain_step by_private true z u o y = record { reach = max x.reach y.reach; near = let i = x.near in let j = y.near in omega arith; around = chain_step_by firsts (climbs is_links Links f) (chain_links f) {F' = full} QuestionDot x.around (λ y i. (z y i).0) (search (this, of_left, of_right) depth 14) (optional_one by_private u) (not_before_link QuestionDot l cs (λ w. refl) z) y.goes refl refl }
    chain_step by_index true z u o y = record { reach = max x.reach y.reach; near = let i = x.near in let j = y.near in omega arith; around = chain_step_by firsts (climbs is_links Links f) (chain_links f) {F' = full} QuestionDot x.around (λ y i. (z y i).0) (search (this, of_left, of_right) depth 14) (optional_one by_index u) (not_before_link QuestionDot l cs (λ w. refl) z) y.goes refl refl }
    chain_step by_call false z u o y = record { reach = max x.reach y.reach; near = let i = x.near in let j = y.near in omega arith; around = chain_step_by firsts (climbs is_links Links f) (chain_links f) {F' = full} LParen x.around (λ y i. (z y i).0) (search (this, of_left, of_right) depth 14) paren_link (not_before_link LParen l cs (λ w. refl) z) y.goes refl refl }
    chain_step by_name false z u o y = record { reach = max x.reach y.reach; near = let i = x.near in let j = y.near in omega arith; around = chain_step_by firsts (climbs is_links Links f) (chain_links f) {F' = full} Dot x.around (λ y i. (z y i).0) (search (this, of_left, of_right) depth 14) (dot_link (other_link false by_private by_name (λ e. cc) u)) (not_before_link Dot l cs (λ w. refl) z) y.goes refl refl }
    chain_step by_private false z u o y = record { reach = max x.reach y.reach; near = let i = x.near in let j = y.near in omega arith; around = chain_step_by firsts (climbs is_links Links f) (chain_links f) {F' = full} Dot x.around (λ y i. (z y i).0) (search (this, of_left, of_right) depth 14) (private_link (other_link false by_name by_private (λ e. cc) u)) (not_before_link Dot l cs (λ w. refl) z) y.goes refl refl }
    chain_step by_index false z u o y = record { reach = max x.reach y.reach; near = let i = x.near in let j = y.near in omega arith; around = chain_step_by firsts (climbs is_links Links f) (chain_links f) {F' = full} LBrack x.around (λ y i. (z y i).0) (search (this, of_left, of_right) depth 14) bracket_link (not_before_link LBrack l cs (λ w. refl) z) y.goes refl refl }

    -- no link can be read here
    pub chain_step_fails : (c : LinkForm) (o : Bool) → AllAre text s' (sign_of c o) → ((c : LinkForm) (o : Bool) → Fails rule (Lex text) (plain full) end (chained f c o).part s') → Underived text (at Chain f) s
    unfolding chain_links rule_of covers
    chain_step_fails c true z r = no_chain (chain_step_fails_by firsts (climbs is_links Links f) (chain_links f) {F' = full} {x = chained f by_name true} QuestionDot x.around (λ y i. (z y i).0) (search (this, of_left, of_right) depth 14) (optional_one by_name (λ c' o'. inr (r c' o'))) (not_before_link QuestionDot l cs (λ w. refl) z) (λ l cs vs y e. e) (r by_name true) refl refl)
    chain_step_fails by_call false z r = no_chain (chain_step_fails_by firsts (climbs is_links Links f) (chain_links f) {F' = full} {x = chained f by_call false} LParen x.around (λ y i. (z y i).0) (search (this, of_left, of_right) depth 14) paren_link (not_before_link LParen l cs (λ w. refl) z) (λ l cs vs y e. e) (r by_call false) refl refl)
    chain_step_fails by_name false z r = no_chain (chain_step_fails_by firsts (climbs is_links Links f) (chain_links f) {F' = full} {x = chained f by_name false} Dot x.around (λ y i. (z y i).0) (search (this, of_left, of_right) depth 14) (dot_link (r by_private false)) (not_before_link Dot l cs (λ w. refl) z) (λ l cs vs y e. e) (r by_name false) refl refl)
    chain_step_fails by_private false z r = no_chain (chain_step_fails_by firsts (climbs is_links Links f) (chain_links f) {F' = full} {x = chained f by_name false} Dot x.around (λ y i. (z y i).0) (search (this, of_left, of_right) depth 14) (dot_link (r by_private false)) (not_before_link Dot l cs (λ w. refl) z) (λ l cs vs y e. e) (r by_name false) refl refl)
    chain_step_fails by_index false z r = no_chain (chain_step_fails_by firsts (climbs is_links Links f) (chain_links f) {F' = full} {x = chained f by_index false} LBrack x.around (λ y i. (z y i).0) (search (this, of_left, of_right) depth 14) bracket_link (not_before_link LBrack l cs (λ w. refl) z) (λ l cs vs y e. e) (r by_index false) refl refl)

  -- where a template stands, no link of a chain can be read
  no_template_link : {s : ℕ} (k : Kind) → one_of_kinds heads k ≡ true → (x' : Link Symbol) → OneOf x' (beginning firsts (chain_links f) k) → (x' ≡ chained f by_name true) ⊎ Fails rule (Lex text) (plain full) end x'.part s
  unfolding chain_links rule_of apart
  no_template_link {s} k h = first_or (λ (v : Kind). (x' : Link Symbol) → OneOf x' (beginning firsts (chain_links f) v) → (x' ≡ chained f by_name true) ⊎ Fails rule (Lex text) (plain full) end x'.part s) NoSubstitutionTemplate k _ _ refl h (λ x' i. elim i [ ]) (λ h. first_or (λ (v : Kind). (x' : Link Symbol) → OneOf x' (beginning firsts (chain_links f) v) → (x' ≡ chained f by_name true) ⊎ Fails rule (Lex text) (plain full) end x'.part s) TemplateHead k _ _ refl h (λ x' i. elim i [ ]) (λ h. absurd (false≢true h)))

  pub chain_template_fails : {s s' from : ℕ} {l : Label} {cs : Slots} {pass : Lexemes → Lexemes} (k : Kind) → one_of_kinds heads k ≡ true → Looped text (chains f) (after (at Links f)) s from l cs pass s' → AllAre text s' k → ((c : LinkForm) (o : Bool) → Fails rule (Lex text) (plain full) end (chained f c o).part s') → Underived text (at Chain f) s
  unfolding chain_links rule_of covers
  chain_template_fails {l = l} {cs = cs} k i x z r = no_chain (chain_step_fails_by firsts (climbs is_links Links f) (chain_links f) {F' = full} {x = chained f by_name true} k x.around (λ y i. (z y i).0) (search (this, of_left, of_right) depth 14) (no_template_link k i) (not_before_link k l cs (λ w. template_apart f k l cs w i) z) (λ l cs vs y e. e) (r by_name true) refl refl)

  -- no link stands here
  pub chain_ends : {s s' from : ℕ} {l : Label} {cs : Slots} {pass : Lexemes → Lexemes} → Looped text (chains f) (after (at Links f)) s from l cs pass s' → ((y : Lexeme) → Lex text s' y → one_of_kinds link_kinds y.kind ≡ false) → Stretch text (after (at Links f)) (such (at Links f) always) s nothing s' (tree l cs) pass
  chain_ends a n = record { reach = a.reach; near = a.near; goes = chain_end firsts (climbs is_links Links f) (chain_links f) (λ l cs vs y e. e) a.around (λ y l t. false≢true (sym (n y l) ∙ covered (λ k w e. linked_starts firsts (chain_links f) k w e && reads k w e) (λ k w e. one_of_kinds link_kinds k) (chain_starts f) y.kind y.newline y.escaped (and_from _ _ t l.1))) }

  -- ---- LeftHandSideExpressions

  lhs_goes : {s : ℕ} → Goes rule (Lex text) (after (at LeftHandSide f)) end (rule (at LeftHandSide f)) s (alt (such (at new_symbol f) always) (alt (such (at Call f) always) (such (at Chain f) always))) s (λ us. us) (still 0)
  lhs_goes {s} = subst (λ (g : G). Goes rule (Lex text) (after (at LeftHandSide f)) end (rule (at LeftHandSide f)) s g s (λ us. us) (still 0)) (lhs_left f) (lives (rule (at LeftHandSide f)))

  new_fails_there : {s : ℕ} → Underived text (at new_symbol f) s → Fails rule (Lex text) (after (at LeftHandSide f)) end (such (at new_symbol f) always) s
  unfolding covers
  new_fails_there n = weaken_fails_on n (same_read (at LeftHandSide f) (at new_symbol f) refl refl)

  chain_fails_there : {s : ℕ} → Underived text (at Chain f) s → Fails rule (Lex text) (after (at LeftHandSide f)) end (such (at Chain f) always) s
  unfolding covers
  chain_fails_there c = weaken_fails_on c (same_read (at LeftHandSide f) (at Chain f) refl refl)

  pub no_lhs : {s : ℕ} → Underived text (at new_symbol f) s → NotCall text f s → Underived text (at Chain f) s → Underived text (at LeftHandSide f) s
  no_lhs n m c = fails_by (lhs_goes ▹✗ fails_alt (new_fails_there n) (fails_alt m (chain_fails_there c)))

  pub lhs_new : {s s' : ℕ} {l : Label} {cs : Slots} {pass : Lexemes → Lexemes} → Stretch text (after (at new_symbol f)) (such (at new_symbol f) always) s nothing s' (tree l cs) pass → NotCall text f s → Underived text (at Chain f) s → Stretch text (after (at LeftHandSide f)) (such (at LeftHandSide f) always) s nothing s' (tree l cs) pass
  unfolding covers
  lhs_new x m c = record { reach = max 0 (max 0 x.reach); near = let i = x.near in omega arith; goes = by_rule {X' = after (at LeftHandSide f)} (λ l cs vs y e. e) (lhs_goes ▹ (left (fails_alt m (chain_fails_there c)) ▹ weaken_on x.goes (same_read (at LeftHandSide f) (at new_symbol f) refl refl))) refl }

  pub lhs_call : {s s' : ℕ} {l : Label} {cs : Slots} {pass : Lexemes → Lexemes} → Underived text (at new_symbol f) s → Stretch text (after (at Call f)) (such (at Call f) always) s nothing s' (tree l cs) pass → Underived text (at Chain f) s → Stretch text (after (at LeftHandSide f)) (such (at LeftHandSide f) always) s nothing s' (tree l cs) pass
  unfolding covers
  lhs_call n x c = record { reach = max 0 (max 0 (max 0 x.reach)); near = let i = x.near in omega arith; goes = by_rule {X' = after (at LeftHandSide f)} (λ l cs vs y e. e) (lhs_goes ▹ (right (new_fails_there n) ▹ (left (chain_fails_there c) ▹ weaken_on x.goes (same_read (at LeftHandSide f) (at Call f) refl refl)))) refl }

  pub lhs_chain : {s s' : ℕ} {l : Label} {cs : Slots} {pass : Lexemes → Lexemes} → Underived text (at new_symbol f) s → NotCall text f s → Stretch text (after (at Chain f)) (rule (at Chain f)) s nothing s' (tree l cs) pass → Stretch text (after (at LeftHandSide f)) (such (at LeftHandSide f) always) s nothing s' (tree l cs) pass
  unfolding covers
  lhs_chain n m x = record { reach = max 0 (max 0 (max 0 x.reach)); near = let i = x.near in omega arith; goes = by_rule {X' = after (at LeftHandSide f)} (λ l cs vs y e. e) (lhs_goes ▹ (right (new_fails_there n) ▹ (right m ▹ weaken_on (by_rule {X' = after (at Chain f)} (λ l cs vs y e. e) x.goes refl) (same_read (at LeftHandSide f) (at Chain f) refl refl)))) refl }

  -- a call can't end before a link
  pub call_unfollowed : {s s' : ℕ} {l : Label} {cs : Slots} {pass : Lexemes → Lexemes} → Stretch text (after (at Call f)) (such (at Call f) always) s nothing s' (tree l cs) pass → AllAre text s' QuestionDot → NotCall text f s
  unfolding covers
  call_unfollowed {l = l} {cs = cs} x z = unfollowed x.goes (same_read (at LeftHandSide f) (at Call f) refl refl) (λ us y i e. false≢true (subst (λ v. follow_of LeftHandSide f.in_ (edge_of l cs) QuestionDot y.newline v ≡ true) (z y i).1 (subst (λ v. follow_of LeftHandSide f.in_ (edge_of l cs) v y.newline y.escaped ≡ true) (z y i).0 e.1)))

  -- nothing stands before `?.` where none follows
  pub member_before : {s : ℕ} → Underived text (at Member f) s → Fails rule (Lex text) before_chain end (such (at Member f) always) s
  unfolding covers
  member_before x = weaken_fails x (λ ts y e. admits (at Member f) ts y (covered (is QuestionDot) behind_member refl y.kind y.newline y.escaped e.0))

  pub member_alone : {s s' : ℕ} {l : Label} {cs : Slots} {pass : Lexemes → Lexemes} → Stretch text (after (at Member f)) (such (at Member f) always) s nothing s' (tree l cs) pass → NoneIs text s' QuestionDot → Fails rule (Lex text) before_chain end (such (at Member f) always) s
  unfolding covers
  member_alone x n = unfollowed x.goes (record { admits = λ ts vs k ls rest d e. admits (at Member f) ts (here rest) (covered (is QuestionDot) behind_member refl (here rest).kind (here rest).newline (here rest).escaped e.0) }) (λ us y i e. none_seen n y i e.0)

  pub call_alone : {s s' : ℕ} {l : Label} {cs : Slots} {pass : Lexemes → Lexemes} → Stretch text (after (at Call f)) (such (at Call f) always) s nothing s' (tree l cs) pass → NoneIs text s' QuestionDot → Fails rule (Lex text) before_chain end (such (at Call f) always) s
  unfolding covers
  call_alone x n = unfollowed x.goes (record { admits = λ ts vs k ls rest d e. admits (at Call f) ts (here rest) (covered (is QuestionDot) behind_call refl (here rest).kind (here rest).newline (here rest).escaped e.0) }) (λ us y i e. none_seen n y i e.0)

  -- where no member is, no LeftHandSideExpression is
  pub no_lhs_here : {s : ℕ} → NoMember text f s → NoImport text f s → Underived text (at LeftHandSide f) s
  no_lhs_here n i = no_lhs (no_new n) (no_call_at_all n.0 n.1.uncalled i) (no_first (base_none (member_before n.0) (no_call_at_all n.0 n.1.uncalled i)))

pub call_heads : (f : Flags) → Heads (after (at LeftHandSide f)) (after (at Call f))
call_heads f l cs vs y e = admits (at Call f) (tree l cs end) y (covered (lhs_follow f.in_) behind_call (below_call f.in_) y.kind y.newline y.escaped e.1)

pub chain_heads : (f : Flags) → Heads before_chain (after (at Call f))
unfolding covers
chain_heads f l cs vs y e = admits (at Call f) (tree l cs end) y (covered (is QuestionDot) behind_call refl y.kind y.newline y.escaped e.0)
