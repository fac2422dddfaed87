-- Functions (ECMA-262, 15.2, 15.5, 15.6, 15.8), part by part.
use Rattle.std.proofs.Common.{ℕ, ◌≡◌, ◌+◌, ◌<◌, max, List, [], ◌∷◌, ◌++◌, length, Option, Some, None, Bool, true, false, not, refl, sym, ap, subst, arith, ◌∙◌, inl, inr}
use Rattle.std.specs.Prelude.{Ok, Err}
use Rattle.std.proofs.lemmas.Bool.{or_left}
use Rattle.js_base.specs.declared.kind.Kind.{Kind}
use Rattle.js_base.specs.declared.kind.Kind.TheVariants.{Function, LParen, RAngle, Star, Async}
use Rattle.js_base.specs.declared.span.Span.{Span}
use Rattle.js_base.specs.Kinds.{same_kind, one_of_kinds}
use Rattle.js_base.specs.KindSets.{binding_identifier_kinds, identifier_name_kinds}
use Rattle.js_grammar.specs.Trees.{Slots, end, hole, tree, append, Label, no_op, binding_identifier, function_expression}
use Rattle.js_grammar.specs.Grammar.{Look, here, nothing, such, ◌▸◌, ◌◇◌}
use Rattle.js_grammar.specs.Lexed.{NextLexeme, all_faults}
use Rattle.js_grammar.specs.Marks.{Mark, a_lexeme, the_start, the_end}
use Rattle.js_grammar.specs.Parsing.{Test, plain, full, always, still, Goes, Fails}
use Rattle.js_grammar.specs.Productions.{G, Flags, Symbol, at, async_flag, flag, generator_flag, only, slot, tok, params_of, body_of, BindingIdentifier, Body, FuncExpr, Params, Primary, no_newline}
use Rattle.js_grammar.specs.Productions.{sym as symbol}
use Rattle.js_grammar.specs.Table.{rule, rule_of}
use Rattle.js_grammar.specs.Follow.{after, surest}
use Rattle.js_grammar.proofs.Frame.{append_assoc}
use Rattle.js_grammar.proofs.Looks.{covers, covered, apart}
use Rattle.js_grammar.proofs.Calculus.{Sure, inside_full, ◌▹◌, ◌▹✗◌, done, left, right, stay, part_by, part_fails, then_by, reads_empty_slot, fails_alt, fails_node, fails_rule, weaken_fails_on}
use Rattle.js_grammar.proofs.FirstClaims.{firsts}
use Rattle.js_grammar.proofs.FirstRules.{by_first, fails_here}
use Rattle.js_grammar.proofs.FollowLaws.{fails_by, surely}
use Rattle.laws_shared.specs.js_tree.declared.id.NodeId.{NodeId}
use Rattle.laws_shared.specs.js_tree.declared.kind.NodeKind.TheVariants as node
use Rattle.laws_shared.specs.js_tree.declared.op.Op.TheVariants as op
use Rattle.laws_shared.specs.js_tree.Nodes.{Node}
use Rattle.laws_shared.specs.js_tree.Holding.{HoldsAll, Keeps}
use Rattle.laws_shared.proofs.js_tree.HoldingLemmas.{HoldsAll-hole, HoldsAll-next, HoldsAll-none, Keeps-refl, Keeps-trans, Keeps-made}
use Rattle.laws_shared.specs.js_cursor.Moves.{Eats, GivesUp, IsUnexpected, is_last}
use Rattle.laws_shared.specs.js_cursor.Parsers.{Parser}
use Rattle.laws_shared.specs.js_cursor.Places.{goal}
use Rattle.laws_shared.specs.js_cursor.declared.stop.Stop.{Stop}
use Rattle.laws_shared.specs.js_cursor.declared.stop.Stop.TheVariants.{Fatal, NoMemory}
use Rattle.laws_shared.specs.Answers.{Numbered, Stops, Stretch, Underived, Verdict, unclean}
use Rattle.laws_shared.specs.Arguments.{Partway}
use Rattle.laws_shared.specs.Lexemes.{Lex, may_name, spot}
use Rattle.laws_shared.specs.Moves.{LeafTaken, Moved, MadeHere, plain_label}
use Rattle.laws_shared.specs.Nesting.{room}
use Rattle.laws_shared.specs.Stands.{NameUnder, StandsHere}
use Rattle.laws_shared.specs.States.{At, Same}
use Rattle.laws_primary.specs.declared.forms.FunctionForm.{FunctionForm}
use Rattle.laws_primary.specs.declared.forms.FunctionForm.TheVariants.{Declaration, Expression}
use Rattle.laws_primary.specs.declared.forms.FunctionParts.{FunctionParts}
use Rattle.laws_primary.specs.Functions.{NamesFunction, NoFunction, PartsTaken, TakesName, behind_star, function_line, function_slots, nameless, BeginsFunction}
use Rattle.laws_shared.proofs.Giving.{gives_up_here, kept_one}
use Rattle.laws_shared.proofs.Here.{found, uncut}
use Rattle.laws_shared.proofs.MadeNodes.{leaf_held, node_held, one_lies}
use Rattle.laws_shared.proofs.Moving.{moves, same_both, same_itself, stops_behind}
use Rattle.laws_shared.proofs.NodeTexts.{name_word}
use Rattle.laws_shared.proofs.NameKinds.{listed_here, listed_name, name_apart, name_at, name_passes, name_read, name_test}
use Rattle.laws_shared.proofs.NamedFirsts.{fails_unnamed}
use Rattle.laws_shared.proofs.Parts.{part_called, part_from, part_goes, part_path, part_path_fails, part_sign, parts}
use Rattle.laws_shared.proofs.Paths.{Path, ◌⟼◌, at_kind, fails_at, flagged_by, flagged_here, last_called, by_symbol_as, label_here, noded, not_here, walked_to}
use Rattle.laws_shared.proofs.Signs.{other_kind, plain_sign, whole_sign}
use Rattle.laws_shared.proofs.Told.{told_at, told_same}
use Rattle.laws_shared.proofs.Verdicts.{after as grown_behind, verdict_of}
use Rattle.laws_primary.proofs.Operands.{behind_primary, by_path, one_path, name_signless, name_signless}
use Rattle.laws_shared.proofs.Escapes.{read_as}
use Rattle.laws_shared.proofs.PlainSigns.{star_plain}
use Rattle.laws_primary.proofs.AsyncWords.{any_between, function_here, no_reference, part_within, same_line}

-- ---- parts with an empty slot, and the last part

module _ {text : List ℕ} {f : Flags} {g g' : G} {p q : Parser} {ids js : List (Option NodeId)} (x : Partway text f g g' p q ids js) where
  -- an empty slot more, in a state that differs in what was told
  hole_behind : {g'' : G} {t : Parser} → At text f t → Same q t → t.prev_token_end ≡ q.prev_token_end → spot t ≡ spot q → t.nodes ≡ q.nodes → Verdict (f.wide ≡ true) p.errors t.errors (Stretch text (plain full) g p.prev_token_end g'' t.prev_token_end (λ us. x.slots (hole us)) x.pass) (Fails rule (Lex text) (plain full) end g p.prev_token_end) → Partway text f g g'' p t ids (js ++ None ∷ [])
  hole_behind {t = t} a s e o n v = record {
    at = a;
    same = same_both x.same s;
    further = subst (λ (u : ℕ). p.token.span.start < u) (sym e) x.further;
    slots = λ us. x.slots (hole us);
    puts = λ us. x.puts (hole us) ∙ (sym (append_assoc (x.slots end) (hole end) us) ∙ ap (λ (vs : Slots). append vs us) (sym (x.puts (hole end))));
    pass = x.pass;
    walked = walked_to (sym o) x.walked;
    verdict = v;
    holds = λ lo us h. subst (λ (ns : List Node). HoldsAll ns lo (length ns) (js ++ None ∷ []) (append us (x.slots (hole end)))) (sym n) (subst (λ (vs : Slots). HoldsAll q.nodes lo (length q.nodes) (js ++ None ∷ []) vs) (append_assoc us (x.slots end) (hole end) ∙ ap (λ (vs : Slots). append us vs) (sym (x.puts (hole end)))) (HoldsAll-hole (x.holds lo us h)));
    keeps = subst (λ (ns : List Node). Keeps p.nodes ns) (sym n) x.keeps;
  }

  pub part_hole : {g'' : G} → Goes rule (Lex text) (plain full) end g' q.prev_token_end g'' q.prev_token_end hole (still 0) → Partway text f g g'' p q ids (js ++ None ∷ [])
  part_hole c = hole_behind x.at same_itself refl refl refl (verdict_of x.verdict (λ y. record { reach = max y.reach 0; near = let i = y.near in omega arith; goes = y.goes ▹ c }) (λ n. n))

-- the last one that was called
last_part : {text : List ℕ} {f : Flags} {n : Symbol} {p q : Parser} {id : NodeId} (ids : List (Option NodeId)) (x : Numbered text f n p q id) → covers full (surest n.name) ≡ true → Partway text f (such n always) nothing p q ids (ids ++ Some id ∷ [])
last_part {n = n} {id = id} ids x c =
    let y = last_called {X = plain full} x.answer (record { admits = λ ts vs k ls rest d e. (surely n).admits ts (here rest) (covered full (surest n.name) c (here rest).kind (here rest).newline (here rest).escaped refl) }) in
    record {
      at = x.answer.at;
      same = x.answer.same;
      further = x.answer.further;
      slots = tree x.answer.label x.answer.slots;
      puts = λ us. refl;
      pass = y.pass;
      walked = y.walked;
      verdict = y.verdict;
      holds = λ lo us h. HoldsAll-next id x.keeps h x.holds;
      keeps = x.keeps;
    }

-- ---- the name

-- a name that is bound, by other parameters than those at its place
pub name_numbered : {text : List ℕ} {f g : Flags} {p q : Parser} {id : NodeId} → At text f p → NameUnder g.yield_ g.await_ p true → LeafTaken node.BindingIdentifier op.None text f p q id → Numbered text f (at BindingIdentifier g) p q id
unfolding rule rule_of
name_numbered {text} {f} {g} {p} {q} {id} a h t =
    let l : plain_label node.BindingIdentifier op.None p.token.span ≡ label_here binding_identifier no_op p t.mid = ap (λ (v : ℕ). record { kind = binding_identifier; op = no_op; flags = 0; span = record { from = p.token.span.start; to = v } }) (t.moved.tells.end ∙ t.moved.ends) in
    let ks : Keeps p.nodes t.mid.nodes = subst (λ (ns : List Node). Keeps p.nodes ns) (sym t.moved.nodes) (Keeps-refl p.nodes) in
    let y : Path text f (after (at BindingIdentifier g)) (rule (at BindingIdentifier g)) p nothing t.mid (tree (label_here binding_identifier no_op p t.mid) end) = noded a (one_path (name_test g) a (name_signless p.token.kind (listed_name g.yield_ g.await_ p.token.kind h)) t.moved (read_as t.moved.lexeme t.moved.tells (name_read p.token.kind (listed_name g.yield_ g.await_ p.token.kind h))) (name_passes g t.moved.lexeme (subst (λ (k : Kind). may_name g.yield_ g.await_ k ≡ true) t.moved.tells.kind h))) in
    by_path (subst (λ (v : Label). Path text f (after (at BindingIdentifier g)) (rule (at BindingIdentifier g)) p nothing t.mid (tree v end)) (sym l) y) t.moved.same t.made.stays (λ y i. refl) refl (leaf_held t.made ks) (Keeps-trans ks (Keeps-made t.made.made)) (ap (λ (v : Label). v.span) l) (one_lies t.made)

abbrev rest_of : Bool → Bool → Flags → G
rest_of n s f = symbol Params (params_of n s f) ▸ symbol Body (body_of n s f)

abbrev opens : Look
opens k w e = same_kind LParen k

opens_surely : Sure opens (plain opens)
opens_surely = record { admits = λ ts y h. (h, refl) }

module _ {text : List ℕ} {f : Flags} {r : Parser} (b : At text f r) where
  -- where no name stands
  pub no_name_part : {X : Test} (g : Flags) → NameUnder g.yield_ g.await_ r false → Fails rule (Lex text) X end (symbol BindingIdentifier g) r.prev_token_end
  unfolding covers apart
  no_name_part {X} g n = fails_unnamed b g (λ g. symbol BindingIdentifier g) [] refl refl refl refl refl n refl

  no_parenthesis : (y t : Bool) → NameUnder y t r true → one_of_kinds (LParen ∷ []) r.token.kind ≡ false
  unfolding apart
  no_parenthesis y t h = name_apart (LParen ∷ []) refl r.token.kind (listed_name y t r.token.kind h)

  -- a slot with a name, and an empty one
  choose_name : (n s : Bool) → NameUnder s n r true → Goes rule (Lex text) (plain full) end (slot (symbol BindingIdentifier (params_of n s f)) ▸ rest_of n s f) r.prev_token_end (symbol BindingIdentifier (params_of n s f) ▸ rest_of n s f) r.prev_token_end (λ us. us) (still 0)
  unfolding covers apart
  choose_name n s h = part_by {X' = plain opens} (left (fails_here firsts {X = plain opens} (λ y l t. not_here b (LParen ∷ []) refl (no_parenthesis s n h) y l (or_left (same_kind LParen y.kind) false t)))) (by_first firsts opens_surely refl)

  choose_hole : (n s : Bool) → NameUnder s n r false → Goes rule (Lex text) (plain full) end (slot (symbol BindingIdentifier (params_of n s f)) ▸ rest_of n s f) r.prev_token_end (rest_of n s f) r.prev_token_end hole (still 0)
  choose_hole n s h = part_by {X' = plain full} (right (no_name_part (params_of n s f) h)) any_between ▹ then_by {X' = plain full} reads_empty_slot any_between

-- ---- its words

-- what stands at `async` and at `function`
module _ {text : List ℕ} {f : Flags} {p : Parser} (o : Parser) (a : At text f p) (h : BeginsFunction p) where
  async_moved : Eats Async p o true → Moved text f p o
  async_moved (k, v) = moves (whole_sign Async a k.0 refl refl) v a

  -- behind `async` the other word stands on the line
  behind_async : (e : Eats Async p o true) → StandsHere o Function true × (o.token.is_on_new_line ≡ false)
  behind_async (k, v) = go h
    where
      go : BeginsFunction p → StandsHere o Function true × (o.token.is_on_new_line ≡ false)
      go (inl w) = let z : Function ≡ Async = sym w.0 ∙ k.0 in absurd (cc)
      go (inr w) =
          let m = async_moved (k, v) in
          let y = w.1 text f a in
          let t = function_here m.at y.0 (subst (λ (u : ℕ). Lex text u y.0) (m.tells.end ∙ m.ends) y.1) y.2 in
          ((t.kind ∙ y.2, t.escaped ∙ y.3), t.newline ∙ y.4)

  pub word_at : (b : Bool) → Eats Async p o b → At text f o
  word_at true e = (async_moved e).at
  word_at false (n, e) = subst (λ (v : Parser). At text f v) (sym e) a

  pub word_here : (b : Bool) → Eats Async p o b → StandsHere o Function true
  word_here true e = (behind_async e).0
  word_here false (n, e) = subst (λ (v : Parser). StandsHere v Function true) (sym e) (go h)
    where
      go : BeginsFunction p → StandsHere p Function true
      go (inl w) = w
      go (inr w) = absurd (n w.0)

  -- the words were passed
  words_passed : {q : Parser} (g : G) (b : Bool) → Eats Async p o b → Moved text f o q → Partway text f (only b (tok Async ▸ no_newline) ▸ tok Function ▸ g) g p q [] []
  words_passed g true e m =
      let w = behind_async e in
      parts (part_goes (part_within (part_sign Async a e.0.0 e.0.1 refl (async_moved e))) (same_line (async_moved e).at w.1)) (part_sign Function (async_moved e).at w.0.0 w.0.1 refl m)
  words_passed {q} g false (n, e) m =
      let w = word_here false (n, e) in
      part_from done (subst (λ (v : Parser). Partway text f (tok Function ▸ g) g v q [] []) e (part_sign Function (word_at false (n, e)) w.0 w.1 refl m))

  -- what begins with the other word isn't derived
  other_word : {g : G} (b : Bool) → Eats Async p o b → Fails rule (Lex text) (plain full) end (only (not b) (tok Async ▸ no_newline) ▸ tok Function ▸ g) p.prev_token_end
  unfolding covers apart
  other_word true (k, v) = done ▹✗ part_fails {X' = plain full} (fails_at a (tok Function) (Function ∷ []) refl (ap (one_of_kinds (Function ∷ [])) k.0)) any_between
  other_word false (n, e) = part_fails {X' = plain full} (part_fails {X' = plain full} (fails_at a (tok Async) (Async ∷ []) refl (ap (λ (v : Parser). one_of_kinds (Async ∷ []) v.token.kind) (sym e) ∙ ap (one_of_kinds (Async ∷ [])) (word_here false (n, e)).0)) any_between) any_between

-- ---- a function

module _ {text : List ℕ} {f : Flags} {p o q : Parser} (form : FunctionForm) (a : At text f p) (h : BeginsFunction p) (n : Bool) (w : Eats Async p o n) (m : Moved text f o q) where
  begun : (s : Bool) → Partway text f (function_slots form n s f) (only s (tok Star) ▸ behind_star form n s f) p q [] []
  begun s = words_passed o a h (only s (tok Star) ▸ behind_star form n s f) n w m

  -- ---- the star

  starred : (s : Bool) (r : Parser) → Eats Star q r s → Partway text f (function_slots form n s f) (behind_star form n s f) p r [] []
  starred true r (k, v) = parts (begun true) (part_sign Star m.at k.0 k.1 refl (moves (whole_sign Star m.at k.0 refl refl) v m.at))
  starred false r (i, e) = subst (λ (v : Parser). Partway text f (function_slots form n false f) (behind_star form n false f) p v [] []) (sym e) (part_goes (begun false) done)

  no_star_part : q.token.kind ≡ Star → (form : FunctionForm) → Fails rule (Lex text) (plain full) end (behind_star form n false f) q.prev_token_end
  unfolding covers apart
  no_star_part k Declaration = fails_at m.at (behind_star Declaration n false f) (LParen ∷ binding_identifier_kinds) refl (ap (one_of_kinds (LParen ∷ binding_identifier_kinds)) k)
  no_star_part k Expression = fails_at m.at (behind_star Expression n false f) (LParen ∷ binding_identifier_kinds) refl (ap (one_of_kinds (LParen ∷ binding_identifier_kinds)) k)

  -- so the line without it, or with it, isn't derived
  other_line : (s : Bool) (r : Parser) → Eats Star q r s → Fails rule (Lex text) (plain full) end (function_line form n (not s) f) p.prev_token_end
  unfolding covers apart
  other_line true r (k, v) = fails_node inside_full (part_path_fails (begun false) (done ▹✗ no_star_part k.0 form))
  other_line false r (i, e) = fails_node inside_full (part_path_fails (begun true) (fails_at m.at (tok Star ▸ behind_star form n true f) (Star ∷ []) refl (other_kind Star q.token.kind (λ k. i (k, plain_sign Star m.at k refl refl star_plain)))))

  -- nor is one that begins with the other word
  other_lines : (s : Bool) → Fails rule (Lex text) (plain full) end (function_line form (not n) s f) p.prev_token_end
  other_lines s = fails_node inside_full (other_word o a h n w)

  all_four : (s : Bool) → Fails rule (Lex text) (plain full) end (function_line form n s f) p.prev_token_end → Fails rule (Lex text) (plain full) end (function_line form n (not s) f) p.prev_token_end → NoFunction text form f p.prev_token_end
  all_four s x y = by n (both s x y) other_lines
    where
      both : (s : Bool) → Fails rule (Lex text) (plain full) end (function_line form n s f) p.prev_token_end → Fails rule (Lex text) (plain full) end (function_line form n (not s) f) p.prev_token_end → (s : Bool) → Fails rule (Lex text) (plain full) end (function_line form n s f) p.prev_token_end
      both true x y true = x
      both true x y false = y
      both false x y true = y
      both false x y false = x

      by : (n : Bool) → ((s : Bool) → Fails rule (Lex text) (plain full) end (function_line form n s f) p.prev_token_end) → ((s : Bool) → Fails rule (Lex text) (plain full) end (function_line form (not n) s f) p.prev_token_end) → NoFunction text form f p.prev_token_end
      by true x y true = x
      by true x y false = y
      by false x y true = y
      by false x y false = x

  module _ (s : Bool) (r : Parser) (c : Eats Star q r s) where
    neither : Fails rule (Lex text) (plain full) end (behind_star form n s f) r.prev_token_end → NoFunction text form f p.prev_token_end
    neither x = all_four s (fails_node inside_full (part_path_fails (starred s r c) x)) (other_line s r c)

    pub star_at : At text f r
    star_at = (starred s r c).at

-- ---- the name

-- the parts up to the name, of which none is derived where a declaration has none
pub named : {text : List ℕ} {f : Flags} {p o q : Parser} (form : FunctionForm) (a : At text f p) (h : BeginsFunction p) (n : Bool) (w : Eats Async p o n) (m : Moved text f o q) (s : Bool) (r : Parser) (c : Eats Star q r s) (t : Parser) (name : Option NodeId) → TakesName form n s r t (Ok name) → Partway text f (function_slots form n s f) (rest_of n s f) p t [] (name ∷ [])
unfolding covers
named {text} {f} {p} {o} {q} Declaration a h n w m s r c t (Some id) (i, l) = parts (starred Declaration a h n w m s r c) (part_called [] (name_numbered (star_at Declaration a h n w m s r c) (name_at true (star_at Declaration a h n w m s r c) i) (l text f (star_at Declaration a h n w m s r c))) refl)
named {text} {f} {p} {o} {q} Expression a h n w m s r c t (Some id) (i, l) = parts (part_goes (starred Expression a h n w m s r c) (choose_name (star_at Expression a h n w m s r c) n s i)) (part_called [] (name_numbered (star_at Expression a h n w m s r c) i (l text f (star_at Expression a h n w m s r c))) refl)
named {text} {f} {p} {o} {q} Expression a h n w m s r c t None (i, e) = subst (λ (v : Parser). Partway text f (function_slots Expression n s f) (rest_of n s f) p v [] (None ∷ [])) (sym e) (part_hole (starred Expression a h n w m s r c) (choose_hole (star_at Expression a h n w m s r c) n s i))
named {text} {f} {p} {o} {q} Declaration a h n w m s r c t None (i, k) =
    let x = starred Declaration a h n w m s r c in
    hole_behind x (told_at k x.at) (told_same k refl) (ap (λ (v : Parser). v.prev_token_end) k.is) (ap spot k.is) (ap (λ (v : Parser). v.nodes) k.is)
    (unclean (grown_behind x.verdict (kept_one k)) (part_path_fails x (part_fails {X' = plain full} (no_name_part x.at f (name_at false x.at i)) any_between)))

pub name_stops : {text : List ℕ} {f : Flags} {p o q : Parser} (form : FunctionForm) (a : At text f p) (h : BeginsFunction p) (n : Bool) (w : Eats Async p o n) (m : Moved text f o q) (s : Bool) (r : Parser) (c : Eats Star q r s) (t : Parser) (e : Stop) → TakesName form n s r t (Err e) → Stops p t e (NoFunction text form f p.prev_token_end)
name_stops {text} {f} {p} {o} {q} Declaration a h n w m s r c t Fatal (d, i, g) =
    let x = starred Declaration a h n w m s r c in
    stops_behind t Fatal x.same (λ k. grown_behind x.verdict k) (λ k. k) (gives_up_here r t Fatal x.at g (neither Declaration a h n w m s r c (part_fails {X' = plain full} (no_name_part x.at f (name_at false x.at i)) any_between)))
name_stops Expression a h n w m s r c t Fatal (d, i, g) = absurd (cc)
name_stops Declaration a h n w m s r c t NoMemory i = tt
name_stops Expression a h n w m s r c t NoMemory i = tt

-- ---- parameters and body

module _ {text : List ℕ} {f : Flags} {p o q : Parser} (form : FunctionForm) (a : At text f p) (h : BeginsFunction p) (n : Bool) (w : Eats Async p o n) (m : Moved text f o q) (s : Bool) (r : Parser) (c : Eats Star q r s) (t : Parser) (name : Option NodeId) (i : TakesName form n s r t (Ok name)) where
  abbrev its : Partway text f (function_slots form n s f) (rest_of n s f) p t [] (name ∷ [])
  its = named form a h n w m s r c t name i

  both_fail : Fails rule (Lex text) (plain full) end (function_slots form n s f) p.prev_token_end → NoFunction text form f p.prev_token_end
  both_fail x = all_four form a h n w m s (fails_node inside_full x) (other_line form a h n w m s r c)

  pub named_at : At text f t
  named_at = its.at

  pub named_same : Same p t
  named_same = its.same

  pub named_further : p.token.span.start < t.prev_token_end
  named_further = its.further

  pub parameters_stop : (u : Parser) (e : Stop) → Stops t u e (Underived text (at Params (params_of n s f)) t.prev_token_end) → Stops p u e (NoFunction text form f p.prev_token_end)
  unfolding covers
  parameters_stop u e z = stops_behind u e its.same (λ g. grown_behind its.verdict g) (λ x. both_fail (part_path_fails its (part_fails x (by_first firsts (surely (at Params (params_of n s f))) refl)))) z

  module _ {u : Parser} {parameters : NodeId} (x : Numbered text f (at Params (params_of n s f)) t u parameters) where
    with_parameters : Partway text f (function_slots form n s f) (symbol Body (body_of n s f)) p u [] (name ∷ Some parameters ∷ [])
    unfolding covers
    with_parameters = parts its (part_called (name ∷ []) x refl)

    pub headed_at : At text f u
    headed_at = with_parameters.at

    pub headed_same : Same p u
    headed_same = with_parameters.same

    pub headed_further : p.token.span.start < u.prev_token_end
    headed_further = with_parameters.further

    pub body_stops : (v : Parser) (e : Stop) → Stops u v e (Underived text (at Body (body_of n s f)) u.prev_token_end) → Stops p v e (NoFunction text form f p.prev_token_end)
    unfolding covers
    body_stops v e z = stops_behind v e with_parameters.same (λ g. grown_behind with_parameters.verdict g) (λ y. both_fail (part_path_fails with_parameters (weaken_fails_on y (record { admits = λ ts vs k ls rest d e. (surely (at Body (body_of n s f))).admits ts (here rest) refl })))) z

    pub parts_taken : {v : Parser} {body : NodeId} (y : Numbered text f (at Body (body_of n s f)) u v body) (to : ℕ) → to ≡ u.prev_token_end → PartsTaken text f form p v (record { is_async = n; is_generator = s; name = name; parameters = parameters; body = body; head_end = to })
    unfolding covers
    parts_taken {v} {body} y to e = record {
      whole = parts with_parameters (last_part (name ∷ Some parameters ∷ []) y refl);
      other = other_line form a h n w m s r c;
      others = other_lines form a h n w m;
      head = record { mid = u; at = with_parameters.at; same = with_parameters.same; later = y.answer.same; pass = with_parameters.pass; walked = with_parameters.walked; further = with_parameters.further; is = e };
    }

-- ---- the whole as an operand

-- the flags of its node
abbrev pub line_flags : Bool → Bool → ℕ
line_flags n s = flag n async_flag + flag s generator_flag

abbrev pub four_lines : FunctionForm → Flags → G
four_lines form f = (function_line form false false f ◇ function_line form false true f) ◇ (function_line form true false f ◇ function_line form true true f)

-- which of the four lines is left
pub line_left : {text : List ℕ} {s : ℕ} (f : Flags) (form : FunctionForm) (n b : Bool) → Fails rule (Lex text) (plain full) end (function_line form n (not b) f) s → ((c : Bool) → Fails rule (Lex text) (plain full) end (function_line form (not n) c f) s) → Goes rule (Lex text) (plain full) end (four_lines form f) s (function_line form n b f) s (λ us. us) (still 0)
line_left f form true true x y = right (fails_alt (y false) (y true)) ▹ right x
line_left f form true false x y = right (fails_alt (y false) (y true)) ▹ left x
line_left f form false true x y = left (fails_alt (y false) (y true)) ▹ right x
line_left f form false false x y = left (fails_alt (y false) (y true)) ▹ left x

pub none_left : {text : List ℕ} {s : ℕ} (f : Flags) (form : FunctionForm) → NoFunction text form f s → Fails rule (Lex text) (plain full) end (four_lines form f) s
none_left f form n = fails_alt (fails_alt (n false false) (n false true)) (fails_alt (n true false) (n true true))

module _ {text : List ℕ} {f : Flags} {p : Parser} (a : At text f p) (h : BeginsFunction p) where
  to_function : Goes rule (Lex text) (after (at Primary f)) end (rule (at Primary f)) p.prev_token_end (symbol FuncExpr f) p.prev_token_end (λ us. us) (still 0)
  unfolding rule rule_of covers
  to_function = by h
    where
      by : BeginsFunction p → Goes rule (Lex text) (after (at Primary f)) end (rule (at Primary f)) p.prev_token_end (symbol FuncExpr f) p.prev_token_end (λ us. us) (still 0)
      by (inl w) = at_kind a Function w.0 refl
      by (inr w) = at_kind a Async w.0.0 refl ▹ right (no_reference a w.0 w.1)

  to_lines : Goes rule (Lex text) (plain full) end (rule (at FuncExpr f)) p.prev_token_end (four_lines Expression f) p.prev_token_end (λ us. us) (still 0)
  unfolding rule rule_of
  to_lines = stay

  pub no_function : NoFunction text Expression f p.prev_token_end → Underived text (at Primary f) p.prev_token_end
  no_function n = fails_by (to_function ▹✗ fails_rule {X' = plain full} (λ l cs vs y d. (refl, refl)) (to_lines ▹✗ none_left f Expression n))

  pub function_answers : {v w : Parser} {id : NodeId} (r : FunctionParts) (x : PartsTaken text f Expression p v r) (z : Span) → z.start ≡ p.token.span.start → z.end ≡ v.prev_token_end → MadeHere (record (plain_label node.FunctionExpression op.None z) { flags = flag r.is_async async_flag + flag r.is_generator generator_flag }) (r.name ∷ Some r.parameters ∷ Some r.body ∷ []) v w id → Numbered text f (at Primary f) p w id
  unfolding rule rule_of
  function_answers {v} {w} {id} r x z b c d =
      let fl = line_flags r.is_async r.is_generator in
      let l : record (plain_label node.FunctionExpression op.None z) { flags = line_flags r.is_async r.is_generator } ≡ flagged_here function_expression no_op fl p v = rw (b, c) refl in
      let made : MadeHere (flagged_here function_expression no_op fl p v) (r.name ∷ Some r.parameters ∷ Some r.body ∷ []) v w id = subst (λ (u : Label). MadeHere u (r.name ∷ Some r.parameters ∷ Some r.body ∷ []) v w id) l d in
      let y : Path text f (plain full) (function_line Expression r.is_async r.is_generator f) p nothing v (tree (flagged_here function_expression no_op fl p v) (x.whole.slots end)) = flagged_by a inside_full (part_path x.whole) in
      by_path (to_function ⟼ by_symbol_as {X' = plain full} (λ l cs vs y d. (refl, refl)) (to_lines ⟼ (line_left f Expression r.is_async r.is_generator x.other x.others ⟼ y))) x.whole.same made.stays (behind_primary f.in_ (flagged_here function_expression no_op fl p v) (x.whole.slots end) text v.prev_token_end) refl
      (node_held made (x.whole.holds (length p.nodes) end (HoldsAll-none p.nodes (length p.nodes) (length p.nodes) (omega arith)))) (Keeps-trans x.whole.keeps (Keeps-made made.made)) refl (one_lies made)

-- what is told of a name that is missing has its mark
pub nameless_marked : {text : List ℕ} {f : Flags} {p : Parser} (s : Span) → At text f p → p.token.kind ≡ LParen → s ≡ p.token.span → Mark (goal p) p.text (nameless s)
nameless_marked {text} {f} {p} s a h e =
    let y = found a (uncut a (ap (same_kind RAngle) h)) (ap is_last h) in
    let o = a_lexeme a.at.reached (subst (λ (t : List ℕ). NextLexeme all_faults t p.prev_token_end y.0) (sym a.text_is) y.1) in
    let m : Mark (goal p) p.text (nameless p.token.span) = record {
      ordered = a.at.lies.ordered;
      within = a.at.lies.ends_whole.0;
      begins_between = a.at.lies.starts_whole;
      ends_between = a.at.lies.ends_whole;
      stands = ((the_start o (sym y.2.start), the_end o (sym y.2.end)), (refl, refl));
    } in
    subst (λ (v : Span). Mark (goal p) p.text (nameless v)) (sym e) m

-- what is said of a name that isn't there
pub name_refused : (form : FunctionForm) (n s : Bool) (p q : Parser) (e : Stop) → (form ≡ Expression → ⊥) → NamesFunction form n s p false → GivesUp (IsUnexpected p) p q e → TakesName form n s p q (Err e)
name_refused Declaration n s p q Fatal i h g = (refl, h, g)
name_refused Declaration n s p q NoMemory i h g = tt
name_refused Expression n s p q e i h g = absurd (i refl)

-- whether a name stands here, by what a test says
pub names_so : (form : FunctionForm) (n s : Bool) (p : Parser) {b r : Bool} → r ≡ b → NamesFunction form n s p r → NamesFunction form n s p b
names_so form n s p e h = subst (λ (c : Bool). NamesFunction form n s p c) e h

-- a name of a function is a word
pub names_word : (form : FunctionForm) (n s : Bool) (p : Parser) → NamesFunction form n s p true → one_of_kinds identifier_name_kinds p.token.kind ≡ true
names_word Declaration n s p h = name_word p.token.kind (listed_here p h)
names_word Expression n s p h = name_word p.token.kind (listed_name s n p.token.kind h)

-- less of the text is left behind what was read
pub room_less : {text : List ℕ} {f : Flags} {p q : Parser} → At text f p → p.token.span.start < q.prev_token_end → Same p q → room q < room p
room_less a l s = let z = a.at.between.0 in let b = a.behind in let g = s.follows.text in omega (arith, ap length g)
