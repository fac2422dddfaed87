-- What stands in a literal where it may be wider than a target: spreads, literals as their arguments, and assignments (ECMA-262, 13.2.4, 13.2.5, 13.15.5).
use Rattle.std.proofs.Common.{ℕ, ◌≡◌, Bool, true, false, not, cond, IsTrue, List, [], ◌∷◌, ◌++◌, refl, sym, ap, subst}
use Rattle.std.specs.Prelude.{IsUtf8, IsCharBoundary}
use Rattle.std.proofs.lemmas.Bool.{false≢true, and_parts, or_left, or_right}
use Rattle.js_base.specs.declared.kind.Kind.{Kind}
use Rattle.js_base.specs.declared.kind.Kind.TheVariants.{Dot3}
use Rattle.js_base.specs.Kinds.{same_kind}
use Rattle.js_base.proofs.KindLemmas.{kind_of_same}
use Rattle.js_grammar.specs.Trees.{Span as TreeSpan, Label, Slots, end, hole, tree, function_expression}
use Rattle.js_grammar.specs.Grammar.{Lexeme, Lexemes, next, seen, is, such, ◌▸◌, Takes, is_lexeme, is_seq, is_such, is_node}
use Rattle.js_grammar.specs.Lexed.{Lexes}
use Rattle.js_grammar.specs.LexicalFaults.{Reached}
use Rattle.js_grammar.specs.Parsing.{always}
use Rattle.js_grammar.specs.Productions.{Flags, at, tok, has_flag, shorthand_flag, plus_in, Assignment, LeftHandSide, SimpleTarget}
use Rattle.js_grammar.specs.Table.{rule, rule_of}
use Rattle.js_grammar.specs.CoverInitialisers.{is_property}
use Rattle.js_grammar.proofs.Behind.{lexed_behind}
use Rattle.parse_shared.specs.laws_shared.Lexemes.{Lex}
use Rattle.parse_targets.specs.declared.widening.Widening.{Widening}
use Rattle.parse_targets.specs.declared.widening.Widening.TheVariants.{Rest, RestTarget, Operator}
use Rattle.parse_targets.specs.Targets.{Each, Spanned, Spotted, in_literal, within, is_elision, is_spread, is_assignment, is_object, is_literal, literal_kind, is_equals, made_span, operator_places, literal_places, argument_places, property_places, places_of, places_in}
use Rattle.parse_targets.proofs.Properties.{PropertyOf, a_shorthand, a_value, a_method, a_spread as a_spread_property, property_of, PropertyStep, property, last_property, property_step}
use Rattle.parse_targets.proofs.ArrayElements.{no_gap, Operated, operated, Step, gap, item, final, step_of, Element, an_expression, a_spread, element_of}
use Rattle.parse_targets.proofs.Edges.{Ends, taken, one_ends, then_ends, ends_then, spanned}
use Rattle.parse_targets.proofs.LiteralsAsTargets.{Led, led, all_of, other_operator, places_literal, source}
use Rattle.parse_targets.proofs.Targets.{Literal, of_array, of_object, literal_shape, is_literal_kind, may_literal, of_assignment}

module _ (text : List ℕ) (u : IsUtf8 text) where
  abbrev Claim : Slots → Type 0
  Claim cs = (o : Bool) (f : Flags) (i j : ℕ) (ls rest : Lexemes) → Lexes (Led text) i ls → Takes rule (source o f) end cs i ls end j rest → Each (Spotted text) (places_in (in_literal o) cs)

  -- of slots, and of all slots in them
  abbrev Claims : Slots → Type 0
  Claims end = Claim end
  Claims (hole us) = Claim (hole us) × Claims us
  Claims (tree l cs us) = Claim (tree l cs us) × Claims cs × Claims us

  claim_of : (cs : Slots) → Claims cs → Claim cs
  claim_of end c = c
  claim_of (hole us) c = c.0
  claim_of (tree l cs us) c = c.0

  abbrev SpotsOf : Bool → Label → Slots → Type 0
  SpotsOf o l cs = Each (Spotted text) (places_of o l cs (places_in (within l.kind) cs))

  module _ (f : Flags) where
    by_literal : {i j : ℕ} {ls rest : Lexemes} {l : Label} {cs : Slots} → Claim cs → Literal (plus_in f) l cs i ls j rest → Lexes (Led text) i ls → SpotsOf false l cs
    unfolding rule rule_of
    by_literal {j = j} {rest = rest} c (of_array (is_node (is_seq (is_lexeme {x = x} {ls = more} q) d))) m = c false (plus_in f) x.to j more rest m.1 d
    by_literal {j = j} {rest = rest} c (of_object (is_node (is_seq (is_lexeme {x = x} {ls = more} q) d))) m = c true (plus_in f) x.to j more rest m.1 d

    literal_spanned : {i j : ℕ} {ls rest : Lexemes} {l : Label} {cs : Slots} → Literal (plus_in f) l cs i ls j rest → Lexes (Led text) i ls → Spanned text (made_span l.span)
    unfolding rule rule_of
    literal_spanned {i} {j} {ls} (of_array (is_node (is_seq (is_lexeme q) d))) m = spanned text i ls u m (ends_then text (one_ends text m.0) m.1 (taken text d m.1))
    literal_spanned {i} {j} {ls} (of_object (is_node (is_seq (is_lexeme q) d))) m = spanned text i ls u m (ends_then text (one_ends text m.0) m.1 (taken text d m.1))

    by_operator : {i j : ℕ} {ls rest : Lexemes} {l : Label} {cs : Slots} → Operated (plus_in f) l cs i ls j rest → Lexes (Led text) i ls → Spanned text (made_span l.span)
    by_operator {i} {j} {ls} {rest} {l} {cs} x m = subst (λ (s : TreeSpan). Spanned text (made_span s)) (sym x.span_is) (spanned text i ls u m (go x.operator x.sides m))
      where
        go : (k : Kind) {cs : Slots} {i j : ℕ} {ls rest : Lexemes} → Takes rule (such (at SimpleTarget (plus_in f)) always ▸ tok k ▸ such (at Assignment (plus_in f)) always) end cs i ls end j rest → Lexes (Led text) i ls → Ends text ls j
        go k (is_seq d (is_seq (is_lexeme q) e)) m =
            let a = lexed_behind (Led text) d m in
            then_ends text (taken text d m) a (ends_then text (one_ends text a.0) a.1 (taken text e a.1))

    as_literal : {i j : ℕ} {ls rest : Lexemes} {l : Label} {cs : Slots} → is_literal l.kind ≡ true → Takes rule (rule (at Assignment (plus_in f))) end (tree l cs end) i ls end j rest → Literal (plus_in f) l cs i ls j rest
    as_literal {l = l} h d = literal_shape {f = plus_in f} h ((of_assignment (plus_in f)).down (may_literal l.kind h) (is_such d refl))

    spots_of : {i j : ℕ} {ls rest : Lexemes} {l : Label} {cs : Slots} → Claim cs → Takes rule (rule (at Assignment (plus_in f))) end (tree l cs end) i ls end j rest → Lexes (Led text) i ls → SpotsOf false l cs
    spots_of {i} {j} {ls} {rest} {l} {cs} c d m = by (is_spread l.kind) (is_literal l.kind) (is_property l.kind) (is_assignment l.kind) refl refl refl refl
      where
        ws : List Widening
        ws = places_in (within l.kind) cs

        signed : (g : Bool) → is_equals l.op ≡ g → is_assignment l.kind ≡ true → Each (Spotted text) (cond g [] (Operator (made_span l.span) ∷ []))
        signed true e h = tt
        signed false e h = (by_operator (operated (plus_in f) d (other_operator l h e)) m, tt)

        literal_spots' : is_spread l.kind ≡ false → is_literal l.kind ≡ true → Each (Spotted text) ws
        literal_spots' b h = subst (λ (vs : List Widening). Each (Spotted text) vs) (places_literal l cs ws b h) (by_literal c (as_literal h d) m)

        by : (b h q g : Bool) → is_spread l.kind ≡ b → is_literal l.kind ≡ h → is_property l.kind ≡ q → is_assignment l.kind ≡ g → Each (Spotted text) (cond b (ws ++ (argument_places false cs ++ Rest (made_span l.span) ∷ [])) (cond h ws (cond q (property_places l ws) (cond g (operator_places l.op (made_span l.span)) []))))
        by true h q g k1 k2 k3 k4 = absurd (no_gap (plus_in f) d (or_right (is_elision l.kind) _ (or_left (is_spread l.kind) _ k1)))
        by false true q g k1 k2 k3 k4 = literal_spots' k1 k2
        by false false true g k1 k2 k3 k4 = absurd (no_gap (plus_in f) d (or_right (is_elision l.kind) _ (or_right (is_spread l.kind) _ k3)))
        by false false false true k1 k2 k3 k4 = signed (is_equals l.op) refl k4
        by false false false false k1 k2 k3 k4 = tt

    -- a literal as the argument of an object's rest
    argument_spots : (o : Bool) {i j : ℕ} {ls rest : Lexemes} {l : Label} {cs : Slots} → Takes rule (rule (at Assignment (plus_in f))) end (tree l cs end) i ls end j rest → Lexes (Led text) i ls → Each (Spotted text) (literal_places o l.kind (made_span l.span))
    argument_spots false d m = tt
    argument_spots true {l = l} d m = by (is_literal l.kind) refl
      where
        by : (h : Bool) → is_literal l.kind ≡ h → Each (Spotted text) (cond h (RestTarget (made_span l.span) ∷ []) [])
        by true h = (literal_spanned (as_literal h d) m, tt)
        by false h = tt

  spread_spotted : (f : Flags) {m : Label} {ds : Slots} {i j : ℕ} {x : Lexeme} {ls rest : Lexemes} → IsTrue (seen (is Dot3) x) → Takes rule (rule (at Assignment (plus_in f))) end (tree m ds end) x.to ls end j rest → Lexes (Led text) i (next x ls) → Spotted text (Rest (record { start = x.from; end = j }))
  spread_spotted f {i = i} {x = x} {ls = ls} q d m =
      let k = and_parts (same_kind Dot3 x.kind) _ q in
      (spanned text i (next x ls) u m (ends_then text (one_ends text m.0) m.1 (taken text d m.1)), sym (kind_of_same Dot3 x.kind k.0), plainly x.escaped k.1)
    where
      plainly : (b : Bool) → not b ≡ true → b ≡ false
      plainly true h = absurd (false≢true h)
      plainly false h = refl

  -- a spread, whose argument has these slots
  rest_spotted : (o : Bool) (f : Flags) {n : Label} {xs : Slots} {i j : ℕ} {x : Lexeme} {ls rest : Lexemes} → Claim xs → IsTrue (seen (is Dot3) x) → Takes rule (rule (at Assignment (plus_in f))) end (tree n xs end) x.to ls end j rest → Lexes (Led text) i (next x ls) → Each (Spotted text) ((places_of false n xs (places_in (within n.kind) xs) ++ []) ++ (literal_places o n.kind (made_span n.span) ++ Rest (record { start = x.from; end = j }) ∷ []))
  rest_spotted o f {n} {xs} {j = j} {x = x} c q d m =
      let ws = places_of false n xs (places_in (within n.kind) xs) in
      let vs = literal_places o n.kind (made_span n.span) in
      let rs = Rest (record { start = x.from; end = j }) ∷ [] in
      all_of (Spotted text) (ws ++ []) (vs ++ rs) (all_of (Spotted text) ws [] (spots_of f c d m.1) tt) (all_of (Spotted text) vs rs (argument_spots f o d m.1) (spread_spotted f q d m, tt))

  element_spotted : {f : Flags} {l : Label} {cs : Slots} {i j : ℕ} {ls rest : Lexemes} → Element f l cs i ls j rest → Lexes (Led text) i ls → Claims cs → SpotsOf false l cs
  element_spotted {f} {cs = cs} (an_expression d) m a = spots_of f (claim_of cs a) d m
  element_spotted {f} (a_spread {ds = xs} q d) m a = rest_spotted false f (claim_of xs a.1) q d m

  -- a function is no place
  function_places : (m : Label) (cs : Slots) (ws : List Widening) → m.kind ≡ function_expression → places_of false m cs ws ≡ []
  function_places m cs ws h = rw h refl

  property_spotted : {f : Flags} {l : Label} {cs : Slots} {i j : ℕ} {ls rest : Lexemes} → PropertyOf f l cs i ls j rest → Lexes (Led text) i ls → Claims cs → SpotsOf true l cs
  property_spotted (a_shorthand d) m a = tt
  property_spotted {f} (a_value false {m = n} {ds = es} g q d) m a = all_of (Spotted text) (places_of false n es (places_in (within n.kind) es)) [] (spots_of f (claim_of es a.2.1) d (lexed_behind (Led text) (g end) m).1) tt
  property_spotted {f} (a_value true {m = n} {ds = es} g q d) m a = all_of (Spotted text) (places_of false n es (places_in (within n.kind) es)) [] (spots_of f (claim_of es a.2.1) d (lexed_behind (Led text) (g end) m).1) tt
  property_spotted (a_method {fl = fl} {m = n} {ds = es} h g) m a = by (has_flag shorthand_flag fl)
    where
      by : (b : Bool) → Each (Spotted text) (cond b [] (places_of false n es (places_in (within n.kind) es) ++ []))
      by true = tt
      by false = subst (λ (vs : List Widening). Each (Spotted text) (vs ++ [])) (sym (function_places n es (places_in (within n.kind) es) g)) tt
  property_spotted {f} (a_spread_property {ds = xs} q d) m a = rest_spotted true f (claim_of xs a.1) q d m

  spotted_on : {f : Flags} {l : Label} {cs us : Slots} {i j : ℕ} {ls rest : Lexemes} → Step f (tree l cs us) i ls j rest → Lexes (Led text) i ls → Claims cs → Claim us → Each (Spotted text) (places_in (in_literal false) (tree l cs us))
  spotted_on {f} {j = j} {rest = rest} (gap {x = x} {ls = ls} q r) m a c = c false f x.to j ls rest m.1 r
  spotted_on {f} {l} {cs} {us} {j = j} {rest = rest} (item {x = x} {mid = mid} d q r) m a c = all_of (Spotted text) (places_of false l cs (places_in (within l.kind) cs)) (places_in (in_literal false) us) (element_spotted (element_of d) m a) (c false f x.to j mid rest (lexed_behind (Led text) d m).1 r)
  spotted_on {l = l} {cs = cs} (final d q) m a c = all_of (Spotted text) (places_of false l cs (places_in (within l.kind) cs)) [] (element_spotted (element_of d) m a) tt

  properties_spotted : {f : Flags} {l : Label} {cs us : Slots} {i j : ℕ} {ls rest : Lexemes} → PropertyStep f (tree l cs us) i ls j rest → Lexes (Led text) i ls → Claims cs → Claim us → Each (Spotted text) (places_in (in_literal true) (tree l cs us))
  properties_spotted {f} {l} {cs} {us} {j = j} {rest = rest} (property {x = x} {mid = mid} d q r) m a c = all_of (Spotted text) (places_of true l cs (places_in (within l.kind) cs)) (places_in (in_literal true) us) (property_spotted (property_of f d) m a) (c true f x.to j mid rest (lexed_behind (Led text) d m).1 r)
  properties_spotted {f} {l = l} {cs = cs} (last_property d q) m a c = all_of (Spotted text) (places_of true l cs (places_in (within l.kind) cs)) [] (property_spotted (property_of f d) m a) tt

  some_spots : (l : Label) (cs us : Slots) → Claims cs → Claim us → Claim (tree l cs us)
  some_spots l cs us a c false f i j ls rest m d = spotted_on (step_of {f = f} d) m a c
  some_spots l cs us a c true f i j ls rest m d = properties_spotted (property_step {f = f} d) m a c

  spots : (cs : Slots) → Claims cs
  spots end = λ o f i j ls rest m d. tt
  spots (hole us) = (λ o f i j ls rest m d. tt, spots us)
  spots (tree l cs us) = (some_spots l cs us (spots cs) (claim_of us (spots us)), spots cs, spots us)

  -- of a literal
  pub literal_spots : {f : Flags} {l : Label} {cs : Slots} (o : Bool) {i j : ℕ} {ls rest : Lexemes} → l.kind ≡ literal_kind o → Reached text i → IsCharBoundary text i → Lexes (Lex text) i ls → Takes rule (such (at LeftHandSide f) always) end (tree l cs end) i ls end j rest → Each (Spotted text) (places_in (in_literal o) cs)
  unfolding rule rule_of
  literal_spots {f} {l} {cs} o {i} {j} {ls} {rest} h r b m d = go o (literal_shape {f = f} (is_literal_kind o l.kind h) d) h (led text i ls u r b m)
    where
      go : (o : Bool) {l : Label} {i j : ℕ} {ls rest : Lexemes} → Literal f l cs i ls j rest → l.kind ≡ literal_kind o → Lexes (Led text) i ls → Each (Spotted text) (places_in (in_literal o) cs)
      go false (of_array (is_node (is_seq (is_lexeme {x = x} {ls = more} q) d))) h m = claim_of cs (spots cs) false f x.to _ more _ m.1 d
      go true (of_object (is_node (is_seq (is_lexeme {x = x} {ls = more} q) d))) h m = claim_of cs (spots cs) true f x.to _ more _ m.1 d
      go true (of_array (is_node d)) h m = absurd (false≢true (ap is_object h))
      go false (of_object (is_node d)) h m = absurd (false≢true (sym (ap is_object h)))
