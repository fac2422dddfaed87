-- The list of an array pattern (ECMA-262, 14.3.3): what is left of it behind an element, a hole or a rest.
use Rattle.std.proofs.Common.{ℕ, ◌≡◌, List, [], ◌∷◌, ◌++◌, Option, Some, None, false, refl, ap}
use Rattle.js_base.specs.declared.kind.Kind.{Kind}
use Rattle.js_base.specs.declared.kind.Kind.TheVariants.{LBrack, LCurly, RBrack, Comma, Dot3}
use Rattle.js_base.specs.Kinds.{one_of_kinds}
use Rattle.js_base.specs.KindSets.{binding_identifier_kinds}
use Rattle.js_grammar.specs.Trees.{end}
use Rattle.js_grammar.specs.Grammar.{seq, empty_slot}
use Rattle.js_grammar.specs.Parsing.{plain, full, still, Goes}
use Rattle.js_grammar.specs.Productions.{G, Flags, at, tok, BElement, BindingRest}
use Rattle.js_grammar.specs.Productions.{sym as symbol}
use Rattle.js_grammar.specs.Table.{rest_of, rule}
use Rattle.js_grammar.proofs.Looks.{covers, apart}
use Rattle.js_grammar.proofs.Calculus.{◌▹✗◌}
use Rattle.laws_shared.specs.js_tree.declared.id.NodeId.{NodeId}
use Rattle.laws_shared.specs.js_cursor.Parsers.{Parser}
use Rattle.laws_shared.specs.js_cursor.declared.stop.Stop.{Stop}
use Rattle.laws_shared.specs.Answers.{Stops}
use Rattle.laws_shared.specs.Arguments.{ItemTaken, NoItem}
use Rattle.laws_patterns.specs.Bindings.{elements_left, rest_comma}
use Rattle.laws_shared.specs.Lexemes.{Lex}
use Rattle.laws_shared.specs.Lists.{NoneLeft, OneMore}
use Rattle.laws_shared.specs.Moves.{Moved}
use Rattle.laws_shared.specs.States.{At}
use Rattle.laws_primary.proofs.ArgumentLists.{none_there}
use Rattle.laws_primary.proofs.Arrays.{behind_one}
use Rattle.laws_patterns.proofs.Lists.{end_due, gap_due, hole_more, item_comma, item_due, item_fails, item_last, item_more, last_due, more_from, none_yet, rest_fails, rest_more}
use Rattle.laws_shared.proofs.Moving.{stops_so}
use Rattle.laws_shared.proofs.Paths.{fails_at}

-- a comma with no element before it
abbrev gap : G
gap = seq empty_slot (tok Comma)

-- what may begin an element, of what is read
abbrev element_kinds : List Kind
element_kinds = LBrack ∷ LCurly ∷ binding_identifier_kinds

module _ {text : List ℕ} {f : Flags} {p : Parser} (a : At text f p) where
  no_element_at : one_of_kinds element_kinds p.token.kind ≡ false → NoneLeft text (symbol BElement f) p.prev_token_end
  unfolding covers apart
  no_element_at n = fails_at a (symbol BElement f) element_kinds refl n

  no_rest_at : one_of_kinds (Dot3 ∷ []) p.token.kind ≡ false → NoneLeft text (rest_of f (symbol BindingRest f)) p.prev_token_end
  unfolding covers apart
  no_rest_at n = fails_at a (rest_of f (symbol BindingRest f)) (Dot3 ∷ []) refl n

  no_gap_at : one_of_kinds (Comma ∷ []) p.token.kind ≡ false → NoneLeft text gap p.prev_token_end
  unfolding covers apart
  no_gap_at n = fails_at a gap (Comma ∷ []) refl n

  no_end_at : one_of_kinds (RBrack ∷ []) p.token.kind ≡ false → NoneLeft text (tok RBrack) p.prev_token_end
  unfolding covers apart
  no_end_at n = fails_at a (tok RBrack) (RBrack ∷ []) refl n

  -- the closing bracket stands here
  pub pattern_closed : {ids : List (Option NodeId)} → p.token.kind ≡ RBrack → OneMore text f (elements_left f) (tok RBrack) p p ids ids
  pattern_closed {ids} k = more_from (end_due gap (symbol BElement f) (rest_of f (symbol BindingRest f)) RBrack (no_gap_at (ap (one_of_kinds (Comma ∷ [])) k)) (no_element_at (ap (one_of_kinds element_kinds) k)) (no_rest_at (ap (one_of_kinds (Dot3 ∷ [])) k))) (none_yet ids a)

  -- a comma does
  pub hole_taken : {q : Parser} {ids js : List (Option NodeId)} → p.token.kind ≡ Comma → Moved text f p q → js ≡ ids ++ None ∷ [] → OneMore text f (elements_left f) (elements_left f) p q ids js
  hole_taken k m g = more_from (gap_due gap (symbol BElement f) (rest_of f (symbol BindingRest f)) RBrack (no_element_at (ap (one_of_kinds element_kinds) k)) (no_rest_at (ap (one_of_kinds (Dot3 ∷ [])) k)) (no_end_at (ap (one_of_kinds (RBrack ∷ [])) k))) (hole_more a k m g)

  -- neither of them, and no rest
  module _ (n : one_of_kinds (RBrack ∷ Comma ∷ Dot3 ∷ []) p.token.kind ≡ false) where
    element_first : Goes rule (Lex text) (plain full) end (elements_left f) p.prev_token_end (seq (symbol BElement f) (behind_one gap (symbol BElement f) (rest_of f (symbol BindingRest f)) (tok RBrack))) p.prev_token_end (λ us. us) (still 0)
    unfolding covers apart
    element_first = item_due gap (symbol BElement f) (rest_of f (symbol BindingRest f)) RBrack (fails_at a gap (RBrack ∷ Comma ∷ Dot3 ∷ []) refl n) (fails_at a (rest_of f (symbol BindingRest f)) (RBrack ∷ Comma ∷ Dot3 ∷ []) refl n) (fails_at a (tok RBrack) (RBrack ∷ Comma ∷ Dot3 ∷ []) refl n)

    pub element_stops : (q : Parser) (e : Stop) → Stops p q e (NoItem text (at BElement f) p.prev_token_end) → Stops p q e (NoneLeft text (elements_left f) p.prev_token_end)
    unfolding covers
    element_stops q e s = stops_so p q e (λ m. element_first ▹✗ item_fails refl m) s

    module _ {q : Parser} {ids js : List (Option NodeId)} {id : NodeId} (x : ItemTaken text f (at BElement f) p q id) (g : js ≡ ids ++ Some id ∷ []) where
      element_read : OneMore text f (elements_left f) (behind_one gap (symbol BElement f) (rest_of f (symbol BindingRest f)) (tok RBrack)) p q ids js
      unfolding covers
      element_read = more_from element_first (item_more a refl x g)

      -- it is the last one
      pub element_last : (q.token.kind ≡ Comma → ⊥) → OneMore text f (elements_left f) (tok RBrack) p q ids js
      unfolding apart
      element_last m = item_last gap (symbol BElement f) (rest_of f (symbol BindingRest f)) RBrack element_read (none_there Comma x.at refl m)

      -- a comma stands behind it
      pub element_comma : {r : Parser} → q.token.kind ≡ Comma → Moved text f q r → OneMore text f (elements_left f) (elements_left f) p r ids js
      unfolding covers apart
      element_comma k m = item_comma gap (symbol BElement f) (rest_of f (symbol BindingRest f)) RBrack element_read (fails_at x.at (tok RBrack) (RBrack ∷ []) refl (ap (one_of_kinds (RBrack ∷ [])) k)) k m

  -- a rest stands here
  module _ (k : p.token.kind ≡ Dot3) where
    rest_first : Goes rule (Lex text) (plain full) end (elements_left f) p.prev_token_end (seq (rest_of f (symbol BindingRest f)) (tok RBrack)) p.prev_token_end (λ us. us) (still 0)
    rest_first = last_due gap (symbol BElement f) (rest_of f (symbol BindingRest f)) RBrack (no_gap_at (ap (one_of_kinds (Comma ∷ [])) k)) (no_element_at (ap (one_of_kinds element_kinds) k)) (no_end_at (ap (one_of_kinds (RBrack ∷ [])) k))

    pub rest_stops : (q : Parser) (e : Stop) → Stops p q e (NoItem text (at BindingRest f) p.prev_token_end) → Stops p q e (NoneLeft text (elements_left f) p.prev_token_end)
    unfolding covers
    rest_stops q e s = stops_so p q e (λ m. rest_first ▹✗ rest_fails f refl m) s

    pub rest_taken : {q : Parser} {ids js : List (Option NodeId)} {id : NodeId} → ItemTaken text f (at BindingRest f) p q id → js ≡ ids ++ Some id ∷ [] → OneMore text f (elements_left f) (seq (rest_comma f) (tok RBrack)) p q ids js
    unfolding covers
    rest_taken x g = more_from rest_first (rest_more a refl x g)
