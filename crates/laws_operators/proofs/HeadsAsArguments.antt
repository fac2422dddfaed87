-- The parameters of an arrow function are derived as arguments too, over the same lexemes: by the cover grammar (CoverParenthesizedExpressionAndArrowParameterList, ECMA-262, 13.2).
use Rattle.std.proofs.Common.{ℕ, zero, suc, ◌<◌, arith, ◌≡◌, Bool, true, false, IsTrue, refl, sym, ◌∙◌}
use Rattle.std.proofs.lemmas.Bool.{false≢true}
use Rattle.js_base.specs.declared.kind.Kind.TheVariants.{LBrack, RBrack, LCurly, RCurly, Comma, Colon, Dot3, Eq}
use Rattle.js_grammar.specs.Trees.{Label, Slots, end, hole, tree}
use Rattle.js_grammar.specs.Grammar.{Lexeme, Lexemes, next, seen, is, nothing, never, empty_slot, many, commas, such, ◌▸◌, ◌◇◌, Takes, is_nothing, is_lexeme, is_ahead, is_empty_slot, is_seq, is_left, is_right, is_when, is_many, is_commas, is_such, is_node}
use Rattle.js_grammar.specs.Parsing.{always}
use Rattle.js_grammar.specs.Productions.{G, Flags, at, opt, tok, plus_in, Params, Param, Rest, Init, Assignment, Argument, LeftHandSide, IdentifierReference, BindingIdentifier, SimpleTarget, Target, ArrayTarget, ObjectTarget, TargetElement, TargetProperty, Binding, BElement, Pattern, PatternProperty, BindingRest}
use Rattle.js_grammar.specs.Productions.{sym as symbol}
use Rattle.js_grammar.specs.Table.{rule, rule_of, name, args, bound_rest, rest_of}
use Rattle.js_grammar.proofs.Frame.{framed}
use Rattle.js_grammar.proofs.CoverInitialisers.{deep}
use Rattle.laws_shared.proofs.FreeOfIn.{any_in}
use Rattle.parse_targets.proofs.ArrayTargets.{One, target_step, target_last, target_property, last_property, array_up, object_up, spread_one}
use Rattle.parse_targets.proofs.Targets.{by_primary, of_assignment, target_left_hand_side}

-- some slots, before whatever slots stand behind them
abbrev Some' : G → ℕ → Lexemes → ℕ → Lexemes → Type 0
Some' g i ls j rest = (vs : Slots) → (ws : Slots) × Takes rule g end ws i ls vs j rest

-- ---- a binding, as a target

abbrev binding_step : Flags → G
binding_step f = empty_slot ▸ tok Comma ◇ symbol BElement f ▸ tok Comma

abbrev binding_last : Flags → G
binding_last f = symbol BElement f ◇ rest_of f (symbol BindingRest f) ◇ nothing

abbrev pattern_property : Flags → G
pattern_property f = never ◇ symbol PatternProperty f ▸ tok Comma

abbrev last_pattern_property : Flags → G
last_pattern_property f = symbol PatternProperty f ◇ rest_of f (bound_rest f (symbol BindingIdentifier f)) ◇ nothing

-- a name
reference : (f : Flags) {ks ts us : Slots} {i j : ℕ} {ls rest : Lexemes} → Takes rule (symbol BindingIdentifier f) ks ts i ls us j rest → One (at IdentifierReference f) i ls j rest
unfolding rule rule_of
reference f (is_such (is_node (is_lexeme q)) h) = record { label = _; slots = _; derived = is_node (is_lexeme q) }

name_target : (f : Flags) {i j : ℕ} {ls rest : Lexemes} → One (at IdentifierReference f) i ls j rest → One (at SimpleTarget f) i ls j rest
unfolding rule rule_of
name_target f x = record { label = x.label; slots = x.slots; derived = is_left (is_such x.derived refl) }

simple_target : (f : Flags) {i j : ℕ} {ls rest : Lexemes} → One (at SimpleTarget f) i ls j rest → One (at Target f) i ls j rest
unfolding rule rule_of
simple_target f x = record { label = x.label; slots = x.slots; derived = is_left (is_such x.derived refl) }

-- an element, without an initialiser and with one
bare_element : (f : Flags) {i j : ℕ} {ls rest : Lexemes} → One (at Target f) i ls j rest → One (at TargetElement f) i ls j rest
unfolding rule rule_of
bare_element f x = record { label = x.label; slots = x.slots; derived = is_left (is_such x.derived refl) }

default_element : (f : Flags) {us : Slots} {i j k : ℕ} {x : Lexeme} {ls mid rest : Lexemes} → One (at Target f) i ls j (next x mid) → IsTrue (seen (is Eq) x) → Takes rule (symbol Assignment (plus_in f)) end us x.to mid end k rest → One (at TargetElement f) i ls k rest
unfolding rule rule_of
default_element f x q e = record { label = _; slots = _; derived = is_right (is_left (is_node (is_seq (is_such x.derived refl) (is_seq (is_lexeme q) e)))) }

-- a property, by a name alone, and by a name and an element
short_property : (f : Flags) {i j : ℕ} {ls rest : Lexemes} → One (at IdentifierReference f) i ls j rest → One (at TargetProperty f) i ls j rest
unfolding rule rule_of
short_property f x = record { label = _; slots = tree x.label x.slots (hole end); derived = is_left (is_node (is_seq (is_such x.derived refl) (is_right is_empty_slot))) }

default_property : (f : Flags) {us : Slots} {i j k : ℕ} {ls mid rest : Lexemes} → One (at IdentifierReference f) i ls j mid → Takes rule (symbol Init (plus_in f)) end us j mid end k rest → One (at TargetProperty f) i ls k rest
unfolding rule rule_of
default_property f {us} x e = record { label = _; slots = tree x.label x.slots us; derived = is_left (is_node (is_seq (is_such x.derived refl) (is_left e))) }

named_property : (f : Flags) {ts us : Slots} {i j k : ℕ} {x : Lexeme} {ls mid rest : Lexemes} → Takes rule (name false false f) end ts i ls us j (next x mid) → IsTrue (seen (is Colon) x) → One (at TargetElement f) x.to mid k rest → One (at TargetProperty f) i ls k rest
unfolding rule rule_of
named_property f m q e = record { label = _; slots = _; derived = is_right (is_left (is_node (is_seq ((framed m).2 (tree e.label e.slots end)) (is_seq (is_lexeme q) (is_such e.derived refl))))) }

computed_property : (f : Flags) {ts us : Slots} {i j k : ℕ} {x : Lexeme} {ls mid rest : Lexemes} → Takes rule (name true false f) end ts i ls us j (next x mid) → IsTrue (seen (is Colon) x) → One (at TargetElement f) x.to mid k rest → One (at TargetProperty f) i ls k rest
unfolding rule rule_of
computed_property f m q e = record { label = _; slots = _; derived = is_right (is_right (is_node (is_seq ((framed m).2 (tree e.label e.slots end)) (is_seq (is_lexeme q) (is_such e.derived refl))))) }

-- elements of an array, one more before others, and the last; properties of an object likewise
more_elements : (f : Flags) {i j k : ℕ} {x : Lexeme} {ls mid rest : Lexemes} → One (at TargetElement f) i ls j (next x mid) → IsTrue (seen (is Comma) x) → Some' (many (target_step f)) x.to mid k rest → Some' (many (target_step f)) i ls k rest
more_elements f e q m = λ vs. let y = m vs in (tree e.label e.slots y.0, is_many (is_left (is_seq (is_right (is_seq (is_such e.derived refl) (is_lexeme q))) y.1)))

more_gaps : (f : Flags) {i k : ℕ} {x : Lexeme} {ls rest : Lexemes} → IsTrue (seen (is Comma) x) → Some' (many (target_step f)) x.to ls k rest → Some' (many (target_step f)) i (next x ls) k rest
more_gaps f q m = λ vs. let y = m vs in (hole y.0, is_many (is_left (is_seq (is_left (is_seq is_empty_slot (is_lexeme q))) y.1)))

last_element : (f : Flags) {i j : ℕ} {ls rest : Lexemes} → One (at TargetElement f) i ls j rest → Some' (target_last f) i ls j rest
last_element f e = λ vs. (tree e.label e.slots vs, is_left (is_such e.derived refl))

rest_element : (f : Flags) {i j : ℕ} {x : Lexeme} {ls rest : Lexemes} → IsTrue (seen (is Dot3) x) → One (at Target f) x.to ls j rest → Some' (target_last f) i (next x ls) j rest
rest_element f q e = λ vs. (_, is_right (is_left (is_seq (is_node (is_seq (is_lexeme q) (is_such {l = e.label} {cs = e.slots} e.derived refl))) (is_right is_nothing))))

array_of : (f : Flags) {i j k : ℕ} {x y : Lexeme} {ls mid rest : Lexemes} → IsTrue (seen (is LBrack) x) → Some' (many (target_step f)) x.to ls j mid → Some' (target_last f) j mid k (next y rest) → IsTrue (seen (is RBrack) y) → One (at Target f) i (next x ls) y.to rest
unfolding rule rule_of
array_of f q m l p = let b = l end in let a = m b.0 in record { label = _; slots = _; derived = is_right (is_left (is_such (is_node (is_seq (is_lexeme q) (is_seq (is_seq a.1 b.1) (is_lexeme p)))) refl)) }

more_properties : (f : Flags) {i j k : ℕ} {x : Lexeme} {ls mid rest : Lexemes} → One (at TargetProperty f) i ls j (next x mid) → IsTrue (seen (is Comma) x) → Some' (many (target_property f)) x.to mid k rest → Some' (many (target_property f)) i ls k rest
more_properties f e q m = λ vs. let y = m vs in (tree e.label e.slots y.0, is_many (is_left (is_seq (is_right (is_seq (is_such e.derived refl) (is_lexeme q))) y.1)))

last_of_them : (f : Flags) {i j : ℕ} {ls rest : Lexemes} → One (at TargetProperty f) i ls j rest → Some' (last_property f) i ls j rest
last_of_them f e = λ vs. (tree e.label e.slots vs, is_left (is_such e.derived refl))

rest_property : (f : Flags) {i j : ℕ} {x : Lexeme} {ls rest : Lexemes} → IsTrue (seen (is Dot3) x) → One (at SimpleTarget f) x.to ls j rest → Some' (last_property f) i (next x ls) j rest
rest_property f q e = λ vs. (_, is_right (is_left (is_seq (is_node (is_seq (is_lexeme q) (is_left (is_such {l = e.label} {cs = e.slots} e.derived refl)))) (is_right is_nothing))))

object_of : (f : Flags) {i j k : ℕ} {x y : Lexeme} {ls mid rest : Lexemes} → IsTrue (seen (is LCurly) x) → Some' (many (target_property f)) x.to ls j mid → Some' (last_property f) j mid k (next y rest) → IsTrue (seen (is RCurly) y) → One (at Target f) i (next x ls) y.to rest
unfolding rule rule_of
object_of f q m l p = let b = l end in let a = m b.0 in record { label = _; slots = _; derived = is_right (is_right (is_such (is_node (is_seq (is_lexeme q) (is_seq (is_seq a.1 b.1) (is_lexeme p)))) refl)) }

-- bindings whose derivations are smaller than n are targets
abbrev UpTo : Flags → ℕ → Type 0
UpTo f n = (ts us : Slots) (i j : ℕ) (ls rest : Lexemes) (d : Takes rule (rule (at Binding f)) end ts i ls us j rest) → deep d < n → One (at Target f) i ls j rest

-- what is there in the wider form alone
not_wide : {A : Type 0} {b : Bool} → b ≡ false → b ≡ true → A
not_wide e h = absurd (false≢true (sym e ∙ h))

module _ (f : Flags) (w : f.wide ≡ false) where
  module _ {n : ℕ} (up : UpTo f n) where
    element_at : {ts us : Slots} {i j : ℕ} {ls rest : Lexemes} (d : Takes rule (rule (at BElement f)) end ts i ls us j rest) → deep d < n → One (at TargetElement f) i ls j rest
    unfolding rule rule_of
    element_at (is_left (is_such d h)) c = bare_element f (up _ _ _ _ _ _ d (omega arith))
    element_at (is_right (is_node (is_seq (is_such d h) (is_seq (is_lexeme q) e)))) c = default_element f (up _ _ _ _ _ _ d (omega arith)) q e

    many_at : {ks ts us : Slots} {i j : ℕ} {ls rest : Lexemes} (d : Takes rule (many (binding_step f)) ks ts i ls us j rest) → deep d < n → Some' (many (target_step f)) i ls j rest
    many_at (is_many (is_right is_nothing)) c = λ vs. (vs, is_many (is_right is_nothing))
    many_at (is_many (is_left (is_seq (is_left (is_seq is_empty_slot (is_lexeme q))) m))) c = more_gaps f q (many_at m (omega arith))
    many_at (is_many (is_left (is_seq (is_right (is_seq (is_such d h) (is_lexeme q))) m))) c = more_elements f (element_at d (omega arith)) q (many_at m (omega arith))

    last_at : {ks ts us : Slots} {i j : ℕ} {ls rest : Lexemes} (d : Takes rule (binding_last f) ks ts i ls us j rest) → deep d < n → Some' (target_last f) i ls j rest
    unfolding rule rule_of
    last_at (is_left (is_such d h)) c = last_element f (element_at d (omega arith))
    last_at (is_right (is_left (is_seq (is_such (is_node (is_seq (is_lexeme q) (is_seq (is_such d h) (is_right is_nothing)))) g) (is_right is_nothing)))) c = rest_element f q (up _ _ _ _ _ _ d (omega arith))
    last_at (is_right (is_left (is_seq (is_such (is_node (is_seq (is_lexeme q) (is_seq (is_such d h) (is_left (is_when z e))))) g) r))) c = not_wide w z
    last_at (is_right (is_left (is_seq (is_such e g) (is_left (is_when z p))))) c = not_wide w z
    last_at (is_right (is_right is_nothing)) c = λ vs. (vs, is_right (is_right is_nothing))

    property_at : {ts us : Slots} {i j : ℕ} {ls rest : Lexemes} (d : Takes rule (rule (at PatternProperty f)) end ts i ls us j rest) → deep d < n → One (at TargetProperty f) i ls j rest
    unfolding rule rule_of
    property_at (is_left (is_node (is_seq (is_ahead a) (is_left d)))) c = short_property f (reference f d)
    property_at (is_left (is_node (is_seq (is_ahead a) (is_right (is_node (is_seq d e)))))) c = default_property f (reference f d) e
    property_at (is_right (is_left (is_node (is_seq m (is_seq (is_lexeme q) (is_such d h)))))) c = named_property f m q (element_at d (omega arith))
    property_at (is_right (is_right (is_node (is_seq m (is_seq (is_lexeme q) (is_such d h)))))) c = computed_property f m q (element_at d (omega arith))

    properties_at : {ks ts us : Slots} {i j : ℕ} {ls rest : Lexemes} (d : Takes rule (many (pattern_property f)) ks ts i ls us j rest) → deep d < n → Some' (many (target_property f)) i ls j rest
    properties_at (is_many (is_right is_nothing)) c = λ vs. (vs, is_many (is_right is_nothing))
    properties_at (is_many (is_left (is_seq (is_left z) m))) c = elim z [ ]
    properties_at (is_many (is_left (is_seq (is_right (is_seq (is_such d h) (is_lexeme q))) m))) c = more_properties f (property_at d (omega arith)) q (properties_at m (omega arith))

    last_property_at : {ks ts us : Slots} {i j : ℕ} {ls rest : Lexemes} (d : Takes rule (last_pattern_property f) ks ts i ls us j rest) → deep d < n → Some' (last_property f) i ls j rest
    last_property_at (is_left (is_such d h)) c = last_of_them f (property_at d (omega arith))
    last_property_at (is_right (is_left (is_seq (is_node (is_seq (is_lexeme q) (is_seq d (is_right is_nothing)))) (is_right is_nothing)))) c = rest_property f q (name_target f (reference f d))
    last_property_at (is_right (is_left (is_seq (is_node (is_seq (is_lexeme q) (is_seq d (is_left (is_when z e))))) r))) c = not_wide w z
    last_property_at (is_right (is_left (is_seq e (is_left (is_when z p))))) c = not_wide w z
    last_property_at (is_right (is_right is_nothing)) c = λ vs. (vs, is_right (is_right is_nothing))

    pattern_at : {ts us : Slots} {i j : ℕ} {ls rest : Lexemes} (d : Takes rule (rule (at Pattern f)) end ts i ls us j rest) → deep d < n → One (at Target f) i ls j rest
    unfolding rule rule_of
    pattern_at (is_left (is_node (is_seq (is_lexeme q) (is_seq (is_seq m l) (is_lexeme p))))) c = array_of f q (many_at m (omega arith)) (last_at l (omega arith)) p
    pattern_at (is_right (is_node (is_seq (is_lexeme q) (is_seq (is_seq m l) (is_lexeme p))))) c = object_of f q (properties_at m (omega arith)) (last_property_at l (omega arith)) p

    one_deeper : UpTo f (suc n)
    unfolding rule rule_of
    one_deeper ts us i j ls rest (is_left d) c = simple_target f (name_target f (reference f d))
    one_deeper ts us i j ls rest (is_right (is_such d h)) c = pattern_at d (omega arith)

  up_to : (n : ℕ) → UpTo f n
  up_to zero ts us i j ls rest d c = absurd (omega arith)
  up_to (suc n) ts us i j ls rest d c = one_deeper (up_to n) ts us i j ls rest d c

  binding_target : {ts us : Slots} {i j : ℕ} {ls rest : Lexemes} → Takes rule (rule (at Binding f)) end ts i ls us j rest → One (at Target f) i ls j rest
  binding_target d = up_to (suc (deep d)) _ _ _ _ _ _ d (omega arith)

-- ---- a parameter, as an argument

raised : (f : Flags) {l : Label} {cs : Slots} {i j : ℕ} {ls rest : Lexemes} → Takes rule (such (at LeftHandSide f) always) end (tree l cs end) i ls end j rest → One (at Assignment (plus_in f)) i ls j rest
raised f {l} {cs} d = record { label = l; slots = cs; derived = of_such ((of_assignment (plus_in f)).up (any_in LeftHandSide f (plus_in f) refl refl d)) }
  where
    of_such : {i j : ℕ} {ls rest : Lexemes} → Takes rule (symbol Assignment (plus_in f)) end (tree l cs end) i ls end j rest → Takes rule (rule (at Assignment (plus_in f))) end (tree l cs end) i ls end j rest
    of_such (is_such d h) = d

plain_argument : (f : Flags) {i j : ℕ} {ls rest : Lexemes} → One (at Assignment (plus_in f)) i ls j rest → One (at Argument f) i ls j rest
unfolding rule rule_of
plain_argument f x = record { label = x.label; slots = x.slots; derived = is_left (is_such x.derived refl) }

-- a target and what is assigned to it
assigned : (f : Flags) {ts us vs : Slots} {i j k : ℕ} {ls mid rest : Lexemes} → Takes rule (rule (at Target f)) end ts i ls us j mid → Takes rule (rule (at Init (plus_in f))) end vs j mid end k rest → One (at Assignment (plus_in f)) i ls k rest
unfolding rule rule_of
assigned f (is_left (is_such d c)) (is_seq (is_lexeme q) e) = record { label = _; slots = _; derived = is_right (is_right (is_right (is_left (is_left (is_node (is_seq (any_in SimpleTarget f (plus_in f) refl refl (is_such d refl)) (is_seq (is_lexeme q) e))))))) }
assigned f (is_right (is_left (is_such d c))) (is_seq (is_lexeme q) e) = record { label = _; slots = _; derived = is_right (is_right (is_right (is_right (is_node (is_seq (is_left (any_in ArrayTarget f (plus_in f) refl refl (is_such d refl))) (is_seq (is_lexeme q) e)))))) }
assigned f (is_right (is_right (is_such d c))) (is_seq (is_lexeme q) e) = record { label = _; slots = _; derived = is_right (is_right (is_right (is_right (is_node (is_seq (is_right (any_in ObjectTarget f (plus_in f) refl refl (is_such d refl))) (is_seq (is_lexeme q) e)))))) }

abbrev arguments : Flags → G
arguments f = opt (commas true (symbol Argument f))

before_arguments : (f : Flags) {ks us ts : Slots} {i j k : ℕ} {x : Lexeme} {ls mid rest : Lexemes} (e : One (at Argument f) i ls j (next x mid)) → IsTrue (seen (is Comma) x) → Takes rule (arguments f) ks ts x.to mid us k rest → Takes rule (arguments f) ks (tree e.label e.slots ts) i ls us k rest
before_arguments f e q (is_left d) = is_left (is_commas (is_seq (is_such e.derived refl) (is_left (is_seq (is_lexeme q) (is_left d)))))
before_arguments f e q (is_right is_nothing) = is_left (is_commas (is_seq (is_such e.derived refl) (is_left (is_seq (is_lexeme q) (is_right is_nothing)))))

more_arguments : (f : Flags) {ks us : Slots} {i j k : ℕ} {x : Lexeme} {ls mid rest : Lexemes} → One (at Argument f) i ls j (next x mid) → IsTrue (seen (is Comma) x) → (ws : Slots) × Takes rule (arguments f) ks ws x.to mid us k rest → (ws : Slots) × Takes rule (arguments f) ks ws i ls us k rest
more_arguments f e q y = (tree e.label e.slots y.0, before_arguments f e q y.1)

last_argument : (f : Flags) {ks us : Slots} {i j : ℕ} {ls rest : Lexemes} → One (at Argument f) i ls j rest → (ws : Slots) × Takes rule (arguments f) ks ws i ls us j rest
last_argument f {us = us} e = (tree e.label e.slots us, is_left (is_commas (is_seq (is_such e.derived refl) (is_right is_nothing))))

module _ (f : Flags) (w : f.wide ≡ false) (v : f.cover ≡ true) where
  target_assignment : {ts us : Slots} {i j : ℕ} {ls rest : Lexemes} → Takes rule (rule (at Target f)) end ts i ls us j rest → One (at Assignment (plus_in f)) i ls j rest
  unfolding rule rule_of
  target_assignment (is_left (is_such {l = l} {cs = cs} d h)) = let x = target_left_hand_side (record { label = l; slots = cs }) d in raised f x.derived
  target_assignment (is_right (is_left (is_such d h))) = let x = array_up f v d in raised f (by_primary x.derived)
  target_assignment (is_right (is_right (is_such d h))) = let x = object_up f v d in raised f (by_primary x.derived)

  param_argument : {ts us : Slots} {i j : ℕ} {ls rest : Lexemes} → Takes rule (rule (at Param f)) end ts i ls us j rest → One (at Argument f) i ls j rest
  unfolding rule rule_of
  param_argument (is_node (is_seq (is_such d h) (is_right is_empty_slot))) = let x = binding_target f w d in plain_argument f (target_assignment x.derived)
  param_argument (is_node (is_seq (is_such d h) (is_left (is_such e g)))) = let x = binding_target f w d in plain_argument f (assigned f x.derived e)

  rest_argument : {ts us : Slots} {i j : ℕ} {ls rest : Lexemes} → Takes rule (rule (at Rest f)) end ts i ls us j rest → One (at Argument f) i ls j rest
  unfolding rule rule_of
  rest_argument (is_node (is_such (is_node (is_seq (is_lexeme q) (is_seq (is_such d h) (is_right is_nothing)))) g)) = let x = binding_target f w d in spread_one f q (target_assignment x.derived)
  rest_argument (is_node (is_such (is_node (is_seq (is_lexeme q) (is_seq (is_such d h) (is_left (is_when z e))))) g)) = not_wide w z

  params_at : {ks ms ts us vs : Slots} {i j k : ℕ} {ls mid rest : Lexemes} → Takes rule (many (never ◇ symbol Param f ▸ tok Comma)) ms ts i ls us j mid → (ws : Slots) × Takes rule (arguments f) ks ws j mid vs k rest → (ws : Slots) × Takes rule (arguments f) ks ws i ls vs k rest
  params_at (is_many (is_right is_nothing)) y = y
  params_at (is_many (is_left (is_seq (is_left z) m))) y = elim z [ ]
  params_at (is_many (is_left (is_seq (is_right (is_seq (is_such d h) (is_lexeme q))) m))) y = more_arguments f (param_argument d) q (params_at m y)

  last_param : {ks ms ts us vs : Slots} {i j : ℕ} {ls rest : Lexemes} → Takes rule (symbol Param f ◇ rest_of f (symbol Rest f) ◇ nothing) ms ts i ls us j rest → (ws : Slots) × Takes rule (arguments f) ks ws i ls vs j rest
  last_param (is_left (is_such d h)) = last_argument f (param_argument d)
  last_param (is_right (is_left (is_seq (is_such d h) (is_right is_nothing)))) = last_argument f (rest_argument d)
  last_param (is_right (is_left (is_seq e (is_left (is_when z p))))) = not_wide w z
  last_param {vs = vs} (is_right (is_right is_nothing)) = (vs, is_right is_nothing)

pub params_as_arguments : (f : Flags) → f.wide ≡ false → f.cover ≡ true → {ks ts us : Slots} {i j : ℕ} {ls rest : Lexemes} → Takes rule (such (at Params f) always) ks ts i ls us j rest → (vs : Slots) × Takes rule (args f) ks vs i ls us j rest
unfolding rule rule_of
params_as_arguments f w v (is_such (is_node (is_seq (is_lexeme q) (is_seq (is_seq m l) (is_lexeme p)))) h) =
    let x = params_at f w v m (last_param f w v l) in
    (x.0, is_seq (is_lexeme q) (is_seq x.1 (is_lexeme p)))
