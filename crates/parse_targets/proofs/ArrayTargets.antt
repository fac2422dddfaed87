-- What is derived as an array target is derived as an array literal too, over the same lexemes (ECMA-262, 13.15.5).
use Rattle.std.proofs.Common.{ℕ, zero, suc, ◌+◌, ◌<◌, arith, ◌≡◌, Bool, true, false, not, ◌&&◌, IsTrue, List, [], ◌∷◌, refl}
use Rattle.std.proofs.lemmas.Bool.{and_parts}
use Rattle.js_base.specs.declared.kind.Kind.{Kind}
use Rattle.js_base.specs.declared.kind.Kind.TheVariants.{Await, Yield, Eq, Colon, Comma, Dot3, LBrack, RBrack, LCurly, RCurly}
use Rattle.js_base.specs.Kinds.{same_kind}
use Rattle.js_grammar.specs.Trees.{Label, Slots, end, tree, of, no_op, assignment_target_rest, assignment_expression, assignment_target_with_default, elision, object_expression}
use Rattle.js_grammar.specs.Grammar.{Lexeme, Lexemes, Look, next, here, seen, is, commas, is_commas, is_ahead, seq, such, many, nothing, never, empty_slot, when, ◌▸◌, ◌◇◌, Takes, is_nothing, is_lexeme, is_empty_slot, is_seq, is_left, is_right, is_when, is_many, is_such, is_node}
use Rattle.js_grammar.specs.Parsing.{always}
use Rattle.js_grammar.specs.Productions.{G, Flags, Symbol, at, tok, mk, op, opt, slot, branches, IdentifierReference, Init, Property, TargetProperty, plus_in, Argument, Assignment, LeftHandSide, Primary, SimpleTarget, Target, ArrayTarget, ObjectTarget, TargetElement}
use Rattle.js_grammar.specs.Productions.{sym as symbol}
use Rattle.js_grammar.specs.Table.{rule, rule_of, rest_of, name}
use Rattle.js_base.specs.Texts.{words}
use Rattle.js_grammar.specs.Insertion.{may_bind, other_operators}
use Rattle.js_grammar.specs.Lexemes.{is_word}
use Rattle.js_grammar.proofs.Frame.{framed}
use Rattle.js_grammar.proofs.Looks.{covers, covered}
use Rattle.js_grammar.proofs.CoverInitialisers.{deep}
use Rattle.parse_targets.specs.Targets.{is_array}
use Rattle.parse_shared.proofs.laws_shared.FreeOfIn.{any_in}
use Rattle.parse_targets.proofs.Targets.{by_primary, of_assignment, target_left_hand_side}

-- a tree of the symbol
pub record One (n : Symbol) (i : ℕ) (ls : Lexemes) (j : ℕ) (rest : Lexemes) : Type 0 where
  pub label : Label
  pub slots : Slots
  pub derived : Takes rule (rule n) end (tree label slots end) i ls end j rest

-- an array literal
pub record Arrayed (f : Flags) (i : ℕ) (ls : Lexemes) (j : ℕ) (rest : Lexemes) : Type 0 where
  pub label : Label
  pub slots : Slots
  pub array : is_array label.kind ≡ true
  pub derived : Takes rule (rule (at Primary f)) end (tree label slots end) i ls end j rest

-- the items of a target, and of a literal
abbrev pub target_step : Flags → G
target_step f = empty_slot ▸ tok Comma ◇ symbol TargetElement f ▸ tok Comma

abbrev pub target_last : Flags → G
target_last f = symbol TargetElement f ◇ rest_of f (mk assignment_target_rest (tok Dot3 ▸ symbol Target f)) ◇ nothing

abbrev pub literal_step : Flags → G
literal_step f = mk elision (tok Comma) ◇ symbol Argument f ▸ tok Comma

abbrev pub literal_last : Flags → G
literal_last f = symbol Argument f ◇ never ◇ nothing

abbrev pub literal_items : Flags → G
literal_items f = seq (many (literal_step f)) (literal_last f)

such_of : {n : Symbol} {l : Label} {cs us : Slots} {i j : ℕ} {ls rest : Lexemes} → Takes rule (rule n) end (tree l cs end) i ls end j rest → Takes rule (such n always) end (tree l cs us) i ls us j rest
such_of d = is_such d refl

-- an expression of the lowest level, as an assignment
raised : (f : Flags) {l : Label} {cs : Slots} {i j : ℕ} {ls rest : Lexemes} → Takes rule (such (at LeftHandSide f) always) end (tree l cs end) i ls end j rest → One (at Assignment (plus_in f)) i ls j rest
raised f {l} {cs} d = record { label = l; slots = cs; derived = of_such ((of_assignment (plus_in f)).up (any_in LeftHandSide f (plus_in f) refl refl d)) }
  where
    of_such : {n : Symbol} {i j : ℕ} {ls rest : Lexemes} → Takes rule (such n always) end (tree l cs end) i ls end j rest → Takes rule (rule n) end (tree l cs end) i ls end j rest
    of_such (is_such d h) = d

by_array : (f : Flags) {ts : Slots} {i j : ℕ} {x : Lexeme} {ls rest : Lexemes} → IsTrue (seen (is LBrack) x) → Takes rule (seq (literal_items f) (tok RBrack)) end ts x.to ls end j rest → Arrayed f i (next x ls) j rest
unfolding rule rule_of
by_array f q d = record { label = _; slots = _; array = refl; derived = is_right (is_right (is_right (is_right (is_right (is_right (is_right (is_right (is_right (is_right (is_right (is_left (is_node (is_seq (is_lexeme q) d))))))))))))) }

pub spread_one : (f : Flags) {i j : ℕ} {x : Lexeme} {ls rest : Lexemes} → IsTrue (seen (is Dot3) x) → One (at Assignment (plus_in f)) x.to ls j rest → One (at Argument f) i (next x ls) j rest
unfolding rule rule_of
spread_one f q t = record { label = _; slots = tree t.label t.slots end; derived = is_right (is_node (is_seq (is_lexeme q) (is_such t.derived refl))) }

plain_one : (f : Flags) {i j : ℕ} {ls rest : Lexemes} → One (at Assignment (plus_in f)) i ls j rest → One (at Argument f) i ls j rest
unfolding rule rule_of
plain_one f t = record { label = t.label; slots = t.slots; derived = is_left (is_such t.derived refl) }

-- a target and what is assigned to it
assigned_one : (f : Flags) {ts us vs : Slots} {i j k : ℕ} {x : Lexeme} {ls mid rest : Lexemes} → Takes rule (rule (at Target f)) end ts i ls end j (next x mid) → IsTrue (seen (is Eq) x) → Takes rule (symbol Assignment (plus_in f)) end us x.to mid vs k rest → One (at Assignment (plus_in f)) i ls k rest
unfolding rule rule_of
assigned_one f (is_left (is_such d c)) q (is_such e h) = record { label = _; slots = _; derived = is_right (is_right (is_right (is_left (is_left (is_node (is_seq (any_in SimpleTarget f (plus_in f) refl refl (is_such d refl)) (is_seq (is_lexeme q) (is_such e refl)))))))) }
assigned_one f (is_right (is_left (is_such d c))) q (is_such e h) = record { label = _; slots = _; derived = is_right (is_right (is_right (is_right (is_node (is_seq (is_left (any_in ArrayTarget f (plus_in f) refl refl (is_such d refl))) (is_seq (is_lexeme q) (is_such e refl))))))) }
assigned_one f (is_right (is_right (is_such d c))) q (is_such e h) = record { label = _; slots = _; derived = is_right (is_right (is_right (is_right (is_node (is_seq (is_right (any_in ObjectTarget f (plus_in f) refl refl (is_such d refl))) (is_seq (is_lexeme q) (is_such e refl))))))) }

-- an object literal
pub record Objected (f : Flags) (i : ℕ) (ls : Lexemes) (j : ℕ) (rest : Lexemes) : Type 0 where
  pub label : Label
  pub slots : Slots
  pub object : label.kind ≡ object_expression
  pub derived : Takes rule (rule (at Primary f)) end (tree label slots end) i ls end j rest

-- the properties of a target, and of a literal
abbrev pub target_property : Flags → G
target_property f = never ◇ symbol TargetProperty f ▸ tok Comma

-- what is left of an object, a literal among it where targets are wide
abbrev pub left_line : Flags → G
left_line f = symbol SimpleTarget f ◇ when f.wide (symbol ArrayTarget f ◇ symbol ObjectTarget f)

abbrev rest_property : Flags → G
rest_property f = rest_of f (mk assignment_target_rest (tok Dot3 ▸ left_line f))

abbrev pub last_property : Flags → G
last_property f = symbol TargetProperty f ◇ rest_property f ◇ nothing

abbrev pub properties : Flags → G
properties f = opt (commas true (symbol Property f))

by_object : (f : Flags) {ts : Slots} {i j : ℕ} {x : Lexeme} {ls rest : Lexemes} → IsTrue (seen (is LCurly) x) → Takes rule (seq (properties f) (tok RCurly)) end ts x.to ls end j rest → Objected f i (next x ls) j rest
unfolding rule rule_of
by_object f q d = record { label = _; slots = _; object = refl; derived = is_right (is_right (is_right (is_right (is_right (is_right (is_left (is_such (is_node (is_seq (is_lexeme q) d)) refl))))))) }

-- a property more, with its comma
one_property : (f : Flags) {us ts : Slots} {i j k : ℕ} {x : Lexeme} {ls mid rest : Lexemes} (e : One (at Property f) i ls j (next x mid)) → IsTrue (seen (is Comma) x) → Takes rule (properties f) end ts x.to mid us k rest → Takes rule (properties f) end (tree e.label e.slots ts) i ls us k rest
one_property f e c (is_left d) = is_left (is_commas (is_seq (is_such e.derived refl) (is_left (is_seq (is_lexeme c) (is_left d)))))
one_property f e c (is_right is_nothing) = is_left (is_commas (is_seq (is_such e.derived refl) (is_left (is_seq (is_lexeme c) (is_right is_nothing)))))

more_properties : (f : Flags) {us : Slots} {i j k : ℕ} {x : Lexeme} {ls mid rest : Lexemes} → One (at Property f) i ls j (next x mid) → IsTrue (seen (is Comma) x) → (ws : Slots) × Takes rule (properties f) end ws x.to mid us k rest → (ws : Slots) × Takes rule (properties f) end ws i ls us k rest
more_properties f e q x = (tree e.label e.slots x.0, one_property f e q x.1)

closed_object : (f : Flags) {i j : ℕ} {x y : Lexeme} {ls rest : Lexemes} → IsTrue (seen (is LCurly) x) → IsTrue (seen (is RCurly) y) → (ws : Slots) × Takes rule (properties f) end ws x.to ls end j (next y rest) → Objected f i (next x ls) y.to rest
closed_object f q p x = by_object f q (is_seq x.1 (is_lexeme p))

-- what names a property is a word
abbrev names : Look
names k w e = may_bind k

abbrev words_of : Look
words_of k w e = is_word k

names_words : covers names words_of ≡ true
unfolding covers words
names_words = refl

pub bound_word : (k : Kind) (b c : Bool) → ((may_bind k && b) && c) ≡ true → is_word k ≡ true
bound_word k b c h = covered names words_of names_words k false false (and_parts (may_bind k) b (and_parts (may_bind k && b) c h).0).0

-- the last property
last_of_them : (f : Flags) {i j : ℕ} {ls rest : Lexemes} → One (at Property f) i ls j rest → (ws : Slots) × Takes rule (properties f) end ws i ls end j rest
last_of_them f e = (tree e.label e.slots end, is_left (is_commas (is_seq (is_such e.derived refl) (is_right is_nothing))))

-- a name for itself, with an initialiser or without one
shorthand : (f : Flags) → f.cover ≡ true → {ts : Slots} {i j : ℕ} {ls rest : Lexemes} → Takes rule (symbol IdentifierReference f ▸ slot (symbol Init (plus_in f))) end ts i ls end j rest → One (at Property f) i ls j rest
unfolding rule rule_of
shorthand f v (is_seq (is_such (is_node (is_lexeme {x = x} t)) h) (is_left (is_such d g))) = record { label = _; slots = _; derived = is_left (is_node (is_seq (is_ahead (is_such (is_node (is_lexeme (bound_word x.kind (not (same_kind Yield x.kind && f.yield_)) (not (same_kind Await x.kind && f.await_)) t))) refl)) (is_seq (is_such (is_node (is_lexeme t)) refl) (is_left (is_when v (is_such d refl)))))) }
shorthand f v (is_seq (is_such (is_node (is_lexeme {x = x} t)) h) (is_right is_empty_slot)) = record { label = _; slots = _; derived = is_left (is_node (is_seq (is_ahead (is_such (is_node (is_lexeme (bound_word x.kind (not (same_kind Yield x.kind && f.yield_)) (not (same_kind Await x.kind && f.await_)) t))) refl)) (is_seq (is_such (is_node (is_lexeme t)) refl) (is_right is_nothing)))) }

-- a name and a value
named_property : (f : Flags) {ts us : Slots} {i j k : ℕ} {x : Lexeme} {ls mid rest : Lexemes} → Takes rule (name false false f) end ts i ls us j (next x mid) → IsTrue (seen (is Colon) x) → One (at Assignment (plus_in f)) x.to mid k rest → One (at Property f) i ls k rest
unfolding rule rule_of
named_property f nm q e = record { label = _; slots = _; derived = is_right (is_left (is_left (is_left (is_node (is_seq ((framed nm).2 (tree e.label e.slots end)) (is_seq (is_lexeme q) (is_such e.derived refl))))))) }

computed_property : (f : Flags) {ts us : Slots} {i j k : ℕ} {x : Lexeme} {ls mid rest : Lexemes} → Takes rule (name true false f) end ts i ls us j (next x mid) → IsTrue (seen (is Colon) x) → One (at Assignment (plus_in f)) x.to mid k rest → One (at Property f) i ls k rest
unfolding rule rule_of
computed_property f nm q e = record { label = _; slots = _; derived = is_right (is_left (is_right (is_left (is_node (is_seq ((framed nm).2 (tree e.label e.slots end)) (is_seq (is_lexeme q) (is_such e.derived refl))))))) }

spread_property : (f : Flags) {i j : ℕ} {x : Lexeme} {ls rest : Lexemes} → IsTrue (seen (is Dot3) x) → One (at Assignment (plus_in f)) x.to ls j rest → One (at Property f) i (next x ls) j rest
unfolding rule rule_of
spread_property f q e = record { label = _; slots = _; derived = is_right (is_right (is_node (is_seq (is_lexeme q) (is_such e.derived refl)))) }

abbrev pub with_operator : Flags → Kind → G
with_operator f o = mk assignment_target_with_default (symbol SimpleTarget f ▸ tok o ▸ symbol Assignment (plus_in f))

abbrev pub assigning : Flags → Kind → G
assigning f o = op assignment_expression o (symbol SimpleTarget f ▸ tok o ▸ symbol Assignment f)

abbrev pub default_label : Lexemes → ℕ → Label
default_label ls j = record { kind = assignment_target_with_default; op = no_op; flags = 0; span = record { from = (here ls).from; to = j } }

abbrev pub assigned_label : Kind → Lexemes → ℕ → Label
assigned_label o ls j = record { kind = assignment_expression; op = of o; flags = 0; span = record { from = (here ls).from; to = j } }

-- a simple target with another operator than `=`, as an assignment
pub record Assigning (f : Flags) (ks : List Kind) (ts us : Slots) (i : ℕ) (ls : Lexemes) (j : ℕ) (rest : Lexemes) : Type 0 where
  pub operator : Kind
  pub slots : Slots
  pub is_tree : ts ≡ tree (default_label ls j) slots us
  pub derived : Takes rule (branches ks (assigning (plus_in f))) end (tree (assigned_label operator ls j) slots end) i ls end j rest

pub by_other : (f : Flags) {ts us : Slots} {i j : ℕ} {ls rest : Lexemes} (ks : List Kind) → Takes rule (branches ks (with_operator f)) end ts i ls us j rest → Assigning f ks ts us i ls j rest
by_other f [] d = elim d [ ]
by_other f (k ∷ []) (is_node (is_seq (is_such d h) (is_seq (is_lexeme q) (is_such e g)))) = record { operator = k; slots = _; is_tree = refl; derived = is_node (is_seq (any_in SimpleTarget f (plus_in f) refl refl (is_such d refl)) (is_seq (is_lexeme q) (is_such e refl))) }
by_other f (k ∷ j ∷ ks) (is_left (is_node (is_seq (is_such d h) (is_seq (is_lexeme q) (is_such e g))))) = record { operator = k; slots = _; is_tree = refl; derived = is_left (is_node (is_seq (any_in SimpleTarget f (plus_in f) refl refl (is_such d refl)) (is_seq (is_lexeme q) (is_such e refl)))) }
by_other f (k ∷ j ∷ ks) (is_right d) = let x = by_other f (j ∷ ks) d in record { operator = x.operator; slots = x.slots; is_tree = x.is_tree; derived = is_right x.derived }

other_one : (f : Flags) {ts us : Slots} {i j : ℕ} {ls rest : Lexemes} → Takes rule (branches other_operators (with_operator f)) end ts i ls us j rest → One (at Assignment (plus_in f)) i ls j rest
unfolding rule rule_of
other_one f {j = j} {ls = ls} d = let x = by_other f other_operators d in record { label = assigned_label x.operator ls j; slots = x.slots; derived = is_right (is_right (is_right (is_left (is_right x.derived)))) }

-- items of a literal, before whatever slots stand behind them
abbrev Items : Flags → ℕ → Lexemes → ℕ → Lexemes → Type 0
Items f i ls j rest = (vs : Slots) → (ws : Slots) × Takes rule (literal_items f) end ws i ls vs j rest

pub more_items : (f : Flags) {ts us vs : Slots} {i j k : ℕ} {ls mid rest : Lexemes} → Takes rule (literal_step f) end ts i ls us j mid → Takes rule (literal_items f) end us j mid vs k rest → Takes rule (literal_items f) end ts i ls vs k rest
more_items f s (is_seq m l) = is_seq (is_many (is_left (is_seq s m))) l

no_more : (f : Flags) {i : ℕ} {ls : Lexemes} → Items f i ls i ls
no_more f = λ vs. (vs, is_seq (is_many (is_right is_nothing)) (is_right (is_right is_nothing)))

one_item : (f : Flags) {i j : ℕ} {ls rest : Lexemes} → One (at Argument f) i ls j rest → Items f i ls j rest
one_item f e = λ vs. (tree e.label e.slots vs, is_seq (is_many (is_right is_nothing)) (is_left (is_such e.derived refl)))

with_comma : (f : Flags) {i j k : ℕ} {x : Lexeme} {ls mid rest : Lexemes} → One (at Argument f) i ls j (next x mid) → IsTrue (seen (is Comma) x) → Items f x.to mid k rest → Items f i ls k rest
with_comma f e q t = λ vs. let y = t vs in (tree e.label e.slots y.0, more_items f (is_right (is_seq (is_such e.derived refl) (is_lexeme q))) y.1)

-- ---- by induction over how large a derivation is

-- targets whose derivations are smaller than n are assignments
abbrev UpTo : Flags → ℕ → Type 0
UpTo f n = (ts us : Slots) (i j : ℕ) (ls rest : Lexemes) (d : Takes rule (rule (at Target f)) end ts i ls us j rest) → deep d < n → One (at Assignment (plus_in f)) i ls j rest

module _ (f : Flags) (v : f.cover ≡ true) where
  module _ {n : ℕ} (up : UpTo f n) where
    element_at : {ts us : Slots} {i j : ℕ} {ls rest : Lexemes} (d : Takes rule (rule (at TargetElement f)) end ts i ls us j rest) → deep d < n → One (at Assignment (plus_in f)) i ls j rest
    unfolding rule rule_of
    element_at (is_left (is_such d h)) c = up _ _ _ _ _ _ d (omega arith)
    element_at (is_right (is_left (is_node (is_seq (is_such d h) (is_seq (is_lexeme q) e))))) c = assigned_one f d q e
    element_at (is_right (is_right (is_when z d))) c = other_one f d

    many_at : {ts us : Slots} {i j k : ℕ} {ls mid rest : Lexemes} (d : Takes rule (many (target_step f)) end ts i ls us j mid) → deep d < n → Items f j mid k rest → Items f i ls k rest
    many_at (is_many (is_right is_nothing)) c t = t
    many_at (is_many (is_left (is_seq (is_left (is_seq is_empty_slot (is_lexeme q))) m))) c t = λ vs. let y = many_at m (omega arith) t vs in (_, more_items f (is_left (is_node (is_lexeme q))) y.1)
    many_at (is_many (is_left (is_seq (is_right (is_seq (is_such d h) (is_lexeme q))) m))) c t = with_comma f (plain_one f (element_at d (omega arith))) q (many_at m (omega arith) t)

    last_at : {ts us : Slots} {i j : ℕ} {ls rest : Lexemes} (d : Takes rule (target_last f) end ts i ls us j rest) → deep d < n → Items f i ls j rest
    last_at (is_left (is_such d h)) c = one_item f (plain_one f (element_at d (omega arith)))
    last_at (is_right (is_left (is_seq (is_node (is_seq (is_lexeme q) (is_such d h))) (is_right is_nothing)))) c = one_item f (spread_one f q (up _ _ _ _ _ _ d (omega arith)))
    last_at (is_right (is_left (is_seq (is_node (is_seq (is_lexeme q) (is_such d h))) (is_left (is_when z (is_lexeme p)))))) c = with_comma f (spread_one f q (up _ _ _ _ _ _ d (omega arith))) p (no_more f)
    last_at (is_right (is_right is_nothing)) c = no_more f

    array_at : {ts us : Slots} {i j : ℕ} {ls rest : Lexemes} (d : Takes rule (rule (at ArrayTarget f)) end ts i ls us j rest) → deep d < n → Arrayed f i ls j rest
    unfolding rule rule_of
    array_at (is_node (is_seq (is_lexeme q) (is_seq (is_seq m l) (is_lexeme p)))) c =
        let x = many_at m (omega arith) (last_at l (omega arith)) end in
        by_array f q (is_seq x.1 (is_lexeme p))

    left_at : {ts us : Slots} {i j : ℕ} {ls rest : Lexemes} (d : Takes rule (left_line f) end ts i ls us j rest) → 3 + deep d < n → One (at Assignment (plus_in f)) i ls j rest
    unfolding rule rule_of
    left_at {ts} {us} {i} {j} {ls} {rest} (is_left (is_such d h)) c = up ts us i j ls rest (is_left (is_such d h)) (omega arith)
    left_at {ts} {us} {i} {j} {ls} {rest} (is_right (is_when z (is_left (is_such d h)))) c = up ts us i j ls rest (is_right (is_left (is_such d h))) (omega arith)
    left_at {ts} {us} {i} {j} {ls} {rest} (is_right (is_when z (is_right (is_such d h)))) c = up ts us i j ls rest (is_right (is_right (is_such d h))) (omega arith)

    rest_at : {ts : Slots} {i j : ℕ} {ls rest : Lexemes} (d : Takes rule (rest_property f) end ts i ls end j rest) → 2 + deep d < n → (ws : Slots) × Takes rule (properties f) end ws i ls end j rest
    rest_at (is_seq (is_node (is_seq (is_lexeme q) d)) (is_right is_nothing)) c = last_of_them f (spread_property f q (left_at d (omega arith)))
    rest_at (is_seq (is_node (is_seq (is_lexeme q) d)) (is_left (is_when z (is_lexeme p)))) c = more_properties f (spread_property f q (left_at d (omega arith))) p (end, is_right is_nothing)

    property_at : {ts us : Slots} {i j : ℕ} {ls rest : Lexemes} (d : Takes rule (rule (at TargetProperty f)) end ts i ls us j rest) → deep d < n → One (at Property f) i ls j rest
    unfolding rule rule_of
    property_at (is_left (is_node d)) c = shorthand f v d
    property_at (is_right (is_left (is_node (is_seq nm (is_seq (is_lexeme q) (is_such d h)))))) c = named_property f nm q (element_at d (omega arith))
    property_at (is_right (is_right (is_node (is_seq nm (is_seq (is_lexeme q) (is_such d h)))))) c = computed_property f nm q (element_at d (omega arith))

    properties_at : {ts us : Slots} {i j k : ℕ} {ls mid rest : Lexemes} (d : Takes rule (many (target_property f)) end ts i ls us j mid) → deep d < n → (ws : Slots) × Takes rule (properties f) end ws j mid end k rest → (ws : Slots) × Takes rule (properties f) end ws i ls end k rest
    properties_at (is_many (is_right is_nothing)) c y = y
    properties_at (is_many (is_left (is_seq (is_left z) m))) c y = elim z [ ]
    properties_at (is_many (is_left (is_seq (is_right (is_seq (is_such d h) (is_lexeme q))) m))) c y = more_properties f (property_at d (omega arith)) q (properties_at m (omega arith) y)

    object_at : {ts us : Slots} {i j : ℕ} {ls rest : Lexemes} (d : Takes rule (rule (at ObjectTarget f)) end ts i ls us j rest) → deep d < n → Objected f i ls j rest
    unfolding rule rule_of
    object_at (is_node (is_seq (is_lexeme q) (is_seq (is_seq m (is_left (is_such d h))) (is_lexeme p)))) c = closed_object f q p (properties_at m (omega arith) (last_of_them f (property_at d (omega arith))))
    object_at (is_node (is_seq (is_lexeme q) (is_seq (is_seq m (is_right (is_left r))) (is_lexeme p)))) c = closed_object f q p (properties_at m (omega arith) (rest_at r (omega arith)))
    object_at (is_node (is_seq (is_lexeme q) (is_seq (is_seq m (is_right (is_right is_nothing))) (is_lexeme p)))) c = closed_object f q p (properties_at m (omega arith) (end, is_right is_nothing))

    one_deeper : UpTo f (suc n)
    unfolding rule rule_of
    one_deeper ts us i j ls rest (is_left (is_such {l = l} {cs = cs} d h)) c = let x = target_left_hand_side (record { label = l; slots = cs }) d in raised f x.derived
    one_deeper ts us i j ls rest (is_right (is_left (is_such d h))) c = let x = array_at d (omega arith) in raised f (by_primary x.derived)
    one_deeper ts us i j ls rest (is_right (is_right (is_such d h))) c = let x = object_at d (omega arith) in raised f (by_primary x.derived)

  up_to : (n : ℕ) → UpTo f n
  up_to zero ts us i j ls rest d c = absurd (omega arith)
  up_to (suc n) ts us i j ls rest d c = one_deeper (up_to n) ts us i j ls rest d c

  pub array_up : {ts us : Slots} {i j : ℕ} {ls rest : Lexemes} → Takes rule (rule (at ArrayTarget f)) end ts i ls us j rest → Arrayed f i ls j rest
  array_up d = array_at (up_to (suc (deep d))) d (omega arith)

  pub object_up : {ts us : Slots} {i j : ℕ} {ls rest : Lexemes} → Takes rule (rule (at ObjectTarget f)) end ts i ls us j rest → Objected f i ls j rest
  object_up d = object_at (up_to (suc (deep d))) d (omega arith)
