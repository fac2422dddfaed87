-- What a property of an object literal is: a name alone, a name and a value, a method, or a spread (ECMA-262, 13.2.5).
use Rattle.std.proofs.Common.{ℕ, ◌≡◌, Bool, true, false, ◌&&◌, IsTrue, refl, sym, subst}
use Rattle.std.proofs.lemmas.Bool.{false≢true, and_parts}
use Rattle.js_base.specs.declared.kind.Kind.TheVariants.{Colon, Comma, Dot3, RCurly}
use Rattle.js_grammar.specs.Trees.{Op, no_op, init, of, Label, Slots, end, tree, object_property, spread_element, function_expression}
use Rattle.js_grammar.specs.Grammar.{Lexeme, Lexemes, next, here, seen, is, nothing, never, ahead, alt, when, such, node, ◌▸◌, Takes, is_nothing, is_lexeme, is_look, is_text, is_ahead, is_empty_slot, is_seq, is_left, is_right, is_when, is_many, is_commas, is_such, is_marked, is_node, is_ended, is_keep, is_kept}
use Rattle.js_grammar.specs.Productions.{G, Flags, at, tok, opt, flag, has_flag, computed_flag, shorthand_flag, plus_in, Assignment, Init, Property, IdentifierName, IdentifierReference}
use Rattle.js_grammar.specs.Productions.{sym as symbol}
use Rattle.js_grammar.specs.Words.{'get', 'set'}
use Rattle.js_grammar.specs.Table.{rule, rule_of, name, plain_method, getter, setter}
use Rattle.parse_targets.proofs.ArrayTargets.{properties}

-- ---- what takes one slot

abbrev single : G → Bool
single never = true
single (alt a b) = single a && single b
single (such n c) = true
single (node m a) = true
single g = false

pub record OneSlot (g : G) (ts us : Slots) (i : ℕ) (ls : Lexemes) (j : ℕ) (rest : Lexemes) : Type 0 where
  pub label : Label
  pub slots : Slots
  pub is : ts ≡ tree label slots us
  pub derived : (vs : Slots) → Takes rule g end (tree label slots vs) i ls vs j rest

singly : {g : G} {ts us : Slots} {i j : ℕ} {ls rest : Lexemes} → Takes rule g end ts i ls us j rest → single g ≡ true → OneSlot g ts us i ls j rest
singly (is_left {a = a} {b = b} d) h = let x = singly d (and_parts (single a) (single b) h).0 in record { label = x.label; slots = x.slots; is = x.is; derived = λ vs. is_left (x.derived vs) }
singly (is_right {a = a} {b = b} d) h = let x = singly d (and_parts (single a) (single b) h).1 in record { label = x.label; slots = x.slots; is = x.is; derived = λ vs. is_right (x.derived vs) }
singly (is_such d c) h = record { label = _; slots = _; is = refl; derived = λ vs. is_such d c }
singly (is_node d) h = record { label = _; slots = _; is = refl; derived = λ vs. is_node d }
singly (is_when c d) h = absurd (false≢true h)
singly (is_keep d e) h = absurd (false≢true h)
singly is_nothing h = absurd (false≢true h)
singly (is_lexeme q) h = absurd (false≢true h)
singly (is_look q) h = absurd (false≢true h)
singly (is_text q) h = absurd (false≢true h)
singly (is_ahead d) h = absurd (false≢true h)
singly is_empty_slot h = absurd (false≢true h)
singly (is_seq d e) h = absurd (false≢true h)
singly (is_many d) h = absurd (false≢true h)
singly (is_commas d) h = absurd (false≢true h)
singly (is_marked d) h = absurd (false≢true h)
singly (is_ended q d e) h = absurd (false≢true h)
singly (is_kept q) h = absurd (false≢true h)

-- a name, in brackets or not
pub named : (c : Bool) (f : Flags) {ts us : Slots} {i j : ℕ} {ls rest : Lexemes} → Takes rule (name c false f) end ts i ls us j rest → OneSlot (name c false f) ts us i ls j rest
named false f d = singly d refl
named true f (is_seq (is_lexeme p) (is_seq (is_such d c) (is_lexeme q))) = record { label = _; slots = _; is = refl; derived = λ vs. is_seq (is_lexeme p) (is_seq (is_such d c) (is_lexeme q)) }

-- ---- a method's value is a function

pub record Functional (cs : Slots) : Type 0 where
  pub key : Label
  pub inside : Slots
  pub value : Label
  pub slots : Slots
  pub is : cs ≡ tree key inside (tree value slots end)
  pub function : value.kind ≡ function_expression

functional : (c : Bool) (f : Flags) {l : Label} {ts cs : Slots} {i j : ℕ} {ls rest : Lexemes} → l.kind ≡ function_expression → Takes rule (name c false f) end cs i ls (tree l ts end) j rest → Functional cs
functional c f h d = let x = named c f d in record { key = x.label; inside = x.slots; value = _; slots = _; is = x.is; function = h }

method_value : (c : Bool) (f : Flags) {cs : Slots} {i j : ℕ} {ls rest : Lexemes} → Takes rule (plain_method nothing c false f) end cs i ls end j rest → Functional cs
method_value c f (is_left (is_left (is_seq is_nothing (is_seq is_nothing (is_seq is_nothing (is_seq n (is_node d))))))) = functional c f refl n
method_value c f (is_left (is_right (is_seq is_nothing (is_seq (is_lexeme q) (is_seq is_nothing (is_seq n (is_node d))))))) = functional c f refl n
method_value c f (is_right (is_left (is_seq (is_seq (is_lexeme p) (is_look r)) (is_seq is_nothing (is_seq is_nothing (is_seq n (is_node d))))))) = functional c f refl n
method_value c f (is_right (is_right (is_seq (is_seq (is_lexeme p) (is_look r)) (is_seq (is_lexeme q) (is_seq is_nothing (is_seq n (is_node d))))))) = functional c f refl n

getter_value : (c : Bool) (f : Flags) {cs : Slots} {i j : ℕ} {ls rest : Lexemes} → Takes rule (getter c false f) end cs i ls end j rest → Functional cs
getter_value c f (is_seq (is_lexeme q) (is_seq n (is_node d))) = functional c f refl n

setter_value : (c : Bool) (f : Flags) {cs : Slots} {i j : ℕ} {ls rest : Lexemes} → Takes rule (setter c false f) end cs i ls end j rest → Functional cs
setter_value c f (is_seq (is_lexeme q) (is_seq n (is_node d))) = functional c f refl n

-- ---- a property

abbrev pub property_label : Op → ℕ → Lexemes → ℕ → Label
property_label o fl ls j = record { kind = object_property; op = o; flags = fl; span = record { from = (here ls).from; to = j } }

abbrev pub shorthand_line : Flags → G
shorthand_line f = ahead (symbol IdentifierName f) ▸ symbol IdentifierReference f ▸ opt (when f.cover (symbol Init (plus_in f)))

pub data PropertyOf (f : Flags) : Label → Slots → ℕ → Lexemes → ℕ → Lexemes → Type 0 where
  a_shorthand : {cs : Slots} {i j : ℕ} {ls rest : Lexemes} → Takes rule (shorthand_line f) end cs i ls end j rest → PropertyOf f (property_label init shorthand_flag ls j) cs i ls j rest
  a_value : (c : Bool) {k m : Label} {ks ds : Slots} {i j a : ℕ} {x : Lexeme} {ls mid rest : Lexemes} → ((vs : Slots) → Takes rule (name c false f) end (tree k ks vs) i ls vs a (next x mid)) → IsTrue (seen (is Colon) x) → Takes rule (rule (at Assignment (plus_in f))) end (tree m ds end) x.to mid end j rest → PropertyOf f (property_label init (flag c computed_flag) ls j) (tree k ks (tree m ds end)) i ls j rest
  a_method : {o : Op} {fl : ℕ} {k m : Label} {ks ds : Slots} {i j : ℕ} {ls rest : Lexemes} → has_flag shorthand_flag fl ≡ false → m.kind ≡ function_expression → PropertyOf f (property_label o fl ls j) (tree k ks (tree m ds end)) i ls j rest
  a_spread : {m : Label} {ds : Slots} {i j : ℕ} {x : Lexeme} {ls rest : Lexemes} → IsTrue (seen (is Dot3) x) → Takes rule (rule (at Assignment (plus_in f))) end (tree m ds end) x.to ls end j rest → PropertyOf f (record { kind = spread_element; op = no_op; flags = 0; span = record { from = x.from; to = j } }) (tree m ds end) i (next x ls) j rest

a_function : (f : Flags) (o : Op) (fl : ℕ) {cs : Slots} {i j : ℕ} {ls rest : Lexemes} → has_flag shorthand_flag fl ≡ false → Functional cs → PropertyOf f (property_label o fl ls j) cs i ls j rest
a_function f o fl {i = i} {j = j} {ls = ls} {rest = rest} h x = subst (λ (vs : Slots). PropertyOf f (property_label o fl ls j) vs i ls j rest) (sym x.is) (a_method h x.function)

a_named : (f : Flags) (c : Bool) {cs : Slots} {i j : ℕ} {ls rest : Lexemes} → Takes rule (name c false f ▸ tok Colon ▸ symbol Assignment (plus_in f)) end cs i ls end j rest → PropertyOf f (property_label init (flag c computed_flag) ls j) cs i ls j rest
a_named f c {i = i} {j = j} {ls = ls} {rest = rest} (is_seq n (is_seq (is_lexeme q) (is_such {l = m} {cs = ds} d h))) = let x = named c f n in subst (λ (vs : Slots). PropertyOf f (property_label init (flag c computed_flag) ls j) vs i ls j rest) (sym x.is) (a_value c x.derived q d)

pub property_of : (f : Flags) {l : Label} {cs : Slots} {i j : ℕ} {ls rest : Lexemes} → Takes rule (rule (at Property f)) end (tree l cs end) i ls end j rest → PropertyOf f l cs i ls j rest
unfolding rule rule_of
property_of f (is_left (is_node d)) = a_shorthand d
property_of f (is_right (is_left (is_left (is_left (is_node d))))) = a_named f false d
property_of f (is_right (is_left (is_left (is_right (is_left (is_node d)))))) = a_function f init 16 refl (method_value false f d)
property_of f (is_right (is_left (is_left (is_right (is_right (is_left (is_node d))))))) = a_function f (of 'get') 0 refl (getter_value false f d)
property_of f (is_right (is_left (is_left (is_right (is_right (is_right (is_node d))))))) = a_function f (of 'set') 0 refl (setter_value false f d)
property_of f (is_right (is_left (is_right (is_left (is_node d))))) = a_named f true d
property_of f (is_right (is_left (is_right (is_right (is_left (is_node d)))))) = a_function f init 20 refl (method_value true f d)
property_of f (is_right (is_left (is_right (is_right (is_right (is_left (is_node d))))))) = a_function f (of 'get') 4 refl (getter_value true f d)
property_of f (is_right (is_left (is_right (is_right (is_right (is_right (is_node d))))))) = a_function f (of 'set') 4 refl (setter_value true f d)
property_of f (is_right (is_right (is_node (is_seq (is_lexeme q) (is_such d h))))) = a_spread q d

-- ---- properties up to the brace that closes

abbrev pub properties_on : Flags → G
properties_on f = properties f ▸ tok RCurly

pub data PropertyStep (f : Flags) : Slots → ℕ → Lexemes → ℕ → Lexemes → Type 0 where
  shuts : {i : ℕ} {x : Lexeme} {rest : Lexemes} → IsTrue (seen (is RCurly) x) → PropertyStep f end i (next x rest) x.to rest
  property : {l : Label} {cs us : Slots} {i j k : ℕ} {x : Lexeme} {ls mid rest : Lexemes} → Takes rule (rule (at Property f)) end (tree l cs end) i ls end k (next x mid) → IsTrue (seen (is Comma) x) → Takes rule (properties_on f) end us x.to mid end j rest → PropertyStep f (tree l cs us) i ls j rest
  last_property : {l : Label} {cs : Slots} {i k : ℕ} {x : Lexeme} {ls rest : Lexemes} → Takes rule (rule (at Property f)) end (tree l cs end) i ls end k (next x rest) → IsTrue (seen (is RCurly) x) → PropertyStep f (tree l cs end) i ls x.to rest

pub property_step : {f : Flags} {cs : Slots} {i j : ℕ} {ls rest : Lexemes} → Takes rule (properties_on f) end cs i ls end j rest → PropertyStep f cs i ls j rest
property_step (is_seq (is_right is_nothing) (is_lexeme p)) = shuts p
property_step (is_seq (is_left (is_commas (is_seq (is_such d h) (is_right is_nothing)))) (is_lexeme p)) = last_property d p
property_step (is_seq (is_left (is_commas (is_seq (is_such d h) (is_left (is_seq (is_lexeme q) (is_left m)))))) p) = property d q (is_seq (is_left m) p)
property_step (is_seq (is_left (is_commas (is_seq (is_such d h) (is_left (is_seq (is_lexeme q) (is_right is_nothing)))))) p) = property d q (is_seq (is_right is_nothing) p)
