-- The rule on its name that a member of a class breaks (ECMA-262, 15.7.1): what it is where the key and what is asked of it are known.
use Rattle.std.proofs.Common.{ℕ, zero, suc, ◌≡◌, ◌<◌, ◌≤◌, ◌/◌, ◌%◌, Bool, true, false, not, ◌&&◌, ◌||◌, cond, List, [], ◌∷◌, Option, Some, None, length, get_or, nat_eq, nat_lt, slice_get, refl, sym, ap, subst, arith, ◌∙◌, ltb-true, ltb-false}
use Rattle.std.specs.Prelude.{codes}
use Rattle.std.specs.List.{All}
use Rattle.std.proofs.lemmas.Bool.{false≢true}
use Rattle.std.proofs.lemmas.List.Elements.{All-nil, All-cons}
use Rattle.js_base.specs.declared.diagnostic.Diagnostic.{Diagnostic}
use Rattle.js_base.specs.declared.diagnostic.DiagnosticKind.{DiagnosticKind}
use Rattle.js_base.specs.declared.diagnostic.DiagnosticKind.TheVariants.{PrivateNameConstructor, StaticPrototype, FieldConstructor, ConstructorAccessor, ConstructorGetterSetter, ConstructorAsync, ConstructorGenerator}
use Rattle.js_base.specs.declared.span.Span.{Span as PlacedSpan}
use Rattle.js_grammar.specs.EarlyRules.{Rule, no_private_constructor, no_field_constructor, no_static_prototype, plain_constructor}
use Rattle.js_grammar.specs.Productions.{has_flag, async_flag, computed_flag, generator_flag, static_flag}
use Rattle.js_grammar.specs.Trees.{NodeKind, method_definition, property_definition, accessor_property, identifier_name, string_literal, private_identifier, Op, method_op, constructor_op, of, Label, Span, Slots, end, hole, tree}
use Rattle.js_tree.specs.declared.flags.NodeFlags.{NodeFlags}
use Rattle.js_tree.specs.declared.id.NodeId.{NodeId}
use Rattle.js_tree.specs.Bits.{flags_of}
use Rattle.js_tree.specs.Holding.{StandsAll, no_slots, next_child, next_hole}
use Rattle.js_tree.specs.Labels.{kind_of, number_of, op_of}
use Rattle.js_tree.specs.Nodes.{Node, label, node_at, empty_program}
use Rattle.js_tree.proofs.BitLemmas.{flags_of-number_of}
use Rattle.js_core.specs.laws_shared.Told.{unrelated_at}
use Rattle.js_core.proofs.parse_targets.CoveredNodes.{label_at}
use Rattle.js_parser.specs.Broken.{told_of_method, told_of_constructor, broken_or, name_rule, fault_at, name_fault, told_fault, child_labels, name_rule_at, name_fault_at}
use Rattle.js_parser.specs.MemberNodes.{with_node, child_at, key_at, function_fault, op_fault, fault_by_kind, constructor_fault_at}
use Rattle.js_grammar.specs.EarlyRules.{is_member, is_named, is_private_constructor, is_special}

-- ---- flags

third : (n : ℕ) → n / 4 ≡ n / 2 / 2
third n = omega arith

sixth : (n : ℕ) → n / 32 ≡ n / 2 / 2 / 2 / 2 / 2
sixth n = omega arith

seventh : (n : ℕ) → n / 64 ≡ n / 2 / 2 / 2 / 2 / 2 / 2
seventh n = omega arith

ninth : (n : ℕ) → n / 256 ≡ n / 2 / 2 / 2 / 2 / 2 / 2 / 2 / 2
ninth n = omega arith

pub computed_is : (f : NodeFlags) → has_flag computed_flag (number_of f) ≡ f.computed
unfolding flags_of
computed_is f = ap (λ (n : ℕ). nat_eq (n % 2) 1) (third (number_of f)) ∙ ap (λ (g : NodeFlags). g.computed) (flags_of-number_of f)

pub async_is : (f : NodeFlags) → has_flag async_flag (number_of f) ≡ f.is_async
unfolding flags_of
async_is f = ap (λ (n : ℕ). nat_eq (n % 2) 1) (sixth (number_of f)) ∙ ap (λ (g : NodeFlags). g.is_async) (flags_of-number_of f)

pub generator_is : (f : NodeFlags) → has_flag generator_flag (number_of f) ≡ f.generator
unfolding flags_of
generator_is f = ap (λ (n : ℕ). nat_eq (n % 2) 1) (seventh (number_of f)) ∙ ap (λ (g : NodeFlags). g.generator) (flags_of-number_of f)

pub static_is : (f : NodeFlags) → has_flag static_flag (number_of f) ≡ f.is_static
unfolding flags_of
static_is f = ap (λ (n : ℕ). nat_eq (n % 2) 1) (ninth (number_of f)) ∙ ap (λ (g : NodeFlags). g.is_static) (flags_of-number_of f)

-- ---- the rule, by what is asked one after another

-- Of a member: whether its key is `#constructor`; whether it is computed; whether it is static and named `prototype`; whether it is named `constructor`, and what is told then.
abbrev pub decided : Bool → Bool → Bool → Bool → Option DiagnosticKind → Option DiagnosticKind
decided private computed prototype constructor fault = cond private (Some PrivateNameConstructor) (cond computed None (cond prototype (Some StaticPrototype) (cond constructor fault None)))

-- a computed name is none
computed_method : (s i j p : Bool) (k : DiagnosticKind) → broken_or (not (s && (false && i))) StaticPrototype (broken_or (true && not (not s && ((false && j) && p))) k None) ≡ None
computed_method true i j p k = refl
computed_method false i j p k = refl

computed_field : (s i j : Bool) (k : DiagnosticKind) → broken_or (not (s && (false && i))) StaticPrototype (broken_or (not (false && j) && true) k None) ≡ None
computed_field true i j k = refl
computed_field false i j k = refl

not_or : (b : Bool) (k : DiagnosticKind) (others : Option DiagnosticKind) → broken_or (not b) k others ≡ cond b (Some k) others
not_or true k others = refl
not_or false k others = refl

plain_method : (s j p : Bool) (k : DiagnosticKind) → broken_or (true && not (not s && ((true && j) && p))) k None ≡ cond j (cond s None (cond p (Some k) None)) None
plain_method true true p k = refl
plain_method true false p k = refl
plain_method false true true k = refl
plain_method false true false k = refl
plain_method false false p k = refl

plain_field : (j : Bool) (k : DiagnosticKind) → broken_or (not (true && j) && true) k None ≡ cond j (Some k) None
plain_field true k = refl
plain_field false k = refl

of_method : (a c s i j p : Bool) (k : DiagnosticKind) → broken_or (not a) PrivateNameConstructor (broken_or (not (s && (not c && i))) StaticPrototype (broken_or (true && not (not s && ((not c && j) && p))) k None)) ≡ decided a c (s && i) j (cond s None (cond p (Some k) None))
of_method true c s i j p k = refl
of_method false true s i j p k = computed_method s i j p k
of_method false false s i j p k = not_or (s && i) StaticPrototype _ ∙ ap (λ (v : Option DiagnosticKind). cond (s && i) (Some StaticPrototype) v) (plain_method s j p k)

of_field : (a c s i j : Bool) (k : DiagnosticKind) → broken_or (not a) PrivateNameConstructor (broken_or (not (s && (not c && i))) StaticPrototype (broken_or (not (not c && j) && true) k None)) ≡ decided a c (s && i) j (Some k)
of_field true c s i j k = refl
of_field false true s i j k = computed_field s i j k
of_field false false s i j k = not_or (s && i) StaticPrototype _ ∙ ap (λ (v : Option DiagnosticKind). cond (s && i) (Some StaticPrototype) v) (plain_field j k)

-- what is told of a member that is named `constructor`
abbrev constructor_fault : NodeKind → Op → ℕ → Slots → Option DiagnosticKind
constructor_fault k o n cs = fault_by_kind k (cond (has_flag static_flag n) None (cond (is_special o cs) (Some (told_of_method o cs)) None))

abbrev labelled : NodeKind → Op → ℕ → Span → Label
labelled k o n s = record { kind = k; op = o; flags = n; span = s }

abbrev by_key : List ℕ → NodeKind → Op → ℕ → Label → Slots → Option DiagnosticKind
by_key text k o n key cs = decided (is_private_constructor text key.kind key) (has_flag computed_flag n) (has_flag static_flag n && is_named text key.kind (codes "prototype") key) (is_named text key.kind (codes "constructor") key) (constructor_fault k o n cs)

rule_by_key : (text : List ℕ) (k : NodeKind) (o : Op) (n : ℕ) (s : Span) (key : Label) (ks us : Slots) → name_rule text (labelled k o n s) (tree key ks us) ≡ cond (is_member k) (by_key text k o n key (tree key ks us)) None
rule_by_key text method_definition o n s key ks us = of_method (is_private_constructor text key.kind key) (has_flag computed_flag n) (has_flag static_flag n) (is_named text key.kind (codes "prototype") key) (is_named text key.kind (codes "constructor") key) (is_special o (tree key ks us)) (told_of_method o (tree key ks us))
rule_by_key text property_definition o n s key ks us = of_field (is_private_constructor text key.kind key) (has_flag computed_flag n) (has_flag static_flag n) (is_named text key.kind (codes "prototype") key) (is_named text key.kind (codes "constructor") key) FieldConstructor
rule_by_key text accessor_property o n s key ks us = of_field (is_private_constructor text key.kind key) (has_flag computed_flag n) (has_flag static_flag n) (is_named text key.kind (codes "prototype") key) (is_named text key.kind (codes "constructor") key) ConstructorAccessor
rule_by_key text k o n s key ks us = refl

-- no other node breaks one
pub no_member : (text : List ℕ) (l : Label) (cs : Slots) → is_member l.kind ≡ false → name_fault text l cs ≡ None
no_member text l end e = refl
no_member text l (hole us) e = refl
no_member text l (tree k ks us) e = ap (λ (r : Option DiagnosticKind). fault_at r (record { start = k.span.from; end = k.span.to })) (rule_by_key text l.kind l.op l.flags l.span k ks us ∙ ap (λ (b : Bool). cond b (by_key text l.kind l.op l.flags k (tree k ks us)) None) e)

-- ---- keys that are no names

-- nodes that may be a name of a member that isn't computed
abbrev pub is_name_kind : NodeKind → Bool
is_name_kind identifier_name = true
is_name_kind string_literal = true
is_name_kind private_identifier = true
is_name_kind _ = false

no_name : (text name : List ℕ) (k : NodeKind) (l : Label) → is_name_kind k ≡ false → (is_private_constructor text k l ≡ false) × (is_named text k name l ≡ false)
no_name text name identifier_name l e = absurd (false≢true (sym e))
no_name text name string_literal l e = absurd (false≢true (sym e))
no_name text name private_identifier l e = absurd (false≢true (sym e))
no_name text name k l e = (refl, refl)

none_named : (m c s : Bool) (fault : Option DiagnosticKind) → cond m (decided false c (s && false) false fault) None ≡ None
none_named true true s fault = refl
none_named true false true fault = refl
none_named true false false fault = refl
none_named false c s fault = refl

pub unnamed : (text : List ℕ) (l k : Label) (ks us : Slots) → is_name_kind k.kind ≡ false → name_rule text l (tree k ks us) ≡ None
unnamed text l k ks us e =
    let a = no_name text (codes "prototype") k.kind k e in
    let b = no_name text (codes "constructor") k.kind k e in
    rule_by_key text l.kind l.op l.flags l.span k ks us
    ∙ ((λ i. cond (is_member l.kind) (decided (a.0 i) (has_flag computed_flag l.flags) (has_flag static_flag l.flags && a.1 i) (b.1 i) (constructor_fault l.kind l.op l.flags (tree k ks us))) None)
    ∙ none_named (is_member l.kind) (has_flag computed_flag l.flags) (has_flag static_flag l.flags) (constructor_fault l.kind l.op l.flags (tree k ks us)))

-- ---- none is broken exactly where all of them hold

abbrev pub names_right : List ℕ → Rule
names_right text l cs = no_private_constructor text l cs && (no_static_prototype text l cs && (no_field_constructor text l cs && plain_constructor text l cs))

all_hold : (a b c : Bool) (j k m : DiagnosticKind) (s : PlacedSpan) → told_fault (fault_at (broken_or a j (broken_or b k (broken_or c m None))) s) ≡ [] → (a && (b && c)) ≡ true
all_hold true true true j k m s e = refl
all_hold true true false j k m s e = absurd (let z = e in cc)
all_hold true false c j k m s e = absurd (let z = e in cc)
all_hold false b c j k m s e = absurd (let z = e in cc)

none_broken : (a b c : Bool) (j k m : DiagnosticKind) (s : PlacedSpan) → (a && (b && c)) ≡ true → told_fault (fault_at (broken_or a j (broken_or b k (broken_or c m None))) s) ≡ []
none_broken true true true j k m s e = refl
none_broken true true false j k m s e = absurd (false≢true e)
none_broken true false c j k m s e = absurd (false≢true e)
none_broken false b c j k m s e = absurd (false≢true e)

-- without a key no rule is broken
no_key : (m f d s p : Bool) → (not (m && false) && (not (m && (s && false)) && (not (f && false) && not (d && (not s && (false && p)))))) ≡ true
no_key true true true true p = refl
no_key true true true false p = refl
no_key true true false true p = refl
no_key true true false false p = refl
no_key true false true true p = refl
no_key true false true false p = refl
no_key true false false true p = refl
no_key true false false false p = refl
no_key false true true true p = refl
no_key false true true false p = refl
no_key false true false true p = refl
no_key false true false false p = refl
no_key false false true true p = refl
no_key false false true false p = refl
no_key false false false true p = refl
no_key false false false false p = refl

keyless : (text : List ℕ) (k : NodeKind) (o : Op) (n : ℕ) (s : Span) → (names_right text (labelled k o n s) end ≡ true) × ((us : Slots) → names_right text (labelled k o n s) (hole us) ≡ true)
keyless text method_definition o n s = (no_key true false true (has_flag static_flag n) (is_special o end), λ us. no_key true false true (has_flag static_flag n) (is_special o (hole us)))
keyless text property_definition o n s = (no_key true true false (has_flag static_flag n) true, λ us. no_key true true false (has_flag static_flag n) true)
keyless text accessor_property o n s = (no_key true true false (has_flag static_flag n) true, λ us. no_key true true false (has_flag static_flag n) true)
keyless text k o n s = (refl, λ us. refl)

pub right_if_none : (text : List ℕ) (l : Label) (cs : Slots) → told_fault (name_fault text l cs) ≡ [] → names_right text l cs ≡ true
right_if_none text l end e = (keyless text l.kind l.op l.flags l.span).0
right_if_none text l (hole us) e = (keyless text l.kind l.op l.flags l.span).1 us
right_if_none text l (tree k ks us) e = all_hold (no_private_constructor text l (tree k ks us)) (no_static_prototype text l (tree k ks us)) (no_field_constructor text l (tree k ks us) && plain_constructor text l (tree k ks us)) PrivateNameConstructor StaticPrototype (told_of_constructor l.kind l.op (tree k ks us)) (record { start = k.span.from; end = k.span.to }) e

pub none_if_right : (text : List ℕ) (l : Label) (cs : Slots) → names_right text l cs ≡ true → told_fault (name_fault text l cs) ≡ []
none_if_right text l end e = refl
none_if_right text l (hole us) e = refl
none_if_right text l (tree k ks us) e = none_broken (no_private_constructor text l (tree k ks us)) (no_static_prototype text l (tree k ks us)) (no_field_constructor text l (tree k ks us) && plain_constructor text l (tree k ks us)) PrivateNameConstructor StaticPrototype (told_of_constructor l.kind l.op (tree k ks us)) (record { start = k.span.from; end = k.span.to }) e

-- ---- the kinds that are told

abbrev ForRule : (DiagnosticKind → Type 0) → Option DiagnosticKind → Type 0
ForRule Q None = Unit {0}
ForRule Q (Some k) = Q k

module _ (Q : DiagnosticKind → Type 0) (private : Q PrivateNameConstructor) (prototype : Q StaticPrototype) (field : Q FieldConstructor) (accessor : Q ConstructorAccessor) (getter : Q ConstructorGetterSetter) (async : Q ConstructorAsync) (generator : Q ConstructorGenerator) where
  either : (b : Bool) → Q (cond b ConstructorAsync ConstructorGenerator)
  either true = async
  either false = generator

  methods : (o : Op) (cs : Slots) → Q (told_of_method o cs)
  methods (of k) cs = getter
  methods o (tree k ks (tree f fs us)) = either (has_flag async_flag f.flags)
  methods o cs = generator

  constructors : (k : NodeKind) (o : Op) (cs : Slots) → Q (told_of_constructor k o cs)
  constructors method_definition o cs = methods o cs
  constructors accessor_property o cs = accessor
  constructors k o cs = field

  of_rule : (text : List ℕ) (l : Label) (cs : Slots) → ForRule Q (name_rule text l cs)
  of_rule text l cs = go (no_private_constructor text l cs) (no_static_prototype text l cs) (no_field_constructor text l cs && plain_constructor text l cs)
    where
      go : (a b c : Bool) → ForRule Q (broken_or a PrivateNameConstructor (broken_or b StaticPrototype (broken_or c (told_of_constructor l.kind l.op cs) None)))
      go true true true = tt
      go true true false = constructors l.kind l.op cs
      go true false c = prototype
      go false b c = private

-- what is so of all of them at a place is so of what is told there
told_one : (P : Diagnostic → Type 0) (s : PlacedSpan) (r : Option DiagnosticKind) → ForRule (λ m. P (unrelated_at m s)) r → All P (told_fault (fault_at r s))
told_one P s None h = All-nil P
told_one P s (Some m) h = All-cons P (unrelated_at m s) [] h (All-nil P)

pub each_told_at : (P : Diagnostic → Type 0) (s : PlacedSpan) → P (unrelated_at PrivateNameConstructor s) → P (unrelated_at StaticPrototype s) → P (unrelated_at FieldConstructor s) → P (unrelated_at ConstructorAccessor s) → P (unrelated_at ConstructorGetterSetter s) → P (unrelated_at ConstructorAsync s) → P (unrelated_at ConstructorGenerator s) → (text : List ℕ) (l : Label) (cs : Slots) → All P (told_fault (fault_at (name_rule text l cs) s))
each_told_at P s a b c d e f g text l cs = told_one P s (name_rule text l cs) (of_rule (λ m. P (unrelated_at m s)) a b c d e f g text l cs)

pub each_told : (P : Diagnostic → Type 0) → ((s : PlacedSpan) → P (unrelated_at PrivateNameConstructor s)) → ((s : PlacedSpan) → P (unrelated_at StaticPrototype s)) → ((s : PlacedSpan) → P (unrelated_at FieldConstructor s)) → ((s : PlacedSpan) → P (unrelated_at ConstructorAccessor s)) → ((s : PlacedSpan) → P (unrelated_at ConstructorGetterSetter s)) → ((s : PlacedSpan) → P (unrelated_at ConstructorAsync s)) → ((s : PlacedSpan) → P (unrelated_at ConstructorGenerator s)) → (text : List ℕ) (l : Label) (cs : Slots) → All P (told_fault (name_fault text l cs))
each_told P a b c d e f g text l end = All-nil P
each_told P a b c d e f g text l (hole us) = All-nil P
each_told P a b c d e f g text l (tree k ks us) =
    let s : PlacedSpan = record { start = k.span.from; end = k.span.to } in
    each_told_at P s (a s) (b s) (c s) (d s) (e s) (f s) (g s) text l (tree k ks us)

-- ---- of nodes by number

-- the labels of children are those that a tree has there
same_op : (text : List ℕ) (k : NodeKind) (o : Op) (n : ℕ) (s : Span) (key f : Label) (ks fs us ks' fs' us' : Slots) → name_rule text (labelled k o n s) (tree key ks (tree f fs us)) ≡ name_rule text (labelled k o n s) (tree key ks' (tree f fs' us'))
same_op text method_definition (of x) n s key f ks fs us ks' fs' us' = refl
same_op text k o n s key f ks fs us ks' fs' us' = refl

second_end : (text : List ℕ) (k : NodeKind) (o : Op) (n : ℕ) (s : Span) (key : Label) (ks ks' : Slots) → name_rule text (labelled k o n s) (tree key ks end) ≡ name_rule text (labelled k o n s) (tree key ks' end)
second_end text method_definition (of x) n s key ks ks' = refl
second_end text k o n s key ks ks' = refl

second_hole : (text : List ℕ) (k : NodeKind) (o : Op) (n : ℕ) (s : Span) (key : Label) (ks ks' us us' : Slots) → name_rule text (labelled k o n s) (tree key ks (hole us)) ≡ name_rule text (labelled k o n s) (tree key ks' (hole us'))
second_hole text method_definition (of x) n s key ks ks' us us' = refl
second_hole text k o n s key ks ks' us us' = refl

-- a rule looks at them alone
first_kept : {ns : List Node} {b : ℕ} {ids : List (Option NodeId)} {us : Slots} {rs : List ℕ} (text : List ℕ) (l key : Label) (ks : Slots) → StandsAll ns b ids us rs → name_rule text l (tree key ks us) ≡ name_rule text l (tree key end (child_labels ns ids))
first_kept text l key ks no_slots = second_end text l.kind l.op l.flags l.span key ks end
first_kept {ns} text l key ks (next_hole {ids = ids} {us = us} a) = second_hole text l.kind l.op l.flags l.span key ks end us (child_labels ns ids)
first_kept {ns} text l key ks (next_child {id = id} {ids = ids} {l = f} {cs = fs} {us = us} b h a) =
    same_op text l.kind l.op l.flags l.span key f ks fs us end end (child_labels ns ids)
    ∙ ap (λ (g : Label). name_rule text l (tree key end (tree g end (child_labels ns ids)))) (label_at h)

pub fault_kept : {ns : List Node} {b : ℕ} {ids : List (Option NodeId)} {cs : Slots} {rs : List ℕ} (text : List ℕ) (l : Label) → StandsAll ns b ids cs rs → name_fault text l cs ≡ name_fault text l (child_labels ns ids)
fault_kept text l no_slots = refl
fault_kept text l (next_hole a) = refl
fault_kept {ns} text l (next_child {id = id} {ids = ids} {l = key} {cs = ks} {us = us} b h a) =
    ap (λ (r : Option DiagnosticKind). fault_at r (record { start = key.span.from; end = key.span.to })) (first_kept text l key ks a)
    ∙ ap (λ (g : Label). name_fault text l (tree g end (child_labels ns ids))) (label_at h)

-- a number without a node stands for none that a rule asks of
pub past_all : (ns : List Node) (i : ℕ) → length ns ≤ i → get_or ns i empty_program ≡ empty_program
past_all [] i h = refl
past_all (n ∷ ns) zero h = absurd (omega arith)
past_all (n ∷ ns) (suc i) h = past_all ns i (omega arith)

first_out : (text : List ℕ) (l : Label) (ns : List Node) (k : NodeId) (us : Slots) → length ns ≤ k.0 → name_fault text l (tree (label (node_at ns k)) end us) ≡ None
first_out text l ns k us h =
    ap (λ (m : Node). name_fault text l (tree (label m) end us)) (past_all ns k.0 h)
    ∙ ap (λ (r : Option DiagnosticKind). fault_at r (record { start = 0; end = 0 })) (unnamed text l (label empty_program) end us refl)

-- a key, and the slots that it stands in
pub record Keyed (ns : List Node) (id key : NodeId) : Type 0 where
  pub member : is_member (kind_of (node_at ns id).kind) ≡ true
  pub contained : key.0 < length ns
  pub others : List (Option NodeId)
  pub children : (node_at ns id).children ≡ Some key ∷ others

pub with_node_some : (ns : List Node) (slot : Option (Option NodeId)) (k : NodeId) → with_node ns slot ≡ Some k → (slot ≡ Some (Some k)) × (k.0 < length ns)
with_node_some ns None k e = absurd (let z = e in cc)
with_node_some ns (Some None) k e = absurd (let z = e in cc)
with_node_some ns (Some (Some j)) k e = go (nat_lt j.0 (length ns)) refl e
  where
    go : (b : Bool) → nat_lt j.0 (length ns) ≡ b → cond b (Some j) None ≡ Some k → (Some (Some j) ≡ Some (Some k)) × (k.0 < length ns)
    go true q f = let i : j ≡ k = cc in (ap (λ (x : NodeId). Some (Some x)) i, subst (λ (x : NodeId). x.0 < length ns) i (ltb-true j.0 (length ns) q))
    go false q f = absurd (let z = f in cc)

first_slot : (ids : List (Option NodeId)) (k : NodeId) → slice_get ids 0 ≡ Some (Some k) → (others : List (Option NodeId)) × (ids ≡ Some k ∷ others)
first_slot [] k e = absurd (let z = e in cc)
first_slot (x ∷ ids) k e = (ids, let i : x ≡ Some k = cc in ap (λ (y : Option NodeId). y ∷ ids) i)

pub keyed : (ns : List Node) (id key : NodeId) → key_at ns id ≡ Some key → Keyed ns id key
keyed ns id key e = go (is_member (kind_of (node_at ns id).kind)) refl e
  where
    go : (b : Bool) → is_member (kind_of (node_at ns id).kind) ≡ b → cond b (child_at ns id 0) None ≡ Some key → Keyed ns id key
    go true q f =
        let w = with_node_some ns (slice_get (node_at ns id).children 0) key f in
        let s = first_slot (node_at ns id).children key w.0 in
        record { member = q; contained = w.1; others = s.0; children = s.1 }
    go false q f = absurd (let z = f in cc)

-- without one no rule is broken
no_first : (text : List ℕ) (l : Label) (ns : List Node) (ids : List (Option NodeId)) → with_node ns (slice_get ids 0) ≡ None → name_fault text l (child_labels ns ids) ≡ None
no_first text l ns [] e = refl
no_first text l ns (None ∷ ids) e = refl
no_first text l ns (Some k ∷ ids) e = go (nat_lt k.0 (length ns)) refl e
  where
    go : (b : Bool) → nat_lt k.0 (length ns) ≡ b → cond b (Some k) None ≡ None → name_fault text l (tree (label (node_at ns k)) end (child_labels ns ids)) ≡ None
    go true q f = absurd (let z = f in cc)
    go false q f = first_out text l ns k (child_labels ns ids) (ltb-false k.0 (length ns) q)

pub unkeyed : (text : List ℕ) (ns : List Node) (id : NodeId) → key_at ns id ≡ None → name_fault_at text ns id ≡ None
unkeyed text ns id e = go (is_member (kind_of (node_at ns id).kind)) refl e
  where
    go : (b : Bool) → is_member (kind_of (node_at ns id).kind) ≡ b → cond b (child_at ns id 0) None ≡ None → name_fault_at text ns id ≡ None
    go true q f = no_first text (label (node_at ns id)) ns (node_at ns id).children f
    go false q f = no_member text (label (node_at ns id)) (child_labels ns (node_at ns id).children) q

-- ---- what is told of a member that is named `constructor`

by_bits : (a g : Bool) → cond a (Some ConstructorAsync) (cond g (Some ConstructorGenerator) None) ≡ cond (g || a) (Some (cond a ConstructorAsync ConstructorGenerator)) None
by_bits true true = refl
by_bits true false = refl
by_bits false true = refl
by_bits false false = refl

-- of the function behind a key
abbrev slots_fault : Slots → Option DiagnosticKind
slots_fault (tree f fs us) = cond (has_flag async_flag f.flags) (Some ConstructorAsync) (cond (has_flag generator_flag f.flags) (Some ConstructorGenerator) None)
slots_fault _ = None

special_fault : (o : Op) (key : Label) (ks us : Slots) → op_fault o (slots_fault us) ≡ cond (is_special o (tree key ks us)) (Some (told_of_method o (tree key ks us))) None
special_fault (of k) key ks us = refl
special_fault method_op key ks (tree f fs us) = by_bits (has_flag async_flag f.flags) (has_flag generator_flag f.flags)
special_fault constructor_op key ks (tree f fs us) = by_bits (has_flag async_flag f.flags) (has_flag generator_flag f.flags)
special_fault o key ks us = refl

-- by number
second_fault : (ns : List Node) (key : NodeId) (ids : List (Option NodeId)) → function_fault ns (with_node ns (slice_get (Some key ∷ ids) 1)) ≡ slots_fault (child_labels ns ids)
second_fault ns key [] = refl
second_fault ns key (None ∷ ids) = refl
second_fault ns key (Some f ∷ ids) = go (nat_lt f.0 (length ns)) refl
  where
    flags_are : cond (node_at ns f).flags.is_async (Some ConstructorAsync) (cond (node_at ns f).flags.generator (Some ConstructorGenerator) None) ≡ slots_fault (tree (label (node_at ns f)) end (child_labels ns ids))
    flags_are = λ i. cond (sym (async_is (node_at ns f).flags) i) (Some ConstructorAsync) (cond (sym (generator_is (node_at ns f).flags) i) (Some ConstructorGenerator) None)

    go : (b : Bool) → nat_lt f.0 (length ns) ≡ b → function_fault ns (cond b (Some f) None) ≡ slots_fault (tree (label (node_at ns f)) end (child_labels ns ids))
    go true q = flags_are
    go false q = sym (ap (λ (m : Node). slots_fault (tree (label m) end (child_labels ns ids))) (past_all ns f.0 (ltb-false f.0 (length ns) q)))

constructor_is : (ns : List Node) (id key : NodeId) (others : List (Option NodeId)) (ks : Slots) (l : Label) → (node_at ns id).children ≡ Some key ∷ others → constructor_fault_at ns id ≡ constructor_fault (label (node_at ns id)).kind (label (node_at ns id)).op (label (node_at ns id)).flags (tree l ks (child_labels ns others))
constructor_is ns id key others ks l e =
    let n = node_at ns id in
    ap (λ (v : Option DiagnosticKind). fault_by_kind (kind_of n.kind) v)
    ((λ i. cond (sym (static_is n.flags) i) None (op_fault (op_of n.op) (function_fault ns (with_node ns (slice_get (e i) 1)))))
    ∙ (λ i. cond (has_flag static_flag (number_of n.flags)) None (op_fault (op_of n.op) (second_fault ns key others i)))
    ∙ (λ i. cond (has_flag static_flag (number_of n.flags)) None (special_fault (op_of n.op) l ks (child_labels ns others) i)))

-- The rule that a member with a key breaks, by what is asked of it.
pub rule_at_key : (text : List ℕ) (ns : List Node) (id key : NodeId) → Keyed ns id key → name_rule_at text ns id ≡ decided (is_private_constructor text (kind_of (node_at ns key).kind) (label (node_at ns key))) (node_at ns id).flags.computed ((node_at ns id).flags.is_static && is_named text (kind_of (node_at ns key).kind) (codes "prototype") (label (node_at ns key))) (is_named text (kind_of (node_at ns key).kind) (codes "constructor") (label (node_at ns key))) (constructor_fault_at ns id)
rule_at_key text ns id key h =
    let n = node_at ns id in
    let l = label n in
    let k = label (node_at ns key) in
    let us = child_labels ns h.others in
    let r : name_rule text l (tree k end us) ≡ by_key text l.kind l.op l.flags k (tree k end us) = rule_by_key text l.kind l.op l.flags l.span k end us ∙ ap (λ (b : Bool). cond b (by_key text l.kind l.op l.flags k (tree k end us)) None) h.member in
    ap (λ (ids : List (Option NodeId)). name_rule text l (child_labels ns ids)) h.children
    ∙ (r ∙ (λ i. decided (is_private_constructor text k.kind k) (computed_is n.flags i) (static_is n.flags i && is_named text k.kind (codes "prototype") k) (is_named text k.kind (codes "constructor") k) (sym (constructor_is ns id key h.others end k h.children) i)))

-- It is told at the key.
pub fault_at_key : (text : List ℕ) (ns : List Node) (id key : NodeId) → Keyed ns id key → name_fault_at text ns id ≡ fault_at (name_rule_at text ns id) (node_at ns key).span
fault_at_key text ns id key h = subst (λ (ids : List (Option NodeId)). name_fault text (label (node_at ns id)) (child_labels ns ids) ≡ fault_at (name_rule text (label (node_at ns id)) (child_labels ns ids)) (node_at ns key).span) (sym h.children) refl

-- the ways through
pub private_told : (a c s j : Bool) (f : Option DiagnosticKind) → a ≡ true → decided a c s j f ≡ Some PrivateNameConstructor
private_told true c s j f e = refl
private_told false c s j f e = absurd (false≢true e)

pub computed_told : (a c s j : Bool) (f : Option DiagnosticKind) → a ≡ false → c ≡ true → decided a c s j f ≡ None
computed_told a c s j f e g = λ i. decided (e i) (g i) s j f

pub prototype_told : (a c s j : Bool) (f : Option DiagnosticKind) → a ≡ false → c ≡ false → s ≡ true → decided a c s j f ≡ Some StaticPrototype
prototype_told a c s j f e g h = λ i. decided (e i) (g i) (h i) j f

pub constructor_told : (a c s j : Bool) (f : Option DiagnosticKind) → a ≡ false → c ≡ false → s ≡ false → decided a c s j f ≡ cond j f None
constructor_told a c s j f e g h = λ i. decided (e i) (g i) (h i) j f

pub fault_none : (j : Bool) (f : Option DiagnosticKind) → f ≡ None → cond j f None ≡ None
fault_none true f e = e
fault_none false f e = refl
