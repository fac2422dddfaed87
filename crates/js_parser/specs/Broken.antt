-- What is told of the nodes that break an early rule, in the order of the tree.
use Rattle.std.specs.Prelude.{ℕ, Bool, cond, ◌&&◌, ◌||◌, List, [], ◌∷◌, ◌++◌, Option, Some, None, is_some, chars, nat_lt, suc}
use Rattle.js_base.specs.part_text.Decoding.{cooked}
use Rattle.js_base.specs.declared.diagnostic.Diagnostic.{Diagnostic}
use Rattle.js_base.specs.declared.diagnostic.DiagnosticKind.{DiagnosticKind}
use Rattle.js_base.specs.declared.diagnostic.DiagnosticKind.TheVariants.{RegExpFlagUAndV, TemplateLiteral, PrivateNameConstructor, StaticPrototype, FieldConstructor, ConstructorAccessor, ConstructorGetterSetter, ConstructorAsync, ConstructorGenerator}
use Rattle.js_base.specs.declared.span.Span.{Span}
use Rattle.js_grammar.specs.EarlyRules.{no_private_constructor, no_field_constructor, no_static_prototype, plain_constructor}
use Rattle.js_grammar.specs.NodeNames.{characters_at}
use Rattle.js_grammar.specs.Productions.{has_flag, async_flag}
use Rattle.js_grammar.specs.Trees.{NodeKind, reg_exp_literal, tagged_template_expression, template_element, template_literal, method_definition, accessor_property, Op, of, Label, Slots, end, hole, tree}
use Rattle.js_tree.specs.declared.id.NodeId.{NodeId}
use Rattle.js_tree.specs.Covering.{placed}
use Rattle.js_tree.specs.Labels.{kind_of}
use Rattle.js_tree.specs.Nodes.{Node, label, node_at}
use Rattle.js_tree.specs.Sources.{text_of}
use Rattle.js_parser.specs.AttributeKeys.{told_of_keys, keys_in, told_keys_at, has_keys}
use Rattle.js_parser.specs.FlagScans.{has_both}
use Rattle.js_core.specs.laws_shared.Told.{unrelated_at}
use Rattle.js_parser.specs.declared.early.Pending.{Pending}
use Rattle.js_parser.specs.declared.early.Position.{Position}
use Rattle.js_parser.specs.declared.early.Position.TheVariants.{Anywhere, Tag, Tagged, InTemplate}

-- behind a first node, and within a node of a kind
abbrev pub past : Position → Position
past Tag = Tagged
past p = p

abbrev pub within : Position → NodeKind → Position
within p tagged_template_expression = Tag
within Tagged template_literal = Anywhere
within p template_literal = InTemplate
within p k = Anywhere

-- The rule that a node of these characters breaks: a regular expression with the flags `u` and `v`, both (22.2.3.4), and a part without a cooked text of a template that isn't tagged (13.2.8.1, 12.9.6.2).
abbrev pub broken_rule : Position → NodeKind → List ℕ → Option DiagnosticKind
broken_rule p reg_exp_literal w = cond (has_both w) (Some RegExpFlagUAndV) None
broken_rule InTemplate template_element w = cond (is_some (cooked w)) None (Some TemplateLiteral)
broken_rule p k w = None

abbrev pub told_rule : Option DiagnosticKind → Span → List Diagnostic
told_rule None s = []
told_rule (Some k) s = unrelated_at k s ∷ []

-- What is told of a method that is named as a constructor but can't be one: of a getter or a setter, else by its function.
abbrev pub told_of_method : Op → Slots → DiagnosticKind
told_of_method (of k) cs = ConstructorGetterSetter
told_of_method o (tree k ks (tree f fs us)) = cond (has_flag async_flag f.flags) ConstructorAsync ConstructorGenerator
told_of_method o cs = ConstructorGenerator

abbrev pub told_of_constructor : NodeKind → Op → Slots → DiagnosticKind
told_of_constructor method_definition o cs = told_of_method o cs
told_of_constructor accessor_property o cs = ConstructorAccessor
told_of_constructor k o cs = FieldConstructor

-- a kind where a rule doesn't hold, else what the others tell
abbrev pub broken_or : Bool → DiagnosticKind → Option DiagnosticKind → Option DiagnosticKind
broken_or holds k others = cond holds others (Some k)

-- The rule on its name that a member of a class breaks (15.7.1), the first of them.
abbrev pub name_rule : List ℕ → Label → Slots → Option DiagnosticKind
name_rule text l cs =
    broken_or (no_private_constructor text l cs) PrivateNameConstructor
    (broken_or (no_static_prototype text l cs) StaticPrototype
    (broken_or (no_field_constructor text l cs && plain_constructor text l cs) (told_of_constructor l.kind l.op cs) None))

-- it is told at the member's key, its first child
abbrev pub fault_at : Option DiagnosticKind → Span → Option Diagnostic
fault_at None s = None
fault_at (Some k) s = Some (unrelated_at k s)

abbrev pub name_fault : List ℕ → Label → Slots → Option Diagnostic
name_fault text l (tree k ks us) = fault_at (name_rule text l (tree k ks us)) (placed k.span)
name_fault text l cs = None

abbrev pub told_fault : Option Diagnostic → List Diagnostic
told_fault None = []
told_fault (Some d) = d ∷ []

-- of a node alone
abbrev pub told_here : List ℕ → Position → Label → Slots → List Diagnostic
told_here text p l cs = told_rule (broken_rule p l.kind (characters_at text l)) (placed l.span) ++ (told_fault (name_fault text l cs) ++ told_of_keys text l.kind (keys_in cs))

abbrev pub told_in : List ℕ → Position → Slots → List Diagnostic
told_in text p end = []
told_in text p (hole us) = told_in text p us
told_in text p (tree l cs us) = told_here text p l cs ++ (told_in text (within p l.kind) cs ++ told_in text (past p) us)

-- Of nodes by number.

-- the slots of a node, with the labels of its children alone
abbrev pub child_labels : List Node → List (Option NodeId) → Slots
child_labels ns [] = end
child_labels ns (None ∷ ids) = hole (child_labels ns ids)
child_labels ns (Some id ∷ ids) = tree (label (node_at ns id)) end (child_labels ns ids)

abbrev pub name_rule_at : List ℕ → List Node → NodeId → Option DiagnosticKind
name_rule_at text ns id = name_rule text (label (node_at ns id)) (child_labels ns (node_at ns id).children)

abbrev pub name_fault_at : List ℕ → List Node → NodeId → Option Diagnostic
name_fault_at text ns id = name_fault text (label (node_at ns id)) (child_labels ns (node_at ns id).children)

abbrev pub rule_at : List ℕ → List Node → NodeId → Position → Option DiagnosticKind
rule_at text ns id p = broken_rule p (kind_of (node_at ns id).kind) (chars (text_of (node_at ns id) text))

abbrev pub told_of : List ℕ → List Node → Pending → List Diagnostic
told_of text ns n = told_rule (rule_at text ns n.id n.position) (node_at ns n.id).span ++ (told_fault (name_fault_at text ns n.id) ++ told_keys_at text ns n.id)

-- whether the node breaks a rule where most is asked, or has keys that may stand again
abbrev pub breaks : List ℕ → List Node → NodeId → Bool
breaks text ns id = is_some (rule_at text ns id InTemplate) || (is_some (name_fault_at text ns id) || has_keys ns id)

-- the children whose number is below a bound, the last one first
abbrev pub pending : Position → ℕ → List (Option NodeId) → List Pending
pending p b [] = []
pending p b (None ∷ ids) = pending p b ids
pending p b (Some id ∷ ids) = pending (past p) b ids ++ cond (nat_lt id.0 b) (record { id = id; position = p } ∷ []) []

abbrev pub pending_within : List Node → Pending → List Pending
pending_within ns n = pending (within n.position (kind_of (node_at ns n.id).kind)) n.id.0 (node_at ns n.id).children

-- the same, all of them at one position
abbrev pub pending_alike : Position → ℕ → List (Option NodeId) → List Pending
pending_alike p b [] = []
pending_alike p b (None ∷ ids) = pending_alike p b ids
pending_alike p b (Some id ∷ ids) = pending_alike p b ids ++ cond (nat_lt id.0 b) (record { id = id; position = p } ∷ []) []

-- how many slots stand up to the first child, its own included
abbrev pub first_end : List (Option NodeId) → ℕ
first_end [] = 0
first_end (None ∷ ids) = suc (first_end ids)
first_end (Some id ∷ ids) = 1
