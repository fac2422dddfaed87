-- Keys that stand again in their WithClause (ECMA-262, 16.2.2.1), and what is told of them.
use Rattle.std.specs.Prelude.{ℕ, Bool, true, false, ◌&&◌, List, [], ◌∷◌, ◌++◌, Option, Some, None, ◌≡◌, bytes_eq, length, nat_lt, option_map}
use Rattle.std.specs.List.{find}
use Rattle.std.specs.Map.{lookup}
use Rattle.js_base.specs.declared.diagnostic.Diagnostic.{Diagnostic}
use Rattle.js_base.specs.declared.diagnostic.DiagnosticKind.TheVariants.{Redeclaration}
use Rattle.js_base.specs.declared.span.Span.{Span}
use Rattle.js_grammar.specs.EarlyRules.{key_units, same_value}
use Rattle.js_grammar.specs.Trees.{NodeKind, with_clause, identifier_name, string_literal, Label, Slots, end, hole, tree}
use Rattle.js_tree.specs.declared.id.NodeId.{NodeId}
use Rattle.js_tree.specs.Covering.{placed}
use Rattle.js_tree.specs.Labels.{kind_of}
use Rattle.js_tree.specs.Nodes.{Node, label, node_at}
use Rattle.js_parser.specs.MemberNodes.{with_node, child_at}

-- the value of a key, in code units, if it is a name or a string
abbrev pub value_of : List ℕ → NodeKind → Label → Option (List ℕ)
value_of text identifier_name k = key_units text k
value_of text string_literal k = key_units text k
value_of text _ k = None

-- the last key before with the value of this one; those before stand the nearest first
abbrev pub same_before : List ℕ → List Label → Label → Option Label
same_before text before k = find (λ b. same_value (value_of text b.kind b) (value_of text k.kind k)) before

-- a key that stands again is told with that one
abbrev pub told_again : Label → Option Label → List Diagnostic
told_again k None = []
told_again k (Some b) = record { kind = Redeclaration; span = placed k.span; first = Some (placed b.span); second = None } ∷ []

abbrev pub told_keys : List ℕ → List Label → List Label → List Diagnostic
told_keys text before [] = []
told_keys text before (k ∷ ks) = told_again k (same_before text before k) ++ told_keys text (k ∷ before) ks

-- of the keys of a WithClause; of any other node nothing
abbrev pub told_of_keys : List ℕ → NodeKind → List Label → List Diagnostic
told_of_keys text with_clause ks = told_keys text [] ks
told_of_keys text _ ks = []

-- the keys of attributes
abbrev pub key_in : Slots → List Label
key_in (tree k ks us) = k ∷ []
key_in cs = []

abbrev pub keys_in : Slots → List Label
keys_in end = []
keys_in (hole us) = keys_in us
keys_in (tree l cs us) = key_in cs ++ keys_in us

-- Of nodes by number.

-- the key of the attribute in a slot
abbrev pub key_at : List Node → Option NodeId → Option NodeId
key_at ns None = None
key_at ns (Some id) = child_at ns id 0

abbrev pub key_label : List Node → Option NodeId → List Label
key_label ns None = []
key_label ns (Some k) = label (node_at ns k) ∷ []

abbrev pub keys_at : List Node → List (Option NodeId) → List Label
keys_at ns [] = []
keys_at ns (id ∷ ids) = key_label ns (key_at ns (with_node ns (Some id))) ++ keys_at ns ids

-- what is told of the keys of a node
abbrev pub told_keys_at : List ℕ → List Node → NodeId → List Diagnostic
told_keys_at text ns id = told_of_keys text (kind_of (node_at ns id).kind) (keys_at ns (node_at ns id).children)

-- a WithClause where a key may stand again
abbrev pub is_clause : NodeKind → Bool
is_clause with_clause = true
is_clause _ = false

abbrev pub has_keys : List Node → NodeId → Bool
has_keys ns id = is_clause (kind_of (node_at ns id).kind) && nat_lt 1 (length (node_at ns id).children)

-- of each value among keys, the entries have the span of the nearest key with it
abbrev pub AreLast : List ℕ → List (List ℕ × Span) → List Label → Type 0
AreLast text entries before = (v : List ℕ) → lookup (bytes_eq v) entries ≡ option_map (λ (b : Label). placed b.span) (find (λ b. same_value (value_of text b.kind b) (Some v)) before)
