-- The JSON form of a tree. Its shape is this project's own: a node is an object of eight members, in the order of the bytes of their keys.
use Rattle.std.specs.Prelude.{ℕ, ◌/◌, ◌%◌, nat_eq, Bool, true, false, cond, List, [], ◌∷◌, ◌++◌, drop, codes, Option, Some, None, slice_range}
use Rattle.serde_json.specs.Data.{Data, null, number, unsigned, string, array, object, no_members, member}
use Rattle.serde_json.specs.View.{items_of}
use Rattle.js_grammar.specs.Trees.{NodeKind, boolean_literal, numeric_literal, big_int_literal, string_literal, reg_exp_literal, template_element, identifier_reference, binding_identifier, label_identifier, identifier_name, private_identifier, Op, no_op, Label, Slots, end, hole, tree, Tree}
use Rattle.js_grammar.specs.Lines.{kind_text, op_text, flag_words}
use Rattle.js_grammar.specs.NodeNames.{word_at}

-- the nodes that are names (12.7, 13.1)
abbrev pub is_name : NodeKind → Bool
is_name identifier_reference = true
is_name binding_identifier = true
is_name label_identifier = true
is_name identifier_name = true
is_name private_identifier = true
is_name _ = false

-- the nodes whose own text is given: literals (12.9), but for the one of `null`, and the parts of templates
abbrev pub has_raw : NodeKind → Bool
has_raw boolean_literal = true
has_raw numeric_literal = true
has_raw big_int_literal = true
has_raw string_literal = true
has_raw reg_exp_literal = true
has_raw template_element = true
has_raw _ = false

-- the text of an op, without the blank that stands before it in a line
abbrev pub word_of : Op → Option (List ℕ)
word_of no_op = None
word_of o = Some (drop 1 (op_text o))

-- the StringValue of a name (12.7.1), a `#` aside; none of other nodes
abbrev pub name_of : List ℕ → Label → Option (List ℕ)
name_of text l = cond (is_name l.kind) (word_at text l) None

-- the text at the span
abbrev pub raw_of : List ℕ → Label → Option (List ℕ)
raw_of text l = cond (has_raw l.kind) (Some (slice_range text l.span.from l.span.to)) None

abbrev pub string_or_null : Option (List ℕ) → Data
string_or_null None = null
string_or_null (Some s) = string s

-- of these words those of the flags that are set: each flag is a bit, the first the lowest
abbrev pub words_set : List (List ℕ) → ℕ → List Data
words_set [] n = []
words_set (w ∷ ws) n = cond (nat_eq (n % 2) 1) (string w ∷ []) [] ++ words_set ws (n / 2)

abbrev pub list : List Data → Data
list ds = array (items_of ds)

-- a node of this label and this name, whose slots have this value
abbrev pub object_of : List ℕ → Label → Option (List ℕ) → Data → Data
object_of text l name children = object (
    member (codes "children") children (
    member (codes "end") (number (unsigned l.span.to)) (
    member (codes "flags") (list (words_set flag_words l.flags)) (
    member (codes "name") (string_or_null name) (
    member (codes "op") (string_or_null (word_of l.op)) (
    member (codes "raw") (string_or_null (raw_of text l)) (
    member (codes "start") (number (unsigned l.span.from)) (
    member (codes "type") (string (kind_text l.kind)) no_members))))))))

abbrev pub node_json : List ℕ → Label → Data → Data
node_json text l children = object_of text l (name_of text l) children

-- slots in their order; an empty one is null
abbrev pub slots_json : List ℕ → Slots → List Data
slots_json text end = []
slots_json text (hole us) = null ∷ slots_json text us
slots_json text (tree l cs us) = node_json text l (list (slots_json text cs)) ∷ slots_json text us

abbrev pub json_of : List ℕ → Tree → Data
json_of text t = node_json text t.label (list (slots_json text t.slots))

-- how many levels a tree may have that gets a value, Program's own included
abbrev pub max_levels : ℕ
max_levels = 10000
