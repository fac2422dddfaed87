-- A tree with something left out of it.
use Rattle.std.specs.Prelude.{Bool, true, false, cond}
use Rattle.js_grammar.specs.Trees.{NodeKind, parenthesized_expression, Label, Slots, end, hole, tree, Tree, append}
use Rattle.js_grammar.specs.Productions.{pure_flag, without_flag}

-- every node's label is changed
abbrev pub with_labels : (Label → Label) → Slots → Slots
with_labels f end = end
with_labels f (hole us) = hole (with_labels f us)
with_labels f (tree l cs us) = tree (f l) (with_labels f cs) (with_labels f us)

abbrev pub relabelled : (Label → Label) → Tree → Tree
relabelled f t = record { label = f t.label; slots = with_labels f t.slots }

-- The mark `pure` off every node: the grammar says nothing of it.
abbrev pub not_pure : Label → Label
not_pure l = record l { flags = without_flag pure_flag l.flags }

abbrev pub without_pure : Tree → Tree
without_pure = relabelled not_pure

-- all spans the same
abbrev pub no_span : Label → Label
no_span l = record l { span = record { from = 0; to = 0 } }

abbrev pub forget_spans : Tree → Tree
forget_spans = relabelled no_span

-- no slots
abbrev pub are_none : Slots → Bool
are_none end = true
are_none _ = false

abbrev pub is_parenthesized : NodeKind → Bool
is_parenthesized parenthesized_expression = true
is_parenthesized _ = false

-- an expression in parentheses stands for its child
abbrev pub slots_lack_parens : Slots → Slots
slots_lack_parens end = end
slots_lack_parens (hole us) = hole (slots_lack_parens us)
slots_lack_parens (tree l cs us) = cond (is_parenthesized l.kind) (append (slots_lack_parens cs) (slots_lack_parens us)) (tree l (slots_lack_parens cs) (slots_lack_parens us))

-- the first node of slots, or, where there is none, the tree
abbrev pub first_tree : Tree → Slots → Tree
first_tree t (tree l cs us) = record { label = l; slots = cs }
first_tree t (hole us) = t
first_tree t end = t

abbrev pub lacks_parens : Tree → Tree
lacks_parens t = first_tree t (slots_lack_parens (tree t.label t.slots end))
