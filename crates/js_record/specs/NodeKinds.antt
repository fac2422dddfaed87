-- Which kinds of nodes are names, and which are string literals.
use Rattle.std.specs.Prelude.{Bool, true, false}
use Rattle.js_tree.specs.declared.kind.NodeKind.{NodeKind}
use Rattle.js_tree.specs.declared.kind.NodeKind.TheVariants as node

abbrev pub is_name_kind : NodeKind → Bool
is_name_kind node.IdentifierReference = true
is_name_kind node.BindingIdentifier = true
is_name_kind node.LabelIdentifier = true
is_name_kind node.IdentifierName = true
is_name_kind node.PrivateIdentifier = true
is_name_kind k = false

abbrev pub is_string : NodeKind → Bool
is_string node.StringLiteral = true
is_string k = false
