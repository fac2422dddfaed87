-- What a node keeps beside its label, by the text that it stands for: its name where that has an escape (ECMA-262, 12.7.1); and that the text of a string is one.
use Rattle.std.specs.Prelude.{ℕ, ◌≡◌, ◌≤◌, ◌+◌, Bool, true, false, cond, List, ◌∷◌, drop, Option, Some, None, IsSome, is_some, chars, slice_range, IsCharBoundary}
use Rattle.js_base.specs.part_text.Decoding.{name_text}
use Rattle.js_base.specs.Spans.{LiesIn}
use Rattle.js_base.specs.declared.kind.Kind.TheVariants.{Str}
use Rattle.js_base.specs.declared.token.Token.{Token}
use Rattle.js_grammar.specs.Names.{has_backslash}
use Rattle.js_grammar.specs.Strings.{string_kind}
use Rattle.js_cursor.specs.js_tree.Nodes.{Node}
use Rattle.js_cursor.specs.js_tree.Sources.{text_of}
use Rattle.js_cursor.specs.js_tree.declared.kind.NodeKind.{NodeKind}
use Rattle.js_cursor.specs.js_tree.declared.kind.NodeKind.TheVariants as node

-- the nodes that are names without a sign before them (12.7, 13.1)
abbrev pub is_name_node : NodeKind → Bool
is_name_node node.IdentifierReference = true
is_name_node node.BindingIdentifier = true
is_name_node node.LabelIdentifier = true
is_name_node node.IdentifierName = true
is_name_node _ = false

-- the nodes of which the text tells more than the label: names, private names and strings
abbrev pub is_textual : NodeKind → Bool
is_textual node.StringLiteral = true
is_textual node.PrivateIdentifier = true
is_textual k = is_name_node k

-- the UTF-8 of the name that characters spell, where an escape is among them; none where they are the name themselves
abbrev pub kept_name : List ℕ → Option (List ℕ)
kept_name cs = cond (has_backslash cs) (name_text cs) None

-- A name of these characters is kept exactly where an escape is among them, and is then what they spell.
pub record IsKept (name : Option (List ℕ)) (cs : List ℕ) : Type 0 where
  pub is : name ≡ kept_name cs
  pub where_escaped : is_some name ≡ has_backslash cs

-- the same of a private name: of the name behind its `#`
abbrev pub kept_private : List ℕ → Option (List ℕ)
kept_private cs = cond (has_backslash cs) (name_text (drop 1 cs)) None

pub record IsKeptPrivate (name : Option (List ℕ)) (cs : List ℕ) : Type 0 where
  pub is : name ≡ kept_private cs
  pub where_escaped : is_some name ≡ has_backslash cs

abbrev pub TextedAs : Bool → Bool → Option (List ℕ) → List ℕ → Type 0
TextedAs true s name cs = IsKept name cs
TextedAs false true name cs = string_kind cs ≡ Some Str
TextedAs false false name cs = Unit {0}

-- a node of a kind, with the name that it keeps, over these characters
abbrev pub Texted : NodeKind → Option (List ℕ) → List ℕ → Type 0
Texted node.PrivateIdentifier name cs = IsKeptPrivate name cs
Texted k name cs = TextedAs (is_name_node k) (is_textual k) name cs

-- the characters of a text at a token
abbrev pub spelled_at : List ℕ → Token → List ℕ
spelled_at text t = chars (slice_range text t.span.start t.span.end)

-- the token is a name of this text, with an escape exactly where it says so
pub record SpellsName (text : List ℕ) (t : Token) : Type 0 where
  pub lies : LiesIn t.span text
  pub escaped : has_backslash (spelled_at text t) ≡ t.escaped
  pub named : IsSome (name_text (spelled_at text t))

-- the characters of a text at a token, its first byte aside
abbrev pub behind_sign : List ℕ → Token → List ℕ
behind_sign text t = chars (slice_range text (t.span.start + 1) t.span.end)

-- the token is a private name of this text: `#` and a name, with an escape exactly where it says so
pub record SpellsPrivate (text : List ℕ) (t : Token) : Type 0 where
  pub lies : LiesIn t.span text
  pub before : t.span.start + 1 ≤ t.span.end
  pub between : IsCharBoundary text (t.span.start + 1)
  pub sign : spelled_at text t ≡ 35 ∷ behind_sign text t
  pub escaped : has_backslash (spelled_at text t) ≡ t.escaped
  pub named : IsSome (name_text (behind_sign text t))

-- a node lies in the text, splits no character of it, and keeps what the text there asks for
pub record NodeFits (text : List ℕ) (n : Node) : Type 0 where
  pub lies : LiesIn n.span text
  pub texted : Texted n.kind n.name (chars (text_of n text))
