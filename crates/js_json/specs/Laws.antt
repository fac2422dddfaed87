-- What the value of a tree tells of it.
use Rattle.std.specs.Prelude.{ℕ, ◌≡◌, ◌<◌, ◌^◌, List, Bool, true, not}
use Rattle.js_base.specs.declared.kind.Kind.TheVariants.{Constructor}
use Rattle.js_base.specs.Kinds.{same_kind}
use Rattle.js_grammar.specs.Trees.{Op, of, Label, Slots, end, hole, tree, Tree}
use Rattle.js_grammar.specs.Options.{Options}
use Rattle.js_grammar.specs.Settings.{Goal}
use Rattle.js_grammar.specs.Readings.{IsValid, IsValidExpression, IsValidUnambiguous}
use Rattle.js_tree.specs.Nodes.{Node}
use Rattle.js_tree.specs.Holding.{IsTree}
use Rattle.js_json.specs.Json.{json_of}

-- The tree is valid for some text: a program at a goal that is named or at none, or an expression.
pub data IsValidSomewhere (t : Tree) : Type 0 where
  program : (text : List ℕ) (goal : Goal) (o : Options) → IsValid text goal o t → IsValidSomewhere t
  unambiguous : (text : List ℕ) (goal : Goal) (o : Options) → IsValidUnambiguous text o goal t → IsValidSomewhere t
  expression : (text : List ℕ) (goal : Goal) (o : Options) → IsValidExpression text goal o t → IsValidSomewhere t

-- The word `constructor` is the op of a method, and no operator has it.
abbrev pub is_own_word : Op → Bool
is_own_word (of k) = not (same_kind Constructor k)
is_own_word o = true

-- The words of a label tell its op, and its flags are among the fourteen.
pub record HasWords (l : Label) : Type 0 where
  pub op : is_own_word l.op ≡ true
  pub flags : l.flags < 2 ^ 14

-- all labels of slots have
abbrev pub HaveWords : Slots → Type 0
HaveWords end = Unit {0}
HaveWords (hole us) = HaveWords us
HaveWords (tree l cs us) = HasWords l × HaveWords cs × HaveWords us

-- Trees that have one value are one tree, with whatever texts they are read: trees that are valid for some texts; trees that nodes stand for; and all whose labels have words of their own, which both are.
pub record OneTree : Type 0 where
  pub valid : (t u : Tree) (a b : List ℕ) → IsValidSomewhere t → IsValidSomewhere u → json_of a t ≡ json_of b u → t ≡ u
  pub seen : (ns ms : List Node) (t u : Tree) (a b : List ℕ) → IsTree ns t → IsTree ms u → json_of a t ≡ json_of b u → t ≡ u
  pub worded : (t u : Tree) (a b : List ℕ) → HaveWords (tree t.label t.slots end) → HaveWords (tree u.label u.slots end) → json_of a t ≡ json_of b u → t ≡ u
