-- Elements of classes (ECMA-262, 15.7), and what is answered of one.
use Rattle.std.specs.Prelude.{ℕ, ◌+◌, ◌≡◌, ◌<◌, Bool, true, false, length, List, ◌∷◌, Result, Ok, Err}
use Rattle.js_base.specs.declared.kind.Kind.{Kind}
use Rattle.js_base.specs.declared.kind.Kind.TheVariants.{At as at_sign, RCurly, Semicolon, Star, Static}
use Rattle.js_base.specs.Kinds.{one_of_kinds}
use Rattle.js_grammar.specs.Trees.{Label, NodeKind, Slots, accessor_property, end, method_definition, property_definition, static_block, tree}
use Rattle.js_grammar.specs.Grammar.{Lexemes, keep, kept, many, nothing, ◌▸◌}
use Rattle.js_grammar.specs.Parsing.{Test, plain, Fails}
use Rattle.js_grammar.specs.Productions.{G, Flags, computed_flag, flag, only, static_flag, tok, Decorator, Element}
use Rattle.js_grammar.specs.Productions.{sym as symbol}
use Rattle.js_grammar.specs.Table.{rule}
pub use Rattle.laws_primary.specs.Decorators.{name_kinds, other_name_kinds}
use Rattle.laws_primary.specs.js_tree.declared.id.NodeId.{NodeId}
use Rattle.laws_primary.specs.js_tree.Holding.{Holds, Keeps}
use Rattle.laws_primary.specs.js_cursor.Parsers.{Parser}
use Rattle.laws_primary.specs.js_cursor.declared.stop.Stop.{Stop}
use Rattle.laws_primary.specs.laws_shared.Answers.{Stretch, Stops, Verdict}
use Rattle.laws_primary.specs.laws_shared.Lexemes.{Lex, Walked, spot}
use Rattle.laws_primary.specs.laws_shared.Moves.{Moved}
use Rattle.laws_primary.specs.laws_shared.Stands.{StandsHere}
use Rattle.laws_primary.specs.laws_shared.States.{At, Same}

-- What may stand behind an element: another one, a semicolon alone, or the end of the class.
abbrev pub behind_kinds : List Kind
behind_kinds = Star ∷ at_sign ∷ Semicolon ∷ RCurly ∷ name_kinds

abbrev pub behind_element : Test
behind_element = plain (λ k w e. one_of_kinds behind_kinds k)

-- the slots of an element: its decorators, kept; `static` or none; and g
abbrev pub element_slots : Bool → Flags → G → G
element_slots st f g = keep (many (symbol Decorator f)) (only st (tok Static) ▸ g ▸ kept)

-- the flags of its node
abbrev pub element_flags : Bool → Bool → ℕ
element_flags st c = flag c computed_flag + flag st static_flag

-- `static` was passed, or isn't before the element: from the state where that began up to this one
abbrev pub Begun : Bool → List ℕ → Flags → Parser → Parser → Type 0
Begun false text f first p = p ≡ first
Begun true text f first p = StandsHere first Static true × Moved text f first p

-- nothing of g is derived from the place, as an element
abbrev pub NoElement : List ℕ → G → ℕ → Type 0
NoElement text g s = Fails rule (Lex text) behind_element end g s

-- the kinds of their nodes
abbrev pub is_element : NodeKind → Bool
is_element method_definition = true
is_element property_definition = true
is_element accessor_property = true
is_element static_block = true
is_element _ = false

-- An element was taken. Clean: whatever is derived from its beginning before what may stand behind it is this; unclean: nothing is. A node made in the call stands for its tree.
pub record ElementTaken (text : List ℕ) (f : Flags) (g : G) (p q : Parser) (id : NodeId) : Type 0 where
  pub at : At text f q
  pub same : Same p q
  pub further : p.token.span.start < q.prev_token_end
  pub label : Label
  pub element : is_element label.kind ≡ true
  pub slots : Slots
  pub pass : Lexemes → Lexemes
  pub walked : Walked text (spot p) (spot q) pass
  pub verdict : Verdict (f.wide ≡ true) p.errors q.errors (Stretch text behind_element g p.prev_token_end nothing q.prev_token_end (tree label slots) pass) (NoElement text g p.prev_token_end)
  pub holds : Holds q.nodes (length p.nodes) (length q.nodes) id.0 label slots
  pub keeps : Keeps p.nodes q.nodes

abbrev pub ElementOutcome : List ℕ → Flags → G → Parser → Parser → Result NodeId Stop → Type 0
ElementOutcome text f g p q (Ok id) = ElementTaken text f g p q id
ElementOutcome text f g p q (Err e) = Stops p q e (NoElement text g p.prev_token_end)

-- the answer of the parse function of an element
abbrev pub ReadsElement : Parser → Parser → Result NodeId Stop → Type 0
ReadsElement old new r = (text : List ℕ) (f : Flags) → At text f old → ElementOutcome text f (symbol Element f) old new r
