-- Names of elements of classes (ECMA-262, 15.7): ClassElementName.
use Rattle.std.specs.Prelude.{ℕ, List, Bool, true, not, Result, Ok, Err}
use Rattle.js_grammar.specs.Trees.{end}
use Rattle.js_grammar.specs.Parsing.{plain, full, Fails}
use Rattle.js_grammar.specs.Productions.{Flags}
use Rattle.js_grammar.specs.Table.{rule, name}
use Rattle.laws_primary.specs.declared.forms.PropertyName.{PropertyName}
use Rattle.laws_primary.specs.js_tree.declared.id.NodeId.{NodeId}
use Rattle.laws_primary.specs.js_cursor.Parsers.{Parser}
use Rattle.laws_primary.specs.js_cursor.declared.stop.Stop.{Stop}
use Rattle.laws_primary.specs.laws_shared.Answers.{Stops}
use Rattle.laws_primary.specs.laws_shared.Lexemes.{Lex}
use Rattle.laws_primary.specs.laws_shared.Methods.{WholeTaken}
use Rattle.laws_primary.specs.laws_shared.States.{At}

-- no name of this form, in brackets or not, is derived from the place
abbrev pub NoKey : List ℕ → Bool → Flags → ℕ → Type 0
NoKey text c f s = Fails rule (Lex text) (plain full) end (name c true f) s

-- nor of either form
abbrev pub NoKeys : List ℕ → Flags → ℕ → Type 0
NoKeys text f s = (c : Bool) → NoKey text c f s

-- A name of the form c was read; none of the other form is derived from its beginning.
pub record KeyRead (text : List ℕ) (f : Flags) (c : Bool) (p q : Parser) (id : NodeId) : Type 0 where
  pub whole : WholeTaken text f (name c true f) p q id
  pub other : NoKey text (not c) f p.prev_token_end

-- the answer of the parse function of the name of an element
abbrev pub NamesElement : Parser → Parser → Result PropertyName Stop → Type 0
NamesElement p q (Ok n) = (text : List ℕ) (f : Flags) → At text f p → KeyRead text f n.computed p q n.key
NamesElement p q (Err e) = (text : List ℕ) (f : Flags) → At text f p → Stops p q e (NoKeys text f p.prev_token_end)
