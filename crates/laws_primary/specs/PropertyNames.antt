-- What the parse functions of names of properties answer (ECMA-262, 13.2.5).
use Rattle.std.specs.Prelude.{ℕ, ◌<◌, List, Bool, true, false, not, length, Result, Ok, Err, ◌≡◌}
use Rattle.js_grammar.specs.Trees.{Label, Slots, end, tree}
use Rattle.js_grammar.specs.Grammar.{Lexemes, nothing}
use Rattle.js_grammar.specs.Parsing.{plain, full, Fails}
use Rattle.js_grammar.specs.Productions.{Flags}
use Rattle.js_grammar.specs.Table.{rule, name}
use Rattle.laws_shared.specs.js_tree.declared.id.NodeId.{NodeId}
use Rattle.laws_shared.specs.js_tree.Holding.{Holds, Keeps}
use Rattle.laws_shared.specs.js_cursor.Parsers.{Parser}
use Rattle.laws_shared.specs.js_cursor.declared.stop.Stop.{Stop}
use Rattle.laws_primary.specs.declared.forms.PropertyName.{PropertyName}
use Rattle.laws_shared.specs.Answers.{Stretch, Stops, Verdict}
use Rattle.laws_shared.specs.Lexemes.{Lex, Walked, spot}
use Rattle.laws_shared.specs.States.{At, Same}

-- no name of this form, in brackets or not, is derived from the place
abbrev pub NoName : List ℕ → Bool → Flags → ℕ → Type 0
NoName text c f s = Fails rule (Lex text) (plain full) end (name c false f) s

-- A name of the form c was read; none of the other form is derived from its beginning. A node made in the call stands for its tree.
pub record NameRead (text : List ℕ) (f : Flags) (c : Bool) (p q : Parser) (id : NodeId) : Type 0 where
  pub at : At text f q
  pub same : Same p q
  pub further : p.token.span.start < q.prev_token_end
  pub label : Label
  pub slots : Slots
  pub pass : Lexemes → Lexemes
  pub walked : Walked text (spot p) (spot q) pass
  pub verdict : Verdict (f.wide ≡ true) p.errors q.errors (Stretch text (plain full) (name c false f) p.prev_token_end nothing q.prev_token_end (tree label slots) pass) (NoName text c f p.prev_token_end)
  pub other : NoName text (not c) f p.prev_token_end
  pub holds : Holds q.nodes (length p.nodes) (length q.nodes) id.0 label slots
  pub keeps : Keeps p.nodes q.nodes

-- a name of neither form is derived from the place
abbrev pub NoNames : List ℕ → Flags → ℕ → Type 0
NoNames text f s = (c : Bool) → NoName text c f s

abbrev pub NameOutcome : List ℕ → Flags → Bool → Parser → Parser → Result NodeId Stop → Type 0
NameOutcome text f c p q (Ok id) = NameRead text f c p q id
NameOutcome text f c p q (Err e) = Stops p q e (NoNames text f p.prev_token_end)

abbrev pub NamesPlainly : Parser → Parser → Result NodeId Stop → Type 0
NamesPlainly p q r = (text : List ℕ) (f : Flags) → At text f p → NameOutcome text f false p q r

abbrev pub NamesComputed : Parser → Parser → Result NodeId Stop → Type 0
NamesComputed p q r = (text : List ℕ) (f : Flags) → At text f p → NameOutcome text f true p q r

-- the answer of the parse function of a property's name
abbrev pub NamesProperty : Parser → Parser → Result PropertyName Stop → Type 0
NamesProperty p q (Ok n) = (text : List ℕ) (f : Flags) → At text f p → NameRead text f n.computed p q n.key
NamesProperty p q (Err e) = (text : List ℕ) (f : Flags) → At text f p → Stops p q e (NoNames text f p.prev_token_end)
