-- Parameters of methods (ECMA-262, 15.4), and what is answered of a part that anything may follow.
use Rattle.std.specs.Prelude.{ℕ, ◌<◌, List, length, Result, Ok, Err, ◌≡◌, true}
use Rattle.js_grammar.specs.Trees.{Label, Slots, end, tree, formal_parameters}
use Rattle.js_grammar.specs.Grammar.{Lexemes, nothing}
use Rattle.js_grammar.specs.Parsing.{plain, full, Fails}
use Rattle.js_grammar.specs.Productions.{G, Flags, mk, parens, Param, Params}
use Rattle.js_grammar.specs.Productions.{sym as symbol}
use Rattle.js_grammar.specs.Table.{rule}
use Rattle.js_cursor.specs.js_tree.declared.id.NodeId.{NodeId}
use Rattle.js_cursor.specs.js_tree.Holding.{Holds, Keeps}
use Rattle.js_cursor.specs.Parsers.{Parser}
use Rattle.js_cursor.specs.declared.stop.Stop.{Stop}
use Rattle.laws_shared.specs.declared.nested.MethodForm.{MethodForm}
use Rattle.laws_shared.specs.declared.nested.MethodForm.TheVariants.{Method, Getter, Setter}
use Rattle.laws_shared.specs.Answers.{Stretch, Stops, Verdict}
use Rattle.laws_shared.specs.Lexemes.{Lex, Walked, spot}
use Rattle.laws_shared.specs.States.{At, Same}

-- the parameters of a method, of a getter (none), and of a setter (one)
abbrev pub parameters_of : MethodForm → Flags → G
parameters_of Method f = symbol Params f
parameters_of Getter f = mk formal_parameters (parens nothing)
parameters_of Setter f = mk formal_parameters (parens (symbol Param f))

-- A part was read, whatever stands behind it. Clean: whatever is derived from its beginning is this; unclean: nothing is. A node made in the call stands for its tree.
pub record WholeTaken (text : List ℕ) (f : Flags) (g : G) (p q : Parser) (id : NodeId) : Type 0 where
  pub at : At text f q
  pub same : Same p q
  pub further : p.token.span.start < q.prev_token_end
  pub label : Label
  pub slots : Slots
  pub pass : Lexemes → Lexemes
  pub walked : Walked text (spot p) (spot q) pass
  pub verdict : Verdict (f.wide ≡ true) p.errors q.errors (Stretch text (plain full) g p.prev_token_end nothing q.prev_token_end (tree label slots) pass) (Fails rule (Lex text) (plain full) end g p.prev_token_end)
  pub holds : Holds q.nodes (length p.nodes) (length q.nodes) id.0 label slots
  pub keeps : Keeps p.nodes q.nodes

abbrev pub WholeOutcome : List ℕ → Flags → G → Parser → Parser → Result NodeId Stop → Type 0
WholeOutcome text f g p q (Ok id) = WholeTaken text f g p q id
WholeOutcome text f g p q (Err e) = Stops p q e (Fails rule (Lex text) (plain full) end g p.prev_token_end)

-- the answer of a parse function of such a part, under the parameters in force
abbrev pub ReadsWhole : (Flags → G) → Parser → Parser → Result NodeId Stop → Type 0
ReadsWhole g p q r = (text : List ℕ) (f : Flags) → At text f p → WholeOutcome text f (g f) p q r
