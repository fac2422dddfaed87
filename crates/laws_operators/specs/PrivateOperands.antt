-- A private name before `in`, as an operand (ECMA-262, 13.10).
use Rattle.std.specs.Prelude.{ℕ, ◌≡◌, ◌≤◌, Bool, true, false, List, Result, Ok, Err}
use Rattle.js_base.specs.declared.diagnostic.DiagnosticKind.{DiagnosticKind}
use Rattle.js_base.specs.declared.diagnostic.DiagnosticKind.TheVariants.{PrivateInPrivate, UnexpectedPrivateIdentifier}
use Rattle.js_base.specs.declared.kind.Kind.TheVariants.{In}
use Rattle.js_grammar.specs.Levels.{level_at}
use Rattle.js_grammar.specs.Productions.{Flags, at, PrivateName}
use Rattle.js_grammar.specs.Trees.{Label, of, private_in_expression}
use Rattle.laws_shared.specs.js_cursor.Parsers.{Parser}
use Rattle.laws_shared.specs.js_cursor.declared.stop.Stop.{Stop}
use Rattle.laws_shared.specs.js_tree.declared.id.NodeId.{NodeId}
use Rattle.laws_shared.specs.Answers.{Numbered, Stops, Underived}
use Rattle.laws_shared.specs.Moves.{Moved}
use Rattle.laws_shared.specs.Stands.{StandsHere}
use Rattle.laws_shared.specs.States.{At}

abbrev pub private_in_label : ℕ → ℕ → Label
private_in_label from to = record { kind = private_in_expression; op = of In; flags = 0; span = record { from = from; to = to } }

-- what is told of a private name where none may stand
abbrev pub tells_private : DiagnosticKind → Bool
tells_private UnexpectedPrivateIdentifier = true
tells_private PrivateInPrivate = true
tells_private _ = false

-- A private name and the `in` behind it were passed, where `in` is an operator and the level m no tighter than that of comparisons.
pub record PrivateTaken (text : List ℕ) (f : Flags) (m : ℕ) (p q : Parser) (id : NodeId) : Type 0 where
  pub loose : m ≤ 6
  pub allowed : f.in_ ≡ true
  pub behind : Parser
  pub name : Numbered text f (at PrivateName f) p behind id
  pub word : StandsHere behind In true
  pub passed : Moved text f behind q

abbrev pub TakesPrivate : ℕ → Parser → Parser → Result NodeId Stop → Type 0
TakesPrivate m p q (Ok id) = (text : List ℕ) (f : Flags) → At text f p → PrivateTaken text f m p q id
TakesPrivate m p q (Err e) = (text : List ℕ) (f : Flags) → At text f p → Stops p q e (Underived text (level_at f m) p.prev_token_end)
