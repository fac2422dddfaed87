-- Arrow functions whose parameters stand in parentheses (ECMA-262, 15.3, 15.9): attempts at them.
use Rattle.std.specs.Prelude.{ℕ, ◌≡◌, Bool, true, false, List, Option, Some, None, Result, Ok, Err}
use Rattle.js_base.specs.declared.kind.Kind.TheVariants.{Arrow, Async}
use Rattle.js_grammar.specs.Trees.{end as no_slots, arrow_function_expression}
use Rattle.js_grammar.specs.Grammar.{◌▸◌}
use Rattle.js_grammar.specs.Parsing.{plain, full, Fails}
use Rattle.js_grammar.specs.Productions.{G, Flags, at, sym, tok, Assignment, LooseHead, Params}
use Rattle.js_grammar.specs.Table.{rule}
use Rattle.laws_shared.specs.js_tree.declared.id.NodeId.{NodeId}
use Rattle.laws_shared.specs.js_tree.Labels.{kind_of}
use Rattle.laws_shared.specs.js_tree.Nodes.{node_at}
use Rattle.laws_shared.specs.js_cursor.Parsers.{Parser}
use Rattle.laws_shared.specs.js_cursor.declared.stop.Stop.{Stop}
use Rattle.laws_shared.specs.Answers.{Numbered}
use Rattle.laws_shared.specs.Contexts.{arrow_head}
use Rattle.laws_shared.specs.Lexemes.{Lex}
use Rattle.laws_shared.specs.Stands.{StandsHere}
use Rattle.laws_shared.specs.States.{At}
use Rattle.laws_operators.specs.Arrows.{IsHeadBefore, NoAssignment, Unmoved, lead_of}
use Rattle.laws_operators.specs.declared.forms.ArrowHead.{ArrowHead}

-- parameters in parentheses with `=>` behind them, on their line or on another, and `async` before them on their line, or nothing
abbrev pub parameters_of : Bool → Flags → G
parameters_of a f = lead_of a ▸ sym Params (arrow_head a f) ▸ tok Arrow

abbrev pub NoParameters : Bool → List ℕ → Flags → ℕ → Type 0
NoParameters a text f s = Fails rule (Lex text) (plain full) no_slots (parameters_of a f) s

-- Neither are derived from here, under the parameters in force and in the wider form.
abbrev pub NoListHere : Parser → Type 0
NoListHere p = (text : List ℕ) (f : Flags) → At text f p → Fails rule (Lex text) (plain full) no_slots (rule (at LooseHead f)) p.prev_token_end

-- whether `async` stands here, and `(` behind it; if not, none are derived from here where no parenthesis stands
abbrev pub AsyncListBegins : Parser → Parser → Bool → Type 0
AsyncListBegins p q true = (q ≡ p) × StandsHere p Async true
AsyncListBegins p q false = (q ≡ p) × ((text : List ℕ) (f : Flags) → At text f p → NoParameters true text f p.prev_token_end)

-- a head was read, or none stands here, and the parser is where it was; or no assignment is derived from here
abbrev pub FindsList : Parser → Parser → Option ArrowHead → Type 0
FindsList p q (Some head) = IsHeadBefore head.is_async p q head.parameters
FindsList p q None = Unmoved p q × NoListHere p

abbrev pub SearchesList : Parser → Parser → Result (Option ArrowHead) Stop → Type 0
SearchesList p q (Ok found) = FindsList p q found
SearchesList p q (Err e) = NoAssignment p q e

-- An AssignmentExpression was read that is an arrow function; or no such parameters stand here, and the parser is where it was, nodes that were made and what was noted of places aside.
abbrev pub FindsArrow : Parser → Parser → Option NodeId → Type 0
FindsArrow p q (Some id) = ((text : List ℕ) (f : Flags) → At text f p → Numbered text f (at Assignment f) p q id) × (kind_of (node_at q.nodes id).kind ≡ arrow_function_expression)
FindsArrow p q None = Unmoved p q × NoListHere p

abbrev pub TriesArrow : Parser → Parser → Result (Option NodeId) Stop → Type 0
TriesArrow p q (Ok found) = FindsArrow p q found
TriesArrow p q (Err e) = NoAssignment p q e
