-- What the parse functions of patterns speak of (ECMA-262, 14.3.3).
use Rattle.std.specs.Prelude.{ℕ, ◌≡◌, ◌≤◌, ◌<◌, true, List, [], ◌∷◌, length, Option, Result, Ok, Err, IsCharBoundary}
use Rattle.js_base.specs.declared.diagnostic.DiagnosticKind.{DiagnosticKind}
use Rattle.js_base.specs.declared.diagnostic.DiagnosticKind.TheVariants.{ARestElementCannotHaveAnInitializer, ARestParameterCannotHaveAnInitializer}
use Rattle.js_base.specs.declared.kind.Kind.{Kind}
use Rattle.js_base.specs.declared.kind.Kind.TheVariants.{Comma, Dot3, RParen, RBrack, RCurly}
use Rattle.js_grammar.specs.Trees.{Label, Slots, end as no_slots, tree}
use Rattle.js_grammar.specs.Grammar.{Lexemes, empty_slot, seq, when, ◌▸◌}
use Rattle.js_grammar.specs.Marks.{EdgeOf}
use Rattle.js_grammar.specs.Parsing.{Fails}
use Rattle.js_grammar.specs.Productions.{G, Flags, sym, tok, items, opt, plus_in, BElement, BindingRest, Init}
use Rattle.js_grammar.specs.Table.{bound_rest, rest_of, rule}
use Rattle.laws_shared.specs.js_tree.declared.id.NodeId.{NodeId}
use Rattle.laws_shared.specs.js_tree.Holding.{Holds, Keeps}
use Rattle.laws_shared.specs.js_cursor.Parsers.{Parser}
use Rattle.laws_shared.specs.js_cursor.Places.{goal}
use Rattle.laws_shared.specs.js_cursor.declared.stop.Stop.{Stop}
use Rattle.laws_shared.specs.Answers.{Stops, Stretch, Verdict}
use Rattle.laws_shared.specs.Arguments.{PartTaken, behind_item}
use Rattle.laws_shared.specs.Lexemes.{Lex, Walked, spot}
use Rattle.laws_shared.specs.Lists.{NoneLeft, OneMore}
use Rattle.laws_shared.specs.States.{At, Same}
use Rattle.laws_patterns.specs.declared.forms.RestPlace.{RestPlace}
use Rattle.laws_patterns.specs.declared.forms.RestPlace.TheVariants.{Pattern, Parameters}

-- from an element of an array pattern, a hole or a rest on up to the closing bracket
abbrev pub elements_left : Flags → G
elements_left f = seq (items (seq empty_slot (tok Comma)) (sym BElement f) (rest_of f (sym BindingRest f))) (tok RBrack)

-- what closes a list
abbrev pub closers : List Kind
closers = RParen ∷ RBrack ∷ RCurly ∷ []

-- what is told of the initialiser of a rest
abbrev pub initialiser_kind : RestPlace → DiagnosticKind
initialiser_kind Pattern = ARestElementCannotHaveAnInitializer
initialiser_kind Parameters = ARestParameterCannotHaveAnInitializer

-- a lexeme begins there, before the place of the parser
pub record RestBegins (start : ℕ) (p : Parser) : Type 0 where
  pub edge : EdgeOf (goal p) p.text start
  pub between : IsCharBoundary p.text start
  pub before : start ≤ p.prev_token_end

-- the comma behind a rest, in the wider form; and the initialiser of what it binds
abbrev pub rest_comma : Flags → G
rest_comma f = opt (when f.wide (tok Comma))

abbrev pub rest_initialiser : Flags → G
rest_initialiser f = opt (when f.wide (sym Init (plus_in f)))

-- A part of a node was read, before what may stand behind an item of a list.
abbrev pub PartOutcome : List ℕ → Flags → G → Parser → Parser → Result NodeId Stop → Type 0
PartOutcome text f g p q (Ok id) = PartTaken text f g p q id
PartOutcome text f g p q (Err e) = Stops p q e (Fails rule (Lex text) behind_item no_slots g p.prev_token_end)

-- the initialiser of a rest was read
abbrev pub InitialisesRest : Parser → Parser → Result NodeId Stop → Type 0
InitialisesRest p q r = (text : List ℕ) (f : Flags) → At text f p → PartOutcome text f (rest_initialiser f) p q r

-- `...` and what it binds, by this grammar, were read from some state on, up to this one: its initialiser is left.
pub record RestBound (text : List ℕ) (f : Flags) (g : G) (first p : Parser) (bound : NodeId) : Type 0 where
  pub at : At text f p
  pub same : Same first p
  pub further : first.token.span.start < p.prev_token_end
  pub label : Label
  pub slots : Slots
  pub pass : Lexemes → Lexemes
  pub walked : Walked text (spot first) (spot p) pass
  pub verdict : Verdict (f.wide ≡ true) first.errors p.errors (Stretch text behind_item (tok Dot3 ▸ g ▸ rest_initialiser f) first.prev_token_end (rest_initialiser f) p.prev_token_end (tree label slots) pass) (Fails rule (Lex text) behind_item no_slots (tok Dot3 ▸ g ▸ rest_initialiser f) first.prev_token_end)
  pub holds : Holds p.nodes (length first.nodes) (length p.nodes) bound.0 label slots
  pub keeps : Keeps first.nodes p.nodes

-- The answer is of the state where the rest began.
abbrev pub FinishesRest : ℕ → NodeId → Parser → Parser → Result NodeId Stop → Type 0
FinishesRest start bound old new r = (text : List ℕ) (f : Flags) (g : G) (first : Parser) → At text f first → start ≡ first.token.span.start → RestBound text f g first old bound → PartOutcome text f (bound_rest f g) first new r

-- The closing bracket is due behind a rest; and so it is behind a comma that was passed and told.
abbrev pub EndsRest : Kind → Parser → Parser → Result (Unit {0}) Stop → Type 0
EndsRest k p q (Ok x) = (text : List ℕ) (f : Flags) → At text f p → (ids : List (Option NodeId)) → OneMore text f (seq (rest_comma f) (tok k)) (tok k) p q ids ids
EndsRest k p q (Err e) = (text : List ℕ) (f : Flags) → At text f p → Stops p q e (NoneLeft text (seq (rest_comma f) (tok k)) p.prev_token_end)
