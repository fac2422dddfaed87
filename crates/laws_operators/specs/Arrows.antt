-- What the parse functions of arrow functions answer (ECMA-262, 15.3 and 15.9).
use Rattle.std.specs.Prelude.{ℕ, ◌≡◌, ◌≤◌, ◌<◌, ◌+◌, ◌⊎◌, slice_index, Bool, true, false, not, ◌||◌, IsTrue, List, Option, Some, None, length, Result, Ok, Err}
use Rattle.js_base.specs.Contexts.{bits_of}
use Rattle.js_base.specs.declared.context.Context.{Context}
use Rattle.js_base.specs.declared.diagnostic.Diagnostic.{Diagnostic}
use Rattle.js_base.specs.declared.diagnostic.DiagnosticKind.TheVariants.{LineterminatorBeforeArrow}
use Rattle.js_base.specs.declared.kind.Kind.TheVariants.{Arrow, Async, LCurly, LParen}
use Rattle.js_base.specs.declared.span.Span.{Span}
use Rattle.js_base.specs.Kinds.{same_kind, one_of_kinds}
use Rattle.js_base.specs.KindSets.{binding_identifier_kinds}
use Rattle.js_grammar.specs.Trees.{Label, Slots, end as no_slots, tree, no_op, formal_parameters, formal_parameter, arrow_function_expression}
use Rattle.js_grammar.specs.Insertion.{may_bind}
use Rattle.js_grammar.specs.Grammar.{Lexeme, Lexemes, Takes, here, empty_slot, nothing, such, ◌▸◌, ◌◇◌}
use Rattle.js_grammar.specs.Follow.{after}
use Rattle.js_grammar.specs.Lexed.{Lexes}
use Rattle.js_grammar.specs.Parsing.{plain, full, always, still, Fails, Goes}
use Rattle.js_grammar.specs.Productions.{G, Flags, Symbol, at, sym, tok, mk, only, no_newline, flag, async_flag, generator_flag, Arrow', Assignment, BindingIdentifier, Body, Params, Short}
use Rattle.js_grammar.specs.Table.{args, rule}
use Rattle.laws_shared.specs.js_tree.declared.id.NodeId.{NodeId}
use Rattle.laws_shared.specs.js_tree.declared.kind.NodeKind.TheVariants.{ParenthesizedExpression}
use Rattle.laws_shared.specs.js_tree.Nodes.{node_at}
use Rattle.laws_shared.specs.js_tree.Holding.{Holds, Keeps}
use Rattle.laws_shared.specs.js_cursor.Checkpoints.{GoesOn}
use Rattle.laws_shared.specs.js_cursor.Moves.{KeepsDiagnostic}
use Rattle.laws_shared.specs.js_cursor.Notes.{is_noted, is_place}
use Rattle.laws_shared.specs.js_cursor.Parsers.{Parser}
use Rattle.laws_shared.specs.js_cursor.declared.stop.Stop.{Stop}
use Rattle.laws_shared.specs.js_cursor.declared.stop.Stop.TheVariants.{Fatal}
use Rattle.laws_shared.specs.Answers.{Answers, Grown, Outcome, Stops, Stretch, Underived}
use Rattle.laws_shared.specs.Contexts.{EntersAsyncHead, arrow_body, arrow_head, braced_body}
use Rattle.laws_shared.specs.Heads.{NoHead, NotedHeads, OnlyArrow}
use Rattle.laws_shared.specs.Lexemes.{Lex, Walked, spot}
use Rattle.laws_shared.specs.Moves.{Moved}
use Rattle.laws_shared.specs.Stands.{StandsHere}
use Rattle.laws_shared.specs.States.{At, Same, NodesLie, SpansLie}
use Rattle.parse_targets.specs.Others.{NoYield}
use Rattle.laws_operators.specs.declared.forms.ArrowHead.{ArrowHead}
use Rattle.laws_operators.specs.Closings.{NotesMore}
use Rattle.laws_operators.specs.HeadOperands.{NoTargetSeen}

-- what stands before `=>`: a name, or parameters in parentheses
abbrev pub head_of : Flags → G
head_of f = mk formal_parameters (mk formal_parameter (sym BindingIdentifier f ▸ empty_slot)) ◇ sym Params f

-- such a head with `=>` behind it, on its line or on another
abbrev pub line_of : Flags → G
line_of f = head_of f ▸ tok Arrow

-- the word before it, on its line
abbrev pub lead_of : Bool → G
lead_of a = only a (tok Async ▸ no_newline)

-- none is derived from the place
abbrev pub NoLine : List ℕ → Flags → ℕ → Type 0
NoLine text f s = Fails rule (Lex text) (plain full) no_slots (line_of f) s

-- none of an arrow function, with `async` before it or without
abbrev pub NoLed : Bool → List ℕ → Flags → ℕ → Type 0
NoLed a text f s = Fails rule (Lex text) (plain full) no_slots (lead_of a ▸ line_of (arrow_head a f)) s

-- no arrow function is derived here
abbrev pub NoArrowHere : Parser → Type 0
NoArrowHere p = (text : List ℕ) (f : Flags) → At text f p → Underived text (at Arrow' f) p.prev_token_end

-- no head is derived here; none behind `async`
abbrev pub NoLineHere : Parser → Type 0
NoLineHere p = (text : List ℕ) (f : Flags) → At text f p → NoLine text f p.prev_token_end

abbrev pub NoAsyncHere : Parser → Type 0
NoAsyncHere p = (text : List ℕ) (f : Flags) → At text f p → NoLed true text f p.prev_token_end

-- no operand is derived here
abbrev pub NoOperandHere : Parser → Type 0
NoOperandHere p = (text : List ℕ) (f : Flags) → At text f p → Underived text (at Short f) p.prev_token_end

-- nothing was told; or, in wider forms, something was
abbrev pub Quiet : Flags → Parser → Parser → Type 0
Quiet f p q = (q.errors ≡ p.errors) ⊎ ((f.wide ≡ true) × Grown p.errors q.errors)

-- A head that stands under these parameters was read, under the parameters g, and nothing was told of it, or no more than what a wider form lets in: a node made in the call stands for its tree.
pub record Head (text : List ℕ) (f g : Flags) (p q : Parser) (id : NodeId) : Type 0 where
  pub at : At text f q
  pub same : Same p q
  pub further : p.token.span.start < q.prev_token_end
  pub quiet : Quiet f p q
  pub label : Label
  pub slots : Slots
  pub pass : Lexemes → Lexemes
  pub walked : Walked text (spot p) (spot q) pass
  pub read : Stretch text (plain full) (head_of g) p.prev_token_end nothing q.prev_token_end (tree label slots) pass
  pub holds : Holds q.nodes (length p.nodes) (length q.nodes) id.0 label slots
  pub keeps : Keeps p.nodes q.nodes

-- What stands before `=>` was read, and something was told of it.
pub record ToldHead (text : List ℕ) (f : Flags) (p q : Parser) (id : NodeId) : Type 0 where
  pub at : At text f q
  pub same : Same p q
  pub further : p.token.span.start < q.prev_token_end
  pub grown : Grown p.errors q.errors
  pub label : Label
  pub slots : Slots
  pub pass : Lexemes → Lexemes
  pub walked : Walked text (spot p) (spot q) pass
  pub holds : Holds q.nodes (length p.nodes) (length q.nodes) id.0 label slots
  pub keeps : Keeps p.nodes q.nodes

-- What stands before `=>`, without `async`: no operand begins with it. Where something was told of it, no assignment is derived from there, neither behind a head nor as an expression.
pub data PlainHead (text : List ℕ) (f : Flags) (o p : Parser) (id : NodeId) : Type 0 where
  a_head : Head text f f o p id → NoYield text f o.prev_token_end → Underived text (at Short f) o.prev_token_end → PlainHead text f o p id
  told_head : ToldHead text f o p id → Underived text (at Assignment f) o.prev_token_end → PlainHead text f o p id

abbrev pub IsHeadHere : Parser → Parser → NodeId → Type 0
IsHeadHere p q id = (q.token.kind ≡ Arrow) × ((text : List ℕ) (f : Flags) → At text f p → PlainHead text f p q id) × NoOperandHere p

-- `async` was passed, and what stands behind it stands on its line.
pub record AsyncPassed (text : List ℕ) (f : Flags) (o p : Parser) : Type 0 where
  pub at : At text f o
  pub kind : o.token.kind ≡ Async
  pub plain : o.token.escaped ≡ false
  pub moved : Moved text f o p
  pub on_line : p.token.is_on_new_line ≡ false

abbrev pub Leads : Bool → List ℕ → Flags → Parser → Parser → Type 0
Leads true text f o p = AsyncPassed text f o p
Leads false text f o p = p ≡ o

-- From the place an AssignmentExpression is an arrow function alone, with `async` before it or without.
pub record OnlyLed (a : Bool) (text : List ℕ) (f : Flags) (s : ℕ) : Type 0 where
  pub arrow : Goes rule (Lex text) (after (at Assignment f)) no_slots (rule (at Assignment f)) s (such (at Arrow' f) always) s (λ us. us) (still 0)
  pub other : NoLed (not a) text f s

-- What stands before `=>`, from the state o on, with `async` before it or without; or something was told of it, and no assignment is derived from there.
pub data BeforeArrow (a : Bool) (text : List ℕ) (f : Flags) (o p : Parser) (id : NodeId) : Type 0 where
  led_head : (l : Parser) → Leads a text f o l → Head text f (arrow_head a f) l p id → OnlyLed a text f o.prev_token_end → BeforeArrow a text f o p id
  told_led : ToldHead text f o p id → Underived text (at Assignment f) o.prev_token_end → BeforeArrow a text f o p id

abbrev pub NoTargetHere : Parser → Type 0
NoTargetHere p = (text : List ℕ) (f : Flags) → At text f p → f.in_ ≡ false → NoTargetSeen text f p

abbrev pub IsHeadBefore : Bool → Parser → Parser → NodeId → Type 0
IsHeadBefore a p q id = (q.token.kind ≡ Arrow) × ((text : List ℕ) (f : Flags) → At text f p → BeforeArrow a text f p q id) × NoTargetHere p

-- Parameters in parentheses were read, under the parameters g, and `=>` stands behind them; or something was told of them, and no such parameters are derived there.
pub data HeadRead (text : List ℕ) (f g : Flags) (o p : Parser) (id : NodeId) : Type 0 where
  read_clean : Head text f g o p id → HeadRead text f g o p id
  read_unclean : ToldHead text f o p id → NoHead text g o.prev_token_end → HeadRead text f g o p id

abbrev pub IsHeadRead : Bool → Parser → Parser → NodeId → Type 0
IsHeadRead a p q id = (q.token.kind ≡ Arrow) × ((text : List ℕ) (f : Flags) → At text f p → HeadRead text f (arrow_head a f) p q id)

-- no slash stands in the text between two places
abbrev pub NoSlash : List ℕ → ℕ → ℕ → Type 0
NoSlash text s e = (k : ℕ) → s ≤ k → k < e → slice_index text k ≡ 47 → ⊥

abbrev pub SlashFound : List ℕ → ℕ → ℕ → Bool → Type 0
SlashFound text s e true = Unit {0}
SlashFound text s e false = NoSlash text s e

-- It's noted that behind arguments there `=>` stands, or behind the parentheses that begin there; or nothing was told since there were so many diagnostics, and no slash stands in the head that was read from the place on.
abbrev pub OperandExcluded : ℕ → ℕ → Parser → Parser → Bool → Type 0
OperandExcluded place kept p q true = NotesMore p q × (((bits_of q.ctx < 65536) × (is_noted q.state.operands q.ctx place ≡ true)) ⊎ ((is_place q.state.arrows place ≡ true) ⊎ ((length q.errors ≡ kept) × NoSlash q.text place q.token.span.start)))
OperandExcluded place kept p q false = NotesMore p q

-- behind arguments that are derived from here `=>` stands
abbrev pub OnlyArrowHere : Parser → Type 0
OnlyArrowHere p = (text : List ℕ) (f : Flags) → At text f p → OnlyArrow text f p.prev_token_end

-- The parser is where it was; nodes may have been made.
pub record Unmoved (p q : Parser) : Type 0 where
  pub at : (text : List ℕ) (f : Flags) → At text f p → At text f q
  pub same : Same p q
  pub kept : q.errors ≡ p.errors
  pub place : q.prev_token_end ≡ p.prev_token_end
  pub spot_is : spot q ≡ spot p
  pub start : q.token.span.start ≡ p.token.span.start
  pub kind : q.token.kind ≡ p.token.kind
  pub keeps : Keeps p.nodes q.nodes

-- a head was read; or none stands here, and the parser is where it was
abbrev pub FindsHead : Parser → Parser → Option NodeId → Type 0
FindsHead p q (Some id) = IsHeadHere p q id
FindsHead p q None = Unmoved p q × NoLineHere p

-- `=>` stands behind the current lexeme
abbrev pub ArrowThere : Parser → Type 0
ArrowThere p = (text : List ℕ) (f : Flags) → At text f p → (y : Lexeme) × Lex text p.token.span.end y × (y.kind ≡ Arrow)

-- whether it does
abbrev pub ArrowBehind : Parser → Parser → Bool → Type 0
ArrowBehind p q true = (q ≡ p) × ArrowThere p
ArrowBehind p q false = (q ≡ p) × ((text : List ℕ) (f : Flags) → At text f p → (y : Lexeme) → Lex text p.token.span.end y → y.kind ≡ Arrow → ⊥)

-- the same of a name, of which nothing is told
abbrev pub NamesHead : Parser → Parser → Option NodeId → Type 0
NamesHead p q (Some id) = (q.token.kind ≡ Arrow) × ((text : List ℕ) (f : Flags) → At text f p → Head text f f p q id) × ArrowThere p
NamesHead p q None = Unmoved p q × NoLineHere p

-- nothing is derived here
abbrev pub NoAssignment : Parser → Parser → Stop → Type 0
NoAssignment p q e = (text : List ℕ) (f : Flags) → At text f p → Stops p q e (Underived text (at Assignment f) p.prev_token_end)

-- the same, or nothing is derived here, no operand either
abbrev pub SearchesPlainHead : Parser → Parser → Result (Option NodeId) Stop → Type 0
SearchesPlainHead p q (Ok found) = FindsHead p q found
SearchesPlainHead p q (Err e) = NoAssignment p q e × (e ≡ Fatal → NoOperandHere p)

-- a head behind `async` was read; or none stands here, and the parser is where it was
abbrev pub FindsAsyncHead : Parser → Parser → Option NodeId → Type 0
FindsAsyncHead p q (Some id) = IsHeadBefore true p q id
FindsAsyncHead p q None = Unmoved p q × NoAsyncHere p

-- a head was read, with `async` or without; or none stands here, and the parser is where it was
abbrev pub FindsAnyHead : Parser → Parser → Option ArrowHead → Type 0
FindsAnyHead p q (Some head) = IsHeadBefore head.is_async p q head.parameters
FindsAnyHead p q None = Unmoved p q × NoArrowHere p

abbrev pub SearchesHead : Parser → Parser → Result (Option ArrowHead) Stop → Type 0
SearchesHead p q (Ok found) = FindsAnyHead p q found
SearchesHead p q (Err e) = NoAssignment p q e × (e ≡ Fatal → NoOperandHere p)

-- these parameters as a head, behind `async` or not
abbrev pub IsHeadOf : Bool → Option NodeId → Option ArrowHead → Type 0
IsHeadOf a (Some id) r = r ≡ Some (record { is_async = a; parameters = id })
IsHeadOf a None r = r ≡ None

-- a head was read, or nothing is derived here
abbrev pub ReadsHead : Parser → Parser → Result NodeId Stop → Type 0
ReadsHead p q (Ok id) = IsHeadHere p q id
ReadsHead p q (Err e) = NoAssignment p q e × NoOperandHere p

-- a name or a parenthesis stands behind the place, on the same line
abbrev pub BehindWord : List ℕ → ℕ → Type 0
BehindWord text s = (y : Lexeme) → Lex text s y → (y.newline ≡ false) × IsTrue (may_bind y.kind || same_kind LParen y.kind)

-- whether `async` stands here with such behind it; if not, no arrow function begins with it
abbrev pub AsyncHeadBegins : Parser → Parser → Bool → Type 0
AsyncHeadBegins p q true = (q ≡ p) × StandsHere p Async true × ((text : List ℕ) (f : Flags) → At text f p → BehindWord text p.token.span.end)
AsyncHeadBegins p q false = (q ≡ p) × NoAsyncHere p

-- the parser went on, and the nodes that were made since lie in the text
abbrev pub WentOn : Parser → Parser → Type 0
WentOn p q = GoesOn p q × NotedHeads q × (SpansLie p → NodesLie q.text q.nodes)

-- no parameters in parentheses with `=>` behind them are derived here, behind `async` or not
abbrev pub NoHeadHere : Bool → Parser → Type 0
NoHeadHere a p = (text : List ℕ) (f : Flags) → At text f p → NoHead text (arrow_head a f) p.prev_token_end

-- Behind `async` parameters were read, and behind arguments `=>` stands; or a name was, with `=>` behind it.
pub data AsyncHead (text : List ℕ) (f : Flags) (p q : Parser) (id : NodeId) : Type 0 where
  list_head : p.token.kind ≡ LParen → HeadRead text f (arrow_head true f) p q id → OnlyArrow text f p.prev_token_end → AsyncHead text f p q id
  name_head : one_of_kinds binding_identifier_kinds p.token.kind ≡ true → Head text f (arrow_head true f) p q id → ((y : Lexeme) → Lex text p.token.span.end y → y.kind ≡ Arrow) → AsyncHead text f p q id

-- Behind `async` a head was read; or none stands there, and the parser went on.
abbrev pub HeadBehindAsync : Parser → Parser → Option NodeId → Type 0
HeadBehindAsync p q (Some id) = (q.token.kind ≡ Arrow) × ((text : List ℕ) (f : Flags) → At text f p → AsyncHead text f p q id)
HeadBehindAsync p q None = WentOn p q × ((text : List ℕ) (f : Flags) → At text f p → NoLine text (arrow_head true f) p.prev_token_end)

-- the same of parameters in parentheses, behind `async` or not; where none stand, the parser is where it was
abbrev pub AttemptsHead : Bool → Parser → Parser → Option NodeId → Type 0
AttemptsHead a p q (Some id) = IsHeadRead a p q id × OnlyArrowHere p
AttemptsHead a p q None = Unmoved p q × NoHeadHere a p

-- and whatever else may stand there
abbrev pub TriesHead : Bool → Parser → Parser → Option NodeId → Type 0
TriesHead a p q (Some id) = IsHeadRead a p q id
TriesHead a p q None = Unmoved p q × NoHeadHere a p

-- the same under the parameters in force
abbrev pub ParametersRead : Parser → Parser → NodeId → Type 0
ParametersRead p q id = (q.token.kind ≡ Arrow) × ((text : List ℕ) (f : Flags) → At text f p → HeadRead text f f p q id)

abbrev pub NoParametersHere : Parser → Type 0
NoParametersHere p = (text : List ℕ) (f : Flags) → At text f p → NoHead text f p.prev_token_end

abbrev pub TriesParameters : Parser → Parser → Option NodeId → Type 0
TriesParameters p q (Some id) = ParametersRead p q id
TriesParameters p q None = Unmoved p q × NoParametersHere p

-- a head was read; or none stands here, and the parser went on
abbrev pub LooksForHead : Parser → Parser → Option NodeId → Type 0
LooksForHead p q (Some id) = ParametersRead p q id
LooksForHead p q None = WentOn p q × NoParametersHere p

-- parameters are derived from the place, and `=>` stands behind them
pub record HeadDerived (text : List ℕ) (g : Flags) (s : ℕ) : Type 0 where
  pub lexemes : Lexemes
  pub lexed : Lexes (Lex text) s lexemes
  pub slots : Slots
  pub end : ℕ
  pub rest : Lexemes
  pub derived : Takes rule (sym Params g) no_slots slots s lexemes no_slots end rest
  pub arrow : same_kind Arrow (here rest).kind ≡ true

-- such are derived from here, behind `async` or not
abbrev pub HeadStands : Bool → Parser → Type 0
HeadStands a p = (text : List ℕ) (f : Flags) → At text f p → HeadDerived text (arrow_head a f) p.prev_token_end

-- behind no arguments that are derived from the place `=>` stands
abbrev pub NeverArrow : List ℕ → Flags → ℕ → Type 0
NeverArrow text f s = Fails rule (Lex text) (plain (λ k w e. same_kind Arrow k)) no_slots (args f) s

-- `=>` stands behind all arguments that are derived from here, or behind none; and the parser went on
abbrev pub ArgumentsTold : Parser → Parser → Bool → Type 0
ArgumentsTold p q true = WentOn p q × OnlyArrowHere p
ArgumentsTold p q false = WentOn p q × ((text : List ℕ) (f : Flags) → At text f p → NeverArrow text f p.prev_token_end)

-- from what is in force to what is in the parameters of an arrow function, behind `async` or not
abbrev pub EntersHead : Bool → Context → Context → Type 0
EntersHead true old new = EntersAsyncHead old new
EntersHead false old new = new ≡ old

-- a name was read as a head
abbrev pub Single : Parser → Parser → NodeId → Type 0
Single p q id = (q.prev_token_end ≡ p.token.span.end) × ((text : List ℕ) (f : Flags) → At text f p → Head text f f p q id)

-- of `=>` on a new line this is told
abbrev pub late_arrow : Span → Diagnostic
late_arrow s = record { kind = LineterminatorBeforeArrow; span = s; first = None; second = None }

abbrev pub ChecksLine : Parser → Parser → Type 0
ChecksLine p q = ((p.token.is_on_new_line ≡ true) × KeepsDiagnostic (late_arrow p.token.span) p q) ⊎ ((p.token.is_on_new_line ≡ false) × (q ≡ p))

-- `=>` stands here, behind parentheses of which more was told than so many diagnostics
abbrev pub IsRefusedHead : NodeId → ℕ → Parser → Bool → Type 0
IsRefusedHead id kept p true = (length p.errors ≡ kept → ⊥) × (p.token.kind ≡ Arrow) × ((node_at p.nodes id).kind ≡ ParenthesizedExpression)
IsRefusedHead id kept p false = Unit {0}

-- the nonterminal of the body, of an asynchronous arrow function or another one: in braces, or an expression
abbrev pub body_of : Bool → Bool → Flags → Symbol
body_of true a f = at Body (braced_body a f)
body_of false a f = at Assignment (arrow_body a f)

-- a body in braces was read where a brace stands, else an expression
abbrev pub ReadsArrowBody : Bool → Parser → Parser → Result NodeId Stop → Type 0
ReadsArrowBody a p q r = (b : Bool) × (same_kind LCurly p.token.kind ≡ b) × Answers (body_of b a) p q r

-- the label of an arrow function
abbrev pub arrow_label : Bool → Span → Label
arrow_label a s = record { kind = arrow_function_expression; op = no_op; flags = flag a async_flag + flag false generator_flag; span = record { from = s.start; to = s.end } }

-- An arrow function is read on from its `=>`: what stands before that was read from the state o on.
abbrev pub ReadsBody : ℕ → ArrowHead → Parser → Parser → Result NodeId Stop → Type 0
ReadsBody start head p q r = (text : List ℕ) (f : Flags) (o : Parser) → At text f o → start ≡ o.token.span.start → BeforeArrow head.is_async text f o p head.parameters → Outcome text f (at Assignment f) o q r
