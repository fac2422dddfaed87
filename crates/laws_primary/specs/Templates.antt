-- What the parse functions of templates answer (ECMA-262, 13.2.8); behind an optional chain none may stand (13.3.1.1), so nothing is derived: it is told of, and passed.
use Rattle.std.specs.Prelude.{ℕ, ◌+◌, ◌-◌, ◌++◌, ◌≡◌, ◌<◌, ◌≤◌, ◌⊎◌, Bool, true, false, cond, List, [], ◌∷◌, Some, length, Result, Ok, Err}
use Rattle.js_base.specs.declared.kind.Kind.{Kind}
use Rattle.js_base.specs.declared.kind.Kind.TheVariants.{NoSubstitutionTemplate, TemplateHead, TemplateMiddle, TemplateTail, QuestionDot, RCurly}
use Rattle.js_base.specs.declared.diagnostic.Diagnostic.{Diagnostic}
use Rattle.js_base.specs.declared.diagnostic.DiagnosticKind.TheVariants.{OptionalChainTaggedTemplate}
use Rattle.js_base.specs.declared.span.Span.{Span}
use Rattle.js_base.specs.declared.token.Token.{Token}
use Rattle.js_base.specs.Kinds.{one_of_kinds}
use Rattle.js_grammar.specs.Trees.{Label, Slots, end, no_op, tagged_template_expression, template_element}
use Rattle.js_grammar.specs.Grammar.{Lexeme, Lexemes, many, nothing, ◌▸◌, ◌◇◌}
use Rattle.js_grammar.specs.Parsing.{Fails, full, plain}
use Rattle.js_grammar.specs.Table.{part, rule}
use Rattle.js_grammar.specs.Marks.{IsLexemeOf}
use Rattle.js_grammar.specs.Productions.{Flags, G, at, plus_in, tail_flag, Expression, Template}
use Rattle.js_grammar.specs.Productions.{sym as symbol}
use Rattle.laws_shared.specs.js_lex.Reading.{Tells}
use Rattle.laws_shared.specs.js_tree.declared.id.NodeId.{NodeId}
use Rattle.laws_shared.specs.js_tree.Holding.{Holds, Keeps}
use Rattle.laws_shared.specs.js_cursor.Parsers.{Parser}
use Rattle.laws_shared.specs.js_cursor.Places.{IsAt, goal}
use Rattle.laws_shared.specs.js_cursor.declared.stop.Stop.{Stop}
use Rattle.laws_shared.specs.Answers.{Grown, Numbered, Stops, Underived}
use Rattle.laws_shared.specs.Heads.{NotedHeads, widened}
use Rattle.laws_shared.specs.Lexemes.{Lex, IsNew, IsReread, KeptLast, News, Walked, onward, spot, template_tails, with_faults}
use Rattle.laws_shared.specs.Moves.{MadeHere}
use Rattle.laws_shared.specs.States.{At, Same, flags_of}
use Rattle.laws_shared.specs.Told.{unrelated_at}
use Rattle.laws_primary.specs.declared.forms.LinkBase.{LinkBase}
use Rattle.laws_primary.specs.declared.forms.PassedPart.{PassedPart}
use Rattle.laws_primary.specs.Members.{LinkForm, LinkHere, Linked, NoLink}

-- what a template begins with, and the last part of one
abbrev pub heads : List Kind
heads = NoSubstitutionTemplate ∷ TemplateHead ∷ []

abbrev pub last_parts : List Kind
last_parts = NoSubstitutionTemplate ∷ TemplateTail ∷ []

abbrev pub parts : List Kind
parts = NoSubstitutionTemplate ∷ TemplateHead ∷ TemplateMiddle ∷ TemplateTail ∷ []

-- where the inside of a part ends: before its backquote, or before `${`
abbrev pub inside_end : Token → ℕ
inside_end t = t.span.end - cond (one_of_kinds last_parts t.kind) 1 2

abbrev pub inside_fits : Token → Type 0
inside_fits t = t.span.start + 1 ≤ inside_end t

abbrev pub element_label : Bool → Span → Label
element_label last s = record { kind = template_element; op = no_op; flags = cond last tail_flag 0; span = record { from = s.start; to = s.end } }

-- ---- the parts of a template

-- A template part stands here, told whole: by the plain lexical goal, or by that of template parts.
pub record PartAt (text : List ℕ) (f : Flags) (p : Parser) : Type 0 where
  pub text_is : p.text ≡ text
  pub flags_are : widened f.wide (flags_of p) ≡ f
  pub at : IsAt p
  pub uncut : p.cut ≡ false
  pub part : one_of_kinds parts p.token.kind ≡ true
  pub begins : (y : Lexeme) → Lex text p.prev_token_end y → y.from ≡ p.token.span.start
  pub behind : p.prev_token_end ≤ p.token.span.start
  pub heads : NotedHeads p
  pub kept_last : KeptLast p.lexer p.token

abbrev pub StandingPart : Parser → Type 0
StandingPart p = PartAt p.text (flags_of p) p

-- what stands behind an Expression of a template: other parts with an Expression behind each, and the last part
abbrev pub tail_of : Flags → G
tail_of f = many (part 0 2 TemplateMiddle ▸ symbol Expression (plus_in f)) ▸ part tail_flag 1 TemplateTail

-- behind a part: nothing, if it was the last one
abbrev pub left_of : Bool → Flags → G
left_of true f = nothing
left_of false f = symbol Expression (plus_in f) ▸ tail_of f

-- the parts of a TemplateLiteral (13.2.8)
abbrev pub literal : Flags → G
literal f = part tail_flag 1 NoSubstitutionTemplate ◇ part 0 2 TemplateHead ▸ symbol Expression (plus_in f) ▸ tail_of f

-- no part stands here behind an Expression
abbrev pub NoTail : List ℕ → Flags → ℕ → Type 0
NoTail text f s = Fails rule (Lex text) (plain full) end (tail_of f) s

-- The `}` that stood here was read again as the beginning of a part, which stands here now.
pub record PartBegun (text : List ℕ) (f : Flags) (p q : Parser) : Type 0 where
  pub at : PartAt text f q
  pub same : Same p q
  pub nodes : q.nodes ≡ p.nodes
  pub kept : q.errors ≡ p.errors
  pub place : q.prev_token_end ≡ p.prev_token_end
  pub start : q.token.span.start ≡ p.token.span.start
  pub tail : one_of_kinds template_tails q.token.kind ≡ true
  pub closing : (y : Lexeme) → Lex text p.prev_token_end y → one_of_kinds (RCurly ∷ template_tails) y.kind ≡ true
  pub faults : List Diagnostic
  pub spot_is : spot q ≡ with_faults (spot p) faults
  pub reread : (y : Lexeme) → Lex text p.prev_token_end y → Tells y q.token → IsReread text (spot p) y faults

abbrev pub PartOutcome : List ℕ → Flags → Parser → Parser → Result (Unit {0}) Stop → Type 0
PartOutcome text f p q (Ok x) = PartBegun text f p q
PartOutcome text f p q (Err e) = Stops p q e (NoTail text f p.prev_token_end)

abbrev pub BeginsPart : Parser → Parser → Result (Unit {0}) Stop → Type 0
BeginsPart p q r = (text : List ℕ) (f : Flags) → At text f p → PartOutcome text f p q r

-- The last lexeme before the place is of this kind.
pub record LastIs (p : Parser) (k : Kind) : Type 0 where
  pub lexeme : Lexeme
  pub of_text : IsLexemeOf (goal p) p.text lexeme
  pub ends : lexeme.to ≡ p.prev_token_end
  pub is : lexeme.kind ≡ k

-- A part was passed, and its node was made.
pub record PartTaken (text : List ℕ) (f : Flags) (p q : Parser) (id : NodeId) (is_last : Bool) : Type 0 where
  pub at : At text f q
  pub same : Same p q
  pub kept : q.errors ≡ p.errors
  pub further : p.token.span.start < q.prev_token_end
  pub lexeme : Lexeme
  pub stands : Lex text p.prev_token_end lexeme
  pub tells : Tells lexeme p.token
  pub ends : lexeme.to ≡ q.prev_token_end
  pub news : News
  pub is_new : IsNew text (spot p) lexeme news
  pub spot_is : spot q ≡ onward (spot p) lexeme news
  pub holds : Holds q.nodes (length p.nodes) (length q.nodes) id.0 (element_label is_last (record { start = p.token.span.start + 1; end = inside_end p.token })) end
  pub keeps : Keeps p.nodes q.nodes
  pub last : LastIs q p.token.kind
  pub is : is_last ≡ one_of_kinds last_parts p.token.kind

abbrev pub TakesPart : PassedPart → Parser → Parser → Type 0
TakesPart part p q = (text : List ℕ) (f : Flags) → PartAt text f p → PartTaken text f p q part.element part.is_last

-- a whole template, whose last lexeme is a last part
pub record TemplateTaken (text : List ℕ) (f : Flags) (p q : Parser) (id : NodeId) : Type 0 where
  pub read : Numbered text f (at Template f) p q id
  pub kind : Kind
  pub last : LastIs q kind
  pub is_last : one_of_kinds last_parts kind ≡ true

abbrev pub TemplateOutcome : List ℕ → Flags → Parser → Parser → Result NodeId Stop → Type 0
TemplateOutcome text f p q (Ok id) = TemplateTaken text f p q id
TemplateOutcome text f p q (Err e) = Stops p q e (Underived text (at Template f) p.prev_token_end)

abbrev pub TakesTemplate : Parser → Parser → Result NodeId Stop → Type 0
TakesTemplate p q r = (text : List ℕ) (f : Flags) → At text f p → TemplateOutcome text f p q r

-- ---- a template behind an optional chain

-- `?.` stands here, or the beginning of a template
abbrev pub TagSign : List ℕ → ℕ → Type 0
TagSign text s = (k : Kind) × (one_of_kinds (QuestionDot ∷ heads) k ≡ true) × ((y : Lexeme) → Lex text s y → (y.kind ≡ k) × (y.escaped ≡ false))

abbrev pub tagged_label : ℕ → ℕ → Label
tagged_label from to = record { kind = tagged_template_expression; op = no_op; flags = 0; span = record { from = from; to = to } }

-- Behind what stood before, and `?.` or not, a template was passed and told of, and a node was made around both. No link of a chain can be read there: a template stands there, or behind `?.`.
pub record Tagged (text : List ℕ) (f : Flags) (start : ℕ) (left : NodeId) (p q : Parser) (id : NodeId) : Type 0 where
  pub sign : TagSign text p.prev_token_end
  pub none : (c : LinkForm) (o : Bool) → NoLink text f p.prev_token_end c o
  pub behind : Parser
  pub template : NodeId
  pub at : At text f behind
  pub same : Same p behind
  pub further : p.token.span.start < behind.prev_token_end
  pub grown : Grown p.errors behind.errors
  pub pass : Lexemes → Lexemes
  pub walked : Walked text (spot p) (spot behind) pass
  pub label : Label
  pub slots : Slots
  pub holds : Holds behind.nodes (length p.nodes) (length behind.nodes) template.0 label slots
  pub keeps : Keeps p.nodes behind.nodes
  pub made : MadeHere (tagged_label start behind.prev_token_end) (Some left ∷ Some template ∷ []) behind q id

abbrev pub TagOutcome : List ℕ → Flags → ℕ → NodeId → Parser → Parser → Result NodeId Stop → Type 0
TagOutcome text f start left p q (Ok id) = Tagged text f start left p q id
TagOutcome text f start left p q (Err e) = Stops p q e ((c : LinkForm) (o : Bool) → NoLink text f p.prev_token_end c o)

abbrev pub TagsTemplate : ℕ → NodeId → Parser → Parser → Result NodeId Stop → Type 0
TagsTemplate start left p q r = (text : List ℕ) (f : Flags) → At text f p → TagOutcome text f start left p q r

-- The diagnostic that was kept last is of a template that began where the call did, and ended where the call did, with a last part.
abbrev pub TellsTemplate : Parser → Parser → Type 0
TellsTemplate p q = (before : List Diagnostic) × (q.errors ≡ (p.errors ++ before) ++ unrelated_at OptionalChainTaggedTemplate (record { start = p.token.span.start; end = q.prev_token_end }) ∷ []) × (k : Kind) × LastIs q k × (one_of_kinds last_parts k ≡ true)

-- a link of an optional chain, or a template
abbrev pub ChainLinkOutcome : List ℕ → Flags → ℕ → NodeId → Parser → Parser → Result NodeId Stop → Type 0
ChainLinkOutcome text f start left p q (Ok id) = Linked text f start left p q id ⊎ Tagged text f start left p q id
ChainLinkOutcome text f start left p q (Err e) = Stops p q e ((c : LinkForm) (o : Bool) → NoLink text f p.prev_token_end c o)

abbrev pub ReadsChainLink : ℕ → NodeId → Parser → Parser → Result NodeId Stop → Type 0
ReadsChainLink start left p q r = (text : List ℕ) (f : Flags) → At text f p → ChainLinkOutcome text f start left p q r

-- whether a link stands here that goes on with such a base, or a template
abbrev pub GoesOn : LinkBase → Parser → Bool → Type 0
GoesOn b p true = LinkHere p b true ⊎ (one_of_kinds heads p.token.kind ≡ true)
GoesOn b p false = LinkHere p b false × (one_of_kinds heads p.token.kind ≡ false)

-- ---- a tagged template

-- A template was read, and a node was made around what stood before and this.
pub record Templated (text : List ℕ) (f : Flags) (start : ℕ) (left : NodeId) (p q : Parser) (id : NodeId) : Type 0 where
  pub sign : one_of_kinds heads p.token.kind ≡ true
  pub behind : Parser
  pub template : NodeId
  pub taken : Numbered text f (at Template f) p behind template
  pub made : MadeHere (tagged_label start behind.prev_token_end) (Some left ∷ Some template ∷ []) behind q id

abbrev pub TaggedOutcome : List ℕ → Flags → ℕ → NodeId → Parser → Parser → Result NodeId Stop → Type 0
TaggedOutcome text f start left p q (Ok id) = Templated text f start left p q id
TaggedOutcome text f start left p q (Err e) = Stops p q e (Underived text (at Template f) p.prev_token_end)

abbrev pub ReadsTagged : ℕ → NodeId → Parser → Parser → Result NodeId Stop → Type 0
ReadsTagged start left p q r = (text : List ℕ) (f : Flags) → At text f p → TaggedOutcome text f start left p q r
