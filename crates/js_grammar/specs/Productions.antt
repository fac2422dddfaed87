-- What the lines of the grammar are written in: nonterminals, their parameters, and words for right sides.
use Rattle.std.specs.Prelude.{◌-◌, ◌/◌, ◌%◌, nat_eq, ℕ, ◌+◌, Bool, true, false, not, cond, ◌&&◌, ◌||◌, List, [], ◌∷◌}
use Rattle.js_base.specs.declared.kind.Kind.{Kind}
use Rattle.js_base.specs.declared.kind.Kind.TheVariants.{LParen, RParen, LCurly, RCurly, Comma}
use Rattle.js_base.specs.Kinds.{same_kind, one_of_kinds}
use Rattle.js_grammar.specs.Words.{'function'}
use Rattle.js_grammar.specs.Trees.{NodeKind, function_expression, arrow_function_expression, Op, no_op, of, Label, Tree}
use Rattle.js_grammar.specs.Grammar.{Look, exact, Grammar, nothing, never, lexeme, look, ahead, empty_slot, ◌▸◌, ◌◇◌, many, such, node, is}
use Rattle.js_grammar.specs.Insertion.{may_bind}

-- The parameters of productions (ECMA-262, 5.1.5): In, Yield, Await, Return; and beside them whether `new.target` may stand, the goal, and what an option admits. A further part of the language is one more field.
pub record Flags : Type 0 where
  pub in_ : Bool
  pub yield_ : Bool
  pub await_ : Bool
  -- Under Await `await` is no name, which `await_` says, and it is an operator, which `awaits` says. In the parameters of an asynchronous arrow function that stands where Await is off it is neither: as arguments they are read without Await, and as parameters with it (15.9).
  pub awaits : Bool
  pub return_ : Bool
  -- within a function, a method, a field or a static block (13.3.12)
  pub new_target : Bool
  -- the text is a module (16.2)
  pub module_goal : Bool
  -- calls of V8's own functions, `%name(..)`
  pub v8 : Bool
  -- A cover grammar: an object literal may have a shorthand with an initialiser (CoverInitializedName, 13.2.5).
  pub cover : Bool
  -- An assignment target is taken in a wider form, as a parser meets it before it says what is wrong with it.
  pub wide : Bool

-- The nonterminals.
pub data Name : Type 0 where
  Program Directive Item ListItem Statement Sub Block Empty ExprStmt Var Lexical Init If Do While With For ForInit ForIn ForOf : Name
  Continue Break Return Throw Switch Case Try Catch Debugger Labeled : Name
  Function FuncExpr Params Param Rest Body Arrow' Class ClassExpr ClassBody Element Decorator DecoratorMember Object Property : Name
  Expression Assignment Yield Conditional Short Coalesce Or And BitOr BitXor BitAnd Equality Relational Shift Additive Multiply Exponent Unary Update : Name
  LeftHandSide New Member Call Chain Links Super Argument Primary Template : Name
  IdentifierReference BindingIdentifier LabelIdentifier IdentifierName PrivateName : Name
  SimpleTarget Target ArrayTarget ObjectTarget TargetElement TargetProperty Binding BElement Pattern PatternProperty BindingRest : Name
  ImportDecl Spec ExportName Attrs Attr ExportDecl LooseHead : Name

pub record Symbol : Type 0 where
  pub name : Name
  pub flags : Flags

abbrev pub G : Type 0
G = Grammar Symbol

-- Words for right sides.

abbrev pub at : Name → Flags → Symbol
at n f = record { name = n; flags = f }

abbrev pub always : Tree → Bool
always t = true

-- a nonterminal under these parameters
abbrev pub sym : Name → Flags → G
sym n f = such (at n f) always

-- a lexeme of this kind, without escape
abbrev pub tok : Kind → G
tok k = lexeme (is k)

abbrev pub any_of : List Kind → G
any_of ks = lexeme (λ k w e. one_of_kinds ks k && not e)

abbrev pub opt : G → G
opt g = g ◇ nothing

-- g, or an empty slot
abbrev pub slot : G → G
slot g = g ◇ empty_slot

-- g where b is true, else nothing
abbrev pub only : Bool → G → G
only b g = cond b g nothing

-- without, or with, something optional that a node's flag tells
abbrev pub each : (Bool → G) → G
each g = g false ◇ g true

-- one line for each of these kinds
abbrev pub branches : List Kind → (Kind → G) → G
branches [] g = never
branches (k ∷ []) g = g k
branches (k ∷ ks) g = g k ◇ branches ks g

-- a node of this kind, op and flags
abbrev pub make : NodeKind → Op → ℕ → G → G
make k o fl g = node (record { kind = k; op = o; flags = fl; extent = exact }) g

abbrev pub mk : NodeKind → G → G
mk k g = make k no_op 0 g

abbrev pub op : NodeKind → Kind → G → G
op k o g = make k (of o) 0 g

abbrev pub parens : G → G
parens g = tok LParen ▸ g ▸ tok RParen

abbrev pub braces : G → G
braces g = tok LCurly ▸ g ▸ tok RCurly

-- items with commas between; a comma may stand after an item, and after the last comma `z`; `gap` takes its comma itself
abbrev pub items : G → G → G → G
items gap item z = many (gap ◇ item ▸ tok Comma) ▸ (item ◇ z ◇ nothing)

-- What stands next.
abbrev pub other : Look → Look
other p k w e = not (p k w e)

abbrev pub if_next : Look → G
if_next p = look p

-- not p, or p and then not q
abbrev pub not_then : Look → Look → G
not_then p q = look (other p) ◇ ahead (lexeme p ▸ look (other q))

-- [no LineTerminator here]
abbrev pub no_newline : G
no_newline = if_next (λ k w e. not w)

abbrev pub function_on_line : Look
function_on_line k w e = same_kind 'function' k && not e && not w

abbrev pub is_one_of : List Kind → Look
is_one_of ks k w e = one_of_kinds ks k && not e

-- a word that may be a BindingIdentifier, or one of these
abbrev pub word_or : List Kind → Look
word_or ks k w e = may_bind k || one_of_kinds ks k

-- The flags of nodes: powers of two, in the order in which they are written.
abbrev pub prefix_flag : ℕ
prefix_flag = 1

abbrev pub optional_flag : ℕ
optional_flag = 2

abbrev pub computed_flag : ℕ
computed_flag = 4

abbrev pub shorthand_flag : ℕ
shorthand_flag = 8

abbrev pub method_flag : ℕ
method_flag = 16

abbrev pub async_flag : ℕ
async_flag = 32

abbrev pub generator_flag : ℕ
generator_flag = 64

abbrev pub delegate_flag : ℕ
delegate_flag = 128

abbrev pub static_flag : ℕ
static_flag = 256

abbrev pub await_flag : ℕ
await_flag = 512

abbrev pub tail_flag : ℕ
tail_flag = 1024

abbrev pub bare_flag : ℕ
bare_flag = 2048

abbrev pub pure_flag : ℕ
pure_flag = 4096

abbrev pub pife_flag : ℕ
pife_flag = 8192

-- whether this flag is among flags; flags without it
abbrev pub has_flag : ℕ → ℕ → Bool
has_flag f n = nat_eq (n / f % 2) 1

abbrev pub without_flag : ℕ → ℕ → ℕ
without_flag f n = cond (has_flag f n) (n - f) n

abbrev pub flag : Bool → ℕ → ℕ
flag b n = cond b n 0

-- a function or an arrow directly in parentheses
abbrev pub with_pife : Label → Label
with_pife l = cond (is_function l.kind) (record l { flags = l.flags + pife_flag }) l
  where
    is_function : NodeKind → Bool
    is_function function_expression = true
    is_function arrow_function_expression = true
    is_function _ = false

-- Parameters that a production sets.
abbrev pub plus_in : Flags → Flags
plus_in f = record f { in_ = true }

abbrev pub minus_in : Flags → Flags
minus_in f = record f { in_ = false }

abbrev pub params_of : Bool → Bool → Flags → Flags
params_of async star f = record f { in_ = true; new_target = true; yield_ = star; await_ = async; awaits = async }

abbrev pub body_of : Bool → Bool → Flags → Flags
body_of async star f = record f { in_ = true; new_target = true; yield_ = star; await_ = async; awaits = async; return_ = true }

abbrev pub field_of : Flags → Flags
field_of f = record f { in_ = true; new_target = true; yield_ = false; await_ = false; awaits = false }

abbrev pub static_of : Flags → Flags
static_of f = record f { in_ = true; await_ = true; awaits = true; new_target = true; yield_ = false; return_ = false }
