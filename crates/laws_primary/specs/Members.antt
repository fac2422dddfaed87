-- What the parse functions of members, `new` and optional chains answer (ECMA-262, 13.3): how much was taken, and which nonterminals that is.
use Rattle.laws_shared.specs.Stands.{StandsHere}
use Rattle.std.specs.Prelude.{ℕ, ◌≡◌, ◌<◌, ◌≤◌, ◌⊎◌, Bool, true, false, cond, List, [], ◌∷◌, Option, Some, None, not, length, Result, Ok, Err}
use Rattle.js_base.specs.declared.diagnostic.Diagnostic.{Diagnostic}
use Rattle.js_base.specs.declared.diagnostic.DiagnosticKind.TheVariants.{InvalidNewOptionalChain, IdentifierExpectedAfterQuestionDot}
use Rattle.js_base.specs.declared.span.Span.{Span}
use Rattle.js_base.specs.declared.kind.Kind.{Kind}
use Rattle.js_base.specs.declared.kind.Kind.TheVariants.{Comma, Import, New, Dot, QuestionDot, LParen, LBrack, NoSubstitutionTemplate, PrivateIdentifier, RBrack, TemplateHead}
use Rattle.js_base.specs.KindSets.{identifier_name_kinds}
use Rattle.js_base.specs.Kinds.{one_of_kinds}
use Rattle.js_grammar.specs.Trees.{NodeKind as TreeKind, Slots, end, tree, Label, no_op, static_member_expression, computed_member_expression, private_field_expression, call_expression, new_expression, super_expression}
use Rattle.js_grammar.specs.Grammar.{Lexeme, Lexemes, is, such, nothing, ◌▸◌}
use Rattle.js_grammar.specs.Follow.{row_of, after}
use Rattle.js_grammar.specs.Insertion.{after_expression}
use Rattle.js_grammar.specs.Parsing.{Test, Fails, always, plain, full}
use Rattle.js_grammar.specs.Productions.{G, Flags, Symbol, at, mk, opt, parens, slot, tok, optional_flag, plus_in, Assignment, Member, Call, Links, Super, LeftHandSide, IdentifierName, PrivateName, Expression}
use Rattle.js_grammar.specs.Productions.{New as new_symbol, sym as symbol}
use Rattle.js_grammar.specs.Table.{rule, args}
use Rattle.js_grammar.specs.RightEdges.{same_row}
use Rattle.js_grammar.specs.Towers.{Link, link, Tower, Around}
use Rattle.js_grammar.specs.Chains.{members, calls, chains}
use Rattle.laws_shared.specs.js_tree.declared.id.NodeId.{NodeId}
use Rattle.laws_shared.specs.js_tree.Holding.{Holds, Keeps}
use Rattle.laws_shared.specs.js_cursor.Parsers.{Parser}
use Rattle.laws_shared.specs.js_cursor.declared.stop.Stop.{Stop}
use Rattle.laws_shared.specs.Lexemes.{Lex, Walked, spot}
use Rattle.laws_shared.specs.States.{At, Same}
use Rattle.laws_shared.specs.Moves.{MadeHere}
use Rattle.laws_shared.specs.Arguments.{Partway, Arguments, NoArguments}
use Rattle.laws_shared.specs.js_tree.declared.kind.NodeKind.{NodeKind}
use Rattle.laws_shared.specs.js_tree.declared.kind.NodeKind.TheVariants.{V8IntrinsicExpression}
use Rattle.laws_shared.specs.js_tree.Labels.{kind_of}
use Rattle.laws_primary.specs.declared.forms.LinkBase.{LinkBase}
use Rattle.laws_primary.specs.declared.forms.LinkBase.TheVariants.{Member as OfMember, Call as OfCall, Chain as OfChain}
use Rattle.laws_shared.specs.Answers.{Verdict, Stretch, Underived, Numbered, Outcome, Stops}

-- what is told of a `?.` behind what `new` stands before
abbrev pub TellsChain : Span → Diagnostic → Type 0
TellsChain s d = (d.kind ≡ InvalidNewOptionalChain) × (d.span ≡ s)

-- what is told of a `?.` that no link goes on with
abbrev pub no_link_behind : Span → Diagnostic
no_link_behind s = record { kind = IdentifierExpectedAfterQuestionDot; span = s; first = None; second = None }

-- A node was made for what stands between two states: of its tree, the lexemes passed and the place behind them Clean holds; or nothing is derived, and Unclean says of what.
pub record Taken (text : List ℕ) (f : Flags) (p q : Parser) (id : NodeId) (Clean : Label → Slots → (Lexemes → Lexemes) → ℕ → Type 0) (Unclean : Type 0) : Type 0 where
  pub at : At text f q
  pub same : Same p q
  pub further : p.token.span.start < q.prev_token_end
  pub label : Label
  pub slots : Slots
  pub row : same_row after_expression (row_of label slots) ≡ true
  pub pass : Lexemes → Lexemes
  pub walked : Walked text (spot p) (spot q) pass
  pub verdict : Verdict (f.wide ≡ true) p.errors q.errors (Clean label slots pass q.prev_token_end) Unclean
  pub holds : Holds q.nodes (length p.nodes) (length q.nodes) id.0 label slots
  pub keeps : Keeps p.nodes q.nodes

-- Of the loop w so much was read; what remains is the links behind it.
pub record Looped (text : List ℕ) (w : Tower rule) (X : Test) (s from : ℕ) (l : Label) (cs : Slots) (pass : Lexemes → Lexemes) (s' : ℕ) : Type 0 where
  pub reach : ℕ
  pub near : reach ≤ s'
  pub around : Around (Lex text) X w 0 s from 1 l cs s' (record { reach = reach; pass = pass })

-- `new` and a NewExpression
abbrev pub without_arguments : Flags → G
without_arguments f = mk new_expression (tok New ▸ symbol new_symbol f)

-- no NewExpression begins with `new` here, except as a member
abbrev pub NoBareNew : List ℕ → Flags → ℕ → Type 0
NoBareNew text f s = Fails rule (Lex text) (after (at new_symbol f)) end (without_arguments f) s

-- what arguments begin with
abbrev pub before_call : Test
before_call = plain (is LParen)

-- no `super` before arguments
abbrev pub NoSuperCall : List ℕ → Flags → ℕ → Type 0
NoSuperCall text f s = Fails rule (Lex text) before_call end (such (at Super f) always) s

-- the arguments of an ImportCall: one or two, and a comma behind
abbrev pub import_arguments : Flags → G
import_arguments f = parens (symbol Assignment (plus_in f) ▸ slot (tok Comma ▸ symbol Assignment (plus_in f)) ▸ opt (tok Comma))

abbrev pub import_slots : Flags → G
import_slots f = tok Import ▸ import_arguments f

-- no ImportCall, which is a CallExpression and no member
abbrev pub NoImport : List ℕ → Flags → ℕ → Type 0
NoImport text f s = Fails rule (Lex text) (plain full) end (import_slots f) s

-- Besides a MemberExpression nothing begins here: neither a NewExpression that is none, nor a SuperCall.
pub record NoOther (text : List ℕ) (f : Flags) (s : ℕ) : Type 0 where
  pub bare : NoBareNew text f s
  pub uncalled : NoSuperCall text f s

-- no MemberExpression, no NewExpression and no SuperCall
abbrev pub NoMember : List ℕ → Flags → ℕ → Type 0
NoMember text f s = Underived text (at Member f) s × NoOther text f s

abbrev pub link_kinds : List Kind
link_kinds = Dot ∷ LBrack ∷ NoSubstitutionTemplate ∷ TemplateHead ∷ QuestionDot ∷ LParen ∷ []

-- those of members, which go on with a call too
abbrev pub access_kinds : List Kind
access_kinds = Dot ∷ LBrack ∷ NoSubstitutionTemplate ∷ TemplateHead ∷ []

abbrev pub is_super_word : TreeKind → Bool
is_super_word super_expression = true
is_super_word _ = false

-- the word `super`, whatever stands behind it
pub record SuperWord (text : List ℕ) (f : Flags) (s : ℕ) (l : Label) (cs : Slots) (pass : Lexemes → Lexemes) (s' : ℕ) : Type 0 where
  pub word : Stretch text (plain full) (such (at Super f) always) s nothing s' (tree l cs) pass
  pub kind : is_super_word l.kind ≡ true

-- A MemberExpression; or a NewExpression that is none, behind which no link stands; or `super` before arguments.
pub data Headed (text : List ℕ) (f : Flags) (s : ℕ) (l : Label) (cs : Slots) (pass : Lexemes → Lexemes) (s' : ℕ) : Type 0 where
  a_member : Stretch text (after (at Member f)) (such (at Member f) always) s nothing s' (tree l cs) pass → NoOther text f s → Headed text f s l cs pass s'
  a_new : Underived text (at Member f) s → Stretch text (after (at new_symbol f)) (such (at new_symbol f) always) s nothing s' (tree l cs) pass → NoSuperCall text f s → ((y : Lexeme) → Lex text s' y → one_of_kinds link_kinds y.kind ≡ false) → Headed text f s l cs pass s'
  a_super : Underived text (at Member f) s → NoBareNew text f s → SuperWord text f s l cs pass s' → (y : Lexeme) × Lex text s' y × (y.kind ≡ LParen) → Headed text f s l cs pass s'

-- a member, as far as it was read
abbrev pub MemberSoFar : List ℕ → Flags → ℕ → ℕ → Label → Slots → (Lexemes → Lexemes) → ℕ → Type 0
MemberSoFar text f s from l cs pass s' = Looped text (members f) (after (at Member f)) s from l cs pass s' × NoOther text f s

-- what is answered of one
abbrev pub MemberOutcome : List ℕ → Flags → Parser → Parser → Result NodeId Stop → Type 0
MemberOutcome text f o q (Ok id) = Taken text f o q id (λ l cs pass s'. MemberSoFar text f o.prev_token_end o.token.span.start l cs pass s') (NoMember text f o.prev_token_end)
MemberOutcome text f o q (Err e) = Stops o q e (NoMember text f o.prev_token_end)

-- neither `.` nor `[` stands here, nor a template
abbrev pub NoAccess : List ℕ → Parser → Type 0
NoAccess text q = (y : Lexeme) → Lex text q.prev_token_end y → one_of_kinds access_kinds y.kind ≡ false

-- what LeftHandSideExpressions begin with, behind which no name, no expression in brackets and no template stands
abbrev pub HeadOutcome : List ℕ → Flags → Parser → Parser → Result NodeId Stop → Type 0
HeadOutcome text f p q (Ok id) = Taken text f p q id (λ l cs pass s'. Headed text f p.prev_token_end l cs pass s') (NoMember text f p.prev_token_end) × NoAccess text q
HeadOutcome text f p q (Err e) = Stops p q e (NoMember text f p.prev_token_end)

abbrev pub Heads : Parser → Parser → Result NodeId Stop → Type 0
Heads p q r = (text : List ℕ) (f : Flags) → At text f p → HeadOutcome text f p q r

-- A call goes on with a member that was read from the state o on.
abbrev pub GoesOnMember : ℕ → NodeId → Parser → Parser → Result NodeId Stop → Type 0
GoesOnMember start left p q r = (text : List ℕ) (f : Flags) (o : Parser) → start ≡ o.token.span.start → Taken text f o p left (λ l cs pass s'. MemberSoFar text f o.prev_token_end o.token.span.start l cs pass s') (NoMember text f o.prev_token_end) → HeadOutcome text f o q r

-- ---- links

-- what a link has behind its sign
pub data LinkForm : Type 0 where
  by_name by_private by_call by_index : LinkForm

-- an expression in brackets
abbrev pub indexed : Flags → G
indexed f = tok LBrack ▸ symbol Expression (plus_in f) ▸ tok RBrack

-- the part behind what a link hangs on: a name, a private name, arguments or an expression in brackets, with `?.` or not
abbrev pub chained : Flags → LinkForm → Bool → Link Symbol
chained f by_call true = link call_expression no_op optional_flag (tok QuestionDot ▸ args f)
chained f by_call false = link call_expression no_op 0 (args f)
chained f by_name true = link static_member_expression no_op optional_flag (tok QuestionDot ▸ symbol IdentifierName f)
chained f by_name false = link static_member_expression no_op 0 (tok Dot ▸ symbol IdentifierName f)
chained f by_private true = link private_field_expression no_op optional_flag (tok QuestionDot ▸ symbol PrivateName f)
chained f by_private false = link private_field_expression no_op 0 (tok Dot ▸ symbol PrivateName f)
chained f by_index true = link computed_member_expression no_op optional_flag (tok QuestionDot ▸ indexed f)
chained f by_index false = link computed_member_expression no_op 0 (indexed f)

-- its first lexeme
abbrev pub sign_of : LinkForm → Bool → Kind
sign_of c true = QuestionDot
sign_of by_call false = LParen
sign_of by_name false = Dot
sign_of by_private false = Dot
sign_of by_index false = LBrack

-- the node that it makes
abbrev pub node_of : LinkForm → TreeKind
node_of by_call = call_expression
node_of by_name = static_member_expression
node_of by_private = private_field_expression
node_of by_index = computed_member_expression

abbrev pub link_label : LinkForm → Bool → ℕ → ℕ → Label
link_label c optional from to = record { kind = node_of c; op = no_op; flags = cond optional optional_flag 0; span = record { from = from; to = to } }

-- no such link can be read here
abbrev pub NoLink : List ℕ → Flags → ℕ → LinkForm → Bool → Type 0
NoLink text f s c optional = Fails rule (Lex text) (plain full) end (chained f c optional).part s

-- of these links no other one can be
abbrev pub OnlyLink : List ℕ → Flags → ℕ → LinkForm → Bool → Type 0
OnlyLink text f s c o = (c' : LinkForm) (o' : Bool) → ((c' ≡ c) × (o' ≡ o)) ⊎ NoLink text f s c' o'

-- A link was read, and a node was made around what stood before.
pub record Linked (text : List ℕ) (f : Flags) (start : ℕ) (left : NodeId) (p q : Parser) (id : NodeId) : Type 0 where
  pub form : LinkForm
  pub optional : Bool
  pub sign : StandsHere p (sign_of form optional) true
  pub only : OnlyLink text f p.prev_token_end form optional
  pub behind : Parser
  pub children : List (Option NodeId)
  pub part : Partway text f (chained f form optional).part nothing p behind (Some left ∷ []) children
  pub made : MadeHere (link_label form optional start behind.prev_token_end) children behind q id

abbrev pub LinkOutcome : List ℕ → Flags → ℕ → NodeId → Parser → Parser → Result NodeId Stop → Type 0
LinkOutcome text f start left p q (Ok id) = Linked text f start left p q id
LinkOutcome text f start left p q (Err e) = Stops p q e ((c : LinkForm) (o : Bool) → NoLink text f p.prev_token_end c o)

abbrev pub ReadsLink : ℕ → NodeId → Parser → Parser → Result NodeId Stop → Type 0
ReadsLink start left p q r = (text : List ℕ) (f : Flags) → At text f p → LinkOutcome text f start left p q r

-- which links go on with a member, with a call and in an optional chain
abbrev pub admits : LinkBase → LinkForm → Bool → Bool
admits OfChain c o = true
admits OfCall c o = not o
admits OfMember by_call o = false
admits OfMember c o = not o

-- whether such a link stands here
pub data LinkHere (p : Parser) (base : LinkBase) : Bool → Type 0 where
  a_link : (c : LinkForm) (o : Bool) → StandsHere p (sign_of c o) true → admits base c o ≡ true → LinkHere p base true
  no_link : ((c : LinkForm) (o : Bool) → admits base c o ≡ true → StandsHere p (sign_of c o) false) → LinkHere p base false

abbrev pub flagged_label : NodeKind → Bool → ℕ → ℕ → Label
flagged_label k optional from to = record { kind = kind_of k; op = no_op; flags = cond optional optional_flag 0; span = record { from = from; to = to } }

-- an argument may be spread, but of a call of V8
abbrev pub takes_spreads : NodeKind → Bool
takes_spreads V8IntrinsicExpression = false
takes_spreads _ = true

-- what a node of a callee and its arguments was made of
pub record WithArguments (k : NodeKind) (optional : Bool) (start : ℕ) (left : NodeId) (p q : Parser) (id : NodeId) : Type 0 where
  pub behind : Parser
  pub children : List (Option NodeId)
  pub arguments : Arguments (takes_spreads k) (Some left ∷ []) children p behind
  pub made : MadeHere (flagged_label k optional start behind.prev_token_end) children behind q id

abbrev pub MakesWithArguments : NodeKind → Bool → ℕ → NodeId → Parser → Parser → Result NodeId Stop → Type 0
MakesWithArguments k optional start left p q (Ok id) = WithArguments k optional start left p q id
MakesWithArguments k optional start left p q (Err e) = NoArguments (takes_spreads k) p q e

-- what a node of an expression in brackets and what stands before was made of
pub record WithIndex (optional : Bool) (start : ℕ) (left : NodeId) (p q : Parser) (id : NodeId) : Type 0 where
  pub behind : Parser
  pub children : List (Option NodeId)
  pub part : (text : List ℕ) (f : Flags) → At text f p → Partway text f (indexed f) nothing p behind (Some left ∷ []) children
  pub made : MadeHere (link_label by_index optional start behind.prev_token_end) children behind q id

abbrev pub MakesWithIndex : Bool → ℕ → NodeId → Parser → Parser → Result NodeId Stop → Type 0
MakesWithIndex optional start left p q (Ok id) = WithIndex optional start left p q id
MakesWithIndex optional start left p q (Err e) = (text : List ℕ) (f : Flags) → At text f p → Stops p q e (Fails rule (Lex text) (plain full) end (indexed f) p.prev_token_end)

-- what stands behind a sign as a name of a member: a name or a word, or a private name
abbrev pub member_name_kinds : List Kind
member_name_kinds = PrivateIdentifier ∷ identifier_name_kinds

-- a link of such a name
abbrev pub named_form : Bool → LinkForm
named_form private = cond private by_private by_name

abbrev pub member_name : Bool → Flags → Symbol
member_name private f = cond private (at PrivateName f) (at IdentifierName f)

-- neither stands here
abbrev pub NoNames : List ℕ → Flags → ℕ → Type 0
NoNames text f s = (private : Bool) → Underived text (member_name private f) s

-- what a node of a name and what stands before was made of
pub record WithName (optional : Bool) (start : ℕ) (left : NodeId) (p q : Parser) (id : NodeId) : Type 0 where
  pub private : Bool
  pub behind : Parser
  pub name : NodeId
  pub read : (text : List ℕ) (f : Flags) → At text f p → Numbered text f (member_name private f) p behind name
  pub other : (text : List ℕ) (f : Flags) → At text f p → Underived text (member_name (not private) f) p.prev_token_end
  pub made : MadeHere (link_label (named_form private) optional start behind.prev_token_end) (Some left ∷ Some name ∷ []) behind q id

abbrev pub MakesWithName : Bool → ℕ → NodeId → Parser → Parser → Result NodeId Stop → Type 0
MakesWithName optional start left p q (Ok id) = WithName optional start left p q id
MakesWithName optional start left p q (Err e) = (text : List ℕ) (f : Flags) → At text f p → Stops p q e (NoNames text f p.prev_token_end)

-- ---- calls and chains

-- behind the member stands no `?.`, and it is no NewExpression alone
pub record Beyond (text : List ℕ) (f : Flags) (s : ℕ) : Type 0 where
  pub no_new : Underived text (at new_symbol f) s
  pub no_member : Fails rule (Lex text) (plain (is QuestionDot)) end (such (at Member f) always) s

abbrev pub CallSoFar : List ℕ → Flags → ℕ → ℕ → Label → Slots → (Lexemes → Lexemes) → ℕ → Type 0
CallSoFar text f s from l cs pass s' = Looped text (calls f) (after (at Call f)) s from l cs pass s' × Beyond text f s

-- A callee: what stands before a chain, or is none.
pub data Callee (text : List ℕ) (f : Flags) (s : ℕ) (l : Label) (cs : Slots) (pass : Lexemes → Lexemes) (s' : ℕ) : Type 0 where
  a_head : Headed text f s l cs pass s' → NoImport text f s → Callee text f s l cs pass s'
  a_call : Stretch text (after (at Call f)) (such (at Call f) always) s nothing s' (tree l cs) pass → Beyond text f s → Callee text f s l cs pass s'

abbrev pub NoLhs : List ℕ → Flags → ℕ → Type 0
NoLhs text f s = Underived text (at LeftHandSide f) s

abbrev pub NoParen : List ℕ → Parser → Type 0
NoParen text q = (y : Lexeme) → Lex text q.prev_token_end y → y.kind ≡ LParen → ⊥

-- a call reads what goes on with a member that was read from the state o on, up to an optional chain
abbrev pub CalleeOutcome : List ℕ → Flags → Parser → Parser → Result NodeId Stop → Type 0
CalleeOutcome text f o q (Ok id) = Taken text f o q id (λ l cs pass s'. Callee text f o.prev_token_end l cs pass s') (NoLhs text f o.prev_token_end) × NoAccess text q × NoParen text q
CalleeOutcome text f o q (Err e) = Stops o q e (NoLhs text f o.prev_token_end)

abbrev pub ReadsCallee : Parser → Parser → Result NodeId Stop → Type 0
ReadsCallee p q r = (text : List ℕ) (f : Flags) → At text f p → CalleeOutcome text f p q r

abbrev pub CallsMember : ℕ → NodeId → Parser → Parser → Result NodeId Stop → Type 0
CallsMember start left p q r = (text : List ℕ) (f : Flags) (o : Parser) → At text f o → start ≡ o.token.span.start → NoImport text f o.prev_token_end → Taken text f o p left (λ l cs pass s'. Headed text f o.prev_token_end l cs pass s') (NoMember text f o.prev_token_end) → NoAccess text p → CalleeOutcome text f o q r

-- a call goes on with one that was read from the state o on
abbrev pub GoesOnCall : ℕ → NodeId → Parser → Parser → Result NodeId Stop → Type 0
GoesOnCall start left p q r = (text : List ℕ) (f : Flags) (o : Parser) → start ≡ o.token.span.start → Taken text f o p left (λ l cs pass s'. CallSoFar text f o.prev_token_end o.token.span.start l cs pass s') (NoLhs text f o.prev_token_end) → CalleeOutcome text f o q r

-- a chain, as far as it was read
abbrev pub ChainSoFar : List ℕ → Flags → ℕ → ℕ → Label → Slots → (Lexemes → Lexemes) → ℕ → Type 0
ChainSoFar text f s from l cs pass s' = Looped text (chains f) (after (at Links f)) s from l cs pass s' × Underived text (at new_symbol f) s × Fails rule (Lex text) (after (at LeftHandSide f)) end (such (at Call f) always) s

-- a call reads the optional chain behind a callee that was read from the state o on
abbrev pub ChainsCallee : ℕ → NodeId → Parser → Parser → Result NodeId Stop → Type 0
ChainsCallee start left p q r = (text : List ℕ) (f : Flags) (o : Parser) → At text f o → start ≡ o.token.span.start → Taken text f o p left (λ l cs pass s'. Callee text f o.prev_token_end l cs pass s') (NoLhs text f o.prev_token_end) → NoAccess text p → NoParen text p → Outcome text f (at LeftHandSide f) o q r
