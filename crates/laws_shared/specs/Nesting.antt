-- What may be read where a production nests: by a function that is called with less of the text left.
use Rattle.std.specs.Prelude.{ℕ, ◌+◌, ◌-◌, ◌<◌, ◌≡◌, true, length, Result}
use denote.Ref.{MutBor}
use Rattle.js_base.specs.Contexts.{has_flag, in_flag}
use Rattle.js_grammar.specs.Productions.{at, Assignment, Binding, Body, ClassBody, Exponent, Expression, LeftHandSide, ListItem, Params, Sub, Unary}
use Rattle.js_cursor.specs.js_tree.declared.id.NodeId.{NodeId}
use Rattle.js_cursor.specs.Parsers.{Parser}
use Rattle.js_cursor.specs.declared.stop.Stop.{Stop}
use Rattle.laws_shared.specs.declared.nested.Nonterminal.{Nonterminal}
use Rattle.laws_shared.specs.declared.nested.Nonterminal.TheVariants as nonterminal
use Rattle.laws_shared.specs.Answers.{Answers}
use Rattle.laws_shared.specs.Methods.{ReadsWhole, parameters_of}
use Rattle.laws_shared.specs.States.{Standing}
use Rattle.laws_shared.specs.Statements.{TakesStatement}

-- it may be read here: a statement and a list of statements under the parameter In, as at the top of a text
abbrev pub Ready : Nonterminal → Parser → Type 0
Ready nonterminal.Statement p = Standing p × (has_flag in_flag p.ctx ≡ true)
Ready nonterminal.ListItem p = Standing p × (has_flag in_flag p.ctx ≡ true)
Ready nonterminal.Body p = Standing p × (has_flag in_flag p.ctx ≡ true)
Ready (nonterminal.MethodParameters form) p = Standing p
Ready nonterminal.Expression p = Standing p
Ready nonterminal.Assignment p = Standing p
Ready nonterminal.Element p = Standing p
Ready nonterminal.Unary p = Standing p
Ready nonterminal.LeftHandSide p = Standing p
Ready nonterminal.ClassBody p = Standing p
Ready nonterminal.Exponentiation p = Standing p
Ready nonterminal.Binding p = Standing p
Ready nonterminal.Params p = Standing p

-- what its parse function answers
abbrev pub AnswersFor : Nonterminal → Parser → Parser → Result NodeId Stop → Type 0
AnswersFor nonterminal.Statement old new r = TakesStatement (at Sub) old new r
AnswersFor nonterminal.ListItem old new r = TakesStatement (at ListItem) old new r
AnswersFor nonterminal.Body old new r = Answers (at Body) old new r
AnswersFor (nonterminal.MethodParameters form) old new r = ReadsWhole (parameters_of form) old new r
AnswersFor nonterminal.Expression old new r = Answers (at Expression) old new r
AnswersFor nonterminal.Assignment old new r = Answers (at Assignment) old new r
AnswersFor nonterminal.Element old new r = Answers (at Assignment) old new r
AnswersFor nonterminal.Unary old new r = Answers (at Unary) old new r
AnswersFor nonterminal.LeftHandSide old new r = Answers (at LeftHandSide) old new r
AnswersFor nonterminal.ClassBody old new r = Answers (at ClassBody) old new r
AnswersFor nonterminal.Exponentiation old new r = Answers (at Exponent) old new r
AnswersFor nonterminal.Binding old new r = Answers (at Binding) old new r
AnswersFor nonterminal.Params old new r = Answers (at Params) old new r

-- How many levels of depth it takes: what stands between brackets is read through all levels of operators again, and so are the bodies of functions and of classes, which stand in operands, and what a class extends; an item of a list of statements and the parameters of a method take two.
abbrev pub levels_of : Nonterminal → ℕ
levels_of nonterminal.Expression = 4
levels_of nonterminal.Element = 4
levels_of nonterminal.Binding = 4
levels_of nonterminal.Assignment = 1
levels_of nonterminal.Unary = 1
levels_of nonterminal.LeftHandSide = 4
levels_of nonterminal.Exponentiation = 1
levels_of nonterminal.Statement = 1
levels_of nonterminal.Params = 1
levels_of nonterminal.ListItem = 2
levels_of nonterminal.Body = 4
levels_of nonterminal.ClassBody = 4
levels_of (nonterminal.MethodParameters form) = 2

-- how much of the text is left
abbrev pub room : Parser → ℕ
room p = length p.text + 1 - p.prev_token_end

-- A call of the function is allowed on this parser for this goal, and reads what it should.
pub record Reads (pre : MutBor Parser → Nonterminal → Type 0) (post : MutBor Parser → Nonterminal → Result NodeId Stop → MutBor Parser → Type 0) (p : Parser) (g : Nonterminal) : Type 0 where
  pub callable : (old : MutBor Parser) → old.now ≡ p → pre old g
  pub answers : (old new : MutBor Parser) (r : Result NodeId Stop) → old.now ≡ p → post old g r new → AnswersFor g p new.now r

-- Wherever less than this is left, all can be read.
abbrev pub CanNest : (Parser → Nonterminal → Type 0) → ℕ → Type 0
CanNest can n = (q : Parser) (g : Nonterminal) → Ready g q → room q < n → can q g
