-- Which lexeme stands at a parser's place.
use Rattle.std.specs.Prelude.{ℕ, ◌≡◌, Bool, true, false, List, [], ◌∷◌}
use Rattle.js_base.specs.declared.kind.Kind.{Kind}
use Rattle.js_base.specs.declared.kind.Kind.TheVariants.{RBrack}
use Rattle.js_base.specs.Contexts.{has_flag, yield_flag, await_flag}
use Rattle.js_base.specs.Kinds.{one_of_kinds}
use Rattle.js_grammar.specs.Grammar.{Lexeme}
use Rattle.js_grammar.specs.Productions.{Flags}
use Rattle.js_cursor.specs.Parsers.{Parser}
use Rattle.laws_shared.specs.Lexemes.{Lex, may_name}
use Rattle.laws_shared.specs.States.{At, Same}
use Rattle.std.specs.Prelude.{◌||◌, IsTrue, nat_lt}
use Rattle.js_base.specs.declared.kind.Kind.TheVariants.{Question, Colon, Comma, Semicolon, RParen, Eof}
use Rattle.laws_shared.specs.Operators.{power_of}

-- whether this lexeme stands here, without an escape
abbrev pub StandsHere : Parser → Kind → Bool → Type 0
StandsHere p k true = (p.token.kind ≡ k) × (p.token.escaped ≡ false)
StandsHere p k false = p.token.kind ≡ k → p.token.escaped ≡ false → ⊥

-- whether a name stands here, with an escape or without, by the parameters Yield and Await
abbrev pub NameUnder : Bool → Bool → Parser → Bool → Type 0
NameUnder yields awaits p b = may_name yields awaits p.token.kind ≡ b

-- the same, by those in force
abbrev pub NameHere : Parser → Bool → Type 0
NameHere p b = NameUnder (has_flag yield_flag p.ctx) (has_flag await_flag p.ctx) p b

-- What may stand behind an operand that no link and no update goes on with.
abbrev pub ending_kinds : List Kind
ending_kinds = Eof ∷ Question ∷ Colon ∷ Comma ∷ Semicolon ∷ RParen ∷ RBrack ∷ []

-- The place is the same; if it is true, a lexeme stands there that ends an operand.
pub record Ended (text : List ℕ) (f : Flags) (old new : Parser) (b : Bool) : Type 0 where
  pub at : At text f new
  pub same : Same old new
  pub nodes : new.nodes ≡ old.nodes
  pub kept : new.errors ≡ old.errors
  pub place : new.prev_token_end ≡ old.prev_token_end
  pub lexeme : IsTrue b → (y : Lexeme) × Lex text new.prev_token_end y × (y.escaped ≡ false) × IsTrue (one_of_kinds ending_kinds y.kind || nat_lt 0 (power_of f.in_ y.kind))

abbrev pub EndsOperand : Parser → Parser → Bool → Type 0
EndsOperand old new b = (text : List ℕ) (f : Flags) → At text f old → Ended text f old new b

-- whether a lexeme that is read stands here
abbrev pub ReadsHere : Parser → Bool → Type 0
ReadsHere p true = (y : Lexeme) × Lex p.text p.prev_token_end y
ReadsHere p false = (y : Lexeme) → Lex p.text p.prev_token_end y → ⊥
