-- What the parse functions of YieldExpressions answer (ECMA-262, 15.5).
use Rattle.std.specs.Prelude.{ℕ, ◌≡◌, ◌||◌, Bool, true, false, List, [], ◌∷◌, Result, is_some}
use Rattle.js_base.specs.declared.kind.Kind.{Kind}
use Rattle.js_base.specs.declared.kind.Kind.TheVariants.{At as at_sign, Yield, Star, Slash, SlashEq, This, LParen, LBrack, LCurly, Function, Class, Import, NoSubstitutionTemplate, TemplateHead, Percent, New, Super, PrivateIdentifier}
use Rattle.js_base.specs.Contexts.{has_flag, yield_flag}
use Rattle.js_base.specs.Kinds.{one_of_kinds}
use Rattle.js_base.specs.KindSets.{binding_identifier_kinds, literal_kinds}
use Rattle.js_base.specs.Operators.{row_of, unary_operators, update_operators}
use Rattle.js_grammar.specs.Productions.{Flags, at, Assignment}
use Rattle.laws_shared.specs.js_tree.declared.id.NodeId.{NodeId}
use Rattle.laws_shared.specs.js_cursor.Parsers.{Parser}
use Rattle.laws_shared.specs.js_cursor.declared.stop.Stop.{Stop}
use Rattle.laws_shared.specs.Answers.{Outcome}
use Rattle.laws_shared.specs.Moves.{Moved}
use Rattle.laws_shared.specs.States.{At}

-- `yield` stands here, without an escape, under Yield
pub record BeginsYield (p : Parser) : Type 0 where
  pub kind : p.token.kind ≡ Yield
  pub plain : p.token.escaped ≡ false
  pub yields : has_flag yield_flag p.ctx ≡ true

-- What begins an expression, and is no name, no literal and no operator before an operand, with the `*` of `yield`; a slash begins a regular expression.
abbrev pub other_arguments : List Kind
other_arguments = Star ∷ Slash ∷ SlashEq ∷ This ∷ LParen ∷ LBrack ∷ LCurly ∷ Function ∷ Class ∷ at_sign ∷ NoSubstitutionTemplate ∷ TemplateHead ∷ Percent ∷ New ∷ Super ∷ Import ∷ PrivateIdentifier ∷ []

-- what may not stand behind a bare `yield` on its line
abbrev pub yields_argument : Kind → Bool
yields_argument k = (((one_of_kinds binding_identifier_kinds k || one_of_kinds literal_kinds k) || is_some (row_of unary_operators k)) || is_some (row_of update_operators k)) || one_of_kinds other_arguments k

-- What is read on behind `yield` on its line, which stood at the state `first` and was passed up to the old one.
abbrev pub ReadsYield : ℕ → Parser → Parser → Result NodeId Stop → Type 0
ReadsYield start old new r = (text : List ℕ) (f : Flags) (first : Parser) → At text f first → BeginsYield first → Moved text f first old → old.token.is_on_new_line ≡ false → start ≡ first.token.span.start → Outcome text f (at Assignment f) first new r
