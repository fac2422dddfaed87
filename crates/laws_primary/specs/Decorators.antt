-- Decorators (of the proposal Decorators; no section of ECMA-262), as they stand before classes (ECMA-262, 15.7) and their elements.
use Rattle.std.specs.Prelude.{ℕ, ◌≡◌, ◌<◌, Bool, true, List, [], ◌∷◌, ◌++◌, Option, length}
use Rattle.js_base.specs.declared.kind.Kind.{Kind}
use Rattle.js_base.specs.declared.kind.Kind.TheVariants.{At as at_sign, Class, LBrack, PrivateIdentifier, Star, Str}
use Rattle.js_base.specs.KindSets.{identifier_name_kinds, number_kinds}
use Rattle.js_base.specs.Kinds.{one_of_kinds}
use Rattle.js_grammar.specs.Trees.{Label, Slots, append, end}
use Rattle.js_grammar.specs.Grammar.{Lexemes, Look, many}
use Rattle.js_grammar.specs.Parsing.{plain, Fails}
use Rattle.js_grammar.specs.Productions.{G, Flags, Decorator}
use Rattle.js_grammar.specs.Productions.{sym as symbol}
use Rattle.js_grammar.specs.Table.{rule}
use Rattle.laws_shared.specs.js_tree.declared.id.NodeId.{NodeId}
use Rattle.laws_shared.specs.js_tree.Holding.{HoldsAll, Keeps}
use Rattle.laws_shared.specs.js_cursor.Parsers.{Parser}
use Rattle.laws_shared.specs.js_cursor.declared.stop.Stop.{Stop}
use Rattle.laws_shared.specs.Answers.{Stretch, Stops, Verdict}
use Rattle.laws_shared.specs.Lexemes.{Lex, Walked, keyword_kind, spot}
use Rattle.laws_shared.specs.States.{At, Same}

-- what a class begins with: a decorator, or its word
abbrev pub class_kinds : List Kind
class_kinds = at_sign ∷ Class ∷ []

-- whether one begins here
abbrev pub ClassHere : Parser → Bool → Type 0
ClassHere p b = one_of_kinds class_kinds (keyword_kind p.token) ≡ b

-- what the name of an element begins with; first what is neither a number nor a word
abbrev pub other_name_kinds : List Kind
other_name_kinds = Str ∷ PrivateIdentifier ∷ LBrack ∷ []

abbrev pub name_kinds : List Kind
name_kinds = other_name_kinds ++ number_kinds ++ identifier_name_kinds

-- what an element begins with, or a class, behind decorators
abbrev pub decorated_kinds : List Kind
decorated_kinds = Star ∷ name_kinds

abbrev pub behind_decorators : Look
behind_decorators k w e = one_of_kinds decorated_kinds k

-- decorators before one of these
abbrev pub decorators : Flags → G
decorators f = many (symbol Decorator f)

-- they aren't derived from the place
abbrev pub NoDecorators : List ℕ → Flags → ℕ → Type 0
NoDecorators text f s = Fails rule (Lex text) (plain behind_decorators) end (decorators f) s

-- Decorators were taken, one at least, and more may follow. Clean: whatever is derived from their beginning begins with these; unclean: nothing is. The nodes made in the call stand for their trees.
pub record DecoratorsTaken (text : List ℕ) (f : Flags) (p q : Parser) (ids : List (Option NodeId)) : Type 0 where
  pub at : At text f q
  pub same : Same p q
  pub further : p.token.span.start < q.prev_token_end
  pub slots : Slots
  pub pass : Lexemes → Lexemes
  pub walked : Walked text (spot p) (spot q) pass
  pub verdict : Verdict (f.wide ≡ true) p.errors q.errors (Stretch text (plain behind_decorators) (decorators f) p.prev_token_end (decorators f) q.prev_token_end (append slots) pass) (NoDecorators text f p.prev_token_end)
  pub holds : HoldsAll q.nodes (length p.nodes) (length q.nodes) ids slots
  pub keeps : Keeps p.nodes q.nodes

abbrev pub SomeDecorators : Parser → Parser → List (Option NodeId) → Type 0
SomeDecorators old new ids = (text : List ℕ) (f : Flags) → At text f old → DecoratorsTaken text f old new ids

-- all were taken that stand here
abbrev pub AllDecorators : Parser → Parser → List (Option NodeId) → Type 0
AllDecorators old new ids = (new.token.kind ≡ at_sign → ⊥) × SomeDecorators old new ids

abbrev pub StopsDecorators : Parser → Parser → Stop → Type 0
StopsDecorators old new e = (text : List ℕ) (f : Flags) → At text f old → Stops old new e (NoDecorators text f old.prev_token_end)

-- a label with another span
abbrev pub spanning : ℕ → ℕ → Label → Label
spanning from to l = record l { span = record { from = from; to = to } }
