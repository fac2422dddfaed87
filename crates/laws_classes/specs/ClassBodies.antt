-- Class bodies (ECMA-262, 15.7): elements, and semicolons alone, between braces.
use Rattle.std.specs.Prelude.{ℕ, ◌≡◌, true, List, Option}
use Rattle.js_base.specs.declared.kind.Kind.TheVariants.{Semicolon}
use Rattle.js_grammar.specs.Grammar.{many, ◌◇◌}
use Rattle.js_grammar.specs.Productions.{G, Flags, braces, tok, Element}
use Rattle.js_grammar.specs.Productions.{sym as symbol}
use Rattle.laws_primary.specs.js_tree.declared.id.NodeId.{NodeId}
use Rattle.laws_primary.specs.js_cursor.Parsers.{Parser}
use Rattle.laws_primary.specs.js_cursor.declared.stop.Stop.{Stop}
use Rattle.laws_primary.specs.laws_shared.Answers.{Stops}
use Rattle.laws_primary.specs.laws_shared.States.{At}
use Rattle.laws_statements.specs.StatementLists.{NoList, Taken, ends_list}
use Rattle.laws_statements.specs.declared.forms.StatementList.TheVariants.{Block}

-- what stands in a class: its elements, and semicolons alone, which have no node
abbrev pub elements_of : Flags → G
elements_of f = many (symbol Element f ◇ tok Semicolon)

-- the same with its braces
abbrev pub class_braces : Flags → G
class_braces f = braces (elements_of f)

-- Some of it was taken, and more may follow.
abbrev pub SomeElements : Parser → Parser → List (Option NodeId) → Type 0
SomeElements old new ids = (text : List ℕ) (f : Flags) → At text f old → Taken text f Block (elements_of f) (elements_of f) old new ids

-- All was taken up to a closing brace, or to the text's end, or to where no lexeme stands.
abbrev pub AllElements : Parser → Parser → List (Option NodeId) → Type 0
AllElements old new ids = (ends_list Block new.token.kind ≡ true) × SomeElements old new ids

-- it can't be taken up to a closing brace
abbrev pub NoElements : Parser → Parser → Stop → Type 0
NoElements old new e = (text : List ℕ) (f : Flags) → At text f old → Stops old new e (NoList text Block (elements_of f) old.prev_token_end)
