-- What holds of a parser where a parse of a whole text has ended.
use Rattle.std.specs.Prelude.{ℕ, ◌≡◌, ◌⊎◌, Bool, true, false, List, [], length, Option}
use Rattle.js_base.specs.declared.options.ParseOptions.{ParseOptions}
use Rattle.js_base.specs.declared.source_type.SourceType.{SourceType}
use Rattle.js_grammar.specs.Trees.{Slots, Tree}
use Rattle.parse_shared.specs.js_lex.States.{goal_of}
use Rattle.parse_shared.specs.js_tree.declared.id.NodeId.{NodeId}
use Rattle.parse_shared.specs.js_tree.Holding.{HoldsAll, program_tree}
use Rattle.parse_shared.specs.js_cursor.Parsers.{Parser}
use Rattle.parse_shared.specs.js_cursor.Moves.{is_last}
use Rattle.parse_shared.specs.js_cursor.Places.{IsAt}
use Rattle.parse_shared.specs.js_cursor.Stages.{CameTo, stage}
use Rattle.parse_shared.specs.js_cursor.declared.stop.Stop.{Stop}
use Rattle.parse_shared.specs.js_cursor.declared.stop.Stop.TheVariants.{Fatal, NoMemory}
use Rattle.js_core.specs.Kept.{IsKeptOf}
use Rattle.js_core.specs.Readings.{options_of, ReadingBy, HasNoReadingBy, HasNoLooseReading, IsOnlyReadingBy}
use Rattle.std.specs.List.{All}
use Rattle.parse_shared.specs.laws_shared.Classes.{IsEarly, EndedByLast}
use Rattle.parse_shared.specs.laws_shared.States.{NodesLie}

-- it stands in a text of this source type
pub record IsOf (text : List ℕ) (s : SourceType) (p : Parser) : Type 0 where
  pub at : IsAt p
  pub text_is : p.text ≡ text
  pub source_type : p.source_type ≡ s

-- neither the parser nor its lexer has found anything
pub record FoundNothing (p : Parser) : Type 0 where
  pub faults : p.lexer.kept.errors ≡ []
  pub errors : p.errors ≡ []

-- The program up to a place, with these slots, is the only reading by the cover grammar, and nothing was found; or there is none, and something was.
abbrev pub ReadOrNot : List ℕ → SourceType → ParseOptions → Parser → Slots → Type 0
ReadOrNot text s o p cs = (FoundNothing p × IsOnlyReadingBy true text (goal_of s) (options_of o) (program_tree (record { start = 0; end = p.token.span.end }) cs)) ⊎ ((FoundNothing p → ⊥) × HasNoReadingBy true text (goal_of s) (options_of o))

-- These are the children of the program, which ends where the text does, or where no lexeme stands; lexemes lead there, and what the lexer kept was found on the way.
pub record ProgramTaken (text : List ℕ) (s : SourceType) (o : ParseOptions) (asks : Bool) (p : Parser) (ids : List (Option NodeId)) : Type 0 where
  pub is_of : IsOf text s p
  pub came : CameTo (goal_of s) text (stage p)
  pub last : is_last p.token.kind ≡ true
  pub slots : Slots
  pub holds : HoldsAll p.nodes 1 (length p.nodes) ids slots
  pub outcome : ReadOrNot text s o p slots
  -- tokens are kept where they are asked for; without diagnostics all that was kept is of the lexemes of the reading
  pub keeps : p.lexer.keeps_tokens ≡ asks
  pub unasked : asks ≡ false → p.lexer.kept.tokens ≡ []
  pub kept : FoundNothing p → (t : Tree) (r : ReadingBy true text (goal_of s) (options_of o) t) → IsKeptOf r asks p.lexer.kept
  -- behind each diagnostic of the parser reading went on
  pub early : All IsEarly p.errors
  pub lies : NodesLie text p.nodes

-- A fatal diagnostic ended the parse, the last one, at a place to which lexemes lead; what the lexer kept was found on the way there. The program has no reading, not even in the widest form.
pub record ProgramRefused (text : List ℕ) (s : SourceType) (o : ParseOptions) (p : Parser) : Type 0 where
  pub is_of : IsOf text s p
  pub came : CameTo (goal_of s) text (stage p)
  pub stopped : EndedByLast p.errors
  pub lies : NodesLie text p.nodes
  pub some : p.errors ≡ [] → ⊥
  pub none : HasNoReadingBy true text (goal_of s) (options_of o)
  pub none_loosely : HasNoLooseReading text (goal_of s) (options_of o)

abbrev pub ProgramStops : List ℕ → SourceType → ParseOptions → Parser → Stop → Type 0
ProgramStops text s o p Fatal = ProgramRefused text s o p
ProgramStops text s o p NoMemory = Unit {0}
