-- What a parse of a whole text answers.
use Rattle.std.specs.Prelude.{ℕ, ◌≡◌, ◌≤◌, ◌<◌, Bool, true, false, List, [], ◌∷◌, length, map, None}
use Rattle.js_base.specs.declared.TheConstants.{MAX_LEN}
use Rattle.js_base.specs.declared.diagnostic.Diagnostic.{Diagnostic}
use Rattle.js_base.specs.declared.diagnostic.DiagnosticKind.TheVariants.{OverlongSource}
use Rattle.js_base.specs.declared.options.ParseOptions.{ParseOptions}
use Rattle.js_base.specs.declared.source_type.SourceType.{SourceType}
use Rattle.js_grammar.specs.CoverInitialisers.{initialised_in}
use Rattle.js_grammar.specs.Trees.{Tree, end}
use Rattle.js_grammar.specs.Options.{Options}
use Rattle.js_grammar.specs.Settings.{Goal}
use Rattle.js_cursor.specs.js_lex.Kept.{LieIn}
use Rattle.js_cursor.specs.js_lex.States.{goal_of}
use Rattle.js_cursor.specs.js_lex.declared.output.LexerOutput.{LexerOutput}
use Rattle.js_tree.specs.Covering.{placed}
use Rattle.js_tree.specs.Nodes.{Node, empty_program}
use Rattle.js_tree.specs.Holding.{IsTree, program_tree}
use Rattle.js_parser.specs.Broken.{told_in}
use Rattle.js_parser.specs.FaultsTold.{EndsAt}
pub use Rattle.js_core.specs.Readings.{options_of}
use Rattle.js_parser.specs.declared.answer.ParserReturn.{ParserReturn}
use Rattle.js_parser.specs.declared.early.Position.TheVariants.{Anywhere}
use Rattle.js_parser.specs.Leftover.{leftover}
use Rattle.js_parser.specs.NodeSpans.{NodeLies, SlotsLie}
use Rattle.js_core.specs.Readings.{read_at, HasNoReading, HasNoLooseReading, IsOnlyReading, AreOf, ReadingBy}
use Rattle.std.specs.List.{All}
use Rattle.js_core.specs.laws_shared.Classes.{IsEarly, EndedByLast}
use Rattle.js_core.specs.laws_shared.States.{NodesLie}

-- where none are asked for: parentheses have nodes, and nothing else is on
abbrev pub default_options : ParseOptions
default_options = record { allow_return_outside_function = false; preserve_parens = true; allow_v8_intrinsics = false }

-- what was kept beside the tree, as the lexer hands it out
abbrev pub output_of : ParserReturn → LexerOutput
output_of r = record { comments = r.program.comments; irregular_whitespaces = r.irregular_whitespaces; tokens = r.tokens; errors = r.diagnostics }

-- Where the cover grammar derives a tree of the text, in which a shorthand may have an initialiser, nothing else is wrong with it: the tree is told, and it is told, in the tree's order, of each node that breaks an early rule, and then of each shorthand with an initialiser that no target took (CoverInitializedName, 13.2.5.1); and of nothing else.
abbrev pub TellsLeftover : List ℕ → Goal → Options → Tree → List Diagnostic → Bool → Type 0
TellsLeftover text goal o tree found fatal = (t : Tree) → ReadingBy true text goal o t → (tree ≡ t) × (fatal ≡ false) × (found ≡ leftover (told_in text Anywhere t.slots) (map placed (initialised_in t.slots)))

-- The answer for a text at a goal. Where nothing was found the tree is its only reading. Where something was, it has none. All spans of what was kept lie in the text and split no character, and so do those of all nodes, whether anything was found or not. Of what the parser itself found, each is of the class Early, but for a fatal diagnostic, which is the last one and of the class Syntax, Form or Lexical. Each fault that was kept up to where the parse ended is told, in order, once, and so are comments and white space. After a fatal diagnostic Program has the whole text and no child, and no token was kept; and one comes only where the text has no reading even in the widest form in which texts are read on.
pub record IsAnswer (text : List ℕ) (goal : Goal) (o : Options) (nodes : List Node) (out : LexerOutput) (fatal : Bool) : Type 0 where
  pub told : AreOf goal text out.errors
  pub lie : LieIn text out
  pub tree : Tree
  pub is_tree : IsTree nodes tree
  pub program_lies : NodeLies text tree.label
  pub inside : SlotsLie text tree.slots
  pub nodes_lie : NodesLie text nodes
  pub clean : out.errors ≡ [] → IsOnlyReading text goal o tree
  pub unclean : (out.errors ≡ [] → ⊥) → HasNoReading text goal o
  pub early : fatal ≡ false → All IsEarly told.told
  pub stopped : fatal ≡ true → EndedByLast told.told
  pub ended : fatal ≡ true → out.errors ≡ [] → ⊥
  pub childless : fatal ≡ true → tree ≡ program_tree (record { start = 0; end = length text }) end
  pub no_tokens : fatal ≡ true → out.tokens ≡ []
  pub stopped_only : fatal ≡ true → HasNoLooseReading text goal o
  pub ends_at : EndsAt text goal out fatal told.told
  pub left : TellsLeftover text goal o tree out.errors fatal

-- The answer for a text that is too long: this is told, and nothing of it was read. Program stands at the text's start, without a child, and all else that is kept of a text is empty.
pub record IsOverlong (nodes : List Node) (out : LexerOutput) (fatal : Bool) : Type 0 where
  pub found_is : out.errors ≡ record { kind = OverlongSource; span = record { start = 0; end = 0 }; first = None; second = None } ∷ []
  pub no_comments : out.comments ≡ []
  pub no_blanks : out.irregular_whitespaces ≡ []
  pub no_tokens : out.tokens ≡ []
  pub tree : Tree
  pub is_tree : IsTree nodes tree
  pub childless : tree ≡ program_tree (record { start = 0; end = 0 }) end
  pub alone : nodes ≡ empty_program ∷ []
  pub is_fatal : fatal ≡ true

pub record IsReturn (text : List ℕ) (given taken : SourceType) (o : ParseOptions) (nodes : List Node) (out : LexerOutput) (fatal : Bool) : Type 0 where
  pub settled : goal_of taken ≡ read_at (goal_of given)
  pub short : length text ≤ MAX_LEN → IsAnswer text (read_at (goal_of given)) (options_of o) nodes out fatal
  pub long : MAX_LEN < length text → IsOverlong nodes out fatal
