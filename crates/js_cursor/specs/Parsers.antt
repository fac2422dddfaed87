-- What contracts see of a parser: the text and how it is read, the place that is reached, and what has been made and kept.
use Rattle.std.specs.Prelude.{ℕ, Bool, List}
use Rattle.js_base.specs.declared.diagnostic.Diagnostic.{Diagnostic}
use Rattle.js_base.specs.declared.context.Context.{Context}
use Rattle.js_base.specs.declared.options.ParseOptions.{ParseOptions}
use Rattle.js_base.specs.declared.source_type.SourceType.{SourceType}
use Rattle.js_base.specs.declared.token.Token.{Token}
use Rattle.js_tree.specs.js_grammar.ModuleRecords.{Part as Visit}
use Rattle.js_lex.specs.States.{State}
use Rattle.js_cursor.specs.Notes.{Notes}
use Rattle.js_tree.specs.Nodes.{Node}

pub record Parser : Type 0 where
  pub text : List ℕ
  pub source_type : SourceType
  pub options : ParseOptions
  -- its lexer, which is a lexeme ahead
  pub lexer : State
  -- the current lexeme; true: of a sign that begins with `>` this alone is told; and where the lexeme before it ends, 0 at the beginning
  pub token : Token
  pub cut : Bool
  pub prev_token_end : ℕ
  -- the nodes by number, and what the declarations of a module add to its record
  pub nodes : List Node
  pub visits : List Visit
  pub state : Notes
  -- the parameters that are in force
  pub ctx : Context
  pub errors : List Diagnostic
  -- how deep the production that is read is nested
  pub depth : ℕ
