-- How a parser starts (ECMA-262, chapter 16; the parameters at the top of each goal symbol).
use Rattle.std.specs.Prelude.{ℕ, ◌≡◌, Bool, true, false, ◌||◌, List, [], ◌∷◌}
use Rattle.js_base.specs.declared.context.Context.{Context}
use Rattle.js_base.specs.declared.options.ParseOptions.{ParseOptions}
use Rattle.js_base.specs.declared.source_type.SourceType.{SourceType}
use Rattle.js_base.specs.declared.source_type.Goal.TheVariants as source
use Rattle.js_base.specs.Contexts.{has_flag, in_flag, yield_flag, await_flag, return_flag, decorator_flag, disallow_conditional_types_flag, ambient_flag, top_level_flag, new_target_flag, await_expression_flag}
use Rattle.js_tree.specs.Nodes.{empty_program}
use Rattle.js_lex.specs.Kept.{IsEmpty}
use Rattle.js_lex.specs.Reading.{GivesFirst}
use Rattle.js_lex.specs.States.{State, goal_of}
use Rattle.js_cursor.specs.Notes.{HasNone}
use Rattle.js_cursor.specs.Parsers.{Parser}
use Rattle.js_cursor.specs.Places.{IsAt}

abbrev pub is_module : SourceType → Bool
is_module s = elim s.goal [ source.Module ↦ true | _ ↦ false ]

abbrev pub is_commonjs : SourceType → Bool
is_commonjs s = elim s.goal [ source.CommonJs ↦ true | _ ↦ false ]

-- The parameters in force where a text begins: In; Await in a module; Return and `new.target` in a text of CommonJS, which is the body of a function, and Return where the options allow it; no other.
pub record AtStart (source_type : SourceType) (options : ParseOptions) (c : Context) : Type 0 where
  pub in_ : has_flag in_flag c ≡ true
  pub yield : has_flag yield_flag c ≡ false
  pub await : has_flag await_flag c ≡ is_module source_type
  pub return : has_flag return_flag c ≡ (is_commonjs source_type || options.allow_return_outside_function)
  pub decorator : has_flag decorator_flag c ≡ false
  pub disallow_conditional_types : has_flag disallow_conditional_types_flag c ≡ false
  pub ambient : has_flag ambient_flag c ≡ false
  pub top_level : has_flag top_level_flag c ≡ false
  pub new_target : has_flag new_target_flag c ≡ is_commonjs source_type
  pub await_expression : has_flag await_expression_flag c ≡ is_module source_type

-- A parser at the start of a text: its first token is the current lexeme, and beyond the node of Program nothing was made or kept.
pub record Starts (source : List ℕ) (read_as : SourceType) (asked : ParseOptions) (asks_for_tokens : Bool) (p : Parser) : Type 0 where
  pub text : p.text ≡ source
  pub source_type : p.source_type ≡ read_as
  pub options : p.options ≡ asked
  pub lexer : State
  pub reads : lexer.text ≡ source
  pub reads_for : lexer.goal ≡ goal_of read_as
  pub keeps_tokens : lexer.keeps_tokens ≡ asks_for_tokens
  pub at_start : lexer.place ≡ 0
  pub kept_none : IsEmpty lexer.kept
  pub first : GivesFirst lexer p.lexer p.token
  pub prev_token_end : p.prev_token_end ≡ 0
  pub nodes : p.nodes ≡ empty_program ∷ []
  pub visits : p.visits ≡ []
  pub state : HasNone p.state
  pub ctx : AtStart read_as asked p.ctx
  pub errors : p.errors ≡ []
  pub depth : p.depth ≡ 0
  pub at : IsAt p
