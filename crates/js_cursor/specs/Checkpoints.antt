-- To go back to a place that was read before.
use Rattle.std.specs.Prelude.{ℕ, ◌≡◌, ◌≤◌, List, ◌++◌, length, take, Option, IsCharBoundary}
use Rattle.js_base.specs.Spans.{LiesIn}
use Rattle.js_base.specs.declared.diagnostic.Diagnostic.{Diagnostic}
use Rattle.js_base.specs.declared.span.Span.{Span}
use Rattle.js_tree.specs.js_grammar.LexicalFaults.{Reached}
use Rattle.js_tree.specs.js_grammar.ModuleRecords.{Part as Visit}
use Rattle.js_lex.specs.Kept.{lengths_of, first_kept, AreAtMost}
use Rattle.js_lex.specs.States.{SameText}
use Rattle.js_tree.specs.Holding.{Keeps}
use Rattle.js_cursor.specs.declared.checkpoint.ParserCheckpoint.{ParserCheckpoint}
use Rattle.js_cursor.specs.declared.state.CoverInitializer.{CoverInitializer}
use Rattle.js_cursor.specs.Notes.{Notes}
use Rattle.js_cursor.specs.Parsers.{Parser}
use Rattle.js_cursor.specs.Tokens.{IsToken, StillKept}
use Rattle.js_cursor.specs.Stages.{Leads, stage}
use Rattle.js_cursor.specs.Places.{IsAt, KeptBefore, goal}

-- The checkpoint tells where the parser is, its parameters and how deep it is, and how much it and its lexer have kept.
pub record Remembers (p : Parser) (c : ParserCheckpoint) : Type 0 where
  pub token : c.token ≡ p.token
  pub cut : c.cut ≡ p.cut
  pub prev_token_end : c.prev_token_end ≡ p.prev_token_end
  pub ctx : c.ctx ≡ p.ctx
  pub depth : c.depth ≡ p.depth
  pub place : c.lexer.place ≡ p.lexer.place
  pub lengths : c.lexer.lengths ≡ lengths_of p.lexer.kept
  pub errors : c.errors ≡ length p.errors
  pub visits : c.visits ≡ length p.visits
  pub covers : c.covers ≡ length p.state.covers
  pub commas : c.commas ≡ length p.state.commas

-- What was noted at the checkpoint: later shorthands and commas are gone, and those that were taken out since are back. Where no head was found stays.
abbrev pub notes_at : ParserCheckpoint → Parser → Notes
notes_at c p = record p.state { covers = take c.covers p.state.covers; commas = take c.commas p.state.commas }

-- The parser may go back to the checkpoint: its token stands in this text where it says, which lexemes lead to, a lexer at its place gave it last, what was noted there starts before it, and no list is shorter than it says.
pub record MayGoBack (c : ParserCheckpoint) (p : Parser) : Type 0 where
  pub reached : Reached p.text c.prev_token_end
  pub between : IsCharBoundary p.text c.prev_token_end
  pub token : IsToken (goal p) p.text c.prev_token_end (take c.lexer.lengths.errors p.lexer.kept.errors) c.token c.cut
  pub lies : LiesIn c.token.span p.text
  pub last : c.lexer.place ≡ c.token.span.end
  pub errors : c.errors ≤ length p.errors
  pub visits : c.visits ≤ length p.visits
  pub covers : c.covers ≤ length p.state.covers
  pub commas : c.commas ≤ length p.state.commas
  pub noted : KeptBefore (notes_at c p) c.token.span.start
  pub longer : AreAtMost c.lexer.lengths (lengths_of p.lexer.kept)

-- The parser went back: what the checkpoint tells holds again, with the shorthands and commas that were kept there; diagnostics, visits and what the lexer has kept are cut; and all else, the nodes and the heads that failed among it, stays.
pub record GoesBack (c : ParserCheckpoint) (old new : Parser) : Type 0 where
  pub token : new.token ≡ c.token
  pub cut : new.cut ≡ c.cut
  pub prev_token_end : new.prev_token_end ≡ c.prev_token_end
  pub ctx : new.ctx ≡ c.ctx
  pub depth : new.depth ≡ c.depth
  pub same : SameText old.lexer new.lexer
  pub place : new.lexer.place ≡ c.lexer.place
  pub kept : new.lexer.kept ≡ first_kept c.lexer.lengths old.lexer.kept
  pub errors : new.errors ≡ take c.errors old.errors
  pub visits : new.visits ≡ take c.visits old.visits
  pub state : new.state ≡ notes_at c old
  pub text : new.text ≡ old.text
  pub source_type : new.source_type ≡ old.source_type
  pub options : new.options ≡ old.options
  pub nodes : new.nodes ≡ old.nodes
  pub at : IsAt new

-- What holds of a parser at a later time, if it went back no further in between: it reads the same text by the same options, and what was kept is still there, but for the lexer's last token, which may have been read again.
pub record Follows (old new : Parser) : Type 0 where
  pub text : new.text ≡ old.text
  pub source_type : new.source_type ≡ old.source_type
  pub options : new.options ≡ old.options
  pub nodes : Keeps old.nodes new.nodes
  pub later_errors : List Diagnostic
  pub errors : new.errors ≡ old.errors ++ later_errors
  pub later_visits : List Visit
  pub visits : new.visits ≡ old.visits ++ later_visits
  pub later_covers : List (ℕ × Option CoverInitializer)
  pub covers : new.state.covers ≡ old.state.covers ++ later_covers
  pub later_commas : List (ℕ × Option Span)
  pub commas : new.state.commas ≡ old.state.commas ++ later_commas
  pub later_faults : List Diagnostic
  pub faults : new.lexer.kept.errors ≡ old.lexer.kept.errors ++ later_faults
  pub longer : AreAtMost (lengths_of old.lexer.kept) (lengths_of new.lexer.kept)
  pub still : StillKept old.lexer old.token new.lexer new.token
  pub leads : Leads (goal old) old.text (stage old) (stage new)

-- The parser stands where lexemes lead to, and what was kept is still there.
abbrev pub GoesOn : Parser → Parser → Type 0
GoesOn old new = Follows old new × IsAt new
