-- What holds of a parser between calls: where it is, and that all that it has kept was found on the way there.
use Rattle.std.specs.Prelude.{ℕ, ◌≡◌, ◌≤◌, length, IsUtf8, IsCharBoundary}
use Rattle.std.specs.List.{All}
use Rattle.js_base.specs.declared.TheConstants.{MAX_LEN}
use Rattle.js_base.specs.Spans.{LiesIn}
use Rattle.js_tree.specs.js_grammar.LexicalFaults.{Reached}
use Rattle.js_tree.specs.js_grammar.Marks.{Mark}
use Rattle.js_tree.specs.js_grammar.Settings.{Goal}
use Rattle.js_lex.specs.States.{goal_of}
use Rattle.js_cursor.specs.Histories.{StandBefore}
use Rattle.js_cursor.specs.Notes.{Notes}
use Rattle.js_cursor.specs.Parsers.{Parser}
use Rattle.js_cursor.specs.Tokens.{IsToken}
pub use Rattle.js_tree.specs.js_grammar.Found.{IsFault}

abbrev pub goal : Parser → Goal
goal p = goal_of p.source_type

-- every shorthand with `=` and every comma that is kept starts before this place
pub record KeptBefore (n : Notes) (place : ℕ) : Type 0 where
  pub covers : StandBefore n.covers place
  pub commas : StandBefore n.commas place

-- The lexer reads the text, and gave the current lexeme last, which stands behind the end of the one before; lexemes lead there from the text's start. Each diagnostic has its mark, and what is noted to be judged later starts before the token.
pub record IsAt (p : Parser) : Type 0 where
  pub reads : p.lexer.text ≡ p.text
  pub reads_for : p.lexer.goal ≡ goal p
  pub utf8 : IsUtf8 p.text
  pub short : length p.text ≤ MAX_LEN
  pub reached : Reached p.text p.prev_token_end
  pub between : IsCharBoundary p.text p.prev_token_end
  pub token : IsToken (goal p) p.text p.prev_token_end p.lexer.kept.errors p.token p.cut
  pub lies : LiesIn p.token.span p.text
  pub last : p.lexer.place ≡ p.token.span.end
  pub marked : All (Mark (goal p) p.text) p.errors
  pub faulty : All (IsFault (goal p) p.text) p.lexer.kept.errors
  pub noted : KeptBefore p.state p.token.span.start
