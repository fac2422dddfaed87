-- What a parse function has read of a part of a production, from one place of a parser to another.
use Rattle.std.specs.Prelude.{ℕ, ◌≡◌, ◌<◌, List, true}
use Rattle.js_grammar.specs.Trees.{Slots, end}
use Rattle.js_grammar.specs.Grammar.{Lexemes}
use Rattle.js_grammar.specs.Parsing.{Test, Fails}
use Rattle.js_grammar.specs.Productions.{G, Flags}
use Rattle.js_grammar.specs.Table.{rule}
use Rattle.js_cursor.specs.Parsers.{Parser}
use Rattle.laws_shared.specs.Answers.{Stretch, Verdict}
use Rattle.laws_shared.specs.Lexemes.{Lex, Walked, spot}
use Rattle.laws_shared.specs.States.{At}

-- A path of a parse function, clean or not.
pub record Path (text : List ℕ) (f : Flags) (X : Test) (g : G) (p : Parser) (g' : G) (q : Parser) (h : Slots → Slots) : Type 0 where
  pub at : At text f q
  pub further : p.token.span.start < q.prev_token_end
  pub pass : Lexemes → Lexemes
  pub walked : Walked text (spot p) (spot q) pass
  pub verdict : Verdict (f.wide ≡ true) p.errors q.errors (Stretch text X g p.prev_token_end g' q.prev_token_end h pass) (Fails rule (Lex text) X end g p.prev_token_end)
