-- Modifiers of TypeScript before the names of members.
use Rattle.std.specs.Prelude.{ℕ, ◌≡◌, Bool, false, not, ◌||◌, [], ◌∷◌, if◌then◌else◌}
use Rattle.js_base.specs.declared.kind.Kind.TheVariants.{Private, Protected, Public}
use Rattle.js_base.specs.declared.token.Token.{Token}
use Rattle.js_base.specs.Kinds.{one_of_kinds}
use Rattle.js_base.specs.Spans.{LiesIn}
use Rattle.js_grammar.specs.Grammar.{Lexeme}
use Rattle.js_grammar.specs.Lexed.{NextLexeme, all_faults}
use Rattle.js_grammar.specs.LexicalFaults.{Reached}
use Rattle.laws_primary.specs.js_cursor.Parsers.{Parser}
use Rattle.laws_primary.specs.js_cursor.js_lex.Reading.{Tells}
use Rattle.laws_primary.specs.laws_shared.Lexemes.{keyword_kind}
use Rattle.laws_classes.specs.Elements.{name_kinds}

-- a word is one before this token, with which a name begins on its line
abbrev pub is_modifier : Token → Token → Bool
is_modifier word behind = if not (one_of_kinds name_kinds behind.kind) || behind.is_on_new_line then false else one_of_kinds (Private ∷ Protected ∷ Public ∷ []) (keyword_kind word)

-- The token tells the lexeme that was passed last.
pub record PassedLast (t : Token) (p : Parser) : Type 0 where
  pub place : ℕ
  pub lexeme : Lexeme
  pub reached : Reached p.text place
  pub stood : NextLexeme all_faults p.text place lexeme
  pub tells : Tells lexeme t
  pub ends : lexeme.to ≡ p.prev_token_end
  pub lies : LiesIn t.span p.text
