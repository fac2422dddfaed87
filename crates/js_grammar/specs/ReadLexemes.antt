-- Which lexemes the parse functions read: all but a hashbang comment. Nothing is derived over another one.
use Rattle.std.specs.Prelude.{ℕ, Bool, not, List, [], ◌∷◌, IsTrue}
use Rattle.js_base.specs.declared.kind.Kind.{Kind}
use Rattle.js_base.specs.declared.kind.Kind.TheVariants.{HashbangComment, Undetermined}
use Rattle.js_base.specs.Kinds.{one_of_kinds}
use Rattle.js_grammar.specs.Grammar.{Lexeme}
use Rattle.js_grammar.specs.Lexed.{NextLexeme, passing_of}
use Rattle.js_grammar.specs.Settings.{Goal}

-- The kinds that aren't read, and that of a token where no lexeme stands.
abbrev pub unread_kinds : List Kind
unread_kinds = HashbangComment ∷ Undetermined ∷ []

abbrev pub is_read_kind : Kind → Bool
is_read_kind k = not (one_of_kinds unread_kinds k)

-- a lexeme of these kinds
abbrev pub is_read : Lexeme → Bool
is_read y = is_read_kind y.kind

-- A lexeme that is read may stand there with no fault: in a module no HTML-like comment stands before it (ECMA-262, B.1.1)
abbrev pub Faultless : Goal → List ℕ → ℕ → Lexeme → Type 0
Faultless source text s y = NextLexeme (passing_of source) text s y × IsTrue (is_read y)
