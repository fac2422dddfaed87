-- The state of a parser at the beginning of a production: the grammar parameters in force, and what stands at its place.
use Rattle.std.specs.Prelude.{ℕ, ◌≡◌, ◌≤◌, true, false, List, IsCharBoundary}
use Rattle.js_base.specs.declared.kind.Kind.TheVariants.{RAngle, Undetermined}
use Rattle.js_grammar.specs.Grammar.{Lexeme}
use Rattle.js_grammar.specs.Lexemes.{division}
use Rattle.js_grammar.specs.Productions.{Flags}
use Rattle.js_cursor.specs.js_lex.Reading.{cut, GivesLexeme, LexemeBehind}
use Rattle.js_cursor.specs.Checkpoints.{Follows}
use Rattle.js_cursor.specs.Parsers.{Parser}
use Rattle.js_cursor.specs.Places.{IsAt}
use Rattle.laws_shared.specs.Heads.{NotedHeads, flags_in, widened}
use Rattle.laws_shared.specs.Lexemes.{KeptLast}
use Rattle.laws_shared.specs.Classes.{IsEarly}
use Rattle.std.specs.List.{All}
use Rattle.laws_shared.specs.NodeTexts.{NodeFits}
use Rattle.js_cursor.specs.js_tree.Nodes.{Node}

-- the parameters that are in force
abbrev pub flags_of : Parser → Flags
flags_of p = flags_in p p.ctx

-- The current token is what the plain lexical goal gives behind the lexeme before it: the whole of a lexeme; of a punctuator that begins with `>` this sign alone; or none stands there.
pub data IsPlain (text : List ℕ) (p : Parser) : Type 0 where
  whole : p.cut ≡ false → (p.token.kind ≡ Undetermined → ⊥) → GivesLexeme division (λ y. y) text p.prev_token_end p.token → IsPlain text p
  sign : p.cut ≡ true → p.token.kind ≡ RAngle → GivesLexeme division cut text p.prev_token_end p.token → IsPlain text p
  nothing : p.cut ≡ false → p.token.kind ≡ Undetermined → ((y : Lexeme) → LexemeBehind division text p.prev_token_end y → ⊥) → IsPlain text p

-- A production of a text may be read here, under these parameters: those in force, or the same in wider forms.
pub record At (text : List ℕ) (f : Flags) (p : Parser) : Type 0 where
  pub text_is : p.text ≡ text
  pub flags_are : widened f.wide (flags_of p) ≡ f
  pub at : IsAt p
  pub plain : IsPlain text p
  pub behind : p.prev_token_end ≤ p.token.span.start
  pub heads : NotedHeads p
  pub kept_last : KeptLast p.lexer p.token

-- it may, whatever the text and the parameters are
abbrev pub Standing : Parser → Type 0
Standing p = At p.text (flags_of p) p

-- each node lies in the text, splits no character of it, and keeps what the text there asks for
abbrev pub NodesLie : List ℕ → List Node → Type 0
NodesLie text ns = All (NodeFits text) ns

-- the current token begins between characters, where the next node may, and all nodes lie in the text
abbrev pub SpansLie : Parser → Type 0
SpansLie p = IsCharBoundary p.text p.token.span.start × NodesLie p.text p.nodes

-- What a parse function gives back as it was; what was kept before is kept still, and of the diagnostics that were kept since each is one behind which reading goes on. The nodes that were made since lie in the text.
pub record Same (old new : Parser) : Type 0 where
  pub follows : Follows old new
  pub options : new.options ≡ old.options
  pub ctx : new.ctx ≡ old.ctx
  pub depth : new.depth ≡ old.depth
  pub visits : new.visits ≡ old.visits
  pub early : All IsEarly old.errors → All IsEarly new.errors
  pub lies : SpansLie old → SpansLie new
