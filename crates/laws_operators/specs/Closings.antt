-- Where the parentheses close that begin at a place, by lexemes of the plain lexical goal of which none begins with a slash.
use Rattle.std.specs.Prelude.{ℕ, ◌≡◌, Bool, true, false, not, List, [], ◌∷◌, ◌++◌, ◌⊎◌, Some, length, IsCharBoundary}
use Rattle.js_base.specs.declared.kind.Kind.{Kind}
use Rattle.js_base.specs.declared.kind.Kind.TheVariants.{Arrow, Undetermined}
use Rattle.js_base.specs.Kinds.{one_of_kinds}
use Rattle.js_grammar.specs.Brackets.{bracket, move}
use Rattle.js_grammar.specs.Grammar.{Lexeme}
use Rattle.js_grammar.specs.Lexemes.{division}
use Rattle.js_base.specs.declared.token.Token.{Token}
use Rattle.laws_shared.specs.js_cursor.Notes.{NotesClosing, is_place}
use Rattle.laws_shared.specs.js_cursor.Parsers.{Parser}
use Rattle.laws_shared.specs.js_lex.Reading.{GivesLexeme, LexemeBehind}
use Rattle.laws_shared.specs.Heads.{NoHead, NotedClosings, OnlyArrow}
use Rattle.js_grammar.specs.Productions.{Flags}
use Rattle.laws_shared.specs.Lexemes.{slashes}
use Rattle.laws_operators.specs.declared.forms.OpenedBracket.{OpenedBracket}
use Rattle.laws_operators.specs.declared.forms.OpenBracket.{OpenBracket}
use Rattle.laws_operators.specs.declared.forms.OpenBracket.TheVariants.{Round, Square, Curly}

-- a lexeme of the plain lexical goal, with which no regular expression may begin
abbrev pub Settled : List ℕ → ℕ → Lexeme → Type 0
Settled text s y = LexemeBehind division text s y × (one_of_kinds slashes y.kind ≡ false)

-- With these brackets open at a place: the lexemes from there on up to the one behind which none is open, and the place there.
pub data Closing (text : List ℕ) : List ℕ → ℕ → ℕ → Type 0 where
  closed : {st : List ℕ} {s : ℕ} {y : Lexeme} → Settled text s y → move (bracket y.kind) st ≡ Some [] → Closing text st s y.to
  inside : {st u : List ℕ} {b s e : ℕ} {y : Lexeme} → Settled text s y → move (bracket y.kind) st ≡ Some (b ∷ u) → Closing text (b ∷ u) y.to e → Closing text st s e

-- With these brackets open at a place: the text ends, or no lexeme stands, before all of them are closed.
pub data Unclosed (text : List ℕ) : List ℕ → ℕ → Type 0 where
  text_ends : {b : ℕ} {u : List ℕ} {s : ℕ} → s ≡ length text → Unclosed text (b ∷ u) s
  none_stands : {st : List ℕ} {s : ℕ} → ((y : Lexeme) → LexemeBehind division text s y → ⊥) → Unclosed text st s
  further : {st u : List ℕ} {b s : ℕ} {y : Lexeme} → Settled text s y → move (bracket y.kind) st ≡ Some (b ∷ u) → Unclosed text (b ∷ u) y.to → Unclosed text st s

-- `=>` stands behind the name or the parentheses that begin at a place.
pub record ArrowBehindOne (text : List ℕ) (s : ℕ) : Type 0 where
  pub place : ℕ
  pub closing : Closing text [] s place
  pub arrow : Lexeme
  pub stands : LexemeBehind division text place arrow
  pub is : arrow.kind ≡ Arrow

-- which bracket it is
abbrev pub number_of : OpenBracket → ℕ
number_of Round = 1
number_of Square = 2
number_of Curly = 3

-- the token tells the whole lexeme of the plain lexical goal behind a place, or that none stands there
abbrev pub WholeBehind : List ℕ → ℕ → Token → Type 0
WholeBehind text s t = GivesLexeme division (λ y. y) text s t ⊎ ((t.kind ≡ Undetermined) × ((y : Lexeme) → LexemeBehind division text s y → ⊥))

-- a token that tells a lexeme, with which no regular expression may begin
abbrev pub tells_settled : Kind → Bool
tells_settled k = not (one_of_kinds (Undetermined ∷ slashes) k)

-- ---- what is noted of closings

-- whether `=>` stands behind the place
abbrev pub ArrowTold : List ℕ → ℕ → Bool → Type 0
ArrowTold text s true = (y : Lexeme) × LexemeBehind division text s y × (y.kind ≡ Arrow)
ArrowTold text s false = (y : Lexeme) → LexemeBehind division text s y → y.kind ≡ Arrow → ⊥

-- under all parameters no operand stands at the place, since `=>` stands behind the parentheses there; or no head, since none does
abbrev pub ByClosing : List ℕ → ℕ → Bool → Type 0
ByClosing text s true = (f : Flags) → OnlyArrow text f s
ByClosing text s false = (f : Flags) → NoHead text f s

-- it was noted of one place
abbrev pub NotesOne : ℕ → Bool → Parser → Parser → Type 0
NotesOne place b p q = NotesClosing place b p.state q.state × (q ≡ record p { state = q.state })

-- nothing but what is noted of closings changed, and what is noted of them is so still
pub record NotesMore (p q : Parser) : Type 0 where
  pub is : q ≡ record p { state = record p.state { arrows = q.state.arrows; others = q.state.others; looked = q.state.looked } }
  pub so : NotedClosings p.text p.state.arrows p.state.others → NotedClosings p.text q.state.arrows q.state.others

-- the brackets that are open, the last one first
abbrev pub opened_behind : List ℕ → List OpenedBracket → List ℕ
opened_behind st [] = st
opened_behind st (o ∷ os) = opened_behind (number_of o.bracket ∷ st) os

-- From one place the lexemes lead to another with these brackets open there.
pub record OpenThere (text : List ℕ) (st : List ℕ) (start place : ℕ) : Type 0 where
  pub closing : (e : ℕ) → Closing text st place e → Closing text [] start e
  pub unclosed : Unclosed text st place → Unclosed text [] start

-- each of these brackets, which begins behind its place, is open at a place, and those behind it are
abbrev pub StandOpen : List ℕ → ℕ → List OpenedBracket → Type 0
StandOpen text place [] = Unit {0}
StandOpen text place (o ∷ os) = OpenThere text (opened_behind [] (o ∷ os)) o.behind place × StandOpen text place os

-- none of these brackets closes
abbrev pub NoneCloses : List ℕ → List OpenedBracket → Type 0
NoneCloses text [] = Unit {0}
NoneCloses text (o ∷ os) = Unclosed text [] o.behind × NoneCloses text os

-- a lexeme was passed, and these brackets are open behind it; false: there is no more to look for
abbrev pub LexemePassed : Parser → Token → Parser → List OpenedBracket → Bool → Type 0
LexemePassed p t q os true = NotesMore p q × StandOpen p.text t.span.end os × IsCharBoundary p.text t.span.end
LexemePassed p t q os false = NotesMore p q

-- the bracket that was opened last is closed, and it is noted whether `=>` stands behind it; false: another one was opened last, or none
abbrev pub ClosesLast : OpenBracket → ℕ → Parser → List OpenedBracket → Parser → List OpenedBracket → Bool → Type 0
ClosesLast b e p old q new true = (o : OpenedBracket) × (old ≡ new ++ o ∷ []) × (o.bracket ≡ b) × (a : Bool) × ArrowTold p.text e a × NotesOne o.behind a p q
ClosesLast b e p old q new false = q ≡ p

-- it is noted that `=>` stands behind the parentheses that begin behind the place; false says nothing
abbrev pub FindsClosing : ℕ → Parser → Parser → Bool → Type 0
FindsClosing place p q true = NotesMore p q × (is_place q.state.arrows place ≡ true)
FindsClosing place p q false = NotesMore p q
