-- Brackets: which are open behind some lexemes, and that each closes the one that was opened last.
use Rattle.std.specs.Prelude.{ℕ, List, [], ◌∷◌, ◌≡◌, cond, nat_eq, Option, Some, None}
use Rattle.js_base.specs.declared.kind.Kind.{Kind}
use Rattle.js_base.specs.declared.kind.Kind.TheVariants.{LParen, RParen, LBrack, RBrack, LCurly, RCurly, TemplateHead, TemplateMiddle, TemplateTail}
use Rattle.js_base.specs.Kinds.{same_kind}
use Rattle.js_grammar.specs.Grammar.{Lexeme, Lexemes, next}

-- no bracket, or one of `()` (1), `[]` (2), `{}` (3), or of the parts of a template (4), whose middle part closes one and opens the next
pub data Bracket : Type 0 where
  plain : Bracket
  opens : ℕ → Bracket
  closes : ℕ → Bracket
  reopens : ℕ → Bracket

-- A bracket is closed: of those that are open the last one must be of its kind.
unfoldable pub pop : ℕ → List ℕ → Option (List ℕ)
pop b [] = None
pop b (c ∷ s) = cond (nat_eq b c) (Some s) None

-- It is closed, and another of its kind is opened.
unfoldable pub stay : ℕ → List ℕ → Option (List ℕ)
stay b [] = None
stay b (c ∷ s) = cond (nat_eq b c) (Some (c ∷ s)) None

-- which bracket a kind is
unfoldable pub bracket : Kind → Bracket
bracket k = cond (same_kind LParen k) (opens 1) (cond (same_kind LBrack k) (opens 2) (cond (same_kind LCurly k) (opens 3) (cond (same_kind TemplateHead k) (opens 4)
    (cond (same_kind RParen k) (closes 1) (cond (same_kind RBrack k) (closes 2) (cond (same_kind RCurly k) (closes 3) (cond (same_kind TemplateTail k) (closes 4) (cond (same_kind TemplateMiddle k) (reopens 4) plain))))))))

-- the brackets that are open behind this one, the last one first; none, where it closes another
unfoldable pub move : Bracket → List ℕ → Option (List ℕ)
move plain s = Some s
move (opens b) s = Some (b ∷ s)
move (closes b) s = pop b s
move (reopens b) s = stay b s

-- With the brackets s open before the lexemes from here on, those of u are open before the ones that are left, and each that was closed between was the last one open.
pub data Runs : List ℕ → Lexemes → List ℕ → Lexemes → Type 0 where
  stop : {s : List ℕ} {ls : Lexemes} → Runs s ls s ls
  go_on : {s t u : List ℕ} {x : Lexeme} {ls rest : Lexemes} → move (bracket x.kind) s ≡ Some t → Runs t ls u rest → Runs s (next x ls) u rest
