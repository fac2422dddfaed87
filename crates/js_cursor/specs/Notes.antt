-- What a parser notes on its way: heads of arrow functions, and operands, that were looked for in vain, and shorthands and commas that are judged later.
use Rattle.std.specs.Prelude.{ℕ, ◌+◌, ◌*◌, ◌<◌, ◌≡◌, Bool, true, false, cond, List, [], Option, Some, None}
use Rattle.std.specs.List.{list_any}
use Rattle.std.specs.Ordering.{nat_cmp}
use Rattle.std.specs.BTreeMap.{is_at}
use Rattle.js_base.specs.Contexts.{bits_of}
use Rattle.js_base.specs.declared.context.Context.{Context}
use Rattle.js_base.specs.declared.span.Span.{Span}
use Rattle.js_cursor.specs.declared.state.CoverInitializer.{CoverInitializer}

-- a place and the parameters in force there, as one number
abbrev pub noted_number : Context → ℕ → ℕ
noted_number c place = place * 65536 + bits_of c

-- whether a place is noted under these parameters, in a list of such numbers
abbrev pub is_noted : List ℕ → Context → ℕ → Bool
is_noted numbers c place = list_any (is_at (nat_cmp (noted_number c place))) numbers

-- This place is noted under these parameters; of all else the same is known.
pub record NotesPlace (c : Context) (place : ℕ) (old new : List ℕ) : Type 0 where
  pub noted : is_noted new c place ≡ true
  pub others : (d : Context) (q : ℕ) → bits_of d < 65536 → ((d ≡ c) × (q ≡ place) → ⊥) → is_noted new d q ≡ is_noted old d q

-- whether a place is one of these
abbrev pub is_place : List ℕ → ℕ → Bool
is_place places place = list_any (is_at (nat_cmp place)) places

-- This place is one of them now, and of all else the same is known.
pub record AddsPlace (place : ℕ) (old new : List ℕ) : Type 0 where
  pub added : is_place new place ≡ true
  pub others : (q : ℕ) → (q ≡ place → ⊥) → is_place new q ≡ is_place old q

pub record Notes : Type 0 where
  -- where no head of an arrow function was found; where no operand was
  pub failed : List ℕ
  pub operands : List ℕ
  -- behind which parentheses begin with `=>` behind them, and others; up to where the text was looked through for them; and whether a head is being attempted
  pub arrows : List ℕ
  pub others : List ℕ
  pub looked : ℕ
  pub attempting : Bool
  -- the changes that made the shorthands with `=` that are kept, and the commas that end a list, each by the start
  pub covers : List (ℕ × Option CoverInitializer)
  pub commas : List (ℕ × Option Span)

pub record HasNone (n : Notes) : Type 0 where
  pub failed : n.failed ≡ []
  pub operands : n.operands ≡ []
  pub arrows : n.arrows ≡ []
  pub others : n.others ≡ []
  pub covers : n.covers ≡ []
  pub commas : n.commas ≡ []

pub record NotesFailed (c : Context) (place : ℕ) (old new : Notes) : Type 0 where
  pub failed : NotesPlace c place old.failed new.failed
  pub operands : new.operands ≡ old.operands
  pub arrows : new.arrows ≡ old.arrows
  pub others : new.others ≡ old.others
  pub covers : new.covers ≡ old.covers
  pub commas : new.commas ≡ old.commas

pub record NotesOperand (c : Context) (place : ℕ) (old new : Notes) : Type 0 where
  pub operands : NotesPlace c place old.operands new.operands
  pub failed : new.failed ≡ old.failed
  pub arrows : new.arrows ≡ old.arrows
  pub others : new.others ≡ old.others
  pub covers : new.covers ≡ old.covers
  pub commas : new.commas ≡ old.commas

-- whether `=>` stands behind the parentheses that begin behind a place, as far as it is noted
abbrev pub closing_known : Notes → ℕ → Option Bool
closing_known n place = cond (is_place n.arrows place) (Some true) (cond (is_place n.others place) (Some false) None)

-- It is noted of one more place.
abbrev pub NotesClosing : ℕ → Bool → Notes → Notes → Type 0
NotesClosing place true old new = AddsPlace place old.arrows new.arrows × (new ≡ record old { arrows = new.arrows })
NotesClosing place false old new = AddsPlace place old.others new.others × (new ≡ record old { others = new.others })
