-- What it is that a grammar's part is read from a place of a text on, or can't be: for any grammar and any lexing.
use Rattle.std.specs.Prelude.{ℕ, ◌≡◌, ◌≤◌, ◌⊎◌, Bool, true, IsTrue, max}
use Rattle.js_base.specs.declared.kind.Kind.TheVariants.{Eof}
use Rattle.js_grammar.specs.Trees.{Slots, Tree}
use Rattle.js_grammar.specs.Grammar.{Lexeme, Lexemes, last, next, here, Look, seen, Grammar, nothing, Takes}
use Rattle.js_grammar.specs.Lexed.{Lexes}

-- The test that every tree passes, and the one that every lexeme passes.
abbrev pub always : Tree → Bool
always t = true

abbrev pub full : Look
full k w e = true

-- The list goes on at least to the lexeme behind the place e, or to the end of the text.
abbrev pub Reaches : ℕ → ℕ → Lexemes → Type 0
Reaches e s (last x) = (e ≤ s) ⊎ (x.kind ≡ Eof)
Reaches e s (next x ls) = Reaches e x.to ls

-- What is passed on the way from one place to another: how far the list was looked along, and the lexemes, put before those from there on.
pub record Way : Type 0 where
  pub reach : ℕ
  pub pass : Lexemes → Lexemes

-- no lexeme is passed
abbrev pub still : ℕ → Way
still n = record { reach = n; pass = λ ls. ls }

abbrev pub passing : Lexeme → Way
passing x = record { reach = 0; pass = λ ls. next x ls }

abbrev pub joined : Way → Way → Way
joined a b = record { reach = max a.reach b.reach; pass = λ ls. a.pass (b.pass ls) }

-- The lexemes stand between the places s and s': before lexemes from s' on they are lexemes from s on, which reach as far.
pub record Passes (Lex : ℕ → Lexeme → Type 0) (s s' : ℕ) (pass : Lexemes → Lexemes) : Type 0 where
  pub lexed : (ls : Lexemes) → Lexes Lex s' ls → Lexes Lex s (pass ls)
  pub reaches : (e : ℕ) (ls : Lexemes) → Reaches e s' ls → Reaches e s (pass ls)

-- What may stand behind what is read: by the next lexeme alone, on which checks compute, and by the slots that were read as well.
pub record Test : Type 0 where
  pub base : Look
  pub by : Slots → Look

abbrev pub any_slots : Slots → Look
any_slots ts k w e = true

abbrev pub plain : Look → Test
plain F = record { base = F; by = any_slots }

-- the test of what is read behind the slots that f puts before
abbrev pub behind : Test → (Slots → Slots) → Test
behind X f = record { base = X.base; by = λ us. X.by (f us) }

-- behind these slots this lexeme may stand
abbrev pub Admits : Test → Slots → Lexeme → Type 0
Admits X ts y = IsTrue (seen X.base y) × IsTrue (seen (X.by ts) y)

-- With the slots ks kept, to read g from the place s, where X stands behind it, is to read g' from the place s', with the slots that f puts before, and over the lexemes passed.
-- Sound: what follows can be completed, where it reaches as far as was looked. Only: whatever is taken from s, and ends where its own slots permit, goes this way, over these lexemes.
pub record Goes {N : Type 0} (rule : N → Grammar N) (Lex : ℕ → Lexeme → Type 0) (X : Test) (ks : Slots) (g : Grammar N) (s : ℕ) (g' : Grammar N) (s' : ℕ) (f : Slots → Slots) (way : Way) : Type 0 where
  pub passes : Passes Lex s s' way.pass
  pub sound : (us vs : Slots) (k : ℕ) (ls rest : Lexemes) → Lexes Lex s' ls → Reaches way.reach s' ls → Takes rule g' ks us s' ls vs k rest → Takes rule g ks (f us) s (way.pass ls) vs k rest
  pub only : (ts vs : Slots) (k : ℕ) (ls rest : Lexemes) → Lexes Lex s ls → Takes rule g ks ts s ls vs k rest → Admits X ts (here rest) → (us : Slots) × (ls' : Lexemes) × (ts ≡ f us) × Lexes Lex s' ls' × Takes rule g' ks us s' ls' vs k rest × (ls ≡ way.pass ls')

-- It is read whole, up to the place s'.
abbrev pub Reads : {N : Type 0} → (N → Grammar N) → (ℕ → Lexeme → Type 0) → Test → Slots → Grammar N → ℕ → ℕ → (Slots → Slots) → Way → Type 0
Reads rule Lex X ks g s s' f way = Goes rule Lex X ks g s nothing s' f way

pub record Fails {N : Type 0} (rule : N → Grammar N) (Lex : ℕ → Lexeme → Type 0) (X : Test) (ks : Slots) (g : Grammar N) (s : ℕ) : Type 0 where
  pub no : (ts vs : Slots) (k : ℕ) (ls rest : Lexemes) → Lexes Lex s ls → Takes rule g ks ts s ls vs k rest → Admits X ts (here rest) → ⊥
