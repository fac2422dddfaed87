-- Decorators (of their proposal), which stand before what they are kept for: where none stands, nothing is kept.
use Rattle.std.proofs.Common.{ℕ, ◌≡◌, false, List, [], ◌∷◌, refl}
use Rattle.js_base.specs.declared.kind.Kind.TheVariants.{At as at_sign}
use Rattle.js_base.specs.Kinds.{one_of_kinds}
use Rattle.js_grammar.specs.Trees.{Slots, end}
use Rattle.js_grammar.specs.Grammar.{Lexemes, keep, kept, many, nothing, Takes, is_nothing, is_seq, is_left, is_right, is_many, is_keep, is_kept}
use Rattle.js_grammar.specs.Lexed.{Lexes}
use Rattle.js_grammar.specs.Parsing.{Test, plain, full, still, Goes, Reads, Fails}
use Rattle.js_grammar.specs.Productions.{G, Flags, Decorator}
use Rattle.js_grammar.specs.Productions.{sym as symbol}
use Rattle.js_grammar.specs.Table.{rule}
use Rattle.js_grammar.proofs.Looks.{covers, apart}
use Rattle.js_grammar.proofs.Calculus.{passes_none}
use Rattle.laws_shared.specs.js_cursor.Parsers.{Parser}
use Rattle.laws_shared.specs.Lexemes.{Lex}
use Rattle.laws_shared.specs.States.{At}
use Rattle.laws_shared.proofs.Paths.{fails_at}

-- a decorator begins with `@`
pub no_decorator : {text : List ℕ} {f : Flags} {p : Parser} {X : Test} → At text f p → one_of_kinds (at_sign ∷ []) p.token.kind ≡ false → Fails rule (Lex text) X end (symbol Decorator f) p.prev_token_end
unfolding covers apart
no_decorator {f = f} a u = fails_at a (symbol Decorator f) (at_sign ∷ []) refl u

module _ {text : List ℕ} {s : ℕ} {X : Test} where
  -- nothing is kept
  pub kept_none : Reads rule (Lex text) X end kept s s (λ us. us) (still 0)
  kept_none = record { passes = passes_none; sound = λ us vs k ls rest l w d. to us vs k ls rest d; only = λ ts vs k ls rest l d e. from ts vs k ls rest l d }
    where
      to : (us vs : Slots) (k : ℕ) (ls rest : Lexemes) → Takes rule nothing end us s ls vs k rest → Takes rule kept end us s ls vs k rest
      to us vs k ls rest is_nothing = is_kept refl

      from : (ts vs : Slots) (k : ℕ) (ls rest : Lexemes) → Lexes (Lex text) s ls → Takes rule kept end ts s ls vs k rest → (us : Slots) × (more : Lexemes) × (ts ≡ us) × Lexes (Lex text) s more × Takes rule nothing end us s more vs k rest × (ls ≡ more)
      from ts vs k ls rest l (is_kept q) = (vs, ls, q, l, is_nothing, refl)

  -- of items of which none stands here
  pub none_kept : {a b : G} → Fails rule (Lex text) (plain full) end a s → Goes rule (Lex text) X end (keep (many a) b) s b s (λ us. us) (still 0)
  none_kept {a} {b} n = record { passes = passes_none; sound = λ us vs k ls rest l w d. is_keep (is_many (is_right is_nothing)) d; only = λ ts vs k ls rest l d e. from ts vs k ls rest l d }
    where
      from : (ts vs : Slots) (k : ℕ) (ls rest : Lexemes) → Lexes (Lex text) s ls → Takes rule (keep (many a) b) end ts s ls vs k rest → (us : Slots) × (more : Lexemes) × (ts ≡ us) × Lexes (Lex text) s more × Takes rule b end us s more vs k rest × (ls ≡ more)
      from ts vs k ls rest l (is_keep (is_many (is_left (is_seq {us = us} {j = j} {mid = mid} d d'))) e) = absurd (n.no _ us j ls mid l d (refl, refl))
      from ts vs k ls rest l (is_keep (is_many (is_right is_nothing)) e) = (ts, ls, refl, l, e, refl)
