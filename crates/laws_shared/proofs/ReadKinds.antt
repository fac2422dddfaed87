-- Whether a lexeme that is read stands at a place.
use Rattle.std.proofs.Common.{ℕ, ◌≡◌, Bool, true, false, List, refl, sym, ap, subst, ◌∙◌}
use Rattle.std.proofs.lemmas.Bool.{false≢true}
use Rattle.js_base.specs.Kinds.{one_of_kinds}
use Rattle.js_base.specs.declared.kind.Kind.{Kind}
use Rattle.js_grammar.specs.Grammar.{Lexeme, Look}
use Rattle.js_grammar.specs.Productions.{Flags}
use Rattle.js_grammar.proofs.Looks.{covers, covered}
use Rattle.js_cursor.specs.Parsers.{Parser}
use Rattle.laws_shared.specs.Lexemes.{Lex, signs, is_read_kind}
use Rattle.laws_shared.specs.Stands.{ReadsHere}
use Rattle.laws_shared.specs.States.{At, Standing, IsPlain, whole, sign, nothing as no_lexeme}
use Rattle.laws_shared.proofs.Here.{cut_angle, told}
use Rattle.laws_shared.proofs.Paths.{angles}
use Rattle.laws_shared.proofs.Escapes.{read_as}

-- a sign that begins with `>` is read
abbrev any_read : Look
any_read k w e = is_read_kind k

angles_read : covers angles any_read ≡ true
unfolding covers
angles_read = refl

read_there : {text : List ℕ} {f : Flags} {p : Parser} → At text f p → is_read_kind p.token.kind ≡ true → (y : Lexeme) × Lex text p.prev_token_end y
read_there {text} {p = p} a r = go a.plain
  where
    go : IsPlain text p → (y : Lexeme) × Lex text p.prev_token_end y
    go (whole c n x) = (x.lexeme, (x.stands.lex, read_as x.lexeme x.tells r))
    go (sign c k x) = (x.lexeme, (x.stands.lex, covered angles any_read angles_read x.lexeme.kind false false (cut_angle x.lexeme (sym x.tells.kind ∙ k))))
    go (no_lexeme c k n) = absurd (false≢true (sym (ap is_read_kind k) ∙ r))

abbrev a_sign : Look
a_sign k w e = one_of_kinds signs k

signs_read : covers a_sign any_read ≡ true
unfolding covers
signs_read = refl

-- what isn't read is none of the signs with which a lexeme of another goal begins
pub unread_no_sign : (k : Kind) → is_read_kind k ≡ false → one_of_kinds signs k ≡ false
unread_no_sign k r = go (one_of_kinds signs k) refl
  where
    go : (b : Bool) → one_of_kinds signs k ≡ b → one_of_kinds signs k ≡ false
    go true h = absurd (false≢true (sym r ∙ covered a_sign any_read signs_read k false false h))
    go false h = h

-- it is what stands there
none_there : {text : List ℕ} {f : Flags} {p : Parser} → At text f p → is_read_kind p.token.kind ≡ false → (y : Lexeme) → Lex text p.prev_token_end y → ⊥
none_there {text} {p = p} a r y l = go a.plain
  where
    by : p.cut ≡ false → ⊥
    by c = false≢true (sym r ∙ subst (λ (v : Kind). is_read_kind v ≡ true) (sym (told a c (unread_no_sign p.token.kind r) y l).kind) l.1)

    go : IsPlain text p → ⊥
    go (whole c n x) = by c
    go (sign c k x) = false≢true (sym r ∙ ap is_read_kind k)
    go (no_lexeme c k n) = by c

pub reads_so : {p : Parser} (b : Bool) → Standing p → b ≡ is_read_kind p.token.kind → ReadsHere p b
reads_so true a h = read_there a (sym h)
reads_so false a h = none_there a (sym h)
