-- A comma at a state, and behind operands.
use Rattle.std.proofs.Common.{◌≡◌, ℕ, true, false, not, IsTrue, List, [], ◌∷◌, refl, ap, sym, subst, ◌||◌}
use Rattle.std.proofs.lemmas.Bool.{and_from, and_parts, or_left}
use Rattle.js_base.specs.declared.kind.Kind.{Kind}
use Rattle.js_base.specs.declared.kind.Kind.TheVariants.{Comma}
use Rattle.js_base.specs.Kinds.{same_kind}
use Rattle.js_grammar.specs.Follow.{surest}
use Rattle.js_grammar.specs.Grammar.{Lexeme, is, seen}
use Rattle.js_grammar.specs.Productions.{Assignment, Flags}
use Rattle.js_grammar.proofs.Looks.{apart, covers}
use Rattle.js_cursor.specs.Parsers.{Parser}
use Rattle.laws_shared.specs.Lexemes.{Lex}
use Rattle.laws_shared.specs.States.{At}
use Rattle.laws_shared.proofs.Escapes.{read_plain}
use Rattle.laws_shared.proofs.Here.{kind_here}
use Rattle.laws_shared.proofs.Paths.{not_here}
use Rattle.laws_shared.proofs.Signs.{other_kind}

pub comma_may_follow : covers (is Comma) (surest Assignment) ≡ true
unfolding covers
comma_may_follow = refl

pub commas_here : {text : List ℕ} {f : Flags} {q : Parser} → At text f q → q.token.kind ≡ Comma → (y : Lexeme) → Lex text q.prev_token_end y → IsTrue (seen (is Comma) y)
commas_here a k y l = and_from _ _ (subst (λ (v : Kind). same_kind Comma v ≡ true) (sym (kind_here a k refl y l)) refl) (ap not (read_plain y l (kind_here a k refl y l) refl))

pub no_comma_here : {text : List ℕ} {f : Flags} {q : Parser} → At text f q → (q.token.kind ≡ Comma → ⊥) → (y : Lexeme) → Lex text q.prev_token_end y → IsTrue (seen (is Comma) y) → ⊥
unfolding apart
no_comma_here {q = q} a n y l h = not_here a (Comma ∷ []) refl (other_kind Comma q.token.kind n) y l (or_left (same_kind Comma y.kind) false (and_parts (same_kind Comma y.kind) (not y.escaped) h).0)
