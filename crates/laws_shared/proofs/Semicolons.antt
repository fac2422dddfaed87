-- The semicolon of a statement (ECMA-262, 12.10): what its parse function answers.
use Rattle.std.proofs.Common.{ℕ, ◌≡◌, inl, inr, List, Bool, true, false, ◌&&◌, subst, refl}
use Rattle.std.specs.Prelude.{Result, Ok, Err, MatchResult}
use Rattle.std.proofs.lemmas.Bool.{and_parts}
use Rattle.js_base.specs.Kinds.{one_of_kinds}
use Rattle.js_base.specs.declared.diagnostic.DiagnosticKind.TheVariants.{ExpectToken}
use Rattle.js_cursor.specs.Parsers.{Parser}
use Rattle.js_cursor.specs.Moves.{EndsOr, GivesUp, IsUnexpected}
use Rattle.js_cursor.specs.declared.stop.Stop.{Stop}
use Rattle.js_cursor.specs.declared.stop.Stop.TheVariants.{Fatal, NoMemory}
use Rattle.js_grammar.specs.Productions.{Flags}
use Rattle.laws_shared.specs.States.{At}
use Rattle.laws_shared.specs.Answers.{Stops}
use Rattle.laws_shared.specs.Statements.{link_kinds, EndsStatement, NoEnd}
use Rattle.laws_shared.proofs.Giving.{gives_up, gives_up_here}
use Rattle.laws_shared.proofs.Classes.{here_ends}

-- what the end of a statement answers
pub end_answers : {text : List ℕ} {f : Flags} (p q : Parser) (r : Result (Unit {0}) Stop) → At text f p → (p.token.is_on_new_line && one_of_kinds link_kinds p.token.kind) ≡ false → EndsOr p q r → MatchResult r (λ x. EndsStatement p q) (λ e. Stops p q e (NoEnd p))
end_answers p q (Ok x) a v e = (λ w. subst (λ (b : Bool). (b && one_of_kinds link_kinds p.token.kind) ≡ false) w v, e)
end_answers p q (Err Fatal) a v e = gives_up _ p q Fatal a e.1 (here_ends ExpectToken refl) (inr (e.0 refl))
end_answers p q (Err NoMemory) a v e = tt

pub link_ends : {text : List ℕ} {f : Flags} (p q : Parser) (e : Stop) → At text f p → (p.token.is_on_new_line && one_of_kinds link_kinds p.token.kind) ≡ true → GivesUp (IsUnexpected p) p q e → Stops p q e (NoEnd p)
link_ends p q e a v g = gives_up_here p q e a g (inl (and_parts p.token.is_on_new_line _ v).1)
