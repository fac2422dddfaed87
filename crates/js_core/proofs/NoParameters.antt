-- Where no parameters stand (ECMA-262, 15.1).
use Rattle.std.proofs.Common.{ℕ, ◌≡◌, List, [], ◌∷◌, refl}
use Rattle.js_base.specs.declared.kind.Kind.TheVariants.{LParen}
use Rattle.js_grammar.specs.Productions.{Flags, at, Params}
use Rattle.js_grammar.specs.Table.{rule, rule_of}
use Rattle.js_grammar.proofs.FollowLaws.{fails_by}
use Rattle.js_grammar.proofs.Looks.{covers, apart}
use Rattle.parse_shared.specs.js_cursor.Parsers.{Parser}
use Rattle.parse_shared.specs.laws_shared.Answers.{Underived}
use Rattle.parse_shared.specs.laws_shared.States.{At}
use Rattle.parse_shared.proofs.laws_shared.Paths.{fails_at}
use Rattle.parse_shared.proofs.laws_shared.Signs.{other_kind}

pub no_parameters_here : {text : List ℕ} {f : Flags} {p : Parser} → At text f p → (p.token.kind ≡ LParen → ⊥) → Underived text (at Params f) p.prev_token_end
unfolding rule rule_of covers apart
no_parameters_here {f = f} {p = p} a n = fails_by (fails_at a (rule (at Params f)) (LParen ∷ []) refl (other_kind LParen p.token.kind n))
