use Rattle.std.proofs.Common.{◌≡◌, true, false, ap, ◌∙◌, refl}
use Rattle.js_base.specs.declared.token.Token.{Token}
use Rattle.laws_shared.proofs.Moving.{tightness, powered}
use Rattle.parse_shared.proofs.lexemes.operator_here.Goals as goal

pub returns-then-escaped : goal.returns-then-escaped
returns-then-escaped t c = λ text f a. tightness 0 c.in_ok-complete_here.ensures a (let e : c.complete_here.new.p.token.escaped ≡ true = search in rw e refl)

pub returns : goal.returns
returns t c = λ text f a. tightness _ c.in_ok-complete_here.ensures a (let e : c.complete_here.new.p.token.escaped ≡ false = search in powered _ c.allows_in.ensures c.binding_power.ensures e (c.kind.ensures ∙ ap (λ (t : Token). t.kind) c.cur_token-token.ensures))
