use Rattle.std.proofs.Common.{◌≡◌, inl, inr, true, subst, refl, arith}
use Rattle.std.proofs.lemmas.Bool.{ltb-true}
use Rattle.js_base.specs.declared.kind.Kind.{Kind}
use Rattle.js_base.specs.Kinds.{one_of_kinds}
use Rattle.laws_shared.specs.Stands.{ending_kinds}
use Rattle.laws_shared.proofs.Signs.{ended}
use Rattle.parse_shared.proofs.lexemes.ends_operand.Goals as goal

pub returns-in-Eof : goal.returns-in-Eof
returns-in-Eof t c = λ text f a. ended true (c.in_ok-power.ensures text f a) (λ s. inl (subst (λ (k : Kind). one_of_kinds ending_kinds k ≡ true) c.cur_kind.ensures (elim c.in-Eof.is [
  | inl e ↦ rw e refl
  | inr (inl e) ↦ rw e refl
  | inr (inr (inl e)) ↦ rw e refl
  | inr (inr (inr (inl e))) ↦ rw e refl
  | inr (inr (inr (inr (inl e)))) ↦ rw e refl
  | inr (inr (inr (inr (inr (inl e))))) ↦ rw e refl
  | inr (inr (inr (inr (inr (inr e))))) ↦ rw e refl
])))

pub returns-in_default : goal.returns-in_default
returns-in_default t c = λ text f a. ended _ (c.in_ok-power.ensures text f a) (λ s. inr (let i = ltb-true 0 c.in_ok-power.power s in omega arith))
