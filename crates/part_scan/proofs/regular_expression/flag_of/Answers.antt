use Rattle.std.proofs.Common.{ℕ, true, subst, sym, arith}
use Rattle.part_scan.specs.RegularExpressionParts.{TellsFlag}
use Rattle.part_scan.proofs.FlagsSeen.{sees_d, sees_g, sees_i, sees_m, sees_s, sees_u, sees_v, sees_y, sees_none, apart, apart_turned}
use Rattle.part_scan.proofs.regular_expression.flag_of.Goals.{in-d, in-g, in-i, in-m, in-s, in-u, in-v, in-y, in_default}
use Rattle.part_scan.proofs.regular_expression.flag_of.Goals as goal

pub returns-clause-tells : goal.returns-clause-tells
returns-clause-tells c = elim c.match-flag.branch [
  | in-d w ↦ subst (λ z. TellsFlag c.args.seen c.args.flag (record { end = c.args.end; is_wrong = z.0; seen = z.1 })) (sym w.is_wrong-is) (subst (λ (x : ℕ). TellsFlag c.args.seen x (record { end = c.args.end; is_wrong = c.args.seen.d; seen = record { d = true; g = c.args.seen.g; i = c.args.seen.i; m = c.args.seen.m; s = c.args.seen.s; u = c.args.seen.u; v = c.args.seen.v; y = c.args.seen.y } })) (sym w.in-d.is) (sees_d c.args.seen c.args.end))
  | in-g w ↦ subst (λ z. TellsFlag c.args.seen c.args.flag (record { end = c.args.end; is_wrong = z.0; seen = z.1 })) (sym w.is_wrong-is) (subst (λ (x : ℕ). TellsFlag c.args.seen x (record { end = c.args.end; is_wrong = c.args.seen.g; seen = record { d = c.args.seen.d; g = true; i = c.args.seen.i; m = c.args.seen.m; s = c.args.seen.s; u = c.args.seen.u; v = c.args.seen.v; y = c.args.seen.y } })) (sym w.in-g.is) (sees_g c.args.seen c.args.end))
  | in-i w ↦ subst (λ z. TellsFlag c.args.seen c.args.flag (record { end = c.args.end; is_wrong = z.0; seen = z.1 })) (sym w.is_wrong-is) (subst (λ (x : ℕ). TellsFlag c.args.seen x (record { end = c.args.end; is_wrong = c.args.seen.i; seen = record { d = c.args.seen.d; g = c.args.seen.g; i = true; m = c.args.seen.m; s = c.args.seen.s; u = c.args.seen.u; v = c.args.seen.v; y = c.args.seen.y } })) (sym w.in-i.is) (sees_i c.args.seen c.args.end))
  | in-m w ↦ subst (λ z. TellsFlag c.args.seen c.args.flag (record { end = c.args.end; is_wrong = z.0; seen = z.1 })) (sym w.is_wrong-is) (subst (λ (x : ℕ). TellsFlag c.args.seen x (record { end = c.args.end; is_wrong = c.args.seen.m; seen = record { d = c.args.seen.d; g = c.args.seen.g; i = c.args.seen.i; m = true; s = c.args.seen.s; u = c.args.seen.u; v = c.args.seen.v; y = c.args.seen.y } })) (sym w.in-m.is) (sees_m c.args.seen c.args.end))
  | in-s w ↦ subst (λ z. TellsFlag c.args.seen c.args.flag (record { end = c.args.end; is_wrong = z.0; seen = z.1 })) (sym w.is_wrong-is) (subst (λ (x : ℕ). TellsFlag c.args.seen x (record { end = c.args.end; is_wrong = c.args.seen.s; seen = record { d = c.args.seen.d; g = c.args.seen.g; i = c.args.seen.i; m = c.args.seen.m; s = true; u = c.args.seen.u; v = c.args.seen.v; y = c.args.seen.y } })) (sym w.in-s.is) (sees_s c.args.seen c.args.end))
  | in-u w ↦ subst (λ z. TellsFlag c.args.seen c.args.flag (record { end = c.args.end; is_wrong = z.0; seen = z.1 })) (sym w.is_wrong-is) (subst (λ (x : ℕ). TellsFlag c.args.seen x (record { end = c.args.end; is_wrong = c.args.seen.u; seen = record { d = c.args.seen.d; g = c.args.seen.g; i = c.args.seen.i; m = c.args.seen.m; s = c.args.seen.s; u = true; v = c.args.seen.v; y = c.args.seen.y } })) (sym w.in-u.is) (sees_u c.args.seen c.args.end))
  | in-v w ↦ subst (λ z. TellsFlag c.args.seen c.args.flag (record { end = c.args.end; is_wrong = z.0; seen = z.1 })) (sym w.is_wrong-is) (subst (λ (x : ℕ). TellsFlag c.args.seen x (record { end = c.args.end; is_wrong = c.args.seen.v; seen = record { d = c.args.seen.d; g = c.args.seen.g; i = c.args.seen.i; m = c.args.seen.m; s = c.args.seen.s; u = c.args.seen.u; v = true; y = c.args.seen.y } })) (sym w.in-v.is) (sees_v c.args.seen c.args.end))
  | in-y w ↦ subst (λ z. TellsFlag c.args.seen c.args.flag (record { end = c.args.end; is_wrong = z.0; seen = z.1 })) (sym w.is_wrong-is) (subst (λ (x : ℕ). TellsFlag c.args.seen x (record { end = c.args.end; is_wrong = c.args.seen.y; seen = record { d = c.args.seen.d; g = c.args.seen.g; i = c.args.seen.i; m = c.args.seen.m; s = c.args.seen.s; u = c.args.seen.u; v = c.args.seen.v; y = true } })) (sym w.in-y.is) (sees_y c.args.seen c.args.end))
  | in_default w ↦ subst (λ z. TellsFlag c.args.seen c.args.flag (record { end = c.args.end; is_wrong = z.0; seen = z.1 })) (sym w.is_wrong-is) (sees_none c.args.seen c.args.flag c.args.end (apart 100 c.args.flag (λ e. omega arith)) (apart_turned 100 c.args.flag (λ e. omega arith)) (apart 103 c.args.flag (λ e. omega arith)) (apart_turned 103 c.args.flag (λ e. omega arith)) (apart 105 c.args.flag (λ e. omega arith)) (apart_turned 105 c.args.flag (λ e. omega arith)) (apart 109 c.args.flag (λ e. omega arith)) (apart_turned 109 c.args.flag (λ e. omega arith)) (apart 115 c.args.flag (λ e. omega arith)) (apart_turned 115 c.args.flag (λ e. omega arith)) (apart 117 c.args.flag (λ e. omega arith)) (apart_turned 117 c.args.flag (λ e. omega arith)) (apart 118 c.args.flag (λ e. omega arith)) (apart_turned 118 c.args.flag (λ e. omega arith)) (apart 121 c.args.flag (λ e. omega arith)) (apart_turned 121 c.args.flag (λ e. omega arith)))
]
