use Rattle.std.proofs.Common.{◌-◌, ap, arith, get_or, length, refl, sym, ◌∙◌}
use Rattle.js_core.proofs.laws_classes.NameTests.{differs, unlike}
use Rattle.js_parser.proofs.KeyNames.{one_more_same}
use Rattle.js_parser.proofs.member_names.spells.Goals as goal

pub returns-then-ne : goal.returns-then-ne
returns-then-ne c = differs c.args.units.now c.args.name.now (λ e.
    unlike c.as_bytes-bytes.result.now c.args.units.now c.unit.result (c.loop-i.i - 1) _ c.unit.ensures (let w = c.loop-i.invariant.within in let l = c.loop-i-test.true in let v = ap length c.as_bytes-bytes.ensures.value in omega arith) refl c.if-ne.ensures (c.as_bytes-bytes.ensures.value ∙ sym e))

pub loop-i-preserved : goal.loop-i-preserved
loop-i-preserved c =
    let h = c.loop-i.invariant in
    record {
      within = let w = h.within in omega arith;
      length_is = h.length_is;
      same = one_more_same c.args.units.now c.args.name.now c.unit.result c.loop-i.i _ (let l = c.loop-i-test.true in omega arith) h.within h.length_is c.unit.ensures (ap (λ bytes. get_or bytes (c.loop-i.i - 1) 0) (sym c.as_bytes-bytes.ensures.value)) c.if-ne.ensures h.same;
    }
