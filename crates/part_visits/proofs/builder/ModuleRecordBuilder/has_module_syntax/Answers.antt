use Rattle.std.proofs.Common.{◌≡◌, sym, ap, ◌∙◌}
use Rattle.js_grammar.specs.ModuleRecords.{Part, whole}
use Rattle.part_visits.proofs.PartLemmas.{whole_syntax, any_at, any_all}
use Rattle.part_visits.proofs.builder.ModuleRecordBuilder.has_module_syntax.Goals as goal

pub returns-then-visit : goal.returns-then-visit
returns-then-visit c =
    let ps = c.deref-visit-items.result.now in
    let all : ps ≡ c.args.self.now = c.deref-visit-items.ensures.value ∙ c.self.view_is in
    let p : Part = c.visit-item.result in
    let one = any_at ps c.loop-visit.visit-index p c.loop-visit-test.true c.visit-item.is (ap (λ (q : Part). q.is_module_syntax) (sym c.visit.view_is) ∙ c.if-visit.true) in
    sym (ap (λ v. (whole v).is_module_syntax) (sym all) ∙ whole_syntax ps ∙ one)

pub returns : goal.returns
returns c =
    let ps = c.deref-visit-items.result.now in
    let all : ps ≡ c.args.self.now = c.deref-visit-items.ensures.value ∙ c.self.view_is in
    sym (ap (λ v. (whole v).is_module_syntax) (sym all) ∙ whole_syntax ps ∙ any_all ps c.loop-visit.visit-index c.loop-visit-test.false c.loop-visit.invariant)
