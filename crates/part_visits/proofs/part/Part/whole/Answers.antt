use Rattle.std.proofs.Common.{[], ◌∷◌, sym, ap, ◌∙◌}
use Rattle.std.proofs.lemmas.List.Sums.{fold-append}
use Rattle.js_grammar.specs.ModuleRecords.{nothing, joined}
use Rattle.part_visits.proofs.part.Part.whole.Goals as goal

pub loop-part-preserved : goal.loop-part-preserved
loop-part-preserved c =
    let p = c.in-Some.part in
    c.in_ok-append.ensures ∙ ap (λ v. joined v p) c.loop-part.invariant ∙ sym (fold-append joined nothing c.loop-part.yielded (p ∷ []))
