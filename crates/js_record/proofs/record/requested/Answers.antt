use Rattle.std.proofs.Common.{[], ◌∷◌, sym, ap, ◌∙◌}
use Rattle.std.proofs.lemmas.List.Sums.{fold-append}
use Rattle.js_grammar.specs.ModuleRecords.{with_request}
use Rattle.js_record.proofs.record.requested.Goals as goal

pub loop-request-preserved : goal.loop-request-preserved
loop-request-preserved c =
    let r = c.in-Some.request in
    c.in_ok-add_request.ensures ∙ ap (λ es. with_request es r) c.loop-request.invariant ∙ sym (fold-append with_request [] c.loop-request.yielded (r ∷ []))
