use Rattle.std.proofs.Common.{◌++◌, ◌∷◌, [], ap, sym, ◌∙◌}
use Rattle.std.proofs.lemmas.Result.{on_ok_weaker}
use Rattle.js_base.specs.declared.span.Span.{Span}
use Rattle.js_grammar.specs.Modules.{export_default_part}
use Rattle.js_record.proofs.Finding.{start_there}
use Rattle.js_record.proofs.walking.visit_default.Goals as goal

pub returns : goal.returns
returns c = on_ok_weaker c.visit_export_default_declaration.result (λ e l cs rs s.
    e l cs rs s ∙ ap (λ (w : Span). c.args.builder.now ++ export_default_part c.args.source.now w l cs ∷ []) (c.in_ok-word.ensures l (start_there s ∙ sym (ap (λ (v : Span). v.start) c.span.ensures)))) c.visit_export_default_declaration.ensures.ok
