use Rattle.std.proofs.Common.{◌++◌, List, ap, sym, ◌∙◌}
use Rattle.std.specs.Prelude.{map}
use Rattle.std.proofs.lemmas.Result.{IfOk-weaker}
use Rattle.js_grammar.specs.ModuleRecords.{Part, record_of_parts, errors_of_parts}
use Rattle.js_grammar.specs.Modules.{found_in, in_order_of_ends, part_of}
use Rattle.js_record.proofs.Finding.{visits_of}
use Rattle.js_record.proofs.walking.record_of_program.Goals as goal

pub returns : goal.returns
returns c = IfOk-weaker c.build.result _ _ (λ r e s cs h.
    e ∙ ap (λ (ps : List Part). (record_of_parts ps, errors_of_parts ps)) (
    c.in_ok-visit_all.ensures cs h.numbers h.stands
    ∙ ap (λ (ps : List Part). ps ++ map (part_of c.args.source.now) (in_order_of_ends (found_in cs))) c.new-builder.ensures
    ∙ sym (ap (map (part_of c.args.source.now)) (visits_of s cs)))) c.build.ensures
