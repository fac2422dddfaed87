use Rattle.std.proofs.Common.{◌≡◌, false, sym, ◌∙◌}
use Rattle.js_parser.proofs.Broken.{one_more}
use Rattle.js_parser.proofs.early.has_suspect.Goals as goal

pub loop-i-preserved : goal.loop-i-preserved
loop-i-preserved c = one_more c.args.source.now c.args.tree.now c.loop-i.i c.loop-i.invariant (sym c.in_ok-breaks_in_template.ensures ∙ (let e : c.in_ok-breaks_in_template.field-0 ≡ false = search in e))
