use Rattle.std.proofs.Common.{sym, ◌∙◌}
use Rattle.js_parser.specs.Broken.{fault_at}
use Rattle.js_parser.proofs.MemberNames.{fault_at_key, keyed, unkeyed}
use Rattle.js_parser.proofs.member_names.name_fault.Goals as goal

pub returns-in_default : goal.returns-in_default
returns-in_default c = sym (unkeyed c.args.source.now c.args.tree.now c.args.id (sym c.member_key.ensures ∙ c.in_default.is))

pub returns : goal.returns
returns c = sym (fault_at_key c.args.source.now c.args.tree.now c.args.id c.in-Some.key (keyed c.args.tree.now c.args.id c.in-Some.key (sym c.member_key.ensures ∙ c.in-Some.is)) ∙ (λ i. fault_at ((sym c.in_ok-kind.ensures ∙ c.in-Some-2.is) i) (sym c.span.ensures i)))
