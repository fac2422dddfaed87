use Rattle.std.proofs.Common.{◌∙◌, ap}
use Rattle.js_base.specs.declared.token.Token.{Token}
use Rattle.parse_shared.proofs.GivingUp.{ends_at, marked_at}
use Rattle.parse_shared.proofs.refusals.refuse_here.Goals as goal

pub refuse_at-requires-clause-mark : goal.refuse_at-requires-clause-mark
refuse_at-requires-clause-mark g c = marked_at c.args.p.now c.args.kind (c.span-span.ensures ∙ ap (λ (t : Token). t.span) c.cur_token.ensures) c.requires.mark

pub refuse_at-requires-clause-ends : goal.refuse_at-requires-clause-ends
refuse_at-requires-clause-ends g c = ends_at c.args.kind (c.span-span.ensures ∙ ap (λ (t : Token). t.span) c.cur_token.ensures) c.requires.ends
