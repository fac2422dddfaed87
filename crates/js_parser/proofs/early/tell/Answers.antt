use Rattle.std.proofs.Common.{◌++◌, List, ap, append-nil, sym, ◌∙◌, inl, inr}
use Rattle.std.proofs.lemmas.Bool.{cases_lt, iff_false}
use Rattle.std.specs.Prelude.{length}
use Rattle.js_base.specs.declared.diagnostic.Diagnostic.{Diagnostic}
use Rattle.js_parser.proofs.Broken.{none_there}
use Rattle.js_parser.proofs.early.tell.Goals as goal

pub returns-then-not-contains : goal.returns-then-not-contains
returns-then-not-contains c = sym (ap (λ (v : List Diagnostic). c.args.told.now ++ v) (none_there c.args.source.now c.args.tree.now c.args.node (elim (cases_lt c.args.node.id.0 (length c.args.tree.now)) [ inl l ↦ absurd (iff_false c.contains.ensures c.if-not-contains.true l) | inr g ↦ g ])) ∙ append-nil c.args.told.now)
