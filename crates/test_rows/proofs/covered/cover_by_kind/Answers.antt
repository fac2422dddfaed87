use Rattle.std.proofs.Common.{◌≡◌, true, false, List, ap, subst, sym, ◌∙◌}
use Rattle.js_tree.specs.Labels.{kind_of}
use Rattle.js_tree.specs.Nodes.{Node, node_at}
use Rattle.js_tree.specs.declared.kind.NodeKind.TheVariants as made
use Rattle.js_cursor.specs.Parsers.{Parser}
use Rattle.test_rows.proofs.WasRead.{assignment_read, literal_read}
use Rattle.test_rows.proofs.covered.cover_by_kind.Goals as goal

pub cover-requires-clause-read : goal.cover-requires-clause-read
cover-requires-clause-read c = literal_read false c.requires.read (ap kind_of (subst (λ (ns : List Node). (node_at ns c.args.id).kind ≡ made.ArrayExpression) (ap (λ (v : Parser). v.nodes) c.p.view_is) (sym c.kind.ensures ∙ c.in-ArrayExpression.is)))

pub cover-requires-in-ObjectExpression-clause-read : goal.cover-requires-in-ObjectExpression-clause-read
cover-requires-in-ObjectExpression-clause-read c = literal_read true c.requires.read (ap kind_of (subst (λ (ns : List Node). (node_at ns c.args.id).kind ≡ made.ObjectExpression) (ap (λ (v : Parser). v.nodes) c.p.view_is) (sym c.kind.ensures ∙ c.in-ObjectExpression.is)))

pub cover-requires-in-AssignmentExpression-clause-read : goal.cover-requires-in-AssignmentExpression-clause-read
cover-requires-in-AssignmentExpression-clause-read c = assignment_read c.requires.read (subst (λ (ns : List Node). (node_at ns c.args.id).kind ≡ made.AssignmentExpression) (ap (λ (v : Parser). v.nodes) c.p.view_is) (sym c.kind.ensures ∙ c.in-AssignmentExpression.is))
