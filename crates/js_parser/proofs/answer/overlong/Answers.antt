use Rattle.js_parser.proofs.Answering.{overlong_answer}
use Rattle.js_parser.proofs.answer.overlong.Goals as goal

pub returns-clause-answer : goal.returns-clause-answer
returns-clause-answer c = overlong_answer c.empty-span.result _ _ c.new-diagnostics.ensures (c.in_ok-push.ensures.ok) c.new-4.ensures c.new-5.ensures c.new-6.ensures c.empty-span.ensures.start c.empty-span.ensures.end c.new-2.ensures.items c.in_ok-ast.ensures c.in_ok-tree.ensures.nodes
