use Rattle.std.proofs.Common.{refl, sym, true≢false}
use Rattle.js_record.proofs.CheckedLemmas.{read_at}
use Rattle.test_units.proofs.record.is_visited.Goals as goal

pub returns-then-not-contains : goal.returns-then-not-contains
returns-then-not-contains c = λ e. absurd (true≢false (sym e))

pub returns : goal.returns
returns c = λ e. read_at c.args.tree.now c.args.source.now (c.are_read.ensures e) c.args.id (c.if-not-contains.ensures.0 refl)
