use Rattle.std.proofs.Common.{sym, ◌∙◌}
use Rattle.js_record.proofs.FirstLemmas.{step_kept, step_added}
use Rattle.js_record.proofs.placing.add_first.Goals as goal

pub returns-in_ok-insert : goal.returns-in_ok-insert
returns-in_ok-insert c =
    step_added c.args.firsts.now.entries c.args.imports.now c.args.i c.index.result.now c.in_ok-name.name c.requires.in_list c.index.ensures (c.in_ok-name.ensures ∙ c.local_text.ensures) c.requires.so_far
    c.insert.new.self.entries (sym c.contains_key.ensures ∙ c.if-not-contains_key.true) c.in_ok-insert.ensures.updates.0

pub returns-else-not-contains_key : goal.returns-else-not-contains_key
returns-else-not-contains_key c =
    step_kept c.args.firsts.now.entries c.args.imports.now c.args.i c.index.result.now c.in_ok-name.name c.requires.in_list c.index.ensures (c.in_ok-name.ensures ∙ c.local_text.ensures) c.requires.so_far
    (sym c.contains_key.ensures ∙ c.if-not-contains_key.false)
