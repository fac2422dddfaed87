use Rattle.laws_operators.proofs.HeadContexts.{head_stands_at, noted_back}
use Rattle.parse_arrows.proofs.arrow.note_no_head.Goals as goal

pub note_arrow_failed-requires : goal.note_arrow_failed-requires
note_arrow_failed-requires g c = (head_stands_at c.args.is_async c.requires.at c.context-outer.ensures c.in_head.ensures c.set_context.ensures).at

pub returns : goal.returns
returns g c = noted_back c.args.is_async c.requires.at c.context-outer.ensures c.in_head.ensures c.set_context.ensures c.requires.place c.requires.none c.in_ok-note_arrow_failed.ensures.ok c.set_context-2.ensures
