use Rattle.js_parser.proofs.Answering.{fatal_stop}
use Rattle.js_core.proofs.Readings.{kept_for_start}
use Rattle.js_parser.proofs.Records.{none_recorded, program_held, record_for_start}
use Rattle.js_parser.proofs.Starting.{answer_for}
use Rattle.js_parser.proofs.parser.parse_as.Goals as goal
use Rattle.std.proofs.lemmas.Result.{IfOk-weaker}

pub returns-in-Ok-clause-answer : goal.returns-in-Ok-clause-answer
returns-in-Ok-clause-answer c = IfOk-weaker c.taken.result _ _ (λ r h. answer_for c.in_ok-p.ensures (h _ _ _ _ c.in-Ok.ensures)) c.taken.ensures.answer

pub returns-in-Err-Fatal-clause-answer : goal.returns-in-Err-Fatal-clause-answer
returns-in-Err-Fatal-clause-answer c = IfOk-weaker c.refused.result _ _ (λ r h. answer_for c.in_ok-p.ensures (h _ _ _ (fatal_stop _ c.in-Err-Fatal.field-0-is c.in-Err-Fatal.ensures))) c.refused.ensures.answer

pub returns-in-Ok-clause-kept : goal.returns-in-Ok-clause-kept
returns-in-Ok-clause-kept c = IfOk-weaker c.taken.result _ _ (λ r h. kept_for_start c.new-config.ensures c.in_ok-p.ensures (h _ _ _ _ c.in-Ok.ensures)) c.taken.ensures.kept

pub returns-in-Err-Fatal-clause-kept : goal.returns-in-Err-Fatal-clause-kept
returns-in-Err-Fatal-clause-kept c = IfOk-weaker c.refused.result _ _ (λ r h. kept_for_start c.new-config.ensures c.in_ok-p.ensures (h _ _ _ _ (fatal_stop _ c.in-Err-Fatal.field-0-is c.in-Err-Fatal.ensures))) c.refused.ensures.kept

pub taken-requires-clause-held : goal.taken-requires-clause-held
taken-requires-clause-held c = program_held c.in-Ok.ensures

pub returns-in-Ok-clause-recorded : goal.returns-in-Ok-clause-recorded
returns-in-Ok-clause-recorded c = IfOk-weaker c.taken.result _ _ (λ r h. record_for_start c.in_ok-p.ensures (h _ _ _ _ c.in-Ok.ensures)) c.taken.ensures.recorded

pub returns-in-Err-Fatal-clause-recorded : goal.returns-in-Err-Fatal-clause-recorded
returns-in-Err-Fatal-clause-recorded c = IfOk-weaker c.refused.result _ _ (λ r h. none_recorded _ _ (fatal_stop _ c.in-Err-Fatal.field-0-is c.in-Err-Fatal.ensures).some h.2) c.refused.ensures.told
