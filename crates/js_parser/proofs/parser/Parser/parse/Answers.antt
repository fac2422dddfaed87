use Rattle.std.proofs.Common.{arith, sym, ◌∙◌}
use Rattle.std.proofs.lemmas.Result.{IfOk-weaker}
use Rattle.js_parser.proofs.Answering.{both_ok, found_kept, kept_for}
use Rattle.js_core.proofs.Readings.{cons_some}
use Rattle.js_parser.proofs.CoreTexts.{core_answer}
use Rattle.js_parser.proofs.parser.Parser.parse.Goals as goal

pub returns-then-self-gt-MAX_LEN-clause-core_headline : goal.returns-then-self-gt-MAX_LEN-clause-core_headline
returns-then-self-gt-MAX_LEN-clause-core_headline g c = IfOk-weaker c.overlong.result _ _ (λ r h u s e. absurd (let short = s.short in let long = c.if-self-gt-MAX_LEN.true in omega arith)) c.overlong.ensures.source_type

pub returns-clause-core_headline : goal.returns-clause-core_headline
returns-clause-core_headline g c = both_ok c.parse_as.result (λ r a same u s e. core_answer c.settled-source_type.ensures.settled same a u s) c.parse_as.ensures.answer c.parse_as.ensures.source_type

pub returns-then-self-gt-MAX_LEN-clause-kept : goal.returns-then-self-gt-MAX_LEN-clause-kept
returns-then-self-gt-MAX_LEN-clause-kept g c = IfOk-weaker c.overlong.result _ _ (λ r h. found_kept h.no_tokens (λ z. cons_some _ _ (sym h.found_is ∙ z))) c.overlong.ensures.answer

pub returns-clause-kept : goal.returns-clause-kept
returns-clause-kept g c = IfOk-weaker c.parse_as.result _ _ (λ r h. kept_for c.settled-source_type.ensures.settled (c.tokens-tokens.ensures ∙ c.lexer_config.ensures) h) c.parse_as.ensures.kept

pub returns-then-self-gt-MAX_LEN-clause-overlong_record : goal.returns-then-self-gt-MAX_LEN-clause-overlong_record
returns-then-self-gt-MAX_LEN-clause-overlong_record g c = IfOk-weaker c.overlong.result _ _ (λ r h long. h) c.overlong.ensures.no_record

pub returns-clause-overlong_record : goal.returns-clause-overlong_record
returns-clause-overlong_record g c = IfOk-weaker c.parse_as.result _ _ (λ r h long. absurd (let short = c.if-self-gt-MAX_LEN.false in omega arith)) c.parse_as.ensures.no_flow

pub returns-then-self-gt-MAX_LEN-clause-recorded : goal.returns-then-self-gt-MAX_LEN-clause-recorded
returns-then-self-gt-MAX_LEN-clause-recorded g c = IfOk-weaker c.overlong.result _ _ (λ r h z. absurd (cons_some _ _ (sym h.found_is ∙ z))) c.overlong.ensures.answer

pub returns-clause-recorded : goal.returns-clause-recorded
returns-clause-recorded g c = c.parse_as.ensures.recorded
