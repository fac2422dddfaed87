use Rattle.std.proofs.Common.{◌≡◌, subst, sym}
use Rattle.part_text.specs.Escapes.{step}
use Rattle.part_text.specs.CodePointEscapes.{stage_of, step_of}
use Rattle.part_text.specs.declared.code_point_escape.CodePointEscape.{CodePointEscape}
use Rattle.part_text.proofs.code_point_escape.CodePointEscape.step.Goals as goal

pub returns-in-Unicode-clause-step : goal.returns-in-Unicode-clause-step
returns-in-Unicode-clause-step c = λ w. subst (λ (e : CodePointEscape). step_of c.behind_unicode.result ≡ step w (stage_of e) c.args.c) (sym c.in-Unicode.is) c.behind_unicode.ensures.step

pub returns-in-Due-clause-step : goal.returns-in-Due-clause-step
returns-in-Due-clause-step c = λ w. subst (λ (e : CodePointEscape). step_of c.behind_digits.result ≡ step w (stage_of e) c.args.c) (sym c.in-Due.is) c.behind_digits.ensures.step

pub returns-in-Braced-clause-step : goal.returns-in-Braced-clause-step
returns-in-Braced-clause-step c = λ w. subst (λ (e : CodePointEscape). step_of c.behind_brace.result ≡ step w (stage_of e) c.args.c) (sym c.in-Braced.is) c.behind_brace.ensures.step
