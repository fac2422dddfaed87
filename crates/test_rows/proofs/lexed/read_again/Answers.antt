use Rattle.std.proofs.Common.{ap, ◌∙◌, sym, ◌≡◌, ◌⊎◌, inl, inr, false}
use Rattle.js_base.specs.declared.kind.Kind.{Kind}
use Rattle.js_base.specs.declared.kind.Kind.TheVariants.{Undetermined, Slash, SlashEq}
use Rattle.js_base.specs.Kinds.{same_kind}
use Rattle.test_rows.proofs.lexed.read_again.Goals as goal

determined : (k l : Kind) → k ≡ l → (k ≡ Slash) ⊎ (k ≡ SlashEq) → same_kind Undetermined l ≡ false
determined k l e (inl s) = ap (same_kind Undetermined) (sym e ∙ s)
determined k l e (inr s) = ap (same_kind Undetermined) (sym e ∙ s)

pub re_lex_regex-requires-clause-given : goal.re_lex_regex-requires-clause-given
re_lex_regex-requires-clause-given g c = c.requires (determined c.kind.result c.args.token.kind c.kind.ensures c.in-Slash.is)

pub re_lex_right_angle-again-requires-clause-given : goal.re_lex_right_angle-again-requires-clause-given
re_lex_right_angle-again-requires-clause-given g c = c.requires (ap (same_kind Undetermined) (sym c.kind.ensures ∙ c.in-RAngle.is))

pub re_lex_template_tail-again-requires-clause-given : goal.re_lex_template_tail-again-requires-clause-given
re_lex_template_tail-again-requires-clause-given g c = c.requires (ap (same_kind Undetermined) (sym c.kind.ensures ∙ c.in-RCurly.is))
