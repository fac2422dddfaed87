use Rattle.std.proofs.Common.{arith, ap, ◌∙◌}
use Rattle.std.proofs.lemmas.Result.{err_from_is_err_and}
use Rattle.js_base.specs.declared.span.Span.{Span}
use Rattle.laws_patterns.proofs.ObjectPatterns.{bound_stops, made_at, made_nests, name_passed, shorthand_answers}
use Rattle.parse_patterns.proofs.object_pattern.parse_shorthand.Goals as goal

pub parse_name_initialiser-requires-clause-at : goal.parse_name_initialiser-requires-clause-at
parse_name_initialiser-requires-clause-at g c = made_at c.requires.at c.in_ok-binding.ensures

pub parse_name_initialiser-requires-clause-nests : goal.parse_name_initialiser-requires-clause-nests
parse_name_initialiser-requires-clause-nests g c = made_nests c.requires.nests c.in_ok-binding.ensures

pub parse_name_initialiser-requires-clause-before : goal.parse_name_initialiser-requires-clause-before
parse_name_initialiser-requires-clause-before g c = let u = c.start-start.ensures in let e = c.requires.ends in let o = c.requires.ordered in let i = ap (λ r. r.prev_token_end) c.in_ok-binding.ensures.stays in omega arith

pub returns-in_err-value : goal.returns-in_err-value
returns-in_err-value g c = λ text f o a s k t.
    let p = err_from_is_err_and c.from_residual-in_err-value.result c.from_residual-in_err-value.ensures.1 in
    rw (p.1, p.2) (bound_stops a k t c.requires.no_colon _ _ (c.in_err-value.ensures.answers text f o _ (c.start-start.ensures ∙ ap (λ (v : Span). v.start) s) (name_passed a k t c.requires.no_colon _ s c.in_ok-binding.ensures)))

pub end_span-span-requires : goal.end_span-span-requires
end_span-span-requires g c = c.in_ok-value.ensures.behind

pub returns : goal.returns
returns g c = λ text f o a s k t.
    shorthand_answers a k t c.requires.no_colon (c.in_ok-value.ensures.answers text f o _ (c.start-start.ensures ∙ ap (λ (v : Span). v.start) s) (name_passed a k t c.requires.no_colon _ s c.in_ok-binding.ensures)) _ c.shorthand_flags.ensures (c.end_span-span.ensures.start ∙ (c.start-start.ensures ∙ ap (λ (v : Span). v.start) s)) c.end_span-span.ensures.end c.in_ok-node.ensures
