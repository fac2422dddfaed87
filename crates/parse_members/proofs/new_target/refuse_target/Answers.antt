use Rattle.std.proofs.Common.{◌≡◌, true, ap, arith, refl, sym, ◌∙◌}
use Rattle.js_base.specs.KindSets.{identifier_name_kinds}
use Rattle.js_base.specs.Kinds.{one_of_kinds}
use Rattle.js_base.specs.declared.span.Span.{Span}
use Rattle.parse_primary.proofs.laws_primary.NewTargets.{before_word, other_marked}
use Rattle.parse_members.proofs.new_target.refuse_target.Goals as goal

pub new-span-requires : goal.new-span-requires
new-span-requires g c =
    let w : one_of_kinds identifier_name_kinds c.args.p.now.token.kind ≡ true = ap (one_of_kinds identifier_name_kinds) (sym c.cur_kind.ensures) ∙ (sym c.is_identifier_name.ensures ∙ c.if-not-is_identifier_name.false) in
    let e : c.span.result ≡ c.args.p.now.token.span = search in
    let i = before_word c.requires.behind c.requires.at c.requires.other w in
    let j = ap (λ (s : Span). s.end) e in omega arith

pub refuse_at-requires-clause-mark : goal.refuse_at-requires-clause-mark
refuse_at-requires-clause-mark g c =
    let w : one_of_kinds identifier_name_kinds c.args.p.now.token.kind ≡ true = ap (one_of_kinds identifier_name_kinds) (sym c.cur_kind.ensures) ∙ (sym c.is_identifier_name.ensures ∙ c.if-not-is_identifier_name.false) in
    let e : c.span.result ≡ c.args.p.now.token.span = search in
    other_marked c.requires.behind c.requires.at c.requires.other w c.new-span.result c.new-span.ensures.start (c.new-span.ensures.end ∙ ap (λ (s : Span). s.end) e)

pub refuse_at-requires-clause-ends : goal.refuse_at-requires-clause-ends
refuse_at-requires-clause-ends g c = refl
