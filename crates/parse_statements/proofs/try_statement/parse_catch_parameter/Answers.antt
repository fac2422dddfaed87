use Rattle.std.proofs.Common.{◌≡◌, ◌∙◌, arith, refl, sym}
use Rattle.std.proofs.lemmas.Result.{err_from_is_err_and}
use Rattle.js_base.specs.declared.kind.Kind.TheVariants.{Colon, LParen, RParen}
use Rattle.parse_primary.proofs.laws_primary.Members.{stands_so}
use Rattle.parse_shared.specs.laws_shared.Classes.{EndsParse}
use Rattle.parse_shared.proofs.laws_shared.Giving.{gives_up}
use Rattle.parse_shared.proofs.laws_shared.Expected.{expected, unexpected}
use Rattle.parse_shared.proofs.laws_shared.Moving.{standing}
use Rattle.parse_shared.proofs.laws_shared.Nesting.{nested_room}
use Rattle.parse_shared.proofs.laws_shared.Signs.{whole_sign}
use Rattle.parse_control.proofs.laws_statements.TryStatements.{binding_stops, no_last, parameter_made, parameter_taken, parameter_unclosed, part_memory, part_stops}
use Rattle.parse_control.specs.laws_statements.TryStatements.{parameter_of}
use Rattle.parse_statements.proofs.try_statement.parse_catch_parameter.Goals as goal

pub returns-then-not-stands : goal.returns-then-not-stands
returns-then-not-stands t c = (stands_so c.args.p.now LParen c.if-not-stands.true c.stands.ensures, refl)

pub advance-requires-clause-whole : goal.advance-requires-clause-whole
advance-requires-clause-whole t c = whole_sign LParen c.requires.at (stands_so c.args.p.now LParen c.if-not-stands.false c.stands.ensures).0 refl refl

pub returns-in_err-advance : goal.returns-in_err-advance
returns-in_err-advance t c =
    let p = err_from_is_err_and c.from_residual.result c.from_residual.ensures.1 in
    rw (p.1, p.2) (part_memory parameter_of LParen c.args.p.now c.advance.new.p _ c.in_err-advance.ensures)

pub binding-requires : goal.binding-requires
binding-requires t c =
    let m = c.in_ok-advance.ensures _ _ c.requires.at in
    c.requires.nests _ _ (standing m.at) (nested_room c.requires.at m)

pub returns-in_err-binding : goal.returns-in_err-binding
returns-in_err-binding t c =
    let p = err_from_is_err_and c.from_residual-in_err-binding.result c.from_residual-in_err-binding.ensures.1 in
    let h = stands_so c.args.p.now LParen c.if-not-stands.false c.stands.ensures in
    rw (p.1, p.2) (part_stops parameter_of LParen c.args.p.now c.binding.new.p _ h (λ text f a. let m = c.in_ok-advance.ensures text f a in binding_stops a h m _ _ (c.in_err-binding.ensures text f m.at)))

pub end_span-span-requires : goal.end_span-span-requires
end_span-span-requires t c =
    let m = c.in_ok-advance.ensures _ _ c.requires.at in
    let x = (c.in_ok-binding.ensures _ _ m.at).answer.further in let s = c.cur_start-start.ensures in omega arith

pub returns-in_err-node : goal.returns-in_err-node
returns-in_err-node t c = let p = err_from_is_err_and c.from_residual-in_err-node.result c.from_residual-in_err-node.ensures.1 in rw (p.1, p.2) tt

pub refuse_annotation-requires-clause-at : goal.refuse_annotation-requires-clause-at
refuse_annotation-requires-clause-at t c =
    let h = stands_so c.args.p.now LParen c.if-not-stands.false c.stands.ensures in
    let m = c.in_ok-advance.ensures _ _ c.requires.at in
    standing (parameter_made c.requires.at h m (c.in_ok-binding.ensures _ _ m.at) _ (c.end_span-span.ensures.start ∙ c.cur_start-start.ensures) c.end_span-span.ensures.end c.in_ok-node.ensures).at

pub refuse_annotation-requires-clause-colon : goal.refuse_annotation-requires-clause-colon
refuse_annotation-requires-clause-colon t c = c.at.ensures.0 c.if-at.true

pub returns-then-at : goal.returns-then-at
returns-then-at t c =
    let h = stands_so c.args.p.now LParen c.if-not-stands.false c.stands.ensures in
    part_stops parameter_of LParen c.args.p.now _ c.refuse_annotation.result h (λ text f a.
    let m = c.in_ok-advance.ensures text f a in
    let x = c.in_ok-binding.ensures text f m.at in
    let b = c.end_span-span.ensures.start ∙ c.cur_start-start.ensures in
    let z = parameter_made a h m x _ b c.end_span-span.ensures.end c.in_ok-node.ensures in
    parameter_unclosed a h m x _ b c.end_span-span.ensures.end c.in_ok-node.ensures _ _ (gives_up EndsParse _ _ c.refuse_annotation.result z.at c.refuse_annotation.ensures (λ d u. u) (no_last z.at RParen refl (λ k e. let q : Colon ≡ RParen = sym (c.at.ensures.0 c.if-at.true) ∙ k in cc))))

pub expect-requires : goal.expect-requires
expect-requires t c =
    let h = stands_so c.args.p.now LParen c.if-not-stands.false c.stands.ensures in
    let m = c.in_ok-advance.ensures _ _ c.requires.at in
    (parameter_made c.requires.at h m (c.in_ok-binding.ensures _ _ m.at) _ (c.end_span-span.ensures.start ∙ c.cur_start-start.ensures) c.end_span-span.ensures.end c.in_ok-node.ensures).at.at

pub returns-in_err-expect : goal.returns-in_err-expect
returns-in_err-expect t c =
    let p = err_from_is_err_and c.from_residual-in_err-expect.result c.from_residual-in_err-expect.ensures.1 in
    let h = stands_so c.args.p.now LParen c.if-not-stands.false c.stands.ensures in
    rw (p.1, p.2) (part_stops parameter_of LParen c.args.p.now c.expect.new.self _ h (λ text f a.
    let m = c.in_ok-advance.ensures text f a in
    let x = c.in_ok-binding.ensures text f m.at in
    let b = c.end_span-span.ensures.start ∙ c.cur_start-start.ensures in
    let z = parameter_made a h m x _ b c.end_span-span.ensures.end c.in_ok-node.ensures in
    parameter_unclosed a h m x _ b c.end_span-span.ensures.end c.in_ok-node.ensures _ _ (unexpected z.at RParen _ _ c.in_err-expect.ensures (λ n. no_last z.at RParen refl n))))

pub returns : goal.returns
returns t c =
    let h = stands_so c.args.p.now LParen c.if-not-stands.false c.stands.ensures in
    let i = c.in_ok-expect.ensures in (
      h,
      λ text f a.
          let m = c.in_ok-advance.ensures text f a in
          let x = c.in_ok-binding.ensures text f m.at in
          let b = c.end_span-span.ensures.start ∙ c.cur_start-start.ensures in
          let z = parameter_made a h m x _ b c.end_span-span.ensures.end c.in_ok-node.ensures in
          parameter_taken a h m x _ b c.end_span-span.ensures.end c.in_ok-node.ensures i.0 (expected z.at RParen i.0 i.1 refl refl),
    )
