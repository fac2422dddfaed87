use Rattle.std.proofs.Common.{arith, refl}
use Rattle.std.proofs.lemmas.Result.{err_from_is_err_and}
use Rattle.js_base.specs.declared.kind.Kind.TheVariants.{LParen, RParen}
use Rattle.parse_shared.proofs.laws_shared.Moving.{standing}
use Rattle.parse_shared.proofs.laws_shared.Nesting.{later_room, nested_room, nests_later}
use Rattle.parse_shared.proofs.laws_shared.Signs.{whole_sign}
use Rattle.parse_primary.proofs.laws_primary.ImportCalls.{behind_answer, behind_moved, behind_options, empty_stops, import_made, rest_stops, specifier_stops}
use Rattle.parse_primary.proofs.laws_primary.Members.{stands_so}
use Rattle.parse_members.proofs.import_call.parse_import_call.Goals as goal

pub advance-requires-clause-whole : goal.advance-requires-clause-whole
advance-requires-clause-whole t c = whole_sign LParen c.requires.at c.requires.open.0 refl refl

pub refuse_empty-requires-clause-at : goal.refuse_empty-requires-clause-at
refuse_empty-requires-clause-at t c = standing (c.in_ok-advance.ensures _ _ c.requires.at).at

pub refuse_empty-requires-clause-behind : goal.refuse_empty-requires-clause-behind
refuse_empty-requires-clause-behind t c = behind_moved c.requires.behind c.requires.at (c.in_ok-advance.ensures _ _ c.requires.at)

pub refuse_empty-requires-clause-sign : goal.refuse_empty-requires-clause-sign
refuse_empty-requires-clause-sign t c = stands_so c.advance.new.p RParen c.if-stands.true c.stands.ensures

pub returns-then-stands : goal.returns-then-stands
returns-then-stands t c = empty_stops _ _ c.requires.open c.in_ok-advance.ensures c.args.start _ c.refuse_empty.result (stands_so c.advance.new.p RParen c.if-stands.true c.stands.ensures) c.refuse_empty.ensures

pub parse_import_argument-requires-clause-at : goal.parse_import_argument-requires-clause-at
parse_import_argument-requires-clause-at t c = standing (c.in_ok-advance.ensures _ _ c.requires.at).at

pub parse_import_argument-requires-clause-nests : goal.parse_import_argument-requires-clause-nests
parse_import_argument-requires-clause-nests t c = nests_later c.requires.nests (let r = nested_room c.requires.at (c.in_ok-advance.ensures _ _ c.requires.at) in omega arith)

pub returns-in_err-specifier : goal.returns-in_err-specifier
returns-in_err-specifier t c =
    let p = err_from_is_err_and c.from_residual-in_err-specifier.result c.from_residual-in_err-specifier.ensures.1 in
    rw (p.1, p.2) (specifier_stops _ _ c.requires.open c.in_ok-advance.ensures c.args.start _ _ c.in_err-specifier.ensures)

pub parse_import_options-requires-clause-at : goal.parse_import_options-requires-clause-at
parse_import_options-requires-clause-at t c = standing (c.in_ok-specifier.ensures _ _ (c.in_ok-advance.ensures _ _ c.requires.at).at).answer.at

pub parse_import_options-requires-clause-nests : goal.parse_import_options-requires-clause-nests
parse_import_options-requires-clause-nests t c =
    let m = c.in_ok-advance.ensures _ _ c.requires.at in
    let x = (c.in_ok-specifier.ensures _ _ m.at).answer in
    nests_later c.requires.nests (let r = nested_room c.requires.at m in let s = later_room (let i = x.further in let j = m.at.behind in omega arith) x.same in omega arith)

pub parse_import_options-requires-clause-behind : goal.parse_import_options-requires-clause-behind
parse_import_options-requires-clause-behind t c = let m = c.in_ok-advance.ensures _ _ c.requires.at in behind_answer c.requires.behind c.requires.at m (c.in_ok-specifier.ensures _ _ m.at)

pub returns-in_err-options : goal.returns-in_err-options
returns-in_err-options t c =
    let p = err_from_is_err_and c.from_residual-in_err-options.result c.from_residual-in_err-options.ensures.1 in
    rw (p.1, p.2) (rest_stops _ _ c.requires.open c.in_ok-advance.ensures _ _ c.in_ok-specifier.ensures c.args.start _ _ c.in_err-options.ensures)

pub end_span-span-requires : goal.end_span-span-requires
end_span-span-requires t c = let m = c.in_ok-advance.ensures _ _ c.requires.at in behind_options (behind_answer c.requires.behind c.requires.at m (c.in_ok-specifier.ensures _ _ m.at)) (c.in_ok-specifier.ensures _ _ m.at).answer.at c.in_ok-options.ensures

pub returns : goal.returns
returns t c = import_made _ _ c.requires.open c.in_ok-advance.ensures _ _ c.in_ok-specifier.ensures c.in_ok-options.ensures c.end_span-span.ensures.start c.end_span-span.ensures.end c.in_ok-node.ensures
