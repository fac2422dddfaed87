use Rattle.std.proofs.Common.{arith, refl}
use Rattle.std.proofs.lemmas.Result.{err_from_is_err_and}
use Rattle.js_base.specs.declared.kind.Kind.TheVariants.{Comma, RParen}
use Rattle.parse_shared.proofs.laws_shared.Moving.{standing}
use Rattle.parse_shared.proofs.laws_shared.Nesting.{nested_room, nests_later}
use Rattle.parse_shared.proofs.laws_shared.Signs.{whole_sign}
use Rattle.parse_primary.proofs.laws_primary.ImportCalls.{behind_answer, option_stops, options_closed, options_ended, options_read, options_stop, options_unclosed}
use Rattle.parse_primary.proofs.laws_primary.Members.{stands_so}
use Rattle.parse_members.proofs.import_call.parse_import_options.Goals as goal

pub returns-in_err-close_import : goal.returns-in_err-close_import
returns-in_err-close_import t c =
    let p = err_from_is_err_and c.from_residual.result c.from_residual.ensures.1 in
    rw (p.1, p.2) (options_unclosed _ _ _ (stands_so c.args.p.now Comma c.if-not-stands.true c.stands.ensures) c.in_err-close_import.ensures)

pub returns-then-not-stands : goal.returns-then-not-stands
returns-then-not-stands t c = options_closed _ _ (stands_so c.args.p.now Comma c.if-not-stands.true c.stands.ensures) c.in_ok-close_import.ensures.0 c.in_ok-close_import.ensures.1

pub advance-requires-clause-whole : goal.advance-requires-clause-whole
advance-requires-clause-whole t c = whole_sign Comma c.requires.at (stands_so c.args.p.now Comma c.if-not-stands.false c.stands.ensures).0 refl refl

pub advance-requires-then-stands-clause-at : goal.advance-requires-then-stands-clause-at
advance-requires-then-stands-clause-at t c = standing (c.in_ok-advance.ensures _ _ c.requires.at).at

pub advance-requires-then-stands-clause-whole : goal.advance-requires-then-stands-clause-whole
advance-requires-then-stands-clause-whole t c = whole_sign RParen (c.in_ok-advance.ensures _ _ c.requires.at).at (stands_so c.advance.new.p RParen c.if-stands.true c.stands-2.ensures).0 refl refl

pub returns-then-stands : goal.returns-then-stands
returns-then-stands t c = options_ended _ _ _ (stands_so c.args.p.now Comma c.if-not-stands.false c.stands.ensures) c.in_ok-advance.ensures (stands_so c.advance.new.p RParen c.if-stands.true c.stands-2.ensures) c.in_ok-advance-2.ensures

pub parse_import_argument-requires-clause-at : goal.parse_import_argument-requires-clause-at
parse_import_argument-requires-clause-at t c = standing (c.in_ok-advance.ensures _ _ c.requires.at).at

pub parse_import_argument-requires-clause-nests : goal.parse_import_argument-requires-clause-nests
parse_import_argument-requires-clause-nests t c = nests_later c.requires.nests (let r = nested_room c.requires.at (c.in_ok-advance.ensures _ _ c.requires.at) in omega arith)

pub returns-in_err-options : goal.returns-in_err-options
returns-in_err-options t c =
    let p = err_from_is_err_and c.from_residual-in_err-options.result c.from_residual-in_err-options.ensures.1 in
    rw (p.1, p.2) (option_stops _ _ (stands_so c.args.p.now Comma c.if-not-stands.false c.stands.ensures) c.in_ok-advance.ensures (stands_so c.advance.new.p RParen c.if-stands.false c.stands-2.ensures) _ _ c.in_err-options.ensures)

pub end_import-requires-clause-at : goal.end_import-requires-clause-at
end_import-requires-clause-at t c = standing (c.in_ok-options.ensures _ _ (c.in_ok-advance.ensures _ _ c.requires.at).at).answer.at

pub end_import-requires-clause-behind : goal.end_import-requires-clause-behind
end_import-requires-clause-behind t c = let m = c.in_ok-advance.ensures _ _ c.requires.at in behind_answer c.requires.behind c.requires.at m (c.in_ok-options.ensures _ _ m.at)

pub returns-in_err-end_import : goal.returns-in_err-end_import
returns-in_err-end_import t c =
    let p = err_from_is_err_and c.from_residual-in_err-end_import.result c.from_residual-in_err-end_import.ensures.1 in
    rw (p.1, p.2) (options_stop _ _ (stands_so c.args.p.now Comma c.if-not-stands.false c.stands.ensures) c.in_ok-advance.ensures (stands_so c.advance.new.p RParen c.if-stands.false c.stands-2.ensures) _ _ c.in_ok-options.ensures _ _ c.in_err-end_import.ensures)

pub returns : goal.returns
returns t c = options_read _ _ (stands_so c.args.p.now Comma c.if-not-stands.false c.stands.ensures) c.in_ok-advance.ensures (stands_so c.advance.new.p RParen c.if-stands.false c.stands-2.ensures) _ _ c.in_ok-options.ensures _ c.in_ok-end_import.ensures
