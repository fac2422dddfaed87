use Rattle.std.proofs.Common.{refl}
use Rattle.js_base.specs.declared.kind.Kind.TheVariants.{Comma}
use Rattle.parse_shared.proofs.laws_shared.Moving.{standing}
use Rattle.parse_shared.proofs.laws_shared.Signs.{whole_sign}
use Rattle.parse_primary.proofs.laws_primary.ImportCalls.{behind_moved, end_at_once, end_behind_comma}
use Rattle.parse_primary.proofs.laws_primary.Members.{stands_so}
use Rattle.parse_members.proofs.import_call.end_import.Goals as goal

pub returns-then-not-stands : goal.returns-then-not-stands
returns-then-not-stands g c = end_at_once _ _ c.close_import.result (stands_so c.args.p.now Comma c.if-not-stands.true c.stands.ensures) c.close_import.ensures

pub advance-requires-clause-whole : goal.advance-requires-clause-whole
advance-requires-clause-whole g c = whole_sign Comma c.requires.at (stands_so c.args.p.now Comma c.if-not-stands.false c.stands.ensures).0 refl refl

pub close_import-requires-2-clause-at : goal.close_import-requires-2-clause-at
close_import-requires-2-clause-at g c = standing (c.in_ok-advance.ensures _ _ c.requires.at).at

pub close_import-requires-2-clause-behind : goal.close_import-requires-2-clause-behind
close_import-requires-2-clause-behind g c = behind_moved c.requires.behind c.requires.at (c.in_ok-advance.ensures _ _ c.requires.at)

pub returns : goal.returns
returns g c = end_behind_comma _ _ _ c.close_import-2.result (stands_so c.args.p.now Comma c.if-not-stands.false c.stands.ensures) c.in_ok-advance.ensures c.close_import-2.ensures
