use Rattle.std.proofs.Common.{refl}
use Rattle.js_base.specs.declared.kind.Kind.TheVariants.{RParen}
use Rattle.parse_shared.proofs.laws_shared.Signs.{whole_sign}
use Rattle.parse_primary.proofs.laws_primary.ImportCalls.{closing, unclosed}
use Rattle.parse_primary.proofs.laws_primary.Members.{stands_so}
use Rattle.parse_members.proofs.import_call.close_import.Goals as goal

pub returns-then-not-stands : goal.returns-then-not-stands
returns-then-not-stands g c = unclosed _ _ c.refuse_arguments.result (stands_so c.args.p.now RParen c.if-not-stands.true c.stands.ensures) c.refuse_arguments.ensures

pub advance-requires-clause-whole : goal.advance-requires-clause-whole
advance-requires-clause-whole g c = whole_sign RParen c.requires.at (stands_so c.args.p.now RParen c.if-not-stands.false c.stands.ensures).0 refl refl

pub returns : goal.returns
returns g c = closing _ _ c.advance.result (stands_so c.args.p.now RParen c.if-not-stands.false c.stands.ensures) c.advance.ensures
