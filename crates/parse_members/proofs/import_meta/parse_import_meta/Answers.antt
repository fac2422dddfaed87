use Rattle.std.proofs.Common.{◌∙◌, arith, refl, subst, sym}
use Rattle.std.proofs.lemmas.Result.{err_from_is_err_and}
use Rattle.js_base.specs.declared.kind.Kind.TheVariants.{Dot, Meta}
use Rattle.js_base.specs.declared.diagnostic.DiagnosticKind.TheVariants.{ImportMeta}
use Rattle.parse_shared.proofs.laws_shared.Giving.{memory_stops}
use Rattle.parse_shared.proofs.laws_shared.Moving.{standing, stops_behind}
use Rattle.parse_shared.proofs.laws_shared.Signs.{whole_sign}
use Rattle.parse_shared.proofs.laws_shared.Verdicts.{grown_then}
use Rattle.parse_primary.proofs.laws_primary.ImportCalls.{behind_moved}
use Rattle.parse_primary.proofs.laws_primary.ImportWords.{dot_stops, meta_taken, passed_marked, property_stops}
use Rattle.parse_primary.proofs.laws_primary.Members.{stands_so}
use Rattle.parse_members.proofs.import_meta.parse_import_meta.Goals as goal

pub set_unexpected-requires : goal.set_unexpected-requires
set_unexpected-requires g c = c.requires.at.at

pub returns-then-not-stands : goal.returns-then-not-stands
returns-then-not-stands g c = λ text f o a s e m. dot_stops a s m (stands_so c.args.p.now Dot c.if-not-stands.true c.stands.ensures) _ c.set_unexpected.result c.set_unexpected.ensures

pub advance-requires-clause-whole : goal.advance-requires-clause-whole
advance-requires-clause-whole g c = whole_sign Dot c.requires.at (stands_so c.args.p.now Dot c.if-not-stands.false c.stands.ensures).0 refl refl

pub refuse_property-requires-clause-at : goal.refuse_property-requires-clause-at
refuse_property-requires-clause-at g c = standing (c.in_ok-advance.ensures _ _ c.requires.at).at

pub refuse_property-requires-clause-behind : goal.refuse_property-requires-clause-behind
refuse_property-requires-clause-behind g c = behind_moved c.requires.behind c.requires.at (c.in_ok-advance.ensures _ _ c.requires.at)

pub returns-then-not-stands-2 : goal.returns-then-not-stands-2
returns-then-not-stands-2 g c = λ text f o a s e m. property_stops a s m (stands_so c.args.p.now Dot c.if-not-stands.false c.stands.ensures) (c.in_ok-advance.ensures text f m.at) (stands_so c.advance.new.p Meta c.if-not-stands-2.true c.stands-2.ensures) _ c.refuse_property.result c.refuse_property.ensures

pub advance-requires-2-clause-at : goal.advance-requires-2-clause-at
advance-requires-2-clause-at g c = standing (c.in_ok-advance.ensures _ _ c.requires.at).at

pub advance-requires-2-clause-whole : goal.advance-requires-2-clause-whole
advance-requires-2-clause-whole g c = whole_sign Meta (c.in_ok-advance.ensures _ _ c.requires.at).at (stands_so c.advance.new.p Meta c.if-not-stands-2.false c.stands-2.ensures).0 refl refl

pub end_span-span-requires : goal.end_span-span-requires
end_span-span-requires g c =
    let m = c.in_ok-advance.ensures _ _ c.requires.at in
    (behind_moved (behind_moved c.requires.behind c.requires.at m) m.at (c.in_ok-advance-2.ensures _ _ m.at)).before

pub check_import_meta-requires-clause-at : goal.check_import_meta-requires-clause-at
check_import_meta-requires-clause-at g c = (c.in_ok-advance-2.ensures _ _ (c.in_ok-advance.ensures _ _ c.requires.at).at).at.at

pub check_import_meta-requires-clause-mark : goal.check_import_meta-requires-clause-mark
check_import_meta-requires-clause-mark g c =
    let m = c.in_ok-advance.ensures _ _ c.requires.at in
    let n = c.in_ok-advance-2.ensures _ _ m.at in
    passed_marked ImportMeta (λ g t s x. (x, (refl, refl))) (behind_moved (behind_moved c.requires.behind c.requires.at m) m.at n) n.at.at _ c.end_span-span.ensures.start c.end_span-span.ensures.end

pub returns : goal.returns
returns g c = λ text f o a s e m.
    let n = c.in_ok-advance.ensures text f m.at in
    meta_taken a s m (stands_so c.args.p.now Dot c.if-not-stands.false c.stands.ensures) n (stands_so c.advance.new.p Meta c.if-not-stands-2.false c.stands-2.ensures) (c.in_ok-advance-2.ensures text f n.at) c.in_ok-check_import_meta.ensures (c.end_span-span.ensures.start ∙ e) c.end_span-span.ensures.end c.in_ok-node.ensures
