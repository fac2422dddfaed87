use Rattle.std.proofs.Common.{arith, refl, ◌∷◌, []}
use Rattle.std.proofs.lemmas.Result.{err_from_is_err_and}
use Rattle.js_base.specs.declared.kind.Kind.TheVariants.{Class}
use Rattle.laws_primary.proofs.laws_shared.Moving.{standing}
use Rattle.laws_primary.proofs.laws_shared.Nesting.{nests_later}
use Rattle.laws_primary.proofs.laws_shared.Signs.{whole_sign}
use Rattle.laws_primary.proofs.Functions.{room_less}
use Rattle.laws_primary.specs.laws_shared.Classes.{EndsParse}
use Rattle.laws_primary.proofs.laws_shared.Giving.{gives_up}
use Rattle.laws_primary.proofs.Classes.{body_stops, class_answers, embodied, implements_marked, inherited, inheriting_stops, name_stops, named, unembodied}
use Rattle.laws_primary.proofs.DecoratedNodes.{made_kind}
use Rattle.parse_primary.proofs.class.parse_undecorated_class.Goals as goal

pub advance-requires-clause-whole : goal.advance-requires-clause-whole
advance-requires-clause-whole g c = whole_sign Class c.requires.at c.requires.word.0 refl refl

pub parse_class_name-requires : goal.parse_class_name-requires
parse_class_name-requires g c = standing (c.in_ok-advance.ensures _ _ c.requires.at).at

pub returns-in_err-name-clause-taken : goal.returns-in_err-name-clause-taken
returns-in_err-name-clause-taken g c = λ text f a.
    let p = err_from_is_err_and c.from_residual-in_err-name.result c.from_residual-in_err-name.ensures.1 in
    rw (p.1, p.2) (name_stops c.args.form a c.requires.word (c.in_ok-advance.ensures text f a) _ _ c.in_err-name.ensures)

pub parse_heritage-requires-clause-at : goal.parse_heritage-requires-clause-at
parse_heritage-requires-clause-at g c = standing (named c.args.form c.requires.at c.requires.word (c.in_ok-advance.ensures _ _ c.requires.at) _ c.in_ok-name.name c.in_ok-name.ensures).at

pub parse_heritage-requires-clause-nests : goal.parse_heritage-requires-clause-nests
parse_heritage-requires-clause-nests g c =
    let x = named c.args.form c.requires.at c.requires.word (c.in_ok-advance.ensures _ _ c.requires.at) _ c.in_ok-name.name c.in_ok-name.ensures in
    nests_later c.requires.nests (let l = room_less c.requires.at x.further x.same in omega arith)

pub returns-in_err-heritage-clause-taken : goal.returns-in_err-heritage-clause-taken
returns-in_err-heritage-clause-taken g c = λ text f a.
    let p = err_from_is_err_and c.from_residual-in_err-heritage.result c.from_residual-in_err-heritage.ensures.1 in
    let x = named c.args.form a c.requires.word (c.in_ok-advance.ensures text f a) _ c.in_ok-name.name c.in_ok-name.ensures in
    rw (p.1, p.2) (inheriting_stops c.args.form c.in_ok-name.name x _ _ c.in_err-heritage.ensures)

pub refuse_here-requires-clause-at : goal.refuse_here-requires-clause-at
refuse_here-requires-clause-at g c =
    let x = named c.args.form c.requires.at c.requires.word (c.in_ok-advance.ensures _ _ c.requires.at) _ c.in_ok-name.name c.in_ok-name.ensures in
    (inherited c.args.form c.in_ok-name.name x _ c.in_ok-heritage.heritage c.in_ok-heritage.ensures).at.at

pub refuse_here-requires-clause-mark : goal.refuse_here-requires-clause-mark
refuse_here-requires-clause-mark g c =
    let x = named c.args.form c.requires.at c.requires.word (c.in_ok-advance.ensures _ _ c.requires.at) _ c.in_ok-name.name c.in_ok-name.ensures in
    implements_marked _ (inherited c.args.form c.in_ok-name.name x _ c.in_ok-heritage.heritage c.in_ok-heritage.ensures).at.at (c.at.ensures.0 c.if-at.true)

pub refuse_here-requires-clause-ends : goal.refuse_here-requires-clause-ends
refuse_here-requires-clause-ends g c = refl

pub returns-then-at-clause-taken : goal.returns-then-at-clause-taken
returns-then-at-clause-taken g c = λ text f a.
    let x = named c.args.form a c.requires.word (c.in_ok-advance.ensures text f a) _ c.in_ok-name.name c.in_ok-name.ensures in
    let y = inherited c.args.form c.in_ok-name.name x _ c.in_ok-heritage.heritage c.in_ok-heritage.ensures in
    body_stops c.args.form (c.in_ok-name.name ∷ c.in_ok-heritage.heritage ∷ []) y _ _ (gives_up EndsParse _ _ c.refuse_here.result y.at c.refuse_here.ensures (λ d u. u) (unembodied y.at (c.at.ensures.0 c.if-at.true)))

pub class_body-requires : goal.class_body-requires
class_body-requires g c =
    let x = named c.args.form c.requires.at c.requires.word (c.in_ok-advance.ensures _ _ c.requires.at) _ c.in_ok-name.name c.in_ok-name.ensures in
    let y = inherited c.args.form c.in_ok-name.name x _ c.in_ok-heritage.heritage c.in_ok-heritage.ensures in
    c.requires.nests _ _ (standing y.at) (room_less c.requires.at y.further y.same)

pub returns-in_err-body-clause-taken : goal.returns-in_err-body-clause-taken
returns-in_err-body-clause-taken g c = λ text f a.
    let p = err_from_is_err_and c.from_residual-in_err-body.result c.from_residual-in_err-body.ensures.1 in
    let x = named c.args.form a c.requires.word (c.in_ok-advance.ensures text f a) _ c.in_ok-name.name c.in_ok-name.ensures in
    let y = inherited c.args.form c.in_ok-name.name x _ c.in_ok-heritage.heritage c.in_ok-heritage.ensures in
    rw (p.1, p.2) (body_stops c.args.form (c.in_ok-name.name ∷ c.in_ok-heritage.heritage ∷ []) y _ _ (c.in_err-body.ensures text f y.at))

pub make_class-requires : goal.make_class-requires
make_class-requires g c =
    let x = named c.args.form c.requires.at c.requires.word (c.in_ok-advance.ensures _ _ c.requires.at) _ c.in_ok-name.name c.in_ok-name.ensures in
    let y = inherited c.args.form c.in_ok-name.name x _ c.in_ok-heritage.heritage c.in_ok-heritage.ensures in
    let z = embodied c.args.form (c.in_ok-name.name ∷ c.in_ok-heritage.heritage ∷ []) y (c.in_ok-body.ensures _ _ y.at) in
    let i = z.further in let s = c.cur_start-start.ensures in omega arith

pub returns-clause-taken : goal.returns-clause-taken
returns-clause-taken g c = λ text f a.
    let x = named c.args.form a c.requires.word (c.in_ok-advance.ensures text f a) _ c.in_ok-name.name c.in_ok-name.ensures in
    let y = inherited c.args.form c.in_ok-name.name x _ c.in_ok-heritage.heritage c.in_ok-heritage.ensures in
    let z = embodied c.args.form (c.in_ok-name.name ∷ c.in_ok-heritage.heritage ∷ []) y (c.in_ok-body.ensures text f y.at) in
    class_answers c.args.form a z c.cur_start-start.ensures c.in_ok-node.ensures

pub returns-clause-kind : goal.returns-clause-kind
returns-clause-kind g c = made_kind c.in_ok-node.ensures
