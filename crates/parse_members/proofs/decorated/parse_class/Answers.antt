use Rattle.std.proofs.Common.{◌∙◌, arith, refl, sym}
use Rattle.std.proofs.lemmas.Bool.{false≢true}
use Rattle.std.proofs.lemmas.Result.{err_from_is_err_and}
use Rattle.js_base.specs.declared.kind.Kind.TheVariants.{Class}
use Rattle.parse_shared.specs.laws_shared.Classes.{EndsParse}
use Rattle.parse_shared.proofs.js_tree.HoldingLemmas.{Holds-below}
use Rattle.parse_shared.proofs.laws_shared.Giving.{gives_up}
use Rattle.parse_shared.proofs.laws_shared.Moving.{standing}
use Rattle.parse_shared.proofs.laws_shared.Nesting.{nests_later}
use Rattle.parse_primary.proofs.laws_primary.Functions.{room_less}
use Rattle.parse_primary.proofs.laws_primary.DecoratedClasses.{class_away, class_stops_behind, class_untextual, class_word, decorated_class, decorators_stop_class, no_class_there}
use Rattle.parse_primary.proofs.laws_primary.DecoratedNodes.{made_kind}
use Rattle.parse_primary.proofs.laws_primary.Members.{stands_so}
use Rattle.parse_members.proofs.decorated.parse_class.Goals as goal

pub parse_undecorated_class-requires-clause-word : goal.parse_undecorated_class-requires-clause-word
parse_undecorated_class-requires-clause-word g c = class_word c.args.p.now c.requires.class (λ k. false≢true (sym c.if-not-at.true ∙ c.at.ensures.1 k))

pub returns-in_err-decorators-clause-taken : goal.returns-in_err-decorators-clause-taken
returns-in_err-decorators-clause-taken g c = λ text f a.
    let p = err_from_is_err_and c.from_residual.result c.from_residual.ensures.1 in
    rw (p.1, p.2) (decorators_stop_class c.args.form a (c.at.ensures.0 c.if-not-at.false) _ _ (c.in_err-decorators.ensures text f a))

pub refuse_undecorated-requires : goal.refuse_undecorated-requires
refuse_undecorated-requires g c = standing (c.in_ok-decorators.ensures.1 _ _ c.requires.at).at

pub returns-then-not-stands-clause-taken : goal.returns-then-not-stands-clause-taken
returns-then-not-stands-clause-taken g c = λ text f a.
    let x = c.in_ok-decorators.ensures.1 text f a in
    let h = class_away c.parse_decorators.new.p (stands_so c.parse_decorators.new.p Class c.if-not-stands.true c.stands.ensures) c.in_ok-decorators.ensures.0 in
    class_stops_behind c.args.form a (c.at.ensures.0 c.if-not-at.false) x c.in_ok-decorators.ensures.0 _ _ (gives_up EndsParse _ _ c.refuse_undecorated.result x.at c.refuse_undecorated.ensures (λ d u. u) (no_class_there c.args.form x.at h))

pub parse_undecorated_class-requires-2-clause-at : goal.parse_undecorated_class-requires-2-clause-at
parse_undecorated_class-requires-2-clause-at g c = standing (c.in_ok-decorators.ensures.1 _ _ c.requires.at).at

pub parse_undecorated_class-requires-2-clause-nests : goal.parse_undecorated_class-requires-2-clause-nests
parse_undecorated_class-requires-2-clause-nests g c =
    let x = c.in_ok-decorators.ensures.1 _ _ c.requires.at in
    nests_later c.requires.nests (let r = room_less c.requires.at x.further x.same in omega arith)

pub returns-in_err-class-clause-taken : goal.returns-in_err-class-clause-taken
returns-in_err-class-clause-taken g c = λ text f a.
    let p = err_from_is_err_and c.from_residual-in_err-class.result c.from_residual-in_err-class.ensures.1 in
    let x = c.in_ok-decorators.ensures.1 text f a in
    rw (p.1, p.2) (class_stops_behind c.args.form a (c.at.ensures.0 c.if-not-at.false) x c.in_ok-decorators.ensures.0 _ _ (c.in_err-class.ensures.taken text f x.at))

pub decorate-requires-clause-node : goal.decorate-requires-clause-node
decorate-requires-clause-node g c = Holds-below (c.in_ok-class.ensures.taken _ _ (c.in_ok-decorators.ensures.1 _ _ c.requires.at).at).holds

pub decorate-requires-clause-plain : goal.decorate-requires-clause-plain
decorate-requires-clause-plain g c = class_untextual c.args.form _ c.in_ok-class.ensures.kind

pub decorate-requires-clause-before : goal.decorate-requires-clause-before
decorate-requires-clause-before g c =
    let x = c.in_ok-decorators.ensures.1 _ _ c.requires.at in
    let y = (c.in_ok-class.ensures.taken _ _ x.at).answer in
    let i = x.further in let j = y.further in let d = x.at.behind in let s = c.cur_start-start.ensures in omega arith

pub returns-clause-taken : goal.returns-clause-taken
returns-clause-taken g c = λ text f a.
    let x = c.in_ok-decorators.ensures.1 text f a in
    decorated_class c.args.form a (c.at.ensures.0 c.if-not-at.false) x c.in_ok-decorators.ensures.0 (c.in_ok-class.ensures.taken text f x.at) c.in_ok-class.ensures.kind c.cur_start-start.ensures c.in_ok-node.ensures
