use Rattle.std.proofs.Common.{arith, refl}
use Rattle.std.proofs.lemmas.Result.{err_from_is_err_and}
use Rattle.js_base.specs.declared.kind.Kind.TheVariants.{Dot3}
use Rattle.js_grammar.specs.Productions.{Binding}
use Rattle.js_grammar.specs.Productions.{sym as symbol}
use Rattle.laws_patterns.proofs.Bindings.{binding_bound, no_rest, rest_outcome}
use Rattle.laws_patterns.proofs.RestInitialisers.{rest_begins}
use Rattle.parse_shared.proofs.laws_shared.Signs.{whole_sign}
use Rattle.parse_shared.proofs.laws_shared.Moving.{standing, stops_behind}
use Rattle.parse_shared.proofs.laws_shared.Nesting.{later_room, nested_room, nests_later}
use Rattle.parse_shared.proofs.laws_shared.Verdicts.{grown_then}
use Rattle.parse_patterns.proofs.binding.parse_binding_rest.Goals as goal

pub advance-requires-clause-whole : goal.advance-requires-clause-whole
advance-requires-clause-whole g c = whole_sign Dot3 c.requires.at c.requires.sign refl refl

pub parse_nested_binding-requires-clause-at : goal.parse_nested_binding-requires-clause-at
parse_nested_binding-requires-clause-at g c = standing (c.in_ok-advance.ensures _ _ c.requires.at).at

pub parse_nested_binding-requires-clause-nests : goal.parse_nested_binding-requires-clause-nests
parse_nested_binding-requires-clause-nests g c = nests_later c.requires.nests (let r = nested_room c.requires.at (c.in_ok-advance.ensures _ _ c.requires.at) in omega arith)

pub returns-in_err-binding : goal.returns-in_err-binding
returns-in_err-binding g c = λ text f a.
    let p = err_from_is_err_and c.from_residual-in_err-binding.result c.from_residual-in_err-binding.ensures.1 in
    let m = c.in_ok-advance.ensures text f a in
    rw (p.1, p.2) (stops_behind _ _ m.same (λ g. grown_then m.kept g) (λ n. no_rest a c.requires.sign m n) (c.in_err-binding.ensures.answers text f m.at))

pub finish_rest-requires-clause-at : goal.finish_rest-requires-clause-at
finish_rest-requires-clause-at g c = standing (c.in_ok-binding.ensures.answers _ _ (c.in_ok-advance.ensures _ _ c.requires.at).at).answer.at

pub finish_rest-requires-clause-nests : goal.finish_rest-requires-clause-nests
finish_rest-requires-clause-nests g c =
    let m = c.in_ok-advance.ensures _ _ c.requires.at in
    let x = (c.in_ok-binding.ensures.answers _ _ m.at).answer in
    nests_later c.requires.nests (let r = nested_room c.requires.at m in let s = later_room (let i = x.further in let j = m.at.behind in omega arith) x.same in omega arith)

pub finish_rest-requires-clause-begins : goal.finish_rest-requires-clause-begins
finish_rest-requires-clause-begins g c =
    let m = c.in_ok-advance.ensures _ _ c.requires.at in
    let x = (c.in_ok-binding.ensures.answers _ _ m.at).answer in
    rest_begins m.at c.in_ok-binding.ensures.lexeme x.same x.further c.cur_start-bound.ensures

pub finish_rest-requires-clause-before : goal.finish_rest-requires-clause-before
finish_rest-requires-clause-before g c =
    let m = c.in_ok-advance.ensures _ _ c.requires.at in
    let i = m.further in let j = m.at.behind in let b = c.cur_start-start.ensures in let d = c.cur_start-bound.ensures in omega arith

pub returns : goal.returns
returns g c = λ text f a.
    let m = c.in_ok-advance.ensures text f a in
    rest_outcome text f c.args.p.now _ _ (c.finish_rest.ensures text f (symbol Binding f) c.args.p.now a c.cur_start-start.ensures (binding_bound a c.requires.sign m (c.in_ok-binding.ensures.answers text f m.at)))
