use Rattle.std.proofs.Common.{ℕ, ◌≡◌, List, sym, ap, subst, arith, ◌∙◌}
use Rattle.laws_primary.specs.js_cursor.Parsers.{Parser}
use Rattle.laws_primary.specs.laws_shared.NodeTexts.{SpellsName}
use Rattle.std.proofs.lemmas.Bool.{false≢true}
use Rattle.std.proofs.lemmas.Result.{err_from_is_err_and}
use Rattle.js_base.specs.declared.kind.Kind.TheVariants.{Eq, RAngle}
use Rattle.js_base.specs.Kinds.{same_kind}
use Rattle.js_base.specs.declared.span.Span.{Span}
use Rattle.laws_primary.specs.laws_shared.Moves.{unpassable}
use Rattle.laws_primary.proofs.laws_shared.Giving.{memory_stops}
use Rattle.laws_primary.proofs.laws_shared.Here.{uncut}
use Rattle.laws_primary.proofs.laws_shared.Moving.{standing}
use Rattle.laws_primary.proofs.laws_shared.Nesting.{nested_room, nests_later}
use Rattle.laws_primary.proofs.WordProperties.{alone_taken, initialised, initialiser_stops, leaves_at, shorthand_made, shorthand_made_with}
use Rattle.parse_primary.proofs.object.parse_shorthand.Goals as goal

pub returns-then-not-at : goal.returns-then-not-at
returns-then-not-at g c = λ text f first a s n m.
    alone_taken a n.kind m s c.in_ok-key.ensures c.in_ok-value.ensures (λ k. false≢true (sym c.if-not-at.true ∙ c.at.ensures.1 k)) (shorthand_made first (c.start-start.ensures ∙ ap (λ (z : Span). z.start) s) c.shorthand_flags-flags.ensures c.in_ok-node.ensures)

pub make_property-requires : goal.make_property-requires
make_property-requires g c = record { before = let u = c.start-start.ensures in let z = (leaves_at c.requires.at c.in_ok-key.ensures c.in_ok-value.ensures c.requires.before).1 in omega arith }

pub advance-requires-clause-at : goal.advance-requires-clause-at
advance-requires-clause-at g c = standing (leaves_at c.requires.at c.in_ok-key.ensures c.in_ok-value.ensures c.requires.before).0

pub advance-requires-clause-whole : goal.advance-requires-clause-whole
advance-requires-clause-whole g c =
    let k : c.make_name-2.new.p.token.kind ≡ Eq = c.at.ensures.0 c.if-not-at.false in
    (uncut (leaves_at c.requires.at c.in_ok-key.ensures c.in_ok-value.ensures c.requires.before).0 (ap (same_kind RAngle) k), ap unpassable k)

pub assignment_with_in-requires-clause-at : goal.assignment_with_in-requires-clause-at
assignment_with_in-requires-clause-at g c = standing (c.in_ok-advance.ensures _ _ (leaves_at c.requires.at c.in_ok-key.ensures c.in_ok-value.ensures c.requires.before).0).at

pub assignment_with_in-requires-clause-nests : goal.assignment_with_in-requires-clause-nests
assignment_with_in-requires-clause-nests g c = nests_later c.requires.nests (
    let l = leaves_at c.requires.at c.in_ok-key.ensures c.in_ok-value.ensures c.requires.before in
    let r = nested_room l.0 (c.in_ok-advance.ensures _ _ l.0) in let s = l.2 in omega arith)

pub returns-in_err-initialiser : goal.returns-in_err-initialiser
returns-in_err-initialiser g c = λ text f first a s n m.
    let p = err_from_is_err_and c.from_residual-in_err-initialiser.result c.from_residual-in_err-initialiser.ensures.1 in
    let k : c.make_name-2.new.p.token.kind ≡ Eq = c.at.ensures.0 c.if-not-at.false in
    let d = c.in_ok-advance.ensures text f (leaves_at m.at c.in_ok-key.ensures c.in_ok-value.ensures c.requires.before).0 in
    rw (p.1, p.2) (initialiser_stops a n.kind m s c.in_ok-key.ensures c.in_ok-value.ensures k d _ _ (c.in_err-initialiser.ensures text f d.at))

pub make_initialised-requires : goal.make_initialised-requires
make_initialised-requires g c = record {
  before =
      let l = leaves_at c.requires.at c.in_ok-key.ensures c.in_ok-value.ensures c.requires.before in
      let d = c.in_ok-advance.ensures _ _ l.0 in
      let y = (c.in_ok-initialiser.ensures _ _ d.at).answer in
      let u = c.start-start.ensures in let i = l.1 in let j = l.0.behind in let k = d.further in let n = d.at.behind in let o = y.further in omega arith;
}

pub returns : goal.returns
returns g c = λ text f first a s n m.
    let k : c.make_name-2.new.p.token.kind ≡ Eq = c.at.ensures.0 c.if-not-at.false in
    let d = c.in_ok-advance.ensures text f (leaves_at m.at c.in_ok-key.ensures c.in_ok-value.ensures c.requires.before).0 in
    initialised a n.kind m s c.in_ok-key.ensures c.in_ok-value.ensures k d (c.in_ok-initialiser.ensures text f d.at) (shorthand_made_with first (c.start-start.ensures ∙ ap (λ (z : Span). z.start) s) c.in_ok-node-2.ensures)

pub returns-in_err-value : goal.returns-in_err-value
returns-in_err-value g c = λ text f first a s n m. let p = err_from_is_err_and c.from_residual-in_err-value.result c.from_residual-in_err-value.ensures.1 in rw (p.1, p.2) tt

pub returns-in_err-node : goal.returns-in_err-node
returns-in_err-node g c = λ text f first a s n m. let p = err_from_is_err_and c.from_residual-in_err-node.result c.from_residual-in_err-node.ensures.1 in rw (p.1, p.2) tt

pub returns-in_err-advance : goal.returns-in_err-advance
returns-in_err-advance g c = λ text f first a s n m. let p = err_from_is_err_and c.from_residual-in_err-advance.result c.from_residual-in_err-advance.ensures.1 in rw (p.1, p.2) (memory_stops _ _ _ _ c.in_err-advance.ensures)

pub make_name-requires-2-clause-spells : goal.make_name-requires-2-clause-spells
make_name-requires-2-clause-spells g c = subst (λ (v : List ℕ). SpellsName v c.args.name) (sym (ap (λ (v : Parser). v.text) c.in_ok-key.ensures.stays)) c.requires.spells
