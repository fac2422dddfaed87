use Rattle.parse_shared.proofs.laws_shared.NameKinds.{listed_here}
use Rattle.laws_operators.proofs.Arrows.{behind_so, name_found, no_arrow_behind, unmoved}
use Rattle.parse_arrows.proofs.arrow.parse_name_head.Goals as goal

pub returns-then-not-branch : goal.returns-then-not-branch
returns-then-not-branch g c =
    let b = behind_so _ _ c.if-not-branch.true c.in_ok-is_arrow_behind.ensures in
    (unmoved b.0, λ text f a. no_arrow_behind a (listed_here c.args.p.now c.requires.name) (b.1 text f a))

pub returns : goal.returns
returns g c = name_found c.requires.at (behind_so _ _ c.if-not-branch.false c.in_ok-is_arrow_behind.ensures) c.in_ok-parameters.ensures
