use Rattle.std.proofs.Common.{◌==◌, subst}
use Rattle.part_words.specs.Places.{Finds}
use Rattle.part_words.proofs.Places.{found}
use Rattle.part_words.proofs.NameScans.{private-escape, private-nothing}
use Rattle.part_words.proofs.name.fault_behind_mark.Goals as goal

pub invalid_escape-requires : goal.invalid_escape-requires
invalid_escape-requires c = found 92 (subst (Finds (λ d. d == 92) c.args.text.now c.args.place) c.if-is_at.true c.is_at.ensures)

pub returns-then-is_at : goal.returns-then-is_at
returns-then-is_at c =
    let e = c.invalid_escape.ensures in
    private-escape c.requires.mark (found 92 (subst (Finds (λ d. d == 92) c.args.text.now c.args.place) c.if-is_at.true c.is_at.ensures)) c.requires.none e.kind e.start e.end

pub returns-else-is_at : goal.returns-else-is_at
returns-else-is_at c = private-nothing c.requires.boundary c.requires.mark (subst (Finds (λ d. d == 92) c.args.text.now c.args.place) c.if-is_at.false c.is_at.ensures) c.requires.none
