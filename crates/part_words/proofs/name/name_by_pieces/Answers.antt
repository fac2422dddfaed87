use Rattle.std.proofs.Common.{[], refl}
use Rattle.part_words.proofs.NameWords.{no_letters, read-first, read-marked, read-unmarked}
use Rattle.part_words.proofs.name.name_by_pieces.Goals as goal

pub pieces-init : goal.pieces-init
pieces-init c = read-first c.requires (c.with_letter-letters.ensures [] (no_letters _ refl refl))

pub pieces-preserved-then-escaped : goal.pieces-preserved-then-escaped
pieces-preserved-then-escaped c = read-marked c.pieces.invariant c.in-Some.ensures c.with_letter-letters-in-Some.ensures c.if-escaped.true

pub pieces-preserved : goal.pieces-preserved
pieces-preserved c = read-unmarked c.pieces.invariant c.in-Some.ensures c.with_letter-letters-in-Some.ensures c.if-escaped.false
