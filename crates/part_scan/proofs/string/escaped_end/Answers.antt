use Rattle.std.proofs.Common.{subst, ℕ, [], ◌∷◌, ◌+◌, arith}
use Rattle.part_words.specs.Places.{Word}
use Rattle.part_words.proofs.Places.{then}
use Rattle.part_scan.proofs.StringLemmas.{line_feed_escaped}
use Rattle.part_scan.proofs.string.escaped_end.Goals as goal

pub returns-in-Some-eq13 : goal.returns-in-Some-eq13
returns-in-Some-eq13 c =
    let e = c.line_feed_end.ensures in
    record {
      word = 13 ∷ e.word;
      stands = then (subst (λ (b : ℕ). Word c.args.text.now c.args.at (c.args.at + 1) (b ∷ [])) c.in-Some-eq13.field-0-test (c.in-Some-eq13.ensures.ascii (let i = c.in-Some-eq13.field-0-test in omega arith))) e.stands;
      escaped = line_feed_escaped e.word _ e.line_feed;
    }
