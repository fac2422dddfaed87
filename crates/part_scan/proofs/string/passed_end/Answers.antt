use Rattle.std.proofs.Common.{subst, ℕ, [], ◌∷◌, ◌+◌, arith}
use Rattle.part_words.specs.Places.{Word}
use Rattle.part_words.proofs.Places.{then}
use Rattle.part_scan.proofs.StringLemmas.{escaped_within}
use Rattle.part_scan.proofs.StringPlaces.{passes_one}
use Rattle.part_scan.proofs.string.passed_end.Goals as goal

pub returns-then-byte-eq92-clause-passes : goal.returns-then-byte-eq92-clause-passes
returns-then-byte-eq92-clause-passes c =
    let e = c.escaped_end.ensures in
    record {
      word = 92 ∷ e.word;
      stands = then (subst (λ (b : ℕ). Word c.args.text.now c.args.at (c.args.at + 1) (b ∷ [])) c.if-byte-eq92.true (c.requires.byte.ascii (let i = c.if-byte-eq92.true in omega arith))) e.stands;
      within = escaped_within c.args.quote e.word _ c.requires.quote e.escaped;
      plain = λ n. absurd (n c.if-byte-eq92.true);
    }

pub returns-else-byte-eq92-clause-passes : goal.returns-else-byte-eq92-clause-passes
returns-else-byte-eq92-clause-passes c = passes_one c.args.quote c.args.text.now c.args.at c.args.byte c.character_end.result c.requires.quote c.requires.inner c.if-byte-eq92.false c.character_end.ensures
