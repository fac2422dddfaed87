use Rattle.std.proofs.Common.{ap, sym, ◌∙◌}
use Rattle.std.specs.Prelude.{option_map}
use Rattle.part_text.specs.Escapes.{in_string}
use Rattle.part_text.specs.DecodingSteps.{state_of, progress_of}
use Rattle.part_text.proofs.DecodingLemmas.{fits-made, char-point}
use Rattle.part_text.proofs.EscapeLemmas.{opened, went_on, stopped, not_backslash}
use Rattle.part_text.proofs.escape.read_plainly.Goals as goal

pub returns-in-Backslash-clause-read : goal.returns-in-Backslash-clause-read
returns-in-Backslash-clause-read c = λ w d q r k. opened w (state_of c.args.reading.state) c.args.reading.after_carriage c.args.reading.backslash d c.args.c c.args.after_carriage (progress_of c.in-Some.progress) c.args.place r k (sym c.step.ensures ∙ ap (option_map progress_of) c.in-Some.is) (ap state_of c.in-Backslash.is) q

pub returns-in_default-state : goal.returns-in_default-state
returns-in_default-state c = record {
  read = λ w d q r k. went_on w (state_of c.args.reading.state) c.args.reading.after_carriage c.args.reading.backslash d c.args.c c.args.after_carriage (progress_of c.in-Some.progress) r k (sym c.step.ensures ∙ ap (option_map progress_of) c.in-Some.is) (not_backslash c.in-Some.progress.state c.in_default-state.not-Backslash);
  fits = fits-made in_string (state_of c.args.reading.state) c.args.c c.step.result c.in-Some.progress c.requires (char-point c.args.c c.ranges.c.0) c.step.ensures c.in-Some.is;
}

pub returns-in_default-clause-read : goal.returns-in_default-clause-read
returns-in_default-clause-read c = λ w d q r k. stopped w (state_of c.args.reading.state) c.args.reading.after_carriage c.args.reading.backslash d c.args.c c.args.after_carriage r k (sym c.step.ensures ∙ ap (option_map progress_of) c.in_default.is)
