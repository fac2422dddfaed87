use Rattle.std.proofs.Common.{◌∙◌}
use Rattle.js_base.specs.declared.kind.Kind.TheVariants.{Float}
use Rattle.part_words.specs.js_grammar.Numbers.{exponent}
use Rattle.part_scan.proofs.NumberRests.{behind_digits, broken_digits, or-left, or-right}
use Rattle.part_scan.proofs.number.read_fraction_digits.Goals.{then-separated, else-separated}
use Rattle.part_scan.proofs.number.read_fraction_digits.Goals as goal

pub returns-after-separated : goal.returns-after-separated
returns-after-separated c = behind_digits (exponent Float) c.digits_at-digits.ensures c.if-digits.true
    (elim c.if-separated.branch [ then-separated w ↦ w.read_exponent-is ∙ or-left _ _ w.if-separated.true | else-separated w ↦ w.read_exponent-is ∙ or-right _ _ w.if-separated.false ])
    c.read_exponent.ensures

pub returns-else-digits : goal.returns-else-digits
returns-else-digits c = broken_digits (exponent Float) c.digits_at-digits.ensures c.if-digits.false
