use Rattle.std.proofs.Common.{sym, ◌∙◌}
use Rattle.std.proofs.lemmas.Bool.{false≢true}
use Rattle.laws_primary.proofs.laws_shared.Giving.{gives_up_here}
use Rattle.laws_primary.proofs.Templates.{no_brace, part_begun, unended_stops}
use Rattle.parse_primary.proofs.template.re_lex_part.Goals as goal

pub returns-then-not-at : goal.returns-then-not-at
returns-then-not-at g c = λ text f a. gives_up_here c.args.p.now c.set_unexpected.new.self c.set_unexpected.result a c.set_unexpected.ensures (no_brace a (λ e. false≢true (sym c.if-not-at.true ∙ c.at.ensures.1 e)))

pub returns-then-at : goal.returns-then-at
returns-then-at g c = λ text f a. unended_stops a (c.at.ensures.0 c.if-not-at.false) c.in_ok-re_lex_template_tail.ensures.read (c.at-2.ensures.0 c.if-at.true) c.set_unexpected-then-at.new.self c.set_unexpected-then-at.result c.set_unexpected-then-at.ensures

pub returns : goal.returns
returns g c = λ text f a. part_begun a (c.at.ensures.0 c.if-not-at.false) c.in_ok-re_lex_template_tail.ensures.read (λ e. false≢true (sym c.if-at.false ∙ c.at-2.ensures.1 e)) c.in_ok-re_lex_template_tail.ensures.quiet
