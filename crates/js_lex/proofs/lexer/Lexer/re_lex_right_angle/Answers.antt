use Rattle.std.proofs.Common.{subst, ap, ◌≤◌}
use Rattle.std.specs.Prelude.{IsUtf8, length}
use Rattle.js_base.specs.declared.TheConstants.{MAX_LEN}
use Rattle.part_words.specs.js_grammar.Lexemes.{division}
use Rattle.js_lex.specs.States.{State}
use Rattle.js_lex.specs.Settling.{ScanEnds}
use Rattle.js_lex.proofs.Again.{ok_angle, ends_again, fits_again, starts_for, no_trivia_for, scans_for}
use Rattle.js_lex.proofs.lexer.Lexer.re_lex_right_angle.Goals as goal

pub plain_at-scan-requires-clause-boundary : goal.plain_at-scan-requires-clause-boundary
plain_at-scan-requires-clause-boundary g c = starts_for c.args.self.now c.args.token c.self.inside.source_text.now c.start.result (ap (λ (s : State). s.text) c.self.view_is) c.start.ensures c.requires.given

pub plain_at-scan-requires-clause-no_trivia : goal.plain_at-scan-requires-clause-no_trivia
plain_at-scan-requires-clause-no_trivia g c = no_trivia_for c.args.self.now c.args.token c.self.inside.source_text.now c.start.result (ap (λ (s : State). s.text) c.self.view_is) c.start.ensures c.self.invariant.utf8 c.requires.given

pub settle_again-requires-clause-ends : goal.settle_again-requires-clause-ends
settle_again-requires-clause-ends g c = subst (λ v. ScanEnds v c.plain_at-scan.result) (ap (λ (s : State). s.text) c.self.view_is) (ends_again division c.self.inside.source_text.now c.start.result c.plain_at-scan.result c.plain_at-scan.ensures)

pub returns-clause-ok : goal.returns-clause-ok
returns-clause-ok g c =
    let e = ap (λ (s : State). s.text) c.self.view_is in
    ok_angle c.args.self.now c.settle_again.new.self c.args.token c.plain_at-scan.result c.settle_again.result (subst IsUtf8 e c.self.invariant.utf8) c.requires.given (scans_for division c.args.self.now c.args.token c.self.inside.source_text.now c.start.result c.plain_at-scan.result e c.start.ensures c.plain_at-scan.ensures) c.settle_again.ensures.same c.settle_again.ensures.ok

pub settle_again-requires-clause-fits : goal.settle_again-requires-clause-fits
settle_again-requires-clause-fits g c =
    let e = ap (λ (s : State). s.text) c.self.view_is in
    fits_again division c.args.self.now.text c.args.token.span.start MAX_LEN c.plain_at-scan.result (subst (λ v. length v ≤ MAX_LEN) e c.self.invariant.short) (scans_for division c.args.self.now c.args.token c.self.inside.source_text.now c.start.result c.plain_at-scan.result e c.start.ensures c.plain_at-scan.ensures)

pub settle_again-requires-clause-starts : goal.settle_again-requires-clause-starts
settle_again-requires-clause-starts g c = c.requires.given.lies.starts_whole
