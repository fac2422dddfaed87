use Rattle.std.proofs.Common.{◌≡◌, ◌+◌, ℕ, List, [], ◌∷◌, false, subst, ap, sym, Some}
use Rattle.std.specs.Prelude.{IsUtf8, codes, Ok}
use Rattle.js_base.specs.part_text.Characters.{one_of}
use Rattle.js_base.specs.declared.diagnostic.Diagnostic.{Diagnostic}
use Rattle.part_words.specs.js_grammar.Characters.{begins}
use Rattle.part_words.specs.js_grammar.LexicalFaults.{behind}
use Rattle.part_words.specs.js_grammar.Lexemes.{regular_expression}
use Rattle.js_lex.specs.States.{State}
use Rattle.part_words.specs.Places.{Word}
use Rattle.js_lex.specs.Reading.{GivesAgain, FlagsStand}
use Rattle.js_lex.specs.Settling.{SettledBehind}
use Rattle.part_words.specs.declared.scan.Scanned.{Scanned}
use Rattle.js_lex.proofs.Marks.{pattern_boundary}
use Rattle.js_lex.proofs.Expressions.{slash_for, found_again, stopped_again, found_for, stopped_for}
use Rattle.js_lex.proofs.lexer.Lexer.re_lex_regex.Goals as goal

pub regular_expression_at-requires-clause-opening : goal.regular_expression_at-requires-clause-opening
regular_expression_at-requires-clause-opening g c = subst (λ (n : ℕ). Word c.self.inside.source_text.now n (n + 1) (47 ∷ [])) (sym c.start.ensures) (slash_for c.args.self.now c.args.token c.self.inside.source_text.now (ap (λ (s : State). s.text) c.self.view_is) c.self.invariant.utf8 c.requires.given c.requires.kind).slash

pub regular_expression_at-requires-clause-no_comment : goal.regular_expression_at-requires-clause-no_comment
regular_expression_at-requires-clause-no_comment g c = subst (λ (n : ℕ). begins (one_of (codes "*/")) (behind c.self.inside.source_text.now (n + 1)) ≡ false) (sym c.start.ensures) (slash_for c.args.self.now c.args.token c.self.inside.source_text.now (ap (λ (s : State). s.text) c.self.view_is) c.self.invariant.utf8 c.requires.given c.requires.kind).no_comment

pub settle_again-requires-clause-flags : goal.settle_again-requires-clause-flags
settle_again-requires-clause-flags g c =
    let e = ap (λ (s : State). s.text) c.self.view_is in
    let is = found_for c.args.self.now c.args.token c.self.inside.source_text.now c.start.result c.in-Ok.found e c.start.ensures c.in-Ok.ensures in
    (pattern_boundary (subst IsUtf8 e c.self.invariant.utf8) c.requires.given.lies.starts_whole is, (is.flags_word, is.flags_stand))

pub returns-in_ok-again-in-Ok-clause-ok : goal.returns-in_ok-again-in-Ok-clause-ok
returns-in_ok-again-in-Ok-clause-ok g c =
    let e = ap (λ (s : State). s.text) c.self.view_is in
    let is = found_for c.args.self.now c.args.token c.self.inside.source_text.now c.start.result c.in-Ok.found e c.start.ensures c.in-Ok.ensures in
    let k = c.in_ok-again-in-Ok.ensures.ok in
    found_again c.args.self.now c.settle_again.new.self c.args.token c.in_ok-again-in-Ok.again c.in-Ok.found (subst IsUtf8 e c.self.invariant.utf8) c.requires.given.lies.starts_whole c.in_ok-again-in-Ok.ensures.same k.0 is
    (subst (λ (z : Scanned). SettledBehind c.args.self.now.text c.args.self.now.keeps_tokens c.args.token (Ok z) (Some c.in-Ok.found) c.args.self.now.kept c.settle_again.new.self.kept c.in_ok-again-in-Ok.again) c.scanned_regular_expression.ensures k.1)

pub returns-in_ok-again-in-Err-clause-ok : goal.returns-in_ok-again-in-Err-clause-ok
returns-in_ok-again-in-Err-clause-ok g c =
    let e = ap (λ (s : State). s.text) c.self.view_is in
    let stopped = stopped_for c.args.self.now c.args.token c.self.inside.source_text.now c.start.result c.in-Err.fault e c.start.ensures c.in-Err.ensures in
    let k = c.in_ok-again-in-Err.ensures.ok in
    let new = c.settle_again-in-Err.new.self in
    let t = c.in_ok-again-in-Err.again in
    subst (λ (n : ℕ). (going_on : List Diagnostic) × (faults : List Diagnostic) × GivesAgain regular_expression c.args.self.now new c.args.token t going_on faults × FlagsStand c.args.self.now.text n t going_on) (sym c.end.ensures)
    (stopped_again c.args.self.now new c.args.token t c.in-Err.fault (subst IsUtf8 e c.self.invariant.utf8) c.requires.given.lies.starts_whole c.in_ok-again-in-Err.ensures.same k.0 stopped k.1)
