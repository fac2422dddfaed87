use Rattle.std.proofs.Common.{ap, ◌∙◌}
use Rattle.std.proofs.lemmas.Result.{err_from_is_err_and}
use Rattle.js_base.specs.declared.token.Token.{Token}
use Rattle.parse_shared.proofs.laws_shared.Beginning.{hashbang_passed}
use Rattle.js_core.proofs.Readings.{hashbang_stands, hashbang_refused, hashbang_taken}
use Rattle.js_core.proofs.program.parse_behind_hashbang.Goals as goal

pub parse_directives_and_statements-requires-clause-at : goal.parse_directives_and_statements-requires-clause-at
parse_directives_and_statements-requires-clause-at c = let s = c.requires.starts.1 in hashbang_stands s c.requires.here (hashbang_passed s.at c.requires.here c.in_ok-bump_any.ensures) (c.span-span.ensures ∙ ap (λ (t : Token). t.span) c.cur_token.ensures) c.in_ok-comment.ensures

pub returns-in_err-items : goal.returns-in_err-items
returns-in_err-items c =
    let s = c.requires.starts.1 in
    let p = err_from_is_err_and c.from_residual-in_err-items.result c.from_residual-in_err-items.ensures.1 in
    rw (p.1, p.2) (hashbang_refused s c.requires.here (hashbang_passed s.at c.requires.here c.in_ok-bump_any.ensures) (c.span-span.ensures ∙ ap (λ (t : Token). t.span) c.cur_token.ensures) c.in_ok-comment.ensures _ _ c.in_err-items.ensures)

pub returns : goal.returns
returns c = let s = c.requires.starts.1 in hashbang_taken s c.requires.here (hashbang_passed s.at c.requires.here c.in_ok-bump_any.ensures) (c.span-span.ensures ∙ ap (λ (t : Token). t.span) c.cur_token.ensures) c.in_ok-comment.ensures c.in_ok-items.ensures c.in_ok-insert.ensures.items
