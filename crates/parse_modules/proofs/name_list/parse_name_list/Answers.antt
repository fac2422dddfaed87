use Rattle.std.proofs.Common.{ap, ◌∙◌}
use Rattle.js_base.specs.declared.token.Token.{Token}
use Rattle.std.proofs.lemmas.Result.{err_from_is_err_and}
use Rattle.laws_modules.proofs.NameLists.{item_less, list_unopened, loop_end, loop_item, loop_start, loop_stops}
use Rattle.parse_modules.proofs.name_list.parse_name_list.Goals as goal

pub returns-in_err-expect : goal.returns-in_err-expect
returns-in_err-expect g c =
    let p = err_from_is_err_and c.from_residual.result c.from_residual.ensures.1 in
    rw (p.1, p.2) (λ text f a. list_unopened c.args.list _ _ a c.in_err-expect.ensures)

pub items-init : goal.items-init
items-init g c = loop_start c.args.list c.args.children.items (c.span-opening.ensures ∙ ap (λ (t : Token). t.span) c.cur_token.ensures) c.requires c.in_ok-expect.ensures

pub parse_listed_item-requires-clause-at : goal.parse_listed_item-requires-clause-at
parse_listed_item-requires-clause-at g c = c.items.invariant.at

pub parse_listed_item-requires-clause-opened : goal.parse_listed_item-requires-clause-opened
parse_listed_item-requires-clause-opened g c = c.items.invariant.opened

pub returns-in_err-item : goal.returns-in_err-item
returns-in_err-item g c =
    let p = err_from_is_err_and c.from_residual-in_err-item.result c.from_residual-in_err-item.ensures.1 in
    rw (p.1, p.2) (λ text f a. loop_stops _ _ c.items.invariant a c.in_err-item.ensures)

pub items-smaller : goal.items-smaller
items-smaller g c = item_less c.items.invariant c.in_ok-item.ensures

pub items-preserved : goal.items-preserved
items-preserved g c = loop_item c.items.invariant c.in_ok-item.ensures c.in_ok-push.ensures.items

pub expect_closing-requires-clause-at : goal.expect_closing-requires-clause-at
expect_closing-requires-clause-at g c = c.items.invariant.at.at

pub expect_closing-requires-clause-opened : goal.expect_closing-requires-clause-opened
expect_closing-requires-clause-opened g c = c.items.invariant.opened

pub returns : goal.returns
returns g c = loop_end c.items.invariant c.in_ok-expect_closing.ensures.0 c.in_ok-expect_closing.ensures.1
