use Rattle.std.proofs.Common.{subst, sym, ap, arith, ◌∙◌}
use Rattle.js_grammar.specs.Productions.{Flags, Name, at}
use Rattle.parse_shared.specs.laws_shared.Statements.{TakesStatement}
use Rattle.parse_control.specs.laws_statements.StatementLists.{item_of}
use Rattle.parse_control.specs.laws_statements.declared.forms.StatementList.{StatementList}
use Rattle.parse_control.proofs.laws_statements.StatementLists.{listed}
use Rattle.parse_statements.proofs.statement_list.parse_item.Goals as goal

pub returns-in-Text : goal.returns-in-Text
returns-in-Text g c = subst (λ (l : StatementList). TakesStatement (at (item_of l)) c.args.p.now c.item.new.p c.item.result) (sym c.in-Text.is) c.item.ensures

pub list_item-requires : goal.list_item-requires
list_item-requires g c = c.requires.nests _ _ (c.requires.at, c.requires.allows_in) (omega arith)

pub returns-in_default : goal.returns-in_default
returns-in_default g c = subst (λ (n : Name). TakesStatement (at n) c.args.p.now c.list_item.new.p c.list_item.result) (sym (listed c.args.list c.in_default.not-Text)) c.list_item.ensures
