use Rattle.std.proofs.Common.{◌++◌, List, append-nil, ap, sym, ◌∙◌}
use Rattle.std.proofs.lemmas.Result.{on_ok_weaker}
use Rattle.js_grammar.specs.Modules.{found_in, in_order_of_ends, part_of}
use Rattle.js_grammar.specs.Trees.{Tree}
use Rattle.std.specs.Prelude.{map}
use Rattle.js_record.proofs.Finding.{found_read, none_in}
use Rattle.js_record.proofs.walking.visit_all.Goals as goal

pub visit_each-requires : goal.visit_each-requires
visit_each-requires c = found_read c.args.source.now c.in_ok-found.found.items c.requires.slots (c.in_ok-found.ensures c.requires.slots c.requires.holds.numbers c.requires.holds.stands) c.requires.read

pub returns-then-not-has_any : goal.returns-then-not-has_any
returns-then-not-has_any c = λ cs rs s. sym (ap (λ (ts : List Tree). c.args.builder.now ++ map (part_of c.args.source.now) (in_order_of_ends ts)) (none_in (c.has_any.ensures c.if-not-has_any.true) s) ∙ append-nil c.args.builder.now)

pub returns : goal.returns
returns c = on_ok_weaker c.visit_each.result (λ e cs rs s. e (in_order_of_ends (found_in cs)) (c.in_ok-found.ensures cs rs s)) c.visit_each.ensures
