use Rattle.std.proofs.Common.{ap, arith, subst, ◌∙◌, List, Option}
use Rattle.std.proofs.lemmas.Result.{err_from_is_err_and}
use Rattle.js_base.specs.KindSets.{identifier_name_kinds}
use Rattle.js_base.specs.Kinds.{one_of_kinds}
use Rattle.laws_modules.specs.laws_primary.js_tree.declared.id.NodeId.{NodeId}
use Rattle.laws_modules.specs.laws_primary.js_tree.declared.op.ClauseWord.{ClauseWord}
use Rattle.laws_modules.specs.laws_primary.js_tree.declared.op.ClauseWord.TheVariants as clause
use Rattle.laws_modules.specs.laws_primary.js_cursor.Parsers.{Parser}
use Rattle.laws_modules.specs.laws_primary.laws_shared.Moves.{IsWholeHere}
use Rattle.laws_modules.proofs.laws_primary.laws_shared.Moving.{standing}
use Rattle.laws_modules.proofs.Attributes.{clause_answers, clause_start, clause_stops}
use Rattle.laws_modules.proofs.laws_primary.Members.{word_whole}
use Rattle.parse_modules.specs.Prelude.{Attributes, BeginsClause, ListTaken, Standing}
use Rattle.parse_modules.proofs.attributes.parse_with_clause.Goals as goal

-- the word is whole
clause_whole : {p : Parser} (w : ClauseWord) → Standing p → BeginsClause w p → IsWholeHere p
clause_whole clause.With a b = word_whole a (ap (one_of_kinds identifier_name_kinds) b.0)
clause_whole clause.Assert a b = word_whole a (ap (one_of_kinds identifier_name_kinds) b.0.0)

pub advance-requires-clause-whole : goal.advance-requires-clause-whole
advance-requires-clause-whole g c = clause_whole c.args.word c.requires.at c.requires.begins

pub parse_name_list-requires : goal.parse_name_list-requires
parse_name_list-requires g c = standing (c.in_ok-advance.ensures _ _ c.requires.at).at

pub returns-in_err-entries : goal.returns-in_err-entries
returns-in_err-entries g c =
    let z = err_from_is_err_and c.from_residual-in_err-entries.result c.from_residual-in_err-entries.ensures.1 in
    rw (z.1, z.2) (λ text f a. let m = c.in_ok-advance.ensures text f a in clause_stops c.args.word a c.requires.begins m _ _ (c.in_err-entries.ensures text f m.at))

pub end_span-span-requires : goal.end_span-span-requires
end_span-span-requires g c =
    let y = subst (λ (is : List (Option NodeId)). ListTaken Attributes is c.in_ok-entries.entries.items c.advance.new.p c.parse_name_list.new.p) c.new-none.ensures.items c.in_ok-entries.ensures in
    let i = clause_start c.args.word c.requires.at c.requires.begins (c.in_ok-advance.ensures _ _ c.requires.at) y in
    let j = c.cur_start-start.ensures in
    omega arith

pub returns : goal.returns
returns g c =
    let y = subst (λ (is : List (Option NodeId)). ListTaken Attributes is c.in_ok-entries.entries.items c.advance.new.p c.parse_name_list.new.p) c.new-none.ensures.items c.in_ok-entries.ensures in
    λ text f a. clause_answers c.args.word a c.requires.begins (c.in_ok-advance.ensures text f a) y c.end_span-span.result (c.end_span-span.ensures.start ∙ c.cur_start-start.ensures) c.end_span-span.ensures.end c.in_ok-node.ensures
