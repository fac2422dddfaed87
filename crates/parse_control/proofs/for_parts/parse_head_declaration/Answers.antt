use Rattle.std.proofs.Common.{arith, sym, ◌∙◌}
use Rattle.std.proofs.lemmas.Bool.{false≢true}
use Rattle.std.proofs.lemmas.Result.{err_from_is_err_and}
use Rattle.parse_shared.proofs.laws_shared.Moving.{standing}
use Rattle.parse_shared.proofs.laws_shared.Nesting.{later_room, nests_later}
use Rattle.laws_statements.proofs.DeclarationStatements.{declaration_whole}
use Rattle.laws_statements.proofs.ForDeclarations.{fault_marked, first_of_several, head_stops, list_reached, one_first, one_reached, others_stop, several_first, word_stands}
use Rattle.laws_statements.proofs.ForParts.{without_in}
use Rattle.parse_control.proofs.for_parts.parse_head_declaration.Goals as goal

pub advance-requires-clause-whole : goal.advance-requires-clause-whole
advance-requires-clause-whole g c = declaration_whole c.args.kind c.requires.at (word_stands c.args.kind c.args.p.now c.requires.begins)

pub parse_head_declarator-requires-clause-at : goal.parse_head_declarator-requires-clause-at
parse_head_declarator-requires-clause-at g c = standing (c.in_ok-advance.ensures _ _ c.requires.at).at

pub parse_head_declarator-requires-clause-nests : goal.parse_head_declarator-requires-clause-nests
parse_head_declarator-requires-clause-nests g c =
    let m = c.in_ok-advance.ensures _ _ c.requires.at in
    nests_later c.requires.nests (later_room (let i = m.further in let j = c.requires.at.behind in omega arith) m.same)

pub returns-in_err-first : goal.returns-in_err-first
returns-in_err-first g c =
    let p = err_from_is_err_and c.from_residual-in_err-first.result c.from_residual-in_err-first.ensures.1 in
    rw (p.1, p.2) (λ w text f a. let m = c.in_ok-advance.ensures text f a in head_stops w c.args.kind a c.requires.begins (without_in a c.requires.no_in) m _ _ (c.in_err-first.ensures text f m.at))

pub end_span-span-requires : goal.end_span-span-requires
end_span-span-requires g c =
    let m = c.in_ok-advance.ensures _ _ c.requires.at in
    let x = one_reached c.args.kind c.requires.at c.requires.begins c.requires.no_in m c.in_ok-first.first.form _ c.in_ok-first.first.node (c.in_ok-first.ensures _ _ m.at) in
    let i = x.further in let s = c.cur_start-start.ensures in omega arith

pub tell_head_fault-requires-clause-at : goal.tell_head_fault-requires-clause-at
tell_head_fault-requires-clause-at g c =
    let m = c.in_ok-advance.ensures _ _ c.requires.at in
    (one_reached c.args.kind c.requires.at c.requires.begins c.requires.no_in m c.in_ok-first.first.form _ c.in_ok-first.first.node (c.in_ok-first.ensures _ _ m.at)).at.at

pub tell_head_fault-requires-clause-mark : goal.tell_head_fault-requires-clause-mark
tell_head_fault-requires-clause-mark g c =
    let m = c.in_ok-advance.ensures _ _ c.requires.at in
    let x = one_reached c.args.kind c.requires.at c.requires.begins c.requires.no_in m c.in_ok-first.first.form _ c.in_ok-first.first.node (c.in_ok-first.ensures _ _ m.at) in
    fault_marked c.args.kind c.requires.at c.requires.begins c.requires.no_in m x _ (c.end_span-span.ensures.start ∙ c.cur_start-start.ensures) c.end_span-span.ensures.end

pub returns-then-not-at : goal.returns-then-not-at
returns-then-not-at g c = λ w text f a.
    let m = c.in_ok-advance.ensures text f a in
    one_first w c.args.kind a c.requires.begins (without_in a c.requires.no_in) m _ (λ k. false≢true (sym c.if-not-at.true ∙ c.at.ensures.1 k)) _ (c.end_span-span.ensures.start ∙ c.cur_start-start.ensures) c.end_span-span.ensures.end c.in_ok-node.ensures c.in_ok-first.first.form (c.in_ok-first.ensures text f m.at) c.in_ok-tell_head_fault.ensures

pub parse_declarators_behind-requires-clause-at : goal.parse_declarators_behind-requires-clause-at
parse_declarators_behind-requires-clause-at g c =
    let m = c.in_ok-advance.ensures _ _ c.requires.at in
    standing (one_reached c.args.kind c.requires.at c.requires.begins c.requires.no_in m c.in_ok-first.first.form _ c.in_ok-first.first.node (c.in_ok-first.ensures _ _ m.at)).at

pub parse_declarators_behind-requires-clause-nests : goal.parse_declarators_behind-requires-clause-nests
parse_declarators_behind-requires-clause-nests g c =
    let m = c.in_ok-advance.ensures _ _ c.requires.at in
    let x = one_reached c.args.kind c.requires.at c.requires.begins c.requires.no_in m c.in_ok-first.first.form _ c.in_ok-first.first.node (c.in_ok-first.ensures _ _ m.at) in
    nests_later c.requires.nests (later_room (let i = x.further in let j = c.requires.at.behind in omega arith) x.same)

pub returns-in_err-declarators : goal.returns-in_err-declarators
returns-in_err-declarators g c =
    let p = err_from_is_err_and c.from_residual-in_err-declarators.result c.from_residual-in_err-declarators.ensures.1 in
    rw (p.1, p.2) (λ w text f a. let m = c.in_ok-advance.ensures text f a in others_stop w c.args.kind a c.requires.begins (without_in a c.requires.no_in) m _ (c.at.ensures.0 c.if-not-at.false) c.in_ok-first.first.node c.in_ok-first.first.form (c.in_ok-first.ensures text f m.at) _ _ c.in_err-declarators.ensures)

pub end_span-span-requires-2 : goal.end_span-span-requires-2
end_span-span-requires-2 g c =
    let m = c.in_ok-advance.ensures _ _ c.requires.at in
    let y = first_of_several c.args.kind c.requires.at c.requires.begins c.requires.no_in m _ (c.at.ensures.0 c.if-not-at.false) c.in_ok-first.first.node c.in_ok-first.first.form (c.in_ok-first.ensures _ _ m.at) c.in_ok-declarators.ensures in
    let i = (list_reached c.args.kind c.requires.at c.requires.begins c.requires.no_in m y).further in let s = c.cur_start-start.ensures in omega arith

pub tell_head_fault-requires-2-clause-at : goal.tell_head_fault-requires-2-clause-at
tell_head_fault-requires-2-clause-at g c =
    let m = c.in_ok-advance.ensures _ _ c.requires.at in
    (first_of_several c.args.kind c.requires.at c.requires.begins c.requires.no_in m _ (c.at.ensures.0 c.if-not-at.false) c.in_ok-first.first.node c.in_ok-first.first.form (c.in_ok-first.ensures _ _ m.at) c.in_ok-declarators.ensures).at.at

pub tell_head_fault-requires-2-clause-mark : goal.tell_head_fault-requires-2-clause-mark
tell_head_fault-requires-2-clause-mark g c =
    let m = c.in_ok-advance.ensures _ _ c.requires.at in
    let y = first_of_several c.args.kind c.requires.at c.requires.begins c.requires.no_in m _ (c.at.ensures.0 c.if-not-at.false) c.in_ok-first.first.node c.in_ok-first.first.form (c.in_ok-first.ensures _ _ m.at) c.in_ok-declarators.ensures in
    fault_marked c.args.kind c.requires.at c.requires.begins c.requires.no_in m (list_reached c.args.kind c.requires.at c.requires.begins c.requires.no_in m y) _ (c.end_span-span-2.ensures.start ∙ c.cur_start-start.ensures) c.end_span-span-2.ensures.end

pub returns : goal.returns
returns g c = λ w text f a.
    let m = c.in_ok-advance.ensures text f a in
    let y = first_of_several c.args.kind a c.requires.begins (without_in a c.requires.no_in) m _ (c.at.ensures.0 c.if-not-at.false) c.in_ok-first.first.node c.in_ok-first.first.form (c.in_ok-first.ensures text f m.at) c.in_ok-declarators.ensures in
    several_first w c.args.kind a c.requires.begins (without_in a c.requires.no_in) m _ (c.at.ensures.0 c.if-not-at.false) c.in_ok-first.first.node c.in_ok-first.first.form (c.in_ok-first.ensures text f m.at) y _ (c.end_span-span-2.ensures.start ∙ c.cur_start-start.ensures) c.end_span-span-2.ensures.end c.in_ok-tell_head_fault-2.ensures c.in_ok-node-2.ensures
