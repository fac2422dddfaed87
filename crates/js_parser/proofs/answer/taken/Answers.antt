use Rattle.std.proofs.Common.{ℕ, ◌≡◌, List, Option, length, ap, sym, subst, ◌++◌, ◌∙◌}
use Rattle.js_base.specs.declared.token.Token.{Token}
use Rattle.js_grammar.specs.Trees.{Slots, Tree}
use Rattle.js_cursor.specs.js_lex.declared.output.LexerOutput.{LexerOutput}
use Rattle.js_cursor.specs.js_lex.Kept.{LieIn}
use Rattle.js_cursor.specs.js_lex.States.{State}
use Rattle.js_tree.specs.declared.id.NodeId.{NodeId}
use Rattle.js_tree.specs.Nodes.{Node, program_node}
use Rattle.js_tree.specs.Holding.{HoldsAll, IsTree, program_tree, with_program}
use Rattle.js_base.specs.declared.diagnostic.Diagnostic.{Diagnostic}
use Rattle.js_core.specs.laws_shared.States.{NodesLie}
use Rattle.js_cursor.specs.Parsers.{Parser}
use Rattle.js_parser.specs.Broken.{told_in}
use Rattle.js_parser.specs.declared.early.Position.TheVariants.{Anywhere}
use Rattle.js_parser.specs.Leftover.{ToldOf, with_leftover}
use Rattle.js_parser.proofs.Answering.{nodes_lie, taken_answer, taken_kept}
use Rattle.js_parser.proofs.Records.{record_right, told_nothing}
use Rattle.js_record.specs.Checked.{AreHeld}
use Rattle.js_parser.proofs.answer.taken.Goals as goal

-- what is kept, with what is told in place of the faults
told_so : (kept : LexerOutput) {text : List ℕ} {ns : List Node} {found found' told : List Diagnostic} → (x : ToldOf text ns found told) → found ≡ found' → record kept { errors = told } ≡ record kept { errors = with_leftover found' x.early x.covers }
told_so kept x e = ap (λ (ds : List Diagnostic). record kept { errors = ds }) (x.is ∙ ap (λ (ds : List Diagnostic). with_leftover ds x.early x.covers) e)

pub returns-clause-answer : goal.returns-clause-answer
returns-clause-answer c = λ text s o asks h. taken_answer c.new-span.result _ _ c.finish-kept.result c.in_ok-diagnostics.ensures.early c.in_ok-diagnostics.ensures.covers (c.finish-kept.ensures.kept ∙ ap (λ (l : State). l.kept) c.into_parts-parts.ensures.lexer) c.new-span.ensures.start (c.new-span.ensures.end ∙ (c.end.ensures ∙ ap (λ (t : Token). t.span.end) c.cur_token.ensures))
    (subst (λ (ns : List Node). (cs : Slots) → HoldsAll ns 1 (length ns) c.args.items.items cs → IsTree c.in_ok-tree.tree (program_tree c.new-span.result cs)) c.into_parts-parts.ensures.ast c.in_ok-tree.ensures.tree)
    (c.in_ok-tree.ensures.nodes ∙ ap (λ (ns : List Node). with_program (program_node c.new-span.result c.args.items.items) ns) c.into_parts-parts.ensures.ast)
    (subst (λ (w : List ℕ). (t : Tree) → IsTree c.in_ok-tree.tree t → c.in_ok-diagnostics.ensures.early ≡ told_in w Anywhere t.slots) (ap (λ (q : Parser). q.text) c.p.view_is) c.in_ok-diagnostics.ensures.early_are)
    c.in_ok-diagnostics.ensures.covers_are
    (told_so c.finish-kept.result c.in_ok-diagnostics.ensures (λ i. ((c.finish-kept.ensures.kept ∙ ap (λ (l : State). l.kept) c.into_parts-parts.ensures.lexer) i).errors ++ c.into_parts-parts.ensures.errors i))
    (subst (λ (v : State). LieIn v.text c.finish-kept.result) c.into_parts-parts.ensures.lexer c.finish-kept.ensures.lies)
    h

pub returns-clause-kept : goal.returns-clause-kept
returns-clause-kept c = λ text s o asks h. taken_kept _ c.finish-kept.result c.in_ok-diagnostics.ensures.early c.in_ok-diagnostics.ensures.covers
    (told_so c.finish-kept.result c.in_ok-diagnostics.ensures (λ i. ((c.finish-kept.ensures.kept ∙ ap (λ (l : State). l.kept) c.into_parts-parts.ensures.lexer) i).errors ++ c.into_parts-parts.ensures.errors i))
    (c.finish-kept.ensures.kept ∙ ap (λ (l : State). l.kept) c.into_parts-parts.ensures.lexer)
    h

pub told_of-requires : goal.told_of-requires
told_of-requires c =
    subst (λ (w : List ℕ). NodesLie w c.in_ok-tree.tree) (sym (ap (λ (q : Parser). q.text) c.p.view_is))
    (nodes_lie c.new-span.result c.in_ok-tree.tree c.new-span.ensures.start (c.new-span.ensures.end ∙ (c.end.ensures ∙ ap (λ (t : Token). t.span.end) c.cur_token.ensures)) (c.in_ok-tree.ensures.nodes ∙ ap (λ (ns : List Node). with_program (program_node c.new-span.result c.args.items.items) ns) c.into_parts-parts.ensures.ast) c.requires.at c.requires.lie)

pub record_for-requires : goal.record_for-requires
record_for-requires c = λ y.
    let n = c.found_nothing-clean.ensures.0 y in
    subst (λ (w : List ℕ). AreHeld c.into_parts-parts.result.ast w c.as_slice.result.now) (sym (ap (λ (q : Parser). q.text) c.p.view_is))
    (subst (λ (ids : List (Option NodeId)). AreHeld c.into_parts-parts.result.ast c.args.p.text ids) (sym c.as_slice.ensures.value)
    (subst (λ (ns : List Node). AreHeld ns c.args.p.text c.args.items.items) (sym c.into_parts-parts.ensures.ast)
    (c.requires.held (record {
      faults = sym (ap (λ (k : LexerOutput). k.errors) (c.finish-kept.ensures.kept ∙ ap (λ (l : State). l.kept) c.into_parts-parts.ensures.lexer)) ∙ n.0;
      errors = sym c.into_parts-parts.ensures.errors ∙ n.1;
    }))))

pub returns-clause-recorded : goal.returns-clause-recorded
returns-clause-recorded c = λ text s o asks h e t g.
    let told = c.in_ok-diagnostics.ensures in
    let clean = c.found_nothing-clean.ensures.1 (told_nothing c.finish-kept.result.errors c.into_parts-parts.result.errors told.early told.covers (sym told.is ∙ e)) in
    record_right c.new-span.result h.slots
    (subst (λ (ns : List Node). HoldsAll ns 1 (length ns) c.args.items.items h.slots) (sym c.into_parts-parts.ensures.ast) h.holds)
    (λ s cs x. c.in_ok-module_record.ensures clean s cs (subst (λ (ids : List (Option NodeId)). HoldsAll c.into_parts-parts.result.ast 1 (length c.into_parts-parts.result.ast) ids cs) (sym c.as_slice.ensures.value) x))
    c.in_ok-tree.ensures.tree
    g
    (ap (λ (q : Parser). q.text) c.p.view_is ∙ h.is_of.text_is)
