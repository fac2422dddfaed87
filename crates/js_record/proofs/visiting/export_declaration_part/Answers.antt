use Rattle.std.proofs.Common.{ap, ◌∙◌}
use Rattle.std.proofs.lemmas.Result.{IfOk-weaker}
use Rattle.js_grammar.specs.Modules.{of_export_declaration}
use Rattle.js_record.specs.Shown.{first_of}
use Rattle.js_record.proofs.TreeLemmas.{child_read, whole_contained, declaration_is, no_declaration}
use Rattle.js_record.proofs.visiting.export_declaration_part.Goals as goal

pub bound_names-requires : goal.bound_names-requires
bound_names-requires c = child_read c.args.tree.now c.args.source.now c.args.id c.in-Some.child c.requires.read (c.in-Some.ensures ∙ ap first_of c.children.ensures)

pub span-requires-in-Some : goal.span-requires-in-Some
span-requires-in-Some c = whole_contained c.args.tree.now c.args.source.now c.in-Some.child (child_read c.args.tree.now c.args.source.now c.args.id c.in-Some.child c.requires.read (c.in-Some.ensures ∙ ap first_of c.children.ensures))

pub returns-in_ok-names-in-Some : goal.returns-in_ok-names-in-Some
returns-in_ok-names-in-Some c =
    let names = c.in_ok-names-in-Some.names.items in
    IfOk-weaker c.of_export_declaration.result _ _
    (λ p q l cs rs s. q ∙ (λ j. of_export_declaration (c.span.ensures j) (c.span-in-Some.ensures j) names)
    ∙ declaration_is c.args.tree.now c.args.source.now c.args.id c.in-Some.child (c.in-Some.ensures ∙ ap first_of c.children.ensures) names c.in_ok-names-in-Some.ensures l cs rs s)
    c.of_export_declaration.ensures

pub returns-in-None : goal.returns-in-None
returns-in-None c l cs rs s = c.syntax.ensures ∙ no_declaration c.args.tree.now c.args.source.now c.args.id (c.in-None.ensures ∙ ap first_of c.children.ensures) l cs rs s
