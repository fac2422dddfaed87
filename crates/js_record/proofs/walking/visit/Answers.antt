use Rattle.std.proofs.Common.{◌++◌, ◌∷◌, [], ap, sym, ◌∙◌}
use Rattle.std.proofs.lemmas.Result.{on_ok_weaker}
use Rattle.js_base.specs.declared.span.Span.{Span}
use Rattle.js_grammar.specs.ModuleRecords.{Part}
use Rattle.js_grammar.specs.Modules.{of_import_meta}
use Rattle.js_tree.specs.declared.kind.NodeKind.TheVariants as node
use Rattle.js_record.proofs.Finding.{part_there, span_there}
use Rattle.js_record.proofs.walking.visit.Goals as goal

pub returns-in-ImportDeclaration : goal.returns-in-ImportDeclaration
returns-in-ImportDeclaration c = on_ok_weaker c.visit_import_declaration.result (λ e a l cs rs s. e l cs rs s ∙ ap (λ (p : Part). c.args.builder.now ++ p ∷ []) (part_there c.args.source.now node.ImportDeclaration (sym c.in-ImportDeclaration.is ∙ c.kind.ensures) s)) c.visit_import_declaration.ensures.ok

pub returns-in-ExportAllDeclaration : goal.returns-in-ExportAllDeclaration
returns-in-ExportAllDeclaration c = on_ok_weaker c.visit_export_all_declaration.result (λ e a l cs rs s. e l cs rs s ∙ ap (λ (p : Part). c.args.builder.now ++ p ∷ []) (part_there c.args.source.now node.ExportAllDeclaration (sym c.in-ExportAllDeclaration.is ∙ c.kind.ensures) s)) c.visit_export_all_declaration.ensures.ok

pub returns-in-ExportFromDeclaration : goal.returns-in-ExportFromDeclaration
returns-in-ExportFromDeclaration c = on_ok_weaker c.visit_export_from_declaration.result (λ e a l cs rs s. e l cs rs s ∙ ap (λ (p : Part). c.args.builder.now ++ p ∷ []) (part_there c.args.source.now node.ExportFromDeclaration (sym c.in-ExportFromDeclaration.is ∙ c.kind.ensures) s)) c.visit_export_from_declaration.ensures.ok

pub returns-in-ExportNamedDeclaration : goal.returns-in-ExportNamedDeclaration
returns-in-ExportNamedDeclaration c = on_ok_weaker c.visit_export_named_declaration.result (λ e a l cs rs s. e l cs rs s ∙ ap (λ (p : Part). c.args.builder.now ++ p ∷ []) (part_there c.args.source.now node.ExportNamedDeclaration (sym c.in-ExportNamedDeclaration.is ∙ c.kind.ensures) s)) c.visit_export_named_declaration.ensures.ok

pub returns-in-ExportDeclaration : goal.returns-in-ExportDeclaration
returns-in-ExportDeclaration c = on_ok_weaker c.visit_export_declaration.result (λ e a l cs rs s. e l cs rs s ∙ ap (λ (p : Part). c.args.builder.now ++ p ∷ []) (part_there c.args.source.now node.ExportDeclaration (sym c.in-ExportDeclaration.is ∙ c.kind.ensures) s)) c.visit_export_declaration.ensures.ok

pub returns-in-ExportDefaultDeclaration : goal.returns-in-ExportDefaultDeclaration
returns-in-ExportDefaultDeclaration c = on_ok_weaker c.visit_default.result (λ e a l cs rs s. e l cs rs s ∙ ap (λ (p : Part). c.args.builder.now ++ p ∷ []) (part_there c.args.source.now node.ExportDefaultDeclaration (sym c.in-ExportDefaultDeclaration.is ∙ c.kind.ensures) s)) c.visit_default.ensures

pub returns-in-ImportExpression : goal.returns-in-ImportExpression
returns-in-ImportExpression c = on_ok_weaker c.visit_import_expression.result (λ e a l cs rs s. e l cs rs s ∙ ap (λ (p : Part). c.args.builder.now ++ p ∷ []) (part_there c.args.source.now node.ImportExpression (sym c.in-ImportExpression.is ∙ c.kind.ensures) s)) c.visit_import_expression.ensures.ok

pub returns-in-ImportMeta : goal.returns-in-ImportMeta
returns-in-ImportMeta c = on_ok_weaker c.visit_import_meta.result (λ e a l cs rs s.
    e ∙ ap (λ (v : Span). c.args.builder.now ++ of_import_meta v ∷ []) (c.span.ensures ∙ sym (span_there s))
    ∙ ap (λ (p : Part). c.args.builder.now ++ p ∷ []) (part_there c.args.source.now node.ImportMeta (sym c.in-ImportMeta.is ∙ c.kind.ensures) s)) c.visit_import_meta.ensures.ok
