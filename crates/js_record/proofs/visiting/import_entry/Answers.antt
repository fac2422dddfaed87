use Rattle.std.proofs.Common.{◌≡◌, sym, ap, ◌∙◌}
use Rattle.js_grammar.specs.ModuleRecords.{imported, namespace_object, imported_default}
use Rattle.js_grammar.specs.Modules.{import_names}
use Rattle.js_tree.specs.Labels.{kind_of}
use Rattle.js_tree.specs.Nodes.{node_at}
use Rattle.part_visits.specs.Names.{import_name_of}
use Rattle.js_record.specs.Shown.{label_at, ids_of, first_shown, second_shown}
use Rattle.js_record.proofs.KindLemmas.{default_import, namespace_import, name_import}
use Rattle.js_record.proofs.visiting.import_entry.Goals as goal
use Rattle.js_record.proofs.visiting.import_entry.Goals.{in-ImportDefaultSpecifier, in-ImportNamespaceSpecifier, in_default+in_ok-local-in_default}

pub first_name-requires : goal.first_name-requires
first_name-requires c = rw c.children-slots.ensures c.requires.2

pub second_name-requires : goal.second_name-requires
second_name-requires c = rw c.children-slots.ensures c.requires.2

pub returns : goal.returns
returns c =
    let ns = c.args.tree.now in
    let text = c.args.source.now in
    let l = label_at ns c.args.id in
    let k = (node_at ns c.args.id).kind in
    let a = first_shown ns text (ids_of ns c.args.id) in
    let b = second_shown ns text (ids_of ns c.args.id) in
    let m = c.match-kind.import_name in
    let first : c.in_ok-first.first ≡ a = c.in_ok-first.ensures ∙ ap (first_shown ns text) c.children-slots.ensures in
    let names : (import_name_of m.0, m.1) ≡ import_names (kind_of k) l a b = elim c.match-kind.branch [
      | in-ImportDefaultSpecifier w ↦ ap (λ v. (import_name_of v.0, v.1)) w.import_name-is ∙ (λ j. (imported_default (w.span.ensures j), first j)) ∙ sym (default_import l a b k (sym w.in-ImportDefaultSpecifier.ensures))
      | in-ImportNamespaceSpecifier w ↦ ap (λ v. (import_name_of v.0, v.1)) w.import_name-is ∙ (λ j. (namespace_object, first j)) ∙ sym (namespace_import l a b k (sym w.in-ImportNamespaceSpecifier.ensures))
      | in_default+in_ok-local-in_default w ↦
          let local : w.in_ok-local-in_default.local ≡ b = w.in_ok-local-in_default.ensures ∙ ap (second_shown ns text) c.children-slots.ensures in
          ap (λ v. (import_name_of v.0, v.1)) w.import_name-is ∙ (λ j. (imported (first j), local j)) ∙ sym (name_import l a b k (λ e. w.in_default.not-ImportDefaultSpecifier (c.kind.ensures ∙ e)) (λ e. w.in_default.not-ImportNamespaceSpecifier (c.kind.ensures ∙ e)))
    ] in
    λ j. record { statement_span = c.args.statement; module_request = c.in_ok-module_request.ensures j; import_name = (names j).0; local_name = (names j).1 }
