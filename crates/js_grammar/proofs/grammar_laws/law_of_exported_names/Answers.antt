use Rattle.js_grammar.proofs.ExportedNames.{differ_by_record, record_by_differ}
use Rattle.js_grammar.proofs.grammar_laws.law_of_exported_names.Goals as goal

pub returns : goal.returns
returns c = λ text t. (record_by_differ text t, differ_by_record text t)
