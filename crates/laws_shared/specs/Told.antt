-- A diagnostic as parse functions tell it.
use Rattle.std.specs.Prelude.{None}
use Rattle.js_base.specs.declared.diagnostic.Diagnostic.{Diagnostic}
use Rattle.js_base.specs.declared.diagnostic.DiagnosticKind.{DiagnosticKind}
use Rattle.js_base.specs.declared.span.Span.{Span}

-- what is told of a place, without related ones
abbrev pub unrelated_at : DiagnosticKind → Span → Diagnostic
unrelated_at k s = record { kind = k; span = s; first = None; second = None }
