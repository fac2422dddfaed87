-- What is put out for a text, passed on.
pub use Rattle.js_grammar.specs.Outputs.{Valid, AcceptsText, RefusesText, RefusesByMarks, Gives}
pub use Rattle.js_grammar.specs.CoreOutputs.{WritesReading, WritesDiagnostics, AsksForTree}
