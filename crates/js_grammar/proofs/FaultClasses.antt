-- What is wrong with lexemes is of the class Lexical.
use Rattle.std.proofs.Common.{ℕ, ◌≡◌, List, refl}
use Rattle.std.specs.List.{All}
use Rattle.std.proofs.lemmas.List.Elements.{All-weaker}
use Rattle.js_base.specs.declared.diagnostic.Diagnostic.{Diagnostic}
use Rattle.js_base.specs.declared.diagnostic.DiagnosticClass.TheVariants.{Lexical}
use Rattle.js_base.specs.declared.diagnostic.DiagnosticKind.{DiagnosticKind}
use Rattle.js_base.specs.declared.diagnostic.DiagnosticKind.TheVariants as fault
use Rattle.js_base.specs.Diagnostics.{class_of}
use Rattle.js_grammar.specs.Found.{IsFault, AreOf}
use Rattle.js_grammar.specs.LexicalFaults.{FaultyBehind}
use Rattle.js_grammar.specs.Settings.{Goal}

-- what may be wrong with a lexeme is of the lexical class
pub lexical_by : {source : Goal} {text : List ℕ} {s from to : ℕ} (k : DiagnosticKind) → FaultyBehind k source text s from to → class_of k ≡ Lexical
lexical_by fault.InvalidCharacter f = refl
lexical_by fault.BinaryFile f = refl
lexical_by fault.UnterminatedString f = refl
lexical_by fault.UnterminatedTemplate f = refl
lexical_by fault.UnterminatedRegexp f = refl
lexical_by fault.UnterminatedComment f = refl
lexical_by fault.InvalidEscape f = refl
lexical_by fault.InvalidNumber f = refl
lexical_by fault.RegExpFlag f = refl
lexical_by fault.HtmlCommentInModule f = refl
lexical_by _ f = absurd f.condition.2

pub faults_lexical : {goal : Goal} {text : List ℕ} {found : List Diagnostic} (a : AreOf goal text found) → All (λ d. class_of d.kind ≡ Lexical) a.faults
faults_lexical {goal} {text} a = All-weaker (IsFault goal text) (λ d. class_of d.kind ≡ Lexical) (λ d f. lexical_by d.kind f.faulty) a.faults a.faulty
