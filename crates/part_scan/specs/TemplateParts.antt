-- Where a template part ends (ECMA-262, 12.9.6).
use Rattle.std.specs.Prelude.{ℕ, ◌≡◌, List, ◌++◌, Option, Some, None, Bool, true, false, length, ◌∷◌, cond}
use Rattle.js_base.specs.declared.kind.Kind.{Kind}
use Rattle.js_base.specs.declared.diagnostic.DiagnosticKind.TheVariants.{UnterminatedTemplate}
use Rattle.part_words.specs.js_grammar.LexicalFaults.{behind}
use Rattle.part_words.specs.js_grammar.Strings.{nothing_left}
use Rattle.part_words.specs.js_grammar.Templates.{closes_template}
use Rattle.part_words.specs.declared.scan.Scanned.{Scanned}
use Rattle.part_words.specs.declared.scan.Fault.{Fault}
use Rattle.part_scan.specs.declared.template.PartEnd.{PartEnd}
use Rattle.part_scan.specs.declared.template.Before.{Before}
use Rattle.part_scan.specs.declared.template.Before.TheVariants.{Other, Backslash, Dollar}
use Rattle.part_scan.specs.declared.template.Step.{Step}
use Rattle.part_scan.specs.declared.template.Step.TheVariants.{On, Ends}
use Rattle.part_words.specs.Places.{Word}

-- the inside of a part, with what ends it, stands at the place
pub record Ended (text : List ℕ) (i : ℕ) (p : PartEnd) : Type 0 where
  pub inside : List ℕ
  pub stands : Word text i p.end inside
  pub closed : closes_template false false inside ≡ Some p.opens_substitution

-- nothing ends a part of which the inside begins at the place
pub record Endless (text : List ℕ) (i : ℕ) : Type 0 where
  pub none : (w rest : List ℕ) → behind text i ≡ w ++ rest → closes_template false false w ≡ None
  pub stands : Word text i (length text) (behind text i)

-- where the part ends of which the inside begins at the place, none where nothing ends it
abbrev pub PartEnds : List ℕ → ℕ → Option PartEnd → Type 0
PartEnds text i (Some p) = Ended text i p
PartEnds text i None = Endless text i

-- what the characters behind a character are to the part
abbrev pub closes_behind : Before → List ℕ → Option Bool
closes_behind Other v = closes_template false false v
closes_behind Backslash v = closes_template true false v
closes_behind Dollar v = closes_template false true v

-- what ends a part ends the characters
abbrev pub ends_here : Bool → List ℕ → Option Bool
ends_here opens v = elim (nothing_left v) [ true ↦ Some opens | false ↦ None ]

-- what a character does to the part, whatever stands behind it
abbrev pub Steps : Before → ℕ → Step → Type 0
Steps b c (On s) = (v : List ℕ) → closes_behind b (c ∷ v) ≡ closes_behind s v
Steps b c (Ends opens) = (v : List ℕ) → closes_behind b (c ∷ v) ≡ ends_here opens v

-- of a part: by which of two kinds, where it ends, and no mark
pub record IsPart (s : Scanned) (p : PartEnd) (closing opening : Kind) : Type 0 where
  pub kind : s.kind ≡ cond p.opens_substitution opening closing
  pub end : s.end ≡ p.end
  pub escaped : s.escaped ≡ false
  pub has_separator : s.has_separator ≡ false

-- the fault of a part that nothing ends
pub record IsUnended (text : List ℕ) (i : ℕ) (f : Fault) : Type 0 where
  pub kind : f.kind ≡ UnterminatedTemplate
  pub start : f.start ≡ i
  pub end : f.end ≡ length text
