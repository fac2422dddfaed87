-- What the nonterminals begin with: the claims hold of each line of the table, whatever its parameters.
use Rattle.std.proofs.Common.{ℕ, ◌≡◌, true, IsTrue, refl}
use Rattle.js_grammar.specs.Trees.{Tree}
use Rattle.js_grammar.specs.Grammar.{Lexemes, here, seen, Derives}
use Rattle.js_grammar.specs.Parsing.{full}
use Rattle.js_grammar.specs.Productions.{Flags, Name, Symbol, at, Program}
use Rattle.js_grammar.specs.Table.{rule, rule_of}
use Rattle.js_grammar.specs.FirstSets.{first}
use Rattle.js_grammar.proofs.Looks.{covers}
use Rattle.js_grammar.proofs.First.{FirstSets, starts}
use Rattle.js_grammar.proofs.First.{begins as begins_by}

-- computed for each nonterminal
first_at : (n : Name) (f : Flags) → covers (starts first (rule_of n f) full) (first (at n f)) ≡ true
unfolding rule_of covers
first_at Program f = refl
first_at n f = refl

pub claims : (s : Symbol) → covers (starts first (rule s) full) (first s) ≡ true
unfolding rule
claims s = first_at s.name s.flags

abbrev pub firsts : FirstSets rule
firsts = record { first = first; claims = claims }

pub begins : (s : Symbol) (t : Tree) {i j : ℕ} {ls rest : Lexemes} → Derives rule s t i ls j rest → IsTrue (seen (first s) (here ls))
begins s t d = begins_by firsts s t d
