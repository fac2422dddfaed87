-- What is told of keys that stand again in a WithClause, worked out.
use Rattle.std.proofs.Common.{◌≡◌, ℕ, List, [], ◌∷◌, Some, None, codes, length, refl}
use Rattle.std.specs.Str.{chars}
use Rattle.js_base.specs.declared.diagnostic.Diagnostic.{Diagnostic}
use Rattle.js_base.specs.declared.diagnostic.DiagnosticKind.TheVariants.{Redeclaration}
use Rattle.js_grammar.specs.Trees.{NodeKind, identifier_name, import_attribute, string_literal, with_clause, no_op, Label, Slots, end, tree}
use Rattle.js_parser.specs.Broken.{told_in}
use Rattle.js_parser.specs.declared.early.Position.TheVariants.{Anywhere}

abbrev from_to : NodeKind → ℕ → ℕ → Label
from_to k from to = record { kind = k; op = no_op; flags = 0; span = record { from = from; to = to } }

-- an attribute whose key is of a kind, from one place to another; its value is an empty string
abbrev attribute : NodeKind → ℕ → ℕ → Slots → Slots
attribute k from to us = tree (from_to import_attribute from to) (tree (from_to k from to) end (tree (from_to string_literal to to) end end)) us

abbrev told : List ℕ → Slots → List Diagnostic
told text us = told_in text Anywhere (tree (from_to with_clause 0 (length text)) us end)

-- a key is told with one before it
abbrev again : ℕ → ℕ → ℕ → ℕ → Diagnostic
again from to start stop = record { kind = Redeclaration; span = record { start = from; end = to }; first = Some (record { start = start; end = stop }); second = None }

-- a name and a string of the same value
name_and_string : told (codes "with{a:'','a':''}") (attribute identifier_name 5 6 (attribute string_literal 10 13 end)) ≡ again 10 13 5 6 ∷ []
unfolding chars
name_and_string = refl

-- each later one with the nearest before
three_times : told (codes "with{a:'',\\u0061:'',a:''}") (attribute identifier_name 5 6 (attribute identifier_name 10 16 (attribute identifier_name 20 21 end))) ≡ again 10 16 5 6 ∷ (again 20 21 10 16 ∷ [])
unfolding chars
three_times = refl

others : told (codes "with{a:'','b':''}") (attribute identifier_name 5 6 (attribute string_literal 10 13 end)) ≡ []
unfolding chars
others = refl

-- surrogates that stand alone are compared as any other code unit
two_surrogates : told (codes "with{'\\ud800':'','\\ud801':''}") (attribute string_literal 5 13 (attribute string_literal 17 25 end)) ≡ []
unfolding chars
two_surrogates = refl

one_surrogate : told (codes "with{'\\ud800':'','\\ud800':''}") (attribute string_literal 5 13 (attribute string_literal 17 25 end)) ≡ again 17 25 5 13 ∷ []
unfolding chars
one_surrogate = refl
