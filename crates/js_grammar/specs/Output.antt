-- What the program prints beside trees, records and diagnostics: tokens, and a summary of a generated text; and that text. Every line ends with LF.
use Rattle.std.specs.Prelude.{ℕ, zero, suc, ◌%◌, List, [], ◌++◌, codes}
use Rattle.std.specs.Fmt.{decimal}
use Rattle.std.specs.List.{flat_map}
use Rattle.js_base.specs.declared.token.Token.{Token}
use Rattle.js_base.specs.Texts.{name_of}
use Rattle.js_grammar.specs.Lines.{span_text}

-- a token's span and the name of its kind
abbrev pub token_line : Token → List ℕ
token_line t = span_text t.span ++ (codes " " ++ (name_of t.kind ++ codes "\n"))

abbrev pub token_text : List Token → List ℕ
token_text ts = flat_map token_line ts

-- what is generated: the line of a number, one of four by its rest
abbrev pub generated_by : ℕ → ℕ → List ℕ
generated_by zero i = codes "x = x + " ++ (decimal i ++ codes " * (y - 1)\n")
generated_by (suc zero) i = codes "g = (a, b = " ++ (decimal i ++ codes ") => a ** b\n")
generated_by (suc (suc zero)) i = codes "lab: u++\n"
generated_by _ i = codes "[p, q] = f(" ++ (decimal i ++ codes ")\n")

abbrev pub generated_line : ℕ → List ℕ
generated_line i = generated_by (i % 4) i

-- the lines of the numbers below n
abbrev pub gen_text : ℕ → List ℕ
gen_text zero = []
gen_text (suc n) = gen_text n ++ generated_line n

-- the numbers of bytes, statements, nodes and diagnostics
abbrev pub summary_text : ℕ → ℕ → ℕ → ℕ → List ℕ
summary_text bytes statements nodes diagnostics = codes "bytes " ++ (decimal bytes ++ (codes " statements " ++ (decimal statements ++ (codes " nodes " ++ (decimal nodes ++ (codes " diagnostics " ++ (decimal diagnostics ++ codes "\n")))))))
