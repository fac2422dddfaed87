-- A core text, and texts that are none.
use Rattle.std.proofs.Common.{◌≡◌, true, false, [], ◌∷◌, ◌++◌, refl, arith}
use Rattle.std.specs.Prelude.{codes}
use Rattle.std.specs.Str.{chars}
use Rattle.js_base.specs.Texts.{words}
use Rattle.js_base.specs.Keywords.{keyword_of}
use Rattle.js_base.specs.declared.kind.Kind.TheVariants.{Ident, Plus, Eof}
use Rattle.js_grammar.specs.Grammar.{last, next}
use Rattle.js_grammar.specs.CoreTexts.{CoreSource, are_core, core_punctuators}
use Rattle.js_grammar.specs.CorePieces.{piece_lexemes}

-- `a >>= [1, 'b']`, with a line end behind
core : CoreSource (codes "a >>= [1, 'b']" ++ 10 ∷ [])
unfolding chars words core_punctuators keyword_of
core = record {
  short = omega arith;
  pieces = codes "a" ∷ codes " " ∷ codes ">>=" ∷ codes " " ∷ codes "[" ∷ codes "1" ∷ codes "," ∷ codes " " ∷ codes "'b'" ∷ codes "]" ∷ (10 ∷ []) ∷ [];
  splits = refl;
  core = refl;
  lacks_open = refl;
  lacks_close = refl;
}

-- `a`, a line feed, `+`: a name, an operator on a new line, and the end
lexemes : piece_lexemes (codes "a" ∷ (10 ∷ []) ∷ codes "+" ∷ [])
    ≡ next (record { kind = Ident; from = 0; to = 1; newline = false; escaped = false; units = codes "a" }) (next (record { kind = Plus; from = 2; to = 3; newline = true; escaped = false; units = [] })
    (last (record { kind = Eof; from = 3; to = 3; newline = false; escaped = false; units = [] })))
unfolding words core_punctuators keyword_of
lexemes = refl

-- `iff` is a core name, and `if` no core word, nor two names
longer_name : are_core false (codes "iff" ∷ []) ≡ true
unfolding words core_punctuators keyword_of
longer_name = refl

keyword : are_core false (codes "if" ∷ []) ≡ false
unfolding words core_punctuators keyword_of
keyword = refl

two_names : are_core false (codes "i" ∷ codes "f" ∷ []) ≡ false
unfolding words core_punctuators keyword_of
two_names = refl

-- a number beside a dot, and one beside a name
behind_dots : are_core false (codes "..." ∷ codes "5" ∷ []) ≡ false
unfolding words core_punctuators keyword_of
behind_dots = refl

beside_name : are_core false (codes "5" ∷ codes "a" ∷ []) ≡ false
unfolding words core_punctuators keyword_of
beside_name = refl

beside_operator : are_core false (codes "5" ∷ codes "+" ∷ codes "5" ∷ []) ≡ true
unfolding words core_punctuators keyword_of
beside_operator = refl
