-- Small texts and their lexemes.
use Rattle.std.proofs.Common.{◌≡◌, ℕ, Bool, true, false, List, [], ◌∷◌, ◌++◌, Some, refl, subst, arith, inl, inr}
use Rattle.std.specs.Prelude.{codes}
use Rattle.std.specs.Str.{chars}
use Rattle.js_base.specs.declared.kind.Kind.{Kind}
use Rattle.js_base.specs.declared.kind.Kind.TheVariants.{Await, Colon, Decimal, DecimalBigInt, Eof, Float, HashbangComment, Hex, Ident, Octal, Plus, PositiveExponential, Question, RCurly, RegExp, ShiftRight3Eq, Slash, Str, TemplateHead, TemplateTail}
use Rattle.js_base.specs.Texts.{words, punctuators}
use Rattle.js_base.specs.Keywords.{keyword_of}
use Rattle.js_grammar.specs.Grammar.{Lexeme, Lexemes, last, next, here}
use Rattle.js_base.specs.part_text.Characters.{one_of}
use Rattle.js_grammar.specs.Longest.{longest, none_longer}
use Rattle.js_grammar.specs.Lexed.{Lexes}
use Rattle.js_grammar.specs.Lexemes.{LexicalGoal, division, regular_expression, template_tail, hashbang, lexemes_in, kind_in}
use Rattle.js_grammar.specs.Lexed.{NextLexeme, Lexed, ends_once, Passing, in_script, in_module, comments_pass, flags_right, Stands}
use Rattle.js_grammar.specs.Settings.{script, module_goal}
use Rattle.js_grammar.proofs.Alike.{stands-same}
use Rattle.js_grammar.proofs.Choices.{choice}
use Rattle.js_grammar.proofs.Standing.{stand, number_goes_on, none_stands}
use Rattle.js_grammar.proofs.LongestLemmas.{both-left, longest-same}

abbrev placed : Kind → ℕ → ℕ → List ℕ → Lexeme
placed k a b u = record { kind = k; from = a; to = b; newline = false; escaped = false; units = u }

abbrev marked : Kind → ℕ → ℕ → Bool → Bool → List ℕ → Lexeme
marked k a b l e u = record { kind = k; from = a; to = b; newline = l; escaped = e; units = u }

-- `a?.5:b`: a dot before a digit begins a number
abbrev conditional : List ℕ
conditional = codes "a?.5:b"

conditional_lexed : Lexed script conditional (next (placed Ident 0 1 (codes "a")) (next (placed Question 1 2 []) (next (placed Float 2 4 []) (next (placed Colon 4 5 []) (next (placed Ident 5 6 (codes "b")) (last (placed Eof 6 6 [])))))))
unfolding words punctuators chars keyword_of
conditional_lexed = record {
  lexes = (
    stand in_script conditional 0 [] division (codes "a") (codes "?.5:b") Ident (omega arith) refl refl refl,
    (
      stand in_script conditional 1 [] division (codes "?") (codes ".5:b") Question (omega arith) refl refl refl,
      (
        stand in_script conditional 2 [] division (codes ".5") (codes ":b") Float (omega arith) refl refl refl,
        (
          stand in_script conditional 4 [] division (codes ":") (codes "b") Colon (omega arith) refl refl refl,
          (
            stand in_script conditional 5 [] division (codes "b") [] Ident (omega arith) refl refl refl,
            stand in_script conditional 6 [] division [] [] Eof (omega arith) refl refl refl,
          ),
        ),
      ),
    ),
  );
  ends = refl;
}

-- `a<!--b`: in a script, a name and a comment
abbrev html_like : List ℕ
html_like = codes "a<!--b"

html_like_lexed : Lexed script html_like (next (placed Ident 0 1 (codes "a")) (last (placed Eof 6 6 [])))
unfolding words punctuators chars keyword_of
html_like_lexed = record {
  lexes = (
    stand in_script html_like 0 [] division (codes "a") (codes "<!--b") Ident (omega arith) refl refl refl,
    stand in_script html_like 1 ((codes "<!--b") ∷ []) division [] [] Eof (omega arith) refl refl refl,
  );
  ends = refl;
}

-- the same in a module: only the name can be first
html_like_first : (y : Lexeme) → NextLexeme in_module html_like 0 y → y ≡ placed Ident 0 1 (codes "a")
unfolding words punctuators chars keyword_of
html_like_first y h =
    let st : Stands html_like 0 [] [] html_like = record { within = omega arith; splits = refl; trivia = refl } in
    elim (choice in_module in_module html_like 0 y (placed Ident 0 1 (codes "a")) h (stand in_module html_like 0 [] division (codes "a") (codes "<!--b") Ident (omega arith) refl refl refl)) [
      | inl e ↦ e
      | inr b ↦ absurd (let same = (stands-same b.stands st).back in let f : b.first ≡ 97 = cc in let i = subst (λ (c : ℕ). one_of (47 ∷ 125 ∷ []) c ≡ true) f b.is in cc)
    ]

-- behind the name nothing can be next in a module, since a comment stands there that is HTML-like
html_like_next : (y : Lexeme) → NextLexeme in_module html_like 1 y → ⊥
unfolding words punctuators chars keyword_of
html_like_next y h =
    let st : Stands html_like 1 ((codes "<!--b") ∷ []) [] [] = record { within = omega arith; splits = refl; trivia = refl } in
    let same = (stands-same h.stands st).pieces in
    let c = subst (λ (ps : List (List ℕ)). comments_pass in_module ps ≡ true) same h.comments in
    cc

-- `a<!--b` has no list of lexemes in a module
html_like_not_in_module : (ls : Lexemes) → Lexed module_goal html_like ls → ⊥
html_like_not_in_module (last x) h = let e = html_like_first x h.lexes in let i = subst (λ (y : Lexeme). ends_once (last y) ≡ true) e h.ends in cc
html_like_not_in_module (next x ls) h = let e = html_like_first x h.lexes.0 in go ls (subst (λ (y : Lexeme). Lexes (NextLexeme in_module html_like) y.to ls) e h.lexes.1)
  where
    go : (ls : Lexemes) → Lexes (NextLexeme in_module html_like) 1 ls → ⊥
    go (last y) k = html_like_next y k
    go (next y ms) k = html_like_next y k.0

-- `\u{61}wait`: the kind of a word is that of its decoded text
abbrev escaped_await : List ℕ
escaped_await = codes "\\u{61}wait"

escaped_await_lexed : Lexed script escaped_await (next (marked Await 0 10 false true (codes "await")) (last (placed Eof 10 10 [])))
unfolding words punctuators chars keyword_of
escaped_await_lexed = record {
  lexes = (
    stand in_script escaped_await 0 [] division (codes "\\u{61}wait") [] Await (omega arith) refl refl refl,
    stand in_script escaped_await 10 [] division [] [] Eof (omega arith) refl refl refl,
  );
  ends = refl;
}

-- `'\uD83D\u{DE00}'`: two code units
abbrev surrogates : List ℕ
surrogates = codes "'\\uD83D\\u{DE00}'"

surrogates_lexed : Lexed script surrogates (next (placed Str 0 16 (55357 ∷ 56832 ∷ [])) (last (placed Eof 16 16 [])))
unfolding words punctuators chars keyword_of
surrogates_lexed = record {
  lexes = (
    stand in_script surrogates 0 [] division (codes "'\\uD83D\\u{DE00}'") [] Str (omega arith) refl refl refl,
    stand in_script surrogates 16 [] division [] [] Eof (omega arith) refl refl refl,
  );
  ends = refl;
}

-- `/[/]a/gi`: a slash in brackets does not end a pattern
abbrev slash_in_brackets : List ℕ
slash_in_brackets = codes "/[/]a/gi"

slash_in_brackets_lexed : Lexed script slash_in_brackets (next (placed RegExp 0 8 []) (last (placed Eof 8 8 [])))
unfolding words punctuators chars keyword_of
slash_in_brackets_lexed = record {
  lexes = (
    stand in_script slash_in_brackets 0 [] regular_expression (codes "/[/]a/gi") [] RegExp (omega arith) refl refl refl,
    stand in_script slash_in_brackets 8 [] division [] [] Eof (omega arith) refl refl refl,
  );
  ends = refl;
}

-- `a/b/g`: two divisions
abbrev divisions : List ℕ
divisions = codes "a/b/g"

divisions_lexed : Lexed script divisions (next (placed Ident 0 1 (codes "a")) (next (placed Slash 1 2 []) (next (placed Ident 2 3 (codes "b")) (next (placed Slash 3 4 []) (next (placed Ident 4 5 (codes "g")) (last (placed Eof 5 5 [])))))))
unfolding words punctuators chars keyword_of
divisions_lexed = record {
  lexes = (
    stand in_script divisions 0 [] division (codes "a") (codes "/b/g") Ident (omega arith) refl refl refl,
    (
      stand in_script divisions 1 [] division (codes "/") (codes "b/g") Slash (omega arith) refl refl refl,
      (
        stand in_script divisions 2 [] division (codes "b") (codes "/g") Ident (omega arith) refl refl refl,
        (
          stand in_script divisions 3 [] division (codes "/") (codes "g") Slash (omega arith) refl refl refl,
          (
            stand in_script divisions 4 [] division (codes "g") [] Ident (omega arith) refl refl refl,
            stand in_script divisions 5 [] division [] [] Eof (omega arith) refl refl refl,
          ),
        ),
      ),
    ),
  );
  ends = refl;
}

-- behind the `a` a regular expression may stand too, `/b/g`: the lexemes leave that to the grammar
pattern_behind_name : NextLexeme in_script divisions 1 (placed RegExp 1 5 [])
unfolding words punctuators chars keyword_of
pattern_behind_name = stand in_script divisions 1 [] regular_expression (codes "/b/g") [] RegExp (omega arith) refl refl refl

-- `` }a` ``: the brace may stand
abbrev brace : List ℕ
brace = codes "}a`"

brace_stands : NextLexeme in_script brace 0 (placed RCurly 0 1 [])
unfolding words punctuators chars keyword_of
brace_stands = stand in_script brace 0 [] division (codes "}") (codes "a`") RCurly (omega arith) refl refl refl

-- in its place a template part may stand too, of all three characters
template_part_stands : NextLexeme in_script brace 0 (placed TemplateTail 0 3 [])
unfolding words punctuators chars keyword_of
template_part_stands = stand in_script brace 0 [] template_tail (codes "}a`") [] TemplateTail (omega arith) refl refl refl

-- `/a/gg`: no regular expression stands first, since a flag stands twice
abbrev flag_twice : List ℕ
flag_twice = codes "/a/gg"

flag_twice_first : (y : Lexeme) → NextLexeme in_script flag_twice 0 y → y.kind ≡ RegExp → ⊥
unfolding words punctuators chars keyword_of
flag_twice_first y h r = go h.goal refl
  where
    back : h.word ++ h.rest ≡ codes "/a/gg"
    back = (stands-same h.stands (let st : Stands flag_twice 0 [] (codes "/a/gg") [] = record { within = omega arith; splits = refl; trivia = refl } in st)).back

    at_longest : (g : LexicalGoal) → h.goal ≡ g → longest (lexemes_in g) h.word h.rest ≡ true
    at_longest g e = subst (λ (a : LexicalGoal). longest (lexemes_in a) h.word h.rest ≡ true) e h.lexeme.longest

    go : (g : LexicalGoal) → h.goal ≡ g → ⊥
    go division e =
        let w = longest-same (lexemes_in division) h.word h.rest (codes "/") (codes "a/gg") back (at_longest division e) refl in
        let a : kind_in division h.word h.rest ≡ Some RegExp = subst (λ (k : Kind). kind_in division h.word h.rest ≡ Some k) r (subst (λ (a : LexicalGoal). kind_in a h.word h.rest ≡ Some y.kind) e h.lexeme.kind) in
        let b : kind_in division (codes "/") h.rest ≡ Some RegExp = subst (λ (u : List ℕ). kind_in division u h.rest ≡ Some RegExp) w.front a in
        let c : kind_in division (codes "/") (codes "a/gg") ≡ Some RegExp = subst (λ (u : List ℕ). kind_in division (codes "/") u ≡ Some RegExp) w.back b in
        cc
    go regular_expression e =
        let w = longest-same (lexemes_in regular_expression) h.word h.rest (codes "/a/gg") [] back (at_longest regular_expression e) refl in
        let a : flags_right in_script RegExp h.word ≡ true = subst (λ (k : Kind). flags_right in_script k h.word ≡ true) r h.flags in
        let b : flags_right in_script RegExp (codes "/a/gg") ≡ true = subst (λ (u : List ℕ). flags_right in_script RegExp u ≡ true) w.front a in
        cc
    go template_tail e = none_stands template_tail h.word h.rest 47 (codes "a/gg") refl back (both-left (lexemes_in template_tail h.word h.rest) (none_longer (lexemes_in template_tail) h.word h.rest) (at_longest template_tail e))
    go hashbang e = none_stands hashbang h.word h.rest 47 (codes "a/gg") refl back (both-left (lexemes_in hashbang h.word h.rest) (none_longer (lexemes_in hashbang) h.word h.rest) (at_longest hashbang e))

-- so `/a/gg` has no list of lexemes with a regular expression first
flag_twice_not_lexed : (ls : Lexemes) → Lexed script flag_twice ls → (here ls).kind ≡ RegExp → ⊥
flag_twice_not_lexed (last y) h r = flag_twice_first y h.lexes r
flag_twice_not_lexed (next y ls) h r = flag_twice_first y h.lexes.0 r

-- the forms of numbers
abbrev numbers : List ℕ
numbers = codes "0x1_f+1.e3+08.5+0777+1_000n"

numbers_lexed : Lexed script numbers (next (placed Hex 0 5 []) (next (placed Plus 5 6 []) (next (placed PositiveExponential 6 10 []) (next (placed Plus 10 11 []) (next (placed Float 11 15 []) (next (placed Plus 15 16 []) (next (placed Octal 16 20 []) (next (placed Plus 20 21 []) (next (placed DecimalBigInt 21 27 []) (last (placed Eof 27 27 [])))))))))))
unfolding words punctuators chars keyword_of
numbers_lexed = record {
  lexes = (
    stand in_script numbers 0 [] division (codes "0x1_f") (codes "+1.e3+08.5+0777+1_000n") Hex (omega arith) refl refl refl,
    (
      stand in_script numbers 5 [] division (codes "+") (codes "1.e3+08.5+0777+1_000n") Plus (omega arith) refl refl refl,
      (
        stand in_script numbers 6 [] division (codes "1.e3") (codes "+08.5+0777+1_000n") PositiveExponential (omega arith) refl refl refl,
        (
          stand in_script numbers 10 [] division (codes "+") (codes "08.5+0777+1_000n") Plus (omega arith) refl refl refl,
          (
            stand in_script numbers 11 [] division (codes "08.5") (codes "+0777+1_000n") Float (omega arith) refl refl refl,
            (
              stand in_script numbers 15 [] division (codes "+") (codes "0777+1_000n") Plus (omega arith) refl refl refl,
              (
                stand in_script numbers 16 [] division (codes "0777") (codes "+1_000n") Octal (omega arith) refl refl refl,
                (
                  stand in_script numbers 20 [] division (codes "+") (codes "1_000n") Plus (omega arith) refl refl refl,
                  (
                    stand in_script numbers 21 [] division (codes "1_000n") [] DecimalBigInt (omega arith) refl refl refl,
                    stand in_script numbers 27 [] division [] [] Eof (omega arith) refl refl refl,
                  ),
                ),
              ),
            ),
          ),
        ),
      ),
    ),
  );
  ends = refl;
}

-- a block comment that holds a line end
abbrev comment_line : List ℕ
comment_line = codes "/* a" ++ 10 ∷ codes "*/ b"

comment_line_lexed : Lexed script comment_line (next (marked Ident 8 9 true false (codes "b")) (last (placed Eof 9 9 [])))
unfolding words punctuators chars keyword_of
comment_line_lexed = record {
  lexes = (
    stand in_script comment_line 0 ((codes "/* a" ++ 10 ∷ codes "*/") ∷ (codes " ") ∷ []) division (codes "b") [] Ident (omega arith) refl refl refl,
    stand in_script comment_line 9 [] division [] [] Eof (omega arith) refl refl refl,
  );
  ends = refl;
}

-- a template and its parts
abbrev template : List ℕ
template = codes "`a${b}c`"

template_lexed : Lexed script template (next (placed TemplateHead 0 4 []) (next (placed Ident 4 5 (codes "b")) (next (placed TemplateTail 5 8 []) (last (placed Eof 8 8 [])))))
unfolding words punctuators chars keyword_of
template_lexed = record {
  lexes = (
    stand in_script template 0 [] division (codes "`a${") (codes "b}c`") TemplateHead (omega arith) refl refl refl,
    (
      stand in_script template 4 [] division (codes "b") (codes "}c`") Ident (omega arith) refl refl refl,
      (
        stand in_script template 5 [] template_tail (codes "}c`") [] TemplateTail (omega arith) refl refl refl,
        stand in_script template 8 [] division [] [] Eof (omega arith) refl refl refl,
      ),
    ),
  );
  ends = refl;
}

-- a hashbang line; `-->` first on its line
abbrev hashbang_line : List ℕ
hashbang_line = codes "#!x" ++ 10 ∷ codes "-->y" ++ 10 ∷ codes "0x1"

hashbang_line_lexed : Lexed script hashbang_line (next (placed HashbangComment 0 3 []) (next (marked Hex 9 12 true false []) (last (placed Eof 12 12 []))))
unfolding words punctuators chars keyword_of
hashbang_line_lexed = record {
  lexes = (
    stand in_script hashbang_line 0 [] hashbang (codes "#!x") (10 ∷ codes "-->y" ++ 10 ∷ codes "0x1") HashbangComment (omega arith) refl refl refl,
    (
      stand in_script hashbang_line 3 ((10 ∷ []) ∷ (codes "-->y") ∷ (10 ∷ []) ∷ []) division (codes "0x1") [] Hex (omega arith) refl refl refl,
      stand in_script hashbang_line 12 [] division [] [] Eof (omega arith) refl refl refl,
    ),
  );
  ends = refl;
}

-- the longest punctuator
abbrev shift : List ℕ
shift = codes "a >>>= b"

shift_lexed : Lexed script shift (next (placed Ident 0 1 (codes "a")) (next (placed ShiftRight3Eq 2 6 []) (next (placed Ident 7 8 (codes "b")) (last (placed Eof 8 8 [])))))
unfolding words punctuators chars keyword_of
shift_lexed = record {
  lexes = (
    stand in_script shift 0 [] division (codes "a") (codes " >>>= b") Ident (omega arith) refl refl refl,
    (
      stand in_script shift 1 ((codes " ") ∷ []) division (codes ">>>=") (codes " b") ShiftRight3Eq (omega arith) refl refl refl,
      (
        stand in_script shift 6 ((codes " ") ∷ []) division (codes "b") [] Ident (omega arith) refl refl refl,
        stand in_script shift 8 [] division [] [] Eof (omega arith) refl refl refl,
      ),
    ),
  );
  ends = refl;
}

-- none of these begins with a lexeme
two_separators : (p : Passing) (y : Lexeme) → NextLexeme p (codes "1__0") 0 y → ⊥
unfolding words punctuators chars keyword_of
two_separators p = number_goes_on p (codes "1__0") 0 [] 49 [] (codes "__0") Decimal (omega arith) refl refl refl refl refl refl

zero_separator : (p : Passing) (y : Lexeme) → NextLexeme p (codes "0_1") 0 y → ⊥
unfolding words punctuators chars keyword_of
zero_separator p = number_goes_on p (codes "0_1") 0 [] 48 [] (codes "_1") Decimal (omega arith) refl refl refl refl refl refl

word_behind : (p : Passing) (y : Lexeme) → NextLexeme p (codes "3in") 0 y → ⊥
unfolding words punctuators chars keyword_of
word_behind p = number_goes_on p (codes "3in") 0 [] 51 [] (codes "in") Decimal (omega arith) refl refl refl refl refl refl

no_binary : (p : Passing) (y : Lexeme) → NextLexeme p (codes "0b2") 0 y → ⊥
unfolding words punctuators chars keyword_of
no_binary p = number_goes_on p (codes "0b2") 0 [] 48 [] (codes "b2") Decimal (omega arith) refl refl refl refl refl refl
