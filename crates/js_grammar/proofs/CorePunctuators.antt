-- A core punctuator is the longest lexeme of the whole language, too.
use Rattle.std.proofs.Common.{◌≡◌, ℕ, ◌==◌, Bool, true, false, List, [], ◌∷◌, ◌++◌, refl, sym, ap, subst, ◌∙◌, not, ◌&&◌, ◌||◌, Some}
use Rattle.std.proofs.lemmas.Bool.{and_left}
use Rattle.std.specs.Prelude.{is_some, bytes_eq, nat_eq}
use Rattle.std.specs.List.{list_all, find}
use Rattle.js_base.specs.declared.kind.Kind.{Kind}
use Rattle.js_base.specs.declared.kind.Kind.TheVariants.{LCurly, RCurly, At, Slash, SlashEq, PrivateIdentifier, Eof, RegExp}
use Rattle.js_base.specs.Kinds.{code, same_kind, one_of_kinds}
use Rattle.js_base.specs.Texts.{text_of, punctuators, words}
use Rattle.js_base.specs.part_text.Characters.{one_of, is_decimal}
use Rattle.js_grammar.specs.Characters.{begins}
use Rattle.js_grammar.specs.Longest.{none_longer}
use Rattle.js_grammar.specs.Lexemes.{plain_kind, lexemes_in, division, a_punctuator, Opening, opening, may_precede, punctuator_kind, is_word}
use Rattle.js_grammar.specs.CoreGrammar.{core_kinds as kinds_of_core}
use Rattle.js_grammar.specs.Names.{has_backslash}
use Rattle.js_grammar.specs.CoreTexts.{is_core_piece, is_core_blank, is_ascii_name, is_core_number, is_core_string, is_core_punctuator, core_punctuators, ends_in_glue, is_glue}
use Rattle.js_grammar.proofs.LongestLemmas.{both-left, both-right, both, not-true, none_longer-at}
use Rattle.js_grammar.proofs.Finding.{neither-left, neither-right, found-all}
use Rattle.js_grammar.proofs.CoreLemmas.{none_longer-from, plain_of, opens, opens-same}
use Rattle.js_grammar.proofs.CoreFirst.{is_core_first, is_mark, IsMark, punctuator_mark}
use Rattle.js_grammar.proofs.CoreNames.{IsPlain, ascii, core_ascii, is_number_code, no_number_apart}

-- where the five others fail the test, those that are left decide
core_find : (test : Kind → Bool) → test LCurly ≡ false → test RCurly ≡ false → test At ≡ false → test Slash ≡ false → test SlashEq ≡ false → find test punctuators ≡ find test core_punctuators
unfolding punctuators core_punctuators
core_find test a b c d e = rw (a, b, c, d, e) refl

abbrev pub strange : List ℕ
strange = 92 ∷ 47 ∷ 96 ∷ 35 ∷ 64 ∷ 123 ∷ 125 ∷ []

core_kinds : (c : ℕ) (v more : List ℕ) → is_core_first c ≡ true → punctuator_kind (c ∷ v) more ≡ find (λ k. bytes_eq (text_of k) (c ∷ v) && may_precede k more) core_punctuators
core_kinds c v more h =
    let n = not-true (one_of strange c) (both-right (Rattle.std.specs.Prelude.nat_lt c 128) (not (one_of strange c)) h) in
    let n1 = neither-right (92 == c) (one_of (47 ∷ 96 ∷ 35 ∷ 64 ∷ 123 ∷ 125 ∷ []) c) n in
    let slash : (47 == c) ≡ false = neither-left (47 == c) (one_of (96 ∷ 35 ∷ 64 ∷ 123 ∷ 125 ∷ []) c) n1 in
    let n2 = neither-right (96 == c) (one_of (35 ∷ 64 ∷ 123 ∷ 125 ∷ []) c) (neither-right (47 == c) (one_of (96 ∷ 35 ∷ 64 ∷ 123 ∷ 125 ∷ []) c) n1) in
    let n3 = neither-right (35 == c) (one_of (64 ∷ 123 ∷ 125 ∷ []) c) n2 in
    let at : (64 == c) ≡ false = neither-left (64 == c) (one_of (123 ∷ 125 ∷ []) c) n3 in
    let n4 = neither-right (64 == c) (one_of (123 ∷ 125 ∷ []) c) n3 in
    let left : (123 == c) ≡ false = neither-left (123 == c) (one_of (125 ∷ []) c) n4 in
    let right : (125 == c) ≡ false = neither-left (125 == c) false (neither-right (123 == c) (one_of (125 ∷ []) c) n4) in
    let fails : (k : Kind) → bytes_eq (text_of k) (c ∷ v) ≡ false → (bytes_eq (text_of k) (c ∷ v) && may_precede k more) ≡ false = λ k e. and_left (bytes_eq (text_of k) (c ∷ v)) (may_precede k more) e in
    core_find (λ k. bytes_eq (text_of k) (c ∷ v) && may_precede k more)
    (fails LCurly (and_left (123 == c) (bytes_eq [] v) left)) (fails RCurly (and_left (125 == c) (bytes_eq [] v) right)) (fails At (and_left (64 == c) (bytes_eq [] v) at)) (fails Slash (and_left (47 == c) (bytes_eq [] v) slash)) (fails SlashEq (and_left (47 == c) (bytes_eq (61 ∷ []) v) slash))

abbrev pub opening_of : List ℕ → Opening
opening_of [] = a_punctuator
opening_of (c ∷ cs) = opening c (begins is_decimal cs)

itself_opens : (c : ℕ) (cs rest : List ℕ) → IsMark c cs rest → opening c (begins is_decimal cs) ≡ a_punctuator
unfolding core_punctuators
itself_opens c cs rest m =
    let t = found-all (λ k. bytes_eq (text_of k) (c ∷ cs) && may_precede k rest) (λ k. opens (opening_of (text_of k)) a_punctuator) core_punctuators m.kind m.listed refl in
    opens-same _ _ (subst (λ (v : List ℕ). opens (opening_of v) a_punctuator ≡ true) m.text t)

-- behind a dot no digit stands
longer_opens : (c : ℕ) (cs : List ℕ) (d : ℕ) (x rest : List ℕ) → IsMark c cs rest → (ends_in_glue (c ∷ cs) ≡ true → is_decimal d ≡ false) → opening c (begins is_decimal (cs ++ d ∷ x)) ≡ a_punctuator
longer_opens c (a ∷ cs) d x rest m g = itself_opens c (a ∷ cs) rest m
longer_opens c [] d x rest m g = go (is_decimal d) (c == 46) refl refl
  where
    simple : opening c false ≡ a_punctuator
    simple = opens-same _ _ (both-right (is_core_first c) (opens (opening c false) a_punctuator) m.mark)

    go : (b z : Bool) → is_decimal d ≡ b → (c == 46) ≡ z → opening c (is_decimal d) ≡ a_punctuator
    go false z e s = ap (λ (b : Bool). opening c b) e ∙ simple
    go true true e s =
        let q : c ≡ 46 = Rattle.std.proofs.lemmas.Bool.eqb-true c 46 s in
        let r : is_glue c ≡ true = subst (λ (u : ℕ). is_glue u ≡ true) (sym q) refl in
        let k = g r in cc
    go true false e s = opens-same _ _ (ap (λ (b : Bool). opens (opening c b) a_punctuator) e ∙
        ascii (λ a. is_mark a && not (a == 46)) (λ a. opens (opening a true) a_punctuator) c refl (core_ascii c (both-left (is_core_first c) (opens (opening c false) a_punctuator) m.mark)) (both (is_mark c) (not (c == 46)) m.mark (rw s refl)))

no_core_piece : (v more : List ℕ) → is_core_piece v more ≡ false → is_core_punctuator v more ≡ false
no_core_piece v more n = neither-right (is_core_string v) (is_core_punctuator v more) (neither-right (is_core_number v) (is_core_string v || is_core_punctuator v more) (neither-right (is_ascii_name v) (is_core_number v || (is_core_string v || is_core_punctuator v more)) (neither-right (is_core_blank v) (is_ascii_name v || (is_core_number v || (is_core_string v || is_core_punctuator v more))) n)))

pub plain_punctuator : (c : ℕ) (cs rest : List ℕ) → is_core_punctuator (c ∷ cs) rest ≡ true → none_longer is_core_piece (c ∷ cs) rest ≡ true → (ends_in_glue (c ∷ cs) ≡ true → begins is_decimal rest ≡ false) → IsPlain (c ∷ cs) rest
unfolding core_punctuators words
plain_punctuator c cs rest h n g =
    let m = punctuator_mark c cs rest h in
    let first = both-left (is_core_first c) (opens (opening c false) a_punctuator) m.mark in
    let kd : plain_kind (c ∷ cs) rest ≡ Some m.kind = plain_of a_punctuator c cs rest (itself_opens c cs rest m) ∙ core_kinds c cs rest first ∙ m.listed in
    record {
      kind = m.kind;
      longest = both (lexemes_in division (c ∷ cs) rest) (none_longer (lexemes_in division) (c ∷ cs) rest) (ap is_some kd)
          (none_longer-from (lexemes_in division) (c ∷ cs) rest (λ d x more e.
          let o = longer_opens c cs d x rest m (λ k. subst (λ (v : List ℕ). begins is_decimal v ≡ false) e (g k)) in
          let n' : none_longer is_core_piece (c ∷ cs) (d ∷ x ++ more) ≡ true = subst (λ (v : List ℕ). none_longer is_core_piece (c ∷ cs) v ≡ true) e n in
          ap is_some (plain_of a_punctuator c (cs ++ d ∷ x) more o ∙ core_kinds c (cs ++ d ∷ x) more first) ∙ no_core_piece (c ∷ cs ++ d ∷ x) more (none_longer-at is_core_piece (c ∷ cs) d x more n')));
      is = kd;
      apart = no_number_apart m.kind rest (found-all (λ k. bytes_eq (text_of k) (c ∷ cs) && may_precede k rest) (λ k. not (is_number_code (code k))) core_punctuators m.kind m.listed refl);
      inside = found-all (λ k. bytes_eq (text_of k) (c ∷ cs) && may_precede k rest) (λ k. not (one_of (code Eof ∷ code RegExp ∷ []) (code k))) core_punctuators m.kind m.listed refl;
      core = found-all (λ k. bytes_eq (text_of k) (c ∷ cs) && may_precede k rest) (one_of_kinds kinds_of_core) core_punctuators m.kind m.listed refl;
      unescaped = and_left (is_word m.kind || same_kind PrivateIdentifier m.kind) (has_backslash (c ∷ cs)) (not-true (is_word m.kind || same_kind PrivateIdentifier m.kind) (found-all (λ k. bytes_eq (text_of k) (c ∷ cs) && may_precede k rest) (λ k. not (is_word k || same_kind PrivateIdentifier k)) core_punctuators m.kind m.listed refl));
    }

pub mark-kind : (c : ℕ) (cs rest : List ℕ) (m : IsMark c cs rest) → plain_kind (c ∷ cs) rest ≡ Some m.kind
mark-kind c cs rest m = plain_of a_punctuator c cs rest (itself_opens c cs rest m) ∙ core_kinds c cs rest (both-left (is_core_first c) (opens (opening c false) a_punctuator) m.mark) ∙ m.listed
