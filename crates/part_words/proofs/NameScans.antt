-- Names and private names as lexemes of a text, and the faults where none stands.
use Rattle.std.proofs.Common.{◌≡◌, ℕ, ◌+◌, ◌==◌, Bool, true, false, List, [], ◌∷◌, ◌++◌, refl, sym, ap, subst, ◌∙◌, not, ◌&&◌, ◌||◌, Some, None, inl, arith}
use Rattle.std.specs.Prelude.{is_some, IsCharBoundary, IsUtf8, drop, encode_utf8_all}
use Rattle.std.proofs.lemmas.Str.{IsUtf8-drop, encodes-chars}
use Rattle.js_base.specs.declared.kind.Kind.{Kind}
use Rattle.js_base.specs.declared.kind.Kind.TheVariants.{PrivateIdentifier}
use Rattle.js_base.specs.declared.diagnostic.DiagnosticKind.TheVariants.{InvalidEscape, InvalidCharacter}
use Rattle.js_base.specs.declared.diagnostic.DiagnosticKind.{DiagnosticKind}
use Rattle.js_base.specs.part_text.Characters.{is_decimal}
use Rattle.js_base.specs.part_text.Escapes.{in_name, code_points}
use Rattle.js_base.specs.Keywords.{keyword_of}
use Rattle.js_grammar.specs.Characters.{begins, is_identifier_start}
use Rattle.js_grammar.specs.Longest.{none_begins}
use Rattle.js_grammar.specs.Names.{is_plain_name, name_of, word_of, private_kind, has_backslash}
use Rattle.js_grammar.specs.Numbers.{stops_number}
use Rattle.js_grammar.specs.Lexemes.{Opening, opening, a_name, a_number, a_string, a_template, a_private_name, a_punctuator, lexemes_in, division, is_word, is_escaped}
use Rattle.js_grammar.specs.Lexed.{IsLexeme}
use Rattle.js_grammar.specs.LexicalFaults.{behind, begins_nothing, Stopping}
use Rattle.js_grammar.proofs.LongestLemmas.{both, both-left, not-true}
use Rattle.js_grammar.proofs.CoreLemmas.{none_longer-from}
use Rattle.js_grammar.proofs.CorePlain.{no_backslash, points-plain}
use Rattle.std.proofs.lemmas.Bool.{eqb-true}
use Rattle.part_words.specs.declared.name.Name.{Name}
use Rattle.part_words.specs.Places.{Word}
use Rattle.part_words.specs.Scans.{IsScanned, IsStopped, NoLexeme}
use Rattle.part_words.specs.Faults.{PartsEnd, Reaches, fault_kind, kind_of_fault}
use Rattle.part_words.specs.declared.scan.Fault.{Fault}
use Rattle.part_words.specs.Names.{AsciiName, Spells, NoFrontPasses, is_refused, IsName}
use Rattle.part_words.proofs.Places.{then, one_character}
use Rattle.part_words.proofs.Plain.{Opens, plain_is, is_lexeme, no_lexeme}
use Rattle.part_words.proofs.Names.{spells-some, name-longest, name-kind, private-longest, private-kind, no-name, never-name, no-private}
use Rattle.part_words.proofs.NameKinds.{word-no-number, word-escaped, word-separated}

abbrev pub opens_name : ℕ → Bool
opens_name c = is_identifier_start c || (c == 92)

name-opens : (c : ℕ) → opens_name c ≡ true → Opens a_name c
name-opens c h digit = rw (h, opening) refl

private-opens : Opens a_private_name 35
private-opens digit = refl

-- a name
pub name-scanned : {text : List ℕ} {i : ℕ} {n : Name} → begins opens_name (behind text i) ≡ true → IsName text i n
    → IsScanned division text i (record { kind = n.kind; end = n.end; escaped = n.escaped; has_separator = false })
name-scanned {text = text} {i = i} {n = n} b h = by h.word h.points h.stands h.spells h.is h.kind h.escaped
  where
    by : (w ps : List ℕ) → Word text i n.end w → Spells w ps → is_plain_name ps ≡ true → n.kind ≡ keyword_of ps → n.escaped ≡ has_backslash w
        → IsScanned division text i (record { kind = n.kind; end = n.end; escaped = n.escaped; has_separator = false })
    by w [] s a p k m = absurd (cc)
    by [] (p ∷ ps) s a q k m = absurd (let e = spells-some [] p ps a in let f = e.2 in cc)
    by (c ∷ cs) (p ∷ ps) s a q k m =
        let o : opens_name c ≡ true = subst (λ (v : List ℕ). begins opens_name v ≡ true) s.splits b in
        let rest = behind text n.end in
        record {
          word = c ∷ cs;
          stands = s;
          lexeme = subst (λ (x : Kind). IsLexeme division i (c ∷ cs) rest x) (sym k)
              (is_lexeme a_name i c cs rest (keyword_of (p ∷ ps)) (name-opens c o) (name-longest (c ∷ cs) (p ∷ ps) rest a q h.ends) (name-kind (c ∷ cs) (p ∷ ps) rest a q)
              (ap (λ (x : Bool). not x || stops_number rest) (word-no-number (p ∷ ps))));
          escaped = m ∙ sym (word-escaped (p ∷ ps) (c ∷ cs)) ∙ ap (λ (x : Kind). is_escaped x (c ∷ cs)) (sym k);
          separated = sym (word-separated (p ∷ ps) (c ∷ cs)) ∙ ap (λ (x : Kind). Rattle.js_grammar.specs.Lexemes.is_separated x (c ∷ cs)) (sym k);
        }

-- No name stands where the first code point is refused.
no_name_lexeme : (text : List ℕ) (i c : ℕ) (rest : List ℕ) → opens_name c ≡ true → behind text i ≡ c ∷ rest → NoFrontPasses is_identifier_start (c ∷ rest) → NoLexeme division text i
no_name_lexeme text i c rest o e r = no_lexeme a_name text i c rest (name-opens c o) e (λ w more k f l g a.
    let none : name_of (c ∷ w) ≡ None = no-name (c ∷ rest) r c w more (ap (λ (v : List ℕ). c ∷ v) f) in
    let kind : word_of (name_of (c ∷ w)) ≡ Some k = g in
    let both : word_of None ≡ Some k = sym (ap word_of none) ∙ kind in
    cc)

is-backslash : (c : ℕ) (rest : List ℕ) → opens_name c ≡ true → NoFrontPasses is_identifier_start (c ∷ rest) → (c == 92) ≡ true
is-backslash c rest o r = go (c == 92) refl
  where
    go : (b : Bool) → (c == 92) ≡ b → (c == 92) ≡ true
    go true e = e
    go false e =
        let n : no_backslash c ≡ true = ap not e in
        let p : code_points in_name (c ∷ []) ≡ Some (c ∷ []) = points-plain in_name (c ∷ []) (both (no_backslash c) true n refl) in
        let f : not (is_identifier_start c) ≡ true = sym (ap (is_refused is_identifier_start) p) ∙ r c [] rest refl in
        let s : is_identifier_start c ≡ false = not-true (is_identifier_start c) f in
        let q : (is_identifier_start c || (c == 92)) ≡ false = rw (s, e) refl in
        absurd (cc)

-- how far an escape's span goes
escape-reaches : {text : List ℕ} {i : ℕ} {f : Fault} → f.kind ≡ InvalidEscape → f.start ≡ i → PartsEnd false text (i + 1) f.end → Reaches f.kind text f.start f.end
escape-reaches {text = text} {f = f} k s p = subst (λ (d : DiagnosticKind). Reaches d text f.start f.end) (sym k) (subst (λ (n : ℕ). PartsEnd false text (n + 1) f.end) (sym s) p)

-- a backslash that stands first at the place
pub backslash-there : (text : List ℕ) (i : ℕ) → IsUtf8 text → IsCharBoundary text i → begins (λ c. c == 92) (behind text i) ≡ true → Word text i (i + 1) (92 ∷ [])
backslash-there text i u b h = by (behind text i) refl h
  where
    by : (cs : List ℕ) → behind text i ≡ cs → begins (λ c. c == 92) cs ≡ true → Word text i (i + 1) (92 ∷ [])
    by [] e f = absurd (cc)
    by (c ∷ cs) e f =
        let same : c ≡ 92 = eqb-true c 92 f in
        let q : behind text i ≡ 92 ∷ cs = e ∙ ap (λ (x : ℕ). x ∷ cs) same in
        one_character text i 92 (encode_utf8_all cs) u b (sym (encodes-chars (drop i text) (IsUtf8-drop text i u b)) ∙ ap encode_utf8_all q)

-- where a name may begin and none does, a backslash stands
pub backslash-opens : (text : List ℕ) (i : ℕ) → IsUtf8 text → IsCharBoundary text i → begins opens_name (behind text i) ≡ true → NoFrontPasses is_identifier_start (behind text i) → Word text i (i + 1) (92 ∷ [])
backslash-opens text i u b h n = backslash-there text i u b (by (behind text i) h n)
  where
    by : (cs : List ℕ) → begins opens_name cs ≡ true → NoFrontPasses is_identifier_start cs → begins (λ c. c == 92) cs ≡ true
    by [] f r = absurd (cc)
    by (c ∷ rest) f r = is-backslash c rest f r

escape-told : (c : ℕ) (cs : List ℕ) → opens_name c ≡ true → fault_kind (c ∷ cs) ≡ InvalidEscape
escape-told c cs o = ap (λ (p : Opening). kind_of_fault p c cs) (name-opens c o (begins is_decimal cs))

pub name-stopped : {text : List ℕ} {i : ℕ} {f : Fault} → IsCharBoundary text i → begins opens_name (behind text i) ≡ true → NoFrontPasses is_identifier_start (behind text i) → f.kind ≡ InvalidEscape → f.start ≡ i → PartsEnd false text (i + 1) f.end
    → IsStopped division text i f
name-stopped {text = text} {i = i} {f = f} u b n kd st p = by (behind text i) refl
  where
    by : (cs : List ℕ) → behind text i ≡ cs → IsStopped division text i f
    by [] e = absurd (let a : false ≡ true = subst (λ (v : List ℕ). begins opens_name v ≡ true) e b in cc)
    by (c ∷ rest) e =
        let o : opens_name c ≡ true = subst (λ (v : List ℕ). begins opens_name v ≡ true) e b in
        let r : NoFrontPasses is_identifier_start (c ∷ rest) = subst (λ (v : List ℕ). NoFrontPasses is_identifier_start v) e n in
        let k : (c == 92) ≡ true = is-backslash c rest o r in
        let same : c ≡ 92 = eqb-true c 92 k in
        let l = p.stands.end in
        record {
          none = no_name_lexeme text i c rest o e r;
          condition = subst (λ (d : DiagnosticKind). Stopping d text i f.start f.end) (sym kd) (inl (record {
            mark = [];
            name = [];
            rest = rest;
            here = e ∙ ap (λ (x : ℕ). x ∷ rest) same;
            marked = refl;
            named = refl;
            never = never-name (92 ∷ rest) (subst (λ (x : ℕ). NoFrontPasses is_identifier_start (x ∷ rest)) same r);
            begin = omega arith;
          }));
          follows = omega arith;
          ordered = omega arith;
          begins_between = subst (λ (m : ℕ). IsCharBoundary text m) (sym st) u;
          ends_between = p.stands.boundary;
          told = kd ∙ sym (ap fault_kind e ∙ escape-told c rest o);
          reaches = escape-reaches kd st p;
        }

-- a private name
or-true : (a : Bool) → (a || true) ≡ true
or-true true = refl
or-true false = refl

private-escaped : (w : List ℕ) → has_backslash w ≡ is_escaped PrivateIdentifier (35 ∷ w)
private-escaped w = let e = or-true (is_word PrivateIdentifier) in sym (ap (λ (b : Bool). b && has_backslash w) e)

pub private-scanned : {text : List ℕ} {i j : ℕ} {n : Name} → Word text i j (35 ∷ []) → IsName text j n
    → IsScanned division text i (record { kind = PrivateIdentifier; end = n.end; escaped = n.escaped; has_separator = false })
private-scanned {text = text} {i = i} {n = n} m h = record {
  word = 35 ∷ h.word;
  stands = then m h.stands;
  lexeme = is_lexeme a_private_name i 35 h.word (behind text n.end) PrivateIdentifier private-opens
      (private-longest h.word h.points (behind text n.end) h.spells h.is h.ends) (private-kind h.word h.points (behind text n.end) h.spells h.is) refl;
  escaped = h.escaped ∙ private-escaped h.word;
  separated = refl;
}

no_private_lexeme : (text : List ℕ) (i : ℕ) (rest : List ℕ) → behind text i ≡ 35 ∷ rest → NoFrontPasses is_identifier_start rest → NoLexeme division text i
no_private_lexeme text i rest e r = no_lexeme a_private_name text i 35 rest private-opens e (λ w more k f l g a.
    let none : private_kind (35 ∷ w) ≡ None = no-private rest w more r f in
    let kind : private_kind (35 ∷ w) ≡ Some k = g in
    cc)

nothing_begins : (rest : List ℕ) → NoFrontPasses is_identifier_start rest → begins_nothing 35 rest ≡ true
nothing_begins rest r = both (none_begins (lexemes_in division) (35 ∷ rest)) true (none_longer-from (lexemes_in division) [] (35 ∷ rest) (λ c x more e. at c x more e)) refl
  where
    at : (c : ℕ) (x more : List ℕ) → 35 ∷ rest ≡ c ∷ x ++ more → lexemes_in division (c ∷ x) more ≡ false
    at c x more e =
        let same : 35 ≡ c = cc in
        let left : rest ≡ x ++ more = cc in
        subst (λ (a : ℕ). lexemes_in division (a ∷ x) more ≡ false) same (ap is_some (plain_is a_private_name 35 x more private-opens ∙ no-private rest x more r left))

-- a `#` that stands first at the place
pub mark-here : (text : List ℕ) (i : ℕ) → IsUtf8 text → IsCharBoundary text i → begins (λ c. c == 35) (behind text i) ≡ true → Word text i (i + 1) (35 ∷ [])
mark-here text i u b h = by (behind text i) refl h
  where
    by : (cs : List ℕ) → behind text i ≡ cs → begins (λ c. c == 35) cs ≡ true → Word text i (i + 1) (35 ∷ [])
    by [] e f = absurd (cc)
    by (c ∷ cs) e f =
        let same : c ≡ 35 = eqb-true c 35 f in
        let q : behind text i ≡ 35 ∷ cs = e ∙ ap (λ (x : ℕ). x ∷ cs) same in
        one_character text i 35 (encode_utf8_all cs) u b (sym (encodes-chars (drop i text) (IsUtf8-drop text i u b)) ∙ ap encode_utf8_all q)

pub private-escape : {text : List ℕ} {i j : ℕ} {fault : Fault} → Word text i j (35 ∷ []) → Word text j (j + 1) (92 ∷ []) → NoFrontPasses is_identifier_start (behind text j) → fault.kind ≡ InvalidEscape → fault.start ≡ j → PartsEnd false text (j + 1) fault.end
    → IsStopped division text i fault
private-escape {text = text} {i = i} {j = j} {fault = fault} m w n kd st p =
    let l = p.stands.end in
    let e : behind text j ≡ 92 ∷ behind text (j + 1) = w.splits in
    let z = m.end in
    record {
      none = no_private_lexeme text i (behind text j) m.splits n;
      condition = subst (λ (d : DiagnosticKind). Stopping d text i fault.start fault.end) (sym kd) (inl (record {
        mark = 35 ∷ [];
        name = [];
        rest = behind text (j + 1);
        here = m.splits ∙ ap (λ (v : List ℕ). 35 ∷ v) e;
        marked = refl;
        named = refl;
        never = never-name (92 ∷ behind text (j + 1)) (subst (λ (v : List ℕ). NoFrontPasses is_identifier_start v) e n);
        begin = omega arith;
      }));
      follows = omega arith;
      ordered = omega arith;
      begins_between = subst (λ (x : ℕ). IsCharBoundary text x) (sym st) m.boundary;
      ends_between = p.stands.boundary;
      told = kd ∙ sym (ap fault_kind m.splits ∙ ap (λ (b : Bool). elim b [ true ↦ InvalidEscape | false ↦ InvalidCharacter ]) (ap (begins (λ c. c == 92)) e));
      reaches = escape-reaches kd st p;
    }

pub private-nothing : {text : List ℕ} {i j : ℕ} → IsCharBoundary text i → Word text i j (35 ∷ []) → begins (λ c. c == 92) (behind text j) ≡ false → NoFrontPasses is_identifier_start (behind text j)
    → IsStopped division text i (record { kind = InvalidCharacter; start = i; end = j })
private-nothing {text = text} {i = i} {j = j} u m g n =
    let z = m.end in
    record {
      none = no_private_lexeme text i (behind text j) m.splits n;
      condition = (refl, record { character = 35; rest = behind text j; here = m.splits; nothing = nothing_begins (behind text j) n; end = m.end });
      follows = omega arith;
      ordered = omega arith;
      begins_between = u;
      ends_between = m.boundary;
      told = sym (ap fault_kind m.splits ∙ ap (λ (b : Bool). elim b [ true ↦ InvalidEscape | false ↦ InvalidCharacter ]) g);
      reaches = tt;
    }

-- a name of ASCII characters begins as a name
pub ascii-opens : {text : List ℕ} {i j : ℕ} → AsciiName text i j → begins opens_name (behind text i) ≡ true
ascii-opens {text = text} {i = i} {j = j} a = subst (λ (v : List ℕ). begins opens_name v ≡ true) (sym a.stands.splits) (by a.word a.is)
  where
    by : (w : List ℕ) → is_plain_name w ≡ true → begins opens_name (w ++ behind text j) ≡ true
    by [] h = absurd (cc)
    by (c ∷ w) h = ap (λ (b : Bool). b || (c == 92)) (both-left (is_identifier_start c) (Rattle.std.specs.List.list_all Rattle.js_grammar.specs.Characters.is_identifier_part w) h)
