-- What a scan of a string knows at the places of a text.
use Rattle.std.proofs.Common.{◌≡◌, ◌<◌, ◌≤◌, ℕ, ◌+◌, ◌-◌, ◌==◌, Bool, true, false, List, [], ◌∷◌, ◌++◌, refl, sym, ap, subst, ◌∙◌, not, ◌&&◌, ◌||◌, ◌⊎◌, inl, inr, append_assoc, take, drop, length-append, arith}
use Rattle.std.specs.Prelude.{chars, encode_utf8, encode_utf8_all, IsUtf8, IsCharBoundary}
use Rattle.std.specs.Char.{len_utf8}
use Rattle.std.proofs.Math.Utf8.{scalars}
use Rattle.std.proofs.Math.Seq.{take-append_seam}
use Rattle.std.proofs.lemmas.Bool.{eqb-true, eq-eqb, cases_lt}
use Rattle.std.proofs.lemmas.Str.{IsUtf8-drop, encodes-chars, encodes-append, chars_from_encodes, scalars-chars, length-encode, len_utf8_ascii}
use Rattle.js_base.specs.declared.kind.Kind.{Kind}
use Rattle.js_base.specs.declared.kind.Kind.TheVariants.{Str}
use Rattle.js_base.specs.declared.diagnostic.DiagnosticKind.TheVariants as fault
use Rattle.js_base.specs.part_text.declared.escape.InvalidEscape.{InvalidEscape}
use Rattle.js_base.specs.part_text.Characters.{one_of, is_decimal}
use Rattle.js_base.specs.Texts.{words}
use Rattle.js_base.specs.part_text.InvalidEscapes.{is_right, bytes_of, IsInvalidEscape}
use Rattle.part_words.specs.js_grammar.Characters.{begins, width}
use Rattle.part_words.specs.js_grammar.LexicalFaults.{behind, is_closed_string}
use Rattle.part_words.specs.js_grammar.Lexemes.{a_string, division, is_escaped, is_separated, Opening}
use Rattle.part_words.specs.js_grammar.Lexed.{IsLexeme}
use Rattle.part_words.proofs.js_grammar.LongestLemmas.{both-left, none_longer-at}
use Rattle.part_words.proofs.js_grammar.Finding.{all-append, neither-left, neither-right}
use Rattle.part_words.proofs.js_grammar.Quotations.{quote_low}
use Rattle.part_words.specs.declared.scan.Scanned.{Scanned}
use Rattle.part_words.specs.Places.{Word, Peeks}
use Rattle.part_words.specs.Scans.{IsScanned, IsStopped}
use Rattle.part_scan.specs.Strings.{Within, lacks_backslash, ends_line, IsInner, OneCharacter, Passes, StandsBetween}
use Rattle.part_words.proofs.Places.{none_passed, then, one_character, width-append}
use Rattle.part_words.proofs.Plain.{is_lexeme, no_lexeme}
use Rattle.part_scan.proofs.StringLemmas.{one_within, none_within, and_on, a_string_kind, longest_string, quote_opens, wrong_none, open_none, never_closes, longest_open, none_closed, open_before, unclosed_before, never_right, closed_now}
use Rattle.part_words.specs.Faults.{PartsEnd, fault_kind, kind_of_fault}
use Rattle.js_base.specs.part_text.Escapes.{line_feeds}
use Rattle.part_words.specs.js_grammar.Longest.{none_begins}
use Rattle.part_words.specs.js_grammar.Strings.{closes_string}
use Rattle.std.proofs.lemmas.List.{append_cancel_left, append-nil}

differs_from : (c byte n : ℕ) → (c ≡ byte) ⊎ (128 ≤ c) → (byte ≡ n → ⊥) → n < 128 → c ≡ n → ⊥
differs_from c byte n (inl e) h l k = h (sym e ∙ k)
differs_from c byte n (inr g) h l k = absurd (omega arith)

-- a character that is no quote, no backslash and no line end
pub passes_one : (q : ℕ) (text : List ℕ) (i byte j : ℕ) → one_of (34 ∷ 39 ∷ []) q ≡ true → IsInner q byte → (byte ≡ 92 → ⊥) → OneCharacter text i byte j → Passes q text i byte j
passes_one q text i byte j o h n c =
    let slash : c.character ≡ 92 → ⊥ = differs_from c.character byte 92 c.same n (omega arith) in
    record {
      word = c.character ∷ [];
      stands = c.word;
      within = one_within q c.character (behind text j) (differs_from c.character byte q c.same h.no_quote (quote_low q o)) (differs_from c.character byte 10 c.same h.no_line_feed (omega arith)) (differs_from c.character byte 13 c.same h.no_carriage (omega arith)) slash;
      plain = λ m. lacks c.character slash;
    }
  where
    lacks : (x : ℕ) → (x ≡ 92 → ⊥) → lacks_backslash (x ∷ []) ≡ true
    lacks x h = by (x == 92) refl
      where
        by : (b : Bool) → (x == 92) ≡ b → (not (x == 92) && true) ≡ true
        by true e = absurd (h (eqb-true x 92 e))
        by false e = rw e refl

-- the inside from a place up to another
pub record InsideSo (quote : ℕ) (text : List ℕ) (i j : ℕ) (backslash : Bool) : Type 0 where
  pub word : List ℕ
  pub stands : Word text i j word
  pub within : Within quote word (behind text j)
  pub plain : backslash ≡ false → lacks_backslash word ≡ true

pub inside_starts : (q : ℕ) (text : List ℕ) (i : ℕ) → IsCharBoundary text i → InsideSo q text i i false
inside_starts q text i b = record { word = []; stands = none_passed text i b; within = none_within q (behind text i); plain = λ e. refl }

pub inside_grows : (q : ℕ) (text : List ℕ) (i j k byte : ℕ) (b : Bool) → InsideSo q text i j b → Passes q text j byte k → InsideSo q text i k (b || (byte == 92))
inside_grows q text i j k byte b s p = record {
  word = s.word ++ p.word;
  stands = then s.stands p.stands;
  within = and_on q s.word p.word (behind text k) (subst (λ (y : List ℕ). Within q s.word y) p.stands.splits s.within) p.within;
  plain = λ e. all-append (λ c. not (c == 92)) s.word p.word (s.plain (neither-left b (byte == 92) e)) (p.plain (other (neither-right b (byte == 92) e)));
}
  where
    other : (byte == 92) ≡ false → byte ≡ 92 → ⊥
    other e f = let g = eq-eqb byte 92 f in absurd cc

-- the quote at the place where a string begins
pub record Quoted (text : List ℕ) (i q : ℕ) : Type 0 where
  pub is_quote : one_of (34 ∷ 39 ∷ []) q ≡ true
  pub opens : Word text i (i + 1) (q ∷ [])

pub quoted : (text : List ℕ) (i q : ℕ) → Peeks text i q → begins (one_of (34 ∷ 39 ∷ [])) (behind text i) ≡ true → Quoted text i q
quoted text i q p h = by (cases_lt q 128)
  where
    by : (q < 128) ⊎ (128 ≤ q) → Quoted text i q
    by (inl l) = let w = p.ascii l in record { is_quote = sym (ap (begins (one_of (34 ∷ 39 ∷ []))) w.splits) ∙ h; opens = w }
    by (inr g) = absurd (let a = p.high g in let l = quote_low a.character (sym (ap (begins (one_of (34 ∷ 39 ∷ []))) a.word.splits) ∙ h) in let m = a.high in omega arith)

width-bytes : (w : List ℕ) → bytes_of w ≡ width w
width-bytes [] = refl
width-bytes (c ∷ w) = let e = length-append (encode_utf8 c) (encode_utf8_all w) in let f = length-encode c in let g = width-bytes w in omega arith

-- a front of what stands behind a place stands there
pub front_word : (text : List ℕ) (i : ℕ) (w v : List ℕ) → IsUtf8 text → IsCharBoundary text i → behind text i ≡ w ++ v → Word text i (i + width w) w
front_word text i [] v u b e = subst (λ (n : ℕ). Word text i n []) (let z : i ≡ i + 0 = omega arith in z) (none_passed text i b)
front_word text i (c ∷ w) v u b e =
    let d : drop i text ≡ encode_utf8 c ++ encode_utf8_all (w ++ v) = sym (encodes-chars (drop i text) (IsUtf8-drop text i u b)) ∙ ap encode_utf8_all e in
    let o = one_character text i c (encode_utf8_all (w ++ v)) u b d in
    let g : c ∷ behind text (i + len_utf8 c) ≡ c ∷ (w ++ v) = sym o.splits ∙ e in
    let f : behind text (i + len_utf8 c) ≡ w ++ v = cc in
    subst (λ (n : ℕ). Word text i n (c ∷ w)) (let z : (i + len_utf8 c) + width w ≡ i + width (c ∷ w) = omega arith in z) (then o (front_word text (i + len_utf8 c) w v u o.boundary f))

-- the characters of a part of a text
pub part_chars : (text : List ℕ) (i j : ℕ) (w bs : List ℕ) → IsUtf8 text → IsCharBoundary text i → Word text i j w → bs ≡ take (j - i) (drop i text) → chars bs ≡ w
part_chars text i j w bs u b s e =
    let v = IsUtf8-drop text i u b in
    let d : drop i text ≡ encode_utf8_all w ++ encode_utf8_all (behind text j) = sym (encodes-chars (drop i text) v) ∙ ap encode_utf8_all s.splits ∙ encodes-append w (behind text j) in
    let n : j - i ≡ bytes_of w = (let m = s.end in let k = width-bytes w in omega arith) in
    let f : encode_utf8_all w ≡ bs = sym (e ∙ ap (λ (x : ℕ). take x (drop i text)) n ∙ ap (λ (x : List ℕ). take (bytes_of w) x) d ∙ take-append_seam (encode_utf8_all w) (encode_utf8_all (behind text j))) in
    sym (chars_from_encodes w bs (w, (scalars-front w (behind text j) (sym (ap scalars s.splits) ∙ scalars-chars (drop i text) v), f)) f)
  where
    scalars-front : (w v : List ℕ) → scalars (w ++ v) ≡ true → scalars w ≡ true
    scalars-front [] v h = refl
    scalars-front (c ∷ w) v h = Rattle.part_words.proofs.js_grammar.LongestLemmas.both (Rattle.std.proofs.Math.Utf8.scalar c) (scalars w) (both-left (Rattle.std.proofs.Math.Utf8.scalar c) (scalars (w ++ v)) h) (scalars-front w v (Rattle.part_words.proofs.js_grammar.LongestLemmas.both-right (Rattle.std.proofs.Math.Utf8.scalar c) (scalars (w ++ v)) h))

pub not-false : (b : Bool) → not b ≡ false → b ≡ true
not-false true h = refl
not-false false h = sym h

-- a closed string, and what stands behind it
pub record Between (text : List ℕ) (i j : ℕ) (w : List ℕ) : Type 0 where
  pub closed : StandsBetween text i j
  pub same : closed.inside ≡ w

pub between : (text : List ℕ) (i j q : ℕ) (w : List ℕ) → IsUtf8 text → Quoted text i q → Word text (i + 1) j w → Within q w (behind text j) → begins (λ c. c == q) (behind text j) ≡ true → Between text i j w
between text i j q w u o s h b = by (behind text j) refl b
  where
    by : (cs : List ℕ) → behind text j ≡ cs → begins (λ c. c == q) cs ≡ true → Between text i j w
    by [] e k = absurd (let m = k in cc)
    by (c ∷ cs) e k =
        let same : c ≡ q = eqb-true c q k in
        let f : behind text j ≡ (q ∷ []) ++ cs = e ∙ ap (λ (x : ℕ). x ∷ cs) same in
        let n : j + width (q ∷ []) ≡ j + 1 = (let l = len_utf8_ascii q (quote_low q o.is_quote) in omega arith) in
        record { closed = record { quote = q; inside = w; is_quote = o.is_quote; opens = o.opens; stands = s; within = h; closes = subst (λ (x : ℕ). Word text j x (q ∷ [])) n (front_word text j (q ∷ []) cs u s.boundary f) }; same = refl }

closed_within : (text : List ℕ) (i j : ℕ) (b : StandsBetween text i j) → Within b.quote b.inside (b.quote ∷ behind text (j + 1))
closed_within text i j b = subst (λ (y : List ℕ). Within b.quote b.inside y) b.closes.splits b.within

-- a string is no word and no number
str_escaped : (w : List ℕ) → is_escaped Str w ≡ false
unfolding words
str_escaped w = refl

pub a_string_stands : (text : List ℕ) (i j : ℕ) (b : StandsBetween text i j) (s : Scanned) → is_right b.inside ≡ true → s.kind ≡ Str → s.end ≡ j + 1 → s.escaped ≡ false → s.has_separator ≡ false → IsScanned division text i s
a_string_stands text i j b s r k e x p =
    let w = b.quote ∷ (b.inside ++ b.quote ∷ []) in
    let h = closed_within text i j b in
    let l : IsLexeme division i w (behind text (j + 1)) Str = is_lexeme a_string i b.quote (b.inside ++ b.quote ∷ []) (behind text (j + 1)) Str (quote_opens b.quote b.is_quote) (longest_string b.quote b.inside (behind text (j + 1)) b.is_quote h r) (a_string_kind b.quote b.inside (behind text (j + 1)) b.is_quote h r) refl in
    record {
      word = w;
      stands = subst (λ (n : ℕ). Word text i n w) (sym e) (then b.opens (then b.stands b.closes));
      lexeme = subst (λ (n : ℕ). IsLexeme division i w (behind text n) s.kind) (sym e) (subst (λ (z : Kind). IsLexeme division i w (behind text (j + 1)) z) (sym k) l);
      escaped = x ∙ sym (ap (λ (z : Kind). is_escaped z w) k ∙ str_escaped w);
      separated = p ∙ sym (ap (λ (z : Kind). is_separated z w) k);
    }

-- of what begins with a quote, whether a string stands there that is closed tells the fault
string_told : (q : ℕ) (cs : List ℕ) → one_of (34 ∷ 39 ∷ []) q ≡ true → fault_kind (q ∷ cs) ≡ elim (none_begins is_closed_string (q ∷ cs)) [ true ↦ fault.UnterminatedString | false ↦ fault.InvalidEscape ]
string_told q cs h = ap (λ (o : Opening). kind_of_fault o q cs) (quote_opens q h (begins is_decimal cs))

-- no closed string stands at the place
pub unterminated : (text : List ℕ) (i j q : ℕ) (w : List ℕ) → IsCharBoundary text i → Quoted text i q → Word text (i + 1) j w → Within q w (behind text j) → ends_line (behind text j) ≡ true
    → IsStopped division text i (record { kind = fault.UnterminatedString; start = i; end = j })
unterminated text i j q w b o s h t =
    let a : Word text i j (q ∷ w) = then o.opens s in
    record {
      none = no_lexeme a_string text i q (w ++ behind text j) (quote_opens q o.is_quote) a.splits (λ u more k e l d p. absurd (let n = open_none q w (behind text j) o.is_quote h t u more e in let m = d in cc));
      condition = (
        refl,
        record {
          word = q ∷ w;
          rest = behind text j;
          here = a.splits;
          opened = longest_open q w (behind text j) o.is_quote h t;
          never = none_closed q (w ++ behind text j) (never_closes q w (behind text j) o.is_quote h t);
          end = a.end;
        },
      );
      follows = omega arith;
      ordered = (let n = s.end in omega arith);
      begins_between = b;
      ends_between = s.boundary;
      told = sym (ap fault_kind a.splits ∙ string_told q (w ++ behind text j) o.is_quote ∙ ap (λ (z : Bool). elim z [ true ↦ fault.UnterminatedString | false ↦ fault.InvalidEscape ]) (none_closed q (w ++ behind text j) (never_closes q w (behind text j) o.is_quote h t)));
      reaches = tt;
    }

-- an escape is ill-formed
inside_wrong : (w : List ℕ) (e : InvalidEscape) → IsInvalidEscape w e → is_right w ≡ false
inside_wrong w e f = ap is_right f.splits ∙ f.never (f.beginning ++ f.rest) [] (sym (append-nil (f.beginning ++ f.rest)))

record Spans (w : List ℕ) (e : InvalidEscape) : Type 0 where
  pub ordered : e.start < e.end
  pub within : e.end ≤ width w

spans : (w : List ℕ) (e : InvalidEscape) → IsInvalidEscape w e → Spans w e
spans w e f =
    let a = width-bytes f.before in
    let b = width-bytes (f.before ++ 92 ∷ f.beginning) in
    let c = width-append f.before (92 ∷ f.beginning) in
    let d : w ≡ (f.before ++ 92 ∷ f.beginning) ++ f.rest = f.splits ∙ sym (append_assoc f.before (92 ∷ f.beginning) f.rest) in
    let g = ap width d in
    let h = width-append (f.before ++ 92 ∷ f.beginning) f.rest in
    let k = f.start in
    let l = f.end in
    let m : width (92 ∷ f.beginning) ≡ 1 + width f.beginning = refl in
    record { ordered = omega arith; within = omega arith }

pub within_text : (text : List ℕ) (i j : ℕ) (b : StandsBetween text i j) (e : InvalidEscape) → IsInvalidEscape b.inside e → (i + 1 + e.start ≤ j) × (i + 1 + e.end ≤ j)
within_text text i j b e f =
    let s = spans b.inside e f in
    let o = s.ordered in
    let w = s.within in
    let n = b.stands.end in
    (omega arith, omega arith)

-- where a closed string stands, its fault is an escape
closed_told : (q : ℕ) (w after : List ℕ) → one_of (34 ∷ 39 ∷ []) q ≡ true → Within q w (q ∷ after) → none_begins is_closed_string (q ∷ (w ++ q ∷ after)) ≡ false
closed_told q w after o i = go (none_begins is_closed_string (q ∷ (w ++ q ∷ after))) refl
  where
    closes : is_closed_string (q ∷ (w ++ q ∷ [])) after ≡ true
    closes = Rattle.part_words.proofs.js_grammar.LongestLemmas.both (one_of (34 ∷ 39 ∷ []) q) (closes_string q false (line_feeds (w ++ q ∷ []))) o (closed_now q w after o i)

    go : (b : Bool) → none_begins is_closed_string (q ∷ (w ++ q ∷ after)) ≡ b → none_begins is_closed_string (q ∷ (w ++ q ∷ after)) ≡ false
    go false e = e
    go true e = absurd (
        let n : none_begins is_closed_string (q ∷ ((w ++ q ∷ []) ++ after)) ≡ true = subst (λ (v : List ℕ). none_begins is_closed_string (q ∷ v) ≡ true) (sym (append_assoc w (q ∷ []) after)) e in
        let m : is_closed_string (q ∷ (w ++ q ∷ [])) after ≡ false = none_longer-at is_closed_string [] q (w ++ q ∷ []) after n in
        let k = closes in
        cc)

-- the place behind the backslash of an ill-formed escape
pub backslash_stands : (text : List ℕ) (i j : ℕ) (b : StandsBetween text i j) (e : InvalidEscape) → IsUtf8 text → IsInvalidEscape b.inside e → Word text (i + 1 + e.start) (i + 1 + e.start + 1) (92 ∷ [])
backslash_stands text i j b e u f =
    let after = behind text (j + 1) in
    let tail = f.beginning ++ f.rest in
    let back : behind text (i + 1) ≡ b.inside ++ b.quote ∷ after = b.stands.splits ∙ ap (λ (y : List ℕ). b.inside ++ y) b.closes.splits in
    let split : b.inside ++ b.quote ∷ after ≡ f.before ++ 92 ∷ (tail ++ b.quote ∷ after) = ap (λ (y : List ℕ). y ++ b.quote ∷ after) f.splits ∙ append_assoc f.before (92 ∷ tail) (b.quote ∷ after) in
    let first : Word text (i + 1) (i + 1 + width f.before) f.before = front_word text (i + 1) f.before (92 ∷ (tail ++ b.quote ∷ after)) u b.opens.boundary (back ∙ split) in
    let start : i + 1 + width f.before ≡ i + 1 + e.start = (let m = f.start in let n = width-bytes f.before in omega arith) in
    let here : behind text (i + 1 + width f.before) ≡ 92 ∷ (tail ++ b.quote ∷ after) = append_cancel_left f.before (behind text (i + 1 + width f.before)) (92 ∷ (tail ++ b.quote ∷ after)) (sym first.splits ∙ back ∙ split) in
    let one : Word text (i + 1 + width f.before) (i + 1 + width f.before + width (92 ∷ [])) (92 ∷ []) = front_word text (i + 1 + width f.before) (92 ∷ []) (tail ++ b.quote ∷ after) u first.boundary here in
    subst (λ (n : ℕ). Word text n (n + 1) (92 ∷ [])) start one

pub ill_formed : (text : List ℕ) (i j : ℕ) (b : StandsBetween text i j) (e : InvalidEscape) (to : ℕ) → IsUtf8 text → IsInvalidEscape b.inside e → PartsEnd false text (i + 1 + e.start + 1) to → IsStopped division text i (record { kind = fault.InvalidEscape; start = i + 1 + e.start; end = to })
ill_formed text i j b e to u f p =
    let h = closed_within text i j b in
    let after = behind text (j + 1) in
    let r = inside_wrong b.inside e f in
    let here : behind text i ≡ b.quote ∷ (b.inside ++ b.quote ∷ after) = (then b.opens b.stands).splits ∙ ap (λ (y : List ℕ). b.quote ∷ (b.inside ++ y)) b.closes.splits in
    let back : behind text (i + 1) ≡ b.inside ++ b.quote ∷ after = b.stands.splits ∙ ap (λ (y : List ℕ). b.inside ++ y) b.closes.splits in
    let tail = f.beginning ++ f.rest in
    let i' : Within b.quote (f.before ++ 92 ∷ tail) (b.quote ∷ after) = subst (λ (y : List ℕ). Within b.quote y (b.quote ∷ after)) f.splits h in
    let split : b.inside ++ b.quote ∷ after ≡ f.before ++ 92 ∷ (tail ++ b.quote ∷ after) = ap (λ (y : List ℕ). y ++ b.quote ∷ after) f.splits ∙ append_assoc f.before (92 ∷ tail) (b.quote ∷ after) in
    let first : Word text (i + 1) (i + 1 + width f.before) f.before = front_word text (i + 1) f.before (92 ∷ (tail ++ b.quote ∷ after)) u b.opens.boundary (back ∙ split) in
    let start : i + 1 + width f.before ≡ i + 1 + e.start = (let m = f.start in let n = width-bytes f.before in omega arith) in
    let l = p.stands.end in
    record {
      none = no_lexeme a_string text i b.quote (b.inside ++ b.quote ∷ after) (quote_opens b.quote b.is_quote) here (λ v more k g l d p. absurd (let n = wrong_none b.quote b.inside after b.is_quote h r v more g in let m = d in cc));
      condition = inr (record {
        quote = b.quote;
        inside = f.before;
        rest = tail ++ b.quote ∷ after;
        here = here ∙ ap (λ (y : List ℕ). b.quote ∷ y) split;
        opened = open_before b.quote f.before (92 ∷ tail) (b.quote ∷ after) b.is_quote i';
        unclosed = unclosed_before b.quote f.before (92 ∷ tail) (b.quote ∷ after) i';
        right = f.right;
        never = never_right b.quote f.before tail after b.is_quote i' (sym (ap is_right f.splits) ∙ r) f.never;
        begin = sym start;
      });
      follows = omega arith;
      ordered = omega arith;
      begins_between = subst (λ (n : ℕ). IsCharBoundary text n) start first.boundary;
      ends_between = p.stands.boundary;
      told = sym (ap fault_kind here ∙ string_told b.quote (b.inside ++ b.quote ∷ after) b.is_quote ∙ ap (λ (z : Bool). elim z [ true ↦ fault.UnterminatedString | false ↦ fault.InvalidEscape ]) (closed_told b.quote b.inside after b.is_quote h));
      reaches = p;
    }
