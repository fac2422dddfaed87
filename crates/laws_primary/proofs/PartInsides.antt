-- What stands between the delimiters of a template part begins and ends between characters (ECMA-262, 12.9.6).
use Rattle.std.proofs.Common.{ℕ, ◌+◌, ◌-◌, ◌≡◌, ◌<◌, ◌≤◌, ◌==◌, ◌⊎◌, inl, inr, Bool, true, false, not, ◌&&◌, cond, List, [], ◌∷◌, ◌++◌, Option, Some, None, refl, sym, ap, subst, arith, ◌∙◌}
use Rattle.std.specs.Prelude.{IsCharBoundary, IsUtf8}
use Rattle.std.specs.Char.{len_utf8}
use Rattle.std.proofs.lemmas.Bool.{false≢true, and_parts, eqb-true}
use Rattle.std.proofs.lemmas.Str.{len_utf8_ascii}
use Rattle.std.proofs.lemmas.List.{append_cancel_left}
use Rattle.js_base.specs.declared.kind.Kind.{Kind}
use Rattle.js_base.specs.declared.kind.Kind.TheVariants.{NoSubstitutionTemplate, TemplateHead, TemplateMiddle, TemplateTail}
use Rattle.js_base.specs.part_text.Characters.{is_decimal}
use Rattle.js_base.specs.Kinds.{one_of_kinds}
use Rattle.js_grammar.specs.Characters.{begins, width}
use Rattle.js_grammar.specs.Grammar.{Lexeme}
use Rattle.js_grammar.specs.Lexed.{NextLexeme, all_faults}
use Rattle.js_grammar.specs.Lexemes.{LexicalGoal, division, regular_expression, template_tail, hashbang, Opening, a_template, kind_in, kind_of, opening, plain_kind}
use Rattle.js_grammar.specs.LexicalFaults.{behind}
use Rattle.js_grammar.specs.Longest.{joined}
use Rattle.js_grammar.specs.Strings.{nothing_left}
use Rattle.js_grammar.specs.Templates.{closes_template, part_kind, template_kind, template_tail_kind}
use Rattle.js_grammar.proofs.Lexemes.{first_or}
use Rattle.laws_shared.specs.part_words.Places.{Word}
use Rattle.laws_shared.proofs.js_lex.Giving.{behind_ascii}
use Rattle.laws_shared.proofs.part_words.KindsOfLexemes.{hashbang_is, opened_is, pattern_is, plain_end}
use Rattle.laws_shared.proofs.js_lex.Marks.{split_word}
use Rattle.laws_shared.proofs.part_scan.StringPlaces.{front_word}
use Rattle.laws_primary.specs.Templates.{last_parts, parts}

-- ---- how the characters of a part end

-- `${`, or a backquote
abbrev closing : Bool → List ℕ
closing true = 36 ∷ 123 ∷ []
closing false = 96 ∷ []

record EndsWith (w tail : List ℕ) : Type 0 where
  before : List ℕ
  splits : w ≡ before ++ tail

abbrev ends_here : Bool → List ℕ → Option Bool
ends_here opens v = elim (nothing_left v) [ true ↦ Some opens | false ↦ None ]

abbrev chosen : Bool → Bool → List ℕ → Option Bool → Option Bool
chosen p q w r = elim p [ true ↦ ends_here false w | false ↦ elim q [ true ↦ ends_here true w | false ↦ r ] ]

nothing_behind : (b o : Bool) (v : List ℕ) → ends_here b v ≡ Some o → (v ≡ []) × (b ≡ o)
nothing_behind b o [] h = (refl, let k = h in cc)
nothing_behind b o (c ∷ v) h = absurd (let k = h in cc)

-- the brace alone stands behind a `$` that stood before
ends_part : (e d : Bool) (w : List ℕ) (o : Bool) → closes_template e d w ≡ Some o → EndsWith w (closing o) ⊎ ((d ≡ true) × (o ≡ true) × (w ≡ 123 ∷ []))
ends_part e d [] o h = absurd (let k = h in cc)
ends_part e d (c ∷ cs) o h = go (not e && (c == 96)) refl (d && (c == 123)) refl h (λ k. ends_part (not e && (c == 92)) (not e && (c == 36)) cs o k)
  where
    go : (p : Bool) → (not e && (c == 96)) ≡ p → (q : Bool) → (d && (c == 123)) ≡ q
        → chosen p q cs (closes_template (not e && (c == 92)) (not e && (c == 36)) cs) ≡ Some o
        → (closes_template (not e && (c == 92)) (not e && (c == 36)) cs ≡ Some o → EndsWith cs (closing o) ⊎ (((not e && (c == 36)) ≡ true) × (o ≡ true) × (cs ≡ 123 ∷ [])))
        → EndsWith (c ∷ cs) (closing o) ⊎ ((d ≡ true) × (o ≡ true) × (c ∷ cs ≡ 123 ∷ []))
    go true u q v k f =
        let z = nothing_behind false o cs k in
        let n : c ≡ 96 = eqb-true c 96 (and_parts (not e) (c == 96) u).1 in
        inl (record { before = []; splits = (λ i. n i ∷ z.0 i) ∙ ap closing z.1 })
    go false u true v k f =
        let z = nothing_behind true o cs k in
        let y = and_parts d (c == 123) v in
        inr (y.0, sym z.1, λ i. eqb-true c 123 y.1 i ∷ z.0 i)
    go false u false v k f = on (f k)
      where
        on : EndsWith cs (closing o) ⊎ (((not e && (c == 36)) ≡ true) × (o ≡ true) × (cs ≡ 123 ∷ [])) → EndsWith (c ∷ cs) (closing o) ⊎ ((d ≡ true) × (o ≡ true) × (c ∷ cs ≡ 123 ∷ []))
        on (inl z) = inl (record { before = c ∷ z.before; splits = ap (λ (l : List ℕ). c ∷ l) z.splits })
        on (inr z) = inl (record { before = []; splits = (λ i. eqb-true c 36 (and_parts (not e) (c == 36) z.0).1 i ∷ z.2 i) ∙ ap closing (sym z.1) })

-- the characters of a part: its opening, its inside and its closing
record PartWord (w : List ℕ) (k : Kind) : Type 0 where
  opens : ℕ
  ascii : opens < 128
  inside : List ℕ
  closes : List ℕ
  splits : w ≡ opens ∷ (inside ++ closes)
  long : width closes ≡ cond (one_of_kinds last_parts k) 1 2

part_of : (last more k : Kind) (r : Option Bool) → part_kind last more r ≡ Some k → (o : Bool) × (r ≡ Some o) × (k ≡ cond o more last)
part_of last more k None h = absurd (let z = h in cc)
part_of last more k (Some true) h = (true, refl, let z = h in cc)
part_of last more k (Some false) h = (false, refl, let z = h in cc)

closed_part : (q : ℕ) → q < 128 → (last more k : Kind) → ((o : Bool) → width (closing o) ≡ cond (one_of_kinds last_parts (cond o more last)) 1 2) → (c : ℕ) (cs : List ℕ) → c ≡ q → part_kind last more (closes_template false false cs) ≡ Some k → PartWord (c ∷ cs) k
closed_part q a last more k long c cs e h =
    let z = part_of last more k (closes_template false false cs) h in
    go z.0 z.2 (ends_part false false cs z.0 z.1)
  where
    go : (o : Bool) → k ≡ cond o more last → EndsWith cs (closing o) ⊎ ((false ≡ true) × (o ≡ true) × (cs ≡ 123 ∷ [])) → PartWord (c ∷ cs) k
    go o n (inl x) = record { opens = q; ascii = a; inside = x.before; closes = closing o; splits = λ i. e i ∷ x.splits i; long = long o ∙ ap (λ (v : Kind). cond (one_of_kinds last_parts v) 1 2) (sym n) }
    go o n (inr x) = absurd (false≢true x.0)

head_closes : (o : Bool) → width (closing o) ≡ cond (one_of_kinds last_parts (cond o TemplateHead NoSubstitutionTemplate)) 1 2
head_closes true = refl
head_closes false = refl

tail_closes : (o : Bool) → width (closing o) ≡ cond (one_of_kinds last_parts (cond o TemplateMiddle TemplateTail)) 1 2
tail_closes true = refl
tail_closes false = refl

head_word : (c : ℕ) (cs : List ℕ) (k : Kind) → template_kind (c ∷ cs) ≡ Some k → PartWord (c ∷ cs) k
head_word c cs k h = go (c == 96) refl h
  where
    go : (b : Bool) → (c == 96) ≡ b → elim b as (λ _. Option Kind) [ true ↦ part_kind NoSubstitutionTemplate TemplateHead (closes_template false false cs) | false ↦ None ] ≡ Some k → PartWord (c ∷ cs) k
    go true e q = closed_part 96 (omega arith) NoSubstitutionTemplate TemplateHead k head_closes c cs (eqb-true c 96 e) q
    go false e q = absurd (let z = q in cc)

tail_word : (c : ℕ) (cs : List ℕ) (k : Kind) → template_tail_kind (c ∷ cs) ≡ Some k → PartWord (c ∷ cs) k
tail_word c cs k h = go (c == 125) refl h
  where
    go : (b : Bool) → (c == 125) ≡ b → elim b as (λ _. Option Kind) [ true ↦ part_kind TemplateTail TemplateMiddle (closes_template false false cs) | false ↦ None ] ≡ Some k → PartWord (c ∷ cs) k
    go true e q = closed_part 125 (omega arith) TemplateTail TemplateMiddle k tail_closes c cs (eqb-true c 125 e) q
    go false e q = absurd (let z = q in cc)

-- ---- of a lexeme

some-opening : (a b : Opening) → Some a ≡ Some b → a ≡ b
some-opening a b e = cc

abbrev IsPlainPart : ℕ → List ℕ → List ℕ → Kind → Type 0
IsPlainPart c cs rest j = plain_kind (c ∷ cs) rest ≡ Some j → PartWord (c ∷ cs) j

plain_part : (c : ℕ) (cs rest : List ℕ) (k : Kind) → one_of_kinds parts k ≡ true → IsPlainPart c cs rest k
plain_part c cs rest k h =
    first_or (IsPlainPart c cs rest) NoSubstitutionTemplate k _ _ refl h (λ q. of_head NoSubstitutionTemplate (opened_is c cs rest NoSubstitutionTemplate q) q) (λ h.
    first_or (IsPlainPart c cs rest) TemplateHead k _ _ refl h (λ q. of_head TemplateHead (opened_is c cs rest TemplateHead q) q) (λ h.
    first_or (IsPlainPart c cs rest) TemplateMiddle k _ _ refl h (λ q. absurd (let z = opened_is c cs rest TemplateMiddle q in cc)) (λ h.
    first_or (IsPlainPart c cs rest) TemplateTail k _ _ refl h (λ q. absurd (let z = opened_is c cs rest TemplateTail q in cc)) (λ h. absurd (false≢true h)))))
  where
    of_head : (j : Kind) → Some a_template ≡ Some (opening c (begins is_decimal cs)) → plain_kind (c ∷ cs) rest ≡ Some j → PartWord (c ∷ cs) j
    of_head j o q = head_word c cs j (ap (λ (p : Opening). kind_of p (c ∷ cs) rest) (some-opening a_template (opening c (begins is_decimal cs)) o) ∙ q)

part_word : (g : LexicalGoal) (w rest : List ℕ) (k : Kind) → one_of_kinds parts k ≡ true → kind_in g w rest ≡ Some k → PartWord w k
part_word division [] rest k h q = absurd (false≢true (subst (λ (v : Kind). one_of_kinds parts v ≡ true) (plain_end rest k q).0 h))
part_word division (c ∷ cs) rest k h q = plain_part c cs rest k h q
part_word regular_expression w rest k h q = absurd (false≢true (subst (λ (v : Kind). one_of_kinds parts v ≡ true) (pattern_is w k q) h))
part_word template_tail [] rest k h q = absurd (let z = q in cc)
part_word template_tail (c ∷ cs) rest k h q = tail_word c cs k q
part_word hashbang w rest k h q = absurd (false≢true (subst (λ (v : Kind). one_of_kinds parts v ≡ true) (hashbang_is w k q) h))

-- The inside of a part that stands there, by its kind.
pub record IsInside (text : List ℕ) (from to : ℕ) (k : Kind) : Type 0 where
  pub fits : from + 1 ≤ to - cond (one_of_kinds last_parts k) 1 2
  pub starts : IsCharBoundary text (from + 1)
  pub ends : IsCharBoundary text (to - cond (one_of_kinds last_parts k) 1 2)

pub part_inside : {text : List ℕ} {s : ℕ} {y : Lexeme} → IsUtf8 text → IsCharBoundary text s → (l : NextLexeme all_faults text s y) → one_of_kinds parts y.kind ≡ true → IsInside text y.from y.to y.kind
part_inside {text} {s} {y} u b l h =
    let p = part_word l.goal l.word l.rest y.kind h l.lexeme.kind in
    let before : Word text s y.from (joined l.trivia) = subst (λ (n : ℕ). Word text s n (joined l.trivia)) (sym l.from) (front_word text s (joined l.trivia) (l.word ++ l.rest) u b l.stands.splits) in
    let here : behind text y.from ≡ l.word ++ l.rest = append_cancel_left (joined l.trivia) (behind text y.from) (l.word ++ l.rest) (sym before.splits ∙ l.stands.splits) in
    let word : Word text y.from y.to l.word = subst (λ (n : ℕ). Word text y.from n l.word) (sym l.to) (front_word text y.from l.word l.rest u before.boundary here) in
    let whole : Word text y.from y.to (p.opens ∷ (p.inside ++ p.closes)) = subst (λ (w : List ℕ). Word text y.from y.to w) p.splits word in
    let two = split_word text y.from y.to (p.opens ∷ p.inside) p.closes u before.boundary whole in
    let one : len_utf8 p.opens ≡ 1 = len_utf8_ascii p.opens p.ascii in
    let there : y.from + width (p.opens ∷ p.inside) ≡ y.to - cond (one_of_kinds last_parts y.kind) 1 2 = (let e = two.1.end in let n = p.long in omega arith) in
    record {
      fits = omega arith;
      starts = behind_ascii text y.from y.to p.opens (p.inside ++ p.closes) u before.boundary p.ascii whole;
      ends = subst (λ (n : ℕ). IsCharBoundary text n) there two.0.boundary;
    }
