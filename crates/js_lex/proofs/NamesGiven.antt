-- A name token that was given, as what may be decoded.
use Rattle.std.proofs.Common.{◌≡◌, ◌+◌, ◌++◌, ℕ, Bool, true, false, List, [], ◌∷◌, refl, sym, subst, ap, ◌∙◌, Option, Some, None}
use Rattle.std.specs.Prelude.{IsSome, chars, slice_range, flat_map}
use Rattle.std.specs.Char.{encode_utf8}
use Rattle.std.specs.List.{list_all}
use Rattle.js_base.specs.declared.kind.Kind.{Kind}
use Rattle.js_base.specs.declared.kind.Kind.TheVariants.{Undetermined, Eof, RAngle, GtEq, ShiftRight, ShiftRightEq, ShiftRight3, ShiftRight3Eq}
use Rattle.js_base.specs.declared.token.Token.{Token}
use Rattle.js_base.specs.Kinds.{one_of_kinds}
use Rattle.js_base.specs.KindSets.{identifier_name_kinds}
use Rattle.js_base.specs.part_text.Characters.{is_decimal, is_scalar}
use Rattle.js_base.specs.part_text.Escapes.{in_name, code_points}
use Rattle.js_base.specs.part_text.Decoding.{utf8_of, only_if, name_text}
use Rattle.part_words.specs.js_grammar.Characters.{width, begins, is_identifier_start, is_identifier_part}
use Rattle.part_words.specs.js_grammar.Names.{is_plain_name, named, name_of, word_of}
use Rattle.part_words.specs.js_grammar.Lexemes.{division, kind_in, kind_of, Opening, opening, a_name, a_punctuator}
use Rattle.part_words.specs.js_grammar.LexicalFaults.{behind}
use Rattle.part_words.proofs.js_grammar.LongestLemmas.{both, both-left, both-right}
use Rattle.part_words.specs.declared.name.Position.TheVariants.{Start, Part}
use Rattle.part_words.specs.Places.{Word}
use Rattle.js_lex.specs.States.{State}
use Rattle.js_lex.specs.Reading.{is_right_angle, GivesNext}
use Rattle.js_lex.proofs.Again.{passed, given_start, cut_kind, cut_same}
use Rattle.part_words.proofs.Flags.{spelled}
use Rattle.js_lex.proofs.Given.{lexeme_given}
use Rattle.part_words.proofs.KindsOfLexemes.{opened, opened_is, opened_member, unopened, plain_end}
use Rattle.part_words.proofs.NameSurrogates.{may_stand-scalar}
use Rattle.part_scan.proofs.StringPlaces.{front_word}

-- ---- what characters are that are a name

named_parts : (o : Option (List ℕ)) (ps : List ℕ) → named o ≡ Some ps → (o ≡ Some ps) × (is_plain_name ps ≡ true)
named_parts None ps e = cc
named_parts (Some cs) ps e = go (is_plain_name cs) refl e
  where
    go : (b : Bool) → is_plain_name cs ≡ b → elim b [ true ↦ Some cs | false ↦ None ] ≡ Some ps → (Some cs ≡ Some ps) × (is_plain_name ps ≡ true)
    go true f g = (g, let h : cs ≡ ps = cc in subst (λ (v : List ℕ). is_plain_name v ≡ true) h f)
    go false f g = absurd (let h = g in cc)

scalar_part : (c : ℕ) → is_identifier_part c ≡ true → is_scalar c ≡ true
scalar_part c h = go (is_scalar c) refl
  where
    go : (b : Bool) → is_scalar c ≡ b → is_scalar c ≡ true
    go true e = e
    go false e = absurd (let n = may_stand-scalar Part c e in cc)

scalar_start : (c : ℕ) → is_identifier_start c ≡ true → is_scalar c ≡ true
scalar_start c h = go (is_scalar c) refl
  where
    go : (b : Bool) → is_scalar c ≡ b → is_scalar c ≡ true
    go true e = e
    go false e = absurd (let n = may_stand-scalar Start c e in cc)

scalar_parts : (cs : List ℕ) → list_all is_identifier_part cs ≡ true → list_all is_scalar cs ≡ true
scalar_parts [] h = refl
scalar_parts (c ∷ cs) h = both (is_scalar c) (list_all is_scalar cs) (scalar_part c (both-left (is_identifier_part c) (list_all is_identifier_part cs) h)) (scalar_parts cs (both-right (is_identifier_part c) (list_all is_identifier_part cs) h))

plain_scalars : (ps : List ℕ) → is_plain_name ps ≡ true → list_all is_scalar ps ≡ true
plain_scalars [] h = cc
plain_scalars (c ∷ cs) h = both (is_scalar c) (list_all is_scalar cs) (scalar_start c (both-left (is_identifier_start c) (list_all is_identifier_part cs) h)) (scalar_parts cs (both-right (is_identifier_start c) (list_all is_identifier_part cs) h))

-- each escape of a name is well-formed, and names no surrogate
pub name_stands_for : (w ps : List ℕ) → name_of w ≡ Some ps → IsSome (name_text w)
name_stands_for w ps e =
    let n = named_parts (code_points in_name w) ps e in
    subst (λ (o : Option (List ℕ)). IsSome (utf8_of o)) (sym n.0) (subst (λ (b : Bool). IsSome (only_if b (flat_map encode_utf8 ps))) (sym (plain_scalars ps n.1)) refl)

some_name : (o : Option (List ℕ)) (k : Kind) → word_of o ≡ Some k → (ps : List ℕ) × (o ≡ Some ps)
some_name None k e = cc
some_name (Some ps) k e = (ps, refl)

-- ---- the token

pub word_opened : (k : Kind) → one_of_kinds identifier_name_kinds k ≡ true → opened k ≡ Some a_name
word_opened k h = opened_member a_name identifier_name_kinds k h refl

no_angle : (k : Kind) → opened k ≡ Some a_name → is_right_angle k ≡ false
no_angle k h = go (is_right_angle k) refl
  where
    go : (b : Bool) → is_right_angle k ≡ b → is_right_angle k ≡ false
    go false e = e
    go true e = absurd (let n : opened k ≡ Some a_punctuator = opened_member a_punctuator (RAngle ∷ GtEq ∷ ShiftRight ∷ ShiftRightEq ∷ ShiftRight3 ∷ ShiftRight3Eq ∷ []) k e refl in cc)

pub name_of_kind : (w rest : List ℕ) (k : Kind) → kind_in division w rest ≡ Some k → opened k ≡ Some a_name → IsSome (name_text w)
name_of_kind [] rest k h o = absurd (let z = (plain_end rest k h).0 in let n : opened Eof ≡ Some a_name = subst (λ (j : Kind). opened j ≡ Some a_name) z o in cc)
name_of_kind (c ∷ cs) rest k h o =
    let q : opening c (begins is_decimal cs) ≡ a_name = some-opening _ _ (sym (opened_is c cs rest k h) ∙ o) in
    let f : word_of (name_of (c ∷ cs)) ≡ Some k = sym (ap (λ (p : Opening). kind_of p (c ∷ cs) rest) q) ∙ h in
    let n = some_name (name_of (c ∷ cs)) k f in
    name_stands_for (c ∷ cs) n.0 n.1
  where
    some-opening : (a b : Opening) → Some a ≡ Some b → a ≡ b
    some-opening a b e = cc

-- a name token that was given may be decoded by `decode_name`
pub name_given : (old new : State) (t : Token) → one_of_kinds identifier_name_kinds t.kind ≡ true → GivesNext division old new t → IsSome (name_text (chars (slice_range new.text t.span.start t.span.end)))
name_given old new t k g =
    let o = word_opened t.kind k in
    let l = lexeme_given old.goal old.text old.place t g.faults (unopened Undetermined t.kind a_name refl o) g.outcome in
    let kind : l.lexeme.kind ≡ t.kind = cut_kind l.lexeme t.kind (sym l.tells.kind) (λ e. let n : opened RAngle ≡ Some a_name = subst (λ (j : Kind). opened j ≡ Some a_name) (sym e) o in cc) in
    let same = cut_same l.lexeme (ap is_right_angle kind ∙ no_angle t.kind o) in
    let p = passed g.utf8 g.between l.stands in
    let i : t.span.start ≡ l.lexeme.from = given_start l.lexeme l.tells in
    let j : t.span.end ≡ l.lexeme.to = l.tells.end ∙ ap (λ y. y.to) same in
    let here : behind old.text t.span.start ≡ p.word ++ p.rest = ap (behind old.text) i ∙ p.here in
    let w : Word old.text t.span.start (t.span.start + width p.word) p.word = front_word old.text t.span.start p.word p.rest g.utf8 g.lies.starts_whole here in
    let to : t.span.end ≡ t.span.start + width p.word = j ∙ p.to ∙ ap (λ (n : ℕ). n + width p.word) (sym i) in
    let v : Word old.text t.span.start t.span.end p.word = subst (λ (n : ℕ). Word old.text t.span.start n p.word) (sym to) w in
    let text : chars (slice_range new.text t.span.start t.span.end) ≡ p.word = ap (λ (v : List ℕ). chars (slice_range v t.span.start t.span.end)) g.same.text ∙ spelled old.text t.span.start t.span.end p.word g.utf8 g.lies.starts_whole g.lies.ordered v in
    subst (λ (v : List ℕ). IsSome (name_text v)) (sym text) (name_of_kind p.word p.rest l.lexeme.kind p.lexeme.kind (subst (λ (q : Kind). opened q ≡ Some a_name) (sym kind) o))
