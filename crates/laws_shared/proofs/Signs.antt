-- Whether a lexeme of some kind stands at a place, and what is kept there.
use Rattle.std.proofs.Common.{ℕ, ◌≡◌, ◌≤◌, List, [], ◌∷◌, length, Bool, true, false, not, ◌&&◌, ◌||◌, IsTrue, refl, sym, ap, subst, arith, ◌∙◌}
use Rattle.std.proofs.lemmas.Bool.{false≢true, and_parts, not-true}
use Rattle.js_base.specs.declared.kind.Kind.{Kind}
use Rattle.js_base.specs.declared.kind.Kind.TheVariants.{Question, Colon, PrivateIdentifier, RAngle, Undetermined}
use Rattle.js_base.specs.declared.span.Span.{Span}
use Rattle.js_base.specs.Kinds.{same_kind, one_of_kinds}
use Rattle.js_base.specs.Texts.{words}
use Rattle.js_grammar.specs.Grammar.{Lexeme, Look, is, seen}
use Rattle.js_grammar.specs.Lexemes.{is_word, is_escaped}
use Rattle.js_grammar.specs.Names.{has_backslash}
use Rattle.js_grammar.specs.Productions.{Flags}
use Rattle.js_cursor.specs.Parsers.{Parser}
use Rattle.js_cursor.specs.Moves.{is_last}
use Rattle.js_base.proofs.KindLemmas.{kind_of_same}
use Rattle.js_grammar.specs.Lexed.{NextLexeme, all_faults}
use Rattle.laws_shared.specs.Lexemes.{Lex, other_goals, is_read_kind}
use Rattle.laws_shared.specs.States.{At}
use Rattle.laws_shared.proofs.Here.{found, told_plain, uncut, kind_here, unsettled}
use Rattle.laws_shared.proofs.Escapes.{escapable_kinds, read_listed, read_plain}
use Rattle.std.proofs.Common.{◌<◌, ◌⊎◌, inl, inr, length-append, cond, nat_lt}
use Rattle.std.proofs.lemmas.Bool.{or_left, or_right, lt-ltb}
use Rattle.js_base.specs.declared.kind.Kind.TheVariants.{Eof, Comma, Semicolon, RParen, RBrack}
use Rattle.js_grammar.proofs.Lexemes.{first_or}
use Rattle.js_grammar.proofs.Looks.{covers, covered}
use Rattle.js_cursor.specs.js_lex.Reading.{Tells}
use Rattle.laws_shared.specs.Answers.{Grown, Verdict, clean, unclean, wider}
use Rattle.laws_shared.specs.Moves.{IsWholeHere, Tightness, unpassable}
use Rattle.laws_shared.specs.Operators.{power_of}
use Rattle.laws_shared.specs.Stands.{ending_kinds, Ended}
use Rattle.laws_shared.specs.States.{IsPlain, whole, sign, nothing as no_lexeme}
use Rattle.laws_shared.proofs.Paths.{read_of}
use Rattle.laws_shared.proofs.Tight.{operator_read}
use Rattle.js_cursor.specs.js_lex.Reading.{is_right_angle}
use Rattle.laws_shared.specs.Stands.{StandsHere}
use Rattle.laws_shared.proofs.Here.{angled, escaped_here, sign_here}
use Rattle.js_base.specs.declared.kind.Kind.TheVariants.{RCurly, RegExp}
use Rattle.laws_shared.specs.Lexemes.{slashes, template_tails}

unescaped : (k : Kind) (u : List ℕ) → (is_word k || same_kind PrivateIdentifier k) ≡ false → is_escaped k u ≡ false
unescaped k u w = ap (λ (b : Bool). b && has_backslash u) w

-- a punctuator has no escape
pub plain_sign : {text : List ℕ} {f : Flags} {p : Parser} (k : Kind) → At text f p → p.token.kind ≡ k → same_kind RAngle k ≡ false → is_last k ≡ false → (is_word k || same_kind PrivateIdentifier k) ≡ false → p.token.escaped ≡ false
plain_sign k a e r l w =
    let z = found a (uncut a (ap (same_kind RAngle) e ∙ r)) (ap is_last e ∙ l) in
    let i = sym z.2.kind ∙ e in
    z.2.escaped ∙ (z.1.escaped ∙ (ap (λ (v : Kind). is_escaped v z.1.word) i ∙ unescaped k z.1.word w))

-- neither a word nor the end of the text, and not cut
abbrev pub signlike : Look
signlike k w e = not (same_kind RAngle k) && (not (is_last k) && not (is_word k || same_kind PrivateIdentifier k))

pub plain_among : {text : List ℕ} {f : Flags} {p : Parser} (ks : List Kind) → At text f p → covers (λ k w e. one_of_kinds ks k) signlike ≡ true → one_of_kinds ks p.token.kind ≡ true → p.token.escaped ≡ false
plain_among {p = p} ks a c h =
    let k = p.token.kind in
    let x = and_parts (not (same_kind RAngle k)) _ (covered (λ k w e. one_of_kinds ks k) signlike c k false false h) in
    let y = and_parts (not (is_last k)) _ x.1 in
    plain_sign k a refl (not-true (same_kind RAngle k) x.0) (not-true (is_last k) y.0) (not-true (is_word k || same_kind PrivateIdentifier k) y.1)

-- it may be passed
pub whole_sign : {text : List ℕ} {f : Flags} {p : Parser} (k : Kind) → At text f p → p.token.kind ≡ k → same_kind RAngle k ≡ false → unpassable k ≡ false → IsWholeHere p
whole_sign k a e r l = (uncut a (ap (same_kind RAngle) e ∙ r), ap unpassable e ∙ l)

pub other_kind : (a k : Kind) → (k ≡ a → ⊥) → one_of_kinds (a ∷ []) k ≡ false
other_kind a k n = go (same_kind a k) refl
  where
    go : (b : Bool) → same_kind a k ≡ b → (b || false) ≡ false
    go true e = absurd (n (sym (kind_of_same a k e)))
    go false e = refl

of_ending : (P : Kind → Type 0) (k : Kind) → one_of_kinds ending_kinds k ≡ true → P Eof → P Question → P Colon → P Comma → P Semicolon → P RParen → P RBrack → P k
of_ending P k h a b c d e f g = first_or P Eof k _ _ refl h a (λ h. first_or P Question k _ _ refl h b (λ h. first_or P Colon k _ _ refl h c (λ h. first_or P Comma k _ _ refl h d (λ h. first_or P Semicolon k _ _ refl h e (λ h. first_or P RParen k _ _ refl h f (λ h. first_or P RBrack k _ _ refl h g (λ h. absurd (false≢true h))))))))

ending_plain : (k : Kind) → one_of_kinds ending_kinds k ≡ true → ((is_word k || same_kind PrivateIdentifier k) ≡ false) × (is_read_kind k ≡ true) × (k ≡ Undetermined → ⊥)
unfolding words
ending_plain k h = of_ending (λ k. ((is_word k || same_kind PrivateIdentifier k) ≡ false) × (is_read_kind k ≡ true) × (k ≡ Undetermined → ⊥)) k h (refl, refl, λ e. cc) (refl, refl, λ e. cc) (refl, refl, λ e. cc) (refl, refl, λ e. cc) (refl, refl, λ e. cc) (refl, refl, λ e. cc) (refl, refl, λ e. cc)

-- a lexeme stands there, be it the end
there : {text : List ℕ} {f : Flags} {p : Parser} → At text f p → p.cut ≡ false → (p.token.kind ≡ Undetermined → ⊥) → (y : Lexeme) × NextLexeme all_faults text p.prev_token_end y × Tells y p.token
there {text} {p = p} a c n = go a.plain
  where
    go : IsPlain text p → (y : Lexeme) × NextLexeme all_faults text p.prev_token_end y × Tells y p.token
    go (whole q m x) = (x.lexeme, x.stands.lex, x.tells)
    go (sign q k x) = absurd (false≢true (sym c ∙ q))
    go (no_lexeme q k m) = absurd (n k)

pub plain_of : (k : Kind) (u : List ℕ) (b : Bool) → b ≡ is_escaped k u → (is_word k || same_kind PrivateIdentifier k) ≡ false → b ≡ false
plain_of k u b e w = e ∙ ap (λ (z : Bool). z && has_backslash u) w

ending_there : {text : List ℕ} {f : Flags} {p : Parser} → At text f p → p.cut ≡ false → one_of_kinds ending_kinds p.token.kind ≡ true → (y : Lexeme) × Lex text p.prev_token_end y × (y.kind ≡ p.token.kind)
ending_there {text} {p = p} a c h =
    let k = ending_plain p.token.kind h in
    let z = there a c k.2 in
    let e : z.0.kind ≡ p.token.kind = sym z.2.kind in
    (z.0, (z.1, read_of z.0 e k.1), e)

strong : (power : ℕ) (e : Bool) (k : ℕ) → power ≡ cond e 0 k → 1 ≤ power → (e ≡ false) × (1 ≤ k)
strong power true k h l = absurd (omega arith)
strong power false k h l = (refl, omega arith)

pub ended : {text : List ℕ} {f : Flags} {p q : Parser} {power : ℕ} (b : Bool) → Tightness text f p q power → (IsTrue b → (one_of_kinds ending_kinds q.token.kind ≡ true) ⊎ (1 ≤ power)) → Ended text f p q b
ended {text} {f} {p} {q} {power} b o h = record { at = o.at; same = o.same; nodes = o.nodes; kept = o.kept; place = o.place; lexeme = λ t. go (h t) }
  where
    not_last : (k : Kind) → 1 ≤ power_of f.in_ k → k ≡ Undetermined → ⊥
    not_last Undetermined l e = absurd (omega arith)
    not_last _ l e = absurd (cc)

    go : (one_of_kinds ending_kinds q.token.kind ≡ true) ⊎ (1 ≤ power) → (y : Lexeme) × Lex text q.prev_token_end y × (y.escaped ≡ false) × IsTrue (one_of_kinds ending_kinds y.kind || nat_lt 0 (power_of f.in_ y.kind))
    go (inl e) =
        let z = ending_there o.at o.uncut e in
        let k = subst (λ (k : Kind). one_of_kinds ending_kinds k ≡ true) (sym z.2) e in
        (z.0, z.1, read_listed ending_kinds z.0 z.1 k refl, or_left _ _ k)
    go (inr l) =
        let s = strong power q.token.escaped (power_of f.in_ q.token.kind) o.is l in
        let z = there o.at o.uncut (not_last q.token.kind s.1) in
        let e : z.0.kind ≡ q.token.kind = sym z.2.kind in
        (z.0, (z.1, read_of z.0 e (operator_read f.in_ q.token.kind true s.1).0), sym z.2.escaped ∙ s.0, or_right (one_of_kinds ending_kinds z.0.kind) _ (lt-ltb 0 (power_of f.in_ z.0.kind) (subst (λ (k : Kind). 0 < power_of f.in_ k) (sym e) (let i = s.1 in omega arith))))

grown_length : {K : Type 0} {old new : List K} → Grown old new → length old < length new
grown_length {K} {old} {new} g = let a = ap length g.kept in let b = length-append old g.more in let c = positive g.more g.some in omega arith
  where
    positive : (l : List K) → (l ≡ [] → ⊥) → 0 < length l
    positive [] n = absurd (n refl)
    positive (x ∷ l) n = omega arith

-- no more diagnostics than before: none was kept
pub none_kept : {W K : Type 0} {old new : List K} {C B : Type 0} → Verdict W old new C B → length new ≡ length old → C
none_kept (clean e c) l = c
none_kept (unclean g b) l = let h = grown_length g in absurd (omega arith)
none_kept (wider w g c) l = c

-- what is said where a call gave up
pub grew : {W K : Type 0} {old new : List K} {C B : Type 0} (kept : ℕ) → kept ≡ length old → (length new ≡ kept → ⊥) → Verdict W old new C B → Grown old new
grew kept k h (clean e c) = absurd (h (ap length e ∙ sym k))
grew kept k h (unclean g b) = g
grew kept k h (wider w g c) = g

pub span_is : {from to : ℕ} (s : Span) → s.start ≡ from → s.end ≡ to → s ≡ record { start = from; end = to }
span_is s a b = λ i. record { start = a i; end = b i }

-- what stands there is of this kind, without an escape
abbrev pub AllAre : List ℕ → ℕ → Kind → Type 0
AllAre text s k = (y : Lexeme) → Lex text s y → (y.kind ≡ k) × (y.escaped ≡ false)

-- nothing of this kind without an escape stands there
abbrev pub NoneIs : List ℕ → ℕ → Kind → Type 0
NoneIs text s k = (y : Lexeme) → Lex text s y → y.kind ≡ k → y.escaped ≡ false → ⊥

pub none_seen : {text : List ℕ} {s : ℕ} {k : Kind} → NoneIs text s k → (y : Lexeme) → Lex text s y → IsTrue (seen (is k) y) → ⊥
none_seen {k = k} n y l h = let z = and_parts (same_kind k y.kind) (not y.escaped) h in n y l (sym (kind_of_same k y.kind z.0)) (not-true y.escaped z.1)

module _ {text : List ℕ} {f : Flags} {p : Parser} (a : At text f p) where
  pub word_there : {k : Kind} → p.token.kind ≡ k → p.token.escaped ≡ false → one_of_kinds unsettled k ≡ false → AllAre text p.prev_token_end k
  word_there e w n y l = (kind_here a e n y l, escaped_here a y l ∙ w)

  -- of a sign
  pub stands_there : {k : Kind} → p.token.kind ≡ k → (one_of_kinds escapable_kinds k || one_of_kinds unsettled k) ≡ false → AllAre text p.prev_token_end k
  stands_there {k} e n y l = go (one_of_kinds escapable_kinds k) refl n
    where
      go : (b : Bool) → one_of_kinds escapable_kinds k ≡ b → (b || one_of_kinds unsettled k) ≡ false → (y.kind ≡ k) × (y.escaped ≡ false)
      go true i h = absurd (false≢true (sym h))
      go false i h = let z = kind_here a e h y l in (z, read_plain y l z i)

  pub stands_not : {k : Kind} → (is_right_angle k || one_of_kinds other_goals k) ≡ false → StandsHere p k false → NoneIs text p.prev_token_end k
  stands_not {k} n s y l e w = go p.cut refl
    where
      apart_both : (a b : Bool) → (a || b) ≡ false → (a ≡ false) × (b ≡ false)
      apart_both true b h = absurd (false≢true (sym h))
      apart_both false b h = (refl, h)

      neither : (is_right_angle k ≡ false) × (one_of_kinds other_goals k ≡ false)
      neither = apart_both (is_right_angle k) (one_of_kinds other_goals k) n

      go : (b : Bool) → p.cut ≡ b → ⊥
      go true c = false≢true (sym neither.0 ∙ subst (λ v. is_right_angle v ≡ true) e (angled a c y l))
      go false c = s ((told_plain a c y (ap (one_of_kinds other_goals) e ∙ neither.1) l).kind ∙ e) (sym (escaped_here a y l) ∙ w)

-- what stands there is the closing brace, or a part of a template that begins with it
abbrev pub AllClose : List ℕ → ℕ → Type 0
AllClose text s = (y : Lexeme) → Lex text s y → (one_of_kinds (RCurly ∷ template_tails) y.kind ≡ true) × (y.escaped ≡ false)

pub closing_there : {text : List ℕ} {f : Flags} {p : Parser} → At text f p → p.token.kind ≡ RCurly → AllClose text p.prev_token_end
closing_there {text} {p = p} a e y l = let z = go (one_of_kinds other_goals y.kind) refl in (z, read_listed (RCurly ∷ template_tails) y l z refl)
  where
    -- no regular expression begins with a brace
    tail : (b c : Bool) → (b || c) ≡ true → one_of_kinds (cond b slashes (cond c (RCurly ∷ []) [])) p.token.kind ≡ true → c ≡ true
    tail b true h s = refl
    tail true false h s = absurd (false≢true (ap (one_of_kinds slashes) (sym e) ∙ s))
    tail false false h s = h

    go : (r : Bool) → one_of_kinds other_goals y.kind ≡ r → one_of_kinds (RCurly ∷ template_tails) y.kind ≡ true
    go false q = or_left (same_kind RCurly y.kind) _ (subst (λ (v : Kind). same_kind RCurly v ≡ true) (sym e ∙ (told_plain a (uncut a (ap (same_kind RAngle) e)) y q l).kind) refl)
    go true q = or_right (same_kind RCurly y.kind) _ (tail (same_kind RegExp y.kind) (one_of_kinds template_tails y.kind) q (sign_here a y l q))
