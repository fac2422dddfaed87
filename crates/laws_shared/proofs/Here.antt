-- What the current token says of every lexeme that may stand at its place.
use Rattle.std.proofs.Common.{ℕ, ◌≡◌, ◌⊎◌, inl, inr, Bool, true, false, not, cond, ◌&&◌, ◌||◌, List, [], ◌∷◌, IsTrue, refl, sym, ap, subst, ◌∙◌}
use Rattle.std.specs.Prelude.{Some}
use Rattle.std.proofs.lemmas.Bool.{false≢true, and_parts, or_left, or_right}
use Rattle.js_base.specs.declared.kind.Kind.{Kind}
use Rattle.js_base.specs.declared.kind.Kind.TheVariants.{RAngle, RCurly, RegExp, TemplateMiddle, TemplateTail, HashbangComment, Undetermined}
use Rattle.js_base.specs.declared.token.Token.{Token}
use Rattle.js_base.specs.Kinds.{same_kind, one_of_kinds}
use Rattle.js_grammar.specs.Grammar.{Lexeme, Look}
use Rattle.js_grammar.specs.Lexemes.{LexicalGoal, division, regular_expression, template_tail, hashbang, kind_in}
use Rattle.js_grammar.specs.Lexed.{NextLexeme, all_faults}
use Rattle.js_grammar.specs.Productions.{Flags}
use Rattle.js_base.proofs.KindLemmas.{kind_of_same}
use Rattle.js_grammar.proofs.Alike.{lex-same}
use Rattle.js_grammar.proofs.Lexemes.{first_or}
use Rattle.js_grammar.proofs.Looks.{covers, covered}
use Rattle.js_cursor.specs.js_lex.Reading.{cut, is_right_angle, Tells, GivesLexeme, LexemeBehind}
use Rattle.js_cursor.proofs.js_lex.Again.{cut_same, cut_from, cut_newline}
use Rattle.js_cursor.proofs.part_words.KindsOfLexemes.{pattern_is, tail_is, hashbang_is}
use Rattle.js_cursor.specs.Parsers.{Parser}
use Rattle.js_cursor.specs.Moves.{is_last}
use Rattle.laws_shared.specs.Lexemes.{Lex, goal_for, is_read, other_goals, signs, signs_of, slashes, template_tails, is_read_kind}
use Rattle.laws_shared.specs.States.{At, IsPlain, whole, sign, nothing}
use Rattle.laws_shared.proofs.Slashes.{SignThere, pattern_goal, sign_there, tail_goal}

-- two lexical goals of kinds that are read
pub goal_here : (k : Kind) → one_of_kinds other_goals k ≡ false → goal_for k ≡ division
goal_here k n = go (same_kind RegExp k) refl (one_of_kinds template_tails k) refl n
  where
    go : (b : Bool) → same_kind RegExp k ≡ b → (c : Bool) → one_of_kinds template_tails k ≡ c → (b || c) ≡ false → goal_for k ≡ division
    go true e c f q = absurd (false≢true (sym q))
    go false e true f q = absurd (false≢true (sym q))
    go false e false f q = rw (e, f) refl

-- a lexeme of a kind that is read is one of its lexical goal
pub goal_is : {text : List ℕ} {s : ℕ} {y : Lexeme} (h : NextLexeme all_faults text s y) → is_read_kind y.kind ≡ true → h.goal ≡ goal_for y.kind
goal_is {y = y} h kinds = go (same_kind RegExp y.kind) refl (one_of_kinds template_tails y.kind) refl
  where
    is_none : (k : Kind) → is_read_kind k ≡ false → y.kind ≡ k → ⊥
    is_none k n e = false≢true (sym n ∙ subst (λ v. is_read_kind v ≡ true) e kinds)

    tail : (y.kind ≡ TemplateMiddle) ⊎ (y.kind ≡ TemplateTail) → one_of_kinds template_tails y.kind ≡ true
    tail (inl e) = ap (one_of_kinds template_tails) e
    tail (inr e) = ap (one_of_kinds template_tails) e

    plain : same_kind RegExp y.kind ≡ false → one_of_kinds template_tails y.kind ≡ false → (g : LexicalGoal) → h.goal ≡ g → kind_in h.goal h.word h.rest ≡ Some y.kind → h.goal ≡ division
    plain r t division e q = e
    plain r t regular_expression e q = absurd (false≢true (sym r ∙ ap (same_kind RegExp) (pattern_is h.word y.kind (subst (λ (v : LexicalGoal). kind_in v h.word h.rest ≡ Some y.kind) e q))))
    plain r t template_tail e q = absurd (false≢true (sym t ∙ tail (tail_is h.word y.kind (subst (λ (v : LexicalGoal). kind_in v h.word h.rest ≡ Some y.kind) e q))))
    plain r t hashbang e q = absurd (is_none HashbangComment refl (hashbang_is h.word y.kind (subst (λ (v : LexicalGoal). kind_in v h.word h.rest ≡ Some y.kind) e q)))

    go : (b : Bool) → same_kind RegExp y.kind ≡ b → (c : Bool) → one_of_kinds template_tails y.kind ≡ c → h.goal ≡ goal_for y.kind
    go true e c f = pattern_goal h (sym (kind_of_same RegExp y.kind e)) ∙ sym (ap (λ (v : Bool). cond v regular_expression (cond (one_of_kinds template_tails y.kind) template_tail division)) e)
    go false e true f = tail_goal h f ∙ rw (e, f) refl
    go false e false f = plain e f h.goal refl h.lexeme.kind ∙ rw (e, f) refl

-- a lexeme of a kind that is read, and of no other lexical goal, is one of the plain one
pub plain_kind : {text : List ℕ} {s : ℕ} {y : Lexeme} (h : NextLexeme all_faults text s y) → is_read_kind y.kind ≡ true → one_of_kinds other_goals y.kind ≡ false → h.goal ≡ division
plain_kind {y = y} h kinds r = goal_is h kinds ∙ goal_here y.kind r

pub plainly : {text : List ℕ} {s : ℕ} {y : Lexeme} (h : NextLexeme all_faults text s y) → IsTrue (is_read y) → one_of_kinds other_goals y.kind ≡ false → h.goal ≡ division
plainly h r = plain_kind h r

-- two lexemes that are read behind one place are one, if they are of one lexical goal
pub alike : {text : List ℕ} {s : ℕ} {y z : Lexeme} → Lex text s y → Lex text s z → goal_for y.kind ≡ goal_for z.kind → y ≡ z
alike l m e = lex-same l.0 m.0 (goal_is l.0 l.1 ∙ (e ∙ sym (goal_is m.0 m.1)))

-- two of the plain one
pub alike_plain : {text : List ℕ} {s : ℕ} {y z : Lexeme} → Lex text s y → Lex text s z → one_of_kinds other_goals y.kind ≡ false → one_of_kinds other_goals z.kind ≡ false → y ≡ z
alike_plain {y = y} {z} l m h k = alike l m (goal_here y.kind h ∙ sym (goal_here z.kind k))

-- two lexemes of the plain goal behind one place are one
pub one_plain : {text : List ℕ} {s : ℕ} {y : Lexeme} {shown : Lexeme → Lexeme} {t : Token} → Lex text s y → one_of_kinds other_goals y.kind ≡ false → (x : GivesLexeme division shown text s t) → y ≡ x.lexeme
one_plain h r x = lex-same h.0 x.stands.lex (plainly h.0 h.1 r ∙ sym x.stands.of_goal)

-- The lexeme of the plain goal where a lexeme that is read stands: this one, or the sign that one of another goal begins with.
pub record Plainly (text : List ℕ) (s : ℕ) (y : Lexeme) : Type 0 where
  pub lexeme : Lexeme
  pub stands : LexemeBehind division text s lexeme
  pub from : lexeme.from ≡ y.from
  pub newline : lexeme.newline ≡ y.newline
  pub escaped : lexeme.escaped ≡ y.escaped
  pub which : (lexeme ≡ y) ⊎ ((one_of_kinds other_goals y.kind ≡ true) × (one_of_kinds (signs_of y.kind) lexeme.kind ≡ true))

pub plain_there : {text : List ℕ} {s : ℕ} {y : Lexeme} → Lex text s y → Plainly text s y
plain_there {text} {s} {y} l = go (one_of_kinds other_goals y.kind) refl
  where
    go : (b : Bool) → one_of_kinds other_goals y.kind ≡ b → Plainly text s y
    go false h = record { lexeme = y; stands = record { lex = l.0; of_goal = plainly l.0 l.1 h }; from = refl; newline = refl; escaped = refl; which = inl refl }
    go true h = let z = sign_there l.0 h in record { lexeme = z.lexeme; stands = z.stands; from = z.from; newline = z.newline; escaped = z.escaped; which = inr (h, z.is) }

-- what the plain goal gives there is this
pub plain_same : {text : List ℕ} {s : ℕ} {y : Lexeme} {shown : Lexeme → Lexeme} {t : Token} (z : Plainly text s y) (x : GivesLexeme division shown text s t) → x.lexeme ≡ z.lexeme
plain_same z x = lex-same x.stands.lex z.stands.lex (x.stands.of_goal ∙ sym z.stands.of_goal)

-- the signs of a kind are signs
pub signs_are : (y k : Kind) → one_of_kinds (signs_of y) k ≡ true → one_of_kinds signs k ≡ true
signs_are y k h = go (same_kind RegExp y) (one_of_kinds template_tails y) h
  where
    or_false : (b : Bool) → (b || false) ≡ true → b ≡ true
    or_false true q = refl
    or_false false q = q

    go : (b c : Bool) → one_of_kinds (cond b slashes (cond c (RCurly ∷ []) [])) k ≡ true → one_of_kinds signs k ≡ true
    go true c q = or_right (same_kind RCurly k) _ q
    go false true q = or_left (same_kind RCurly k) _ (or_false (same_kind RCurly k) q)
    go false false q = absurd (false≢true q)

abbrev a_sign : Look
a_sign k w e = one_of_kinds signs k

abbrev no_sign : Look
no_sign k w e = not (is_right_angle k) && not (one_of_kinds (RAngle ∷ Undetermined ∷ []) k)

signs_apart : covers a_sign no_sign ≡ true
unfolding covers
signs_apart = refl

-- none of the signs begins with `>`
pub sign_no_angle : (k : Kind) → one_of_kinds signs k ≡ true → is_right_angle k ≡ true → ⊥
sign_no_angle k h r = false≢true (ap not (sym r) ∙ (and_parts (not (is_right_angle k)) _ (covered a_sign no_sign signs_apart k false false h)).0)

-- the kinds of a token by which it isn't settled which lexeme stands at its place
abbrev pub unsettled : List Kind
unsettled = RAngle ∷ signs

pub settled_kind : (k : Kind) → one_of_kinds unsettled k ≡ false → (same_kind RAngle k ≡ false) × (one_of_kinds signs k ≡ false)
settled_kind k n = go (same_kind RAngle k) refl n
  where
    go : (b : Bool) → same_kind RAngle k ≡ b → (b || one_of_kinds signs k) ≡ false → (same_kind RAngle k ≡ false) × (one_of_kinds signs k ≡ false)
    go true e h = absurd (false≢true (sym h))
    go false e h = (e, h)

pub cut_angle : (y : Lexeme) → (cut y).kind ≡ RAngle → is_right_angle y.kind ≡ true
cut_angle y e = go (is_right_angle y.kind) refl
  where
    go : (b : Bool) → is_right_angle y.kind ≡ b → is_right_angle y.kind ≡ true
    go true q = q
    go false q = ap is_right_angle (sym (ap (λ (z : Lexeme). z.kind) (cut_same y q)) ∙ e)

pub cut_escaped : (y : Lexeme) → (cut y).escaped ≡ y.escaped
cut_escaped y = go (is_right_angle y.kind) refl
  where
    go : (b : Bool) → is_right_angle y.kind ≡ b → (cut y).escaped ≡ y.escaped
    go true q = rw (q, cut) refl
    go false q = ap (λ (z : Lexeme). z.escaped) (cut_same y q)

abbrev another : Look
another k w e = one_of_kinds other_goals k

abbrev any_read : Look
any_read k w e = is_read_kind k

others_read : covers another any_read ≡ true
unfolding covers
others_read = refl

-- the plain goal gives no lexeme of another one
pub plain_token : {text : List ℕ} {p : Parser} → IsPlain text p → one_of_kinds other_goals p.token.kind ≡ false
plain_token {text} {p} a = go (one_of_kinds other_goals p.token.kind) refl a
  where
    apart : (k : Kind) → one_of_kinds other_goals k ≡ true → division ≡ goal_for k → ⊥
    apart k h e = first_or (λ (v : Kind). division ≡ goal_for v → ⊥) RegExp k _ _ refl h (λ e. cc) (λ h. first_or (λ (v : Kind). division ≡ goal_for v → ⊥) TemplateMiddle k _ _ refl h (λ e. cc) (λ h. first_or (λ (v : Kind). division ≡ goal_for v → ⊥) TemplateTail k _ _ refl h (λ e. cc) (λ h. absurd (false≢true h)))) e

    given : {t : Token} {shown : Lexeme → Lexeme} (x : GivesLexeme division shown text p.prev_token_end t) → one_of_kinds other_goals x.lexeme.kind ≡ true → ⊥
    given x h = apart x.lexeme.kind h (sym x.stands.of_goal ∙ goal_is x.stands.lex (covered another any_read others_read x.lexeme.kind false false h))

    go : (b : Bool) → one_of_kinds other_goals p.token.kind ≡ b → IsPlain text p → one_of_kinds other_goals p.token.kind ≡ false
    go false e z = e
    go true e (whole q n x) = absurd (given x (ap (one_of_kinds other_goals) (sym x.tells.kind) ∙ e))
    go true e (sign q k x) = ap (one_of_kinds other_goals) k
    go true e (nothing q k n) = ap (one_of_kinds other_goals) k

module _ {text : List ℕ} {f : Flags} {p : Parser} (a : At text f p) where
  -- the token tells the lexeme that stands there, unless that is one of another goal
  pub told_plain : p.cut ≡ false → (y : Lexeme) → one_of_kinds other_goals y.kind ≡ false → Lex text p.prev_token_end y → Tells y p.token
  told_plain c y r l = go a.plain
    where
      go : IsPlain text p → Tells y p.token
      go (whole q n x) = subst (λ (z : Lexeme). Tells z p.token) (sym (one_plain l r x)) x.tells
      go (sign q k x) = absurd (false≢true (sym c ∙ q))
      go (nothing q k n) = absurd (n y (record { lex = l.0; of_goal = plainly l.0 l.1 r }))

  -- where one stands, the token is one of its signs
  pub sign_here : (y : Lexeme) → Lex text p.prev_token_end y → one_of_kinds other_goals y.kind ≡ true → one_of_kinds (signs_of y.kind) p.token.kind ≡ true
  sign_here y l e = go a.plain
    where
      z : SignThere text p.prev_token_end y
      z = sign_there l.0 e

      go : IsPlain text p → one_of_kinds (signs_of y.kind) p.token.kind ≡ true
      go (whole q n x) = subst (λ (k : Kind). one_of_kinds (signs_of y.kind) k ≡ true) (ap (λ (v : Lexeme). v.kind) (lex-same z.stands.lex x.stands.lex (z.stands.of_goal ∙ sym x.stands.of_goal)) ∙ sym x.tells.kind) z.is
      go (sign q k x) =
          let same : z.lexeme ≡ x.lexeme = lex-same z.stands.lex x.stands.lex (z.stands.of_goal ∙ sym x.stands.of_goal) in
          absurd (sign_no_angle x.lexeme.kind (signs_are y.kind x.lexeme.kind (subst (λ (v : Lexeme). one_of_kinds (signs_of y.kind) v.kind ≡ true) same z.is)) (cut_angle x.lexeme (sym x.tells.kind ∙ k)))
      go (nothing q k n) = absurd (n z.lexeme z.stands)

  -- where a regular expression stands, the token is one of the two slashes
  pub slash_here : (y : Lexeme) → Lex text p.prev_token_end y → y.kind ≡ RegExp → one_of_kinds slashes p.token.kind ≡ true
  slash_here y l e = subst (λ (k : Kind). one_of_kinds (signs_of k) p.token.kind ≡ true) e (sign_here y l (ap (one_of_kinds other_goals) e))

  -- where the token is none of the signs, none stands
  pub no_other : one_of_kinds signs p.token.kind ≡ false → (y : Lexeme) → Lex text p.prev_token_end y → one_of_kinds other_goals y.kind ≡ false
  no_other u y l = go (one_of_kinds other_goals y.kind) refl
    where
      go : (b : Bool) → one_of_kinds other_goals y.kind ≡ b → one_of_kinds other_goals y.kind ≡ false
      go true e = absurd (false≢true (sym u ∙ signs_are y.kind p.token.kind (sign_here y l e)))
      go false e = e

  -- then the token tells the lexeme, whichever stands there
  pub told : p.cut ≡ false → one_of_kinds signs p.token.kind ≡ false → (y : Lexeme) → Lex text p.prev_token_end y → Tells y p.token
  told c u y l = told_plain c y (no_other u y l) l

  -- of a sign that was cut off, the lexeme is one that begins with it
  pub angled : p.cut ≡ true → (y : Lexeme) → Lex text p.prev_token_end y → is_right_angle y.kind ≡ true
  angled c y l = go a.plain
    where
      z : Plainly text p.prev_token_end y
      z = plain_there l

      go : IsPlain text p → is_right_angle y.kind ≡ true
      go (whole q n x) = absurd (false≢true (sym q ∙ c))
      go (sign q k x) = by z.which
        where
          angle : is_right_angle z.lexeme.kind ≡ true
          angle = subst (λ (v : Lexeme). is_right_angle v.kind ≡ true) (plain_same z x) (cut_angle x.lexeme (sym x.tells.kind ∙ k))

          by : (z.lexeme ≡ y) ⊎ ((one_of_kinds other_goals y.kind ≡ true) × (one_of_kinds (signs_of y.kind) z.lexeme.kind ≡ true)) → is_right_angle y.kind ≡ true
          by (inl e) = subst (λ (v : Lexeme). is_right_angle v.kind ≡ true) e angle
          by (inr e) = absurd (sign_no_angle z.lexeme.kind (signs_are y.kind z.lexeme.kind e.1) angle)
      go (nothing q k n) = absurd (false≢true (sym q ∙ c))

  -- it begins where the token does
  pub begins_here : (y : Lexeme) → Lex text p.prev_token_end y → y.from ≡ p.token.span.start
  begins_here y l = go a.plain
    where
      z : Plainly text p.prev_token_end y
      z = plain_there l

      go : IsPlain text p → y.from ≡ p.token.span.start
      go (whole q n x) = sym z.from ∙ (ap (λ (v : Lexeme). v.from) (sym (plain_same z x)) ∙ sym x.tells.start)
      go (sign q k x) = sym z.from ∙ (ap (λ (v : Lexeme). v.from) (sym (plain_same z x)) ∙ (sym (cut_from x.lexeme) ∙ sym x.tells.start))
      go (nothing q k n) = absurd (n z.lexeme z.stands)

  -- it has an escape where the token has one
  pub escaped_here : (y : Lexeme) → Lex text p.prev_token_end y → y.escaped ≡ p.token.escaped
  escaped_here y l = go a.plain
    where
      z : Plainly text p.prev_token_end y
      z = plain_there l

      go : IsPlain text p → y.escaped ≡ p.token.escaped
      go (whole q n x) = sym z.escaped ∙ (ap (λ (v : Lexeme). v.escaped) (sym (plain_same z x)) ∙ sym x.tells.escaped)
      go (sign q k x) = sym z.escaped ∙ (ap (λ (v : Lexeme). v.escaped) (sym (plain_same z x)) ∙ (sym (cut_escaped x.lexeme) ∙ sym x.tells.escaped))
      go (nothing q k n) = absurd (n z.lexeme z.stands)

  -- it stands on a new line where the token does
  pub newline_here : (y : Lexeme) → Lex text p.prev_token_end y → y.newline ≡ p.token.is_on_new_line
  newline_here y l = go a.plain
    where
      z : Plainly text p.prev_token_end y
      z = plain_there l

      go : IsPlain text p → y.newline ≡ p.token.is_on_new_line
      go (whole q n x) = sym z.newline ∙ (ap (λ (v : Lexeme). v.newline) (sym (plain_same z x)) ∙ sym x.tells.newline)
      go (sign q k x) = sym z.newline ∙ (ap (λ (v : Lexeme). v.newline) (sym (plain_same z x)) ∙ (sym (cut_newline x.lexeme) ∙ sym x.tells.newline))
      go (nothing q k n) = absurd (n z.lexeme z.stands)

  -- only `>` is cut off
  pub uncut : same_kind RAngle p.token.kind ≡ false → p.cut ≡ false
  uncut n = go a.plain
    where
      go : IsPlain text p → p.cut ≡ false
      go (whole q m x) = q
      go (sign q k x) = absurd (false≢true (sym n ∙ ap (same_kind RAngle) k))
      go (nothing q k m) = q

  -- what stands there is of the token's kind, but where that is cut off or one of the signs
  pub kind_here : {k : Kind} → p.token.kind ≡ k → one_of_kinds unsettled k ≡ false → (y : Lexeme) → Lex text p.prev_token_end y → y.kind ≡ k
  kind_here {k} e n y l = let z = settled_kind k n in sym (told (uncut (ap (same_kind RAngle) e ∙ z.0)) (ap (one_of_kinds signs) e ∙ z.1) y l).kind ∙ e

  -- a lexeme that may be passed stands there
  pub found : p.cut ≡ false → is_last p.token.kind ≡ false → (y : Lexeme) × NextLexeme all_faults text p.prev_token_end y × Tells y p.token
  found c n = go a.plain
    where
      go : IsPlain text p → (y : Lexeme) × NextLexeme all_faults text p.prev_token_end y × Tells y p.token
      go (whole q m x) = (x.lexeme, x.stands.lex, x.tells)
      go (sign q k x) = absurd (false≢true (sym c ∙ q))
      go (nothing q k m) = absurd (false≢true (sym n ∙ ap is_last k))
