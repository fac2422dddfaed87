-- A regular expression (ECMA-262, 13.2.7.3, 12.9.5): the slash that stands at an operand's place is read again, and what is read so is passed.
use Rattle.std.proofs.Common.{ℕ, ◌≡◌, ◌<◌, ◌⊎◌, inl, inr, Bool, true, false, not, ◌||◌, List, [], ◌∷◌, ◌++◌, Some, IsTrue, refl, sym, ap, subst, arith, ◌∙◌}
use Rattle.std.specs.Prelude.{IsCharBoundary, IsUtf8, chars, slice_range}
use Rattle.std.proofs.lemmas.Bool.{false≢true, and_parts, and_from}
use Rattle.std.proofs.lemmas.List.Elements.{All-same}
use Rattle.js_base.specs.declared.diagnostic.Diagnostic.{Diagnostic}
use Rattle.js_base.specs.declared.kind.Kind.{Kind}
use Rattle.js_base.specs.declared.kind.Kind.TheVariants.{Eof, RAngle, RCurly, RegExp, Slash, SlashEq, TemplateMiddle, TemplateTail, Undetermined}
use Rattle.js_base.specs.declared.span.Span.{Span}
use Rattle.js_base.specs.declared.token.Token.{Token}
use Rattle.js_base.specs.Kinds.{same_kind, one_of_kinds}
use Rattle.js_base.specs.Texts.{words}
use Rattle.js_base.proofs.KindLemmas.{kind_of_same}
use Rattle.js_grammar.specs.Trees.{Label, end, tree, no_op, reg_exp_literal}
use Rattle.js_grammar.specs.Grammar.{Lexeme, Look, is, lexeme, next, nothing}
use Rattle.js_grammar.specs.Lexemes.{LexicalGoal, division, is_escaped, kind_in, regular_expression}
use Rattle.js_grammar.specs.Lexed.{IsLexeme, NextLexeme, Passing, all_faults, passing_of, comments_pass, flags_right}
use Rattle.js_grammar.specs.Parsing.{Test, passing, Reads}
use Rattle.js_grammar.specs.Productions.{Flags, Primary, at, tok}
use Rattle.js_grammar.specs.RegularExpressions.{flags, flags_pass}
use Rattle.js_grammar.specs.Follow.{after}
use Rattle.js_grammar.specs.Settings.{Goal, script, module_goal, commonjs, unambiguous}
use Rattle.js_grammar.specs.Table.{rule, rule_of}
use Rattle.js_grammar.proofs.Alike.{stands-same}
use Rattle.js_grammar.proofs.Calculus.{reads_lexeme, ◌▹✗◌}
use Rattle.js_grammar.proofs.First.{starts}
use Rattle.js_grammar.proofs.FirstClaims.{firsts}
use Rattle.js_grammar.proofs.FirstRules.{fails_here}
use Rattle.js_grammar.proofs.FollowLaws.{fails_by}
use Rattle.js_grammar.proofs.Lexemes.{first_or}
use Rattle.js_grammar.proofs.Looks.{apart, covers, not_both}
use Rattle.js_grammar.specs.FirstSets.{first}
use Rattle.laws_shared.specs.js_lex.Comments.{each_at, comment_at, irregular_at, html_fault_at}
use Rattle.laws_shared.specs.part_words.Places.{Word}
use Rattle.laws_shared.specs.js_lex.Reading.{flag_faults, in_a_module, is_kept, is_right_angle, kept_token, FlagsStand, Tells, GivesLexeme, GivesNone, LexemeBehind, Outcome}
use Rattle.laws_shared.specs.js_lex.States.{goal_of}
use Rattle.laws_shared.proofs.js_lex.Again.{cut_same}
use Rattle.laws_shared.proofs.part_words.Flags.{spelled}
use Rattle.laws_shared.proofs.part_words.KindsOfLexemes.{pattern_is, same_lexeme}
use Rattle.laws_shared.specs.js_tree.declared.id.NodeId.{NodeId}
use Rattle.laws_shared.specs.js_tree.declared.kind.NodeKind.TheVariants as node
use Rattle.laws_shared.specs.js_tree.declared.op.Op.TheVariants as op
use Rattle.laws_shared.specs.js_tree.Nodes.{Node}
use Rattle.laws_shared.specs.js_tree.Holding.{Keeps}
use Rattle.laws_shared.proofs.js_tree.HoldingLemmas.{Keeps-refl, Keeps-trans, Keeps-made}
use Rattle.laws_shared.specs.js_cursor.Moves.{Completed, GivesUp, IsRegularExpression, IsUnexpected, MovesOn, Passed, ReadAgain, is_last}
use Rattle.laws_shared.specs.js_cursor.Notes.{Notes}
use Rattle.laws_shared.specs.js_cursor.Parsers.{Parser}
use Rattle.laws_shared.specs.js_cursor.Places.{IsAt, goal}
use Rattle.laws_shared.specs.js_cursor.Tokens.{IsToken, sign as sign_token}
use Rattle.laws_shared.specs.js_cursor.declared.stop.Stop.{Stop}
use Rattle.laws_shared.specs.js_cursor.declared.stop.Stop.TheVariants.{Fatal, NoMemory}
use Rattle.laws_shared.proofs.js_cursor.Later.{keeps_follows, passed_follows, read_again_follows, follows_on}
use Rattle.laws_shared.proofs.js_cursor.Moving.{lexeme_some}
use Rattle.laws_shared.specs.Answers.{Numbered, Stops, Underived, clean}
use Rattle.laws_shared.specs.Classes.{IsEarly}
use Rattle.laws_shared.proofs.Characters.{characters}
use Rattle.laws_shared.specs.Heads.{NotedHeads}
use Rattle.laws_shared.specs.Lexemes.{Faultless, IsNew, IsReread, IsRight, KeptFor, KeptLast, Lex, News, TriviaKept, Walked, goal_for, is_read, kept_before, nowhere, onward, other_goals, read_again, signs_of, slashes, spot, with_faults, is_read_kind}
use Rattle.laws_shared.specs.Moves.{MadeHere, plain_label}
use Rattle.laws_shared.specs.States.{At, IsPlain, whole, sign, nothing as none_stands, Same}
use Rattle.laws_shared.proofs.Beginning.{behind_first}
use Rattle.laws_shared.proofs.Classes.{unexpected_ends}
use Rattle.laws_shared.proofs.Dead.{live, lives}
use Rattle.laws_shared.proofs.Giving.{kept_one}
use Rattle.laws_shared.proofs.Here.{alike, plain_token, sign_here, told_plain}
use Rattle.laws_shared.proofs.Kept.{kept_for, passing_so}
use Rattle.laws_shared.proofs.KeptTokens.{again_before, again_last, before_next, trivia_kept}
use Rattle.laws_shared.proofs.MadeNodes.{leaf_held, one_lies}
use Rattle.laws_shared.proofs.Moving.{flags_same, heads_kept, nodes_lie, standing_for}
use Rattle.laws_shared.proofs.Paths.{Path, ◌⟼◌, at_kinds, label_here, noded, read_of, walked_to}
use Rattle.laws_shared.proofs.Slashes.{pattern_goal, sign_there}
use Rattle.laws_shared.proofs.Signs.{whole_sign}
use Rattle.laws_shared.proofs.Verdicts.{grown_then}
use Rattle.laws_primary.proofs.FlagFaults.{are_right, none_wrong}
use Rattle.laws_primary.proofs.Operands.{behind_primary, by_path}

-- ---- kinds

-- which of the two signs it is that is read again
pub which_sign : (k : Kind) → one_of_kinds slashes k ≡ true → (k ≡ Slash) ⊎ (k ≡ SlashEq)
which_sign k h = go (same_kind Slash k) refl h
  where
    second : (b : Bool) → same_kind SlashEq k ≡ b → (b || false) ≡ true → k ≡ SlashEq
    second true e h = sym (kind_of_same SlashEq k e)
    second false e h = absurd (false≢true h)

    go : (b : Bool) → same_kind Slash k ≡ b → (b || (same_kind SlashEq k || false)) ≡ true → (k ≡ Slash) ⊎ (k ≡ SlashEq)
    go true e h = inl (sym (kind_of_same Slash k e))
    go false e h = inr (second (same_kind SlashEq k) refl h)

by_sign : (P : Kind → Type 0) (k : Kind) → one_of_kinds slashes k ≡ true → P Slash → P SlashEq → P k
by_sign P k h a b = go (which_sign k h)
  where
    go : (k ≡ Slash) ⊎ (k ≡ SlashEq) → P k
    go (inl e) = subst P (sym e) a
    go (inr e) = subst P (sym e) b

-- the token is none
pub no_pattern_here : {text : List ℕ} {f : Flags} {p : Parser} → At text f p → p.token.kind ≡ RegExp → ⊥
no_pattern_here a e = false≢true (sym (plain_token a.plain) ∙ ap (one_of_kinds other_goals) e)

-- ---- the flags of a regular expression

-- the flags of one lexeme are the same, however it is seen to stand there
flags_alone : {m n : Passing} {text : List ℕ} {s : ℕ} {y : Lexeme} (h : NextLexeme m text s y) (k : NextLexeme n text s y) → h.goal ≡ regular_expression → k.goal ≡ regular_expression → h.word ≡ k.word
flags_alone {y = y} h k e f =
    (same_lexeme regular_expression y.from h.word h.rest k.word k.rest y.kind y.kind (stands-same h.stands k.stands).back
    (subst (λ (g : LexicalGoal). IsLexeme g y.from h.word h.rest y.kind) e h.lexeme)
    (subst (λ (g : LexicalGoal). IsLexeme g y.from k.word k.rest y.kind) f k.lexeme)).0

flags_of_goal : (g : Goal) (w : List ℕ) → flags_pass (flags w) ≡ true → flags_right (passing_of g) RegExp w ≡ true
flags_of_goal script w h = h
flags_of_goal module_goal w h = h
flags_of_goal commonjs w h = h
flags_of_goal unambiguous w h = h

goal_of_flags : (g : Goal) (w : List ℕ) → flags_right (passing_of g) RegExp w ≡ true → flags_pass (flags w) ≡ true
goal_of_flags script w h = h
goal_of_flags module_goal w h = h
goal_of_flags commonjs w h = h
goal_of_flags unambiguous w h = h

-- of any passing its goal is that of regular expressions
any_goal : {m : Passing} {text : List ℕ} {s : ℕ} {y : Lexeme} (h : NextLexeme m text s y) → y.kind ≡ RegExp → h.goal ≡ regular_expression
any_goal h k = pattern_goal (record { trivia = h.trivia; goal = h.goal; word = h.word; rest = h.rest; stands = h.stands; lexeme = h.lexeme; comments = refl; flags = refl; from = h.from; to = h.to; newline = h.newline; escaped = h.escaped; units = h.units }) k

read_slash : (k : Kind) → one_of_kinds slashes k ≡ true → is_read_kind k ≡ true
read_slash k h = by_sign (λ j. is_read_kind j ≡ true) k h refl refl

pub plain_sign_of : (k : Kind) → one_of_kinds slashes k ≡ true → one_of_kinds other_goals k ≡ false
plain_sign_of k h = by_sign (λ j. one_of_kinds other_goals j ≡ false) k h refl refl

-- The faults of the flags were kept: the lexeme has none exactly where none was, if what stands before it has none.
pattern_so : (source : Goal) (at_end : ℕ) {text : List ℕ} {s : ℕ} {y : Lexeme} {t : Token} {faults : List Diagnostic} → IsUtf8 text → IsCharBoundary text s → (h : NextLexeme all_faults text s y) → y.kind ≡ RegExp → IsTrue (is_read y) → Tells y t → FlagsStand text at_end t faults
    → (faults ≡ [] → IsRight source text s → Faultless source text s y) × ((faults ≡ [] → ⊥) → Faultless source text s y → ⊥)
pattern_so source at_end {text} {s} {y} {t} {faults} u b h k r e x = (right, wrong)
  where
    determined : same_kind Undetermined t.kind ≡ false
    determined = ap (same_kind Undetermined) (e.kind ∙ k)

    stand : (fs : List ℕ) × Word text at_end t.span.end fs × (flags (chars (slice_range text t.span.start t.span.end)) ≡ Some fs) × (faults ≡ flag_faults at_end [] fs)
    stand = subst (λ (v : Bool). elim v as (λ _. Type 0) [ true ↦ at_end ≡ t.span.end | false ↦ (fs : List ℕ) × Word text at_end t.span.end fs × (flags (chars (slice_range text t.span.start t.span.end)) ≡ Some fs) × (◌≡◌ {A = List Diagnostic} faults (flag_faults at_end [] fs)) ]) determined x

    spelt : chars (slice_range text t.span.start t.span.end) ≡ h.word
    spelt =
        let c = characters u b h in
        (λ i. chars (slice_range text (e.start i) (e.end i))) ∙ spelled text y.from y.to h.word u c.0 (let n = h.to in omega arith) c.1

    are : flags h.word ≡ Some stand.0
    are = ap flags (sym spelt) ∙ stand.2

    right : faults ≡ [] → IsRight source text s → Faultless source text s y
    right z sound =
        let l = sign_there h (ap (one_of_kinds other_goals) k) in
        let slash : one_of_kinds slashes l.lexeme.kind ≡ true = subst (λ (v : Kind). one_of_kinds (signs_of v) l.lexeme.kind ≡ true) k l.is in
        let n : IsTrue (is_read l.lexeme) = read_of l.lexeme refl (read_slash l.lexeme.kind slash) in
        let f = sound l.lexeme (l.stands.lex, n) (plain_sign_of l.lexeme.kind slash) in
        let c : comments_pass (passing_of source) h.trivia ≡ true = subst (λ (ps : List (List ℕ)). comments_pass (passing_of source) ps ≡ true) (stands-same f.0.stands h.stands).pieces f.0.comments in
        let w : flags_pass (flags h.word) ≡ true = ap flags_pass are ∙ are_right at_end stand.0 (sym stand.3 ∙ z) in
        (passing_so h c (subst (λ (j : Kind). flags_right (passing_of source) j h.word ≡ true) (sym k) (flags_of_goal source h.word w)), r)

    wrong : (faults ≡ [] → ⊥) → Faultless source text s y → ⊥
    wrong z f =
        let same : f.0.word ≡ h.word = flags_alone f.0 h (any_goal f.0 k) (pattern_goal h k) in
        let w : flags_pass (flags h.word) ≡ true = goal_of_flags source h.word (subst (λ (v : List ℕ). flags_right (passing_of source) RegExp v ≡ true) same (subst (λ (j : Kind). flags_right (passing_of source) j f.0.word ≡ true) k f.0.flags)) in
        z (stand.3 ∙ none_wrong at_end stand.0 (sym (ap flags_pass are) ∙ w))

-- ---- where a slash is read again

module _ {text : List ℕ} {f : Flags} {p q : Parser} {at_end : ℕ} (a : At text f p) (u : one_of_kinds slashes p.token.kind ≡ true) (i : IsRegularExpression at_end p q) where
  abbrev h : ReadAgain regular_expression p q
  h = i.read

  -- the sign, as the plain goal gives it
  sign_given : GivesLexeme division (λ y. y) text p.prev_token_end p.token
  sign_given = go a.plain
    where
      no_sign : (k : Kind) → one_of_kinds slashes k ≡ false → p.token.kind ≡ k → ⊥
      no_sign k n e = false≢true (sym n ∙ (sym (ap (one_of_kinds slashes) e) ∙ u))

      go : IsPlain text p → GivesLexeme division (λ y. y) text p.prev_token_end p.token
      go (whole c n x) = x
      go (sign c e x) = absurd (no_sign RAngle refl e)
      go (none_stands c e n) = absurd (no_sign Undetermined refl e)

  no_angle : is_right_angle sign_given.lexeme.kind ≡ false
  no_angle = subst (λ (k : Kind). is_right_angle k ≡ false) sign_given.tells.kind (by_sign (λ k. is_right_angle k ≡ false) p.token.kind u refl refl)

  again : Outcome regular_expression (λ z. z) p.lexer.goal p.lexer.text p.prev_token_end q.token h.going_on h.faults
  again =
      let reads : text ≡ p.lexer.text = sym a.text_is ∙ sym a.at.reads in
      h.again.outcome p.prev_token_end sign_given.lexeme (subst (λ (v : List ℕ). IsCharBoundary v p.prev_token_end) (sym a.at.reads) a.at.between) (subst (λ (v : List ℕ). LexemeBehind division v p.prev_token_end sign_given.lexeme) reads sign_given.stands) (subst (λ (y : Lexeme). Tells y p.token) (sym (cut_same sign_given.lexeme no_angle)) sign_given.tells)

  uncut_here : p.cut ≡ false
  uncut_here = by_sign (λ k. p.token.kind ≡ k → p.cut ≡ false) p.token.kind u (λ e. (whole_sign Slash a e refl refl).0) (λ e. (whole_sign SlashEq a e refl refl).0) refl

  text_stays : q.text ≡ text
  text_stays = h.stays.text ∙ a.text_is

  heads_stay : NotedHeads q
  heads_stay = heads_kept p q h.stays.text h.stays.source_type h.stays.options (ap (λ (n : Notes). n.failed) h.stays.state) (ap (λ (n : Notes). n.operands) h.stays.state) (ap (λ (n : Notes). n.arrows) h.stays.state) (ap (λ (n : Notes). n.others) h.stays.state) a.heads

  -- of the plain goal one of the two signs alone stands there, and no operand begins with it
  abbrev operand_kinds : Look
  operand_kinds k w e = starts first (live (rule (at Primary f))) (after (at Primary f)).base k w e

  -- no other lexeme of another goal begins with it
  pattern_of : (k : Kind) → one_of_kinds other_goals k ≡ true → one_of_kinds (signs_of k) p.token.kind ≡ true → k ≡ RegExp
  pattern_of k h s =
      first_or (λ (v : Kind). one_of_kinds (signs_of v) p.token.kind ≡ true → v ≡ RegExp) RegExp k _ _ refl h (λ s. refl) (λ h.
      first_or (λ (v : Kind). one_of_kinds (signs_of v) p.token.kind ≡ true → v ≡ RegExp) TemplateMiddle k _ _ refl h (λ s. absurd (no_brace s)) (λ h.
      first_or (λ (v : Kind). one_of_kinds (signs_of v) p.token.kind ≡ true → v ≡ RegExp) TemplateTail k _ _ refl h (λ s. absurd (no_brace s)) (λ h. absurd (false≢true h)))) s
    where
      no_brace : one_of_kinds (RCurly ∷ []) p.token.kind ≡ true → ⊥
      no_brace b = false≢true (sym (by_sign (λ j. one_of_kinds (RCurly ∷ []) j ≡ false) p.token.kind u refl refl) ∙ b)

  no_operand : ((y : Lexeme) → Lex text p.prev_token_end y → y.kind ≡ RegExp → ⊥) → Underived text (at Primary f) p.prev_token_end
  unfolding rule rule_of covers apart
  no_operand n = fails_by (lives (rule (at Primary f)) ▹✗ fails_here firsts (λ y l s. go y l s (one_of_kinds other_goals y.kind) refl))
    where
      a_sign : Look
      a_sign k w e = one_of_kinds slashes k

      go : (y : Lexeme) → Lex text p.prev_token_end y → IsTrue (operand_kinds y.kind y.newline y.escaped) → (b : Bool) → one_of_kinds other_goals y.kind ≡ b → ⊥
      go y l s true e = n y l (pattern_of y.kind e (sign_here a y l e))
      go y l s false e = not_both a_sign operand_kinds refl y.kind y.newline y.escaped (subst (λ (k : Kind). one_of_kinds slashes k ≡ true) (told_plain a uncut_here y e l).kind u) s

  -- where none is read, none stands there
  pub none_stops : q.token.kind ≡ Undetermined → (r : Parser) (e : Stop) → GivesUp (IsUnexpected q) q r e → Stops p r e (Underived text (at Primary f) p.prev_token_end)
  none_stops k r Fatal g = record {
    at = g.2.at;
    follows = follows_on (read_again_follows h) (keeps_follows g.2);
    grown = grown_then h.stays.errors (kept_one g.2);
    stopped = λ w. record { before = q.errors; last = g.0; is = ap (λ (z : Parser). z.errors) g.2.is; early = All-same IsEarly q.errors p.errors h.stays.errors w; ends = unexpected_ends h.at g.0 g.1 };
    lies = λ l. nodes_lie p r (ap (λ (z : Parser). z.text) g.2.is ∙ h.stays.text) (ap (λ (z : Parser). z.nodes) g.2.is ∙ h.stays.nodes) l.1;
    heads = subst NotedHeads (sym g.2.is) heads_stay;
    none = no_operand (none_there (same_kind Undetermined q.token.kind) refl again);
  }
    where
      none_there : (b : Bool) → same_kind Undetermined q.token.kind ≡ b → elim b as (λ _. Type 0) [ true ↦ (d : Diagnostic) × (h.faults ≡ d ∷ []) × GivesNone regular_expression p.lexer.goal p.lexer.text p.prev_token_end q.token d | false ↦ (h.faults ≡ h.going_on) × GivesLexeme regular_expression (λ z. z) p.lexer.text p.prev_token_end q.token ] → (y : Lexeme) → Lex text p.prev_token_end y → y.kind ≡ RegExp → ⊥
      none_there true e x y l j = x.2.none y (subst (λ (v : List ℕ). LexemeBehind regular_expression v p.prev_token_end y) (sym a.text_is ∙ sym a.at.reads) (record { lex = l.0; of_goal = pattern_goal l.0 j }))
      none_there false e x y l j = absurd (false≢true (sym e ∙ ap (same_kind Undetermined) k))
  none_stops k r NoMemory g = tt

  -- ---- where one is read

  module _ (n : q.token.kind ≡ Undetermined → ⊥) where
    given : (h.faults ≡ h.going_on) × GivesLexeme regular_expression (λ z. z) text p.prev_token_end q.token
    given = go (same_kind Undetermined q.token.kind) refl again
      where
        go : (b : Bool) → same_kind Undetermined q.token.kind ≡ b → elim b as (λ _. Type 0) [ true ↦ (d : Diagnostic) × (h.faults ≡ d ∷ []) × GivesNone regular_expression p.lexer.goal p.lexer.text p.prev_token_end q.token d | false ↦ (h.faults ≡ h.going_on) × GivesLexeme regular_expression (λ z. z) p.lexer.text p.prev_token_end q.token ] → (h.faults ≡ h.going_on) × GivesLexeme regular_expression (λ z. z) text p.prev_token_end q.token
        go true e x = absurd (n (sym (kind_of_same Undetermined q.token.kind e)))
        go false e x = (x.0, subst (λ (v : List ℕ). GivesLexeme regular_expression (λ z. z) v p.prev_token_end q.token) (a.at.reads ∙ a.text_is) x.1)

    abbrev y : Lexeme
    y = given.1.lexeme

    abbrev stood : NextLexeme all_faults text p.prev_token_end y
    stood = given.1.stands.lex

    kind : y.kind ≡ RegExp
    kind = pattern_is stood.word y.kind (subst (λ (g : LexicalGoal). kind_in g stood.word stood.rest ≡ Some y.kind) given.1.stands.of_goal stood.lexeme.kind)

    token_kind : q.token.kind ≡ RegExp
    token_kind = given.1.tells.kind ∙ kind

    plain : y.escaped ≡ false
    unfolding words
    plain = stood.escaped ∙ ap (λ (v : Kind). is_escaped v stood.word) kind

    read_so : IsTrue (is_read y)
    read_so = read_of y kind refl

    from : q.token.span.start ≡ p.token.span.start
    from = h.again.start

    uncut_again : q.cut ≡ false
    uncut_again = go q.cut refl h.at.token
      where
        go : (b : Bool) → q.cut ≡ b → IsToken (goal q) q.text q.prev_token_end q.lexer.kept.errors q.token b → q.cut ≡ false
        go false e x = e
        go true e (sign_token j x) = absurd (let z : RegExp ≡ RAngle = sym token_kind ∙ j in cc)

    passes_on : {r : Parser} → MovesOn q r → Passed q r
    passes_on {r} (mid, c, m) = go c m
      where
        go : Completed q mid → ((is_last mid.token.kind ≡ true) × (r ≡ mid) × IsAt r) ⊎ ((is_last mid.token.kind ≡ false) × Passed mid r) → Passed q r
        go (inr e) k = absurd (false≢true (sym uncut_again ∙ e.0))
        go (inl e) (inl k) = absurd (false≢true (sym (ap is_last token_kind) ∙ (sym (ap (λ (v : Parser). is_last v.token.kind) e.1) ∙ k.0)))
        go (inl e) (inr k) = subst (λ (v : Parser). Passed v r) e.1 k.1

    counted : (is_kept p.token.kind ≡ true) × (is_kept q.token.kind ≡ true)
    counted = (by_sign (λ k. is_kept k ≡ true) p.token.kind u refl refl, ap is_kept token_kind)

    kept_last : KeptLast q.lexer q.token
    kept_last = again_last p.lexer q.lexer p.token q.token h.again.same.keeps_tokens h.again.tokens counted.0 counted.1 a.kept_last

    module _ {r : Parser} (m : Passed q r) where
      ends : y.to ≡ r.prev_token_end
      ends = sym given.1.tells.end ∙ (m.tells.end ∙ sym m.moved)

      text_is : r.text ≡ text
      text_is = m.stays.text ∙ text_stays

      next_at : At text f r
      next_at = standing_for (behind_first h.at heads_stay m) text_is (flags_same q r m.stays.ctx m.stays.source_type m.stays.options ∙ (flags_same p q h.stays.ctx h.stays.source_type h.stays.options ∙ a.flags_are))

      same : Same p r
      same = record {
        follows = follows_on (read_again_follows h) (passed_follows m);
        options = m.stays.options ∙ h.stays.options;
        ctx = m.stays.ctx ∙ h.stays.ctx;
        depth = m.stays.depth ∙ h.stays.depth;
        visits = m.stays.visits ∙ h.stays.visits;
        early = λ w. All-same IsEarly r.errors p.errors (m.stays.errors ∙ h.stays.errors) w;
        lies = λ l. (m.at.lies.starts_whole, nodes_lie p r (m.stays.text ∙ h.stays.text) (m.stays.nodes ∙ h.stays.nodes) l.1);
      }

      nodes : r.nodes ≡ p.nodes
      nodes = m.stays.nodes ∙ h.stays.nodes

      kept : r.errors ≡ p.errors
      kept = m.stays.errors ∙ h.stays.errors

      further : p.token.span.start < r.prev_token_end
      further = let e = ends in let t = given.1.tells.start in let s = from in let l = lexeme_some stood (λ z. false≢true (ap (same_kind Eof) (sym kind ∙ z))) in omega arith

      abbrev news : News
      news = record {
        token = q.token;
        comments = each_at (comment_at r.token.span.start) q.lexer.place m.next.pieces;
        blanks = each_at irregular_at q.lexer.place m.next.pieces;
        faults = each_at (html_fault_at (in_a_module q.lexer.goal)) q.lexer.place m.next.pieces ++ m.next.faults;
      }

      there : (P : List ℕ → ℕ → Type 0) → P q.lexer.text q.lexer.place → P text y.to
      there P z = subst (λ (v : List ℕ). P v y.to) (h.at.reads ∙ text_stays) (subst (λ (j : ℕ). P q.lexer.text j) (h.at.last ∙ given.1.tells.end) z)

      is_new : IsNew text (spot p) y news
      is_new = record {
        stood = stood;
        tells = given.1.tells;
        counts = counted.1;
        faults = subst (λ (v : Goal). KeptFor v text y.to news.faults) (h.at.reads_for ∙ ap goal_of h.stays.source_type) (there (λ v j. KeptFor q.lexer.goal v j news.faults) (kept_for m.next));
        trivia = there (λ v j. TriviaKept v j news.comments news.blanks) (trivia_kept m.next);
      }

      is_pattern : IsReread text (spot p) y h.faults
      is_pattern =
          let x = pattern_so (goal p) at_end {faults = h.going_on} a_utf8 a_between stood kind read_so given.1.tells (subst (λ (t : List ℕ). FlagsStand t at_end q.token h.going_on) a.text_is i.flags) in
          record { is = ap (one_of_kinds other_goals) kind; none = subst (λ (ds : List Diagnostic). ds ≡ [] → IsRight (goal p) text p.prev_token_end → Faultless (goal p) text p.prev_token_end y) (sym given.0) x.0; some = subst (λ (ds : List Diagnostic). (ds ≡ [] → ⊥) → Faultless (goal p) text p.prev_token_end y → ⊥) (sym given.0) x.1 }
        where
          a_utf8 : IsUtf8 text
          a_utf8 = subst IsUtf8 a.text_is a.at.utf8

          a_between : IsCharBoundary text p.prev_token_end
          a_between = subst (λ (t : List ℕ). IsCharBoundary t p.prev_token_end) a.text_is a.at.between

      walked : Walked text (spot p) (spot r) (λ ls. next y ls)
      walked = walked_to spot_is (read_again nowhere h.faults is_pattern is_new)
        where
          spot_is : onward (with_faults (spot p) h.faults) y news ≡ spot r
          spot_is = sym (λ j. record {
            source = goal_of ((m.stays.source_type ∙ h.stays.source_type) j);
            keeps_tokens = (m.next.same.keeps_tokens ∙ h.again.same.keeps_tokens) j;
            place = sym ends j;
            kept = record {
              comments = (m.next.grows.comments_grow ∙ ap (λ cs. cs ++ news.comments) h.again.comments) j;
              irregular_whitespaces = (m.next.grows.blanks_grow ∙ ap (λ bs. bs ++ news.blanks) h.again.blanks) j;
              tokens = tokens_grow j;
              errors = (m.next.grows.faults_grow ∙ ap (λ ds. ds ++ news.faults) h.again.errors) j;
            };
          })
            where
              tokens_grow : kept_before r.lexer r.token ≡ kept_before p.lexer p.token ++ kept_token p.lexer.keeps_tokens q.token
              tokens_grow = before_next m.next ∙ (kept_last ∙ (λ j. again_before p.lexer q.lexer p.token q.token h.again.same.keeps_tokens h.again.tokens counted.0 counted.1 j ++ kept_token (h.again.same.keeps_tokens j) q.token))

      reads_one : {X : Test} → Reads rule (Lex text) X end (tok RegExp) p.prev_token_end r.prev_token_end (λ us. us) (passing y)
      reads_one {X} = subst (λ (v : ℕ). Reads rule (Lex text) X end (lexeme (is RegExp)) p.prev_token_end v (λ us. us) (passing y)) ends
          (reads_lexeme (is RegExp) (stood, read_so) (and_from _ _ (subst (λ (k : Kind). same_kind RegExp k ≡ true) (sym kind) refl) (ap not plain))
          (λ z l t. alike l (stood, read_so) (sym (ap goal_for (kind_of_same RegExp z.kind (and_parts (same_kind RegExp z.kind) (not z.escaped) t).0)) ∙ sym (ap goal_for kind))))

      path : Path text f (after (at Primary f)) (rule (at Primary f)) p nothing r (tree (label_here reg_exp_literal no_op p r) end)
      unfolding rule rule_of covers apart
      path = at_kinds a (RegExp ∷ slashes) refl (or_next (same_kind RegExp p.token.kind) u) ⟼ noded a (record { at = next_at; further = further; pass = λ ls. next y ls; walked = walked; verdict = clean kept (record { reach = 0; near = omega arith; goes = reads_one }) })
        where
          or_next : (b : Bool) {c : Bool} → c ≡ true → (b || c) ≡ true
          or_next true e = refl
          or_next false e = e

      answers : {w : Parser} {id : NodeId} (s : Span) → s ≡ q.token.span → MadeHere (plain_label node.RegExpLiteral op.None s) [] r w id → Numbered text f (at Primary f) p w id
      answers {w} {id} s z made =
          let l : plain_label node.RegExpLiteral op.None s ≡ label_here reg_exp_literal no_op p r = λ j. record { kind = reg_exp_literal; op = no_op; flags = 0; span = record { from = (ap (λ (v : Span). v.start) z ∙ from) j; to = (ap (λ (v : Span). v.end) z ∙ (given.1.tells.end ∙ ends)) j } } in
          let ks : Keeps p.nodes r.nodes = subst (λ (ns : List Node). Keeps p.nodes ns) (sym nodes) (Keeps-refl p.nodes) in
          by_path (subst (λ (v : Label). Path text f (after (at Primary f)) (rule (at Primary f)) p nothing r (tree v end)) (sym l) path) same made.stays (behind_primary f.in_ (plain_label node.RegExpLiteral op.None s) end text r.prev_token_end) refl (leaf_held made ks) (Keeps-trans ks (Keeps-made made.made)) (ap (λ (v : Label). v.span) l) (one_lies made)

    pub literal_answers : {r w : Parser} {id : NodeId} (s : Span) → MovesOn q r → s ≡ q.token.span → MadeHere (plain_label node.RegExpLiteral op.None s) [] r w id → Numbered text f (at Primary f) p w id
    literal_answers s m z made = answers (passes_on m) s z made
