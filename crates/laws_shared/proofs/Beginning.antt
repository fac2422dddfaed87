-- A parser at the start of a text may read a production, where no hashbang comment stands.
use Rattle.std.proofs.Common.{ℕ, ◌≡◌, inl, inr, Bool, List, [], refl, sym, ap, subst, arith, ◌∙◌}
use Rattle.std.specs.Prelude.{Some}
use Rattle.js_base.specs.declared.kind.Kind.TheVariants.{HashbangComment, RAngle}
use Rattle.js_base.specs.declared.options.ParseOptions.{ParseOptions}
use Rattle.js_base.specs.declared.source_type.SourceType.{SourceType}
use Rattle.std.proofs.Common.{true, false, ◌⊎◌}
use Rattle.std.proofs.lemmas.Bool.{false≢true}
use Rattle.js_grammar.specs.Grammar.{Lexeme}
use Rattle.js_grammar.specs.Lexemes.{LexicalGoal, division, hashbang, kind_in}
use Rattle.js_grammar.specs.Settings.{Goal}
use Rattle.js_cursor.specs.js_lex.Reading.{cut, GivesLexeme, GivesFirst, GivesNext, Outcome, LexemeBehind}
use Rattle.js_cursor.specs.js_lex.States.{goal_of}
use Rattle.js_cursor.proofs.part_words.KindsOfLexemes.{hashbang_is}
use Rattle.js_cursor.specs.Parsers.{Parser}
use Rattle.js_cursor.specs.Starts.{Starts}
use Rattle.js_cursor.specs.Places.{IsAt, goal}
use Rattle.js_cursor.specs.Tokens.{IsToken, whole as whole_token, sign as sign_token, nothing as no_token}
use Rattle.js_cursor.specs.Moves.{Passed, Completed, MovesOn, is_last}
use Rattle.laws_shared.specs.States.{IsPlain, Standing}
use Rattle.js_cursor.specs.Notes.{HasNone, Notes, is_noted, is_place}
use Rattle.laws_shared.specs.Heads.{NotedHeads}
use Rattle.laws_shared.specs.Lexemes.{KeptLast}
use Rattle.laws_shared.proofs.KeptTokens.{no_plain_hashbang, next_kept_last}
use Rattle.laws_shared.proofs.Moving.{heads_kept, plain_given}

hashbang_kind : {text : List ℕ} {s : ℕ} {t : _} → GivesLexeme hashbang (λ y. y) text s t → t.kind ≡ HashbangComment
hashbang_kind x = x.tells.kind ∙ hashbang_is x.stands.lex.word x.lexeme.kind (subst (λ (g : LexicalGoal). kind_in g x.stands.lex.word x.stands.lex.rest ≡ Some x.lexeme.kind) x.stands.of_goal x.stands.lex.lexeme.kind)

-- nothing is noted where a text begins
pub none_noted : (p : Parser) → HasNone p.state → NotedHeads p
none_noted p n = (λ w c s b k. absurd (false≢true (sym (ap (λ (v : List ℕ). is_noted v c s) n.failed) ∙ k)), λ w c s b k. absurd (false≢true (sym (ap (λ (v : List ℕ). is_noted v c s) n.operands) ∙ k)), (λ s k. absurd (false≢true (sym (ap (λ (v : List ℕ). is_place v s) n.arrows) ∙ k)), λ s k. absurd (false≢true (sym (ap (λ (v : List ℕ). is_place v s) n.others) ∙ k))))

-- Behind a lexeme of whichever goal the plain goal gives the next token.
pub behind_first : {p q : Parser} → IsAt p → NotedHeads p → Passed p q → Standing q
behind_first {p} {q} b n h = record { text_is = refl; flags_are = refl; at = h.at; plain = plain_given h.next.faults h.at.token outcome; behind = let s = h.next.start in let e = place in omega arith; heads = heads_kept p q h.stays.text h.stays.source_type h.stays.options (ap (λ (m : Notes). m.failed) h.stays.state) (ap (λ (m : Notes). m.operands) h.stays.state) (ap (λ (m : Notes). m.arrows) h.stays.state) (ap (λ (m : Notes). m.others) h.stays.state) n; kept_last = next_kept_last h.next }
  where
    reads : p.lexer.text ≡ q.text
    reads = b.reads ∙ sym h.stays.text

    place : p.lexer.place ≡ q.prev_token_end
    place = b.last ∙ (h.tells.end ∙ sym h.moved)

    outcome : Outcome division cut (goal q) q.text q.prev_token_end q.token [] h.next.faults
    outcome =
        subst (λ (v : Goal). Outcome division cut v q.text q.prev_token_end q.token [] h.next.faults) (sym h.next.same.goal ∙ h.at.reads_for)
        (subst (λ (v : List ℕ). Outcome division cut p.lexer.goal v q.prev_token_end q.token [] h.next.faults) reads
        (subst (λ (v : ℕ). Outcome division cut p.lexer.goal p.lexer.text v q.token [] h.next.faults) place h.next.outcome))

-- the hashbang comment at the text's start was passed
pub hashbang_passed : {p q : Parser} → IsAt p → p.token.kind ≡ HashbangComment → MovesOn p q → Passed p q
hashbang_passed {p} {q} b k (mid, c, r) = go c r
  where
    uncut_first : p.cut ≡ true → ⊥
    uncut_first e = by b.token e
      where
        by : {c : Bool} → IsToken (goal p) p.text p.prev_token_end p.lexer.kept.errors p.token c → c ≡ true → ⊥
        by (whole_token n x) e = false≢true e
        by (sign_token a x) e = let z : RAngle ≡ HashbangComment = sym a ∙ k in cc
        by (no_token before a d x) e = false≢true e

    go : Completed p mid → ((is_last mid.token.kind ≡ true) × (q ≡ mid) × IsAt q) ⊎ ((is_last mid.token.kind ≡ false) × Passed mid q) → Passed p q
    go (inr e) r = absurd (uncut_first e.0)
    go (inl e) (inl l) = absurd (false≢true (sym (ap is_last k) ∙ (sym (ap (λ (v : Parser). is_last v.token.kind) e.1) ∙ l.0)))
    go (inl e) (inr m) = subst (λ (v : Parser). Passed v q) e.1 m.1

module _ {source : List ℕ} {read_as : SourceType} {asked : ParseOptions} {tokens : Bool} {p : Parser} (s : Starts source read_as asked tokens p) where
  next_plain : GivesNext division s.lexer p.lexer p.token → IsPlain p.text p
  next_plain n = plain_given n.faults s.at.token
      (subst (λ (g : Goal). Outcome division cut g p.text p.prev_token_end p.token [] n.faults) (s.reads_for ∙ sym (ap goal_of s.source_type))
      (subst (λ (t : List ℕ). Outcome division cut s.lexer.goal t p.prev_token_end p.token [] n.faults) (s.reads ∙ sym s.text)
      (subst (λ (i : ℕ). Outcome division cut s.lexer.goal s.lexer.text i p.token [] n.faults) (s.at_start ∙ sym s.prev_token_end) n.outcome)))

  first_plain : (p.token.kind ≡ HashbangComment → ⊥) → GivesFirst s.lexer p.lexer p.token → IsPlain p.text p
  first_plain h (inl b) = absurd (h (hashbang_kind b.gives))
  first_plain h (inr n) = next_plain n.1

  first_last : (p.token.kind ≡ HashbangComment → ⊥) → GivesFirst s.lexer p.lexer p.token → KeptLast p.lexer p.token
  first_last h (inl b) = absurd (h (hashbang_kind b.gives))
  first_last h (inr n) = next_kept_last n.1

  -- a token of a hashbang comment is the lexeme that stands at the text's start
  pub begins_with_hashbang : p.token.kind ≡ HashbangComment → (y : Lexeme) × LexemeBehind hashbang p.text 0 y
  begins_with_hashbang h = go s.first
    where
      go : GivesFirst s.lexer p.lexer p.token → (y : Lexeme) × LexemeBehind hashbang p.text 0 y
      go (inl b) = (b.gives.lexeme, subst (λ (t : List ℕ). LexemeBehind hashbang t 0 b.gives.lexeme) (s.reads ∙ sym s.text) b.gives.stands)
      go (inr n) = absurd (no_plain_hashbang (next_plain n.1) h)

  pub begins : (p.token.kind ≡ HashbangComment → ⊥) → Standing p
  begins h = record { text_is = refl; flags_are = refl; at = s.at; plain = first_plain h s.first; behind = let z = s.prev_token_end in omega arith; heads = none_noted p s.state; kept_last = first_last h s.first }
