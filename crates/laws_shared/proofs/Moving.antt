-- What moves over lexemes do to a state.
use Rattle.std.proofs.Common.{ℕ, ◌+◌, ◌≡◌, ◌<◌, ◌⊎◌, inl, inr, Bool, ◌||◌, true, false, List, [], ◌∷◌, ◌++◌, cond, refl, sym, ap, subst, arith, ◌∙◌, append-nil}
use Rattle.std.specs.Prelude.{IsCharBoundary, Result, Ok, Err, MatchResult}
use Rattle.js_base.specs.Contexts.{has_flag, in_flag}
use Rattle.std.proofs.lemmas.Bool.{false≢true}
use Rattle.js_base.specs.declared.diagnostic.Diagnostic.{Diagnostic}
use Rattle.js_base.specs.declared.kind.Kind.{Kind}
use Rattle.js_base.specs.declared.kind.Kind.TheVariants.{RAngle, Undetermined}
use Rattle.js_base.specs.declared.token.Token.{Token}
use Rattle.js_base.specs.Kinds.{same_kind, one_of_kinds}
use Rattle.js_base.proofs.KindLemmas.{kind_of_same}
use Rattle.js_grammar.specs.Grammar.{Lexeme}
use Rattle.js_grammar.specs.Lexemes.{LexicalGoal, division}
use Rattle.js_grammar.specs.Lexed.{NextLexeme, all_faults}
use Rattle.js_grammar.specs.Productions.{Flags, Symbol}
use Rattle.js_grammar.specs.Settings.{Goal}
use Rattle.js_cursor.specs.js_lex.Reading.{cut, is_kept, is_right_angle, in_a_module, Tells, GivesLexeme, GivesNone, LexemeBehind, Outcome}
use Rattle.js_cursor.proofs.js_lex.Again.{cut_same}
use Rattle.js_cursor.specs.Parsers.{Parser}
use Rattle.js_cursor.specs.Places.{IsAt, goal}
use Rattle.js_cursor.specs.Tokens.{IsToken, whole as whole_token, sign as sign_token, nothing as no_token}
use Rattle.js_cursor.specs.Moves.{Passed, Completed, MovesOn, OnlyMemory, Enters, Leaves, is_last}
use Rattle.js_cursor.specs.js_tree.Nodes.{Node}
use Rattle.js_cursor.specs.js_tree.Holding.{Keeps}
use Rattle.js_cursor.proofs.js_tree.HoldingLemmas.{Keeps-refl}
use Rattle.js_cursor.specs.Checkpoints.{Follows}
use Rattle.js_cursor.specs.declared.stop.Stop.{Stop}
use Rattle.js_cursor.specs.declared.stop.Stop.TheVariants.{Fatal, NoMemory}
use Rattle.js_cursor.specs.js_tree.declared.id.NodeId.{NodeId}
use Rattle.laws_shared.specs.Answers.{Grown, Numbered, Stops, Underived}
use Rattle.js_cursor.proofs.Moving.{lexeme_some}
use Rattle.js_cursor.proofs.Later.{passed_follows, read_again_follows, follows_itself, follows_on}
use Rattle.js_cursor.proofs.Changing.{fields_at, fields_set, entered_on}
use Rattle.js_base.specs.declared.context.Context.{Context}
use Rattle.js_cursor.specs.Notes.{Notes, is_noted}
use Rattle.js_cursor.specs.Starts.{is_module}
use Rattle.laws_shared.specs.Heads.{NoHead, NotedClosings, NotedHeads, OnlyArrow, flags_in, widened}
use Rattle.laws_shared.specs.Lexemes.{KeptFor, TriviaKept, News, other_goals, is_read_kind}
use Rattle.laws_shared.proofs.KeptTokens.{counts_here, completed_counts, before_next, next_kept_last, again_before, again_last, trivia_kept}
use Rattle.laws_shared.specs.NodeTexts.{NodeFits}
use Rattle.laws_shared.specs.States.{At, Standing, IsPlain, whole, sign, nothing, Same, flags_of, NodesLie, SpansLie}
use Rattle.laws_shared.specs.Moves.{IsCompleted, IsWholeHere, Moved, Moves, Tightness}
use Rattle.laws_shared.specs.Operators.{power_of}
use Rattle.laws_shared.proofs.Here.{plain_token, plain_kind, uncut}
use Rattle.laws_shared.proofs.Kept.{kept_for}
use Rattle.js_cursor.specs.js_lex.Comments.{each_at, comment_at, irregular_at, html_fault_at}
use Rattle.js_cursor.specs.js_lex.States.{goal_of}
use Rattle.laws_shared.specs.Classes.{IsEarly}
use Rattle.std.specs.List.{All}
use Rattle.std.proofs.lemmas.List.Elements.{All-same}

-- What is given behind a place is what the plain goal gives, if it was asked for by that.
pub plain_given : {text : List ℕ} {p : Parser} {source : Goal} (faults : List Diagnostic) → IsToken source text p.prev_token_end p.lexer.kept.errors p.token p.cut → Outcome division cut source text p.prev_token_end p.token [] faults → IsPlain text p
plain_given {text} {p} {source} faults k o = go p.cut refl k (same_kind Undetermined p.token.kind) refl o
  where
    none_is : (t : Token) → same_kind Undetermined t.kind ≡ true → t.kind ≡ Undetermined
    none_is t e = sym (kind_of_same Undetermined t.kind e)

    told : (q : p.cut ≡ false) → {g : LexicalGoal} → (p.token.kind ≡ Undetermined → ⊥) → GivesLexeme g (λ y. y) text p.prev_token_end p.token → GivesLexeme division cut text p.prev_token_end p.token → IsPlain text p
    told q {g} n x z = by (is_right_angle z.lexeme.kind) refl
      where
        by : (b : Bool) → is_right_angle z.lexeme.kind ≡ b → IsPlain text p
        by false e = whole q n (record { lexeme = z.lexeme; stands = z.stands; tells = subst (λ (y : Lexeme). Tells y p.token) (cut_same z.lexeme e) z.tells; separated = z.separated })
        by true e =
            let c : (cut z.lexeme).kind ≡ RAngle = rw (e, cut) refl in
            let r : x.lexeme.kind ≡ RAngle = sym x.tells.kind ∙ (z.tells.kind ∙ c) in
            whole q n (record { lexeme = x.lexeme; stands = record { lex = x.stands.lex; of_goal = plain_kind x.stands.lex (ap is_read_kind r) (ap (one_of_kinds other_goals) r) }; tells = x.tells; separated = x.separated })

    go : (b : Bool) → p.cut ≡ b → IsToken source text p.prev_token_end p.lexer.kept.errors p.token b → (r : Bool) → same_kind Undetermined p.token.kind ≡ r → elim r as (λ _. Type 0) [ true ↦ (d : Diagnostic) × (faults ≡ d ∷ []) × GivesNone division source text p.prev_token_end p.token d | false ↦ (faults ≡ []) × GivesLexeme division cut text p.prev_token_end p.token ] → IsPlain text p
    go true q (sign_token e x) r h y = sign q e x
    go false q (whole_token n x) true h y = absurd (n (none_is p.token h))
    go false q (whole_token n x) false h y = told q n x y.1
    go false q (no_token before e d x) true h y = nothing q e y.2.none
    go false q (no_token before e d x) false h y = absurd (false≢true (sym h ∙ ap (same_kind Undetermined) e))

pub flags_same : {w : Bool} (p q : Parser) → q.ctx ≡ p.ctx → q.source_type ≡ p.source_type → q.options ≡ p.options → widened w (flags_of q) ≡ widened w (flags_of p)
flags_same p q c s o = rw (c, s, o) refl

-- what is noted of heads stays right where the text and what is noted stay
pub heads_kept : (p q : Parser) → q.text ≡ p.text → q.source_type ≡ p.source_type → q.options ≡ p.options → q.state.failed ≡ p.state.failed → q.state.operands ≡ p.state.operands → q.state.arrows ≡ p.state.arrows → q.state.others ≡ p.state.others → NotedHeads p → NotedHeads q
heads_kept p q t s o h g a b n = (λ w c x y k. stays NoHead w c x (n.0 w c x y (subst (λ (v : List ℕ). is_noted v c x ≡ true) h k)), λ w c x y k. stays OnlyArrow w c x (n.1 w c x y (subst (λ (v : List ℕ). is_noted v c x ≡ true) g k)), subst (λ (v : List ℕ). NotedClosings q.text v q.state.others) (sym a) (subst (λ (v : List ℕ). NotedClosings q.text p.state.arrows v) (sym b) (subst (λ (v : List ℕ). NotedClosings v p.state.arrows p.state.others) (sym t) n.2)))
  where
    stays : (P : List ℕ → Flags → ℕ → Type 0) → (w : Bool) (c : Context) (x : ℕ) → P p.text (widened w (flags_in p c)) x → P q.text (widened w (flags_in q c)) x
    stays P w c x z = subst (λ (v : List ℕ). P v (widened w (flags_in q c)) x) (sym t) (subst (λ (f : Flags). P p.text f x) (λ i. record (widened w (flags_in q c)) { module_goal = w || is_module (sym s i); v8 = (sym o i).allow_v8_intrinsics }) z)

pub same_itself : {p : Parser} → Same p p
same_itself {p} = record { follows = follows_itself p; options = refl; ctx = refl; depth = refl; visits = refl; early = λ h. h; lies = λ h. h }

pub same_both : {p q r : Parser} → Same p q → Same q r → Same p r
same_both a b = record { follows = follows_on a.follows b.follows; options = b.options ∙ a.options; ctx = b.ctx ∙ a.ctx; depth = b.depth ∙ a.depth; visits = b.visits ∙ a.visits; early = λ h. b.early (a.early h); lies = λ h. b.lies (a.lies h) }

-- what lies in the text still does, where text and nodes stay
pub nodes_lie : (p q : Parser) → q.text ≡ p.text → q.nodes ≡ p.nodes → NodesLie p.text p.nodes → NodesLie q.text q.nodes
nodes_lie p q t n h = subst (λ (v : List ℕ). NodesLie v q.nodes) (sym t) (All-same (NodeFits p.text) q.nodes p.nodes n h)

pub same_of : {p q : Parser} → IsAt q → Follows p q → q.nodes ≡ p.nodes → q.errors ≡ p.errors → q.options ≡ p.options → q.ctx ≡ p.ctx → q.depth ≡ p.depth → q.visits ≡ p.visits → Same p q
same_of {p} {q} i g n e o c d v = record { follows = g; options = o; ctx = c; depth = d; visits = v; early = λ h. All-same IsEarly q.errors p.errors e h; lies = λ h. (i.lies.starts_whole, nodes_lie p q g.text n h.1) }

-- a lexeme that isn't the end has bytes
further : {p q : Parser} → is_last p.token.kind ≡ false → Passed p q → p.token.span.start < q.prev_token_end
further n s = let e = s.moved in let t = s.tells.start in let l = lexeme_some s.stood (λ e. false≢true (sym n ∙ ap is_last (s.tells.kind ∙ e))) in omega arith

module _ {text : List ℕ} {f : Flags} {p : Parser} where
  -- the next token
  next_at : {q : Parser} → At text f p → Passed p q → At text f q
  next_at {q} a h = record {
    text_is = text_is;
    flags_are = flags_same p q h.stays.ctx h.stays.source_type h.stays.options ∙ a.flags_are;
    at = h.at;
    plain = subst (λ (v : List ℕ). IsPlain v q) text_is (plain_given h.next.faults h.at.token outcome);
    behind = let s = h.next.start in let e = place in omega arith;
    heads = heads_kept p q h.stays.text h.stays.source_type h.stays.options (ap (λ (n : Notes). n.failed) h.stays.state) (ap (λ (n : Notes). n.operands) h.stays.state) (ap (λ (n : Notes). n.arrows) h.stays.state) (ap (λ (n : Notes). n.others) h.stays.state) a.heads;
    kept_last = next_kept_last h.next;
  }
    where
      text_is : q.text ≡ text
      text_is = h.stays.text ∙ a.text_is

      reads : p.lexer.text ≡ q.text
      reads = a.at.reads ∙ sym h.stays.text

      place : p.lexer.place ≡ q.prev_token_end
      place = a.at.last ∙ (h.tells.end ∙ sym h.moved)

      outcome : Outcome division cut (goal q) q.text q.prev_token_end q.token [] h.next.faults
      outcome =
          subst (λ (v : Goal). Outcome division cut v q.text q.prev_token_end q.token [] h.next.faults) (sym h.next.same.goal ∙ h.at.reads_for)
          (subst (λ (v : List ℕ). Outcome division cut p.lexer.goal v q.prev_token_end q.token [] h.next.faults) reads
          (subst (λ (v : ℕ). Outcome division cut p.lexer.goal p.lexer.text v q.token [] h.next.faults) place h.next.outcome))

  passed_moves : {q : Parser} → At text f p → p.cut ≡ false → is_last p.token.kind ≡ false → Passed p q → Moved text f p q
  passed_moves {q} a c n s = record {
    at = next_at a s;
    same = same_of s.at (passed_follows s) s.stays.nodes s.stays.errors s.stays.options s.stays.ctx s.stays.depth s.stays.visits;
    nodes = s.stays.nodes;
    kept = s.stays.errors;
    lexeme = s.lexeme;
    stood = subst (λ (v : List ℕ). NextLexeme all_faults v p.prev_token_end s.lexeme) a.text_is s.stood;
    plain = ap (one_of_kinds other_goals) (sym s.tells.kind) ∙ plain_token a.plain;
    tells = s.tells;
    ends = sym s.moved;
    further = further n s;
    news = news;
    is_new = record {
      stood = subst (λ (v : List ℕ). NextLexeme all_faults v p.prev_token_end s.lexeme) a.text_is s.stood;
      tells = s.tells;
      counts = counts_here a.plain n;
      faults = subst (λ (v : Goal). KeptFor v text s.lexeme.to news.faults) a.at.reads_for (there (λ v i. KeptFor p.lexer.goal v i news.faults) (kept_for s.next));
      trivia = there (λ v i. TriviaKept v i news.comments news.blanks) (trivia_kept s.next);
    };
    spot_is = λ i. record {
      source = goal_of (s.stays.source_type i);
      keeps_tokens = s.next.same.keeps_tokens i;
      place = s.moved i;
      kept = record { comments = s.next.grows.comments_grow i; irregular_whitespaces = s.next.grows.blanks_grow i; tokens = (before_next s.next ∙ a.kept_last) i; errors = s.next.grows.faults_grow i };
    };
  }
    where
      news : News
      news = record {
        token = p.token;
        comments = each_at (comment_at q.token.span.start) p.lexer.place s.next.pieces;
        blanks = each_at irregular_at p.lexer.place s.next.pieces;
        faults = each_at (html_fault_at (in_a_module p.lexer.goal)) p.lexer.place s.next.pieces ++ s.next.faults;
      }

      there : (P : List ℕ → ℕ → Type 0) → P p.lexer.text p.lexer.place → P text s.lexeme.to
      there P h = subst (λ (v : List ℕ). P v s.lexeme.to) (a.at.reads ∙ a.text_is) (subst (λ (i : ℕ). P p.lexer.text i) (a.at.last ∙ s.tells.end) h)

  by_moving : {mid q : Parser} → At text f p → IsWholeHere p → Completed p mid → ((is_last mid.token.kind ≡ true) × (q ≡ mid) × IsAt q) ⊎ ((is_last mid.token.kind ≡ false) × Passed mid q) → Moved text f p q
  by_moving a w (inr e) k = absurd (false≢true (sym w.0 ∙ e.0))
  by_moving a w (inl e) (inl k) = absurd (false≢true (sym w.1 ∙ (sym (ap (λ (r : Parser). is_last r.token.kind) e.1) ∙ k.0)))
  by_moving {mid} {q} a w (inl e) (inr k) = passed_moves a w.0 w.1 (subst (λ (r : Parser). Passed r q) e.1 k.1)

  pub moves : {q : Parser} → IsWholeHere p → MovesOn p q → At text f p → Moved text f p q
  moves w (mid, c, h) a = by_moving a w c h

-- where a lexeme stands, one is told
whole_outcome : (source : Goal) {text : List ℕ} {s : ℕ} {t : Token} (going_on faults : List Diagnostic) {y : Lexeme} → Outcome division (λ z. z) source text s t going_on faults → LexemeBehind division text s y → (t.kind ≡ Undetermined → ⊥) × GivesLexeme division (λ z. z) text s t
whole_outcome source {text} {s} {t} going_on faults {y} o l = go (same_kind Undetermined t.kind) refl o
  where
    go : (r : Bool) → same_kind Undetermined t.kind ≡ r → elim r as (λ _. Type 0) [ true ↦ (d : Diagnostic) × (faults ≡ d ∷ []) × GivesNone division source text s t d | false ↦ (faults ≡ going_on) × GivesLexeme division (λ z. z) text s t ] → (t.kind ≡ Undetermined → ⊥) × GivesLexeme division (λ z. z) text s t
    go true q x = absurd (x.2.none y l)
    go false q x = (λ e. false≢true (sym q ∙ ap (same_kind Undetermined) e), x.1)

-- A sign that begins with `>` is told whole.
completes : {text : List ℕ} {f : Flags} {p q : Parser} → Completed p q → IsAt q → (power : ℕ) → At text f p → power ≡ cond q.token.escaped 0 (power_of f.in_ q.token.kind) → Tightness text f p q power
completes {text} {f} {p} {q} (inl e) b n a h = subst (λ (r : Parser). Tightness text f p r n) (sym e.1) (record { at = a; same = same_itself; nodes = refl; kept = refl; place = refl; spot_is = refl; start = refl; uncut = e.0; is = subst (λ (r : Parser). n ≡ cond r.token.escaped 0 (power_of f.in_ r.token.kind)) e.1 h })
completes {text} {f} {p} {q} (inr e) b n a h = record {
  at = record {
    text_is = text_is;
    flags_are = flags_same p q e.1.stays.ctx e.1.stays.source_type e.1.stays.options ∙ a.flags_are;
    at = b;
    plain = plain;
    behind = let s = e.1.again.start in let g = a.behind in let l = e.1.place in omega arith;
    heads = heads_kept p q e.1.stays.text e.1.stays.source_type e.1.stays.options (ap (λ (n : Notes). n.failed) e.1.stays.state) (ap (λ (n : Notes). n.operands) e.1.stays.state) (ap (λ (n : Notes). n.arrows) e.1.stays.state) (ap (λ (n : Notes). n.others) e.1.stays.state) a.heads;
    kept_last = again_last p.lexer q.lexer p.token q.token e.1.again.same.keeps_tokens e.1.again.tokens counted.0 counted.1 a.kept_last;
  };
  same = same_of b (read_again_follows e.1) e.1.stays.nodes e.1.stays.errors e.1.stays.options e.1.stays.ctx e.1.stays.depth e.1.stays.visits;
  nodes = e.1.stays.nodes;
  kept = e.1.stays.errors;
  place = e.1.place;
  spot_is = λ i. record {
    source = goal_of (e.1.stays.source_type i);
    keeps_tokens = e.1.again.same.keeps_tokens i;
    place = e.1.place i;
    kept = record { comments = e.1.again.comments i; irregular_whitespaces = e.1.again.blanks i; tokens = again_before p.lexer q.lexer p.token q.token e.1.again.same.keeps_tokens e.1.again.tokens counted.0 counted.1 i; errors = e.3 i };
  };
  start = e.1.again.start;
  uncut = e.2;
  is = h;
}
  where
    text_is : q.text ≡ text
    text_is = e.1.stays.text ∙ a.text_is

    -- the old token is a sign that begins with `>`; the new one tells the whole lexeme
    told : (p.token.kind ≡ RAngle) × GivesLexeme division cut text p.prev_token_end p.token × (q.token.kind ≡ Undetermined → ⊥) × GivesLexeme division (λ y. y) text p.prev_token_end q.token
    told = by a.plain
      where
        by : IsPlain text p → (p.token.kind ≡ RAngle) × GivesLexeme division cut text p.prev_token_end p.token × (q.token.kind ≡ Undetermined → ⊥) × GivesLexeme division (λ y. y) text p.prev_token_end q.token
        by (whole c n x) = absurd (false≢true (sym c ∙ e.0))
        by (nothing c k n) = absurd (false≢true (sym c ∙ e.0))
        by (sign c k x) =
            let reads : text ≡ p.lexer.text = sym a.text_is ∙ sym a.at.reads in
            let l : LexemeBehind division p.lexer.text p.prev_token_end x.lexeme = subst (λ (v : List ℕ). LexemeBehind division v p.prev_token_end x.lexeme) reads x.stands in
            let z = whole_outcome p.lexer.goal e.1.going_on e.1.faults (e.1.again.outcome p.prev_token_end x.lexeme (subst (λ (v : List ℕ). IsCharBoundary v p.prev_token_end) (sym a.at.reads) a.at.between) l x.tells) l in
            (k, x, z.0, subst (λ (v : List ℕ). GivesLexeme division (λ y. y) v p.prev_token_end q.token) (sym reads) z.1)

    counted : (is_kept p.token.kind ≡ true) × (is_kept q.token.kind ≡ true)
    counted = (subst (λ (v : Kind). is_kept v ≡ true) (sym told.0) refl, completed_counts told.0 told.1 told.3)

    plain : IsPlain text q
    plain = whole e.2 told.2 (subst (λ (v : ℕ). GivesLexeme division (λ y. y) text v q.token) (sym e.1.place) told.3)

pub tightness : {text : List ℕ} {f : Flags} {p q : Parser} (power : ℕ) → IsCompleted p q → At text f p → power ≡ cond q.token.escaped 0 (power_of (has_flag in_flag q.ctx) q.token.kind) → Tightness text f p q power
tightness {text} {f} {p} {q} n (inl c) a h = subst (λ (r : Parser). Tightness text f p r n) (sym c.1) (record { at = a; same = same_itself; nodes = refl; kept = refl; place = refl; spot_is = refl; start = refl; uncut = uncut a c.0; is = subst (λ (b : Bool). n ≡ cond p.token.escaped 0 (power_of b p.token.kind)) (ap (λ (g : Flags). g.in_) a.flags_are) (subst (λ (r : Parser). n ≡ cond r.token.escaped 0 (power_of (has_flag in_flag r.ctx) r.token.kind)) c.1 h) })
tightness {text} {f} {p} {q} n (inr c) a h = completes c.0 c.1 n a (subst (λ (b : Bool). n ≡ cond q.token.escaped 0 (power_of b q.token.kind)) (in_of c.0) h)
  where
    in_of : Completed p q → has_flag in_flag q.ctx ≡ f.in_
    in_of (inl e) = ap (λ (r : Parser). has_flag in_flag r.ctx) e.1 ∙ ap (λ (g : Flags). g.in_) a.flags_are
    in_of (inr e) = ap (has_flag in_flag) e.1.stays.ctx ∙ ap (λ (g : Flags). g.in_) a.flags_are

pub powered : {n : ℕ} {a b e : Bool} {k : Kind} (l : Kind) → a ≡ b → n ≡ power_of a k → e ≡ false → k ≡ l → n ≡ cond e 0 (power_of b l)
powered l p q r s = rw (r, sym p, sym s) q

-- what `bump_any` answers
pub advances : (p q : Parser) (r : Result (Unit {0}) Stop) → IsWholeHere p → MatchResult r (λ x. MovesOn p q) OnlyMemory → MatchResult r (λ x. Moves p q) OnlyMemory
advances p q (Ok x) w m = λ text f a. moves w m a
advances p q (Err e) w m = m

-- ---- what is changed beside the place

-- other nodes, and another depth
pub elsewhere : {text : List ℕ} {f : Flags} {p : Parser} (ns : List Node) (k : ℕ) → At text f p → At text f (record p { nodes = ns; depth = k })
elsewhere {text} {f} {p} ns k a = record { text_is = a.text_is; flags_are = a.flags_are; at = fields_at ns p.visits p.ctx k a.at; plain = plain_of a.plain; behind = a.behind; heads = a.heads; kept_last = a.kept_last }
  where
    plain_of : IsPlain text p → IsPlain text (record p { nodes = ns; depth = k })
    plain_of (whole c n x) = whole c n x
    plain_of (sign c k x) = sign c k x
    plain_of (nothing c k n) = nothing c k n

pub beside_nodes : {text : List ℕ} {f : Flags} {p : Parser} (ns : List Node) → At text f p → At text f (record p { nodes = ns })
beside_nodes {p = p} ns a = elsewhere ns p.depth a

-- with nodes that were made since
pub same_with : {p q : Parser} (ns : List Node) → Same p q → Keeps p.nodes ns → (IsCharBoundary p.text p.token.span.start → NodesLie q.text q.nodes → NodesLie q.text ns) → Same p (record q { nodes = ns })
same_with ns s k n =
    let f = s.follows in
    record {
      follows = record { text = f.text; source_type = f.source_type; options = f.options; nodes = k; later_errors = f.later_errors; errors = f.errors; later_visits = f.later_visits; visits = f.visits; later_covers = f.later_covers; covers = f.covers; later_commas = f.later_commas; commas = f.commas; later_faults = f.later_faults; faults = f.faults; longer = f.longer; still = f.still; leads = f.leads };
      options = s.options;
      ctx = s.ctx;
      depth = s.depth;
      visits = s.visits;
      early = s.early;
      lies = λ h. let z = s.lies h in (z.0, n h.0 z.1);
    }

pub at_depth : {p : Parser} (k : ℕ) → IsAt p → Follows p (record p { depth = k })
at_depth {p} k a = (fields_set p.nodes p.visits [] p.ctx k a (Keeps-refl p.nodes) (sym (append-nil p.visits))).0

out_of : {text : List ℕ} {f : Flags} {n : Symbol} {p q : Parser} {id : NodeId} (k j : ℕ) → j ≡ p.depth → IsAt p → Numbered text f n (record p { depth = k }) q id → Numbered text f n p (record q { depth = j }) id
out_of {q = q} k j e a x = record {
  answer = record {
    at = elsewhere q.nodes j x.answer.at;
    same = record { follows = follows_on (at_depth k a) (follows_on x.answer.same.follows (at_depth j x.answer.at.at)); options = x.answer.same.options; ctx = x.answer.same.ctx; depth = e; visits = x.answer.same.visits; early = x.answer.same.early; lies = x.answer.same.lies };
    further = x.answer.further;
    label = x.answer.label;
    slots = x.answer.slots;
    stops = x.answer.stops;
    row = x.answer.row;
    pass = x.answer.pass;
    walked = x.answer.walked;
    verdict = x.answer.verdict;
  };
  holds = x.holds;
  keeps = x.keeps;
}

-- one level deeper, and back
pub deeper : {k : ℕ} {text : List ℕ} {f : Flags} {p q : Parser} → At text f p → Enters k p q → At text f q
deeper {k} {text} {f} {p} a h = subst (At text f) (sym h.is) (elsewhere p.nodes (p.depth + k) a)

pub left_at : {k : ℕ} {text : List ℕ} {f : Flags} {p q : Parser} → At text f p → Leaves k p q → At text f q
left_at {k} {text} {f} {p} {q} a h = subst (At text f) (sym h.is) (elsewhere p.nodes q.depth a)

pub left : {k : ℕ} {text : List ℕ} {f : Flags} {n : Symbol} {p e q w : Parser} {id : NodeId} → IsAt p → Enters k p e → Leaves k q w → Numbered text f n e q id → Numbered text f n p w id
left {k} {text} {f} {n} {p} {e} {q} {w} {id} a h l x =
    let d : w.depth ≡ p.depth = (let a = l.depth in let b = x.answer.same.depth in let c = ap (λ (r : Parser). r.depth) h.is in omega arith) in
    subst (λ (r : Parser). Numbered text f n p r id) (sym l.is) (out_of (p.depth + k) w.depth d a (subst (λ (r : Parser). Numbered text f n r q id) h.is x))

-- what a call said, of the state before
pub stops_later : {p q : Parser} (r : Parser) {F H : Type 0} (e : Stop) → Follows p q → (All IsEarly p.errors → All IsEarly q.errors) → (SpansLie p → SpansLie q) → (Grown q.errors r.errors → Grown p.errors r.errors) → (F → H) → Stops q r e F → Stops p r e H
stops_later r Fatal g k l h i s = record { at = s.at; follows = follows_on g s.follows; grown = h s.grown; stopped = λ w. s.stopped (k w); lies = λ w. s.lies (l w); heads = s.heads; none = i s.none }
stops_later r NoMemory g k l h i s = tt

pub stops_behind : {p q : Parser} (r : Parser) {F H : Type 0} (e : Stop) → Same p q → (Grown q.errors r.errors → Grown p.errors r.errors) → (F → H) → Stops q r e F → Stops p r e H
stops_behind r e m h i s = stops_later r e m.follows m.early m.lies h i s

pub stops_in : {k : ℕ} {p q : Parser} (r : Parser) {F H : Type 0} (e : Stop) → IsAt p → Enters k p q → (F → H) → Stops q r e F → Stops p r e H
stops_in {p = p} {q = q} r e a h i s = stops_later r e (entered_on a h).0 (λ w. All-same IsEarly q.errors p.errors (ap (λ (x : Parser). x.errors) h.is) w) (λ w. subst SpansLie (sym h.is) w) (λ g. subst (λ (x : Parser). Grown x.errors r.errors) h.is g) i s

-- whatever the text and the parameters are called
pub standing : {text : List ℕ} {f : Flags} {p : Parser} → At text f p → Standing p
standing {text} {f} {p} a = subst (λ (t : List ℕ). At t (flags_of p) p) (sym a.text_is) (record { text_is = a.text_is; flags_are = refl; at = a.at; plain = a.plain; behind = a.behind; heads = a.heads; kept_last = a.kept_last })

-- and the same for other parameters, those of wider forms
pub standing_for : {text : List ℕ} {f : Flags} {p : Parser} → Standing p → p.text ≡ text → widened f.wide (flags_of p) ≡ f → At text f p
standing_for {text} {f} {p} a t e = record { text_is = t; flags_are = e; at = a.at; plain = subst (λ (v : List ℕ). IsPlain v p) t a.plain; behind = a.behind; heads = a.heads; kept_last = a.kept_last }

pub entered_place : {k : ℕ} {p q : Parser} → Enters k p q → q.prev_token_end ≡ p.prev_token_end
entered_place h = ap (λ (r : Parser). r.prev_token_end) h.is

pub entered_text : {k : ℕ} {p q : Parser} → Enters k p q → q.text ≡ p.text
entered_text h = ap (λ (r : Parser). r.text) h.is

pub entered_none : {k : ℕ} {text : List ℕ} {n : Symbol} {p q : Parser} → Enters k p q → Underived text n q.prev_token_end → Underived text n p.prev_token_end
entered_none {text = text} {n = n} h x = subst (λ (s : ℕ). Underived text n s) (entered_place h) x

pub stops_so : (p r : Parser) {F H : Type 0} (e : Stop) → (F → H) → Stops p r e F → Stops p r e H
stops_so p r e i s = stops_behind r e (same_itself {p = p}) (λ g. g) i s
