-- What holds after a parse function has set the fields that are its own: nodes, visits, notes, parameters and depth.
use Rattle.std.proofs.Common.{ℕ, ◌+◌, ◌≡◌, ◌≤◌, ◌<◌, ◌==◌, Bool, true, false, cond, List, [], ◌∷◌, ◌++◌, length, take, refl, sym, ap, subst, arith, ◌∙◌, append-nil, Option, Some, None}
use Rattle.std.specs.Prelude.{IsSome, is_some}
use Rattle.std.proofs.lemmas.Bool.{false≢true, eqb-true}
use Rattle.std.proofs.lemmas.List.{length-take-le}
use Rattle.js_base.specs.declared.context.Context.{Context}
use Rattle.js_base.specs.declared.diagnostic.Diagnostic.{Diagnostic}
use Rattle.js_base.specs.declared.span.Span.{Span}
use Rattle.js_tree.specs.js_grammar.ModuleRecords.{Part as Visit}
use Rattle.js_tree.specs.Nodes.{Node}
use Rattle.js_tree.specs.Holding.{Keeps}
use Rattle.js_tree.proofs.HoldingLemmas.{Keeps-refl}
use Rattle.js_cursor.specs.declared.checkpoint.ParserCheckpoint.{ParserCheckpoint}
use Rattle.js_cursor.specs.declared.state.CoverInitializer.{CoverInitializer}
use Rattle.js_cursor.specs.declared.stop.Stop.TheVariants.{Fatal}
use Rattle.js_cursor.specs.Checkpoints.{Remembers, MayGoBack, GoesBack, Follows, GoesOn}
use Rattle.js_cursor.specs.Histories.{put, nowhere, after, standing, without, StandBefore, Pops}
use Rattle.js_cursor.specs.Notes.{Notes}
use Rattle.js_cursor.specs.Parsers.{Parser}
use Rattle.js_cursor.specs.Tokens.{may_be_read_again, StillKept}
use Rattle.js_cursor.specs.Stages.{stays}
use Rattle.js_cursor.proofs.Stages.{leads_to}
use Rattle.js_cursor.proofs.StillKept.{still_itself, still_back, comments_back, blanks_back, keeps_back, tokens_back}
use Rattle.js_lex.specs.Kept.{lengths_of, first_kept}
use Rattle.js_base.specs.declared.token.Token.{Token}
use Rattle.js_cursor.specs.Places.{IsAt, KeptBefore}
use Rattle.js_cursor.specs.Moves.{MovesOn, Enters, Leaves, NotesArrow, NotesNoOperand, GivesUp}
use Rattle.js_cursor.proofs.Later.{keeps_follows, first_part, moves_on_follow, moved_at, may_go_back}

-- ---- what stands after one change more

module _ {V : Type 0} where
  after-one : (m : ℕ → Option V) (cs : List (ℕ × Option V)) (k : ℕ) (v : Option V) (q : ℕ) → after m (cs ++ (k, v) ∷ []) q ≡ cond (k == q) v (after m cs q)
  after-one m [] k v q = refl
  after-one m (c ∷ cs) k v q = after-one (put c.0 c.1 m) cs k v q

  pub standing-one : (cs : List (ℕ × Option V)) (k : ℕ) (v : Option V) (q : ℕ) → standing (cs ++ (k, v) ∷ []) q ≡ cond (k == q) v (standing cs q)
  standing-one cs k v q = after-one nowhere cs k v q

  -- what is put in starts before the place, too
  pub before-added : (cs : List (ℕ × Option V)) {i : ℕ} (k : ℕ) (v : V) → StandBefore cs i → k < i → StandBefore (cs ++ (k, Some v) ∷ []) i
  before-added cs {i} k v h l q s = go (k == q) refl (subst IsSome (standing-one cs k (Some v) q) s)
    where
      go : (b : Bool) → (k == q) ≡ b → IsSome (cond (k == q) (Some v) (standing cs q)) → q < i
      go true e z = subst (λ (n : ℕ). n < i) (eqb-true k q e) l
      go false e z = h q (subst (λ (b : Bool). IsSome (cond b (Some v) (standing cs q))) e z)

  -- what is left after something was taken out does
  pub before-taken : (cs : List (ℕ × Option V)) {i : ℕ} (k : ℕ) → StandBefore cs i → StandBefore (cs ++ (k, None) ∷ []) i
  before-taken cs {i} k h q s = go (k == q) refl (subst IsSome (standing-one cs k None q) s)
    where
      go : (b : Bool) → (k == q) ≡ b → IsSome (cond (k == q) None (standing cs q)) → q < i
      go true e z = absurd (false≢true (subst (λ (b : Bool). IsSome (cond b None (standing cs q))) e z))
      go false e z = h q (subst (λ (b : Bool). IsSome (cond b None (standing cs q))) e z)

  record Without (cs : List (ℕ × Option V)) (k : ℕ) : Type 0 where
    more : List (ℕ × Option V)
    grown : without cs k ≡ cs ++ more
    before : (i : ℕ) → StandBefore cs i → StandBefore (without cs k) i

  was-taken : (cs : List (ℕ × Option V)) (k : ℕ) → Without cs k
  was-taken cs k = go (is_some (standing cs k)) refl
    where
      go : (b : Bool) → is_some (standing cs k) ≡ b → Without cs k
      go true e =
          let s : without cs k ≡ cs ++ (k, None) ∷ [] = ap (λ (b : Bool). cond b (cs ++ (k, None) ∷ []) cs) e in
          record { more = (k, None) ∷ []; grown = s; before = λ i h. subst (λ (v : List (ℕ × Option V)). StandBefore v i) (sym s) (before-taken cs k h) }
      go false e =
          let s : without cs k ≡ cs = ap (λ (b : Bool). cond b (cs ++ (k, None) ∷ []) cs) e in
          record { more = []; grown = s ∙ sym (append-nil cs); before = λ i h. subst (λ (v : List (ℕ × Option V)). StandBefore v i) (sym s) h }

-- ---- the fields

module _ {p : Parser} where
  at_with : (ns : List Node) (vs : List Visit) (s : Notes) (c : Context) (d : ℕ) → IsAt p → KeptBefore s p.token.span.start → IsAt (record p { nodes = ns; visits = vs; state = s; ctx = c; depth = d })
  at_with ns vs s c d a k = record { reads = a.reads; reads_for = a.reads_for; utf8 = a.utf8; short = a.short; reached = a.reached; between = a.between; token = a.token; lies = a.lies; last = a.last; marked = a.marked; faulty = a.faulty; noted = k }

  follows_with : (ns : List Node) (vs more : List Visit) (s : Notes) (c : Context) (d : ℕ) (covers : List (ℕ × Option CoverInitializer)) (commas : List (ℕ × Option Span)) → Keeps p.nodes ns → vs ≡ p.visits ++ more → s.covers ≡ p.state.covers ++ covers → s.commas ≡ p.state.commas ++ commas → Follows p (record p { nodes = ns; visits = vs; state = s; ctx = c; depth = d })
  follows_with ns vs more s c d covers commas k v e f = record {
    text = refl;
    source_type = refl;
    options = refl;
    nodes = k;
    later_errors = [];
    errors = sym (append-nil p.errors);
    later_visits = more;
    visits = v;
    later_covers = covers;
    covers = e;
    later_commas = commas;
    commas = f;
    later_faults = [];
    faults = sym (append-nil p.lexer.kept.errors);
    longer = record { comments = omega arith; irregular_whitespaces = omega arith; tokens = omega arith; errors = omega arith };
    still = still_itself p.lexer p.token;
    leads = stays;
  }

  -- the notes stay
  pub fields_at : (ns : List Node) (vs : List Visit) (c : Context) (d : ℕ) → IsAt p → IsAt (record p { nodes = ns; visits = vs; ctx = c; depth = d })
  fields_at ns vs c d a = at_with ns vs p.state c d a a.noted

  pub fields_set : (ns : List Node) (vs more : List Visit) (c : Context) (d : ℕ) → IsAt p → Keeps p.nodes ns → vs ≡ p.visits ++ more → GoesOn p (record p { nodes = ns; visits = vs; ctx = c; depth = d })
  fields_set ns vs more c d a k v = (follows_with ns vs more p.state c d [] [] k v (sym (append-nil p.state.covers)) (sym (append-nil p.state.commas)), fields_at ns vs c d a)

  pub ctx_set : (c : Context) → IsAt p → GoesOn p (record p { ctx = c })
  ctx_set c a = fields_set p.nodes p.visits [] c p.depth a (Keeps-refl p.nodes) (sym (append-nil p.visits))

  pub nodes_set : (ns : List Node) → IsAt p → Keeps p.nodes ns → GoesOn p (record p { nodes = ns })
  nodes_set ns a k = fields_set ns p.visits [] p.ctx p.depth a k (sym (append-nil p.visits))

  pub visited : (vs more : List Visit) → IsAt p → vs ≡ p.visits ++ more → GoesOn p (record p { visits = vs })
  visited vs more a v = fields_set p.nodes vs more p.ctx p.depth a (Keeps-refl p.nodes) v

  notes_set : (s : Notes) (covers : List (ℕ × Option CoverInitializer)) (commas : List (ℕ × Option Span)) → IsAt p → s.covers ≡ p.state.covers ++ covers → s.commas ≡ p.state.commas ++ commas → KeptBefore s p.token.span.start → GoesOn p (record p { state = s })
  notes_set s covers commas a e f k = (follows_with p.nodes p.visits [] s p.ctx p.depth covers commas (Keeps-refl p.nodes) (sym (append-nil p.visits)) e f, at_with p.nodes p.visits s p.ctx p.depth a k)

  -- a shorthand or a comma is kept that starts before the current token
  pub cover_added : (k : ℕ) (c : CoverInitializer) → IsAt p → k < p.token.span.start → GoesOn p (record p { state = record p.state { covers = p.state.covers ++ (k, Some c) ∷ [] } })
  cover_added k c a l = notes_set (record p.state { covers = p.state.covers ++ (k, Some c) ∷ [] }) ((k, Some c) ∷ []) [] a refl (sym (append-nil p.state.commas)) (record { covers = before-added p.state.covers k c a.noted.covers l; commas = a.noted.commas })

  pub comma_added : (k : ℕ) (s : Span) → IsAt p → k < p.token.span.start → GoesOn p (record p { state = record p.state { commas = p.state.commas ++ (k, Some s) ∷ [] } })
  comma_added k s a l = notes_set (record p.state { commas = p.state.commas ++ (k, Some s) ∷ [] }) [] ((k, Some s) ∷ []) a (sym (append-nil p.state.covers)) refl (record { covers = a.noted.covers; commas = before-added p.state.commas k s a.noted.commas l })

  -- a shorthand is taken out
  pub cover_taken : (k : ℕ) → IsAt p → GoesOn p (record p { state = record p.state { covers = without p.state.covers k } })
  cover_taken k a =
      let w = was-taken p.state.covers k in
      notes_set (record p.state { covers = without p.state.covers k }) w.more [] a w.grown (sym (append-nil p.state.commas)) (record { covers = w.before p.token.span.start a.noted.covers; commas = a.noted.commas })

  pub cover_popped : (r : Option CoverInitializer) (cs : List (ℕ × Option CoverInitializer)) → IsAt p → Pops p.state.covers cs r → GoesOn p (record p { state = record p.state { covers = cs } })
  cover_popped None cs a h = notes_set (record p.state { covers = cs }) [] [] a (h.1 ∙ sym (append-nil p.state.covers)) (sym (append-nil p.state.commas)) (record { covers = subst (λ v. StandBefore v p.token.span.start) (sym h.1) a.noted.covers; commas = a.noted.commas })
  cover_popped (Some v) cs a h = notes_set (record p.state { covers = cs }) ((h.0, None) ∷ []) [] a h.3 (sym (append-nil p.state.commas)) (record { covers = subst (λ v. StandBefore v p.token.span.start) (sym h.3) (before-taken p.state.covers h.0 a.noted.covers); commas = a.noted.commas })

  -- ---- calls

  pub entered_on : {k : ℕ} {q : Parser} → IsAt p → Enters k p q → GoesOn p q
  entered_on {k} {q} a h = subst (GoesOn p) (sym h.is) (fields_set p.nodes p.visits [] p.ctx (p.depth + k) a (Keeps-refl p.nodes) (sym (append-nil p.visits)))

  pub left_on : {k : ℕ} {q : Parser} → IsAt p → Leaves k p q → GoesOn p q
  left_on {q = q} a h = subst (GoesOn p) (sym h.is) (fields_set p.nodes p.visits [] p.ctx q.depth a (Keeps-refl p.nodes) (sym (append-nil p.visits)))

  -- where the shorthands and the commas stay
  pub notes_on : {q : Parser} → IsAt p → q ≡ record p { state = q.state } → q.state.covers ≡ p.state.covers → q.state.commas ≡ p.state.commas → GoesOn p q
  notes_on {q} a i c d = subst (GoesOn p) (sym i) (notes_set q.state [] [] a (c ∙ sym (append-nil p.state.covers)) (d ∙ sym (append-nil p.state.commas)) (record { covers = subst (λ v. StandBefore v p.token.span.start) (sym c) a.noted.covers; commas = subst (λ v. StandBefore v p.token.span.start) (sym d) a.noted.commas }))

  pub noted_on : {place : ℕ} {q : Parser} → IsAt p → NotesArrow place p q → GoesOn p q
  noted_on a h = notes_on a h.is h.noted.covers h.noted.commas

  pub operand_noted_on : {place : ℕ} {q : Parser} → IsAt p → NotesNoOperand place p q → GoesOn p q
  operand_noted_on a h = notes_on a h.is h.noted.covers h.noted.commas

  -- what stays when a function gives up
  pub gave_up_on : {P : Diagnostic → Type 0} {q : Parser} → GivesUp P p q Fatal → GoesOn p q
  gave_up_on h = (keeps_follows h.2, h.2.at)

-- ---- back

-- The parser is back where it was: what it had kept and noted there is what it keeps, nodes and what stands nowhere aside.
pub record IsBack (p r : Parser) : Type 0 where
  pub text : r.text ≡ p.text
  pub source_type : r.source_type ≡ p.source_type
  pub token : r.token ≡ p.token
  pub cut : r.cut ≡ p.cut
  pub prev_token_end : r.prev_token_end ≡ p.prev_token_end
  pub ctx : r.ctx ≡ p.ctx
  pub depth : r.depth ≡ p.depth
  pub errors : r.errors ≡ p.errors
  pub visits : r.visits ≡ p.visits
  pub covers : r.state.covers ≡ p.state.covers
  pub commas : r.state.commas ≡ p.state.commas
  pub faults : r.lexer.kept.errors ≡ p.lexer.kept.errors
  pub place : r.lexer.place ≡ p.lexer.place
  pub comments : r.lexer.kept.comments ≡ p.lexer.kept.comments
  pub blanks : r.lexer.kept.irregular_whitespaces ≡ p.lexer.kept.irregular_whitespaces
  pub keeps_tokens : r.lexer.keeps_tokens ≡ p.lexer.keeps_tokens
  -- the current token may have been read again
  pub tokens : may_be_read_again p.token.kind ≡ false → r.lexer.kept.tokens ≡ p.lexer.kept.tokens

-- what the lexer kept at the checkpoint
kept_then : {p q r : Parser} {c : ParserCheckpoint} → Remembers p c → GoesBack c q r → r.lexer.kept ≡ first_kept (lengths_of p.lexer.kept) q.lexer.kept
kept_then {q = q} m g = g.kept ∙ ap (λ n. first_kept n q.lexer.kept) m.lengths

pub came_back : {p q r : Parser} {c : ParserCheckpoint} → Remembers p c → Follows p q → GoesBack c q r → IsBack p r
came_back {p} {q} {r} {c} m f g = record {
  text = g.text ∙ f.text;
  source_type = g.source_type ∙ f.source_type;
  token = g.token ∙ m.token;
  cut = g.cut ∙ m.cut;
  prev_token_end = g.prev_token_end ∙ m.prev_token_end;
  ctx = g.ctx ∙ m.ctx;
  depth = g.depth ∙ m.depth;
  errors = g.errors ∙ first_part p.errors q.errors f.later_errors c.errors f.errors m.errors;
  visits = g.visits ∙ first_part p.visits q.visits f.later_visits c.visits f.visits m.visits;
  covers = ap (λ (n : Notes). n.covers) g.state ∙ first_part p.state.covers q.state.covers f.later_covers c.covers f.covers m.covers;
  commas = ap (λ (n : Notes). n.commas) g.state ∙ first_part p.state.commas q.state.commas f.later_commas c.commas f.commas m.commas;
  faults = ap (λ o. o.errors) g.kept ∙ first_part p.lexer.kept.errors q.lexer.kept.errors f.later_faults c.lexer.lengths.errors f.faults (ap (λ l. l.errors) m.lengths);
  place = g.place ∙ m.place;
  comments = comments_back f.still f.longer g.same (kept_then m g);
  blanks = blanks_back f.still f.longer g.same (kept_then m g);
  keeps_tokens = keeps_back f.still f.longer g.same (kept_then m g);
  tokens = tokens_back f.still f.longer g.same (kept_then m g);
}

as_long : {X : Type 0} (m n : ℕ) (xs ys : List X) → m ≡ n → m ≤ length xs → ys ≡ take n xs → m ≤ length ys
as_long m n xs ys e h q = let a = length-take-le n xs (omega arith) in let b = ap length q in omega arith

-- so it follows where it was
pub back_follows : {p q r : Parser} {c : ParserCheckpoint} → Remembers p c → Follows p q → GoesBack c q r → Follows p r
back_follows {p} {q} {r} {c} m f g =
    let b = came_back m f g in
    record {
      text = b.text;
      source_type = b.source_type;
      options = g.options ∙ f.options;
      nodes = subst (λ (ns : List Node). Keeps p.nodes ns) (sym g.nodes) f.nodes;
      later_errors = [];
      errors = b.errors ∙ sym (append-nil p.errors);
      later_visits = [];
      visits = b.visits ∙ sym (append-nil p.visits);
      later_covers = [];
      covers = b.covers ∙ sym (append-nil p.state.covers);
      later_commas = [];
      commas = b.commas ∙ sym (append-nil p.state.commas);
      later_faults = [];
      faults = b.faults ∙ sym (append-nil p.lexer.kept.errors);
      longer = record {
        comments = as_long _ c.lexer.lengths.comments q.lexer.kept.comments _ (sym (ap (λ l. l.comments) m.lengths)) f.longer.comments (ap (λ o. o.comments) g.kept);
        irregular_whitespaces = as_long _ c.lexer.lengths.irregular_whitespaces q.lexer.kept.irregular_whitespaces _ (sym (ap (λ l. l.irregular_whitespaces) m.lengths)) f.longer.irregular_whitespaces (ap (λ o. o.irregular_whitespaces) g.kept);
        tokens = as_long _ c.lexer.lengths.tokens q.lexer.kept.tokens _ (sym (ap (λ l. l.tokens) m.lengths)) f.longer.tokens (ap (λ o. o.tokens) g.kept);
        errors = as_long _ c.lexer.lengths.errors q.lexer.kept.errors _ (sym (ap (λ l. l.errors) m.lengths)) f.longer.errors (ap (λ o. o.errors) g.kept);
      };
      still = subst (λ (v : Token). StillKept p.lexer p.token r.lexer v) (sym b.token) (still_back f.still f.longer g.same (kept_then m g));
      leads = leads_to (λ i. record { place = sym b.prev_token_end i; token = sym b.token i; comments = sym b.comments i; blanks = sym b.blanks i; faults = sym b.faults i }) stays;
    }

-- ---- the same, of a parser seen as p

module _ {p q : Parser} where
  pub ctx_seen : p ≡ q → (c : Context) → IsAt q → GoesOn q (record p { ctx = c })
  ctx_seen v c a = subst (λ (z : Parser). GoesOn z (record p { ctx = c })) v (ctx_set c (subst IsAt (sym v) a))

  pub visits_seen : p ≡ q → (vs more : List Visit) → IsAt q → vs ≡ p.visits ++ more → GoesOn q (record p { visits = vs })
  visits_seen v vs more a e = subst (λ (z : Parser). GoesOn z (record p { visits = vs })) v (visited vs more (subst IsAt (sym v) a) e)

  changed : p ≡ q → (s t : Notes) → s ≡ t → GoesOn p (record p { state = t }) → GoesOn q (record p { state = s })
  changed v s t e h = subst (λ (z : Parser). GoesOn z (record p { state = s })) v (subst (λ (x : Notes). GoesOn p (record p { state = x })) (sym e) h)

  pub cover_added_seen : p ≡ q → (s : Notes) (k : ℕ) (c : CoverInitializer) → IsAt q → k < q.token.span.start → s ≡ record p.state { covers = p.state.covers ++ (k, Some c) ∷ [] } → GoesOn q (record p { state = s })
  cover_added_seen v s k c a l e = changed v s _ e (cover_added k c (subst IsAt (sym v) a) (subst (λ (z : Parser). k < z.token.span.start) (sym v) l))

  pub comma_added_seen : p ≡ q → (s : Notes) (k : ℕ) (c : Span) → IsAt q → k < q.token.span.start → s ≡ record p.state { commas = p.state.commas ++ (k, Some c) ∷ [] } → GoesOn q (record p { state = s })
  comma_added_seen v s k c a l e = changed v s _ e (comma_added k c (subst IsAt (sym v) a) (subst (λ (z : Parser). k < z.token.span.start) (sym v) l))

  pub cover_taken_seen : p ≡ q → (s : Notes) (k : ℕ) → IsAt q → s ≡ record p.state { covers = without p.state.covers k } → GoesOn q (record p { state = s })
  cover_taken_seen v s k a e = changed v s _ e (cover_taken k (subst IsAt (sym v) a))

  pub cover_popped_seen : p ≡ q → (s : Notes) (r : Option CoverInitializer) → IsAt q → Pops p.state.covers s.covers r → s ≡ record p.state { covers = s.covers } → GoesOn q (record p { state = s })
  cover_popped_seen v s r a h e = changed v s _ e (cover_popped r s.covers (subst IsAt (sym v) a) h)

pub moved_on : {p q : Parser} → MovesOn p q → GoesOn p q
moved_on h = (moves_on_follow h, moved_at h)

-- the parser may go back to where it was remembered
pub may_return : {p here q : Parser} {c : ParserCheckpoint} → IsAt p → Remembers p c → here ≡ p → Follows here q → MayGoBack c q
may_return {p} {here} {q} {c} a r e f = may_go_back a r (subst (λ (x : Parser). Follows x q) e f)
