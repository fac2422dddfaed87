-- Later places: what was kept is still there, so that the parser may go back; and a bracket that was passed was opened.
use Rattle.std.proofs.Common.{ℕ, ◌≡◌, ◌≤◌, inl, inr, Bool, true, false, List, [], ◌∷◌, ◌++◌, length, take, refl, sym, ap, subst, arith, ◌∙◌, length-append, append-nil, ◌&&◌, Option}
use Rattle.std.specs.Prelude.{IsCharBoundary}
use Rattle.std.proofs.Math.Seq.{take-append_seam}
use Rattle.std.proofs.lemmas.Bool.{false≢true}
use Rattle.js_base.specs.Spans.{LiesIn}
use Rattle.js_base.specs.Kinds.{one_of_kinds}
use Rattle.js_base.specs.part_memory.Lists.{replaced}
use Rattle.js_base.specs.declared.kind.Kind.{Kind}
use Rattle.js_base.specs.declared.kind.Kind.TheVariants.{LParen, LBrack, LCurly}
use Rattle.js_base.specs.declared.diagnostic.Diagnostic.{Diagnostic}
use Rattle.js_base.specs.declared.span.Span.{Span}
use Rattle.js_base.specs.declared.token.Token.{Token}
use Rattle.js_tree.specs.js_grammar.LexicalFaults.{Reached}
use Rattle.js_tree.specs.js_grammar.Marks.{LexemeAt, a_lexeme, opens}
use Rattle.js_tree.specs.js_grammar.Settings.{Goal}
use Rattle.js_lex.specs.Kept.{lengths_of, AreAtMost}
use Rattle.js_lex.specs.Reading.{is_kept}
use Rattle.js_lex.specs.States.{goal_of}
use Rattle.js_lex.proofs.Keeping.{twice}
use Rattle.js_tree.specs.Nodes.{Node}
use Rattle.js_tree.specs.Holding.{Keeps}
use Rattle.js_tree.proofs.HoldingLemmas.{Keeps-refl, Keeps-trans}
use Rattle.js_cursor.specs.declared.checkpoint.ParserCheckpoint.{ParserCheckpoint}
use Rattle.js_cursor.specs.Checkpoints.{Remembers, MayGoBack, Follows}
use Rattle.js_cursor.specs.Histories.{StandBefore}
use Rattle.js_cursor.specs.Parsers.{Parser}
use Rattle.js_cursor.specs.Tokens.{IsToken, sign}
use Rattle.js_cursor.specs.Places.{IsAt, goal}
use Rattle.js_cursor.specs.Stages.{stays}
use Rattle.js_cursor.proofs.StillKept.{still_itself, still_on, still_next, still_again}
use Rattle.js_cursor.proofs.Stages.{leads_on, leads_in, passed_leads, again_leads}
use Rattle.js_cursor.specs.Moves.{Passed, ReadAgain, Completed, MovesOn, KeepsDiagnostic, Opened, is_last}

-- the same nodes
pub nodes_stay : {ns ms : List Node} → ms ≡ ns → Keeps ns ms
nodes_stay {ns} e = record { more = []; whole = e ∙ sym (append-nil ns) }

pub follows_itself : (p : Parser) → Follows p p
follows_itself p = record {
  text = refl;
  source_type = refl;
  options = refl;
  nodes = Keeps-refl p.nodes;
  later_errors = [];
  errors = sym (append-nil p.errors);
  later_visits = [];
  visits = sym (append-nil p.visits);
  later_covers = [];
  covers = sym (append-nil p.state.covers);
  later_commas = [];
  commas = sym (append-nil p.state.commas);
  later_faults = [];
  faults = sym (append-nil p.lexer.kept.errors);
  longer = record { comments = omega arith; irregular_whitespaces = omega arith; tokens = omega arith; errors = omega arith };
  still = still_itself p.lexer p.token;
  leads = stays;
}

pub follows_on : {p q r : Parser} → Follows p q → Follows q r → Follows p r
follows_on {p} {q} {r} f g = record {
  text = g.text ∙ f.text;
  source_type = g.source_type ∙ f.source_type;
  options = g.options ∙ f.options;
  nodes = Keeps-trans f.nodes g.nodes;
  later_errors = f.later_errors ++ g.later_errors;
  errors = twice p.errors q.errors r.errors f.later_errors g.later_errors f.errors g.errors;
  later_visits = f.later_visits ++ g.later_visits;
  visits = twice p.visits q.visits r.visits f.later_visits g.later_visits f.visits g.visits;
  later_covers = f.later_covers ++ g.later_covers;
  covers = twice p.state.covers q.state.covers r.state.covers f.later_covers g.later_covers f.covers g.covers;
  later_commas = f.later_commas ++ g.later_commas;
  commas = twice p.state.commas q.state.commas r.state.commas f.later_commas g.later_commas f.commas g.commas;
  later_faults = f.later_faults ++ g.later_faults;
  faults = twice p.lexer.kept.errors q.lexer.kept.errors r.lexer.kept.errors f.later_faults g.later_faults f.faults g.faults;
  longer = record {
    comments = let a = f.longer.comments in let b = g.longer.comments in omega arith;
    irregular_whitespaces = let a = f.longer.irregular_whitespaces in let b = g.longer.irregular_whitespaces in omega arith;
    tokens = let a = f.longer.tokens in let b = g.longer.tokens in omega arith;
    errors = let a = f.longer.errors in let b = g.longer.errors in omega arith;
  };
  still = still_on f.still g.still;
  leads = leads_on f.leads (leads_in (ap goal_of f.source_type) f.text g.leads);
}

grown : {X : Type 0} (a b x : List X) → b ≡ a ++ x → length a ≤ length b
grown a b x e = omega (arith, ap length e, length-append a x)

pub passed_follows : {p q : Parser} → Passed p q → Follows p q
passed_follows {p} {q} h = record {
  text = h.stays.text;
  source_type = h.stays.source_type;
  options = h.stays.options;
  nodes = nodes_stay h.stays.nodes;
  later_errors = [];
  errors = h.stays.errors ∙ sym (append-nil p.errors);
  later_visits = [];
  visits = h.stays.visits ∙ sym (append-nil p.visits);
  later_covers = [];
  covers = ap (λ n. n.covers) h.stays.state ∙ sym (append-nil p.state.covers);
  later_commas = [];
  commas = ap (λ n. n.commas) h.stays.state ∙ sym (append-nil p.state.commas);
  later_faults = _;
  faults = h.next.grows.faults_grow;
  longer = record {
    comments = grown _ _ _ h.next.grows.comments_grow;
    irregular_whitespaces = grown _ _ _ h.next.grows.blanks_grow;
    tokens = grown _ _ _ h.next.grows.tokens_grow;
    errors = grown _ _ _ h.next.grows.faults_grow;
  };
  still = still_next p.token h.next;
  leads = passed_leads h;
}

as_long : (ts : List Token) (t : Token) → length ts ≤ length (replaced ts t)
as_long [] t = omega arith
as_long (x ∷ []) t = omega arith
as_long (x ∷ y ∷ ts) t = let h = as_long (y ∷ ts) t in omega arith

relexed_long : (b : Bool) (ts : List Token) (t : Token) → length ts ≤ length (elim b as (λ _. List Token) [ true ↦ replaced ts t | false ↦ ts ])
relexed_long true ts t = as_long ts t
relexed_long false ts t = omega arith

same_length : {X : Type 0} (a b : List X) → b ≡ a → length a ≤ length b
same_length a b e = omega (arith, ap length e)

pub read_again_follows : {g : _} {p q : Parser} → ReadAgain g p q → Follows p q
read_again_follows {g} {p} {q} h = record {
  text = h.stays.text;
  source_type = h.stays.source_type;
  options = h.stays.options;
  nodes = nodes_stay h.stays.nodes;
  later_errors = [];
  errors = h.stays.errors ∙ sym (append-nil p.errors);
  later_visits = [];
  visits = h.stays.visits ∙ sym (append-nil p.visits);
  later_covers = [];
  covers = ap (λ n. n.covers) h.stays.state ∙ sym (append-nil p.state.covers);
  later_commas = [];
  commas = ap (λ n. n.commas) h.stays.state ∙ sym (append-nil p.state.commas);
  later_faults = h.faults;
  faults = h.again.errors;
  longer = record {
    comments = same_length _ _ h.again.comments;
    irregular_whitespaces = same_length _ _ h.again.blanks;
    tokens = let l = relexed_long (p.lexer.keeps_tokens && is_kept q.token.kind) p.lexer.kept.tokens q.token in omega (arith, l, ap length h.again.tokens);
    errors = grown _ _ _ h.again.errors;
  };
  still = still_again h.may_be h.again;
  leads = again_leads h;
}

pub completed_follows : {p q : Parser} → Completed p q → Follows p q
completed_follows {p} {q} (inl h) = subst (Follows p) (sym h.1) (follows_itself p)
completed_follows {p} {q} (inr h) = read_again_follows h.1

pub moves_on_follow : {p q : Parser} → MovesOn p q → Follows p q
moves_on_follow {p} {q} (mid, c, inl h) = subst (Follows p) (sym h.1) (completed_follows c)
moves_on_follow {p} {q} (mid, c, inr h) = follows_on (completed_follows c) (passed_follows h.1)

pub moved_at : {p q : Parser} → MovesOn p q → IsAt q
moved_at {p} {q} (mid, c, inl h) = h.2
moved_at {p} {q} (mid, c, inr h) = h.1.at

pub keeps_follows : {d : Diagnostic} {p q : Parser} → KeepsDiagnostic d p q → Follows p q
keeps_follows {d} {p} {q} h = subst (Follows p) (sym h.is) (record {
  text = refl;
  source_type = refl;
  options = refl;
  nodes = Keeps-refl p.nodes;
  later_errors = d ∷ [];
  errors = refl;
  later_visits = [];
  visits = sym (append-nil p.visits);
  later_covers = [];
  covers = sym (append-nil p.state.covers);
  later_commas = [];
  commas = sym (append-nil p.state.commas);
  later_faults = [];
  faults = sym (append-nil p.lexer.kept.errors);
  longer = record { comments = omega arith; irregular_whitespaces = omega arith; tokens = omega arith; errors = omega arith };
  still = still_itself p.lexer p.token;
  leads = stays;
})

pub first_part : {X : Type 0} (a b x : List X) (n : ℕ) → b ≡ a ++ x → n ≡ length a → take n b ≡ a
first_part a b x n e f = ap (λ v. take n v) e ∙ ap (λ (m : ℕ). take m (a ++ x)) f ∙ take-append_seam a x

as_then : {V : Type 0} {cs ds : List (ℕ × Option V)} {i j : ℕ} → StandBefore cs i → ds ≡ cs → i ≡ j → StandBefore ds j
as_then {V} {cs} {ds} {i} {j} h e s = subst (λ (n : ℕ). StandBefore ds n) s (subst (λ (v : List (ℕ × Option V)). StandBefore v i) (sym e) h)

-- the parser may go back to a place that was remembered
pub may_go_back : {p q : Parser} {c : ParserCheckpoint} → IsAt p → Remembers p c → Follows p q → MayGoBack c q
may_go_back {p} {q} {c} a r f = record {
  reached = subst (λ (t : List ℕ). Reached t c.prev_token_end) (sym f.text) (subst (Reached p.text) (sym r.prev_token_end) a.reached);
  between = subst (λ (t : List ℕ). IsCharBoundary t c.prev_token_end) (sym f.text) (subst (IsCharBoundary p.text) (sym r.prev_token_end) a.between);
  token =
      subst (λ (s : Goal). IsToken s q.text c.prev_token_end faults c.token c.cut) (sym (ap goal_of f.source_type))
      (subst (λ (t : List ℕ). IsToken (goal p) t c.prev_token_end faults c.token c.cut) (sym f.text)
      (subst (λ (n : ℕ). IsToken (goal p) p.text n faults c.token c.cut) (sym r.prev_token_end)
      (subst (λ (ds : List Diagnostic). IsToken (goal p) p.text p.prev_token_end ds c.token c.cut) (sym same)
      (subst (λ (t : Token). IsToken (goal p) p.text p.prev_token_end p.lexer.kept.errors t c.cut) (sym r.token)
      (subst (λ (b : Bool). IsToken (goal p) p.text p.prev_token_end p.lexer.kept.errors p.token b) (sym r.cut) a.token)))));
  lies = subst (λ (t : List ℕ). LiesIn c.token.span t) (sym f.text) (subst (λ (t : Token). LiesIn t.span p.text) (sym r.token) a.lies);
  last = r.place ∙ a.last ∙ ap (λ (t : Token). t.span.end) (sym r.token);
  errors = let g = grown p.errors q.errors f.later_errors f.errors in let e = r.errors in omega arith;
  visits = let g = grown p.visits q.visits f.later_visits f.visits in let e = r.visits in omega arith;
  covers = let g = grown p.state.covers q.state.covers f.later_covers f.covers in let e = r.covers in omega arith;
  commas = let g = grown p.state.commas q.state.commas f.later_commas f.commas in let e = r.commas in omega arith;
  noted = record { covers = as_then a.noted.covers (first_part p.state.covers q.state.covers f.later_covers c.covers f.covers r.covers) start; commas = as_then a.noted.commas (first_part p.state.commas q.state.commas f.later_commas c.commas f.commas r.commas) start };
  longer = subst (λ l. AreAtMost l (lengths_of q.lexer.kept)) (sym r.lengths) f.longer;
}
  where
    start : p.token.span.start ≡ c.token.span.start
    start = ap (λ (t : Token). t.span.start) (sym r.token)

    faults : List Diagnostic
    faults = take c.lexer.lengths.errors q.lexer.kept.errors

    same : take c.lexer.lengths.errors q.lexer.kept.errors ≡ p.lexer.kept.errors
    same = first_part p.lexer.kept.errors q.lexer.kept.errors f.later_faults c.lexer.lengths.errors f.faults (ap (λ l. l.errors) r.lengths)

-- ---- brackets

abbrev pub is_opening : Kind → Bool
is_opening k = one_of_kinds (LParen ∷ LBrack ∷ LCurly ∷ []) k

not_cut : {p : Parser} → IsAt p → is_opening p.token.kind ≡ true → p.cut ≡ true → ⊥
not_cut {p} a o e = go p.cut a.token e
  where
    go : (b : Bool) → IsToken (goal p) p.text p.prev_token_end p.lexer.kept.errors p.token b → b ≡ true → ⊥
    go true (sign k x) z = false≢true (sym (ap is_opening k) ∙ o)
    go false x z = false≢true z

open_not_last : (k : Kind) → is_opening k ≡ true → is_last k ≡ true → ⊥
open_not_last LParen o l = false≢true l
open_not_last LBrack o l = false≢true l
open_not_last LCurly o l = false≢true l
open_not_last _ o l = false≢true o

passed_opened : {p q : Parser} → IsAt p → is_opening p.token.kind ≡ true → Passed p q → Opened q p.token.span
passed_opened {p} {q} a o h = record {
  bracket = subst (λ (s : Goal). LexemeAt opens s q.text p.token.span) (sym (ap goal_of h.stays.source_type)) (subst (λ (t : List ℕ). LexemeAt opens (goal p) t p.token.span) (sym h.stays.text) (record {
    lexeme = h.lexeme;
    of_text = a_lexeme a.reached h.stood;
    is = (sym h.tells.start, sym h.tells.end);
    passes = sym (ap is_opening h.tells.kind) ∙ o;
  }));
  before = let e = h.tells.end in let m = h.moved in omega arith;
}

-- a bracket that was passed was opened
pub opened : {p q : Parser} → IsAt p → is_opening p.token.kind ≡ true → MovesOn p q → Opened q p.token.span
opened {p} {q} a o (mid, inr c, h) = absurd (not_cut a o c.0)
opened {p} {q} a o (mid, inl c, inl h) = absurd (open_not_last p.token.kind o (sym (ap (λ (r : Parser). is_last r.token.kind) c.1) ∙ h.0))
opened {p} {q} a o (mid, inl c, inr h) = passed_opened a o (subst (λ (r : Parser). Passed r q) c.1 h.1)

pub opened_at : {p q : Parser} {s : Span} → s ≡ p.token.span → IsAt p → p.token.kind ≡ LParen → MovesOn p q → Opened q s
opened_at {p} {q} {s} e a k m = subst (Opened q) (sym e) (opened a (ap is_opening k) m)

pub may_turn_back : {p here q : Parser} {c : ParserCheckpoint} → IsAt p → Remembers p c → here ≡ p → MovesOn here q → MayGoBack c q
may_turn_back {p} {here} {q} {c} a r e m = may_go_back a r (subst (λ (x : Parser). Follows x q) e (moves_on_follow m))
