-- What holds at another depth, and when a parser went back.
use Rattle.std.proofs.Common.{ℕ, ◌+◌, ◌-◌, ◌≡◌, ◌≤◌, List, length, take, refl, sym, ap, subst, arith, ◌∙◌}
use Rattle.std.specs.Prelude.{IsCharBoundary}
use Rattle.std.proofs.lemmas.List.Elements.{All-take, All-same}
use Rattle.js_base.specs.declared.diagnostic.Diagnostic.{Diagnostic}
use Rattle.js_tree.specs.js_grammar.Marks.{Mark}
use Rattle.js_tree.specs.js_grammar.ModuleRecords.{Part as Visit}
use Rattle.js_lex.specs.Kept.{lengths_of, first_kept, AreAtMost}
use Rattle.js_lex.specs.States.{State, SameText}
use Rattle.js_cursor.specs.declared.checkpoint.ParserCheckpoint.{ParserCheckpoint}
use Rattle.js_cursor.specs.Checkpoints.{MayGoBack, GoesBack, notes_at}
use Rattle.js_cursor.specs.Parsers.{Parser}
use Rattle.js_cursor.specs.Tokens.{IsToken}
use Rattle.js_cursor.specs.Places.{IsAt, IsFault, goal}
use Rattle.js_cursor.specs.Moves.{Enters, Leaves}

at_depth : {p : Parser} (n : ℕ) → IsAt p → IsAt (record p { depth = n })
at_depth {p} n a = record { reads = a.reads; reads_for = a.reads_for; utf8 = a.utf8; short = a.short; reached = a.reached; between = a.between; token = a.token; lies = a.lies; last = a.last; marked = a.marked; faulty = a.faulty; noted = a.noted }

pub entered_seen : {p q : Parser} → p ≡ q → IsAt q → (k d n : ℕ) → d ≡ p.depth + k → d ≤ n → (q.depth + k ≤ n) × Enters k q (record p { depth = d })
entered_seen {p} {q} v a k d n e l = subst (λ (r : Parser). (r.depth + k ≤ n) × Enters k r (record p { depth = d })) v (omega (arith, e), record { is = ap (λ (d : ℕ). record p { depth = d }) e; at = at_depth d (subst IsAt (sym v) a) })

pub left_seen : {p q : Parser} → p ≡ q → IsAt q → (k : ℕ) → k ≤ q.depth → Leaves k q (record p { depth = p.depth - k })
left_seen {p} {q} v a k l =
    let m : k ≤ p.depth = subst (λ (r : Parser). k ≤ r.depth) (sym v) l in
    subst (λ (r : Parser). Leaves k r (record p { depth = p.depth - k })) v (record { depth = omega arith; is = refl; at = at_depth (p.depth - k) (subst IsAt (sym v) a) })

-- ---- back

went_back : {p : Parser} {c : ParserCheckpoint} {l : State} {ds : List Diagnostic} {vs : List Visit} → IsAt p → MayGoBack c p → SameText p.lexer l → l.place ≡ c.lexer.place → l.kept ≡ first_kept c.lexer.lengths p.lexer.kept → ds ≡ take c.errors p.errors → vs ≡ take c.visits p.visits
    → GoesBack c p (record p { lexer = l; token = c.token; cut = c.cut; prev_token_end = c.prev_token_end; ctx = c.ctx; depth = c.depth; errors = ds; visits = vs; state = notes_at c p })
went_back {p} {c} {l} {ds} {vs} a m s place kept e v = record {
  token = refl;
  cut = refl;
  prev_token_end = refl;
  ctx = refl;
  depth = refl;
  same = s;
  place = place;
  kept = kept;
  errors = e;
  visits = v;
  state = refl;
  text = refl;
  source_type = refl;
  options = refl;
  nodes = refl;
  at = record {
    reads = s.text ∙ a.reads;
    reads_for = s.goal ∙ a.reads_for;
    utf8 = a.utf8;
    short = a.short;
    reached = m.reached;
    between = m.between;
    token = subst (λ (x : List Diagnostic). IsToken (goal p) p.text c.prev_token_end x c.token c.cut) (sym faults) m.token;
    lies = m.lies;
    last = place ∙ m.last;
    marked = All-same (Mark (goal p) p.text) ds (take c.errors p.errors) e (All-take (Mark (goal p) p.text) c.errors p.errors a.marked);
    noted = m.noted;
    faulty = All-same (IsFault (goal p) p.text) l.kept.errors (take c.lexer.lengths.errors p.lexer.kept.errors) faults (All-take (IsFault (goal p) p.text) c.lexer.lengths.errors p.lexer.kept.errors a.faulty);
  };
}
  where
    faults : l.kept.errors ≡ take c.lexer.lengths.errors p.lexer.kept.errors
    faults = ap (λ x. x.errors) kept

pub went_back_seen : {p q : Parser} → p ≡ q → {c : ParserCheckpoint} {l : State} {ds : List Diagnostic} {vs : List Visit} → IsAt q → MayGoBack c q → SameText p.lexer l → l.place ≡ c.lexer.place → l.kept ≡ first_kept c.lexer.lengths p.lexer.kept → ds ≡ take c.errors p.errors → vs ≡ take c.visits p.visits
    → GoesBack c q (record p { lexer = l; token = c.token; cut = c.cut; prev_token_end = c.prev_token_end; ctx = c.ctx; depth = c.depth; errors = ds; visits = vs; state = notes_at c p })
went_back_seen {p} {q} v {c} {l} {ds} {vs} a m s place kept e w = subst (λ (r : Parser). GoesBack c r (record p { lexer = l; token = c.token; cut = c.cut; prev_token_end = c.prev_token_end; ctx = c.ctx; depth = c.depth; errors = ds; visits = vs; state = notes_at c p })) v (went_back (subst IsAt (sym v) a) (subst (MayGoBack c) (sym v) m) s place kept e w)

-- the lexer's two conditions
pub lexer_between : {p q : Parser} {c : ParserCheckpoint} → p ≡ q → IsAt q → MayGoBack c q → IsCharBoundary p.lexer.text c.lexer.place
lexer_between {p} {q} {c} v a m = subst (λ (r : Parser). IsCharBoundary r.lexer.text c.lexer.place) (sym v) (subst (λ (x : List ℕ). IsCharBoundary x c.lexer.place) (sym a.reads) (subst (IsCharBoundary q.text) (sym m.last) m.lies.ends_whole))

pub lexer_longer : {p q : Parser} {c : ParserCheckpoint} → p ≡ q → MayGoBack c q → AreAtMost c.lexer.lengths (lengths_of p.lexer.kept)
lexer_longer {p} {q} {c} v m = subst (λ (r : Parser). AreAtMost c.lexer.lengths (lengths_of r.lexer.kept)) (sym v) m.longer

pub visits_longer : {p q : Parser} {c : ParserCheckpoint} → p ≡ q → MayGoBack c q → c.visits ≤ length p.visits
visits_longer {p} {q} {c} v m = subst (λ (r : Parser). c.visits ≤ length r.visits) (sym v) m.visits
