-- It is noted where no head of an arrow function stands, and where no operand does.
use Rattle.std.proofs.Common.{ℕ, ◌≡◌, ◌<◌, Bool, true, List, refl, sym, ap, subst, ◌∙◌}
use Rattle.js_base.specs.Contexts.{bits_of}
use Rattle.js_grammar.specs.Productions.{Flags}
use Rattle.laws_shared.specs.js_cursor.Checkpoints.{GoesOn}
use Rattle.laws_shared.specs.js_cursor.Moves.{NotesArrow, NotesNoOperand}
use Rattle.laws_shared.specs.js_cursor.Notes.{Notes, is_noted}
use Rattle.laws_shared.specs.js_cursor.Parsers.{Parser}
use Rattle.laws_shared.specs.js_cursor.Places.{IsAt}
use Rattle.laws_shared.proofs.js_cursor.Changing.{noted_on, operand_noted_on}
use Rattle.laws_shared.proofs.js_cursor.Noting.{noted_step}
use Rattle.laws_operators.specs.Arrows.{NoParametersHere, OnlyArrowHere, Unmoved}
use Rattle.laws_operators.proofs.Arrows.{unmoved}
use Rattle.laws_shared.specs.Heads.{NoHead, NotedClosings, NotedHeads, OnlyArrow, flags_in, widened}
use Rattle.laws_shared.specs.Lexemes.{spot}
use Rattle.laws_shared.specs.States.{At, IsPlain, Same, Standing, flags_of, whole, sign, nothing as none_stands, SpansLie}
use Rattle.laws_shared.specs.js_tree.Holding.{Keeps}
use Rattle.laws_shared.specs.js_tree.Nodes.{Node}
use Rattle.laws_shared.proofs.Moving.{flags_same, same_both, standing, standing_for}
use Rattle.laws_shared.specs.Classes.{IsEarly}
use Rattle.std.proofs.lemmas.List.Elements.{All-same}

-- none stands here, by what is noted
pub noted_none : {p : Parser} {place : ℕ} {b : Bool} → place ≡ p.prev_token_end → bits_of p.ctx < 65536 → b ≡ is_noted p.state.failed p.ctx place → b ≡ true → NoParametersHere p
noted_none {p} {place} i w h e = λ text f a.
    let n : NoHead p.text (widened f.wide (flags_of p)) p.prev_token_end = subst (λ (s : ℕ). NoHead p.text (widened f.wide (flags_of p)) s) i (a.heads.0 f.wide p.ctx place w (sym h ∙ e)) in
    subst (λ (g : Flags). NoHead text g p.prev_token_end) a.flags_are (subst (λ (t : List ℕ). NoHead t (widened f.wide (flags_of p)) p.prev_token_end) a.text_is n)

-- behind arguments `=>` stands, by what is noted
pub noted_operand : {text : List ℕ} {f : Flags} {q : Parser} {place : ℕ} → At text f q → bits_of q.ctx < 65536 → is_noted q.state.operands q.ctx place ≡ true → OnlyArrow text f place
noted_operand {text} {f} {q} {place} a w h = subst (λ (g : Flags). OnlyArrow text g place) a.flags_are (subst (λ (t : List ℕ). OnlyArrow t (widened f.wide (flags_of q)) place) a.text_is (a.heads.1 f.wide q.ctx place w h))

-- what is noted of closings stays
closings_kept : {text xs ys us vs : List ℕ} → us ≡ xs → vs ≡ ys → NotedClosings text xs ys → NotedClosings text us vs
closings_kept {text} {ys = ys} {us} i j n = subst (λ (v : List ℕ). NotedClosings text us v) (sym j) (subst (λ (u : List ℕ). NotedClosings text u ys) (sym i) n)

-- what is noted is so still
pub noted_so : {p q : Parser} {place : ℕ} → Standing p → place ≡ p.prev_token_end → NoParametersHere p → NotesArrow place p q → NotedHeads q
noted_so {p} {q} {place} a i n h = subst NotedHeads (sym h.is) (λ w. noted_step (λ c s. NoHead p.text (widened w (flags_in p c)) s) h.noted.failed (subst (λ (v : ℕ). NoHead p.text (widened w (flags_of p)) v) (sym i) (n _ _ (standing_for a refl refl))) (a.heads.0 w), λ w c s b k. a.heads.1 w c s b (subst (λ (v : List ℕ). is_noted v c s ≡ true) h.noted.operands k), closings_kept h.noted.arrows h.noted.others a.heads.2)

-- the same of operands, at any place
operand_noted_at : {p q : Parser} {place : ℕ} → Standing p → ((text : List ℕ) (f : Flags) → At text f p → OnlyArrow text f place) → NotesNoOperand place p q → NotedHeads q
operand_noted_at {p} {q} a n h = subst NotedHeads (sym h.is) (λ w c s b k. a.heads.0 w c s b (subst (λ (v : List ℕ). is_noted v c s ≡ true) h.noted.failed k), λ w. noted_step (λ c s. OnlyArrow p.text (widened w (flags_in p c)) s) h.noted.operands (n _ _ (standing_for a refl refl)) (a.heads.1 w), closings_kept h.noted.arrows h.noted.others a.heads.2)

plain_of : {text : List ℕ} {p : Parser} (ns : Notes) → IsPlain text p → IsPlain text (record p { state = ns })
plain_of ns (whole c n x) = whole c n x
plain_of ns (sign c k x) = sign c k x
plain_of ns (none_stands c k n) = none_stands c k n

-- the parser went back, and then something was noted
pub state_noted : {p r q : Parser} → Unmoved p r → q ≡ record r { state = q.state } → GoesOn r q → ((text : List ℕ) (f : Flags) → At text f r → NotedHeads q) → Unmoved p q
state_noted {p} {r} {q} u i g n =
    record {
      at = λ text f b. at_noted text f (u.at text f b);
      same = same_both u.same (record { follows = g.0; options = ap (λ (z : Parser). z.options) i; ctx = ap (λ (z : Parser). z.ctx) i; depth = ap (λ (z : Parser). z.depth) i; visits = ap (λ (z : Parser). z.visits) i; early = λ w. All-same IsEarly q.errors r.errors (ap (λ (z : Parser). z.errors) i) w; lies = λ w. subst SpansLie (sym i) w });
      kept = ap (λ (z : Parser). z.errors) i ∙ u.kept;
      place = ap (λ (z : Parser). z.prev_token_end) i ∙ u.place;
      spot_is = ap spot i ∙ u.spot_is;
      start = ap (λ (z : Parser). z.token.span.start) i ∙ u.start;
      kind = ap (λ (z : Parser). z.token.kind) i ∙ u.kind;
      keeps = subst (λ (ns : List Node). Keeps p.nodes ns) (sym (ap (λ (z : Parser). z.nodes) i)) u.keeps;
    }
  where
    at_noted : (text : List ℕ) (f : Flags) → At text f r → At text f q
    at_noted text f b = subst (At text f) (sym i) (record { text_is = b.text_is; flags_are = b.flags_are; at = subst IsAt i g.1; plain = plain_of q.state b.plain; behind = b.behind; kept_last = b.kept_last; heads = subst NotedHeads i (n text f b) })

-- what is said of a place is so where the parser went back to it
pub there_too : {p r : Parser} (A : List ℕ → Flags → ℕ → Type 0) → Standing p → Unmoved p r → ((text : List ℕ) (f : Flags) → At text f p → A text f p.prev_token_end) → (text : List ℕ) (f : Flags) → At text f r → A text f r.prev_token_end
there_too {p} {r} A a u n = λ text f b. subst (λ (s : ℕ). A text f s) (sym u.place) (n text f (standing_for a (sym u.same.follows.text ∙ b.text_is) (sym (flags_same p r u.same.ctx u.same.follows.source_type u.same.options) ∙ b.flags_are)))

pub noted_here : {p r q : Parser} {place : ℕ} → Standing p → Unmoved p r → NoParametersHere p → place ≡ p.prev_token_end → NotesArrow place r q → Unmoved p q
noted_here {p} {r} {q} {place} a u n i h = state_noted u h.is (noted_on (u.at _ _ a).at h) (λ text f b. noted_so (standing b) (i ∙ sym u.place) (there_too NoHead a u n) h)

pub operand_noted_here : {p r q : Parser} {place : ℕ} → Standing p → Unmoved p r → OnlyArrowHere p → place ≡ p.prev_token_end → NotesNoOperand place r q → Unmoved p q
operand_noted_here {p} {r} {q} {place} a u n i h = state_noted u h.is (operand_noted_on (u.at _ _ a).at h) (λ text f b. operand_noted_at (standing b) (λ t g c. subst (λ (v : ℕ). OnlyArrow t g v) (sym (i ∙ sym u.place)) (there_too OnlyArrow a u n t g c)) h)

-- noted of a place from which the parser went on
pub operand_noted_behind : {p q r : Parser} {place : ℕ} → Standing p → Standing q → Same p q → OnlyArrowHere p → place ≡ p.prev_token_end → NotesNoOperand place q r → Unmoved q r
operand_noted_behind {p} {q} {r} {place} a b s n i h = state_noted (unmoved refl) h.is (operand_noted_on b.at h) (λ text f c. operand_noted_at (standing c) (λ t g d. subst (λ (v : ℕ). OnlyArrow t g v) (sym i) (n t g (standing_for a (sym s.follows.text ∙ d.text_is) (sym (flags_same p q s.ctx s.follows.source_type s.options) ∙ d.flags_are)))) h)
