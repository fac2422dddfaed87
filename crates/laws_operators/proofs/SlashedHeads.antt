-- Heads of arrow functions in which a slash stands (ECMA-262, 15.3): what stands there is read as arguments too, and those are read over one list of lexemes alone, or none.
use Rattle.std.proofs.Common.{ℕ, ◌≡◌, ◌<◌, ◌⊎◌, inl, inr, List, length, Bool, true, false, not, IsTrue, Option, Some, None, refl, sym, ap, subst, arith, ◌∙◌}
use Rattle.std.specs.Prelude.{IfOk, IsCharBoundary, IsUtf8, MatchResult, Result, Ok, Err}
use Rattle.std.proofs.Math.Dec.{eqb}
use Rattle.std.proofs.lemmas.Bool.{eqb-true, false≢true}
use Rattle.js_base.specs.Contexts.{bits_of}
use Rattle.js_base.specs.Kinds.{same_kind}
use Rattle.js_base.specs.declared.diagnostic.Diagnostic.{Diagnostic}
use Rattle.js_base.specs.declared.kind.Kind.TheVariants.{Arrow, LParen}
use Rattle.js_base.proofs.KindLemmas.{kind_of_same}
use Rattle.js_grammar.specs.Trees.{Slots, end, tree}
use Rattle.js_grammar.specs.Grammar.{Lexemes, here, nothing, Takes}
use Rattle.js_grammar.specs.Lexed.{Lexes}
use Rattle.js_grammar.specs.Parsing.{Fails, plain, full}
use Rattle.js_grammar.specs.Productions.{Flags, at, Assignment, Params, Short}
use Rattle.js_grammar.specs.Productions.{sym as symbol}
use Rattle.js_grammar.specs.Table.{rule, args}
use Rattle.js_grammar.proofs.Calculus.{ends, here_at}
use Rattle.laws_shared.specs.js_tree.declared.id.NodeId.{NodeId}
use Rattle.laws_shared.proofs.js_tree.HoldingLemmas.{Holds-wider, Keeps-longer, Keeps-trans}
use Rattle.laws_shared.specs.js_cursor.Moves.{NotesNoOperand, OnlyMemory}
use Rattle.laws_shared.specs.js_cursor.Notes.{is_noted, is_place}
use Rattle.laws_shared.specs.js_cursor.Parsers.{Parser}
use Rattle.laws_shared.specs.js_cursor.declared.stop.Stop.{Stop}
use Rattle.laws_shared.specs.js_cursor.declared.stop.Stop.TheVariants.{Fatal}
use Rattle.laws_shared.specs.Answers.{Grown, Refuses, Stops, Stretch, Underived}
use Rattle.laws_shared.specs.Arguments.{Arguments, NoArguments, Partway, item_of, list_of}
use Rattle.laws_shared.specs.Heads.{NoHead, OnlyArrow}
use Rattle.laws_shared.specs.Lexemes.{Lex}
use Rattle.laws_shared.specs.States.{At, Same, Standing}
use Rattle.laws_shared.proofs.Here.{kind_here}
use Rattle.laws_shared.proofs.Moving.{same_both, standing}
use Rattle.laws_shared.proofs.Paths.{walked_from}
use Rattle.laws_shared.proofs.Verdicts.{either_way}
use Rattle.parse_targets.specs.Others.{NoYield}
use Rattle.parse_targets.proofs.ArraysBeforeSigns.{is_cover}
use Rattle.laws_operators.specs.Arrows.{ArgumentsTold, AttemptsHead, FindsHead, Head, HeadDerived, HeadRead, HeadStands, NeverArrow, read_clean, read_unclean, IsHeadRead, NoHeadHere, NoLine, NoSlash, OnlyArrowHere, OperandExcluded, PlainHead, a_head, told_head, SlashFound, ToldHead, TriesHead, Unmoved, WentOn, head_of}
use Rattle.laws_operators.proofs.Arrows.{arrow_is_here, head_derived, head_only_arrow, no_head_no_line, no_yield_paren, plain_head_flags, quiet_behind, start_between, unassigned}
use Rattle.laws_operators.proofs.HeadsAsArguments.{params_as_arguments}
use Rattle.laws_operators.proofs.NotedClosings.{attempts_alone, attempts_unmoved, more_alone, more_none, more_unmoved, noted_true}
use Rattle.laws_operators.proofs.NotedHeads.{noted_operand, operand_noted_behind, there_too}
use Rattle.laws_operators.proofs.ParenthesizedFronts.{no_operand_before}
use Rattle.laws_operators.proofs.SlashesInText.{all_calm}
use Rattle.laws_shared.specs.Contexts.{arrow_head}
use Rattle.laws_operators.proofs.FreeOfAwait.{params_around}
use Rattle.laws_operators.specs.Closings.{FindsClosing, NotesMore}
use Rattle.laws_operators.proofs.Exponents.{longer}

-- ---- what was read as arguments

-- the parameters of an arrow function, behind `async` or not, are derived as arguments around it, not those in wider forms
head_as_arguments : (b : Bool) (f : Flags) → f.cover ≡ true → f.wide ≡ false → {ks ts us : Slots} {i j : ℕ} {ls rest : Lexemes} → Takes rule (symbol Params (arrow_head b f)) ks ts i ls us j rest → (vs : Slots) × Takes rule (args f) ks vs i ls us j rest
head_as_arguments true f v w d = params_as_arguments f w v (params_around f d)
head_as_arguments false f v w {ks} {ts} {us} {i} {j} {ls} {rest} d = params_as_arguments f w v (subst (λ (g : Flags). Takes rule (symbol Params g) ks ts i ls us j rest) (plain_head_flags f) d)

module _ {text : List ℕ} {f : Flags} {p : Parser} (a : At text f p) where
  arguments_fail : Fails rule (Lex text) (plain full) end (list_of (item_of true f)) p.prev_token_end → OnlyArrow text f p.prev_token_end
  arguments_fail n = record { no = λ ts vs j ls rest l d e. n.no ts vs j ls rest l d (refl, refl) }

  module _ {q : Parser} {ids js : List (Option NodeId)} (x : Partway text f (list_of (item_of true f)) nothing p q ids js) where
    -- whatever is derived as arguments from here ends where they ended
    ends_there : {ts us : Slots} {k : ℕ} {ls rest : Lexemes} → Lexes (Lex text) p.prev_token_end ls → Takes rule (args f) end ts p.prev_token_end ls us k rest → Lex text q.prev_token_end (here rest)
    ends_there {ts} {us} {k} {ls} {rest} l d = either_way x.verdict
        (λ y. let z = y.goes.only ts us k ls rest l d (refl, refl) in here_at (Lex text) rest (subst (λ (v : Lexemes). Lexes (Lex text) q.prev_token_end v) (ends z.4).2 z.3))
        (λ y. absurd (y.no ts us k ls rest l d (refl, refl)))

    arrow_behind : q.token.kind ≡ Arrow → OnlyArrow text f p.prev_token_end
    arrow_behind k = record { no = λ ts vs j ls rest l d e. go rest (ends_there l d) e.0 }
      where
        go : (rest : Lexemes) → Lex text q.prev_token_end (here rest) → not (same_kind Arrow (here rest).kind) ≡ true → ⊥
        go rest l n = false≢true (sym (ap (λ k. not (same_kind Arrow k)) (kind_here x.at k refl (here rest) l)) ∙ n)

    no_arrow_behind_them : (q.token.kind ≡ Arrow → ⊥) → NeverArrow text f p.prev_token_end
    no_arrow_behind_them n = record { no = λ ts vs j ls rest l d e. n (arrow_is_here x.at (here rest) (ends_there l d) (sym (kind_of_same Arrow (here rest).kind e.0))) }

-- what is told of it
pub arguments_read : {p q : Parser} {ids js : List (Option NodeId)} (b : Bool) → Standing p → Arguments true ids js p q → (IsTrue b → q.token.kind ≡ Arrow) → (q.token.kind ≡ Arrow → IsTrue b) → ArgumentsTold p q b
arguments_read true a x k n = let y = x _ _ a in (((y.same.follows, y.at.at), y.at.heads, λ w. (y.same.lies w).1), λ text f b. arrow_behind b (x text f b) (k refl))
arguments_read false a x k n = let y = x _ _ a in (((y.same.follows, y.at.at), y.at.heads, λ w. (y.same.lies w).1), λ text f b. no_arrow_behind_them b (x text f b) (λ i. false≢true (n i)))

pub arguments_refused : {p q : Parser} (e : Stop) → Standing p → e ≡ Fatal → NoArguments true p q e → ArgumentsTold p q true
arguments_refused {p} {q} e a i s = go (λ text f b. subst (λ (v : Stop). Stops p q v (Fails rule (Lex text) (plain full) end (list_of (item_of true f)) p.prev_token_end)) i (s text f b))
  where
    go : ((text : List ℕ) (f : Flags) → At text f p → Refuses p q (Fails rule (Lex text) (plain full) end (list_of (item_of true f)) p.prev_token_end)) → ArgumentsTold p q true
    go x = let y = x _ _ a in (((y.follows, y.at), y.heads, y.lies), λ text f b. arguments_fail b (x text f b).none)

-- parameters that stand are arguments, and `=>` stands behind them
stood_never : {p : Parser} (b : Bool) → Standing p → HeadStands b p → ((text : List ℕ) (f : Flags) → At text f p → NeverArrow text f p.prev_token_end) → ⊥
stood_never {p} b a h n =
    let x = h _ _ a in
    let z = head_as_arguments b _ (is_cover a) refl x.derived in
    (n _ _ a).no z.0 end x.end x.lexemes x.rest x.lexed z.1 (x.arrow, refl)

-- as many diagnostics were kept as before
pub none_told : (m n : ℕ) → not (eqb m n) ≡ false → m ≡ n
none_told m n h = eqb-true m n (go (eqb m n) h)
  where
    go : (b : Bool) → not b ≡ false → b ≡ true
    go true e = refl
    go false e = absurd (false≢true (sym e))

-- of a head of which nothing was told parameters are derived
pub stood_here : {p q : Parser} {id : NodeId} (b : Bool) → p.token.kind ≡ LParen → IsHeadRead b p q id → length q.errors ≡ length p.errors → HeadStands b p
stood_here {p} {q} {id} b k x n = λ text f a. by a (x.1 text f a)
  where
    by : {text : List ℕ} {f : Flags} → At text f p → HeadRead text f (arrow_head b f) p q id → HeadDerived text (arrow_head b f) p.prev_token_end
    by a (read_clean h) = head_derived a k h x.0
    by a (read_unclean t m) = absurd (longer t.grown (sym n))

pub never_stands : {p : Parser} (b : Bool) → Standing p → HeadStands b p → ((text : List ℕ) (f : Flags) → At text f p → NeverArrow text f p.prev_token_end) → NoHeadHere b p
never_stands b a h n = absurd (stood_never b a h n)

pub told_so : (p q : Parser) {b r : Bool} → r ≡ b → ArgumentsTold p q r → ArgumentsTold p q b
told_so p q e h = subst (λ (v : Bool). ArgumentsTold p q v) e h

-- ---- no operand begins where a head was read

pub slash_so : (text : List ℕ) (s e : ℕ) {b r : Bool} → r ≡ b → SlashFound text s e r → SlashFound text s e b
slash_so text s e i h = subst (λ (v : Bool). SlashFound text s e v) i h

pub excluded_so : (place kept : ℕ) (p q : Parser) {b r : Bool} → r ≡ b → OperandExcluded place kept p q r → OperandExcluded place kept p q b
excluded_so place kept p q e h = subst (λ (v : Bool). OperandExcluded place kept p q v) e h

-- it is noted, or no slash stands between
pub excluded_noted : (place kept : ℕ) (p q : Parser) {b : Bool} → q ≡ p → bits_of p.ctx < 65536 → b ≡ is_noted p.state.operands p.ctx place → b ≡ true → OperandExcluded place kept p q true
excluded_noted place kept p q i w h e = subst (λ (z : Parser). OperandExcluded place kept p z true) (sym i) (more_none refl, inl (w, sym h ∙ e))

pub excluded_arrow : (place kept : ℕ) (p q : Parser) → q ≡ p → is_place p.state.arrows place ≡ true → OperandExcluded place kept p q true
excluded_arrow place kept p q i h = subst (λ (z : Parser). OperandExcluded place kept p z true) (sym i) (more_none refl, inr (inl h))

pub excluded_closed : (place kept : ℕ) (p q : Parser) {E : Type 0} (r : Result Bool E) → IfOk r (λ b. FindsClosing place p q b) → IfOk r (λ b. OperandExcluded place kept p q b)
excluded_closed place kept p q (Ok true) h = (h.0, inr (inl h.1))
excluded_closed place kept p q (Ok false) h = h
excluded_closed place kept p q (Err e) h = h

pub excluded_unslashed : (place kept : ℕ) (p q : Parser) {e : ℕ} (b : Bool) → q ≡ p → length p.errors ≡ kept → e ≡ p.token.span.start → SlashFound p.text place e b → OperandExcluded place kept p q (not b)
excluded_unslashed place kept p q true j n i h = more_none j
excluded_unslashed place kept p q false j n i h = subst (λ (z : Parser). OperandExcluded place kept p z true) (sym j) (more_none refl, inr (inr (n, subst (λ (v : ℕ). NoSlash p.text place v) i h)))

pub excluded_more : (place kept : ℕ) (p q : Parser) (b : Bool) → OperandExcluded place kept p q b → NotesMore p q
excluded_more place kept p q true x = x.0
excluded_more place kept p q false x = x

-- where no slash stands in the head
slashless : {text : List ℕ} {f g : Flags} {p q : Parser} {id : NodeId} → At text f p → Head text f g p q id → q.token.kind ≡ Arrow → NoSlash text p.prev_token_end q.token.span.start → OnlyArrow text f p.prev_token_end
slashless {text} {p = p} {q = q} a h r n = head_only_arrow h r (λ ls rest e l o b. all_calm text p.prev_token_end (subst (λ (t : List ℕ). IsUtf8 t) a.text_is a.at.utf8) (subst (λ (t : List ℕ). IsCharBoundary t p.prev_token_end) a.text_is a.at.between) l o (λ i c d. n i c (omega arith)))

-- it stands there
read_at : {text : List ℕ} {f g : Flags} {p q : Parser} {id : NodeId} → HeadRead text f g p q id → At text f q
read_at (read_clean h) = h.at
read_at (read_unclean t m) = t.at

pub head_settled : {p o q : Parser} {id : NodeId} (b : Bool) (place kept : ℕ) → kept ≡ length p.errors → place ≡ p.prev_token_end → IsHeadRead b p q id → OperandExcluded place kept o q true → OnlyArrowHere p
head_settled {p} {o} {q} {id} b place kept n i x w = λ text f a. by a (x.1 text f a) w.1
  where
    by : {text : List ℕ} {f : Flags} → At text f p → HeadRead text f (arrow_head b f) p q id → ((bits_of q.ctx < 65536) × (is_noted q.state.operands q.ctx place ≡ true)) ⊎ ((is_place q.state.arrows place ≡ true) ⊎ ((length q.errors ≡ kept) × NoSlash q.text place q.token.span.start)) → OnlyArrow text f p.prev_token_end
    by {text} {f} a h (inl e) = subst (λ (v : ℕ). OnlyArrow text f v) i (noted_operand (read_at h) e.0 e.1)
    by {text} {f} a h (inr (inl c)) = subst (λ (v : ℕ). OnlyArrow text f v) i (noted_true (read_at h) c)
    by {text} a (read_clean h) (inr (inr s)) = slashless a h x.0 (subst (λ (t : List ℕ). NoSlash t p.prev_token_end q.token.span.start) h.at.text_is (subst (λ (v : ℕ). NoSlash q.text v q.token.span.start) i s.1))
    by a (read_unclean t m) (inr (inr s)) = absurd (longer t.grown (sym (s.0 ∙ n)))

-- a head that was read stands where nothing but notes changed
pub head_kept : {p q r : Parser} {id : NodeId} (b : Bool) → r ≡ record q { state = r.state } → ((text : List ℕ) (f : Flags) → At text f q → Same p q → Unmoved q r) → IsHeadRead b p q id → IsHeadRead b p r id
head_kept {p} {q} {r} {id} b i u x = (ap (λ (z : Parser). z.token.kind) i ∙ x.0, λ text f c. subst (λ (z : Parser). HeadRead text f (arrow_head b f) p z id) (sym i) (by (x.1 text f c)))
  where
    q' : Parser
    q' = record q { state = r.state }

    by : {text : List ℕ} {f g : Flags} → HeadRead text f g p q id → HeadRead text f g p q' id
    by {text} {f} (read_clean y) =
        let v : Unmoved q q' = subst (Unmoved q) i (u text f y.at y.same) in
        read_clean (record { at = v.at text f y.at; same = same_both y.same v.same; further = y.further; quiet = y.quiet; label = y.label; slots = y.slots; pass = y.pass; walked = y.walked; read = y.read; holds = y.holds; keeps = y.keeps })
    by {text} {f} (read_unclean y m) =
        let v : Unmoved q q' = subst (Unmoved q) i (u text f y.at y.same) in
        read_unclean (record { at = v.at text f y.at; same = same_both y.same v.same; further = y.further; grown = y.grown; label = y.label; slots = y.slots; pass = y.pass; walked = y.walked; holds = y.holds; keeps = y.keeps }) m

-- where it is noted that behind arguments there `=>` stands
pub head_noted : {p q r : Parser} {id : NodeId} {place : ℕ} (b : Bool) → Standing p → place ≡ p.prev_token_end → IsHeadRead b p q id → OnlyArrowHere p → NotesNoOperand place q r → IsHeadRead b p r id
head_noted b a i x n h = head_kept b h.is (λ text f c s. operand_noted_behind a (standing c) s n i h) x

-- where more is noted of closings
pub head_more : {p q r : Parser} {id : NodeId} (b : Bool) → IsHeadRead b p q id → NotesMore q r → IsHeadRead b p r id
head_more b x m = head_kept b (more_alone m) (λ text f c s. more_unmoved (standing c) m) x

-- by arguments that stand before `=>`, no operand is derived
pub only_no_operand : {text : List ℕ} {f : Flags} {p : Parser} → p.token.kind ≡ LParen → At text f p → OnlyArrow text f p.prev_token_end → Underived text (at Short f) p.prev_token_end
only_no_operand k a n = no_operand_before n (λ y l. kind_here a k refl y l)

-- without `async`
pub attempted : (p q : Parser) (found : Option NodeId) → p.token.kind ≡ LParen → AttemptsHead false p q found → FindsHead p q found
attempted p q (Some id) k x = (x.0.0, (λ text f a. by a (subst (λ (g : Flags). HeadRead text f g p q id) (plain_head_flags f) (x.0.1 text f a)) (only_no_operand k a (x.1 text f a))), λ text f a. only_no_operand k a (x.1 text f a))
  where
    by : {text : List ℕ} {f : Flags} → At text f p → HeadRead text f f p q id → Underived text (at Short f) p.prev_token_end → PlainHead text f p q id
    by a (read_clean h) n = a_head h (no_yield_paren a k) n
    by a (read_unclean t m) n = told_head t (unassigned a k m n)
attempted p q None k x = (x.0, λ text f a. no_head_no_line a k (subst (λ (g : Flags). NoHead text g p.prev_token_end) (plain_head_flags f) (x.1 text f a)))

-- ---- the parser goes back, and reads again

pub head_stands : {p q : Parser} {id : NodeId} (b : Bool) → Standing p → IsHeadRead b p q id → Standing q
head_stands {p} {q} {id} b a x = by (x.1 _ _ a)
  where
    by : {text : List ℕ} {f g : Flags} → HeadRead text f g p q id → Standing q
    by h = standing (read_at h)

-- where it began is a place between characters
pub head_between : {p q : Parser} {id : NodeId} {place : ℕ} (b : Bool) → Standing p → IsHeadRead b p q id → place ≡ p.prev_token_end → IsCharBoundary q.text place
head_between b a x e = start_between a (read_at (x.1 _ _ a)) e

-- behind a head the parser went on
pub head_went_on : {p q : Parser} {id : NodeId} (b : Bool) → Standing p → IsHeadRead b p q id → WentOn p q
head_went_on {p} {q} {id} b a x = by (x.1 _ _ a)
  where
    by : {text : List ℕ} {f g : Flags} → HeadRead text f g p q id → WentOn p q
    by (read_clean h) = ((h.same.follows, h.at.at), h.at.heads, λ w. (h.same.lies w).1)
    by (read_unclean t m) = ((t.same.follows, t.at.at), t.at.heads, λ w. (t.same.lies w).1)

pub told_went_on : (p q : Parser) (b : Bool) → ArgumentsTold p q b → WentOn p q
told_went_on p q true h = h.0
told_went_on p q false h = h.0

pub unmoved_both : {p q r : Parser} → Unmoved p q → Unmoved q r → Unmoved p r
unmoved_both u v = record {
  at = λ text f a. v.at text f (u.at text f a);
  same = same_both u.same v.same;
  kept = v.kept ∙ u.kept;
  place = v.place ∙ u.place;
  spot_is = v.spot_is ∙ u.spot_is;
  start = v.start ∙ u.start;
  kind = v.kind ∙ u.kind;
  keeps = Keeps-trans u.keeps v.keeps;
}

module _ {p r : Parser} (u : Unmoved p r) where
  head_from_there : {text : List ℕ} {f g : Flags} {q : Parser} {id : NodeId} → Head text f g r q id → Head text f g p q id
  head_from_there {text} {f} {g} {q} {id} h = record {
    at = h.at;
    same = same_both u.same h.same;
    further = let a = h.further in let b = u.start in omega arith;
    quiet = quiet_behind u.kept h.quiet;
    label = h.label;
    slots = h.slots;
    pass = h.pass;
    walked = walked_from u.spot_is h.walked;
    read = subst (λ (s : ℕ). Stretch text (plain full) (head_of g) s nothing q.prev_token_end (tree h.label h.slots) h.pass) u.place h.read;
    holds = Holds-wider (length p.nodes) (length q.nodes) (Keeps-longer u.keeps) (omega arith) h.holds;
    keeps = Keeps-trans u.keeps h.keeps;
  }

  told_from_there : {text : List ℕ} {f : Flags} {q : Parser} {id : NodeId} → ToldHead text f r q id → ToldHead text f p q id
  told_from_there {text} {f} {q} {id} h = record {
    at = h.at;
    same = same_both u.same h.same;
    further = let a = h.further in let b = u.start in omega arith;
    grown = subst (λ (ds : List Diagnostic). Grown ds q.errors) u.kept h.grown;
    label = h.label;
    slots = h.slots;
    pass = h.pass;
    walked = walked_from u.spot_is h.walked;
    holds = Holds-wider (length p.nodes) (length q.nodes) (Keeps-longer u.keeps) (omega arith) h.holds;
    keeps = Keeps-trans u.keeps h.keeps;
  }

  read_from_there : {text : List ℕ} {f g : Flags} {q : Parser} {id : NodeId} → HeadRead text f g r q id → HeadRead text f g p q id
  read_from_there (read_clean h) = read_clean (head_from_there h)
  read_from_there {text} {g = g} (read_unclean t m) = read_unclean (told_from_there t) (subst (λ (s : ℕ). NoHead text g s) u.place m)

  plain_from_there : {text : List ℕ} {f : Flags} {q : Parser} {id : NodeId} → PlainHead text f r q id → PlainHead text f p q id
  plain_from_there {text} {f} (a_head h y n) = a_head (head_from_there h) (subst (λ (s : ℕ). NoYield text f s) u.place y) (subst (λ (s : ℕ). Underived text (at Short f) s) u.place n)
  plain_from_there {text} {f} (told_head h n) = told_head (told_from_there h) (subst (λ (s : ℕ). Underived text (at Assignment f) s) u.place n)

  pub tried_as_there : (b : Bool) (q : Parser) (found : Option NodeId) → TriesHead b r q found → TriesHead b p q found
  tried_as_there b q (Some id) x = (x.0, λ text f a. read_from_there (x.1 text f (u.at text f a)))
  tried_as_there b q None x = (unmoved_both u x.0, λ text f a. subst (λ (s : ℕ). NoHead text (arrow_head b f) s) u.place (x.1 text f (u.at text f a)))

  -- what is read after the parser went back, where `=>` alone stands behind arguments
  pub tried_there : (b : Bool) (q : Parser) (found : Option NodeId) → OnlyArrowHere p → TriesHead b r q found → AttemptsHead b p q found
  tried_there b q (Some id) n x = ((x.0, λ text f a. read_from_there (x.1 text f (u.at text f a))), n)
  tried_there b q None n x = (unmoved_both u x.0, λ text f a. subst (λ (s : ℕ). NoHead text (arrow_head b f) s) u.place (x.1 text f (u.at text f a)))

  pub attempted_there : (b : Bool) (q : Parser) (found : Option NodeId) → AttemptsHead b r q found → AttemptsHead b p q found
  attempted_there b q (Some id) x = ((x.0.0, λ text f a. read_from_there (x.0.1 text f (u.at text f a))), λ text f a. subst (λ (s : ℕ). OnlyArrow text f s) u.place (x.1 text f (u.at text f a)))
  attempted_there b q None x = (unmoved_both u x.0, λ text f a. subst (λ (s : ℕ). NoHead text (arrow_head b f) s) u.place (x.1 text f (u.at text f a)))

  pub found_there : (q : Parser) (found : Option NodeId) → FindsHead r q found → FindsHead p q found
  found_there q (Some id) x = (x.0, (λ text f a. plain_from_there (x.1 text f (u.at text f a))), λ text f a. subst (λ (s : ℕ). Underived text (at Short f) s) u.place (x.2 text f (u.at text f a)))
  found_there q None x = (unmoved_both u x.0, λ text f a. subst (λ (s : ℕ). NoLine text f s) u.place (x.1 text f (u.at text f a)))

-- that such stand here is so where the parser went back
pub stands_there : {p r : Parser} (b : Bool) → Standing p → Unmoved p r → HeadStands b p → HeadStands b r
stands_there b a u h = there_too (λ text f s. HeadDerived text (arrow_head b f) s) a u h

-- that none stands here is so where the parser went back
pub none_here : {p r : Parser} (b : Bool) → Standing p → Unmoved p r → NoHeadHere b p → NoHeadHere b r
none_here b a u n = there_too (λ text f s. NoHead text (arrow_head b f) s) a u n

pub attempts_there : {p r : Parser} (b : Bool) (q : Parser) (x : Result (Option NodeId) Stop) → Unmoved p r → MatchResult x (λ found. AttemptsHead b r q found) OnlyMemory → MatchResult x (λ found. AttemptsHead b p q found) OnlyMemory
attempts_there b q (Ok found) u h = attempted_there u b q found h
attempts_there b q (Err e) u h = h

pub tries_there : {p r : Parser} (b : Bool) (q : Parser) (x : Result (Option NodeId) Stop) → Unmoved p r → OnlyArrowHere p → MatchResult x (λ found. TriesHead b r q found) OnlyMemory → MatchResult x (λ found. AttemptsHead b p q found) OnlyMemory
tries_there b q (Ok found) u n h = tried_there u b q found n h
tries_there b q (Err e) u n h = h

pub told_from : (p o q : Parser) (b : Bool) → o ≡ p → ArgumentsTold o q b → ArgumentsTold p q b
told_from p o q b s h = subst (λ (z : Parser). ArgumentsTold z q b) s h

pub some_tried : (b : Bool) (p o q : Parser) (id : NodeId) (r : Option NodeId) → o ≡ p → r ≡ Some id → TriesHead b o q r → IsHeadRead b p q id
some_tried b p o q id r s e h = subst (λ (z : Parser). IsHeadRead b z q id) s (subst (TriesHead b o q) e h)

pub none_tried : (b : Bool) (p o q : Parser) (r : Option NodeId) → o ≡ p → r ≡ None → TriesHead b o q r → Unmoved p q × NoHeadHere b p
none_tried b p o q r s e h = subst (λ (z : Parser). Unmoved z q × NoHeadHere b z) s (subst (TriesHead b o q) e h)

-- while a head is being attempted
pub tried_behind : {p r : Parser} (q : Parser) (c b : Bool) (found : Option NodeId) → Standing p → r ≡ record q { state = record q.state { attempting = c } } → TriesHead b p q found → TriesHead b p r found
tried_behind {r = r} q c b (Some id) a i x = head_kept b (attempts_alone q r c i) (λ text f d s. attempts_unmoved c (standing d) i) x
tried_behind q c b None a i x = (unmoved_both x.0 (attempts_unmoved c (standing (x.0.at _ _ a)) i), x.1)

pub tried_while : {p r : Parser} (o q : Parser) (c d b : Bool) (found : Option NodeId) → Standing p → o ≡ record p { state = record p.state { attempting = c } } → TriesHead b o q found → r ≡ record q { state = record q.state { attempting = d } } → TriesHead b p r found
tried_while o q c d b found a i x j = tried_behind q d b found a j (tried_as_there (attempts_unmoved c a i) b q found x)
