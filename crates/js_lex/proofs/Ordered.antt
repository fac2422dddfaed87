-- Comments in the order of the places that they are attached to.
use Rattle.std.proofs.Common.{◌≡◌, ◌+◌, ◌-◌, ◌≤◌, ◌<◌, ℕ, List, [], ◌∷◌, ◌++◌, refl, sym, ap, subst, ◌∙◌, arith, length, get_or, append_assoc, append-nil, length-append, Option, Some, None}
use Rattle.std.specs.List.{All}
use Rattle.std.proofs.Math.ListN.{get_or-append}
use Rattle.std.proofs.Math.Seq.{get_or-append_seam}
use Rattle.std.proofs.lemmas.List.Elements.{All-nil, All-cons, All-append, All-head, All-tail}
use Rattle.std.proofs.lemmas.List.Sorted.{IsNonDecreasingBy-push, IsNonDecreasingBy-take, IsNonDecreasingBy-short}
use Rattle.part_words.specs.js_grammar.Characters.{width}
use Rattle.part_words.specs.js_grammar.Lexemes.{division}
use Rattle.js_lex.specs.declared.comment.Comment.{Comment}
use Rattle.js_lex.specs.declared.comment.CommentKind.{CommentKind}
use Rattle.js_lex.specs.declared.output.LexerOutput.{LexerOutput}
use Rattle.js_lex.specs.declared.checkpoint.Lengths.{Lengths}
use Rattle.js_base.specs.declared.token.Token.{Token}
use Rattle.js_lex.specs.Comments.{comment_kind, comment_at, span_at, each_at, AreInOrder, Follow}
use Rattle.js_lex.specs.Kept.{IsEmpty, first_kept}
use Rattle.js_lex.specs.States.{State}
use Rattle.js_lex.specs.Reading.{GivesNext}

abbrev place_of : Comment → ℕ
place_of c = c.attached_to

pub order_none : (o : LexerOutput) → IsEmpty o → AreInOrder o.comments
order_none o h = subst AreInOrder (sym h.comments) (IsNonDecreasingBy-short place_of [] (omega arith))

pub order_first : (n : Lengths) (o : LexerOutput) → AreInOrder o.comments → AreInOrder (first_kept n o).comments
order_first n o h = IsNonDecreasingBy-take place_of n.comments o.comments h

-- more comments that are all attached to one place, not before that of the last one
order_more : (old more : List Comment) (a : ℕ) → All (λ c. place_of c ≡ a) more → ((d : Comment) → 0 < length old → place_of (get_or old (length old - 1) d) ≤ a) → AreInOrder old → AreInOrder (old ++ more)
order_more old [] a h k o = subst AreInOrder (sym (append-nil old)) o
order_more old (c ∷ more) a h k o =
    let e : place_of c ≡ a = All-head (λ c. place_of c ≡ a) c more h in
    let one : AreInOrder (old ++ c ∷ []) = IsNonDecreasingBy-push place_of old c o (λ d l. subst (λ (n : ℕ). place_of (get_or old (length old - 1) d) ≤ n) (sym e) (k d l)) in
    subst AreInOrder (append_assoc old (c ∷ []) more) (order_more (old ++ c ∷ []) more a (All-tail (λ c. place_of c ≡ a) c more h) (λ d l. last d) one)
  where
    last : (d : Comment) → place_of (get_or (old ++ c ∷ []) (length (old ++ c ∷ []) - 1) d) ≤ a
    last d =
        let n : length (old ++ c ∷ []) - 1 ≡ length old = (let m : length (old ++ c ∷ []) ≡ length old + 1 = length-append old (c ∷ []) in omega arith) in
        let s : get_or (old ++ c ∷ []) (length (old ++ c ∷ []) - 1) d ≡ c = ap (λ (i : ℕ). get_or (old ++ c ∷ []) i d) n ∙ get_or-append_seam old c [] d in
        let e : place_of (get_or (old ++ c ∷ []) (length (old ++ c ∷ []) - 1) d) ≡ a = ap place_of s ∙ All-head (λ c. place_of c ≡ a) c more h in
        omega arith

-- that they follow is told by the first of them
order_follow : (old more new : List Comment) (a : ℕ) → All (λ c. place_of c ≡ a) more → new ≡ old ++ more → Follow new (length old) → AreInOrder old → AreInOrder new
order_follow old [] new a h e f o = subst AreInOrder (sym (e ∙ append-nil old)) o
order_follow old (c ∷ more) new a h e f o = subst AreInOrder (sym e) (order_more old (c ∷ more) a h last o)
  where
    last : (d : Comment) → 0 < length old → place_of (get_or old (length old - 1) d) ≤ a
    last d l =
        let g : Follow (old ++ c ∷ more) (length old) = subst (λ (v : List Comment). Follow v (length old)) e f in
        let m : length (old ++ c ∷ more) ≡ length old + (1 + length more) = length-append old (c ∷ more) ∙ (let z : length (c ∷ more) ≡ 1 + length more = omega arith in ap (λ (n : ℕ). length old + n) z) in
        let w = g d l (omega arith) in
        let below : length old - 1 < length old = omega arith in
        let x : place_of (get_or (old ++ c ∷ more) (length old - 1) d) ≡ place_of (get_or old (length old - 1) d) = ap place_of (get_or-append old (c ∷ more) d (length old - 1) below) in
        let y : place_of (get_or (old ++ c ∷ more) (length old) d) ≡ place_of c = ap place_of (get_or-append_seam old c more d) in
        let z : place_of c ≡ a = All-head (λ c. place_of c ≡ a) c more h in
        omega arith

comment_places : (a i : ℕ) (p : List ℕ) → All (λ c. place_of c ≡ a) (comment_at a i p)
comment_places a i p = by (comment_kind p)
  where
    by : (o : Option CommentKind) → All (λ c. place_of c ≡ a) (elim o [ None ↦ [] | Some k ↦ record { span = span_at i p; kind = k; attached_to = a } ∷ [] ])
    by None = All-nil (λ c. place_of c ≡ a)
    by (Some k) = All-cons (λ c. place_of c ≡ a) (record { span = span_at i p; kind = k; attached_to = a }) [] refl (All-nil (λ c. place_of c ≡ a))

all_places : (a i : ℕ) (ps : List (List ℕ)) → All (λ c. place_of c ≡ a) (each_at (comment_at a) i ps)
all_places a i [] = All-nil (λ c. place_of c ≡ a)
all_places a i (p ∷ ps) = All-append (λ c. place_of c ≡ a) (comment_at a i p) (each_at (comment_at a) (i + width p) ps) (comment_places a i p) (all_places a (i + width p) ps)

pub order_next : (old new : State) (t : Token) → GivesNext division old new t → Follow new.kept.comments (length old.kept.comments) → AreInOrder old.kept.comments → AreInOrder new.kept.comments
order_next old new t g f o = order_follow old.kept.comments (each_at (comment_at t.span.start) old.place g.pieces) new.kept.comments t.span.start (all_places t.span.start old.place g.pieces) g.grows.comments_grow f o
