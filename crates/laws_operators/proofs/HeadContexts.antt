-- Heads of arrow functions are read under the parameters of their own, and those from before are in force again (ECMA-262, 15.9).
use Rattle.std.proofs.Common.{ℕ, ◌≡◌, ◌⊎◌, Bool, true, false, List, Option, Some, None, refl, sym, ap, subst, ◌∙◌}
use Rattle.js_base.specs.declared.context.Context.{Context}
use Rattle.js_grammar.specs.Grammar.{Lexeme}
use Rattle.js_grammar.specs.Productions.{Flags}
use Rattle.js_base.specs.declared.kind.Kind.TheVariants.{Arrow, LParen}
use Rattle.js_base.specs.Kinds.{one_of_kinds}
use Rattle.js_base.specs.KindSets.{binding_identifier_kinds}
use Rattle.laws_shared.specs.js_tree.declared.id.NodeId.{NodeId}
use Rattle.laws_shared.specs.js_cursor.Moves.{NotesArrow}
use Rattle.laws_shared.specs.js_cursor.Parsers.{Parser}
use Rattle.laws_shared.proofs.js_cursor.Changing.{ctx_set}
use Rattle.laws_shared.proofs.js_cursor.Later.{follows_on}
use Rattle.laws_shared.specs.Answers.{Grown}
use Rattle.laws_shared.specs.Contexts.{EntersAsyncHead, arrow_head}
use Rattle.laws_shared.specs.Heads.{NoHead, widened}
use Rattle.laws_shared.specs.Lexemes.{Lex}
use Rattle.laws_shared.specs.Stands.{NameHere, StandsHere}
use Rattle.laws_shared.specs.States.{At, IsPlain, Same, Standing, flags_of, whole, sign, nothing as none_stands}
use Rattle.laws_shared.proofs.Contexts.{async_head_at}
use Rattle.laws_shared.proofs.Moving.{flags_same, standing, standing_for}
use Rattle.laws_shared.proofs.NameKinds.{listed_here}
use Rattle.laws_operators.specs.Arrows.{EntersHead, Head, HeadRead, HeadBehindAsync, name_head, NamesHead, NoHeadHere, NoLine, NoLineHere, NoParametersHere, TriesHead, TriesParameters, ToldHead, Unmoved, read_clean, read_unclean}
use Rattle.laws_operators.proofs.Arrows.{neither, plain_head_flags, same_arrow, unmoved, unmoved_went_on}
use Rattle.laws_operators.proofs.NotedHeads.{noted_here}

-- where the parameters of a head are read
pub head_at : (b : Bool) {text : List ℕ} {f : Flags} {p q : Parser} {c d : Context} → At text f p → d ≡ p.ctx → EntersHead b d c → q ≡ record p { ctx = c } → At text (arrow_head b f) q
head_at true a e s h = async_head_at a e s h
head_at false {text} {f} {p} {q} {c} {d} a e s h = subst (At text (arrow_head false f)) (sym (h ∙ ap (λ (v : Context). record p { ctx = v }) (s ∙ e))) (subst (λ (g : Flags). At text g p) (sym (plain_head_flags f)) a)

pub enters_async : {b : Bool} {old new : Context} → b ≡ true → EntersAsyncHead old new → EntersHead b old new
enters_async {b} {old} {new} e h = subst (λ (v : Bool). EntersHead v old new) (sym e) h

pub enters_plain : {b : Bool} (old : Context) → b ≡ false → EntersHead b old old
enters_plain {b} old e = subst (λ (v : Bool). EntersHead v old old) (sym e) refl

plain_in : {text : List ℕ} {p : Parser} (c : Context) → IsPlain text p → IsPlain text (record p { ctx = c })
plain_in c (whole d n x) = whole d n x
plain_in c (sign d k x) = sign d k x
plain_in c (none_stands d k n) = none_stands d k n

module _ {text : List ℕ} {f : Flags} {p : Parser} (a : At text f p) where
  -- those from before are in force again
  at_before : {g : Flags} {q : Parser} {c : Context} → At text g q → Same (record p { ctx = c }) q → At text f (record q { ctx = p.ctx })
  at_before {q = q} b s = record { text_is = b.text_is; flags_are = flags_same p (record q { ctx = p.ctx }) refl s.follows.source_type s.options ∙ a.flags_are; at = (ctx_set p.ctx b.at).1; plain = plain_in p.ctx b.plain; behind = b.behind; heads = b.heads; kept_last = b.kept_last }

  same_before : {g : Flags} {q : Parser} {c : Context} → At text g q → Same (record p { ctx = c }) q → Same p (record q { ctx = p.ctx })
  same_before {c = c} b s = record { follows = follows_on (ctx_set c a.at).0 (follows_on s.follows (ctx_set p.ctx b.at).0); options = s.options; ctx = refl; depth = s.depth; visits = s.visits; early = s.early; lies = s.lies }

  head_out : {g : Flags} {q : Parser} {c : Context} {id : NodeId} → g.wide ≡ f.wide → Head text g g (record p { ctx = c }) q id → Head text f g p (record q { ctx = p.ctx }) id
  head_out {g} {q} {c} v x = record {
    at = at_before {c = c} x.at x.same;
    same = same_before {c = c} x.at x.same;
    further = x.further;
    quiet = subst (λ (b : Bool). (q.errors ≡ p.errors) ⊎ ((b ≡ true) × Grown p.errors q.errors)) v x.quiet;
    label = x.label;
    slots = x.slots;
    pass = x.pass;
    walked = x.walked;
    read = x.read;
    holds = x.holds;
    keeps = x.keeps;
  }

  told_out : {g : Flags} {q : Parser} {c : Context} {id : NodeId} → ToldHead text g (record p { ctx = c }) q id → ToldHead text f p (record q { ctx = p.ctx }) id
  told_out {c = c} x = record {
    at = at_before {c = c} x.at x.same;
    same = same_before {c = c} x.at x.same;
    further = x.further;
    grown = x.grown;
    label = x.label;
    slots = x.slots;
    pass = x.pass;
    walked = x.walked;
    holds = x.holds;
    keeps = x.keeps;
  }

  read_out : {g : Flags} {q : Parser} {c : Context} {id : NodeId} → g.wide ≡ f.wide → HeadRead text g g (record p { ctx = c }) q id → HeadRead text f g p (record q { ctx = p.ctx }) id
  read_out v (read_clean x) = read_clean (head_out v x)
  read_out v (read_unclean t n) = read_unclean (told_out t) n

is_back : (p q : Parser) {w : Parser} {d : Context} → d ≡ p.ctx → w ≡ record q { ctx = d } → w ≡ record q { ctx = p.ctx }
is_back p q i j = j ∙ ap (λ (k : Context). record q { ctx = k }) i

module _ {text : List ℕ} {f g : Flags} {p e q w : Parser} {c d : Context} {id : NodeId} (v : g.wide ≡ f.wide) (a : At text f p) (i : d ≡ p.ctx) (h : e ≡ record p { ctx = c }) (j : w ≡ record q { ctx = d }) where
  head_back : Head text g g e q id → Head text f g p w id
  head_back x = subst (λ (r : Parser). Head text f g p r id) (sym (is_back p q i j)) (head_out a v (subst (λ (r : Parser). Head text g g r q id) h x))

  read_back : HeadRead text g g e q id → HeadRead text f g p w id
  read_back x = subst (λ (r : Parser). HeadRead text f g p r id) (sym (is_back p q i j)) (read_out a v (subst (λ (r : Parser). HeadRead text g g r q id) h x))

-- where nothing was read the parser is where it was
pub unmoved_back : {p e q w : Parser} {c d : Context} → Standing p → ((text : List ℕ) (f : Flags) → At text f p → (g : Flags) × At text g e) → d ≡ p.ctx → e ≡ record p { ctx = c } → w ≡ record q { ctx = d } → Unmoved e q → Unmoved p w
unmoved_back {p} {e} {q} {w} {c} {d} a s i h j u = subst (Unmoved p) (sym (j ∙ ap (λ (v : Context). record q { ctx = v }) i)) (back (subst (λ (z : Parser). Unmoved z q) h u))
  where
    there : (text : List ℕ) (f : Flags) → At text f p → (g : Flags) × At text g (record p { ctx = c })
    there text f a = let x = s text f a in (x.0, subst (At text x.0) h x.1)

    at_back : Unmoved (record p { ctx = c }) q → (text : List ℕ) (f : Flags) → At text f p → At text f (record q { ctx = p.ctx })
    at_back u text f a = let x = there text f a in at_before a {c = c} (u.at text x.0 x.1) u.same

    back : Unmoved (record p { ctx = c }) q → Unmoved p (record q { ctx = p.ctx })
    back u =
        let x = there _ _ a in
        let r = u.at _ x.0 x.1 in
        record {
          at = at_back u;
          same = same_before a {c = c} r u.same;
          kept = u.kept;
          place = u.place;
          spot_is = u.spot_is;
          start = u.start;
          kind = u.kind;
          keeps = u.keeps;
        }

module _ (b : Bool) {p e : Parser} {c d : Context} (a : Standing p) (i : d ≡ p.ctx) (s : EntersHead b d c) (h : e ≡ record p { ctx = c }) where
  there : (text : List ℕ) (f : Flags) → At text f p → (g : Flags) × At text g e
  there text f a = (arrow_head b f, head_at b a i s h)

  pub head_stands_at : Standing e
  head_stands_at = standing (head_at b a i s h)

  pub tries_back : (q : Parser) {w : Parser} → w ≡ record q { ctx = d } → (found : Option NodeId) → TriesParameters e q found → TriesHead b p w found
  tries_back q {w} j (Some id) x = (ap (λ (z : Parser). z.token.kind) j ∙ x.0, λ text f a. read_back refl a i h j (x.1 text (arrow_head b f) (head_at b a i s h)))
  tries_back q {w} j None x = (unmoved_back a there i h j x.0, λ text f a. subst (λ (v : ℕ). NoHead text (arrow_head b f) v) (ap (λ (z : Parser). z.prev_token_end) h) (x.1 text (arrow_head b f) (head_at b a i s h)))

  -- that none stands here is noted under the parameters of a head
  none_in : NoHeadHere b p → NoParametersHere e
  none_in n text g z =
      let w : At p.text (widened g.wide (flags_of p)) p = standing_for a refl refl in
      let y = head_at b w i s h in
      subst (λ (v : ℕ). NoHead text g v) (ap (λ (z : Parser). z.prev_token_end) (sym h)) (subst (λ (t : List ℕ). NoHead t g p.prev_token_end) (sym y.text_is ∙ z.text_is) (subst (λ (k : Flags). NoHead p.text k p.prev_token_end) (sym y.flags_are ∙ z.flags_are) (n _ _ w)))

  pub noted_back : {q w : Parser} {place : ℕ} → place ≡ p.prev_token_end → NoHeadHere b p → NotesArrow place e q → w ≡ record q { ctx = d } → Unmoved p w
  noted_back k n m j = unmoved_back a there i h j (noted_here head_stands_at (unmoved refl) (none_in n) (k ∙ ap (λ (z : Parser). z.prev_token_end) (sym h)) m)

  -- a name
  named_back : {q w : Parser} {id : NodeId} → w ≡ record q { ctx = d } → NamesHead e q (Some id) → (text : List ℕ) (f : Flags) → At text f p → Head text f (arrow_head b f) p w id
  named_back j x text f a = head_back refl a i h j (x.1 text (arrow_head b f) (head_at b a i s h))

  pub unnamed_back : {q w : Parser} → w ≡ record q { ctx = d } → Unmoved e q → NoLineHere e → Unmoved p w × ((text : List ℕ) (f : Flags) → At text f p → NoLine text (arrow_head b f) p.prev_token_end)
  unnamed_back j u n = (unmoved_back a there i h j u, λ text f a. subst (λ (v : ℕ). NoLine text (arrow_head b f) v) (ap (λ (z : Parser). z.prev_token_end) h) (n text (arrow_head b f) (head_at b a i s h)))

-- ---- a name behind `async`

module _ {p e : Parser} {c d : Context} (a : Standing p) (i : d ≡ p.ctx) (s : EntersHead true d c) (h : e ≡ record p { ctx = c }) where
  pub name_read : (q : Parser) {w : Parser} → NameHere e true → w ≡ record q { ctx = d } → (found : Option NodeId) → NamesHead e q found → HeadBehindAsync p w found
  name_read q {w} n j (Some id) x = (ap (λ (z : Parser). z.token.kind) j ∙ x.0, λ text f b. name_head (ap (λ (z : Parser). one_of_kinds binding_identifier_kinds z.token.kind) (sym h) ∙ listed_here e n) (named_back true a i s h j x text f b) (arrow text f b))
    where
      arrow : (text : List ℕ) (f : Flags) → At text f p → (y : Lexeme) → Lex text p.token.span.end y → y.kind ≡ Arrow
      arrow text f b y l =
          let z = x.2 text (arrow_head true f) (head_at true b i s h) in
          let m : Lex text p.token.span.end z.0 = subst (λ (v : ℕ). Lex text v z.0) (ap (λ (v : Parser). v.token.span.end) h) z.1 in
          ap (λ (v : Lexeme). v.kind) (sym (same_arrow m l z.2)) ∙ z.2
  name_read q {w} n j None x = none_left (unnamed_back true a i s h j x.0 x.1)
    where
      none_left : Unmoved p w × ((text : List ℕ) (f : Flags) → At text f p → NoLine text (arrow_head true f) p.prev_token_end) → HeadBehindAsync p w None
      none_left u = (unmoved_went_on a u.0, u.1)

  -- no name stands here
  pub name_missing : {w : Parser} → StandsHere p LParen false → NameHere e false → w ≡ record e { ctx = d } → HeadBehindAsync p w None
  name_missing {w} k n j = none_left (unnamed_back true a i s h j (unmoved refl) (neither n (subst (λ (z : Parser). StandsHere z LParen false) (sym h) k)))
    where
      none_left : Unmoved p w × ((text : List ℕ) (f : Flags) → At text f p → NoLine text (arrow_head true f) p.prev_token_end) → HeadBehindAsync p w None
      none_left u = (unmoved_went_on a u.0, u.1)
