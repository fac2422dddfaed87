-- Brackets match in whatever a grammar takes, where each rule's own brackets do: a computed check. For any grammar.
use Rattle.std.proofs.Common.{ℕ, List, [], ◌∷◌, ◌++◌, ◌≡◌, Bool, true, false, not, ◌&&◌, ◌||◌, IsTrue, refl, ap₂, sym, subst, cond, nat_eq, eqb-true, Some}
use Rattle.std.proofs.lemmas.Bool.{false≢true, and_parts}
use Rattle.js_base.specs.declared.kind.Kind.{Kind}
use Rattle.js_base.specs.declared.kind.Kind.TheVariants.{LParen, RParen, LBrack, RBrack, LCurly, RCurly, TemplateHead, TemplateMiddle, TemplateTail, Comma, Semicolon}
use Rattle.js_base.specs.Kinds.{same_kind}
use Rattle.js_base.proofs.KindLemmas.{kind_of_same}
use Rattle.js_grammar.specs.Trees.{Tree, Slots}
use Rattle.js_grammar.specs.Grammar.{Lexeme, Lexemes, next, Look, seen, is, Grammar, nothing, never, lexeme, look, text, ahead, empty_slot, seq, alt, when, many, commas, such, marked, node, ended, keep, kept, Takes, Derives, is_nothing, is_lexeme, is_look, is_text, is_ahead, is_empty_slot, is_seq, is_left, is_right, is_when, is_many, is_commas, is_such, is_marked, is_node, is_ended, is_keep, is_kept}
use Rattle.js_grammar.specs.Brackets.{Bracket, plain, opens, closes, reopens, pop, stay, bracket, move, Runs, stop, go_on}
use Rattle.js_grammar.proofs.Looks.{apart, covers, covered, not_both}

join : {s t u : List ℕ} {ls mid rest : Lexemes} → Runs s ls t mid → Runs t mid u rest → Runs s ls u rest
join stop r = r
join (go_on e q) r = go_on e (join q r)

-- what a grammar does to them: nothing derives it, or it isn't known, or this
pub data Effect : Type 0 where
  empty unknown : Effect
  leaves : List ℕ → Effect

abbrev pub same_list : List ℕ → List ℕ → Bool
same_list [] [] = true
same_list (a ∷ s) (b ∷ t) = nat_eq a b && same_list s t
same_list _ _ = false

same_list_right : (s t : List ℕ) → same_list s t ≡ true → s ≡ t
same_list_right [] [] e = refl
same_list_right [] (b ∷ t) e = absurd (false≢true e)
same_list_right (a ∷ s) [] e = absurd (false≢true e)
same_list_right (a ∷ s) (b ∷ t) e = let h = and_parts _ _ e in ap₂ (λ x y. x ∷ y) (eqb-true a b h.0) (same_list_right s t h.1)

abbrev pub both : Effect → Effect → Effect
both empty e = e
both unknown e = unknown
both (leaves s) empty = leaves s
both (leaves s) unknown = unknown
both (leaves s) (leaves t) = cond (same_list s t) (leaves s) unknown

abbrev pub pops : ℕ → List ℕ → Effect
pops b [] = unknown
pops b (c ∷ s) = cond (nat_eq b c) (leaves s) unknown

abbrev pub stays : ℕ → List ℕ → Effect
stays b [] = unknown
stays b (c ∷ s) = cond (nat_eq b c) (leaves (c ∷ s)) unknown

abbrev pub kind_is : Kind → Look
kind_is c k w e = same_kind c k

abbrev pub brackets : Look
brackets k w e = same_kind LParen k || (same_kind LBrack k || (same_kind LCurly k || (same_kind TemplateHead k || (same_kind RParen k || (same_kind RBrack k || (same_kind RCurly k || (same_kind TemplateTail k || same_kind TemplateMiddle k)))))))

abbrev pub lexeme_effect : Look → List ℕ → Effect
lexeme_effect p s = cond (apart p brackets) (leaves s) (cond (covers p (kind_is LParen)) (leaves (1 ∷ s)) (cond (covers p (kind_is LBrack)) (leaves (2 ∷ s)) (cond (covers p (kind_is LCurly)) (leaves (3 ∷ s)) (cond (covers p (kind_is TemplateHead)) (leaves (4 ∷ s))
    (cond (covers p (kind_is RParen)) (pops 1 s) (cond (covers p (kind_is RBrack)) (pops 2 s) (cond (covers p (kind_is RCurly)) (pops 3 s) (cond (covers p (kind_is TemplateTail)) (pops 4 s) (cond (covers p (kind_is TemplateMiddle)) (stays 4 s) unknown)))))))))

abbrev pub then_effect : Effect → (List ℕ → Effect) → Effect
then_effect empty g = empty
then_effect unknown g = unknown
then_effect (leaves s) g = g s

-- a part that may stand any number of times leaves what was there
abbrev pub repeats : Effect → List ℕ → Effect
repeats empty s = leaves s
repeats unknown s = unknown
repeats (leaves t) s = cond (same_list t s) (leaves s) unknown

abbrev pub effect : {N : Type 0} → Grammar N → List ℕ → Effect
effect nothing s = leaves s
effect never s = empty
effect (lexeme p) s = lexeme_effect p s
effect (look p) s = leaves s
effect (text p) s = leaves s
effect (ahead a) s = leaves s
effect empty_slot s = leaves s
effect (seq a b) s = then_effect (effect a s) (effect b)
effect (alt a b) s = both (effect a s) (effect b s)
effect (when c a) s = effect a s
effect (many a) s = repeats (effect a s) s
effect (commas b a) s = repeats (effect a s) s
effect (such n c) s = leaves s
effect (marked h n) s = leaves s
effect (node m a) s = effect a s
effect (ended rows a) s = effect a s
effect (keep a b) s = then_effect (effect a s) (effect b)
effect kept s = leaves s

pub not_bracket : (k : Kind) (w e : Bool) → (brackets k w e ≡ true → ⊥) → bracket k ≡ plain
unfolding bracket
not_bracket k w e h = by_nine (same_kind LParen k) (same_kind LBrack k) (same_kind LCurly k) (same_kind TemplateHead k) (same_kind RParen k) (same_kind RBrack k) (same_kind RCurly k) (same_kind TemplateTail k) (same_kind TemplateMiddle k) h
  where
    next_one : (a : Bool) {b : Bool} (v w : Bracket) → ((a || b) ≡ true → ⊥) → ((b ≡ true → ⊥) → w ≡ plain) → cond a v w ≡ plain
    next_one true v w h n = absurd (h refl)
    next_one false v w h n = n h

    last_one : (a : Bool) (v : Bracket) → (a ≡ true → ⊥) → cond a v plain ≡ plain
    last_one true v h = absurd (h refl)
    last_one false v h = refl

    by_nine : (a b c d e f g i j : Bool) → ((a || (b || (c || (d || (e || (f || (g || (i || j)))))))) ≡ true → ⊥)
        → cond a (opens 1) (cond b (opens 2) (cond c (opens 3) (cond d (opens 4) (cond e (closes 1) (cond f (closes 2) (cond g (closes 3) (cond i (closes 4) (cond j (reopens 4) plain)))))))) ≡ plain
    by_nine a b c d e f g i j h = next_one a _ _ h (λ h. next_one b _ _ h (λ h. next_one c _ _ h (λ h. next_one d _ _ h (λ h. next_one e _ _ h (λ h. next_one f _ _ h (λ h. next_one g _ _ h (λ h. next_one i _ _ h (λ h. last_one j _ h))))))))

-- what an effect says of a part, with the brackets s open in it and st around it
abbrev pub Meets : Effect → List ℕ → List ℕ → Lexemes → Lexemes → Type 0
Meets empty s st ls rest = ⊥
Meets unknown s st ls rest = Unit {0}
Meets (leaves t) s st ls rest = Runs (s ++ st) ls (t ++ st) rest

module _ (st : List ℕ) (ls : Lexemes) where
  prefix : (e : Effect) (s t : List ℕ) (mid rest : Lexemes) → Runs (s ++ st) ls (t ++ st) mid → Meets e t st mid rest → Meets e s st ls rest
  prefix empty s t mid rest r a = a
  prefix unknown s t mid rest r a = tt
  prefix (leaves u) s t mid rest r a = join r a

  then_meets : (e : Effect) (g : List ℕ → Effect) (s : List ℕ) (mid rest : Lexemes) → Meets e s st ls mid → ((t : List ℕ) → Meets (g t) t st mid rest) → Meets (then_effect e g) s st ls rest
  then_meets empty g s mid rest a f = absurd a
  then_meets unknown g s mid rest a f = tt
  then_meets (leaves t) g s mid rest a f = prefix (g t) s t mid rest a (f t)

  -- what stands behind leaves the brackets as they are
  and_then : (e : Effect) (s : List ℕ) (mid rest : Lexemes) → Meets e s st ls mid → ((t : List ℕ) → Runs t mid t rest) → Meets e s st ls rest
  and_then empty s mid rest a f = a
  and_then unknown s mid rest a f = tt
  and_then (leaves t) s mid rest a f = join a (f (t ++ st))

  module _ (rest : Lexemes) where
    same_meets : (b : Bool) (s t : List ℕ) → Meets (leaves t) s st ls rest → Meets (cond b (leaves t) unknown) s st ls rest
    same_meets true s t a = a
    same_meets false s t a = tt

    both_left : (e e' : Effect) (s : List ℕ) → Meets e s st ls rest → Meets (both e e') s st ls rest
    both_left empty e' s a = absurd a
    both_left unknown e' s a = tt
    both_left (leaves t) empty s a = a
    both_left (leaves t) unknown s a = tt
    both_left (leaves t) (leaves u) s a = same_meets (same_list t u) s t a

    both_right : (e e' : Effect) (s : List ℕ) → Meets e' s st ls rest → Meets (both e e') s st ls rest
    both_right empty e' s a = a
    both_right unknown e' s a = tt
    both_right (leaves t) empty s a = absurd a
    both_right (leaves t) unknown s a = tt
    both_right (leaves t) (leaves u) s a = go (same_list t u) refl
      where
        go : (b : Bool) → same_list t u ≡ b → Meets (cond b (leaves t) unknown) s st ls rest
        go true e = subst (λ v. Meets (leaves v) s st ls rest) (sym (same_list_right t u e)) a
        go false e = tt

    one_of_many : (e : Effect) (s : List ℕ) → Meets e s st ls rest → Meets (repeats e s) s st ls rest
    one_of_many empty s a = absurd a
    one_of_many unknown s a = tt
    one_of_many (leaves t) s a = go (same_list t s) refl
      where
        go : (b : Bool) → same_list t s ≡ b → Meets (cond b (leaves s) unknown) s st ls rest
        go true e = subst (λ v. Runs (s ++ st) ls (v ++ st) rest) (same_list_right t s e) a
        go false e = tt

  none_of_many : (e : Effect) (s : List ℕ) → Meets (repeats e s) s st ls ls
  none_of_many empty s = stop
  none_of_many unknown s = tt
  none_of_many (leaves t) s = same_meets ls (same_list t s) s s stop

-- a part that may be repeated, and more of them
more_of_many : (st : List ℕ) (e : Effect) (s : List ℕ) (ls mid rest : Lexemes) → Meets (repeats e s) s st ls mid → Meets (repeats e s) s st mid rest → Meets (repeats e s) s st ls rest
more_of_many st e s ls mid rest a b = go (repeats e s) a b (repeats_back e s)
  where
    -- repeats gives what was there, or isn't known
    repeats_back : (e : Effect) (s : List ℕ) (t : List ℕ) → repeats e s ≡ leaves t → leaves s ≡ leaves t
    repeats_back empty s t q = q
    repeats_back unknown s t q = absurd (cc)
    repeats_back (leaves u) s t q = by (same_list u s) q
      where
        by : (b : Bool) → cond b (leaves s) unknown ≡ leaves t → leaves s ≡ leaves t
        by true q = q
        by false q = absurd (cc)

    go : (f : Effect) → Meets f s st ls mid → Meets f s st mid rest → ((t : List ℕ) → f ≡ leaves t → leaves s ≡ leaves t) → Meets f s st ls rest
    go empty x y h = x
    go unknown x y h = tt
    go (leaves t) x y h = let w : s ≡ t = let q = h t refl in cc in join x (subst (λ v. Runs (v ++ st) mid (t ++ st) rest) w y)

module _ (st : List ℕ) (x : Lexeme) (ls : Lexemes) where
  one_move : (k : Kind) (s t : List ℕ) → x.kind ≡ k → move (bracket k) (s ++ st) ≡ Some (t ++ st) → Runs (s ++ st) (next x ls) (t ++ st) ls
  one_move k s t e m = go_on (rw e m) stop

  choose : (b : Bool) (y z : Effect) (s : List ℕ) → (b ≡ true → Meets y s st (next x ls) ls) → Meets z s st (next x ls) ls → Meets (cond b y z) s st (next x ls) ls
  choose true y z s f a = f refl
  choose false y z s f a = a

  popped : (b : ℕ) (k : Kind) → bracket k ≡ closes b → (s : List ℕ) → x.kind ≡ k → Meets (pops b s) s st (next x ls) ls
  unfolding pop move
  popped b k c [] e = tt
  popped b k c (d ∷ s) e = go (nat_eq b d) refl
    where
      go : (y : Bool) → nat_eq b d ≡ y → Meets (cond y (leaves s) unknown) (d ∷ s) st (next x ls) ls
      go true q = one_move k (d ∷ s) s e (rw (c, q, pop, move) refl)
      go false q = tt

  stayed : (b : ℕ) (k : Kind) → bracket k ≡ reopens b → (s : List ℕ) → x.kind ≡ k → Meets (stays b s) s st (next x ls) ls
  unfolding stay move
  stayed b k c [] e = tt
  stayed b k c (d ∷ s) e = go (nat_eq b d) refl
    where
      go : (y : Bool) → nat_eq b d ≡ y → Meets (cond y (leaves (d ∷ s)) unknown) (d ∷ s) st (next x ls) ls
      go true q = one_move k (d ∷ s) (d ∷ s) e (rw (c, q, stay, move) refl)
      go false q = tt

  lexeme_meets : (p : Look) (s : List ℕ) → IsTrue (seen p x) → Meets (lexeme_effect p s) s st (next x ls) ls
  unfolding bracket move pop
  lexeme_meets p s e =
      let named = λ (c : Kind) (h : covers p (kind_is c) ≡ true). sym (kind_of_same c x.kind (covered p (kind_is c) h x.kind x.newline x.escaped e)) in
      choose (apart p brackets) _ _ s (λ h. one_move x.kind s s refl (rw (not_bracket x.kind x.newline x.escaped (λ q. not_both p brackets h x.kind x.newline x.escaped e q)) refl))
      (choose (covers p (kind_is LParen)) _ _ s (λ h. one_move LParen s (1 ∷ s) (named LParen h) refl)
      (choose (covers p (kind_is LBrack)) _ _ s (λ h. one_move LBrack s (2 ∷ s) (named LBrack h) refl)
      (choose (covers p (kind_is LCurly)) _ _ s (λ h. one_move LCurly s (3 ∷ s) (named LCurly h) refl)
      (choose (covers p (kind_is TemplateHead)) _ _ s (λ h. one_move TemplateHead s (4 ∷ s) (named TemplateHead h) refl)
      (choose (covers p (kind_is RParen)) _ _ s (λ h. popped 1 RParen refl s (named RParen h))
      (choose (covers p (kind_is RBrack)) _ _ s (λ h. popped 2 RBrack refl s (named RBrack h))
      (choose (covers p (kind_is RCurly)) _ _ s (λ h. popped 3 RCurly refl s (named RCurly h))
      (choose (covers p (kind_is TemplateTail)) _ _ s (λ h. popped 4 TemplateTail refl s (named TemplateTail h))
      (choose (covers p (kind_is TemplateMiddle)) _ _ s (λ h. stayed 4 TemplateMiddle refl s (named TemplateMiddle h)) tt)))))))))

-- a comma or a semicolon is no bracket
plain_one : (k : Kind) → bracket k ≡ plain → {x : Lexeme} {ls : Lexemes} → IsTrue (seen (is k) x) → (s : List ℕ) → Runs s (next x ls) s ls
unfolding move
plain_one k b {x} e s = let m : move (bracket x.kind) s ≡ Some s = rw (sym (kind_of_same k x.kind (and_parts (same_kind k x.kind) (not x.escaped) e).0), b) refl in go_on m stop

comma_is : bracket Comma ≡ plain
unfolding bracket
comma_is = refl

semicolon_is : bracket Semicolon ≡ plain
unfolding bracket
semicolon_is = refl

-- Each rule leaves the brackets as they were.
module _ {N : Type 0} {rule : N → Grammar N} (rule_matches : (n : N) → effect (rule n) [] ≡ leaves []) where
  -- What is taken does to the brackets what its grammar's effect says.
  pub balance : {g : Grammar N} {ks ts us : Slots} {i j : ℕ} {ls rest : Lexemes} → Takes rule g ks ts i ls us j rest → (s st : List ℕ) → Meets (effect g s) s st ls rest
  balance is_nothing s st = stop
  balance (is_lexeme {p = p} e) s st = lexeme_meets st _ _ p s e
  balance (is_look e) s st = stop
  balance (is_text e) s st = stop
  balance (is_ahead d) s st = stop
  balance is_empty_slot s st = stop
  balance (is_seq {a = a} {b = b} d e) s st = then_meets st _ (effect a s) (effect b) s _ _ (balance d s st) (λ t. balance e t st)
  balance (is_left {a = a} {b = b} d) s st = both_left st _ _ (effect a s) (effect b s) s (balance d s st)
  balance (is_right {a = a} {b = b} d) s st = both_right st _ _ (effect a s) (effect b s) s (balance d s st)
  balance (is_when c d) s st = balance d s st
  balance (is_many {a = a} (is_right is_nothing)) s st = none_of_many st _ (effect a s) s
  balance (is_many {a = a} (is_left (is_seq d e))) s st = more_of_many st (effect a s) s _ _ _ (one_of_many st _ _ (effect a s) s (balance d s st)) (balance e s st)
  balance (is_commas {a = a} (is_seq d (is_right is_nothing))) s st = one_of_many st _ _ (effect a s) s (balance d s st)
  balance (is_commas {b = true} {a = a} (is_seq d (is_left (is_seq (is_lexeme c) (is_right is_nothing))))) s st = and_then st _ (repeats (effect a s) s) s _ _ (one_of_many st _ _ (effect a s) s (balance d s st)) (plain_one Comma comma_is c)
  balance (is_commas {b = true} {a = a} (is_seq d (is_left (is_seq (is_lexeme c) (is_left e))))) s st = more_of_many st (effect a s) s _ _ _ (and_then st _ (repeats (effect a s) s) s _ _ (one_of_many st _ _ (effect a s) s (balance d s st)) (plain_one Comma comma_is c)) (balance e s st)
  balance (is_commas {b = false} {a = a} (is_seq d (is_left (is_seq (is_lexeme c) e)))) s st = more_of_many st (effect a s) s _ _ _ (and_then st _ (repeats (effect a s) s) s _ _ (one_of_many st _ _ (effect a s) s (balance d s st)) (plain_one Comma comma_is c)) (balance e s st)
  balance (is_such {n = n} {ls = ls} {rest = rest} d c) s st = subst (λ e. Meets e [] (s ++ st) ls rest) (rule_matches n) (balance d [] (s ++ st))
  balance (is_marked {n = n} {ls = ls} {rest = rest} d) s st = subst (λ e. Meets e [] (s ++ st) ls rest) (rule_matches n) (balance d [] (s ++ st))
  balance (is_node d) s st = balance d s st
  balance (is_ended {a = a} q d (is_left (is_lexeme c))) s st = and_then st _ (effect a s) s _ _ (balance d s st) (plain_one Semicolon semicolon_is c)
  balance (is_ended q d (is_right (is_look c))) s st = balance d s st
  balance (is_keep {a = a} {b = b} d e) s st = then_meets st _ (effect a s) (effect b) s _ _ (balance d s st) (λ t. balance e t st)
  balance (is_kept q) s st = stop

  -- The lexemes of every derivation match, whatever brackets are open around it.
  pub matched : (n : N) (t : Tree) {i j : ℕ} {ls rest : Lexemes} → Derives rule n t i ls j rest → (st : List ℕ) → Runs st ls st rest
  matched n t {ls = ls} {rest = rest} d st = subst (λ e. Meets e [] st ls rest) (rule_matches n) (balance d [] st)
