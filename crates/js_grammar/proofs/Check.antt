-- A checker: given a tree with its spans, whether a symbol derives it. What it says yes to is derived.
use Rattle.std.proofs.Common.{ℕ, zero, suc, ◌≡◌, inl, inr, ◌⊎◌, Bool, true, false, ◌&&◌, IsTrue, refl, ap, sym, subst, nat_lt, nat_eq}
use Rattle.std.proofs.lemmas.Bool.{and_parts, false≢true}
use Rattle.js_grammar.specs.Trees.{Slots, end, hole, tree, append, Label}
use Rattle.js_base.specs.declared.kind.Kind.{Kind}
use Rattle.js_base.specs.declared.kind.Kind.TheVariants.{Comma, Semicolon}
use Rattle.js_grammar.specs.Grammar.{Lexeme, Lexemes, last, next, here, seen, Grammar, nothing, never, lexeme, look, text, ahead, empty_slot, seq, alt, when, many, commas, such, marked, node, ended, keep, kept, is, semicolon, may_omit, label_of, Takes, is_nothing, is_lexeme, is_look, is_text, is_ahead, is_empty_slot, is_seq, is_left, is_right, is_when, is_many, is_commas, is_such, is_marked, is_node, is_ended, is_keep, is_kept}
use Rattle.js_grammar.specs.TreeForms.{are_none}
use Rattle.js_grammar.proofs.Same.{same_label, label_of_same, same_slots, slots_of_same, node_code, same_op}

both : (b c : Bool) → elim b [ true ↦ c | false ↦ false ] ≡ true → (b ≡ true) × (c ≡ true)
both true c e = (refl, e)
both false c e = absurd (false≢true e)

one_of_two : (b c : Bool) → elim b [ true ↦ true | false ↦ c ] ≡ true → (b ≡ true) ⊎ (c ≡ true)
one_of_two true c e = inl refl
one_of_two false c e = inr e

-- a list of slots cut in two
abbrev pub any_split : (Slots → Slots → Bool) → Slots → Bool
any_split f end = f end end
any_split f (hole us) = elim (f end (hole us)) [ true ↦ true | false ↦ any_split (λ p r. f (hole p) r) us ]
any_split f (tree l cs us) = elim (f end (tree l cs us)) [ true ↦ true | false ↦ any_split (λ p r. f (tree l cs p) r) us ]

split_right : (f : Slots → Slots → Bool) (ts : Slots) → any_split f ts ≡ true → (p : Slots) × (r : Slots) × (ts ≡ append p r) × (f p r ≡ true)
split_right f end e = (end, end, refl, e)
split_right f (hole us) e = go (one_of_two _ _ e) (split_right (λ p r. f (hole p) r) us)
  where
    go : (f end (hole us) ≡ true) ⊎ (any_split (λ p r. f (hole p) r) us ≡ true) → (any_split (λ p r. f (hole p) r) us ≡ true → (p : Slots) × (r : Slots) × (us ≡ append p r) × (f (hole p) r ≡ true)) → (p : Slots) × (r : Slots) × (hole us ≡ append p r) × (f p r ≡ true)
    go (inl x) k = (end, hole us, refl, x)
    go (inr x) k = let y = k x in (hole y.0, y.1, ap hole y.2, y.3)
split_right f (tree l cs us) e = go (one_of_two _ _ e) (split_right (λ p r. f (tree l cs p) r) us)
  where
    go : (f end (tree l cs us) ≡ true) ⊎ (any_split (λ p r. f (tree l cs p) r) us ≡ true) → (any_split (λ p r. f (tree l cs p) r) us ≡ true → (p : Slots) × (r : Slots) × (us ≡ append p r) × (f (tree l cs p) r ≡ true)) → (p : Slots) × (r : Slots) × (tree l cs us ≡ append p r) × (f p r ≡ true)
    go (inl x) k = (end, tree l cs us, refl, x)
    go (inr x) k = let y = k x in (tree l cs y.0, y.1, ap (tree l cs) y.2, y.3)

-- the last slots of these, of the first node's, or of its first node's
abbrev pub inner : Slots → Slots
inner end = end
inner (hole us) = end
inner (tree l cs us) = cs

abbrev pub any_kept : (Slots → Bool) → Slots → Bool
any_kept f ts = elim (any_split (λ p r. f r) ts) [ true ↦ true | false ↦ elim (any_split (λ p r. f r) (inner ts)) [ true ↦ true | false ↦ any_split (λ p r. f r) (inner (inner ts)) ] ]

kept_right : (f : Slots → Bool) (ts : Slots) → any_kept f ts ≡ true → (cs : Slots) × (f cs ≡ true)
kept_right f ts e = go (one_of_two _ _ e)
  where
    found : (us : Slots) → any_split (λ p r. f r) us ≡ true → (cs : Slots) × (f cs ≡ true)
    found us x = let y = split_right (λ p r. f r) us x in (y.1, y.3)

    go2 : (any_split (λ p r. f r) (inner ts) ≡ true) ⊎ (any_split (λ p r. f r) (inner (inner ts)) ≡ true) → (cs : Slots) × (f cs ≡ true)
    go2 (inl x) = found (inner ts) x
    go2 (inr x) = found (inner (inner ts)) x

    go : (any_split (λ p r. f r) ts ≡ true) ⊎ (elim (any_split (λ p r. f r) (inner ts)) [ true ↦ true | false ↦ any_split (λ p r. f r) (inner (inner ts)) ] ≡ true) → (cs : Slots) × (f cs ≡ true)
    go (inl x) = found ts x
    go (inr x) = go2 (one_of_two _ _ x)

-- the kept slots stand here
abbrev pub strip : Slots → (Slots → Bool) → Slots → Bool
strip end K ts = K ts
strip (hole ks) K (hole ts) = strip ks K ts
strip (tree l cs ks) K (tree m ds ts) = elim (same_label m l && same_slots ds cs) [ true ↦ strip ks K ts | false ↦ false ]
strip _ K _ = false

strip_right : (ks : Slots) (K : Slots → Bool) (ts : Slots) → strip ks K ts ≡ true → (us : Slots) × (ts ≡ append ks us) × (K us ≡ true)
strip_right end K ts e = (ts, refl, e)
strip_right (hole ks) K end e = absurd (false≢true e)
strip_right (hole ks) K (hole ts) e = let x = strip_right ks K ts e in (x.0, ap hole x.1, x.2)
strip_right (hole ks) K (tree m ds ts) e = absurd (false≢true e)
strip_right (tree l cs ks) K end e = absurd (false≢true e)
strip_right (tree l cs ks) K (hole ts) e = absurd (false≢true e)
strip_right (tree l cs ks) K (tree m ds ts) e =
    let b = both _ _ e in
    let h = and_parts _ _ b.0 in
    let x = strip_right ks K ts b.1 in
    let p = label_of_same m l h.0 in
    let q = slots_of_same ds cs h.1 in
    (x.0, λ d. tree (p d) (q d) (x.1 d), x.2)

-- what is asked of what is left
abbrev pub Rest : Type 0
Rest = Slots → ℕ → Lexemes → Bool

abbrev pub Step : Type 0
Step = Rest → Slots → ℕ → Lexemes → Bool

abbrev pub run_many : ℕ → Step → Step
run_many zero s K ts i ls = K ts i ls
run_many (suc n) s K ts i ls = elim (s (λ us j rest. elim (nat_lt i j) [ true ↦ run_many n s K us j rest | false ↦ false ]) ts i ls) [ true ↦ true | false ↦ K ts i ls ]

-- behind an item: a comma and more, a comma, or none
abbrev pub behind : Bool → (ℕ → Lexemes → Bool) → Rest → Slots → ℕ → Lexemes → Bool
behind b again K us j (last x) = K us j (last x)
behind b again K us j (next x ls) = elim (seen (is Comma) x) [
  | true ↦ elim (again x.to ls) [ true ↦ true | false ↦ elim b [ true ↦ elim (K us x.to ls) [ true ↦ true | false ↦ K us j (next x ls) ] | false ↦ K us j (next x ls) ] ]
  | false ↦ K us j (next x ls)
]

abbrev pub run_commas : ℕ → Bool → Step → Step
run_commas zero b s K ts i ls = false
run_commas (suc n) b s K ts i ls = s (λ us j rest. behind b (λ k more. run_commas n b s K us k more) K us j rest) ts i ls

end_is : (ts : Slots) → are_none ts ≡ true → ts ≡ end
end_is end e = refl
end_is (hole us) e = absurd (false≢true e)
end_is (tree l cs us) e = absurd (false≢true e)

abbrev pub taken : (Kind → Bool → Bool → Bool) → (ℕ → Lexemes → Bool) → Lexemes → Bool
taken p K (last x) = false
taken p K (next x ls) = elim (seen p x) [ true ↦ K x.to ls | false ↦ false ]

abbrev pub over : (Kind → Bool → Bool → Bool) → (ℕ → Lexemes → Bool) → ℕ → Lexemes → Bool
over p K j ls = elim (taken (is Semicolon) K ls) [ true ↦ true | false ↦ elim (seen (may_omit p) (here ls)) [ true ↦ K j ls | false ↦ false ] ]

module _ {N : Type 0} (D : N → Label → Slots → ℕ → Lexemes → (ℕ → Lexemes → Bool) → Bool) (fuel : ℕ) (undo : Label → Label) where
  abbrev pub run : Grammar N → Slots → Rest → Slots → ℕ → Lexemes → Bool
  run nothing ks K ts i ls = K ts i ls
  run never ks K ts i ls = false
  run (lexeme p) ks K ts i ls = taken p (λ j rest. K ts j rest) ls
  run (look p) ks K ts i ls = elim (seen p (here ls)) [ true ↦ K ts i ls | false ↦ false ]
  run (text p) ks K ts i ls = elim (p (here ls).units) [ true ↦ K ts i ls | false ↦ false ]
  run (ahead a) ks K ts i ls = run a ks (λ us j rest. K us i ls) ts i ls
  run empty_slot ks K (hole us) i ls = K us i ls
  run empty_slot ks K _ i ls = false
  run (seq a b) ks K ts i ls = run a ks (λ us j rest. run b ks K us j rest) ts i ls
  run (alt a b) ks K ts i ls = elim (run a ks K ts i ls) [ true ↦ true | false ↦ run b ks K ts i ls ]
  run (when c a) ks K ts i ls = elim c [ true ↦ run a ks K ts i ls | false ↦ false ]
  run (many a) ks K ts i ls = run_many fuel (λ L us j rest. run a ks L us j rest) K ts i ls
  run (commas b a) ks K ts i ls = run_commas fuel b (λ L us j rest. run a ks L us j rest) K ts i ls
  run (such n c) ks K (tree l cs us) i ls = elim (c (record { label = l; slots = cs })) [ true ↦ D n l cs i ls (λ j rest. K us j rest) | false ↦ false ]
  run (such n c) ks K _ i ls = false
  run (marked h n) ks K (tree l cs us) i ls = elim (same_label l (h l)) [
    | true ↦ D n l cs i ls (λ j rest. K us j rest)
    | false ↦ elim (same_label l (h (undo l))) [ true ↦ D n (undo l) cs i ls (λ j rest. K us j rest) | false ↦ false ]
  ]
  run (marked h n) ks K _ i ls = false
  run (node m a) ks K (tree l cs us) i ls = elim (nat_eq (node_code l.kind) (node_code m.kind) && (same_op l.op m.op && nat_eq l.flags m.flags)) [
    | true ↦ run a ks (λ ds j rest. elim (are_none ds) [ true ↦ elim (same_label l (label_of m ls j rest)) [ true ↦ K us j rest | false ↦ false ] | false ↦ false ]) cs i ls
    | false ↦ false
  ]
  run (node m a) ks K _ i ls = false
  run (ended rows a) ks K ts i ls = any_split (λ cs us. run a ks (λ ds j rest. elim (are_none ds) [ true ↦ over (rows (here ls) cs) (λ k more. K us k more) j rest | false ↦ false ]) cs i ls) ts
  run (keep a b) ks K ts i ls = any_kept (λ cs. run a ks (λ ds j rest. elim (are_none ds) [ true ↦ run b cs K ts j rest | false ↦ false ]) cs i ls) ts
  run kept ks K ts i ls = strip ks (λ us. K us i ls) ts

module _ {N : Type 0} (rule : N → Grammar N) (fuel : ℕ) (undo : Label → Label) where
  -- the symbol derives the tree from i, by a derivation of at most this height, up to some place where K holds
  abbrev pub check : ℕ → N → Label → Slots → ℕ → Lexemes → (ℕ → Lexemes → Bool) → Bool
  check zero n l cs i ls K = false
  check (suc h) n l cs i ls K = run (λ m k ds x more L. check h m k ds x more L) fuel undo (rule n) end (λ ts j rest. elim (are_none ts) [ true ↦ K j rest | false ↦ false ]) (tree l cs end) i ls

branch : (b x y : Bool) → elim b [ true ↦ x | false ↦ y ] ≡ true → ((b ≡ true) × (x ≡ true)) ⊎ (y ≡ true)
branch true x y e = inl (refl, e)
branch false x y e = inr e

module _ {N : Type 0} (rule : N → Grammar N) where
  -- some is taken, and of what is left K holds
  abbrev pub Found : Grammar N → Slots → Rest → Slots → ℕ → Lexemes → Type 0
  Found g ks K ts i ls = (us : Slots) × (j : ℕ) × (rest : Lexemes) × Takes rule g ks ts i ls us j rest × (K us j rest ≡ true)

  many_right : (a : Grammar N) (ks : Slots) (s : Step) → ((L : Rest) (ts : Slots) (i : ℕ) (ls : Lexemes) → s L ts i ls ≡ true → Found a ks L ts i ls)
      → (n : ℕ) (K : Rest) (ts : Slots) (i : ℕ) (ls : Lexemes) → run_many n s K ts i ls ≡ true → Found (many a) ks K ts i ls
  many_right a ks s right zero K ts i ls e = (ts, i, ls, is_many (is_right is_nothing), e)
  many_right a ks s right (suc n) K ts i ls e = go (one_of_two _ _ e) (many_right a ks s right n K)
    where
      go : (s (λ us j rest. elim (nat_lt i j) [ true ↦ run_many n s K us j rest | false ↦ false ]) ts i ls ≡ true) ⊎ (K ts i ls ≡ true)
          → ((us : Slots) (j : ℕ) (rest : Lexemes) → run_many n s K us j rest ≡ true → Found (many a) ks K us j rest) → Found (many a) ks K ts i ls
      go (inl x) f = let y = right _ ts i ls x in let z = f y.0 y.1 y.2 (both _ _ y.4).1 in (z.0, z.1, z.2, is_many (is_left (is_seq y.3 z.3)), z.4)
      go (inr x) f = (ts, i, ls, is_many (is_right is_nothing), x)

  one_item : (b : Bool) (a : Grammar N) (ks : Slots) {ts us : Slots} {i j : ℕ} {ls rest : Lexemes} → Takes rule a ks ts i ls us j rest → Takes rule (commas b a) ks ts i ls us j rest
  one_item b a ks d = is_commas (is_seq d (is_right is_nothing))

  item_comma : (b : Bool) (a : Grammar N) (ks : Slots) {ts us : Slots} {i j : ℕ} {x : Lexeme} {ls rest : Lexemes} → b ≡ true → Takes rule a ks ts i ls us j (next x rest) → IsTrue (seen (is Comma) x) → Takes rule (commas b a) ks ts i ls us x.to rest
  item_comma true a ks t d c = is_commas (is_seq d (is_left (is_seq (is_lexeme c) (is_right is_nothing))))
  item_comma false a ks t d c = absurd (false≢true t)

  item_more : (b : Bool) (a : Grammar N) (ks : Slots) {ts us vs : Slots} {i j k : ℕ} {x : Lexeme} {ls mid rest : Lexemes} → Takes rule a ks ts i ls us j (next x mid) → IsTrue (seen (is Comma) x) → Takes rule (commas b a) ks us x.to mid vs k rest → Takes rule (commas b a) ks ts i ls vs k rest
  item_more true a ks d c e = is_commas (is_seq d (is_left (is_seq (is_lexeme c) (is_left e))))
  item_more false a ks d c e = is_commas (is_seq d (is_left (is_seq (is_lexeme c) e)))

  behind_right : (b : Bool) (a : Grammar N) (ks : Slots) (again : ℕ → Lexemes → Bool) (K : Rest) (ts us : Slots) (i j : ℕ) (ls rest : Lexemes) → Takes rule a ks ts i ls us j rest
      → ((k : ℕ) (more : Lexemes) → again k more ≡ true → Found (commas b a) ks K us k more) → behind b again K us j rest ≡ true → Found (commas b a) ks K ts i ls
  behind_right b a ks again K ts us i j ls (last x) d f e = (us, j, last x, one_item b a ks d, e)
  behind_right b a ks again K ts us i j ls (next x rest) d f e = at_comma (branch _ _ _ e)
    where
      trailing : IsTrue (seen (is Comma) x) → b ≡ true → (K us x.to rest ≡ true) ⊎ (K us j (next x rest) ≡ true) → Found (commas b a) ks K ts i ls
      trailing c t (inl y) = (us, x.to, rest, item_comma b a ks t d c, y)
      trailing c t (inr y) = (us, j, next x rest, one_item b a ks d, y)

      last_one : IsTrue (seen (is Comma) x) → ((b ≡ true) × (elim (K us x.to rest) [ true ↦ true | false ↦ K us j (next x rest) ] ≡ true)) ⊎ (K us j (next x rest) ≡ true) → Found (commas b a) ks K ts i ls
      last_one c (inl y) = trailing c y.0 (one_of_two _ _ y.1)
      last_one c (inr y) = (us, j, next x rest, one_item b a ks d, y)

      more_of : IsTrue (seen (is Comma) x) → (again x.to rest ≡ true) ⊎ (elim b [ true ↦ elim (K us x.to rest) [ true ↦ true | false ↦ K us j (next x rest) ] | false ↦ K us j (next x rest) ] ≡ true) → Found (commas b a) ks K ts i ls
      more_of c (inl y) = let z = f x.to rest y in (z.0, z.1, z.2, item_more b a ks d c z.3, z.4)
      more_of c (inr y) = last_one c (branch _ _ _ y)

      at_comma : ((seen (is Comma) x ≡ true) × (elim (again x.to rest) [ true ↦ true | false ↦ elim b [ true ↦ elim (K us x.to rest) [ true ↦ true | false ↦ K us j (next x rest) ] | false ↦ K us j (next x rest) ] ] ≡ true)) ⊎ (K us j (next x rest) ≡ true) → Found (commas b a) ks K ts i ls
      at_comma (inl y) = more_of y.0 (one_of_two _ _ y.1)
      at_comma (inr y) = (us, j, next x rest, one_item b a ks d, y)

  commas_right : (b : Bool) (a : Grammar N) (ks : Slots) (s : Step) → ((L : Rest) (ts : Slots) (i : ℕ) (ls : Lexemes) → s L ts i ls ≡ true → Found a ks L ts i ls)
      → (n : ℕ) (K : Rest) (ts : Slots) (i : ℕ) (ls : Lexemes) → run_commas n b s K ts i ls ≡ true → Found (commas b a) ks K ts i ls
  commas_right b a ks s right zero K ts i ls e = absurd (false≢true e)
  commas_right b a ks s right (suc n) K ts i ls e =
      let y = right _ ts i ls e in
      behind_right b a ks (λ k more. run_commas n b s K y.0 k more) K ts y.0 i y.1 ls y.2 y.3 (λ k more q. commas_right b a ks s right n K y.0 k more q) y.4

  taken_right : (p : Kind → Bool → Bool → Bool) (ks : Slots) (K : Rest) (ts : Slots) (i : ℕ) (ls : Lexemes) → taken p (λ j rest. K ts j rest) ls ≡ true → Found (lexeme p) ks K ts i ls
  taken_right p ks K ts i (last x) e = absurd (false≢true e)
  taken_right p ks K ts i (next x ls) e = let y = both _ _ e in (ts, x.to, ls, is_lexeme y.0, y.1)

  over_right : (p : Kind → Bool → Bool → Bool) (ks : Slots) (K : Rest) (us : Slots) (j : ℕ) (ls : Lexemes) → over p (λ k more. K us k more) j ls ≡ true → Found (semicolon p) ks K us j ls
  over_right p ks K us j ls e = go (one_of_two _ _ e)
    where
      go : (taken (is Semicolon) (λ k more. K us k more) ls ≡ true) ⊎ (elim (seen (may_omit p) (here ls)) [ true ↦ K us j ls | false ↦ false ] ≡ true) → Found (semicolon p) ks K us j ls
      go (inl x) = let y = taken_right (is Semicolon) ks K us j ls x in (y.0, y.1, y.2, is_left y.3, y.4)
      go (inr x) = let y = both _ _ x in (us, j, ls, is_right (is_look y.0), y.1)

  module _ (D : N → Label → Slots → ℕ → Lexemes → (ℕ → Lexemes → Bool) → Bool) (right : (n : N) (l : Label) (cs : Slots) (i : ℕ) (ls : Lexemes) (K : ℕ → Lexemes → Bool) → D n l cs i ls K ≡ true
      → (j : ℕ) × (rest : Lexemes) × Takes rule (rule n) end (tree l cs end) i ls end j rest × (K j rest ≡ true)) (fuel : ℕ) (undo : Label → Label) where
    marked_right : (h : Label → Label) (n : N) (ks : Slots) (K : Rest) (l : Label) (cs us : Slots) (i : ℕ) (ls : Lexemes)
        → ((same_label l (h l) ≡ true) × (D n l cs i ls (λ j rest. K us j rest) ≡ true)) ⊎ (elim (same_label l (h (undo l))) [ true ↦ D n (undo l) cs i ls (λ j rest. K us j rest) | false ↦ false ] ≡ true) → Found (marked h n) ks K (tree l cs us) i ls
    marked_right h n ks K l cs us i ls (inl x) = let d = right n l cs i ls (λ j rest. K us j rest) x.1 in (us, d.0, d.1, subst (λ v. Takes rule (marked h n) ks (tree v cs us) i ls us d.0 d.1) (sym (label_of_same l (h l) x.0)) (is_marked d.2), d.3)
    marked_right h n ks K l cs us i ls (inr y) =
        let x = both _ _ y in
        let d = right n (undo l) cs i ls (λ j rest. K us j rest) x.1 in
        (us, d.0, d.1, subst (λ v. Takes rule (marked h n) ks (tree v cs us) i ls us d.0 d.1) (sym (label_of_same l (h (undo l)) x.0)) (is_marked d.2), d.3)

    pub run_right : (g : Grammar N) (ks : Slots) (K : Rest) (ts : Slots) (i : ℕ) (ls : Lexemes) → run D fuel undo g ks K ts i ls ≡ true → Found g ks K ts i ls
    run_right nothing ks K ts i ls e = (ts, i, ls, is_nothing, e)
    run_right never ks K ts i ls e = absurd (false≢true e)
    run_right (lexeme p) ks K ts i ls e = taken_right p ks K ts i ls e
    run_right (look p) ks K ts i ls e = let x = both _ _ e in (ts, i, ls, is_look x.0, x.1)
    run_right (text p) ks K ts i ls e = let x = both _ _ e in (ts, i, ls, is_text x.0, x.1)
    run_right (ahead a) ks K ts i ls e = let x = run_right a ks (λ us j rest. K us i ls) ts i ls e in (x.0, i, ls, is_ahead x.3, x.4)
    run_right empty_slot ks K end i ls e = absurd (false≢true e)
    run_right empty_slot ks K (hole us) i ls e = (us, i, ls, is_empty_slot, e)
    run_right empty_slot ks K (tree l cs us) i ls e = absurd (false≢true e)
    run_right (seq a b) ks K ts i ls e =
        let x = run_right a ks (λ us j rest. run D fuel undo b ks K us j rest) ts i ls e in
        let y = run_right b ks K x.0 x.1 x.2 x.4 in
        (y.0, y.1, y.2, is_seq x.3 y.3, y.4)
    run_right (alt a b) ks K ts i ls e = elim (one_of_two _ _ e) [
      | inl x ↦ let y = run_right a ks K ts i ls x in (y.0, y.1, y.2, is_left y.3, y.4)
      | inr x ↦ let y = run_right b ks K ts i ls x in (y.0, y.1, y.2, is_right y.3, y.4)
    ]
    run_right (when c a) ks K ts i ls e = let x = both _ _ e in let y = run_right a ks K ts i ls x.1 in (y.0, y.1, y.2, is_when x.0 y.3, y.4)
    run_right (many a) ks K ts i ls e = many_right a ks (λ L us j rest. run D fuel undo a ks L us j rest) (λ L us j rest q. run_right a ks L us j rest q) fuel K ts i ls e
    run_right (commas b a) ks K ts i ls e = commas_right b a ks (λ L us j rest. run D fuel undo a ks L us j rest) (λ L us j rest q. run_right a ks L us j rest q) fuel K ts i ls e
    run_right (such n c) ks K end i ls e = absurd (false≢true e)
    run_right (such n c) ks K (hole us) i ls e = absurd (false≢true e)
    run_right (such n c) ks K (tree l cs us) i ls e = let x = both _ _ e in let d = right n l cs i ls (λ j rest. K us j rest) x.1 in (us, d.0, d.1, is_such d.2 x.0, d.3)
    run_right (marked h n) ks K end i ls e = absurd (false≢true e)
    run_right (marked h n) ks K (hole us) i ls e = absurd (false≢true e)
    run_right (marked h n) ks K (tree l cs us) i ls e = marked_right h n ks K l cs us i ls (branch _ _ _ e)
    run_right (node m a) ks K end i ls e = absurd (false≢true e)
    run_right (node m a) ks K (hole us) i ls e = absurd (false≢true e)
    run_right (node m a) ks K (tree l cs us) i ls e =
        let x = both _ _ e in
        let y = run_right a ks (λ ds j rest. elim (are_none ds) [ true ↦ elim (same_label l (label_of m ls j rest)) [ true ↦ K us j rest | false ↦ false ] | false ↦ false ]) cs i ls x.1 in
        let z = both _ _ y.4 in
        let w = both _ _ z.1 in
        let d : Takes rule a ks cs i ls end y.1 y.2 = subst (λ v. Takes rule a ks cs i ls v y.1 y.2) (end_is y.0 z.0) y.3 in
        (us, y.1, y.2, subst (λ v. Takes rule (node m a) ks (tree v cs us) i ls us y.1 y.2) (sym (label_of_same l (label_of m ls y.1 y.2) w.0)) (is_node d), w.1)
    run_right (ended rows a) ks K ts i ls e =
        let x = split_right _ ts e in
        let y = run_right a ks (λ ds j rest. elim (are_none ds) [ true ↦ over (rows (here ls) x.0) (λ k more. K x.1 k more) j rest | false ↦ false ]) x.0 i ls x.3 in
        let z = both _ _ y.4 in
        let d : Takes rule a ks x.0 i ls end y.1 y.2 = subst (λ v. Takes rule a ks x.0 i ls v y.1 y.2) (end_is y.0 z.0) y.3 in
        let w = over_right (rows (here ls) x.0) ks K x.1 y.1 y.2 z.1 in
        (w.0, w.1, w.2, is_ended x.2 d w.3, w.4)
    run_right (keep a b) ks K ts i ls e =
        let x = kept_right _ ts e in
        let y = run_right a ks (λ ds j rest. elim (are_none ds) [ true ↦ run D fuel undo b x.0 K ts j rest | false ↦ false ]) x.0 i ls x.1 in
        let z = both _ _ y.4 in
        let d : Takes rule a ks x.0 i ls end y.1 y.2 = subst (λ v. Takes rule a ks x.0 i ls v y.1 y.2) (end_is y.0 z.0) y.3 in
        let w = run_right b x.0 K ts y.1 y.2 z.1 in
        (w.0, w.1, w.2, is_keep d w.3, w.4)
    run_right kept ks K ts i ls e = let x = strip_right ks (λ us. K us i ls) ts e in (x.0, i, ls, is_kept x.1, x.2)

  module _ (fuel : ℕ) (undo : Label → Label) where
    -- what the checker says yes to is derived
    pub checked : (h : ℕ) (n : N) (l : Label) (cs : Slots) (i : ℕ) (ls : Lexemes) (K : ℕ → Lexemes → Bool) → check rule fuel undo h n l cs i ls K ≡ true → (j : ℕ) × (rest : Lexemes) × Takes rule (rule n) end (tree l cs end) i ls end j rest × (K j rest ≡ true)
    checked zero n l cs i ls K e = absurd (false≢true e)
    checked (suc h) n l cs i ls K e =
        let x = run_right (λ m k ds x more L. check rule fuel undo h m k ds x more L) (checked h) fuel undo (rule n) end (λ ts j rest. elim (are_none ts) [ true ↦ K j rest | false ↦ false ]) (tree l cs end) i ls e in
        let z = both _ _ x.4 in
        (x.1, x.2, subst (λ v. Takes rule (rule n) end (tree l cs end) i ls v x.1 x.2) (end_is x.0 z.0) x.3, z.1)
