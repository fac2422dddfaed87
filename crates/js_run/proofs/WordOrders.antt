-- What the words set, and that they set one thing.
use Rattle.std.proofs.Common.{ℕ, zero, suc, ◌+◌, ◌-◌, ◌<◌, ◌≤◌, ◌==◌, ◌≡◌, ◌⊎◌, inl, inr, Bool, true, false, not, ◌&&◌, List, [], ◌∷◌, ◌++◌, length, map, take, drop, get_or, Option, Some, None, IsTrue, refl, sym, ap, subst, arith, ◌∙◌, append-nil, codes}
use Rattle.std.specs.Prelude.{Result, Ok, Err, MatchResult, bytes_eq, fold, ◌↔◌}
use Rattle.std.specs.List.{list_all}
use Rattle.std.proofs.lemmas.Bool.{false≢true, and_parts}
use Rattle.js_base.specs.declared.source_type.SourceType.{SourceType}
use Rattle.js_parser.specs.js_lex.States.{goal_of}
use Rattle.js_grammar.specs.CommandLine.{Choice, a_goal, a_print, v8, no_parens, allow_return, a_number, Written, alone, apart, joined, AllWritten, none, more, goal_word, agree, set_by, unset, is_read_so_far, Admitted}
use Rattle.js_grammar.specs.Settings.{Settings, Goal, script, module_goal, commonjs, unambiguous}
use Rattle.js_run.specs.declared.words.Settings.{Settings as Set}
use Rattle.js_run.specs.declared.words.WordsError.{WordsError}
use Rattle.js_run.specs.declared.words.WordsError.TheVariants.{Usage, NoMemory}
use Rattle.js_run.specs.Words.{settings_of, set_to, joined_word, Names, NamesGoal, IsSetting, Sets, IsRefusal}

-- ---- the words that name a goal

is_written : (g : Goal) (ws : List (List ℕ)) → Written (a_goal g) ws → (ws ≡ codes "--goal" ∷ goal_word g ∷ []) ⊎ (ws ≡ joined_word g ∷ [])
is_written g ws (alone e) = absurd (let k = e in cc)
is_written g ws (apart {v = v} e) = inl (let k : goal_word g ≡ v = cc in ap (λ (w : List ℕ). codes "--goal" ∷ w ∷ []) (sym k))
is_written g ws (joined {v = v} e) = inr (let k : goal_word g ≡ v = cc in ap (λ (w : List ℕ). (codes "--goal=" ++ w) ∷ []) (sym k))

pub one_names : (word : List ℕ) (r : Option SourceType) → Names joined_word word r → NamesGoal (word ∷ []) r
one_names word (Some s) h = subst (λ (w : List ℕ). Written (a_goal (goal_of s)) (w ∷ [])) (sym h) (joined refl)
one_names word None n = λ g x. go g (is_written g (word ∷ []) x)
  where
    go : (g : Goal) → (word ∷ [] ≡ codes "--goal" ∷ goal_word g ∷ []) ⊎ (word ∷ [] ≡ joined_word g ∷ []) → ⊥
    go g (inl e) = cc
    go g (inr e) = n g (let k : word ≡ joined_word g = cc in k)

pub two_name : (first word : List ℕ) (r : Option SourceType) → first ≡ codes "--goal" → Names goal_word word r → NamesGoal (first ∷ word ∷ []) r
two_name first word (Some s) e h = subst (λ (v : List ℕ). Written (a_goal (goal_of s)) (v ∷ word ∷ [])) (sym e) (subst (λ (w : List ℕ). Written (a_goal (goal_of s)) (codes "--goal" ∷ w ∷ [])) (sym h) (apart refl))
two_name first word None e n = λ g x. go g (is_written g (first ∷ word ∷ []) x)
  where
    go : (g : Goal) → (first ∷ word ∷ [] ≡ codes "--goal" ∷ goal_word g ∷ []) ⊎ (first ∷ word ∷ [] ≡ joined_word g ∷ []) → ⊥
    go g (inl d) = n g (let k : word ≡ goal_word g = cc in k)
    go g (inr d) = cc

pub none_name : (ws : List (List ℕ)) → (length ws ≡ 1 → ⊥) → (length ws ≡ 2 → (first : List ℕ) (rest : List (List ℕ)) → ws ≡ first ∷ rest → first ≡ codes "--goal" → ⊥) → NamesGoal ws None
none_name ws n m = λ g x. go g (is_written g ws x)
  where
    go : (g : Goal) → (ws ≡ codes "--goal" ∷ goal_word g ∷ []) ⊎ (ws ≡ joined_word g ∷ []) → ⊥
    go g (inl e) = m (ap length e) (codes "--goal") (goal_word g ∷ []) e refl
    go g (inr e) = n (ap length e)

-- ---- the words in their three orders

data Form (ws : List (List ℕ)) (s : Settings) : Type 0 where
  goal_alone : {g : Goal} → Written (a_goal g) ws → s ≡ set_to g false → Form ws s
  v8_first : {g : Goal} {vs : List (List ℕ)} → ws ≡ codes "--v8" ∷ vs → Written (a_goal g) vs → s ≡ set_to g true → Form ws s
  v8_last : {g : Goal} {vs : List (List ℕ)} → ws ≡ vs ++ codes "--v8" ∷ [] → Written (a_goal g) vs → s ≡ set_to g true → Form ws s

is_v8 : (ws : List (List ℕ)) → Written v8 ws → ws ≡ codes "--v8" ∷ []
is_v8 ws (alone e) = refl
is_v8 ws (apart e) = absurd (let k = e in cc)
is_v8 ws (joined e) = absurd (let k = e in cc)

-- one `--v8`
twice : (a c : Bool) → (a && false) && c ≡ true → ⊥
twice a c h = false≢true (and_parts a false (and_parts (a && false) c h).0).1

form : {ws : List (List ℕ)} {s : Settings} (cs : List Choice) → AllWritten cs ws → agree cs ≡ true → list_all is_read_so_far cs ≡ true → s ≡ fold set_by unset cs → Form ws s
form [] w a r e = absurd (false≢true a)
form (a_goal g ∷ []) (more {ws = ws} x none) a r e = goal_alone (subst (Written (a_goal g)) (sym (append-nil ws)) x) e
form (a_goal g ∷ a_goal h ∷ cs) w a r e = absurd (false≢true a)
form (a_goal g ∷ v8 ∷ []) (more {ws = ws} x (more {ws = vs} y none)) a r e = v8_last (ap (λ (us : List (List ℕ)). ws ++ us) (append-nil vs ∙ is_v8 vs y)) x e
form (a_goal g ∷ v8 ∷ a_goal h ∷ cs) w a r e = absurd (false≢true a)
form (a_goal g ∷ v8 ∷ v8 ∷ cs) w a r e = absurd (twice _ _ a)
form (a_goal g ∷ v8 ∷ c ∷ cs) w a r e = absurd (false≢true r)
form (a_goal g ∷ c ∷ cs) w a r e = absurd (false≢true r)
form (v8 ∷ []) w a r e = absurd (false≢true a)
form (v8 ∷ a_goal g ∷ []) (more {ws = ws} x (more {ws = vs} y none)) a r e = v8_first (ap (λ (us : List (List ℕ)). us ++ (vs ++ [])) (is_v8 ws x)) (subst (Written (a_goal g)) (sym (append-nil vs)) y) e
form (v8 ∷ a_goal g ∷ a_goal h ∷ cs) w a r e = absurd (twice _ _ a)
form (v8 ∷ a_goal g ∷ v8 ∷ cs) w a r e = absurd (false≢true a)
form (v8 ∷ a_goal g ∷ c ∷ cs) w a r e = absurd (false≢true r)
form (v8 ∷ v8 ∷ cs) w a r e = absurd (false≢true a)
form (v8 ∷ c ∷ cs) w a r e = absurd (false≢true r)
form (c ∷ cs) w a r e = absurd (false≢true r)

form_of : {ws : List (List ℕ)} {s : Settings} → Admitted ws s → Form ws s
form_of a = form a.admits.choices a.admits.written a.admits.agree a.so_far a.admits.sets

admit_alone : {ws : List (List ℕ)} (g : Goal) → Written (a_goal g) ws → Admitted ws (set_to g false)
admit_alone {ws} g x = record { admits = record { choices = a_goal g ∷ []; written = subst (AllWritten (a_goal g ∷ [])) (append-nil ws) (more x none); agree = refl; sets = refl }; so_far = refl }

admit_first : {ws : List (List ℕ)} (g : Goal) → Written (a_goal g) ws → Admitted (codes "--v8" ∷ ws) (set_to g true)
admit_first {ws} g x = record { admits = record { choices = v8 ∷ a_goal g ∷ []; written = subst (λ (vs : List (List ℕ)). AllWritten (v8 ∷ a_goal g ∷ []) (codes "--v8" ∷ vs)) (append-nil ws) (more (alone refl) (more x none)); agree = refl; sets = refl }; so_far = refl }

admit_last : {ws : List (List ℕ)} (g : Goal) → Written (a_goal g) ws → Admitted (ws ++ codes "--v8" ∷ []) (set_to g true)
admit_last g x = record { admits = record { choices = a_goal g ∷ v8 ∷ []; written = more x (more (alone refl) none); agree = refl; sets = refl }; so_far = refl }

-- ---- which order it is

word_one : (g h : Goal) → goal_word g ≡ goal_word h → g ≡ h
word_one script script e = refl
word_one script h e = go h e
  where
    go : (h : Goal) → codes "script" ≡ goal_word h → script ≡ h
    go script e = refl
    go module_goal e = absurd (false≢true (ap (λ (w : List ℕ). bytes_eq w (codes "module")) e))
    go commonjs e = absurd (false≢true (ap (λ (w : List ℕ). bytes_eq w (codes "commonjs")) e))
    go unambiguous e = absurd (false≢true (ap (λ (w : List ℕ). bytes_eq w (codes "unambiguous")) e))
word_one module_goal h e = go h e
  where
    go : (h : Goal) → codes "module" ≡ goal_word h → module_goal ≡ h
    go module_goal e = refl
    go script e = absurd (false≢true (ap (λ (w : List ℕ). bytes_eq w (codes "script")) e))
    go commonjs e = absurd (false≢true (ap (λ (w : List ℕ). bytes_eq w (codes "commonjs")) e))
    go unambiguous e = absurd (false≢true (ap (λ (w : List ℕ). bytes_eq w (codes "unambiguous")) e))
word_one commonjs h e = go h e
  where
    go : (h : Goal) → codes "commonjs" ≡ goal_word h → commonjs ≡ h
    go commonjs e = refl
    go script e = absurd (false≢true (ap (λ (w : List ℕ). bytes_eq w (codes "script")) e))
    go module_goal e = absurd (false≢true (ap (λ (w : List ℕ). bytes_eq w (codes "module")) e))
    go unambiguous e = absurd (false≢true (ap (λ (w : List ℕ). bytes_eq w (codes "unambiguous")) e))
word_one unambiguous h e = go h e
  where
    go : (h : Goal) → codes "unambiguous" ≡ goal_word h → unambiguous ≡ h
    go unambiguous e = refl
    go script e = absurd (false≢true (ap (λ (w : List ℕ). bytes_eq w (codes "script")) e))
    go module_goal e = absurd (false≢true (ap (λ (w : List ℕ). bytes_eq w (codes "module")) e))
    go commonjs e = absurd (false≢true (ap (λ (w : List ℕ). bytes_eq w (codes "commonjs")) e))

goal_one : {g h : Goal} {ws : List (List ℕ)} → Written (a_goal g) ws → Written (a_goal h) ws → g ≡ h
goal_one {g} {h} {ws} x y = go (is_written g ws x) (is_written h ws y)
  where
    go : (ws ≡ codes "--goal" ∷ goal_word g ∷ []) ⊎ (ws ≡ joined_word g ∷ []) → (ws ≡ codes "--goal" ∷ goal_word h ∷ []) ⊎ (ws ≡ joined_word h ∷ []) → g ≡ h
    go (inl a) (inl b) = word_one g h (let k : codes "--goal" ∷ goal_word g ∷ [] ≡ codes "--goal" ∷ goal_word h ∷ [] = sym a ∙ b in ap (λ (l : List (List ℕ)). get_or l 1 []) k)
    go (inl a) (inr b) = absurd (let k : 2 ≡ 1 = ap length (sym a ∙ b) in omega arith)
    go (inr a) (inl b) = absurd (let k : 1 ≡ 2 = ap length (sym a ∙ b) in omega arith)
    go (inr a) (inr b) = word_one g h (let k : joined_word g ∷ [] ≡ joined_word h ∷ [] = sym a ∙ b in ap (λ (l : List (List ℕ)). drop 7 (get_or l 0 [])) k)

-- words that name a goal don't begin with `--v8`
no_v8_first : {g : Goal} {ws : List (List ℕ)} (vs : List (List ℕ)) → Written (a_goal g) ws → ws ≡ codes "--v8" ∷ vs → ⊥
no_v8_first {g} {ws} vs x e = go (is_written g ws x)
  where
    go : (ws ≡ codes "--goal" ∷ goal_word g ∷ []) ⊎ (ws ≡ joined_word g ∷ []) → ⊥
    go (inl a) = false≢true (ap (λ (l : List (List ℕ)). get_or (get_or l 0 []) 2 0 == 118) (sym a ∙ e))
    go (inr a) = false≢true (ap (λ (l : List (List ℕ)). get_or (get_or l 0 []) 2 0 == 118) (sym a ∙ e))

no_v8_in_front : {g : Goal} {ws us : List (List ℕ)} (vs : List (List ℕ)) → Written (a_goal g) ws → ws ++ vs ≡ codes "--v8" ∷ us → ⊥
no_v8_in_front {g} {ws} {us} vs x e = go (is_written g ws x)
  where
    go : (ws ≡ codes "--goal" ∷ goal_word g ∷ []) ⊎ (ws ≡ joined_word g ∷ []) → ⊥
    go (inl a) = false≢true (ap (λ (l : List (List ℕ)). get_or (get_or l 0 []) 2 0 == 118) (ap (λ (l : List (List ℕ)). l ++ vs) (sym a) ∙ e))
    go (inr a) = false≢true (ap (λ (l : List (List ℕ)). get_or (get_or l 0 []) 2 0 == 118) (ap (λ (l : List (List ℕ)). l ++ vs) (sym a) ∙ e))

one_behind : (xs : List (List ℕ)) (x a : List ℕ) → xs ++ x ∷ [] ≡ a ∷ [] → x ≡ a
one_behind [] x a e = let k : x ≡ a = cc in k
one_behind (y ∷ []) x a e = absurd (let k = e in cc)
one_behind (y ∷ z ∷ xs) x a e = absurd (let k = e in cc)

two_behind : (xs : List (List ℕ)) (x a b : List ℕ) → xs ++ x ∷ [] ≡ a ∷ b ∷ [] → x ≡ b
two_behind [] x a b e = absurd (let k = e in cc)
two_behind (y ∷ []) x a b e = let k : x ≡ b = cc in k
two_behind (y ∷ z ∷ []) x a b e = absurd (let k = e in cc)
two_behind (y ∷ z ∷ w ∷ xs) x a b e = absurd (let k = e in cc)

front_same : (xs ys : List (List ℕ)) (x : List ℕ) → xs ++ x ∷ [] ≡ ys ++ x ∷ [] → xs ≡ ys
front_same [] [] x e = refl
front_same [] (y ∷ []) x e = absurd (let k = e in cc)
front_same [] (y ∷ z ∷ ys) x e = absurd (let k = e in cc)
front_same (y ∷ []) [] x e = absurd (let k = e in cc)
front_same (y ∷ z ∷ xs) [] x e = absurd (let k = e in cc)
front_same (y ∷ xs) (z ∷ ys) x e = let k : xs ++ x ∷ [] ≡ ys ++ x ∷ [] = cc in let h : y ≡ z = cc in let r = front_same xs ys x k in cc

no_dash : (g : Goal) → codes "--v8" ≡ goal_word g → ⊥
no_dash script e = false≢true (ap (λ (w : List ℕ). bytes_eq w (codes "script")) e)
no_dash module_goal e = false≢true (ap (λ (w : List ℕ). bytes_eq w (codes "module")) e)
no_dash commonjs e = false≢true (ap (λ (w : List ℕ). bytes_eq w (codes "commonjs")) e)
no_dash unambiguous e = false≢true (ap (λ (w : List ℕ). bytes_eq w (codes "unambiguous")) e)

-- nor do they end with it
no_v8_last : {g : Goal} {ws : List (List ℕ)} (vs : List (List ℕ)) → Written (a_goal g) ws → ws ≡ vs ++ codes "--v8" ∷ [] → ⊥
no_v8_last {g} {ws} vs x e = go (is_written g ws x)
  where
    go : (ws ≡ codes "--goal" ∷ goal_word g ∷ []) ⊎ (ws ≡ joined_word g ∷ []) → ⊥
    go (inl a) = no_dash g (two_behind vs (codes "--v8") (codes "--goal") (goal_word g) (sym e ∙ a))
    go (inr a) = false≢true (sym (ap (λ (w : List ℕ). get_or w 2 0 == 118) (one_behind vs (codes "--v8") (joined_word g) (sym e ∙ a))))

-- the settings that words may set are those of these words for a goal
record Only (ws vs : List (List ℕ)) (b : Bool) : Type 0 where
  only : (t : Settings) → Admitted ws t → (g : Goal) × Written (a_goal g) vs × (t ≡ set_to g b)

only_first : {ws vs : List (List ℕ)} → ws ≡ codes "--v8" ∷ vs → Only ws vs true
only_first {ws} {vs} q = record { only = λ t a. go t (form_of a) }
  where
    go : (t : Settings) → Form ws t → (g : Goal) × Written (a_goal g) vs × (t ≡ set_to g true)
    go t (goal_alone x e) = absurd (no_v8_first vs x q)
    go t (v8_first {g = g} {vs = us} p x e) = (g, subst (Written (a_goal g)) (let k : codes "--v8" ∷ us ≡ codes "--v8" ∷ vs = sym p ∙ q in ap (λ (l : List (List ℕ)). drop 1 l) k) x, e)
    go t (v8_last p x e) = absurd (no_v8_in_front (codes "--v8" ∷ []) x (sym p ∙ q))

only_last : {ws vs : List (List ℕ)} → ((us : List (List ℕ)) → ws ≡ codes "--v8" ∷ us → ⊥) → ws ≡ vs ++ codes "--v8" ∷ [] → Only ws vs true
only_last {ws} {vs} n q = record { only = λ t a. go t (form_of a) }
  where
    go : (t : Settings) → Form ws t → (g : Goal) × Written (a_goal g) vs × (t ≡ set_to g true)
    go t (goal_alone x e) = absurd (no_v8_last vs x q)
    go t (v8_first {vs = us} p x e) = absurd (n us p)
    go t (v8_last {g = g} {vs = us} p x e) = (g, subst (Written (a_goal g)) (front_same us vs (codes "--v8") (sym p ∙ q)) x, e)

only_alone : {ws : List (List ℕ)} → ((us : List (List ℕ)) → ws ≡ codes "--v8" ∷ us → ⊥) → ((us : List (List ℕ)) → ws ≡ us ++ codes "--v8" ∷ [] → ⊥) → Only ws ws false
only_alone {ws} n m = record { only = λ t a. go t (form_of a) }
  where
    go : (t : Settings) → Form ws t → (g : Goal) × Written (a_goal g) ws × (t ≡ set_to g false)
    go t (goal_alone {g = g} x e) = (g, x, e)
    go t (v8_first {vs = us} p x e) = absurd (n us p)
    go t (v8_last {vs = us} p x e) = absurd (m us p)

-- what is answered for words
answers : {ws vs : List (List ℕ)} {b : Bool} (r : Option SourceType) (result : Result Set WordsError) → Only ws vs b → ((g : Goal) → Written (a_goal g) vs → Admitted ws (set_to g b)) → NamesGoal vs r → IsSetting r b result → MatchResult result (λ s. Sets ws (settings_of s)) (IsRefusal ws)
answers {ws} {b = b} (Some s) (Ok t) o f h i = record {
  admitted = subst (Admitted ws) (sym i) (f (goal_of s) h);
  only = λ u a. let x = o.only u a in x.2 ∙ (ap (λ (g : Goal). set_to g b) (goal_one x.1 h) ∙ sym i);
}
answers (Some s) (Err e) o f h i = absurd i
answers None (Ok t) o f h i = absurd i
answers {ws} None (Err e) o f h i = subst (IsRefusal ws) (sym i) (λ u a. let x = o.only u a in h x.0 x.1)

module _ {T : Type 0} (word_of : T → List ℕ) where
  -- the first word and the others, the last one and those before it
  pub first_one : (ws : List T) (w : T) (rest : List T) → 0 < length ws → w ≡ get_or ws 0 w → rest ≡ drop 1 ws → map word_of ws ≡ word_of w ∷ map word_of rest
  first_one [] w rest l e q = absurd (omega arith)
  first_one (x ∷ ws) w rest l e q = λ i. word_of (sym e i) ∷ map word_of (sym q i)

  pub last_one : (ws : List T) (k : ℕ) (w : T) (front : List T) → length ws ≡ k + 1 → w ≡ get_or ws k w → front ≡ take k ws → map word_of ws ≡ map word_of front ++ word_of w ∷ []
  last_one [] k w front l e q = absurd (omega arith)
  last_one (x ∷ []) zero w front l e q = λ i. map word_of (sym q i) ++ word_of (sym e i) ∷ []
  last_one (x ∷ y ∷ ws) zero w front l e q = absurd (omega arith)
  last_one (x ∷ ws) (suc k) w front l e q = ap (λ (us : List (List ℕ)). word_of x ∷ us) (last_one ws k w (take k ws) (omega arith) e refl) ∙ ap (λ (us : List T). map word_of us ++ word_of w ∷ []) (sym q)

  not_first : (ws : List T) → (0 < length ws → (w : T) → w ≡ get_or ws 0 w → word_of w ≡ codes "--v8" → ⊥) → (us : List (List ℕ)) → map word_of ws ≡ codes "--v8" ∷ us → ⊥
  not_first [] n us e = absurd (let k = e in cc)
  not_first (x ∷ ws) n us e = n (omega arith) x refl (let k : word_of x ≡ codes "--v8" = cc in k)

  last_of : (ws : List T) (us : List (List ℕ)) (v : List ℕ) → map word_of ws ≡ us ++ v ∷ [] → (k : ℕ) × (w : T) × (length ws ≡ k + 1) × (w ≡ get_or ws k w) × (word_of w ≡ v)
  last_of [] [] v e = absurd (let k = e in cc)
  last_of [] (u ∷ us) v e = absurd (let k = e in cc)
  last_of (x ∷ []) [] v e = (0, x, omega arith, refl, let k : word_of x ≡ v = cc in k)
  last_of (x ∷ y ∷ ws) [] v e = absurd (let k = e in cc)
  last_of (x ∷ ws) (u ∷ us) v e = let h = last_of ws us v (let k : map word_of ws ≡ us ++ v ∷ [] = cc in k) in (suc h.0, h.1, (let l = h.2 in omega arith), h.3, h.4)

  not_last : (ws : List T) → ((k : ℕ) → length ws ≡ k + 1 → (w : T) → w ≡ get_or ws k w → word_of w ≡ codes "--v8" → ⊥) → (us : List (List ℕ)) → map word_of ws ≡ us ++ codes "--v8" ∷ [] → ⊥
  not_last ws n us e = let h = last_of ws us (codes "--v8") e in n h.0 h.2 h.1 h.3 h.4

  whole_front : (ws : List T) → take (length ws) ws ≡ ws
  whole_front [] = refl
  whole_front (x ∷ ws) = ap (λ (us : List T). x ∷ us) (whole_front ws)

  -- all words but the first
  pub behind_first : (ws : List T) → take (length ws - 1) (drop 1 ws) ≡ drop 1 ws
  behind_first [] = refl
  behind_first (x ∷ ws) = let n : length (x ∷ ws) - 1 ≡ length ws = omega arith in ap (λ (k : ℕ). take k ws) n ∙ whole_front ws

  -- the word at a place is one
  same_at : (ws : List T) (k : ℕ) (x y : T) → k < length ws → x ≡ get_or ws k x → y ≡ get_or ws k y → x ≡ y
  same_at [] k x y l e q = absurd (omega arith)
  same_at (z ∷ ws) zero x y l e q = e ∙ sym q
  same_at (z ∷ ws) (suc k) x y l e q = same_at ws k x y (omega arith) e q

  pub never_at : (ws : List T) (k : ℕ) (w : T) (b : Bool) → k < length ws → w ≡ get_or ws k w → (IsTrue b ↔ (word_of w ≡ codes "--v8")) → b ≡ false → (x : T) → x ≡ get_or ws k x → word_of x ≡ codes "--v8" → ⊥
  never_at ws k w b l e i n x q v = false≢true (sym n ∙ i.1 (ap word_of (same_at ws k w x l e q) ∙ v))

  -- the three orders
  pub sets_first : (ws rest : List T) (w : T) (r : Option SourceType) (result : Result Set WordsError) → 0 < length ws → w ≡ get_or ws 0 w → word_of w ≡ codes "--v8" → rest ≡ drop 1 ws → NamesGoal (map word_of rest) r → IsSetting r true result → MatchResult result (λ s. Sets (map word_of ws) (settings_of s)) (IsRefusal (map word_of ws))
  sets_first ws rest w r result l e v q h i =
      let order : map word_of ws ≡ codes "--v8" ∷ map word_of rest = first_one ws w rest l e q ∙ ap (λ (u : List ℕ). u ∷ map word_of rest) v in
      answers r result (only_first order) (λ g x. subst (λ (us : List (List ℕ)). Admitted us (set_to g true)) (sym order) (admit_first g x)) h i

  pub sets_last : (ws front : List T) (k : ℕ) (w : T) (r : Option SourceType) (result : Result Set WordsError) → (0 < length ws → (x : T) → x ≡ get_or ws 0 x → word_of x ≡ codes "--v8" → ⊥) → length ws ≡ k + 1 → w ≡ get_or ws k w → word_of w ≡ codes "--v8" → front ≡ take k ws → NamesGoal (map word_of front) r → IsSetting r true result → MatchResult result (λ s. Sets (map word_of ws) (settings_of s)) (IsRefusal (map word_of ws))
  sets_last ws front k w r result n l e v q h i =
      let order : map word_of ws ≡ map word_of front ++ codes "--v8" ∷ [] = last_one ws k w front l e q ∙ ap (λ (u : List ℕ). map word_of front ++ u ∷ []) v in
      answers r result (only_last (not_first ws n) order) (λ g x. subst (λ (us : List (List ℕ)). Admitted us (set_to g true)) (sym order) (admit_last g x)) h i

  pub sets_alone : (ws : List T) (r : Option SourceType) (result : Result Set WordsError) → (0 < length ws → (x : T) → x ≡ get_or ws 0 x → word_of x ≡ codes "--v8" → ⊥) → ((k : ℕ) → length ws ≡ k + 1 → (x : T) → x ≡ get_or ws k x → word_of x ≡ codes "--v8" → ⊥) → NamesGoal (map word_of ws) r → IsSetting r false result → MatchResult result (λ s. Sets (map word_of ws) (settings_of s)) (IsRefusal (map word_of ws))
  sets_alone ws r result n m h i = answers r result (only_alone (not_first ws n) (not_last ws m)) (λ g x. admit_alone g x) h i
