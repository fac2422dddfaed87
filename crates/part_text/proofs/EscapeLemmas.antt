-- What one character more does to what is known of the inside of a string.
use Rattle.std.proofs.Common.{◌≡◌, ℕ, zero, suc, ◌+◌, ◌-◌, ◌*◌, ◌==◌, Bool, true, false, List, [], ◌∷◌, ◌++◌, refl, sym, ap, subst, ◌∙◌, not, ◌&&◌, ◌||◌, Option, Some, None, ◌⊎◌, inl, inr, append_assoc, length, length-append, arith}
use Rattle.std.specs.Prelude.{nat_le, is_some, chars, encode_utf8, encode_utf8_all, IsUtf8}
use Rattle.std.proofs.lemmas.Bool.Decides.{nat_tests}
use Rattle.std.proofs.lemmas.Bool.{eqb-true, and_right, ne_eqb}
use Rattle.std.specs.declared.str.CharIndices.{CharIndices}
use Rattle.std.specs.Str.Iter.{char_indices_rest, char_indices_offset, char_indices_steps}
use Rattle.std.proofs.lemmas.Str.{chars_past_char, IsUtf8-past_char, chars-nil, encodes-chars}
use Rattle.std.proofs.lemmas.List.{append-nil}
use Rattle.part_text.specs.declared.decode.State.{State}
use Rattle.part_text.specs.declared.decode.State.TheVariants.{Outside, Backslash, Nul, Point, Octal}
use Rattle.part_text.specs.declared.code_point_escape.CodePointEscape.{CodePointEscape}
use Rattle.part_text.specs.declared.code_point_escape.CodePointEscape.TheVariants.{Unicode, Due, Braced}
use Rattle.part_text.specs.CodePointEscapes.{stage_of}
use Rattle.part_text.specs.declared.escape.Reading.{Reading}
use Rattle.part_text.specs.Escapes.{in_string, Stage, Step, outside, backslash, unicode, nul, due, braced, octal, step, read_from, before_all, finish, line_feeds_after}
use Rattle.part_text.specs.DecodingSteps.{state_of}
use Rattle.part_text.specs.InvalidEscapes.{is_right, bytes_of, MayGoOn, IsInvalidEscape, WithinEscape, is_of_string, Reads, IsRead, CountsAs}

-- whether characters are right from a stage on
abbrev pub right_from : Stage → List ℕ → Bool
right_from s cs = is_some (read_from in_string s cs)

abbrev right_after : List ℕ → Option Step → Bool
right_after cs None = false
right_after cs (Some t) = right_from t.stage cs

some-before : (out : List ℕ) (r : Option (List ℕ)) → is_some (before_all out r) ≡ is_some r
some-before out None = refl
some-before out (Some cs) = refl

pub right-step : (s : Stage) (c : ℕ) (cs : List ℕ) → right_from s (c ∷ cs) ≡ right_after cs (step in_string s c)
right-step s c cs = by (step in_string s c)
  where
    by : (o : Option Step) → is_some (elim o [ None ↦ None | Some t ↦ before_all t.gives (read_from in_string t.stage cs) ]) ≡ right_after cs o
    by None = refl
    by (Some t) = some-before t.gives (read_from in_string t.stage cs)

pub right-on : (s : Stage) (c : ℕ) (cs : List ℕ) (t : Step) → step in_string s c ≡ Some t → right_from s (c ∷ cs) ≡ right_from t.stage cs
right-on s c cs t e = right-step s c cs ∙ ap (right_after cs) e

pub right-stops : (s : Stage) (c : ℕ) (cs : List ℕ) → step in_string s c ≡ None → right_from s (c ∷ cs) ≡ false
right-stops s c cs e = right-step s c cs ∙ ap (right_after cs) e

-- whether a backslash stands directly before
abbrev pub is_backslash : Stage → Bool
is_backslash outside = false
is_backslash backslash = true
is_backslash unicode = false
is_backslash nul = false
is_backslash (due n v) = false
is_backslash (braced any v) = false
is_backslash (octal n v) = false

abbrev stays_of_string : Option Step → Bool
stays_of_string None = true
stays_of_string (Some t) = is_of_string t.stage

-- no escape goes on so within one alone
abbrev stops_within : Bool → Option Step → Bool
stops_within ends None = not ends
stops_within ends (Some t) = true

-- a backslash alone makes the stage of one, where no escape is left open
abbrev begins_escape : ℕ → Bool → Option Step → Bool
begins_escape c ends None = true
begins_escape c ends (Some t) = not (is_backslash t.stage) || ((c == 92) && ends)

-- no other character opens one
abbrev goes_on_within : Bool → Option Step → Bool
goes_on_within ends None = true
goes_on_within ends (Some t) = is_some (finish t.stage) || (is_backslash t.stage || not ends)

stays : (s : Stage) (c : ℕ) → stays_of_string (step in_string s c) ≡ true
stays outside c = grind (arith, nat_tests)
stays backslash c = grind (arith, nat_tests)
stays unicode c = grind (arith, nat_tests)
stays nul c = grind (arith, nat_tests)
stays (due n v) c = grind (arith, nat_tests)
stays (braced any v) c = grind (arith, nat_tests)
stays (octal n v) c = grind (arith, nat_tests)

stops : (s : Stage) (c : ℕ) → is_of_string s ≡ true → stops_within (is_some (finish s)) (step in_string s c) ≡ true
stops outside c h = grind (arith, nat_tests)
stops backslash c h = grind (arith, nat_tests)
stops unicode c h = grind (arith, nat_tests)
stops nul c h = cc
stops (due n v) c h = grind (arith, nat_tests)
stops (braced any v) c h = grind (arith, nat_tests)
stops (octal n v) c h = grind (arith, nat_tests)

begins : (s : Stage) (c : ℕ) → begins_escape c (is_some (finish s)) (step in_string s c) ≡ true
begins outside c = grind (arith, nat_tests)
begins backslash c = grind (arith, nat_tests)
begins unicode c = grind (arith, nat_tests)
begins nul c = grind (arith, nat_tests)
begins (due n v) c = grind (arith, nat_tests)
begins (braced any v) c = grind (arith, nat_tests)
begins (octal n v) c = grind (arith, nat_tests)

within : (s : Stage) (c : ℕ) → goes_on_within (is_some (finish s)) (step in_string s c) ≡ true
within outside c = grind (arith, nat_tests)
within backslash c = grind (arith, nat_tests)
within unicode c = grind (arith, nat_tests)
within nul c = grind (arith, nat_tests)
within (due n v) c = grind (arith, nat_tests)
within (braced any v) c = grind (arith, nat_tests)
within (octal n v) c = grind (arith, nat_tests)

-- of two fronts of one list, the second ends within the first, or goes on behind it
pub front_past : (b v more : List ℕ) (c : ℕ) (rest : List ℕ) → b ++ c ∷ rest ≡ v ++ more → ((m : List ℕ) × (b ≡ v ++ m)) ⊎ ((u : List ℕ) × (v ≡ b ++ c ∷ u))
front_past b [] more c rest e = inl (b, refl)
front_past [] (d ∷ v) more c rest e = inr (v, (let f : c ≡ d = cc in cc))
front_past (x ∷ b) (d ∷ v) more c rest e =
    let h : x ≡ d = cc in
    let t : b ++ c ∷ rest ≡ v ++ more = cc in
    elim (front_past b v more c rest t) [
      | inl f ↦ inl (f.0, (let g = f.1 in cc))
      | inr f ↦ inr (f.0, (let g = f.1 in cc))
    ]

-- characters one by one behind those within an escape
behind_backslash : (before beginning w : List ℕ) (v : List ℕ) → w ≡ before ++ 92 ∷ beginning → w ++ v ≡ before ++ 92 ∷ (beginning ++ v)
behind_backslash before beginning w v e = ap (λ (x : List ℕ). x ++ v) e ∙ append_assoc before (92 ∷ beginning) v

nothing_before : (w v : List ℕ) (P : List ℕ → Type 0) → [] ≡ w ++ v → P [] → P w
nothing_before [] v P e p = p
nothing_before (c ∷ w) v P e p = absurd (let k = e in cc)

-- a front of a list and a character more is a front of the list, or the whole
front_push : (b v more : List ℕ) (d : ℕ) → b ++ d ∷ [] ≡ v ++ more → ((m : List ℕ) × (b ≡ v ++ m)) ⊎ (v ≡ b ++ d ∷ [])
front_push b [] more d e = inl (b, refl)
front_push [] (x ∷ v) more d e =
    let h : d ≡ x = cc in
    let n : [] ≡ v ++ more = cc in
    inr (let k : v ≡ [] = nothing_before v more (λ (y : List ℕ). y ≡ []) n refl in cc)
front_push (x ∷ b) (y ∷ v) more d e =
    let h : x ≡ y = cc in
    let t : b ++ d ∷ [] ≡ v ++ more = cc in
    elim (front_push b v more d t) [
      | inl f ↦ inl (f.0, (let g = f.1 in cc))
      | inr f ↦ inr (let g = f in cc)
    ]

grown : (w : List ℕ) (d p : ℕ) → WithinEscape w p → is_right (w ++ d ∷ []) ≡ false → MayGoOn (w ++ d ∷ []) → WithinEscape (w ++ d ∷ []) p
grown w d p i h m =
    let s = behind_backslash i.before i.beginning w (d ∷ []) i.splits in
    record {
      before = i.before;
      beginning = i.beginning ++ d ∷ [];
      splits = s;
      right = i.right;
      never = λ v more e. elim (front_push i.beginning v more d e) [
        | inl f ↦ i.never v f.0 f.1
        | inr f ↦ ap (λ (x : List ℕ). is_right (i.before ++ 92 ∷ x)) f ∙ sym (ap is_right s) ∙ h
      ];
      may_go_on = m;
      start = i.start;
    }

begun_at : (w : List ℕ) (d p : ℕ) → d ≡ 92 → is_right w ≡ true → is_right (w ++ d ∷ []) ≡ false → p ≡ bytes_of w → MayGoOn (w ++ d ∷ []) → WithinEscape (w ++ d ∷ []) p
begun_at w d p e r h q m = record {
  before = w;
  beginning = [];
  splits = ap (λ (x : ℕ). w ++ x ∷ []) e;
  right = r;
  never = λ v more f. nothing_before v more (λ (x : List ℕ). is_right (w ++ 92 ∷ x) ≡ false) f (ap (λ (x : ℕ). is_right (w ++ x ∷ [])) (sym e) ∙ h);
  may_go_on = m;
  start = q;
}

-- what the rest gives, a character further
further : (w : List ℕ) (s : Stage) (a : Bool) (p d c : ℕ) (b : Bool) (t : Step) → Reads w s a p → CountsAs a d c b → step in_string s c ≡ Some t
    → (v : List ℕ) → is_right ((w ++ d ∷ []) ++ v) ≡ right_from t.stage (line_feeds_after b v)
further w s a p d c b t r k e v = ap is_right (append_assoc w (d ∷ []) v) ∙ r.goes_on (d ∷ v) ∙ ap (right_from s) (k.feeds v) ∙ right-on s c (line_feeds_after b v) t e

now : (w : List ℕ) (s : Stage) (a : Bool) → ((v : List ℕ) → is_right (w ++ v) ≡ right_from s (line_feeds_after a v)) → is_right w ≡ is_some (finish s)
now w s a h = sym (ap is_right (append-nil w)) ∙ h []

-- characters that end each escape that is begun
abbrev zeros : ℕ → List ℕ
zeros zero = 48 ∷ []
zeros (suc n) = 48 ∷ zeros n

zeros-feeds : (a : Bool) (n : ℕ) → line_feeds_after a (zeros n) ≡ zeros n
zeros-feeds true zero = refl
zeros-feeds false zero = refl
zeros-feeds true (suc n) = ap (λ (x : List ℕ). 48 ∷ x) (zeros-feeds false n)
zeros-feeds false (suc n) = ap (λ (x : List ℕ). 48 ∷ x) (zeros-feeds false n)

zeros-outside : (n : ℕ) → right_from outside (zeros n) ≡ true
zeros-outside zero = refl
zeros-outside (suc n) = right-on outside 48 (zeros n) (record { stage = outside; gives = 48 ∷ [] }) refl ∙ zeros-outside n

due-step : (n v : ℕ) (cs : List ℕ) (b : Bool) → nat_le n 1 ≡ b → right_from (due n v) (48 ∷ cs) ≡ elim b [ true ↦ right_from outside cs | false ↦ right_from (due (n - 1) (v * 16 + 0)) cs ]
due-step n v cs b e = right-step (due n v) 48 cs ∙ ap (λ (x : Bool). right_after cs (elim x [ true ↦ Some (record { stage = outside; gives = (v * 16 + 0) ∷ [] }) | false ↦ Some (record { stage = due (n - 1) (v * 16 + 0); gives = [] }) ])) e ∙ by b
  where
    by : (b : Bool) → right_after cs (elim b [ true ↦ Some (record { stage = outside; gives = (v * 16 + 0) ∷ [] }) | false ↦ Some (record { stage = due (n - 1) (v * 16 + 0); gives = [] }) ]) ≡ elim b [ true ↦ right_from outside cs | false ↦ right_from (due (n - 1) (v * 16 + 0)) cs ]
    by true = refl
    by false = refl

zeros-due : (n v : ℕ) → right_from (due n v) (zeros n) ≡ true
zeros-due zero v = refl
zeros-due (suc n) v = by (nat_le (suc n) 1) refl (zeros-due n (v * 16 + 0))
  where
    by : (b : Bool) → nat_le (suc n) 1 ≡ b → right_from (due n (v * 16 + 0)) (zeros n) ≡ true → right_from (due (suc n) v) (zeros (suc n)) ≡ true
    by true e r = due-step (suc n) v (zeros n) true e ∙ zeros-outside n
    by false e r = let k : suc n - 1 ≡ n = omega arith in due-step (suc n) v (zeros n) false e ∙ ap (λ (m : ℕ). right_from (due m (v * 16 + 0)) (zeros n)) k ∙ r

-- characters with which all is right
abbrev Ends : Stage → Bool → Type 0
Ends s a = (v : List ℕ) × (right_from s (line_feeds_after a v) ≡ true)

ends : (s : Stage) (a : Bool) → is_of_string s ≡ true → is_some (finish s) ≡ false → Ends s a
ends outside a h k = absurd (let m = k in cc)
ends backslash true h k = (97 ∷ [], refl)
ends backslash false h k = (97 ∷ [], refl)
ends unicode true h k = (48 ∷ 48 ∷ 48 ∷ 48 ∷ [], refl)
ends unicode false h k = (48 ∷ 48 ∷ 48 ∷ 48 ∷ [], refl)
ends nul a h k = absurd (let m = k in cc)
ends (due n v) a h k = (zeros n, ap (right_from (due n v)) (zeros-feeds a n) ∙ zeros-due n v)
ends (braced true v) true h k = (125 ∷ [], refl)
ends (braced true v) false h k = (125 ∷ [], refl)
ends (braced false v) a h k = subst (λ (x : ℕ). Ends (braced false x) a) (sym (eqb-true v 0 h)) (both a)
  where
    both : (a : Bool) → Ends (braced false 0) a
    both true = (48 ∷ 125 ∷ [], refl)
    both false = (48 ∷ 125 ∷ [], refl)
ends (octal n v) a h k = absurd (let m = k in cc)

may_go_on : (w : List ℕ) (s : Stage) (a : Bool) → ((v : List ℕ) → is_right (w ++ v) ≡ right_from s (line_feeds_after a v)) → is_of_string s ≡ true → is_some (finish s) ≡ false → MayGoOn w
may_go_on w s a g h k = let e = ends s a h k in (e.0, g e.0 ∙ e.1)

pub opened : (w : List ℕ) (s : Stage) (a : Bool) (p d c : ℕ) (b : Bool) (t : Step) (place : ℕ) → Reads w s a p → CountsAs a d c b → step in_string s c ≡ Some t
    → t.stage ≡ backslash → place ≡ bytes_of w → Reads (w ++ d ∷ []) backslash b place
opened w s a p d c b t place r k e h q =
    let g : (v : List ℕ) → is_right ((w ++ d ∷ []) ++ v) ≡ right_from backslash (line_feeds_after b v) = λ v. further w s a p d c b t r k e v ∙ ap (λ (x : Stage). right_from x (line_feeds_after b v)) h in
    let f : (not (is_backslash t.stage) || ((c == 92) && is_some (finish s))) ≡ true = sym (ap (begins_escape c (is_some (finish s))) e) ∙ begins s c in
    let m : ((c == 92) && is_some (finish s)) ≡ true = sym (ap (λ (x : Stage). not (is_backslash x) || ((c == 92) && is_some (finish s))) h) ∙ f in
    record {
      goes_on = g;
      of_string = refl;
      within = λ _. begun_at w d place (k.backslash (eqb-true c 92 (left (c == 92) (is_some (finish s)) m))) (now w s a r.goes_on ∙ right (c == 92) (is_some (finish s)) m) (now (w ++ d ∷ []) backslash b g) q (may_go_on (w ++ d ∷ []) backslash b g refl refl);
    }
  where
    left : (x y : Bool) → (x && y) ≡ true → x ≡ true
    left true y i = refl
    left false y i = i

    right : (x y : Bool) → (x && y) ≡ true → y ≡ true
    right true y i = i
    right false y i = cc

no_ends : (x y z : Bool) → (x || (y || not z)) ≡ true → x ≡ false → y ≡ false → z ≡ false
no_ends true y z h e f = cc
no_ends false true z h e f = cc
no_ends false false true h e f = cc
no_ends false false false h e f = refl

pub went_on : (w : List ℕ) (s : Stage) (a : Bool) (p d c : ℕ) (b : Bool) (t : Step) → Reads w s a p → CountsAs a d c b → step in_string s c ≡ Some t
    → is_backslash t.stage ≡ false → Reads (w ++ d ∷ []) t.stage b p
went_on w s a p d c b t r k e h =
    let g : (v : List ℕ) → is_right ((w ++ d ∷ []) ++ v) ≡ right_from t.stage (line_feeds_after b v) = further w s a p d c b t r k e in
    let f : (is_some (finish t.stage) || (is_backslash t.stage || not (is_some (finish s)))) ≡ true = sym (ap (goes_on_within (is_some (finish s))) e) ∙ within s c in
    record {
      goes_on = g;
      of_string = sym (ap stays_of_string e) ∙ stays s c;
      within = λ n. grown w d p (r.within (no_ends (is_some (finish t.stage)) (is_backslash t.stage) (is_some (finish s)) f n h)) (now (w ++ d ∷ []) t.stage b g ∙ n) (may_go_on (w ++ d ∷ []) t.stage b g (sym (ap stays_of_string e) ∙ stays s c) n);
    }

-- the LF of CR LF
pub passed : (w : List ℕ) (d : ℕ) (s : Stage) (a : Bool) (p : ℕ) → a ≡ true → d ≡ 10 → Reads w s a p → Reads (w ++ d ∷ []) s false p
passed w d s a p h k r =
    let f : (v : List ℕ) → line_feeds_after a (d ∷ v) ≡ line_feeds_after false v = λ v. ap (λ (x : Bool). line_feeds_after x (d ∷ v)) h ∙ ap (λ (x : ℕ). line_feeds_after true (x ∷ v)) k in
    let g : (v : List ℕ) → is_right ((w ++ d ∷ []) ++ v) ≡ right_from s (line_feeds_after false v) = λ v. ap is_right (append_assoc w (d ∷ []) v) ∙ r.goes_on (d ∷ v) ∙ ap (right_from s) (f v) in
    record { goes_on = g; of_string = r.of_string; within = λ n. grown w d p (r.within n) (now (w ++ d ∷ []) s false g ∙ n) (may_go_on (w ++ d ∷ []) s false g r.of_string n) }

pub stopped : (w : List ℕ) (s : Stage) (a : Bool) (p d c : ℕ) (b : Bool) → Reads w s a p → CountsAs a d c b → step in_string s c ≡ None
    → WithinEscape w p × ((rest : List ℕ) → is_right (w ++ d ∷ rest) ≡ false)
stopped w s a p d c b r k e =
    let f : not (is_some (finish s)) ≡ true = sym (ap (stops_within (is_some (finish s))) e) ∙ stops s c r.of_string in
    (r.within (no (is_some (finish s)) f), λ rest. r.goes_on (d ∷ rest) ∙ ap (right_from s) (k.feeds rest) ∙ right-stops s c (line_feeds_after b rest) e)
  where
    no : (x : Bool) → not x ≡ true → x ≡ false
    no true h = sym h
    no false h = refl

-- nothing is read yet
pub at_start : Reads [] outside false 0
at_start = record { goes_on = λ v. refl; of_string = refl; within = λ n. absurd (let m = n in cc) }

pub ill_formed : (w : List ℕ) (c : ℕ) (rest : List ℕ) (p place : ℕ) → WithinEscape w p → ((v : List ℕ) → is_right (w ++ c ∷ v) ≡ false) → place ≡ bytes_of w
    → IsInvalidEscape (w ++ c ∷ rest) (record { start = p; end = place })
ill_formed w c rest p place i h q = record {
  before = i.before;
  beginning = i.beginning;
  rest = c ∷ rest;
  splits = behind_backslash i.before i.beginning w (c ∷ rest) i.splits;
  right = i.right;
  never = λ v more e. elim (front_past i.beginning v more c rest e) [
    | inl f ↦ i.never v f.0 f.1
    | inr f ↦ ap (λ (x : List ℕ). is_right (i.before ++ 92 ∷ x)) f.1 ∙ sym (ap is_right (behind_backslash i.before i.beginning w (c ∷ f.0) i.splits)) ∙ h f.0
  ];
  may_go_on = subst MayGoOn i.splits i.may_go_on;
  stops = λ d more v e. let s : c ≡ d = cc in ap is_right (sym (behind_backslash i.before i.beginning w (d ∷ v) i.splits)) ∙ ap (λ (x : ℕ). is_right (w ++ x ∷ v)) (sym s) ∙ h v;
  start = i.start;
  end = q ∙ ap bytes_of i.splits;
}

pub cut_off : (w : List ℕ) (s : Stage) (a : Bool) (p place : ℕ) → Reads w s a p → finish s ≡ None → place ≡ bytes_of w → IsInvalidEscape w (record { start = p; end = place })
cut_off w s a p place r e q =
    let i = r.within (ap is_some e) in
    record {
      before = i.before;
      beginning = i.beginning;
      rest = [];
      splits = i.splits ∙ ap (λ (x : List ℕ). i.before ++ 92 ∷ x) (sym (append-nil i.beginning));
      right = i.right;
      never = λ v more f. i.never v more (sym (append-nil i.beginning) ∙ f);
      may_go_on = subst MayGoOn i.splits i.may_go_on;
      stops = λ d more v f. absurd (let k = f in cc);
      start = i.start;
      end = q ∙ ap bytes_of i.splits;
    }

pub well_formed : (w : List ℕ) (s : Stage) (a : Bool) (p : ℕ) (ps : List ℕ) → Reads w s a p → finish s ≡ Some ps → is_right w ≡ true
well_formed w s a p ps r e = now w s a r.goes_on ∙ ap is_some e

named_not_backslash : (e : CodePointEscape) → is_backslash (stage_of e) ≡ false
named_not_backslash Unicode = refl
named_not_backslash (Due n v) = refl
named_not_backslash (Braced any v) = refl

pub not_backslash : (s : State) → (s ≡ Backslash → ⊥) → is_backslash (state_of s) ≡ false
not_backslash Outside h = refl
not_backslash Backslash h = absurd (h refl)
not_backslash Nul h = refl
not_backslash (Point e) h = named_not_backslash e
not_backslash (Octal n v) h = refl

-- a character counts as itself, where it is no CR and no LF behind one
pub counts : (a : Bool) (c : ℕ) → (c == 13) ≡ false → (a && (c == 10)) ≡ false → CountsAs a c c false
counts a c h k = record { backslash = λ e. e; feeds = λ v. rw (h, k, line_feeds_after) refl }

pub counts_return : (a : Bool) → CountsAs a 13 10 true
counts_return a = record { backslash = λ e. absurd (omega arith); feeds = λ v. refl }

-- how far the iterator is
pub record Along (inside : List ℕ) (s : CharIndices) (r : Reading) : Type 0 where
  pub front : List ℕ
  pub splits : chars inside ≡ front ++ chars (char_indices_rest s)
  pub utf8 : IsUtf8 (char_indices_rest s)
  pub place : char_indices_offset s ≡ bytes_of front
  pub read : IsRead front r

pub along : (inside : List ℕ) (s t : CharIndices) (r next : Reading) (place c : ℕ) (l : Along inside s r) → char_indices_steps s (Some (place, c)) t → IsRead (l.front ++ c ∷ []) next → Along inside t next
along inside s t r next place c l h i =
    let e : chars (char_indices_rest s) ≡ c ∷ chars (char_indices_rest t) = chars_past_char (char_indices_rest s) (char_indices_rest t) c l.utf8 h.1 in
    record {
      front = l.front ++ c ∷ [];
      splits = l.splits ∙ ap (λ (x : List ℕ). l.front ++ x) e ∙ sym (append_assoc l.front (c ∷ []) (chars (char_indices_rest t)));
      utf8 = IsUtf8-past_char (char_indices_rest s) (char_indices_rest t) c l.utf8 h.1;
      place = h.2 ∙ ap (λ (n : ℕ). n + length (encode_utf8 c)) l.place ∙ sym (bytes_push l.front c);
      read = i;
    }
  where
    bytes_push : (w : List ℕ) (c : ℕ) → bytes_of (w ++ c ∷ []) ≡ bytes_of w + length (encode_utf8 c)
    bytes_push [] c = let e : length (encode_utf8 c ++ []) ≡ length (encode_utf8 c) = ap length (append-nil (encode_utf8 c)) in omega arith
    bytes_push (d ∷ w) c =
        let e : length (encode_utf8 d ++ encode_utf8_all (w ++ c ∷ [])) ≡ length (encode_utf8 d) + length (encode_utf8_all (w ++ c ∷ [])) = length-append (encode_utf8 d) (encode_utf8_all (w ++ c ∷ [])) in
        let f : length (encode_utf8 d ++ encode_utf8_all w) ≡ length (encode_utf8 d) + length (encode_utf8_all w) = length-append (encode_utf8 d) (encode_utf8_all w) in
        let g = bytes_push w c in
        omega arith

pub counts_plain : (a : Bool) (c : ℕ) → (c ≡ 13 → ⊥) → ((a ≡ true) × (c ≡ 10 → ⊥)) ⊎ (a ≡ false) → CountsAs a c c false
counts_plain a c h k = counts a c (ne_eqb c 13 h) (by k)
  where
    by : ((a ≡ true) × (c ≡ 10 → ⊥)) ⊎ (a ≡ false) → (a && (c == 10)) ≡ false
    by (inl k) = and_right a (c == 10) (ne_eqb c 10 k.1)
    by (inr k) = rw k refl

-- the iterator is at the end
pub all_of : (inside : List ℕ) (s : CharIndices) (r : Reading) (l : Along inside s r) → length (char_indices_rest s) ≡ 0 → chars inside ≡ l.front
all_of inside s r l e = l.splits ∙ ap (λ (x : List ℕ). l.front ++ chars x) (none (char_indices_rest s) e) ∙ ap (λ (x : List ℕ). l.front ++ x) chars-nil ∙ append-nil l.front
  where
    none : (xs : List ℕ) → length xs ≡ 0 → xs ≡ []
    none [] e = refl
    none (x ∷ xs) e = absurd (omega arith)

pub at_stop : (inside : List ℕ) (s t : CharIndices) (r : Reading) (place c : ℕ) (l : Along inside s r) → char_indices_steps s (Some (place, c)) t
    → WithinEscape l.front r.backslash × ((rest : List ℕ) → is_right (l.front ++ c ∷ rest) ≡ false) → IsInvalidEscape (chars inside) (record { start = r.backslash; end = place })
at_stop inside s t r place c l h i =
    let e : chars (char_indices_rest s) ≡ c ∷ chars (char_indices_rest t) = chars_past_char (char_indices_rest s) (char_indices_rest t) c l.utf8 h.1 in
    let f : chars inside ≡ l.front ++ c ∷ chars (char_indices_rest t) = l.splits ∙ ap (λ (x : List ℕ). l.front ++ x) e in
    subst (λ (x : List ℕ). IsInvalidEscape x (record { start = r.backslash; end = place })) (sym f) (ill_formed l.front c (chars (char_indices_rest t)) r.backslash place i.0 i.1 (h.0 ∙ l.place))

pub at_end_right : (inside : List ℕ) (s : CharIndices) (r : Reading) (ps : List ℕ) → Along inside s r → length (char_indices_rest s) ≡ 0 → finish (state_of r.state) ≡ Some ps → is_right (chars inside) ≡ true
at_end_right inside s r ps l e f = ap is_right (all_of inside s r l e) ∙ well_formed l.front (state_of r.state) r.after_carriage r.backslash ps l.read f

pub at_end_cut : (inside : List ℕ) (s : CharIndices) (r : Reading) → IsUtf8 inside → Along inside s r → length (char_indices_rest s) ≡ 0 → finish (state_of r.state) ≡ None
    → IsInvalidEscape (chars inside) (record { start = r.backslash; end = length inside })
at_end_cut inside s r u l e f =
    let a = all_of inside s r l e in
    subst (λ (x : List ℕ). IsInvalidEscape x (record { start = r.backslash; end = length inside })) (sym a) (cut_off l.front (state_of r.state) r.after_carriage r.backslash (length inside) l.read f (ap length (sym (encodes-chars inside u)) ∙ ap bytes_of a))
