-- What one character does to a stage, and to what is decoded.
use Rattle.std.proofs.Common.{ℕ, ◌+◌, List, [], ◌∷◌, ◌++◌, ◌≡◌, ◌≤◌, ◌<◌, ◌⊎◌, inl, inr, Bool, true, false, ◌&&◌, refl, ap, sym, ◌∙◌, append_assoc, subst, length, get_or, drop, arith}
use Rattle.std.specs.Prelude.{Option, Some, None, option_map, ◌==◌, IfSome, IsTrue}
use Rattle.std.specs.List.{list_all, flat_map}
use Rattle.std.specs.Char.{encode_utf8}
use Rattle.std.specs.Char.Escape.{encode_utf16}
use Rattle.std.proofs.lemmas.Bool.Decides.{nat_tests}
use Rattle.std.proofs.lemmas.Bool.{and_parts}
use Rattle.std.proofs.Math.Utf8.{scalar, scalar_cases}
use Rattle.std.proofs.lemmas.List.{at_drop_more, at_drop_all, length_push}
use Rattle.std.proofs.lemmas.List.Folds.{list_all-append}
use Rattle.std.proofs.lemmas.Grind.{flat_map-append}
use Rattle.part_text.specs.declared.decode.Points.{Points}
use Rattle.part_text.specs.declared.decode.Progress.{Progress}
use Rattle.part_text.specs.declared.decode.State.{State}
use Rattle.part_text.specs.Characters.{is_scalar}
use Rattle.part_text.specs.Decoding.{only_if, utf8_of}
use Rattle.part_text.specs.Escapes.{Where, in_name, in_string, in_template, Stage, Step, outside, backslash, unicode, nul, due, braced, octal, plainly, begun, begun_unicode, single_escape, step, read_from, before_all, code_units, finish, line_feeds_after}
use Rattle.part_text.specs.CodePointEscapes.{fits, is_point}
use Rattle.part_text.specs.DecodingSteps.{state_of, points_of, progress_of, units_from, utf8_from}

-- the stage fits, and what is complete are code points
abbrev pub good : Option Step → Bool
good None = true
good (Some t) = fits t.stage && list_all is_point t.gives

single_point : (c : ℕ) → is_point c ≡ true → is_point (single_escape c) ≡ true
single_point c h = grind (arith, nat_tests)

good-plainly : (c : ℕ) → is_point c ≡ true → good (plainly c) ≡ true
good-plainly c h = grind (arith, nat_tests)

good-single : (c : ℕ) → is_point c ≡ true → good (begun_unicode c) ≡ true
good-single c h = grind (arith, nat_tests, single_point)

good-begun : (w : Where) (c : ℕ) → is_point c ≡ true → good (begun w c) ≡ true
good-begun in_name c h = grind (arith, nat_tests)
good-begun in_string c h = grind (arith, nat_tests, good-single)
good-begun in_template c h = grind (arith, nat_tests, good-single)

good-due : (w : Where) (n v c : ℕ) → fits (due n v) ≡ true → good (step w (due n v) c) ≡ true
good-due w n v c f = grind (arith, nat_tests)

good-unicode : (w : Where) (c : ℕ) → good (step w unicode c) ≡ true
good-unicode w c = grind (arith, nat_tests)

good-nul : (w : Where) (c : ℕ) → is_point c ≡ true → good (step w nul c) ≡ true
good-nul w c h = grind (arith, nat_tests)

good-braced : (w : Where) (any : Bool) (v c : ℕ) → fits (braced any v) ≡ true → good (step w (braced any v) c) ≡ true
good-braced w any v c f = grind (arith, nat_tests)

good-octal : (w : Where) (n v c : ℕ) → fits (octal n v) ≡ true → is_point c ≡ true → good (step w (octal n v) c) ≡ true
good-octal w n v c f h = grind (arith, nat_tests)

pub good-step : (w : Where) (s : Stage) (c : ℕ) → fits s ≡ true → is_point c ≡ true → good (step w s c) ≡ true
good-step w outside c f h = good-plainly c h
good-step w backslash c f h = good-begun w c h
good-step w unicode c f h = good-unicode w c
good-step w nul c f h = good-nul w c h
good-step w (due n v) c f h = good-due w n v c f
good-step w (braced any v) c f h = good-braced w any v c f
good-step w (octal n v) c f h = good-octal w n v c f h

-- code units that stand before those of the code points that are complete
pub units-before : (us out : List ℕ) (r : Option (List ℕ)) → option_map (λ ps. us ++ code_units ps) (before_all out r) ≡ option_map (λ ps. (us ++ code_units out) ++ code_units ps) r
units-before us out None = refl
units-before us out (Some ps) = ap (λ x. Some (us ++ x)) (flat_map-append encode_utf16 out ps) ∙ ap Some (sym (append_assoc us (code_units out) (code_units ps)))

abbrev after_step : Where → List ℕ → Option Step → Option (List ℕ)
after_step w cs None = None
after_step w cs (Some t) = before_all t.gives (read_from w t.stage cs)

pub units-step : (w : Where) (s : Stage) (c : ℕ) (t : Step) (us cs : List ℕ) → step w s c ≡ Some t
    → units_from w (us ++ code_units t.gives) (Some t.stage) cs ≡ units_from w us (Some s) (c ∷ cs)
units-step w s c t us cs e = sym (ap (λ o. option_map (λ ps. us ++ code_units ps) (after_step w cs o)) e ∙ units-before us t.gives (read_from w t.stage cs))

-- of the step that a character makes
made : (w : Where) (s : Stage) (c : ℕ) (r : Option Progress) (p : Progress) → fits s ≡ true → is_point c ≡ true
    → option_map progress_of r ≡ step w s c → r ≡ Some p → step w s c ≡ Some (progress_of p)
made w s c r p f h e i = sym e ∙ ap (option_map progress_of) i

good-made : (w : Where) (s : Stage) (c : ℕ) (r : Option Progress) (p : Progress) → fits s ≡ true → is_point c ≡ true
    → option_map progress_of r ≡ step w s c → r ≡ Some p → (fits (state_of p.state) && list_all is_point (points_of p.points)) ≡ true
good-made w s c r p f h e i = sym (ap good (made w s c r p f h e i)) ∙ good-step w s c f h

pub fits-made : (w : Where) (s : Stage) (c : ℕ) (r : Option Progress) (p : Progress) → fits s ≡ true → is_point c ≡ true
    → option_map progress_of r ≡ step w s c → r ≡ Some p → fits (state_of p.state) ≡ true
fits-made w s c r p f h e i = (and_parts (fits (state_of p.state)) (list_all is_point (points_of p.points)) (good-made w s c r p f h e i)).0

pub points-made : (w : Where) (s : Stage) (c : ℕ) (r : Option Progress) (p : Progress) → fits s ≡ true → is_point c ≡ true
    → option_map progress_of r ≡ step w s c → r ≡ Some p → list_all is_point (points_of p.points) ≡ true
points-made w s c r p f h e i = (and_parts (fits (state_of p.state)) (list_all is_point (points_of p.points)) (good-made w s c r p f h e i)).1

pub units-made : (w : Where) (s : Stage) (c : ℕ) (r : Option Progress) (p : Progress) (us vs cs : List ℕ)
    → option_map progress_of r ≡ step w s c → r ≡ Some p → vs ≡ us ++ code_units (points_of p.points)
    → units_from w vs (Some (state_of p.state)) cs ≡ units_from w us (Some s) (c ∷ cs)
units-made w s c r p us vs cs e i v = ap (λ x. units_from w x (Some (state_of p.state)) cs) v ∙ units-step w s c (progress_of p) us cs (sym e ∙ ap (option_map progress_of) i)

-- a character is a code point
pub char-point : (c : ℕ) → scalar c ≡ true → is_point c ≡ true
char-point c h = go (scalar_cases c h) where
  go : (c < 55296) ⊎ ((57344 ≤ c) × (c < 1114112)) → is_point c ≡ true
  go (inl l) = grind (arith, nat_tests)
  go (inr l) = grind (arith, nat_tests)

-- a turn of a loop over characters, of which `ys` were read before
turn : (cs ys : List ℕ) (c : ℕ) → (length ys < length cs) × (c ≡ get_or cs (length ys) c) → drop (length ys) cs ≡ c ∷ drop (length (ys ++ c ∷ [])) cs
turn cs ys c h = at_drop_more (λ x. x) cs (length ys) c h.0 ∙ ap (λ x. x ∷ drop (length ys + 1) cs) (sym h.1) ∙ ap (λ n. c ∷ drop n cs) (sym (length_push ys c))

-- what is decoded from the place in the loop on
abbrev pub from_place : Where → List ℕ → Option Stage → Bool → List ℕ → Option (List ℕ)
from_place w us o a cs = units_from w us o (line_feeds_after a cs)

turned : (w : Where) (us vs cs ys : List ℕ) (s : Stage) (a : Bool) (o p : Option State) (c : ℕ) (whole : Option (List ℕ)) → o ≡ p
    → ((rest : List ℕ) → units_from w vs (option_map state_of o) (line_feeds_after (c == 13) rest) ≡ units_from w us (Some s) (line_feeds_after a (c ∷ rest)))
    → (length ys < length cs) × (c ≡ get_or cs (length ys) c)
    → units_from w us (Some s) (line_feeds_after a (drop (length ys) cs)) ≡ whole
    → units_from w vs (option_map state_of p) (line_feeds_after (c == 13) (drop (length (ys ++ c ∷ [])) cs)) ≡ whole
turned w us vs cs ys s a o p c whole i r t inv =
    sym (ap (λ x. from_place w vs (option_map state_of x) (c == 13) (drop (length (ys ++ c ∷ [])) cs)) i)
    ∙ r (drop (length (ys ++ c ∷ [])) cs)
    ∙ ap (λ x. from_place w us (Some s) a x) (sym (turn cs ys c t))
    ∙ inv

pub turn-some : (w : Where) (us vs cs ys : List ℕ) (s : Stage) (a : Bool) (o : Option State) (n : State) (c : ℕ) (whole : Option (List ℕ)) → o ≡ Some n
    → ((rest : List ℕ) → units_from w vs (option_map state_of o) (line_feeds_after (c == 13) rest) ≡ units_from w us (Some s) (line_feeds_after a (c ∷ rest)))
    → (length ys < length cs) × (c ≡ get_or cs (length ys) c)
    → units_from w us (Some s) (line_feeds_after a (drop (length ys) cs)) ≡ whole
    → units_from w vs (Some (state_of n)) (line_feeds_after (c == 13) (drop (length (ys ++ c ∷ [])) cs)) ≡ whole
turn-some w us vs cs ys s a o n c whole = turned w us vs cs ys s a o (Some n) c whole

pub turn-none : (w : Where) (us vs cs ys : List ℕ) (s : Stage) (a : Bool) (o : Option State) (c : ℕ) (whole : Option (List ℕ)) → o ≡ None
    → ((rest : List ℕ) → units_from w vs (option_map state_of o) (line_feeds_after (c == 13) rest) ≡ units_from w us (Some s) (line_feeds_after a (c ∷ rest)))
    → (length ys < length cs) × (c ≡ get_or cs (length ys) c)
    → units_from w us (Some s) (line_feeds_after a (drop (length ys) cs)) ≡ whole
    → None ≡ whole
turn-none w us vs cs ys s a o c whole = turned w us vs cs ys s a o None c whole

pub turn-fits : (o : Option State) (n : State) → o ≡ Some n → IfSome o (λ s. IsTrue (fits (state_of s))) → fits (state_of n) ≡ true
turn-fits o n i h = subst (λ x. IfSome x (λ s. IsTrue (fits (state_of s)))) i h

ended : (w : Where) (us cs ys : List ℕ) (s : Stage) (a : Bool) (o p : Option Points) (whole : Option (List ℕ)) → length ys ≡ length cs
    → option_map points_of o ≡ finish s → o ≡ p
    → units_from w us (Some s) (line_feeds_after a (drop (length ys) cs)) ≡ whole
    → option_map (λ ps. us ++ code_units ps) (option_map points_of p) ≡ whole
ended w us cs ys s a o p whole l e i inv =
    ap (option_map (λ ps. us ++ code_units ps)) (sym (ap (option_map points_of) i) ∙ e)
    ∙ sym (at_drop_all (from_place w us (Some s) a) cs (length ys) (omega (arith, l)))
    ∙ inv

pub end-some : (w : Where) (us vs cs ys : List ℕ) (s : Stage) (a : Bool) (o : Option Points) (p : Points) (whole : Option (List ℕ)) → length ys ≡ length cs
    → option_map points_of o ≡ finish s → o ≡ Some p → vs ≡ us ++ code_units (points_of p)
    → units_from w us (Some s) (line_feeds_after a (drop (length ys) cs)) ≡ whole
    → Some vs ≡ whole
end-some w us vs cs ys s a o p whole l e i v inv = ap Some v ∙ ended w us cs ys s a o (Some p) whole l e i inv

pub end-none : (w : Where) (us cs ys : List ℕ) (s : Stage) (a : Bool) (o : Option Points) (whole : Option (List ℕ)) → length ys ≡ length cs
    → option_map points_of o ≡ finish s → o ≡ None
    → units_from w us (Some s) (line_feeds_after a (drop (length ys) cs)) ≡ whole
    → None ≡ whole
end-none w us cs ys s a o whole l e i inv = ended w us cs ys s a o None whole l e i inv

-- the UTF-8 before that of the code points that are complete
kept : (b : Bool) (bs us vs : List ℕ) → option_map (λ x. bs ++ x) (only_if b (us ++ vs)) ≡ option_map (λ x. (bs ++ us) ++ x) (only_if b vs)
kept true bs us vs = ap Some (sym (append_assoc bs us vs))
kept false bs us vs = refl

utf8-before : (bs out : List ℕ) (r : Option (List ℕ)) → list_all is_scalar out ≡ true
    → option_map (λ x. bs ++ x) (utf8_of (before_all out r)) ≡ option_map (λ x. (bs ++ flat_map encode_utf8 out) ++ x) (utf8_of r)
utf8-before bs out None h = refl
utf8-before bs out (Some ps) h =
    ap (λ b. option_map (λ x. bs ++ x) (only_if b (flat_map encode_utf8 (out ++ ps)))) (list_all-append is_scalar out ps ∙ ap (λ b. b && list_all is_scalar ps) h)
    ∙ ap (λ y. option_map (λ x. bs ++ x) (only_if (list_all is_scalar ps) y)) (flat_map-append encode_utf8 out ps)
    ∙ kept (list_all is_scalar ps) bs (flat_map encode_utf8 out) (flat_map encode_utf8 ps)

utf8-none : (bs out : List ℕ) (r : Option (List ℕ)) → list_all is_scalar out ≡ false → option_map (λ x. bs ++ x) (utf8_of (before_all out r)) ≡ None
utf8-none bs out None h = refl
utf8-none bs out (Some ps) h = ap (λ b. option_map (λ x. bs ++ x) (only_if b (flat_map encode_utf8 (out ++ ps)))) (list_all-append is_scalar out ps ∙ ap (λ b. b && list_all is_scalar ps) h)

stepped : (s : Stage) (c : ℕ) (r : Option Progress) (p : Option Progress) (bs cs : List ℕ) → option_map progress_of r ≡ step in_name s c → r ≡ p
    → utf8_from bs (Some s) (c ∷ cs) ≡ option_map (λ x. bs ++ x) (utf8_of (after_step in_name cs (option_map progress_of p)))
stepped s c r p bs cs e i = ap (λ o. option_map (λ x. bs ++ x) (utf8_of (after_step in_name cs o))) (sym e ∙ ap (option_map progress_of) i)

pub utf8-made : (s : Stage) (c : ℕ) (r : Option Progress) (p : Progress) (bs vs cs : List ℕ) (all : Bool)
    → option_map progress_of r ≡ step in_name s c → r ≡ Some p → all ≡ list_all is_scalar (points_of p.points) → all ≡ true → (IsTrue all → vs ≡ bs ++ flat_map encode_utf8 (points_of p.points))
    → utf8_from vs (Some (state_of p.state)) cs ≡ utf8_from bs (Some s) (c ∷ cs)
utf8-made s c r p bs vs cs all e i a t v =
    ap (λ x. utf8_from x (Some (state_of p.state)) cs) (v t)
    ∙ sym (stepped s c r (Some p) bs cs e i ∙ utf8-before bs (points_of p.points) (read_from in_name (state_of p.state) cs) (sym a ∙ t))

pub utf8-stops : (s : Stage) (c : ℕ) (r : Option Progress) (p : Progress) (bs cs : List ℕ) (all : Bool)
    → option_map progress_of r ≡ step in_name s c → r ≡ Some p → all ≡ list_all is_scalar (points_of p.points) → all ≡ false
    → None ≡ utf8_from bs (Some s) (c ∷ cs)
utf8-stops s c r p bs cs all e i a t = sym (stepped s c r (Some p) bs cs e i ∙ utf8-none bs (points_of p.points) (read_from in_name (state_of p.state) cs) (sym a ∙ t))

spelled : (us vs cs ys : List ℕ) (s : Stage) (o p : Option State) (c : ℕ) (whole : Option (List ℕ)) → o ≡ p
    → ((rest : List ℕ) → utf8_from vs (option_map state_of o) rest ≡ utf8_from us (Some s) (c ∷ rest))
    → (length ys < length cs) × (c ≡ get_or cs (length ys) c)
    → utf8_from us (Some s) (drop (length ys) cs) ≡ whole
    → utf8_from vs (option_map state_of p) (drop (length (ys ++ c ∷ [])) cs) ≡ whole
spelled us vs cs ys s o p c whole i r t inv =
    sym (ap (λ x. utf8_from vs (option_map state_of x) (drop (length (ys ++ c ∷ [])) cs)) i)
    ∙ r (drop (length (ys ++ c ∷ [])) cs)
    ∙ ap (λ x. utf8_from us (Some s) x) (sym (turn cs ys c t))
    ∙ inv

pub spelled-some : (us vs cs ys : List ℕ) (s : Stage) (o : Option State) (n : State) (c : ℕ) (whole : Option (List ℕ)) → o ≡ Some n
    → ((rest : List ℕ) → utf8_from vs (option_map state_of o) rest ≡ utf8_from us (Some s) (c ∷ rest))
    → (length ys < length cs) × (c ≡ get_or cs (length ys) c)
    → utf8_from us (Some s) (drop (length ys) cs) ≡ whole
    → utf8_from vs (Some (state_of n)) (drop (length (ys ++ c ∷ [])) cs) ≡ whole
spelled-some us vs cs ys s o n c whole = spelled us vs cs ys s o (Some n) c whole

pub spelled-none : (us vs cs ys : List ℕ) (s : Stage) (o : Option State) (c : ℕ) (whole : Option (List ℕ)) → o ≡ None
    → ((rest : List ℕ) → utf8_from vs (option_map state_of o) rest ≡ utf8_from us (Some s) (c ∷ rest))
    → (length ys < length cs) × (c ≡ get_or cs (length ys) c)
    → utf8_from us (Some s) (drop (length ys) cs) ≡ whole
    → None ≡ whole
spelled-none us vs cs ys s o c whole = spelled us vs cs ys s o None c whole

spelled-end : (us cs ys : List ℕ) (s : Stage) (o p : Option Points) (whole : Option (List ℕ)) → length ys ≡ length cs
    → option_map points_of o ≡ finish s → o ≡ p
    → utf8_from us (Some s) (drop (length ys) cs) ≡ whole
    → option_map (λ x. us ++ x) (utf8_of (option_map points_of p)) ≡ whole
spelled-end us cs ys s o p whole l e i inv =
    ap (λ x. option_map (λ ps. us ++ ps) (utf8_of x)) (sym (ap (option_map points_of) i) ∙ e)
    ∙ sym (at_drop_all (utf8_from us (Some s)) cs (length ys) (omega (arith, l)))
    ∙ inv

pub spelled-end-none : (us cs ys : List ℕ) (s : Stage) (o : Option Points) (whole : Option (List ℕ)) → length ys ≡ length cs
    → option_map points_of o ≡ finish s → o ≡ None
    → utf8_from us (Some s) (drop (length ys) cs) ≡ whole
    → None ≡ whole
spelled-end-none us cs ys s o whole = spelled-end us cs ys s o None whole

pub spelled-end-some : (us vs cs ys : List ℕ) (s : Stage) (o : Option Points) (p : Points) (all : Bool) (whole : Option (List ℕ)) → length ys ≡ length cs
    → option_map points_of o ≡ finish s → o ≡ Some p → all ≡ list_all is_scalar (points_of p) → all ≡ true → (IsTrue all → vs ≡ us ++ flat_map encode_utf8 (points_of p))
    → utf8_from us (Some s) (drop (length ys) cs) ≡ whole
    → Some vs ≡ whole
spelled-end-some us vs cs ys s o p all whole l e i a t v inv =
    ap Some (v t)
    ∙ sym (ap (λ b. option_map (λ x. us ++ x) (only_if b (flat_map encode_utf8 (points_of p)))) (sym a ∙ t))
    ∙ spelled-end us cs ys s o (Some p) whole l e i inv

pub spelled-end-stops : (us cs ys : List ℕ) (s : Stage) (o : Option Points) (p : Points) (all : Bool) (whole : Option (List ℕ)) → length ys ≡ length cs
    → option_map points_of o ≡ finish s → o ≡ Some p → all ≡ list_all is_scalar (points_of p) → all ≡ false
    → utf8_from us (Some s) (drop (length ys) cs) ≡ whole
    → None ≡ whole
spelled-end-stops us cs ys s o p all whole l e i a t inv =
    sym (ap (λ b. option_map (λ x. us ++ x) (only_if b (flat_map encode_utf8 (points_of p)))) (sym a ∙ t))
    ∙ spelled-end us cs ys s o (Some p) whole l e i inv
