-- Names as lists of characters: what stands for which code points, and where no name goes on.
use Rattle.std.proofs.Common.{◌≡◌, ℕ, ◌==◌, Bool, true, false, List, [], ◌∷◌, ◌++◌, refl, sym, ap, ◌∙◌, ◌&&◌, ◌||◌, append_assoc, Option, Some, None}
use Rattle.std.specs.Prelude.{is_some}
use Rattle.std.specs.List.{list_all}
use Rattle.std.proofs.lemmas.List.Folds.{list_any-append}
use Rattle.std.proofs.lemmas.List.{append-nil}
use Rattle.std.proofs.lemmas.Bool.{and_right}
use Rattle.js_base.specs.declared.kind.Kind.TheVariants.{PrivateIdentifier}
use Rattle.js_base.specs.Keywords.{keyword_of}
use Rattle.js_base.specs.part_text.Escapes.{in_name, before_all, code_points}
use Rattle.js_grammar.specs.Characters.{is_identifier_start, is_identifier_part}
use Rattle.js_grammar.specs.Longest.{longest, none_longer}
use Rattle.js_grammar.specs.Names.{is_plain_name, named, name_of, word_of, private_of, private_kind, has_backslash}
use Rattle.js_grammar.specs.Lexemes.{kind_of, a_name, a_private_name}
use Rattle.js_grammar.specs.LexicalFaults.{is_name_word}
use Rattle.js_grammar.proofs.LongestLemmas.{both-left, both-right, both, not-true}
use Rattle.js_grammar.proofs.CoreLemmas.{none_longer-from}
use Rattle.js_grammar.proofs.CorePlain.{no_backslash, points-append, before-all-append}
use Rattle.js_grammar.proofs.Finding.{all-append}
use Rattle.js_grammar.proofs.CoreNames.{named-plain, named-not, parts_stop}
use Rattle.part_words.specs.Names.{Spells, NoFrontPasses, is_refused}
use Rattle.part_words.proofs.Plain.{opened_by}

-- characters that stand for code points
pub spells-then : (w v ps qs : List ℕ) → Spells w ps → Spells v qs → Spells (w ++ v) (ps ++ qs)
spells-then w v ps qs a b u =
    ap (code_points in_name) (append_assoc w v u)
    ∙ a (v ++ u)
    ∙ ap (before_all ps) (b u)
    ∙ before-all-append ps qs (code_points in_name u)

pub spells-plain : (w : List ℕ) → list_all no_backslash w ≡ true → Spells w w
spells-plain w h v = points-append in_name w v h

pub spells-whole : (w ps : List ℕ) → Spells w ps → code_points in_name w ≡ Some ps
spells-whole w ps a = ap (code_points in_name) (sym (append-nil w)) ∙ a [] ∙ ap (λ (v : List ℕ). Some v) (append-nil ps)

-- characters that stand for some code points are some
pub spells-some : (w : List ℕ) (p : ℕ) (ps : List ℕ) → Spells w (p ∷ ps) → (c : ℕ) × (cs : List ℕ) × (w ≡ c ∷ cs)
spells-some [] p ps a = absurd (let e = spells-whole [] (p ∷ ps) a in cc)
spells-some (c ∷ cs) p ps a = (c, cs, refl)

-- names
pub name-of-spelt : (w ps : List ℕ) → Spells w ps → is_plain_name ps ≡ true → name_of w ≡ Some ps
name-of-spelt w ps a h = ap named (spells-whole w ps a) ∙ named-plain ps h

plain_stops : (ps : List ℕ) (d : ℕ) (ys : List ℕ) → is_plain_name ps ≡ true → is_identifier_part d ≡ false → is_plain_name (ps ++ d ∷ ys) ≡ false
plain_stops [] d ys h e = cc
plain_stops (p ∷ ps) d ys h e = and_right (is_identifier_start p) (list_all is_identifier_part (ps ++ d ∷ ys)) (parts_stop ps d ys e)

refused-after : (ps : List ℕ) (o : Option (List ℕ)) → is_plain_name ps ≡ true → is_refused is_identifier_part o ≡ true → named (before_all ps o) ≡ None
refused-after ps None h r = refl
refused-after ps (Some []) h r = cc
refused-after ps (Some (d ∷ ds)) h r = named-not (ps ++ d ∷ ds) (plain_stops ps d ds h (not-true (is_identifier_part d) r))

refused-first : (o : Option (List ℕ)) → is_refused is_identifier_start o ≡ true → named o ≡ None
refused-first None r = refl
refused-first (Some []) r = cc
refused-first (Some (d ∷ ds)) r = named-not (d ∷ ds) (ap (λ (b : Bool). b && list_all is_identifier_part ds) (not-true (is_identifier_start d) r))

-- no name goes on where the next code point is refused
pub no-longer-name : (w ps rest : List ℕ) → Spells w ps → is_plain_name ps ≡ true → NoFrontPasses is_identifier_part rest
    → (c : ℕ) (x more : List ℕ) → rest ≡ c ∷ x ++ more → name_of (w ++ c ∷ x) ≡ None
no-longer-name w ps rest a h r c x more e = ap named (a (c ∷ x)) ∙ refused-after ps (code_points in_name (c ∷ x)) h (r c x more e)

-- no name begins where the first code point is refused
pub no-name : (rest : List ℕ) → NoFrontPasses is_identifier_start rest → (c : ℕ) (x more : List ℕ) → rest ≡ c ∷ x ++ more → name_of (c ∷ x) ≡ None
no-name rest r c x more e = refused-first (code_points in_name (c ∷ x)) (r c x more e)

-- the longest name
pub name-longest : (w ps rest : List ℕ) → Spells w ps → is_plain_name ps ≡ true → NoFrontPasses is_identifier_part rest → longest (opened_by a_name) w rest ≡ true
name-longest w ps rest a h r =
    both (opened_by a_name w rest) (none_longer (opened_by a_name) w rest)
    (ap (λ (o : Option (List ℕ)). is_some (word_of o)) (name-of-spelt w ps a h))
    (none_longer-from (opened_by a_name) w rest (λ c x more e. ap (λ (o : Option (List ℕ)). is_some (word_of o)) (no-longer-name w ps rest a h r c x more e)))

pub name-kind : (w ps rest : List ℕ) → Spells w ps → is_plain_name ps ≡ true → kind_of a_name w rest ≡ Some (keyword_of ps)
name-kind w ps rest a h = ap word_of (name-of-spelt w ps a h)

pub private-longest : (w ps rest : List ℕ) → Spells w ps → is_plain_name ps ≡ true → NoFrontPasses is_identifier_part rest → longest (opened_by a_private_name) (35 ∷ w) rest ≡ true
private-longest w ps rest a h r =
    both (opened_by a_private_name (35 ∷ w) rest) (none_longer (opened_by a_private_name) (35 ∷ w) rest)
    (ap (λ (o : Option (List ℕ)). is_some (private_of o)) (name-of-spelt w ps a h))
    (none_longer-from (opened_by a_private_name) (35 ∷ w) rest (λ c x more e. ap (λ (o : Option (List ℕ)). is_some (private_of o)) (no-longer-name w ps rest a h r c x more e)))

pub private-kind : (w ps rest : List ℕ) → Spells w ps → is_plain_name ps ≡ true → kind_of a_private_name (35 ∷ w) rest ≡ Some PrivateIdentifier
private-kind w ps rest a h = ap private_of (name-of-spelt w ps a h)

-- Fronts of characters at which no name begins.
pub never-name : (rest : List ℕ) → NoFrontPasses is_identifier_start rest → none_longer is_name_word [] rest ≡ true
never-name rest r = none_longer-from is_name_word [] rest (λ c x more e. ap (λ (o : Option (List ℕ)). is_some o) (no-name rest r c x more e))

pub no-private : (rest w more : List ℕ) → NoFrontPasses is_identifier_start rest → rest ≡ w ++ more → private_kind (35 ∷ w) ≡ None
no-private rest [] more r e = refl
no-private rest (c ∷ x) more r e = ap private_of (no-name rest r c x more e)

-- a backslash among characters
pub backslash-append : (u v : List ℕ) → has_backslash (u ++ v) ≡ (has_backslash u || has_backslash v)
backslash-append u v = list_any-append (λ c. c == 92) u v

-- a code point more
pub plain-more : (ps : List ℕ) (p : ℕ) → is_plain_name ps ≡ true → is_identifier_part p ≡ true → is_plain_name (ps ++ p ∷ []) ≡ true
plain-more [] p h k = cc
plain-more (q ∷ ps) p h k = both (is_identifier_start q) (list_all is_identifier_part (ps ++ p ∷ [])) (both-left (is_identifier_start q) (list_all is_identifier_part ps) h)
    (all-append is_identifier_part ps (p ∷ []) (both-right (is_identifier_start q) (list_all is_identifier_part ps) h) (both (is_identifier_part p) true k refl))
