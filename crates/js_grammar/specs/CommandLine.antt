-- The words of the command line that are admitted, and what they set: options in any order, each at most once, a value in the next word or behind `=`.
use Rattle.std.specs.Prelude.{ℕ, ◌+◌, ◌*◌, ◌-◌, ◌≡◌, Bool, true, false, not, ◌&&◌, List, [], ◌∷◌, ◌++◌, ◌==◌, codes, length, nat_le, Option, Some, None, IsTrue, fold}
use Rattle.std.specs.List.{list_all, list_any}
use Rattle.js_base.specs.part_text.Characters.{is_decimal}
use Rattle.js_grammar.specs.Settings.{Goal, script, module_goal, commonjs, unambiguous, Print, prints_tree, prints_record, prints_tokens, Settings}

-- an option, with its value
pub data Choice : Type 0 where
  a_goal : Goal → Choice
  a_print : Print → Choice
  v8 no_parens allow_return : Choice
  -- in decimal digits
  a_number : List ℕ → Choice

abbrev pub name_of : Choice → List ℕ
name_of (a_goal g) = codes "--goal"
name_of (a_print p) = codes "--print"
name_of v8 = codes "--v8"
name_of no_parens = codes "--no-parens"
name_of allow_return = codes "--allow-return"
name_of (a_number ds) = codes "--generate"

abbrev pub goal_word : Goal → List ℕ
goal_word script = codes "script"
goal_word module_goal = codes "module"
goal_word commonjs = codes "commonjs"
goal_word unambiguous = codes "unambiguous"

abbrev pub print_word : Print → List ℕ
print_word prints_tree = codes "tree"
print_word prints_record = codes "record"
print_word prints_tokens = codes "tokens"

abbrev pub value_of : Choice → Option (List ℕ)
value_of (a_goal g) = Some (goal_word g)
value_of (a_print p) = Some (print_word p)
value_of (a_number ds) = Some ds
value_of _ = None

-- the words that an option may be written in
pub data Written (c : Choice) : List (List ℕ) → Type 0 where
  alone : value_of c ≡ None → Written c (name_of c ∷ [])
  apart : {v : List ℕ} → value_of c ≡ Some v → Written c (name_of c ∷ v ∷ [])
  joined : {v : List ℕ} → value_of c ≡ Some v → Written c ((name_of c ++ (codes "=" ++ v)) ∷ [])

pub data AllWritten : List Choice → List (List ℕ) → Type 0 where
  none : AllWritten [] []
  more : {c : Choice} {cs : List Choice} {ws vs : List (List ℕ)} → Written c ws → AllWritten cs vs → AllWritten (c ∷ cs) (ws ++ vs)

abbrev place : Choice → ℕ
place (a_goal g) = 0
place (a_print p) = 1
place v8 = 2
place no_parens = 3
place allow_return = 4
place (a_number ds) = 5

abbrev has : ℕ → List Choice → Bool
has n cs = list_any (λ c. place c == n) cs

abbrev each_once : List Choice → Bool
each_once [] = true
each_once (c ∷ cs) = not (has (place c) cs) && each_once cs

abbrev pub number_of : List ℕ → ℕ
number_of ds = fold (λ n d. n * 10 + (d - 48)) 0 ds

-- one to six digits, of a number that is at most 100,000
abbrev is_count : List ℕ → Bool
is_count ds = list_all is_decimal ds && (nat_le 1 (length ds) && (nat_le (length ds) 6 && nat_le (number_of ds) 100000))

abbrev right_number : Choice → Bool
right_number (a_number ds) = is_count ds
right_number _ = true

-- a goal is named; numbers are right; what is generated isn't printed
abbrev pub agree : List Choice → Bool
agree cs = each_once cs && (has 0 cs && (list_all right_number cs && not (has 1 cs && has 5 cs)))

abbrev pub set_by : Settings → Choice → Settings
set_by s (a_goal g) = record s { goal = g }
set_by s (a_print p) = record s { print = p }
set_by s v8 = record s { allow_v8 = true }
set_by s no_parens = record s { preserve_parens = false }
set_by s allow_return = record s { allow_return = true }
set_by s (a_number ds) = record s { generate = Some (number_of ds) }

abbrev pub unset : Settings
unset = record { goal = script; print = prints_tree; preserve_parens = true; allow_return = false; allow_v8 = false; generate = None }

-- The words are admitted, and set this.
pub record Admits (words : List (List ℕ)) (s : Settings) : Type 0 where
  pub choices : List Choice
  pub written : AllWritten choices words
  pub agree : IsTrue (agree choices)
  pub sets : s ≡ fold set_by unset choices

-- the options that the program reads so far
abbrev pub is_read_so_far : Choice → Bool
is_read_so_far (a_goal g) = true
is_read_so_far v8 = true
is_read_so_far _ = false

-- The words are admitted, with options that are read so far, and set this.
pub record Admitted (words : List (List ℕ)) (s : Settings) : Type 0 where
  pub admits : Admits words s
  pub so_far : IsTrue (list_all is_read_so_far admits.choices)
