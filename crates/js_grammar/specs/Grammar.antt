-- What a grammar is, and what it takes: whatever the language.
use Rattle.std.specs.Prelude.{ℕ, ◌-◌, ◌+◌, Bool, not, cond, ◌&&◌, ◌||◌, List, [], ◌∷◌, ◌≡◌, IsTrue}
use Rattle.js_base.specs.declared.kind.Kind.{Kind}
use Rattle.js_base.specs.declared.kind.Kind.TheVariants.{Eof, RCurly, Comma, Semicolon, TemplateMiddle, TemplateTail}
use Rattle.js_base.specs.Kinds.{same_kind, one_of_kinds}
use Rattle.js_grammar.specs.Trees.{NodeKind, Op, Span, Label, Slots, end, hole, tree, Tree, append}

pub record Lexeme : Type 0 where
  -- of a word, the kind of its decoded text
  pub kind : Kind
  pub from : ℕ
  pub to : ℕ
  pub newline : Bool
  -- of a word or a private name: it has an escape
  pub escaped : Bool
  -- of a word, a private name behind its `#`, or a string: its decoded text
  pub units : List ℕ

-- The lexemes from a place on, one at least: the last is the end of the text, which no rule takes.
pub data Lexemes : Type 0 where
  last : Lexeme → Lexemes
  next : Lexeme → Lexemes → Lexemes

abbrev pub here : Lexemes → Lexeme
here (last x) = x
here (next x ls) = x

-- A test of a lexeme by its kind, whether it is on a new line, and whether it has an escape.
abbrev pub Look : Type 0
Look = Kind → Bool → Bool → Bool

abbrev pub seen : Look → Lexeme → Bool
seen p l = p l.kind l.newline l.escaped

-- a quoted lexeme: a word with an escape is none
abbrev pub is : Kind → Look
is k a w e = same_kind k a && not e

-- a lexeme that begins with `}`: which of them stands there depends on the lexical goal
abbrev pub begins_with_brace : Kind → Bool
begins_with_brace k = one_of_kinds (RCurly ∷ TemplateMiddle ∷ TemplateTail ∷ []) k

-- A semicolon may be left out before the end, a brace, and a lexeme on a new line that is none and doesn't go on. A template's middle or tail counts as the brace that it begins with; no production has one behind a semicolon.
abbrev pub may_omit : Look → Look
may_omit goes_on k w e = same_kind Eof k || begins_with_brace k || (w && not (same_kind Semicolon k) && not (goes_on k w e))

-- Where a node's span runs: over its lexemes, inside them by so many bytes at each end, or over the whole text.
pub data Extent : Type 0 where
  exact whole_text : Extent
  inside : ℕ → ℕ → Extent

pub record Make : Type 0 where
  pub kind : NodeKind
  pub op : Op
  pub flags : ℕ
  pub extent : Extent

-- of a node whose first lexeme is the first of ls, whose last one ends at j, and behind which rest stands
abbrev pub span_of : Extent → Lexemes → ℕ → Lexemes → Span
span_of exact ls j rest = record { from = (here ls).from; to = j }
span_of whole_text ls j rest = record { from = 0; to = (here rest).to }
span_of (inside a b) ls j rest = record { from = (here ls).from + a; to = j - b }

abbrev pub label_of : Make → Lexemes → ℕ → Lexemes → Label
label_of m ls j rest = record { kind = m.kind; op = m.op; flags = m.flags; span = span_of m.extent ls j rest }

-- A production's right side, over symbols N.
pub data Grammar (N : Type 0) : Type 0 where
  nothing : Grammar N
  never : Grammar N
  lexeme : (Kind → Bool → Bool → Bool) → Grammar N
  -- the next lexeme, and its decoded text; neither takes it
  look : (Kind → Bool → Bool → Bool) → Grammar N
  text : (List ℕ → Bool) → Grammar N
  -- what stands next; its lexemes aren't taken, its slots are
  ahead : Grammar N → Grammar N
  empty_slot : Grammar N
  seq : Grammar N → Grammar N → Grammar N
  alt : Grammar N → Grammar N → Grammar N
  when : Bool → Grammar N → Grammar N
  many : Grammar N → Grammar N
  -- one or more with commas between; true: a comma may stand after the last
  commas : Bool → Grammar N → Grammar N
  -- a symbol, whose tree passes a test
  such : N → (Tree → Bool) → Grammar N
  -- a symbol, whose node's label is changed
  marked : (Label → Label) → N → Grammar N
  node : Make → Grammar N → Grammar N
  -- what stands before a semicolon, or before none where the rows permit that: by its first lexeme, its slots and the next lexeme
  ended : (Lexeme → Slots → Kind → Bool → Bool → Bool) → Grammar N → Grammar N
  -- the slots of the first are kept, and stand where the second says `kept`
  keep : Grammar N → Grammar N → Grammar N
  kept : Grammar N

infixr 40 ◌▸◌
abbrev pub ◌▸◌ : {N : Type 0} → Grammar N → Grammar N → Grammar N
a ▸ b = seq a b

infixr 30 ◌◇◌
abbrev pub ◌◇◌ : {N : Type 0} → Grammar N → Grammar N → Grammar N
a ◇ b = alt a b

abbrev pub many_once : {N : Type 0} → Grammar N → Grammar N
many_once a = a ▸ many a ◇ nothing

-- behind the comma of an item, where the list may end with one, and behind the item
abbrev pub after_comma : {N : Type 0} → Bool → Grammar N → Grammar N
after_comma b a = cond b (commas b a ◇ nothing) (commas b a)

abbrev pub after_item : {N : Type 0} → Bool → Grammar N → Grammar N
after_item b a = lexeme (is Comma) ▸ after_comma b a ◇ nothing

abbrev pub commas_once : {N : Type 0} → Bool → Grammar N → Grammar N
commas_once b a = a ▸ after_item b a

abbrev pub semicolon : {N : Type 0} → Look → Grammar N
semicolon goes_on = lexeme (is Semicolon) ◇ look (may_omit goes_on)

-- With the slots ks kept, the grammar takes slots and lexemes, and leaves slots and lexemes. A place is the end of the lexeme before it.
pub data Takes {N : Type 0} (rule : N → Grammar N) : Grammar N → Slots → Slots → ℕ → Lexemes → Slots → ℕ → Lexemes → Type 0 where
  is_nothing : {ks ts : Slots} {i : ℕ} {ls : Lexemes} → Takes rule nothing ks ts i ls ts i ls
  is_lexeme : {p : Kind → Bool → Bool → Bool} {ks ts : Slots} {i : ℕ} {x : Lexeme} {ls : Lexemes} → IsTrue (seen p x) → Takes rule (lexeme p) ks ts i (next x ls) ts x.to ls
  is_look : {p : Kind → Bool → Bool → Bool} {ks ts : Slots} {i : ℕ} {ls : Lexemes} → IsTrue (seen p (here ls)) → Takes rule (look p) ks ts i ls ts i ls
  is_text : {p : List ℕ → Bool} {ks ts : Slots} {i : ℕ} {ls : Lexemes} → IsTrue (p (here ls).units) → Takes rule (text p) ks ts i ls ts i ls
  is_ahead : {a : Grammar N} {ks ts us : Slots} {i j : ℕ} {ls rest : Lexemes} → Takes rule a ks ts i ls us j rest → Takes rule (ahead a) ks ts i ls us i ls
  is_empty_slot : {ks ts : Slots} {i : ℕ} {ls : Lexemes} → Takes rule empty_slot ks (hole ts) i ls ts i ls
  is_seq : {a b : Grammar N} {ks ts us vs : Slots} {i j k : ℕ} {ls mid rest : Lexemes} → Takes rule a ks ts i ls us j mid → Takes rule b ks us j mid vs k rest → Takes rule (seq a b) ks ts i ls vs k rest
  is_left : {a b : Grammar N} {ks ts us : Slots} {i j : ℕ} {ls rest : Lexemes} → Takes rule a ks ts i ls us j rest → Takes rule (alt a b) ks ts i ls us j rest
  is_right : {a b : Grammar N} {ks ts us : Slots} {i j : ℕ} {ls rest : Lexemes} → Takes rule b ks ts i ls us j rest → Takes rule (alt a b) ks ts i ls us j rest
  is_when : {c : Bool} {a : Grammar N} {ks ts us : Slots} {i j : ℕ} {ls rest : Lexemes} → IsTrue c → Takes rule a ks ts i ls us j rest → Takes rule (when c a) ks ts i ls us j rest
  is_many : {a : Grammar N} {ks ts us : Slots} {i j : ℕ} {ls rest : Lexemes} → Takes rule (many_once a) ks ts i ls us j rest → Takes rule (many a) ks ts i ls us j rest
  is_commas : {b : Bool} {a : Grammar N} {ks ts us : Slots} {i j : ℕ} {ls rest : Lexemes} → Takes rule (commas_once b a) ks ts i ls us j rest → Takes rule (commas b a) ks ts i ls us j rest
  is_such : {n : N} {c : Tree → Bool} {ks : Slots} {l : Label} {cs us : Slots} {i j : ℕ} {ls rest : Lexemes} → Takes rule (rule n) end (tree l cs end) i ls end j rest → IsTrue (c (record { label = l; slots = cs })) → Takes rule (such n c) ks (tree l cs us) i ls us j rest
  is_marked : {h : Label → Label} {n : N} {ks : Slots} {l : Label} {cs us : Slots} {i j : ℕ} {ls rest : Lexemes} → Takes rule (rule n) end (tree l cs end) i ls end j rest → Takes rule (marked h n) ks (tree (h l) cs us) i ls us j rest
  is_node : {m : Make} {a : Grammar N} {ks cs us : Slots} {i j : ℕ} {ls rest : Lexemes} → Takes rule a ks cs i ls end j rest → Takes rule (node m a) ks (tree (label_of m ls j rest) cs us) i ls us j rest
  is_ended : {rows : Lexeme → Slots → Kind → Bool → Bool → Bool} {a : Grammar N} {ks cs ts us vs : Slots} {i j k : ℕ} {ls mid rest : Lexemes} → ts ≡ append cs us → Takes rule a ks cs i ls end j mid
      → Takes rule (semicolon (rows (here ls) cs)) ks us j mid vs k rest → Takes rule (ended rows a) ks ts i ls vs k rest
  is_keep : {a b : Grammar N} {ks cs ts us : Slots} {i j k : ℕ} {ls mid rest : Lexemes} → Takes rule a ks cs i ls end j mid → Takes rule b cs ts j mid us k rest → Takes rule (keep a b) ks ts i ls us k rest
  is_kept : {ks ts us : Slots} {i : ℕ} {ls : Lexemes} → ts ≡ append ks us → Takes rule kept ks ts i ls us i ls

-- The symbol n derives the tree t from these lexemes on, up to those.
abbrev pub Derives : {N : Type 0} → (N → Grammar N) → N → Tree → ℕ → Lexemes → ℕ → Lexemes → Type 0
Derives rule n t i ls j rest = Takes rule (rule n) end (tree t.label t.slots end) i ls end j rest
