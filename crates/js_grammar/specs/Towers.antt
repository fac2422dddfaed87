-- Left-recursive symbols, one above the other, and the loop that reads them: behind what a symbol begins with stand parts, each of which makes a node around what stands before it. For any grammar.
use Rattle.std.specs.Prelude.{ℕ, ◌≤◌, ◌≡◌, Bool, IsTrue, cond, nat_eq}
use Rattle.js_grammar.specs.Trees.{NodeKind, Op, Label, Slots, end, tree}
use Rattle.js_grammar.specs.Grammar.{Lexeme, Lexemes, here, Make, exact, Grammar, never, seq, alt, when, such, node, Takes}
use Rattle.js_grammar.specs.Lexed.{Lexes}
use Rattle.js_grammar.specs.Parsing.{always, Reaches, Way, Passes, Test, Admits}

-- A link: a node around what stands before it, and the part that follows.
pub record Link (N : Type 0) : Type 0 where
  pub kind : NodeKind
  pub op : Op
  pub flags : ℕ
  pub part : Grammar N

abbrev pub link : {N : Type 0} → NodeKind → Op → ℕ → Grammar N → Link N
link k o n a = record { kind = k; op = o; flags = n; part = a }

abbrev pub make_of : NodeKind → Op → ℕ → Make
make_of k o n = record { kind = k; op = o; flags = n; extent = exact }

-- the label of a link's node between two places
abbrev pub linked_label : {N : Type 0} → Link N → ℕ → ℕ → Label
linked_label x from to = record { kind = x.kind; op = x.op; flags = x.flags; span = record { from = from; to = to } }

-- A choice of the grammar is this link behind the symbol n.
pub data Among {N : Type 0} (n : N) : Grammar N → Link N → Type 0 where
  this : {k : NodeKind} {o : Op} {fl : ℕ} {a : Grammar N} → Among n (node (make_of k o fl) (seq (such n always) a)) (link k o fl a)
  of_left : {a b : Grammar N} {x : Link N} → Among n a x → Among n (alt a b) x
  of_right : {a b : Grammar N} {x : Link N} → Among n b x → Among n (alt a b) x
  of_when : {c : Bool} {a : Grammar N} {x : Link N} → IsTrue c → Among n a x → Among n (when c a) x

-- Symbols by levels, each of which is to take what the operand of the next level takes, or what a foot of its own takes, or a link behind itself. Above the last stands any grammar.
pub record Tower {N : Type 0} (rule : N → Grammar N) : Type 0 where
  pub level : ℕ → N
  pub top : ℕ
  pub feet : ℕ → Grammar N
  pub steps : ℕ → Grammar N
  pub operand : ℕ → Grammar N

-- The postfix form: behind a node of the level c stand parts, each of which makes a node around what stands before it, of its own level, m at least; a node of the level m comes of it.
pub data Tail {N : Type 0} {rule : N → Grammar N} (w : Tower rule) (m from : ℕ) : ℕ → Label → Slots → ℕ → Lexemes → Label → Slots → ℕ → Lexemes → Type 0 where
  tail_none : {c : ℕ} {l : Label} {cs : Slots} {i : ℕ} {ls : Lexemes} → Tail w m from c l cs i ls l cs i ls
  tail_more : {c q : ℕ} {x : Link N} {l l' : Label} {cs ds cs' : Slots} {i j k : ℕ} {ls mid rest : Lexemes} → m ≤ q → q ≤ c → q ≤ w.top → Among (w.level q) (w.steps q) x → Takes rule x.part end ds i ls end j mid
      → Tail w m from q (linked_label x from j) (tree l cs ds) j mid l' cs' k rest → Tail w m from c l cs i ls l' cs' k rest

-- Of the symbol of the level m, read from s on, where X stands behind it, a node of the level c has been read, up to s'; what remains is the parts behind it. The symbol's first lexeme begins at `from`.
pub record Around {N : Type 0} {rule : N → Grammar N} (Lex : ℕ → Lexeme → Type 0) (X : Test) (w : Tower rule) (m s from c : ℕ) (l : Label) (cs : Slots) (s' : ℕ) (way : Way) : Type 0 where
  pub passes : Passes Lex s s' way.pass
  pub sound : (m' : Label) (ds : Slots) (k : ℕ) (ls' rest : Lexemes) → Lexes Lex s' ls' → Reaches way.reach s' ls' → Tail w m from c l cs s' ls' m' ds k rest → Takes rule (w.operand m) end (tree m' ds end) s (way.pass ls') end k rest
  pub only : (m' : Label) (ds : Slots) (k : ℕ) (ls rest : Lexemes) → Lexes Lex s ls → Takes rule (w.operand m) end (tree m' ds end) s ls end k rest → Admits X (tree m' ds end) (here rest) → (ls' : Lexemes) × Lexes Lex s' ls' × Tail w m from c l cs s' ls' m' ds k rest × (ls ≡ way.pass ls')
  pub begins : (y : Lexeme) → Lex s y → y.from ≡ from

-- one symbol with links behind it, any number of them
abbrev pub chain : {N : Type 0} {rule : N → Grammar N} → N → Grammar N → Grammar N → Tower rule
chain n base g = record { level = λ p. n; top = 0; feet = λ p. never; steps = λ p. g; operand = λ p. cond (nat_eq p 0) (such n always) base }
