-- Right sides that are the same once each symbol stands for its class are alike but for related symbols: for any grammar.
use Rattle.std.proofs.Common.{ℕ, ◌≡◌, ◌&&◌, Bool, true, false, List, refl, ap}
use Rattle.std.proofs.lemmas.Bool.{and_parts, and_from}
use Rattle.js_grammar.specs.Trees.{program, no_op, Label, Slots, Tree}
use Rattle.js_grammar.specs.Grammar.{Look, Lexeme, exact, Make, Grammar, nothing, never, lexeme, look, text, ahead, empty_slot, seq, alt, when, many, commas, such, marked, node, ended, keep, kept}
use Rattle.js_grammar.proofs.Related.{Like}

module _ {N : Type 0} (w : N → N) where
  -- g, with each symbol changed by w
  abbrev pub renamed : Grammar N → Grammar N
  renamed nothing = nothing
  renamed never = never
  renamed (lexeme p) = lexeme p
  renamed (look p) = look p
  renamed (text p) = text p
  renamed (ahead a) = ahead (renamed a)
  renamed empty_slot = empty_slot
  renamed (seq a b) = seq (renamed a) (renamed b)
  renamed (alt a b) = alt (renamed a) (renamed b)
  renamed (when c a) = when c (renamed a)
  renamed (many a) = many (renamed a)
  renamed (commas x a) = commas x (renamed a)
  renamed (such n c) = such (w n) c
  renamed (marked h n) = marked h (w n)
  renamed (node m a) = node m (renamed a)
  renamed (ended r a) = ended r (renamed a)
  renamed (keep a b) = keep (renamed a) (renamed b)
  renamed kept = kept

-- g, with one mark in place of each
abbrev pub remarked : {N : Type 0} → (Label → Label) → Grammar N → Grammar N
remarked k nothing = nothing
remarked k never = never
remarked k (lexeme p) = lexeme p
remarked k (look p) = look p
remarked k (text p) = text p
remarked k (ahead a) = ahead (remarked k a)
remarked k empty_slot = empty_slot
remarked k (seq a b) = seq (remarked k a) (remarked k b)
remarked k (alt a b) = alt (remarked k a) (remarked k b)
remarked k (when c a) = when c (remarked k a)
remarked k (many a) = many (remarked k a)
remarked k (commas x a) = commas x (remarked k a)
remarked k (such n c) = such n c
remarked k (marked h n) = marked k n
remarked k (node m a) = node m (remarked k a)
remarked k (ended r a) = ended r (remarked k a)
remarked k (keep a b) = keep (remarked k a) (remarked k b)
remarked k kept = kept

-- each symbol of the one and that in its place in the other pass a test
abbrev pub paired : {N : Type 0} → (N → N → Bool) → Grammar N → Grammar N → Bool
paired t (ahead a) (ahead b) = paired t a b
paired t (seq a b) (seq c d) = paired t a c && paired t b d
paired t (alt a b) (alt c d) = paired t a c && paired t b d
paired t (when c a) (when d b) = paired t a b
paired t (many a) (many b) = paired t a b
paired t (commas x a) (commas y b) = paired t a b
paired t (such n c) (such m d) = t n m
paired t (marked h n) (marked k m) = t n m
paired t (node m a) (node n b) = paired t a b
paired t (ended r a) (ended s b) = paired t a b
paired t (keep a b) (keep c d) = paired t a c && paired t b d
paired t _ _ = true

-- ---- the parts of a right side, where it has them

abbrev test_of : {N : Type 0} → Grammar N → Look
test_of (lexeme p) = p
test_of (look p) = p
test_of _ = λ k w e. false

abbrev text_of : {N : Type 0} → Grammar N → List ℕ → Bool
text_of (text p) = p
text_of _ = λ us. false

abbrev pub first_of : {N : Type 0} → Grammar N → Grammar N
first_of (ahead a) = a
first_of (seq a b) = a
first_of (alt a b) = a
first_of (when c a) = a
first_of (many a) = a
first_of (commas x a) = a
first_of (node m a) = a
first_of (ended r a) = a
first_of (keep a b) = a
first_of g = g

abbrev pub second_of : {N : Type 0} → Grammar N → Grammar N
second_of (seq a b) = b
second_of (alt a b) = b
second_of (keep a b) = b
second_of g = g

abbrev condition_of : {N : Type 0} → Grammar N → Bool
condition_of (when c a) = c
condition_of (commas x a) = x
condition_of _ = false

abbrev pub symbol_of : {N : Type 0} → N → Grammar N → N
symbol_of z (such n c) = n
symbol_of z (marked h n) = n
symbol_of z _ = z

abbrev passes_of : {N : Type 0} → Grammar N → Tree → Bool
passes_of (such n c) = c
passes_of _ = λ t. false

abbrev pub mark_of : {N : Type 0} → Grammar N → Label → Label
mark_of (marked h n) = h
mark_of _ = λ l. l

abbrev make_of : {N : Type 0} → Grammar N → Make
make_of (node m a) = m
make_of _ = record { kind = program; op = no_op; flags = 0; extent = exact }

abbrev rows_of : {N : Type 0} → Grammar N → Lexeme → Slots → Look
rows_of (ended r a) = r
rows_of _ = λ x us k w e. false

module _ {N : Type 0} (w : N → N) (t : N → N → Bool) (R : N → N → Type 0) (related : (n m : N) → w n ≡ w m → t n m ≡ true → R n m) where
  pub alike : (g h : Grammar N) → renamed w g ≡ renamed w h → paired t g h ≡ true → Like R g h
  alike nothing nothing e p = tt
  alike never never e p = tt
  alike (lexeme x) (lexeme y) e p = ap test_of e
  alike (look x) (look y) e p = ap test_of e
  alike (text x) (text y) e p = ap text_of e
  alike (ahead a) (ahead b) e p = alike a b (ap first_of e) p
  alike empty_slot empty_slot e p = tt
  alike (seq a b) (seq c d) e p = let q = and_parts (paired t a c) _ p in (alike a c (ap first_of e) q.0, alike b d (ap second_of e) q.1)
  alike (alt a b) (alt c d) e p = let q = and_parts (paired t a c) _ p in (alike a c (ap first_of e) q.0, alike b d (ap second_of e) q.1)
  alike (when x a) (when y b) e p = (ap condition_of e, alike a b (ap first_of e) p)
  alike (many a) (many b) e p = alike a b (ap first_of e) p
  alike (commas x a) (commas y b) e p = (ap condition_of e, alike a b (ap first_of e) p)
  alike (such n c) (such m d) e p = (related n m (ap (symbol_of n) e) p, ap passes_of e)
  alike (marked h n) (marked k m) e p = (related n m (ap (symbol_of n) e) p, ap mark_of e)
  alike (node m a) (node n b) e p = (ap make_of e, alike a b (ap first_of e) p)
  alike (ended r a) (ended s b) e p = (ap rows_of e, alike a b (ap first_of e) p)
  alike (keep a b) (keep c d) e p = let q = and_parts (paired t a c) _ p in (alike a c (ap first_of e) q.0, alike b d (ap second_of e) q.1)
  alike kept kept e p = tt
  alike g h e p = absurd (cc)

no_test : {N : Type 0} (g h : Grammar N) → paired (λ n m. true) g h ≡ true
no_test (ahead a) (ahead b) = no_test a b
no_test (seq a b) (seq c d) = and_from _ _ (no_test a c) (no_test b d)
no_test (alt a b) (alt c d) = and_from _ _ (no_test a c) (no_test b d)
no_test (when x a) (when y b) = no_test a b
no_test (many a) (many b) = no_test a b
no_test (commas x a) (commas y b) = no_test a b
no_test (such n c) (such m d) = refl
no_test (marked h n) (marked k m) = refl
no_test (node m a) (node n b) = no_test a b
no_test (ended r a) (ended s b) = no_test a b
no_test (keep a b) (keep c d) = and_from _ _ (no_test a c) (no_test b d)
no_test g h = refl

pub alike_by : {N : Type 0} (w : N → N) (R : N → N → Type 0) → ((n m : N) → w n ≡ w m → R n m) → (g h : Grammar N) → renamed w g ≡ renamed w h → Like R g h
alike_by w R f g h e = alike w (λ n m. true) R (λ n m q t. f n m q) g h e (no_test g h)
