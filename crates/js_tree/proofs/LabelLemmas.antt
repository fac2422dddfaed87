-- The text of a node, written part by part.
use Rattle.std.proofs.Common.{◌≡◌, ℕ, List, [], ◌∷◌, ◌++◌, refl, ap, ◌∙◌, append_assoc, append-nil}
use Rattle.js_grammar.specs.Trees.{Label}
use Rattle.js_grammar.specs.Lines.{kind_text, places_text, op_text, words_of, flag_words, label_text}

pub label_written : (l : Label) (out kind op flags : List ℕ) → kind ≡ out ++ (kind_text l.kind ++ (32 ∷ places_text l.span.from l.span.to)) → op ≡ kind ++ op_text l.op → flags ≡ op ++ words_of flag_words l.flags → flags ≡ out ++ label_text l
label_written l out kind op flags k o f =
    f ∙ ap (λ (v : List ℕ). v ++ words_of flag_words l.flags) (o ∙ ap (λ (v : List ℕ). v ++ op_text l.op) k) ∙ simp append_assoc

-- of a node without flags
pub label_without_flags : (l : Label) (out kind op : List ℕ) → kind ≡ out ++ (kind_text l.kind ++ (32 ∷ places_text l.span.from l.span.to)) → op ≡ kind ++ op_text l.op → l.flags ≡ 0 → op ≡ out ++ label_text l
label_without_flags l out kind op k o n =
    let none : words_of flag_words l.flags ≡ [] = ap (words_of flag_words) n in
    label_written l out kind op op k o (rw none (rw (append-nil op) refl))
