-- What a parse function read is what a call here requires: the only tree over its lexemes, if what stands behind them may follow whatever is derived there.
use Rattle.std.proofs.Common.{ℕ, ◌≡◌, true, List, inl, refl, sym, subst}
use Rattle.std.specs.Prelude.{length, IsCharBoundary, IsUtf8}
use Rattle.js_grammar.specs.Follow.{after}
use Rattle.js_grammar.specs.Grammar.{Lexeme, Lexemes, last, nothing, such, is_nothing, is_such}
use Rattle.js_grammar.specs.LexicalFaults.{Reached}
use Rattle.js_grammar.specs.Parsing.{Admits, always}
use Rattle.js_grammar.specs.Productions.{Flags, Symbol}
use Rattle.js_grammar.specs.Trees.{Label, Slots, end, tree}
use Rattle.js_grammar.proofs.Calculus.{label_is, slots_are}
use Rattle.parse_shared.specs.js_tree.declared.id.NodeId.{NodeId}
use Rattle.parse_shared.specs.js_cursor.Parsers.{Parser}
use Rattle.parse_shared.specs.laws_shared.Answers.{Numbered, Stretch}
use Rattle.parse_shared.specs.laws_shared.Lexemes.{Lex}
use Rattle.parse_shared.specs.laws_shared.States.{At}
use Rattle.parse_shared.proofs.laws_shared.Signs.{none_kept}
use Rattle.parse_targets.proofs.ArraysBeforeSigns.{is_cover}
use Rattle.parse_targets.specs.Covered.{OnlyTree, ReadBefore}
use Rattle.parse_targets.proofs.Laws.{within}

-- the only tree over the lexemes up to a place, by what a clean answer says
only_tree : {text : List ℕ} {n : Symbol} {s s' : ℕ} {l : Label} {cs : Slots} {pass : Lexemes → Lexemes} → Stretch text (after n) (such n always) s nothing s' (tree l cs) pass → IsUtf8 text → Reached text s → IsCharBoundary text s → (y : Lexeme) → Lex text s' y → ((ts : Slots) → Admits (after n) ts y) → OnlyTree text n (record { label = l; slots = cs }) s (pass (last y)) s' (last y)
only_tree {s' = s'} {pass = pass} z u r b y k a = record {
  utf8 = u;
  reached = r;
  between = b;
  lexed = z.goes.passes.lexed (last y) k;
  derived = within (z.goes.sound end end s' (last y) (last y) k (inl z.near) is_nothing);
  only = λ t d.
      let x = z.goes.only (tree t.label t.slots end) end s' (pass (last y)) (last y) (z.goes.passes.lexed (last y) k) (is_such d refl) (a (tree t.label t.slots end)) in
      λ i. record { label = label_is x.2 i; slots = slots_are x.2 i };
}

-- Of a call that told nothing, where targets are in their wider form.
pub read_before : {text : List ℕ} {f : Flags} {n : Flags → Symbol} {Is : Label → Type 0} {p q : Parser} {id : NodeId} → At text f p → f.wide ≡ true → (x : Numbered text f (n f) p q id) → length q.errors ≡ length p.errors → Is x.answer.label → (y : Lexeme) → Lex text q.prev_token_end y → ((ts : Slots) → Admits (after (n f)) ts y) → ReadBefore n Is q id
read_before {text} {f} {n} {p = p} {q = q} a w x e i y k g = record {
  flags = f;
  cover = is_cover a;
  wide = w;
  read = record {
    lo = length p.nodes;
    hi = length q.nodes;
    label = x.answer.label;
    slots = x.answer.slots;
    holds = x.holds;
    place = p.prev_token_end;
    lexemes = x.answer.pass (last y);
    behind = q.prev_token_end;
    rest = last y;
    only = subst (λ (t : List ℕ). OnlyTree t (n f) (record { label = x.answer.label; slots = x.answer.slots }) p.prev_token_end (x.answer.pass (last y)) q.prev_token_end (last y)) (sym x.answer.at.text_is) (only_tree (none_kept x.answer.verdict e) (subst IsUtf8 a.text_is a.at.utf8) (subst (λ (t : List ℕ). Reached t p.prev_token_end) a.text_is a.at.reached) (subst (λ (t : List ℕ). IsCharBoundary t p.prev_token_end) a.text_is a.at.between) y k g);
  };
  is = i;
}
