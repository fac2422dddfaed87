-- Functions directly in parentheses are marked.
use Rattle.std.proofs.Common.{ℕ, ◌≡◌, ◌+◌, ◌*◌, ◌<◌, ◌≤◌, Bool, true, false, List, length, refl, sym, ap, subst, arith, ◌∙◌, nat_lt}
use Rattle.std.proofs.lemmas.Bool.{false≢true, ltb-true, ltb-false}
use Rattle.js_grammar.specs.Trees.{NodeKind, Label, function_expression, arrow_function_expression}
use Rattle.js_grammar.specs.Productions.{pife_flag, with_pife}
use Rattle.laws_shared.specs.js_tree.declared.id.NodeId.{NodeId}
use Rattle.laws_shared.specs.js_tree.declared.flags.NodeFlags.{NodeFlags}
use Rattle.laws_shared.specs.js_tree.Labels.{kind_of, number_of, with_bit}
use Rattle.laws_shared.specs.js_tree.Nodes.{Node, flags_set, label, node_at, with_flags, empty_program}
use Rattle.laws_shared.proofs.js_tree.HoldingLemmas.{Holds-flagged, Keeps-flags}
use Rattle.std.proofs.lemmas.List.{length-set, set_past}
use Rattle.laws_primary.specs.Marked.{is_function, MarksNode}
use Rattle.laws_shared.proofs.MadeNodes.{held_label}
use Rattle.std.proofs.lemmas.List.Elements.{All-set, All-get_or, All-same}
use Rattle.laws_shared.specs.NodeTexts.{NodeFits}
use Rattle.laws_shared.specs.States.{NodesLie}

more_bit : (b : Bool) (n k : ℕ) → with_bit b (n + k) ≡ with_bit b n + 2 * k
more_bit true n k = omega arith
more_bit false n k = omega arith

twice : (b : Bool) (n : ℕ) → 2 * n ≤ with_bit b n
twice true n = omega arith
twice false n = omega arith

-- thirteen flags before the mark
before : NodeFlags → ℕ → ℕ
before f n = with_bit f.prefix (with_bit f.optional (with_bit f.computed (with_bit f.shorthand (with_bit f.method (with_bit f.is_async (with_bit f.generator (with_bit f.delegate (with_bit f.is_static (with_bit f.is_await (with_bit f.tail (with_bit f.bare (with_bit f.pure n))))))))))))

number_before : (f : NodeFlags) → number_of f ≡ before f (with_bit f.pife 0)
unfolding before
number_before f = refl

raised : (f : NodeFlags) → before f 1 ≡ before f 0 + 8192
unfolding before
raised f =
    let a = more_bit f.pure 0 1 in
    let b = ap (with_bit f.bare) a ∙ more_bit f.bare _ 2 in
    let c = ap (with_bit f.tail) b ∙ more_bit f.tail _ 4 in
    let d = ap (with_bit f.is_await) c ∙ more_bit f.is_await _ 8 in
    let e = ap (with_bit f.is_static) d ∙ more_bit f.is_static _ 16 in
    let g = ap (with_bit f.delegate) e ∙ more_bit f.delegate _ 32 in
    let h = ap (with_bit f.generator) g ∙ more_bit f.generator _ 64 in
    let i = ap (with_bit f.is_async) h ∙ more_bit f.is_async _ 128 in
    let j = ap (with_bit f.method) i ∙ more_bit f.method _ 256 in
    let k = ap (with_bit f.shorthand) j ∙ more_bit f.shorthand _ 512 in
    let l = ap (with_bit f.computed) k ∙ more_bit f.computed _ 1024 in
    let m = ap (with_bit f.optional) l ∙ more_bit f.optional _ 2048 in
    ap (with_bit f.prefix) m ∙ more_bit f.prefix _ 4096

marked_number : (f : NodeFlags) → number_of f < 8192 → number_of (record f { pife = true }) ≡ number_of f + 8192
unfolding before
marked_number f h = by f.pife refl
  where
    by : (b : Bool) → f.pife ≡ b → before f 1 ≡ number_of f + 8192
    by true e = absurd (let q = number_before f ∙ (ap (λ (c : Bool). before f (with_bit c 0)) e ∙ raised f) in omega arith)
    by false e = raised f ∙ ap (λ (n : ℕ). n + 8192) (sym (number_before f ∙ ap (λ (c : Bool). before f (with_bit c 0)) e))

-- what is marked
marked_label : (l : Label) → is_function l.kind ≡ true → with_pife l ≡ record l { flags = l.flags + 8192 }
marked_label l h = by l.kind refl h
  where
    by : (k : NodeKind) → l.kind ≡ k → is_function k ≡ true → with_pife l ≡ record l { flags = l.flags + 8192 }
    by function_expression e h = rw e refl
    by arrow_function_expression e h = rw e refl
    by _ e h = absurd (false≢true h)

unmarked_label : (l : Label) → is_function l.kind ≡ false → with_pife l ≡ l
unmarked_label l h = by l.kind refl h
  where
    by : (k : NodeKind) → l.kind ≡ k → is_function k ≡ false → with_pife l ≡ l
    by function_expression e h = absurd (false≢true (sym h))
    by arrow_function_expression e h = absurd (false≢true (sym h))
    by k e h = rw e refl

-- no function
pub not_marked : {ns : List Node} {id : NodeId} {b : Bool} → b ≡ is_function (kind_of (node_at ns id).kind) → b ≡ false → MarksNode id ns ns
not_marked {ns} {id} e h = record {
  long = refl;
  holds = λ lo hi l cs k. record { label = l; holds = k; is = λ u. sym (unmarked_label l (ap (λ (m : Label). is_function m.kind) (held_label id k) ∙ (sym e ∙ h))) };
  keeps = λ os k w. k;
  lies = λ text k. k;
}

-- other flags change no span
flagged_lie : {text : List ℕ} (ns : List Node) (id : NodeId) (f : NodeFlags) → NodesLie text ns → NodesLie text (flags_set ns id f)
flagged_lie {text} ns id f k = by (nat_lt id.0 (length ns)) refl
  where
    by : (b : Bool) → nat_lt id.0 (length ns) ≡ b → NodesLie text (flags_set ns id f)
    by true e = let z = All-get_or (NodeFits text) ns id.0 empty_program (ltb-true id.0 (length ns) e) k in All-set (NodeFits text) ns id.0 (with_flags f (node_at ns id)) (record { lies = z.lies; texted = z.texted }) k
    by false e = All-same (NodeFits text) (flags_set ns id f) ns (set_past ns id.0 (with_flags f (node_at ns id)) (ltb-false id.0 (length ns) e)) k

-- a function
pub marks : {ns ms : List Node} {id : NodeId} {b : Bool} → b ≡ is_function (kind_of (node_at ns id).kind) → b ≡ true → ms ≡ flags_set ns id (record (node_at ns id).flags { pife = true }) → MarksNode id ns ms
marks {ns} {ms} {id} e h s = subst (MarksNode id ns) (sym s) (record {
  long = length-set ns id.0 (with_flags (record f { pife = true }) (node_at ns id));
  holds = λ lo hi l cs k. record { label = _; holds = Holds-flagged id (record f { pife = true }) k; is = λ u. so l (held_label id k) u };
  keeps = λ os k w. Keeps-flags id (record f { pife = true }) k w;
  lies = λ text k. flagged_lie ns id (record f { pife = true }) k;
})
  where
    f : NodeFlags
    f = (node_at ns id).flags

    so : (l : Label) → l ≡ label (node_at ns id) → (is_function l.kind ≡ true → l.flags < pife_flag) → record l { flags = number_of (record f { pife = true }) } ≡ with_pife l
    so l i u =
        let k : is_function l.kind ≡ true = ap (λ (m : Label). is_function m.kind) i ∙ (sym e ∙ h) in
        let n : l.flags ≡ number_of f = ap (λ (m : Label). m.flags) i in
        ap (λ (v : ℕ). record l { flags = v }) (marked_number f (let w = u k in omega arith) ∙ ap (λ (v : ℕ). v + 8192) (sym n)) ∙ sym (marked_label l k)
