-- Static blocks of classes (ECMA-262, 15.7): what is in force in their statements, and their nodes.
use Rattle.std.proofs.Common.{ℕ, ◌≡◌, true, List, length, Option, refl, sym, ap, subst, ◌∙◌}
use Rattle.std.proofs.lemmas.Bool.{or_right}
use Rattle.js_base.specs.declared.context.Context.{Context}
use Rattle.js_base.specs.declared.kind.Kind.TheVariants.{Static}
use Rattle.js_base.specs.declared.span.Span.{Span}
use Rattle.js_base.specs.Contexts.{has_flag, in_flag}
use Rattle.js_grammar.specs.Trees.{Label, Slots, end, tree, no_op, static_block}
use Rattle.js_grammar.specs.Grammar.{nothing}
use Rattle.js_grammar.specs.Parsing.{plain, full}
use Rattle.js_grammar.specs.Productions.{Flags, static_of}
use Rattle.js_grammar.proofs.Calculus.{fails_node, inside_full}
use Rattle.laws_primary.specs.js_tree.declared.id.NodeId.{NodeId}
use Rattle.laws_primary.specs.js_tree.declared.kind.NodeKind.TheVariants as node
use Rattle.laws_primary.specs.js_tree.declared.op.Op.TheVariants as op
use Rattle.laws_primary.specs.js_tree.Nodes.{Node}
use Rattle.laws_primary.specs.js_tree.Holding.{HoldsAll, Keeps}
use Rattle.laws_primary.specs.js_cursor.Parsers.{Parser}
use Rattle.laws_primary.specs.js_cursor.declared.stop.Stop.{Stop}
use Rattle.laws_primary.specs.laws_shared.Answers.{Stops}
use Rattle.laws_primary.specs.laws_shared.Heads.{widened}
use Rattle.laws_primary.specs.laws_shared.Moves.{Moved, MadeHere, plain_label}
use Rattle.laws_primary.specs.laws_shared.Stands.{StandsHere}
use Rattle.laws_primary.specs.laws_shared.States.{At, Same, flags_of}
use Rattle.laws_primary.proofs.laws_shared.js_cursor.Changing.{ctx_set}
use Rattle.laws_primary.proofs.laws_shared.js_cursor.Later.{follows_on}
use Rattle.laws_primary.proofs.laws_shared.js_tree.HoldingLemmas.{Keeps-made, Keeps-trans}
use Rattle.laws_primary.proofs.laws_shared.Contexts.{at_under, whole_stops_in_context}
use Rattle.laws_primary.proofs.laws_shared.MadeNodes.{node_held, one_lies}
use Rattle.laws_primary.proofs.laws_shared.Moving.{flags_same, same_both, stops_behind}
use Rattle.laws_primary.proofs.laws_shared.Paths.{Path, ◌⟶◌, ◌⟶✗◌, label_here, noded, token}
use Rattle.laws_primary.proofs.laws_shared.Verdicts.{grown_then}
use Rattle.laws_statements.specs.Blocks.{BracesTaken, NoBraces, in_braces}
use Rattle.laws_statements.specs.declared.forms.StatementList.TheVariants.{Block}
use Rattle.laws_classes.specs.Elements.{ElementTaken, behind_element}
use Rattle.laws_classes.specs.StaticBlocks.{InStaticBlock, block_line}
use Rattle.laws_classes.proofs.Elements.{element_answers}
use Rattle.laws_classes.proofs.Members.{No}

-- ---- what is in force

module _ {text : List ℕ} {f : Flags} {p : Parser} (a : At text f p) where
  in_block : {c : Context} → InStaticBlock c → widened f.wide (flags_of (record p { ctx = c })) ≡ static_of f
  in_block s = rw (s.allows_in, s.allows_yield, s.awaits, s.allows_await, s.allows_return, s.allows_new_target, or_right f.wide true refl) (ap (λ (g : Flags). static_of g) a.flags_are)

  pub block_at : {q : Parser} {c : Context} → InStaticBlock c → q ≡ record p { ctx = c } → At text (static_of f) q
  block_at {q} {c} s h = subst (At text (static_of f)) (sym h) (at_under c (in_block s) a)

pub block_allows_in : (p : Parser) {q : Parser} {c : Context} → InStaticBlock c → q ≡ record p { ctx = c } → has_flag in_flag q.ctx ≡ true
block_allows_in p s h = ap (λ (r : Parser). has_flag in_flag r.ctx) h ∙ s.allows_in

-- ---- its statements, and what was in force before again

-- They were read in their braces.
pub record BlockRead (text : List ℕ) (f : Flags) (p w : Parser) (ids : List (Option NodeId)) : Type 0 where
  pub same : Same p w
  pub slots : Slots → Slots
  pub path : Path text f (plain full) (in_braces Block (static_of f)) p nothing w slots
  pub holds : HoldsAll w.nodes (length p.nodes) (length w.nodes) ids (slots end)
  pub keeps : Keeps p.nodes w.nodes

block_out : {text : List ℕ} {f : Flags} {p q : Parser} {c : Context} {ids : List (Option NodeId)} → At text f p → BracesTaken text (static_of f) Block (record p { ctx = c }) q ids → BlockRead text f p (record q { ctx = p.ctx }) ids
block_out {p = p} {q = q} {c = c} a x = record {
  same = record { follows = follows_on (ctx_set c a.at).0 (follows_on x.same.follows (ctx_set p.ctx x.at.at).0); options = x.same.options; ctx = refl; depth = x.same.depth; visits = x.same.visits; early = x.same.early; lies = x.same.lies };
  slots = x.slots;
  path = record {
    at = at_under p.ctx (flags_same p (record q { ctx = p.ctx }) refl x.same.follows.source_type x.same.options ∙ a.flags_are) x.at;
    further = x.further;
    pass = x.pass;
    walked = x.walked;
    verdict = x.verdict;
  };
  holds = x.holds;
  keeps = x.keeps;
}

pub block_read : {text : List ℕ} {f : Flags} {p e q w : Parser} {c d : Context} {ids : List (Option NodeId)} → At text f p → d ≡ p.ctx → e ≡ record p { ctx = c } → BracesTaken text (static_of f) Block e q ids → w ≡ record q { ctx = d } → BlockRead text f p w ids
block_read {text} {f} {p} {e} {q} {w} {c} {d} {ids} a i h x j = subst (λ (r : Parser). BlockRead text f p r ids) (sym (j ∙ ap (λ (v : Context). record q { ctx = v }) i)) (block_out a (subst (λ (r : Parser). BracesTaken text (static_of f) Block r q ids) h x))

-- ---- the element

module _ {text : List ℕ} {f : Flags} {first p : Parser} (af : At text f first) (h : StandsHere first Static true) (m : Moved text f first p) where
  block_none : NoBraces text Block (static_of f) p.prev_token_end → No text first.prev_token_end (block_line f)
  block_none n = fails_node inside_full (token Static af h.0 h.1 refl m ⟶✗ n)

  pub block_stops : {e : Parser} {c : Context} (w : Parser) (s : Stop) → e ≡ record p { ctx = c } → Stops e w s (NoBraces text Block (static_of f) e.prev_token_end) → Stops first w s (No text first.prev_token_end (block_line f))
  block_stops {e} {c} w s i z = stops_behind w s m.same (λ g. grown_then m.kept g) (λ n. block_none n) (whole_stops_in_context text (in_braces Block (static_of f)) p e w c s m.at.at i z)

  module _ {w : Parser} {ids : List (Option NodeId)} (x : BlockRead text f p w ids) where
    block_path : Path text f behind_element (block_line f) first nothing w (tree (label_here static_block no_op first w) (x.slots end))
    block_path = noded af (token Static af h.0 h.1 refl m ⟶ x.path)

    block_holds : HoldsAll w.nodes (length first.nodes) (length w.nodes) ids (x.slots end)
    block_holds = subst (λ (ns : List Node). HoldsAll w.nodes (length ns) (length w.nodes) ids (x.slots end)) m.nodes x.holds

    block_keeps : Keeps first.nodes w.nodes
    block_keeps = subst (λ (ns : List Node). Keeps ns w.nodes) m.nodes x.keeps

    pub block_taken : {v : Parser} {id : NodeId} (s : Span) → s.start ≡ first.token.span.start → s.end ≡ w.prev_token_end → MadeHere (plain_label node.StaticBlock op.None s) ids w v id → ElementTaken text f (block_line f) first v id
    block_taken {v} {id} s g d i =
        let l : plain_label node.StaticBlock op.None s ≡ label_here static_block no_op first w = rw (g, d) refl in
        let made : MadeHere (label_here static_block no_op first w) ids w v id = subst (λ (k : Label). MadeHere k ids w v id) l i in
        element_answers (same_both m.same x.same) made.stays (node_held made block_holds) (Keeps-trans block_keeps (Keeps-made made.made)) refl (one_lies made) refl block_path
