-- The record that a parse answers is that of the tree.
use Rattle.std.proofs.Common.{ℕ, ◌≡◌, ◌++◌, Bool, true, List, [], ◌∷◌, Option, length, inl, inr, refl, sym, subst, ◌∙◌}
use Rattle.std.specs.Prelude.{IsUtf8}
use Rattle.js_base.specs.declared.diagnostic.Diagnostic.{Diagnostic}
use Rattle.js_base.specs.declared.options.ParseOptions.{ParseOptions}
use Rattle.js_base.specs.declared.source_type.SourceType.{SourceType}
use Rattle.js_base.specs.declared.span.Span.{Span}
use Rattle.js_grammar.specs.ModuleRecords.{ModuleRecord}
use Rattle.js_grammar.specs.Modules.{record_of}
use Rattle.js_grammar.specs.Trees.{Slots, Tree}
use Rattle.js_tree.specs.declared.id.NodeId.{NodeId}
use Rattle.js_tree.specs.Nodes.{Node}
use Rattle.js_tree.specs.Holding.{HoldsAll, IsTree, program_tree}
use Rattle.js_cursor.specs.Parsers.{Parser}
use Rattle.js_cursor.specs.Starts.{Starts}
use Rattle.js_core.specs.Taken.{FoundNothing, ProgramTaken, ReadOrNot}
use Rattle.js_core.proofs.laws_shared.Verdicts.{ending}
use Rattle.js_record.specs.Checked.{AreHeld}
use Rattle.js_parser.specs.Leftover.{with_leftover}
use Rattle.js_parser.specs.Recorded.{HasRecord}
use Rattle.js_parser.proofs.NodesRead.{slots_read}
use Rattle.js_parser.proofs.NodeSpans.{slots_lie}
use Rattle.js_parser.proofs.OneTree.{one_tree}
use Rattle.js_parser.proofs.SameSource.{readings_have_sources}

-- the children of a program that was read cleanly
pub program_held : {text : List ℕ} {s : SourceType} {o : ParseOptions} {asks : Bool} {p : Parser} {ids : List (Option NodeId)} → ProgramTaken text s o asks p ids → FoundNothing p → AreHeld p.nodes p.text ids
program_held {text} {s} {o} {asks} {p} {ids} h clean = by h.outcome
  where
    characters : IsUtf8 text
    characters = subst IsUtf8 h.is_of.text_is h.is_of.at.utf8

    by : ReadOrNot text s o p h.slots → AreHeld p.nodes p.text ids
    by (inl (z, r)) = subst (λ (w : List ℕ). AreHeld p.nodes w ids) (sym h.is_of.text_is) (record {
      slots = h.slots;
      holds = h.holds;
      read = slots_read text characters h.slots (slots_lie h.lies h.holds.stands) (readings_have_sources true text _ _ _ characters r.reading).1;
    })
    by (inr (z, r)) = absurd (z clean)

-- where nothing is told, nothing was found
pub told_nothing : (faults found early : List Diagnostic) (covers : List Span) → with_leftover (faults ++ found) early covers ≡ [] → (faults ≡ []) × (found ≡ [])
told_nothing [] [] early covers e = (refl, refl)
told_nothing [] (d ∷ ds) early covers e = absurd (let z = e in cc)
told_nothing (d ∷ ds) found early covers e = absurd (let z = e in cc)

-- a record that is made of the children of Program is that of the tree
pub record_right : {ns nodes : List Node} {ids : List (Option NodeId)} {source text : List ℕ} {r : ModuleRecord} {t : Tree} (span : Span) (cs : Slots) → HoldsAll ns 1 (length ns) ids cs
    → ((s : Span) (cs : Slots) → HoldsAll ns 1 (length ns) ids cs → r ≡ record_of source (program_tree s cs)) → ((cs : Slots) → HoldsAll ns 1 (length ns) ids cs → IsTree nodes (program_tree span cs))
    → IsTree nodes t → source ≡ text → r ≡ record_of text t
record_right span cs h made whole g e = made span cs h ∙ (λ j. record_of (e j) (one_tree (whole cs h) g j))

-- of the text that the parser was made for
pub record_for_start : {source : List ℕ} {st : SourceType} {o : ParseOptions} {b : Bool} {p : Parser} {nodes : List Node} {found : List Diagnostic} {r : ModuleRecord} → Starts source st o b p → HasRecord p.text nodes found r → HasRecord source nodes found r
record_for_start {nodes = nodes} {found} {r} s h = subst (λ (w : List ℕ). HasRecord w nodes found r) s.text h

-- where a fatal diagnostic was found, something is told
pub none_recorded : (text : List ℕ) {nodes : List Node} (told : List Diagnostic) {found all : List Diagnostic} {r : ModuleRecord} → (found ≡ [] → ⊥) → all ≡ told ++ found → HasRecord text nodes all r
none_recorded text told some e z = absurd (some (ending told _ (sym e ∙ z)))
