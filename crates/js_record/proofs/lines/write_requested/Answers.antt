use Rattle.std.proofs.Common.{◌≡◌, ℕ, List, ◌++◌, cond, Bor, sym, ap, ◌∙◌}
use Rattle.std.proofs.lemmas.Result.{on_ok_weaker}
use Rattle.std.specs.Prelude.{codes}
use Rattle.js_grammar.specs.RecordLines.{request_line}
use Rattle.js_record.proofs.LineLemmas.{behind}
use Rattle.js_record.proofs.lines.write_requested.Goals as goal
use Rattle.js_record.proofs.lines.write_requested.Goals.{then-requested, else-requested}

pub returns : goal.returns
returns c =
    let out = c.args.out.now.items in
    let end = c.write_text-5.new.out.items in
    let word : c.if-requested.write_text.now ≡ cond c.requested.inside.is_import (codes "import") (codes "export") = elim c.if-requested.branch [
      | then-requested w ↦ ap (λ (v : Bor (List ℕ)). v.now) w.write_text-is ∙ ap (λ b. cond b (codes "import") (codes "export")) (sym w.if-requested.true)
      | else-requested w ↦ ap (λ (v : Bor (List ℕ)). v.now) w.write_text-is ∙ ap (λ b. cond b (codes "import") (codes "export")) (sym w.if-requested.false)
    ] in
    on_ok_weaker c.write_text-5.result
    (λ e. behind out _ c.write_text.new.out.items _ end c.in_ok-write_text.ensures
    (behind c.write_text.new.out.items _ c.write.new.out.items _ end c.in_ok-write.ensures
    (behind c.write.new.out.items _ c.write_text-2.new.out.items _ end c.in_ok-write_text-2.ensures
    (behind c.write_text-2.new.out.items _ c.write-2.new.out.items _ end c.in_ok-write-2.ensures
    (behind c.write-2.new.out.items _ c.write_text-3.new.out.items _ end c.in_ok-write_text-3.ensures
    (behind c.write_text-3.new.out.items _ c.write_text-4.new.out.items _ end (c.in_ok-write_text-4.ensures ∙ ap (λ v. c.write_text-3.new.out.items ++ v) word) e)))))
    ∙ ap (λ v. out ++ request_line v) c.requested.view_is)
    c.write_text-5.ensures
