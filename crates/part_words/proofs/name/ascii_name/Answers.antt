use Rattle.std.proofs.Common.{ap, ◌∙◌}
use Rattle.std.specs.Prelude.{slice_range}
use Rattle.js_base.specs.Keywords.{keyword_of}
use Rattle.part_words.proofs.NameWords.{ascii-name, ascii-bytes}
use Rattle.part_words.proofs.name.ascii_name.Goals as goal

pub returns : goal.returns
returns c =
    let h = c.requires.name in
    ascii-name c.kind_of_word.result h c.requires.ends
    (c.kind_of_word.ensures
    ∙ ap (λ v. keyword_of (slice_range v c.args.at c.args.end)) c.as_bytes.ensures.value
    ∙ ap keyword_of (ascii-bytes c.args.text.now c.args.at c.args.end h.word c.utf8.text c.requires.boundary h.stands h.ascii))
