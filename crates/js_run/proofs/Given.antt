-- What a parse answers, as what the program puts out.
use Rattle.std.proofs.Common.{ℕ, ◌≡◌, ◌≤◌, List, [], length, Bool, true, false, IsTrue, sym, subst, ◌∙◌}
use Rattle.std.proofs.Math.Logic.{◌↔◌}
use Rattle.std.proofs.lemmas.Bool.{false≢true}
use Rattle.js_base.specs.declared.TheConstants.{MAX_LEN}
use Rattle.js_base.specs.declared.source_type.SourceType.{SourceType}
use Rattle.js_base.specs.declared.options.ParseOptions.{ParseOptions}
use Rattle.js_grammar.specs.Trees.{Tree}
use Rattle.js_grammar.specs.Lines.{tree_text, diagnostic_text}
use Rattle.js_parser.specs.js_lex.declared.output.LexerOutput.{LexerOutput}
use Rattle.js_parser.specs.js_tree.Nodes.{Node}
use Rattle.js_parser.specs.js_tree.Holding.{IsTree}
use Rattle.js_grammar.specs.TreeForms.{without_pure}
use Rattle.js_parser.specs.Parsed.{IsReturn}
use Rattle.js_parser.proofs.Validity.{readings_are_valid}
use Rattle.js_run.specs.declared.words.Settings.{Settings}
use Rattle.js_run.specs.Outputs.{AcceptsText, RefusesByMarks}
use Rattle.js_run.specs.Words.{settings_of}

module _ (s : Settings) {text : List ℕ} {taken : SourceType} {nodes : List Node} {out : LexerOutput} {fatal : Bool} (a : IsReturn text s.goal taken s.options nodes out fatal) (short : length text ≤ MAX_LEN) where
  pub accepts : {lines : List ℕ} → out.errors ≡ [] → ((t : Tree) → IsTree nodes t → lines ≡ tree_text t) → AcceptsText (settings_of s) text lines
  accepts z f =
      let r = a.short short in
      let c = r.clean z in
      record {
        tree = r.tree;
        only = c;
        lines = f r.tree r.is_tree;
        valid = readings_are_valid.valid text _ _ r.tree short c.reading;
        only_valid = λ t v b. (c.only (without_pure t) (readings_are_valid.reading text _ _ t v b)).0;
      }

  pub refuses : {lines : List ℕ} → (out.errors ≡ [] → ⊥) → lines ≡ diagnostic_text out.errors → RefusesByMarks (settings_of s) text lines
  refuses n e = let r = a.short short in record { refused = record { found = out.errors; some = n; inside = r.told.lie; lines = e; none = r.unclean n; none_valid = λ t v b. r.unclean n (without_pure t) (readings_are_valid.reading text _ _ t v b) }; told = r.told }

-- the parser's own text, goal and options are those that were given
pub answered : {text source : List ℕ} {given goal taken : SourceType} {asked o : ParseOptions} {nodes : List Node} {out : LexerOutput} {fatal : Bool} → source ≡ text → goal ≡ given → o ≡ asked → IsReturn source goal taken o nodes out fatal → IsReturn text given taken asked nodes out fatal
answered {text} {given = given} {goal} {taken} {o = o} {nodes} {out} {fatal} e g q a = subst (λ (v : ParseOptions). IsReturn text given taken v nodes out fatal) q (subst (λ (v : SourceType). IsReturn text v taken o nodes out fatal) g (subst (λ (v : List ℕ). IsReturn v goal taken o nodes out fatal) e a))

pub true_of : {b : Bool} {P : Type 0} → IsTrue b ↔ P → b ≡ true → P
true_of i e = i.0 e

pub false_of : {b : Bool} {P : Type 0} → IsTrue b ↔ P → b ≡ false → P → ⊥
false_of i e p = false≢true (sym e ∙ i.1 p)
