-- What is answered of a parser at its start, of the text that it was made for.
use Rattle.std.proofs.Common.{ℕ, List, Bool, subst}
use Rattle.js_base.specs.declared.options.ParseOptions.{ParseOptions}
use Rattle.js_base.specs.declared.source_type.SourceType.{SourceType}
use Rattle.js_cursor.specs.js_lex.States.{goal_of}
use Rattle.js_cursor.specs.js_lex.declared.output.LexerOutput.{LexerOutput}
use Rattle.js_cursor.specs.Parsers.{Parser}
use Rattle.js_cursor.specs.Starts.{Starts}
use Rattle.js_tree.specs.Nodes.{Node}
use Rattle.js_parser.specs.Parsed.{options_of, IsAnswer}

pub answer_for : {source : List ℕ} {st : SourceType} {o : ParseOptions} {b : Bool} {p : Parser} {nodes : List Node} {out : LexerOutput} {fatal : Bool} → Starts source st o b p → IsAnswer p.text (goal_of p.source_type) (options_of p.options) nodes out fatal → IsAnswer source (goal_of st) (options_of o) nodes out fatal
answer_for {source} {st} {o} {p = p} {nodes} {out} {fatal} s h = subst (λ (t : List ℕ). IsAnswer t (goal_of st) (options_of o) nodes out fatal) s.text (subst (λ (x : SourceType). IsAnswer p.text (goal_of x) (options_of o) nodes out fatal) s.source_type (subst (λ (y : ParseOptions). IsAnswer p.text (goal_of p.source_type) (options_of y) nodes out fatal) s.options h))
