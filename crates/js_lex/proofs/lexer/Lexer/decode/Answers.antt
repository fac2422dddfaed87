use Rattle.std.proofs.Common.{◌≡◌, subst, sym, List, ℕ, Some, IfOk, arith}
use Rattle.std.specs.Prelude.{IsSome}
use Rattle.js_base.specs.part_text.Decoding.{string_points, string_units}
use Rattle.js_lex.proofs.Decodings.{literal_of}
use Rattle.js_lex.proofs.lexer.Lexer.decode.Goals as goal

pub overflow_sub-literal : goal.overflow_sub-literal
overflow_sub-literal g c = let q = (literal_of c.args.token.span c.self.view_is c.text-literal.utf8 c.text-literal.ensures c.requires.string).quotes in omega arith

pub range-requires-clause-start_le_end : goal.range-requires-clause-start_le_end
range-requires-clause-start_le_end g c = let q = (literal_of c.args.token.span c.self.view_is c.text-literal.utf8 c.text-literal.ensures c.requires.string).quotes in omega arith

pub range-requires-clause-start_boundary : goal.range-requires-clause-start_boundary
range-requires-clause-start_boundary g c = λ p. (literal_of c.args.token.span c.self.view_is c.text-literal.utf8 c.text-literal.ensures c.requires.string).starts_whole

pub range-requires-clause-end_boundary : goal.range-requires-clause-end_boundary
range-requires-clause-end_boundary g c = (literal_of c.args.token.span c.self.view_is c.text-literal.utf8 c.text-literal.ensures c.requires.string).ends_whole

pub decode_string-requires : goal.decode_string-requires
decode_string-requires g c =
    let l = literal_of c.args.token.span c.self.view_is c.text-literal.utf8 c.text-literal.ensures c.requires.string in
    subst (λ (v : List ℕ). IsSome (string_points v)) (sym (l.inside c.range.result.now c.range.ensures.value)) l.right

pub returns : goal.returns
returns g c =
    let l = literal_of c.args.token.span c.self.view_is c.text-literal.utf8 c.text-literal.ensures c.requires.string in
    subst (λ (v : List ℕ). IfOk c.decode_string.result (λ units. Some units ≡ string_units v)) (l.inside c.range.result.now c.range.ensures.value) c.decode_string.ensures
