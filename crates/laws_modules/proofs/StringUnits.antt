-- The code units of a string that stands at a parser's place, by its lexeme and by its node.
use Rattle.std.proofs.Common.{ℕ, ◌≡◌, ◌<◌, ◌+◌, ◌++◌, List, [], ◌∷◌, length, length-append, sym, ap, ap₂, subst, arith, ◌∙◌}
use Rattle.std.specs.Prelude.{chars, get_or, slice_range, unwrap_or}
use Rattle.std.proofs.lemmas.List.{get_or_at}
use Rattle.js_base.specs.Kinds.{one_of_kinds}
use Rattle.js_base.specs.Spans.{LiesIn}
use Rattle.js_base.specs.Texts.{words}
use Rattle.js_base.specs.declared.kind.Kind.{Kind}
use Rattle.js_base.specs.declared.kind.Kind.TheVariants.{Str}
use Rattle.js_base.specs.declared.span.Span.{Span}
use Rattle.js_base.specs.part_text.Decoding.{string_units}
use Rattle.js_grammar.specs.Characters.{width}
use Rattle.js_grammar.specs.Grammar.{Lexeme}
use Rattle.js_grammar.specs.LexicalFaults.{behind}
use Rattle.js_grammar.specs.Longest.{joined}
use Rattle.js_grammar.specs.Lexemes.{division, units_of as units_of_lexeme}
use Rattle.js_grammar.specs.Productions.{Flags}
use Rattle.js_grammar.specs.Strings.{string_inside}
use Rattle.js_grammar.specs.Trees.{Label}
use Rattle.laws_shared.specs.js_tree.Nodes.{Node, empty_program, node_at}
use Rattle.laws_shared.specs.js_tree.Sources.{IsString, units_of}
use Rattle.laws_shared.specs.js_tree.declared.id.NodeId.{NodeId}
use Rattle.laws_shared.specs.js_tree.declared.kind.NodeKind.TheVariants as node
use Rattle.laws_shared.specs.js_tree.declared.op.Op.TheVariants as op
use Rattle.laws_shared.specs.js_cursor.Parsers.{Parser}
use Rattle.laws_shared.specs.js_lex.Reading.{GivesLexeme}
use Rattle.laws_shared.specs.part_words.Places.{Word}
use Rattle.laws_shared.specs.Lexemes.{Lex, is_read_kind, signs}
use Rattle.laws_shared.specs.Moves.{LeafTaken, TakesLeaf}
use Rattle.laws_shared.specs.NodeTexts.{spelled_at}
use Rattle.laws_shared.specs.States.{At, IsPlain, whole, sign, nothing as none}
use Rattle.laws_shared.proofs.js_lex.Again.{cancel}
use Rattle.laws_shared.proofs.NodeTexts.{string_later}
use Rattle.laws_shared.proofs.part_scan.StringPlaces.{front_word}
use Rattle.laws_shared.proofs.part_words.Flags.{spelled}
use Rattle.laws_shared.proofs.Paths.{one_read}

module _ {text : List ℕ} {f : Flags} {p : Parser} (a : At text f p) (k : p.token.kind ≡ Str) where
  -- the characters of a lexeme that the token tells stand at the token
  characters : (x : GivesLexeme division (λ y. y) p.text p.prev_token_end p.token) → spelled_at p.text p.token ≡ x.stands.lex.word
  characters x =
      let i = a.at in
      let l = x.stands.lex in
      let before : Word p.text p.prev_token_end x.lexeme.from (joined l.trivia) = subst (λ (n : ℕ). Word p.text p.prev_token_end n (joined l.trivia)) (sym l.from) (front_word p.text p.prev_token_end (joined l.trivia) (l.word ++ l.rest) i.utf8 i.between l.stands.splits) in
      let here : behind p.text p.token.span.start ≡ l.word ++ l.rest = ap (behind p.text) x.tells.start ∙ cancel (joined l.trivia) (behind p.text x.lexeme.from) (l.word ++ l.rest) (sym before.splits ∙ l.stands.splits) in
      let until : p.token.span.end ≡ p.token.span.start + width l.word = x.tells.end ∙ l.to ∙ ap (λ (n : ℕ). n + width l.word) (sym x.tells.start) in
      spelled p.text p.token.span.start p.token.span.end l.word i.utf8 i.lies.starts_whole i.lies.ordered (subst (λ (n : ℕ). Word p.text p.token.span.start n l.word) (sym until) (front_word p.text p.token.span.start l.word l.rest i.utf8 i.lies.starts_whole here))

  -- those of its lexeme
  pub string_spelled : (y : Lexeme) → Lex text p.prev_token_end y → (y.kind ≡ Str) × (y.units ≡ unwrap_or (string_units (string_inside (spelled_at p.text p.token))) [])
  unfolding words
  string_spelled y l = by a.plain
    where
      units_are : (x : GivesLexeme division (λ y. y) p.text p.prev_token_end p.token) → x.lexeme.kind ≡ Str → x.lexeme.units ≡ unwrap_or (string_units (string_inside (spelled_at p.text p.token))) []
      units_are x e = x.stands.lex.units ∙ ap (λ (v : Kind). units_of_lexeme v x.stands.lex.word) e ∙ ap (λ (v : List ℕ). unwrap_or (string_units (string_inside v)) []) (sym (characters x))

      by : IsPlain text p → (y.kind ≡ Str) × (y.units ≡ unwrap_or (string_units (string_inside (spelled_at p.text p.token))) [])
      by (whole c n x') =
          let x : GivesLexeme division (λ y. y) p.text p.prev_token_end p.token = subst (λ (t : List ℕ). GivesLexeme division (λ y. y) t p.prev_token_end p.token) (sym a.text_is) x' in
          let e : x.lexeme.kind ≡ Str = sym x.tells.kind ∙ k in
          let o : y ≡ x.lexeme = one_read a (ap (one_of_kinds signs) k) l (subst (λ (t : List ℕ). Lex t p.prev_token_end x.lexeme) a.text_is (x.stands.lex, ap is_read_kind e)) in
          (ap (λ (v : Lexeme). v.kind) o ∙ e, ap (λ (v : Lexeme). v.units) o ∙ units_are x e)
      by (sign c j x) = absurd (let e = sym j ∙ k in cc)
      by (none c j n) = absurd (let e = sym j ∙ k in cc)

  -- those of its node, which was made last
  module _ {q : Parser} {id : NodeId} (t : TakesLeaf node.StringLiteral op.None p q id) where
    leaf : LeafTaken node.StringLiteral op.None text f p q id
    leaf = t text f a

    pub string_contained : id.0 < length q.nodes
    string_contained = let m = leaf.made.made in let n = ap length m.nodes ∙ length-append leaf.mid.nodes (leaf.made.node ∷ []) in let i = m.number in omega arith

    node_is : node_at q.nodes id ≡ leaf.made.node
    node_is = let m = leaf.made.made in ap (λ (ns : List Node). get_or ns id.0 empty_program) m.nodes ∙ get_or_at leaf.mid.nodes leaf.made.node [] empty_program id.0 (sym m.number)

    span_by : (s : Span) → s.start ≡ p.token.span.start → s.end ≡ p.token.span.end → s ≡ p.token.span
    span_by s i j = ap₂ (λ (x y : ℕ). record { start = x; end = y }) i j

    span_is : (node_at q.nodes id).span ≡ p.token.span
    span_is = ap (λ (n : Node). n.span) node_is ∙ span_by leaf.made.node.span (ap (λ (l : Label). l.span.from) leaf.made.label_is) (ap (λ (l : Label). l.span.to) leaf.made.label_is)

    text_same : q.text ≡ p.text
    text_same = ap (λ (v : Parser). v.text) leaf.made.stays ∙ leaf.moved.same.follows.text

    pub string_lies : LiesIn (node_at q.nodes id).span q.text
    string_lies = subst (λ (v : List ℕ). LiesIn (node_at q.nodes id).span v) (sym text_same) (subst (λ (s : Span). LiesIn s p.text) (sym span_is) a.at.lies)

    pub string_is : IsString (node_at q.nodes id) q.text
    string_is = string_later q.text a k span_is text_same

    pub string_units_are : units_of (node_at q.nodes id) q.text ≡ string_units (string_inside (spelled_at p.text p.token))
    string_units_are = ap (λ (v : List ℕ). string_units (string_inside (chars (slice_range v (node_at q.nodes id).span.start (node_at q.nodes id).span.end)))) text_same ∙ ap (λ (s : Span). string_units (string_inside (chars (slice_range p.text s.start s.end)))) span_is
