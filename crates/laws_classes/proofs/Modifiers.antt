-- Modifiers of TypeScript before the names of members: they are told, and no field ends behind one.
use Rattle.std.proofs.Common.{ℕ, ◌≡◌, inl, inr, Bool, true, false, not, ◌&&◌, ◌||◌, IsTrue, List, [], ◌∷◌, None, refl, sym, ap, subst, ◌∙◌}
use Rattle.std.specs.Prelude.{Result, Err, if◌then◌else◌}
use Rattle.std.proofs.lemmas.Bool.{and_from, false≢true}
use Rattle.js_base.specs.declared.diagnostic.DiagnosticKind.TheVariants.{ModifierInTs}
use Rattle.js_base.specs.declared.kind.Kind.{Kind}
use Rattle.js_base.specs.declared.kind.Kind.TheVariants.{Eq, Ident, Private, Protected, Public}
use Rattle.js_base.specs.declared.span.Span.{Span}
use Rattle.js_base.specs.declared.token.Token.{Token}
use Rattle.js_base.specs.Kinds.{one_of_kinds}
use Rattle.js_base.specs.Spans.{LiesIn}
use Rattle.js_base.specs.Texts.{words}
use Rattle.js_grammar.specs.Grammar.{Lexeme, last, next}
use Rattle.js_grammar.specs.Insertion.{begins_name}
use Rattle.js_grammar.specs.Lexed.{NextLexeme, all_faults}
use Rattle.js_grammar.specs.LexicalFaults.{Reached}
use Rattle.js_grammar.specs.Marks.{Mark, of_kinds}
use Rattle.js_grammar.specs.Productions.{Flags}
use Rattle.js_grammar.proofs.Looks.{apart, covered, covers, not_both}
use Rattle.laws_primary.specs.js_tree.Nodes.{Node}
use Rattle.laws_primary.specs.js_cursor.Moves.{GivesUp, MayEnd, ends_statement}
use Rattle.laws_primary.specs.js_cursor.Parsers.{Parser}
use Rattle.laws_primary.specs.js_cursor.Places.{goal}
use Rattle.laws_primary.specs.js_cursor.declared.stop.Stop.{Stop}
use Rattle.laws_primary.specs.laws_shared.Classes.{EndsParse}
use Rattle.laws_primary.specs.laws_shared.Lexemes.{keyword_kind}
use Rattle.laws_primary.specs.laws_shared.Moves.{Moved}
use Rattle.laws_primary.specs.laws_shared.States.{At}
use Rattle.laws_primary.specs.laws_shared.Told.{unrelated_at}
use Rattle.laws_primary.proofs.laws_shared.Giving.{gives_up}
use Rattle.laws_primary.proofs.laws_shared.Here.{found, uncut}
use Rattle.laws_primary.specs.declared.forms.PropertyName.{PropertyName}
use Rattle.laws_classes.specs.declared.forms.ElementHead.{ElementHead}
use Rattle.laws_classes.specs.declared.forms.FieldKind.TheVariants.{Property}
use Rattle.laws_classes.specs.Elements.{element_flags, name_kinds}
use Rattle.laws_classes.specs.Fields.{ReadsField, node_of_field}
use Rattle.laws_classes.specs.Modifiers.{PassedLast, is_modifier}
use Rattle.laws_classes.proofs.Fields.{bare_stops}
use Rattle.laws_classes.proofs.NameLexemes.{name_passable, name_plain}

-- a token that was passed
pub passed_last : {text : List ℕ} {f : Flags} {p q : Parser} (t : Token) → t ≡ p.token → At text f p → Moved text f p q → PassedLast t q
passed_last {p = p} {q = q} t e a m = subst (λ (v : Token). PassedLast v q) (sym e) (record {
  place = p.prev_token_end;
  lexeme = m.lexeme;
  reached = subst (λ (v : List ℕ). Reached v p.prev_token_end) (sym m.same.follows.text) a.at.reached;
  stood = subst (λ (v : List ℕ). NextLexeme all_faults v p.prev_token_end m.lexeme) (sym m.at.text_is) m.stood;
  tells = m.tells;
  ends = m.ends;
  lies = subst (λ (v : List ℕ). LiesIn p.token.span v) (sym m.same.follows.text) a.at.lies;
})

-- other nodes change nothing of it
pub passed_beside : {t : Token} {p q : Parser} → q ≡ record p { nodes = q.nodes } → PassedLast t p → PassedLast t q
passed_beside {t} {p} {q} e l = go q.nodes e
  where
    go : (ns : List Node) → q ≡ record p { nodes = ns } → PassedLast t q
    go ns i = subst (λ (v : Parser). PassedLast t v) (sym i) (record { place = l.place; lexeme = l.lexeme; reached = l.reached; stood = l.stood; tells = l.tells; ends = l.ends; lies = l.lies })

abbrev modifier_kinds : List Kind
modifier_kinds = Private ∷ Protected ∷ Public ∷ []

-- what stands before a name, and on its line
chosen : (b c d : Bool) → (if not b || c then false else d) ≡ true → (b ≡ true) × (c ≡ false) × (d ≡ true)
chosen true false d h = (refl, refl, h)
chosen true true d h = absurd (false≢true h)
chosen false c d h = absurd (false≢true h)

-- one has no escape
plain_modifier : (t : Token) → one_of_kinds modifier_kinds (keyword_kind t) ≡ true → (one_of_kinds modifier_kinds t.kind ≡ true) × (t.escaped ≡ false)
plain_modifier t h = by t.escaped refl
  where
    by : (b : Bool) → t.escaped ≡ b → (one_of_kinds modifier_kinds t.kind ≡ true) × (t.escaped ≡ false)
    by true e = absurd (let z : keyword_kind t ≡ Ident = rw e refl in false≢true (ap (one_of_kinds modifier_kinds) (sym z) ∙ h))
    by false e = (let z : keyword_kind t ≡ t.kind = rw e refl in ap (one_of_kinds modifier_kinds) (sym z) ∙ h, e)

module _ {text : List ℕ} {f : Flags} {p : Parser} (t : Token) (a : At text f p) (h : is_modifier t p.token ≡ true) where
  parts : (one_of_kinds name_kinds p.token.kind ≡ true) × (p.token.is_on_new_line ≡ false) × (one_of_kinds modifier_kinds (keyword_kind t) ≡ true)
  parts = chosen (one_of_kinds name_kinds p.token.kind) p.token.is_on_new_line (one_of_kinds modifier_kinds (keyword_kind t)) h

  -- the name that stands there
  named : (y : Lexeme) × NextLexeme all_faults text p.prev_token_end y × IsTrue (not y.newline && begins_name y.kind y.newline y.escaped)
  unfolding covers words
  named =
      let z = found a (uncut a (name_plain a parts.0).0) (name_passable a parts.0) in
      (z.0, z.1, and_from (not z.0.newline) (begins_name z.0.kind z.0.newline z.0.escaped) (ap not (sym z.2.newline ∙ parts.1)) (covered (λ k w e. one_of_kinds name_kinds k) begins_name refl z.0.kind z.0.newline z.0.escaped (subst (λ (v : Kind). one_of_kinds name_kinds v ≡ true) z.2.kind parts.0)))

  -- it has its mark
  pub modifier_marked : (s : Span) → s ≡ t.span → PassedLast t p → Mark (goal p) p.text (unrelated_at ModifierInTs s)
  modifier_marked s e l = subst (λ (v : Span). Mark (goal p) p.text (unrelated_at ModifierInTs v)) (sym e) (record {
    ordered = l.lies.ordered;
    within = l.lies.ends_whole.0;
    begins_between = l.lies.starts_whole;
    ends_between = l.lies.ends_whole;
    stands = (
      record {
        place = l.place;
        first = l.lexeme;
        second = named.0;
        part = record { reached = l.reached; lexed = (l.stood, subst (λ (v : ℕ). NextLexeme all_faults p.text v named.0) (sym l.ends) (subst (λ (v : List ℕ). NextLexeme all_faults v p.prev_token_end named.0) (sym a.text_is) named.1)) };
        is = (sym l.tells.start, sym l.tells.end);
        passes = and_from (of_kinds modifier_kinds l.lexeme) _ (and_from (one_of_kinds modifier_kinds l.lexeme.kind) (not l.lexeme.escaped) (subst (λ (v : Kind). one_of_kinds modifier_kinds v ≡ true) l.tells.kind (plain_modifier t parts.2).0) (ap not (sym l.tells.escaped ∙ (plain_modifier t parts.2).1))) named.2;
      },
      (refl, refl),
    );
  })

  unended : MayEnd p → ⊥
  unfolding apart
  unended (inl e) = not_both (λ k w e. ends_statement k) (λ k w e. one_of_kinds name_kinds k) refl p.token.kind false false e parts.0
  unended (inr e) = false≢true (sym parts.1 ∙ e)

  -- no field of that name is read
  pub modifier_stops : (head : ElementHead) (n : PropertyName) (q : Parser) (e : Stop) → GivesUp EndsParse p q e → ReadsField head Property n p q (Err e)
  modifier_stops head n q e g = λ text f s i g0 first r b j d. bare_stops b (node_of_field Property) (element_flags head.is_static n.computed) d (λ k. false≢true (ap (one_of_kinds name_kinds) (sym k) ∙ parts.0)) q e (gives_up EndsParse p q e d.named.whole.at g (λ v u. u) (inr unended))
