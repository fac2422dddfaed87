-- A private name as the name of a property (ECMA-262, 13.2.5), where none may stand: it is told, and read.
use Rattle.std.proofs.Common.{ℕ, ◌≡◌, ◌<◌, ◌++◌, List, [], ◌∷◌, length, None, Bool, true, false, refl, sym, ap, subst, ◌∙◌}
use Rattle.std.specs.Prelude.{Result, Ok, Err, MatchResult}
use Rattle.js_base.specs.declared.diagnostic.Diagnostic.{Diagnostic}
use Rattle.js_base.specs.declared.diagnostic.DiagnosticKind.TheVariants.{PrivateIdentifierInPropertyName}
use Rattle.js_base.specs.declared.kind.Kind.{Kind}
use Rattle.js_base.specs.declared.kind.Kind.TheVariants.{LBrack, PrivateIdentifier, Str, Undetermined}
use Rattle.js_base.specs.declared.span.Span.{Span}
use Rattle.js_base.specs.KindSets.{identifier_name_kinds, number_kinds}
use Rattle.js_base.specs.Kinds.{one_of_kinds}
use Rattle.js_grammar.specs.Marks.{Mark, the_end, the_start}
use Rattle.js_grammar.specs.Productions.{Flags, at, PrivateName}
use Rattle.js_grammar.specs.Table.{name}
use Rattle.js_grammar.proofs.Looks.{covers, apart}
use Rattle.laws_shared.specs.js_tree.declared.id.NodeId.{NodeId}
use Rattle.laws_shared.specs.js_tree.declared.kind.NodeKind.TheVariants as node
use Rattle.laws_shared.specs.js_tree.declared.op.Op.TheVariants as op
use Rattle.laws_shared.specs.js_tree.Nodes.{Node}
use Rattle.laws_shared.specs.js_tree.Holding.{Holds, Keeps}
use Rattle.laws_shared.specs.js_cursor.Moves.{KeepsDiagnostic, OnlyMemory, at_lexeme}
use Rattle.laws_shared.specs.js_cursor.Parsers.{Parser}
use Rattle.laws_shared.specs.js_cursor.Places.{IsAt, goal}
use Rattle.laws_shared.specs.js_cursor.declared.stop.Stop.{Stop}
use Rattle.laws_shared.specs.js_cursor.declared.stop.Stop.TheVariants.{Fatal, NoMemory}
use Rattle.laws_shared.proofs.js_cursor.Standing.{mark_here}
use Rattle.laws_shared.specs.Classes.{IsEarly}
use Rattle.laws_shared.specs.Answers.{Numbered, unclean}
use Rattle.laws_shared.specs.Lexemes.{Spot, Walked, spot}
use Rattle.laws_shared.specs.Moves.{TakesLeaf}
use Rattle.laws_shared.specs.States.{At}
use Rattle.laws_shared.specs.Told.{unrelated_at}
use Rattle.laws_shared.proofs.Giving.{kept_one}
use Rattle.laws_shared.proofs.Moving.{same_both}
use Rattle.laws_shared.proofs.Paths.{fails_at}
use Rattle.laws_shared.proofs.Told.{told_at, told_same}
use Rattle.laws_shared.proofs.Verdicts.{grown_on}
use Rattle.laws_primary.specs.PropertyNames.{NameRead, NamesPlainly, NoName}
use Rattle.laws_primary.proofs.Members.{private_taken}
use Rattle.laws_primary.proofs.PropertyNames.{no_computed}

-- what is told of it
pub key_marked : (p : Parser) {d : Diagnostic} → IsAt p → p.token.kind ≡ PrivateIdentifier → d ≡ unrelated_at PrivateIdentifierInPropertyName p.token.span → Mark (goal p) p.text d
key_marked p a k e = subst (λ (v : Diagnostic). Mark (goal p) p.text v) (sym e) (mark_here PrivateIdentifierInPropertyName p.token.span None a (at_lexeme (λ i. let z : PrivateIdentifier ≡ Undetermined = sym k ∙ i in cc) refl) (λ s l i. ((the_start l.of_text l.is.0, the_end l.of_text l.is.1), (refl, refl))))

-- what begins the name of a property that stands in no brackets
abbrev plain_kinds : List Kind
plain_kinds = Str ∷ number_kinds ++ identifier_name_kinds

module _ {text : List ℕ} {f : Flags} {p q : Parser} {d : Diagnostic} (a : At text f p) (k : p.token.kind ≡ PrivateIdentifier) (t : KeepsDiagnostic d p q) (e : d ≡ unrelated_at PrivateIdentifierInPropertyName p.token.span) where
  no_plain_key : NoName text false f p.prev_token_end
  unfolding covers apart
  no_plain_key = fails_at a (name false false f) plain_kinds refl (ap (one_of_kinds plain_kinds) k)

  key_read : {w : Parser} {id : NodeId} → Numbered text f (at PrivateName f) q w id → NameRead text f false p w id
  key_read {w} {id} x =
      let n : q.nodes ≡ p.nodes = ap (λ (v : Parser). v.nodes) t.is in
      record {
        at = x.answer.at;
        same = same_both (told_same t (subst (λ (v : Diagnostic). IsEarly v) (sym e) refl)) x.answer.same;
        further = subst (λ (v : ℕ). v < w.prev_token_end) (ap (λ (v : Parser). v.token.span.start) t.is) x.answer.further;
        label = x.answer.label;
        slots = x.answer.slots;
        pass = x.answer.pass;
        walked = subst (λ (v : Spot). Walked text v (spot w) x.answer.pass) (ap spot t.is) x.answer.walked;
        verdict = unclean (grown_on (kept_one t) x.answer.verdict) no_plain_key;
        other = no_computed a (λ j i. let z : PrivateIdentifier ≡ LBrack = sym k ∙ j in cc);
        holds = subst (λ (ns : List Node). Holds w.nodes (length ns) (length w.nodes) id.0 x.answer.label x.answer.slots) n x.holds;
        keeps = subst (λ (ns : List Node). Keeps ns w.nodes) n x.keeps;
      }

-- it was told, and its node was made
pub key_told : (p q w : Parser) {d : Diagnostic} (r : Result NodeId Stop) → p.token.kind ≡ PrivateIdentifier → d ≡ unrelated_at PrivateIdentifierInPropertyName p.token.span → KeepsDiagnostic d p q → MatchResult r (λ id. TakesLeaf node.PrivateIdentifier op.None q w id) OnlyMemory → NamesPlainly p w r
key_told p q w (Ok id) k e t m = λ text f a. key_read a k t e (private_taken text f q w id (told_at t a) (ap (λ (v : Parser). v.token.kind) t.is ∙ k) m)
key_told p q w (Err Fatal) k e t m = absurd m
key_told p q w (Err NoMemory) k e t m = λ text f a. tt
