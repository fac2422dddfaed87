-- Names of elements of classes (ECMA-262, 15.7): those of properties, and private names.
use Rattle.std.proofs.Common.{ℕ, ◌≡◌, max, Bool, true, false, not, List, [], ◌∷◌, Some, refl, ap, arith}
use Rattle.std.specs.Prelude.{Result, Ok, Err}
use Rattle.js_base.specs.declared.kind.Kind.TheVariants.{LBrack, PrivateIdentifier, Str}
use Rattle.js_base.specs.KindSets.{identifier_name_kinds}
use Rattle.js_base.specs.Kinds.{one_of_kinds}
use Rattle.js_grammar.specs.Trees.{end, tree}
use Rattle.js_grammar.specs.Grammar.{never, nothing, ◌▸◌}
use Rattle.js_grammar.specs.Parsing.{Test, plain, full, still, Goes, Fails}
use Rattle.js_grammar.specs.Productions.{G, Flags, at, PrivateName}
use Rattle.js_grammar.specs.Productions.{sym as symbol}
use Rattle.js_grammar.specs.Table.{rule, name}
use Rattle.js_grammar.proofs.Looks.{covers, apart}
use Rattle.js_grammar.proofs.Calculus.{◌▹◌, ◌▹✗◌, both, part_fails, passes_none, stay, then_by}
use Rattle.laws_primary.specs.declared.forms.PropertyName.{PropertyName}
use Rattle.laws_primary.specs.js_tree.declared.id.NodeId.{NodeId}
use Rattle.laws_primary.specs.js_cursor.Parsers.{Parser}
use Rattle.laws_primary.specs.js_cursor.declared.stop.Stop.{Stop}
use Rattle.laws_primary.specs.laws_shared.Answers.{Numbered}
use Rattle.laws_primary.specs.laws_shared.Arguments.{Partway}
use Rattle.laws_primary.specs.laws_shared.Lexemes.{Lex}
use Rattle.laws_primary.specs.laws_shared.States.{At}
use Rattle.laws_primary.proofs.laws_shared.Moving.{stops_so}
use Rattle.laws_primary.proofs.laws_shared.Paths.{Path, ◌⟼◌, at_kind, fails_at, last_called}
use Rattle.laws_primary.proofs.laws_shared.Signs.{other_kind}
use Rattle.laws_primary.proofs.laws_shared.Verdicts.{verdict_of}
use Rattle.laws_primary.specs.PropertyNames.{NameRead, NamesProperty, NoName}
use Rattle.laws_primary.proofs.Properties.{word_apart}
use Rattle.laws_primary.proofs.Wholes.{whole_part}
use Rattle.laws_classes.specs.Names.{KeyRead, NamesElement, NoKey}

-- ---- no private name stands here

module _ {text : List ℕ} {f : Flags} {p : Parser} (a : At text f p) (o : one_of_kinds (PrivateIdentifier ∷ []) p.token.kind ≡ false) where
  no_private : {X : Test} → Fails rule (Lex text) X end (symbol PrivateName f) p.prev_token_end
  unfolding covers apart
  no_private = fails_at a (symbol PrivateName f) (PrivateIdentifier ∷ []) refl o

  -- so a name is that of a property
  to_never : {X : Test} {g : G} → Fails rule (Lex text) X end g p.prev_token_end → Goes rule (Lex text) X end g p.prev_token_end never p.prev_token_end (λ us. us) (still 0)
  to_never n = record { passes = passes_none; sound = λ us vs k ls rest l w d. elim d [ ]; only = λ ts vs k ls rest l d e. absurd (n.no ts vs k ls rest l d e) }

  public_name : {X : Test} (c : Bool) → Goes rule (Lex text) X end (name c true f) p.prev_token_end (name c false f) p.prev_token_end (λ us. us) (still 0)
  public_name true = stay
  public_name false = both stay (both stay (both stay (to_never no_private)))

  no_key : (c : Bool) → NoName text c f p.prev_token_end → NoKey text c f p.prev_token_end
  no_key c n = public_name c ▹✗ n

  -- what was read as the name of a property
  key_read : (c : Bool) {q : Parser} {id : NodeId} → NameRead text f c p q id → KeyRead text f c p q id
  key_read c x = record {
    whole = record { at = x.at; same = x.same; further = x.further; label = x.label; slots = x.slots; pass = x.pass; walked = x.walked; verdict = verdict_of x.verdict (λ y. record { reach = max 0 y.reach; near = let i = y.near in omega arith; goes = public_name c ▹ y.goes }) (λ n. no_key c n); holds = x.holds; keeps = x.keeps };
    other = no_key (not c) x.other;
  }

-- as a word
pub word_key : {text : List ℕ} {f : Flags} {p q : Parser} {id : NodeId} → At text f p → one_of_kinds identifier_name_kinds p.token.kind ≡ true → NameRead text f false p q id → KeyRead text f false p q id
unfolding apart
word_key {p = p} a w x = key_read a (word_apart (PrivateIdentifier ∷ []) refl p.token.kind w) false x

-- as a string
pub string_key : {text : List ℕ} {f : Flags} {p q : Parser} {id : NodeId} → At text f p → p.token.kind ≡ Str → NameRead text f false p q id → KeyRead text f false p q id
string_key a k x = key_read a (ap (one_of_kinds (PrivateIdentifier ∷ [])) k) false x

pub names_public : (p q : Parser) (r : Result PropertyName Stop) → (p.token.kind ≡ PrivateIdentifier → ⊥) → NamesProperty p q r → NamesElement p q r
names_public p q (Ok n) o x = λ text f a. key_read a (other_kind PrivateIdentifier p.token.kind o) n.computed (x text f a)
names_public p q (Err e) o x = λ text f a. stops_so p q e (λ n c. no_key a (other_kind PrivateIdentifier p.token.kind o) c (n c)) (x text f a)

-- ---- one does

pub private_key : {text : List ℕ} {f : Flags} {p q : Parser} {id : NodeId} → At text f p → p.token.kind ≡ PrivateIdentifier → Numbered text f (at PrivateName f) p q id → KeyRead text f false p q id
unfolding covers apart
private_key {text} {f} {p} {q} a k x = record {
  whole = record { at = x.answer.at; same = x.answer.same; further = x.answer.further; label = x.answer.label; slots = x.answer.slots; pass = y.pass; walked = y.walked; verdict = y.verdict; holds = x.holds; keeps = x.keeps };
  other = fails_at a (name true true f) (LBrack ∷ []) refl (ap (one_of_kinds (LBrack ∷ [])) k);
}
  where
    y : Path text f (plain full) (name false true f) p nothing q (tree x.answer.label x.answer.slots)
    y = at_kind a PrivateIdentifier k refl ⟼ last_called x.answer (record { admits = λ ts vs k ls rest d e. (refl, refl) })

-- ---- what was read

-- it is the next child
pub key_part : {text : List ℕ} {f : Flags} {c : Bool} {p q : Parser} {id : NodeId} {b : G} → KeyRead text f c p q id → Partway text f (name c true f ▸ b) b p q [] (Some id ∷ [])
key_part x = whole_part x.whole []

-- a path over it
pub key_path : {text : List ℕ} {f : Flags} {c : Bool} {p q : Parser} {id : NodeId} {X : Test} {b : G} (x : KeyRead text f c p q id) → Path text f X (name c true f ▸ b) p b q (tree x.whole.label x.whole.slots)
key_path x = record {
  at = x.whole.at;
  further = x.whole.further;
  pass = x.whole.pass;
  walked = x.whole.walked;
  verdict = verdict_of x.whole.verdict
      (λ y. record { reach = y.reach; near = y.near; goes = then_by {X' = plain full} y.goes (record { admits = λ ts us vs j k ls mid rest d d' e. (refl, refl) }) })
      (λ n. part_fails {X' = plain full} n (record { admits = λ ts us vs j k ls mid rest d d' e. (refl, refl) }));
}
