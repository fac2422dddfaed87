-- What is told of a lexeme that stands here, where the parser goes on.
use Rattle.std.proofs.Common.{ℕ, ◌≡◌, true, false, not, List, [], ◌∷◌, sym, ap, subst, ◌∙◌}
use Rattle.std.proofs.lemmas.Bool.{and_from, or_left}
use Rattle.js_base.specs.declared.diagnostic.Diagnostic.{Diagnostic}
use Rattle.js_base.specs.declared.kind.Kind.{Kind}
use Rattle.js_base.specs.declared.kind.Kind.TheVariants.{RAngle}
use Rattle.js_base.specs.Kinds.{same_kind, one_of_kinds}
use Rattle.js_grammar.specs.Lexed.{NextLexeme, all_faults}
use Rattle.js_grammar.specs.Marks.{LexemeAt, a_lexeme, of_kinds}
use Rattle.js_grammar.specs.Productions.{Flags}
use Rattle.js_grammar.proofs.Looks.{same_self}
use Rattle.js_cursor.specs.Moves.{KeepsDiagnostic, is_last}
use Rattle.js_cursor.specs.Parsers.{Parser}
use Rattle.js_cursor.specs.Places.{IsAt, goal}
use Rattle.js_cursor.proofs.Later.{keeps_follows}
use Rattle.laws_shared.specs.Stands.{StandsHere}
use Rattle.laws_shared.specs.States.{At, Same, IsPlain, whole, sign, nothing as none_stands, SpansLie}
use Rattle.laws_shared.proofs.Here.{found, uncut}
use Rattle.laws_shared.specs.Classes.{IsEarly}
use Rattle.laws_shared.proofs.Classes.{kept_early}

pub beside_errors : {text : List ℕ} {f : Flags} {p : Parser} {ds : List Diagnostic} → At text f p → IsAt (record p { errors = ds }) → At text f (record p { errors = ds })
beside_errors {text} {f} {p} {ds} a i = record { text_is = a.text_is; flags_are = a.flags_are; at = i; plain = plain_of a.plain; behind = a.behind; heads = a.heads; kept_last = a.kept_last }
  where
    plain_of : IsPlain text p → IsPlain text (record p { errors = ds })
    plain_of (whole c n x) = whole c n x
    plain_of (sign c k x) = sign c k x
    plain_of (none_stands c k n) = none_stands c k n

module _ {d : Diagnostic} {p r : Parser} (k : KeepsDiagnostic d p r) where
  pub told_at : {text : List ℕ} {f : Flags} → At text f p → At text f r
  told_at {text} {f} a = subst (λ (z : Parser). At text f z) (sym k.is) (beside_errors a (subst IsAt k.is k.at))

  pub told_same : IsEarly d → Same p r
  told_same e = record { follows = keeps_follows k; options = ap (λ (z : Parser). z.options) k.is; ctx = ap (λ (z : Parser). z.ctx) k.is; depth = ap (λ (z : Parser). z.depth) k.is; visits = ap (λ (z : Parser). z.visits) k.is; early = λ h. kept_early k e h; lies = λ h. subst SpansLie (sym k.is) h }

-- the lexeme that stands here
pub lexeme_marked : {text : List ℕ} {f : Flags} {p : Parser} {k : Kind} → At text f p → StandsHere p k true → same_kind RAngle k ≡ false → is_last k ≡ false → LexemeAt (of_kinds (k ∷ [])) (goal p) p.text p.token.span
lexeme_marked {p = p} {k} a h r l =
    let y = found a (uncut a (ap (same_kind RAngle) h.0 ∙ r)) (ap is_last h.0 ∙ l) in
    record {
      lexeme = y.0;
      of_text = a_lexeme a.at.reached (subst (λ (t : List ℕ). NextLexeme all_faults t p.prev_token_end y.0) (sym a.text_is) y.1);
      is = (sym y.2.start, sym y.2.end);
      passes = and_from (one_of_kinds (k ∷ []) y.0.kind) (not y.0.escaped) (subst (λ (v : Kind). one_of_kinds (k ∷ []) v ≡ true) (sym (sym y.2.kind ∙ h.0)) (or_left (same_kind k k) false (same_self k))) (ap not (sym y.2.escaped ∙ h.1));
    }
