-- What holds when a diagnostic has been kept; what stands at the current lexeme.
use Rattle.std.proofs.Common.{◌≡◌, List, [], ◌∷◌, ◌++◌, sym, ap, subst}
use Rattle.std.proofs.lemmas.List.Elements.{All-same, All-push}
use Rattle.js_base.specs.declared.diagnostic.Diagnostic.{Diagnostic}
use Rattle.js_tree.specs.js_grammar.Marks.{Mark}
use Rattle.js_cursor.specs.Parsers.{Parser}
use Rattle.js_cursor.specs.Places.{IsAt, goal}
use Rattle.js_cursor.specs.Moves.{KeepsDiagnostic}

kept : {p : Parser} {d : Diagnostic} {ds : List Diagnostic} → IsAt p → Mark (goal p) p.text d → ds ≡ p.errors ++ d ∷ [] → KeepsDiagnostic d p (record p { errors = ds })
kept {p} {d} {ds} a m e = record {
  is = ap (λ v. record p { errors = v }) e;
  at = record {
    reads = a.reads;
    reads_for = a.reads_for;
    utf8 = a.utf8;
    short = a.short;
    reached = a.reached;
    between = a.between;
    token = a.token;
    lies = a.lies;
    last = a.last;
    marked = All-same (Mark (goal p) p.text) ds (p.errors ++ d ∷ []) e (All-push (Mark (goal p) p.text) p.errors d a.marked m);
    faulty = a.faulty;
    noted = a.noted;
  };
}

pub kept_seen : {p q : Parser} → p ≡ q → {d : Diagnostic} → IsAt q → Mark (goal q) q.text d → {ds : List Diagnostic} → ds ≡ p.errors ++ d ∷ [] → KeepsDiagnostic d q (record p { errors = ds })
kept_seen {p} {q} v {d} a m {ds} e = subst (λ r. KeepsDiagnostic d r (record p { errors = ds })) v (kept (subst IsAt (sym v) a) (subst (λ r. Mark (goal r) r.text d) (sym v) m) e)
