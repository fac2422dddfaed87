-- A stack of items, each of which means a list; what the stack means is the list of its top, then that of the next.
use Rattle.std.proofs.Common.{◌≡◌, List, [], ◌∷◌, ◌++◌, refl, ap, sym, ◌∙◌, append_assoc, append-nil}

-- from its top, which is the list's last, on down
pub data Stacked {P T : Type 0} (Means : P → List T → Type 0) : List P → List T → Type 0 where
  bottom : {t : List T} → t ≡ [] → Stacked Means [] t
  above : {p : P} {ps : List P} {t : List T} (u v : List T) → Means p v → Stacked Means ps u → t ≡ u ++ v → Stacked Means (p ∷ ps) t

pub Stacked-push : {P T : Type 0} {Means : P → List T → Type 0} (ps : List P) (p : P) (u v : List T) → Stacked Means ps u → Means p v → Stacked Means (ps ++ p ∷ []) (v ++ u)
Stacked-push [] p u v (bottom e) s = above [] v s (bottom refl) (ap (λ w. v ++ w) e ∙ append-nil v)
Stacked-push (q ∷ ps) p u v (above x y a r e) s = above (v ++ x) y a (Stacked-push ps p x v r s) (ap (λ w. v ++ w) e ∙ sym (append_assoc v x y))

pub record Popped {P T : Type 0} (Means : P → List T → Type 0) (ps : List P) (p : P) (t : List T) : Type 0 where
  pub own : List T
  pub rest : List T
  pub means : Means p own
  pub stacked : Stacked Means ps rest
  pub whole : t ≡ own ++ rest

pub Stacked-pop : {P T : Type 0} {Means : P → List T → Type 0} (ps : List P) (p : P) (t : List T) → Stacked Means (ps ++ p ∷ []) t → Popped Means ps p t
Stacked-pop [] p t (above u v s (bottom e) q) = record { own = v; rest = []; means = s; stacked = bottom refl; whole = q ∙ ap (λ w. w ++ v) e ∙ sym (append-nil v) }
Stacked-pop (o ∷ ps) p t (above u v s r q) = let x = Stacked-pop ps p u r in record { own = x.own; rest = x.rest ++ v; means = x.means; stacked = above x.rest v s x.stacked refl; whole = q ∙ ap (λ w. w ++ v) x.whole ∙ append_assoc x.own x.rest v }

pub Stacked-none : {P T : Type 0} {Means : P → List T → Type 0} {t : List T} → Stacked Means [] t → t ≡ []
Stacked-none (bottom e) = e

pub Stacked-one : {P T : Type 0} {Means : P → List T → Type 0} (p : P) (v : List T) → Means p v → Stacked Means (p ∷ []) v
Stacked-one p v m = above [] v m (bottom refl) refl
