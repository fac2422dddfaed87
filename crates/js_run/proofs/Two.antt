-- Lists of one element and of two.
use Rattle.std.proofs.Common.{ℕ, ◌≡◌, List, [], ◌∷◌, length, map, get_or, ap, arith, sym, ◌∙◌}

pub map_one : {T U : Type 0} (f : T → U) (ws : List T) (a : T) → length ws ≡ 1 → a ≡ get_or ws 0 a → map f ws ≡ f a ∷ []
map_one f [] a e p = absurd (omega arith)
map_one f (x ∷ []) a e p = ap (λ z. f z ∷ []) (sym p)
map_one f (x ∷ (y ∷ xs)) a e p = absurd (omega arith)

pub map_two : {T U : Type 0} (f : T → U) (ws : List T) (a b : T) → length ws ≡ 2 → a ≡ get_or ws 0 a → b ≡ get_or ws 1 b → map f ws ≡ f a ∷ f b ∷ []
map_two f [] a b e p q = absurd (omega arith)
map_two f (x ∷ []) a b e p q = absurd (omega arith)
map_two f (x ∷ (y ∷ [])) a b e p q = ap (λ z. f z ∷ f y ∷ []) (sym p) ∙ ap (λ z. f a ∷ f z ∷ []) (sym q)
map_two f (x ∷ (y ∷ (z ∷ zs))) a b e p q = absurd (omega arith)
