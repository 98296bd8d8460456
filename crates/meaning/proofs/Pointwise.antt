-- Two lists whose elements stand in a relation, place by place. Assumes nothing.
use Prim.Native.Nat.{suc}
use mathlib.Core.Path.{◌≡◌, refl, ap}
use mathlib.Core.List.{List, [], ◌∷◌}
use lib.ListN.{length}

pub data Pointwise {A B : Type 0} (R : A → B → Type 0) : List A → List B → Type 0 where
  no_more : Pointwise R [] []
  one_more : {x : A} {y : B} {xs : List A} {ys : List B} → R x y → Pointwise R xs ys → Pointwise R (x ∷ xs) (y ∷ ys)

-- the two lists are of one length
pub pointwise_length : {A B : Type 0} {R : A → B → Type 0} {xs : List A} {ys : List B} → Pointwise R xs ys → length xs ≡ length ys
pointwise_length no_more = refl
pointwise_length (one_more r rs) = ap suc (pointwise_length rs)

-- a weaker relation
pub pointwise_map : {A B : Type 0} {R Q : A → B → Type 0} → ((a : A) (b : B) → R a b → Q a b)
    → {xs : List A} {ys : List B} → Pointwise R xs ys → Pointwise Q xs ys
pointwise_map f no_more = no_more
pointwise_map f (one_more r rs) = one_more (f _ _ r) (pointwise_map f rs)
