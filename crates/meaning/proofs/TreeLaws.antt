-- Laws of the tests on trees. Assumes nothing.
use Prim.Native.Nat.{ℕ}
use mathlib.Core.Path.{◌≡◌, refl, ap, ap₂}
use mathlib.Core.List.{List, [], ◌∷◌}
use mathlib.Core.Bool.{true}
use mathlib.Core.Option.{Option, none, some}
use Rattle.meaning.proofs.Tests.{not_false, and_inv, eqb_sound}
use Rattle.meaning.specs.Tree.{Tree, atom, pair, enlist, same_bytes, equal_to, proper_list, is_byte, is_empty}

pub same_bytes_sound : (a b : List ℕ) → same_bytes a b ≡ true → a ≡ b
unfolding same_bytes
same_bytes_sound [] [] h = refl
same_bytes_sound [] (y ∷ ys) h = not_false h
same_bytes_sound (x ∷ xs) [] h = not_false h
same_bytes_sound (x ∷ xs) (y ∷ ys) h =
    let (p, q) = and_inv _ _ h in
    ap₂ ◌∷◌ (eqb_sound x y p) (same_bytes_sound xs ys q)

pub equal_to_sound : (t u : Tree) → equal_to t u ≡ true → t ≡ u
unfolding equal_to
equal_to_sound (atom a) (atom b) h = ap atom (same_bytes_sound a b h)
equal_to_sound (atom a) (pair c d) h = not_false h
equal_to_sound (pair a b) (atom c) h = not_false h
equal_to_sound (pair a b) (pair c d) h =
    let (p, q) = and_inv _ _ h in
    ap₂ pair (equal_to_sound a c p) (equal_to_sound b d q)

pub is_byte_sound : (k : ℕ) (b : List ℕ) → is_byte k b ≡ true → b ≡ k ∷ []
unfolding is_byte
is_byte_sound k [] h = not_false h
is_byte_sound k (b ∷ []) h = ap (◌∷ []) (eqb_sound b k h)
is_byte_sound k (b ∷ c ∷ bs) h = not_false h

pub is_empty_sound : (b : List ℕ) → is_empty b ≡ true → b ≡ []
unfolding is_empty
is_empty_sound [] h = refl
is_empty_sound (b ∷ bs) h = not_false h

-- a list that ends in nil is the list of its elements
pub proper_list_sound : (t : Tree) (es : List Tree) → proper_list t ≡ some es → t ≡ enlist es
unfolding proper_list enlist
proper_list_sound (atom []) es h = let e : [] ≡ es = cc in rw (← e)
proper_list_sound (atom (b ∷ bs)) es h = cc
proper_list_sound (pair t r) es h = go (proper_list r) (proper_list_sound r) h
  where
    go : (o : Option (List Tree)) → ((ts : List Tree) → o ≡ some ts → r ≡ enlist ts) → elim o [ none ↦ none | some ts ↦ some (t ∷ ts) ] ≡ some es → pair t r ≡ enlist es
    go none ih k = cc
    go (some ts) ih k = let e : t ∷ ts ≡ es = cc in rw (← e) (ap (pair t) (ih ts refl))
