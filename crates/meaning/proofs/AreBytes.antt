-- Lists of bytes, put together and taken apart. Assumes nothing.
use Prim.Native.Nat.{ℕ, zero, suc, ◌<◌}
use mathlib.Core.List.{List, [], ◌∷◌, ◌++◌}
use native.Mathlib.Omega.{arith}
use Rattle.meaning.specs.Form.{IsBytes}

pub bytes_none : IsBytes []
unfolding IsBytes
bytes_none i = omega arith

pub bytes_cons : (b : ℕ) (l : List ℕ) → b < 256 → IsBytes l → IsBytes (b ∷ l)
unfolding IsBytes
bytes_cons b l h k zero = h
bytes_cons b l h k (suc i) = k i

pub bytes_first : (b : ℕ) (l : List ℕ) → IsBytes (b ∷ l) → b < 256
unfolding IsBytes
bytes_first b l h = h 0

pub bytes_both : (k l : List ℕ) → IsBytes k → IsBytes l → IsBytes (k ++ l)
unfolding IsBytes
bytes_both [] l h i = i
bytes_both (x ∷ k) l h i = bytes_cons x (k ++ l) (bytes_first x k h) (bytes_both k l (λ j. h (suc j)) i)

pub bytes_before : (k l : List ℕ) → IsBytes (k ++ l) → IsBytes k
unfolding IsBytes
bytes_before [] l h = bytes_none
bytes_before (x ∷ k) l h = bytes_cons x k (bytes_first x (k ++ l) h) (bytes_before k l (λ i. h (suc i)))

pub bytes_after : (k l : List ℕ) → IsBytes (k ++ l) → IsBytes l
unfolding IsBytes
bytes_after [] l h = h
bytes_after (x ∷ k) l h = bytes_after k l (λ i. h (suc i))
