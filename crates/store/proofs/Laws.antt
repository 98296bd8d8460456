-- What each return of the readers needs: cells, bytes, prints.
use Rattle.std.proofs.Common.{◌≡◌, ℕ, ◌+◌, ◌%◌, ◌<◌, ◌≤◌, List, get_or, take, drop, [], ◌∷◌, refl, le-ltb, lt-ltb, eq-eqb, ne_eqb}
use Rattle.store.specs.declared.Cell.TheVariants.{Pair, Atom}
use Rattle.store.specs.Cells.{num16, kind_at, cell_at, bytes_at}
use Rattle.std.specs.List.{fold}
use Rattle.store.specs.Nodes.{mixed, print_from}

pub cell_pair : (s : List ℕ) (n l r : ℕ) → get_or s n 0 % 4 ≡ 2 → l ≡ num16 s (n + 1) → r ≡ num16 s (n + 3) → l < n → r < n → Pair l r ≡ cell_at s n
unfolding cell_at kind_at
cell_pair s n l r k el er hl hr = rw (el, er) (simp (eq-eqb _ _ k, lt-ltb _ _ (rw el at hl), lt-ltb _ _ (rw er at hr)))

pub cell_right : (s : List ℕ) (n l r : ℕ) → get_or s n 0 % 4 ≡ 2 → l ≡ num16 s (n + 1) → r ≡ num16 s (n + 3) → l < n → n ≤ r → Atom ≡ cell_at s n
unfolding cell_at kind_at
cell_right s n l r k el er hl hr = simp (eq-eqb _ _ k, lt-ltb _ _ (rw el at hl), le-ltb _ _ (rw er at hr))

pub cell_left : (s : List ℕ) (n l : ℕ) → get_or s n 0 % 4 ≡ 2 → l ≡ num16 s (n + 1) → n ≤ l → Atom ≡ cell_at s n
unfolding cell_at kind_at
cell_left s n l k el hl = simp (eq-eqb _ _ k, le-ltb _ _ (rw el at hl))

pub cell_atom : (s : List ℕ) (n : ℕ) → (get_or s n 0 % 4 ≡ 2 → ⊥) → Atom ≡ cell_at s n
unfolding cell_at kind_at
cell_atom s n k = simp (ne_eqb _ _ k)

pub bytes_form : (f s x : List ℕ) (n a k : ℕ) → x ≡ take k (drop a f) → a ≡ num16 s (n + 1) → k ≡ num16 s (n + 3) → (get_or s n 0 % 4 ≡ 1 → ⊥) → x ≡ bytes_at f s n
unfolding bytes_at kind_at
bytes_form f s x n a k e ea ek t = rw (e, ea, ek) (simp (ne_eqb _ _ t))

pub bytes_made : (f s x : List ℕ) (n a k : ℕ) → x ≡ take k (drop a s) → a ≡ num16 s (n + 1) → k ≡ num16 s (n + 3) → get_or s n 0 % 4 ≡ 1 → x ≡ bytes_at f s n
unfolding bytes_at kind_at
bytes_made f s x n a k e ea ek t = rw (e, ea, ek) (simp (eq-eqb _ _ t))

-- the print of an atom's bytes is their fold
pub print_fold : (a : ℕ) (b : List ℕ) → fold mixed a b ≡ print_from a b
unfolding print_from
print_fold a [] = refl
print_fold a (x ∷ xs) = print_fold (mixed a x) xs
