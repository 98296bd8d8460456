-- Bytes compared with a tree that would be written: what each return needs. Assumes nothing.
use Rattle.std.specs.Prelude.{Option, Some, None}
use mathlib.Core.Path.{◌≡◌, refl, sym, ◌∙◌, ap}
use mathlib.Core.List.{List, [], ◌∷◌, ◌++◌}
use mathlib.Core.Bool.{Bool, true, false, ◌&&◌}
use Prim.Native.Nat.{ℕ, suc, ◌+◌, ◌-◌, ◌<◌, ◌≤◌}
use native.Mathlib.Omega.{arith}
use native.Mathlib.Decide.{dec_le}
use lib.Dec.{eqb, leb, ltb}
use lib.ListN.{length, take, drop, get_or, length-append, length-drop}
use lib.Seq.{drop-cons, drop-drop, take_at, take_all}
use borrow.Author.Tests.{lt-ltb, eq-eqb, ne_eqb}
use Rattle.std.specs.Cmp.Lexicographic.{pointwise}
use Rattle.meaning.specs.Tree.{atom, same_bytes}
use Rattle.meaning.specs.Form.{write, write_length, write_atom}
use Rattle.meaning.proofs.Tests.{on_bool, leb_yes, not_true}
use Rattle.store.specs.declared.Cell.{Cell}
use Rattle.store.specs.declared.Cell.TheVariants.{Pair, Atom}
use Rattle.store.specs.Cells.{cell_at, bytes_at}
use Rattle.store.specs.Nodes.{tree_at}
use Rattle.store.proofs.Places.{whether}
use Rattle.store.proofs.Trees.{tree_pair, tree_atom}
use Rattle.form.specs.Writes.{Wrote, stands, followed}

-- ---- bytes that stand at a place

-- bytes of another length are other bytes
pub same_long : (x y : List ℕ) → (length x ≡ length y → ⊥) → same_bytes x y ≡ false
unfolding same_bytes
same_long [] [] h = absurd (h refl)
same_long [] (b ∷ y) h = refl
same_long (a ∷ x) [] h = refl
same_long (a ∷ x) (b ∷ y) h = rw (same_bytes, same_long x y (λ e. h (ap suc e))) (and_false (eqb a b))
  where
    and_false : (b : Bool) → (b && false) ≡ false
    and_false true = refl
    and_false false = refl

and_assoc : (a b c : Bool) → (a && (b && c)) ≡ ((a && b) && c)
and_assoc true b c = refl
and_assoc false b c = refl

-- of two pieces, the second stands behind the first
front_both : (x v w : List ℕ) → same_bytes (take (length (v ++ w)) x) (v ++ w) ≡ (same_bytes (take (length v) x) v && same_bytes (take (length w) (drop (length v) x)) w)
unfolding same_bytes
front_both x [] w = refl
front_both [] (b ∷ v) w = refl
front_both (a ∷ x) (b ∷ v) w = ap (eqb a b &&◌) (front_both x v w) ∙ and_assoc (eqb a b) _ _

module _ (f : List ℕ) (at : ℕ) where
  pub stands_both : (v w : List ℕ) → stands f at (v ++ w) ≡ (stands f at v && stands f (at + length v) w)
  unfolding stands
  stands_both v w = front_both (drop at f) v w ∙ ap (λ (x : List ℕ). same_bytes (take (length v) (drop at f)) v && same_bytes (take (length w) x) w) (drop-drop (length v) at f)

  -- where too few bytes are left, nothing stands
  pub stands_short : (w : List ℕ) → length f - at < length w → stands f at w ≡ false
  unfolding stands
  stands_short w l =
      let z : length (drop at f) ≡ length f - at = length-drop at f in
      let t : take (length w) (drop at f) ≡ drop at f = take_all (length w) (drop at f) (omega (arith, z)) in
      same_long (take (length w) (drop at f)) w (λ e. let y : length (drop at f) ≡ length w = ap (λ (x : List ℕ). length x) (sym t) ∙ e in absurd (omega (arith, z, y)))

  -- what stands ends within f
  pub stands_within : (w : List ℕ) → at ≤ length f → stands f at w ≡ true → at + length w ≤ length f
  stands_within w l h = go (dec_le (at + length w) (length f))
    where
      go : Dec (at + length w ≤ length f) → at + length w ≤ length f
      go (yes m) = m
      go (no m) = not_true (sym h ∙ stands_short w (omega (arith, m)))

-- ---- stands_at

eqb_swap : (a b : ℕ) → eqb a b ≡ eqb b a
eqb_swap a b = whether a b (λ e. rw e) (λ n. ne_eqb a b n ∙ sym (ne_eqb b a (λ e. n (sym e))))

-- the two tests of bytes are one
bytes_tested : (x y : List ℕ) → pointwise eqb y x ≡ same_bytes x y
unfolding same_bytes
bytes_tested [] [] = refl
bytes_tested [] (b ∷ y) = refl
bytes_tested (a ∷ x) [] = refl
bytes_tested (a ∷ x) (b ∷ y) = rw (eqb_swap b a, bytes_tested x y)

pub stands_part : (f b : List ℕ) (at : ℕ) (r : Bool) → r ≡ pointwise eqb b (take (length b) (take (length f - at) (drop at f))) → r ≡ stands f at b
unfolding stands
stands_part f b at r e =
    let z : take (length f - at) (drop at f) ≡ drop at f = take_all (length f - at) (drop at f) (simp length-drop (omega arith)) in
    e ∙ rw z (bytes_tested (take (length b) (drop at f)) b)

-- ---- followed

module _ (f : List ℕ) (at : ℕ) (w : List ℕ) where
  pub follows : stands f at w ≡ true → followed f at w ≡ Some (at + length w)
  unfolding followed
  follows h = rw (h, followed)

  pub follows_not : stands f at w ≡ false → followed f at w ≡ None
  unfolding followed
  follows_not h = rw (h, followed)

-- ---- follow_atom

-- an atom as short as the store's is written in 258 bytes
written_few : (b : List ℕ) → length b ≤ 256 → length (write_atom b) ≤ 258
unfolding write_atom write_length
written_few [] l = omega arith
written_few (x ∷ []) l = on_bool (ltb x 128) (λ e. rw (e, write_atom) (omega arith)) (λ e. rw (e, write_atom) (omega arith))
written_few (x ∷ y ∷ b) l =
    let n : ℕ = length (x ∷ y ∷ b) in
    let z : length (write_length n) ≤ 2 = on_bool (ltb n 64) (λ e. rw (e, write_length) (omega arith)) (λ e. rw (e, write_length, lt-ltb n 8192 (omega arith)) (omega arith)) in
    omega (arith, z, length-append (write_length n) (x ∷ y ∷ b))

pub buffer_fits : (b buf : List ℕ) → length b ≤ 256 → leb 258 (length buf) ≡ true → length (write_atom b) ≤ length buf
buffer_fits b buf l h = let z = written_few b l in omega (arith, z, leb_yes 258 (length buf) h)

module _ (f b buf buf₁ : List ℕ) (at k : ℕ) (d : Wrote (write_atom b) k buf buf₁) where
  pub prefix_few : k ≤ length buf₁
  prefix_few = omega (arith, d.count, ap (λ (x : List ℕ). length x) d.bytes, length-append (write_atom b) (drop (length (write_atom b)) buf))

  atom_front : take k buf₁ ≡ write_atom b
  atom_front = ap (take k) d.bytes ∙ take_at (write_atom b) (drop (length (write_atom b)) buf) k (sym d.count)

  module _ (r : Bool) (er : r ≡ stands f at (take k buf₁)) where
    pub atom_stands : r ≡ true → Some (at + k) ≡ followed f at (write_atom b)
    atom_stands e = let z : stands f at (write_atom b) ≡ true = ap (stands f at) (sym atom_front) ∙ sym er ∙ e in ap (λ (n : ℕ). Some (at + n)) d.count ∙ sym (follows f at (write_atom b) z)

    pub atom_off : r ≡ false → None ≡ followed f at (write_atom b)
    atom_off e = sym (follows_not f at (write_atom b) (ap (stands f at) (sym atom_front) ∙ sym er ∙ e))

-- ---- follow_node

stands_first : (f : List ℕ) (at x : ℕ) (w : List ℕ) → at < length f → stands f at (x ∷ w) ≡ (eqb (get_or f at 0) x && stands f (suc at) w)
unfolding stands same_bytes
stands_first f at x w l = rw (drop-cons f at 0 l)

module _ (f s : List ℕ) (n l r at : ℕ) (q : Cell) (ep : q ≡ Pair l r) (eq : q ≡ cell_at s n) where
  pair_written : write (tree_at f s n) ≡ 255 ∷ (write (tree_at f s l) ++ write (tree_at f s r))
  unfolding write
  pair_written = rw (tree_pair f s n l r (sym eq ∙ ep))

  off : stands f at (255 ∷ (write (tree_at f s l) ++ write (tree_at f s r))) ≡ false → None ≡ followed f at (write (tree_at f s n))
  off h = sym (ap (followed f at) pair_written ∙ follows_not f at _ h)

  pub pair_none : length f ≤ at → None ≡ followed f at (write (tree_at f s n))
  pair_none h = off (stands_short f at _ (omega arith))

  module _ (h : at < length f) where
    pub pair_other : (get_or f at 0 ≡ 255 → ⊥) → None ≡ followed f at (write (tree_at f s n))
    pair_other g = off (stands_first f at 255 _ h ∙ rw (ne_eqb (get_or f at 0) 255 g))

    module _ (g : get_or f at 0 ≡ 255) where
      parted : stands f at (255 ∷ (write (tree_at f s l) ++ write (tree_at f s r))) ≡ (stands f (suc at) (write (tree_at f s l)) && stands f (suc at + length (write (tree_at f s l))) (write (tree_at f s r)))
      parted = stands_first f at 255 _ h ∙ rw (eq-eqb (get_or f at 0) 255 g) (stands_both f (suc at) (write (tree_at f s l)) (write (tree_at f s r)))

      module _ (a : Option ℕ) (ea : a ≡ followed f (at + 1) (write (tree_at f s l))) where
        left_side : Bool
        left_side = stands f (at + 1) (write (tree_at f s l))

        left_is : stands f (suc at) (write (tree_at f s l)) ≡ left_side
        unfolding left_side
        left_is = let z : suc at ≡ at + 1 = omega arith in rw z

        pub pair_left_off : a ≡ None → None ≡ followed f at (write (tree_at f s n))
        unfolding left_side
        pair_left_off e = on_bool left_side
            (λ y. let z : Some (at + 1 + length (write (tree_at f s l))) ≡ None = sym (follows f (at + 1) _ y) ∙ sym ea ∙ e in let c : ◌≡◌ {A = ℕ} 0 1 = cc in absurd (omega arith))
            (λ y. off (parted ∙ rw (left_is ∙ y)))

        module _ (m : ℕ) (em : a ≡ Some m) where
          left_stands : left_side ≡ true
          unfolding left_side
          left_stands = on_bool left_side (λ y. y) (λ y. let z : None ≡ Some m = sym (follows_not f (at + 1) _ y) ∙ sym ea ∙ em in let c : ◌≡◌ {A = ℕ} 0 1 = cc in absurd (omega arith))

          left_end : m ≡ at + 1 + length (write (tree_at f s l))
          unfolding left_side
          left_end = let z : Some m ≡ Some (at + 1 + length (write (tree_at f s l))) = sym em ∙ ea ∙ follows f (at + 1) _ left_stands in cc

          pub left_inside : m ≤ length f
          unfolding left_side
          left_inside = let z = stands_within f (at + 1) (write (tree_at f s l)) (omega arith) left_stands in omega (arith, left_end, z)

          pub pair_followed : (b : Option ℕ) → b ≡ followed f m (write (tree_at f s r)) → b ≡ followed f at (write (tree_at f s n))
          pair_followed b eb = on_bool (stands f m (write (tree_at f s r)))
              (λ y. eb ∙ follows f m _ y ∙ sum ∙ sym (follows f at _ (whole ∙ y)) ∙ ap (followed f at) (sym pair_written))
              (λ y. eb ∙ follows_not f m _ y ∙ off (whole ∙ y))
            where
              ends : suc at + length (write (tree_at f s l)) ≡ m
              ends = omega (arith, left_end)

              whole : stands f at (255 ∷ (write (tree_at f s l) ++ write (tree_at f s r))) ≡ stands f m (write (tree_at f s r))
              whole = parted ∙ rw (left_is ∙ left_stands, ends)

              sum : Some (m + length (write (tree_at f s r))) ≡ Some (at + length (255 ∷ (write (tree_at f s l) ++ write (tree_at f s r))))
              sum = ap Some (omega (arith, left_end, length-append (write (tree_at f s l)) (write (tree_at f s r))))

pub leaf_followed : (f s b : List ℕ) (n at : ℕ) (q : Cell) → q ≡ Atom → q ≡ cell_at s n → b ≡ bytes_at f s n → (r : Option ℕ) → r ≡ followed f at (write_atom b) → r ≡ followed f at (write (tree_at f s n))
unfolding write
leaf_followed f s b n at q ep eq eb r e = let z : tree_at f s n ≡ atom b = tree_atom f s n (sym eq ∙ ep) ∙ ap atom (sym eb) in e ∙ rw z
