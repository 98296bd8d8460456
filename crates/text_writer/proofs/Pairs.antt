-- What each return of the writer of a node's text needs. Assumes nothing.
use Rattle.std.specs.Prelude.{Option, Some, None}
use mathlib.Core.Path.{◌≡◌, refl, sym, ◌∙◌, ap}
use mathlib.Core.List.{List, [], ◌∷◌, ◌++◌}
use mathlib.Core.Bool.{Bool, true, false}
use Prim.Native.Nat.{ℕ, suc, ◌+◌, ◌-◌, ◌^◌, ◌<◌, ◌≤◌}
use native.Mathlib.Omega.{arith}
use lib.ListN.{length, set, length-set, length-append}
use mir.Syntax.{w64}
use mir.Val.{Fits}
use borrow.Author.Tests.{le-leb, lt-leb}
use Rattle.meaning.specs.Tree.{Tree, atom, pair}
use Rattle.store.specs.declared.Cell.{Cell}
use Rattle.store.specs.declared.Cell.TheVariants.{Pair, Atom}
use Rattle.store.specs.Cells.{Room, cell_at, bytes_at}
use Rattle.store.specs.Nodes.{tree_at}
use Rattle.store.proofs.Places.{whether}
use Rattle.store.proofs.Trees.{tree_pair, tree_atom}
use Rattle.notation.specs.declared.Place.{Place}
use Rattle.notation.specs.declared.Place.TheVariants.{Code}
use Rattle.notation.specs.Texts.{after, text_at, text_rest, text_of}
use Rattle.form.specs.Writes.{Short, Writable, Wrote, extent, Delivered}
use Rattle.form.proofs.Lend.{lent, back, lent_length, one_set, wrote_length, then_wrote}
use Rattle.form.proofs.Writer.{extent_over, extent_long, Is, writable_left}
use Rattle.form.proofs.Delivering as delivering
use Rattle.text_writer.specs.Parts.{part_text, part_place, first_byte}

extent_fits : (limit n : ℕ) → n ≤ limit → extent limit n ≡ Some n
unfolding extent
extent_fits limit n h = rw (le-leb n limit h, extent)

extent_more : (limit n : ℕ) → limit < n → extent limit n ≡ None
unfolding extent
extent_more limit n h = rw (lt-leb n limit h, extent)

-- ---- the text of a pair: a byte, its first part, and the rest

pair_text : (rest : Bool) (l r : Tree) (p : Place)
    → part_text rest (pair l r) p ≡ first_byte rest ∷ (part_text false l (part_place rest p) ++ part_text true r (after (part_place rest p) l))
unfolding part_text part_place first_byte text_at text_rest
pair_text true l r p = refl
pair_text false l r p = refl

-- the pair at n
module _ (f s : List ℕ) (n l r : ℕ) (c : Cell) (ep : c ≡ Pair l r) (ec : c ≡ cell_at s n) where
  pub room_left : Writable f s n → Room s l
  room_left w = (writable_left f s n l r c ep ec w).room

  module _ (p : Place) (rest : Bool) where
    pair_is : part_text rest (tree_at f s n) p ≡ first_byte rest ∷ (part_text false (tree_at f s l) (part_place rest p) ++ part_text true (tree_at f s r) (after (part_place rest p) (tree_at f s l)))
    pair_is = rw (tree_pair f s n l r (sym ec ∙ ep)) (pair_text rest (tree_at f s l) (tree_at f s r) p)

    some_text : 0 < length (part_text rest (tree_at f s n) p)
    some_text = rw pair_is (omega arith)

    pub length_none : (limit : ℕ) → limit ≡ 0 → None ≡ extent limit (length (part_text rest (tree_at f s n) p))
    length_none limit h = sym (extent_more limit (length (part_text rest (tree_at f s n) p)) (omega (arith, some_text)))

    -- its first part stands at q
    module _ (q : Place) (eq : q ≡ part_place rest p) where
      at_place : part_text rest (tree_at f s n) p ≡ first_byte rest ∷ (part_text false (tree_at f s l) q ++ part_text true (tree_at f s r) (after q (tree_at f s l)))
      at_place = rw eq pair_is

      pair_length : length (part_text rest (tree_at f s n) p) ≡ 1 + length (part_text false (tree_at f s l) q) + length (part_text true (tree_at f s r) (after q (tree_at f s l)))
      pair_length =
          let e : length (part_text rest (tree_at f s n) p) ≡ suc (length (part_text false (tree_at f s l) q ++ part_text true (tree_at f s r) (after q (tree_at f s l)))) = rw at_place in
          omega (arith, length-append (part_text false (tree_at f s l) q) (part_text true (tree_at f s r) (after q (tree_at f s l))))

      module _ (limit : ℕ) (a : Option ℕ) (ea : a ≡ extent (limit - 1) (length (part_text false (tree_at f s l) q))) (h : limit ≡ 0 → ⊥) where
        pub length_left : a ≡ None → None ≡ extent limit (length (part_text rest (tree_at f s n) p))
        length_left e = sym (extent_more limit (length (part_text rest (tree_at f s n) p)) (omega (arith, pair_length, extent_over (limit - 1) (length (part_text false (tree_at f s l) q)) a ea e)))

        module _ (k : ℕ) (ek : a ≡ Some k) where
          left : Is (limit - 1) (length (part_text false (tree_at f s l) q)) k
          left = extent_long (limit - 1) (length (part_text false (tree_at f s l) q)) k a ea ek

          some : 0 < limit
          some = whether limit 0 (λ e. absurd (h e)) (λ e. omega arith)

          pub left_within : 1 + k ≤ limit
          left_within = omega (arith, left.same, left.fits, some)

          pub left_sum : limit < 2 ^ 64 → Fits w64 (1 + k)
          left_sum g = record { fits = omega (arith, left_within) }

          -- what follows it stands at o
          module _ (o : Place) (eo : o ≡ after q (tree_at f s l)) (b : Option ℕ) (eb : b ≡ extent (limit - (1 + k)) (length (part_text true (tree_at f s r) o))) where
            both_length : length (part_text rest (tree_at f s n) p) ≡ 1 + k + length (part_text true (tree_at f s r) o)
            both_length = rw eo (omega (arith, pair_length, left.same))

            pub length_right : b ≡ None → None ≡ extent limit (length (part_text rest (tree_at f s n) p))
            length_right e = sym (extent_more limit (length (part_text rest (tree_at f s n) p))
                (omega (arith, both_length, left_within, extent_over (limit - (1 + k)) (length (part_text true (tree_at f s r) o)) b eb e)))

            module _ (m : ℕ) (em : b ≡ Some m) where
              right : Is (limit - (1 + k)) (length (part_text true (tree_at f s r) o)) m
              right = extent_long (limit - (1 + k)) (length (part_text true (tree_at f s r) o)) m b eb em

              both_within : 1 + k + m ≤ limit
              both_within = omega (arith, right.same, right.fits, left_within)

              pub both_sum : limit < 2 ^ 64 → Fits w64 (1 + k + m)
              both_sum g = record { fits = omega (arith, both_within) }

              pub length_pair : Some (1 + k + m) ≡ extent limit (length (part_text rest (tree_at f s n) p))
              length_pair =
                  let z : length (part_text rest (tree_at f s n) p) ≡ 1 + k + m = omega (arith, both_length, right.same) in
                  sym (ap (extent limit) z ∙ extent_fits limit (1 + k + m) both_within)

-- ---- an atom

module _ (f s b : List ℕ) (n : ℕ) (c : Cell) (ep : c ≡ Atom) (ec : c ≡ cell_at s n) (eb : b ≡ bytes_at f s n) where
  is_atom : tree_at f s n ≡ atom b
  is_atom = tree_atom f s n (sym ec ∙ ep) ∙ ap atom (sym eb)

  pub atom_few : Writable f s n → length b ≤ 256
  unfolding Short
  atom_few w = rw is_atom at w.short

  module _ (p : Place) (rest : Bool) where
    end_length : length (part_text rest (tree_at f s n) p) ≡ length (part_text rest (atom b) p)
    end_length = rw is_atom

    module _ (limit k : ℕ) (e : k ≡ length (part_text rest (atom b) p)) where
      pub length_over : limit < k → None ≡ extent limit (length (part_text rest (tree_at f s n) p))
      length_over h = sym (extent_more limit (length (part_text rest (tree_at f s n) p)) (omega (arith, end_length)))

      pub length_atom : k ≤ limit → Some k ≡ extent limit (length (part_text rest (tree_at f s n) p))
      length_atom h = let z : length (part_text rest (tree_at f s n) p) ≡ k = omega (arith, end_length) in sym (ap (extent limit) z ∙ extent_fits limit k h)

    pub atom_fits : (out : List ℕ) → length (part_text rest (tree_at f s n) p) ≤ length out → length (part_text rest (atom b) p) ≤ length out
    atom_fits out h = omega (arith, end_length)

    pub write_done : (k : ℕ) (out out₁ : List ℕ) → Wrote (part_text rest (atom b) p) k out out₁ → Wrote (part_text rest (tree_at f s n) p) k out out₁
    write_done k out out₁ d = rw is_atom d

-- ---- the parts of a pair, each written into what remains after the byte x

module _ (f s out : List ℕ) (n l r x : ℕ) (p q o : Place) (rest : Bool) (c : Cell) (ep : c ≡ Pair l r) (ec : c ≡ cell_at s n)
    (h : length (part_text rest (tree_at f s n) p) ≤ length out)
    (eq : q ≡ part_place rest p) (eo : o ≡ after q (tree_at f s l)) (ex : x ≡ first_byte rest) where
  size : 1 + length (part_text false (tree_at f s l) q) + length (part_text true (tree_at f s r) o) ≤ length out
  size = rw eo (omega (arith, pair_length f s n l r c ep ec p rest q eq))

  pub some_room : 0 < length out
  some_room = omega (arith, size)

  pub after_first : 1 ≤ length (set out 0 x)
  after_first = omega (arith, size, length-set out 0 x)

  pub left_fits : length (part_text false (tree_at f s l) q) ≤ length (lent (set out 0 x) 1)
  left_fits = omega (arith, size, length-set out 0 x, lent_length (set out 0 x) 1)

  module _ (ys : List ℕ) (k : ℕ) (d : Wrote (part_text false (tree_at f s l) q) k (lent (set out 0 x) 1) ys) where
    left_wrote : Wrote (x ∷ part_text false (tree_at f s l) q) (1 + k) out (back (set out 0 x) 1 ys)
    left_wrote = then_wrote (x ∷ []) (part_text false (tree_at f s l) q) out (set out 0 x) ys 1 k (one_set out x some_room) d (omega (arith, size))

    left_long : length (back (set out 0 x) 1 ys) ≡ length out
    left_long = wrote_length (x ∷ part_text false (tree_at f s l) q) out (back (set out 0 x) 1 ys) (1 + k) left_wrote (omega (arith, size))

    pub at_within : 1 + k ≤ length (back (set out 0 x) 1 ys)
    at_within = omega (arith, size, left_long, d.count)

    pub right_fits : length (part_text true (tree_at f s r) o) ≤ length (lent (back (set out 0 x) 1 ys) (1 + k))
    right_fits = omega (arith, size, left_long, d.count, lent_length (back (set out 0 x) 1 ys) (1 + k))

    module _ (zs : List ℕ) (m : ℕ) (e : Wrote (part_text true (tree_at f s r) o) m (lent (back (set out 0 x) 1 ys) (1 + k)) zs) where
      whole : part_text rest (tree_at f s n) p ≡ x ∷ (part_text false (tree_at f s l) q ++ part_text true (tree_at f s r) o)
      whole = rw (ex, eo) (at_place f s n l r c ep ec p rest q eq)

      pub write_pair : Wrote (part_text rest (tree_at f s n) p) (1 + k + m) out (back (back (set out 0 x) 1 ys) (1 + k) zs)
      write_pair = rw whole (then_wrote (x ∷ part_text false (tree_at f s l) q) (part_text true (tree_at f s r) o) out (back (set out 0 x) 1 ys) zs (1 + k) m left_wrote e (omega (arith, size)))

-- ---- delivered

module _ (t : Tree) (out : List ℕ) (r : Option ℕ) (e : r ≡ extent (length out) (length (part_text false t Code))) where
  pub none_written : r ≡ None → Delivered (text_of t) out out None
  unfolding part_text text_of
  none_written i = delivering.none_written (part_text false t Code) out r e i

  pub all_fits : (m : ℕ) → r ≡ Some m → length (part_text false t Code) ≤ length out
  all_fits m i = delivering.all_fits (part_text false t Code) out r e m i

  pub all_written : (out₁ : List ℕ) (k m : ℕ) → Wrote (part_text false t Code) k out out₁ → r ≡ Some m → Delivered (text_of t) out out₁ (Some k)
  unfolding part_text text_of
  all_written out₁ k m h i = delivering.all_written (part_text false t Code) out r e out₁ k m h i
