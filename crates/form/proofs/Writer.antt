-- What each return of the writer of a node needs. Assumes nothing.
use Rattle.std.specs.Prelude.{Option, Some, None}
use mathlib.Core.Path.{◌≡◌, refl, sym, ◌∙◌, ap}
use mathlib.Core.List.{List, [], ◌∷◌, ◌++◌}
use mathlib.Core.Bool.{Bool, true, false}
use Prim.Native.Nat.{ℕ, suc, ◌+◌, ◌-◌, ◌/◌, ◌%◌, ◌^◌, ◌<◌, ◌≤◌}
use native.Mathlib.Omega.{arith}
use lib.ListN.{length, drop, get_or, set, length-set, length-append}
use lib.Dec.{leb, eqb}
use mir.Syntax.{w64}
use mir.Val.{Fits}
use borrow.Author.Tests.{lt-ltb, le-ltb, le-leb, lt-leb, leb-true, leb-false, eq-eqb}
use Rattle.meaning.specs.Tree.{atom, pair}
use Rattle.meaning.specs.Form.{write_length, write_atom, write, needs_prefix}
use Rattle.meaning.proofs.Tests.{on_bool, eqb_sound, not_true}
use Rattle.store.specs.declared.Cell.{Cell}
use Rattle.store.specs.declared.Cell.TheVariants.{Pair, Atom}
use Rattle.store.specs.Cells.{cell_at, bytes_at}
use Rattle.store.specs.Nodes.{tree_at}
use Rattle.store.proofs.Places.{whether}
use Rattle.store.proofs.Trees.{IsPair, cell_below, tree_pair, tree_atom}
use Rattle.form.specs.Writes.{Short, Writable, Wrote, extent}
use Rattle.form.proofs.Lend.{lent, back, lent_length, back_length, one_set, two_set, wrote_length, then_wrote}

-- ---- an atom as it is written

written_alone : (b : List ℕ) → needs_prefix b ≡ false → length (write_atom b) ≡ 1
unfolding needs_prefix write_atom
written_alone [] e = refl
written_alone (x ∷ []) e = let h : x < 128 = leb-false 128 x e in rw (lt-ltb x 128 h, write_atom)
written_alone (x ∷ y ∷ b) e = let z : ◌≡◌ {A = ℕ} 0 1 = cc in absurd (omega arith)

written_byte : (b : List ℕ) → needs_prefix b ≡ false → (length b ≡ 0 → ⊥) → write_atom b ≡ get_or b 0 0 ∷ []
unfolding needs_prefix write_atom
written_byte [] e n = absurd (n refl)
written_byte (x ∷ []) e n = let h : x < 128 = leb-false 128 x e in rw (lt-ltb x 128 h, write_atom)
written_byte (x ∷ y ∷ b) e n = let z : ◌≡◌ {A = ℕ} 0 1 = cc in absurd (omega arith)

written_none : (b : List ℕ) → length b ≡ 0 → write_atom b ≡ 128 ∷ []
unfolding write_atom
written_none [] e = refl
written_none (x ∷ b) e = absurd (omega arith)

written_prefixed : (b : List ℕ) → needs_prefix b ≡ true → write_atom b ≡ write_length (length b) ++ b
unfolding needs_prefix write_atom write_length
written_prefixed [] e = let z : ◌≡◌ {A = ℕ} 0 1 = cc in absurd (omega arith)
written_prefixed (x ∷ []) e = let h : 128 ≤ x = leb-true 128 x e in rw (le-ltb x 128 h, write_atom)
written_prefixed (x ∷ y ∷ b) e = refl

length_short : (n : ℕ) → n < 64 → write_length n ≡ (128 + n) ∷ []
unfolding write_length
length_short n h = rw (lt-ltb n 64 h, write_length)

length_long : (n : ℕ) → 64 ≤ n → n ≤ 256 → write_length n ≡ (192 + n / 256) ∷ n % 256 ∷ []
unfolding write_length
length_long n h l = rw (le-ltb n 64 h, lt-ltb n 8192 (omega arith), write_length)

module _ (b : List ℕ) (v : Bool) (e : v ≡ needs_prefix b) where
  pub alone_length : v ≡ false → 1 ≡ length (write_atom b)
  alone_length f = sym (written_alone b (sym e ∙ f))

  pub short_written : v ≡ true → length b < 64 → write_atom b ≡ (128 + length b) ∷ b
  short_written f h = written_prefixed b (sym e ∙ f) ∙ rw (length_short (length b) h)

  pub long_written : v ≡ true → 64 ≤ length b → length b ≤ 256 → write_atom b ≡ (192 + length b / 256) ∷ length b % 256 ∷ b
  long_written f h l = written_prefixed b (sym e ∙ f) ∙ rw (length_long (length b) h l)

  pub short_length : v ≡ true → length b < 64 → length b + 1 ≡ length (write_atom b)
  short_length f h = rw (short_written f h) (omega arith)

  pub long_length : v ≡ true → 64 ≤ length b → length b ≤ 256 → length b + 2 ≡ length (write_atom b)
  long_length f h l = rw (long_written f h l) (omega arith)

  pub prefix_true : v ≡ true → needs_prefix b ≡ true
  prefix_true f = sym e ∙ f

  module _ (out : List ℕ) (fits : length (write_atom b) ≤ length out) where
    pub short_fits : v ≡ true → length b < 64 → length b < length out
    short_fits f h = omega (arith, short_length f h)

    pub long_fits : v ≡ true → 64 ≤ length b → length b ≤ 256 → length b + 1 < length out
    long_fits f h l = omega (arith, long_length f h l)

    pub alone_fits : v ≡ false → 0 < length out
    alone_fits f = omega (arith, alone_length f)

    module _ (w : Bool) (g : w ≡ eqb (length b) 0) where
      pub none_wrote : v ≡ false → w ≡ true → Wrote (write_atom b) 1 out (set out 0 128)
      none_wrote f z = rw (written_none b (eqb_sound (length b) 0 (sym g ∙ z))) (one_set out 128 (alone_fits f))

      pub byte_wrote : v ≡ false → w ≡ false → Wrote (write_atom b) 1 out (set out 0 (get_or b 0 0))
      byte_wrote f z = rw (written_byte b (sym e ∙ f) (λ n. not_true (sym (eq-eqb (length b) 0 n) ∙ sym g ∙ z))) (one_set out (get_or b 0 0) (alone_fits f))

-- a copy of b into what remains
copied : (b xs ys : List ℕ) (a : ℕ) → ys ≡ b ++ drop (length b) (lent xs a) → Wrote b (length b) (lent xs a) ys
copied b xs ys a e = record { count = refl; bytes = e }

module _ (b out : List ℕ) where
  module _ (ys : List ℕ) where
    pub short_wrote : ys ≡ b ++ drop (length b) (lent (set out 0 (128 + length b)) 1) → needs_prefix b ≡ true → length b < 64 → length b < length out
        → Wrote (write_atom b) (length b + 1) out (back (set out 0 (128 + length b)) 1 ys)
    short_wrote e f h l =
        let p : List ℕ = (128 + length b) ∷ [] in
        let d : Wrote (p ++ b) (1 + length b) out (back (set out 0 (128 + length b)) 1 ys) =
        then_wrote p b out (set out 0 (128 + length b)) ys 1 (length b) (one_set out (128 + length b) (omega arith)) (copied b (set out 0 (128 + length b)) ys 1 e) (omega arith) in
        rw (short_written b (needs_prefix b) refl f h) (record { count = omega (arith, d.count); bytes = d.bytes })

  module _ (ys : List ℕ) where
    pub long_wrote : ys ≡ b ++ drop (length b) (lent (set (set out 0 (192 + length b / 256)) 1 (length b % 256)) 2) → needs_prefix b ≡ true → 64 ≤ length b → length b ≤ 256 → length b + 1 < length out
        → Wrote (write_atom b) (length b + 2) out (back (set (set out 0 (192 + length b / 256)) 1 (length b % 256)) 2 ys)
    long_wrote e f h k l =
        let p : List ℕ = (192 + length b / 256) ∷ length b % 256 ∷ [] in
        let x : List ℕ = set (set out 0 (192 + length b / 256)) 1 (length b % 256) in
        let d : Wrote (p ++ b) (2 + length b) out (back x 2 ys) =
        then_wrote p b out x ys 2 (length b) (two_set out (192 + length b / 256) (length b % 256) (omega arith)) (copied b x ys 2 e) (omega arith) in
        rw (long_written b (needs_prefix b) refl f h k) (record { count = omega (arith, d.count); bytes = d.bytes })

-- ---- how long a tree is, where a limit allows it

extent_fits : (limit n : ℕ) → n ≤ limit → extent limit n ≡ Some n
unfolding extent
extent_fits limit n h = rw (le-leb n limit h, extent)

extent_more : (limit n : ℕ) → limit < n → extent limit n ≡ None
unfolding extent
extent_more limit n h = rw (lt-leb n limit h, extent)

pub extent_over : (limit n : ℕ) (r : Option ℕ) → r ≡ extent limit n → r ≡ None → limit < n
extent_over limit n r e f = on_bool (leb n limit)
    (λ b. let z : Some n ≡ None = sym (extent_fits limit n (leb-true n limit b)) ∙ sym e ∙ f in let y : ◌≡◌ {A = ℕ} 0 1 = cc in absurd (omega arith))
    (λ b. leb-false n limit b)

pub record Is (limit n m : ℕ) : Type 0 where
  pub same : m ≡ n
  pub fits : n ≤ limit

pub extent_long : (limit n m : ℕ) (r : Option ℕ) → r ≡ extent limit n → r ≡ Some m → Is limit n m
extent_long limit n m r e f = on_bool (leb n limit)
    (λ b. let h : n ≤ limit = leb-true n limit b in let z : Some m ≡ Some n = sym f ∙ e ∙ extent_fits limit n h in record { same = cc; fits = h })
    (λ b. let z : Some m ≡ None = sym f ∙ e ∙ extent_more limit n (leb-false n limit b) in let y : ◌≡◌ {A = ℕ} 0 1 = cc in absurd (omega arith))

-- ---- the parts of a pair

module _ (f s : List ℕ) (n l r : ℕ) (q : Cell) (ep : q ≡ Pair l r) (eq : q ≡ cell_at s n) where
  is_pair : tree_at f s n ≡ pair (tree_at f s l) (tree_at f s r)
  is_pair = tree_pair f s n l r (sym eq ∙ ep)

  below : IsPair s n l r
  below = cell_below s n l r (sym eq ∙ ep)

  pub falls_left : (t : ℕ) → n ≡ t → l < t
  falls_left t e = omega (arith, below.fall_left)

  pub falls_right : (t : ℕ) → n ≡ t → r < t
  falls_right t e = omega (arith, below.fall_right)

  pub writable_left : Writable f s n → Writable f s l
  unfolding Short
  writable_left w = record { room = record { node = omega (arith, below.fall_left, w.room.node); size = w.room.size }; short = (rw is_pair at w.short).0 }

  pub writable_right : Writable f s n → Writable f s r
  unfolding Short
  writable_right w = record { room = record { node = omega (arith, below.fall_right, w.room.node); size = w.room.size }; short = (rw is_pair at w.short).1 }

  pair_length : length (write (tree_at f s n)) ≡ 1 + length (write (tree_at f s l)) + length (write (tree_at f s r))
  unfolding write
  pair_length = let e : length (write (tree_at f s n)) ≡ suc (length (write (tree_at f s l) ++ write (tree_at f s r))) = rw is_pair in omega (arith, length-append (write (tree_at f s l)) (write (tree_at f s r)))

  module _ (limit : ℕ) where
    pub length_none : limit ≡ 0 → None ≡ extent limit (length (write (tree_at f s n)))
    length_none h = sym (extent_more limit (length (write (tree_at f s n))) (omega (arith, pair_length)))

    module _ (a : Option ℕ) (ea : a ≡ extent (limit - 1) (length (write (tree_at f s l)))) (h : limit ≡ 0 → ⊥) where
      pub length_left : a ≡ None → None ≡ extent limit (length (write (tree_at f s n)))
      length_left e = sym (extent_more limit (length (write (tree_at f s n))) (omega (arith, pair_length, extent_over (limit - 1) (length (write (tree_at f s l))) a ea e)))

      module _ (k : ℕ) (ek : a ≡ Some k) where
        left : Is (limit - 1) (length (write (tree_at f s l))) k
        left = extent_long (limit - 1) (length (write (tree_at f s l))) k a ea ek

        some : 0 < limit
        some = whether limit 0 (λ e. absurd (h e)) (λ e. omega arith)

        pub left_within : 1 + k ≤ limit
        left_within = omega (arith, left.same, left.fits, some)

        pub left_sum : limit < 2 ^ 64 → Fits w64 (1 + k)
        left_sum g = record { fits = omega (arith, left_within) }

        module _ (b : Option ℕ) (eb : b ≡ extent (limit - (1 + k)) (length (write (tree_at f s r)))) where
          pub length_right : b ≡ None → None ≡ extent limit (length (write (tree_at f s n)))
          length_right e = sym (extent_more limit (length (write (tree_at f s n)))
              (omega (arith, pair_length, left.same, left_within, extent_over (limit - (1 + k)) (length (write (tree_at f s r))) b eb e)))

          module _ (m : ℕ) (em : b ≡ Some m) where
            right : Is (limit - (1 + k)) (length (write (tree_at f s r))) m
            right = extent_long (limit - (1 + k)) (length (write (tree_at f s r))) m b eb em

            both_within : 1 + k + m ≤ limit
            both_within = omega (arith, right.same, right.fits, left_within)

            pub both_sum : limit < 2 ^ 64 → Fits w64 (1 + k + m)
            both_sum g = record { fits = omega (arith, both_within) }

            pub length_pair : Some (1 + k + m) ≡ extent limit (length (write (tree_at f s n)))
            length_pair =
                let z : length (write (tree_at f s n)) ≡ 1 + k + m = omega (arith, pair_length, left.same, right.same) in
                sym (ap (extent limit) z ∙ extent_fits limit (1 + k + m) both_within)

-- ---- an atom

module _ (f s b : List ℕ) (n : ℕ) (q : Cell) (ep : q ≡ Atom) (eq : q ≡ cell_at s n) (eb : b ≡ bytes_at f s n) where
  is_atom : tree_at f s n ≡ atom b
  is_atom = tree_atom f s n (sym eq ∙ ep) ∙ ap atom (sym eb)

  pub atom_few : Writable f s n → length b ≤ 256
  unfolding Short
  atom_few w = rw is_atom at w.short

  atom_length : length (write (tree_at f s n)) ≡ length (write_atom b)
  unfolding write
  atom_length = rw is_atom

  module _ (limit k : ℕ) (e : k ≡ length (write_atom b)) where
    pub length_over : limit < k → None ≡ extent limit (length (write (tree_at f s n)))
    length_over h = sym (extent_more limit (length (write (tree_at f s n))) (omega (arith, atom_length)))

    pub length_atom : k ≤ limit → Some k ≡ extent limit (length (write (tree_at f s n)))
    length_atom h = let z : length (write (tree_at f s n)) ≡ k = omega (arith, atom_length) in sym (ap (extent limit) z ∙ extent_fits limit k h)

  pub atom_fits : (out : List ℕ) → length (write (tree_at f s n)) ≤ length out → length (write_atom b) ≤ length out
  atom_fits out h = omega (arith, atom_length)

  pub write_done : (k : ℕ) (out out₁ : List ℕ) → Wrote (write_atom b) k out out₁ → Wrote (write (tree_at f s n)) k out out₁
  unfolding write
  write_done k out out₁ d = rw is_atom d

-- ---- the parts of a pair, each written into what remains

module _ (f s out : List ℕ) (n l r : ℕ) (q : Cell) (ep : q ≡ Pair l r) (eq : q ≡ cell_at s n) (h : length (write (tree_at f s n)) ≤ length out) where
  size : 1 + length (write (tree_at f s l)) + length (write (tree_at f s r)) ≤ length out
  size = omega (arith, pair_length f s n l r q ep eq)

  pub some_room : 0 < length out
  some_room = omega (arith, size)

  pub after_first : 1 ≤ length (set out 0 255)
  after_first = omega (arith, size, length-set out 0 255)

  pub left_fits : length (write (tree_at f s l)) ≤ length (lent (set out 0 255) 1)
  left_fits = omega (arith, size, length-set out 0 255, lent_length (set out 0 255) 1)

  module _ (ys : List ℕ) (k : ℕ) (d : Wrote (write (tree_at f s l)) k (lent (set out 0 255) 1) ys) where
    left_wrote : Wrote (255 ∷ write (tree_at f s l)) (1 + k) out (back (set out 0 255) 1 ys)
    left_wrote = then_wrote (255 ∷ []) (write (tree_at f s l)) out (set out 0 255) ys 1 k (one_set out 255 some_room) d (omega (arith, size))

    left_long : length (back (set out 0 255) 1 ys) ≡ length out
    left_long = wrote_length (255 ∷ write (tree_at f s l)) out (back (set out 0 255) 1 ys) (1 + k) left_wrote (omega (arith, size))

    pub at_small : length out < 2 ^ 64 → Fits w64 (1 + k)
    at_small g = record { fits = omega (arith, size, d.count) }

    pub at_within : 1 + k ≤ length (back (set out 0 255) 1 ys)
    at_within = omega (arith, size, left_long, d.count)

    pub right_fits : length (write (tree_at f s r)) ≤ length (lent (back (set out 0 255) 1 ys) (1 + k))
    right_fits = omega (arith, size, left_long, d.count, lent_length (back (set out 0 255) 1 ys) (1 + k))

    module _ (zs : List ℕ) (m : ℕ) (e : Wrote (write (tree_at f s r)) m (lent (back (set out 0 255) 1 ys) (1 + k)) zs) where
      pub write_pair : Wrote (write (tree_at f s n)) (1 + k + m) out (back (back (set out 0 255) 1 ys) (1 + k) zs)
      unfolding write
      write_pair = rw (is_pair f s n l r q ep eq) (then_wrote (255 ∷ write (tree_at f s l)) (write (tree_at f s r)) out (back (set out 0 255) 1 ys) zs (1 + k) m left_wrote e (omega (arith, size)))

      pub sum_small : length out < 2 ^ 64 → Fits w64 (1 + k + m)
      sum_small g = record { fits = omega (arith, size, d.count, e.count) }

      pub pair_same : length zs ≡ length (lent (back (set out 0 255) 1 ys) (1 + k)) → length (back (back (set out 0 255) 1 ys) (1 + k) zs) ≡ length out
      pair_same g = back_length (back (set out 0 255) 1 ys) (1 + k) zs g ∙ left_long
