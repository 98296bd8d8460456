-- The parts: where they end, and writing them. What each call and each return needs.
use mathlib.Core.Path.{◌≡◌, refl, sym, ◌∙◌}
use mathlib.Core.List.{List, [], ◌∷◌, ◌++◌, append_assoc, append-nil}
use mathlib.Core.Bool.{Bool, true, false}
use Prim.Native.Nat.{ℕ, ◌+◌, ◌-◌, ◌<◌, ◌≤◌}
use native.Mathlib.Omega.{arith}
use lib.ListN.{length, take, length-append}
use lib.Dec.{leb}
use mir.Syntax.{w64}
use mir.Val.{Fits}
use borrow.Author.Tests.{le-leb, lt-leb, leb-true, leb-false}
use Rattle.std.specs.Prelude.{Option, Some, None}
use Rattle.meaning.specs.Form.{write}
use Rattle.meaning.specs.Match as meaning
use Rattle.store.specs.declared.Charges.{Charges}
use Rattle.store.specs.Nodes.{tree_at}
use Rattle.store.proofs.Places.{whether}
use Rattle.form.specs.Writes.{Writable, Wrote, extent}
use Rattle.form.proofs.Bytes.{node_writable}
use Rattle.form.proofs.Lend.{lent, back, then_wrote, lent_length, wrote_length}
use Rattle.form.proofs.Writer.{extent_over, extent_long}
use Rattle.pattern.specs.declared.Bindings.{Bindings}
use Rattle.pattern.specs.Bound.{binding_at, bindings_at, Bound}
use Rattle.pattern.proofs.Kept.{name_tree}
use Rattle.matcher.specs.declared.Parts.{Parts}
use Rattle.matcher.specs.Outcome.{parts, joined, end}
use Rattle.matcher.specs.Steps.{ends, placed}

-- ---- end_node

extent_is : (limit n : ℕ) → n ≤ limit → Some n ≡ extent limit n
unfolding extent
extent_is limit n h = rw (le-leb n limit h, extent)

extent_not : (limit n : ℕ) → limit < n → None ≡ extent limit n
unfolding extent
extent_not limit n h = rw (lt-leb n limit h, extent)

module _ (limit at n : ℕ) (h : at ≤ limit) (r : Option ℕ) (e : r ≡ extent (limit - at) n) where
  pub end_fits : (k : ℕ) → r ≡ Some k → Fits w64 limit → Fits w64 (at + k)
  end_fits k d g = let i = extent_long (limit - at) n k r e d in record { fits = omega (arith, i.same, i.fits, g.fits) }

  pub end_long : (k : ℕ) → r ≡ Some k → Some (at + k) ≡ extent limit (at + n)
  end_long k d =
      let i = extent_long (limit - at) n k r e d in
      let z : k ≡ n = i.same in
      let y : n ≤ limit - at = i.fits in
      rw z (extent_is limit (at + n) (omega arith))

  pub end_over : r ≡ None → None ≡ extent limit (at + n)
  end_over d = let z : limit - at < n = extent_over (limit - at) n r e d in extent_not limit (at + n) (omega arith)

-- ---- end_both

module _ (limit at a b : ℕ) where
  ends_are : at + a + b ≤ limit → Some (at + a, at + a + b) ≡ ends limit at a b
  unfolding ends
  ends_are h = rw (le-leb (at + a + b) limit h, ends)

  ends_not : limit < at + a + b → None ≡ ends limit at a b
  unfolding ends
  ends_not h = rw (lt-leb (at + a + b) limit h, ends)

  module _ (r : Option ℕ) (e : r ≡ extent limit (at + a)) where
    pub first_over : r ≡ None → None ≡ ends limit at a b
    first_over d = let z : limit < at + a = extent_over limit (at + a) r e d in ends_not (omega arith)

    module _ (mid : ℕ) (d : r ≡ Some mid) where
      mid_is : mid ≡ at + a
      mid_is = (extent_long limit (at + a) mid r e d).same

      pub mid_fits : mid ≤ limit
      mid_fits = let i = extent_long limit (at + a) mid r e d in omega (arith, i.same, i.fits)

      module _ (q : Option ℕ) (e₂ : q ≡ extent limit (mid + b)) where
        pub second_over : q ≡ None → None ≡ ends limit at a b
        second_over d₂ = let z : limit < mid + b = extent_over limit (mid + b) q e₂ d₂ in ends_not (omega (arith, mid_is))

        pub both_end : (k : ℕ) → q ≡ Some k → Some (mid, k) ≡ ends limit at a b
        both_end k d₂ =
            let i = extent_long limit (mid + b) k q e₂ d₂ in
            let y : mid ≡ at + a = mid_is in
            let z : k ≡ at + a + b = omega (arith, i.same) in
            rw (z, y) (ends_are (omega (arith, i.fits)))

-- what the ends say
pub record EndsAt (limit at a b u v : ℕ) : Type 0 where
  pub middle : u ≡ at + a
  pub last : v ≡ at + a + b
  pub fits : v ≤ limit

module _ (limit at a b : ℕ) (r : Option (ℕ × ℕ)) (e : r ≡ ends limit at a b) where
  pub ends_at : (w : ℕ × ℕ) → r ≡ Some w → EndsAt limit at a b w.0 w.1
  unfolding ends
  ends_at w d = go (leb (at + a + b) limit) refl (sym d ∙ e)
    where
      go : (t : Bool) → leb (at + a + b) limit ≡ t → ◌≡◌ {A = Option (ℕ × ℕ)} (Some w) (elim t [ true ↦ Some (at + a, at + a + b) | false ↦ None ]) → EndsAt limit at a b w.0 w.1
      go true h k =
          let y : w ≡ (at + a, at + a + b) = cc in
          let z : at + a + b ≤ limit = leb-true (at + a + b) limit h in
          rw y (record { middle = refl; last = refl; fits = z })
      go false h k = let z : ◌≡◌ {A = ℕ} 0 1 = cc in absurd (omega arith)

  pub ends_long : r ≡ None → limit < at + a + b
  unfolding ends
  ends_long d = go (leb (at + a + b) limit) refl (sym d ∙ e)
    where
      go : (t : Bool) → leb (at + a + b) limit ≡ t → ◌≡◌ {A = Option (ℕ × ℕ)} None (elim t [ true ↦ Some (at + a, at + a + b) | false ↦ None ]) → limit < at + a + b
      go true h k = let z : ◌≡◌ {A = ℕ} 0 1 = cc in absurd (omega arith)
      go false h k = leb-false (at + a + b) limit h

-- ---- place

abbrev all : ℕ → ℕ → ℕ → ℕ → ℕ → Option Parts
all k a b c d = Some (record { count = k; name_1 = a; node_1 = b; name_2 = c; node_2 = d })

-- bytes of all parts, and of the first k
total : List (List ℕ) → ℕ
total ps = length (joined ps)

all_same : {k a a' b b' c c' d d' : ℕ} → a ≡ a' → b ≡ b' → c ≡ c' → d ≡ d' → all k a b c d ≡ all k a' b' c' d'
all_same p q r s = rw (p, q, r, s)

module _ (limit : ℕ) (ks : List meaning.Binding) where
  placed_are : total (parts ks) ≤ limit → all (length ks) (end 1 ks) (end 2 ks) (end 3 ks) (end 4 ks) ≡ placed limit ks
  unfolding placed total
  placed_are h = rw (le-leb (length (joined (parts ks))) limit h, placed)

  placed_not : limit < total (parts ks) → None ≡ placed limit ks
  unfolding placed total
  placed_not h = rw (lt-leb (length (joined (parts ks))) limit h, placed)

end_of : (ks : List meaning.Binding) (ps : List (List ℕ)) → parts ks ≡ ps → (k : ℕ) → end k ks ≡ total (take k ps)
unfolding end total
end_of ks ps e k = rw e

module _ (p q : List ℕ) where
  one_part : total (p ∷ []) ≡ length p
  unfolding total joined
  one_part = simp length-append (omega arith)

  two_parts : total (p ∷ q ∷ []) ≡ length p + length q
  unfolding total joined
  two_parts = simp length-append (omega arith)

  module _ (r : List ℕ) where
    three_parts : total (p ∷ q ∷ r ∷ []) ≡ length p + length q + length r
    unfolding total joined
    three_parts = simp length-append (omega arith)

    four_parts : (w : List ℕ) → total (p ∷ q ∷ r ∷ w ∷ []) ≡ length p + length q + length r + length w
    unfolding total joined
    four_parts w = simp length-append (omega arith)

module _ (f s : List ℕ) (c : Charges) (ks : Bindings) (h : Bound f s c ks) where
  pub name_1_writable : Writable f s ks.name_1
  name_1_writable = node_writable f s c ks.name_1 h.first_name.ready

  pub node_1_writable : Writable f s ks.node_1
  node_1_writable = node_writable f s c ks.node_1 h.first_node

  pub name_2_writable : Writable f s ks.name_2
  name_2_writable = node_writable f s c ks.name_2 h.second_name.ready

  pub node_2_writable : Writable f s ks.node_2
  node_2_writable = node_writable f s c ks.node_2 h.second_node

  abbrev x : meaning.Binding
  x = binding_at f s ks.name_1 ks.node_1

  abbrev y : meaning.Binding
  y = binding_at f s ks.name_2 ks.node_2

  -- the bytes that are written
  abbrev n₁ : List ℕ
  n₁ = write (tree_at f s ks.name_1)

  abbrev t₁ : List ℕ
  t₁ = write (tree_at f s ks.node_1)

  abbrev n₂ : List ℕ
  n₂ = write (tree_at f s ks.name_2)

  abbrev t₂ : List ℕ
  t₂ = write (tree_at f s ks.node_2)

  parts_x : parts (x ∷ []) ≡ n₁ ∷ t₁ ∷ []
  unfolding parts binding_at
  parts_x = rw (name_tree h.first_name)

  parts_y : parts (x ∷ y ∷ []) ≡ n₁ ∷ t₁ ∷ n₂ ∷ t₂ ∷ []
  unfolding parts binding_at
  parts_y = rw (name_tree h.first_name, name_tree h.second_name)

  zero_bindings : ks.count ≡ 0 → bindings_at f s ks ≡ []
  unfolding bindings_at
  zero_bindings e = rw e

  one_binding : ks.count ≡ 1 → bindings_at f s ks ≡ x ∷ []
  unfolding bindings_at
  one_binding e = rw e

  two_bindings : (ks.count ≡ 0 → ⊥) → (ks.count ≡ 1 → ⊥) → bindings_at f s ks ≡ x ∷ y ∷ []
  unfolding bindings_at
  two_bindings z o = let w : ks.count ≡ 2 = let v : ks.count ≤ 2 = h.few in omega arith in rw w

  -- the first binding's parts are there
  at_least : (ks.count ≡ 0 → ⊥) → length n₁ + length t₁ ≤ total (parts (bindings_at f s ks))
  at_least z = whether ks.count 1
      (λ o. rw (one_binding o, parts_x, two_parts n₁ t₁) (omega arith))
      (λ o. rw (two_bindings z o, parts_y, four_parts n₁ t₁ n₂ t₂) (omega arith))

  pub none_placed : (limit : ℕ) → ks.count ≡ 0 → all 0 0 0 0 0 ≡ placed limit (bindings_at f s ks)
  unfolding total parts joined end
  none_placed limit e = rw (zero_bindings e) (placed_are limit [] (omega arith))

  module _ (limit : ℕ) (r : Option (ℕ × ℕ)) (er : r ≡ ends limit 0 (length n₁) (length t₁)) where
    pub first_long : r ≡ None → (ks.count ≡ 0 → ⊥) → None ≡ placed limit (bindings_at f s ks)
    first_long d z =
        let i : limit < 0 + length n₁ + length t₁ = ends_long limit 0 (length n₁) (length t₁) r er d in
        let j : length n₁ + length t₁ ≤ total (parts (bindings_at f s ks)) = at_least z in
        placed_not limit (bindings_at f s ks) (omega arith)

    module _ (u v : ℕ) (d : r ≡ Some (u, v)) where
      i₁ : EndsAt limit 0 (length n₁) (length t₁) u v
      i₁ = ends_at limit 0 (length n₁) (length t₁) r er (u, v) d

      pub between : v ≤ limit
      between = i₁.fits

      pub one_placed : ks.count ≡ 1 → all 1 u v v v ≡ placed limit (bindings_at f s ks)
      one_placed e =
          let a : u ≡ 0 + length n₁ = i₁.middle in
          let b : v ≡ 0 + length n₁ + length t₁ = i₁.last in
          let o : v ≤ limit = i₁.fits in
          let w : total (n₁ ∷ t₁ ∷ []) ≡ length n₁ + length t₁ = two_parts n₁ t₁ in
          let g : (k : ℕ) → end k (x ∷ []) ≡ total (take k (n₁ ∷ t₁ ∷ [])) = end_of (x ∷ []) (n₁ ∷ t₁ ∷ []) parts_x in
          let z : total (parts (x ∷ [])) ≤ limit = rw parts_x (omega arith) in
          rw (one_binding e)
          (all_same (omega (arith, g 1, one_part n₁ t₁)) (omega (arith, g 2)) (omega (arith, g 3)) (omega (arith, g 4)) ∙ placed_are limit (x ∷ []) z)

      module _ (z : ks.count ≡ 0 → ⊥) (o : ks.count ≡ 1 → ⊥) (q : Option (ℕ × ℕ)) (eq : q ≡ ends limit v (length n₂) (length t₂)) where
        pub second_long : q ≡ None → None ≡ placed limit (bindings_at f s ks)
        second_long d₂ =
            let a : v ≡ 0 + length n₁ + length t₁ = i₁.last in
            let i : limit < v + length n₂ + length t₂ = ends_long limit v (length n₂) (length t₂) q eq d₂ in
            rw (two_bindings z o) (placed_not limit (x ∷ y ∷ []) (rw (parts_y, four_parts n₁ t₁ n₂ t₂) (omega arith)))

        pub two_placed : (u₂ v₂ : ℕ) → q ≡ Some (u₂, v₂) → all 2 u v u₂ v₂ ≡ placed limit (bindings_at f s ks)
        two_placed u₂ v₂ d₂ =
            let a : u ≡ 0 + length n₁ = i₁.middle in
            let b : v ≡ 0 + length n₁ + length t₁ = i₁.last in
            let i = ends_at limit v (length n₂) (length t₂) q eq (u₂, v₂) d₂ in
            let a₂ : u₂ ≡ v + length n₂ = i.middle in
            let b₂ : v₂ ≡ v + length n₂ + length t₂ = i.last in
            let e : v₂ ≤ limit = i.fits in
            let w : total (n₁ ∷ t₁ ∷ n₂ ∷ t₂ ∷ []) ≡ length n₁ + length t₁ + length n₂ + length t₂ = four_parts n₁ t₁ n₂ t₂ in
            let g : (k : ℕ) → end k (x ∷ y ∷ []) ≡ total (take k (n₁ ∷ t₁ ∷ n₂ ∷ t₂ ∷ [])) = end_of (x ∷ y ∷ []) (n₁ ∷ t₁ ∷ n₂ ∷ t₂ ∷ []) parts_y in
            let l : total (parts (x ∷ y ∷ [])) ≤ limit = rw parts_y (omega arith) in
            rw (two_bindings z o)
            (all_same (omega (arith, g 1, one_part n₁ t₁)) (omega (arith, g 2, two_parts n₁ t₁)) (omega (arith, g 3, three_parts n₁ t₁ n₂)) (omega (arith, g 4)) ∙ placed_are limit (x ∷ y ∷ []) l)

-- ---- writing

pub fits_after : (p q out out₁ : List ℕ) (k : ℕ) → Wrote p k out out₁ → length p + length q ≤ length out → length q ≤ length (lent out₁ k)
fits_after p q out out₁ k w h = omega (arith, w.count, lent_length out₁ k, wrote_length p out out₁ k w (omega arith))

module _ (f s : List ℕ) (c : Charges) (ks : Bindings) (h : Bound f s c ks) (out : List ℕ) (fits : length (joined (parts (bindings_at f s ks))) ≤ length out) where
  abbrev Parted : ℕ → List ℕ → Type 0
  Parted k out₁ = Wrote (joined (parts (bindings_at f s ks))) k out out₁

  abbrev n₁' : List ℕ
  n₁' = write (tree_at f s ks.name_1)

  abbrev t₁' : List ℕ
  t₁' = write (tree_at f s ks.node_1)

  abbrev n₂' : List ℕ
  n₂' = write (tree_at f s ks.name_2)

  abbrev t₂' : List ℕ
  t₂' = write (tree_at f s ks.node_2)

  pub none_written : ks.count ≡ 0 → Parted 0 out
  unfolding parts joined
  none_written e = rw (zero_bindings f s c ks h e) (record { count = refl; bytes = refl })

  pub first_room : (ks.count ≡ 0 → ⊥) → length n₁' + length t₁' ≤ length out
  unfolding total
  first_room z = let i : length n₁' + length t₁' ≤ total (parts (bindings_at f s ks)) = at_least f s c ks h z in omega arith

  module _ (out₁ : List ℕ) (a : ℕ) (w : Wrote (n₁' ++ t₁') a out out₁) where
    pub one_written : ks.count ≡ 1 → Parted a out₁
    unfolding joined
    one_written e = rw (one_binding f s c ks h e, parts_x f s c ks h, append-nil) w

    module _ (z : ks.count ≡ 0 → ⊥) (o : ks.count ≡ 1 → ⊥) where
      both_room : length (n₁' ++ t₁') + length (n₂' ++ t₂') ≤ length out
      unfolding total
      both_room =
          let i : total (parts (bindings_at f s ks)) ≡ length n₁' + length t₁' + length n₂' + length t₂' = rw (two_bindings f s c ks h z o, parts_y f s c ks h) (four_parts n₁' t₁' n₂' t₂') in
          omega (arith, length-append n₁' t₁', length-append n₂' t₂')

      pub second_room : length n₂' + length t₂' ≤ length (lent out₁ a)
      second_room = omega (arith, fits_after (n₁' ++ t₁') (n₂' ++ t₂') out out₁ a w both_room, length-append n₂' t₂')

      module _ (ys : List ℕ) (k : ℕ) (v : Wrote (n₂' ++ t₂') k (lent out₁ a) ys) where
        pub two_written : Parted (a + k) (back out₁ a ys)
        unfolding joined
        two_written = rw (two_bindings f s c ks h z o, parts_y f s c ks h, append-nil, ← append_assoc n₁' t₁' (n₂' ++ t₂')) (then_wrote (n₁' ++ t₁') (n₂' ++ t₂') out out₁ ys a k w v both_room)
