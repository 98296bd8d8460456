-- A tree delivered: what it means for the answer that tells it. Assumes nothing.
use Rattle.std.specs.Prelude.{Option, Some, None}
use Prim.Native.Nat.{ℕ, ◌≤◌}
use mathlib.Core.Path.{◌≡◌, refl, ◌∙◌, ap}
use mathlib.Core.List.{List, ◌∷◌}
use lib.ListN.{length}
use borrow.Author.Tests.{le-leb, lt-leb}
use Rattle.meaning.specs.Tree.{Tree}
use Rattle.meaning.specs.Form.{write}
use Rattle.meaning.specs.Outcome.{plain, deliver, deliver_tree, out_after, Told, values, number, told, Delivers}
use Rattle.form.specs.Writes.{Wrote, extent, WroteAll, WroteNone, Delivered}
use Rattle.form.proofs.Writer.{extent_over, extent_long}

-- ---- deliver_node

module _ (w out : List ℕ) (r : Option ℕ) (e : r ≡ extent (length out) (length w)) where
  pub none_written : r ≡ None → Delivered w out out None
  unfolding Delivered
  none_written i = record { over = extent_over (length out) (length w) r e i; kept = refl }

  pub all_fits : (m : ℕ) → r ≡ Some m → length w ≤ length out
  all_fits m i = (extent_long (length out) (length w) m r e i).fits

  pub all_written : (out₁ : List ℕ) (k m : ℕ) → Wrote w k out out₁ → r ≡ Some m → Delivered w out out₁ (Some k)
  unfolding Delivered
  all_written out₁ k m h i = record { fits = all_fits m i; wrote = h }

-- ---- the answer

module _ {A : Type 0} (tells : A → Told) (t : Tree) (ns w w₁ : List ℕ) (r : Option ℕ) (d : Delivered (write t) w w₁ r) where
  pub tree_short : (a : A) → tells a ≡ number 14 → r ≡ None → Delivers tells (deliver_tree (length w) t ns) w w₁ a
  unfolding Delivered deliver_tree deliver told out_after
  tree_short a e i =
      let n : WroteNone (write t) w w₁ = rw i at d in
      rw (lt-leb (length (write t)) (length w) n.over, deliver) (record { answer = e; out = n.kept })

  pub tree_long : (a : A) (k : ℕ) → tells a ≡ values plain (k ∷ ns) → r ≡ Some k → Delivers tells (deliver_tree (length w) t ns) w w₁ a
  unfolding Delivered deliver_tree deliver told out_after
  tree_long a k e i =
      let p : WroteAll (write t) k w w₁ = rw i at d in
      rw (le-leb (length (write t)) (length w) p.fits, deliver)
      (record { answer = e ∙ ap (λ (j : ℕ). values plain (j ∷ ns)) p.wrote.count; out = p.wrote.bytes })
