-- What `add_form` makes of a list of forms, one call after another: the definition's report, and one outcome only. Assumes nothing.
use mathlib.Core.Path.{◌≡◌, sym, ◌∙◌}
use mathlib.Core.List.{List, [], ◌∷◌, ◌++◌}
use mathlib.Core.Bool.{true, false}
use Prim.Native.Nat.{ℕ, ◌<◌, ◌≤◌}
use native.Mathlib.Omega.{arith}
use lib.ListN.{length}
use Rattle.meaning.specs.Outcome.{Outcome, answered, refused, zeroed, room_after}
use Rattle.meaning.specs.Run.{run}
use Rattle.meaning.proofs.Tests.{on_bool}
use Rattle.totals.specs.declared.Savings.{Savings}
use Rattle.totals.specs.declared.Column.TheVariants.{Full}
use Rattle.totals.specs.declared.Added.{Added}
use Rattle.totals.specs.Savings.{output_most, savings_of, forms_of, is_open}
use Rattle.totals.specs.Adding.{column_of, Takes, Leaves, Adds}
use Rattle.totals.proofs.Columns.{takes_more, takes_none, over_list, one_after}

module _ (fs : List (List ℕ)) (form room room' : List ℕ) (r : Added) where
  -- A report over fewer than 4,096 forms, and one more: the report over all of them, in order.
  pub report_grows : length fs < 4096 → Adds (savings_of (length room) fs) form room room' r → r.savings ≡ savings_of (length room) (fs ++ form ∷ [])
  unfolding Adds savings_of
  report_grows l h =
      let t : Takes (savings_of (length room) fs) form room room' r = rw (takes_more (length room) fs l, Adds) at h in
      t.savings ∙ sym (one_after (length room) _ fs form)

  -- its column and the room are those of the form's own run
  pub column_told : length fs < 4096 → Adds (savings_of (length room) fs) form room room' r
      → (r.column ≡ column_of (run form (length room) output_most)) × (room' ≡ room_after (run form (length room) output_most) room)
  unfolding Adds
  column_told l h =
      let t : Takes (savings_of (length room) fs) form room room' r = rw (takes_more (length room) fs l, Adds) at h in
      (t.column, t.room)

  -- "17 for a 4,097th form": the report stays
  pub report_full : 4096 ≤ length fs → Adds (savings_of (length room) fs) form room room' r → (r.savings ≡ savings_of (length room) fs) × (r.column ≡ Full) × (room' ≡ zeroed room)
  unfolding Adds room_after
  report_full l h =
      let t : Leaves (savings_of (length room) fs) room room' r = rw (takes_none (length room) fs l, Adds) at h in
      (t.savings, t.column, t.room)

-- As many forms stand in the columns as were read.
pub forms_told : (room-length : ℕ) (fs : List (List ℕ)) → forms_of (savings_of room-length fs) ≡ length fs
forms_told room-length fs = (over_list room-length fs).forms

-- No other outcome meets the promise.
added_same : (a b : Added) → a.savings ≡ b.savings → a.column ≡ b.column → a ≡ b
added_same a b e f = λ i. record { savings = e i; column = f i }

pub only_one : (s : Savings) (form room room₁ room₂ : List ℕ) (a b : Added) → Adds s form room room₁ a → Adds s form room room₂ b → (a ≡ b) × (room₁ ≡ room₂)
unfolding Adds
only_one s form room room₁ room₂ a b h k = on_bool (is_open s)
    (λ y.
    let t : Takes s form room room₁ a = rw (y, Adds) at h in
    let u : Takes s form room room₂ b = rw (y, Adds) at k in
    (added_same a b (t.savings ∙ sym u.savings) (t.column ∙ sym u.column), t.room ∙ sym u.room))
    (λ y.
    let t : Leaves s room room₁ a = rw (y, Adds) at h in
    let u : Leaves s room room₂ b = rw (y, Adds) at k in
    (added_same a b (t.savings ∙ sym u.savings) (t.column ∙ sym u.column), t.room ∙ sym u.room))

-- ---- what the column says: whoever gets an answer knows by it whether the form was taken

-- a form's own outcome is never Full
not_full : (o : Outcome) → column_of o ≡ Full → ⊥
unfolding column_of
not_full (answered bytes tag numbers) e = let z : ◌≡◌ {A = ℕ} 0 1 = cc in absurd (omega arith)
not_full (refused n) e = let z : ◌≡◌ {A = ℕ} 0 1 = cc in absurd (omega arith)

module _ (s : Savings) (form room room' : List ℕ) (r : Added) (h : Adds s form room room' r) where
  pub taken : is_open s ≡ true → Takes s form room room' r
  unfolding Adds
  taken y = rw (y, Adds) at h

  pub left : is_open s ≡ false → Leaves s room room' r
  unfolding Adds
  left y = rw (y, Adds) at h

  pub full_shut : r.column ≡ Full → is_open s ≡ false
  full_shut e = on_bool (is_open s) (λ y. absurd (not_full (run form (length room) output_most) (sym (taken y).column ∙ e))) (λ y. y)

  pub column_open : (r.column ≡ Full → ⊥) → is_open s ≡ true
  column_open e = on_bool (is_open s) (λ y. y) (λ y. absurd (e (left y).column))
