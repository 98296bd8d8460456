-- optimize_node: the outermost call. Assumes nothing.
use mathlib.Core.Path.{◌≡◌}
use mathlib.Core.List.{List}
use mathlib.Core.Bool.{true}
use Prim.Native.Nat.{ℕ, ◌-◌, ◌≤◌}
use lib.Dec.{leb}
use lib.ListN.{length}
use native.Mathlib.Omega.{arith}
use Rattle.meaning.specs.Limits.{nesting_limit}
use Rattle.meaning.specs.Driver.{optimize_sexp, ends}
use Rattle.meaning.proofs.Tests.{leb_yes}
use Rattle.store.specs.declared.Charges.{Charges}
use Rattle.store.specs.Nodes.{tree_at}
use Rattle.store.specs.Store.{Ready}
use Rattle.patterns.specs.declared.Patterns.{Patterns}
use Rattle.patterns.specs.Patterns.{Patterned}
use Rattle.run_state.specs.declared.Work.{Work}
use Rattle.run_state.specs.Work.{spent_of, Did}
use Rattle.run_state.specs.declared.State.{State}
use Rattle.run_state.specs.State.{Valid, sounds}
use Rattle.run_state.specs.Notes.{count_records, Noted}
use Rattle.run_state.specs.declared.Notes.{Notes}
use Rattle.driver_parts.specs.Turns.{Fine, fresh_work}

-- an empty memo
pub start_valid : (f s : List ℕ) (row : List (List ℕ)) (st : State) → count_records ≤ length row → st.used ≡ 0 → Valid f s row st
start_valid f s row st l e = sounds (omega (arith, e)) (λ i o. absurd (omega (arith, e)))

-- in a row of a known length
pub start_known : (f s : List ℕ) (row : List (List ℕ)) (st : State) → leb count_records (length row) ≡ true → st.used ≡ 0 → Valid f s row st
start_known f s row st l e = start_valid f s row st (leb_yes count_records (length row) l) e

module _ (f s : List ℕ) (w : Work) (c : Charges) (n : ℕ) (e : w ≡ fresh_work c) where
  pub start_fine : (p : Patterns) → Ready f s c n → Patterned f s c p → Fine f s w p n
  start_fine p r a = rw e (record { ready = r; patterned = a; passes = omega arith })

  pub started : (t : List ℕ) (v : Work) → Did f s t w (tree_at f s n) (optimize_sexp (65 - 1) (tree_at f s n) (spent_of w)) v
      → Did f s t (fresh_work c) (tree_at f s n) (optimize_sexp nesting_limit (tree_at f s n) (spent_of (fresh_work c))) v
  started t v d = rw e at d

  pub started_noted : (notes : Notes) (row row₁ : List (List ℕ)) → Noted notes row row₁ (ends (65 - 1) (tree_at f s n) (spent_of w))
      → Noted notes row row₁ (ends nesting_limit (tree_at f s n) (spent_of (fresh_work c)))
  started_noted notes row row₁ k = rw e at k
