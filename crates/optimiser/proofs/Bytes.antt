-- Delivering a run's result, and the room after it: what each return needs. Assumes nothing.
use Rattle.std.specs.Prelude.{Result, Ok, Err, Option, Some, None}
use mathlib.Core.Path.{◌≡◌, refl}
use mathlib.Core.List.{List, [], ◌∷◌}
use Prim.Native.Nat.{ℕ, ◌<◌, ◌≤◌}
use lib.ListN.{length}
use Rattle.refusals.specs.declared.Refusal.{Refusal}
use Rattle.refusals.specs.declared.Refusal.TheVariants.{RoomSmall, OutputShort}
use Rattle.meaning.specs.Limits.{room_least}
use Rattle.meaning.specs.Form.{write}
use Rattle.meaning.specs.Outcome.{ended, zeroed, Delivers}
use Rattle.meaning.specs.Run.{mark_number, worked, deliver_run, run}
use Rattle.meaning.proofs.Lent.{ended_refused, ended_done, small_settles, zeroed_settles}
use Rattle.meaning.proofs.RunLaws.{run_zeros}
use Rattle.store.specs.Nodes.{tree_at}
use Rattle.form.specs.Writes.{Writable, Delivered}
use Rattle.form.proofs.Delivering.{tree_short, tree_long}
use Rattle.run_state.specs.declared.Work.{Work}
use Rattle.run_state.specs.Work.{spent_of, StoppedBy}
use Rattle.optimiser.specs.declared.Finished.{Finished}
use Rattle.optimiser.specs.declared.Report.{Report}
use Rattle.optimiser.specs.Optimised.{says, Optimised}
use Rattle.optimiser.specs.Worked.{WorkedTo, WorkedOk}

-- ---- delivering

module _ (f s out : List ℕ) (x : Result Finished Refusal) (o : WorkedOk f s x) where
  pub deliver_refused : (n : Refusal) → x ≡ Err n → Delivers says (ended (deliver_run (length out)) (worked f)) out out (Err n)
  unfolding WorkedOk says
  deliver_refused n e = let by : StoppedBy n (worked f) = rw e at o in ended_refused says (deliver_run (length out)) (worked f) n by.after out (Err n) by.stops refl

  module _ (y : Finished) (e : x ≡ Ok y) where
    abbrev n : ℕ
    n = y.node

    abbrev w : Work
    w = y.work

    to : WorkedTo f s n w
    unfolding WorkedOk
    to = rw e at o

    pub deliver_writable : Writable f s n
    deliver_writable = to.writable

    module _ (out₁ : List ℕ) (r : Option ℕ) (d : Delivered (write (tree_at f s n)) out out₁ r) where
      abbrev numbers : List ℕ
      numbers = w.passes ∷ w.ch.units ∷ mark_number w.mark ∷ []

      pub deliver_short : r ≡ None → Delivers says (ended (deliver_run (length out)) (worked f)) out out₁ (Err OutputShort)
      unfolding deliver_run says
      deliver_short i = ended_done says (deliver_run (length out)) (worked f) (tree_at f s n) (spent_of w) out out₁ (Err OutputShort) to.is
          (tree_short says (tree_at f s n) numbers out out₁ r d (Err OutputShort) refl i)

      pub deliver_done : (k : ℕ) → r ≡ Some k
          → Delivers says (ended (deliver_run (length out)) (worked f)) out out₁ (Ok (record { length = k; passes = w.passes; units = w.ch.units; mark = w.mark }))
      unfolding deliver_run says
      deliver_done k i = ended_done says (deliver_run (length out)) (worked f) (tree_at f s n) (spent_of w) out out₁ _ to.is
          (tree_long says (tree_at f s n) numbers out out₁ r d (Ok (record { length = k; passes = w.passes; units = w.ch.units; mark = w.mark })) k refl i)

-- ---- the whole

module _ (f s out : List ℕ) where
  pub optimise_small : length s < room_least → Optimised f s out (Err RoomSmall) s out
  unfolding run says
  optimise_small h = small_settles says (ended (deliver_run (length out)) (worked f)) s out (Err RoomSmall) refl h

  pub optimise_done : (s₁ s₂ out₁ : List ℕ) (a : Result Report Refusal) → Delivers says (ended (deliver_run (length out)) (worked f)) out out₁ a → s₂ ≡ zeroed s₁ → length s₁ ≡ length s → room_least ≤ length s
      → Optimised f s out a s₂ out₁
  unfolding run
  optimise_done s₁ s₂ out₁ a d z l h = zeroed_settles says (ended (deliver_run (length out)) (worked f)) s s₁ s₂ out out₁ a d (run_zeros f (length out)) h z l
