-- work, deliver and evaluate: what each call and each return needs. Assumes nothing.
use Rattle.std.specs.Prelude.{Result, Ok, Err, Option, Some, None}
use Rattle.std.specs.Option.{ok_or}
use Prim.Native.Nat.{ℕ, ◌<◌, ◌≤◌}
use mathlib.Core.Path.{◌≡◌, refl, ◌∙◌, ap}
use mathlib.Core.List.{List, [], ◌∷◌}
use mathlib.Core.Option.{some}
use lib.ListN.{length, take, drop}
use native.Mathlib.Omega.{arith}
use Rattle.refusals.specs.declared.Refusal.{Refusal}
use Rattle.refusals.specs.declared.Refusal.TheVariants.{RoomSmall, OutputShort}
use Rattle.refusals.specs.Numbers.{number_of}
use Rattle.meaning.specs.Tree.{Tree}
use Rattle.meaning.specs.Limits.{room_least}
use Rattle.meaning.specs.Meter.{Out, done, stop, Steps}
use Rattle.meaning.specs.Form.{Reading, write}
use Rattle.meaning.specs.Evaluate.{evaluate}
use Rattle.meaning.specs.Outcome.{ended, zeroed, number, Delivers, Settles}
use Rattle.meaning.proofs.Late.{Touched, late_evaluate}
use Rattle.meaning.proofs.Lent.{Zeros, zeros_tree, zeros_ended, refusal_delivered, ended_done, small_settles, zeroed_settles}
use Rattle.store.specs.declared.Charges.{Charges}
use Rattle.store.specs.Nodes.{tree_at}
use Rattle.store.specs.Store.{Ready}
use Rattle.form.specs.declared.Two.{Two}
use Rattle.form.specs.Spans.{Stops, stops}
use Rattle.form.specs.Writes.{Writable, Delivered}
use Rattle.form.specs.Both.{Both, read_both, TwoTo, TwoOk}
use Rattle.form.proofs.Both.{late_both}
use Rattle.form.proofs.Delivering.{tree_short, tree_long}
use Rattle.form.proofs.Bytes.{node_writable}
use Rattle.evaluator.specs.declared.Meter.{Meter}
use Rattle.evaluator.specs.declared.Valued.{Valued}
use Rattle.evaluator.specs.Values.{state, stopped, ValuedOk}
use Rattle.evaluation.specs.declared.Evaluated.{Evaluated}
use Rattle.evaluation.specs.Bytes.{at_units, worked, delivered, outcome, says}
use Rattle.evaluation.specs.Work.{WorkedTo, WorkedOk}

-- ---- work

module _ (f s : List ℕ) (p e : List ℕ) (r : Result Two Refusal) (o : TwoOk f s (read_both p e) r) where
  pub both_refused : (n : Refusal) → r ≡ Err n → WorkedOk f s (worked p e) (Err n)
  unfolding TwoOk WorkedOk worked stopped
  both_refused n i = go (rw i at o)
    where
      go : Stops (read_both p e) n → stopped (worked p e) ≡ some n
      go (stops x h) = rw (h, worked)

  module _ (x : Two) (i : r ≡ Ok x) where
    abbrev a : ℕ
    a = x.first

    abbrev b : ℕ
    b = x.second

    abbrev c : Charges
    c = x.ch

    to : TwoTo f s c a b (read_both p e)
    unfolding TwoOk
    to = rw i at o

    pub program_ready : Ready f s c a
    program_ready = to.first

    pub environment_ready : Ready f s c b
    environment_ready = to.second

    worked_as : worked p e ≡ evaluate (tree_at f s a) (tree_at f s b) (at_units c.units)
    unfolding worked
    worked_as = rw (to.is, worked)

    pub both_evaluated : (s₁ : List ℕ) (v : Result Valued Refusal) → ValuedOk f s s₁ (record { steps = 0; ch = c }) (evaluate (tree_at f s a) (tree_at f s b) (at_units c.units)) v → WorkedOk f s₁ (worked p e) v
    unfolding ValuedOk WorkedOk
    both_evaluated s₁ (Ok v) h = record { ready = h.ready; is = worked_as ∙ h.value }
    both_evaluated s₁ (Err n) h = ap stopped worked_as ∙ h

-- none of its refusals leaves the room
worked_late : (p e : List ℕ) → Touched (worked p e)
unfolding worked Touched
worked_late p e = go (read_both p e) (late_both p e)
  where
    go : (o : Out Reading Both) → Touched o → Touched {S = Steps} {A = Tree} (elim o [ done b r ↦ evaluate b.one b.other (at_units r.units) | stop n r ↦ stop n (at_units r.units) ])
    go (done b r) h = (late_evaluate b.one b.other).so (at_units r.units)
    go (stop n r) h = h

-- ---- the value delivered

-- o is the work's outcome, and a its answer
module _ (f s₁ : List ℕ) (o : Out Steps Tree) (a : Result Valued Refusal) (h : WorkedOk f s₁ o a) where
  pub deliver_refused : (n : Refusal) (w : List ℕ) → a ≡ Err n → Delivers says (ended (delivered (length w)) o) w w (Err n)
  unfolding WorkedOk stopped says ended
  deliver_refused n w e = go o (rw e at h)
    where
      go : (x : Out Steps Tree) → stopped x ≡ some n → Delivers says (ended (delivered (length w)) x) w w (Err n)
      go (done t y) i = absurd (let j : ◌≡◌ {A = ℕ} 0 1 = cc in omega arith)
      go (stop m y) i = let j : number (number_of n) ≡ number (number_of m) = cc in refusal_delivered says m w (Err n) j

  module _ (x : Valued) (e : a ≡ Ok x) where
    abbrev q : ℕ
    q = x.node

    abbrev m : Meter
    m = x.meter

    value : WorkedTo f s₁ m q o
    unfolding WorkedOk
    value = rw e at h

    pub value_writable : Writable f s₁ q
    value_writable = node_writable f s₁ m.ch q value.ready

    module _ (w w₁ : List ℕ) (r : Option ℕ) (d : Delivered (write (tree_at f s₁ q)) w w₁ r) where
      abbrev counts : List ℕ
      counts = m.steps ∷ m.ch.units ∷ []

      pub deliver_short : (n : Refusal) → Err n ≡ ok_or r OutputShort → r ≡ None → Delivers says (ended (delivered (length w)) o) w w₁ (Err n)
      unfolding delivered says
      deliver_short n v i =
          let y : ◌≡◌ {A = Result ℕ Refusal} (Err n) (Err OutputShort) = rw i at v in
          let j : n ≡ OutputShort = cc in
          rw j (ended_done says (delivered (length w)) o (tree_at f s₁ q) (state m) w w₁ _ value.is (tree_short says (tree_at f s₁ q) counts w w₁ r d (Err OutputShort) refl i))

      pub deliver_done : (k : ℕ) → r ≡ Some k → Delivers says (ended (delivered (length w)) o) w w₁ (Ok (record { length = k; steps = m.steps; units = m.ch.units }))
      unfolding delivered says
      deliver_done k i = ended_done says (delivered (length w)) o (tree_at f s₁ q) (state m) w w₁ _ value.is (tree_long says (tree_at f s₁ q) counts w w₁ r d _ k refl i)

-- ---- evaluate

module _ (f s w : List ℕ) (first : ℕ) where
  abbrev whole : Out Steps Tree
  whole = worked (take first f) (drop first f)

  zeros : Zeros (ended (delivered (length w)) whole)
  unfolding delivered
  zeros = zeros_ended (delivered (length w)) (λ t x. zeros_tree (length w) t (x.steps ∷ x.units ∷ [])) whole (worked_late (take first f) (drop first f))

  pub evaluate_small : length s < room_least → Settles says (outcome f first (length s) (length w)) s s w w (Err RoomSmall)
  unfolding outcome says
  evaluate_small h = small_settles says (ended (delivered (length w)) whole) s w (Err RoomSmall) refl h

  pub evaluate_done : room_least ≤ length s → (s₁ s₂ w₁ : List ℕ) (a : Result Evaluated Refusal) → Delivers says (ended (delivered (length w)) whole) w w₁ a → s₂ ≡ zeroed s₁ → length s₁ ≡ length s
      → Settles says (outcome f first (length s) (length w)) s s₂ w w₁ a
  unfolding outcome
  evaluate_done h s₁ s₂ w₁ a d z same = zeroed_settles says _ s s₁ s₂ w w₁ a d zeros h z same
