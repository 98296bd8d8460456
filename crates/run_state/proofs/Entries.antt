-- The memo stays sound as the run goes on. Assumes nothing.
use mathlib.Core.Path.{◌≡◌, sym, subst}
use mathlib.Core.List.{List, []}
use mathlib.Core.Bool.{Bool, true}
use Prim.Native.Nat.{ℕ, ◌+◌, ◌<◌, ◌≤◌}
use native.Mathlib.Omega.{arith}
use native.Mathlib.Decide.{dec_le}
use lib.ListN.{length, set, length-set}
use lib.Seq.{get_or-set_same, get_or-set_other}
use Rattle.refusals.specs.declared.Refusal.{Refusal}
use Rattle.store.specs.declared.Charges.{Charges}
use Rattle.store.specs.Nodes.{tree_at}
use Rattle.store.specs.Makers.{Grown}
use Rattle.store.proofs.Ready.{grown_ready, grown_tree}
use Rattle.run_state.specs.declared.Outcome.{Outcome}
use Rattle.run_state.specs.declared.Outcome.TheVariants.{Same, Changed, Stopped}
use Rattle.run_state.specs.declared.Entry.{Entry}
use Rattle.run_state.specs.declared.State.{State}
use Rattle.run_state.specs.Notes.{count_records}
use Rattle.run_state.specs.State.{entry_at, record_of, Sound, Sounds, sounds, Valid, UnlessStopped, Still}

-- ---- the entries in use

-- they stand in the row, before the counts
pub few : {f s : List ℕ} {c : Charges} {m : Bool} {used : ℕ} {row : List (List ℕ)} → Sounds f s c m used row → used + count_records ≤ length row
few (sounds a h) = a

-- each in use is sound
pub sound_at : {f s : List ℕ} {c : Charges} {m : Bool} {used : ℕ} {row : List (List ℕ)} → Sounds f s c m used row → (i : ℕ) → i < used → Sound f s c m (entry_at row i)
sound_at (sounds a h) i l = h i l

-- one entry more
pub sounds_more : {f s : List ℕ} {c : Charges} {m : Bool} {used : ℕ} {row : List (List ℕ)} (e : Entry) → Sounds f s c m used row → used + count_records < length row → Sound f s c m e
    → Sounds f s c m (used + 1) (set row used (record_of e))
sounds_more {f} {s} {c} {m} {used} {row} e (sounds b h) l k = sounds (rw (length-set row used (record_of e)) (omega arith)) at_place
  where
    at_place : (i : ℕ) → i < used + 1 → Sound f s c m (entry_at (set row used (record_of e)) i)
    at_place i o = go (dec_le used i)
      where
        go : Dec (used ≤ i) → Sound f s c m (entry_at (set row used (record_of e)) i)
        go (yes q) = let z : i ≡ used = omega arith in rw (z, get_or-set_same row used (record_of e) [] (omega arith)) k
        go (no q) = rw (get_or-set_other row used i (record_of e) [] (λ z. q (omega arith))) (h i (omega arith))

-- ---- as the store grows

sound_grown : (f s s' : List ℕ) (c c' : Charges) (m m' : Bool) (e : Entry) → Sound f s c m e → Grown f s s' c c' → (m ≡ true → m' ≡ true) → Sound f s' c' m' e
sound_grown f s s' c c' m m' e h g k =
    let a : tree_at f s' e.expr ≡ tree_at f s e.expr = grown_tree g h.expr in
    let b : tree_at f s' e.result ≡ tree_at f s e.result = grown_tree g h.result in
    record {
      expr = grown_ready g h.expr;
      result = grown_ready g h.result;
      cost = h.cost;
      units = h.units;
      passes = h.passes;
      marked = λ x. k (h.marked x);
      repeats = rw (a, b) h.repeats;
      differs = λ x. rw (a, b) (h.differs x);
    }

-- "every entry is valid" still after work that only adds to the store, and takes no mark away
pub sounds_grown : {f s s' : List ℕ} {c c' : Charges} {m m' : Bool} {used : ℕ} {row : List (List ℕ)} → Sounds f s c m used row → Grown f s s' c c' → (m ≡ true → m' ≡ true) → Sounds f s' c' m' used row
sounds_grown (sounds a h) g k = sounds a (λ i l. sound_grown _ _ _ _ _ _ _ _ (h i l) g k)

-- ---- the memo after work, by the outcome

module _ (f s : List ℕ) (row : List (List ℕ)) (st : State) where
  pub valid_still : Valid f s row st → Still f s row st
  unfolding Still UnlessStopped
  valid_still v = go st.w.last
    where
      go : (o : Outcome) → UnlessStopped o (Valid f s row st)
      go Same = v
      go (Changed m) = v
      go (Stopped r) = tt

  pub still_stopped : (r : Refusal) → st.w.last ≡ Stopped r → Still f s row st
  unfolding Still UnlessStopped
  still_stopped r e = subst (λ (o : Outcome). UnlessStopped o (Valid f s row st)) (sym e) tt

  pub valid_same : st.w.last ≡ Same → Still f s row st → Valid f s row st
  unfolding Still UnlessStopped
  valid_same e v = subst (λ (o : Outcome). UnlessStopped o (Valid f s row st)) e v

  pub valid_changed : (m : ℕ) → st.w.last ≡ Changed m → Still f s row st → Valid f s row st
  unfolding Still UnlessStopped
  valid_changed m e v = subst (λ (o : Outcome). UnlessStopped o (Valid f s row st)) e v
