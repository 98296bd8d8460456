-- A call that ended may be stored: store's needs, and that the row stays sound. Assumes nothing.
use mathlib.Core.Path.{◌≡◌, refl, ◌∙◌, ap}
use mathlib.Core.List.{List}
use mathlib.Core.Bool.{true, false}
use Prim.Native.Nat.{ℕ, ◌+◌, ◌<◌, ◌≤◌}
use native.Mathlib.Omega.{arith}
use lib.ListN.{length, set}
use lib.Dec.{eqb, ltb}
use borrow.Author.Tests.{ltb-true, lt-ltb, le-ltb, eq-eqb, ne_eqb}
use Rattle.meaning.specs.Limits.{pass_limit, height_at}
use Rattle.meaning.specs.Meter.{Spent}
use Rattle.meaning.proofs.Tests.{on_bool, not_false}
use Rattle.meaning.proofs.CostRun.{more}
use Rattle.meaning.proofs.CostDriver.{driver_fits}
use Rattle.meaning.proofs.Memo as law
use Rattle.meaning.proofs.MemoMark.{just_marked}
use Rattle.store.specs.Nodes.{tree_at, print_of}
use Rattle.store.proofs.Ready.{small}
use Rattle.run_state.specs.declared.Work.{Work}
use Rattle.run_state.specs.declared.Entry.{Entry}
use Rattle.run_state.specs.declared.State.{State}
use Rattle.run_state.specs.Work.{spent_of}
use Rattle.run_state.specs.Notes.{count_records}
use Rattle.run_state.specs.State.{record_of, Sound, Sounds, Valid}
use Rattle.run_state.proofs.Entries.{few, sounds_more}
use Rattle.memo.specs.Policy.{low_print, entry_to_store, is_stored, row_after, used_after}
use Rattle.memo.specs.Memo.{Ended, Small, Stored}

module _ (f s : List ℕ) (b a : Work) (n r nest : ℕ) (h : Ended f s b a n r nest) where
  entry : (c : Spent) × (spent_of a ≡ more (spent_of b) c) × law.Entry (tree_at f s n) (tree_at f s r) c (height_at nest)
  entry = law.stored (height_at nest) (tree_at f s n) (tree_at f s r) (spent_of b) (spent_of a) h.fits h.gives

  units : a.ch.units ≡ b.ch.units + entry.0.units
  units = ap (λ (x : Spent). x.units) entry.1

  passes : a.passes ≡ b.passes + entry.0.passes
  passes = ap (λ (x : Spent). x.passes) entry.1

  pub store_small : a.passes < 65536 → Small b a n r nest
  store_small few =
      let g = driver_fits (height_at nest) (tree_at f s n) (tree_at f s r) (spent_of b) (spent_of a) h.fits h.gives in
      record {
        expr = small f s a.ch n h.expr;
        result = small f s a.ch r h.result;
        passes = omega (arith, passes);
        passes_most = few;
        units = omega (arith, units);
        units_most = g.0;
        nests = h.nests;
      }

  sound : (print : ℕ) → Sound f s a.ch a.mark (entry_to_store b a n r nest print)
  sound print = record {
    expr = h.expr;
    result = h.result;
    cost = entry.0;
    units = omega (arith, units);
    passes = omega (arith, passes);
    marked = just_marked (spent_of b) entry.0 (spent_of a) entry.1;
    repeats = entry.2;
    differs = h.differs;
  }

-- ---- store

pub has_room : (row : List (List ℕ)) (st : State) (b : Work) → is_stored row st b ≡ true → st.used + count_records < length row
unfolding is_stored
has_room row st b y = on_bool (ltb (st.used + count_records) (length row)) (λ x. ltb-true (st.used + count_records) (length row) x) (λ x. not_false (rw x at y))

module _ (f s : List ℕ) (row : List (List ℕ)) (st : State) (b : Work) (n r nest : ℕ) (v : Valid f s row st) (h : Ended f s b st.w n r nest) where
  -- the row is sound after a call as the policy has it
  pub after_sound : Sounds f s st.w.ch st.w.mark (used_after row st b) (row_after f s row st b n r nest)
  unfolding row_after used_after
  after_sound = on_bool (is_stored row st b)
      (λ y. rw y (sounds_more (entry_to_store b st.w n r nest (low_print (print_of (tree_at f s n)))) v (has_room row st b y) (sound f s b st.w n r nest h (low_print (print_of (tree_at f s n))))))
      (λ y. rw y v)

  stored : (row' : List (List ℕ)) (used : ℕ) → row' ≡ row_after f s row st b n r nest → used ≡ used_after row st b → Stored f s row row' st b n r nest (record { w = st.w; used = used })
  stored row' used er eu = record { kept = record { work = refl; valid = rw (er, eu) after_sound }; filled = er; used = eu }

  not_stored : is_stored row st b ≡ false → Stored f s row row st b n r nest st
  unfolding row_after used_after
  not_stored e = stored row st.used (rw e) (rw e)

  pub row_full : length row ≤ st.used + count_records → Stored f s row row st b n r nest st
  unfolding is_stored
  row_full l = not_stored (rw (le-ltb (st.used + count_records) (length row) l))

  pub no_pass : st.w.passes ≡ b.passes → Stored f s row row st b n r nest st
  unfolding is_stored
  no_pass e =
      let z : eqb st.w.passes b.passes ≡ true = eq-eqb st.w.passes b.passes e in
      not_stored (on_bool (ltb (st.used + count_records) (length row)) (λ y. rw (y, z)) (λ y. rw y))

  module _ (d : st.w.passes ≡ b.passes → ⊥) where
    pub none_left : pass_limit ≤ st.w.passes → Stored f s row row st b n r nest st
    unfolding is_stored
    none_left l =
        let z : ltb st.w.passes pass_limit ≡ false = le-ltb st.w.passes pass_limit l in
        not_stored (on_bool (ltb (st.used + count_records) (length row)) (λ y. rw (y, ne_eqb st.w.passes b.passes d, z)) (λ y. rw y))

    module _ (l : st.used + count_records < length row) (few : st.w.passes < pass_limit) where
      yes_stored : is_stored row st b ≡ true
      unfolding is_stored
      yes_stored = rw (lt-ltb (st.used + count_records) (length row) l, ne_eqb st.w.passes b.passes d, lt-ltb st.w.passes pass_limit few)

      pub one_more : (row' : List (List ℕ)) (e : Entry) (low key : ℕ) → row' ≡ set row st.used (record_of e) → e ≡ entry_to_store b st.w n r nest low → low ≡ low_print key → key ≡ print_of (tree_at f s n)
          → Stored f s row row' st b n r nest (record { w = st.w; used = st.used + 1 })
      unfolding row_after used_after
      one_more row' e low key er ee el ek = stored row' (st.used + 1) (rw yes_stored (er ∙ rw (ee, el, ek))) (rw yes_stored)
