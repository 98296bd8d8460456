-- put_before and worked_into, by what the work says. Assumes nothing.
use Rattle.std.specs.Prelude.{Some, None}
use mathlib.Core.Path.{◌≡◌, refl, sym, subst}
use mathlib.Core.List.{List}
use mathlib.Core.Bool.{Bool, true, false, ◌||◌}
use Prim.Native.Nat.{ℕ, ◌<◌}
use Rattle.refusals.specs.declared.Refusal.{Refusal}
use Rattle.meaning.specs.Meter.{done}
use Rattle.meaning.proofs.Operands.{ending}
use Rattle.store.specs.Cells.{Room}
use Rattle.store.specs.Nodes.{tree_at}
use Rattle.store.specs.Store.{Ready}
use Rattle.store.proofs.Ready.{small, room}
use Rattle.sexp.specs.Lists.{Items}
use Rattle.run_state.specs.declared.Outcome.TheVariants.{Same, Changed, Stopped}
use Rattle.run_state.specs.declared.Work.{Work}
use Rattle.run_state.specs.Work.{spent_of}
use Rattle.driver_parts.specs.Walk.{sets_flag, wrap, Walked, Puttable, PutBefore, Stands, Became}

-- ---- put_before

module _ (f s : List ℕ) (w : Work) (got : List ℕ) (k : ℕ) where
  module _ (h : Puttable f s w got k w.last) (m : ℕ) (e : w.last ≡ Changed m) where
    both : Ready f s w.ch m × Items s w.ch got k
    unfolding Puttable
    both = subst (Puttable f s w got k) e h

    pub put_ready : Ready f s w.ch m
    put_ready = both.0

    pub put_items : Items s w.ch got k
    put_items = both.1

  pub put_stopped : (e : Refusal) → w.last ≡ Stopped e → PutBefore f s s w got k w w.last
  unfolding PutBefore
  put_stopped e i = subst (PutBefore f s s w got k w) (sym i) (record { room = refl; work = refl })

  pub put_same : w.last ≡ Same → PutBefore f s s w got k w w.last
  unfolding PutBefore
  put_same i = subst (PutBefore f s s w got k w) (sym i) (record { room = refl; work = refl })

  pub put_changed : (t : List ℕ) (q : Work) (m : ℕ) → Walked f s t w (wrap f s got k (done (ending true (tree_at f s m)) (spent_of w))) q → w.last ≡ Changed m → PutBefore f s t w got k q w.last
  unfolding PutBefore ending
  put_changed t q m d e = subst (PutBefore f s t w got k q) (sym e) d

-- ---- worked_into

module _ (f s : List ℕ) (w : Work) (h : ℕ) where
  module _ (k : Stands f s w h w.last) where
    stays : w.last ≡ Same → Ready f s w.ch h
    unfolding Stands
    stays e = subst (Stands f s w h) e k

    pub stay_small : w.last ≡ Same → h < 65536
    stay_small e = small f s w.ch h (stays e)

    pub stay_room : w.last ≡ Same → Room s h
    stay_room e = room f s w.ch h (stays e)

    module _ (m : ℕ) (e : w.last ≡ Changed m) where
      moves : Ready f s w.ch m
      unfolding Stands
      moves = subst (Stands f s w h) e k

      pub move_small : m < 65536
      move_small = small f s w.ch m moves

      pub move_room : Room s m
      move_room = room f s w.ch m moves

  module _ (count flag : Bool) where
    pub became_changed : (b : Bool) (m : ℕ) → b ≡ (flag || sets_flag count true (tree_at f s m)) → w.last ≡ Changed m → Became f s h count flag (Some (record { node = m; flag = b })) w.last
    unfolding Became
    became_changed b m eb e = subst (Became f s h count flag (Some (record { node = m; flag = b }))) (sym e) (record { node = refl; sets = eb })

    pub became_same : (b : Bool) → b ≡ (flag || sets_flag count false (tree_at f s h)) → w.last ≡ Same → Became f s h count flag (Some (record { node = h; flag = b })) w.last
    unfolding Became
    became_same b eb e = subst (Became f s h count flag (Some (record { node = h; flag = b }))) (sym e) (record { node = refl; sets = eb })

    pub became_refused : (u : Refusal) → w.last ≡ Stopped u → Became f s h count flag None w.last
    unfolding Became
    became_refused u e = subst (Became f s h count flag None) (sym e) tt
