-- keep_body and keep_list, by the outcome of the driver. Assumes nothing.
use mathlib.Core.Path.{◌≡◌, refl, sym, subst}
use mathlib.Core.List.{List}
use mathlib.Core.Bool.{Bool}
use Prim.Native.Nat.{ℕ}
use Rattle.refusals.specs.declared.Refusal.{Refusal}
use Rattle.store.specs.Nodes.{tree_at}
use Rattle.store.specs.Store.{Ready}
use Rattle.run_state.specs.declared.Outcome.TheVariants.{Same, Changed, Stopped}
use Rattle.run_state.specs.declared.Work.{Work}
use Rattle.run_state.specs.Work.{spent_of, Did}
use Rattle.driver_parts.specs.Turns.{kept}
use Rattle.driver_parts.specs.Turns.{Keepable, KeptBody, Listable, KeptList}

module _ (f s : List ℕ) (w : Work) (r new : ℕ) where
  module _ (k : Keepable f s w r new w.last) where
    both_same : w.last ≡ Same → Ready f s w.ch r × Ready f s w.ch new
    unfolding Keepable
    both_same e = subst (Keepable f s w r new) e k

    pub same_input : w.last ≡ Same → Ready f s w.ch r
    same_input e = (both_same e).0

    pub same_body : w.last ≡ Same → Ready f s w.ch new
    same_body e = (both_same e).1

    both_changed : (m : ℕ) → w.last ≡ Changed m → Ready f s w.ch r × Ready f s w.ch m
    unfolding Keepable
    both_changed m e = subst (Keepable f s w r new) e k

    pub changed_input : (m : ℕ) → w.last ≡ Changed m → Ready f s w.ch r
    changed_input m e = (both_changed m e).0

    pub changed_body : (m : ℕ) → w.last ≡ Changed m → Ready f s w.ch m
    changed_body m e = (both_changed m e).1

  pub gives_stopped : (low : Bool) (e : Refusal) → w.last ≡ Stopped e → KeptBody f s s w r new low w w.last
  unfolding KeptBody
  gives_stopped low e i = subst (KeptBody f s s w r new low w) (sym i) (record { room = refl; work = refl })

  module _ (t : List ℕ) (low : Bool) (q : Work) where
    pub gives_same : Did f s t w (tree_at f s r) (kept low (tree_at f s new) (spent_of w)) q → w.last ≡ Same → KeptBody f s t w r new low q w.last
    unfolding KeptBody
    gives_same d e = subst (KeptBody f s t w r new low q) (sym e) d

    pub gives_changed : (m : ℕ) → Did f s t w (tree_at f s r) (kept low (tree_at f s m) (spent_of w)) q → w.last ≡ Changed m → KeptBody f s t w r new low q w.last
    unfolding KeptBody
    gives_changed m d e = subst (KeptBody f s t w r new low q) (sym e) d

module _ (f s : List ℕ) (w : Work) (r : ℕ) where
  module _ (k : Listable f s w r w.last) (m : ℕ) (e : w.last ≡ Changed m) where
    both_made : Ready f s w.ch r × Ready f s w.ch m
    unfolding Listable
    both_made = subst (Listable f s w r) e k

    pub made_input : Ready f s w.ch r
    made_input = both_made.0

    pub made_list : Ready f s w.ch m
    made_list = both_made.1

  pub lists_stopped : (low : Bool) (e : Refusal) → w.last ≡ Stopped e → KeptList f s s w r low w w.last
  unfolding KeptList
  lists_stopped low e i = subst (KeptList f s s w r low w) (sym i) (record { room = refl; work = refl })

  pub lists_same : (low : Bool) → w.last ≡ Same → KeptList f s s w r low w w.last
  unfolding KeptList
  lists_same low i = subst (KeptList f s s w r low w) (sym i) (record { room = refl; work = refl })

  pub lists_changed : (t : List ℕ) (low : Bool) (q : Work) (m : ℕ) → Did f s t w (tree_at f s r) (kept low (tree_at f s m) (spent_of w)) q → w.last ≡ Changed m → KeptList f s t w r low q w.last
  unfolding KeptList
  lists_changed t low q m d e = subst (KeptList f s t w r low q) (sym e) d
