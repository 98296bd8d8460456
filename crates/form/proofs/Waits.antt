-- Laws of the pairs that wait while a tree is read. Assumes nothing.
use mathlib.Core.Path.{◌≡◌, refl, sym, ◌∙◌, ap, ap₂, fun_ext}
use mathlib.Core.List.{List}
use Prim.Native.Nat.{ℕ, zero, suc, ◌+◌, ◌<◌, ◌≤◌}
use native.Mathlib.Omega.{arith}
use lib.ListN.{length, get_or, set, length-set}
use lib.Seq.{get_or-set_same, get_or-set_other}
use lib.Dec.{ltb, eqb}
use borrow.Author.Tests.{ltb-true, ltb-false, le-leb, eq-eqb, ne_eqb, eqb-true, eqb-false}
use Rattle.refusals.specs.declared.Refusal.TheVariants.{UnitsOut}
use Rattle.meaning.specs.Tree.{Tree, pair}
use Rattle.meaning.specs.Limits.{unit_limit, pair_cost}
use Rattle.meaning.specs.Meter.{Out, done, stop, M, ◌>>=◌, give}
use Rattle.meaning.specs.Form.{Reading, limits, spend}
use Rattle.meaning.proofs.Tests.{on_bool}
use Rattle.meaning.proofs.MeterLaws.{bind_at, seq_at}
use Rattle.meaning.proofs.ReaderLaws.{spend_at}
use Rattle.store.specs.declared.Charges.{Charges}
use Rattle.store.specs.Nodes.{tree_at}
use Rattle.store.specs.Store.{Ready}
use Rattle.store.specs.Makers.{Grown}
use Rattle.store.proofs.Ready.{grown_ready, grown_tree}
use Rattle.form.specs.Spans.{left_from, next_tree, Stops}
use Rattle.form.specs.Waits.{paired, right_of, taken, resume, Waits}
use Rattle.form.proofs.Spans.{bind_stops, seq_stops, spend_stops, same_stops}
use Rattle.form.proofs.Trees.{tree_pair}

-- ---- their left parts are nodes

pub waits_none : (f s w : List ℕ) (c : Charges) → Waits f s w c 0
waits_none f s w c = record { within = omega arith; nodes = λ i o n. absurd (omega arith) }

pub waits_fewer : {f s w : List ℕ} {c : Charges} {k : ℕ} (j : ℕ) → j ≤ k → Waits f s w c k → Waits f s w c j
waits_fewer {f} {s} {w} {c} {k} j h a = record { within = omega (arith, a.within); nodes = λ i o n. a.nodes i (omega arith) n }

pub waits_grown : {f s s' w : List ℕ} {c c' : Charges} {k : ℕ} → Grown f s s' c c' → Waits f s w c k → Waits f s' w c' k
waits_grown g a = record { within = a.within; nodes = λ i o n. grown_ready g (a.nodes i o n) }

-- one more
pub waits_set : {f s w : List ℕ} {c : Charges} {k : ℕ} (x : ℕ) → Waits f s w c k → k < length w → ((x ≡ 0xffff → ⊥) → Ready f s c x) → Waits f s (set w k x) c (suc k)
waits_set {f} {s} {w} {c} {k} x a h r = record {
  within = simp length-set (omega arith);
  nodes = λ i o n. on_bool (ltb i k)
      (λ y. let l : i < k = ltb-true i k y in let e : get_or (set w k x) i 0 ≡ get_or w i 0 = get_or-set_other w k i x 0 (λ z. omega arith) in rw e (a.nodes i l (λ z. n (e ∙ z))))
      (λ y. let z : i ≡ k = omega (arith, ltb-false i k y) in let e : get_or (set w k x) i 0 ≡ x = rw z (get_or-set_same w k x 0 h) in rw e (r (λ z. n (e ∙ z))));
}

-- ---- what is left to do with a tree that is whole

-- the same, where each entry takes it alike
resume_same : (f s s' w w' : List ℕ) (k : ℕ) → ((i : ℕ) → i < k → taken f s' (get_or w' i 0) ≡ taken f s (get_or w i 0)) → resume f s' w' k ≡ resume f s w k
unfolding resume
resume_same f s s' w w' zero h = refl
resume_same f s s' w w' (suc k) h =
    ap₂ (λ (g : Tree → M Reading Tree) (r : Tree → M Reading Tree). λ (t : Tree). g t >>= r) (h k (omega arith)) (resume_same f s s' w w' k (λ i o. h i (omega arith)))

taken_open : (f s : List ℕ) (x : ℕ) (t : Tree) → x ≡ 0xffff → taken f s x t ≡ right_of t
unfolding taken
taken_open f s x t e = rw (eq-eqb x 0xffff e, taken)

taken_node : (f s : List ℕ) (x : ℕ) (t : Tree) → (x ≡ 0xffff → ⊥) → taken f s x t ≡ paired (tree_at f s x) t
unfolding taken
taken_node f s x t n = rw (ne_eqb x 0xffff n, taken)

taken_grown : {f s s' : List ℕ} {c c' : Charges} → Grown f s s' c c' → (x : ℕ) → ((x ≡ 0xffff → ⊥) → Ready f s c x) → taken f s' x ≡ taken f s x
taken_grown {f} {s} {s'} g x h = on_bool (eqb x 0xffff)
    (λ y. let e : x ≡ 0xffff = eqb-true x 0xffff y in fun_ext (λ t. taken_open f s' x t e ∙ sym (taken_open f s x t e)))
    (λ y. let n : x ≡ 0xffff → ⊥ = eqb-false x 0xffff y in fun_ext (λ t. taken_node f s' x t n ∙ ap (λ (l : Tree). paired l t) (grown_tree g (h n)) ∙ sym (taken_node f s x t n)))

pub resume_grown : {f s s' w : List ℕ} {c c' : Charges} {k : ℕ} → Grown f s s' c c' → Waits f s w c k → resume f s' w k ≡ resume f s w k
resume_grown {f} {s} {s'} {w} {c} {c'} {k} g a = resume_same f s s' w w k (λ i o. taken_grown g (get_or w i 0) (a.nodes i o))

pub resume_set : (f s w : List ℕ) (k x : ℕ) → resume f s (set w k x) k ≡ resume f s w k
resume_set f s w k x = resume_same f s s w (set w k x) k (λ i o. ap (λ (y : ℕ). taken f s y) (get_or-set_other w k i x 0 (λ z. omega arith)))

-- no pair waits
pub resume_none : (f s w : List ℕ) (r : Reading) → (next_tree >>= resume f s w 0) r ≡ next_tree r
unfolding resume ◌>>=◌ give
resume_none f s w r = go (next_tree r)
  where
    go : (o : Out Reading Tree) → ◌≡◌ {A = Out Reading Tree} (elim o as (λ _. Out Reading Tree) [ done a t ↦ done a t | stop n t ↦ stop n t ]) o
    go (done a t) = refl
    go (stop n t) = refl

assoc : {A B C : Type 0} (m : M Reading A) (g : A → M Reading B) (h : B → M Reading C) (s : Reading) → ((m >>= g) >>= h) s ≡ (m >>= λ a. g a >>= h) s
unfolding ◌>>=◌
assoc {A} {B} {C} m g h s = go (m s)
  where
    go : (o : Out Reading A)
        → ◌≡◌ {A = Out Reading C} (elim (elim o as (λ _. Out Reading B) [ done a t ↦ g a t | stop n t ↦ stop n t ]) as (λ _. Out Reading C) [ done b t ↦ h b t | stop n t ↦ stop n t ])
        (elim o as (λ _. Out Reading C) [ done a t ↦ (g a >>= h) t | stop n t ↦ stop n t ])
    go (done a t) = refl
    go (stop n t) = refl

module _ (f s w : List ℕ) (k : ℕ) where
  -- a pair begins: its left part is next
  pub resume_open : (at end u : ℕ) → at < end → end ≤ length f → get_or f at 0 ≡ 255 → get_or w k 0 ≡ 0xffff
      → (next_tree >>= resume f s w k) (left_from f at end u) ≡ (next_tree >>= resume f s w (suc k)) (left_from f (at + 1) end u)
  unfolding resume ◌>>=◌
  resume_open at end u h l e z =
      ap (λ (o : Out Reading Tree). elim o as (λ _. Out Reading Tree) [ done a t ↦ resume f s w k a t | stop n t ↦ stop n t ]) (tree_pair f at end u h l e)
      ∙ assoc next_tree right_of (resume f s w k) (left_from f (at + 1) end u)
      ∙ ap (λ (g : Tree → M Reading Tree). (next_tree >>= λ t. g t >>= resume f s w k) (left_from f (at + 1) end u)) (fun_ext (λ t. sym (taken_open f s (get_or w k 0) t z)))

  -- the left part of the last pair is the node p: its right part is next
  pub resume_left : (w' : List ℕ) (p : ℕ) (r : Reading) → get_or w' k 0 ≡ 0xffff → get_or w k 0 ≡ p → (p ≡ 0xffff → ⊥) → resume f s w k ≡ resume f s w' k
      → resume f s w' (suc k) (tree_at f s p) r ≡ (next_tree >>= resume f s w (suc k)) r
  unfolding resume right_of
  resume_left w' p r z y n e =
      ap (λ (m : M Reading Tree). (m >>= resume f s w' k) r) (taken_open f s (get_or w' k 0) (tree_at f s p) z)
      ∙ assoc next_tree (λ t. paired (tree_at f s p) t) (resume f s w' k) r
      ∙ ap₂ (λ (g : Tree → M Reading Tree) (h : Tree → M Reading Tree). (next_tree >>= λ t. g t >>= h) r) (fun_ext (λ t. sym (ap (λ (x : ℕ). taken f s x t) y ∙ taken_node f s p t n))) (sym e)

  -- the left part of the last pair is its node
  module _ (n : get_or w k 0 ≡ 0xffff → ⊥) (t : Tree) (r : Reading) where
    abbrev l : Tree
    l = tree_at f s (get_or w k 0)

    last : resume f s w (suc k) t r ≡ (paired l t >>= resume f s w k) r
    unfolding resume
    last = ap (λ (m : M Reading Tree). (m >>= resume f s w k) r) (taken_node f s (get_or w k 0) t n)

    pub resume_pair : r.units + pair_cost ≤ unit_limit → resume f s w (suc k) t r ≡ resume f s w k (pair l t) (record { left = r.left; units = r.units + pair_cost })
    unfolding paired give
    resume_pair g =
        let r' : Reading = record { left = r.left; units = r.units + pair_cost } in
        last
        ∙ bind_at (paired l t) (resume f s w k) r r' (pair l t)
        (seq_at (spend limits pair_cost) (give (pair l t)) r r' tt (spend_at limits pair_cost r.left r.units (le-leb (r.units + pair_cost) unit_limit g)))

    pub resume_over : unit_limit < r.units + pair_cost → Stops (resume f s w (suc k) t r) UnitsOut
    unfolding paired
    resume_over g = same_stops last (bind_stops (paired l t) (resume f s w k) r UnitsOut (seq_stops (spend limits pair_cost) (give (pair l t)) r UnitsOut (spend_stops pair_cost r g)))
