-- Building lists: what the loop of enlist_node keeps, and two makers in a row.
use mathlib.Core.Path.{◌≡◌, refl, ◌∙◌, ap, ap₂}
use mathlib.Core.List.{List, [], ◌∷◌, ◌++◌, map}
use Prim.Native.Nat.{ℕ, ◌+◌, ◌*◌, ◌<◌}
use native.Mathlib.Omega.{arith}
use lib.ListN.{get_or, length, take}
use lib.Seq.{get_or-take, length-take-le}
use Rattle.std.proofs.lemmas.List.{length-append, get_or_at, get_or_append_left}
use Rattle.refusals.specs.declared.Refusal.{Refusal}
use Rattle.meaning.specs.Tree.{Tree, atom, pair, quote}
use Rattle.meaning.specs.Limits.{unit_limit, pair_cost, atom_cost}
use Rattle.store.specs.declared.Charges.{Charges}
use Rattle.store.specs.declared.Made.{Made}
use Rattle.std.specs.Prelude.{Result, Ok, Err}
use Rattle.store.specs.Nodes.{tree_at}
use Rattle.store.specs.Store.{Ready}
use Rattle.store.specs.Makers.{Grown, Bought, Over, MadeOk}
use Rattle.store.proofs.Ready.{grown_none, grown_both, grown_ready, grown_tree}
use Rattle.store.proofs.Charging.{made_node, made_over}
use Rattle.sexp.specs.Lists.{enlist_onto, Items}

-- ---- the loop

-- the last item is the head of the tail
enlist_last : (g : ℕ → Tree) (xs : List ℕ) (x : ℕ) (t : Tree) → enlist_onto (map g (xs ++ x ∷ [])) t ≡ enlist_onto (map g xs) (pair (g x) t)
unfolding enlist_onto
enlist_last g [] x t = refl
enlist_last g (y ∷ xs) x t = ap (pair (g y)) (enlist_last g xs x t)

-- the items that are left, before the node m, are the whole list
pub record Enlisting (f s t : List ℕ) (c d : Charges) (k : ℕ) (whole : Tree) (left : List ℕ) (m : ℕ) : Type 0 where
  pub grown : Grown f s t c d
  pub ready : Ready f t d m
  pub nodes : (j : ℕ) → j < length left → Ready f s c (get_or left j 0)
  pub tree : enlist_onto (map (tree_at f s) left) (tree_at f t m) ≡ whole
  pub units : d.units + pair_cost * length left ≡ c.units + pair_cost * k
  pub free : d.free ≡ c.free

pub enlist_starts : (f s : List ℕ) (c : Charges) (items left : List ℕ) (k tail : ℕ) → Ready f s c tail → Items s c items k → left ≡ take k items → Enlisting f s s c c k (enlist_onto (map (tree_at f s) (take k items)) (tree_at f s tail)) left tail
enlist_starts f s c items left k tail h it e =
    let z : length left ≡ k = ap length e ∙ length-take-le k items it.within in
    record {
      grown = grown_none f s c h.held;
      ready = h;
      nodes = λ j o.
          let o' : j < k = omega arith in
          let at : get_or left j 0 ≡ get_or items j 0 = rw e (get_or-take k items j 0 o') in
          rw at (record { held = h.held; node = it.nodes j o'; old = it.old j o' });
      tree = rw e;
      units = rw z;
      free = refl;
    }

-- the item x is the last that is left
module _ (f s t : List ℕ) (c d : Charges) (k : ℕ) (whole : Tree) (left rest : List ℕ) (m x : ℕ) (v : Enlisting f s t c d k whole left m) (e : left ≡ rest ++ x ∷ []) where
  long : length left ≡ length rest + 1
  long = rw e (length-append rest (x ∷ []))

  item_old : Ready f s c x
  item_old =
      let l : length left ≡ length rest + 1 = long in
      let at : get_or left (length rest) 0 ≡ x = rw e (get_or_at rest x [] 0 (length rest) refl) in
      rw at at (v.nodes (length rest) (omega arith))

  pub enlist_item : Ready f t d x
  enlist_item = grown_ready v.grown item_old

  module _ (u : List ℕ) (a : Result Made Refusal) (b : MadeOk f t u d pair_cost (pair (tree_at f t x) (tree_at f t m)) a) where
    pub enlist_turn : (q : Made) → a ≡ Ok q → Enlisting f s u c q.ch k whole rest q.node
    enlist_turn q eq =
        let y : Bought f t u d q.ch pair_cost q.node (pair (tree_at f t x) (tree_at f t m)) = made_node f t u d pair_cost (pair (tree_at f t x) (tree_at f t m)) a b q eq in
        let l : length left ≡ length rest + 1 = long in
        let du : d.units + pair_cost * length left ≡ c.units + pair_cost * k = v.units in
        let gu : q.ch.units ≡ d.units + pair_cost = y.units in
        record {
          grown = grown_both v.grown y.stands.grown;
          ready = y.stands.ready;
          nodes = λ j o.
              let at : get_or left j 0 ≡ get_or rest j 0 = rw e (get_or_append_left rest (x ∷ []) 0 j o) in
              rw at at (v.nodes j (omega arith));
          tree = rw (y.stands.tree, grown_tree v.grown item_old, ← enlist_last (tree_at f s) rest x (tree_at f t m), ← e) v.tree;
          units = omega arith;
          free = y.free ∙ v.free;
        }

    pub enlist_over : (z : List ℕ) (w : Tree) (r : Refusal) → a ≡ Err r → MadeOk f s z c (pair_cost * k) w (Err r)
    unfolding MadeOk
    enlist_over z w r eq =
        let g : Over d pair_cost r = made_over f t u d pair_cost (pair (tree_at f t x) (tree_at f t m)) a b r eq in
        let l : length left ≡ length rest + 1 = long in
        let du : d.units + pair_cost * length left ≡ c.units + pair_cost * k = v.units in
        let o : unit_limit < d.units + pair_cost = g.over in
        record { refusal = g.refusal; over = omega arith }

pub enlist_ends : (f s t : List ℕ) (c : Charges) (p : Made) (k : ℕ) (whole : Tree) (left : List ℕ) → Enlisting f s t c p.ch k whole left p.node → length left ≡ 0 → MadeOk f s t c (pair_cost * k) whole (Ok p)
unfolding MadeOk enlist_onto
enlist_ends f s t c p k whole [] v o =
    let u : p.ch.units + pair_cost * 0 ≡ c.units + pair_cost * k = v.units in
    record { stands = record { grown = v.grown; ready = v.ready; tree = v.tree }; units = omega arith; free = v.free }
enlist_ends f s t c p k whole (x ∷ xs) v o = absurd (omega arith)

-- ---- the quote

module _ (f s t : List ℕ) (c : Charges) (q : Made) (n : ℕ) (a : Result Made Refusal) (e : a ≡ Ok q) (h : MadeOk f s t c (atom_cost (1 ∷ [])) (atom (1 ∷ [])) a) (r : Ready f s c n) where
  first_made : Bought f s t c q.ch (atom_cost (1 ∷ [])) q.node (atom (1 ∷ []))
  first_made = made_node f s t c (atom_cost (1 ∷ [])) (atom (1 ∷ [])) a h q e

  pub quote_one : Ready f t q.ch q.node
  quote_one = first_made.stands.ready

  pub quote_old : Ready f t q.ch n
  quote_old = grown_ready first_made.stands.grown r

  -- what the second maker says holds of both
  pub quote_made : (u : List ℕ) (b : Result Made Refusal) → MadeOk f t u q.ch pair_cost (pair (tree_at f t q.node) (tree_at f t n)) b → MadeOk f s u c (5 + pair_cost) (quote (tree_at f s n)) b
  unfolding MadeOk quote atom_cost
  quote_made u (Ok p) x =
      let eu : q.ch.units ≡ c.units + 5 = first_made.units in
      let gu : p.ch.units ≡ q.ch.units + pair_cost = x.units in
      record {
        stands = record {
          grown = grown_both first_made.stands.grown x.stands.grown;
          ready = x.stands.ready;
          tree = x.stands.tree ∙ ap₂ pair first_made.stands.tree (grown_tree first_made.stands.grown r);
        };
        units = omega arith;
        free = x.free ∙ first_made.free;
      }
  quote_made u (Err y) x =
      let eu : q.ch.units ≡ c.units + 5 = first_made.units in
      let o : unit_limit < q.ch.units + pair_cost = x.over in
      record { refusal = x.refusal; over = omega arith }

pub quote_over : (f s t u : List ℕ) (c : Charges) (x : Tree) (a : Result Made Refusal) (r : Refusal) → a ≡ Err r → MadeOk f s t c (atom_cost (1 ∷ [])) (atom (1 ∷ [])) a → MadeOk f s u c (5 + pair_cost) x (Err r)
unfolding MadeOk atom_cost
quote_over f s t u c x a r e h =
    let g : Over c (atom_cost (1 ∷ [])) r = made_over f s t c (atom_cost (1 ∷ [])) (atom (1 ∷ [])) a h r e in
    let o : unit_limit < c.units + 5 = g.over in
    record { refusal = g.refusal; over = omega arith }
