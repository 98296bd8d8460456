-- The turns of an atom's path, one after the other. Assumes nothing.
use Rattle.std.specs.Prelude.{Result, Ok, Err}
use Prim.Native.Nat.{ℕ, ◌+◌, ◌^◌, ◌≤◌, ◌<◌}
use native.Mathlib.Omega.{arith}
use mathlib.Core.Path.{◌≡◌, refl, sym, ◌∙◌, ap}
use mathlib.Core.List.{List, [], ◌∷◌}
use mathlib.Core.Bool.{Bool, true, false}
use lib.ListN.{length, get_or, drop, drop_of_length-le}
use Rattle.refusals.specs.declared.Refusal.{Refusal}
use Rattle.meaning.specs.Tree.{Tree, atom, pair}
use Rattle.meaning.specs.Limits.{unit_limit}
use Rattle.meaning.specs.Number.{number, turns}
use Rattle.meaning.specs.Substitute.{sub_turns, is_low, part_cost, path_from_args, path_cost}
use Rattle.store.specs.declared.Cell.{Cell}
use Rattle.store.specs.declared.Cell.TheVariants.{Pair, Atom}
use Rattle.store.specs.declared.Charges.{Charges}
use Rattle.store.specs.declared.Made.{Made}
use Rattle.store.specs.Cells.{Room, cell_at, bytes_at}
use Rattle.store.specs.Nodes.{tree_at}
use Rattle.store.specs.Store.{Ready}
use Rattle.store.specs.Makers.{Grown, Bought, Over, MadeOk}
use Rattle.store.proofs.Ready.{room, grown_none, grown_both, grown_ready, grown_tree, atom_short}
use Rattle.store.proofs.Trees.{tree_atom, tree_pair}
use Rattle.store.proofs.Charging.{made_node, made_over}
use Rattle.paths.proofs.TurnLaws.{next_turn}
use Rattle.paths.proofs.SignedLaws.{sub_turns_are}
use Rattle.pattern.specs.Bound.{Named}
use Rattle.patterns.specs.Patterns.{Shows}
use Rattle.patterns.proofs.Laws.{shows_grown}
use Rattle.substitute.specs.Sub.{cons_part}

-- ---- an atom of the body

module _ {f s : List ℕ} {c : Charges} {n : ℕ} (h : Named f s c n) where
  pub named_room : Room s n
  named_room = room f s c n h.ready

  pub named_tree : tree_at f s n ≡ atom (bytes_at f s n)
  named_tree = tree_atom f s n h.is_atom

  pub named_short : {z : List ℕ} → z ≡ bytes_at f s n → length z < 2 ^ 60
  named_short {z} e = let o : length z ≤ 256 = atom_short f s n (cell_at s n) refl h.is_atom c z h.ready e in omega arith

-- its bytes stay
pub bytes_grown : {f s s' : List ℕ} {c c' : Charges} {n : ℕ} → Grown f s s' c c' → Named f s c n → bytes_at f s' n ≡ bytes_at f s n
bytes_grown {f} {s} {s'} {c} {c'} {n} g h = go (cell_at s' n) refl
  where
    z : tree_at f s' n ≡ atom (bytes_at f s n)
    z = grown_tree g h.ready ∙ named_tree h

    go : (q : Cell) → cell_at s' n ≡ q → bytes_at f s' n ≡ bytes_at f s n
    go (Pair l r) e = let y : pair (tree_at f s' l) (tree_at f s' r) ≡ atom (bytes_at f s n) = sym (tree_pair f s' n l r e) ∙ z in cc
    go Atom e = let y : atom (bytes_at f s' n) ≡ atom (bytes_at f s n) = sym (tree_atom f s' n e) ∙ z in cc

-- ---- a turn: where there is one, the signed reading is the unsigned one

pub turn_within : (b z : List ℕ) (i : ℕ) → z ≡ b → i < length (sub_turns b) → i < length (turns (number z))
turn_within b z i e h = rw (e, ← sub_turns_are b i h) h

pub turn_read : (b z : List ℕ) (i : ℕ) (r : Bool) → r ≡ get_or (turns (number z)) i false → z ≡ b → i < length (sub_turns b) → r ≡ get_or (sub_turns b) i false
turn_read b z i r k e h = rw (sub_turns_are b i h, ← e) k

-- ---- one turn of the path

pub path_step : (d : Bool) (ds : List Bool) (t : Tree) → path_from_args (d ∷ ds) t ≡ path_from_args ds (cons_part d t)
unfolding path_from_args cons_part
path_step false ds t = refl
path_step true ds t = refl

pub cost_step : (d : Bool) (ds : List Bool) (t : Tree) → path_cost (d ∷ ds) t ≡ part_cost t + path_cost ds (cons_part d t)
unfolding path_cost cons_part
cost_step false ds t = refl
cost_step true ds t = refl

-- after i turns the arguments stand at a; what is left to do, and to pay, comes to the whole
pub record Walking (f s₀ s : List ℕ) (c₀ c : Charges) (n args count a i : ℕ) : Type 0 where
  pub grown : Grown f s₀ s c₀ c
  pub ready : Ready f s c a
  pub free : c.free ≡ c₀.free
  pub counted : count ≡ length (sub_turns (bytes_at f s₀ n))
  pub tree : path_from_args (drop i (sub_turns (bytes_at f s₀ n))) (tree_at f s a) ≡ path_from_args (sub_turns (bytes_at f s₀ n)) (tree_at f s₀ args)
  pub cost : c.units + path_cost (drop i (sub_turns (bytes_at f s₀ n))) (tree_at f s a) ≡ c₀.units + path_cost (sub_turns (bytes_at f s₀ n)) (tree_at f s₀ args)

pub walk_starts : (f s : List ℕ) (c : Charges) (n args count : ℕ) → Ready f s c args → count ≡ length (sub_turns (bytes_at f s n)) → Walking f s s c c n args count args 0
walk_starts f s c n args count r e = record { grown = grown_none f s c r.held; ready = r; free = refl; counted = e; tree = refl; cost = refl }

module _ (f s₀ s : List ℕ) (c₀ c : Charges) (n args count a i : ℕ) (w : Walking f s₀ s c₀ c n args count a i) where
  pub walk_room : Named f s₀ c₀ n → Room s n
  walk_room h = room f s c n (grown_ready w.grown h.ready)

  pub walk_turn : i < count → Named f s₀ c₀ n → i < length (sub_turns (bytes_at f s n))
  walk_turn l h = let e : count ≡ length (sub_turns (bytes_at f s₀ n)) = w.counted in rw (bytes_grown w.grown h) (omega arith)

  pub walk_ready : Ready f s c a
  walk_ready = w.ready

  pub walk_shows : {m : ℕ} {t : Tree} → Shows f s₀ c₀ m t → Shows f s c m t
  walk_shows h = shows_grown w.grown h

  -- the turn that is next
  module _ (right : Bool) (l : i < count) (e : right ≡ get_or (sub_turns (bytes_at f s n)) i false) (h : Named f s₀ c₀ n) where
    next : drop i (sub_turns (bytes_at f s₀ n)) ≡ right ∷ drop (i + 1) (sub_turns (bytes_at f s₀ n))
    next =
        let o : count ≡ length (sub_turns (bytes_at f s₀ n)) = w.counted in
        let k : i < length (sub_turns (bytes_at f s₀ n)) = omega arith in
        next_turn (sub_turns (bytes_at f s₀ n)) i right k (rw (bytes_grown w.grown h) at e)

    module _ (s₁ : List ℕ) (m : Result Made Refusal) (b : MadeOk f s s₁ c (part_cost (tree_at f s a)) (cons_part right (tree_at f s a)) m) where
      pub walk_again : (x : Made) → m ≡ Ok x → Walking f s₀ s₁ c₀ x.ch n args count x.node (i + 1)
      walk_again x z =
          let y : Bought f s s₁ c x.ch (part_cost (tree_at f s a)) x.node (cons_part right (tree_at f s a)) = made_node f s s₁ c _ _ m b x z in
          let u : x.ch.units ≡ c.units + part_cost (tree_at f s a) = y.units in
          let t : tree_at f s₁ x.node ≡ cons_part right (tree_at f s a) = y.stands.tree in
          let k : path_cost (drop i (sub_turns (bytes_at f s₀ n))) (tree_at f s a) ≡ part_cost (tree_at f s a) + path_cost (drop (i + 1) (sub_turns (bytes_at f s₀ n))) (tree_at f s₁ x.node) =
          rw (next, t) (cost_step right (drop (i + 1) (sub_turns (bytes_at f s₀ n))) (tree_at f s a)) in
          let v : c.units + path_cost (drop i (sub_turns (bytes_at f s₀ n))) (tree_at f s a) ≡ c₀.units + path_cost (sub_turns (bytes_at f s₀ n)) (tree_at f s₀ args) = w.cost in
          record {
            grown = grown_both w.grown y.stands.grown;
            ready = y.stands.ready;
            free = y.free ∙ w.free;
            counted = w.counted;
            tree = rw t (sym (path_step right (drop (i + 1) (sub_turns (bytes_at f s₀ n))) (tree_at f s a)) ∙ ap (λ ds. path_from_args ds (tree_at f s a)) (sym next) ∙ w.tree);
            cost = omega arith;
          }

      pub walk_stops : (s' : List ℕ) (r : Refusal) → m ≡ Err r → MadeOk f s₀ s' c₀ (path_cost (sub_turns (bytes_at f s₀ n)) (tree_at f s₀ args)) (path_from_args (sub_turns (bytes_at f s₀ n)) (tree_at f s₀ args)) (Err r)
      unfolding MadeOk
      walk_stops s' r z =
          let o : Over c (part_cost (tree_at f s a)) r = made_over f s s₁ c _ _ m b r z in
          let x : unit_limit < c.units + part_cost (tree_at f s a) = o.over in
          let k : path_cost (drop i (sub_turns (bytes_at f s₀ n))) (tree_at f s a) ≡ part_cost (tree_at f s a) + path_cost (drop (i + 1) (sub_turns (bytes_at f s₀ n))) (cons_part right (tree_at f s a)) =
          rw next (cost_step right (drop (i + 1) (sub_turns (bytes_at f s₀ n))) (tree_at f s a)) in
          let v : c.units + path_cost (drop i (sub_turns (bytes_at f s₀ n))) (tree_at f s a) ≡ c₀.units + path_cost (sub_turns (bytes_at f s₀ n)) (tree_at f s₀ args) = w.cost in
          record { refusal = o.refusal; over = omega arith }

  pub walk_ends : count ≤ i → MadeOk f s₀ s c₀ (path_cost (sub_turns (bytes_at f s₀ n)) (tree_at f s₀ args)) (path_from_args (sub_turns (bytes_at f s₀ n)) (tree_at f s₀ args)) (Ok (record { node = a; ch = c }))
  unfolding MadeOk path_from_args path_cost
  walk_ends l =
      let o : length (sub_turns (bytes_at f s₀ n)) ≤ i = let e : count ≡ length (sub_turns (bytes_at f s₀ n)) = w.counted in omega arith in
      let z : drop i (sub_turns (bytes_at f s₀ n)) ≡ [] = drop_of_length-le (sub_turns (bytes_at f s₀ n)) o in
      let v : c.units + path_cost [] (tree_at f s a) ≡ c₀.units + path_cost (sub_turns (bytes_at f s₀ n)) (tree_at f s₀ args) = rw z at w.cost in
      let t : path_from_args [] (tree_at f s a) ≡ path_from_args (sub_turns (bytes_at f s₀ n)) (tree_at f s₀ args) = rw z at w.tree in
      record { stands = record { grown = w.grown; ready = w.ready; tree = t }; units = omega arith; free = w.free }

-- ---- what is read of the bytes at hand

pub count_read : (b z : List ℕ) (k : ℕ) → k ≡ length (sub_turns z) → z ≡ b → k ≡ length (sub_turns b)
count_read b z k h e = rw e at h

pub low_read : (b z : List ℕ) (r : Bool) → r ≡ is_low z → z ≡ b → r ≡ is_low b
low_read b z r h e = rw e at h
