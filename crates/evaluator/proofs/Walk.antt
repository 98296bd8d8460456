-- A path's walk down the environment. Assumes nothing.
use Rattle.std.specs.Prelude.{Ok, Err}
use Prim.Native.Nat.{ℕ, zero, suc, ◌+◌, ◌^◌, ◌≤◌, ◌<◌}
use mathlib.Core.Path.{◌≡◌, refl, sym, ◌∙◌, ap}
use mathlib.Core.List.{List, [], ◌∷◌}
use mathlib.Core.Bool.{Bool, true, false}
use mathlib.Core.Option.{some}
use lib.Dec.{eqb}
use lib.ListN.{length, get_or, drop, drop_of_length-le}
use native.Mathlib.Omega.{arith}
use borrow.Author.Tests.{eqb-true, eqb-false}
use Rattle.refusals.specs.declared.Refusal.TheVariants.{Fails}
use Rattle.meaning.specs.Tree.{Tree, pair, nil}
use Rattle.meaning.specs.Number.{number, turns, follow, lookup}
use Rattle.meaning.specs.Meter.{give, refuse}
use Rattle.meaning.specs.Evaluate.{found_b}
use Rattle.paths.proofs.TurnLaws.{next_turn}
use Rattle.store.specs.declared.Cell.{Cell}
use Rattle.store.specs.declared.Cell.TheVariants.{Pair, Atom}
use Rattle.store.specs.Cells.{Room, cell_at, bytes_at}
use Rattle.store.specs.Nodes.{tree_at}
use Rattle.store.specs.Store.{Ready}
use Rattle.store.proofs.Ready.{room, nil_ready, ready_left, ready_right, look_pair, look_atom, atom_short}
use Rattle.evaluator.specs.declared.Meter.{Meter}
use Rattle.evaluator.specs.Values.{state, stopped, ValuedOk}
use Rattle.evaluator.proofs.Outcomes.{stays, stops}

lookup_zero : (n : ℕ) (t : Tree) → n ≡ 0 → lookup n t ≡ some nil
unfolding lookup
lookup_zero n t e = rw e

lookup_more : (n : ℕ) (t : Tree) → (n ≡ 0 → ⊥) → lookup n t ≡ follow (turns n) t
unfolding lookup
lookup_more zero t h = absurd (h refl)
lookup_more (suc n) t h = refl

-- the path 0
pub path_zero : (f s z : List ℕ) (m : Meter) (n env : ℕ) (b : Bool) → b ≡ eqb (number z) 0 → z ≡ bytes_at f s n → b ≡ true → Ready f s m.ch n
    → ValuedOk f s s m (found_b (lookup (number (bytes_at f s n)) (tree_at f s env)) (state m)) (Ok (record { node = 0; meter = m }))
unfolding found_b give
path_zero f s z m n env b e ez y h =
    let k : number (bytes_at f s n) ≡ 0 = ap number (sym ez) ∙ eqb-true (number z) 0 (sym e ∙ y) in
    stays f s m _ 0 (nil_ready f s m.ch h.held) (rw (lookup_zero _ (tree_at f s env) k, h.held.nil_at))

-- a path's bytes are few
pub path_short : (f s z : List ℕ) (m : Meter) (n : ℕ) → z ≡ bytes_at f s n → cell_at s n ≡ Atom → Ready f s m.ch n → length z < 2 ^ 60
path_short f s z m n ez e h = let l : length z ≤ 256 = atom_short f s n Atom (sym e) refl m.ch z h ez in omega arith

-- what holds at the loop's head: the turns that are left lead on from q
pub record Walking (f s z : List ℕ) (m : Meter) (env q i : ℕ) : Type 0 where
  pub ready : Ready f s m.ch q
  pub whole : follow (drop i (turns (number z))) (tree_at f s q) ≡ follow (turns (number z)) (tree_at f s env)

pub walk_starts : (f s z : List ℕ) (m : Meter) (env : ℕ) → Ready f s m.ch env → Walking f s z m env env 0
walk_starts f s z m env h = record { ready = h; whole = refl }

module _ (f s z : List ℕ) (m : Meter) (env q i : ℕ) (w : Walking f s z m env q i) where
  pub walk_room : Room s q
  walk_room = room f s m.ch q w.ready

  found : (n : ℕ) (b : Bool) → b ≡ eqb (number z) 0 → z ≡ bytes_at f s n → b ≡ false → lookup (number (bytes_at f s n)) (tree_at f s env) ≡ follow (drop i (turns (number z))) (tree_at f s q)
  found n b e ez y = rw (← ez) (lookup_more (number z) (tree_at f s env) (eqb-false (number z) 0 (sym e ∙ y)) ∙ sym w.whole)

  pub walk_ends : (n k : ℕ) (b : Bool) → k ≤ i → k ≡ length (turns (number z)) → b ≡ eqb (number z) 0 → z ≡ bytes_at f s n → b ≡ false
      → ValuedOk f s s m (found_b (lookup (number (bytes_at f s n)) (tree_at f s env)) (state m)) (Ok (record { node = q; meter = m }))
  unfolding found_b give follow
  walk_ends n k b l ek e ez y =
      let g : length (turns (number z)) ≤ i = omega arith in
      let d : drop i (turns (number z)) ≡ [] = drop_of_length-le (turns (number z)) g in
      stays f s m _ q w.ready (rw (found n b e ez y, d))

  module _ (p : Cell) where
    pub walk_fails : (n k : ℕ) (b : Bool) → i < k → k ≡ length (turns (number z)) → b ≡ eqb (number z) 0 → z ≡ bytes_at f s n → b ≡ false → p ≡ cell_at s q → p ≡ Atom
        → ValuedOk f s s m (found_b (lookup (number (bytes_at f s n)) (tree_at f s env)) (state m)) (Err Fails)
    unfolding found_b refuse follow stopped
    walk_fails n k b l ek e ez y eq ep =
        let d : drop i (turns (number z)) ≡ get_or (turns (number z)) i false ∷ drop (i + 1) (turns (number z)) = next_turn (turns (number z)) i _ (omega arith) refl in
        stops f s s m _ Fails (rw (found n b e ez y, d, look_atom f s q p eq ep))

    module _ (l r : ℕ) (ep : p ≡ Pair l r) (eq : p ≡ cell_at s q) (k : ℕ) (h : i < k) (ek : k ≡ length (turns (number z))) (b : Bool) (e : b ≡ get_or (turns (number z)) i false) where
      turned : follow (b ∷ drop (i + 1) (turns (number z))) (pair (tree_at f s l) (tree_at f s r)) ≡ follow (turns (number z)) (tree_at f s env)
      turned = rw (← next_turn (turns (number z)) i b (omega arith) e, ← look_pair f s m.ch q l r p ep eq) w.whole

      pub walk_right : b ≡ true → Walking f s z m env r (i + 1)
      unfolding follow
      walk_right y = record { ready = ready_right f s m.ch q l r p ep eq w.ready; whole = rw y at turned }

      pub walk_left : b ≡ false → Walking f s z m env l (i + 1)
      unfolding follow
      walk_left y = record { ready = ready_left f s m.ch q l r p ep eq w.ready; whole = rw y at turned }
