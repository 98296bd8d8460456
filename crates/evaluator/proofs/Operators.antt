-- What each operator makes of its arguments' values, at the nodes. Assumes nothing.
use Rattle.std.specs.Prelude.{Result, Ok, Err}
use Prim.Native.Nat.{ℕ, ◌+◌, ◌≤◌, ◌<◌}
use mathlib.Core.Path.{◌≡◌, refl, sym, ◌∙◌, ap, ap₂}
use mathlib.Core.List.{List, [], ◌∷◌}
use mathlib.Core.Bool.{Bool, true, false}
use mathlib.Core.Option.{some}
use lib.Dec.{leb}
use native.Mathlib.Omega.{arith}
use borrow.Author.Tests.{le-leb, lt-leb}
use Rattle.refusals.specs.declared.Refusal.{Refusal}
use Rattle.refusals.specs.declared.Refusal.TheVariants.{UnitsOut, Fails}
use Rattle.meaning.specs.Tree.{Tree, atom, pair, same_bytes}
use Rattle.meaning.specs.Limits.{unit_limit, pair_cost, atom_cost}
use Rattle.meaning.specs.Meter.{Out, Steps, done, stop, give, refuse, charge_e}
use Rattle.meaning.specs.Operator.{makes, cannot, yes_no, chosen, left_of, right_of, is_pair, same_atom, one, two, three, perform}
use Rattle.meaning.specs.Evaluate.{RunnerB, finish_b, evaluate}
use Rattle.meaning.proofs.MeterLaws.{seq_at}
use Rattle.store.specs.declared.Made.{Made}
use Rattle.store.specs.declared.Cell.{Cell}
use Rattle.store.specs.declared.Cell.TheVariants.{Pair, Atom}
use Rattle.store.specs.Cells.{cell_at, bytes_at}
use Rattle.store.specs.Nodes.{tree_at}
use Rattle.store.specs.Store.{Held, Ready}
use Rattle.store.specs.Makers.{Bought, Over, MadeOk}
use Rattle.store.proofs.Charging.{made_node, made_over}
use Rattle.store.proofs.Ready.{nil_ready, ready_left, ready_right, look_pair, look_atom}
use Rattle.sexp.specs.Tests.{is_nil}
use Rattle.evaluator.specs.declared.Meter.{Meter}
use Rattle.evaluator.specs.declared.Values.{Values}
use Rattle.evaluator.specs.declared.Valued.{Valued}
use Rattle.evaluator.specs.declared.Performed.{Performed}
use Rattle.evaluator.specs.declared.Performed.TheVariants.{Done, Runs}
use Rattle.evaluator.specs.declared.Operator.{Operator}
use Rattle.evaluator.specs.declared.Operator.TheVariants.{Apply, Choose, Cons, First, Rest, Listp, Raise, Same}
use Rattle.evaluator.specs.Heads.{op_of, args_of}
use Rattle.evaluator.specs.Values.{state, stopped, ValuedOk, metered, Nodes, PerformedOk, answered}
use Rattle.evaluator.proofs.Outcomes.{stays, stops, seq_stopped, asks_now, answers}

-- ---- a value and its charge

module _ (run : RunnerB) (t : Tree) (k : ℕ) (s : Steps) where
  goes : s.units + k ≤ unit_limit → charge_e k s ≡ done tt (record { steps = s.steps; units = s.units + k })
  unfolding charge_e
  goes h = let l : leb (s.units + k) unit_limit ≡ true = le-leb (s.units + k) unit_limit h in rw (l, charge_e)

  halts : unit_limit < s.units + k → charge_e k s ≡ stop UnitsOut (record { steps = s.steps; units = unit_limit })
  unfolding charge_e
  halts h = let l : leb (s.units + k) unit_limit ≡ false = lt-leb (s.units + k) unit_limit h in rw (l, charge_e)

  pub paid : s.units + k ≤ unit_limit → finish_b run (makes t k) s ≡ done t (record { steps = s.steps; units = s.units + k })
  unfolding finish_b give
  paid h = seq_at (charge_e k) (give t) s _ tt (goes h)

  pub over : unit_limit < s.units + k → stopped (finish_b run (makes t k) s) ≡ some UnitsOut
  unfolding finish_b stopped
  over h = seq_stopped (charge_e k) (give t) s UnitsOut (ap stopped (halts h))

pub unpaid : (run : RunnerB) (t : Tree) (s : Steps) → s.units ≤ unit_limit → finish_b run (makes t 0) s ≡ done t s
unpaid run t s h = let e : s.units + 0 ≡ s.units = omega arith in paid run t 0 s (omega arith) ∙ ap (λ (u : ℕ). done t (record { steps = s.steps; units = u })) e

-- an answer, as what comes
pub answered_value : (a : Result Valued Refusal) (q : Valued) → a ≡ Ok q → Ok (Done q) ≡ answered a
answered_value a q e = rw e

pub answered_refused : (a : Result Valued Refusal) (r : Refusal) → a ≡ Err r → Err r ≡ answered a
answered_refused a r e = rw e

-- what a maker answered
module _ (f s s' : List ℕ) (m : Meter) (k : ℕ) (t : Tree) (a : Result Made Refusal) (h : MadeOk f s s' m.ch k t a) where
  pub made_value : (q : Made) (b : Valued) → a ≡ Ok q → b ≡ metered q m.steps → ValuedOk f s s' m (finish_b evaluate (makes t k) (state m)) (Ok b)
  unfolding ValuedOk
  made_value q b ea eb =
      let y : Bought f s s' m.ch q.ch k q.node t = made_node f s s' m.ch k t a h q ea in
      let l : q.ch.units ≤ unit_limit = y.stands.ready.held.units in
      let u : q.ch.units ≡ m.ch.units + k = y.units in
      rw eb (record {
        grown = y.stands.grown;
        ready = y.stands.ready;
        free = y.free;
        value = paid evaluate t k (state m) (omega arith) ∙ ap₂ (λ (x : Tree) (z : ℕ). done x (record { steps = m.steps; units = z })) (sym y.stands.tree) (sym u);
      })

  pub made_refused : (r : Refusal) → a ≡ Err r → ValuedOk f s s' m (finish_b evaluate (makes t k) (state m)) (Err r)
  unfolding ValuedOk
  made_refused r ea = let y : Over m.ch k r = made_over f s s' m.ch k t a h r ea in over evaluate t k (state m) y.over ∙ ap some (sym y.refusal)

-- a node of the room, free of charge
pub picked : (f s : List ℕ) (m : Meter) (q : ℕ) (t : Tree) → Ready f s m.ch q → tree_at f s q ≡ t → ValuedOk f s s m (finish_b evaluate (makes t 0) (state m)) (Ok (record { node = q; meter = m }))
picked f s m q t h e = stays f s m (finish_b evaluate (makes t 0) (state m)) q h (unpaid evaluate t (state m) h.held.units ∙ ap (λ (x : Tree). done x (state m)) (sym e))

fails : (f s s' : List ℕ) (m : Meter) → ValuedOk f s s' m (finish_b evaluate cannot (state m)) (Err Fails)
unfolding finish_b refuse stopped
fails f s s' m = stops f s s' m (finish_b evaluate cannot (state m)) Fails refl

-- ---- `l` and `=`: a yes and a no

module _ (f s s' : List ℕ) (m : Meter) (a : Result Made Refusal) (ans : Bool) (h : MadeOk f s s' m.ch (atom_cost (1 ∷ [])) (atom (1 ∷ [])) a) (y : ans ≡ true) where
  pub yes_made : (q : Made) (b : Valued) → a ≡ Ok q → b ≡ metered q m.steps → ValuedOk f s s' m (finish_b evaluate (yes_no ans) (state m)) (Ok b)
  unfolding yes_no atom_cost
  yes_made q b ea eb = rw y (made_value f s s' m 5 (atom (1 ∷ [])) a h q b ea eb)

  pub yes_refused : (r : Refusal) → a ≡ Err r → ValuedOk f s s' m (finish_b evaluate (yes_no ans) (state m)) (Err r)
  unfolding yes_no atom_cost
  yes_refused r ea = rw y (made_refused f s s' m 5 (atom (1 ∷ [])) a h r ea)

pub no_nil : (f s : List ℕ) (m : Meter) (ans : Bool) → Held f s m.ch → ans ≡ false → ValuedOk f s s m (finish_b evaluate (yes_no ans) (state m)) (Ok (record { node = 0; meter = m }))
unfolding yes_no
no_nil f s m ans h n = rw n (picked f s m 0 (atom []) (nil_ready f s m.ch h) h.nil_at)

-- ---- after a look at n

module _ (f s s' : List ℕ) (m : Meter) (n : ℕ) (q : Cell) where
  module _ (l r : ℕ) (ep : q ≡ Pair l r) (eq : q ≡ cell_at s n) where
    is_pair_tree : tree_at f s n ≡ pair (tree_at f s l) (tree_at f s r)
    is_pair_tree = look_pair f s m.ch n l r q ep eq

    pub first_pair : Ready f s m.ch n → ValuedOk f s s m (finish_b evaluate (left_of (tree_at f s n)) (state m)) (Ok (record { node = l; meter = m }))
    unfolding left_of
    first_pair h = rw is_pair_tree (picked f s m l (tree_at f s l) (ready_left f s m.ch n l r q ep eq h) refl)

    pub rest_pair : Ready f s m.ch n → ValuedOk f s s m (finish_b evaluate (right_of (tree_at f s n)) (state m)) (Ok (record { node = r; meter = m }))
    unfolding right_of
    rest_pair h = rw is_pair_tree (picked f s m r (tree_at f s r) (ready_right f s m.ch n l r q ep eq h) refl)

    pub listp_pair : (a : Result Valued Refusal) → ValuedOk f s s' m (finish_b evaluate (yes_no true) (state m)) a → ValuedOk f s s' m (finish_b evaluate (yes_no (is_pair (tree_at f s n))) (state m)) a
    unfolding is_pair
    listp_pair a h = rw is_pair_tree h

    -- `=` of a pair and anything
    pub same_pair : (b : ℕ) → ValuedOk f s s' m (finish_b evaluate (same_atom (tree_at f s n) (tree_at f s b)) (state m)) (Err Fails)
    unfolding same_atom
    same_pair b = rw is_pair_tree (fails f s s' m)

  module _ (eq : q ≡ cell_at s n) (ep : q ≡ Atom) where
    is_atom_tree : tree_at f s n ≡ atom (bytes_at f s n)
    is_atom_tree = look_atom f s n q eq ep

    pub first_atom : ValuedOk f s s m (finish_b evaluate (left_of (tree_at f s n)) (state m)) (Err Fails)
    unfolding left_of
    first_atom = rw is_atom_tree (fails f s s m)

    pub rest_atom : ValuedOk f s s m (finish_b evaluate (right_of (tree_at f s n)) (state m)) (Err Fails)
    unfolding right_of
    rest_atom = rw is_atom_tree (fails f s s m)

    pub listp_atom : (a : Result Valued Refusal) → ValuedOk f s s' m (finish_b evaluate (yes_no false) (state m)) a → ValuedOk f s s' m (finish_b evaluate (yes_no (is_pair (tree_at f s n))) (state m)) a
    unfolding is_pair
    listp_atom a h = rw is_atom_tree h

    module _ (b : ℕ) (p : Cell) where
      pub same_atom_pair : (x y : ℕ) → p ≡ Pair x y → p ≡ cell_at s b → ValuedOk f s s' m (finish_b evaluate (same_atom (tree_at f s n) (tree_at f s b)) (state m)) (Err Fails)
      unfolding same_atom
      same_atom_pair x y ex eb = rw (is_atom_tree, look_pair f s m.ch b x y p ex eb) (fails f s s' m)

      pub same_atoms : (a : Result Valued Refusal) (ans : Bool) → ValuedOk f s s' m (finish_b evaluate (yes_no ans) (state m)) a → ans ≡ same_bytes (bytes_at f s n) (bytes_at f s b) → p ≡ cell_at s b → p ≡ Atom
          → ValuedOk f s s' m (finish_b evaluate (same_atom (tree_at f s n) (tree_at f s b)) (state m)) a
      unfolding same_atom
      same_atoms a ans h e eb ex = rw (is_atom_tree, look_atom f s b p eb ex) (rw e at h)

-- ---- `i`

module _ (f s : List ℕ) (m : Meter) (v : Values) (h : Nodes f s m.ch v) (b : Bool) (e : b ≡ is_nil (tree_at f s v.a)) where
  chosen_third : (t x y : Tree) → is_nil t ≡ true → y ≡ chosen t x y
  unfolding is_nil chosen
  chosen_third (atom []) x y e = refl
  chosen_third (atom (z ∷ zs)) x y e = cc
  chosen_third (pair l r) x y e = cc

  chosen_second : (t x y : Tree) → is_nil t ≡ false → x ≡ chosen t x y
  unfolding is_nil chosen
  chosen_second (atom []) x y e = cc
  chosen_second (atom (z ∷ zs)) x y e = refl
  chosen_second (pair l r) x y e = refl

  pub chose_third : b ≡ true → ValuedOk f s s m (finish_b evaluate (makes (chosen (tree_at f s v.a) (tree_at f s v.b) (tree_at f s v.c)) 0) (state m)) (Ok (record { node = v.c; meter = m }))
  chose_third y = picked f s m v.c (chosen (tree_at f s v.a) (tree_at f s v.b) (tree_at f s v.c)) h.third (chosen_third (tree_at f s v.a) (tree_at f s v.b) (tree_at f s v.c) (sym e ∙ y))

  pub chose_second : b ≡ false → ValuedOk f s s m (finish_b evaluate (makes (chosen (tree_at f s v.a) (tree_at f s v.b) (tree_at f s v.c)) 0) (state m)) (Ok (record { node = v.b; meter = m }))
  chose_second n = picked f s m v.b (chosen (tree_at f s v.a) (tree_at f s v.b) (tree_at f s v.c)) h.second (chosen_second (tree_at f s v.a) (tree_at f s v.b) (tree_at f s v.c) (sym e ∙ n))

-- ---- the choice by operator

module _ (f s s' : List ℕ) (m : Meter) (o : Operator) (v : Values) where
  abbrev a : Tree
  a = tree_at f s v.a

  abbrev b : Tree
  b = tree_at f s v.b

  abbrev c : Tree
  c = tree_at f s v.c

  abbrev outcome : Out Steps Tree
  outcome = finish_b evaluate (perform (op_of o) (args_of (op_of o) a b c)) (state m)

  pub performs_apply : Nodes f s m.ch v → o ≡ Apply → PerformedOk f s s m outcome (Ok (Runs v.a v.b m))
  unfolding PerformedOk perform args_of two finish_b
  performs_apply h e = rw e (asks_now f s m v.a v.b h.first h.second)

  pub performs_raise : o ≡ Raise → PerformedOk f s s m outcome (Err Fails)
  unfolding PerformedOk perform args_of finish_b refuse stopped
  performs_raise e = rw e

  module _ (w : Result Valued Refusal) (p : Result Performed Refusal) (ep : p ≡ answered w) where
    pub performs_choose : ValuedOk f s s m (finish_b evaluate (makes (chosen a b c) 0) (state m)) w → o ≡ Choose → PerformedOk f s s m outcome p
    unfolding perform args_of three
    performs_choose h e = rw e (answers f s s m _ w p h ep)

    pub performs_cons : ValuedOk f s s' m (finish_b evaluate (makes (pair a b) pair_cost) (state m)) w → o ≡ Cons → PerformedOk f s s' m outcome p
    unfolding perform args_of two
    performs_cons h e = rw e (answers f s s' m _ w p h ep)

    pub performs_first : ValuedOk f s s m (finish_b evaluate (left_of a) (state m)) w → o ≡ First → PerformedOk f s s m outcome p
    unfolding perform args_of one
    performs_first h e = rw e (answers f s s m _ w p h ep)

    pub performs_rest : ValuedOk f s s m (finish_b evaluate (right_of a) (state m)) w → o ≡ Rest → PerformedOk f s s m outcome p
    unfolding perform args_of one
    performs_rest h e = rw e (answers f s s m _ w p h ep)

    pub performs_listp : ValuedOk f s s' m (finish_b evaluate (yes_no (is_pair a)) (state m)) w → o ≡ Listp → PerformedOk f s s' m outcome p
    unfolding perform args_of one
    performs_listp h e = rw e (answers f s s' m _ w p h ep)

    pub performs_same : ValuedOk f s s' m (finish_b evaluate (same_atom a b) (state m)) w → o ≡ Same → PerformedOk f s s' m outcome p
    unfolding perform args_of two
    performs_same h e = rw e (answers f s s' m _ w p h ep)
