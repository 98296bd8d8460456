-- call, step and eval_node: each return, and what each call asks. Assumes nothing.
use Rattle.std.specs.Prelude.{Result, Ok, Err}
use Prim.Native.Nat.{ℕ, ◌+◌, ◌-◌, ◌*◌, ◌≤◌, ◌<◌}
use mathlib.Core.Path.{◌≡◌, refl, sym, ◌∙◌, ap}
use mathlib.Core.List.{List, [], ◌∷◌}
use mathlib.Core.Bool.{Bool, true, false, not}
use mathlib.Core.Option.{Option, none, some}
use lib.Dec.{eqb}
use lib.ListN.{length, get_or}
use native.Mathlib.Omega.{arith}
use borrow.Author.Tests.{eqb-true, not-true, not-false}
use Rattle.refusals.specs.declared.Refusal.{Refusal}
use Rattle.refusals.specs.declared.Refusal.TheVariants.{Fails, NoOperator, StepsOut}
use Rattle.meaning.specs.Tree.{Tree, atom, pair, nil, proper_list}
use Rattle.meaning.specs.Number.{number, lookup}
use Rattle.meaning.specs.Meter.{Out, done, Steps, ◌>>=◌, give, refuse}
use Rattle.meaning.specs.Operator.{Op, apply, choose, cons, first, rest, listp, raise, same, takes, Made, one, two, three, perform}
use Rattle.meaning.specs.Operator.{Head as Operator-as-Head}
use Rattle.meaning.specs.Evaluate.{RunnerB, found_b, each_value_b, finish_b, call_b, operate_b, step_b, evaluate}
use Rattle.meaning.proofs.MeterLaws.{bind_at}
use Rattle.store.specs.declared.Cell.{Cell}
use Rattle.store.specs.declared.Cell.TheVariants.{Pair, Atom}
use Rattle.store.specs.Cells.{Room, cell_at, bytes_at}
use Rattle.store.specs.Nodes.{tree_at}
use Rattle.store.specs.Store.{Ready}
use Rattle.store.proofs.Ready.{room, room_left, ready_right, look_pair, look_atom, grown_none}
use Rattle.evaluator.specs.declared.Meter.{Meter}
use Rattle.evaluator.specs.declared.Operator.{Operator}
use Rattle.evaluator.specs.declared.Head.{Head}
use Rattle.evaluator.specs.declared.Head.TheVariants.{Quote, Call, Other}
use Rattle.evaluator.specs.declared.Valued.{Valued}
use Rattle.evaluator.specs.declared.Args.{Args}
use Rattle.evaluator.specs.declared.Performed.{Performed}
use Rattle.evaluator.specs.declared.Performed.TheVariants.{Done, Runs}
use Rattle.evaluator.specs.Heads.{op_of, head_as, head_tree, accepted, items, args_of}
use Rattle.evaluator.specs.Values.{state, stopped, ValuedOk, Nodes, AllGiven, ArgsOk, Asks, PerformedOk, answered}
use Rattle.evaluator.proofs.Outcomes.{bind_stopped, stays, stops, answers, comes_since}
use Rattle.evaluator.proofs.Recursion.{evaluate_on, evaluate_out}
use Rattle.evaluator.proofs.Heads.{items_are}
use Rattle.evaluator.proofs.Each.{each_many}

-- ---- the definition of a call

-- an operator looks at as many values as it takes
abbrev at : List Tree → ℕ → Tree
at vs i = get_or vs i nil

one_is : (vs : List Tree) (f : Tree → Made) → eqb (length vs) 1 ≡ true → one vs f ≡ f (at vs 0)
unfolding one
one_is vs f e = go vs (eqb-true (length vs) 1 e)
  where
    go : (vs : List Tree) → length vs ≡ 1 → one vs f ≡ f (at vs 0)
    go [] l = absurd (omega arith)
    go (a ∷ []) l = refl
    go (a ∷ b ∷ ws) l = absurd (omega arith)

two_is : (vs : List Tree) (f : Tree → Tree → Made) → eqb (length vs) 2 ≡ true → two vs f ≡ f (at vs 0) (at vs 1)
unfolding two
two_is vs f e = go vs (eqb-true (length vs) 2 e)
  where
    go : (vs : List Tree) → length vs ≡ 2 → two vs f ≡ f (at vs 0) (at vs 1)
    go [] l = absurd (omega arith)
    go (a ∷ []) l = absurd (omega arith)
    go (a ∷ b ∷ []) l = refl
    go (a ∷ b ∷ c ∷ ws) l = absurd (omega arith)

three_is : (vs : List Tree) (f : Tree → Tree → Tree → Made) → eqb (length vs) 3 ≡ true → three vs f ≡ f (at vs 0) (at vs 1) (at vs 2)
unfolding three
three_is vs f e = go vs (eqb-true (length vs) 3 e)
  where
    go : (vs : List Tree) → length vs ≡ 3 → three vs f ≡ f (at vs 0) (at vs 1) (at vs 2)
    go [] l = absurd (omega arith)
    go (a ∷ []) l = absurd (omega arith)
    go (a ∷ b ∷ []) l = absurd (omega arith)
    go (a ∷ b ∷ c ∷ []) l = refl
    go (a ∷ b ∷ c ∷ d ∷ ws) l = absurd (omega arith)

pub looks_at : (o : Op) (vs : List Tree) → takes o (length vs) ≡ true → perform o vs ≡ perform o (args_of o (at vs 0) (at vs 1) (at vs 2))
unfolding takes perform args_of one two three
looks_at apply vs e = two_is vs _ e
looks_at choose vs e = three_is vs _ e
looks_at cons vs e = two_is vs _ e
looks_at first vs e = one_is vs _ e
looks_at rest vs e = one_is vs _ e
looks_at listp vs e = one_is vs _ e
looks_at raise vs e = refl
looks_at same vs e = two_is vs _ e

module _ (run : RunnerB) (o : Op) (env : Tree) where
  abbrev after : List Tree → Steps → Out Steps Tree
  after vs = finish_b run (perform o vs)

  not_accepted : (l : Option (List Tree)) (s : Steps) → accepted o l ≡ false → stopped (call_b run o l env s) ≡ some Fails
  unfolding accepted call_b refuse stopped
  not_accepted none s e = refl
  not_accepted (some es) s e = rw (e, call_b)

  accepts_inv : (t : Tree) → accepted o (proper_list t) ≡ true → (proper_list t ≡ some (items t)) × (takes o (length (items t)) ≡ true)
  unfolding accepted
  accepts_inv t e = go (proper_list t) refl e
    where
      go : (l : Option (List Tree)) → proper_list t ≡ l → accepted o l ≡ true → (proper_list t ≡ some (items t)) × (takes o (length (items t)) ≡ true)
      go none el h = absurd (let z : ◌≡◌ {A = ℕ} 0 1 = cc in omega arith)
      go (some es) el h = let z : items t ≡ es = items_are t es el in (el ∙ ap some (sym z), rw z h)

  call_is : (t : Tree) (s : Steps) → accepted o (proper_list t) ≡ true → call_b run o (proper_list t) env s ≡ (each_value_b run (items t) env >>= after) s
  unfolding call_b
  call_is t s e =
      let (p, q) = accepts_inv t e in
      ap (λ (l : Option (List Tree)). call_b run o l env s) p ∙ rw (q, call_b)

  -- all values were given
  call_given : (t : Tree) (s u : Steps) (vs : List Tree) → accepted o (proper_list t) ≡ true → each_value_b run (items t) env s ≡ done vs u
      → call_b run o (proper_list t) env s ≡ finish_b run (perform o (args_of o (at vs 0) (at vs 1) (at vs 2))) u
  call_given t s u vs e h =
      let (p, q) = accepts_inv t e in
      let l : takes o (length vs) ≡ true = rw (each_many run (items t) env s u vs h) q in
      call_is t s e ∙ bind_at (each_value_b run (items t) env) after s u vs h ∙ ap (λ (k : Made). finish_b run k u) (looks_at o vs l)

  call_stops : (t : Tree) (s : Steps) (r : Refusal) → accepted o (proper_list t) ≡ true → stopped (each_value_b run (items t) env s) ≡ some r → stopped (call_b run o (proper_list t) env s) ≡ some r
  call_stops t s r e h = ap stopped (call_is t s e) ∙ bind_stopped (each_value_b run (items t) env) after s r h

-- ---- call

module _ (f s : List ℕ) (m : Meter) (o : Operator) (list env : ℕ) (b : Bool) (eb : b ≡ accepted (op_of o) (proper_list (tree_at f s list))) where
  abbrev called : Out Steps Tree
  called = call_b evaluate (op_of o) (proper_list (tree_at f s list)) (tree_at f s env) (state m)

  pub call_refused : (s' : List ℕ) → not b ≡ true → PerformedOk f s s' m called (Err Fails)
  unfolding PerformedOk
  call_refused s' n = not_accepted evaluate (op_of o) (tree_at f s env) (proper_list (tree_at f s list)) (state m) (sym eb ∙ not-true b n)

  module _ (y : not b ≡ false) (s₁ : List ℕ) (a : Result Args Refusal) (h : ArgsOk f s s₁ m (each_value_b evaluate (items (tree_at f s list)) (tree_at f s env) (state m)) a) where
    pub call_stopped : (r : Refusal) → a ≡ Err r → PerformedOk f s s₁ m called (Err r)
    unfolding ArgsOk PerformedOk
    call_stopped r ea =
        let z : stopped (each_value_b evaluate (items (tree_at f s list)) (tree_at f s env) (state m)) ≡ some r = rw ea at h in
        call_stops evaluate (op_of o) (tree_at f s env) (tree_at f s list) (state m) r (sym eb ∙ not-false b y) z

    module _ (x : Args) (ea : a ≡ Ok x) where
      all : AllGiven f s s₁ m x.meter x.values (each_value_b evaluate (items (tree_at f s list)) (tree_at f s env) (state m))
      unfolding ArgsOk
      all = rw ea at h

      pub call_nodes : Nodes f s₁ x.meter.ch x.values
      call_nodes = all.nodes

      abbrev made : Made
      made = perform (op_of o) (args_of (op_of o) (tree_at f s₁ x.values.a) (tree_at f s₁ x.values.b) (tree_at f s₁ x.values.c))

      finishes : called ≡ finish_b evaluate made (state x.meter)
      finishes =
          call_given evaluate (op_of o) (tree_at f s env) (tree_at f s list) (state m) (state x.meter) all.values (sym eb ∙ not-false b y) all.value
          ∙ rw (all.stand.first, all.stand.second, all.stand.third)

      pub call_performs : (s₂ : List ℕ) (p : Result Performed Refusal) → PerformedOk f s₁ s₂ x.meter (finish_b evaluate made (state x.meter)) p → PerformedOk f s s₂ m called p
      call_performs s₂ p g = comes_since f s s₁ s₂ m x.meter _ called p g (sym finishes) all.grown all.free all.later

-- ---- step

step_pair : (run : RunnerB) (t r env : Tree) (s : Steps) → operate_b run (head_tree t) r env s ≡ step_b run (pair t r) env s
unfolding step_b head_tree operate_b
step_pair run (atom b) r env s = refl
step_pair run (pair x y) r env s = refl

pub step_atom : (s : List ℕ) (n : ℕ) (q : Cell) → q ≡ cell_at s n → q ≡ Atom → cell_at s n ≡ Atom
step_atom s n q eq ep = sym eq ∙ ep

module _ (f s : List ℕ) (m : Meter) (e env : ℕ) (q : Cell) where
  abbrev outcome : Out Steps Tree
  outcome = step_b evaluate (tree_at f s e) (tree_at f s env) (state m)

  pub step_path : (a : Result Valued Refusal) (p : Result Performed Refusal) → ValuedOk f s s m (found_b (lookup (number (bytes_at f s e)) (tree_at f s env)) (state m)) a → p ≡ answered a → q ≡ cell_at s e → q ≡ Atom → PerformedOk f s s m outcome p
  unfolding step_b
  step_path a p h ea eq ep = rw (look_atom f s e q eq ep) (answers f s s m _ a p h ea)

  module _ (o r : ℕ) (ep : q ≡ Pair o r) (eq : q ≡ cell_at s e) (h : Ready f s m.ch e) where
    pub step_room : Room s o
    step_room = room_left f s m.ch e o r q ep eq (room f s m.ch e h)

    pub step_list : Ready f s m.ch r
    step_list = ready_right f s m.ch e o r q ep eq h

    module _ (d : Head) (ed : head_as d ≡ head_tree (tree_at f s o)) where
      abbrev after_head : Operator-as-Head → Out Steps Tree
      after_head x = operate_b evaluate x (tree_at f s r) (tree_at f s env) (state m)

      operates : (x : Head) → d ≡ x → after_head (head_as x) ≡ outcome
      operates x ex =
          ap after_head (ap head_as (sym ex) ∙ ed) ∙ step_pair evaluate (tree_at f s o) (tree_at f s r) (tree_at f s env) (state m)
          ∙ ap (λ (t : Tree). step_b evaluate t (tree_at f s env) (state m)) (sym (look_pair f s m.ch e o r q ep eq))

      pub step_quote : d ≡ Quote → PerformedOk f s s m outcome (Ok (Done (record { node = r; meter = m })))
      unfolding operate_b give
      step_quote ex = answers f s s m outcome (Ok (record { node = r; meter = m })) (Ok (Done (record { node = r; meter = m }))) (stays f s m outcome r step_list (sym (operates Quote ex))) refl

      pub step_other : d ≡ Other → PerformedOk f s s m outcome (Err NoOperator)
      unfolding operate_b refuse stopped PerformedOk
      step_other ex = ap stopped (sym (operates Other ex))

      pub step_call : (s' : List ℕ) (a : Result Performed Refusal) (x : Operator) → PerformedOk f s s' m (call_b evaluate (op_of x) (proper_list (tree_at f s r)) (tree_at f s env) (state m)) a → d ≡ Call x → PerformedOk f s s' m outcome a
      unfolding operate_b
      step_call s' a x k ex = comes_since f s s s' m m _ outcome a k (operates (Call x) ex) (grown_none f s m.ch h.held) refl (omega arith)

-- ---- eval_node

-- with one step more
abbrev pub stepped : Meter → Meter
stepped m = record { steps = m.steps + 1; ch = m.ch }

-- what holds at the loop's head: e in env gives the outcome o
module _ (f s₀ s : List ℕ) (m₀ m : Meter) (e env : ℕ) (o : Out Steps Tree) (i : Asks f s₀ s m₀ m e env o) where
  pub node_length : (s₁ : List ℕ) → length s₁ ≡ length s → length s₁ ≡ length s₀
  node_length s₁ k = k ∙ i.grown.long

  pub node_out : 4096 ≤ m.steps → ValuedOk f s₀ s m₀ o (Err StepsOut)
  node_out l = stops f s₀ s m₀ o StepsOut (ap stopped i.gives ∙ evaluate_out (tree_at f s e) (tree_at f s env) (state m) l)

  module _ (l : m.steps < 4096) where
    pub node_down : (t : ℕ) → 4 * (4097 - m₀.steps) ≡ t → 4 * (4097 - (m.steps + 1)) + 3 < t
    node_down t et = let k : m₀.steps ≤ m.steps = i.later in omega arith

    module _ (s' : List ℕ) (a : Result Performed Refusal) (h : PerformedOk f s s' (stepped m) (step_b evaluate (tree_at f s e) (tree_at f s env) (state (stepped m))) a) where
      -- what came of the expression, for the whole
      whole : PerformedOk f s₀ s' m₀ o a
      whole =
          let n : m₀.steps ≤ m.steps = i.later in
          let on : o ≡ step_b evaluate (tree_at f s e) (tree_at f s env) (state (stepped m)) = i.gives ∙ evaluate_on (tree_at f s e) (tree_at f s env) (state m) l in
          comes_since f s₀ s s' m₀ (stepped m) _ o a h (sym on) i.grown i.free (omega arith)

      pub node_value : (p : Performed) (q : Valued) → a ≡ Ok p → p ≡ Done q → ValuedOk f s₀ s' m₀ o (Ok q)
      unfolding PerformedOk ValuedOk
      node_value p q ea ep = let e : a ≡ Ok (Done q) = rw ep at ea in rw e at whole

      pub node_refused : (r : Refusal) → a ≡ Err r → ValuedOk f s₀ s' m₀ o (Err r)
      unfolding PerformedOk ValuedOk
      node_refused r ea = rw ea at whole

      module _ (p : Performed) (x z : ℕ) (u : Meter) (eo : a ≡ Ok p) (ep : p ≡ Runs x z u) where
        ea : a ≡ Ok (Runs x z u)
        ea = rw ep at eo

        pub node_again : Asks f s₀ s' m₀ u x z o
        unfolding PerformedOk
        node_again = rw ea at whole

        pub node_falls : 4096 - u.steps < 4096 - m.steps
        unfolding PerformedOk
        node_falls =
            let c : Asks f s s' (stepped m) u x z (step_b evaluate (tree_at f s e) (tree_at f s env) (state (stepped m))) = rw ea at h in
            let n : m.steps + 1 ≤ u.steps = c.later in
            omega arith
