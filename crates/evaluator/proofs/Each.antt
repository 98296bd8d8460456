-- The loop over an argument list. Assumes nothing.
use Rattle.std.specs.Prelude.{Result, Ok, Err}
use Prim.Native.Nat.{ℕ, zero, suc, ◌+◌, ◌-◌, ◌*◌, ◌≤◌, ◌<◌}
use mathlib.Core.Path.{◌≡◌, refl, sym, ◌∙◌, ap}
use mathlib.Core.List.{List, [], ◌∷◌, ◌++◌, append_assoc, append-nil}
use mathlib.Core.Bool.{Bool, true, false}
use mathlib.Core.Option.{some}
use lib.Dec.{eqb}
use lib.ListN.{length, get_or, length-append}
use native.Mathlib.Omega.{arith}
use borrow.Author.Tests.{eqb-true, eqb-false}
use Rattle.refusals.specs.declared.Refusal.{Refusal}
use Rattle.meaning.specs.Tree.{Tree, nil}
use Rattle.meaning.specs.Limits.{step_limit}
use Rattle.meaning.specs.Meter.{Out, done, stop, Steps, E, ◌>>=◌, give}
use Rattle.meaning.specs.Evaluate.{RunnerB, each_value_b, evaluate}
use Rattle.meaning.proofs.MeterLaws.{bind_at, bind_inv, give_inv}
use Rattle.meaning.proofs.EvalFuel.{steps_rise}
use Rattle.store.specs.declared.Charges.{Charges}
use Rattle.store.specs.declared.Cell.{Cell}
use Rattle.store.specs.declared.Cell.TheVariants.{Pair, Atom}
use Rattle.store.specs.Cells.{pick, Room, cell_at}
use Rattle.store.specs.Nodes.{tree_at}
use Rattle.store.specs.Store.{Ready}
use Rattle.store.specs.Makers.{Grown}
use Rattle.store.proofs.Ready.{room, small, nil_ready, falls_right, ready_left, ready_right, look_pair, look_atom, grown_none, grown_both, grown_ready, grown_tree}
use Rattle.evaluator.specs.declared.Meter.{Meter}
use Rattle.evaluator.specs.declared.Values.{Values}
use Rattle.evaluator.specs.declared.Valued.{Valued}
use Rattle.evaluator.specs.Heads.{items}
use Rattle.evaluator.specs.Values.{state, stopped, Given, ValuedOk, Nodes, put_value, Stand, ArgsOk}
use Rattle.evaluator.proofs.Outcomes.{bind_stopped, is_value, is_refused}

-- ---- the definition, element by element

-- the values so far, before what comes of the rest
unfoldable pub onto : List Tree → Out Steps (List Tree) → Out Steps (List Tree)
onto vs (done ws s) = done (vs ++ ws) s
onto vs (stop n s) = stop n s

onto_stopped : (vs : List Tree) (o : Out Steps (List Tree)) → stopped o ≡ stopped (onto vs o)
unfolding onto stopped
onto_stopped vs (done ws s) = refl
onto_stopped vs (stop n s) = refl

onto_none : (o : Out Steps (List Tree)) → onto [] o ≡ o
unfolding onto
onto_none (done ws s) = refl
onto_none (stop n s) = refl

module _ (run : RunnerB) (e : Tree) (es : List Tree) (env : Tree) (s : Steps) where
  abbrev rest : Tree → E (List Tree)
  rest v = each_value_b run es env >>= λ vs. give (v ∷ vs)

  each_goes : (vs : List Tree) (v : Tree) (t : Steps) → run e env s ≡ done v t → onto (vs ++ v ∷ []) (each_value_b run es env t) ≡ onto vs (each_value_b run (e ∷ es) env s)
  unfolding each_value_b onto ◌>>=◌ give
  each_goes vs v t h = go (each_value_b run es env t) refl ∙ ap (onto vs) (sym (bind_at (run e env) rest s t v h))
    where
      go : (o : Out Steps (List Tree)) → each_value_b run es env t ≡ o → onto (vs ++ v ∷ []) (each_value_b run es env t) ≡ onto vs (rest v t)
      go (done ws u) k = rw (k, ◌>>=◌) (ap (λ (x : List Tree). done x u) (append_assoc vs (v ∷ []) ws))
      go (stop n u) k = rw (k, ◌>>=◌)

  each_stops : (r : Refusal) → stopped (run e env s) ≡ some r → stopped (each_value_b run (e ∷ es) env s) ≡ some r
  unfolding each_value_b
  each_stops r h = bind_stopped (run e env) rest s r h

-- as many values as arguments
pub each_many : (run : RunnerB) (es : List Tree) (env : Tree) (s t : Steps) (vs : List Tree) → each_value_b run es env s ≡ done vs t → length vs ≡ length es
unfolding each_value_b
each_many run [] env s t vs h = ap length (sym (give_inv [] vs s t h))
each_many run (e ∷ es) env s t vs h =
    let (v, u, p, q) = bind_inv (run e env) (λ v. each_value_b run es env >>= λ vs. give (v ∷ vs)) s t vs h in
    let (ws, w, p', q') = bind_inv (each_value_b run es env) (λ vs. give (v ∷ vs)) u t vs q in
    ap length (sym (give_inv (v ∷ ws) vs w t q')) ∙ ap suc (each_many run es env u w ws p')

-- ---- the first three values

snoc_at : (vs : List Tree) (t : Tree) → t ≡ get_or (vs ++ t ∷ []) (length vs) nil
snoc_at [] t = refl
snoc_at (v ∷ vs) t = snoc_at vs t

snoc_other : (vs : List Tree) (t : Tree) (i : ℕ) → (length vs ≡ i → ⊥) → get_or vs i nil ≡ get_or (vs ++ t ∷ []) i nil
snoc_other [] t zero h = absurd (h refl)
snoc_other [] t (suc i) h = refl
snoc_other (v ∷ vs) t zero h = refl
snoc_other (v ∷ vs) t (suc i) h = snoc_other vs t i (λ e. h (ap suc e))

-- one of the three: q where k is its place, else what it was
module _ (f s : List ℕ) (c : Charges) (q x k i : ℕ) (hq : Ready f s c q) where
  put_ready : Ready f s c x → Ready f s c (pick (eqb k i) q x)
  put_ready h = go (eqb k i)
    where
      go : (b : Bool) → Ready f s c (pick b q x)
      go true = hq
      go false = h

  put_tree : (vs : List Tree) → k ≡ length vs → tree_at f s x ≡ get_or vs i nil → tree_at f s (pick (eqb k i) q x) ≡ get_or (vs ++ tree_at f s q ∷ []) i nil
  put_tree vs e h = go (eqb k i) refl
    where
      go : (b : Bool) → eqb k i ≡ b → tree_at f s (pick b q x) ≡ get_or (vs ++ tree_at f s q ∷ []) i nil
      go true y = snoc_at vs (tree_at f s q) ∙ ap (λ (j : ℕ). get_or (vs ++ tree_at f s q ∷ []) j nil) (sym e ∙ eqb-true k i y)
      go false n = h ∙ snoc_other vs (tree_at f s q) i (λ z. eqb-false k i n (e ∙ z))

-- ---- the loop

-- what holds at the loop's head: the values so far, before those of what is left, are the whole's
pub record Each (f s₀ : List ℕ) (m₀ : Meter) (list env : ℕ) (s : List ℕ) (m : Meter) (p k : ℕ) (v : Values) : Type 0 where
  pub grown : Grown f s₀ s m₀.ch m.ch
  pub free : m.ch.free ≡ m₀.ch.free
  pub later : m₀.steps ≤ m.steps
  pub node : Ready f s m.ch p
  pub environment : Ready f s₀ m₀.ch env
  pub upto : p + k ≤ list
  pub few : list < 65536
  pub nodes : Nodes f s m.ch v
  pub values : List Tree
  pub count : k ≡ length values
  pub stand : Stand f s v values
  pub whole : onto values (each_value_b evaluate (items (tree_at f s p)) (tree_at f s₀ env) (state m)) ≡ each_value_b evaluate (items (tree_at f s₀ list)) (tree_at f s₀ env) (state m₀)

pub each_starts : (f s : List ℕ) (m : Meter) (list env : ℕ) → Ready f s m.ch list → Ready f s m.ch env → Each f s m list env s m list 0 (record { a = 0; b = 0; c = 0 })
each_starts f s m list env h e =
    let n : Ready f s m.ch 0 = nil_ready f s m.ch h.held in
    record {
      grown = grown_none f s m.ch h.held;
      free = refl;
      later = omega arith;
      node = h;
      environment = e;
      upto = omega arith;
      few = small f s m.ch list h;
      nodes = record { first = n; second = n; third = n };
      values = [];
      count = refl;
      stand = record { first = h.held.nil_at; second = h.held.nil_at; third = h.held.nil_at };
      whole = onto_none _;
    }

module _ (f s₀ : List ℕ) (m₀ : Meter) (list env : ℕ) (s : List ℕ) (m : Meter) (p k : ℕ) (v : Values) (i : Each f s₀ m₀ list env s m p k v) where
  pub each_room : Room s p
  each_room = room f s m.ch p i.node

  pub each_length : (s₁ : List ℕ) → length s₁ ≡ length s → length s₁ ≡ length s₀
  each_length s₁ e = e ∙ i.grown.long

  pub each_env : Ready f s m.ch env
  each_env = grown_ready i.grown i.environment

  pub each_down : (t : ℕ) → 4 * (4097 - m₀.steps) + 1 ≡ t → 4 * (4097 - m.steps) < t
  each_down t e = let l : m₀.steps ≤ m.steps = i.later in omega arith

  abbrev env_tree : Tree
  env_tree = tree_at f s₀ env

  same_env : tree_at f s env ≡ env_tree
  same_env = grown_tree i.grown i.environment

  module _ (q : Cell) where
    pub each_ends : q ≡ cell_at s p → q ≡ Atom → ArgsOk f s₀ s m₀ (each_value_b evaluate (items (tree_at f s₀ list)) (tree_at f s₀ env) (state m₀)) (Ok (record { values = v; meter = m }))
    unfolding ArgsOk items each_value_b onto give
    each_ends eq ep = record {
      grown = i.grown;
      free = i.free;
      later = i.later;
      nodes = i.nodes;
      values = i.values;
      stand = i.stand;
      value = sym i.whole ∙ rw (look_atom f s p q eq ep, append-nil i.values);
    }

    module _ (e r : ℕ) (ep : q ≡ Pair e r) (eq : q ≡ cell_at s p) where
      pub each_element : Ready f s m.ch e
      each_element = ready_left f s m.ch p e r q ep eq i.node

      pub each_falls : r < p
      each_falls = falls_right f s m.ch p e r q ep eq

      element : items (tree_at f s p) ≡ tree_at f s e ∷ items (tree_at f s r)
      unfolding items
      element = rw (look_pair f s m.ch p e r q ep eq)

      module _ (s₁ : List ℕ) (a : Result Valued Refusal) (h : ValuedOk f s s₁ m (evaluate (tree_at f s e) (tree_at f s env) (state m)) a) where
        pub each_refused : (n : Refusal) → a ≡ Err n → ArgsOk f s₀ s₁ m₀ (each_value_b evaluate (items (tree_at f s₀ list)) (tree_at f s₀ env) (state m₀)) (Err n)
        unfolding ArgsOk
        each_refused n ea =
            let z : stopped (evaluate (tree_at f s e) env_tree (state m)) ≡ some n = rw same_env at (is_refused f s s₁ m _ a n h ea) in
            ap stopped (sym i.whole) ∙ sym (onto_stopped i.values _)
            ∙ ap (λ (x : List Tree). stopped (each_value_b evaluate x env_tree (state m))) element
            ∙ each_stops evaluate (tree_at f s e) (items (tree_at f s r)) env_tree (state m) n z

        module _ (z : Valued) (ea : a ≡ Ok z) where
          abbrev x : ℕ
          x = z.node

          abbrev m₁ : Meter
          m₁ = z.meter

          given : Given f s s₁ m m₁ x (evaluate (tree_at f s e) (tree_at f s env) (state m))
          given = is_value f s s₁ m _ a z h ea

          valued : evaluate (tree_at f s e) env_tree (state m) ≡ done (tree_at f s₁ x) (state m₁)
          valued = rw same_env at given.value

          steps_on : m.steps ≤ m₁.steps
          unfolding evaluate
          steps_on = let l : m.steps < m₁.steps = steps_rise (suc step_limit) (tree_at f s e) (tree_at f s env) (tree_at f s₁ x) (state m) (state m₁) given.value in omega arith

          old : (y : ℕ) (j : ℕ) → Ready f s m.ch y → tree_at f s y ≡ get_or i.values j nil → tree_at f s₁ (pick (eqb k j) x y) ≡ get_or (i.values ++ tree_at f s₁ x ∷ []) j nil
          old y j hy e = put_tree f s₁ m₁.ch x y k j given.ready i.values i.count (grown_tree given.grown hy ∙ e)

          kept : (y : ℕ) (j : ℕ) → Ready f s m.ch y → Ready f s₁ m₁.ch (pick (eqb k j) x y)
          kept y j hy = put_ready f s₁ m₁.ch x y k j given.ready (grown_ready given.grown hy)

          tail_kept : tree_at f s₁ r ≡ tree_at f s r
          tail_kept = grown_tree given.grown (ready_right f s m.ch p e r q ep eq i.node)

          pub each_again : (w : Values) → w ≡ put_value v k x → Each f s₀ m₀ list env s₁ m₁ r (k + 1) w
          each_again w ew =
              let l₀ : m₀.steps ≤ m.steps = i.later in
              let l₁ : m.steps ≤ m₁.steps = steps_on in
              let o : p + k ≤ list = i.upto in
              let d : r < p = each_falls in
              let c : k ≡ length i.values = i.count in
              rw ew (record {
                grown = grown_both i.grown given.grown;
                free = given.free ∙ i.free;
                later = omega arith;
                node = grown_ready given.grown (ready_right f s m.ch p e r q ep eq i.node);
                environment = i.environment;
                upto = omega arith;
                few = i.few;
                nodes = record { first = kept v.a 0 i.nodes.first; second = kept v.b 1 i.nodes.second; third = kept v.c 2 i.nodes.third };
                values = i.values ++ tree_at f s₁ x ∷ [];
                count = simp length-append (omega arith);
                stand = record {
                  first = old v.a 0 i.nodes.first i.stand.first;
                  second = old v.b 1 i.nodes.second i.stand.second;
                  third = old v.c 2 i.nodes.third i.stand.third;
                };
                whole =
                    ap (λ (t : Tree). onto (i.values ++ tree_at f s₁ x ∷ []) (each_value_b evaluate (items t) env_tree (state m₁))) tail_kept
                    ∙ each_goes evaluate (tree_at f s e) (items (tree_at f s r)) env_tree (state m) i.values (tree_at f s₁ x) (state m₁) valued
                    ∙ ap (λ (y : List Tree). onto i.values (each_value_b evaluate y env_tree (state m))) (sym element)
                    ∙ i.whole;
              })
