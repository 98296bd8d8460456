-- Rule 2: what each return needs. Assumes nothing.
use Rattle.std.specs.Prelude.{Result, Ok, Err}
use Prim.Native.Nat.{ℕ, ◌+◌}
use mathlib.Core.Path.{◌≡◌, refl, sym, ◌∙◌, ap}
use mathlib.Core.List.{List, [], ◌∷◌}
use mathlib.Core.Bool.{Bool, true, false, ◌&&◌, not}
use mathlib.Core.Option.{some}
use Rattle.refusals.specs.declared.Refusal.{Refusal}
use Rattle.meaning.specs.Tree.{Tree, atom, pair, nil, is_empty, non_nil, is_quote, quote}
use Rattle.meaning.specs.Limits.{pair_cost}
use Rattle.meaning.specs.Meter.{Out, done, stop, Steps, Spent, W, ◌>>◌, give, charge, within}
use Rattle.meaning.specs.Evaluate.{evaluate}
use Rattle.meaning.specs.Constant.{seems_constant}
use Rattle.meaning.specs.Rules.{worked_out, constant_optimizer}
use Rattle.meaning.proofs.MeterLaws.{bind_at}
use Rattle.meaning.proofs.BindLaws.{bind_stop}
use Rattle.meaning.proofs.RuleDiffers.{quote_differs, is_worked_out, constant_gives, constant_same}
use Rattle.store.specs.declared.Cell.{Cell}
use Rattle.store.specs.declared.Cell.TheVariants.{Pair, Atom}
use Rattle.store.specs.declared.Charges.{Charges}
use Rattle.store.specs.declared.Made.{Made}
use Rattle.store.specs.Cells.{cell_at}
use Rattle.store.specs.Nodes.{tree_at}
use Rattle.store.specs.Store.{Ready}
use Rattle.store.specs.Makers.{Grown, MadeOk, Answered}
use Rattle.store.proofs.Ready.{grown_none, grown_ready, grown_tree, look_pair, look_atom}
use Rattle.sexp.specs.Tests.{is_byte_tree, is_nil}
use Rattle.evaluator.specs.declared.Meter.{Meter}
use Rattle.evaluator.specs.declared.Valued.{Valued}
use Rattle.evaluator.specs.Values.{state, stopped, Given, ValuedOk}
use Rattle.run_state.specs.declared.Outcome.TheVariants.{Same, Stopped}
use Rattle.run_state.specs.declared.Work.{Work}
use Rattle.run_state.specs.Work.{spent_of, with_last, work_made, Did}
use Rattle.run_state.proofs.Does.{did_same, did_stopped, did_after}
use Rattle.run_state.proofs.Charged.{did_made}

-- ---- the test for a quote

quote_head : (l r : Tree) → is_quote (pair l r) ≡ is_byte_tree 1 l
unfolding is_quote is_byte_tree
quote_head (atom b) r = refl
quote_head (pair x y) r = refl

pub quote_atom : (f s : List ℕ) (n : ℕ) (q : Cell) → q ≡ cell_at s n → q ≡ Atom → false ≡ is_quote (tree_at f s n)
unfolding is_quote
quote_atom f s n q e i = rw (look_atom f s n q e i)

pub quote_pair : (f s : List ℕ) (c : Charges) (n l r : ℕ) (q : Cell) (b : Bool) → b ≡ is_byte_tree 1 (tree_at f s l) → q ≡ cell_at s n → q ≡ Pair l r → b ≡ is_quote (tree_at f s n)
quote_pair f s c n l r q b h e i = h ∙ sym (quote_head (tree_at f s l) (tree_at f s r)) ∙ ap is_quote (sym (look_pair f s c n l r q i e))

-- ---- the value under nil, quoted

-- a refusal of the evaluation
stop_of : {S A : Type 0} (o : Out S A) (r : Refusal) → stopped o ≡ some r → (t : S) × (o ≡ stop r t)
unfolding stopped
stop_of (done a t) r h = (t, cc)
stop_of (stop n t) r h = let e : n ≡ r = cc in (t, ap (λ m. stop m t) e)

module _ (r : Tree) (x : Spent) where
  within_done : (v : Tree) (t : Steps) → evaluate r nil (record { steps = 0; units = x.units }) ≡ done v t → within (evaluate r nil) x ≡ done v (record { units = t.units; passes = x.passes; mark = x.mark })
  unfolding within
  within_done v t h = rw (h, within)

  within_stop : (n : Refusal) (t : Steps) → evaluate r nil (record { steps = 0; units = x.units }) ≡ stop n t → within (evaluate r nil) x ≡ stop n (record { units = t.units; passes = x.passes; mark = x.mark })
  unfolding within
  within_stop n t h = rw (h, within)

  quote_it : Tree → W Tree
  quote_it v = charge (5 + pair_cost) >> give (quote v)

  worked_done : (v : Tree) (t : Steps) → evaluate r nil (record { steps = 0; units = x.units }) ≡ done v t → worked_out r x ≡ (charge (5 + pair_cost) >> give (quote v)) (record { units = t.units; passes = x.passes; mark = x.mark })
  unfolding worked_out quote_it
  worked_done v t h = bind_at (within (evaluate r nil)) quote_it x _ v (within_done v t h)

  worked_stop : (n : Refusal) (t : Steps) → evaluate r nil (record { steps = 0; units = x.units }) ≡ stop n t → worked_out r x ≡ stop n (record { units = t.units; passes = x.passes; mark = x.mark })
  unfolding worked_out quote_it
  worked_stop n t h = bind_stop (within (evaluate r nil)) quote_it x _ n (within_stop n t h)

-- an evaluation with no steps spent
abbrev pub fresh : Work → Meter
fresh w = record { steps = 0; ch = w.ch }

module _ (f s s₁ : List ℕ) (w q : Work) (n : ℕ) (v : Result Valued Refusal) (h : ValuedOk f s s₁ (fresh w) (evaluate (tree_at f s n) (tree_at f s 0) (state (fresh w))) v) (r : Ready f s w.ch n) where
  pub value_stops : (e : Refusal) → v ≡ Err e → q ≡ with_last w (Stopped e) → Did f s s₁ w (tree_at f s n) (worked_out (tree_at f s n) (spent_of w)) q
  unfolding ValuedOk
  value_stops e i j =
      let z : stopped (evaluate (tree_at f s n) (tree_at f s 0) (state (fresh w))) ≡ some e = rw i at h in
      let (t, y) = stop_of (evaluate (tree_at f s n) nil (state (fresh w))) e (ap (λ x. stopped (evaluate (tree_at f s n) x (state (fresh w)))) (sym r.held.nil_at) ∙ z) in
      did_stopped f s s₁ w q _ _ e _ j (worked_stop (tree_at f s n) (spent_of w) e t y)

  module _ (given_v : Valued) (i : v ≡ Ok given_v) where
    abbrev y : ℕ
    y = given_v.node

    abbrev m : Meter
    m = given_v.meter

    given : Given f s s₁ (fresh w) m y (evaluate (tree_at f s n) (tree_at f s 0) (state (fresh w)))
    unfolding ValuedOk
    given = rw i at h

    pub value_ready : Ready f s₁ m.ch y
    value_ready = given.ready

    pub value_quoted : (s₂ : List ℕ) (a : Result Made Refusal) → MadeOk f s₁ s₂ m.ch (5 + pair_cost) (quote (tree_at f s₁ y)) a → is_quote (tree_at f s n) ≡ false → q ≡ work_made w a
        → Did f s s₂ w (tree_at f s n) (worked_out (tree_at f s n) (spent_of w)) q
    value_quoted s₂ a b o j =
        let z : evaluate (tree_at f s n) nil (state (fresh w)) ≡ done (tree_at f s₁ y) (state m) = rw r.held.nil_at at given.value in
        did_made f s s₁ s₂ w w q m.ch (tree_at f s n) (quote (tree_at f s₁ y)) (5 + pair_cost) a _ given.grown b (worked_done (tree_at f s n) (spent_of w) (tree_at f s₁ y) (state m) z) (quote_differs (tree_at f s n) (tree_at f s₁ y) o) j

-- ---- the rule's test

nil_test : (t : Tree) → is_nil t ≡ not (non_nil t)
unfolding is_nil non_nil is_empty
nil_test (atom []) = refl
nil_test (atom (b ∷ bs)) = refl
nil_test (pair l r) = refl

-- the test, from its three parts
test_quote : (r : Tree) → is_quote r ≡ true → is_worked_out r ≡ false
test_quote r e = rw e

test_nil : (r : Tree) → is_nil r ≡ true → is_worked_out r ≡ false
test_nil r e = go (not (is_quote r) && seems_constant r) (non_nil r) (sym (nil_test r) ∙ e)
  where
    go : (a b : Bool) → not b ≡ true → (a && b) ≡ false
    go true true h = sym h
    go true false h = refl
    go false b h = refl

test_no : (r : Tree) → seems_constant r ≡ false → is_worked_out r ≡ false
test_no r e = go (not (is_quote r)) (seems_constant r) (non_nil r) e
  where
    go : (a b d : Bool) → b ≡ false → ((a && b) && d) ≡ false
    go true b d h = rw h
    go false b d h = refl

test_yes : (r : Tree) → is_quote r ≡ false → is_nil r ≡ false → seems_constant r ≡ true → is_worked_out r ≡ true
test_yes r a b d = rw (a, d) (go (non_nil r) (sym (nil_test r) ∙ b))
  where
    go : (x : Bool) → not x ≡ false → x ≡ true
    go true h = refl
    go false h = sym h

module _ (f s : List ℕ) (w q : Work) (n : ℕ) (r : Ready f s w.ch n) where
  kept : (s₁ : List ℕ) → Grown f s s₁ w.ch w.ch → is_worked_out (tree_at f s n) ≡ false → q ≡ with_last w Same → Did f s s₁ w (tree_at f s n) (constant_optimizer (tree_at f s n) (spent_of w)) q
  kept s₁ g t i = did_same f s s₁ w q _ _ i g (constant_same (tree_at f s n) t (spent_of w))

  pub constant_quote : (b : Bool) → b ≡ is_quote (tree_at f s n) → b ≡ true → q ≡ with_last w Same → Did f s s w (tree_at f s n) (constant_optimizer (tree_at f s n) (spent_of w)) q
  constant_quote b e t i = kept s (grown_none f s w.ch r.held) (test_quote (tree_at f s n) (sym e ∙ t)) i

  pub constant_nil : (b : Bool) → b ≡ is_nil (tree_at f s n) → b ≡ true → q ≡ with_last w Same → Did f s s w (tree_at f s n) (constant_optimizer (tree_at f s n) (spent_of w)) q
  constant_nil b e t i = kept s (grown_none f s w.ch r.held) (test_nil (tree_at f s n) (sym e ∙ t)) i

  module _ (s₁ : List ℕ) (b : Bool) (h : Answered f s s₁ w.ch b (seems_constant (tree_at f s n))) where
    pub constant_no : b ≡ false → q ≡ with_last w Same → Did f s s₁ w (tree_at f s n) (constant_optimizer (tree_at f s n) (spent_of w)) q
    constant_no t i = kept s₁ h.grown (test_no (tree_at f s n) (sym h.answer ∙ t)) i

    pub constant_ready : Ready f s₁ w.ch n
    constant_ready = grown_ready h.grown r

    pub constant_unquoted : (a : Bool) → a ≡ is_quote (tree_at f s n) → a ≡ false → is_quote (tree_at f s₁ n) ≡ false
    constant_unquoted a e z = ap is_quote (grown_tree h.grown r) ∙ sym e ∙ z

    pub constant_yes : (s₂ : List ℕ) (a d : Bool) → Did f s₁ s₂ w (tree_at f s₁ n) (worked_out (tree_at f s₁ n) (spent_of w)) q → b ≡ true → a ≡ is_quote (tree_at f s n) → a ≡ false → d ≡ is_nil (tree_at f s n) → d ≡ false
        → Did f s s₂ w (tree_at f s n) (constant_optimizer (tree_at f s n) (spent_of w)) q
    constant_yes s₂ a d k t ea za ed zd =
        let y : is_worked_out (tree_at f s n) ≡ true = test_yes (tree_at f s n) (sym ea ∙ za) (sym ed ∙ zd) (sym h.answer ∙ t) in
        let k' : Did f s₁ s₂ w (tree_at f s n) (worked_out (tree_at f s n) (spent_of w)) q = rw (grown_tree h.grown r) at k in
        rw (constant_gives (tree_at f s n) y (spent_of w)) (did_after f s s₁ s₂ w _ _ h.grown q k')
