-- var_change_optimizer_cons_eval: each return and each call. Assumes nothing.
use Rattle.std.specs.Prelude.{Result, Ok, Err, Option as Perhaps, Some, None}
use mathlib.Core.Path.{◌≡◌, sym, ◌∙◌, ap}
use mathlib.Core.List.{List}
use Prim.Native.Nat.{ℕ, ◌+◌}
use native.Mathlib.Omega.{arith}
use Rattle.refusals.specs.declared.Refusal.{Refusal}
use Rattle.refusals.specs.declared.Refusal.TheVariants.{UnitsOut}
use Rattle.meaning.specs.Tree.{Tree}
use Rattle.meaning.specs.Limits.{unit_limit, height_at}
use Rattle.meaning.specs.Meter.{Out, done, stop, Spent, charge, ◌>>◌}
use Rattle.meaning.specs.Substitute.{sub_args, sub_cost, reads_low}
use Rattle.meaning.specs.Rules.{applied_of, applied, not_applied, settle, var_change_optimizer_cons_eval, var_change_optimizer_cons_eval_over}
use Rattle.meaning.proofs.MeterLaws.{seq_at, seq_stop}
use Rattle.meaning.proofs.LogSteps as log
use Rattle.meaning.proofs.LogSteps.{settle_ends, rule_ends}
use Rattle.store.specs.Nodes.{tree_at}
use Rattle.store.specs.Store.{Ready}
use Rattle.store.specs.Makers.{Grown, Over}
use Rattle.store.proofs.Ready.{grown_both, grown_tree}
use Rattle.patterns.specs.declared.Patterns.{Patterns}
use Rattle.patterns.specs.Patterns.{Patterned}
use Rattle.patterns.proofs.Laws.{patterned_grown}
use Rattle.substitute.specs.declared.Substituted.{Substituted}
use Rattle.substitute.specs.Sub.{Replaced, SubOk}
use Rattle.rules.specs.declared.Applied.{Applied}
use Rattle.run_state.specs.declared.Outcome.TheVariants.{Same, Stopped}
use Rattle.run_state.specs.declared.Work.{Work}
use Rattle.run_state.specs.declared.Notes.{Notes}
use Rattle.run_state.specs.Notes.{Noted}
use Rattle.run_state.proofs.Noting.{noted_empty, noted_as}
use Rattle.run_state.specs.Work.{spent_of, with_last, Did}
use Rattle.rules.specs.Rule.{applied_at, AppliedIn, AppliedOk}
use Rattle.run_state.proofs.Does.{did_same, did_stopped}
use Rattle.driver_parts.specs.Turns.{again, Fine}
use Rattle.driver_parts.proofs.Saying.{renamed, goes_on}
use Rattle.driver_parts.proofs.Wraps.{charge_goes, charge_fails}
use Rattle.run_state.specs.State.{Sounds}
use Rattle.run_state.proofs.Entries.{sounds_grown}
use Rattle.driver_parts.proofs.Kept.{fine_kept, fine_same}

module _ (f : List ℕ) (p : Patterns) (room : List ℕ) (w : Work) (n : ℕ) (h : Fine f room w p n) (r₀ : List ℕ) (a : Perhaps Applied) (ok : AppliedOk f room r₀ w.ch a (applied_of (tree_at f room n))) where
  abbrev x : Tree
  x = tree_at f room n

  abbrev def : ℕ → Out Spent Tree
  def nest = var_change_optimizer_cons_eval (again nest) x (spent_of w)

  pub change_none : (nest : ℕ) (q : Work) → q ≡ with_last w Same → a ≡ None → Did f room r₀ w (tree_at f room n) (var_change_optimizer_cons_eval (again nest) (tree_at f room n) (spent_of w)) q
  unfolding applied_at var_change_optimizer_cons_eval
  change_none nest q eq e =
      let z : not_applied ≡ applied_of x = rw e at ok.answer in
      did_same f room r₀ w q _ _ eq ok.grown (rw (← z, var_change_optimizer_cons_eval_over))

  pub change_none_noted : (nest : ℕ) (notes : Notes) (row : List (List ℕ)) → a ≡ None → Noted notes row row (rule_ends (height_at (nest + 1)) 4 (tree_at f room n) (spent_of w))
  unfolding applied_at
  change_none_noted nest notes row e =
      let z : not_applied ≡ applied_of x = rw e at ok.answer in
      noted_empty notes row _ (log.not_applied_ends (height_at (nest + 1)) x (sym z) (spent_of w))

  module _ (at_call : Applied) (e : a ≡ Some at_call) where
    abbrev b : ℕ
    b = at_call.body

    abbrev s : ℕ
    s = at_call.args

    abbrev y : Tree
    y = tree_at f r₀ b

    abbrev z : Tree
    z = tree_at f r₀ s

    call : applied_of x ≡ applied y z
    unfolding applied_at
    call = sym (rw e at ok.answer)

    nodes : Ready f r₀ w.ch b × Ready f r₀ w.ch s
    unfolding AppliedIn
    nodes = rw e at ok.found

    pub change_asks : Ready f r₀ w.ch b × Ready f r₀ w.ch s × Patterned f r₀ w.ch p
    change_asks = (nodes.0, nodes.1, patterned_grown ok.grown h.patterned)

    is_call : (nest : ℕ) → def nest ≡ (charge (sub_cost y z) >> settle (again nest) x (sub_args y z) (reads_low y)) (spent_of w)
    unfolding var_change_optimizer_cons_eval
    is_call nest = rw (call, var_change_optimizer_cons_eval_over)

    module _ (r₁ : List ℕ) (u : Result Substituted Refusal) (d : SubOk f r₀ r₁ w.ch (sub_cost (tree_at f r₀ b) (tree_at f r₀ s)) (sub_args (tree_at f r₀ b) (tree_at f r₀ s)) (reads_low (tree_at f r₀ b)) u) where
      pub change_over : (nest : ℕ) (r : Refusal) (q : Work) → q ≡ with_last w (Stopped r) → u ≡ Err r → Did f room r₁ w (tree_at f room n) (var_change_optimizer_cons_eval (again nest) (tree_at f room n) (spent_of w)) q
      unfolding SubOk
      change_over nest r q eq eu =
          let o : Over w.ch (sub_cost y z) r = rw eu at d in
          did_stopped f room r₁ w q _ _ r (record { units = unit_limit; passes = w.passes; mark = w.mark }) eq
          (is_call nest
          ∙ seq_stop (charge (sub_cost y z)) (settle (again nest) x (sub_args y z) (reads_low y)) (spent_of w) _ UnitsOut (charge_fails (sub_cost y z) (spent_of w) o.over)
          ∙ ap (λ (t : Refusal). stop t (record { units = unit_limit; passes = w.passes; mark = w.mark })) (sym o.refusal))

      pub change_over_noted : (nest : ℕ) (r : Refusal) (notes : Notes) (row : List (List ℕ)) → u ≡ Err r → Noted notes row row (rule_ends (height_at (nest + 1)) 4 (tree_at f room n) (spent_of w))
      unfolding SubOk
      change_over_noted nest r notes row eu =
          let o : Over w.ch (sub_cost y z) r = rw eu at d in
          noted_empty notes row _ (log.uncharged_ends (height_at (nest + 1)) x y z call (spent_of w) UnitsOut _ (charge_fails (sub_cost y z) (spent_of w) o.over))

      module _ (v : Substituted) (eu : u ≡ Ok v) where
        abbrev w' : Work
        w' = record { ch = v.ch; passes = w.passes; mark = w.mark; last = Same }

        done_so : Replaced f r₀ r₁ w.ch (sub_cost y z) (sub_args y z) (reads_low y) v
        unfolding SubOk
        done_so = rw eu at d

        grown : Grown f room r₁ w.ch v.ch
        grown = grown_both ok.grown done_so.bought.stands.grown

        pub change_fine : Fine f r₁ (record { ch = v.ch; passes = w.passes; mark = w.mark; last = Same }) p n × Fine f r₁ (record { ch = v.ch; passes = w.passes; mark = w.mark; last = Same }) p v.node
        change_fine = (fine_same f room r₁ w w' p n h grown h.passes, fine_kept f room r₁ w w' p n v.node h grown done_so.bought.stands.ready h.passes)

        pub change_valid : (used : ℕ) (row : List (List ℕ)) → Sounds f room w.ch w.mark used row → Sounds f r₁ v.ch w.mark used row
        change_valid used row k = sounds_grown k grown (λ m. m)

        charged : charge (sub_cost y z) (spent_of w) ≡ done tt (spent_of w')
        charged =
            let e : v.ch.units ≡ w.ch.units + sub_cost y z = done_so.bought.units in
            charge_goes (sub_cost y z) (spent_of w) (omega (arith, done_so.bought.stands.ready.held.units))
            ∙ ap (λ (k : ℕ). done tt (record { units = k; passes = w.passes; mark = w.mark })) (sym e)

        pub change_settled : (nest : ℕ) (r₂ : List ℕ) (q : Work)
            → Did f r₁ r₂ (record { ch = v.ch; passes = w.passes; mark = w.mark; last = Same }) (tree_at f r₁ n) (settle (again nest) (tree_at f r₁ n) (tree_at f r₁ v.node) v.low (record { units = v.ch.units; passes = w.passes; mark = w.mark })) q
            → Did f room r₂ w (tree_at f room n) (var_change_optimizer_cons_eval (again nest) (tree_at f room n) (spent_of w)) q
        change_settled nest r₂ q k =
            let k₂ : Did f r₁ r₂ w' x (settle (again nest) x (sub_args y z) (reads_low y) (spent_of w')) q =
            rw (grown_tree grown h.ready, done_so.bought.stands.tree, done_so.low) at k in
            renamed f room r₂ w q x _ _ (goes_on f room r₁ r₂ w w' q x _ grown k₂)
            (sym (is_call nest ∙ seq_at (charge (sub_cost y z)) (settle (again nest) x (sub_args y z) (reads_low y)) (spent_of w) (spent_of w') tt charged))

        pub change_settled_noted : (nest : ℕ) (notes : Notes) (row row₁ : List (List ℕ))
            → Noted notes row row₁ (settle_ends (height_at (nest + 1)) (tree_at f r₁ n) (tree_at f r₁ v.node) v.low (record { units = v.ch.units; passes = w.passes; mark = w.mark }))
            → Noted notes row row₁ (rule_ends (height_at (nest + 1)) 4 (tree_at f room n) (spent_of w))
        change_settled_noted nest notes row row₁ k =
            let k₂ : Noted notes row row₁ (settle_ends (height_at (nest + 1)) x (sub_args y z) (reads_low y) (spent_of w')) =
            rw (grown_tree grown h.ready, done_so.bought.stands.tree, done_so.low) at k in
            noted_as notes row row₁ _ _ k₂ (log.charged_ends (height_at (nest + 1)) x y z call (spent_of w) (spent_of w') charged)
