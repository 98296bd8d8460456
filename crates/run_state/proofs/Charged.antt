-- What the store made and charged is what the definitions charge and give. Assumes nothing.
use Prim.Native.Nat.{ℕ, ◌+◌}
use mathlib.Core.Path.{◌≡◌, sym, ◌∙◌, ap₂}
use mathlib.Core.List.{List}
use mathlib.Core.Bool.{true, false}
use lib.Dec.{leb}
use Rattle.refusals.specs.declared.Refusal.{Refusal}
use Rattle.refusals.specs.declared.Refusal.TheVariants.{UnitsOut}
use Rattle.meaning.specs.Tree.{Tree, equal_to}
use Rattle.meaning.specs.Limits.{unit_limit}
use Rattle.meaning.specs.Meter.{Out, done, stop, Spent, ◌>>◌, give, charge}
use Rattle.meaning.proofs.MeterLaws.{seq_at, seq_stop}
use Rattle.store.specs.declared.Charges.{Charges}
use Rattle.store.specs.declared.Made.{Made}
use Rattle.std.specs.Prelude.{Result, Ok, Err}
use Rattle.store.specs.Nodes.{tree_at}
use Rattle.store.specs.Makers.{Grown, Bought, Over, MadeOk}
use Rattle.store.proofs.Ready.{grown_both}
use Rattle.store.proofs.Charging.{bought_fits, over_fits_not}
use Rattle.run_state.specs.declared.Work.{Work}
use Rattle.run_state.specs.Work.{spent_of, work_made, Says, Did}

module _ (x : Spent) (k : ℕ) where
  pub charge_fits : leb (x.units + k) unit_limit ≡ true → charge k x ≡ done tt (record { units = x.units + k; passes = x.passes; mark = x.mark })
  unfolding charge
  charge_fits e = rw (e, charge)

  pub charge_over : leb (x.units + k) unit_limit ≡ false → charge k x ≡ stop UnitsOut (record { units = unit_limit; passes = x.passes; mark = x.mark })
  unfolding charge
  charge_over e = rw (e, charge)

-- a charge and then a tree, where the store made it from the charges of w
module _ (f s s' : List ℕ) (w : Work) (k : ℕ) (t : Tree) where
  pub charged_node : (n : ℕ) (d : Charges) → Bought f s s' w.ch d k n t → (charge k >> give t) (spent_of w) ≡ done (tree_at f s' n) (record { units = d.units; passes = w.passes; mark = w.mark })
  unfolding give
  charged_node n d b =
      seq_at (charge k) (give t) (spent_of w) _ tt (charge_fits (spent_of w) k (bought_fits b))
      ∙ ap₂ (λ y u. done y (record { units = u; passes = w.passes; mark = w.mark })) (sym b.stands.tree) (sym b.units)

  pub charged_stop : (r : Refusal) → Over w.ch k r → (charge k >> give t) (spent_of w) ≡ stop r (record { units = unit_limit; passes = w.passes; mark = w.mark })
  charged_stop r o = rw o.refusal (seq_stop (charge k) (give t) (spent_of w) _ UnitsOut (charge_over (spent_of w) k (over_fits_not o)))

-- work that ends in what a maker answered: w' has the passes and the mark, c₁ the charges before the maker
pub did_made : (f s s₁ s₂ : List ℕ) (w w' q : Work) (c₁ : Charges) (x t : Tree) (k : ℕ) (a : Result Made Refusal) (def : Out Spent Tree) → Grown f s s₁ w.ch c₁ → MadeOk f s₁ s₂ c₁ k t a
    → def ≡ (charge k >> give t) (record { units = c₁.units; passes = w'.passes; mark = w'.mark }) → equal_to x t ≡ false → q ≡ work_made w' a → Did f s s₂ w x def q
unfolding Did Says MadeOk
did_made f s s₁ s₂ w w' q c₁ x t k a def g h d o e = rw e (go a h)
  where
    before : Work
    before = record { ch = c₁; passes = w'.passes; mark = w'.mark; last = w'.last }

    go : (b : Result Made Refusal) → MadeOk f s₁ s₂ c₁ k t b → Did f s s₂ w x def (work_made w' b)
    go (Ok m) b = record {
      grown = grown_both g b.stands.grown;
      ready = b.stands.ready;
      gives = d ∙ charged_node f s₁ s₂ before k t m.node m.ch b;
      differs = rw b.stands.tree o;
    }
    go (Err r) b = record { after = _; stops = d ∙ charged_stop f s₁ s₂ before k t r b }
