-- children and choice: each return. Assumes nothing.
use mathlib.Core.Path.{◌≡◌, refl, sym, ◌∙◌}
use mathlib.Core.List.{List}
use mathlib.Core.Bool.{Bool, true, false, not}
use Prim.Native.Nat.{ℕ, ◌<◌, ◌≤◌}
use Rattle.meaning.specs.Tree.{Tree, is_quote}
use Rattle.meaning.specs.Meter.{give}
use Rattle.meaning.specs.Substitute.{is_proper}
use Rattle.meaning.specs.Rules.{children_optimizer, var_change_optimizer_cons_eval}
use Rattle.meaning.specs.Driver.{optimizers}
use Rattle.meaning.proofs.OperandsOutcomes as walks
use Rattle.store.specs.Nodes.{tree_at}
use Rattle.store.specs.Makers.{Grown}
use Rattle.store.proofs.Ready.{grown_none}
use Rattle.patterns.specs.declared.Patterns.{Patterns}
use Rattle.run_state.specs.declared.Outcome.{Outcome}
use Rattle.run_state.specs.declared.Outcome.TheVariants.{Same, Changed, Stopped}
use Rattle.run_state.specs.declared.Work.{Work}
use Rattle.run_state.specs.Work.{spent_of, with_last, Did}
use Rattle.run_state.proofs.Does.{did_same}
use Rattle.driver_parts.specs.Turns.{again, optimizer, Fine, Simple}
use Rattle.driver_parts.specs.Walk.{walk, Walked}
use Rattle.driver_parts.proofs.Saying.{say_same, say_changed, say_stopped, renamed, walked_none, walked_made, walked_stopped}
use Rattle.driver_parts.proofs.Numbers.{any_driver}
use Rattle.driver_parts.proofs.Settling.{not_yes, not_no}

pub other_rule : (rule : ℕ) → 0 < rule → rule ≤ 8 → (rule ≡ 4 → ⊥) → (rule ≡ 5 → ⊥) → Simple rule
other_rule rule l m a b = record { least = l; most = m; not_4 = a; not_5 = b }

module _ (f : List ℕ) (p : Patterns) (nest : ℕ) (room : List ℕ) (w : Work) (n : ℕ) (h : Fine f room w p n) where
  abbrev x : Tree
  x = tree_at f room n

  unmoved : Grown f room room w.ch w.ch
  unmoved = grown_none f room w.ch h.ready.held

  -- ---- children

  pub children_quote : (q : Work) (v : Bool) → q ≡ with_last w Same → v ≡ is_quote (tree_at f room n) → v ≡ true
      → Did f room room w (tree_at f room n) (children_optimizer (again nest) (tree_at f room n) (spent_of w)) q
  children_quote q v eq ev pv = did_same f room room w q _ _ eq unmoved (walks.children_of_quote (again nest) x (sym ev ∙ pv) (spent_of w))

  pub children_improper : (q : Work) (v : Bool) → q ≡ with_last w Same → v ≡ is_proper (tree_at f room n) → not v ≡ true
      → Did f room room w (tree_at f room n) (children_optimizer (again nest) (tree_at f room n) (spent_of w)) q
  children_improper q v eq ev pv = did_same f room room w q _ _ eq unmoved (walks.children_of_improper (again nest) x (sym ev ∙ not_yes v pv) (spent_of w))

  pub children_walked : (r₁ : List ℕ) (w₁ : Work) (u v : Bool) → Walked f room r₁ w (walk false (again nest) false (tree_at f room n) (spent_of w)) w₁
      → u ≡ is_quote (tree_at f room n) → u ≡ false → v ≡ is_proper (tree_at f room n) → not v ≡ false
      → Did f room r₁ w (tree_at f room n) (children_optimizer (again nest) (tree_at f room n) (spent_of w)) w₁
  unfolding walk
  children_walked r₁ w₁ u v d eu pu ev pv = go w₁.last refl
    where
      no_quote : is_quote x ≡ false
      no_quote = sym eu ∙ pu

      properly : is_proper x ≡ true
      properly = sym ev ∙ not_no v pv

      go : (o : Outcome) → w₁.last ≡ o → Did f room r₁ w x (children_optimizer (again nest) x (spent_of w)) w₁
      go Same e =
          let s = walked_none f room r₁ w w₁ _ d e in
          say_same f room r₁ w w₁ _ _ e (record { grown = s.grown; gives = walks.children_same (again nest) x no_quote properly (spent_of w) (spent_of w₁) s.gives })
      go (Changed m) e =
          let s = walked_made f room r₁ w w₁ _ m d e in
          let c = walks.children_change (again nest) x no_quote properly (spent_of w) (spent_of w₁) (tree_at f r₁ m) s.gives in
          say_changed f room r₁ w w₁ _ _ m e (record { grown = s.grown; ready = s.ready; gives = c.0; differs = c.1 })
      go (Stopped n) e =
          let s = walked_stopped f room r₁ w w₁ _ n d e in
          say_stopped f room r₁ w w₁ _ _ n s.after e (walks.children_stop (again nest) x no_quote properly (spent_of w) s.after n s.stops)

  -- ---- the choice by number

  pub choice_4 : (r₁ : List ℕ) (w₁ : Work) (rule : ℕ) → Did f room r₁ w (tree_at f room n) (var_change_optimizer_cons_eval (again nest) (tree_at f room n) (spent_of w)) w₁ → rule ≡ 4
      → Did f room r₁ w (tree_at f room n) (optimizer (again nest) rule (tree_at f room n) (spent_of w)) w₁
  unfolding optimizer optimizers
  choice_4 r₁ w₁ rule d e = rw e d

  pub choice_5 : (r₁ : List ℕ) (w₁ : Work) (rule : ℕ) → Did f room r₁ w (tree_at f room n) (children_optimizer (again nest) (tree_at f room n) (spent_of w)) w₁ → rule ≡ 5
      → Did f room r₁ w (tree_at f room n) (optimizer (again nest) rule (tree_at f room n) (spent_of w)) w₁
  unfolding optimizer optimizers
  choice_5 r₁ w₁ rule d e = rw e d

  pub choice_other : (r₁ : List ℕ) (w₁ : Work) (rule : ℕ) → Did f room r₁ w (tree_at f room n) (optimizer give rule (tree_at f room n) (spent_of w)) w₁ → 0 < rule → rule ≤ 8 → (rule ≡ 4 → ⊥) → (rule ≡ 5 → ⊥)
      → Did f room r₁ w (tree_at f room n) (optimizer (again nest) rule (tree_at f room n) (spent_of w)) w₁
  choice_other r₁ w₁ rule d l m a b = renamed f room r₁ w w₁ x _ _ d (any_driver give (again nest) rule x (spent_of w) (other_rule rule l m a b))
