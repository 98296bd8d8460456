-- settle: each return and each call. Assumes nothing.
use mathlib.Core.Path.{◌≡◌, refl, sym, ◌∙◌, ap}
use mathlib.Core.List.{List}
use mathlib.Core.Bool.{Bool, true, false, not}
use mathlib.Core.Option.{Option}
use Prim.Native.Nat.{ℕ, ◌+◌, ◌-◌, ◌*◌, ◌<◌}
use Rattle.refusals.specs.declared.Refusal.{Refusal}
use Rattle.meaning.specs.Tree.{Tree}
use Rattle.meaning.specs.Limits.{height_at}
use Rattle.meaning.specs.Meter.{Out, Spent, ◌>>=◌}
use Rattle.meaning.specs.Constant.{seems_constant}
use Rattle.meaning.specs.Substitute.{is_proper}
use Rattle.meaning.specs.Rules.{settle}
use Rattle.meaning.specs.Driver.{optimize_sexp}
use Rattle.meaning.proofs.Tests.{not_true, not_false}
use Rattle.meaning.proofs.MeterLaws.{bind_at}
use Rattle.meaning.proofs.BindLaws.{bind_stop}
use Rattle.meaning.proofs.OperandsOutcomes as walks
use Rattle.store.specs.Cells.{Room}
use Rattle.store.specs.Nodes.{tree_at}
use Rattle.store.specs.Store.{Ready}
use Rattle.store.specs.Makers.{Grown, Answered}
use Rattle.store.proofs.Ready as ready
use Rattle.store.proofs.Ready.{grown_both, grown_ready, grown_tree}
use Rattle.patterns.specs.declared.Patterns.{Patterns}
use Rattle.run_state.specs.declared.Outcome.{Outcome}
use Rattle.run_state.specs.declared.Outcome.TheVariants.{Same, Changed, Stopped}
use Rattle.run_state.specs.declared.Work.{Work}
use Rattle.run_state.specs.Work.{spent_of, with_last, SameAs, ChangedTo, Did}
use Rattle.run_state.proofs.Does.{did_same, says_same, says_changed, says_stopped}
use Rattle.driver_parts.specs.Turns.{again, Fine, kept, Keepable, KeptBody, Listable, KeptList}
use Rattle.driver_parts.specs.Walk.{walk, MadeAt, Walked}
use Rattle.driver_parts.proofs.Kept.{fine_same, fine_down}
use Rattle.driver_parts.proofs.Saying.{say_same, say_stopped, renamed, goes_on, walked_none, walked_made, walked_stopped}

pub not_yes : (b : Bool) → not b ≡ true → b ≡ false
not_yes true h = not_false h
not_yes false h = refl

pub not_no : (b : Bool) → not b ≡ false → b ≡ true
not_no true h = refl
not_no false h = not_true h

module _ (f : List ℕ) (p : Patterns) (room : List ℕ) (w : Work) (r new : ℕ) (h : Fine f room w p r) (hn : Fine f room w p new)
    (r₁ : List ℕ) (b : Bool) (a : Answered f room r₁ w.ch b (seems_constant (tree_at f room new))) where
  abbrev x : Tree
  x = tree_at f room r

  abbrev y : Tree
  y = tree_at f room new

  abbrev def : ℕ → Bool → Out Spent Tree
  def nest low = settle (again nest) x y low (spent_of w)

  new_tree : tree_at f r₁ new ≡ y
  new_tree = grown_tree a.grown hn.ready

  pub settle_fine : Fine f r₁ w p new
  settle_fine = fine_same f room r₁ w w p new hn a.grown hn.passes

  pub settle_down : (nest t : ℕ) → (66 - nest) * 70_000 + 65_541 ≡ t → (66 - nest) * 70_000 + new < t
  settle_down nest t e = fine_down f r₁ w p new nest t settle_fine e

  pub settle_room : Room r₁ new
  settle_room = ready.room f r₁ w.ch new (grown_ready a.grown hn.ready)

  -- the body z, which now stands for t, is kept
  keeps : (nest : ℕ) (low : Bool) (r₂ r₃ : List ℕ) (w₂ w₃ : Work) (z : ℕ) (t : Tree) → Grown f r₁ r₂ w.ch w₂.ch → tree_at f r₂ z ≡ t → def nest low ≡ kept low t (spent_of w₂)
      → Did f r₂ r₃ w₂ (tree_at f r₂ r) (kept low (tree_at f r₂ z) (spent_of w₂)) w₃ → Did f room r₃ w x (def nest low) w₃
  keeps nest low r₂ r₃ w₂ w₃ z t g ez e d =
      let g₂ : Grown f room r₂ w.ch w₂.ch = grown_both a.grown g in
      let d₂ : Did f r₂ r₃ w₂ x (kept low t (spent_of w₂)) w₃ = rw (grown_tree g₂ h.ready, ez) at d in
      renamed f room r₃ w w₃ x (kept low t (spent_of w₂)) (def nest low) (goes_on f room r₂ r₃ w w₂ w₃ x (kept low t (spent_of w₂)) g₂ d₂) (sym e)

  -- ---- a body that seems constant is worked

  module _ (nest : ℕ) (eb : b ≡ true) (r₂ : List ℕ) (w₂ : Work) (d : Did f r₁ r₂ w (tree_at f r₁ new) (optimize_sexp (height_at (nest + 1)) (tree_at f r₁ new) (spent_of w)) w₂) where
    by_work : (low : Bool) → def nest low ≡ (again nest y >>= kept low) (spent_of w)
    unfolding kept
    by_work low = walks.settle_constant (again nest) x y low (sym a.answer ∙ eb) (spent_of w)

    here : (o : Out Spent Tree) → optimize_sexp (height_at (nest + 1)) (tree_at f r₁ new) (spent_of w) ≡ o → again nest y (spent_of w) ≡ o
    here o e = ap (λ (t : Tree). again nest t (spent_of w)) (sym new_tree) ∙ e

    constant_stop : (low : Bool) (u : Refusal) → w₂.last ≡ Stopped u → Did f room r₂ w (tree_at f room r) (settle (again nest) (tree_at f room r) (tree_at f room new) low (spent_of w)) w₂
    constant_stop low u e =
        let s = says_stopped f r₁ r₂ w w₂ _ _ d u e in
        say_stopped f room r₂ w w₂ _ _ u s.after e (by_work low ∙ bind_stop (again nest y) (kept low) (spent_of w) s.after u (here _ s.stops))

    kept_input : Grown f r₁ r₂ w.ch w₂.ch → Ready f r₂ w₂.ch r
    kept_input g = grown_ready g (grown_ready a.grown h.ready)

    module _ (e : w₂.last ≡ Same) where
      abbrev stay : SameAs f r₁ r₂ w w₂ (tree_at f r₁ new) (optimize_sexp (height_at (nest + 1)) (tree_at f r₁ new) (spent_of w))
      stay = says_same f r₁ r₂ w w₂ _ _ d e

      same_both : Ready f r₂ w₂.ch r × Ready f r₂ w₂.ch new
      same_both = (kept_input stay.grown, grown_ready stay.grown (grown_ready a.grown hn.ready))

      same_kept : (low : Bool) (r₃ : List ℕ) (w₃ : Work) → Did f r₂ r₃ w₂ (tree_at f r₂ r) (kept low (tree_at f r₂ new) (spent_of w₂)) w₃
          → Did f room r₃ w (tree_at f room r) (settle (again nest) (tree_at f room r) (tree_at f room new) low (spent_of w)) w₃
      same_kept low r₃ w₃ k =
          keeps nest low r₂ r₃ w₂ w₃ new (tree_at f r₁ new) stay.grown (grown_tree stay.grown (grown_ready a.grown hn.ready))
          (by_work low ∙ bind_at (again nest y) (kept low) (spent_of w) (spent_of w₂) (tree_at f r₁ new) (here _ stay.gives)) k

    module _ (m : ℕ) (e : w₂.last ≡ Changed m) where
      abbrev to : ChangedTo f r₁ r₂ w w₂ (tree_at f r₁ new) m (optimize_sexp (height_at (nest + 1)) (tree_at f r₁ new) (spent_of w))
      to = says_changed f r₁ r₂ w w₂ _ _ d m e

      changed_both : Ready f r₂ w₂.ch r × Ready f r₂ w₂.ch m
      changed_both = (kept_input to.grown, to.ready)

      changed_kept : (low : Bool) (r₃ : List ℕ) (w₃ : Work) → Did f r₂ r₃ w₂ (tree_at f r₂ r) (kept low (tree_at f r₂ m) (spent_of w₂)) w₃
          → Did f room r₃ w (tree_at f room r) (settle (again nest) (tree_at f room r) (tree_at f room new) low (spent_of w)) w₃
      changed_kept low r₃ w₃ k =
          keeps nest low r₂ r₃ w₂ w₃ m (tree_at f r₂ m) to.grown refl
          (by_work low ∙ bind_at (again nest y) (kept low) (spent_of w) (spent_of w₂) (tree_at f r₂ m) (here _ to.gives)) k

    pub constant_keepable : Keepable f r₂ w₂ r new w₂.last
    unfolding Keepable
    constant_keepable = go w₂.last refl
      where
        go : (o : Outcome) → w₂.last ≡ o → Keepable f r₂ w₂ r new o
        go Same i = same_both i
        go (Changed m) i = changed_both m i
        go (Stopped u) i = tt

    pub constant_kept : (low : Bool) (r₃ : List ℕ) (q : Work) → KeptBody f r₂ r₃ w₂ r new low q w₂.last → Did f room r₃ w (tree_at f room r) (settle (again nest) (tree_at f room r) (tree_at f room new) low (spent_of w)) q
    unfolding KeptBody
    constant_kept low r₃ q t = go w₂.last refl t
      where
        go : (o : Outcome) → w₂.last ≡ o → KeptBody f r₂ r₃ w₂ r new low q o → Did f room r₃ w (tree_at f room r) (settle (again nest) (tree_at f room r) (tree_at f room new) low (spent_of w)) q
        go Same i z = same_kept i low r₃ q z
        go (Changed m) i z = changed_kept m i low r₃ q z
        go (Stopped u) i z = rw (z.work, z.room) (constant_stop low u i)

  -- ---- else its list is walked, if it is a proper one

  module _ (nest : ℕ) (eb : b ≡ false) (v : Bool) (ev : v ≡ is_proper (tree_at f r₁ new)) where
    not_constant : seems_constant y ≡ false
    not_constant = sym a.answer ∙ eb

    properly : is_proper y ≡ v
    properly = ap is_proper (sym new_tree) ∙ sym ev

    pub improper : (low : Bool) (q : Work) → q ≡ with_last w Same → not v ≡ true → Did f room r₁ w (tree_at f room r) (settle (again nest) (tree_at f room r) (tree_at f room new) low (spent_of w)) q
    improper low q eq pv =
        did_same f room r₁ w q _ _ eq a.grown (walks.settle_improper (again nest) x y low not_constant (properly ∙ not_yes v pv) (spent_of w))

    module _ (pv : not v ≡ false) (r₂ : List ℕ) (w₂ : Work) (d : Walked f r₁ r₂ w (walk true (again nest) false (tree_at f r₁ new) (spent_of w)) w₂) where
      there : (o : Out Spent (Option Tree)) → walk true (again nest) false (tree_at f r₁ new) (spent_of w) ≡ o → walk true (again nest) false y (spent_of w) ≡ o
      there o e = ap (λ (t : Tree). walk true (again nest) false t (spent_of w)) (sym new_tree) ∙ e

      list_stop : (low : Bool) (u : Refusal) → w₂.last ≡ Stopped u → Did f room r₂ w (tree_at f room r) (settle (again nest) (tree_at f room r) (tree_at f room new) low (spent_of w)) w₂
      unfolding walk
      list_stop low u e =
          let s = walked_stopped f r₁ r₂ w w₂ _ u d e in
          say_stopped f room r₂ w w₂ _ _ u s.after e
          (walks.settle_stop (again nest) x y low not_constant (properly ∙ not_no v pv) (spent_of w) s.after u (there _ s.stops))

      list_same : (low : Bool) → w₂.last ≡ Same → Did f room r₂ w (tree_at f room r) (settle (again nest) (tree_at f room r) (tree_at f room new) low (spent_of w)) w₂
      unfolding walk
      list_same low e =
          let s = walked_none f r₁ r₂ w w₂ _ d e in
          say_same f room r₂ w w₂ _ _ e
          (record {
            grown = grown_both a.grown s.grown;
            gives = walks.settle_drop (again nest) x y low not_constant (properly ∙ not_no v pv) (spent_of w) (spent_of w₂) (there _ s.gives);
          })

      module _ (m : ℕ) (e : w₂.last ≡ Changed m) where
        abbrev made : MadeAt f r₁ r₂ w w₂ m (walk true (again nest) false (tree_at f r₁ new) (spent_of w))
        made = walked_made f r₁ r₂ w w₂ _ m d e

        list_both : Ready f r₂ w₂.ch r × Ready f r₂ w₂.ch m
        list_both = (grown_ready made.grown (grown_ready a.grown h.ready), made.ready)

        list_kept : (low : Bool) (r₃ : List ℕ) (w₃ : Work) → Did f r₂ r₃ w₂ (tree_at f r₂ r) (kept low (tree_at f r₂ m) (spent_of w₂)) w₃
            → Did f room r₃ w (tree_at f room r) (settle (again nest) (tree_at f room r) (tree_at f room new) low (spent_of w)) w₃
        unfolding walk kept
        list_kept low r₃ w₃ k =
            keeps nest low r₂ r₃ w₂ w₃ m (tree_at f r₂ m) made.grown refl
            (walks.settle_make (again nest) x y low not_constant (properly ∙ not_no v pv) (spent_of w) (spent_of w₂) (tree_at f r₂ m) (there _ made.gives)) k

      pub list_keepable : Listable f r₂ w₂ r w₂.last
      unfolding Listable
      list_keepable = go w₂.last refl
        where
          go : (o : Outcome) → w₂.last ≡ o → Listable f r₂ w₂ r o
          go Same i = tt
          go (Changed m) i = list_both m i
          go (Stopped u) i = tt

      pub list_settled : (low : Bool) (r₃ : List ℕ) (q : Work) → KeptList f r₂ r₃ w₂ r low q w₂.last → Did f room r₃ w (tree_at f room r) (settle (again nest) (tree_at f room r) (tree_at f room new) low (spent_of w)) q
      unfolding KeptList
      list_settled low r₃ q t = go w₂.last refl t
        where
          go : (o : Outcome) → w₂.last ≡ o → KeptList f r₂ r₃ w₂ r low q o → Did f room r₃ w (tree_at f room r) (settle (again nest) (tree_at f room r) (tree_at f room new) low (spent_of w)) q
          go Same i z = rw (z.work, z.room) (list_same low i)
          go (Changed m) i z = list_kept m i low r₃ q z
          go (Stopped u) i z = rw (z.work, z.room) (list_stop low u i)
