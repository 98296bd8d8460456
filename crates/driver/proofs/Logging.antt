-- What is noted in the driver's cycle: each return, and what is left to note at each loop's head. Assumes nothing.
use Rattle.std.specs.Prelude.{Option as Perhaps, Some, None}
use mathlib.Core.Path.{◌≡◌, refl, sym, ◌∙◌, ap, subst}
use mathlib.Core.List.{List, [], ◌++◌, append-nil}
use mathlib.Core.Bool.{Bool, true, false, not}
use Prim.Native.Nat.{ℕ, zero, suc, ◌+◌, ◌-◌, ◌<◌, ◌≤◌}
use lib.ListN.{length}
use native.Mathlib.Omega.{arith}
use Rattle.refusals.specs.declared.Refusal.{Refusal}
use Rattle.meaning.specs.Tree.{Tree, atom, pair, is_quote}
use Rattle.meaning.specs.Limits.{height_at}
use Rattle.meaning.specs.Meter.{done, stop, Spent, Log, one_pass}
use Rattle.meaning.specs.Operator.{is_pair}
use Rattle.meaning.specs.Constant.{seems_constant}
use Rattle.meaning.specs.Substitute.{is_proper}
use Rattle.meaning.specs.Driver.{optimizers, pass, optimize_sexp, ends}
use Rattle.meaning.proofs.Tests.{on_bool, not_true, not_false}
use Rattle.meaning.proofs.LogSteps as log
use Rattle.meaning.proofs.LogSteps.{ends_over, settle_ends, rule_ends, pass_ends, turn_ends, turn_alone}
use Rattle.meaning.proofs.OperandsOutcomes.{works_atom, too_deep}
use Rattle.store.specs.declared.Cell.{Cell}
use Rattle.store.specs.declared.Cell.TheVariants.{Pair, Atom}
use Rattle.store.specs.Cells.{cell_at, bytes_at}
use Rattle.store.specs.Nodes.{tree_at}
use Rattle.store.specs.Makers.{Answered}
use Rattle.store.proofs.Ready.{ready_right, look_pair, look_atom, grown_tree}
use Rattle.patterns.specs.declared.Patterns.{Patterns}
use Rattle.run_state.specs.declared.Outcome.{Outcome}
use Rattle.run_state.specs.declared.Outcome.TheVariants.{Same, Changed, Stopped}
use Rattle.run_state.specs.declared.Work.{Work}
use Rattle.run_state.specs.declared.State.{State}
use Rattle.run_state.specs.declared.Notes.{Notes}
use Rattle.run_state.specs.declared.Notes.TheVariants.{Nothing, Counts}
use Rattle.run_state.specs.Work.{spent_of, Did}
use Rattle.run_state.specs.State.{Sounds, Valid, Still, UnlessStopped}
use Rattle.run_state.specs.Notes.{count_records, noted, Noted, as_counted, counts_of}
use Rattle.run_state.proofs.Entries.{few}
use Rattle.run_state.proofs.Does.{says_same, says_changed, says_stopped}
use Rattle.run_state.proofs.Noting.{Sofar, sofar_on, sofar_last, sofar_ends, noted_empty, noted_as, noted_end, noted_nothing, sounds_noted, counts_stored}
use Rattle.memo.specs.Policy.{unless_noted, is_stored, row_after}
use Rattle.memo.specs.Memo.{Looked, Stored}
use Rattle.memo.proofs.Storing.{has_room}
use Rattle.driver_parts.specs.declared.Element.{Element}
use Rattle.driver_parts.specs.Turns.{again, optimizer, one_turn, Fine, Started, EndsAt, PassesOut, Begins, Begun}
use Rattle.driver_parts.specs.Walk.{Became}
use Rattle.driver_parts.proofs.Settling.{not_yes, not_no}
use Rattle.driver_parts.proofs.Looping.{Looping}
use Rattle.driver_parts.proofs.Turning.{Turning}
use Rattle.driver_parts.proofs.Chunk.{Chunk}

-- ---- 5. children_optimizer

module _ (f : List ℕ) (nest : ℕ) (room : List ℕ) (w : Work) (n : ℕ) (notes : Notes) (row : List (List ℕ)) where
  abbrev x : Tree
  x = tree_at f room n

  pub quote_noted : (v : Bool) → v ≡ is_quote (tree_at f room n) → v ≡ true → Noted notes row row (rule_ends (height_at (nest + 1)) 5 (tree_at f room n) (spent_of w))
  quote_noted v ev pv = noted_empty notes row _ (log.quote_ends (height_at (nest + 1)) x (sym ev ∙ pv) (spent_of w))

  pub improper_noted : (v : Bool) → v ≡ is_proper (tree_at f room n) → not v ≡ true → Noted notes row row (rule_ends (height_at (nest + 1)) 5 (tree_at f room n) (spent_of w))
  improper_noted v ev pv = noted_empty notes row _ (log.improper_ends (height_at (nest + 1)) x (sym ev ∙ not_yes v pv) (spent_of w))

  pub walked_noted : (row₁ : List (List ℕ)) (u v : Bool) → Noted notes row row₁ (ends_over (height_at (nest + 1)) (tree_at f room n) (spent_of w))
      → u ≡ is_quote (tree_at f room n) → u ≡ false → v ≡ is_proper (tree_at f room n) → not v ≡ false → Noted notes row row₁ (rule_ends (height_at (nest + 1)) 5 (tree_at f room n) (spent_of w))
  walked_noted row₁ u v k eu pu ev pv = noted_as notes row row₁ _ _ k (log.list_ends (height_at (nest + 1)) x (sym eu ∙ pu) (sym ev ∙ not_no v pv) (spent_of w))

  -- ---- the choice by number

  pub choice_noted : (row₁ : List (List ℕ)) (rule k : ℕ) → Noted notes row row₁ (rule_ends (height_at (nest + 1)) k (tree_at f room n) (spent_of w)) → rule ≡ k → Noted notes row row₁ (rule_ends (height_at (nest + 1)) rule (tree_at f room n) (spent_of w))
  choice_noted row₁ rule k h e = rw e h

  pub simple_noted : (rule : ℕ) → 0 < rule → (rule ≡ 4 → ⊥) → (rule ≡ 5 → ⊥) → Noted notes row row (rule_ends (height_at (nest + 1)) rule (tree_at f room n) (spent_of w))
  simple_noted rule l a b = noted_empty notes row _ (log.simple_ends (height_at (nest + 1)) rule l a b x (spent_of w))

-- ---- settle

module _ (f : List ℕ) (p : Patterns) (room : List ℕ) (w : Work) (r new : ℕ) (hn : Fine f room w p new)
    (r₁ : List ℕ) (b : Bool) (a : Answered f room r₁ w.ch b (seems_constant (tree_at f room new))) (nest : ℕ) (low : Bool) (notes : Notes) (row : List (List ℕ)) where
  abbrev d : ℕ
  d = height_at (nest + 1)

  abbrev y : Tree
  y = tree_at f room new

  stands : tree_at f r₁ new ≡ y
  stands = grown_tree a.grown hn.ready

  pub constant_noted : b ≡ true → (row₁ : List (List ℕ)) → Noted notes row row₁ (ends (height_at (nest + 1)) (tree_at f r₁ new) (spent_of w))
      → Noted notes row row₁ (settle_ends (height_at (nest + 1)) (tree_at f room r) (tree_at f room new) low (spent_of w))
  constant_noted e row₁ k = noted_as notes row row₁ _ _ k (log.settle_constant_ends d (tree_at f room r) y low (sym a.answer ∙ e) (spent_of w) ∙ ap (λ (t : Tree). ends d t (spent_of w)) (sym stands))

  module _ (e : b ≡ false) (v : Bool) (ev : v ≡ is_proper (tree_at f r₁ new)) where
    properly : is_proper y ≡ v
    properly = ap is_proper (sym stands) ∙ sym ev

    pub dropped_noted : not v ≡ true → Noted notes row row (settle_ends (height_at (nest + 1)) (tree_at f room r) (tree_at f room new) low (spent_of w))
    dropped_noted pv = noted_empty notes row _ (log.settle_improper_ends d (tree_at f room r) y low (sym a.answer ∙ e) (properly ∙ not_yes v pv) (spent_of w))

    pub listed_noted : not v ≡ false → (row₁ : List (List ℕ)) → Noted notes row row₁ (ends_over (height_at (nest + 1)) (tree_at f r₁ new) (spent_of w))
        → Noted notes row row₁ (settle_ends (height_at (nest + 1)) (tree_at f room r) (tree_at f room new) low (spent_of w))
    listed_noted pv row₁ k =
        noted_as notes row row₁ _ _ k
        (log.settle_list_ends d (tree_at f room r) y low (sym a.answer ∙ e) (properly ∙ not_no v pv) (spent_of w) ∙ ap (λ (t : Tree). ends_over d t (spent_of w)) (sym stands))

-- ---- operands

-- one element's log, and the rest's
over_done : (d : ℕ) (h t u : Tree) (s x : Spent) → optimize_sexp d h s ≡ done u x → ends_over d (pair h t) s ≡ ends d h s ++ ends_over d t x
unfolding ends_over
over_done d h t u s x e = rw (e, ends_over)

over_stop : (d : ℕ) (h t : Tree) (s x : Spent) (n : Refusal) → optimize_sexp d h s ≡ stop n x → ends_over d (pair h t) s ≡ ends d h s
unfolding ends_over
over_stop d h t s x n e = rw (e, ends_over) (append-nil (ends d h s))

-- a list's atom at the end
over_end : (d : ℕ) (b : List ℕ) (s : Spent) → ends_over d (atom b) s ≡ []
unfolding ends_over
over_end d b s = refl

module _ (f : List ℕ) (p : Patterns) (nest list : ℕ) (count flag : Bool) (room₀ : List ℕ) (w₀ : Work) (room : List ℕ) (w : Work) (q : ℕ) (seen : Bool) (got : List ℕ) (k : ℕ)
    (i : Chunk f p nest list count flag room₀ w₀ room w q seen got k) (notes : Notes) (row₀ row : List (List ℕ))
    (j : Sofar notes row₀ row (ends_over (height_at (nest + 1)) (tree_at f room₀ list) (spent_of w₀)) (ends_over (height_at (nest + 1)) (tree_at f room q) (spent_of w))) where
  abbrev down : ℕ
  down = height_at (nest + 1)

  abbrev whole : Log
  whole = ends_over (height_at (nest + 1)) (tree_at f room₀ list) (spent_of w₀)

  pub end_noted : (a : Cell) → a ≡ cell_at room q → a ≡ Atom → Noted notes row₀ row (ends_over (height_at (nest + 1)) (tree_at f room₀ list) (spent_of w₀))
  end_noted a ea pa = sofar_ends j (ap (λ (t : Tree). ends_over down t (spent_of w)) (look_atom f room q a ea pa) ∙ over_end down (bytes_at f room q) (spent_of w))

  pub more_noted : (row₁ : List (List ℕ)) → Noted notes row row₁ (ends_over (height_at (nest + 1)) (tree_at f room q) (spent_of w)) → Noted notes row₀ row₁ (ends_over (height_at (nest + 1)) (tree_at f room₀ list) (spent_of w₀))
  more_noted row₁ h = sofar_last row₁ _ j h refl

  module _ (a : Cell) (ea : a ≡ cell_at room q) (h t : ℕ) (pa : a ≡ Pair h t) where
    split : (l : Log) → ends_over down (pair (tree_at f room h) (tree_at f room t)) (spent_of w) ≡ l → ends_over down (tree_at f room q) (spent_of w) ≡ l
    split l e = ap (λ (z : Tree). ends_over down z (spent_of w)) (look_pair f room w.ch q h t a pa ea) ∙ e

    module _ (b : Cell) (eb : b ≡ cell_at room h) (pb : b ≡ Atom) where
      leaf : tree_at f room h ≡ atom (bytes_at f room h)
      leaf = look_atom f room h b eb pb

      pub deep_noted : 64 ≤ nest → Noted notes row₀ row (ends_over (height_at (nest + 1)) (tree_at f room₀ list) (spent_of w₀))
      deep_noted l =
          let z : down ≡ 0 = omega arith in
          sofar_ends j
          (split _ (over_stop down _ _ (spent_of w) (spent_of w) _ (ap (λ (n : ℕ). optimize_sexp n (tree_at f room h) (spent_of w)) z ∙ too_deep (tree_at f room h) (spent_of w)))
          ∙ ap (λ (n : ℕ). ends n (tree_at f room h) (spent_of w)) z
          ∙ log.deep_ends zero (tree_at f room h) (spent_of w))

      quiet : nest < 64 → ends down (tree_at f room h) (spent_of w) ≡ []
      quiet l =
          let z : down ≡ suc (63 - nest) = omega arith in
          ap (λ (n : ℕ). ends n (tree_at f room h) (spent_of w)) z ∙ ap (λ (t : Tree). ends (suc (63 - nest)) t (spent_of w)) leaf ∙ log.atom_ends (63 - nest) (bytes_at f room h) (spent_of w)

      stays_atom : nest < 64 → optimize_sexp down (tree_at f room h) (spent_of w) ≡ done (tree_at f room h) (spent_of w)
      stays_atom l =
          let z : down ≡ suc (63 - nest) = omega arith in
          ap (λ (n : ℕ). optimize_sexp n (tree_at f room h) (spent_of w)) z ∙ rw leaf (works_atom (63 - nest) (bytes_at f room h) (spent_of w))

      pub atom_noted : nest < 64 → Sofar notes row₀ row (ends_over (height_at (nest + 1)) (tree_at f room₀ list) (spent_of w₀)) (ends_over (height_at (nest + 1)) (tree_at f room t) (spent_of w))
      atom_noted l =
          sofar_on row [] _ j (noted_empty notes row [] refl)
          (split _ (over_done down _ _ (tree_at f room h) (spent_of w) (spent_of w) (stays_atom l)) ∙ ap (λ (x : Log). x ++ ends_over down (tree_at f room t) (spent_of w)) (quiet l))

    module _ (r₁ : List ℕ) (w₁ : Work) (d : Did f room r₁ w (tree_at f room h) (optimize_sexp (height_at (nest + 1)) (tree_at f room h) (spent_of w)) w₁)
        (row₁ : List (List ℕ)) (k₁ : Noted notes row row₁ (ends (height_at (nest + 1)) (tree_at f room h) (spent_of w))) where
      stopped : (n : Refusal) → w₁.last ≡ Stopped n → Noted notes row₀ row₁ whole
      stopped n e = let u = says_stopped f room r₁ w w₁ _ _ d n e in sofar_last row₁ _ j k₁ (split _ (over_stop down _ _ (spent_of w) u.after n u.stops))

      went_on : (u : Tree) → optimize_sexp down (tree_at f room h) (spent_of w) ≡ done u (spent_of w₁) → tree_at f r₁ t ≡ tree_at f room t → Sofar notes row₀ row₁ whole (ends_over down (tree_at f r₁ t) (spent_of w₁))
      went_on u e g = rw g (sofar_on row₁ _ _ j k₁ (split _ (over_done down _ _ u (spent_of w) (spent_of w₁) e)))

      module _ (z : Perhaps Element) (y : Became f r₁ h count seen z w₁.last) where
        pub refused_noted : z ≡ None → Noted notes row₀ row₁ (ends_over (height_at (nest + 1)) (tree_at f room₀ list) (spent_of w₀))
        unfolding Became
        refused_noted e = go w₁.last refl (subst (λ (v : Perhaps Element). Became f r₁ h count seen v w₁.last) e y)
          where
            go : (o : Outcome) → w₁.last ≡ o → Became f r₁ h count seen None o → Noted notes row₀ row₁ whole
            go Same m v = absurd v
            go (Changed n) m v = absurd v
            go (Stopped n) m v = stopped n m

        pub put_noted : (m : Element) → z ≡ Some m → Sofar notes row₀ row₁ (ends_over (height_at (nest + 1)) (tree_at f room₀ list) (spent_of w₀)) (ends_over (height_at (nest + 1)) (tree_at f r₁ t) (spent_of w₁))
        unfolding Became
        put_noted m e = go w₁.last refl (subst (λ (v : Perhaps Element). Became f r₁ h count seen v w₁.last) e y)
          where
            go : (o : Outcome) → w₁.last ≡ o → Became f r₁ h count seen (Some m) o → Sofar notes row₀ row₁ whole (ends_over down (tree_at f r₁ t) (spent_of w₁))
            go Same l v = let u = says_same f room r₁ w w₁ _ _ d l in went_on _ u.gives (grown_tree u.grown (ready_right f room w.ch q h t a pa ea i.fine.ready))
            go (Changed n) l v = let u = says_changed f room r₁ w w₁ _ _ d n l in went_on _ u.gives (grown_tree u.grown (ready_right f room w.ch q h t a pa ea i.fine.ready))
            go (Stopped n) l v = absurd v

-- ---- turn

turn_of_atom : (d : ℕ) (t : Tree) (s : Spent) → is_pair t ≡ false → turn_ends d t s ≡ []
unfolding is_pair
turn_of_atom d (atom b) s h = log.turn_atom d b s
turn_of_atom d (pair l r) s h = not_true h

turn_of_none : (d : ℕ) (t : Tree) (s x : Spent) (n : Refusal) → is_pair t ≡ true → one_pass s ≡ stop n x → turn_ends d t s ≡ []
unfolding is_pair
turn_of_none d (atom b) s x n h e = not_false h
turn_of_none d (pair l r) s x n h e = log.turn_out d l r s x n e

turn_of_pair : (d : ℕ) (t : Tree) (s x : Spent) → is_pair t ≡ true → one_pass s ≡ done tt x → turn_ends d t s ≡ pass_ends d 1 t x
unfolding is_pair
turn_of_pair d (atom b) s x h e = not_false h
turn_of_pair d (pair l r) s x h e = log.turn_begins d l r s x e

module _ (f s : List ℕ) (w b : Work) (n nest : ℕ) (d : Begun f s w n b) (notes : Notes) where
  pub leaf_noted : (m : ℕ) (row : List (List ℕ)) → b.last ≡ Changed m → Noted notes row row (turn_ends (height_at (nest + 1)) (tree_at f s n) (spent_of w))
  unfolding Begun Begins
  leaf_noted m row e = let a : EndsAt f s w b n m = subst (Begins f s w b n) e d in noted_empty notes row _ (turn_of_atom (height_at (nest + 1)) (tree_at f s n) (spent_of w) a.atoms)

  pub out_noted : (u : Refusal) (row : List (List ℕ)) → b.last ≡ Stopped u → Noted notes row row (turn_ends (height_at (nest + 1)) (tree_at f s n) (spent_of w))
  unfolding Begun Begins
  out_noted u row e =
      let a : PassesOut f s w n u = subst (Begins f s w b n) e d in
      noted_empty notes row _ (turn_of_none (height_at (nest + 1)) (tree_at f s n) (spent_of w) (spent_of w) u a.pairs a.refusal)

  -- what the pass added, the turn added
  pub whole_noted : b.last ≡ Same → (row row₁ : List (List ℕ)) → Noted notes row row₁ (pass_ends (height_at (nest + 1)) 1 (tree_at f s n) (spent_of b))
      → Noted notes row row₁ (turn_ends (height_at (nest + 1)) (tree_at f s n) (spent_of w))
  unfolding Begun Begins
  whole_noted e row row₁ k =
      let a : Started f s w b n = subst (Begins f s w b n) e d in
      noted_as notes row row₁ _ _ k (turn_of_pair (height_at (nest + 1)) (tree_at f s n) (spent_of w) (spent_of b) a.pairs a.pays)

module _ (f : List ℕ) (p : Patterns) (nest : ℕ) (room₀ : List ℕ) (w₀ : Work) (n : ℕ) (room : List ℕ) (w : Work) (rule : ℕ) (i : Turning f p nest room₀ w₀ n room w rule)
    (notes : Notes) (row₀ row : List (List ℕ))
    (j : Sofar notes row₀ row (pass_ends (height_at (nest + 1)) 1 (tree_at f room₀ n) (spent_of w₀)) (pass_ends (height_at (nest + 1)) rule (tree_at f room₀ n) (spent_of w))) where
  abbrev deep : ℕ
  deep = height_at (nest + 1)

  abbrev at : Tree
  at = tree_at f room₀ n

  pub last_noted : 9 ≤ rule → Noted notes row₀ row (pass_ends (height_at (nest + 1)) 1 (tree_at f room₀ n) (spent_of w₀))
  last_noted l = let z : rule ≡ 9 = omega (arith, i.most) in sofar_ends j (ap (λ (k : ℕ). pass_ends deep k at (spent_of w)) z ∙ log.last_ends deep at (spent_of w))

  module _ (r₁ : List ℕ) (w₁ : Work) (d : Did f room r₁ w (tree_at f room n) (optimizer (again nest) rule (tree_at f room n) (spent_of w)) w₁) (l : rule < 9)
      (row₁ : List (List ℕ)) (k : Noted notes row row₁ (rule_ends (height_at (nest + 1)) rule (tree_at f room n) (spent_of w))) where
    stays : tree_at f room n ≡ at
    stays = grown_tree i.grown i.start.ready

    did : Did f room r₁ w at (optimizer (again nest) rule at (spent_of w)) w₁
    did = subst (λ (t : Tree). Did f room r₁ w t (optimizer (again nest) rule t (spent_of w)) w₁) stays d

    here : Noted notes row row₁ (rule_ends deep rule at (spent_of w))
    here = subst (λ (t : Tree). Noted notes row row₁ (rule_ends deep rule t (spent_of w))) stays k

    pub stop_noted : (u : Refusal) → w₁.last ≡ Stopped u → Noted notes row₀ row₁ (pass_ends (height_at (nest + 1)) 1 (tree_at f room₀ n) (spent_of w₀))
    unfolding optimizer
    stop_noted u e =
        let z = says_stopped f room r₁ w w₁ _ _ did u e in
        sofar_last row₁ _ j here (log.stopped_ends deep rule i.least (omega arith) at (spent_of w) u z.after z.stops)

    pub next_noted : w₁.last ≡ Same → Sofar notes row₀ row₁ (pass_ends (height_at (nest + 1)) 1 (tree_at f room₀ n) (spent_of w₀)) (pass_ends (height_at (nest + 1)) (rule + 1) (tree_at f room₀ n) (spent_of w₁))
    unfolding optimizer
    next_noted e =
        let z = says_same f room r₁ w w₁ _ _ did e in
        sofar_on row₁ _ _ j here (log.same_ends deep rule i.least (omega arith) at (spent_of w) (spent_of w₁) z.gives)

    pub changed_noted : (m : ℕ) → w₁.last ≡ Changed m → (row₂ : List (List ℕ)) → row₂ ≡ noted notes row₁ rule → Noted notes row₀ row₂ (pass_ends (height_at (nest + 1)) 1 (tree_at f room₀ n) (spent_of w₀))
    unfolding optimizer
    changed_noted m e row₂ en =
        let z = says_changed f room r₁ w w₁ _ _ did m e in
        let y = noted_end notes row row₁ row₂ _ _ rule (tree_at f r₁ m) here en refl in
        sofar_last row₂ _ j y (log.changed_ends deep rule i.least (omega arith) at (spent_of w) (tree_at f r₁ m) (spent_of w₁) z.gives z.differs)

-- a rule's end can be noted
pub note_asks : (f : List ℕ) (p : Patterns) (nest : ℕ) (room₀ : List ℕ) (w₀ : Work) (n : ℕ) (room : List ℕ) (w : Work) (rule : ℕ) → Turning f p nest room₀ w₀ n room w rule
    → (m : Bool) (used : ℕ) (row : List (List ℕ)) → Sounds f room w.ch m used row → (long : ℕ) → long ≡ length row → rule < 9
    → (count_records ≤ long) × (0 < rule) × (rule ≤ count_records)
note_asks f p nest room₀ w₀ n room w rule i m used row v long e l = (omega (arith, few v, e), i.least, omega arith)

-- the memo after a rule's end was noted
pub still_noted : (f s : List ℕ) (row row₁ : List (List ℕ)) (st : State) (notes : Notes) (k : ℕ) → row₁ ≡ noted notes row k → Still f s row st → Still f s row₁ st
unfolding Still UnlessStopped
still_noted f s row row₁ st notes k e v = rw e (go st.w.last v)
  where
    go : (o : Outcome) → UnlessStopped o (Valid f s row st) → UnlessStopped o (Valid f s (noted notes row k) st)
    go Same h = sounds_noted notes k h
    go (Changed m) h = sounds_noted notes k h
    go (Stopped r) h = tt

-- ---- drive

pub too_deep_noted : (f : List ℕ) (nest : ℕ) (room : List ℕ) (w : Work) (n : ℕ) (notes : Notes) (row : List (List ℕ)) → 65 ≤ nest → Noted notes row row (ends (height_at nest) (tree_at f room n) (spent_of w))
too_deep_noted f nest room w n notes row l =
    let z : height_at nest ≡ 0 = omega arith in
    noted_empty notes row _ (ap (λ (k : ℕ). ends k (tree_at f room n) (spent_of w)) z ∙ log.deep_ends zero (tree_at f room n) (spent_of w))

-- a hit: nothing is noted
pub hit_noted : (f s : List ℕ) (row : List (List ℕ)) (w : Work) (used n nest : ℕ) (notes : Notes) (a : Perhaps Work) (l : Log) → Looked f s row w used n nest notes a → (d : Work) → a ≡ Some d → Noted notes row row l
unfolding unless_noted
hit_noted f s row w used n nest Nothing a l k d e = noted_nothing row l
hit_noted f s row w used n nest Counts a l k d e = let z : Some d ≡ None = sym e ∙ k.says in let y : ◌≡◌ {A = ℕ} 0 1 = cc in absurd (omega arith)

-- storing leaves what is noted
stored_counts : (f s : List ℕ) (row row₁ : List (List ℕ)) (st : State) (b : Work) (n r nest : ℕ) → row₁ ≡ row_after f s row st b n r nest → counts_of row₁ ≡ counts_of row
unfolding row_after
stored_counts f s row row₁ st b n r nest e =
    ap counts_of e ∙ on_bool (is_stored row st b) (λ y. rw y (counts_stored row st.used _ (has_room row st b y))) (λ y. rw y)

pub stored_noted : (f s : List ℕ) (row row₁ row₂ : List (List ℕ)) (st : State) (b : Work) (n r nest : ℕ) (q : State) (notes : Notes) (l : Log) → Noted notes row row₁ l → Stored f s row₁ row₂ st b n r nest q → Noted notes row row₂ l
stored_noted f s row row₁ row₂ st b n r nest q notes l (as_counted h) k = as_counted (stored_counts f s row₁ row₂ st b n r nest k.filled ∙ h)

one_less : (nest : ℕ) (t : Tree) (s : Spent) → nest < 65 → ends (height_at nest) t s ≡ ends (suc (height_at (nest + 1))) t s
one_less nest t s l = let e : height_at nest ≡ suc (height_at (nest + 1)) = omega arith in ap (λ (d : ℕ). ends d t s) e

turn_is : (nest : ℕ) (t : Tree) (s : Spent) → one_turn (again nest) t s ≡ turn_alone (height_at (nest + 1)) t s
unfolding one_turn turn_alone pass optimizers
turn_is nest (atom b) s = refl
turn_is nest (pair l r) s = refl

module _ (f : List ℕ) (p : Patterns) (nest : ℕ) (room₀ : List ℕ) (w₀ : Work) (n : ℕ) (room : List ℕ) (w : Work) (r : ℕ) (moved : Bool) (i : Looping f p nest room₀ w₀ n room w r moved)
    (notes : Notes) (row₀ row : List (List ℕ)) (j : Sofar notes row₀ row (ends (height_at nest) (tree_at f room₀ n) (spent_of w₀)) (ends (height_at nest) (tree_at f room r) (spent_of w)))
    (r₁ : List ℕ) (w₁ : Work) (d : Did f room r₁ w (tree_at f room r) (one_turn (again nest) (tree_at f room r) (spent_of w)) w₁)
    (row₁ : List (List ℕ)) (k : Noted notes row row₁ (turn_ends (height_at (nest + 1)) (tree_at f room r) (spent_of w))) where
  abbrev here_tree : Tree
  here_tree = tree_at f room r

  abbrev below : ℕ
  below = height_at (nest + 1)

  pub loop_stop_noted : (u : Refusal) → w₁.last ≡ Stopped u → Noted notes row₀ row₁ (ends (height_at nest) (tree_at f room₀ n) (spent_of w₀))
  loop_stop_noted u e =
      let z = says_stopped f room r₁ w w₁ _ _ d u e in
      sofar_last row₁ _ j k (one_less nest here_tree (spent_of w) i.nests ∙ log.call_stops below here_tree (spent_of w) z.after u (sym (turn_is nest here_tree (spent_of w)) ∙ z.stops))

  pub loop_changed_noted : (m : ℕ) → w₁.last ≡ Changed m → Sofar notes row₀ row₁ (ends (height_at nest) (tree_at f room₀ n) (spent_of w₀)) (ends (height_at nest) (tree_at f r₁ m) (spent_of w₁))
  loop_changed_noted m e =
      let z = says_changed f room r₁ w w₁ _ _ d m e in
      sofar_on row₁ _ _ j k
      (one_less nest here_tree (spent_of w) i.nests
      ∙ log.call_changed below here_tree (tree_at f r₁ m) (spent_of w) (spent_of w₁) (sym (turn_is nest here_tree (spent_of w)) ∙ z.gives) z.differs
      ∙ ap (turn_ends below here_tree (spent_of w) ++◌) (sym (one_less nest (tree_at f r₁ m) (spent_of w₁) i.nests)))

  loop_end_noted : w₁.last ≡ Same → Noted notes row₀ row₁ (ends (height_at nest) (tree_at f room₀ n) (spent_of w₀))
  loop_end_noted e =
      let z = says_same f room r₁ w w₁ _ _ d e in
      sofar_last row₁ _ j k (one_less nest here_tree (spent_of w) i.nests ∙ log.call_same below here_tree (spent_of w) (spent_of w₁) (sym (turn_is nest here_tree (spent_of w)) ∙ z.gives))

  pub loop_stored_noted : w₁.last ≡ Same → (row₂ : List (List ℕ)) (st : State) (b : Work) (q : State) → Stored f r₁ row₁ row₂ st b n r nest q → Noted notes row₀ row₂ (ends (height_at nest) (tree_at f room₀ n) (spent_of w₀))
  loop_stored_noted e row₂ st b q z = stored_noted f r₁ row₀ row₁ row₂ st b n r nest q notes _ (loop_end_noted e) z
