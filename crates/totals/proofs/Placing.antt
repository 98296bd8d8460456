-- place and add_form: each need. Assumes nothing.
use Rattle.std.specs.Prelude.{Result, Ok, Err, Option, Some, None}
use mathlib.Core.Path.{◌≡◌, refl, sym, ◌∙◌, ap}
use mathlib.Core.List.{List, [], ◌∷◌}
use mathlib.Core.Bool.{Bool, true, false, not}
use Prim.Native.Nat.{ℕ, ◌<◌, ◌≤◌}
use native.Mathlib.Omega.{arith}
use lib.Dec.{leb}
use lib.ListN.{length, replicate}
use borrow.Author.Tests.{le-leb, lt-leb, not-true, not-false}
use Rattle.refusals.specs.declared.Refusal.{Refusal}
use Rattle.refusals.specs.declared.Refusal.TheVariants.{RoomSmall, OutputShort}
use Rattle.refusals.specs.Numbers.{number_of}
use Rattle.meaning.specs.Limits.{room_least}
use Rattle.meaning.specs.Meter.{Log, count_of}
use Rattle.meaning.specs.Form.{write}
use Rattle.meaning.specs.Outcome.{Outcome, plain, answered, refused, deliver, deliver_tree, ended, in_room, zeroed, room_after}
use Rattle.meaning.specs.Run.{mark_number, worked, ends_in, deliver_run, run}
use Rattle.meaning.proofs.Tests.{on_bool, leb_yes}
use Rattle.meaning.proofs.Lent.{zeroed_same}
use Rattle.meaning.proofs.RunLaws.{run_zeros}
use Rattle.meaning.proofs.LogRun.{work_within, work_refused}
use Rattle.store.specs.Nodes.{tree_at}
use Rattle.form.specs.Writes.{Writable, extent}
use Rattle.run_state.specs.declared.Work.{Work}
use Rattle.run_state.specs.declared.Notes.TheVariants.{Counts}
use Rattle.run_state.specs.Work.{spent_of, StoppedBy}
use Rattle.run_state.specs.Notes.{count_in, counts_of, Noted}
use Rattle.run_state.proofs.Counting.{counts_exact}
use Rattle.optimiser.specs.declared.Finished.{Finished}
use Rattle.optimiser.specs.Worked.{WorkedTo, WorkedOk}
use Rattle.totals.specs.declared.Savings.{Savings}
use Rattle.totals.specs.declared.Column.TheVariants.{Answered, Refused, Full}
use Rattle.totals.specs.declared.Added.{Added}
use Rattle.totals.specs.Savings.{output_most, rules_with, with_answer, with_refusal, with_outcome, with_form, is_open}
use Rattle.totals.specs.Adding.{column_of, Counted, Placed, Takes, Adds}

-- ---- the counts of a row are the log's

rules_same : (n : List ℕ) (c d : ℕ → ℕ) → ((k : ℕ) → 0 < k → k ≤ 8 → c k ≡ d k) → rules_with n c ≡ rules_with n d
unfolding rules_with
rules_same n c d e =
    rw (e 1 (omega arith) (omega arith), e 2 (omega arith) (omega arith), e 3 (omega arith) (omega arith), e 4 (omega arith) (omega arith), e 5 (omega arith) (omega arith), e 6 (omega arith) (omega arith), e 7 (omega arith) (omega arith), e 8 (omega arith) (omega arith)) refl

counted_so : (row : List (List ℕ)) (l : Log) → Counted row l → length l < 4294967295 → (k : ℕ) → 0 < k → k ≤ 8 → count_in row k ≡ count_of k l
unfolding Counted counts_of
counted_so row l h few k a b = counts_exact (replicate 256 (replicate {A = ℕ} 6 0)) row l refl h few k a b

answer_same : (s : Savings) (a b c d : ℕ) (f g : ℕ → ℕ) → rules_with s.rules f ≡ rules_with s.rules g → with_answer s a b c d f ≡ with_answer s a b c d g
unfolding with_answer
answer_same s a b c d f g e = rw e refl

-- ---- place

module _ (f s : List ℕ) (x : Result Finished Refusal) (o : WorkedOk f s x) (r : Savings) where
  abbrev whole : Outcome
  whole = ended (deliver_run output_most) (worked f)

  module _ (n : Refusal) (e : x ≡ Err n) where
    stopped : StoppedBy n (worked f)
    unfolding WorkedOk
    stopped = rw e at o

    pub stop_low : number_of n ≤ 14
    stop_low = work_refused f n stopped.after stopped.stops

    is_refused : ended (deliver_run output_most) (worked f) ≡ refused n
    unfolding ended
    is_refused = rw (stopped.stops, ended)

    pub placed_stop : (a : Added) → (a.savings ≡ with_refusal r n) × (a.column ≡ Refused n) → Placed r f (ended (deliver_run output_most) (worked f)) a
    unfolding with_outcome column_of
    placed_stop a h = record { savings = h.0 ∙ rw is_refused refl; column = h.1 ∙ rw is_refused refl }

  module _ (y : Finished) (e : x ≡ Ok y) where
    abbrev n : ℕ
    n = y.node

    abbrev w : Work
    w = y.work

    to : WorkedTo f s n w
    unfolding WorkedOk
    to = rw e at o

    pub place_writable : Writable f s n
    place_writable = to.writable

    delivers : ended (deliver_run output_most) (worked f) ≡ deliver output_most (write (tree_at f s n)) (length (write (tree_at f s n)) ∷ w.passes ∷ w.ch.units ∷ mark_number w.mark ∷ [])
    unfolding ended deliver_run deliver_tree
    delivers = rw (to.is, ended)

    module _ (t : Option ℕ) (et : t ≡ extent 32768 (length (write (tree_at f s n)))) where
      over : t ≡ None → leb (length (write (tree_at f s n))) 32768 ≡ false
      unfolding extent
      over i = on_bool (leb (length (write (tree_at f s n))) 32768) (λ y. let z : None ≡ Some (length (write (tree_at f s n))) = sym i ∙ et ∙ rw (y, extent) in absurd (let q : ◌≡◌ {A = ℕ} 0 1 = cc in omega arith)) (λ y. y)

      is_over : t ≡ None → ended (deliver_run output_most) (worked f) ≡ refused OutputShort
      unfolding deliver
      is_over i = delivers ∙ rw (over i, deliver)

      pub placed_over : t ≡ None → (a : Added) → (a.savings ≡ with_refusal r OutputShort) × (a.column ≡ Refused OutputShort) → Placed r f (ended (deliver_run output_most) (worked f)) a
      unfolding with_outcome column_of
      placed_over i a h = record { savings = h.0 ∙ rw (is_over i) refl; column = h.1 ∙ rw (is_over i) refl }

      module _ (k : ℕ) (i : t ≡ Some k) where
        fits : (leb (length (write (tree_at f s n))) 32768 ≡ true) × (k ≡ length (write (tree_at f s n)))
        unfolding extent
        fits = on_bool (leb (length (write (tree_at f s n))) 32768)
            (λ y. let z : Some k ≡ Some (length (write (tree_at f s n))) = sym i ∙ et ∙ rw (y, extent) in (y, cc))
            (λ y. let z : Some k ≡ None = sym i ∙ et ∙ rw (y, extent) in absurd (let q : ◌≡◌ {A = ℕ} 0 1 = cc in omega arith))

        pub after_most : k ≤ 32768
        after_most = let z = fits.1 in let y = leb_yes (length (write (tree_at f s n))) 32768 fits.0 in omega (arith, z, y)

        pub before_most : length f ≤ 32768
        before_most = let z = (work_within f (tree_at f s n) (spent_of w) to.is).short in omega (arith, z)

        is_answered : ended (deliver_run output_most) (worked f) ≡ answered (write (tree_at f s n)) plain (length (write (tree_at f s n)) ∷ w.passes ∷ w.ch.units ∷ mark_number w.mark ∷ [])
        unfolding deliver
        is_answered = delivers ∙ rw (fits.0, deliver)

        few : length (ends_in f) < 4294967295
        few = let z = work_within f (tree_at f s n) (spent_of w) to.is in let y = z.few in let v = z.passes in omega (arith, y, v)

        pub placed_answer : (row : List (List ℕ)) → Counted row (ends_in f) → (q : Savings) → q ≡ with_answer r (length f) k w.passes (mark_number w.mark) (count_in row)
            → Placed r f (ended (deliver_run output_most) (worked f)) (record { savings = q; column = Answered })
        unfolding with_outcome column_of
        placed_answer row h q eq =
            let e₁ : with_answer r (length f) k w.passes (mark_number w.mark) (count_in row) ≡ with_answer r (length f) k w.passes (mark_number w.mark) (λ j. count_of j (ends_in f)) =
            answer_same r (length f) k w.passes (mark_number w.mark) (count_in row) (λ j. count_of j (ends_in f)) (rules_same r.rules (count_in row) (λ j. count_of j (ends_in f)) (counted_so row (ends_in f) h few)) in
            let e₂ : with_answer r (length f) k w.passes (mark_number w.mark) (λ j. count_of j (ends_in f)) ≡ with_answer r (length f) (length (write (tree_at f s n))) w.passes (mark_number w.mark) (λ j. count_of j (ends_in f)) =
            ap (λ (m : ℕ). with_answer r (length f) m w.passes (mark_number w.mark) (λ j. count_of j (ends_in f))) fits.1 in
            record { savings = eq ∙ e₁ ∙ e₂ ∙ rw is_answered refl; column = rw is_answered refl }

-- ---- add_form

module _ (s : Savings) (form room : List ℕ) (b : Bool) (eb : b ≡ is_open s) where
  pub adds_none : not b ≡ true → (room' : List ℕ) → room' ≡ zeroed room → Adds s form room room' (record { savings = s; column = Full })
  unfolding Adds room_after
  adds_none nb room' er = rw (← eb, not-true b nb, Adds) (record { savings = refl; column = refl; room = er })

  module _ (nb : not b ≡ false) where
    pub add_open : is_open s ≡ true
    add_open = sym eb ∙ not-false b nb

    takes : (room' : List ℕ) (a : Added) → Takes s form room room' a → Adds s form room room' a
    unfolding Adds
    takes room' a t = rw (add_open, Adds) t

    pub adds_small : length room < 65536 → (a : Added) → (a.savings ≡ with_refusal s RoomSmall) × (a.column ≡ Refused RoomSmall) → Adds s form room room a
    unfolding with_form with_outcome column_of room_after
    adds_small l a h =
        let e : run form (length room) output_most ≡ refused RoomSmall = small in
        takes room a (record { savings = h.0 ∙ rw e refl; column = h.1 ∙ rw e refl; room = rw e refl })
      where
        small : run form (length room) output_most ≡ refused RoomSmall
        small = unfold run in_room in (rw (lt-leb room_least (length room) l, in_room) refl)

    pub adds_worked : 65536 ≤ length room → (a : Added) (room₁ room₂ : List ℕ) → room₂ ≡ zeroed room₁ → Placed s form (ended (deliver_run output_most) (worked form)) a → length room₁ ≡ length room → Adds s form room room₂ a
    unfolding with_form
    adds_worked l a room₁ room₂ er p long =
        let e : run form (length room) output_most ≡ ended (deliver_run output_most) (worked form) = enough in
        takes room₂ a (record { savings = p.savings ∙ rw e refl; column = p.column ∙ rw e refl; room = er ∙ zeroed_same room₁ room long ∙ rw e (sym ((run_zeros form output_most).so room)) })
      where
        enough : run form (length room) output_most ≡ ended (deliver_run output_most) (worked form)
        enough = unfold run in_room in (rw (le-leb room_least (length room) l, in_room) refl)

-- what was noted from an empty row on
pub row_counted : (row : List (List ℕ)) (l : Log) → Noted Counts (replicate 256 (replicate {A = ℕ} 6 0)) row l → Counted row l
unfolding Counted
row_counted row l h = h

pub row_long : (row row₁ : List (List ℕ)) → length row₁ ≡ length row → leb 8 (length row) ≡ true → 8 ≤ length row₁
row_long row row₁ e l = let z = leb_yes 8 (length row) l in omega (arith, e, z)
