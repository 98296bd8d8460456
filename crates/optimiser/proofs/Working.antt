-- The work of a run in its room: what each return needs. Assumes nothing.
use Rattle.std.specs.Prelude.{Result, Ok, Err}
use mathlib.Core.Path.{◌≡◌, refl, sym, ◌∙◌, ap, ap₂, subst}
use mathlib.Core.List.{List}
use mathlib.Core.Bool.{true}
use Prim.Native.Nat.{ℕ, ◌≤◌}
use lib.Dec.{leb}
use lib.ListN.{length}
use Rattle.refusals.specs.declared.Refusal.{Refusal}
use Rattle.meaning.specs.Tree.{Tree}
use Rattle.meaning.specs.Limits.{nesting_limit}
use Rattle.meaning.specs.Meter.{done}
use Rattle.meaning.specs.Form.{read_form}
use Rattle.meaning.specs.Driver.{optimize_sexp, ends}
use Rattle.meaning.specs.Run.{after_reading, worked, ends_in}
use Rattle.meaning.proofs.Tests.{leb_yes}
use Rattle.meaning.proofs.RunLaws.{worked_read}
use Rattle.meaning.proofs.LogRun.{ends_read, ends_unread}
use Rattle.store.specs.declared.Charges.{Charges}
use Rattle.store.specs.declared.Made.{Made}
use Rattle.store.specs.Nodes.{tree_at}
use Rattle.store.specs.Store.{Ready}
use Rattle.store.proofs.Ready.{grown_ready, grown_tree}
use Rattle.form.specs.Spans.{span, left_from, Stops, stops}
use Rattle.form.specs.Reads.{ReadTo, FormOk}
use Rattle.form.proofs.Spans.{span_all, same_stops}
use Rattle.form.proofs.Bytes.{node_writable}
use Rattle.patterns.specs.declared.Patterns.{Patterns}
use Rattle.patterns.specs.Patterns.{Patterned}
use Rattle.patterns.proofs.Laws.{patterned_grown}
use Rattle.run_state.specs.declared.Outcome.{Outcome}
use Rattle.run_state.specs.declared.Outcome.TheVariants.{Same, Changed, Stopped}
use Rattle.run_state.specs.declared.Work.{Work}
use Rattle.run_state.specs.declared.Notes.{Notes}
use Rattle.run_state.specs.Notes.{count_records, Noted}
use Rattle.run_state.proofs.Noting.{noted_empty, noted_as}
use Rattle.run_state.specs.Work.{spent_of, StoppedBy, Says, Did}
use Rattle.driver_parts.specs.Turns.{fresh_work}
use Rattle.optimiser.specs.declared.Finished.{Finished}
use Rattle.optimiser.specs.Worked.{Fresh, finish_at, WorkedOk}

-- ---- the driver's outcome

module _ (w : Work) (n : ℕ) where
  pub finish_same : w.last ≡ Same → Ok (record { node = n; work = w }) ≡ finish_at n w w.last
  unfolding finish_at
  finish_same e = let P : Outcome → Type 0 = λ o. Ok (record { node = n; work = w }) ≡ finish_at n w o in subst P (sym e) refl

  pub finish_changed : (m : ℕ) → w.last ≡ Changed m → Ok (record { node = m; work = w }) ≡ finish_at n w w.last
  unfolding finish_at
  finish_changed m e = let P : Outcome → Type 0 = λ o. Ok (record { node = m; work = w }) ≡ finish_at n w o in subst P (sym e) refl

  pub finish_stopped : (r : Refusal) → w.last ≡ Stopped r → Err r ≡ finish_at n w w.last
  unfolding finish_at
  finish_stopped r e = rw (e, finish_at)

-- ---- the form is read, and its tree worked

-- a row of a known length
pub row_known : (row : List (List ℕ)) → leb count_records (length row) ≡ true → count_records ≤ length row
row_known row e = leb_yes count_records (length row) e

module _ (f s s₁ : List ℕ) (c : Charges) (p : Patterns) (h : Fresh f s c p) (m : Result Made Refusal) (o : FormOk f s s₁ (length f) 0 c m) where
  whole : read_form f 0 ≡ read_form (span f 0 (length f)) c.units
  whole = ap₂ read_form (sym (span_all f)) (sym h.units)

  pub read_refused : (n : Refusal) → m ≡ Err n → WorkedOk f s₁ (Err n)
  unfolding WorkedOk FormOk worked
  read_refused n e = go (same_stops whole (rw e at o))
    where
      go : Stops (read_form f 0) n → StoppedBy n (worked f)
      go (stops r i) = record { after = after_reading r; stops = rw (i, worked) }

  pub refused_noted : (notes : Notes) (row : List (List ℕ)) (n : Refusal) → m ≡ Err n → Noted notes row row (ends_in f)
  unfolding FormOk
  refused_noted notes row n e = go (same_stops whole (rw e at o))
    where
      go : Stops (read_form f 0) n → Noted notes row row (ends_in f)
      go (stops r i) = noted_empty notes row (ends_in f) (ends_unread f n r i)

  module _ (tree : Made) (e : m ≡ Ok tree) where
    abbrev q : ℕ
    q = tree.node

    abbrev d : Charges
    d = tree.ch

    to : ReadTo f s s₁ (length f) 0 c d (read_form (span f 0 (length f)) c.units) q (length f)
    unfolding FormOk
    to = rw e at o

    pub read_ready : Ready f s₁ d q
    read_ready = to.ready

    pub read_patterned : Patterned f s₁ d p
    read_patterned = patterned_grown to.grown h.patterned

    form_is : read_form f 0 ≡ done (tree_at f s₁ q) (left_from f (length f) (length f) d.units)
    form_is = whole ∙ to.is

    worked_as : worked f ≡ optimize_sexp nesting_limit (tree_at f s₁ q) (spent_of (fresh_work d))
    worked_as = worked_read f (tree_at f s₁ q) (left_from f (length f) (length f) d.units) form_is

    pub worked_noted : (notes : Notes) (row row₁ : List (List ℕ)) → Noted notes row row₁ (ends nesting_limit (tree_at f s₁ q) (spent_of (fresh_work d))) → Noted notes row row₁ (ends_in f)
    worked_noted notes row row₁ k = noted_as notes row row₁ _ _ k (ends_read f (tree_at f s₁ q) (left_from f (length f) (length f) d.units) form_is)

    pub read_worked : (s₂ : List ℕ) (w : Work) (x : Result Finished Refusal) → x ≡ finish_at q w w.last
        → Did f s₁ s₂ (fresh_work d) (tree_at f s₁ q) (optimize_sexp nesting_limit (tree_at f s₁ q) (spent_of (fresh_work d))) w → WorkedOk f s₂ x
    unfolding Did Says WorkedOk finish_at
    read_worked s₂ w x e i = rw e (go w.last i)
      where
        go : (l : Outcome) → Says f s₁ s₂ (fresh_work d) w (tree_at f s₁ q) (optimize_sexp nesting_limit (tree_at f s₁ q) (spent_of (fresh_work d))) l → WorkedOk f s₂ (finish_at q w l)
        go Same k = record {
          writable = node_writable f s₂ w.ch q (grown_ready k.grown read_ready);
          is = worked_as ∙ k.gives ∙ ap (λ (t : Tree). done t (spent_of w)) (sym (grown_tree k.grown read_ready));
        }
        go (Changed n) k = record { writable = node_writable f s₂ w.ch n k.ready; is = worked_as ∙ k.gives }
        go (Stopped r) k = record { after = k.after; stops = worked_as ∙ k.stops }
