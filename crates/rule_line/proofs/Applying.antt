-- One rule on a form: what each return needs. Assumes nothing.
use Rattle.std.specs.Prelude.{Result, Ok, Err, Option, Some, None}
use mathlib.Core.Path.{◌≡◌, sym, ◌∙◌, ap, ap₂, subst}
use mathlib.Core.List.{List}
use mathlib.Core.Bool.{false}
use Prim.Native.Nat.{ℕ}
use lib.ListN.{length}
use Rattle.refusals.specs.declared.Refusal.{Refusal}
use Rattle.meaning.specs.Tree.{Tree, equal_to}
use Rattle.meaning.specs.Meter.{done, Spent}
use Rattle.meaning.specs.Form.{read_form}
use Rattle.meaning.proofs.SameLaws.{equal_to_same}
use Rattle.store.specs.declared.Charges.{Charges}
use Rattle.store.specs.declared.Made.{Made}
use Rattle.store.specs.Nodes.{tree_at}
use Rattle.form.specs.Spans.{span, Stops, stops}
use Rattle.form.specs.Reads.{ReadTo, FormOk}
use Rattle.form.proofs.Spans.{span_all, same_stops}
use Rattle.form.proofs.Bytes.{node_writable}
use Rattle.patterns.specs.declared.Patterns.{Patterns}
use Rattle.run_state.specs.declared.Outcome.{Outcome}
use Rattle.run_state.specs.declared.Outcome.TheVariants.{Same, Changed, Stopped}
use Rattle.run_state.specs.declared.Work.{Work}
use Rattle.run_state.specs.Work.{spent_of, Says, Did}
use Rattle.driver_parts.specs.Turns.{fresh_work}
use Rattle.driver.specs.Alone.{one_rule}
use Rattle.optimiser.specs.Worked.{Fresh}
use Rattle.rule_line.specs.Said.{same, written, said_of, said, LeftSame, ChangedAt, RefusedBy, Applies, Applied}

-- ---- what is said of a worked tree

module _ (out : ℕ) (t : Tree) where
  said_same : (s : Spent) → said_of out t (done t s) ≡ same s.units s.mark
  unfolding said_of
  said_same s = rw (equal_to_same t, said_of)

  said_changed : (u : Tree) (s : Spent) → equal_to t u ≡ false → said_of out t (done u s) ≡ written out u s
  unfolding said_of
  said_changed u s e = rw (e, said_of)

-- ---- the form is read, and its tree worked

module _ (f s s₁ : List ℕ) (c : Charges) (p : Patterns) (h : Fresh f s c p) (m : Result Made Refusal) (o : FormOk f s s₁ (length f) 0 c m) where
  whole : read_form f 0 ≡ read_form (span f 0 (length f)) c.units
  whole = ap₂ read_form (sym (span_all f)) (sym h.units)

  pub read_refused : (k : ℕ) (n : Refusal) → m ≡ Err n → Applied k f s₁ (record { ch = c; passes = 0; mark = false; last = Stopped n })
  unfolding Applied Applies FormOk said
  read_refused k n e = go (same_stops whole (rw e at o))
    where
      go : Stops (read_form f 0) n → RefusedBy k f n
      go (stops r i) = record { is = λ out. rw (i, said) }

  module _ (tree : Made) (e : m ≡ Ok tree) where
    abbrev q : ℕ
    q = tree.node

    abbrev d : Charges
    d = tree.ch

    to : ReadTo f s s₁ (length f) 0 c d (read_form (span f 0 (length f)) c.units) q (length f)
    unfolding FormOk
    to = rw e at o

    said_as : (k out : ℕ) → said k f out ≡ said_of out (tree_at f s₁ q) (one_rule k (tree_at f s₁ q) (spent_of (fresh_work d)))
    unfolding said
    said_as k out = rw (whole ∙ to.is, said)

    pub read_applied : (k : ℕ) (s₂ : List ℕ) (w : Work) → Did f s₁ s₂ (fresh_work d) (tree_at f s₁ q) (one_rule k (tree_at f s₁ q) (spent_of (fresh_work d))) w → Applied k f s₂ w
    unfolding Did Says Applied Applies said_of
    read_applied k s₂ w i = go w.last i
      where
        go : (l : Outcome) → Says f s₁ s₂ (fresh_work d) w (tree_at f s₁ q) (one_rule k (tree_at f s₁ q) (spent_of (fresh_work d))) l → Applies k f s₂ w l
        go Same g = record { is = λ out. said_as k out ∙ ap (said_of out (tree_at f s₁ q)) g.gives ∙ said_same out (tree_at f s₁ q) (spent_of w) }
        go (Changed n) g = record {
          writable = node_writable f s₂ w.ch n g.ready;
          is = λ out. said_as k out ∙ ap (said_of out (tree_at f s₁ q)) g.gives ∙ said_changed out (tree_at f s₁ q) (tree_at f s₂ n) (spent_of w) g.differs;
        }
        go (Stopped r) g = record { is = λ out. said_as k out ∙ ap (said_of out (tree_at f s₁ q)) g.stops }

-- ---- by its outcome

module _ (k : ℕ) (f s : List ℕ) (w : Work) (a : Applied k f s w) where
  pub left_same : w.last ≡ Same → LeftSame k f w
  unfolding Applied Applies
  left_same e = subst (Applies k f s w) e a

  pub changed_at : (m : ℕ) → w.last ≡ Changed m → ChangedAt k f s w m
  unfolding Applied Applies
  changed_at m e = subst (Applies k f s w) e a

  pub refused_by : (n : Refusal) → w.last ≡ Stopped n → RefusedBy k f n
  unfolding Applied Applies
  refused_by n e = subst (Applies k f s w) e a
