-- One form and no more, and reading on bytes alone: what each return needs. Assumes nothing.
use Rattle.std.specs.Prelude.{Result, Ok, Err}
use mathlib.Core.Path.{◌≡◌, sym, ◌∙◌, ap₂}
use mathlib.Core.List.{List, []}
use Prim.Native.Nat.{ℕ, ◌-◌, ◌<◌, ◌≤◌}
use native.Mathlib.Omega.{arith}
use lib.ListN.{length}
use borrow.Author.Tests.{le-leb, lt-leb}
use Rattle.refusals.specs.declared.Refusal.{Refusal}
use Rattle.refusals.specs.declared.Refusal.TheVariants.{FormLong, BytesAfter}
use Rattle.meaning.specs.Tree.{is_empty}
use Rattle.meaning.specs.Limits.{form_limit}
use Rattle.meaning.specs.Meter.{◌>>=◌, ◌>>◌, give}
use Rattle.meaning.specs.Form.{at_end, read_whole, read_form}
use Rattle.meaning.proofs.MeterLaws.{bind_at, seq_at}
use Rattle.meaning.proofs.ReaderLaws.{hold_at}
use Rattle.store.specs.declared.Charges.{Charges}
use Rattle.store.specs.declared.Made.{Made}
use Rattle.store.specs.Nodes.{tree_at}
use Rattle.store.specs.Makers.{Begun}
use Rattle.form.specs.declared.Parsed.{Parsed}
use Rattle.form.specs.Spans.{span, left_from, next_tree, Stops, stops}
use Rattle.form.specs.Reads.{ReadTo, ReadOk, FormOk, WholeOk}
use Rattle.form.proofs.Spans.{span_long, span_none, span_cons, span_all, bind_stops, seq_stops, hold_stops, same_stops}

module _ (f : List ℕ) (end from u : ℕ) (lent : end ≤ length f) where
  long_stops : form_limit < end - from → Stops (read_form (span f from end) u) FormLong
  unfolding read_form
  long_stops h = let z : length (span f from end) ≡ end - from = span_long f from end lent in
      stops (record { left = span f from end; units = u }) (rw (z, lt-leb (end - from) form_limit h, read_form))

  form_is : end - from ≤ form_limit → read_form (span f from end) u ≡ (next_tree >>= λ t. at_end >> give t) (left_from f from end u)
  unfolding read_form read_whole next_tree ◌>>=◌
  form_is h = let z : length (span f from end) ≡ end - from = span_long f from end lent in rw (z, le-leb (end - from) form_limit h, read_form)

module _ (f s s₁ : List ℕ) (end from : ℕ) (c : Charges) (h : end - from ≤ form_limit) (lent : end ≤ length f)
    (r : Result Parsed Refusal) (o : ReadOk f s s₁ end from c (next_tree (left_from f from end c.units)) r) where
  pub form_refused : (n : Refusal) → r ≡ Err n → FormOk f s s₁ end from c (Err n)
  unfolding ReadOk FormOk
  form_refused n e = let y : Stops (next_tree (left_from f from end c.units)) n = rw e at o in
      same_stops (form_is f end from c.units lent h) (bind_stops next_tree (λ t. at_end >> give t) (left_from f from end c.units) n y)

  module _ (x : Parsed) (e : r ≡ Ok x) where
    abbrev q : ℕ
    q = x.node

    abbrev next : ℕ
    next = x.next

    abbrev c' : Charges
    c' = x.ch

    to : ReadTo f s s₁ end from c c' (next_tree (left_from f from end c.units)) q next
    unfolding ReadOk
    to = rw e at o

    then : read_form (span f from end) c.units ≡ (at_end >> give (tree_at f s₁ q)) (left_from f next end c'.units)
    then = form_is f end from c.units lent h ∙ bind_at next_tree (λ t. at_end >> give t) (left_from f from end c.units) (left_from f next end c'.units) (tree_at f s₁ q) to.is

    pub form_after : next < end → FormOk f s s₁ end from c (Err BytesAfter)
    unfolding FormOk at_end is_empty
    form_after l = same_stops then
        (seq_stops at_end (give (tree_at f s₁ q)) (left_from f next end c'.units) BytesAfter
        (hold_stops (is_empty (span f next end)) BytesAfter (left_from f next end c'.units) (rw (span_cons f next end l lent))))

    pub form_done : end ≤ next → FormOk f s s₁ end from c (Ok (record { node = q; ch = c' }))
    unfolding FormOk at_end is_empty give
    form_done l =
        let z : next ≡ end = omega (arith, to.within) in
        let y : span f next end ≡ [] = span_none f next end l in
        record {
          after = let y₁ : from ≤ next = to.after in omega arith;
          within = omega arith;
          grown = to.grown;
          ready = to.ready;
          free = to.free;
          is = then
              ∙ seq_at at_end (give (tree_at f s₁ q)) (left_from f next end c'.units) (left_from f next end c'.units) tt (hold_at (is_empty (span f next end)) BytesAfter (left_from f next end c'.units) (rw y))
              ∙ rw z;
        }

pub form_long : (f s s₁ : List ℕ) (end from : ℕ) (c : Charges) → form_limit < end - from → end ≤ length f → FormOk f s s₁ end from c (Err FormLong)
unfolding FormOk
form_long f s s₁ end from c h lent = long_stops f end from c.units lent h

-- all of the bytes, in a store that has nil only
pub whole : (f s s₁ : List ℕ) (c : Charges) (r : Result Made Refusal) → FormOk f s s₁ (length f) 0 c r → Begun f s c → WholeOk f s₁ r
unfolding FormOk WholeOk
whole f s s₁ c r o b = go r o
  where
    e : read_form f 0 ≡ read_form (span f 0 (length f)) c.units
    e = ap₂ read_form (sym (span_all f)) (sym b.units)

    go : (r : Result Made Refusal) → FormOk f s s₁ (length f) 0 c r → WholeOk f s₁ r
    go (Ok a) o = record { ready = o.ready; is = e ∙ o.is ∙ rw (span_none f (length f) (length f) (omega arith)) }
    go (Err n) o = same_stops e o
