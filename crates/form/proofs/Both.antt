-- Two forms, read one after the other: what each call and each return needs. Assumes nothing.
use Rattle.std.specs.Prelude.{Result, Ok, Err}
use Prim.Native.Nat.{ℕ, ◌+◌, ◌-◌, ◌≤◌}
use mathlib.Core.Path.{◌≡◌, refl, sym, ◌∙◌, ap}
use mathlib.Core.List.{List}
use mathlib.Core.Bool.{Bool, true, false}
use lib.Dec.{leb}
use lib.ListN.{length, take, drop, length-drop, drop_of_length-le}
use lib.Seq.{take_all}
use native.Mathlib.Omega.{arith}
use borrow.Author.Tests.{leb-true}
use Rattle.refusals.specs.declared.Refusal.{Refusal}
use Rattle.refusals.specs.declared.Refusal.TheVariants.{FormLong}
use Rattle.meaning.specs.Tree.{Tree}
use Rattle.meaning.specs.Limits.{form_limit}
use Rattle.meaning.specs.Meter.{Out, done, stop}
use Rattle.meaning.specs.Form.{Reading, limits, read_whole, read_form}
use Rattle.meaning.proofs.MeterLaws.{not_stop}
use Rattle.meaning.proofs.Late.{Touched, late_read}
use Rattle.store.specs.declared.Charges.{Charges}
use Rattle.store.specs.declared.Made.{Made}
use Rattle.store.specs.Nodes.{tree_at}
use Rattle.store.specs.Store.{Held}
use Rattle.store.specs.Makers.{Begun}
use Rattle.store.proofs.Ready.{grown_ready, grown_tree}
use Rattle.form.specs.declared.Two.{Two}
use Rattle.form.specs.Spans.{span, left_from, Stops, stops}
use Rattle.form.specs.Reads.{ReadTo, FormOk}
use Rattle.form.specs.Both.{Both, read_both, Cut, TwoOk}
use Rattle.form.proofs.Spans.{span_long}

-- ---- the cut

pub cut_all : (f : List ℕ) (n : ℕ) → length f ≤ n → Cut f n (length f)
cut_all f n h = record {
  within = omega arith;
  front = take_all (length f) f (omega arith) ∙ sym (take_all n f h);
  back = drop_of_length-le f (let z : length f ≤ length f = omega arith in z) ∙ sym (drop_of_length-le f h);
}

-- ---- the definition, from what each reading says

module _ (p e : List ℕ) where
  first_stops : (n : Refusal) → Stops (read_form p 0) n → Stops (read_both p e) n
  unfolding read_both
  first_stops n (stops s h) = stops s (rw (h, read_both))

  module _ (t : Tree) (r : Reading) (h : read_form p 0 ≡ done t r) where
    second_stops : (n : Refusal) → Stops (read_form e r.units) n → Stops (read_both p e) n
    unfolding read_both
    second_stops n (stops s k) = stops s (rw (h, read_both, k))

    pub both_read : (u : Tree) (q : Reading) → read_form e r.units ≡ done u q → read_both p e ≡ done (record { one = t; other = u }) q
    unfolding read_both
    both_read u q k = rw (h, read_both, k)

-- none of its refusals leaves the room
pub late_both : (p e : List ℕ) → Touched (read_both p e)
unfolding read_both Touched
late_both p e = go (read_form p 0) (late_read p 0)
  where
    then : (t : Tree) (o : Out Reading Tree) → Touched o → Touched {S = Reading} {A = Both} (elim o [ done u r ↦ done (record { one = t; other = u }) r | stop n r ↦ stop n r ])
    then t (done u r) h = tt
    then t (stop n r) h = h

    go : (o : Out Reading Tree) → Touched o → Touched {S = Reading} {A = Both} (elim o [
      | done t s ↦ elim (read_form e s.units) [ done u r ↦ done (record { one = t; other = u }) r | stop n r ↦ stop n r ]
      | stop n s ↦ stop n s
    ])
    go (done t s) h = then t (read_form e s.units) (late_read e s.units)
    go (stop n s) h = h

-- a form that was read is no longer than a form may be
read_fits : (bs : List ℕ) (u : ℕ) (t : Tree) (r : Reading) → read_form bs u ≡ done t r → length bs ≤ form_limit
unfolding read_form
read_fits bs u t r h = go (leb (length bs) form_limit) refl h
  where
    go : (b : Bool) → leb (length bs) form_limit ≡ b → ◌≡◌ {A = Out Reading Tree} (elim b [ true ↦ read_whole limits bs u | false ↦ stop FormLong (record { left = bs; units = u }) ]) (done t r) → length bs ≤ form_limit
    go true e k = leb-true (length bs) form_limit e
    go false e k = not_stop k

-- ---- the code

-- one form was read to the node q
module _ (f s s₁ : List ℕ) (end from : ℕ) (c : Charges) (r : Result Made Refusal) (x : Made) (e : r ≡ Ok x) (o : FormOk f s s₁ end from c r) where
  read : ReadTo f s s₁ end from c x.ch (read_form (span f from end) c.units) x.node end
  unfolding FormOk
  read = rw e at o

  pub read_held : Held f s₁ x.ch
  read_held = read.ready.held

  pub read_within : end ≤ length f → end ≤ from + form_limit
  read_within h = let z : length (span f from end) ≤ form_limit = read_fits (span f from end) c.units _ _ read.is in let y : length (span f from end) ≡ end - from = span_long f from end h in omega arith

module _ (f : List ℕ) (mid : ℕ) (within : mid ≤ length f) where
  front : span f 0 mid ≡ take mid f
  unfolding span
  front = let z : mid - 0 ≡ mid = omega arith in rw z

  back : span f mid (length f) ≡ drop mid f
  unfolding span
  back = take_all (length f - mid) (drop mid f) (simp length-drop (omega arith))

  abbrev whole : Out Reading Both
  whole = read_both (take mid f) (drop mid f)

  module _ (s s₁ : List ℕ) (c : Charges) (b : Begun f s c) (r : Result Made Refusal) (o : FormOk f s s₁ mid 0 c r) where
    pub first_refused : (n : Refusal) → r ≡ Err n → TwoOk f s₁ whole (Err n)
    unfolding FormOk TwoOk
    first_refused n e =
        let y : Stops (read_form (span f 0 mid) c.units) n = rw e at o in
        first_stops (take mid f) (drop mid f) n (rw (front, b.units) at y)

    module _ (x : Made) (e : r ≡ Ok x) where
      abbrev p : ℕ
      p = x.node

      abbrev c₁ : Charges
      c₁ = x.ch

      first : ReadTo f s s₁ mid 0 c c₁ (read_form (span f 0 mid) c.units) p mid
      first = read f s s₁ mid 0 c r x e o

      first_is : read_form (take mid f) 0 ≡ done (tree_at f s₁ p) (left_from f mid mid c₁.units)
      first_is = rw (front, b.units) at first.is

      module _ (s₂ : List ℕ) (r₂ : Result Made Refusal) (o₂ : FormOk f s₁ s₂ (length f) mid c₁ r₂) where
        pub second_refused : (n : Refusal) → r₂ ≡ Err n → TwoOk f s₂ whole (Err n)
        unfolding FormOk TwoOk
        second_refused n e₂ =
            let y : Stops (read_form (span f mid (length f)) c₁.units) n = rw e₂ at o₂ in
            second_stops (take mid f) (drop mid f) (tree_at f s₁ p) (left_from f mid mid c₁.units) first_is n (rw back at y)

        pub both_nodes : (y : Made) → r₂ ≡ Ok y → TwoOk f s₂ whole (Ok (record { first = x.node; second = y.node; ch = y.ch }))
        unfolding TwoOk
        both_nodes y e₂ =
            let to : ReadTo f s₁ s₂ (length f) mid c₁ y.ch (read_form (span f mid (length f)) c₁.units) y.node (length f) = read f s₁ s₂ (length f) mid c₁ r₂ y e₂ o₂ in
            let is : read_form (drop mid f) c₁.units ≡ done (tree_at f s₂ y.node) (left_from f (length f) (length f) y.ch.units) = rw back at to.is in
            record {
              first = grown_ready to.grown first.ready;
              second = to.ready;
              is = both_read (take mid f) (drop mid f) (tree_at f s₁ p) (left_from f mid mid c₁.units) first_is (tree_at f s₂ y.node) (left_from f (length f) (length f) y.ch.units) is
                  ∙ ap (λ (t : Tree). done (record { one = t; other = tree_at f s₂ y.node }) (left_from f (length f) (length f) y.ch.units)) (sym (grown_tree to.grown first.ready));
            }

-- where the cut stands, both parts are the definition's
pub cut_two : (f s₁ : List ℕ) (n mid : ℕ) (r : Result Two Refusal) → Cut f n mid → TwoOk f s₁ (read_both (take mid f) (drop mid f)) r → TwoOk f s₁ (read_both (take n f) (drop n f)) r
cut_two f s₁ n mid r c h = rw (← c.front, ← c.back) h
