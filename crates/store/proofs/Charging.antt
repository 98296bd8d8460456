-- Charged and free makers: what was charged leaves room for the record, and what each return needs.
use Rattle.std.proofs.Common.{◌≡◌, ℕ, ◌+◌, ◌-◌, ◌*◌, ◌<◌, ◌≤◌, Bool, true, false, leb, List, [], ◌∷◌, length, take, drop, sym, refl, ap, ◌∙◌, arith, length-drop, length-take-le, le-leb, leb-false, leb-true}
use borrow.Author.Tests.{lt-leb}
use Rattle.refusals.specs.declared.Refusal.{Refusal}
use Rattle.refusals.specs.declared.Refusal.TheVariants.{UnitsOut}
use Rattle.meaning.specs.Tree.{Tree, atom}
use Rattle.meaning.specs.Limits.{unit_limit, pair_cost, atom_cost}
use Rattle.store.specs.declared.Charges.{Charges}
use Rattle.store.specs.declared.Made.{Made}
use Rattle.std.specs.Prelude.{Result, Ok, Err}
use Rattle.store.specs.Cells.{pick}
use Rattle.store.specs.Store.{Held, Ready, Paid, free_limit}
use Rattle.store.specs.Makers.{Stands, Put, spend, lend, charged, Bought, Over, MadeOk, LaidOk}
use Rattle.store.proofs.Ready.{grown_none, nil_ready}

-- ---- what charge answers

pub charge_goes : (c : Charges) (k : ℕ) → k ≤ unit_limit - c.units → c.units ≤ unit_limit → Ok (spend c k) ≡ charged c k
unfolding charged
charge_goes c k h o = let z : c.units + k ≤ unit_limit = omega arith in simp (le-leb _ _ z)

pub charge_stops : (c : Charges) (k : ℕ) → unit_limit - c.units < k → c.units ≤ unit_limit → Err UnitsOut ≡ charged c k
unfolding charged
charge_stops c k h o = let z : unit_limit < c.units + k = omega arith in simp (lt-leb _ _ z)

-- it went on: to these charges, within the units
pub record Went (c : Charges) (k : ℕ) (c₁ : Charges) : Type 0 where
  pub is : c₁ ≡ spend c k
  pub fits : c.units + k ≤ unit_limit

module _ (c : Charges) (k : ℕ) (a : Result Charges Refusal) (e : a ≡ charged c k) where
  pub went : (c₁ : Charges) → a ≡ Ok c₁ → Went c k c₁
  unfolding charged
  went c₁ o = go (leb (c.units + k) unit_limit) refl (sym o ∙ e)
    where
      go : (b : Bool) → leb (c.units + k) unit_limit ≡ b → Ok c₁ ≡ pick b (Ok (spend c k)) (Err UnitsOut) → Went c k c₁
      go true t z = record { is = cc; fits = leb-true _ _ t }
      go false t z = let y : ◌≡◌ {A = ℕ} 0 1 = cc in absurd (omega arith)

  pub stopped : (r : Refusal) → a ≡ Err r → Over c k r
  unfolding charged
  stopped r o = go (leb (c.units + k) unit_limit) refl (sym o ∙ e)
    where
      go : (b : Bool) → leb (c.units + k) unit_limit ≡ b → Err r ≡ pick b (Ok (spend c k)) (Err UnitsOut) → Over c k r
      go true t z = let y : ◌≡◌ {A = ℕ} 0 1 = cc in absurd (omega arith)
      go false t z = record { refusal = cc; over = leb-false _ _ t }

-- ---- charges that were spent, or lent

module _ {f s : List ℕ} {c : Charges} (k : ℕ) where
  pub held_spent : Held f s c → c.units + k ≤ unit_limit → Held f s (spend c k)
  unfolding Paid
  held_spent h o = record {
    store = h.store;
    begun = h.begun;
    nil_at = h.nil_at;
    units = o;
    free = h.free;
    paid = let p : Paid c 0 = h.paid in omega arith;
  }

  pub paid_spent : Held f s c → (z : ℕ) → 8 * z ≤ 15 * k → Paid (spend c k) z
  unfolding Paid
  paid_spent h z o = let p : Paid c 0 = h.paid in omega arith

  pub held_lent : Held f s c → c.free + k ≤ free_limit → Held f s (lend c k)
  unfolding Paid
  held_lent h o = record {
    store = h.store;
    begun = h.begun;
    nil_at = h.nil_at;
    units = h.units;
    free = o;
    paid = let p : Paid c 0 = h.paid in omega arith;
  }

  pub paid_lent : Held f s c → Paid (lend c k) k
  unfolding Paid
  paid_lent h = let p : Paid c 0 = h.paid in omega arith

  pub ready_spent : {m : ℕ} → Ready f s c m → c.units + k ≤ unit_limit → Ready f s (spend c k) m
  ready_spent r o = record { held = held_spent r.held o; node = r.node; old = r.old }

  pub ready_lent : {m : ℕ} → Ready f s c m → c.free + k ≤ free_limit → Ready f s (lend c k) m
  ready_lent r o = record { held = held_lent r.held o; node = r.node; old = r.old }

-- the same change, from charges with the same end
stands_from : {f s t : List ℕ} {c c₁ d : Charges} {q : ℕ} {x : Tree} → c₁.end ≡ c.end → Stands f s t c₁ d q x → Stands f s t c d q x
stands_from {f} {s} {t} {c} {c₁} {d} e h =
    let o : c₁.end ≤ d.end = h.grown.ends in
    record {
      grown = record {
        held = h.grown.held;
        long = h.grown.long;
        ends = omega arith;
        nodes = λ m a u. h.grown.nodes m a (omega arith);
        trees = λ m a u. h.grown.trees m a (omega arith);
      };
      ready = h.ready;
      tree = h.tree;
    }

-- ---- the charged makers

module _ (f s : List ℕ) (c c₁ : Charges) (k : ℕ) (a : Result Charges Refusal) (o : Unit {0} → a ≡ Ok c₁) (e : a ≡ charged c k) where
  w : Went c k c₁
  w = went c k a e c₁ (o tt)

  pub ready_charged : (m : ℕ) → Ready f s c m → Ready f s c₁ m
  ready_charged m r = rw w.is (ready_spent k r w.fits)

  pub held_charged : Held f s c → Held f s c₁
  held_charged h = rw w.is (held_spent k h w.fits)

  pub paid_charged : Held f s c → (z : ℕ) → 8 * z ≤ 15 * k → Paid c₁ z
  paid_charged h z p = rw w.is (paid_spent k h z p)

  pub bought : (t : List ℕ) (d : Charges) (n : ℕ) (x : Tree) → Put f s t c₁ d x → n ≡ c₁.end → MadeOk f s t c k x (Ok (record { node = n; ch = d }))
  unfolding MadeOk
  bought t d n x p en =
      let e₁ : c₁.end ≡ c.end = ap (λ (z : Charges). z.end) w.is in
      let eu : c₁.units ≡ c.units + k = ap (λ (z : Charges). z.units) w.is in
      let ef : c₁.free ≡ c.free = ap (λ (z : Charges). z.free) w.is in
      rw en (record { stands = stands_from e₁ p.stands; units = p.units ∙ eu; free = p.free ∙ ef })

-- what the makers' calls ask
module _ (f s : List ℕ) (c c₁ : Charges) (a : Result Charges Refusal) (o : Unit {0} → a ≡ Ok c₁) where
  pub pair_paid : (m : ℕ) → a ≡ charged c pair_cost → Ready f s c m → Paid c₁ 15
  pair_paid m e r = paid_charged f s c c₁ pair_cost a o e r.held 15 (omega arith)

  pub atom_paid : (z : ℕ) → a ≡ charged c (4 + z) → Held f s c → Paid c₁ (5 + z)
  atom_paid z e h = paid_charged f s c c₁ (4 + z) a o e h (5 + z) (omega arith)

  pub form_paid : (z : ℕ) → a ≡ charged c (4 + z) → Held f s c → Paid c₁ 5
  form_paid z e h = paid_charged f s c c₁ (4 + z) a o e h 5 (omega arith)

pub over : (f s t : List ℕ) (c : Charges) (k : ℕ) (x : Tree) (a : Result Charges Refusal) (r : Refusal) → a ≡ Err r → a ≡ charged c k → MadeOk f s t c k x (Err r)
unfolding MadeOk
over f s t c k x a r o e = stopped c k a e r o

-- an atom without bytes is nil, and free
pub nil_made : (f s b : List ℕ) (c : Charges) → Held f s c → length b ≡ 0 → MadeOk f s s c (atom_cost b) (atom b) (Ok (record { node = 0; ch = c }))
unfolding MadeOk atom_cost
nil_made f s [] c h e = record {
  stands = record { grown = grown_none f s c h; ready = nil_ready f s c h; tree = h.nil_at };
  units = omega arith;
  free = refl;
}
nil_made f s (x ∷ xs) c h e = absurd (omega arith)

pub atom_costs : (b : List ℕ) → (length b ≡ 0 → ⊥) → atom_cost b ≡ 4 + length b
unfolding atom_cost
atom_costs [] h = absurd (h refl)
atom_costs (x ∷ xs) h = refl

module _ (f s t : List ℕ) (c : Charges) (b : List ℕ) (k : ℕ) (a : Result Charges Refusal) (e : a ≡ charged c k) (ek : k ≡ 4 + length b) (ne : length b ≡ 0 → ⊥) where
  same_cost : k ≡ atom_cost b
  same_cost = ek ∙ sym (atom_costs b ne)

  pub atom_bought : (c₁ d : Charges) (n : ℕ) → Put f s t c₁ d (atom b) → (Unit {0} → a ≡ Ok c₁) → n ≡ c₁.end → MadeOk f s t c (atom_cost b) (atom b) (Ok (record { node = n; ch = d }))
  atom_bought c₁ d n p o en = rw same_cost at (bought f s c c₁ k a o e t d n (atom b) p en)

  pub atom_over : (r : Refusal) → a ≡ Err r → MadeOk f s t c (atom_cost b) (atom b) (Err r)
  atom_over r o = rw same_cost at (over f s t c k (atom b) a r o e)

-- an atom of the form
module _ (f : List ℕ) (at z : ℕ) (fits : at + z ≤ length f) where
  form_length : length (take z (drop at f)) ≡ z
  form_length = length-take-le z (drop at f) (simp length-drop (omega arith))

  pub form_nil : (s : List ℕ) (c : Charges) → Held f s c → z ≡ 0 → MadeOk f s s c (atom_cost (take z (drop at f))) (atom (take z (drop at f))) (Ok (record { node = 0; ch = c }))
  form_nil s c h e = nil_made f s (take z (drop at f)) c h (form_length ∙ e)

  module _ (s t : List ℕ) (c : Charges) (a : Result Charges Refusal) (e : a ≡ charged c (4 + z)) (ne : z ≡ 0 → ⊥) where
    pub form_bought : (c₁ d : Charges) (n : ℕ) → Put f s t c₁ d (atom (take z (drop at f))) → (Unit {0} → a ≡ Ok c₁) → n ≡ c₁.end → MadeOk f s t c (atom_cost (take z (drop at f))) (atom (take z (drop at f))) (Ok (record { node = n; ch = d }))
    form_bought = atom_bought f s t c (take z (drop at f)) (4 + z) a e (rw form_length) (λ y. ne (sym form_length ∙ y))

    pub form_over : (r : Refusal) → a ≡ Err r → MadeOk f s t c (atom_cost (take z (drop at f))) (atom (take z (drop at f))) (Err r)
    form_over = atom_over f s t c (take z (drop at f)) (4 + z) a e (rw form_length) (λ y. ne (sym form_length ∙ y))

-- ---- the free makers

module _ (f s : List ℕ) (c c₁ : Charges) (k : ℕ) (e : c₁ ≡ lend c k) (fits : c.free + k ≤ free_limit) where
  pub free_ready : (m : ℕ) → Ready f s c m → Ready f s c₁ m
  free_ready m r = rw e (ready_lent k r fits)

  pub free_held : Held f s c → Held f s c₁
  free_held h = rw e (held_lent k h fits)

pub free_paid : (f s : List ℕ) (c c₁ : Charges) (k m : ℕ) → c₁ ≡ lend c k → Ready f s c m → Paid c₁ k
free_paid f s c c₁ k m e r = rw e (paid_lent k r.held)

pub free_paid_held : (f s : List ℕ) (c c₁ : Charges) (k : ℕ) → c₁ ≡ lend c k → Held f s c → Paid c₁ k
free_paid_held f s c c₁ k e h = rw e (paid_lent k h)

pub laid : (f s t : List ℕ) (c c₁ d : Charges) (k n : ℕ) (x : Tree) → Put f s t c₁ d x → c₁ ≡ lend c k → n ≡ c₁.end → LaidOk f s t c k x (record { node = n; ch = d })
laid f s t c c₁ d k n x p e en =
    let e₁ : c₁.end ≡ c.end = ap (λ (z : Charges). z.end) e in
    let eu : c₁.units ≡ c.units = ap (λ (z : Charges). z.units) e in
    let ef : c₁.free ≡ c.free + k = ap (λ (z : Charges). z.free) e in
    rw en (record { stands = stands_from e₁ p.stands; units = p.units ∙ eu; free = p.free ∙ ef })

-- ---- what callers of the charged makers go by

module _ (f s t : List ℕ) (c : Charges) (k : ℕ) (x : Tree) (a : Result Made Refusal) (h : MadeOk f s t c k x a) where
  pub made_node : (q : Made) → a ≡ Ok q → Bought f s t c q.ch k q.node x
  unfolding MadeOk
  made_node q e = rw e at h

  pub made_over : (r : Refusal) → a ≡ Err r → Over c k r
  unfolding MadeOk
  made_over r e = rw e at h

-- the test that the definitions make
pub bought_fits : {f s t : List ℕ} {c d : Charges} {k q : ℕ} {x : Tree} → Bought f s t c d k q x → leb (c.units + k) unit_limit ≡ true
bought_fits {f} {s} {t} {c} {d} {k} b =
    let o : d.units ≤ unit_limit = b.stands.ready.held.units in
    let e : d.units ≡ c.units + k = b.units in
    let p : c.units + k ≤ unit_limit = omega arith in
    le-leb _ _ p

pub over_fits_not : {c : Charges} {k : ℕ} {r : Refusal} → Over c k r → leb (c.units + k) unit_limit ≡ false
over_fits_not o = lt-leb _ _ o.over
