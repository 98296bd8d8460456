-- What each return of the reader needs. Assumes nothing.
use mathlib.Core.Path.{◌≡◌, refl, sym, ◌∙◌, ap, subst}
use mathlib.Core.List.{List, [], ◌∷◌}
use Prim.Native.Nat.{ℕ, suc, ◌+◌, ◌-◌, ◌*◌, ◌<◌, ◌≤◌}
use native.Mathlib.Omega.{arith}
use lib.ListN.{length, get_or, take, drop, set, length-set}
use lib.Seq.{get_or-set_same}
use borrow.Author.Tests.{le-leb}
use mir.Syntax.{w64}
use mir.Val.{Fits}
use Rattle.std.specs.Prelude.{Result, Ok, Err}
use Rattle.refusals.specs.declared.Refusal.{Refusal}
use Rattle.refusals.specs.declared.Refusal.TheVariants.{EndsEarly, AtomLong, UnitsOut}
use Rattle.meaning.specs.Tree.{Tree, atom, pair, byte}
use Rattle.meaning.specs.Limits.{unit_limit, atom_cost, pair_cost}
use Rattle.meaning.specs.Meter.{Out, M, ◌>>=◌, ◌>>◌, give}
use Rattle.meaning.specs.Form.{Reading, limits, spend, length_from, read_long, read_atom}
use Rattle.meaning.proofs.MeterLaws.{bind_at, seq_at}
use Rattle.meaning.proofs.ReaderLaws.{spend_at}
use Rattle.store.specs.declared.Charges.{Charges}
use Rattle.store.specs.declared.Made.{Made}
use Rattle.store.specs.Nodes.{tree_at}
use Rattle.store.specs.Store.{Held, Ready}
use Rattle.store.specs.Makers.{Grown, Bought, Over, MadeOk}
use Rattle.store.proofs.Ready.{nil_ready, grown_none, grown_both}
use Rattle.form.specs.declared.Parsed.{Parsed}
use Rattle.form.specs.declared.Closed.{Closed}
use Rattle.form.specs.Spans.{span, left_from, next_tree, Stops, LengthOk}
use Rattle.form.specs.Reads.{Stretch, ReadTo, ReadOk, reading_of}
use Rattle.form.specs.Waits.{resume, Waits, ClosedTo, ClosedStops, ClosedOk}
use Rattle.form.proofs.Spans.{bind_stops, seq_stops, spend_stops, same_stops}
use Rattle.form.proofs.Trees.{tree_none, tree_atom}
use Rattle.form.proofs.Waits.{waits_none, waits_fewer, waits_grown, waits_set, resume_none, resume_open, resume_left, resume_pair, resume_over, resume_set, resume_grown}
use Rattle.form.proofs.Atoms as atoms

-- ---- what was made, and where the next byte stands

pub next_node : (m : Result Made Refusal) (x : Made) (next : ℕ) → m ≡ Ok x → Ok (record { node = x.node; next = next; ch = x.ch }) ≡ reading_of m next
unfolding reading_of
next_node m x next e = rw e

pub next_refused : (m : Result Made Refusal) (next : ℕ) (n : Refusal) → m ≡ Err n → Err n ≡ reading_of m next
unfolding reading_of
next_refused m next n e = rw e

-- an atom that is made and charged
made_read : (f s s' : List ℕ) (end at next : ℕ) (c : Charges) (cost : ℕ) (t : Tree) (o : Out Reading Tree) (m : Result Made Refusal) → MadeOk f s s' c cost t m
    → o ≡ (spend limits cost >> give t) (left_from f next end c.units) → at ≤ next → next ≤ end → ReadOk f s s' end at c o (reading_of m next)
unfolding MadeOk ReadOk reading_of give
made_read f s s' end at next c cost t o (Ok x) b e h k =
    let i : x.ch.units ≡ c.units + cost = b.units in
    let g : c.units + cost ≤ unit_limit = omega (arith, b.stands.ready.held.units) in
    record {
      after = h;
      within = k;
      grown = b.stands.grown;
      ready = b.stands.ready;
      free = b.free;
      is = e
          ∙ seq_at (spend limits cost) (give t) (left_from f next end c.units) (left_from f next end (c.units + cost)) tt (spend_at limits cost _ c.units (le-leb (c.units + cost) unit_limit g))
          ∙ rw (i, b.stands.tree);
    }
made_read f s s' end at next c cost t o (Err n) b e h k =
    subst (Stops o) (sym b.refusal) (same_stops e (seq_stops (spend limits cost) (give t) (left_from f next end c.units) UnitsOut (spend_stops cost (left_from f next end c.units) b.over)))

-- ---- an atom with a prefix

module _ (f s : List ℕ) (end at : ℕ) (c : Charges) (p : ℕ) (r : Result (ℕ × ℕ) Refusal) (o : LengthOk f end at (length_from p) r) where
  pub long_refused : (s' : List ℕ) (e : Refusal) → r ≡ Err e → ReadOk f s s' end at c (read_long limits p (left_from f at end c.units)) (Err e)
  unfolding ReadOk
  long_refused s' e i = atoms.long_stops f end at p c.units r o e i

  module _ (n from : ℕ) (i : r ≡ Ok (n, from)) where
    pub long_wide : (s' : List ℕ) → 64 < n → ReadOk f s s' end at c (read_long limits p (left_from f at end c.units)) (Err AtomLong)
    unfolding ReadOk
    long_wide s' h = atoms.long_wide f end at p c.units r o n from i h

    pub long_within : from ≤ end
    long_within = atoms.from_within f end at p c.units r o n from i

    pub long_ends : (s' : List ℕ) → Stretch f end at → n ≤ 64 → end - from < n → ReadOk f s s' end at c (read_long limits p (left_from f at end c.units)) (Err EndsEarly)
    unfolding ReadOk
    long_ends s' z h l = atoms.long_ends f end at p c.units r o n from i z.lent h l

    pub long_part : Stretch f end at → n ≤ end - from → from + n ≤ length f
    long_part z l = omega (arith, z.lent, long_within)

    pub long_place : Stretch f end at → from < 65536
    long_place z = omega (arith, z.small, long_within)

    pub long_made : (s' : List ℕ) (a : Result Parsed Refusal) (m : Result Made Refusal) → a ≡ reading_of m (from + n) → MadeOk f s s' c (atom_cost (take n (drop from f))) (atom (take n (drop from f))) m
        → Stretch f end at → n ≤ 64 → n ≤ end - from → ReadOk f s s' end at c (read_long limits p (left_from f at end c.units)) a
    long_made s' a m ea k z h l =
        let fit : from + n ≤ end = omega (arith, long_within) in
        rw ea
        (made_read f s s' end at (from + n) c (atom_cost (take n (drop from f))) (atom (take n (drop from f))) (read_long limits p (left_from f at end c.units)) m k
        (atoms.long_made f end at p c.units r o n from i z.lent h fit)
        (let y : at ≤ from = atoms.from_after f end at p c.units r o n from i in omega arith) fit)

-- ---- by the first byte

module _ (f s : List ℕ) (end at : ℕ) (c : Charges) (z : Stretch f end at) (h : at < end) (n : get_or f at 0 ≡ 255 → ⊥) (p : ℕ) (e : p ≡ get_or f at 0) where
  by_atom : next_tree (left_from f at end c.units) ≡ read_atom limits p (left_from f (at + 1) end c.units)
  by_atom = rw e (tree_atom f at end c.units h z.lent n)

  pub atom_alone : (s' : List ℕ) (a : Result Parsed Refusal) (m : Result Made Refusal) → a ≡ reading_of m (at + 1) → MadeOk f s s' c (atom_cost (take 1 (drop at f))) (atom (take 1 (drop at f))) m → p < 128
      → ReadOk f s s' end (at + 1) c (next_tree (left_from f at end c.units)) a
  unfolding atom_cost
  atom_alone s' a m ea k l =
      let y : take 1 (drop at f) ≡ p ∷ [] = rw e (atoms.one_byte f at (omega (arith, z.lent))) in
      rw ea
      (made_read f s s' end (at + 1) (at + 1) c 5 (byte p) (next_tree (left_from f at end c.units)) m (rw y at k)
      (by_atom ∙ atoms.atom_byte p (left_from f (at + 1) end c.units) l) (omega arith) (omega arith))

  pub atom_nil : Held f s c → p ≡ 128 → ReadOk f s s end (at + 1) c (next_tree (left_from f at end c.units)) (Ok (record { node = 0; next = (at + 1); ch = c }))
  unfolding ReadOk
  atom_nil w l = record {
    after = omega arith;
    within = omega arith;
    grown = grown_none f s c w;
    ready = nil_ready f s c w;
    free = refl;
    is = by_atom ∙ atoms.atom_nil p (left_from f (at + 1) end c.units) l ∙ rw w.nil_at;
  }

  pub atom_long : (s' : List ℕ) (a : Result Parsed Refusal) → ReadOk f s s' end (at + 1) c (read_long limits p (left_from f (at + 1) end c.units)) a → 128 ≤ p → (p ≡ 128 → ⊥)
      → ReadOk f s s' end (at + 1) c (next_tree (left_from f at end c.units)) a
  atom_long s' a k l m = subst (λ (o : Out Reading Tree). ReadOk f s s' end (at + 1) c o a) (sym (by_atom ∙ atoms.atom_long p (left_from f (at + 1) end c.units) l m)) k

-- ---- the pairs that a node ends

-- so far: what was left to do with q in the room s₀ is left to do with node in the room s
pub record Closing (f s₀ s w : List ℕ) (k q : ℕ) (c₀ c : Charges) (node left : ℕ) : Type 0 where
  pub fewer : left ≤ k
  pub grown : Grown f s₀ s c₀ c
  pub ready : Ready f s c node
  pub waits : Waits f s w c left
  pub free : c.free ≡ c₀.free
  pub is : (l : List ℕ) → resume f s₀ w k (tree_at f s₀ q) (record { left = l; units = c₀.units }) ≡ resume f s w left (tree_at f s node) (record { left = l; units = c.units })

module _ (f s₀ s w : List ℕ) (k q : ℕ) (c₀ c : Charges) (node left : ℕ) (a : Closing f s₀ s w k q c₀ c node left) where
  closed : (0 < left → get_or w (left - 1) 0 ≡ 0xffff) → ClosedOk f s₀ s w k q c₀ (Ok (record { node = node; left = left; ch = c }))
  unfolding ClosedOk
  closed h = record { fewer = a.fewer; opened = h; grown = a.grown; ready = a.ready; free = a.free; is = a.is }

  pub close_all : left ≤ 0 → ClosedOk f s₀ s w k q c₀ (Ok (record { node = node; left = 0; ch = c }))
  close_all h = let z : left ≡ 0 = omega arith in rw (← z) (closed (λ o. absurd (omega arith)))

  pub close_open : 0 < left → get_or w (left - 1) 0 ≡ 0xffff → ClosedOk f s₀ s w k q c₀ (Ok (record { node = node; left = left - 1 + 1; ch = c }))
  close_open h z = let y : left - 1 + 1 ≡ left = omega arith in rw y (closed (λ o. z))

  module _ (h : 0 < left) (n : get_or w (left - 1) 0 ≡ 0xffff → ⊥) where
    -- the left part that waits last
    abbrev v : ℕ
    v = get_or w (left - 1) 0

    less : left ≡ suc (left - 1)
    less = omega arith

    one_less : (l : List ℕ) → resume f s₀ w k (tree_at f s₀ q) (record { left = l; units = c₀.units }) ≡ resume f s w (suc (left - 1)) (tree_at f s node) (record { left = l; units = c.units })
    one_less l = a.is l ∙ ap (λ (j : ℕ). resume f s w j (tree_at f s node) (record { left = l; units = c.units })) less

    module _ (s₁ : List ℕ) (m : Result Made Refusal) (b : MadeOk f s s₁ c pair_cost (pair (tree_at f s v) (tree_at f s node)) m) where
      pub close_over : (x : Refusal) → m ≡ Err x → ClosedOk f s₀ s₁ w k q c₀ (Err x)
      unfolding ClosedOk MadeOk
      close_over x i = let y : Over c pair_cost x = rw i at b in
          record {
            is = λ l. subst (Stops (resume f s₀ w k (tree_at f s₀ q) (record { left = l; units = c₀.units }))) (sym y.refusal)
                (same_stops (one_less l) (resume_over f s w (left - 1) n (tree_at f s node) (record { left = l; units = c.units }) y.over));
          }

      pub close_turn : (p : Made) → m ≡ Ok p → Closing f s₀ s₁ w k q c₀ p.ch p.node (left - 1)
      unfolding MadeOk
      close_turn p i =
          let y : Bought f s s₁ c p.ch pair_cost p.node (pair (tree_at f s v) (tree_at f s node)) = rw i at b in
          let u : p.ch.units ≡ c.units + pair_cost = y.units in
          let g : c.units + pair_cost ≤ unit_limit = omega (arith, y.stands.ready.held.units) in
          let x : Waits f s w c (left - 1) = waits_fewer (left - 1) (omega arith) a.waits in
          record {
            fewer = omega (arith, a.fewer);
            grown = grown_both a.grown y.stands.grown;
            ready = y.stands.ready;
            waits = waits_grown y.stands.grown x;
            free = y.free ∙ a.free;
            is = λ l. one_less l ∙ resume_pair f s w (left - 1) n (tree_at f s node) (record { left = l; units = c.units }) g ∙ rw (u, y.stands.tree, resume_grown y.stands.grown x);
          }

-- ---- a tree

-- so far: what is left to do from at on is left to do from next on, with the k pairs that wait
pub record Going (f s₀ s w : List ℕ) (end at : ℕ) (c₀ c : Charges) (k next : ℕ) : Type 0 where
  pub lent : end ≤ length f
  pub small : end < 65536
  pub room : end - at ≤ length w
  pub after : at + k ≤ next
  pub within : next ≤ end
  pub grown : Grown f s₀ s c₀ c
  pub waits : Waits f s w c k
  pub free : c.free ≡ c₀.free
  pub is : next_tree (left_from f at end c₀.units) ≡ (next_tree >>= resume f s w k) (left_from f next end c.units)

pub going_starts : (f s w : List ℕ) (end at : ℕ) (c : Charges) → Held f s c → Stretch f end at → end - at ≤ length w → Going f s s w end at c c 0 at
going_starts f s w end at c h z o = record {
  lent = z.lent;
  small = z.small;
  room = o;
  after = omega arith;
  within = z.inside;
  grown = grown_none f s c h;
  waits = waits_none f s w c;
  free = refl;
  is = sym (resume_none f s w (left_from f at end c.units));
}

module _ {f s₀ s w : List ℕ} {end at : ℕ} {c₀ c : Charges} {k next : ℕ} (a : Going f s₀ s w end at c₀ c k next) where
  -- the form ends
  pub going_ends : end ≤ next → ReadOk f s₀ s end at c₀ (next_tree (left_from f at end c₀.units)) (Err EndsEarly)
  unfolding ReadOk
  going_ends h = same_stops a.is (bind_stops next_tree (resume f s w k) (left_from f next end c.units) EndsEarly (tree_none f next end c.units h))

  module _ (h : next < end) where
    pub going_room : k < length w
    going_room = omega (arith, a.room, a.after)

    pub going_open : get_or f next 0 ≡ 255 → Going f s₀ s (set w k 0xffff) end at c₀ c (k + 1) (next + 1)
    going_open e =
        let o : k < length w = going_room in
        let l : length (set w k 0xffff) ≡ length w = length-set w k 0xffff in
        let i : k + 1 ≡ suc k = omega arith in
        record {
          lent = a.lent;
          small = a.small;
          room = omega (arith, a.room);
          after = omega (arith, a.after);
          within = omega arith;
          grown = a.grown;
          waits = rw i (waits_set 0xffff a.waits o (λ n. absurd (n refl)));
          free = a.free;
          is = a.is
              ∙ ap (λ (g : Tree → M Reading Tree). (next_tree >>= g) (left_from f next end c.units)) (sym (resume_set f s w k 0xffff))
              ∙ resume_open f s (set w k 0xffff) k next end c.units h a.lent e (get_or-set_same w k 0xffff 0 o)
              ∙ ap (λ (j : ℕ). (next_tree >>= resume f s (set w k 0xffff) j) (left_from f (next + 1) end c.units)) (sym i);
        }

    module _ (s₁ : List ℕ) {r : Result Parsed Refusal} (o : ReadOk f s s₁ end (next + 1) c (next_tree (left_from f next end c.units)) r) where
      pub going_refused : {n : Refusal} → r ≡ Err n → ReadOk f s₀ s₁ end at c₀ (next_tree (left_from f at end c₀.units)) (Err n)
      unfolding ReadOk
      going_refused {n} e = let y : Stops (next_tree (left_from f next end c.units)) n = rw e at o in
          same_stops a.is (bind_stops next_tree (resume f s w k) (left_from f next end c.units) n y)

      module _ {a₁ : Parsed} (e : r ≡ Ok a₁) where
        abbrev q : ℕ
        q = a₁.node

        abbrev m : ℕ
        m = a₁.next

        abbrev c₁ : Charges
        c₁ = a₁.ch

        to : ReadTo f s s₁ end (next + 1) c c₁ (next_tree (left_from f next end c.units)) q m
        unfolding ReadOk
        to = rw e at o

        pub going_less : end - m < end - next
        going_less = omega (arith, to.after)

        pub going_ready : Ready f s₁ c₁ q
        going_ready = to.ready

        pub going_waits : Waits f s₁ w c₁ k
        going_waits = waits_grown to.grown a.waits

        whole : next_tree (left_from f at end c₀.units) ≡ resume f s₁ w k (tree_at f s₁ q) (left_from f m end c₁.units)
        whole = a.is
            ∙ bind_at next_tree (resume f s w k) (left_from f next end c.units) (left_from f m end c₁.units) (tree_at f s₁ q) to.is
            ∙ ap (λ (g : Tree → M Reading Tree). g (tree_at f s₁ q) (left_from f m end c₁.units)) (sym (resume_grown to.grown a.waits))

        module _ (s₂ : List ℕ) {x : Result Closed Refusal} (b : ClosedOk f s₁ s₂ w k q c₁ x) where
          pub going_over : {n : Refusal} → x ≡ Err n → ReadOk f s₀ s₂ end at c₀ (next_tree (left_from f at end c₀.units)) (Err n)
          unfolding ReadOk ClosedOk
          going_over {n} i = let y : ClosedStops f s₁ w k q c₁ n = rw i at b in same_stops whole (y.is (span f m end))

          module _ {z : Closed} (i : x ≡ Ok z) where
            by : ClosedTo f s₁ s₂ w k q c₁ z.ch z.node z.left
            unfolding ClosedOk
            by = rw i at b

            below : z.node < 65535
            below = let y = by.ready.held.store in omega (arith, by.ready.old, y.order, y.top)

            pub going_small : z.node < 65536
            going_small = omega (arith, below)

            pub going_scaled : Fits w64 ((z.left - 1) * 2)
            going_scaled = omega (arith, by.fewer, a.after, a.within, a.small)

            pub going_place : (z.left ≡ 0 → ⊥) → z.left - 1 < length w
            going_place n = omega (arith, by.fewer, a.waits.within)

            pub going_done : z.left ≡ 0 → ReadOk f s₀ s₂ end at c₀ (next_tree (left_from f at end c₀.units)) (Ok (record { node = z.node; next = m; ch = z.ch }))
            unfolding ReadOk resume give
            going_done g = record {
              after = omega (arith, a.after, to.after);
              within = to.within;
              grown = grown_both a.grown (grown_both to.grown by.grown);
              ready = by.ready;
              free = by.free ∙ to.free ∙ a.free;
              is = whole ∙ by.is (span f m end) ∙ rw g;
            }

            pub going_left : (z.left ≡ 0 → ⊥) → Going f s₀ s₂ (set w (z.left - 1) z.node) end at c₀ z.ch z.left m
            going_left n =
                let g : z.left ≡ suc (z.left - 1) = omega arith in
                let y : z.left - 1 < length w = going_place n in
                let l : length (set w (z.left - 1) z.node) ≡ length w = length-set w (z.left - 1) z.node in
                let v : Waits f s₂ w z.ch (z.left - 1) = waits_fewer (z.left - 1) (omega (arith, by.fewer)) (waits_grown (grown_both to.grown by.grown) a.waits) in
                record {
                  lent = a.lent;
                  small = a.small;
                  room = omega (arith, a.room);
                  after = omega (arith, a.after, to.after, by.fewer);
                  within = to.within;
                  grown = grown_both a.grown (grown_both to.grown by.grown);
                  waits = subst (λ (i : ℕ). Waits f s₂ (set w (z.left - 1) z.node) z.ch i) (sym g) (waits_set z.node v y (λ x. by.ready));
                  free = by.free ∙ to.free ∙ a.free;
                  is = whole ∙ by.is (span f m end)
                      ∙ ap (λ (i : ℕ). resume f s₂ w i (tree_at f s₂ z.node) (left_from f m end z.ch.units)) g
                      ∙ resume_left f s₂ (set w (z.left - 1) z.node) (z.left - 1) w z.node (left_from f m end z.ch.units) (by.opened (omega arith)) (get_or-set_same w (z.left - 1) z.node 0 y) (λ x. omega (arith, below)) (resume_set f s₂ w (z.left - 1) z.node)
                      ∙ ap (λ (i : ℕ). (next_tree >>= resume f s₂ (set w (z.left - 1) z.node) i) (left_from f m end z.ch.units)) (sym g);
                }
