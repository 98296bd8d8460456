-- Reading a tree from a stretch of bytes, by its first byte. Assumes nothing.
use mathlib.Core.Path.{◌≡◌, refl, ◌∙◌, ap}
use mathlib.Core.List.{List, ◌∷◌, ◌++◌}
use mathlib.Core.Bool.{Bool, true, false}
use Prim.Native.Nat.{ℕ, suc, ◌+◌, ◌<◌, ◌≤◌}
use native.Mathlib.Omega.{arith}
use lib.ListN.{length, get_or, length-append}
use lib.Dec.{eqb}
use borrow.Author.Tests.{ne_eqb}
use Rattle.refusals.specs.declared.Refusal.TheVariants.{EndsEarly}
use Rattle.meaning.specs.Tree.{Tree, pair}
use Rattle.meaning.specs.Limits.{pair_cost}
use Rattle.meaning.specs.Meter.{Out, done, stop, M, ◌>>=◌, ◌>>◌, give, refuse}
use Rattle.meaning.specs.Form.{Reading, limits, next, first_of, spend, read_atom, read}
use Rattle.meaning.proofs.WriteRead.{two_parts}
use Rattle.meaning.proofs.ReadWrite.{read_inv}
use Rattle.meaning.proofs.ReadEnough.{read_enough}
use Rattle.form.specs.Spans.{span, left_from, next_tree, Stops, stops}
use Rattle.form.specs.Waits.{paired, right_of}
use Rattle.form.proofs.Spans.{span_cons, span_none}

-- reading leaves no more bytes than there were
fewer : (k : ℕ) (t : Tree) (s s' : Reading) → read limits k s ≡ done t s' → length s'.left ≤ length s.left
fewer k t s s' h =
    let r = read_inv limits k t s s' h in
    let e : length s.left ≡ length (r.taken ++ s'.left) = ap length r.took.bytes in
    omega (arith, length-append r.taken s'.left)

pair_from : (l : List ℕ) (u : ℕ) → read limits (suc (length l)) (record { left = 255 ∷ l; units = u }) ≡ (next_tree >>= right_of) (record { left = l; units = u })
unfolding read next first_of next_tree right_of paired ◌>>=◌
pair_from l u = go (read limits (length l) s) refl
  where
    s : Reading
    s = record { left = l; units = u }

    rest : ℕ → Tree → M Reading Tree
    rest k t = read limits k >>= λ r. spend limits pair_cost >> give (pair t r)

    go : (o : Out Reading Tree) → read limits (length l) s ≡ o
        → ◌≡◌ {A = Out Reading Tree} (elim o [ done a t ↦ rest (length l) a t | stop n t ↦ stop n t ]) (elim o [ done a t ↦ right_of a t | stop n t ↦ stop n t ])
    go (done a t) e = ap (λ (o : Out Reading Tree). elim o as (λ _. Out Reading Tree) [ done b t ↦ (spend limits pair_cost >> give (pair a b)) t | stop n t ↦ stop n t ])
        (read_enough limits (length l) (length t.left) t (fewer (length l) a s t e) (omega arith))
    go (stop n t) e = refl

atom_from : (x : ℕ) (l : List ℕ) (u : ℕ) → eqb x 255 ≡ false → read limits (suc (length l)) (record { left = x ∷ l; units = u }) ≡ read_atom limits x (record { left = l; units = u })
unfolding read next first_of ◌>>=◌
atom_from x l u e = ap (λ (c : Bool). (elim c as (λ _. M Reading Tree) [ true ↦ two_parts limits (length l) | false ↦ read_atom limits x ]) (record { left = l; units = u })) e

module _ (f : List ℕ) (at end u : ℕ) where
  tree_cons : at < end → end ≤ length f
      → next_tree (left_from f at end u) ≡ read limits (suc (length (span f (at + 1) end))) (record { left = get_or f at 0 ∷ span f (at + 1) end; units = u })
  unfolding next_tree
  tree_cons h k = ap (λ (l : List ℕ). read limits (length l) (record { left = l; units = u })) (span_cons f at end h k)

  pub tree_none : end ≤ at → Stops (next_tree (left_from f at end u)) EndsEarly
  unfolding next_tree read refuse
  tree_none h = stops _ (ap (λ (l : List ℕ). read limits (length l) (record { left = l; units = u })) (span_none f at end h))

  pub tree_atom : at < end → end ≤ length f → (get_or f at 0 ≡ 255 → ⊥) → next_tree (left_from f at end u) ≡ read_atom limits (get_or f at 0) (left_from f (at + 1) end u)
  tree_atom h k n = tree_cons h k ∙ atom_from (get_or f at 0) (span f (at + 1) end) u (ne_eqb (get_or f at 0) 255 n)

  pub tree_pair : at < end → end ≤ length f → get_or f at 0 ≡ 255 → next_tree (left_from f at end u) ≡ (next_tree >>= right_of) (left_from f (at + 1) end u)
  tree_pair h k e = tree_cons h k
      ∙ ap (λ (x : ℕ). read limits (suc (length (span f (at + 1) end))) (record { left = x ∷ span f (at + 1) end; units = u })) e
      ∙ pair_from (span f (at + 1) end) u
