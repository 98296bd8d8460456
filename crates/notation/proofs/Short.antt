-- A tree's text is not much longer than its form and its cost together: the text of a form within the limits is within the text's. Assumes nothing.
use Prim.Native.Nat.{ℕ, ◌+◌, ◌*◌, ◌≤◌, ◌<◌}
use mathlib.Core.Path.{◌≡◌}
use mathlib.Core.List.{List, [], ◌∷◌, ◌++◌}
use mathlib.Core.Bool.{Bool, true, false}
use mathlib.Core.Option.{Option, none, some}
use lib.Dec.{ltb}
use lib.ListN.{length, length-append}
use native.Mathlib.Omega.{arith}
use Rattle.meaning.specs.Tree.{Tree, atom, pair}
use Rattle.meaning.specs.Limits.{form_limit, unit_limit, atom_cost}
use Rattle.meaning.specs.Form.{write_length, write_atom, write, tree_cost}
use Rattle.meaning.proofs.Tests.{on_bool}
use Rattle.notation.specs.declared.Place.{Place}
use Rattle.notation.specs.declared.Place.TheVariants.{Code}
use Rattle.notation.specs.Words.{name_at, hex, atom_text}
use Rattle.notation.specs.Texts.{text_limit, head_in, after, text_at, text_rest, text_of}
use Rattle.notation.proofs.HexLaws.{hex_length}

-- ---- an atom

-- a prefix has a byte at least
some_prefix : (b : Bool) (x : ℕ) (xs ys : List ℕ) → 1 ≤ length ys → 1 ≤ length {A = ℕ} (elim b [ true ↦ x ∷ xs | false ↦ ys ])
some_prefix true x xs ys h = omega arith
some_prefix false x xs ys h = h

prefix_length : (n : ℕ) → 1 ≤ length (write_length n)
unfolding write_length
prefix_length n =
    some_prefix (ltb n 0x40) _ _ _ (some_prefix (ltb n 0x2000) _ _ _ (some_prefix (ltb n 0x10_0000) _ _ _ (some_prefix (ltb n 0x800_0000) _ _ _ (omega arith))))

-- what an atom's form and cost allow for its text
written_atom : (b : ℕ) (bs : List ℕ) → 10 + 10 * length (b ∷ bs) ≤ 10 * length (write_atom (b ∷ bs)) + 2 * atom_cost (b ∷ bs)
unfolding write_atom atom_cost
written_atom b [] = on_bool (ltb b 0x80) (λ e. rw (e, write_atom) (omega arith)) (λ e. rw (e, write_atom) (omega arith))
written_atom b (c ∷ bs) =
    let e : length (write_length (length (b ∷ c ∷ bs)) ++ (b ∷ c ∷ bs)) ≡ length (write_length (length (b ∷ c ∷ bs))) + length (b ∷ c ∷ bs) =
    length-append (write_length (length (b ∷ c ∷ bs))) (b ∷ c ∷ bs) in
    let l : 1 ≤ length (write_length (length (b ∷ c ∷ bs))) = prefix_length (length (b ∷ c ∷ bs)) in
    omega arith

-- a name, or two digits a byte behind `0x`
atom_length : (p : Place) (b : ℕ) (bs : List ℕ) → length (atom_text p (b ∷ bs)) ≤ 2 + 2 * length (b ∷ bs)
unfolding atom_text
atom_length p b bs = go (name_at p (b ∷ bs))
  where
    go : (o : Option ℕ) → length {A = ℕ} (elim o [ some c ↦ c ∷ [] | none ↦ 0x30 ∷ 0x78 ∷ hex (b ∷ bs) ]) ≤ 2 + 2 * length (b ∷ bs)
    go none = let e : length (hex (b ∷ bs)) ≡ 2 * length (b ∷ bs) = hex_length (b ∷ bs) in omega arith
    go (some c) = omega arith

-- ---- a tree

-- five times what a tree's form and cost allow for its text
abbrev Allowed : Tree → ℕ
Allowed t = 10 * length (write t) + 2 * tree_cost t

pair_allowed : (l r : Tree) → Allowed (pair l r) ≡ 26 + Allowed l + Allowed r
unfolding write tree_cost
pair_allowed l r = let e : length (write l ++ write r) ≡ length (write l) + length (write r) = length-append (write l) (write r) in omega arith

two_lengths : (l r : Tree) (a b : List ℕ) → 5 * length a ≤ Allowed l → 5 * length b ≤ Allowed r + 20 → 5 * length (0x28 ∷ (a ++ b)) ≤ Allowed (pair l r)
two_lengths l r a b h i = let e : length (a ++ b) ≡ length a + length b = length-append a b in let f = pair_allowed l r in omega arith

short : (t : Tree) → ((p : Place) → 5 * length (text_at t p) ≤ Allowed t) × ((p : Place) → 5 * length (text_rest t p) ≤ Allowed t + 20)
unfolding text_at text_rest write write_atom tree_cost atom_cost atom_text
short (atom []) = (λ p. omega arith, λ p. omega arith)
short (atom (b ∷ bs)) = (λ p. at p, λ p. behind p)
  where
    at : (p : Place) → 5 * length (atom_text p (b ∷ bs)) ≤ 10 * length (write_atom (b ∷ bs)) + 2 * atom_cost (b ∷ bs)
    at p = let l = atom_length p b bs in let w = written_atom b bs in omega arith

    behind : (p : Place) → 5 * length (0x20 ∷ 0x2e ∷ 0x20 ∷ (atom_text p (b ∷ bs) ++ (0x29 ∷ []))) ≤ 10 * length (write_atom (b ∷ bs)) + 2 * atom_cost (b ∷ bs) + 20
    behind p =
        let e : length (atom_text p (b ∷ bs) ++ (0x29 ∷ [])) ≡ length (atom_text p (b ∷ bs)) + 1 = length-append (atom_text p (b ∷ bs)) (0x29 ∷ []) in
        let l = at p in
        omega arith
short (pair l r) =
    let (la, lr) = short l in
    let (ra, rr) = short r in (
      λ p. two_lengths l r (text_at l (head_in p)) (text_rest r (after (head_in p) l)) (la (head_in p)) (rr (after (head_in p) l)),
      λ p.
          let n : 5 * length (0x28 ∷ (text_at l p ++ text_rest r (after p l))) ≤ Allowed (pair l r) = two_lengths l r (text_at l p) (text_rest r (after p l)) (la p) (rr (after p l)) in
          omega arith,
    )

-- The length of a tree's text, by its form's length and its cost.
pub text_short : (t : Tree) → 5 * length (text_of t) ≤ 10 * length (write t) + 2 * tree_cost t
unfolding text_of
text_short t = (short t).0 Code

-- The text of a tree whose form and cost are within 01's limits is within the text's.
pub text_within : (t : Tree) → length (write t) ≤ form_limit → tree_cost t ≤ unit_limit → length (text_of t) < text_limit
text_within t h i = let l = text_short t in omega arith
