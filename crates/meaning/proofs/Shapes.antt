-- The expressions that the rules' patterns match, and what they bind. Assumes nothing.
use Prim.Native.Nat.{ℕ}
use mathlib.Core.Path.{◌≡◌, refl, sym, ◌∙◌}
use mathlib.Core.List.{List, [], ◌∷◌}
use mathlib.Core.Option.{none, some}
use Rattle.meaning.specs.Tree.{Tree, atom, pair, nil, byte, same_bytes}
use Rattle.meaning.specs.Match.{Match, Binding, matched, no_match, too_many_names, match_sexp, got}
use Rattle.meaning.specs.Substitute.{first_name, rest_name, cons_pattern}
use Rattle.meaning.specs.Rules.{cons_optimizer_pattern, sexp_name, args_name, apply_pattern, applied, both_got, applied_of, atom_name, atom_pattern, quote_pattern_1, apply_null_pattern_1}
use Rattle.meaning.proofs.MatchLaws.{match_atom, match_pair, match_list, match_leaves, match_any, AtLeaf, leaf, node, match_leaf, bind, name_1, name_2}

-- (c A B)
abbrev pub cons_of : Tree → Tree → Tree
cons_of a b = pair (byte 4) (pair a (pair b nil))

-- (a (q . S) ARGS)
abbrev pub apply_of : Tree → Tree → Tree
apply_of s a = pair (byte 2) (pair (pair (byte 1) s) (pair a nil))

-- (f X) for 5, (r X) for 6
abbrev pub part_of : ℕ → Tree → Tree
part_of o x = pair (byte o) (pair x nil)

-- `cons_pattern` matches (c A B) only, and binds A and B
pub cons_shape : (s : Tree) (ks js : List Binding) → [] ≡ ks → match_sexp cons_pattern s ks ≡ matched js
    → (a b : Tree) × (s ≡ cons_of a b) × (js ≡ bind first_name a ∷ bind rest_name b ∷ [])
unfolding cons_pattern same_bytes
cons_shape s ks js k0 h =
    let m1 = match_pair _ _ _ s ks js h in
    let (i1, k1) = match_atom _ _ _ _ m1.on_left in
    let m2 = match_list _ _ _ _ _ _ m1.on_right in
    let k2 = name_1 _ _ _ _ (k0 ∙ k1) (sym (match_any _ _ _ _ _) ∙ m2.on_left) in
    let m3 = match_list _ _ _ _ _ _ m2.on_right in
    let k3 = name_2 _ _ _ _ _ _ refl k2 (sym (match_any _ _ _ _ _) ∙ m3.on_left) in
    let (i4, k4) = match_atom _ _ _ _ m3.on_right in
    (m2.left, m3.left, cc, cc)

-- the patterns of `cons_optimizer` match (f (c A B)) and (r (c A B)) only, and bind A and B
pub part_of_cons_shape : (o : ℕ) (s : Tree) (js : List Binding) → match_sexp (cons_optimizer_pattern o) s [] ≡ matched js
    → (a b : Tree) × (s ≡ part_of o (cons_of a b)) × (js ≡ bind first_name a ∷ bind rest_name b ∷ [])
unfolding cons_optimizer_pattern
part_of_cons_shape o s js h =
    let m1 = match_pair _ _ _ s [] js h in
    let (i1, k1) = match_atom _ _ _ _ m1.on_left in
    let m2 = match_list _ _ _ _ _ _ m1.on_right in
    let (a, b, i3, k3) = cons_shape _ _ _ k1 m2.on_left in
    let (i4, k4) = match_atom _ _ _ _ m2.on_right in
    (a, b, cc, cc)

-- `cons_q_a_optimizer_pattern` matches (a (q . S) ARGS) only, and binds S and ARGS
apply_shape : (s : Tree) (js : List Binding) → match_sexp apply_pattern s [] ≡ matched js
    → (b a : Tree) × (s ≡ apply_of b a) × (js ≡ bind sexp_name b ∷ bind args_name a ∷ [])
unfolding apply_pattern same_bytes
apply_shape s js h =
    let m1 = match_pair _ _ _ s [] js h in
    let (i1, k1) = match_atom _ _ _ _ m1.on_left in
    let m2 = match_list _ _ _ _ _ _ m1.on_right in
    let m3 = match_pair _ _ _ _ _ _ m2.on_left in
    let (i3, k3) = match_atom _ _ _ _ m3.on_left in
    let k4 = name_1 _ _ _ _ (k1 ∙ k3) (sym (match_any _ _ _ _ _) ∙ m3.on_right) in
    let m5 = match_list _ _ _ _ _ _ m2.on_right in
    let k5 = name_2 _ _ _ _ _ _ refl k4 (sym (match_any _ _ _ _ _) ∙ m5.on_left) in
    let (i6, k6) = match_atom _ _ _ _ m5.on_right in
    (m3.right, m5.left, cc, cc)

-- the S and the ARGS that a rule takes are those of (a (q . S) ARGS)
pub applied_shape : (r s a : Tree) → applied_of r ≡ applied s a → r ≡ apply_of s a
unfolding applied_of
applied_shape r s a h = go (match_sexp apply_pattern r []) refl h
  where
    go : (m : Match) → match_sexp apply_pattern r [] ≡ m → both_got (got sexp_name m) (got args_name m) ≡ applied s a → r ≡ apply_of s a
    go (matched ks) e k =
        let (x, y, i, j) = apply_shape r ks e in
        let k' : applied x y ≡ applied s a = rw j at k in
        cc
    go (no_match ds) e k = cc
    go too_many_names e k = cc

-- `quote_pattern_1` matches (q . 0) only
pub quote_null_shape : (s : Tree) (js : List Binding) → match_sexp quote_pattern_1 s [] ≡ matched js → s ≡ pair (byte 1) nil
unfolding quote_pattern_1
quote_null_shape s js h =
    let m = match_leaves _ s [] js h in
    let (e, k) = match_atom _ _ _ _ m.on_left in
    let (f, l) = match_atom _ _ _ _ m.on_right in
    cc

-- `apply_null_pattern_1` matches (a 0 . any) only
pub apply_null_shape : (s : Tree) (js : List Binding) → match_sexp apply_null_pattern_1 s [] ≡ matched js → (t : Tree) × (s ≡ pair (byte 2) (pair nil t))
unfolding apply_null_pattern_1
apply_null_shape s js h =
    let m1 = match_pair _ _ _ s [] js h in
    let (i1, k1) = match_atom _ _ _ _ m1.on_left in
    let m2 = match_pair _ _ _ _ _ _ m1.on_right in
    let (i2, k2) = match_atom _ _ _ _ m2.on_left in
    (m2.right, cc)

part_of_leaf : (o : ℕ) (s t : Tree) (js : List Binding) → match_sexp (atom_pattern o) s [] ≡ matched js → got atom_name (matched js) ≡ some t → s ≡ part_of o t
unfolding atom_pattern got same_bytes
part_of_leaf o s t js h g =
    let m1 = match_pair _ _ _ s [] js h in
    let (i1, k1) = match_atom _ _ _ _ m1.on_left in
    let m2 = match_list _ _ _ _ _ _ m1.on_right in
    let (i4, k4) = match_atom _ _ _ _ m2.on_right in
    let l : t ≡ m2.left = go m2.left m1.between m2.between k1 k4 (match_leaf _ _ _ _ _ _ m2.on_left) in
    cc
  where
    go : (u : Tree) (ks is : List Binding) → [] ≡ ks → is ≡ js → AtLeaf atom_name ks is u → t ≡ u
    go u ks is e f (leaf b c) =
        let k : js ≡ bind atom_name (atom b) ∷ [] = sym f ∙ name_1 _ _ _ _ e c in
        let g' : some (atom b) ≡ some t = rw k at g in
        cc
    go u ks is e f (node l r c) =
        let k : js ≡ [] = cc in
        let g' : none ≡ some t = rw k at g in
        cc

-- the name `atom` is bound by (f N) and (r N) only, to N
pub part_of_atom_shape : (o : ℕ) (s t : Tree) → got atom_name (match_sexp (atom_pattern o) s []) ≡ some t → s ≡ part_of o t
unfolding got
part_of_atom_shape o s t g = go (match_sexp (atom_pattern o) s []) refl g
  where
    go : (m : Match) → match_sexp (atom_pattern o) s [] ≡ m → got atom_name m ≡ some t → s ≡ part_of o t
    go (matched js) e k = part_of_leaf o s t js e k
    go (no_match ds) e k = cc
    go too_many_names e k = cc
