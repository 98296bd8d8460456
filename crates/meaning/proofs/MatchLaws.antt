-- What a match says of the expression. Assumes nothing.
use Prim.Native.Nat.{ℕ}
use mathlib.Core.Path.{◌≡◌, refl, sym, ◌∙◌, subst, ap}
use mathlib.Core.List.{List, [], ◌∷◌}
use mathlib.Core.Bool.{Bool, true, false}
use mathlib.Core.Option.{none}
use Rattle.meaning.specs.Tree.{Tree, atom, pair, byte, same_bytes}
use Rattle.meaning.specs.Match.{Match, Binding, matched, no_match, too_many_names, match_sexp, get, unify_bindings, ◌and_then◌, in_part, atom_match, sexp_match}
use Rattle.meaning.proofs.TreeLaws.{same_bytes_sound}

IsMatched : Match → Type 0
IsMatched (matched ks) = Unit {0}
IsMatched (no_match ds) = ⊥
IsMatched too_many_names = ⊥

not_no_match : {X : Type 0} {ds : List Bool} {ks : List Binding} → no_match ds ≡ matched ks → X
unfolding IsMatched
not_no_match h = absurd (subst IsMatched (sym h) tt)

not_too_many : {X : Type 0} {ks : List Binding} → too_many_names ≡ matched ks → X
unfolding IsMatched
not_too_many h = absurd (subst IsMatched (sym h) tt)

-- ---- patterns without names

pub match_atom : (p : List ℕ) (s : Tree) (ks js : List Binding) → match_sexp (atom p) s ks ≡ matched js → (s ≡ atom p) × (ks ≡ js)
unfolding match_sexp
match_atom p (atom s) ks js h = go (same_bytes p s) refl h
  where
    go : (b : Bool) → same_bytes p s ≡ b → elim b [ true ↦ matched ks | false ↦ no_match [] ] ≡ matched js → (atom s ≡ atom p) × (ks ≡ js)
    go true e k = (ap atom (sym (same_bytes_sound p s e)), cc)
    go false e k = not_no_match k
match_atom p (pair l r) ks js h = not_no_match h

part_matched : (d : Bool) (m : Match) (js : List Binding) → in_part d m ≡ matched js → m ≡ matched js
unfolding in_part
part_matched d (matched ks) js h = h
part_matched d (no_match ds) js h = not_no_match h
part_matched d too_many_names js h = h

-- the left part matched, and then the right
pub record Split (p q s : Tree) (ks js : List Binding) : Type 0 where
  pub left : Tree
  pub right : Tree
  pub between : List Binding
  pub is : s ≡ pair left right
  pub on_left : match_sexp p left ks ≡ matched between
  pub on_right : match_sexp q right between ≡ matched js

split : (p q l r : Tree) (ks js : List Binding) → (in_part false (match_sexp p l ks) and_then λ is. in_part true (match_sexp q r is)) ≡ matched js → Split p q (pair l r) ks js
unfolding ◌and_then◌ in_part
split p q l r ks js h = go (match_sexp p l ks) refl h
  where
    go : (m : Match) → match_sexp p l ks ≡ m → (in_part false m and_then λ is. in_part true (match_sexp q r is)) ≡ matched js → Split p q (pair l r) ks js
    go (matched is) e k = record { left = l; right = r; between = is; is = refl; on_left = e; on_right = part_matched true (match_sexp q r is) js k }
    go (no_match ds) e k = not_no_match k
    go too_many_names e k = not_too_many k

-- a pattern that is a pair, and is not two atoms
pub match_pair : (a : List ℕ) (c d s : Tree) (ks js : List Binding) → match_sexp (pair (atom a) (pair c d)) s ks ≡ matched js → Split (atom a) (pair c d) s ks js
unfolding match_sexp
match_pair a c d (atom s) ks js h = not_no_match h
match_pair a c d (pair l r) ks js h = split (atom a) (pair c d) l r ks js h

pub match_list : (c d q s : Tree) (ks js : List Binding) → match_sexp (pair (pair c d) q) s ks ≡ matched js → Split (pair c d) q s ks js
unfolding match_sexp
match_list c d q (atom s) ks js h = not_no_match h
match_list c d q (pair l r) ks js h = split (pair c d) q l r ks js h

-- (q . b), for an atom b
pub match_leaves : (b : List ℕ) (s : Tree) (ks js : List Binding) → match_sexp (pair (byte 1) (atom b)) s ks ≡ matched js → Split (byte 1) (atom b) s ks js
unfolding match_sexp
match_leaves b (atom s) ks js h = not_no_match h
match_leaves b (pair l r) ks js h = split (byte 1) (atom b) l r ks js h

-- ---- names, of two bytes or more

abbrev pub bind : List ℕ → Tree → Binding
bind n t = record { name = n; node = t }

-- (: . n) binds n
pub match_any : (x y : ℕ) (n : List ℕ) (s : Tree) (ks : List Binding)
    → match_sexp (pair (byte sexp_match) (atom (x ∷ y ∷ n))) s ks ≡ unify_bindings ks (x ∷ y ∷ n) s
unfolding match_sexp
match_any x y n (atom s) ks = refl
match_any x y n (pair l r) ks = refl

-- ($ . n) binds n at an atom, and nothing at a pair
pub data AtLeaf (n : List ℕ) (ks js : List Binding) : Tree → Type 0 where
  leaf : (b : List ℕ) → unify_bindings ks n (atom b) ≡ matched js → AtLeaf n ks js (atom b)
  node : (l r : Tree) → ks ≡ js → AtLeaf n ks js (pair l r)

pub match_leaf : (x y : ℕ) (n : List ℕ) (s : Tree) (ks js : List Binding) → match_sexp (pair (byte atom_match) (atom (x ∷ y ∷ n))) s ks ≡ matched js
    → AtLeaf (x ∷ y ∷ n) ks js s
unfolding match_sexp
match_leaf x y n (atom s) ks js h = leaf s h
match_leaf x y n (pair l r) ks js h =
    let m = split (byte atom_match) (atom (x ∷ y ∷ n)) l r ks js h in
    let (e, k) = match_atom (atom_match ∷ []) m.left ks m.between m.on_left in
    let (f, i) = match_atom (x ∷ y ∷ n) m.right m.between js m.on_right in
    node l r (k ∙ i)

-- a first name is bound, and a second that differs
pub name_1 : (n : List ℕ) (t : Tree) (ks js : List Binding) → [] ≡ ks → unify_bindings ks n t ≡ matched js → js ≡ bind n t ∷ []
unfolding unify_bindings
name_1 n t ks js e h = let h' : matched (bind n t ∷ []) ≡ matched js = rw (← e) at h in cc

pub name_2 : (n m : List ℕ) (t u : Tree) (ks js : List Binding) → same_bytes n m ≡ false → ks ≡ bind m u ∷ [] → unify_bindings ks n t ≡ matched js
    → js ≡ bind m u ∷ bind n t ∷ []
unfolding unify_bindings get
name_2 n m t u ks js d e h =
    let b : get n (bind m u ∷ []) ≡ none = rw (d, get) in
    let h' : matched (bind m u ∷ bind n t ∷ []) ≡ matched js = rw (b, unify_bindings) at (rw e at h) in
    cc
