-- The place of a match that fails: what stands there, where the walk goes no further, and how many turns 64 bytes hold. Assumes nothing.
use Prim.Native.Nat.{ℕ, suc, ◌^◌, ◌≤◌, ◌<◌}
use mathlib.Core.Path.{◌≡◌, refl, ◌∙◌, ap, subst}
use mathlib.Core.List.{List, [], ◌∷◌, append-nil}
use mathlib.Core.Bool.{Bool, true, false, ◌&&◌, not}
use mathlib.Core.Option.{Option, none, some}
use native.Mathlib.Nat.{pow-succ'}
use native.Mathlib.Omega.{arith}
use lib.Dec.{leb}
use lib.ListN.{length}
use Rattle.meaning.specs.Tree.{Tree, atom, pair, same_bytes, equal_to, is_byte}
use Rattle.meaning.specs.Limits.{place_turns}
use Rattle.meaning.specs.Number.{turns, follow, lookup, onto}
use Rattle.meaning.specs.Match.{Match, Binding, matched, no_match, too_many_names, atom_match, sexp_match, get, insert, unify_bindings, at_atom, ◌and_then◌, in_part, match_sexp, no, verdict, place}
use Rattle.meaning.proofs.Yields.{either_way}
use Rattle.meaning.proofs.Verdict.{IsNo}
use Rattle.meaning.proofs.PathLaws.{onto_pos, turns_onto, lookup_turns}

-- ---- what stands at the place

-- a failure's turns lead to a part of s
Leads : Tree → Match → Type 0
Leads s (matched ks) = Unit {0}
Leads s (no_match ds) = (t : Tree) × (follow ds s ≡ some t)
Leads s too_many_names = Unit {0}

unify_leads : (s : Tree) (ks : List Binding) (n : List ℕ) (t : Tree) → Leads s (unify_bindings ks n t)
unfolding unify_bindings insert Leads follow
unify_leads s ks n t = go (get n ks)
  where
    new : (b : Binding) (js : List Binding) → Leads s (insert b js)
    new b [] = tt
    new b (c ∷ []) = tt
    new b (c ∷ d ∷ bs) = tt

    go : (o : Option Tree) → Leads s (elim o [
      | some u ↦ elim (equal_to u t) [ true ↦ matched ks | false ↦ no_match [] ]
      | none ↦ insert (record { name = n; node = t }) ks
    ])
    go (some u) = either_way (Leads s) (equal_to u t) _ _ tt (s, refl)
    go none = new (record { name = n; node = t }) ks

parts_lead : (l r : Tree) (m : Match) (f : List Binding → Match) → Leads l m → ((ks : List Binding) → Leads r (f ks)) → Leads (pair l r) (in_part false m and_then λ ks. in_part true (f ks))
unfolding in_part ◌and_then◌ Leads follow
parts_lead l r (matched ks) f h k = go (f ks) (k ks)
  where
    go : (m : Match) → Leads r m → Leads (pair l r) (in_part true m)
    go (matched js) i = tt
    go (no_match ds) i = i
    go too_many_names i = tt
parts_lead l r (no_match ds) f h k = h
parts_lead l r too_many_names f h k = tt

match_leads : (p s : Tree) (ks : List Binding) → Leads s (match_sexp p s ks)
unfolding match_sexp at_atom Leads follow
match_leads (atom p) (atom s) ks = either_way (Leads (atom s)) (same_bytes p s) _ _ tt (atom s, refl)
match_leads (atom p) (pair l r) ks = (pair l r, refl)
match_leads (pair (atom a) (atom b)) (atom s) ks =
    either_way (Leads (atom s)) (is_byte atom_match a) _ _
    (either_way (Leads (atom s)) (is_byte atom_match b) _ _ (either_way (Leads (atom s)) (is_byte atom_match s) _ _ tt (atom s, refl)) (unify_leads (atom s) ks b (atom s)))
    (either_way (Leads (atom s)) (is_byte sexp_match a) _ _
    (either_way (Leads (atom s)) (is_byte sexp_match b && is_byte sexp_match s) _ _ tt (unify_leads (atom s) ks b (atom s))) (atom s, refl))
match_leads (pair (atom a) (atom b)) (pair l r) ks =
    either_way (Leads (pair l r)) (is_byte sexp_match a && not (is_byte sexp_match b)) _ _
    (unify_leads (pair l r) ks b (pair l r))
    (parts_lead l r (match_sexp (atom a) l ks) (λ js. match_sexp (atom b) r js) (match_leads (atom a) l ks) (λ js. match_leads (atom b) r js))
match_leads (pair (atom a) (pair c d)) (atom s) ks = (atom s, refl)
match_leads (pair (atom a) (pair c d)) (pair l r) ks = parts_lead l r (match_sexp (atom a) l ks) (λ js. match_sexp (pair c d) r js) (match_leads (atom a) l ks) (λ js. match_leads (pair c d) r js)
match_leads (pair (pair c d) q) (atom s) ks = (atom s, refl)
match_leads (pair (pair c d) q) (pair l r) ks = parts_lead l r (match_sexp (pair c d) l ks) (λ js. match_sexp q r js) (match_leads (pair c d) l ks) (λ js. match_leads q r js)

-- a place is the path of a part of the expression
pub place_stands : (p s : Tree) (ks : List Binding) → 1 ≤ place (match_sexp p s ks) → (t : Tree) × (lookup (place (match_sexp p s ks)) s ≡ some t)
unfolding place Leads turns
place_stands p s ks = go (match_sexp p s ks) (match_leads p s ks)
  where
    at : (ds : List Bool) (b : Bool) → (t : Tree) × (follow ds s ≡ some t) → 1 ≤ elim b [ true ↦ onto ds 1 | false ↦ 0 ]
        → (t : Tree) × (lookup (elim b [ true ↦ onto ds 1 | false ↦ 0 ]) s ≡ some t)
    at ds true (t, e) h = (t, lookup_turns (onto ds 1) s (onto_pos ds 1 (omega arith)) ∙ ap (λ es. follow es s) (turns_onto ds 1 (omega arith) ∙ append-nil ds) ∙ e)
    at ds false i h = absurd (omega arith)

    go : (m : Match) → Leads s m → 1 ≤ place m → (t : Tree) × (lookup (place m) s ≡ some t)
    go (matched js) i h = absurd (omega arith)
    go (no_match ds) i h = at ds (leb (length ds) place_turns) i h
    go too_many_names i h = absurd (omega arith)

-- ---- where the walk goes no further

-- a failure is here
Near : Match → Type 0
Near m = no ≡ verdict m → no_match [] ≡ m

near_matched : (ks : List Binding) → Near (matched ks)
unfolding verdict IsNo Near
near_matched ks h = absurd (subst IsNo h tt)

near_third : Near too_many_names
unfolding verdict IsNo Near
near_third h = absurd (subst IsNo h tt)

near_here : Near (no_match [])
unfolding Near
near_here h = refl

pub unify_here : (ks : List Binding) (n : List ℕ) (t : Tree) → no ≡ verdict (unify_bindings ks n t) → no_match [] ≡ unify_bindings ks n t
unfolding unify_bindings insert Near
unify_here ks n t = go (get n ks)
  where
    new : (b : Binding) (js : List Binding) → Near (insert b js)
    new b [] = near_matched _
    new b (c ∷ []) = near_matched _
    new b (c ∷ d ∷ bs) = near_third

    go : (o : Option Tree) → Near (elim o [
      | some u ↦ elim (equal_to u t) [ true ↦ matched ks | false ↦ no_match [] ]
      | none ↦ insert (record { name = n; node = t }) ks
    ])
    go (some u) = either_way Near (equal_to u t) _ _ (near_matched ks) near_here
    go none = new (record { name = n; node = t }) ks

-- the pattern is an atom
pub atom_here : (p : List ℕ) (s : Tree) (ks : List Binding) → no ≡ verdict (match_sexp (atom p) s ks) → no_match [] ≡ match_sexp (atom p) s ks
unfolding match_sexp Near
atom_here p (atom s) ks = either_way Near (same_bytes p s) _ _ (near_matched ks) near_here
atom_here p (pair l r) ks = near_here

-- the expression is one
pub at_here : (x y : Tree) (s : List ℕ) (ks : List Binding) → no ≡ verdict (match_sexp (pair x y) (atom s) ks) → no_match [] ≡ match_sexp (pair x y) (atom s) ks
unfolding match_sexp at_atom Near
at_here (atom a) (atom b) s ks =
    either_way Near (is_byte atom_match a) _ _
    (either_way Near (is_byte atom_match b) _ _ (either_way Near (is_byte atom_match s) _ _ (near_matched []) near_here) (unify_here ks b (atom s)))
    (either_way Near (is_byte sexp_match a) _ _
    (either_way Near (is_byte sexp_match b && is_byte sexp_match s) _ _ (near_matched []) (unify_here ks b (atom s))) near_here)
at_here (atom a) (pair c d) s ks = near_here
at_here (pair c d) y s ks = near_here

-- ---- how far 64 bytes reach

pub path_above : (ds : List Bool) → 2 ^ length ds ≤ onto ds 1
unfolding onto
path_above [] = omega arith
path_above (false ∷ ds) = let h = path_above ds in let e = pow-succ' 2 (length ds) in omega arith
path_above (true ∷ ds) = let h = path_above ds in let e = pow-succ' 2 (length ds) in omega arith

pub path_below : (ds : List Bool) → onto ds 1 < 2 ^ suc (length ds)
unfolding onto
path_below [] = omega arith
path_below (false ∷ ds) = let h = path_below ds in let e = pow-succ' 2 (suc (length ds)) in omega arith
path_below (true ∷ ds) = let h = path_below ds in let e = pow-succ' 2 (suc (length ds)) in omega arith
