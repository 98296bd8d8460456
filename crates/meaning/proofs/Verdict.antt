-- A match without its turns is what pattern_match.rs says, which answers `None` to every failure. Assumes nothing.
use Prim.Native.Nat.{ℕ}
use mathlib.Core.Path.{◌≡◌, refl, ◌∙◌, ap, subst}
use mathlib.Core.List.{List, [], ◌∷◌}
use mathlib.Core.Bool.{Bool, true, false, ◌&&◌, not}
use mathlib.Core.Option.{Option, none, some}
use Rattle.meaning.specs.Tree.{Tree, atom, pair, same_bytes, equal_to, is_byte}
use Rattle.meaning.specs.Match.{Match, Binding, matched, no_match, too_many_names, atom_match, sexp_match, get, insert, unify_bindings, at_atom, ◌and_then◌, in_part, match_sexp, Verdict, yes, no, third_name, verdict}

-- ---- what a verdict says of its match

IsYes : Verdict → Type 0
IsYes (yes ks) = Unit {0}
IsYes no = ⊥
IsYes third_name = ⊥

unfoldable pub IsNo : Verdict → Type 0
IsNo (yes ks) = ⊥
IsNo no = Unit {0}
IsNo third_name = ⊥

IsThird : Verdict → Type 0
IsThird (yes ks) = ⊥
IsThird no = ⊥
IsThird third_name = Unit {0}

pub is_matched : (m : Match) (ks : List Binding) → yes ks ≡ verdict m → matched ks ≡ m
unfolding verdict IsYes
is_matched (matched js) ks h = let e : ks ≡ js = cc in ap matched e
is_matched (no_match ds) ks h = absurd (subst IsYes h tt)
is_matched too_many_names ks h = absurd (subst IsYes h tt)

pub is_failed : (m : Match) → no ≡ verdict m → (ds : List Bool) × (no_match ds ≡ m)
unfolding verdict IsNo
is_failed (matched js) h = absurd (subst IsNo h tt)
is_failed (no_match ds) h = (ds, refl)
is_failed too_many_names h = absurd (subst IsNo h tt)

pub is_third : (m : Match) → third_name ≡ verdict m → too_many_names ≡ m
unfolding verdict IsThird
is_third (matched js) h = absurd (subst IsThird h tt)
is_third (no_match ds) h = absurd (subst IsThird h tt)
is_third too_many_names h = refl

pub in_part_verdict : (d : Bool) (m : Match) → verdict (in_part d m) ≡ verdict m
unfolding verdict in_part
in_part_verdict d (matched ks) = refl
in_part_verdict d (no_match ds) = refl
in_part_verdict d too_many_names = refl

-- what holds of a part's match holds of it inside the whole, where it says nothing of a failure's turns
pub in_part_keeps : (P : Match → Type 0) → ((ds es : List Bool) → P (no_match ds) → P (no_match es)) → (d : Bool) (m : Match) → P m → P (in_part d m)
unfolding in_part
in_part_keeps P k d (matched ks) h = h
in_part_keeps P k d (no_match ds) h = k ds (d ∷ ds) h
in_part_keeps P k d too_many_names h = h

-- ---- match_sexp with verdicts alone

unfoldable pub plain_insert : Binding → List Binding → Verdict
plain_insert b [] = yes (b ∷ [])
plain_insert b (c ∷ []) = yes (c ∷ b ∷ [])
plain_insert b (c ∷ d ∷ bs) = third_name

unfoldable pub plain_unify : List Binding → List ℕ → Tree → Verdict
unfolding plain_insert
plain_unify ks n t = elim (get n ks) [
  | some u ↦ elim (equal_to u t) [ true ↦ yes ks | false ↦ no ]
  | none ↦ plain_insert (record { name = n; node = t }) ks
]

unfoldable pub plain_at : List ℕ → List ℕ → List ℕ → List Binding → Verdict
unfolding plain_unify
plain_at a b s ks = elim (is_byte atom_match a) [
  | true ↦ elim (is_byte atom_match b) [
    | true ↦ elim (is_byte atom_match s) [ true ↦ yes [] | false ↦ no ]
    | false ↦ plain_unify ks b (atom s)
  ]
  | false ↦ elim (is_byte sexp_match a) [
    | true ↦ elim (is_byte sexp_match b && is_byte sexp_match s) [ true ↦ yes [] | false ↦ plain_unify ks b (atom s) ]
    | false ↦ no
  ]
]

infixl 50 ◌plain_then◌
unfoldable pub ◌plain_then◌ : Verdict → (List Binding → Verdict) → Verdict
yes ks plain_then f = f ks
no plain_then f = no
third_name plain_then f = third_name

unfoldable pub plain_match : Tree → Tree → List Binding → Verdict
unfolding plain_at plain_unify ◌plain_then◌
plain_match (atom p) (atom s) ks = elim (same_bytes p s) [ true ↦ yes ks | false ↦ no ]
plain_match (atom p) (pair l r) ks = no
plain_match (pair (atom a) (atom b)) (atom s) ks = plain_at a b s ks
plain_match (pair (atom a) (atom b)) (pair l r) ks = elim (is_byte sexp_match a && not (is_byte sexp_match b)) [
  | true ↦ plain_unify ks b (pair l r)
  | false ↦ plain_match (atom a) l ks plain_then λ ks'. plain_match (atom b) r ks'
]
plain_match (pair (atom a) (pair c d)) (atom s) ks = no
plain_match (pair (atom a) (pair c d)) (pair l r) ks = plain_match (atom a) l ks plain_then λ ks'. plain_match (pair c d) r ks'
plain_match (pair (pair c d) q) (atom s) ks = no
plain_match (pair (pair c d) q) (pair l r) ks = plain_match (pair c d) l ks plain_then λ ks'. plain_match q r ks'

-- ---- the law

on_either : (b : Bool) (m n : Match) (u v : Verdict) → verdict m ≡ u → verdict n ≡ v → verdict (elim b [ true ↦ m | false ↦ n ]) ≡ elim b [ true ↦ u | false ↦ v ]
on_either true m n u v e f = e
on_either false m n u v e f = f

same_insert : (b : Binding) (ks : List Binding) → verdict (insert b ks) ≡ plain_insert b ks
unfolding verdict insert plain_insert
same_insert b [] = refl
same_insert b (c ∷ []) = refl
same_insert b (c ∷ d ∷ bs) = refl

same_unify : (ks : List Binding) (n : List ℕ) (t : Tree) → verdict (unify_bindings ks n t) ≡ plain_unify ks n t
unfolding unify_bindings plain_unify verdict
same_unify ks n t = go (get n ks)
  where
    go : (o : Option Tree) → verdict (elim o [
      | some u ↦ elim (equal_to u t) [ true ↦ matched ks | false ↦ no_match [] ]
      | none ↦ insert (record { name = n; node = t }) ks
    ]) ≡ elim o [
      | some u ↦ elim (equal_to u t) [ true ↦ yes ks | false ↦ no ]
      | none ↦ plain_insert (record { name = n; node = t }) ks
    ]
    go (some u) = on_either (equal_to u t) (matched ks) (no_match []) (yes ks) no refl refl
    go none = same_insert (record { name = n; node = t }) ks

same_at : (a b s : List ℕ) (ks : List Binding) → verdict (at_atom a b s ks) ≡ plain_at a b s ks
unfolding at_atom plain_at verdict
same_at a b s ks =
    on_either (is_byte atom_match a) _ _ _ _
    (on_either (is_byte atom_match b) _ _ _ _ (on_either (is_byte atom_match s) _ _ _ _ refl refl) (same_unify ks b (atom s)))
    (on_either (is_byte sexp_match a) _ _ _ _ (on_either (is_byte sexp_match b && is_byte sexp_match s) _ _ _ _ refl (same_unify ks b (atom s))) refl)

same_then : (m : Match) (v : Verdict) (f : List Binding → Match) (g : List Binding → Verdict) → verdict m ≡ v → ((ks : List Binding) → verdict (f ks) ≡ g ks)
    → verdict (in_part false m and_then λ ks. in_part true (f ks)) ≡ (v plain_then g)
unfolding verdict in_part ◌and_then◌ ◌plain_then◌
same_then (matched ks) v f g e h = rw (← e) (in_part_verdict true (f ks) ∙ h ks)
same_then (no_match ds) v f g e h = rw (← e)
same_then too_many_names v f g e h = rw (← e)

-- "`match_sexp` without its turns": the same bindings, the same failures
pub same_verdict : (p s : Tree) (ks : List Binding) → verdict (match_sexp p s ks) ≡ plain_match p s ks
unfolding match_sexp plain_match verdict
same_verdict (atom p) (atom s) ks = on_either (same_bytes p s) _ _ _ _ refl refl
same_verdict (atom p) (pair l r) ks = refl
same_verdict (pair (atom a) (atom b)) (atom s) ks = same_at a b s ks
same_verdict (pair (atom a) (atom b)) (pair l r) ks =
    on_either (is_byte sexp_match a && not (is_byte sexp_match b)) _ _ _ _
    (same_unify ks b (pair l r))
    (same_then (match_sexp (atom a) l ks) _ (λ js. match_sexp (atom b) r js) (λ js. plain_match (atom b) r js) (same_verdict (atom a) l ks) (λ js. same_verdict (atom b) r js))
same_verdict (pair (atom a) (pair c d)) (atom s) ks = refl
same_verdict (pair (atom a) (pair c d)) (pair l r) ks = same_then (match_sexp (atom a) l ks) _ (λ js. match_sexp (pair c d) r js) (λ js. plain_match (pair c d) r js) (same_verdict (atom a) l ks) (λ js. same_verdict (pair c d) r js)
same_verdict (pair (pair c d) q) (atom s) ks = refl
same_verdict (pair (pair c d) q) (pair l r) ks = same_then (match_sexp (pair c d) l ks) _ (λ js. match_sexp q r js) (λ js. plain_match q r js) (same_verdict (pair c d) l ks) (λ js. same_verdict q r js)
