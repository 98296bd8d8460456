-- When a rule gives another tree than its input: always, where it matched. Assumes nothing.
use Prim.Native.Nat.{ℕ}
use mathlib.Core.Path.{◌≡◌, refl}
use mathlib.Core.List.{List, [], ◌∷◌}
use mathlib.Core.Bool.{Bool, true, false, ◌&&◌, not}
use mathlib.Core.Option.{none, some}
use native.Mathlib.Omega.{arith}
use Rattle.meaning.specs.Tree.{Tree, atom, nil, equal_to, same_bytes, is_byte, is_quote, non_nil, quote}
use Rattle.meaning.specs.Meter.{Spent, done}
use Rattle.meaning.specs.Match.{Match, Binding, matched, no_match, too_many_names, match_sexp, get, got}
use Rattle.meaning.specs.Constant.{seems_constant}
use Rattle.meaning.specs.Substitute.{first_name, rest_name}
use Rattle.meaning.specs.Rules.{cons_optimizer_pattern, cons_optimizer, worked_out, constant_optimizer, applied, not_applied, applied_of, is_args_call, cons_q_a_optimizer, atom_name, atom_pattern, longer, path_optimizer, quote_pattern_1, quote_null_optimizer, apply_null_pattern_1, apply_null_optimizer}
use Rattle.meaning.proofs.Tests.{on_bool, not_true}
use Rattle.meaning.proofs.TreeLaws.{equal_to_sound}
use Rattle.meaning.proofs.MatchLaws.{bind}
use Rattle.meaning.proofs.Shapes.{cons_of, apply_of, part_of, part_of_cons_shape, applied_shape, quote_null_shape, apply_null_shape, part_of_atom_shape}
use Rattle.meaning.proofs.Sizes.{size, smaller_differs}

-- nothing matched
pub data Unmatched : Match → Type 0 where
  none_matched : (ds : List Bool) → Unmatched (no_match ds)
  too_many : Unmatched too_many_names

-- ---- rule 1

part_differs : (o : ℕ) (n x y : List ℕ) (a b t : Tree) → get n (bind x a ∷ bind y b ∷ []) ≡ some t → equal_to (part_of o (cons_of a b)) t ≡ false
unfolding get size
part_differs o n x y a b t h = go (same_bytes n x) (same_bytes n y) h
  where
    go : (c d : Bool) → elim c [ true ↦ some a | false ↦ elim d [ true ↦ some b | false ↦ none ] ] ≡ some t → equal_to (part_of o (cons_of a b)) t ≡ false
    go true d k = let e : a ≡ t = cc in rw (← e) (smaller_differs (part_of o (cons_of a b)) a (omega arith))
    go false true k = let e : b ≡ t = cc in rw (← e) (smaller_differs (part_of o (cons_of a b)) b (omega arith))
    go false false k = cc

-- what (f (c A B)) and (r (c A B)) bind is a part of them
pub cons_differs : (o : ℕ) (n : List ℕ) (r t : Tree) → got n (match_sexp (cons_optimizer_pattern o) r []) ≡ some t → equal_to r t ≡ false
unfolding got
cons_differs o n r t h = go (match_sexp (cons_optimizer_pattern o) r []) refl h
  where
    go : (m : Match) → match_sexp (cons_optimizer_pattern o) r [] ≡ m → got n m ≡ some t → equal_to r t ≡ false
    go (matched ks) e k =
        let (a, b, i, j) = part_of_cons_shape o r ks e in
        rw i (part_differs o n first_name rest_name a b t (rw j at k))
    go (no_match ds) e k = cc
    go too_many_names e k = cc

pub cons_first : (r a : Tree) → got first_name (match_sexp (cons_optimizer_pattern 5) r []) ≡ some a → (cons_optimizer r ≡ a) × (equal_to r a ≡ false)
unfolding cons_optimizer
cons_first r a h = (rw (h, cons_optimizer), cons_differs 5 first_name r a h)

pub cons_rest : (r b : Tree) → got first_name (match_sexp (cons_optimizer_pattern 5) r []) ≡ none → got rest_name (match_sexp (cons_optimizer_pattern 6) r []) ≡ some b
    → (cons_optimizer r ≡ b) × (equal_to r b ≡ false)
unfolding cons_optimizer
cons_rest r b h k = (rw (h, k, cons_optimizer), cons_differs 6 rest_name r b k)

pub cons_same : (r : Tree) → got first_name (match_sexp (cons_optimizer_pattern 5) r []) ≡ none → got rest_name (match_sexp (cons_optimizer_pattern 6) r []) ≡ none → cons_optimizer r ≡ r
unfolding cons_optimizer
cons_same r h k = rw (h, k, cons_optimizer)

-- ---- rule 2

-- what is no quote differs from every quote
pub quote_differs : (r v : Tree) → is_quote r ≡ false → equal_to r (quote v) ≡ false
unfolding is_quote quote is_byte
quote_differs r v q = on_bool (equal_to r (quote v)) (λ e. not_true (rw (equal_to_sound r (quote v) e) at q)) (λ e. e)

-- the rule's test: not a quote, seems constant, not nil
abbrev pub is_worked_out : Tree → Bool
is_worked_out r = not (is_quote r) && seems_constant r && non_nil r

pub constant_gives : (r : Tree) → is_worked_out r ≡ true → (s : Spent) → constant_optimizer r s ≡ worked_out r s
unfolding constant_optimizer
constant_gives r t s = rw (t, constant_optimizer)

pub constant_same : (r : Tree) → is_worked_out r ≡ false → (s : Spent) → constant_optimizer r s ≡ done r s
unfolding constant_optimizer
constant_same r t s = rw (t, constant_optimizer)

-- ---- rule 3

-- S is a part of (a (q . S) ARGS)
pub applied_differs : (r s a : Tree) → applied_of r ≡ applied s a → equal_to r s ≡ false
unfolding size
applied_differs r s a h = rw (applied_shape r s a h) (smaller_differs (apply_of s a) s (omega arith))

pub args_call_gives : (r s a : Tree) → applied_of r ≡ applied s a → is_args_call a ≡ true → (cons_q_a_optimizer r ≡ s) × (equal_to r s ≡ false)
unfolding cons_q_a_optimizer
args_call_gives r s a h c = (rw (h, c, cons_q_a_optimizer), applied_differs r s a h)

pub args_call_same : (r s a : Tree) → applied_of r ≡ applied s a → is_args_call a ≡ false → cons_q_a_optimizer r ≡ r
unfolding cons_q_a_optimizer
args_call_same r s a h c = rw (h, c, cons_q_a_optimizer)

pub not_applied_same : (r : Tree) → applied_of r ≡ not_applied → cons_q_a_optimizer r ≡ r
unfolding cons_q_a_optimizer
not_applied_same r h = rw (h, cons_q_a_optimizer)

-- ---- rule 6

pub path_first : (r : Tree) (ks : List Binding) → match_sexp (atom_pattern 5) r [] ≡ matched ks → (s : Spent) → path_optimizer r s ≡ longer r (got atom_name (matched ks)) 2 s
unfolding path_optimizer
path_first r ks h s = rw (h, path_optimizer)

pub path_second : (r : Tree) (m : Match) → match_sexp (atom_pattern 5) r [] ≡ m → Unmatched m → (s : Spent)
    → path_optimizer r s ≡ longer r (got atom_name (match_sexp (atom_pattern 6) r [])) 3 s
unfolding path_optimizer
path_second r m h (none_matched ds) s = rw (h, path_optimizer)
path_second r m h too_many s = rw (h, path_optimizer)

-- a path is an atom, and what it is made from a pair
pub path_differs : (o : ℕ) (r t : Tree) (bs : List ℕ) → got atom_name (match_sexp (atom_pattern o) r []) ≡ some t → equal_to r (atom bs) ≡ false
unfolding equal_to
path_differs o r t bs h = rw (part_of_atom_shape o r t h)

-- ---- rules 7 and 8

-- nil is an atom, and what matched a pair
pub quote_null_gives : (r : Tree) (ks : List Binding) → match_sexp quote_pattern_1 r [] ≡ matched ks → (quote_null_optimizer r ≡ nil) × (equal_to r nil ≡ false)
unfolding quote_null_optimizer equal_to
quote_null_gives r ks h = (rw (h, quote_null_optimizer), rw (quote_null_shape r ks h))

pub quote_null_same : (r : Tree) (m : Match) → match_sexp quote_pattern_1 r [] ≡ m → Unmatched m → quote_null_optimizer r ≡ r
unfolding quote_null_optimizer
quote_null_same r m h (none_matched ds) = rw (h, quote_null_optimizer)
quote_null_same r m h too_many = rw (h, quote_null_optimizer)

pub apply_null_gives : (r : Tree) (ks : List Binding) → match_sexp apply_null_pattern_1 r [] ≡ matched ks → (apply_null_optimizer r ≡ nil) × (equal_to r nil ≡ false)
unfolding apply_null_optimizer equal_to
apply_null_gives r ks h = let (t, e) = apply_null_shape r ks h in (rw (h, apply_null_optimizer), rw e)

pub apply_null_same : (r : Tree) (m : Match) → match_sexp apply_null_pattern_1 r [] ≡ m → Unmatched m → apply_null_optimizer r ≡ r
unfolding apply_null_optimizer
apply_null_same r m h (none_matched ds) = rw (h, apply_null_optimizer)
apply_null_same r m h too_many = rw (h, apply_null_optimizer)
