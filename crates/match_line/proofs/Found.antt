-- A written name without its prefix, and a binding from its two parts. Assumes nothing.
use mathlib.Core.Path.{◌≡◌, refl}
use mathlib.Core.List.{List, [], ◌∷◌, ◌++◌}
use Prim.Native.Nat.{ℕ, ◌+◌, ◌/◌, ◌%◌, ◌^◌, ◌<◌, ◌≤◌}
use native.Mathlib.Omega.{arith}
use lib.Dec.{ltb}
use lib.ListN.{length, get_or}
use lib.Seq.{take_at, drop_at}
use borrow.Author.Tests.{ltb-true, lt-ltb, le-ltb}
use Rattle.meaning.specs.Limits.{atom_limit}
use Rattle.meaning.specs.Form.{write_length, write_atom}
use Rattle.meaning.proofs.Tests.{on_bool}
use Rattle.match_line.specs.Line.{binding_text}
use Rattle.match_line.specs.Written.{name_in, NameFrom, both_in}

-- ---- the code's four cases

pub from_none : (w : List ℕ) → length w ≡ 0 → NameFrom w 0
unfolding name_in
from_none [] e = record { within = omega arith; rest = refl }
from_none (x ∷ w) e = absurd (omega arith)

pub from_alone : (w : List ℕ) → (length w ≡ 0 → ⊥) → get_or w 0 0 < 0x80 → NameFrom w 0
unfolding name_in
from_alone [] n h = absurd (n refl)
from_alone (x ∷ w) n h = record { within = omega arith; rest = rw (lt-ltb x 0x80 h, name_in) }

pub from_one : (w : List ℕ) → (length w ≡ 0 → ⊥) → 0x80 ≤ get_or w 0 0 → get_or w 0 0 < 0xc0 → NameFrom w 1
unfolding name_in
from_one [] n h k = absurd (n refl)
from_one (x ∷ w) n h k = record { within = omega arith; rest = rw (le-ltb x 0x80 h, lt-ltb x 0xc0 k, name_in) }

pub from_end : (w : List ℕ) → length w ≡ 1 → 0x80 ≤ get_or w 0 0 → 0xc0 ≤ get_or w 0 0 → NameFrom w 1
unfolding name_in
from_end [] n h k = absurd (omega arith)
from_end (x ∷ []) n h k = record { within = omega arith; rest = rw (le-ltb x 0x80 h, le-ltb x 0xc0 k, name_in) }
from_end (x ∷ y ∷ w) n h k = absurd (omega arith)

pub from_two : (w : List ℕ) → (length w ≡ 0 → ⊥) → (length w ≡ 1 → ⊥) → 0x80 ≤ get_or w 0 0 → 0xc0 ≤ get_or w 0 0 → NameFrom w 2
unfolding name_in
from_two [] n m h k = absurd (n refl)
from_two (x ∷ []) n m h k = absurd (m refl)
from_two (x ∷ y ∷ w) n m h k = record { within = omega arith; rest = rw (le-ltb x 0x80 h, le-ltb x 0xc0 k, name_in) }

-- ---- what a name is written as

one_prefix : (p : ℕ) (bs : List ℕ) → 0x80 ≤ p → p < 0xc0 → name_in (p ∷ bs) ≡ bs
unfolding name_in
one_prefix p bs h k = rw (le-ltb p 0x80 h, lt-ltb p 0xc0 k, name_in)

two_prefix : (p q : ℕ) (bs : List ℕ) → 0xc0 ≤ p → name_in (p ∷ q ∷ bs) ≡ bs
unfolding name_in
two_prefix p q bs h = rw (le-ltb p 0x80 (omega arith), le-ltb p 0xc0 h, name_in)

prefixed : (n : ℕ) (bs : List ℕ) → n ≤ atom_limit → name_in (write_length n ++ bs) ≡ bs
unfolding write_length
prefixed n bs h = on_bool (ltb n 0x40)
    (λ e. rw (e, write_length) (one_prefix (0x80 + n) bs (omega arith) (let z : n < 0x40 = ltb-true n 0x40 e in omega arith)))
    (λ e. rw (e, lt-ltb n 0x2000 (omega arith), write_length) (two_prefix (0xc0 + n / 2 ^ 8) (n % 2 ^ 8) bs (omega arith)))

pub name_written : (bs : List ℕ) → length bs ≤ atom_limit → name_in (write_atom bs) ≡ bs
unfolding write_atom name_in
name_written [] h = refl
name_written (x ∷ []) h = on_bool (ltb x 0x80) (λ e. rw (e, write_atom, e, name_in)) (λ e. rw (e, write_atom))
name_written (x ∷ y ∷ bs) h = prefixed (length (x ∷ y ∷ bs)) (x ∷ y ∷ bs) h

pub both_written : (name tree : List ℕ) (mid : ℕ) → length name ≤ atom_limit → length (write_atom name) ≡ mid → both_in (write_atom name ++ tree) mid ≡ binding_text name tree
unfolding both_in
both_written name tree mid h e =
    rw (take_at (write_atom name) tree mid e, drop_at (write_atom name) tree mid e, name_written name h)
