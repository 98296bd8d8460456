-- What each return of the question whether bytes are those of 1 needs. Assumes nothing.
use Rattle.std.proofs.Common.{◌≡◌, ℕ, ◌<◌, ◌≤◌, List, [], ◌∷◌, length, get_or, true, false, refl, sym, arith}
use borrow.Author.Tests.{eq-eqb, ne_eqb}
use Rattle.meaning.specs.Tree.{is_byte}

pub one_alone : (b : List ℕ) → 1 ≤ length b → length b < 2 → get_or b 0 0 ≡ 1 → true ≡ is_byte 1 b
unfolding is_byte
one_alone [] h l e = absurd (omega arith)
one_alone (x ∷ []) h l e = sym (eq-eqb x 1 e)
one_alone (x ∷ y ∷ b) h l e = absurd (omega arith)

pub none_alone : (b : List ℕ) → length b < 1 → false ≡ is_byte 1 b
unfolding is_byte
none_alone [] l = refl
none_alone (x ∷ b) l = absurd (omega arith)

pub other_alone : (b : List ℕ) → 1 ≤ length b → length b < 2 → (get_or b 0 0 ≡ 1 → ⊥) → false ≡ is_byte 1 b
unfolding is_byte
other_alone [] h l e = absurd (omega arith)
other_alone (x ∷ []) h l e = sym (ne_eqb x 1 e)
other_alone (x ∷ y ∷ b) h l e = absurd (omega arith)

pub more_bytes : (b : List ℕ) → 2 ≤ length b → false ≡ is_byte 1 b
unfolding is_byte
more_bytes [] h = absurd (omega arith)
more_bytes (x ∷ []) h = absurd (omega arith)
more_bytes (x ∷ y ∷ b) h = refl
