-- An atom's bytes as a number, in the three readings that 01 knows; paths; the shortest unsigned bytes.
use Rattle.std.specs.Prelude.{ℕ, zero, suc, ◌+◌, ◌-◌, ◌*◌, ◌/◌, ◌%◌, ◌^◌, List, [], ◌∷◌, Bool, true, false, ◌&&◌, eqb, leb, length, take, drop}
use Rattle.std.proofs.Math.Option.{Option, none, some}
use Rattle.meaning.specs.Tree.{Tree, atom, pair, nil}

-- ---- unsigned: "bytes as an unsigned big-endian number"

unfoldable pub number_from : ℕ → List ℕ → ℕ
number_from n [] = n
number_from n (b ∷ bs) = number_from (n * 256 + b) bs

unfoldable pub number : List ℕ → ℕ
unfolding number_from
number bs = number_from 0 bs

-- ---- signed: util/mod.rs, `number_from_u8`

-- plus n is n, minus n is -n
pub data Signed : Type 0 where
  plus : ℕ → Signed
  minus : ℕ → Signed

-- the top bit is set
unfoldable pub negative : List ℕ → Bool
negative [] = false
negative (b ∷ bs) = leb 128 b

unfoldable pub number_from_u8 : List ℕ → Signed
unfolding negative number
number_from_u8 bs = elim (negative bs) [ true ↦ minus (256 ^ length bs - number bs) | false ↦ plus (number bs) ]

-- ---- `NodePath::new`'s index

-- casts.rs, `get_u32` in `bigint_from_bytes`: each group of four is taken low byte first
unfoldable pub by_fours : ℕ → List ℕ → ℕ
by_fours n [] = n
by_fours n (a ∷ []) = n
by_fours n (a ∷ b ∷ []) = n
by_fours n (a ∷ b ∷ c ∷ []) = n
by_fours n (a ∷ b ∷ c ∷ d ∷ bs) = by_fours (n * 2 ^ 32 + (a + 2 ^ 8 * b + 2 ^ 16 * c + 2 ^ 24 * d)) bs

-- casts.rs, `bigint_from_bytes` without its option: the groups of four are counted from the end, what is left over stands before them
unfoldable pub bigint_from_bytes : List ℕ → ℕ
unfolding by_fours number
bigint_from_bytes bs = by_fours (number (take (length bs % 4) bs)) (drop (length bs % 4) bs)

-- casts.rs, `bigint_to_bytes_clvm` of a negative number: a leading ff goes where the next byte has the sign too
unfoldable pub shortest_signed : List ℕ → List ℕ
shortest_signed [] = []
shortest_signed (a ∷ []) = a ∷ []
shortest_signed (a ∷ b ∷ bs) = elim (eqb a 255 && leb 128 b) [ true ↦ shortest_signed (b ∷ bs) | false ↦ a ∷ b ∷ bs ]

-- node_path.rs, `NodePath::new` of the signed number of these bytes
unfoldable pub node_path_index : List ℕ → ℕ
unfolding number_from_u8 bigint_from_bytes shortest_signed
node_path_index bs = elim (number_from_u8 bs) [ plus n ↦ n | minus n ↦ bigint_from_bytes (shortest_signed bs) ]

-- ---- paths

-- the digits of n below its top one, the lowest first: false is left, true is right. (n is a count that is surely large enough.)
unfoldable pub turns_in : ℕ → ℕ → List Bool
turns_in zero n = []
turns_in (suc k) n = elim (leb n 1) [ true ↦ [] | false ↦ eqb (n % 2) 1 ∷ turns_in k (n / 2) ]

unfoldable pub turns : ℕ → List Bool
unfolding turns_in
turns n = turns_in n n

-- the part of a tree that turns lead to; "a path into an atom fails"
unfoldable pub follow : List Bool → Tree → Option Tree
follow [] t = some t
follow (d ∷ ds) (atom b) = none
follow (false ∷ ds) (pair l r) = follow ds l
follow (true ∷ ds) (pair l r) = follow ds r

-- 01: "zero (nil too) gives nil, 1 gives the environment, otherwise bits from the lowest .. until the top bit"
unfoldable pub lookup : ℕ → Tree → Option Tree
unfolding turns follow
lookup zero t = some nil
lookup (suc n) t = follow (turns (suc n)) t

-- the turns go in below q's digits
unfoldable pub onto : List Bool → ℕ → ℕ
onto [] q = q
onto (false ∷ ds) q = 2 * onto ds q
onto (true ∷ ds) q = 2 * onto ds q + 1

-- node_path.rs, `compose_paths`: "q is shifted left by the number of bits below the top bit of p, and p's lower bits go in"
unfoldable pub compose_paths : ℕ → ℕ → ℕ
unfolding onto turns
compose_paths p q = onto (turns p) q

-- ---- casts.rs, `bigint_to_bytes_unsigned`: the shortest unsigned bytes, none for zero

unfoldable pub bytes_onto : ℕ → ℕ → List ℕ → List ℕ
bytes_onto zero n bs = bs
bytes_onto (suc k) n bs = elim (leb n 0) [ true ↦ bs | false ↦ bytes_onto k (n / 256) (n % 256 ∷ bs) ]

unfoldable pub bytes_of : ℕ → List ℕ
unfolding bytes_onto
bytes_of n = bytes_onto n n []
