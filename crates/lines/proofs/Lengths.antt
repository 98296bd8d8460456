-- How long the parts of a line are. Assumes nothing.
use mathlib.Core.Path.{◌≡◌, refl}
use mathlib.Core.List.{List, [], ◌∷◌}
use Prim.Native.Nat.{ℕ, zero, suc, ◌+◌, ◌*◌, ◌/◌, ◌%◌, ◌≤◌}
use native.Mathlib.Omega.{arith}
use lib.Dec.{ltb}
use lib.ListN.{length, length-append}
use Rattle.io.specs.Digits.{hex_digit_ascii, last_digits}
use Rattle.lines.specs.Hex.{hex_of}
use Rattle.lines.specs.Text.{line_most, ok_tree, places, decimal_of, blank_decimal, numbers_text, numbers_line, no_number, no_line}
use Rattle.lines.proofs.Decoding.{on_bool}

pub hex_length : (bs : List ℕ) → length (hex_of bs) ≡ 2 * length bs
unfolding hex_of
hex_length [] = refl
hex_length (x ∷ bs) = let e : length (hex_of bs) ≡ 2 * length bs = hex_length bs in omega arith

digits_length : (k n : ℕ) → length (last_digits 10 k n) ≡ k
digits_length zero n = refl
digits_length (suc k) n =
    let e : length (last_digits 10 k (n / 10)) ≡ k = digits_length k (n / 10) in
    let a : length (last_digits 10 (suc k) n) ≡ length (last_digits 10 k (n / 10)) + 1 = length-append (last_digits 10 k (n / 10)) (hex_digit_ascii (n % 10) ∷ []) in
    omega arith

places_most : (f n : ℕ) → places f n ≤ suc f
unfolding places
places_most zero n = omega arith
places_most (suc f) n = on_bool (ltb n 10) (λ e. rw (e, places) (omega arith)) (λ e. rw (e, places) (let h : places f (n / 10) ≤ suc f = places_most f (n / 10) in omega arith))

-- a blank and at most twenty digits for each
numbers_most : (ns : List ℕ) → length (numbers_text ns) ≤ 21 * length ns
unfolding numbers_text blank_decimal decimal_of
numbers_most [] = omega arith
numbers_most (n ∷ ns) =
    let a : length (numbers_text (n ∷ ns)) ≡ length (blank_decimal n) + length (numbers_text ns) = length-append (blank_decimal n) (numbers_text ns) in
    let b : length (decimal_of n) ≡ places 19 n = digits_length (places 19 n) n in
    let c : places 19 n ≤ 20 = places_most 19 n in
    let d : length (numbers_text ns) ≤ 21 * length ns = numbers_most ns in
    omega arith

pub end_most : (ns : List ℕ) → length (numbers_line ns) ≤ 21 * length ns + 1
unfolding numbers_line
end_most ns =
    let a : length (numbers_line ns) ≡ length (numbers_text ns) + 1 = length-append (numbers_text ns) (10 ∷ []) in
    let d : length (numbers_text ns) ≤ 21 * length ns = numbers_most ns in
    omega arith

pub tree_length : (bs : List ℕ) → length (ok_tree bs) ≡ 2 * length bs + 3
unfolding ok_tree
tree_length bs = let e : length (hex_of bs) ≡ 2 * length bs = hex_length bs in omega arith

pub no_most : (n : ℕ) → length (no_number n) ≤ line_most
unfolding no_number
no_most n = let a : length (numbers_line (n ∷ [])) ≤ 21 * length (n ∷ []) + 1 = end_most (n ∷ []) in omega arith

pub no_line_most : length no_line ≤ line_most
unfolding no_line
no_line_most = omega arith
