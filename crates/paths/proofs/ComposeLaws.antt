-- A composed path is a shift and the lower bits, and how two bytes of the first path become it. Assumes nothing.
use Prim.Native.Nat.{ℕ, suc, ◌+◌, ◌-◌, ◌*◌, ◌/◌, ◌%◌, ◌^◌, ◌≤◌, ◌<◌}
use mathlib.Core.Path.{◌≡◌, sym, ◌∙◌, ap, ap₂}
use mathlib.Core.List.{List, [], ◌∷◌}
use mathlib.Core.Bool.{Bool}
use native.Mathlib.Nat.{pow-succ', mod-one, mod-lt}
use native.Mathlib.Numerals.{add-one}
use native.Mathlib.Omega.{arith}
use borrow.Author.Tests.{eqb-true, eqb-false}
use lib.Arith.{bin_ind, digits_div, digits_mod}
use lib.Bits.{bit_and, bit_or, and_mask, or_shifted}
use lib.Dec.{eqb}
use lib.ListN.{length, take, drop, get_or, set, length-drop, length-set}
use lib.Pow.{mod-pow-add, pow-add, pow_pos, shl_exact}
use lib.Seq.{take-set-le, drop-cons, drop-drop, get_or-drop}
use mir.Syntax.{w8}
use mir.Val.{Fits}
use Rattle.meaning.proofs.Tests.{on_bool}
use Rattle.meaning.specs.Number.{number, number_from, turns, onto, compose_paths}
use Rattle.paths.specs.Wide.{Zeros, Shortest, Holds}
use Rattle.paths.specs.declared.casts.Number.{Number}
use Rattle.paths.proofs.NumberLaws.{Bytes, on_lt, number_lt, bytes_drop, upto_suc, from_at, from_set, powers}
use Rattle.paths.proofs.ShortestLaws.{held_len, shortest_first, shortest_number, shortest_zeros, zeros_number}
use Rattle.paths.proofs.SizeLaws.{bytes_of_bytes, bytes_long, long_bytes}
use Rattle.paths.proofs.TurnLaws.{small_or, turns_none, turns_step, count_below, count_number}

onto_bit : (n : ℕ) (ds : List Bool) (q : ℕ) → onto (eqb (n % 2) 1 ∷ ds) q ≡ 2 * onto ds q + n % 2
unfolding onto
onto_bit n ds q =
    on_bool (eqb (n % 2) 1)
    (λ e. let f : n % 2 ≡ 1 = eqb-true _ _ e in rw (e, onto) (omega arith))
    (λ e. let g : n % 2 ≡ 1 → ⊥ = eqb-false _ _ e in let f : n % 2 ≡ 0 = omega arith in rw (e, onto) (omega arith))

-- "q is shifted left by the number of bits below the top bit of p, and p's lower bits go in"
pub compose_shifted : (p q : ℕ) → compose_paths p q ≡ q * 2 ^ length (turns p) + p % 2 ^ length (turns p)
unfolding compose_paths onto
compose_shifted p q = bin_ind Shifted (none 0 (omega arith)) step p
  where
    Shifted : ℕ → Type 0
    Shifted p = onto (turns p) q ≡ q * 2 ^ length (turns p) + p % 2 ^ length (turns p)

    none : (n : ℕ) → n ≤ 1 → Shifted n
    none n h = rw (turns_none n h, mod-one n) (omega arith)

    step : (n : ℕ) → Shifted (n / 2) → Shifted n
    step n i =
        small_or n (none n)
        (λ h.
        let k = length (turns (n / 2)) in
        let m : n % 2 ^ suc k ≡ (n / 2 % 2 ^ k) * 2 + n % 2 = rw add-one at (mod-pow-add n k 1) in
        let s : q * 2 ^ suc k ≡ q * (2 * 2 ^ k) = ap (q *◌) (pow-succ' 2 k) in
        rw (turns_step n h) (onto_bit n (turns (n / 2)) q ∙ omega arith))

-- a path with the byte x above w others, which make l
composed_at : (w x l q : ℕ) → length (turns (x * 256 ^ w + l)) ≡ w * 8 + length (turns x) → l < 256 ^ w
    → compose_paths (x * 256 ^ w + l) q ≡ (q * 2 ^ length (turns x) + x % 2 ^ length (turns x)) * 256 ^ w + l
composed_at w x l q k h =
    let n = x * 256 ^ w + l in
    let s = length (turns x) in
    let e : w * 8 + s ≡ s + 8 * w = omega arith in
    let p : 2 ^ (s + 8 * w) ≡ 2 ^ s * 256 ^ w = pow-add 2 s (8 * w) ∙ ap (2 ^ s *◌) (sym (powers w)) in
    let d : n / 2 ^ (8 * w) ≡ x = ap (n /◌) (sym (powers w)) ∙ digits_div x h in
    let m : n % 2 ^ (8 * w) ≡ l = ap (n %◌) (sym (powers w)) ∙ digits_mod x h in
    let r : n % 2 ^ (s + 8 * w) ≡ x % 2 ^ s * 256 ^ w + l = mod-pow-add n s (8 * w) ∙ ap₂ (λ a b. a % 2 ^ s * 2 ^ (8 * w) + b) d m ∙ ap (λ t. x % 2 ^ s * t + l) (sym (powers w)) in
    compose_shifted n q ∙ ap (λ c. q * 2 ^ c + n % 2 ^ c) (k ∙ e) ∙ ap₂ (λ a b. q * a + b) p r ∙ grouped q (2 ^ s) (x % 2 ^ s) (256 ^ w) l
  where
    grouped : (q a b p l : ℕ) → q * (a * p) + (b * p + l) ≡ (q * a + b) * p + l
    grouped q a b p l = omega arith

-- ---- joined

one_moved : (n : ℕ) → n < 8 → 1 * 2 ^ n % 2 ^ 16 ≡ 2 ^ n
one_moved n h = shl_exact 1 n 16 (omega arith) (omega arith) ∙ omega arith

pub moved_in : (q x n : ℕ) → n < 8 → Fits w8 q → bit_or (q * 2 ^ n % 2 ^ 16) (bit_and x (1 * 2 ^ n % 2 ^ 16 - 1)) ≡ q * 2 ^ n + x % 2 ^ n
moved_in q x n h f =
    let e : q * 2 ^ n % 2 ^ 16 ≡ q * 2 ^ n = shl_exact 8 n 16 f.fits (omega arith) in
    ap₂ (λ a m. bit_or a (bit_and x (m - 1))) e (one_moved n h) ∙ ap (bit_or (q * 2 ^ n)) (and_mask x n) ∙ or_shifted q n (x % 2 ^ n) (mod-lt x (pow_pos n))

-- ---- compose_paths

-- a number without bytes is 0
none_held : {p : Number} → Holds (number p.bytes) p → p.len ≡ 0 → number p.bytes ≡ 0
none_held {p} h e =
    let l = held_len h in
    on_lt 0 (number p.bytes) (λ k. let m = long_bytes (number p.bytes) 0 (omega arith) in absurd (omega arith)) (λ k. omega arith)

-- "compose(0, 2) = 2"
pub composed_none : {p : Number} (q : ℕ) {n : Number} → Holds (number p.bytes) p → p.len ≡ 0 → Holds (number (q ∷ [])) n → Holds (compose_paths (number p.bytes) q) n
unfolding compose_paths onto number number_from
composed_none {p} q h e r =
    let z = none_held h e in
    let f : q ≡ 0 * 256 + q = omega arith in
    rw (turns_none (number p.bytes) (omega arith), f) r

-- two bytes are set, at an index and before it
abbrev pub twice : List ℕ → ℕ → ℕ → ℕ → List ℕ
twice bs at x y = set (set bs at x) (at - 1) y

-- and nothing stands before these
module _ (bs : List ℕ) (at x y : ℕ) (w : length bs ≡ 65) (d : Zeros bs at) (l : 1 ≤ at) (k : at < 65) where
  place : at - 1 + 1 ≡ at
  place = omega arith

  once_wide : length (set bs at x) ≡ 65
  once_wide = length-set bs at x ∙ w

  none_before : number (take (at - 1) bs) ≡ 0
  none_before =
      let u : number (take at bs) ≡ number (take (at - 1) bs) * 256 + get_or bs (at - 1) 0 = ap (λ n. number (take n bs)) (sym place) ∙ upto_suc bs (at - 1) (omega arith) in
      let z = d.none in
      omega arith

  twice_zeros : Zeros (twice bs at x y) (at - 1)
  twice_zeros = record {
    within = let e = length-set (set bs at x) (at - 1) y in let f = once_wide in omega arith;
    none = ap number (take-set-le (at - 1) (set bs at x) (at - 1) y (omega arith) ∙ take-set-le (at - 1) bs at x (omega arith)) ∙ none_before;
  }

  lower : number (drop at (set bs at x)) ≡ x * 256 ^ (64 - at) + number (drop (at + 1) bs)
  lower = let e : length bs - (at + 1) ≡ 64 - at = omega arith in from_set bs at x (omega arith) ∙ rw e

  upper : number (twice bs at x y) ≡ y * 256 ^ (65 - at) + number (drop at (set bs at x))
  upper = let e = once_wide in zeros_number twice_zeros ∙ from_set (set bs at x) (at - 1) y (omega arith) ∙ rw (e, place)

  number_twice : (both : ℕ) → y * 256 + x ≡ both → number (twice bs at x y) ≡ both * 256 ^ (64 - at) + number (drop (at + 1) bs)
  number_twice both s =
      let e : 65 - at ≡ suc (64 - at) = omega arith in
      let f : 256 ^ (65 - at) ≡ 256 * 256 ^ (64 - at) = ap (256 ^◌) e ∙ pow-succ' 256 (64 - at) in
      upper ∙ ap₂ (λ u t. y * u + t) f lower ∙ summed (256 ^ (64 - at)) (number (drop (at + 1) bs)) ∙ ap (λ t. t * 256 ^ (64 - at) + number (drop (at + 1) bs)) s
    where
      summed : (p v : ℕ) → y * (256 * p) + (x * p + v) ≡ (y * 256 + x) * p + v
      summed p v = omega arith

not_both : (m k : ℕ) → m < k → k ≤ m → ⊥
not_both m k l h = omega arith

module _ {p : Number} (h : Holds (number p.bytes) p) (o : p.len ≡ 0 → ⊥) where
  abbrev bs : List ℕ
  bs = p.bytes

  -- the byte that has the top bit
  abbrev at : ℕ
  at = 65 - p.len

  abbrev top : ℕ
  top = get_or bs at 0

  shortest : Shortest bs at
  shortest = let w = h.wide in record { within = omega arith; shown = h.shown }

  before_end : at < 65
  before_end = let l = h.within in omega arith

  pub some_before : number bs < 256 ^ 64 → 1 ≤ at
  some_before l = let e = held_len h in on_lt 64 p.len (λ k. absurd (not_both (number bs) (256 ^ 64) l (bytes_long (number bs) 64 (omega arith)))) (λ k. omega arith)

  -- the shortest bytes are bytes
  bytes_from : Bytes (drop at bs)
  bytes_from = rw h.shown (bytes_of_bytes (number bs))

  bytes_after : Bytes (drop (at + 1) bs)
  bytes_after = rw (← drop-drop 1 at bs) (bytes_drop 1 (drop at bs) bytes_from)

  pub top_few : {n : ℕ} → n ≡ length (turns top) → n < 8
  top_few e =
      let f : get_or (drop at bs) 0 0 ≡ top = get_or-drop at bs 0 0 ∙ ap (λ i. get_or bs i 0) (omega arith) in
      let c = count_below 7 top (rw f at (bytes_from 0).fits) in
      omega arith

  rest : length bs - (at + 1) ≡ 64 - at
  rest = let w = h.wide in omega arith

  low_less : number (drop (at + 1) bs) < 256 ^ (64 - at)
  low_less = rw (length-drop, rest) at (number_lt (drop (at + 1) bs) bytes_after)

  in_bytes : at < length bs
  in_bytes = let w = h.wide in let b = before_end in omega arith

  by_top : number bs ≡ top * 256 ^ (64 - at) + number (drop (at + 1) bs)
  by_top = shortest_number shortest ∙ from_at bs at in_bytes ∙ rw rest

  turns_by_top : length (turns (number bs)) ≡ (64 - at) * 8 + length (turns top)
  turns_by_top =
      let e : length (drop (at + 1) bs) ≡ 64 - at = length-drop (at + 1) bs ∙ rest in
      ap (λ n. length (turns n)) (shortest_number shortest ∙ ap number (drop-cons bs at 0 in_bytes ∙ ap (λ i. top ∷ drop i bs) (sym (add-one at))))
      ∙ count_number top (drop (at + 1) bs) (shortest_first shortest in_bytes) bytes_after
      ∙ rw e

  composed_by_top : (q : ℕ) → compose_paths (number bs) q ≡ (q * 2 ^ length (turns top) + top % 2 ^ length (turns top)) * 256 ^ (64 - at) + number (drop (at + 1) bs)
  composed_by_top q =
      ap (λ n. compose_paths n q) by_top ∙ composed_at (64 - at) top (number (drop (at + 1) bs)) q (ap (λ n. length (turns n)) (sym by_top) ∙ turns_by_top) low_less

  module _ (l : number bs < 256 ^ 64) where
    pub two_zeros : (x y : ℕ) → Zeros (twice bs at x y) (at - 1)
    two_zeros x y = twice_zeros bs at x y h.wide (shortest_zeros shortest) (some_before l) before_end

    pub two_composed : (q both : ℕ) {s : ℕ} {n : Number} → both ≡ q * 2 ^ s + top % 2 ^ s → s ≡ length (turns top) → both < 65536 → Holds (number (twice bs at (both % 256) (both / 256 % 256))) n
        → Holds (compose_paths (number bs) q) n
    two_composed q both {s} e f m n =
        let c : both / 256 % 256 * 256 + both % 256 ≡ both = omega arith in
        rw (number_twice bs at (both % 256) (both / 256 % 256) h.wide (shortest_zeros shortest) (some_before l) before_end _ (c ∙ e ∙ ap (λ k. q * 2 ^ k + top % 2 ^ k) f) ∙ sym (composed_by_top q)) at n
