-- The loops of casts.rs: what each has done at index i, at its start, after one turn more, and at its end. Assumes nothing.
use Prim.Native.Nat.{ℕ, ◌+◌, ◌-◌, ◌*◌, ◌^◌, ◌≤◌, ◌<◌}
use mathlib.Core.Path.{◌≡◌, refl, sym, ◌∙◌, ap}
use mathlib.Core.List.{List, [], ◌∷◌, ◌++◌, append-nil}
use mathlib.Core.Bool.{Bool, true, false, and-false}
use native.Mathlib.Omega.{arith}
use borrow.Author.Tests.{le-leb, lt-leb, eq-eqb, ne_eqb}
use lib.Dec.{eqb}
use lib.ListN.{length, take, drop, get_or, set, replicate, length-set, length-drop, length-append, drop_of_length-le}
use lib.Seq.{drop-drop, take_all, length-take-le}
use borrow.Rule.Slice.PartMut.{put_mid}
use Rattle.std.specs.Bool.{Decides}
use Rattle.std.specs.Cmp.Lexicographic.{pointwise}
use Rattle.std.proofs.lemmas.Bool.Decides.{Decides-eqb}
use Rattle.std.proofs.lemmas.Slice.Eq.{slice_eq-Decides}
use Rattle.meaning.proofs.Tests.{on_bool, not_false}
use Rattle.meaning.specs.Number.{number, number_from, bigint_from_bytes, shortest_signed, negative, bytes_of}
use Rattle.paths.specs.Fours.{turned}
use Rattle.paths.specs.Wide.{Wide, Zeros, Shortest, Holds}
use Rattle.paths.proofs.FourLaws.{bigint_turned, length_turned}
use Rattle.paths.proofs.NumberLaws.{Bytes, number_lt, upto_suc, upto_set, upto_all, upto_zeros, split_at, number_append}
use Rattle.paths.proofs.ShortestLaws.{number_bytes_of, zeros_number, no_higher}

-- ---- negative

pub negative_none : (b : List ℕ) → length b < 1 → false ≡ negative b
unfolding negative
negative_none [] h = refl
negative_none (x ∷ b) h = absurd (omega arith)

pub negative_top : (b : List ℕ) → 1 ≤ length b → 128 ≤ get_or b 0 0 → true ≡ negative b
unfolding negative
negative_top [] h k = absurd (omega arith)
negative_top (x ∷ b) h k = sym (le-leb 128 x k)

pub negative_low : (b : List ℕ) → get_or b 0 0 < 128 → false ≡ negative b
unfolding negative
negative_low [] k = refl
negative_low (x ∷ b) k = sym (lt-leb 128 x k)

-- ---- placed

-- the first i of the bytes t stand in r, from index base on
pub record Placing (t r : List ℕ) (base i : ℕ) : Type 0 where
  pub sum : base + length t ≡ 65
  pub within : i ≤ length t
  pub wide : length r ≡ 65
  pub done : number (take (base + i) r) ≡ number (take i t)

pub placing_none : {t : List ℕ} {n : ℕ} → length t ≡ n → n ≤ 65 → Placing t (replicate 65 0) (65 - n) 0
unfolding number number_from
placing_none {t} {n} e h = record { sum = omega arith; within = omega arith; wide = refl; done = upto_zeros (65 - n + 0) 65 }

pub placing_more : {t r : List ℕ} {base i v : ℕ} → Placing t r base i → i < length t → v ≡ get_or t i 0 → Placing t (set r (base + i) v) base (i + 1)
placing_more {t} {r} {base} {i} {v} d h e =
    let s = d.sum in
    let w = d.wide in
    let a : base + i + 1 ≡ base + (i + 1) = omega arith in
    record {
      sum = s;
      within = omega arith;
      wide = length-set r _ _ ∙ w;
      done = ap (λ n. number (take n (set r (base + i) v))) (sym a) ∙ upto_set r (base + i) v (omega arith) ∙ rw (d.done, e) (sym (upto_suc t i h));
    }

pub placing_all : {t r : List ℕ} {base i : ℕ} → Placing t r base i → length t ≤ i → Wide (number t) r
placing_all {t} {r} {base} {i} d h =
    let s = d.sum in
    let l = d.within in
    let z : i ≡ length t = omega arith in
    let a : base + i ≡ 65 = omega arith in
    record {
      wide = d.wide;
      value = sym (upto_all r 65 d.wide) ∙ sym (ap (λ n. number (take n r)) a) ∙ d.done ∙ ap (λ n. number (take n t)) z ∙ upto_all t (length t) refl;
    }

-- bytes are placed at once
pub placed_at : (b : List ℕ) {s : List ℕ} → s ≡ b → length b ≤ 65 → Wide (number b) (put_mid (65 - length b) (65 - (65 - length b)) (replicate 65 0) s)
placed_at b {s} e h =
    let i : 65 - (65 - length b) ≡ length b = omega arith in
    let d : drop (length b) (drop (65 - length b) zeros) ≡ [] = drop_of_length-le (drop (65 - length b) zeros) (omega (arith, length-drop (65 - length b) zeros)) in
    let l : length (take (65 - length b) zeros ++ b) ≡ 65 = length-append (take (65 - length b) zeros) b ∙ omega (arith, length-take-le (65 - length b) zeros (omega arith)) in
    rw (e, i, d, append-nil b)
    (record { wide = l; value = number_append (take (65 - length b) zeros) b ∙ rw (upto_zeros (65 - length b) 65) (omega arith) })
  where
    zeros : List ℕ
    zeros = replicate 65 0

pub fours_none : (b : List ℕ) → length b ≤ 65 → Placing (turned b) (replicate 65 0) (65 - length b) 0
fours_none b h = placing_none (length_turned b) h

pub fours_more : (b : List ℕ) {r : List ℕ} {base i v : ℕ} → Placing (turned b) r base i → i < length b → v ≡ get_or (turned b) i 0
    → Placing (turned b) (set r (base + i) v) base (i + 1)
fours_more b d h e = let l = length_turned b in placing_more d (omega arith) e

pub fours_all : (b : List ℕ) {r : List ℕ} {base i : ℕ} → Placing (turned b) r base i → length b ≤ i → Wide (bigint_from_bytes b) r
fours_all b d h = let l = length_turned b in rw (bigint_turned b) (placing_all d (omega arith))

-- ---- measured

-- the shortest bytes, looked for from index i on
pub measured : {bs : List ℕ} {i z : ℕ} → Zeros bs i → Shortest (take (65 - i) (drop i bs)) z → length bs ≡ 65 → Holds (number bs) (record { bytes = bs; len = 65 - i - z })
measured {bs} {i} {z} d s w =
    let n = length-drop i bs in
    let p : Shortest (drop i bs) z = rw (take_all (65 - i) (drop i bs) (omega arith)) at s in
    let a = d.within in
    let b = p.within in
    let e : 65 - (65 - i - z) ≡ i + z = omega arith in
    record { wide = w; value = refl; within = omega arith; shown = rw (e, ← drop-drop z i bs) (p.shown ∙ ap bytes_of (sym (zeros_number d))) }

-- a number of n bytes has zeros before these
pub wide_zeros : {v n : ℕ} {r : List ℕ} → Wide v r → v < 256 ^ n → n ≤ 65 → Zeros r (65 - n)
wide_zeros {v} {n} {r} w h l =
    let k = w.wide in
    let e : length r - (65 - n) ≡ n = omega arith in
    let s : number r ≡ number (take (65 - n) r) * 256 ^ n + number (drop (65 - n) r) = split_at r (65 - n) ∙ rw e in
    record { within = omega arith; none = no_higher (number (take (65 - n) r)) (256 ^ n) (number (drop (65 - n) r)) v (sym w.value ∙ s) (omega arith) }

pub placed_zeros : (b : List ℕ) {r : List ℕ} → Wide (number b) r → Bytes b → length b ≤ 65 → Zeros r (65 - length b)
placed_zeros b w h l = wide_zeros w (number_lt b h) l

-- ---- same_number

pub same_bytes : (a b : List ℕ) {x y : List ℕ} {r : Bool} → r ≡ pointwise eqb x y → x ≡ bytes_of (number a) → y ≡ bytes_of (number b) → r ≡ eqb (number a) (number b)
same_bytes a b {x} {y} {r} e u v =
    let (same, differ) : Decides r (x ≡ y) = slice_eq-Decides Decides-eqb x y r e in
    on_bool r
    (λ t. t ∙ sym (eq-eqb (number a) (number b) (sym (number_bytes_of (number a)) ∙ ap number (sym u ∙ same t ∙ v) ∙ number_bytes_of (number b))))
    (λ f. f ∙ sym (ne_eqb (number a) (number b) (λ n. not_false (sym f ∙ differ (u ∙ ap bytes_of n ∙ sym v)))))

-- ---- shortest_signed

pub shrinks : (s : List ℕ) (b : List ℕ) → 2 ≤ length s → get_or s 0 0 ≡ 255 → 128 ≤ get_or s 1 0 → shortest_signed s ≡ shortest_signed b → shortest_signed (take (length s - 1) (drop 1 s)) ≡ shortest_signed b
unfolding shortest_signed
shrinks [] b l h k e = absurd (omega arith)
shrinks (x ∷ []) b l h k e = absurd (omega arith)
shrinks (x ∷ y ∷ s) b l h k e =
    rw (take_all (length (x ∷ y ∷ s) - 1) (y ∷ s) (omega arith)) (rw (eq-eqb x 255 h, le-leb 128 y k, shortest_signed) at e)

stays_first : (s : List ℕ) → (get_or s 0 0 ≡ 255 → ⊥) → s ≡ shortest_signed s
unfolding shortest_signed
stays_first [] h = refl
stays_first (x ∷ []) h = refl
stays_first (x ∷ y ∷ s) h = rw (ne_eqb x 255 h, shortest_signed)

stays_sign : (s : List ℕ) → get_or s 1 0 < 128 → s ≡ shortest_signed s
unfolding shortest_signed
stays_sign [] h = refl
stays_sign (x ∷ []) h = refl
stays_sign (x ∷ y ∷ s) h = rw (lt-leb 128 y h, and-false (eqb x 255), shortest_signed)

stays_short : (s : List ℕ) → length s < 2 → s ≡ shortest_signed s
unfolding shortest_signed
stays_short [] h = refl
stays_short (x ∷ []) h = refl
stays_short (x ∷ y ∷ s) h = absurd (omega arith)

module _ {s : List ℕ} (b : List ℕ) (e : shortest_signed s ≡ shortest_signed b) where
  pub shrunk_first : (get_or s 0 0 ≡ 255 → ⊥) → s ≡ shortest_signed b
  shrunk_first h = stays_first s h ∙ e

  pub shrunk_sign : get_or s 1 0 < 128 → s ≡ shortest_signed b
  shrunk_sign h = stays_sign s h ∙ e

  pub shrunk_short : length s < 2 → s ≡ shortest_signed b
  shrunk_short h = stays_short s h ∙ e
