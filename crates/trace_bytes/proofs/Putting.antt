-- Bytes put into the output: what each write and return needs. Assumes nothing.
use Prim.Native.Nat.{ℕ, suc, ◌+◌, ◌/◌, ◌%◌, ◌<◌, ◌≤◌}
use mathlib.Core.Path.{◌≡◌, refl, sym, ◌∙◌, ap, ap₂}
use mathlib.Core.List.{List, [], ◌∷◌, ◌++◌, append_assoc}
use native.Mathlib.Omega.{arith}
use lib.ListN.{length, take, drop, set, length-append}
use borrow.Rule.Slice.PartMut.{put_mid}
use Rattle.std.specs.Int.{w16, w32, to_be_bytes}
use lib.Seq.{length-take-le, take_at, drop-drop, set_split, drop-append-add}
use Rattle.meaning.specs.Trace.{two_bytes, four_bytes, trace_start}
use Rattle.trace_bytes.specs.Bytes.{put_at, counts_of}

-- ---- bytes that stand where they were put

-- some, and then others behind them
put_then : (out m n : List ℕ) (at k : ℕ) → at ≤ length out → at + length m ≡ k → put_at (put_at out at m) k n ≡ put_at out at (m ++ n)
unfolding put_at
put_then out m n at k h e =
    let p : List ℕ = take at out ++ m in
    let r : List ℕ = drop (at + length m) out in
    let c : length (take at out) ≡ at = length-take-le at out h in
    let l : length p ≡ k = omega (arith, length-append (take at out) m) in
    let i : take at out ++ (m ++ r) ≡ p ++ r = sym (append_assoc (take at out) m r) in
    let t : take k (take at out ++ (m ++ r)) ≡ p = ap (take k) i ∙ take_at p r k l in
    let z : k + length n ≡ length p + length n = omega arith in
    let d : drop (k + length n) (take at out ++ (m ++ r)) ≡ drop (at + length (m ++ n)) out =
    ap₂ (λ (x : ℕ) (y : List ℕ). drop x y) z i
    ∙ drop-append-add p r (length n)
    ∙ drop-drop (length n) (at + length m) out
    ∙ (let y : at + length m + length n ≡ at + length (m ++ n) = omega (arith, length-append m n) in rw y) in
    ap₂ (λ (x y : List ℕ). x ++ (n ++ y)) t d
    ∙ append_assoc (take at out) m (n ++ drop (at + length (m ++ n)) out)
    ∙ ap (λ (x : List ℕ). take at out ++ x) (sym (append_assoc m n (drop (at + length (m ++ n)) out)))

-- bytes written over a part
put_part : (out ys : List ℕ) (at k : ℕ) → k ≡ length ys → put_mid at k out ys ≡ put_at out at ys
unfolding put_at
put_part out ys at k e = rw (drop-drop, e)

-- ---- put_two

pub two_put : (out : List ℕ) (at k n : ℕ) → n < 65536 → k ≡ 2 → put_mid at k out (to_be_bytes w16 n) ≡ put_at out at (two_bytes n)
unfolding two_bytes
two_put out at k n h e =
    let a : n / 256 % 256 ≡ n / 256 = omega arith in
    put_part out (to_be_bytes w16 n) at k e ∙ rw a

-- ---- put_four

pub four_put : (out : List ℕ) (at k n : ℕ) → n < 4294967296 → k ≡ 4 → put_mid at k out (to_be_bytes w32 n) ≡ put_at out at (four_bytes n)
unfolding four_bytes two_bytes
four_put out at k n h e =
    let a : n / 16777216 % 256 ≡ n / 65536 / 256 = omega arith in
    let b : n / 256 % 256 ≡ n % 65536 / 256 = omega arith in
    let c : n % 256 ≡ n % 65536 % 256 = omega arith in
    put_part out (to_be_bytes w32 n) at k e ∙ rw (a, b, c)

-- ---- put_start

pub start_put : (out o₁ : List ℕ) (n : ℕ) → o₁ ≡ put_at (trace_start ++ drop 5 out) 5 (two_bytes n) → o₁ ≡ (trace_start ++ two_bytes n) ++ drop 7 out
unfolding put_at two_bytes
start_put out o₁ n e = e ∙ rw (drop-drop 2 5 out)

-- ---- put_counts

one_put : (out : List ℕ) (at v : ℕ) → at < length out → set out at v ≡ put_at out at (v ∷ [])
unfolding put_at
one_put out at v h = set_split out at v h ∙ (let z : suc at ≡ at + 1 = omega arith in rw z)

module _ (out : List ℕ) (at p u : ℕ) (h : at + 9 ≤ length out) (o₁ : List ℕ) (e : o₁ ≡ put_at (set out at 0) (at + 1) (four_bytes p)) where
  counts_first : o₁ ≡ put_at out at (0 ∷ four_bytes p)
  counts_first = e ∙ ap (λ (x : List ℕ). put_at x (at + 1) (four_bytes p)) (one_put out at 0 (omega arith)) ∙ put_then out (0 ∷ []) (four_bytes p) at (at + 1) (omega arith) refl

  pub counts_put : (o₂ : List ℕ) → o₂ ≡ put_at o₁ (at + 5) (four_bytes u) → o₂ ≡ put_at out at (counts_of p u)
  unfolding counts_of four_bytes two_bytes
  counts_put o₂ i = i ∙ ap (λ (x : List ℕ). put_at x (at + 5) (four_bytes u)) counts_first ∙ put_then out (0 ∷ four_bytes p) (four_bytes u) at (at + 5) (omega arith) refl
