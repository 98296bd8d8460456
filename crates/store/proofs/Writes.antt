-- Writes to a stretch of a list of bytes: what they leave, and what is read back.
use Rattle.std.proofs.Common.{◌≡◌, ℕ, suc, ◌+◌, ◌-◌, ◌/◌, ◌%◌, ◌<◌, ◌≤◌, List, length, get_or, take, drop, set, sym, ap, ◌∙◌, arith, length-drop, length-set, get_or-drop, get_or-take, get_or-set_other, get_or-set_same, ext_get_or, add-one, add-zero, add_assoc, append_assoc, lit<}
use borrow.Rule.Slice.PartMut.{put_mid}
use Rattle.std.specs.Int.{w16, w64, to_le_bytes, from_le_bytes}
use Rattle.std.proofs.lemmas.List.{drop-drop}
use Rattle.std.proofs.lemmas.List.Edits.{sets, sets-eq}
use Rattle.store.specs.Cells.{num16, num32, num64, put16, put32, put64, Writes}

pub both : {s t u : List ℕ} {a b c d : ℕ} (l h : ℕ) → Writes s t a b → Writes t u c d → l ≤ a → l ≤ c → b ≤ h → d ≤ h → Writes s u l h
both l h v w la lc bh dh = record {
  long = w.long ∙ v.long;
  below = λ j hj. w.below j (omega arith) ∙ v.below j (omega arith);
  above = λ j hj. w.above j (omega arith) ∙ v.above j (omega arith);
}

pub one : (s : List ℕ) (i x : ℕ) → Writes s (set s i x) i (i + 1)
one s i x = record {
  long = length-set s i x;
  below = λ j h. get_or-set_other s i j x 0 (omega arith);
  above = λ j h. get_or-set_other s i j x 0 (omega arith);
}

pub two : (s : List ℕ) (i x : ℕ) → Writes s (put16 s i x) i (i + 2)
unfolding put16
two s i x = both i (i + 2) (one s i (x % 256)) (one (set s i (x % 256)) (i + 1) (x / 256)) (omega arith) (omega arith) (omega arith) (omega arith)

pub four : (s : List ℕ) (i x : ℕ) → Writes s (put32 s i x) i (i + 4)
unfolding put32
four s i x = both i (i + 4) (two s i (x % 65536)) (two (put16 s i (x % 65536)) (i + 2) (x / 65536)) (omega arith) (omega arith) (omega arith) (omega arith)

pub eight : (s : List ℕ) (i x : ℕ) → Writes s (put64 s i x) i (i + 8)
unfolding put64
eight s i x = both i (i + 8) (four s i (x % 4294967296)) (four (put32 s i (x % 4294967296)) (i + 4) (x / 4294967296)) (omega arith) (omega arith) (omega arith) (omega arith)

-- numbers outside what was written
module _ {s t : List ℕ} {a e : ℕ} (w : Writes s t a e) where
  pub below16 : (i : ℕ) → i + 2 ≤ a → num16 t i ≡ num16 s i
  unfolding num16
  below16 i h = rw (w.below i (omega arith), w.below (i + 1) (omega arith))

  pub above16 : (i : ℕ) → e ≤ i → num16 t i ≡ num16 s i
  unfolding num16
  above16 i h = rw (w.above i h, w.above (i + 1) (omega arith))

  pub below32 : (i : ℕ) → i + 4 ≤ a → num32 t i ≡ num32 s i
  unfolding num32
  below32 i h = rw (below16 i (omega arith), below16 (i + 2) (omega arith))

  pub above32 : (i : ℕ) → e ≤ i → num32 t i ≡ num32 s i
  unfolding num32
  above32 i h = rw (above16 i h, above16 (i + 2) (omega arith))

  pub below64 : (i : ℕ) → i + 8 ≤ a → num64 t i ≡ num64 s i
  unfolding num64
  below64 i h = rw (below32 i (omega arith), below32 (i + 4) (omega arith))

  pub above64 : (i : ℕ) → e ≤ i → num64 t i ≡ num64 s i
  unfolding num64
  above64 i h = rw (above32 i h, above32 (i + 4) (omega arith))

  pub drop_above : (i : ℕ) → e ≤ i → drop i t ≡ drop i s
  drop_above i h =
      ext_get_or 0 (drop i t) (drop i s) (length-drop i t ∙ ap (λ (k : ℕ). k - i) w.long ∙ sym (length-drop i s))
      (λ j hj. get_or-drop i t j 0 ∙ w.above (i + j) (omega arith) ∙ sym (get_or-drop i s j 0))

-- what was written is read back
pub same16 : (s : List ℕ) (i x : ℕ) → i + 2 ≤ length s → x < 65536 → num16 (put16 s i x) i ≡ x
unfolding put16 num16
same16 s i x h hx =
    let a : get_or (set (set s i (x % 256)) (i + 1) (x / 256)) i 0 ≡ x % 256 =
    get_or-set_other (set s i (x % 256)) (i + 1) i (x / 256) 0 (omega arith) ∙ get_or-set_same s i (x % 256) 0 (omega arith) in
    let b : get_or (set (set s i (x % 256)) (i + 1) (x / 256)) (i + 1) 0 ≡ x / 256 =
    get_or-set_same (set s i (x % 256)) (i + 1) (x / 256) 0 (simp length-set (omega arith)) in
    rw (a, b) (omega arith)

pub same32 : (s : List ℕ) (i x : ℕ) → i + 4 ≤ length s → x < 4294967296 → num32 (put32 s i x) i ≡ x
unfolding put32 num32
same32 s i x h hx =
    let u : List ℕ = put16 s i (x % 65536) in
    let z : length u ≡ length s = (two s i (x % 65536)).long in
    let a : num16 (put16 u (i + 2) (x / 65536)) i ≡ x % 65536 = below16 (two u (i + 2) (x / 65536)) i (omega arith) ∙ same16 s i (x % 65536) (omega arith) (omega arith) in
    let b : num16 (put16 u (i + 2) (x / 65536)) (i + 2) ≡ x / 65536 = same16 u (i + 2) (x / 65536) (omega arith) (omega arith) in
    rw (a, b) (omega arith)

pub same64 : (s : List ℕ) (i x : ℕ) → i + 8 ≤ length s → x < 18446744073709551616 → num64 (put64 s i x) i ≡ x
unfolding put64 num64
same64 s i x h hx =
    let u : List ℕ = put32 s i (x % 4294967296) in
    let z : length u ≡ length s = (four s i (x % 4294967296)).long in
    let a : num32 (put32 u (i + 4) (x / 4294967296)) i ≡ x % 4294967296 = below32 (four u (i + 4) (x / 4294967296)) i (omega arith) ∙ same32 s i (x % 4294967296) (omega arith) (omega arith) in
    let b : num32 (put32 u (i + 4) (x / 4294967296)) (i + 4) ≡ x / 4294967296 = same32 u (i + 4) (x / 4294967296) (omega arith) (omega arith) in
    rw (a, b) (omega arith)

-- numbers whose bytes are written over a part
put_sets : (s ys : List ℕ) (i k : ℕ) → i + k ≤ length s → k ≡ length ys → put_mid i k s ys ≡ sets s i ys
put_sets s ys i k h e =
    let h' : i + length ys ≤ length s = omega arith in
    rw (drop-drop, e, ← append_assoc) (sym (sets-eq ys s i h'))

pub put16_bytes : (s : List ℕ) (i k x : ℕ) → i + 1 < length s → x < 65536 → k ≡ 2 → put_mid i k s (to_le_bytes w16 x) ≡ put16 s i x
unfolding put16
put16_bytes s i k x h hx e =
    let a : put_mid i k s (to_le_bytes w16 x) ≡ sets s i (to_le_bytes w16 x) = put_sets s (to_le_bytes w16 x) i k (omega arith) e in
    let b : x / 256 % 256 ≡ x / 256 = omega arith in
    a ∙ rw (add-one, b)

pub put64_bytes : (s : List ℕ) (i k x : ℕ) → i + 7 < length s → x < 18446744073709551616 → k ≡ 8 → put_mid i k s (to_le_bytes w64 x) ≡ put64 s i x
unfolding put64 put32 put16
put64_bytes s i k x h hx e =
    let a : put_mid i k s (to_le_bytes w64 x) ≡ sets s i (to_le_bytes w64 x) = put_sets s (to_le_bytes w64 x) i k (omega arith) e in
    let i₁ : suc i ≡ i + 1 = omega arith in
    let i₂ : suc (suc i) ≡ i + 2 = omega arith in
    let i₃ : suc (suc (suc i)) ≡ i + 2 + 1 = omega arith in
    let i₄ : suc (suc (suc (suc i))) ≡ i + 4 = omega arith in
    let i₅ : suc (suc (suc (suc (suc i)))) ≡ i + 4 + 1 = omega arith in
    let i₆ : suc (suc (suc (suc (suc (suc i))))) ≡ i + 4 + 2 = omega arith in
    let i₇ : suc (suc (suc (suc (suc (suc (suc i)))))) ≡ i + 4 + 2 + 1 = omega arith in
    let b₀ : x % 4294967296 % 65536 % 256 ≡ x % 256 = omega arith in
    let b₁ : x % 4294967296 % 65536 / 256 ≡ x / 256 % 256 = omega arith in
    let b₂ : x % 4294967296 / 65536 % 256 ≡ x / 65536 % 256 = omega arith in
    let b₃ : x % 4294967296 / 65536 / 256 ≡ x / 16777216 % 256 = omega arith in
    let b₄ : x / 4294967296 % 65536 % 256 ≡ x / 4294967296 % 256 = omega arith in
    let b₅ : x / 4294967296 % 65536 / 256 ≡ x / 1099511627776 % 256 = omega arith in
    let b₆ : x / 4294967296 / 65536 % 256 ≡ x / 281474976710656 % 256 = omega arith in
    let b₇ : x / 4294967296 / 65536 / 256 ≡ x / 72057594037927936 % 256 = omega arith in
    a ∙ cc

-- the bytes of a number, read from a part
pub num16_bytes : (s bs : List ℕ) (i : ℕ) → bs ≡ take 2 (drop i s) → from_le_bytes w16 bs ≡ num16 s i
unfolding num16
num16_bytes s bs i e =
    let at : (k : ℕ) → k < 2 → get_or bs k 0 ≡ get_or s (i + k) 0 = λ k h. rw (e, get_or-take 2 (drop i s) k 0 h) (get_or-drop i s k 0) in
    rw (at 0 (lit< tt), at 1 (lit< tt), add-zero)

pub num64_bytes : (s bs : List ℕ) (i : ℕ) → bs ≡ take 8 (drop i s) → from_le_bytes w64 bs ≡ num64 s i
unfolding num64 num32 num16
num64_bytes s bs i e =
    let at : (k : ℕ) → k < 8 → get_or bs k 0 ≡ get_or s (i + k) 0 = λ k h. rw (e, get_or-take 8 (drop i s) k 0 h) (get_or-drop i s k 0) in
    rw (at 0 (lit< tt), at 1 (lit< tt), at 2 (lit< tt), at 3 (lit< tt), at 4 (lit< tt), at 5 (lit< tt), at 6 (lit< tt), at 7 (lit< tt))
    (simp (add_assoc, add-zero) (omega arith))
