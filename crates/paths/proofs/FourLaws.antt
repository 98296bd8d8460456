-- `bigint_from_bytes` is the big-endian number of the bytes with each group of four turned round. Assumes nothing.
use Prim.Native.Nat.{ℕ, zero, suc, ◌+◌, ◌-◌, ◌*◌, ◌/◌, ◌%◌, ◌^◌, ◌≤◌, ◌<◌}
use mathlib.Core.Path.{◌≡◌, refl, sym, ◌∙◌, ap}
use mathlib.Core.List.{List, [], ◌∷◌}
use native.Mathlib.Omega.{arith}
use lib.ListN.{length, take, drop, get_or, length-append, length-drop, get_or-append, get_or-eq_default}
use lib.Seq.{length-take-le, get_or-append-add, get_or-take, get_or-drop}
use Rattle.meaning.specs.Number.{number, number_from, by_fours, bigint_from_bytes}
use Rattle.paths.specs.Fours.{fours_turned, turned}
use Rattle.paths.proofs.NumberLaws.{Bytes, number_from_append, on_lt}

by_fours_turned : (n : ℕ) (bs : List ℕ) → by_fours n bs ≡ number_from n (fours_turned bs)
unfolding by_fours number_from fours_turned
by_fours_turned n [] = refl
by_fours_turned n (a ∷ []) = refl
by_fours_turned n (a ∷ b ∷ []) = refl
by_fours_turned n (a ∷ b ∷ c ∷ []) = refl
by_fours_turned n (a ∷ b ∷ c ∷ d ∷ bs) =
    let e : n * 2 ^ 32 + (a + 2 ^ 8 * b + 2 ^ 16 * c + 2 ^ 24 * d) ≡ (((n * 256 + d) * 256 + c) * 256 + b) * 256 + a = omega arith in
    by_fours_turned (n * 2 ^ 32 + (a + 2 ^ 8 * b + 2 ^ 16 * c + 2 ^ 24 * d)) bs ∙ ap (λ m. number_from m (fours_turned bs)) e

pub bigint_turned : (bs : List ℕ) → bigint_from_bytes bs ≡ number (turned bs)
unfolding bigint_from_bytes number turned
bigint_turned bs = by_fours_turned _ (drop (length bs % 4) bs) ∙ sym (number_from_append 0 (take (length bs % 4) bs) (fours_turned (drop (length bs % 4) bs)))

length_fours : (bs : List ℕ) → length bs % 4 ≡ 0 → length (fours_turned bs) ≡ length bs
unfolding fours_turned
length_fours [] h = refl
length_fours (a ∷ []) h = absurd (omega arith)
length_fours (a ∷ b ∷ []) h = absurd (omega arith)
length_fours (a ∷ b ∷ c ∷ []) h = absurd (omega arith)
length_fours (a ∷ b ∷ c ∷ d ∷ bs) h = let e : length (fours_turned bs) ≡ length bs = length_fours bs (omega arith) in omega arith

fours_at : (bs : List ℕ) (j : ℕ) → length bs % 4 ≡ 0 → j < length bs → get_or (fours_turned bs) j 0 ≡ get_or bs (j / 4 * 4 + (3 - j % 4)) 0
unfolding fours_turned
fours_at [] j h l = absurd (omega arith)
fours_at (a ∷ []) j h l = absurd (omega arith)
fours_at (a ∷ b ∷ []) j h l = absurd (omega arith)
fours_at (a ∷ b ∷ c ∷ []) j h l = absurd (omega arith)
fours_at (a ∷ b ∷ c ∷ d ∷ bs) zero h l = refl
fours_at (a ∷ b ∷ c ∷ d ∷ bs) (suc zero) h l = refl
fours_at (a ∷ b ∷ c ∷ d ∷ bs) (suc (suc zero)) h l = refl
fours_at (a ∷ b ∷ c ∷ d ∷ bs) (suc (suc (suc zero))) h l = refl
fours_at (a ∷ b ∷ c ∷ d ∷ bs) (suc (suc (suc (suc j)))) h l =
    let e : suc (suc (suc (suc j))) / 4 * 4 + (3 - suc (suc (suc (suc j))) % 4) ≡ suc (suc (suc (suc (j / 4 * 4 + (3 - j % 4))))) = omega arith in
    fours_at bs j (omega arith) (omega arith) ∙ ap (λ k. get_or (a ∷ b ∷ c ∷ d ∷ bs) k 0) (sym e)

module _ (bs : List ℕ) where
  remain_length : length (take (length bs % 4) bs) ≡ length bs % 4
  remain_length = length-take-le (length bs % 4) bs (omega arith)

  groups_whole : length (drop (length bs % 4) bs) % 4 ≡ 0
  groups_whole = let e = length-drop (length bs % 4) bs in omega arith

  pub length_turned : length (turned bs) ≡ length bs
  unfolding turned
  length_turned =
      let e = length-append (take (length bs % 4) bs) (fours_turned (drop (length bs % 4) bs)) in
      let f = length_fours (drop (length bs % 4) bs) groups_whole in
      let g = length-drop (length bs % 4) bs in
      let r = remain_length in
      omega arith

  pub turned_before : (i : ℕ) → i < length bs % 4 → get_or bs i 0 ≡ get_or (turned bs) i 0
  unfolding turned
  turned_before i h =
      let r = remain_length in
      sym (get_or-append (take (length bs % 4) bs) (fours_turned (drop (length bs % 4) bs)) 0 i (omega arith) ∙ get_or-take (length bs % 4) bs i 0 h)

  pub turned_group : (i : ℕ) → length bs % 4 ≤ i → i < length bs
      → get_or bs (length bs % 4 + (i - length bs % 4) / 4 * 4 + (3 - (i - length bs % 4) % 4)) 0 ≡ get_or (turned bs) i 0
  unfolding turned
  turned_group i h l =
      let j = i - length bs % 4 in
      let r = remain_length in
      let d = length-drop (length bs % 4) bs in
      let e : i ≡ length (take (length bs % 4) bs) + j = omega arith in
      let f : length bs % 4 + (j / 4 * 4 + (3 - j % 4)) ≡ length bs % 4 + j / 4 * 4 + (3 - j % 4) = omega arith in
      sym (ap (λ k. get_or (turned bs) k 0) e
      ∙ get_or-append-add (take (length bs % 4) bs) (fours_turned (drop (length bs % 4) bs)) j 0
      ∙ fours_at (drop (length bs % 4) bs) j groups_whole (omega arith)
      ∙ get_or-drop (length bs % 4) bs (j / 4 * 4 + (3 - j % 4)) 0
      ∙ ap (λ k. get_or bs k 0) f)

  pub turned_bytes : Bytes bs → Bytes (turned bs)
  turned_bytes h i =
      let t = length_turned in
      on_lt i (length bs % 4)
      (λ l. rw (← turned_before i l) (h i))
      (λ l. on_lt i (length bs) (λ k. rw (← turned_group i l k) (h _)) (λ k. rw (get_or-eq_default (turned bs) 0 {n = i} (omega arith)) (record { fits = omega arith })))
