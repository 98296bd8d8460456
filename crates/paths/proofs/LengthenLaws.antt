-- Paths over 64 bytes stay over 64 bytes, and shortest signed bytes have the same index. Assumes nothing.
use Prim.Native.Nat.{ℕ, ◌+◌, ◌*◌, ◌-◌, ◌/◌, ◌%◌, ◌^◌, ◌≤◌, ◌<◌}
use native.Mathlib.Omega.{arith}
use native.Mathlib.Nat.{mul-le-mul_right, div-add-mod'}
use mathlib.Core.Path.{◌≡◌, refl, sym, ◌∙◌, ap}
use mathlib.Core.List.{List, [], ◌∷◌}
use mathlib.Core.Bool.{Bool, true, false, ◌&&◌, not}
use lib.Dec.{eqb, leb}
use lib.ListN.{length, get_or}
use borrow.Author.Tests.{eq-eqb, leb-true}
use Rattle.meaning.specs.Limits.{path_limit}
use Rattle.meaning.specs.Number.{number, negative, node_path_index, bigint_from_bytes, shortest_signed, turns, compose_paths, bytes_of}
use Rattle.meaning.specs.Rules.{misread}
use Rattle.meaning.proofs.Tests.{on_bool, and_inv, not_false}
use Rattle.paths.specs.declared.casts.Number.{Number}
use Rattle.paths.specs.declared.path_rule.Lengthened.{Lengthened}
use Rattle.paths.specs.Fours.{turned}
use Rattle.paths.specs.Wide.{Holds, Longer}
use Rattle.paths.specs.Lengthens.{Lengthens}
use Rattle.paths.proofs.NumberLaws.{Bytes, on_lt}
use Rattle.paths.proofs.SizeLaws.{large, bytes_of_bytes, long_bytes, bytes_long}
use Rattle.paths.proofs.TurnLaws.{count_step, count_after, small_or}
use Rattle.paths.proofs.ShortestLaws.{number_bytes_of, held_len}
use Rattle.paths.proofs.FourLaws.{bigint_turned, length_turned, turned_before, turned_group}
use Rattle.paths.proofs.SignedLaws.{index_negative, index_positive, bytes_signed, number_short, index_short}
use Rattle.paths.proofs.ComposeLaws.{compose_shifted}

-- ---- shortest signed bytes

again : (b : List ℕ) → shortest_signed (shortest_signed b) ≡ shortest_signed b
unfolding shortest_signed
again [] = refl
again (x ∷ []) = refl
again (x ∷ y ∷ b) =
    on_bool (eqb x 255 && leb 128 y)
    (λ e. rw (e, shortest_signed) (again (y ∷ b)))
    (λ e. rw (e, shortest_signed) (rw (e, shortest_signed)))

sign_kept : (b : List ℕ) → negative b ≡ true → negative (shortest_signed b) ≡ true
unfolding shortest_signed negative
sign_kept [] h = h
sign_kept (x ∷ []) h = h
sign_kept (x ∷ y ∷ b) h =
    on_bool (eqb x 255 && leb 128 y)
    (λ e. rw (e, shortest_signed) (sign_kept (y ∷ b) (and_inv (eqb x 255) (leb 128 y) e).1))
    (λ e. rw (e, shortest_signed) h)

index_shortest : (b : List ℕ) → negative b ≡ true → node_path_index (shortest_signed b) ≡ node_path_index b
index_shortest b h =
    index_negative (shortest_signed b) refl (sign_kept b h) ∙ ap bigint_from_bytes (again b) ∙ sym (index_negative b refl h)

-- ---- sizes

top_byte : (b : List ℕ) → negative b ≡ true → (1 ≤ get_or b 0 0) × (0 < length b)
unfolding negative
top_byte [] h = not_false h
top_byte (x ∷ b) h = let l : 128 ≤ x = leb-true 128 x h in (omega arith, omega arith)

-- four bytes turned round leave the first with 64 after it
index_large : (s : List ℕ) → negative s ≡ true → 64 < length s → 256 ^ 64 ≤ bigint_from_bytes s
index_large s h l =
    let (x, y) = top_byte s h in
    let t = length_turned s in
    rw (bigint_turned s)
    (on_lt 0 (length s % 4)
    (λ k. large (turned s) 0 64 (omega arith) (rw (← turned_before s 0 k) x) (omega arith))
    (λ k.
    let e : length s % 4 ≡ 0 = omega arith in
    let g = turned_group s 3 (omega arith) (omega arith) in
    let i : length s % 4 + (3 - length s % 4) / 4 * 4 + (3 - (3 - length s % 4) % 4) ≡ 0 = rw e in
    let j : get_or s 0 0 ≡ get_or (turned s) 3 0 = rw i at g in
    let d = div-add-mod' (length s) 4 in
    let m : 17 ≤ length s / 4 = omega arith in
    large (turned s) 3 64 (omega arith) (rw (← j) x) (omega arith)))

-- ---- a longer path is no smaller

one_left : (n : ℕ) → length (turns n) ≡ 0 → n ≤ 1
one_left n e = small_or n (λ l. l) (λ l. let c = count_step n l in absurd (omega arith))

top_turn : (p : ℕ) → p / 2 ^ length (turns p) ≤ 1
top_turn p =
    on_lt 0 (p / 2 ^ length (turns p))
    (λ l. let c = count_after p (length (turns p)) l in one_left (p / 2 ^ length (turns p)) (omega arith))
    (λ l. omega arith)

no_smaller : (p q : ℕ) → 1 ≤ q → p ≤ compose_paths p q
no_smaller p q h =
    let t = top_turn p in
    let d = div-add-mod' p (2 ^ length (turns p)) in
    let a : p / 2 ^ length (turns p) * 2 ^ length (turns p) ≤ 1 * 2 ^ length (turns p) = mul-le-mul_right (2 ^ length (turns p)) t in
    let b : 1 * 2 ^ length (turns p) ≤ q * 2 ^ length (turns p) = mul-le-mul_right (2 ^ length (turns p)) h in
    rw (compose_shifted p q) (omega arith)

still_long : (p q k : ℕ) → 1 ≤ q → 256 ^ k ≤ p → k < length (bytes_of (compose_paths p q))
still_long p q k h l = let n = no_smaller p q h in long_bytes (compose_paths p q) k (omega arith)

-- ---- what each return needs

module _ (b : List ℕ) (q : ℕ) (l : Lengthened) where
  -- the rule's own function
  longer_is : Longer b q l → Lengthens b q l
  longer_is h = record { fits = λ o. h; over = λ o. rw (← held_len h.path) o }

  too_long : path_limit < l.path.len → path_limit < length (bytes_of (compose_paths (node_path_index b) q)) → Lengthens b q l
  too_long o h = record { fits = λ k. absurd (omega arith); over = λ k. h }

  pub negative_long : (s : List ℕ) → s ≡ shortest_signed b → 64 < length s → negative b ≡ true → 1 ≤ q → 64 < l.path.len → Lengthens b q l
  negative_long s e o n h k =
      let y : 64 < length (shortest_signed b) = rw e at o in
      too_long k (rw (index_negative b refl n) (still_long (bigint_from_bytes (shortest_signed b)) q path_limit h (index_large (shortest_signed b) (sign_kept b n) y)))

  pub positive_long : (s : List ℕ) → s ≡ bytes_of (number b) → 64 < length s → negative b ≡ false → 1 ≤ q → 64 < l.path.len → Lengthens b q l
  positive_long s e o n h k =
      let y : 64 < length (bytes_of (number b)) = rw e at o in
      too_long k (rw (index_positive b refl n) (still_long (number b) q path_limit h (bytes_long (number b) path_limit y)))

misread_no : (b : List ℕ) → negative b ≡ false → misread b ≡ false
unfolding misread
misread_no b n = ap not (eq-eqb (node_path_index b) (number b) (index_positive b refl n))

module _ (b s : List ℕ) (e : s ≡ shortest_signed b) where
  signed_bytes : Bytes b → Bytes s
  signed_bytes y = rw e (bytes_signed b y)

  pub negative_fits : (n : Number) → Holds (node_path_index s) n → length s ≤ 64 → Bytes b → number n.bytes < 256 ^ 64
  negative_fits n h o y = index_short s h (signed_bytes y) o

  pub negative_longer : (q : ℕ) (n p : Number) {m : Bool} → Holds (compose_paths (number n.bytes) q) p → Holds (node_path_index s) n → m ≡ eqb (number n.bytes) (number b) → negative b ≡ true
      → Lengthens b q (record { path = p; misread = not m })
  unfolding misread
  negative_longer q n p {m} h i f k =
      let z : number n.bytes ≡ node_path_index b = i.value ∙ ap node_path_index e ∙ index_shortest b k in
      longer_is b q (record { path = p; misread = not m }) (record { path = rw z at h; misread = ap not (f ∙ ap (λ v. eqb v (number b)) z) })

pub positive_fits : (b s : List ℕ) (n : Number) → Holds (number s) n → length s ≤ 64 → s ≡ bytes_of (number b) → number n.bytes < 256 ^ 64
positive_fits b s n h o e = number_short s h (rw e (bytes_of_bytes (number b))) o

pub positive_longer : (b s : List ℕ) (q : ℕ) (n p : Number) → Holds (compose_paths (number n.bytes) q) p → Holds (number s) n → s ≡ bytes_of (number b) → negative b ≡ false → Lengthens b q (record { path = p; misread = false })
positive_longer b s q n p h i e k =
    let z : number n.bytes ≡ node_path_index b = i.value ∙ ap number e ∙ number_bytes_of (number b) ∙ sym (index_positive b refl k) in
    longer_is b q (record { path = p; misread = false }) (record { path = rw (← z) h; misread = sym (misread_no b k) })
