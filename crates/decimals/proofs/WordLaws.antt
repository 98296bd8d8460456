-- The number of a word's digits chunk by chunk, and what a word spells. Assumes nothing.
use Prim.Native.Nat.{min, ℕ, zero, suc, ◌+◌, ◌-◌, ◌*◌, ◌^◌, ◌≤◌, ◌<◌}
use mathlib.Core.Path.{◌≡◌, refl, sym, ◌∙◌, ap}
use mathlib.Core.List.{List, [], ◌∷◌}
use mathlib.Core.Bool.{Bool, true, false, ◌&&◌, cond}
use mathlib.Core.Option.{Option, none, some}
use native.Mathlib.Nat.{pow-le-pow_left, pow-le-pow_right}
use native.Mathlib.Omega.{arith}
use borrow.Author.Tests.{eqb-true, eq-eqb, ne_eqb}
use lib.Arith.{digits_lt}
use lib.Dec.{leb, eqb}
use lib.Pointwise.{pointwise}
use lib.ListN.{length, take, drop, get_or, drop_of_length-le}
use lib.Pow.{pow-add}
use lib.Seq.{drop-drop}
use Rattle.meaning.proofs.Tests.{on_bool, not_false, not_true, and_inv}
use Rattle.meaning.specs.Limits.{form_limit}
use Rattle.meaning.specs.Number.{Signed, number, plus, minus, bytes_of}
use Rattle.notation.specs.Words.{and_then, decimal_from, decimal, signed_word, signed_bytes, with_sign}
use Rattle.paths.proofs.NumberLaws.{on_lt}
use Rattle.std.specs.Prelude as rust
use Rattle.std.specs.Prelude.{Some, None}
use Rattle.decimals.specs.declared.Spelled.{Spelled}
use Rattle.decimals.specs.declared.Spelled.TheVariants.{From, Long, Nothing}
use Rattle.decimals.specs.Digits.{digits, some_digits, value_from, Chunk}
use Rattle.decimals.specs.Places.{Holds, Holding, Few, Ends}
use Rattle.decimals.specs.Spelling.{Large, large, CountedOk, Counting, spells_long, SpelledOk, Spelling, digits_spelt}
use Rattle.decimals.proofs.DigitLaws.{ten_most}
use Rattle.decimals.proofs.RoomLaws.{power_below}
use Rattle.decimals.proofs.SignLaws.{at_end, plus_long, minus_long}

-- ---- number

-- a number below ten to the k has at most k bytes
few_bytes : (k : ℕ) {v : ℕ} {s : List ℕ} {at : ℕ} → Holds v s at → v < 10 ^ k → length s ≤ at + k
few_bytes k {v} {s} {at} h l =
    on_lt at (length s)
    (λ x.
    let a : 256 ^ (length s - (at + 1)) ≤ v = h.least x in
    let b : 10 ^ k ≤ 256 ^ k = pow-le-pow_left (omega arith) k in
    let c = power_below (length s - (at + 1)) k (omega arith) in
    omega arith)
    (λ x. omega arith)

-- the digits before i are in the room: those from i on say after its number what all say
pub record Numbering (w s₀ s : List ℕ) (at i : ℕ) : Type 0 where
  pub high : i ≤ length w
  pub long : length s ≡ length s₀
  pub some : digits (drop i w) ≡ true
  pub holds : Holds (number (drop at s)) s at
  pub small : number (drop at s) < 10 ^ i
  pub value : value_from (number (drop at s)) (drop i w) ≡ value_from 0 w

pub number_starts : (w : List ℕ) {s : List ℕ} → digits w ≡ true → Numbering w s s (length s) 0
number_starts w {s} d =
    let e = at_end s (length s) (omega arith) in
    record {
      high = omega arith;
      long = refl;
      some = d;
      holds = record { within = omega arith; value = refl; least = λ l. absurd (omega arith) };
      small = rw e (omega arith);
      value = ap (λ n. value_from n w) e;
    }

digits_drop : (k : ℕ) (cs : List ℕ) → digits cs ≡ true → digits (drop k cs) ≡ true
unfolding digits
digits_drop zero cs h = h
digits_drop (suc k) [] h = h
digits_drop (suc k) (c ∷ cs) h =
    on_bool (leb 0x30 c && leb c 0x39)
    (λ e. digits_drop k cs (rw (e, digits) at h))
    (λ e. not_false (rw (e, digits) at h))

digits_later : (w : List ℕ) (i end : ℕ) → i ≤ end → digits (drop i w) ≡ true → digits (drop end w) ≡ true
digits_later w i end h d =
    let e : i + (end - i) ≡ end = omega arith in
    rw (drop-drop (end - i) i w, e) at (digits_drop (end - i) (drop i w) d)

-- more digits say no less
value_more : (n : ℕ) (cs : List ℕ) → n ≤ value_from n cs
unfolding value_from
value_more n [] = omega arith
value_more n (c ∷ cs) = let h = value_more (n * 10 + (c - 0x30)) cs in omega arith

module _ {w s₀ s : List ℕ} {at i : ℕ} (d : Numbering w s₀ s at i) where
  module _ {k m n : ℕ} (q : k ≡ min 16 (length w - i)) (c : Chunk w i (i + k) n) (e : m ≡ 10 ^ k) where
    one_chunk : 10 ^ (i + k - i) ≡ m
    one_chunk = let z : i + k - i ≡ k = omega arith in ap (10 ^◌) z ∙ sym e

    pub number_small : n < m
    number_small = rw (← one_chunk) c.small

    pub number_most : m ≤ 10 ^ 16
    number_most = let y = ten_most k (omega arith) in omega arith

    pub number_place : i < length w → length w ≤ length s₀ → m ≤ 256 ^ at
    number_place h l =
        let f = few_bytes i d.holds d.small in
        let g = d.long in
        let p : 10 ^ k ≤ 256 ^ k = pow-le-pow_left (omega arith) k in
        let r : 256 ^ k ≤ 256 ^ at = pow-le-pow_right (omega arith) (omega arith) in
        omega arith

    pub number_turn : {s' : List ℕ} {r : ℕ} → Holding (m * number (drop at s) + n) s s' r → i < length w → Numbering w s₀ s' r (i + k)
    number_turn {s'} {r} h x =
        let v : number (drop r s') ≡ m * number (drop at s) + n = h.holds.value in
        let f : m * number (drop at s) + n ≡ number (drop at s) * m + n = omega arith in
        let p : 10 ^ (i + k) ≡ 10 ^ i * m = pow-add 10 i k ∙ ap (10 ^ i *◌) (sym e) in
        record {
          high = omega arith;
          long = h.long ∙ d.long;
          some = digits_later w i (i + k) (omega arith) d.some;
          holds = rw v h.holds;
          small = rw (v ∙ f, p) (digits_lt d.small number_small);
          value = ap (λ y. value_from y (drop (i + k) w)) (v ∙ f) ∙ (rw one_chunk at (c.reads (number (drop at s)))) ∙ d.value;
        }

  -- a number of more than k bytes
  many_bytes : (k : ℕ) → k < length s - at → Large k (value_from 0 w)
  many_bytes k h =
      let a : 256 ^ (length s - (at + 1)) ≤ number (drop at s) = d.holds.least (omega arith) in
      let b : 256 ^ k ≤ 256 ^ (length s - (at + 1)) = pow-le-pow_right (omega arith) (omega arith) in
      let c = value_more (number (drop at s)) (drop i w) in
      let e = d.value in
      large (omega arith)

  pub number_long : 8193 < length s - at → Counting (value_from 0 w) (length w) s₀ s None
  unfolding CountedOk
  number_long h = record { long = d.long; ok = many_bytes (form_limit + 1) h }

  pub number_ends : length w ≤ i → Counting (value_from 0 w) (length w) s₀ s (Some at)
  unfolding value_from CountedOk
  number_ends h =
      let z : i ≡ length w = let k = d.high in omega arith in
      let f = few_bytes i d.holds d.small in
      let g = d.long in
      let e : number (drop at s) ≡ value_from 0 w = sym (ap (value_from (number (drop at s))) (drop_of_length-le w h)) ∙ d.value in
      record { long = g; ok = record { long = g; holds = rw e at d.holds; few = omega arith } }

-- ---- the definition, by cases

decimal_yes : (n : ℕ) (cs : List ℕ) → digits cs ≡ true → decimal_from n cs ≡ some (value_from n cs)
unfolding digits decimal_from value_from
decimal_yes n [] h = refl
decimal_yes n (c ∷ cs) h =
    on_bool (leb 0x30 c && leb c 0x39)
    (λ e. rw (e, decimal_from) (decimal_yes (n * 10 + (c - 0x30)) cs (rw (e, digits) at h)))
    (λ e. not_false (rw (e, digits) at h))

decimal_no : (n : ℕ) (cs : List ℕ) → digits cs ≡ false → decimal_from n cs ≡ none
unfolding digits decimal_from
decimal_no n [] h = not_true h
decimal_no n (c ∷ cs) h =
    on_bool (leb 0x30 c && leb c 0x39)
    (λ e. rw (e, decimal_from) (decimal_no (n * 10 + (c - 0x30)) cs (rw (e, digits) at h)))
    (λ e. rw (e, decimal_from))

some_yes : (cs : List ℕ) → some_digits cs ≡ true → decimal cs ≡ some (value_from 0 cs)
unfolding some_digits decimal
some_yes [] h = not_false h
some_yes (c ∷ cs) h = decimal_yes 0 (c ∷ cs) h

some_no : (cs : List ℕ) → some_digits cs ≡ false → decimal cs ≡ none
unfolding some_digits decimal
some_no [] h = refl
some_no (c ∷ cs) h = decimal_no 0 (c ∷ cs) h

some_all : (cs : List ℕ) → some_digits cs ≡ true → digits cs ≡ true
unfolding some_digits
some_all [] h = not_false h
some_all (c ∷ cs) h = h

-- the bytes that a word spells
abbrev pub spelt : List ℕ → Option (List ℕ)
spelt w = and_then (signed_word w) λ s. some (signed_bytes s)

and_some : (o : Option ℕ) (f : ℕ → Signed) → and_then o (λ n. some (signed_bytes (f n))) ≡ and_then (and_then o λ n. some (f n)) λ s. some (signed_bytes s)
unfolding and_then
and_some none f = refl
and_some (some n) f = refl

after_minus : (w : List ℕ) → get_or w 0 0 ≡ 0x2d → digits_spelt true (drop 1 w) ≡ spelt w
unfolding signed_word digits_spelt
after_minus [] e = absurd (omega arith)
after_minus (c ∷ cs) e = rw (eq-eqb c 0x2d e, signed_word) (and_some (decimal cs) minus)

no_minus : (w : List ℕ) → (get_or w 0 0 ≡ 0x2d → ⊥) → digits_spelt false w ≡ spelt w
unfolding signed_word digits_spelt and_then
no_minus [] e = refl
no_minus (c ∷ cs) e = rw (ne_eqb c 0x2d e, signed_word) (and_some (decimal (c ∷ cs)) plus)

-- ---- signed_word

nothing : {o : Option (List ℕ)} {s : List ℕ} → o ≡ none → Spelling o s s Nothing
unfolding SpelledOk
nothing e = record { long = refl; ok = e }

spells : {o : Option (List ℕ)} {bs s s₁ s₂ : List ℕ} {r : ℕ} → Ends bs s₁ s₂ r → length s₁ ≡ length s → o ≡ some bs → Spelling o s s₂ (From r)
unfolding SpelledOk
spells {o} {bs} {s} {s₁} {s₂} {r} d l e = record { long = d.long ∙ l; ok = record { within = d.within; is = e ∙ ap (λ x. some x) (sym d.is) } }

long_spelt : {o : Option (List ℕ)} {b s s₁ : List ℕ} → length s₁ ≡ length s → o ≡ some b → form_limit < length b → Spelling o s s₁ Long
unfolding SpelledOk
long_spelt {o} {b} {s} {s₁} l e h = record { long = l; ok = spells_long b e h }

module _ {v k : ℕ} {s s' : List ℕ} {q : rust.Option ℕ} {at : ℕ} where
  counted : Counting v k s s' q → q ≡ Some at → Few v k s s' at
  unfolding CountedOk
  counted d e = rw e at d.ok

  pub word_holds : Counting v k s s' q → q ≡ Some at → Holds (number (drop at s')) s' at
  word_holds d e = let f = counted d e in rw f.holds.value f.holds

-- there is a place before a word's number
pub word_place : (w : List ℕ) {v : ℕ} {s s' : List ℕ} {q : rust.Option ℕ} {at : ℕ} → Counting v (length w) s s' q → q ≡ Some at → length w < length s → 0 < at
word_place w d e h = let f = (counted d e).few in omega arith

-- the bytes of a number of more than k + 1 bytes
large_bytes : (below : Bool) (k : ℕ) {v : ℕ} → Large (k + 1) v → k < length (signed_bytes (cond below (minus v) (plus v)))
large_bytes true k {v} (large h) = minus_long k v h
large_bytes false k {v} (large h) = plus_long k v h

counted_long : {v k : ℕ} {s s' : List ℕ} {q : rust.Option ℕ} → Counting v k s s' q → q ≡ None → Large (form_limit + 1) v
unfolding CountedOk
counted_long d e = rw e at d.ok

module _ (w : List ℕ) {b : Bool} (e : b ≡ some_digits w) where
  pub word_digits : b ≡ true → digits w ≡ true
  word_digits f = some_all w (sym e ∙ f)

  module _ (below : Bool) where
    no_digits : b ≡ false → digits_spelt below w ≡ none
    unfolding digits_spelt and_then
    no_digits f = rw (some_no w (sym e ∙ f))

    all_digits : b ≡ true → digits_spelt below w ≡ some (signed_bytes (cond below (minus (value_from 0 w)) (plus (value_from 0 w))))
    unfolding digits_spelt and_then
    all_digits f = rw (some_yes w (sym e ∙ f))

    pub word_nothing : {s : List ℕ} → b ≡ false → Spelling (digits_spelt below w) s s Nothing
    word_nothing f = nothing (no_digits f)

    module _ {k : ℕ} {s s₁ : List ℕ} {q : rust.Option ℕ} (c : Counting (value_from 0 w) k s s₁ q) (f : b ≡ true) where
      pub word_over : q ≡ None → Spelling (digits_spelt below w) s s₁ Long
      word_over l = long_spelt c.long (all_digits f) (large_bytes below form_limit (counted_long c l))

  module _ {k : ℕ} {s s₁ s₂ : List ℕ} {q : rust.Option ℕ} {at r : ℕ} (c : Counting (value_from 0 w) k s s₁ q) (l : q ≡ Some at) (f : b ≡ true) where
    pub minus_spelt : {below : Bool} → Ends (signed_bytes (minus (number (drop at s₁)))) s₁ s₂ r → below ≡ true → Spelling (digits_spelt below w) s s₂ (From r)
    minus_spelt {below} d g =
        let h = counted c l in
        rw g (spells d h.long (all_digits true f ∙ ap (λ v. some (signed_bytes (minus v))) (sym h.holds.value)))

    pub plus_spelt : {below : Bool} → Ends (with_sign (bytes_of (number (drop at s₁)))) s₁ s₂ r → below ≡ false → Spelling (digits_spelt below w) s s₂ (From r)
    unfolding signed_bytes
    plus_spelt {below} d g =
        let h = counted c l in
        let a : digits_spelt false w ≡ some (with_sign (bytes_of (value_from 0 w))) = all_digits false f in
        rw g (spells d h.long (a ∙ ap (λ v. some (with_sign (bytes_of v))) (sym h.holds.value)))

minus_first : (w : List ℕ) → pointwise eqb (take 1 w) (0x2d ∷ []) ≡ true → get_or w 0 0 ≡ 0x2d
minus_first [] h = not_false h
minus_first (c ∷ cs) h = eqb-true c 0x2d (and_inv (eqb c 0x2d) true h).0

minus_not : (w : List ℕ) → pointwise eqb (take 1 w) (0x2d ∷ []) ≡ false → get_or w 0 0 ≡ 0x2d → ⊥
minus_not [] h e = omega arith
minus_not (c ∷ cs) h e = not_false (sym h ∙ rw (eq-eqb c 0x2d e))

-- the word as a whole
module _ (w : List ℕ) {s s₁ : List ℕ} {r : Spelled} where
  pub word_minus : {ds : List ℕ} → pointwise eqb (take 1 w) (0x2d ∷ []) ≡ true → ds ≡ drop 1 w → Spelling (digits_spelt true ds) s s₁ r → Spelling (spelt w) s s₁ r
  word_minus h e d = rw (e, after_minus w (minus_first w h)) at d

  pub word_plus : pointwise eqb (take 1 w) (0x2d ∷ []) ≡ false → Spelling (digits_spelt false w) s s₁ r → Spelling (spelt w) s s₁ r
  word_plus h d = rw (no_minus w (minus_not w h)) at d
