-- Hex digits: what each return and the loop over them needs. Assumes nothing.
use Prim.Native.Nat.{ℕ, ◌+◌, ◌-◌, ◌≤◌, ◌<◌}
use mathlib.Core.Path.{◌≡◌, refl, ◌∙◌, ap}
use mathlib.Core.List.{List, [], ◌∷◌}
use mathlib.Core.Bool.{Bool, true, false, ◌&&◌}
use mathlib.Core.Option.{none, some}
use Rattle.std.specs.Prelude.{Some, None}
use native.Mathlib.Omega.{arith}
use borrow.Author.Tests.{le-leb, lt-leb, eq-eqb, ne_eqb}
use lib.Dec.{leb, eqb}
use lib.ListN.{length, get_or}
use Rattle.meaning.proofs.Tests.{on_bool, not_false}
use Rattle.notation.specs.Words.{hex_value, hex_word, signed_word}
use Rattle.text_reader.specs.Digits.{found, after_0x, Begins, Digit, Small}

-- ---- a number between two others

module _ (a b c : ℕ) where
  inside : a ≤ c → c ≤ b → (leb a c && leb c b) ≡ true
  inside h l = rw (le-leb a c h, le-leb c b l)

  under : c < a → (leb a c && leb c b) ≡ false
  under h = rw (lt-leb a c h)

  over : a ≤ c → b < c → (leb a c && leb c b) ≡ false
  over h l = rw (le-leb a c h, lt-leb c b l)

-- ---- hex_value

digit_some : {c r : ℕ} → hex_value c ≡ some r → r < 16 → Digit c (Some r)
unfolding found Small
digit_some {c} {r} e h = record { is = e; small = h }

module _ {c : ℕ} where
  a_number : 0x30 ≤ c → c ≤ 0x39 → hex_value c ≡ some (c - 0x30)
  unfolding hex_value
  a_number h l = rw (inside 0x30 0x39 c h l, hex_value)

  pub digit_number : 0x30 ≤ c → c < 0x3a → Digit c (Some (c - 0x30))
  digit_number h l = digit_some (a_number h (omega arith)) (omega arith)

  an_upper : 0x41 ≤ c → c ≤ 0x46 → hex_value c ≡ some (c - 0x37)
  unfolding hex_value
  an_upper h l = rw (over 0x30 0x39 c (omega arith) (omega arith), under 0x61 0x66 c (omega arith), inside 0x41 0x46 c h l, hex_value)

  pub digit_upper : 0x41 ≤ c → c < 0x47 → Digit c (Some (c - 0x41 + 10))
  digit_upper h l =
      let z : c - 0x37 ≡ c - 0x41 + 10 = omega arith in
      digit_some (an_upper h (omega arith) ∙ ap some z) (omega arith)

  a_lower : 0x61 ≤ c → c ≤ 0x66 → hex_value c ≡ some (c - 0x57)
  unfolding hex_value
  a_lower h l = rw (over 0x30 0x39 c (omega arith) (omega arith), inside 0x61 0x66 c h l, hex_value)

  pub digit_lower : 0x61 ≤ c → c < 0x67 → Digit c (Some (c - 0x61 + 10))
  digit_lower h l =
      let z : c - 0x57 ≡ c - 0x61 + 10 = omega arith in
      digit_some (a_lower h (omega arith) ∙ ap some z) (omega arith)

  -- neither 0 to 9, nor A to F, nor a to f
  pub digit_none : (leb 0x30 c && leb c 0x39) ≡ false → (leb 0x61 c && leb c 0x66) ≡ false → (leb 0x41 c && leb c 0x46) ≡ false → Digit c None
  unfolding hex_value found Small
  digit_none h k l = record { is = rw (h, k, l, hex_value); small = tt }

  pub digit_before : c < 0x30 → Digit c None
  digit_before h = digit_none (under 0x30 0x39 c h) (under 0x61 0x66 c (omega arith)) (under 0x41 0x46 c (omega arith))

  pub digit_between : 0x39 < c → c < 0x41 → Digit c None
  digit_between h l = digit_none (over 0x30 0x39 c (omega arith) h) (under 0x61 0x66 c (omega arith)) (under 0x41 0x46 c l)

  pub digit_after : 0x46 < c → c < 0x61 → Digit c None
  digit_after h l = digit_none (over 0x30 0x39 c (omega arith) (omega arith)) (under 0x61 0x66 c l) (over 0x41 0x46 c (omega arith) h)

  pub digit_beyond : 0x66 < c → Digit c None
  digit_beyond h = digit_none (over 0x30 0x39 c (omega arith) (omega arith)) (over 0x61 0x66 c (omega arith) h) (over 0x41 0x46 c (omega arith) (omega arith))

-- ---- begins_hex

hex_short : (w : List ℕ) → length w < 3 → hex_word w ≡ none
unfolding hex_word
hex_short [] h = refl
hex_short (z ∷ []) h = refl
hex_short (z ∷ x ∷ []) h = refl
hex_short (z ∷ x ∷ d ∷ w) h = absurd (omega arith)

hex_is : (w : List ℕ) → 3 ≤ length w → hex_word w ≡ after_0x (eqb (get_or w 0 0) 0x30 && eqb (get_or w 1 0) 0x78) w
unfolding hex_word after_0x
hex_is [] h = absurd (omega arith)
hex_is (z ∷ []) h = absurd (omega arith)
hex_is (z ∷ x ∷ []) h = absurd (omega arith)
hex_is (z ∷ x ∷ d ∷ w) h = on_bool (eqb z 0x30 && eqb x 0x78) (λ e. rw (e, hex_word, after_0x)) (λ e. rw (e, hex_word, after_0x))

-- 0x is no number
no_decimal : (x : ℕ) (w : List ℕ) → x ≡ 0x78 → signed_word (0x30 ∷ x ∷ w) ≡ none
unfolding signed_word
no_decimal x w h = rw h

hex_alone : (w : List ℕ) → 3 ≤ length w → get_or w 0 0 ≡ 0x30 → get_or w 1 0 ≡ 0x78 → signed_word w ≡ none
hex_alone [] h e f = absurd (omega arith)
hex_alone (z ∷ []) h e f = absurd (omega arith)
hex_alone (z ∷ x ∷ w) h e f = ap (λ (y : ℕ). signed_word (y ∷ x ∷ w)) e ∙ no_decimal x w f

pub begins_short : {w : List ℕ} → length w < 3 → Begins w false
unfolding after_0x
begins_short {w} h = record { is = hex_short w h; long = λ n. not_false n; alone = λ n. not_false n }

begins_not : {w : List ℕ} → 3 ≤ length w → (eqb (get_or w 0 0) 0x30 && eqb (get_or w 1 0) 0x78) ≡ false → Begins w false
begins_not {w} h e = record { is = hex_is w h ∙ ap (λ (b : Bool). after_0x b w) e; long = λ m. not_false m; alone = λ m. not_false m }

pub begins_other : {w : List ℕ} → 3 ≤ length w → (get_or w 0 0 ≡ 0x30 → ⊥) → Begins w false
begins_other {w} h n = begins_not h (rw (ne_eqb (get_or w 0 0) 0x30 n))

pub begins_zero : {w : List ℕ} → 3 ≤ length w → get_or w 0 0 ≡ 0x30 → (get_or w 1 0 ≡ 0x78 → ⊥) → Begins w false
begins_zero {w} h z n = begins_not h (rw (eq-eqb (get_or w 0 0) 0x30 z, ne_eqb (get_or w 1 0) 0x78 n))

pub begins_hex : {w : List ℕ} → 3 ≤ length w → get_or w 0 0 ≡ 0x30 → get_or w 1 0 ≡ 0x78 → Begins w true
begins_hex {w} h z x =
    let e : (eqb (get_or w 0 0) 0x30 && eqb (get_or w 1 0) 0x78) ≡ true = rw (eq-eqb (get_or w 0 0) 0x30 z, eq-eqb (get_or w 1 0) 0x78 x) in
    record {
      is = hex_is w h ∙ ap (λ (b : Bool). after_0x b w) e;
      long = λ m. h;
      alone = λ m. hex_alone w h z x;
    }
