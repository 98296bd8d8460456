-- The digits after 0x, two by two: what each return and the loop needs. Assumes nothing.
use Prim.Native.Nat.{ℕ, suc, ◌+◌, ◌-◌, ◌*◌, ◌/◌, ◌%◌, ◌≤◌, ◌<◌}
use mathlib.Core.Path.{◌≡◌, refl, sym, ◌∙◌, ap}
use mathlib.Core.List.{List, [], ◌∷◌, ◌++◌, append_assoc, append-nil}
use mathlib.Core.Option.{Option, none, some}
use native.Mathlib.Omega.{arith}
use native.Mathlib.Numerals.{add-one}
use lib.ListN.{length, take, drop, get_or, set, length-set, length-drop, drop_of_length-le}
use lib.Seq.{drop-cons, take_all, take-suc-set, drop-set-add}
use Rattle.notation.specs.Words.{hex_value, hex_bytes, and_then}
use Rattle.decimals.specs.declared.Spelled.TheVariants.{From, Nothing}
use Rattle.decimals.specs.Spelling.{SpelledOk, Spelling}
use Rattle.std.specs.Prelude.{Some, None}
use Rattle.std.specs.Prelude.{Option as Maybe}
use Rattle.text_reader.specs.Digits.{found, hex_pair}

-- bytes before what there is
pub onto : List ℕ → Option (List ℕ) → Option (List ℕ)
onto bs none = none
onto bs (some cs) = some (bs ++ cs)

onto_onto : (bs cs : List ℕ) (o : Option (List ℕ)) → onto bs (onto cs o) ≡ onto (bs ++ cs) o
unfolding onto
onto_onto bs cs none = refl
onto_onto bs cs (some ds) = ap some (sym (append_assoc bs cs ds))

onto_none : (o : Option (List ℕ)) → o ≡ onto [] o
unfolding onto
onto_none none = refl
onto_none (some cs) = refl

-- what the definition does at two digits, by their values
at_two : (c d : ℕ) (ds : List ℕ) → hex_bytes (c ∷ d ∷ ds) ≡ and_then (hex_pair c d) λ b. onto (b ∷ []) (hex_bytes ds)
unfolding hex_bytes hex_pair and_then onto
at_two c d ds = go (hex_value c) (hex_value d) (hex_bytes ds)
  where
    go : (h l : Option ℕ) (o : Option (List ℕ))
        → (and_then h λ x. and_then l λ y. and_then o λ bs. some ((16 * x + y) ∷ bs)) ≡ (and_then (and_then h λ x. and_then l λ y. some (16 * x + y)) λ b. onto (b ∷ []) o)
    go none l o = refl
    go (some x) none o = refl
    go (some x) (some y) none = refl
    go (some x) (some y) (some bs) = refl

two_some : (c d b : ℕ) (ds : List ℕ) → hex_pair c d ≡ some b → hex_bytes (c ∷ d ∷ ds) ≡ onto (b ∷ []) (hex_bytes ds)
unfolding and_then
two_some c d b ds e = at_two c d ds ∙ ap (λ (o : Option ℕ). and_then o λ x. onto (x ∷ []) (hex_bytes ds)) e

two_none : (c d : ℕ) (ds : List ℕ) → hex_pair c d ≡ none → hex_bytes (c ∷ d ∷ ds) ≡ none
unfolding and_then
two_none c d ds e = at_two c d ds ∙ ap (λ (o : Option ℕ). and_then o λ x. onto (x ∷ []) (hex_bytes ds)) e

-- an odd count of digits
odd_none : (ds : List ℕ) → length ds % 2 ≡ 1 → hex_bytes ds ≡ none
unfolding hex_bytes and_then onto
odd_none [] h = absurd (omega arith)
odd_none (c ∷ []) h = refl
odd_none (c ∷ d ∷ ds) h = at_two c d ds ∙ ap (λ (o : Option (List ℕ)). and_then (hex_pair c d) λ b. onto (b ∷ []) o) (odd_none ds (omega arith)) ∙ nothing (hex_pair c d)
  where
    nothing : (o : Option ℕ) → (and_then o λ b. onto (b ∷ []) none) ≡ none
    nothing none = refl
    nothing (some b) = refl

pub odd_spells : (w : List ℕ) {s : List ℕ} → length w % 2 ≡ 1 → 3 ≤ length w → Spelling (hex_bytes (drop 2 w)) s s Nothing
unfolding SpelledOk
odd_spells w {s} h l = record { long = refl; ok = odd_none (drop 2 w) (omega (arith, length-drop 2 w)) }

-- ---- the loop: i bytes stand from `from` on, and 2 i digits are behind

pub record Hexing (w s₀ s : List ℕ) (n from i : ℕ) : Type 0 where
  pub within : i ≤ n
  pub room : from + n ≡ length s₀
  pub even : length w ≡ 2 + 2 * n
  pub long : length s ≡ length s₀
  pub is : hex_bytes (drop 2 w) ≡ onto (take i (drop from s)) (hex_bytes (drop (2 + 2 * i) w))

pub hex_starts : {w s : List ℕ} → (length w % 2 ≡ 1 → ⊥) → 3 ≤ length w → length w < length s → Hexing w s s ((length w - 2) / 2) (length s - (length w - 2) / 2) 0
hex_starts {w} {s} h l m = record {
  within = omega arith;
  room = omega arith;
  even = half (length w) h l;
  long = refl;
  is = onto_none (hex_bytes (drop 2 w));
}
  where
    half : (n : ℕ) → (n % 2 ≡ 1 → ⊥) → 3 ≤ n → n ≡ 2 + 2 * ((n - 2) / 2)
    half n h l = omega arith

module _ {w s₀ s : List ℕ} {n from i : ℕ} (t : Hexing w s₀ s n from i) where
  -- the two digits at which the loop stands
  two_here : i < n → drop (2 + 2 * i) w ≡ get_or w (2 + 2 * i) 0 ∷ get_or w (3 + 2 * i) 0 ∷ drop (2 + 2 * (i + 1)) w
  two_here h =
      let k : 2 + 2 * i < length w = omega (arith, t.even) in
      let l : 3 + 2 * i < length w = omega (arith, t.even) in
      let z : suc (2 + 2 * i) ≡ 3 + 2 * i = omega arith in
      let y : suc (3 + 2 * i) ≡ 2 + 2 * (i + 1) = omega arith in
      drop-cons w (2 + 2 * i) 0 k
      ∙ ap (λ (j : ℕ). get_or w (2 + 2 * i) 0 ∷ drop j w) z
      ∙ ap (get_or w (2 + 2 * i) 0 ∷◌) (drop-cons w (3 + 2 * i) 0 l ∙ ap (λ (j : ℕ). get_or w (3 + 2 * i) 0 ∷ drop j w) y)

  -- a byte more in the room
  one_more : (b : ℕ) → i < n → take (i + 1) (drop from (set s (from + i) b)) ≡ take i (drop from s) ++ (b ∷ [])
  one_more b h =
      let l : i < length (drop from s) = omega (arith, length-drop from s, t.room, t.long) in
      rw (add-one, drop-set-add from s i b) (take-suc-set (drop from s) i b l)

  pub hex_turn : {r : Maybe ℕ} {b : ℕ} → i < n → hex_pair (get_or w (2 + 2 * i) 0) (get_or w (3 + 2 * i) 0) ≡ found r → r ≡ Some b → Hexing w s₀ (set s (from + i) b) n from (i + 1)
  unfolding found
  hex_turn {r} {b} h e l =
      let f : hex_pair (get_or w (2 + 2 * i) 0) (get_or w (3 + 2 * i) 0) ≡ some b = e ∙ ap found l in
      record {
        within = omega arith;
        room = t.room;
        even = t.even;
        long = length-set s (from + i) b ∙ t.long;
        is = t.is
            ∙ ap (onto (take i (drop from s))) (ap hex_bytes (two_here h) ∙ two_some (get_or w (2 + 2 * i) 0) (get_or w (3 + 2 * i) 0) b (drop (2 + 2 * (i + 1)) w) f)
            ∙ onto_onto (take i (drop from s)) (b ∷ []) (hex_bytes (drop (2 + 2 * (i + 1)) w))
            ∙ ap (λ (bs : List ℕ). onto bs (hex_bytes (drop (2 + 2 * (i + 1)) w))) (sym (one_more b h));
      }

  pub hex_wrong : {r : Maybe ℕ} → i < n → hex_pair (get_or w (2 + 2 * i) 0) (get_or w (3 + 2 * i) 0) ≡ found r → r ≡ None → Spelling (hex_bytes (drop 2 w)) s₀ s Nothing
  unfolding SpelledOk onto found
  hex_wrong {r} h e l =
      let f : hex_pair (get_or w (2 + 2 * i) 0) (get_or w (3 + 2 * i) 0) ≡ none = e ∙ ap found l in
      record {
        long = t.long;
        ok = t.is
            ∙ ap (onto (take i (drop from s))) (ap hex_bytes (two_here h) ∙ two_none (get_or w (2 + 2 * i) 0) (get_or w (3 + 2 * i) 0) (drop (2 + 2 * (i + 1)) w) f);
      }

  none_left : n ≤ i → hex_bytes (drop (2 + 2 * i) w) ≡ some []
  unfolding hex_bytes
  none_left h = ap hex_bytes (drop_of_length-le w {i = 2 + 2 * i} (omega (arith, t.even)))

  pub hex_all : n ≤ i → Spelling (hex_bytes (drop 2 w)) s₀ s (From from)
  unfolding SpelledOk onto
  hex_all h =
      let l : length (drop from s) ≤ i = omega (arith, length-drop from s, t.room, t.long) in
      record {
        long = t.long;
        ok = record {
          within = omega (arith, t.room, t.long);
          is = t.is
              ∙ ap (onto (take i (drop from s))) (none_left h)
              ∙ ap some (append-nil (take i (drop from s)) ∙ take_all i (drop from s) l);
        };
      }
