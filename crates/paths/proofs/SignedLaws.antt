-- How the signed reading goes: `NodePath::new`'s index, substitution's turns, the low test. Assumes nothing.
use Prim.Native.Nat.{ℕ, suc, ◌-◌, ◌^◌, ◌≤◌, ◌<◌}
use mathlib.Core.Path.{◌≡◌, refl, sym, ◌∙◌, ap}
use mathlib.Core.List.{List, [], ◌∷◌}
use mathlib.Core.Bool.{Bool, true, false, ◌&&◌}
use native.Mathlib.Omega.{arith}
use lib.Dec.{leb, eqb}
use lib.ListN.{length}
use Rattle.meaning.proofs.Tests.{on_bool}
use Rattle.meaning.specs.Number.{number, negative, number_from_u8, shortest_signed, bigint_from_bytes, node_path_index, turns}
use Rattle.meaning.specs.Substitute.{sub_turns, is_low}
use Rattle.paths.specs.Fours.{turned}
use Rattle.paths.specs.Wide.{Wide, Zeros, Holds}
use Rattle.paths.specs.declared.casts.Number.{Number}
use Rattle.paths.proofs.FourLaws.{bigint_turned, length_turned, turned_bytes}
use Rattle.paths.proofs.NumberLaws.{Bytes}
use Rattle.paths.proofs.SizeLaws.{number_below}
use Rattle.paths.proofs.CastLaws.{wide_zeros}

module _ (b : List ℕ) {t : Bool} (e : t ≡ negative b) where
  pub index_negative : t ≡ true → node_path_index b ≡ bigint_from_bytes (shortest_signed b)
  unfolding node_path_index number_from_u8
  index_negative h = rw (sym e ∙ h, number_from_u8, node_path_index)

  pub index_positive : t ≡ false → node_path_index b ≡ number b
  unfolding node_path_index number_from_u8
  index_positive h = rw (sym e ∙ h, number_from_u8, node_path_index)

  pub sub_negative : t ≡ true → sub_turns b ≡ []
  unfolding sub_turns number_from_u8
  sub_negative h = rw (sym e ∙ h, number_from_u8, sub_turns)

  pub sub_positive : t ≡ false → sub_turns b ≡ turns (number b)
  unfolding sub_turns number_from_u8
  sub_positive h = rw (sym e ∙ h, number_from_u8, sub_turns)

  pub low_negative : t ≡ true → t ≡ is_low b
  unfolding is_low number_from_u8
  low_negative h = h ∙ rw (sym e ∙ h, number_from_u8, is_low)

  pub low_positive : {r : Bool} → t ≡ false → r ≡ eqb (number b) 0 → r ≡ is_low b
  unfolding is_low number_from_u8
  low_positive h r = rw (sym e ∙ h, number_from_u8, is_low) r

  pub count_negative : t ≡ true → 0 ≡ length (sub_turns b)
  count_negative h = sym (ap length (sub_negative h))

  pub count_positive : {r : ℕ} → t ≡ false → r ≡ length (turns (number b)) → r ≡ length (sub_turns b)
  count_positive h r = r ∙ sym (ap length (sub_positive h))

-- where substitution takes a turn, its turns are those of the unsigned number
pub sub_turns_are : (b : List ℕ) (i : ℕ) → i < length (sub_turns b) → sub_turns b ≡ turns (number b)
sub_turns_are b i h =
    on_bool (negative b)
    (λ e. let z : length (sub_turns b) ≡ 0 = ap length (sub_negative b refl e) in absurd (omega arith))
    (λ e. sub_positive b refl e)

-- ---- bounds

pub length_signed : (b : List ℕ) → length (shortest_signed b) ≤ length b
unfolding shortest_signed
length_signed [] = omega arith
length_signed (x ∷ []) = omega arith
length_signed (x ∷ y ∷ b) =
    on_bool (eqb x 255 && leb 128 y)
    (λ e. rw (e, shortest_signed) (let l = length_signed (y ∷ b) in omega arith))
    (λ e. rw (e, shortest_signed) (omega arith))

pub bytes_signed : (b : List ℕ) → Bytes b → Bytes (shortest_signed b)
unfolding shortest_signed
bytes_signed [] h = h
bytes_signed (x ∷ []) h = h
bytes_signed (x ∷ y ∷ b) h =
    on_bool (eqb x 255 && leb 128 y)
    (λ e. rw (e, shortest_signed) (bytes_signed (y ∷ b) (λ i. h (suc i))))
    (λ e. rw (e, shortest_signed) h)

fours_below : (s : List ℕ) (n : ℕ) → Bytes s → length s ≤ n → bigint_from_bytes s < 256 ^ n
fours_below s n h l = let e = length_turned s in rw (bigint_turned s) (number_below (turned s) n (turned_bytes s h) (omega arith))

pub index_below : (b : List ℕ) (n : ℕ) → Bytes b → length b ≤ n → node_path_index b < 256 ^ n
index_below b n h l =
    on_bool (negative b)
    (λ e. let m = length_signed b in rw (index_negative b refl e) (fours_below (shortest_signed b) n (bytes_signed b h) (omega arith)))
    (λ e. rw (index_positive b refl e) (number_below b n h l))

-- ---- node_path_index

pub signed_fits : (b s : List ℕ) → s ≡ shortest_signed b → length b ≤ 65 → length s ≤ 65
signed_fits b s e h = let l = length_signed b in let m : length s ≡ length (shortest_signed b) = ap length e in omega arith

-- nothing stands before the groups of four
pub signed_zeros : (b s : List ℕ) {r : List ℕ} → Wide (bigint_from_bytes s) r → s ≡ shortest_signed b → Bytes b → length b ≤ 65 → Zeros r (65 - length s)
signed_zeros b s w e h l = wide_zeros w (fours_below s (length s) (rw e (bytes_signed b h)) (omega arith)) (signed_fits b s e l)

pub held_negative : (b s : List ℕ) {t : Bool} {r : List ℕ} {n : Number} → t ≡ negative b → t ≡ true → s ≡ shortest_signed b → Wide (bigint_from_bytes s) r → Holds (number r) n
    → Holds (node_path_index b) n
held_negative b s e h f w n = rw (index_negative b e h, ← f, ← w.value) n

pub held_positive : (b : List ℕ) {t : Bool} {n : Number} → t ≡ negative b → t ≡ false → Holds (number b) n → Holds (node_path_index b) n
held_positive b e h n = rw (index_positive b e h) n

-- ---- what `compose_paths` asks, of an unsigned number and of an index

pub held : {v : ℕ} {n : Number} → Holds v n → Holds (number n.bytes) n
held h = rw h.value h

pub number_short : (b : List ℕ) {n : Number} → Holds (number b) n → Bytes b → length b ≤ 64 → number n.bytes < 256 ^ 64
number_short b n h l = rw n.value (number_below b 64 h l)

pub index_short : (b : List ℕ) {n : Number} → Holds (node_path_index b) n → Bytes b → length b ≤ 64 → number n.bytes < 256 ^ 64
index_short b n h l = rw n.value (index_below b 64 h l)
