-- The atom of a word: what each return needs. Assumes nothing.
use Prim.Native.Nat.{ℕ, suc, ◌-◌, ◌<◌}
use mathlib.Core.Path.{◌≡◌, refl, sym, ◌∙◌, ap, subst}
use mathlib.Core.List.{List, [], ◌∷◌}
use mathlib.Core.Bool.{Bool, true, false}
use mathlib.Core.Option.{Option, none, some}
use Rattle.std.specs.Prelude.{Some, None}
use Rattle.std.specs.Prelude.{Option as Maybe}
use native.Mathlib.Omega.{arith}
use lib.ListN.{length, drop, set, length-set, drop_of_length-le}
use lib.Seq.{drop-cons, get_or-set_same}
use Rattle.meaning.specs.Number.{Signed}
use Rattle.notation.specs.declared.Place.{Place}
use Rattle.notation.specs.Words.{named, hex_bytes, hex_word, signed_word, signed_bytes, word_bytes, and_then, or_else}
use Rattle.decimals.specs.declared.Spelled.{Spelled}
use Rattle.decimals.specs.declared.Spelled.TheVariants.{From}
use Rattle.decimals.specs.Spelling.{SpelledOk, Spelling}
use Rattle.text_reader.specs.Digits.{operator, after_0x, Begins}

-- ---- a name

last_set : (s : List ℕ) (k : ℕ) → 0 < length s → drop (length s - 1) (set s (length s - 1) k) ≡ k ∷ []
last_set s k h =
    let l : length s - 1 < length s = omega arith in
    let n : length (set s (length s - 1) k) ≡ length s = length-set s (length s - 1) k in
    drop-cons (set s (length s - 1) k) (length s - 1) 0 (omega arith)
    ∙ ap (◌∷ drop (suc (length s - 1)) (set s (length s - 1) k)) (get_or-set_same s (length s - 1) k 0 l)
    ∙ ap (k ∷◌) (drop_of_length-le (set s (length s - 1) k) {i = suc (length s - 1)} (omega arith))

name_first : (p : Place) (w : List ℕ) (k : ℕ) → named p w ≡ some (k ∷ []) → word_bytes p w ≡ some (k ∷ [])
unfolding word_bytes or_else
name_first p w k e = rw (e, word_bytes)

pub word_name : (p : Place) (w : List ℕ) {s : List ℕ} {r : Maybe ℕ} {k : ℕ} → named p w ≡ operator r → r ≡ Some k → length w < length s
    → Spelling (word_bytes p w) s (set s (length s - 1) k) (From (length s - 1))
unfolding SpelledOk operator
word_name p w {s} {r} {k} e h l = record {
  long = length-set s (length s - 1) k;
  ok = record {
    within = omega (arith, length-set s (length s - 1) k);
    is = name_first p w k (e ∙ ap operator h) ∙ ap some (sym (last_set s k (omega arith)));
  };
}

-- ---- hex, and numbers

or_none : (o : Option (List ℕ)) → or_else o none ≡ o
unfolding or_else
or_none none = refl
or_none (some b) = refl

-- no name
no_name : (p : Place) (w : List ℕ) → named p w ≡ none → word_bytes p w ≡ or_else (hex_word w) (and_then (signed_word w) λ s. some (signed_bytes s))
unfolding word_bytes or_else
no_name p w e = rw (e, word_bytes)

module _ (p : Place) (w : List ℕ) (k : Maybe ℕ) {s s' : List ℕ} {r : Spelled} {b : Bool} where
  pub word_hex : Spelling (hex_bytes (drop 2 w)) s s' r → Begins w b → b ≡ true → named p w ≡ operator k → k ≡ None → Spelling (word_bytes p w) s s' r
  unfolding after_0x and_then operator
  word_hex t g h e l =
      let z : signed_word w ≡ none = g.alone h in
      let y : hex_word w ≡ hex_bytes (drop 2 w) = g.is ∙ ap (λ (v : Bool). after_0x v w) h in
      let f : word_bytes p w ≡ hex_bytes (drop 2 w) =
      no_name p w (e ∙ ap operator l)
      ∙ ap (λ (o : Option Signed). or_else (hex_word w) (and_then o λ n. some (signed_bytes n))) z
      ∙ or_none (hex_word w)
      ∙ y in
      subst (λ (o : Option (List ℕ)). Spelling o s s' r) (sym f) t

  pub word_number : Spelling (and_then (signed_word w) λ n. some (signed_bytes n)) s s' r → Begins w b → b ≡ false → named p w ≡ operator k → k ≡ None → Spelling (word_bytes p w) s s' r
  unfolding after_0x or_else operator
  word_number t g h e l =
      let y : hex_word w ≡ none = g.is ∙ ap (λ (v : Bool). after_0x v w) h in
      let f : word_bytes p w ≡ (and_then (signed_word w) λ n. some (signed_bytes n)) =
      no_name p w (e ∙ ap operator l)
      ∙ ap (λ (o : Option (List ℕ)). or_else o (and_then (signed_word w) λ n. some (signed_bytes n))) y in
      subst (λ (o : Option (List ℕ)). Spelling o s s' r) (sym f) t
