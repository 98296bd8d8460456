-- Reading a line byte by byte: the value of a digit, what one byte more leaves, and what the loop over bytes keeps. Assumes nothing.
use mathlib.Core.Path.{◌≡◌, refl, sym, ◌∙◌, ap}
use mathlib.Core.Bool.{Bool, true, false, not}
use mathlib.Core.List.{List, ◌∷◌}
use Prim.Native.Nat.{max, ℕ, ◌+◌, ◌-◌, ◌*◌, ◌≤◌, ◌<◌}
use native.Mathlib.Omega.{arith}
use native.Mathlib.Numerals.{add-one}
use lib.ListN.{length, take, drop, get_or, set, length-set, drop_of_length-le}
use lib.Seq.{take-suc-set, length-take-le, drop-cons}
use borrow.Author.Tests.{lt-ltb, le-ltb, le-leb, lt-leb, eq-eqb, ne_eqb}
use Rattle.std.specs.Prelude.{Option, Some, None, IfSome}
use Rattle.lines.specs.declared.read.Got.TheVariants.{Form, Bad}
use Rattle.lines.specs.declared.read.Spelling.{Spelling}
use Rattle.lines.specs.declared.read.Spelling.TheVariants.{Hex, Raw}
use Rattle.lines.specs.declared.read.Line.{Line}
use Rattle.lines.specs.Hex.{digit_of}
use Rattle.lines.specs.Line.{Seen, shown, keep, more, judged, walk, Took, Passed}

-- a digit's value
pub below : (x : ℕ) → x < 48 → None ≡ digit_of x
unfolding digit_of
below x h = rw (lt-ltb x 48 h, digit_of)

pub number : (x : ℕ) → 48 ≤ x → x ≤ 57 → Some (x - 48) ≡ digit_of x
unfolding digit_of
number x h k = rw (le-ltb x 48 h, le-leb x 57 k, digit_of)

pub between : (x : ℕ) → 57 < x → x < 97 → None ≡ digit_of x
unfolding digit_of
between x h k = rw (le-ltb x 48 (omega arith), lt-leb x 57 h, lt-ltb x 97 k, digit_of)

pub letter : (x : ℕ) → 97 ≤ x → x ≤ 102 → Some (x - 97 + 10) ≡ digit_of x
unfolding digit_of
letter x h k =
    let e : x - 97 + 10 ≡ x - 87 = omega arith in
    rw (le-ltb x 48 (omega arith), lt-leb x 57 (omega arith), le-ltb x 97 h, le-leb x 102 k, digit_of) (ap (λ d. Some d) e)

pub above : (x : ℕ) → 102 < x → None ≡ digit_of x
unfolding digit_of
above x h = rw (le-ltb x 48 (omega arith), lt-leb x 57 (omega arith), le-ltb x 97 (omega arith), lt-leb x 102 h, digit_of)

-- one byte more as it stands
pub raw_dropped : (f : List ℕ) (l : Line) (x : ℕ) → length f ≤ l.n → l.n ≤ length f → IfSome l.half (λ h. h < 16) → Took Raw x f f l l
unfolding more keep
raw_dropped f l x g w o =
    let z : length (take l.n f) ≡ l.n = length-take-le l.n f w in
    record { shows = rw (le-ltb (length (take l.n f)) (length f) (omega arith), keep); within = w; small = o }

pub raw_kept : (f : List ℕ) (l : Line) (x : ℕ) → l.n < length f → IfSome l.half (λ h. h < 16) → Took Raw x f (set f l.n x) l (record { n = l.n + 1; half = l.half; bad = l.bad })
unfolding more keep
raw_kept f l x g o =
    let z : length (take l.n f) ≡ l.n = length-take-le l.n f (omega arith) in
    let y : length (set f l.n x) ≡ length f = length-set f l.n x in
    record {
      shows = rw (add-one, take-suc-set f l.n x g, lt-ltb (length (take l.n f)) (length f) (omega arith), keep);
      within = omega arith;
      small = o;
    }

-- one byte more of hex
module _ (f : List ℕ) (l : Line) (x : ℕ) {o : Option ℕ} (e : o ≡ digit_of x) where
  pub no_digit : o ≡ None → l.n ≤ length f → IfSome l.half (λ h. h < 16) → Took Hex x f f l (record { n = l.n; half = l.half; bad = true })
  unfolding more
  no_digit n w k = record { shows = rw (sym e ∙ n, more); within = w; small = k }

  module _ {d : ℕ} (s : o ≡ Some d) where
    pub first_digit : l.half ≡ None → IfSome o (λ d. d < 16) → l.n ≤ length f → Took Hex x f f l (record { n = l.n; half = Some d; bad = l.bad })
    unfolding more
    first_digit n k w = let h : IfSome (Some d) (λ d. d < 16) = rw s at k in record { shows = rw (sym e ∙ s, n, more); within = w; small = h }

    pub second_digit : (g : List ℕ) {h : ℕ} (r : Line) → l.half ≡ Some h → Took Raw (h * 16 + d) f g l r → Took Hex x f g l (record { n = r.n; half = None; bad = r.bad })
    unfolding more
    second_digit g {h} r n t = record {
      shows = rw (sym e ∙ s, n, more) (ap (λ (z : Seen). record { bytes = z.bytes; half = None; bad = z.bad }) t.shows);
      within = t.within;
      small = tt;
    }

-- the loop over bytes
pub record Walking (how : Spelling) (bytes : List ℕ) (from : ℕ) (f g : List ℕ) (l m : Line) (at : ℕ) : Type 0 where
  pub long : length g ≡ length f
  pub within : m.n ≤ length g
  pub small : IfSome m.half (λ h. h < 16)
  pub most : at ≤ max from (length bytes)
  pub same : walk how (length f) (shown g m) at (drop at bytes) ≡ walk how (length f) (shown f l) from (drop from bytes)

module _ (how : Spelling) (bytes : List ℕ) (from : ℕ) (f : List ℕ) (l : Line) where
  pub walk_starts : l.n ≤ length f → IfSome l.half (λ h. h < 16) → Walking how bytes from f f l l from
  walk_starts h o = record { long = refl; within = h; small = o; most = omega arith; same = refl }

  pub walk_turn : (g g' : List ℕ) (m m' : Line) (at : ℕ) → Took how (get_or bytes at 0) g g' m m' → Walking how bytes from f g l m at → at < length bytes → (get_or bytes at 0 ≡ 10 → ⊥) → length g' ≡ length g → Walking how bytes from f g' l m' (at + 1)
  unfolding walk
  walk_turn g g' m m' at t v h n z =
      let x : ℕ = get_or bytes at 0 in
      let rest : List ℕ = drop (at + 1) bytes in
      let d : drop at bytes ≡ x ∷ rest = drop-cons bytes at 0 h ∙ ap (λ (k : ℕ). x ∷ drop k bytes) (sym (add-one at)) in
      let took : shown g' m' ≡ more how (length f) (shown g m) x = t.shows ∙ ap (λ (k : ℕ). more how k (shown g m) x) v.long in
      let step : walk how (length f) (shown g m) at (x ∷ rest) ≡ walk how (length f) (more how (length f) (shown g m) x) (at + 1) rest = rw (ne_eqb x 10 n, walk) in
      record {
        long = z ∙ v.long;
        within = t.within;
        small = t.small;
        most = omega arith;
        same = ap (λ (s : Seen). walk how (length f) s (at + 1) rest) took ∙ sym step ∙ sym (ap (walk how (length f) (shown g m) at) d) ∙ v.same;
      }

  pub walk_newline : (g : List ℕ) (m : Line) (at : ℕ) → Walking how bytes from f g l m at → at < length bytes → get_or bytes at 0 ≡ 10 → Passed how bytes from f g l (record { line = m; at = at + 1; ended = true })
  unfolding walk
  walk_newline g m at v h n = record { shows = rw (drop-cons bytes at 0 h, eq-eqb (get_or bytes at 0) 10 n, walk) at v.same; within = v.within; small = v.small }

  pub walk_ends : (g : List ℕ) (m : Line) {at r : ℕ} → Walking how bytes from f g l m at → from ≤ at → length bytes ≤ at → r ≡ max from (length bytes) → Passed how bytes from f g l (record { line = m; at = r; ended = false })
  unfolding walk
  walk_ends g m {at} {r} v k h e =
      let z : r ≡ at = let w = v.most in omega arith in
      rw z (record { shows = rw (drop_of_length-le bytes h) at v.same; within = v.within; small = v.small })

-- a line that has ended
pub judge_form : (h : Option ℕ) (b : Bool) → h ≡ None → not b ≡ true → Form ≡ judged h b
unfolding judged
judge_form h true n e = cc
judge_form h false n e = rw (n, judged)

pub judge_bad : (h : Option ℕ) (b : Bool) → h ≡ None → not b ≡ false → Bad ≡ judged h b
unfolding judged
judge_bad h true n e = rw (n, judged)
judge_bad h false n e = cc

pub judge_half : (h : Option ℕ) (b : Bool) {d : ℕ} → h ≡ Some d → Bad ≡ judged h b
unfolding judged
judge_half h b n = rw (n, judged)
