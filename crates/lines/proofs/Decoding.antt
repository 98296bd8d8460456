-- What a line read in parts stands for: what `decode` says of all its bytes, or these bytes as they stand. Assumes nothing.
use mathlib.Core.Path.{◌≡◌, refl, sym, ◌∙◌, ap}
use mathlib.Core.Bool.{Bool, true, false}
use mathlib.Core.Option.{Option, some, none}
use mathlib.Core.List.{List, [], ◌∷◌, ◌++◌, append-nil, append_assoc}
use Prim.Native.Nat.{ℕ, ◌+◌, ◌-◌, ◌*◌, ◌/◌, ◌%◌, ◌≤◌, ◌<◌, min}
use native.Mathlib.Omega.{arith}
use lib.Dec.{ltb, eqb}
use lib.ListN.{length, take, length-take, length-append}
use lib.Seq.{take_all, take-append-le}
use borrow.Author.Tests.{ltb-true, ltb-false}
use Rattle.std.specs.Prelude as rust
use Rattle.std.specs.Prelude.{Some, None}
use Rattle.io.specs.Digits.{hex_digit_ascii}
use Rattle.lines.specs.declared.read.Got.TheVariants.{Form, Bad}
use Rattle.lines.specs.declared.read.Spelling.{Spelling}
use Rattle.lines.specs.declared.read.Spelling.TheVariants.{Hex, Raw}
use Rattle.lines.specs.Hex.{digit_of, before, two_before, decode, hex_of}
use Rattle.lines.specs.Line.{Seen, keep, more, judged, Walked, walk}
use Rattle.lines.proofs.Reading as reading

pub on_bool {ℓ} : {X : Type ℓ} (b : Bool) → (b ≡ true → X) → (b ≡ false → X) → X
on_bool true f g = f refl
on_bool false f g = g refl

-- no newline among the bytes
abbrev pub Plain : List ℕ → Type 0
Plain [] = Unit {0}
Plain (x ∷ xs) = (eqb x 10 ≡ false) × Plain xs

-- the line after all of some bytes
unfoldable pub through : Spelling → ℕ → Seen → List ℕ → Seen
unfolding more
through how most s [] = s
through how most s (x ∷ xs) = through how most (more how most s x) xs

-- nothing of a line yet
abbrev pub begun : Seen
begun = record { bytes = []; half = None; bad = false }

-- what a line that has ended stands for, and the bytes kept of it
abbrev pub Stands : ℕ → Option (List ℕ) → Seen → Type 0
Stands most none s = judged s.half s.bad ≡ Bad
Stands most (some bs) s = (judged s.half s.bad ≡ Form) × (s.bytes ≡ take most bs)

-- a line may come in parts
pub parts : (how : Spelling) (most : ℕ) (s : Seen) (at : ℕ) (xs ys : List ℕ) → Plain xs → walk how most s at (xs ++ ys) ≡ walk how most (through how most s xs) (at + length xs) ys
unfolding walk through
parts how most s at [] ys p = ap (λ (k : ℕ). walk how most s k ys) (omega arith)
parts how most s at (x ∷ xs) ys p =
    let e : at + 1 + length xs ≡ at + length (x ∷ xs) = omega arith in
    rw (p.0, walk) (parts how most (more how most s x) (at + 1) xs ys p.1 ∙ ap (λ (k : ℕ). walk how most (through how most (more how most s x) xs) k ys) e)

on_option : {X : Type 0} (o : rust.Option ℕ) → ((d : ℕ) → o ≡ Some d → X) → (o ≡ None → X) → X
on_option (Some d) f g = f d refl
on_option None f g = g refl

module _ (most : ℕ) (s : Seen) (x : ℕ) where
  other : digit_of x ≡ None → more Hex most s x ≡ record { bytes = s.bytes; half = s.half; bad = true }
  unfolding more
  other e = rw (e, more)

  module _ {d : ℕ} (e : digit_of x ≡ Some d) where
    first : s.half ≡ None → more Hex most s x ≡ record { bytes = s.bytes; half = Some d; bad = s.bad }
    unfolding more
    first h = rw (e, h, more)

    second : {h : ℕ} → s.half ≡ Some h → more Hex most s x ≡ record { bytes = keep most s.bytes (h * 16 + d); half = None; bad = s.bad }
    unfolding more
    second h = rw (e, h, more)

  more_bad : s.bad ≡ true → (more Hex most s x).bad ≡ true
  more_bad b = on_option (digit_of x)
      (λ d e. on_option s.half (λ h k. ap (λ (z : Seen). z.bad) (second e k) ∙ b) (λ k. ap (λ (z : Seen). z.bad) (first e k) ∙ b))
      (λ e. ap (λ (z : Seen). z.bad) (other e))

bad_line : (h : rust.Option ℕ) → judged h true ≡ Bad
unfolding judged
bad_line None = refl
bad_line (Some d) = refl

bad_stays : (most : ℕ) (s : Seen) (xs : List ℕ) → s.bad ≡ true → judged (through Hex most s xs).half (through Hex most s xs).bad ≡ Bad
unfolding through
bad_stays most s [] b = rw b (bad_line s.half)
bad_stays most s (x ∷ xs) b = bad_stays most (more Hex most s x) xs (more_bad most s x b)

-- the bytes kept are the first of all
keep_first : (most : ℕ) (acc : List ℕ) (x : ℕ) → keep most (take most acc) x ≡ take most (acc ++ (x ∷ []))
unfolding keep
keep_first most acc x =
    let l : length (take most acc) ≡ min most (length acc) = length-take most acc in
    let a : length (acc ++ (x ∷ [])) ≡ length acc + 1 = length-append acc (x ∷ []) in
    on_bool (ltb (length (take most acc)) most)
    (λ e. let h : length (take most acc) < most = ltb-true (length (take most acc)) most e in
    rw (e, keep) (rw (take_all most acc (omega arith), take_all most (acc ++ (x ∷ [])) (omega arith))))
    (λ e. let h : most ≤ length (take most acc) = ltb-false (length (take most acc)) most e in
    rw (e, keep) (sym (take-append-le most acc (x ∷ []) (omega arith))))

-- the bytes so far, and then the others
after : List ℕ → Option (List ℕ) → Option (List ℕ)
after acc none = none
after acc (some bs) = some (acc ++ bs)

after_before : (acc : List ℕ) (x : ℕ) (o : Option (List ℕ)) → after acc (before x o) ≡ after (acc ++ (x ∷ [])) o
unfolding after before
after_before acc x none = refl
after_before acc x (some bs) = ap some (sym (append_assoc acc (x ∷ []) bs))

second_other : (o : rust.Option ℕ) (others : Option (List ℕ)) → two_before o None others ≡ none
unfolding two_before
second_other None others = refl
second_other (Some x) others = refl

goes : (most : ℕ) (acc line : List ℕ) → Stands most (after acc (decode line)) (through Hex most (record { bytes = take most acc; half = None; bad = false }) line)
unfolding decode after through judged two_before
goes most acc [] = (refl, ap (take most) (sym (append-nil acc)))
goes most acc (a ∷ []) =
    let s : Seen = record { bytes = take most acc; half = None; bad = false } in
    on_option (digit_of a)
    (λ d e. rw (first most s a e refl) refl)
    (λ e. rw (other most s a e) refl)
goes most acc (a ∷ b ∷ line) =
    let s : Seen = record { bytes = take most acc; half = None; bad = false } in
    on_option (digit_of a)
    (λ d p.
    let t : Seen = record { bytes = take most acc; half = Some d; bad = false } in
    on_option (digit_of b)
    (λ e q. rw (p, q, after_before acc (d * 16 + e) (decode line), first most s a p refl, second most t b q refl, keep_first most acc (d * 16 + e)) (goes most (acc ++ ((d * 16 + e) ∷ [])) line))
    (λ q. rw (q, second_other (digit_of a) (decode line)) (bad_stays most (more Hex most (more Hex most s a) b) line (rw (other most (more Hex most s a) b q) refl))))
    (λ p. rw p (bad_stays most (more Hex most (more Hex most s a) b) line (more_bad most (more Hex most s a) b (rw (other most s a p) refl))))

after_none : (o : Option (List ℕ)) → after [] o ≡ o
unfolding after
after_none none = refl
after_none (some bs) = refl

take_none : (most : ℕ) → ◌≡◌ {A = List ℕ} (take most []) []
take_none most = take_all most [] (omega arith)

read_as : (most : ℕ) (line : List ℕ) → Stands most (decode line) (through Hex most begun line)
read_as most line = rw (after_none (decode line), take_none most) at (goes most [] line)

-- a whole line and its newline: where reading stands, and what was read
pub record Whole (most at : ℕ) (line : List ℕ) (w : Walked) : Type 0 where
  pub ended : w.ended ≡ true
  pub place : w.at ≡ at + length line + 1
  pub stands : Stands most (decode line) w.seen

pub whole : (most at : ℕ) (line rest : List ℕ) → Plain line → Whole most at line (walk Hex most begun at (line ++ (10 ∷ rest)))
unfolding walk
whole most at line rest p =
    let stood : Stands most (decode line) (through Hex most begun line) = read_as most line in
    rw (parts Hex most begun at line (10 ∷ rest) p) (record { ended = refl; place = refl; stands = stood })

-- ---- a line as it stands

-- nothing is bad of it, and no digit waits
raw_goes : (most : ℕ) (acc line : List ℕ) → through Raw most (record { bytes = take most acc; half = None; bad = false }) line ≡ record { bytes = take most (acc ++ line); half = None; bad = false }
unfolding through more
raw_goes most acc [] = ap (λ (l : List ℕ). record { bytes = take most l; half = None; bad = false }) (sym (append-nil acc))
raw_goes most acc (x ∷ line) = rw (keep_first most acc x, ← append_assoc acc (x ∷ []) line) (raw_goes most (acc ++ (x ∷ [])) line)

-- a whole line and its newline: where reading stands, and its bytes, the first of them where there are more than `most`
pub record WholeRaw (most at : ℕ) (line : List ℕ) (w : Walked) : Type 0 where
  pub ended : w.ended ≡ true
  pub place : w.at ≡ at + length line + 1
  pub form : judged w.seen.half w.seen.bad ≡ Form
  pub bytes : w.seen.bytes ≡ take most line

pub whole_raw : (most at : ℕ) (line rest : List ℕ) → Plain line → WholeRaw most at line (walk Raw most begun at (line ++ (10 ∷ rest)))
unfolding walk judged
whole_raw most at line rest p =
    let stood : through Raw most begun line ≡ record { bytes = take most line; half = None; bad = false } = rw (take_none most) at (raw_goes most [] line) in
    rw (parts Raw most begun at line (10 ∷ rest) p, stood) (record { ended = refl; place = refl; form = refl; bytes = refl })

-- ---- what is printed in hex reads back

digit_glyph : (d : ℕ) → d < 16 → digit_of (hex_digit_ascii d) ≡ Some d
digit_glyph d h =
    on_bool (ltb d 10)
    (λ e.
    let k : d < 10 = ltb-true d 10 e in
    let z : 48 + d - 48 ≡ d = omega arith in
    rw e (sym (reading.number (48 + d) (omega arith) (omega arith)) ∙ ap (λ x. Some x) z))
    (λ e.
    let k : 10 ≤ d = ltb-false d 10 e in
    let z : 87 + d - 97 + 10 ≡ d = omega arith in
    rw e (sym (reading.letter (87 + d) (omega arith) (omega arith)) ∙ ap (λ x. Some x) z))

abbrev pub Bytes : List ℕ → Type 0
Bytes [] = Unit {0}
Bytes (x ∷ xs) = (x < 256) × Bytes xs

pub reads_back : (bs : List ℕ) → Bytes bs → decode (hex_of bs) ≡ some bs
unfolding decode hex_of before two_before
reads_back [] p = refl
reads_back (x ∷ bs) p =
    let h : x < 256 = p.0 in
    let e : x / 16 * 16 + x % 16 ≡ x = omega arith in
    rw (digit_glyph (x / 16) (omega arith), digit_glyph (x % 16) (omega arith), reads_back bs p.1)
    (ap (λ (z : ℕ). some (z ∷ bs)) e)
