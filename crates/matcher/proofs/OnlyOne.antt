-- One outcome only meets the promise: the answer, its place, and every byte of the output and of the room. Assumes nothing.
use mathlib.Core.Path.{◌≡◌, refl, sym, ◌∙◌, ap}
use mathlib.Core.List.{List}
use Prim.Native.Nat.{ℕ}
use native.Mathlib.Omega.{arith}
use lib.ListN.{length}
use Rattle.std.specs.Prelude.{Result, Ok, Err}
use Rattle.refusals.specs.declared.Refusal.{Refusal}
use Rattle.refusals.specs.Numbers.{number_of}
use Rattle.refusals.proofs.Only.{number_only}
use Rattle.matcher.specs.declared.Parts.{Parts}
use Rattle.matcher.specs.declared.Verdict.{Verdict}
use Rattle.matcher.specs.declared.Matching.{Matching}
use Rattle.matcher.specs.declared.Verdict.TheVariants.{Matched, NoMatch, TooManyNames}
use Rattle.matcher.specs.Outcome.{says_at, says, outcome, Matches}

same_parts : {n n' a a' b b' c c' d d' : ℕ} → n ≡ n' → a ≡ a' → b ≡ b' → c ≡ c' → d ≡ d'
    → ◌≡◌ {A = Parts} (record { count = n; name_1 = a; node_1 = b; name_2 = c; node_2 = d }) (record { count = n'; name_1 = a'; node_1 = b'; name_2 = c'; node_2 = d' })
same_parts o p q r s = rw (o, p, q, r, s)

parts_only : (p : List ℕ) (d e : Parts) → says_at p (Ok (Matched d)) ≡ says_at p (Ok (Matched e)) → d ≡ e
unfolding says_at
parts_only p d e h =
    let i : d.count ≡ e.count = cc in
    let j : d.name_1 ≡ e.name_1 = cc in
    let k : d.node_1 ≡ e.node_1 = cc in
    let l : d.name_2 ≡ e.name_2 = cc in
    let m : d.node_2 ≡ e.node_2 = cc in
    same_parts i j k l m

same : (p : List ℕ) (a b : Result Verdict Refusal) → says_at p a ≡ says_at p b → a ≡ b
unfolding says_at
same p (Ok (Matched d)) (Ok (Matched e)) h = ap (λ (x : Parts). Ok (Matched x)) (parts_only p d e h)
same p (Ok (Matched d)) (Ok NoMatch) h = let z : ◌≡◌ {A = ℕ} 0 1 = cc in absurd (omega arith)
same p (Ok (Matched d)) (Ok TooManyNames) h = let z : ◌≡◌ {A = ℕ} 0 1 = cc in absurd (omega arith)
same p (Ok (Matched d)) (Err n) h = let z : ◌≡◌ {A = ℕ} 0 1 = cc in absurd (omega arith)
same p (Ok NoMatch) (Ok (Matched e)) h = let z : ◌≡◌ {A = ℕ} 0 1 = cc in absurd (omega arith)
same p (Ok NoMatch) (Ok NoMatch) h = refl
same p (Ok NoMatch) (Ok TooManyNames) h = let z : ◌≡◌ {A = ℕ} 0 1 = cc in absurd (omega arith)
same p (Ok NoMatch) (Err n) h = let z : ◌≡◌ {A = ℕ} 0 1 = cc in absurd (omega arith)
same p (Ok TooManyNames) (Ok (Matched e)) h = let z : ◌≡◌ {A = ℕ} 0 1 = cc in absurd (omega arith)
same p (Ok TooManyNames) (Ok NoMatch) h = let z : ◌≡◌ {A = ℕ} 0 1 = cc in absurd (omega arith)
same p (Ok TooManyNames) (Ok TooManyNames) h = refl
same p (Ok TooManyNames) (Err n) h = let z : ◌≡◌ {A = ℕ} 0 1 = cc in absurd (omega arith)
same p (Err m) (Ok (Matched e)) h = let z : ◌≡◌ {A = ℕ} 0 1 = cc in absurd (omega arith)
same p (Err m) (Ok NoMatch) h = let z : ◌≡◌ {A = ℕ} 0 1 = cc in absurd (omega arith)
same p (Err m) (Ok TooManyNames) h = let z : ◌≡◌ {A = ℕ} 0 1 = cc in absurd (omega arith)
same p (Err m) (Err n) h = let i : number_of m ≡ number_of n = cc in ap Err (number_only m n i)

same_matching : (a b : Matching) → a.answer ≡ b.answer → a.place ≡ b.place → a ≡ b
same_matching a b e f = rw (e, f)

pub only_one : (forms : List ℕ) (first : ℕ) (room out r₁ r₂ o₁ o₂ : List ℕ) (a b : Matching)
    → Matches (outcome forms first (length room) (length out)) room r₁ out o₁ a → Matches (outcome forms first (length room) (length out)) room r₂ out o₂ b → (a ≡ b) × (r₁ ≡ r₂) × (o₁ ≡ o₂)
unfolding says
only_one forms first room out r₁ r₂ o₁ o₂ a b h k =
    let p : a.place ≡ b.place = h.place ∙ sym k.place in
    let t : says_at a.place a.answer ≡ says_at b.place b.answer = h.settles.delivers.answer ∙ sym k.settles.delivers.answer in
    let u : says_at a.place a.answer ≡ says_at a.place b.answer = t ∙ ap (λ (z : List ℕ). says_at z b.answer) (sym p) in
    (same_matching a b (same a.place a.answer b.answer u) p, h.settles.room ∙ sym k.settles.room, h.settles.delivers.out ∙ sym k.settles.delivers.out)
