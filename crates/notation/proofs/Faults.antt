-- Where a text stops: that refusal 15 and a fault go together, that the place lies in the text, and examples. Assumes nothing.
use Prim.Native.Nat.{ℕ, zero, suc, ◌+◌, ◌-◌, ◌≤◌}
use mathlib.Core.Path.{◌≡◌, refl}
use mathlib.Core.List.{List, [], ◌∷◌, ◌++◌, map}
use mathlib.Core.Bool.{◌&&◌}
use mathlib.Core.Option.{Option, none, some}
use lib.Dec.{eqb, leb}
use lib.ListN.{length, drop}
use native.Mathlib.Omega.{arith}
use Rattle.refusals.specs.declared.Refusal.TheVariants.{NoParse}
use Rattle.meaning.specs.Tree.{Tree}
use Rattle.meaning.specs.Meter.{Out, done, stop}
use Rattle.meaning.proofs.Tests.{on_bool, leb_true}
use Rattle.notation.specs.declared.Kind.{Kind}
use Rattle.notation.specs.declared.Kind.TheVariants.{Blank, Opens, Closes, Quotes, Plain}
use Rattle.notation.specs.Texts.{text_limit}
use Rattle.notation.specs.Grammar.{Token, opening, closing, Spot, spot, kind_of, ending, spots_from, quoted_from, spots, tree_of_text, read_text}
use Rattle.notation.specs.Faults.{first_place, place_of_last, fault}

some_not_none : {A : Type 0} {p : ℕ} → ◌≡◌ {A = Option ℕ} (some p) none → A
some_not_none h = absurd (let z : ◌≡◌ {A = ℕ} 0 1 = cc in omega arith)

-- ---- a fault and refusal 15

-- a text without a fault parses
pub no_fault : (text : List ℕ) → fault text ≡ none → (t : Tree) × (ts : List Token) × (tree_of_text text ≡ done t ts)
unfolding fault
no_fault text h = go (tree_of_text text) refl
  where
    go : (o : Out (List Token) Tree) → tree_of_text text ≡ o → (t : Tree) × (ts : List Token) × (tree_of_text text ≡ done t ts)
    go (done t ts) e = (t, ts, e)
    go (stop n ts) e = some_not_none (rw (e, fault) at h)

-- a text with one is refused with 15, from any units on, where it is no longer than a text may be
pub fault_refused : (text : List ℕ) (p u : ℕ) → length text ≤ text_limit → fault text ≡ some p → read_text text u ≡ stop NoParse (record { left = []; units = u })
unfolding fault read_text
fault_refused text p u l h = go (tree_of_text text) refl
  where
    go : (o : Out (List Token) Tree) → tree_of_text text ≡ o → read_text text u ≡ stop NoParse (record { left = []; units = u })
    go (done t ts) e = some_not_none {p = p} (let z : ◌≡◌ {A = Option ℕ} none (some p) = (rw (e, fault) at h) in cc)
    go (stop n ts) e = rw (leb_true (length text) text_limit l, e, read_text) refl

-- ---- the place lies in the text, or at its end

-- no token begins past n
unfoldable Within : ℕ → List Spot → Type 0
Within n [] = Unit {0}
Within n (spot t i ∷ ss) = (i ≤ n) × Within n ss

within_ending : (n : ℕ) (w : List ℕ) (i : ℕ) (ss : List Spot) → i ≤ n → Within n ss → Within n (ending w i ss)
unfolding Within ending
within_ending n [] i ss h k = k
within_ending n (c ∷ cs) i ss h k = (omega arith, k)

-- one byte, given what is so after it
module _ (n c : ℕ) (cs : List ℕ) (i : ℕ) (w : List ℕ) (l : i + 1 ≤ n) (after : (v : List ℕ) → Within n (spots_from cs (i + 1) v)) where
  within_step : (k : Kind) → kind_of c ≡ k → Within n (quoted_from cs (i + 1) i []) → Within n (spots_from (c ∷ cs) i w)
  unfolding Within spots_from
  within_step Plain e q = rw (e, spots_from) (after (w ++ (c ∷ [])))
  within_step Blank e q = rw (e, spots_from) (within_ending n w i _ (omega arith) (after []))
  within_step Opens e q = rw (e, spots_from) (within_ending n w i (spot opening i ∷ spots_from cs (i + 1) []) (omega arith) (omega arith, after []))
  within_step Closes e q = rw (e, spots_from) (within_ending n w i (spot closing i ∷ spots_from cs (i + 1) []) (omega arith) (omega arith, after []))
  within_step Quotes e q = rw (e, spots_from) (within_ending n w i _ (omega arith) q)

mutual
  unfolding Within spots_from quoted_from

  within_from : (cs : List ℕ) (n i : ℕ) (w : List ℕ) → i + length cs ≤ n → Within n (spots_from cs i w)
  within_from [] n i w h = within_ending n w i [] (omega arith) tt
  within_from (c ∷ cs) n i w h = within_step n c cs i w (omega arith) (λ v. within_from cs n (i + 1) v (omega arith)) (kind_of c) refl (within_quoted cs n (i + 1) i [] (omega arith) (omega arith))

  within_quoted : (cs : List ℕ) (n i q : ℕ) (s : List ℕ) → i + length cs ≤ n → q ≤ n → Within n (quoted_from cs i q s)
  within_quoted [] n i q s h k = (k, tt)
  within_quoted (c ∷ cs) n i q s h k = on_bool (eqb c 0x22)
      (λ e. rw (e, quoted_from) (k, within_from cs n (i + 1) [] (omega arith)))
      (λ e. on_bool (leb 0x20 c && leb c 0x7e)
      (λ f. rw (e, quoted_from, f) (within_quoted cs n (i + 1) q (s ++ (c ∷ [])) (omega arith) k))
      (λ f. rw (e, quoted_from, f) (omega arith, tt)))

within_drop : (n k : ℕ) (ss : List Spot) → Within n ss → Within n (drop k ss)
unfolding Within
within_drop n zero ss h = h
within_drop n (suc k) [] h = tt
within_drop n (suc k) (spot t i ∷ ss) h = within_drop n k ss h.1

within_first : (n : ℕ) (ss : List Spot) → Within n ss → first_place ss n ≤ n
unfolding Within first_place
within_first n [] h = omega arith
within_first n (spot t i ∷ ss) h = h.0

pub fault_within : (text : List ℕ) (p : ℕ) → fault text ≡ some p → p ≤ length text
unfolding fault place_of_last spots
fault_within text p h = go (tree_of_text text) refl
  where
    last : (k : ℕ) → place_of_last text k ≤ length text
    last k = within_first (length text) (drop (length (spots text) - k) (spots text)) (within_drop (length text) (length (spots text) - k) (spots text) (within_from text (length text) 0 [] (omega arith)))

    go : (o : Out (List Token) Tree) → tree_of_text text ≡ o → p ≤ length text
    go (done t ts) e = some_not_none {p = p} (let z : ◌≡◌ {A = Option ℕ} none (some p) = (rw (e, fault) at h) in cc)
    go (stop n ts) e =
        let z : ◌≡◌ {A = Option ℕ} (some (place_of_last text (length ts))) (some p) = (rw (e, fault) at h) in
        let y : place_of_last text (length ts) ≡ p = cc in
        let x : place_of_last text (length ts) ≤ length text = last (length ts) in
        omega arith

-- ---- examples

pub record Example : Type 0 where
  pub text : List ℕ
  pub place : Option ℕ

unfoldable pub examples : List Example
examples =
    -- (q f): a name where there are none
    record { text = 0x28 ∷ 0x71 ∷ 0x20 ∷ 0x66 ∷ 0x29 ∷ []; place = some 3 }
    -- (f 1: a bracket is missing
    ∷ record { text = 0x28 ∷ 0x66 ∷ 0x20 ∷ 0x31 ∷ []; place = some 4 }
    -- (f 1)): one is too many
    ∷ record { text = 0x28 ∷ 0x66 ∷ 0x20 ∷ 0x31 ∷ 0x29 ∷ 0x29 ∷ []; place = some 5 }
    -- 5 6: a second expression
    ∷ record { text = 0x35 ∷ 0x20 ∷ 0x36 ∷ []; place = some 2 }
    -- (. 5): a dot before any part
    ∷ record { text = 0x28 ∷ 0x2e ∷ 0x20 ∷ 0x35 ∷ 0x29 ∷ []; place = some 1 }
    -- (5 .): nothing after a dot
    ∷ record { text = 0x28 ∷ 0x35 ∷ 0x20 ∷ 0x2e ∷ 0x29 ∷ []; place = some 4 }
    -- (5 . 6 7): too much after it
    ∷ record { text = 0x28 ∷ 0x35 ∷ 0x20 ∷ 0x2e ∷ 0x20 ∷ 0x36 ∷ 0x20 ∷ 0x37 ∷ 0x29 ∷ []; place = some 7 }
    -- (f "ab): a quote that is not closed: where it opens
    ∷ record { text = 0x28 ∷ 0x66 ∷ 0x20 ∷ 0x22 ∷ 0x61 ∷ 0x62 ∷ 0x29 ∷ []; place = some 3 }
    -- "a, a tab and ": the tab
    ∷ record { text = 0x22 ∷ 0x61 ∷ 0x09 ∷ 0x22 ∷ []; place = some 2 }
    -- the empty text, and a blank
    ∷ record { text = []; place = some 0 }
    ∷ record { text = 0x20 ∷ []; place = some 1 }
    -- (0x5): half a byte
    ∷ record { text = 0x28 ∷ 0x30 ∷ 0x78 ∷ 0x35 ∷ 0x29 ∷ []; place = some 1 }
    -- (f 1) parses
    ∷ record { text = 0x28 ∷ 0x66 ∷ 0x20 ∷ 0x31 ∷ 0x29 ∷ []; place = none }
    ∷ []

pub faults_told : map (λ e. fault e.text) examples ≡ map (λ e. e.place) examples
unfolding examples fault
faults_told = refl
