-- The tokens of a tree's text are read as that tree. Assumes nothing.
use Prim.Native.Nat.{ℕ, zero, suc, ◌+◌, ◌≤◌}
use mathlib.Core.Path.{◌≡◌, refl, sym, ◌∙◌, ap}
use mathlib.Core.List.{List, [], ◌∷◌, ◌++◌, append_assoc, append-nil}
use mathlib.Core.Bool.{Bool, true, false}
use lib.ListN.{length, length-append}
use native.Mathlib.Omega.{arith}
use Rattle.meaning.specs.Tree.{Tree, atom, pair, nil}
use Rattle.meaning.specs.Meter.{done, ◌>>=◌, ◌>>◌, give, hold}
use Rattle.meaning.specs.Form.{IsBytes, EveryAtom}
use Rattle.meaning.proofs.MeterLaws.{bind_at}
use Rattle.notation.specs.declared.Place.{Place}
use Rattle.notation.specs.declared.Place.TheVariants.{Operator, Code}
use Rattle.notation.specs.Words.{atom_text}
use Rattle.notation.specs.Texts.{head_in, after}
use Rattle.notation.specs.Grammar.{Token, opening, closing, dot, word, P, first_token, next_token, element, closes, element_and_rest, last_part, in_list, rest_of, no_more, all_read, whole}
use Rattle.notation.proofs.WordLaws.{WordFor, word_for}
use Rattle.notation.proofs.TokenLaws.{first_at, more_at, tokens_rest}

-- a word that stands for bytes is read as their atom
word_element : (list : P Tree) (p : Place) (b w : List ℕ) (ts : List Token) → WordFor p b w → element list p (word w) ts ≡ done (atom b) ts
unfolding element give
word_element list p b w ts f = rw (f.reads, element)

module _ (rest : Place → Bool → P Tree) where
  -- the first token of a tree begins an element
  begins : (t : Tree) (p : Place) (begun : Bool) → in_list rest p begun (first_at t p) ≡ element_and_rest rest p (first_at t p)
  unfolding in_list first_at
  begins (atom []) p begun = refl
  begins (atom (b ∷ bs)) p begun = refl
  begins (pair l r) p begun = refl

  -- an element, and the rest of a list after it
  two_read : (l r : Tree) (p : Place) (f : Token) (ts us vs : List Token) → element (rest (head_in p) false) p f ts ≡ done l us → rest (after p l) true us ≡ done r vs
      → element_and_rest rest p f ts ≡ done (pair l r) vs
  unfolding element_and_rest give
  two_read l r p f ts us vs h i =
      bind_at (element (rest (head_in p) false) p f) (λ e. rest (after p e) true >>= λ r. give (pair e r)) ts us l h
      ∙ bind_at (rest (after p l) true) (λ r. give (pair l r)) us vs r i

  -- a dot, a word and a closing bracket
  last_read : (p : Place) (b w : List ℕ) (ts : List Token) → WordFor p b w → in_list rest p true dot (word w ∷ closing ∷ ts) ≡ done (atom b) ts
  unfolding in_list last_part next_token first_token closes give hold ◌>>◌ ◌>>=◌
  last_read p b w ts f =
      bind_at next_token (λ t. element (rest p false) p t >>= λ e. next_token >>= λ c. closes c >> give e) (word w ∷ closing ∷ ts) (closing ∷ ts) (word w) refl
      ∙ bind_at (element (rest p false) p (word w)) (λ e. next_token >>= λ c. closes c >> give e) (closing ∷ ts) (closing ∷ ts) (atom b)
      (word_element (rest p false) p b w (closing ∷ ts) f)

-- one token of a list, and what it begins
step : (k : ℕ) (p : Place) (begun : Bool) (t : Token) (ts : List Token) → rest_of (suc k) p begun (t ∷ ts) ≡ in_list (λ q b. rest_of k q b) p begun t ts
unfolding rest_of next_token first_token ◌>>=◌
step k p begun t ts = refl

step_closing : (k : ℕ) (p : Place) (begun : Bool) (ts : List Token) → rest_of (suc k) p begun (closing ∷ ts) ≡ done nil ts
unfolding rest_of next_token first_token in_list give ◌>>=◌
step_closing k p begun ts = refl

open_list : (list : P Tree) (p : Place) (ts : List Token) → element list p opening ts ≡ list ts
unfolding element
open_list list p ts = refl

-- that the tokens of t are read as t: where t is an element, and where it is the rest of a list
ReadAt : Tree → Type 0
ReadAt t = (p : Place) (k : ℕ) (ts : List Token) → length (more_at t p) ≤ k → element (rest_of k (head_in p) false) p (first_at t p) (more_at t p ++ ts) ≡ done t ts

ReadRest : Tree → Type 0
ReadRest t = (p : Place) (k : ℕ) (ts : List Token) → length (tokens_rest t p) ≤ k → rest_of k p true (tokens_rest t p ++ ts) ≡ done t ts

-- a list of at least one element
list_read : (l r : Tree) → ReadAt l → ReadRest r → (p : Place) (begun : Bool) (k : ℕ) (ts : List Token) → suc (length (more_at l p ++ tokens_rest r (after p l))) ≤ k
    → rest_of k p begun (first_at l p ∷ ((more_at l p ++ tokens_rest r (after p l)) ++ ts)) ≡ done (pair l r) ts
unfolding ReadAt ReadRest
list_read l r h i p begun zero ts n = absurd (omega arith)
list_read l r h i p begun (suc k) ts n =
    let e : length (more_at l p ++ tokens_rest r (after p l)) ≡ length (more_at l p) + length (tokens_rest r (after p l)) = length-append (more_at l p) (tokens_rest r (after p l)) in
    let us : List Token = tokens_rest r (after p l) ++ ts in
    ap (λ x. rest_of (suc k) p begun (first_at l p ∷ x)) (append_assoc (more_at l p) (tokens_rest r (after p l)) ts)
    ∙ step k p begun (first_at l p) (more_at l p ++ us)
    ∙ ap (λ (m : P Tree). m (more_at l p ++ us)) (begins (λ q b. rest_of k q b) l p begun)
    ∙ two_read (λ q b. rest_of k q b) l r p (first_at l p) (more_at l p ++ us) us ts (h p k us (omega arith)) (i (after p l) k ts (omega arith))

nil_at : (p : Place) (k : ℕ) (ts : List Token) → 1 ≤ k → rest_of k p false (closing ∷ ts) ≡ done nil ts
nil_at p zero ts n = absurd (omega arith)
nil_at p (suc k) ts n = step_closing k p false ts

nil_rest : (p : Place) (k : ℕ) (ts : List Token) → 1 ≤ k → rest_of k p true (closing ∷ ts) ≡ done nil ts
nil_rest p zero ts n = absurd (omega arith)
nil_rest p (suc k) ts n = step_closing k p true ts

last_rest : (p : Place) (b w : List ℕ) (k : ℕ) (ts : List Token) → WordFor p b w → 3 ≤ k → rest_of k p true (dot ∷ word w ∷ closing ∷ ts) ≡ done (atom b) ts
last_rest p b w zero ts f n = absurd (omega arith)
last_rest p b w (suc k) ts f n = step k p true dot (word w ∷ closing ∷ ts) ∙ last_read (λ q b. rest_of k q b) p b w ts f

-- every tree whose atoms are bytes
reads : (t : Tree) → EveryAtom IsBytes t → ReadAt t × ReadRest t
unfolding EveryAtom ReadAt ReadRest first_at more_at tokens_rest
reads (atom []) h = (λ p k ts n. open_list _ p (closing ∷ ts) ∙ nil_at (head_in p) k ts n, λ p k ts n. nil_rest p k ts n)
reads (atom (b ∷ bs)) h = (
  λ p k ts n. word_element _ p (b ∷ bs) (atom_text p (b ∷ bs)) ts (word_for p b bs h),
  λ p k ts n. last_rest p (b ∷ bs) (atom_text p (b ∷ bs)) k ts (word_for p b bs h) n,
)
reads (pair l r) (h, i) =
    let (la, lr) = reads l h in
    let (ra, rr) = reads r i in
    (λ p k ts n. open_list _ p _ ∙ list_read l r la rr (head_in p) false k ts n, λ p k ts n. list_read l r la rr p true k ts n)

-- the tokens of a whole tree, and no more
pub whole_read : (t : Tree) (k : ℕ) → EveryAtom IsBytes t → length (more_at t Code) ≤ k → whole k (first_at t Code ∷ more_at t Code) ≡ done t []
unfolding ReadAt whole next_token first_token all_read no_more hold give ◌>>◌ ◌>>=◌
whole_read t k h n =
    bind_at next_token (λ f. element (rest_of k Operator false) Code f >>= λ e. all_read >> give e) (first_at t Code ∷ more_at t Code) (more_at t Code) (first_at t Code) refl
    ∙ bind_at (element (rest_of k Operator false) Code (first_at t Code)) (λ e. all_read >> give e) (more_at t Code) [] t
    (ap (element (rest_of k Operator false) Code (first_at t Code)) (sym (append-nil (more_at t Code))) ∙ (reads t h).0 Code k [] n)
