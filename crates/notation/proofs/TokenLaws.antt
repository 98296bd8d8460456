-- The tokens of a tree's text: what they are, part by part. Assumes nothing.
use Prim.Native.Nat.{ℕ}
use mathlib.Core.Path.{◌≡◌, refl, sym, ◌∙◌, ap}
use mathlib.Core.List.{List, [], ◌∷◌, ◌++◌, append_assoc, append-nil}
use Rattle.meaning.specs.Tree.{Tree, atom, pair, is_byte}
use Rattle.meaning.specs.Form.{IsBytes, EveryAtom}
use Rattle.notation.specs.declared.Place.{Place}
use Rattle.notation.specs.declared.Place.TheVariants.{Code}
use Rattle.notation.specs.Words.{atom_text}
use Rattle.notation.specs.Texts.{head_in, after, text_at, text_rest, text_of}
use Rattle.notation.specs.Grammar.{Token, opening, closing, dot, word, kind_of, word_or_dot, tokens}
use Rattle.notation.proofs.Signs.{ended, tokens_from, tokens_are}
use Rattle.notation.proofs.WordLaws.{Plains, WordFor, word_for}

-- ---- the tokens of a tree

-- the first token of a tree's text
unfoldable pub first_at : Tree → Place → Token
unfolding atom_text
first_at (atom []) p = opening
first_at (atom (b ∷ bs)) p = word (atom_text p (b ∷ bs))
first_at (pair l r) p = opening

unfoldable mutual
  unfolding first_at after

  -- the tokens after the first
  pub more_at : Tree → Place → List Token
  more_at (atom []) p = closing ∷ []
  more_at (atom (b ∷ bs)) p = []
  more_at (pair l r) p = first_at l (head_in p) ∷ (more_at l (head_in p) ++ tokens_rest r (after (head_in p) l))

  -- the tokens of the rest of a list
  pub tokens_rest : Tree → Place → List Token
  tokens_rest (atom []) p = closing ∷ []
  tokens_rest (atom (b ∷ bs)) p = dot ∷ first_at (atom (b ∷ bs)) p ∷ closing ∷ []
  tokens_rest (pair l r) p = first_at l p ∷ (more_at l p ++ tokens_rest r (after p l))

-- ---- words

-- a word ends before this text
unfoldable pub Stops : List ℕ → Type 0
Stops rest = (w : List ℕ) → tokens_from rest w ≡ ended w (tokens_from rest [])

-- plain bytes lengthen the word that was begun
plain_run : (w rest v : List ℕ) → Plains w → tokens_from (w ++ rest) v ≡ tokens_from rest (v ++ w)
unfolding tokens_from Plains
plain_run [] rest v h = ap (tokens_from rest) (sym (append-nil v))
plain_run (c ∷ cs) rest v (e, h) = rw (e, tokens_from) (plain_run cs rest (v ++ (c ∷ [])) h ∙ ap (tokens_from rest) (append_assoc v (c ∷ []) cs))

word_tokens : (p : Place) (b w rest : List ℕ) → WordFor p b w → Stops rest → tokens_from (w ++ rest) [] ≡ word w ∷ tokens_from rest []
unfolding Stops
word_tokens p b w rest f s = plain_run w rest [] f.plain ∙ s w ∙ f.ends (tokens_from rest [])

-- a word ends before the rest of a list
stops_rest : (t : Tree) (p : Place) (rest : List ℕ) → Stops (text_rest t p ++ rest)
unfolding Stops text_rest tokens_from kind_of ended
stops_rest (atom []) p rest w = refl
stops_rest (atom (b ∷ bs)) p rest w = refl
stops_rest (pair l r) p rest w = refl

stops_end : Stops []
unfolding Stops tokens_from ended
stops_end w = refl

stops_closing : (rest : List ℕ) → Stops (0x29 ∷ rest)
unfolding Stops tokens_from kind_of ended
stops_closing rest w = refl

-- ---- parts of a text

-- "(" and a blank are no part of a word, and a dot between blanks is one
open_token : (cs : List ℕ) → tokens_from (0x28 ∷ cs) [] ≡ opening ∷ tokens_from cs []
unfolding tokens_from kind_of ended
open_token cs = refl

blank_token : (cs : List ℕ) → tokens_from (0x20 ∷ cs) [] ≡ tokens_from cs []
unfolding tokens_from kind_of ended
blank_token cs = refl

close_token : (cs : List ℕ) → tokens_from (0x29 ∷ cs) [] ≡ closing ∷ tokens_from cs []
unfolding tokens_from kind_of ended
close_token cs = refl

dot_token : (cs : List ℕ) → tokens_from (0x20 ∷ 0x2e ∷ 0x20 ∷ cs) [] ≡ dot ∷ tokens_from cs []
unfolding tokens_from kind_of ended word_or_dot is_byte
dot_token cs = refl

-- two parts, one after the other
two_texts : (a b rest : List ℕ) (f : Token) (m n : List Token) → tokens_from (a ++ (b ++ rest)) [] ≡ f ∷ (m ++ tokens_from (b ++ rest) [])
    → tokens_from (b ++ rest) [] ≡ n ++ tokens_from rest [] → tokens_from ((a ++ b) ++ rest) [] ≡ f ∷ ((m ++ n) ++ tokens_from rest [])
two_texts a b rest f m n h i =
    ap (λ x. tokens_from x []) (append_assoc a b rest) ∙ h ∙ ap (λ x. f ∷ (m ++ x)) i ∙ ap (f ∷◌) (sym (append_assoc m n (tokens_from rest [])))

-- that the text of t has the tokens of t: as an element, and as the rest of a list
TokensAt : Tree → Type 0
TokensAt t = (p : Place) (rest : List ℕ) → Stops rest → tokens_from (text_at t p ++ rest) [] ≡ first_at t p ∷ (more_at t p ++ tokens_from rest [])

TokensRest : Tree → Type 0
TokensRest t = (p : Place) (rest : List ℕ) → tokens_from (text_rest t p ++ rest) [] ≡ tokens_rest t p ++ tokens_from rest []

-- an element and the rest of a list
list_tokens : (l r : Tree) → TokensAt l → TokensRest r → (p : Place) (rest : List ℕ)
    → tokens_from ((text_at l p ++ text_rest r (after p l)) ++ rest) [] ≡ first_at l p ∷ ((more_at l p ++ tokens_rest r (after p l)) ++ tokens_from rest [])
unfolding TokensAt TokensRest
list_tokens l r h i p rest =
    two_texts (text_at l p) (text_rest r (after p l)) rest (first_at l p) (more_at l p) (tokens_rest r (after p l))
    (h p (text_rest r (after p l) ++ rest) (stops_rest r (after p l) rest))
    (i (after p l) rest)

-- a dot, an atom and the closing bracket
last_tokens : (p : Place) (b : ℕ) (bs rest : List ℕ) → IsBytes (b ∷ bs)
    → tokens_from (0x20 ∷ 0x2e ∷ 0x20 ∷ ((atom_text p (b ∷ bs) ++ (0x29 ∷ [])) ++ rest)) [] ≡ dot ∷ word (atom_text p (b ∷ bs)) ∷ closing ∷ tokens_from rest []
last_tokens p b bs rest h =
    dot_token ((atom_text p (b ∷ bs) ++ (0x29 ∷ [])) ++ rest)
    ∙ ap (λ x. dot ∷ tokens_from x []) (append_assoc (atom_text p (b ∷ bs)) (0x29 ∷ []) rest)
    ∙ ap (dot ∷◌) (word_tokens p (b ∷ bs) (atom_text p (b ∷ bs)) (0x29 ∷ rest) (word_for p b bs h) (stops_closing rest))
    ∙ ap (λ x. dot ∷ word (atom_text p (b ∷ bs)) ∷ x) (close_token rest)

-- every tree whose atoms are bytes
tree_tokens : (t : Tree) → EveryAtom IsBytes t → TokensAt t × TokensRest t
unfolding TokensAt TokensRest EveryAtom text_at text_rest first_at more_at tokens_rest atom_text
tree_tokens (atom []) h = (λ p rest s. open_token (0x29 ∷ rest) ∙ ap (opening ∷◌) (close_token rest), λ p rest. close_token rest)
tree_tokens (atom (b ∷ bs)) h =
    (λ p rest s. word_tokens p (b ∷ bs) (atom_text p (b ∷ bs)) rest (word_for p b bs h) s, λ p rest. last_tokens p b bs rest h)
tree_tokens (pair l r) (h, i) =
    let (la, lr) = tree_tokens l h in
    let (ra, rr) = tree_tokens r i in (
      λ p rest s. open_token ((text_at l (head_in p) ++ text_rest r (after (head_in p) l)) ++ rest) ∙ ap (opening ∷◌) (list_tokens l r la rr (head_in p) rest),
      λ p rest. blank_token ((text_at l p ++ text_rest r (after p l)) ++ rest) ∙ list_tokens l r la rr p rest,
    )

-- the tokens of a whole text
pub text_tokens : (t : Tree) → EveryAtom IsBytes t → tokens (text_of t) ≡ first_at t Code ∷ more_at t Code
unfolding text_of tokens_from ended TokensAt
text_tokens t h =
    tokens_are (text_of t)
    ∙ ap (λ x. tokens_from x []) (sym (append-nil (text_at t Code)))
    ∙ (tree_tokens t h).0 Code [] stops_end
    ∙ ap (first_at t Code ∷◌) (append-nil (more_at t Code))
