-- The tokens of a text without their places: the same, whatever the places. Assumes nothing.
use Prim.Native.Nat.{ℕ, ◌+◌}
use mathlib.Core.Path.{◌≡◌, refl, ◌∙◌, ap}
use mathlib.Core.List.{List, [], ◌∷◌, ◌++◌}
use mathlib.Core.Bool.{true, false, ◌&&◌}
use lib.Dec.{eqb, leb}
use Rattle.meaning.proofs.Tests.{on_bool}
use Rattle.notation.specs.declared.Kind.{Kind}
use Rattle.notation.specs.declared.Kind.TheVariants.{Blank, Opens, Closes, Quotes, Plain}
use Rattle.notation.specs.Grammar.{Token, opening, closing, wrong, quoted, Spot, spot, kind_of, word_or_dot, ending, spots_from, quoted_from, spots, signs, tokens}

-- a word that ends, before what follows it
unfoldable pub ended : List ℕ → List Token → List Token
unfolding word_or_dot
ended [] ts = ts
ended (c ∷ cs) ts = word_or_dot (c ∷ cs) ∷ ts

unfoldable mutual
  unfolding kind_of ended

  -- the tokens of a text, where the word w was begun
  pub tokens_from : List ℕ → List ℕ → List Token
  tokens_from [] w = ended w []
  tokens_from (c ∷ cs) w = elim (kind_of c) [
    | Plain ↦ tokens_from cs (w ++ (c ∷ []))
    | Blank ↦ ended w (tokens_from cs [])
    | Opens ↦ ended w (opening ∷ tokens_from cs [])
    | Closes ↦ ended w (closing ∷ tokens_from cs [])
    | Quotes ↦ ended w (tokens_quoted cs [])
  ]

  -- those after a quote
  pub tokens_quoted : List ℕ → List ℕ → List Token
  tokens_quoted [] s = wrong ∷ []
  tokens_quoted (c ∷ cs) s = elim (eqb c 0x22) [
    | true ↦ quoted s ∷ tokens_from cs []
    | false ↦ elim (leb 0x20 c && leb c 0x7e) [ true ↦ tokens_quoted cs (s ++ (c ∷ [])) | false ↦ wrong ∷ [] ]
  ]

signs_ending : (w : List ℕ) (i : ℕ) (ss : List Spot) → signs (ending w i ss) ≡ ended w (signs ss)
unfolding ending ended signs
signs_ending [] i ss = refl
signs_ending (c ∷ cs) i ss = refl

ending_as : (w : List ℕ) (i : ℕ) (ss : List Spot) (ts : List Token) → signs ss ≡ ts → signs (ending w i ss) ≡ ended w ts
ending_as w i ss ts h = signs_ending w i ss ∙ ap (ended w) h

-- one byte, given what is so after it
module _ (c : ℕ) (cs : List ℕ) (i : ℕ) (w : List ℕ) (after : (v : List ℕ) → signs (spots_from cs (i + 1) v) ≡ tokens_from cs v) where
  signs_step : (k : Kind) → kind_of c ≡ k → signs (quoted_from cs (i + 1) i []) ≡ tokens_quoted cs [] → signs (spots_from (c ∷ cs) i w) ≡ tokens_from (c ∷ cs) w
  unfolding signs spots_from tokens_from
  signs_step Plain e q = rw (e, spots_from, tokens_from) (after (w ++ (c ∷ [])))
  signs_step Blank e q = rw (e, spots_from, tokens_from) (ending_as w i (spots_from cs (i + 1) []) (tokens_from cs []) (after []))
  signs_step Opens e q = rw (e, spots_from, tokens_from) (ending_as w i (spot opening i ∷ spots_from cs (i + 1) []) (opening ∷ tokens_from cs []) (ap (opening ∷◌) (after [])))
  signs_step Closes e q = rw (e, spots_from, tokens_from) (ending_as w i (spot closing i ∷ spots_from cs (i + 1) []) (closing ∷ tokens_from cs []) (ap (closing ∷◌) (after [])))
  signs_step Quotes e q = rw (e, spots_from, tokens_from) (ending_as w i (quoted_from cs (i + 1) i []) (tokens_quoted cs []) q)

mutual
  unfolding signs spots_from tokens_from quoted_from tokens_quoted

  pub signs_from : (cs : List ℕ) (i : ℕ) (w : List ℕ) → signs (spots_from cs i w) ≡ tokens_from cs w
  signs_from [] i w = ending_as w i [] [] refl
  signs_from (c ∷ cs) i w = signs_step c cs i w (λ v. signs_from cs (i + 1) v) (kind_of c) refl (signs_quoted cs (i + 1) i [])

  signs_quoted : (cs : List ℕ) (i q : ℕ) (s : List ℕ) → signs (quoted_from cs i q s) ≡ tokens_quoted cs s
  signs_quoted [] i q s = refl
  signs_quoted (c ∷ cs) i q s = on_bool (eqb c 0x22)
      (λ e. rw (e, quoted_from, tokens_quoted) (ap (quoted s ∷◌) (signs_from cs (i + 1) [])))
      (λ e. on_bool (leb 0x20 c && leb c 0x7e)
      (λ f. rw (e, quoted_from, tokens_quoted, f) (signs_quoted cs (i + 1) q (s ++ (c ∷ []))))
      (λ f. rw (e, quoted_from, tokens_quoted, f) refl))

pub tokens_are : (text : List ℕ) → tokens text ≡ tokens_from text []
unfolding tokens spots
tokens_are text = signs_from text 0 []
