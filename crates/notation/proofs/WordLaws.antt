-- The text of an atom that is no nil is one word, which is read as that atom again. Assumes nothing.
use Prim.Native.Nat.{ℕ, zero, suc, ◌-◌, ◌/◌, ◌%◌, ◌≤◌}
use mathlib.Core.Path.{◌≡◌, refl}
use mathlib.Core.List.{List, [], ◌∷◌}
use mathlib.Core.Bool.{◌&&◌}
use mathlib.Core.Option.{none, some}
use lib.Dec.{leb}
use lib.ListN.{get_or}
use native.Mathlib.Omega.{arith}
use borrow.Author.Tests.{leb-true}
use Rattle.meaning.specs.Tree.{is_byte}
use Rattle.meaning.specs.Form.{IsBytes}
use Rattle.meaning.proofs.Tests.{on_bool, and_inv}
use Rattle.notation.specs.declared.Place.{Place}
use Rattle.notation.specs.declared.Place.TheVariants.{Operator, Code, Data}
use Rattle.notation.specs.declared.Kind.TheVariants.{Plain}
use Rattle.notation.specs.Words.{names, name_of, name_at, numbered, named, hex, hex_word, and_then, or_else, atom_text, word_bytes}
use Rattle.notation.specs.Grammar.{Token, word, kind_of, word_or_dot}
use Rattle.notation.proofs.Signs.{ended}
use Rattle.notation.proofs.HexLaws.{hex_back, digit_plain}

-- every byte belongs to a word
unfoldable pub Plains : List ℕ → Type 0
Plains [] = Unit {0}
Plains (c ∷ cs) = (kind_of c ≡ Plain) × Plains cs

-- w is a word, and stands for the bytes b at the place p
pub record WordFor (p : Place) (b w : List ℕ) : Type 0 where
  pub plain : Plains w
  pub ends : (ts : List Token) → ended w ts ≡ word w ∷ ts
  pub reads : word_bytes p w ≡ some b

-- ---- hex

hex_plain : (bs : List ℕ) → Plains (hex bs)
unfolding hex Plains
hex_plain [] = tt
hex_plain (b ∷ bs) = (digit_plain (b / 16), (digit_plain (b % 16), hex_plain bs))

-- no name is as long
not_named : (p : Place) (c d : ℕ) (w : List ℕ) → named p (c ∷ d ∷ w) ≡ none
unfolding named
not_named Operator c d w = refl
not_named Code c d w = refl
not_named Data c d w = refl

hex_read : (p : Place) (b : ℕ) (bs : List ℕ) → IsBytes (b ∷ bs) → word_bytes p (0x30 ∷ 0x78 ∷ hex (b ∷ bs)) ≡ some (b ∷ bs)
unfolding word_bytes hex_word hex or_else
hex_read p b bs h = rw (not_named p 0x30 0x78 (hex (b ∷ bs)), hex_back (b ∷ bs) h, word_bytes)

pub hex_for : (p : Place) (b : ℕ) (bs : List ℕ) → IsBytes (b ∷ bs) → WordFor p (b ∷ bs) (0x30 ∷ 0x78 ∷ hex (b ∷ bs))
unfolding Plains kind_of ended word_or_dot is_byte
hex_for p b bs h = record { plain = (refl, (refl, hex_plain (b ∷ bs))); ends = λ ts. refl; reads = hex_read p b bs h }

-- ---- names

-- what holds of 1 to 9 one by one
pub one_by_one : (P : ℕ → Type 0) → P 1 → P 2 → P 3 → P 4 → P 5 → P 6 → P 7 → P 8 → P 9 → (k : ℕ) → 1 ≤ k → k ≤ 9 → P k
one_by_one P a b c d e f g h i zero l m = absurd (omega arith)
one_by_one P a b c d e f g h i (suc zero) l m = a
one_by_one P a b c d e f g h i (suc (suc zero)) l m = b
one_by_one P a b c d e f g h i (suc (suc (suc zero))) l m = c
one_by_one P a b c d e f g h i (suc (suc (suc (suc zero)))) l m = d
one_by_one P a b c d e f g h i (suc (suc (suc (suc (suc zero))))) l m = e
one_by_one P a b c d e f g h i (suc (suc (suc (suc (suc (suc zero)))))) l m = f
one_by_one P a b c d e f g h i (suc (suc (suc (suc (suc (suc (suc zero))))))) l m = g
one_by_one P a b c d e f g h i (suc (suc (suc (suc (suc (suc (suc (suc zero)))))))) l m = h
one_by_one P a b c d e f g h i (suc (suc (suc (suc (suc (suc (suc (suc (suc zero))))))))) l m = i
one_by_one P a b c d e f g h i (suc (suc (suc (suc (suc (suc (suc (suc (suc (suc k)))))))))) l m = absurd (omega arith)

-- the name of k
abbrev pub name : ℕ → ℕ
name k = get_or names (k - 1) 0

NameFor : ℕ → Type 0
NameFor k = WordFor Operator (k ∷ []) (name k ∷ [])

names_for : (k : ℕ) → 1 ≤ k → k ≤ 9 → NameFor k
unfolding NameFor Plains kind_of ended word_or_dot is_byte word_bytes named numbered and_then or_else
names_for = one_by_one NameFor
    (record { plain = (refl, tt); ends = λ ts. refl; reads = refl })
    (record { plain = (refl, tt); ends = λ ts. refl; reads = refl })
    (record { plain = (refl, tt); ends = λ ts. refl; reads = refl })
    (record { plain = (refl, tt); ends = λ ts. refl; reads = refl })
    (record { plain = (refl, tt); ends = λ ts. refl; reads = refl })
    (record { plain = (refl, tt); ends = λ ts. refl; reads = refl })
    (record { plain = (refl, tt); ends = λ ts. refl; reads = refl })
    (record { plain = (refl, tt); ends = λ ts. refl; reads = refl })
    (record { plain = (refl, tt); ends = λ ts. refl; reads = refl })

-- ---- an atom

byte_for : (b : ℕ) → IsBytes (b ∷ []) → WordFor Operator (b ∷ []) (atom_text Operator (b ∷ []))
unfolding NameFor atom_text name_at name_of
byte_for b h =
    on_bool (leb 1 b && leb b 9)
    (λ e. let (i, j) = and_inv (leb 1 b) (leb b 9) e in rw (e, name_of, atom_text) (names_for b (leb-true 1 b i) (leb-true b 9 j)))
    (λ e. rw (e, name_of, atom_text) (hex_for Operator b [] h))

pub word_for : (p : Place) (b : ℕ) (bs : List ℕ) → IsBytes (b ∷ bs) → WordFor p (b ∷ bs) (atom_text p (b ∷ bs))
unfolding atom_text name_at
word_for Operator b [] h = byte_for b h
word_for Operator b (c ∷ bs) h = hex_for Operator b (c ∷ bs) h
word_for Code b bs h = hex_for Code b bs h
word_for Data b bs h = hex_for Data b bs h
