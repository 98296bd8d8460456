-- How a cursor follows a trace: whether an entry that the run makes is the next one is seen from the bytes that are left, at their front. Assumes nothing.
use Prim.Native.Nat.{ℕ, zero, suc, ◌+◌, ◌*◌, ◌/◌, ◌%◌, ◌≤◌, ◌<◌}
use mathlib.Core.Path.{◌≡◌, refl, sym, ◌∙◌, ap, subst}
use mathlib.Core.List.{List, [], ◌∷◌}
use mathlib.Core.Bool.{Bool, true, false, ◌&&◌}
use mathlib.Core.Option.{Option, none, some}
use native.Mathlib.Omega.{arith}
use lib.Dec.{leb, eqb}
use lib.ListN.{length, take, drop}
use Rattle.meaning.specs.Tree.{Tree, same_bytes}
use Rattle.meaning.specs.Meter.{Spent}
use Rattle.meaning.specs.Form.{write}
use Rattle.meaning.specs.Trace.{two_bytes, entry_bytes, counts_bytes, before_them, entries_of}
use Rattle.meaning.proofs.Tests.{not_false, not_true, and_inv, eqb_sound, leb_yes}
use Rattle.meaning.proofs.TreeLaws.{same_bytes_sound}
use Rattle.meaning.proofs.SameLaws.{same_bytes_same}

-- nothing is no thing
pub not_none : {X A : Type 0} {a : A} → none ≡ some a → X
not_none h = absurd (let z : ◌≡◌ {A = ℕ} 0 1 = cc in omega arith)

-- ---- the first entry of bytes

-- bs begins with the entry e, and the rest of its entries follow: e is the counts, which nothing follows, or a change, which says its own length
pub data First (bs e : List ℕ) (rest : List (List ℕ)) : Type 0 where
  counts_first : (cs : List ℕ) → bs ≡ 0 ∷ cs → e ≡ 0 ∷ cs → rest ≡ [] → length cs ≡ 8 → First bs e rest
  change_first : (j n h l : ℕ) (cs : List ℕ) → bs ≡ suc n ∷ h ∷ l ∷ cs → h * 256 + l ≤ length cs → e ≡ suc n ∷ h ∷ l ∷ take (h * 256 + l) cs
      → entries_of j (drop (h * 256 + l) cs) ≡ some rest → First bs e rest

-- entries, and the first of them
pub record Follows (bs : List ℕ) (es : List (List ℕ)) : Type 0 where
  pub entry : List ℕ
  pub rest : List (List ℕ)
  pub is : es ≡ entry ∷ rest
  pub first : First bs entry rest

-- bytes that are entries have a first one
pub follow_first : (k : ℕ) (bs : List ℕ) (es : List (List ℕ)) → entries_of k bs ≡ some es → Follows bs es
unfolding entries_of before_them
follow_first zero bs es p = not_none p
follow_first (suc k) [] es p = not_none p
follow_first (suc k) (zero ∷ bs) es p = go (eqb (length bs) 8) refl p
  where
    go : (b : Bool) → eqb (length bs) 8 ≡ b → elim b [ true ↦ some ((0 ∷ bs) ∷ []) | false ↦ none ] ≡ some es → Follows (0 ∷ bs) es
    go true q r = let i : (0 ∷ bs) ∷ [] ≡ es = cc in record { entry = 0 ∷ bs; rest = []; is = sym i; first = counts_first bs refl refl refl (eqb_sound _ _ q) }
    go false q r = not_none r
follow_first (suc k) (suc n ∷ []) es p = not_none p
follow_first (suc k) (suc n ∷ h ∷ []) es p = not_none p
follow_first (suc k) (suc n ∷ h ∷ l ∷ bs) es p = go (leb (h * 256 + l) (length bs)) refl p
  where
    e : List ℕ
    e = suc n ∷ h ∷ l ∷ take (h * 256 + l) bs

    at : h * 256 + l ≤ length bs → (o : Option (List (List ℕ))) → entries_of k (drop (h * 256 + l) bs) ≡ o → before_them e o ≡ some es → Follows (suc n ∷ h ∷ l ∷ bs) es
    at f none q r = not_none r
    at f (some rest) q r = let i : e ∷ rest ≡ es = cc in record { entry = e; rest = rest; is = sym i; first = change_first k n h l bs refl f refl q }

    go : (b : Bool) → leb (h * 256 + l) (length bs) ≡ b → elim b [ true ↦ before_them e (entries_of k (drop (h * 256 + l) bs)) | false ↦ none ] ≡ some es → Follows (suc n ∷ h ∷ l ∷ bs) es
    go true q r = at (leb_yes _ _ q) (entries_of k (drop (h * 256 + l) bs)) refl r
    go false q r = not_none r

-- the first of entries that are known
pub first_is : (k : ℕ) (bs e : List ℕ) (rest : List (List ℕ)) → entries_of k bs ≡ some (e ∷ rest) → First bs e rest
first_is k bs e rest p =
    let f = follow_first k bs (e ∷ rest) p in
    let i : f.entry ≡ e = let z = f.is in cc in
    let j : f.rest ≡ rest = let z = f.is in cc in
    subst (λ x. First bs x rest) i (subst (λ x. First bs f.entry x) j f.first)

-- nothing is left: there is no entry
pub follow_none : (k : ℕ) (es : List (List ℕ)) → entries_of k [] ≡ some es → ⊥
unfolding entries_of
follow_none zero es p = not_none p
follow_none (suc k) es p = not_none p

-- ---- a change, which has a number of 1 or more

-- an entry of so many bytes is compared with what stands at the front, of its length or of its own
same_rest : (h l : ℕ) (cs w : List ℕ)
    → (eqb h (length w / 256) && (eqb l (length w % 256) && same_bytes (take (length w) cs) w)) ≡ (eqb h (length w / 256) && (eqb l (length w % 256) && same_bytes (take (h * 256 + l) cs) w))
same_rest h l cs w = go (eqb h (length w / 256)) (eqb l (length w % 256)) refl refl
  where
    go : (x y : Bool) → eqb h (length w / 256) ≡ x → eqb l (length w % 256) ≡ y
        → (x && (y && same_bytes (take (length w) cs) w)) ≡ (x && (y && same_bytes (take (h * 256 + l) cs) w))
    go true true p q =
        let i : h ≡ length w / 256 = eqb_sound _ _ p in
        let j : l ≡ length w % 256 = eqb_sound _ _ q in
        let m : length w ≡ h * 256 + l = omega arith in
        ap (λ (z : ℕ). same_bytes (take z cs) w) m
    go true false p q = refl
    go false y p q = refl

module _ (n : ℕ) (t : Tree) (pos : 0 < n) where
  -- the counts are no change
  counts_differ : (cs : List ℕ) → same_bytes (0 ∷ cs) (entry_bytes n t) ≡ true → ⊥
  unfolding same_bytes entry_bytes
  counts_differ cs h = let i : 0 ≡ n = eqb_sound 0 n (and_inv _ _ h).0 in omega arith

  bool_same : (a b : Bool) → (a ≡ true → ⊥) → (b ≡ true → ⊥) → a ≡ b
  bool_same true b h i = absurd (h refl)
  bool_same false true h i = absurd (i refl)
  bool_same false false h i = refl

  counts_same : (bs cs : List ℕ) → bs ≡ 0 ∷ cs → same_bytes (take (length (entry_bytes n t)) bs) (entry_bytes n t) ≡ same_bytes (0 ∷ cs) (entry_bytes n t)
  unfolding entry_bytes two_bytes
  counts_same bs cs b = rw b (bool_same _ _ (counts_differ _) (counts_differ cs))

  change_same : (m h l : ℕ) (cs : List ℕ) → same_bytes (take (length (entry_bytes n t)) (m ∷ h ∷ l ∷ cs)) (entry_bytes n t) ≡ same_bytes (m ∷ h ∷ l ∷ take (h * 256 + l) cs) (entry_bytes n t)
  unfolding same_bytes entry_bytes two_bytes
  change_same m h l cs = ap (λ (z : Bool). eqb m n && z) (same_rest h l cs (write t))

  same_first : (bs e : List ℕ) (rest : List (List ℕ)) → First bs e rest → same_bytes (take (length (entry_bytes n t)) bs) (entry_bytes n t) ≡ same_bytes e (entry_bytes n t)
  same_first bs e rest (counts_first cs b i r q) = counts_same bs cs b ∙ ap (λ (x : List ℕ). same_bytes x (entry_bytes n t)) (sym i)
  same_first bs e rest (change_first j m h l cs b f i p) =
      ap (λ (x : List ℕ). same_bytes (take (length (entry_bytes n t)) x) (entry_bytes n t)) b
      ∙ change_same (suc m) h l cs
      ∙ ap (λ (x : List ℕ). same_bytes x (entry_bytes n t)) (sym i)

  -- how long a change is that is this one
  its_length : (m h l : ℕ) (cs : List ℕ) → m ∷ h ∷ l ∷ cs ≡ entry_bytes n t → length (write t) ≡ h * 256 + l
  unfolding entry_bytes two_bytes
  its_length m h l cs e =
      let i : h ≡ length (write t) / 256 = cc in
      let j : l ≡ length (write t) % 256 = cc in
      omega arith

  after_first : (bs e : List ℕ) (rest : List (List ℕ)) → First bs e rest → same_bytes e (entry_bytes n t) ≡ true → (j : ℕ) × (entries_of j (drop (length (entry_bytes n t)) bs) ≡ some rest)
  unfolding entry_bytes two_bytes
  after_first bs e rest (counts_first cs b i r q) s = absurd (counts_differ cs (ap (λ (x : List ℕ). same_bytes x (entry_bytes n t)) (sym i) ∙ s))
  after_first bs e rest (change_first j m h l cs b f i p) s =
      let z : length (write t) ≡ h * 256 + l = its_length (suc m) h l _ (sym i ∙ same_bytes_sound e (entry_bytes n t) s) in
      (j, ap (λ (x : List ℕ). entries_of j (drop (length (entry_bytes n t)) x)) b ∙ ap (λ (x : ℕ). entries_of j (drop x cs)) z ∙ p)

  module _ (k : ℕ) (bs e : List ℕ) (rest : List (List ℕ)) (p : entries_of k bs ≡ some (e ∷ rest)) where
    -- a change stands at the front of the bytes that are left exactly where it is the next entry
    pub follow_same : same_bytes (take (length (entry_bytes n t)) bs) (entry_bytes n t) ≡ same_bytes e (entry_bytes n t)
    follow_same = same_first bs e rest (first_is k bs e rest p)

    -- behind a change that stands there the other entries follow
    pub follow_next : same_bytes (take (length (entry_bytes n t)) bs) (entry_bytes n t) ≡ true → (j : ℕ) × (entries_of j (drop (length (entry_bytes n t)) bs) ≡ some rest)
    follow_next h = after_first bs e rest (first_is k bs e rest p) (sym follow_same ∙ h)

-- ---- the counts

module _ (s : Spent) where
  no_change : (m : ℕ) (cs : List ℕ) → suc m ∷ cs ≡ counts_bytes s → ⊥
  unfolding counts_bytes
  no_change m cs e = let i : suc m ≡ 0 = cc in omega arith

  counts_are : (bs e : List ℕ) (rest : List (List ℕ)) → First bs e rest → e ≡ counts_bytes s → (bs ≡ counts_bytes s) × (rest ≡ [])
  counts_are bs e rest (counts_first cs b i r q) h = (b ∙ sym i ∙ h, r)
  counts_are bs e rest (change_first j m x y cs b f i p) h = absurd (no_change m _ (sym i ∙ h))

  are_counts : (bs e : List ℕ) (rest : List (List ℕ)) → First bs e rest → bs ≡ counts_bytes s → e ≡ counts_bytes s
  are_counts bs e rest (counts_first cs b i r q) h = i ∙ sym b ∙ h
  are_counts bs e rest (change_first j m x y cs b f i p) h = absurd (no_change m _ (sym b ∙ h))

  module _ (k : ℕ) (bs e : List ℕ) (rest : List (List ℕ)) (p : entries_of k bs ≡ some (e ∷ rest)) where
    -- where the counts are the next entry they are all that is left, and nothing follows
    pub follow_counts : same_bytes e (counts_bytes s) ≡ true → (bs ≡ counts_bytes s) × (rest ≡ [])
    follow_counts h = counts_are bs e rest (first_is k bs e rest p) (same_bytes_sound e (counts_bytes s) h)

    -- where they are not, the bytes that are left are others
    pub follow_counts_not : same_bytes e (counts_bytes s) ≡ false → bs ≡ counts_bytes s → ⊥
    follow_counts_not h b =
        let i : e ≡ counts_bytes s = are_counts bs e rest (first_is k bs e rest p) b in
        not_true (sym (same_bytes_same (counts_bytes s)) ∙ ap (λ (x : List ℕ). same_bytes x (counts_bytes s)) (sym i) ∙ h)

    -- the two together: the bytes that are left are the counts exactly where the next entry is
    pub follow_counts_same : same_bytes bs (counts_bytes s) ≡ same_bytes e (counts_bytes s)
    follow_counts_same = go (same_bytes bs (counts_bytes s)) (same_bytes e (counts_bytes s)) refl refl
      where
        go : (x y : Bool) → same_bytes bs (counts_bytes s) ≡ x → same_bytes e (counts_bytes s) ≡ y → x ≡ y
        go true true g h = refl
        go true false g h = absurd (follow_counts_not h (same_bytes_sound bs (counts_bytes s) g))
        go false true g h = not_false (sym g ∙ ap (λ (x : List ℕ). same_bytes x (counts_bytes s)) (follow_counts h).0 ∙ same_bytes_same (counts_bytes s))
        go false false g h = refl
