-- What a run notes of the passes that rules end, and where: the rules' counts are the last records of its row.
use Rattle.std.specs.Prelude.{ℕ, zero, suc, ◌+◌, ◌-◌, ◌*◌, ◌≡◌, List, [], ◌∷◌, ltb, get_or, length, set, drop}
use Rattle.meaning.specs.Meter.{Log}
use Rattle.store.specs.Cells.{pick}
use Rattle.run_state.specs.declared.Notes.{Notes}
use Rattle.run_state.specs.declared.Notes.TheVariants.{Nothing, Counts}

-- the records that hold counts, one for each rule
abbrev pub count_records : ℕ
count_records = 8

-- the place of the count of rule number suc j in a row
abbrev pub place_of : List (List ℕ) → ℕ → ℕ
place_of row j = length row - count_records + j

-- one more in a record: its first number counts, its second how often that was full
unfoldable pub one_more : List ℕ → List ℕ
one_more a = pick (ltb (get_or a 0 0) 65_535) ((get_or a 0 0 + 1) ∷ get_or a 1 0 ∷ 0 ∷ 0 ∷ 0 ∷ 0 ∷ [])
    (pick (ltb (get_or a 1 0) 65_535) (0 ∷ (get_or a 1 0 + 1) ∷ 0 ∷ 0 ∷ 0 ∷ 0 ∷ []) a)

-- what a record counts
abbrev pub value_of : List ℕ → ℕ
value_of a = get_or a 0 0 + get_or a 1 0 * 65_536

-- how often rule number k ended a pass
unfoldable pub count_in : List (List ℕ) → ℕ → ℕ
count_in row k = value_of (get_or row (place_of row (k - 1)) [])

-- the row where rule number k ended a pass
unfoldable pub noted : Notes → List (List ℕ) → ℕ → List (List ℕ)
unfolding one_more
noted Nothing row k = row
noted Counts row zero = row
noted Counts row (suc j) = set row (place_of row j) (one_more (get_or row (place_of row j) []))

-- the rules' counts
unfoldable pub counts_of : List (List ℕ) → List (List ℕ)
counts_of row = drop (length row - count_records) row

-- one more for rule number k, and for each entry of a log
unfoldable pub counted : Notes → List (List ℕ) → ℕ → List (List ℕ)
unfolding one_more
counted Nothing counts k = counts
counted Counts counts zero = counts
counted Counts counts (suc j) = set counts j (one_more (get_or counts j []))

unfoldable pub counted_all : Notes → List (List ℕ) → Log → List (List ℕ)
unfolding counted
counted_all notes counts [] = counts
counted_all notes counts (e ∷ l) = counted_all notes (counted notes counts e.0) l

-- the counts after work with this log: one more for each entry, or as they were where nothing is noted (data, not a record: `search` builds records)
pub data Noted (notes : Notes) (row row' : List (List ℕ)) (l : Log) : Type 0 where
  as_counted : counts_of row' ≡ counted_all notes (counts_of row) l → Noted notes row row' l
