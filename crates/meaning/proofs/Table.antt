-- Document 01, "Forms on both sides": its starred rows, computed together over `run`. Bytes in, whole outcome out. Assumes nothing.
use Prim.Native.Nat.{ℕ, zero, suc}
use mathlib.Core.Path.{◌≡◌, refl}
use mathlib.Core.List.{List, [], ◌∷◌, ◌++◌, map}
use mathlib.Core.Bool.{true, false}
use Rattle.refusals.specs.declared.Refusal.TheVariants.{Fails, TooDeep}
use Rattle.meaning.specs.Outcome.{Outcome, refused}
use Rattle.meaning.specs.Run.{mark_number, finished, run}

pub record Row : Type 0 where
  pub form : List ℕ
  pub outcome : Outcome

-- (f (f .. (f 1))), n times
unfoldable pub f_times : ℕ → List ℕ
f_times zero = 1 ∷ []
f_times (suc n) = 0xff ∷ 5 ∷ 0xff ∷ (f_times n ++ 0x80 ∷ [])

unfoldable pub table : List Row
unfolding f_times mark_number
table =
    -- (f (c 2 3)) is 2
    record { form = 0xff ∷ 5 ∷ 0xff ∷ 0xff ∷ 4 ∷ 0xff ∷ 2 ∷ 0xff ∷ 3 ∷ 0x80 ∷ 0x80 ∷ []; outcome = finished (2 ∷ []) 1 60 false }
    -- (r (c 2 3)) is 3
    ∷ record { form = 0xff ∷ 6 ∷ 0xff ∷ 0xff ∷ 4 ∷ 0xff ∷ 2 ∷ 0xff ∷ 3 ∷ 0x80 ∷ 0x80 ∷ []; outcome = finished (3 ∷ []) 1 60 false }
    -- (a (q . (f 1)) 1) is 2
    ∷ record {
      form = 0xff ∷ 2 ∷ 0xff ∷ 0xff ∷ 1 ∷ 0xff ∷ 5 ∷ 0xff ∷ 1 ∷ 0x80 ∷ 0xff ∷ 1 ∷ 0x80 ∷ [];
      outcome = finished (2 ∷ []) 2 78 false;
    }
    -- (q . 0) is nil
    ∷ record { form = 0xff ∷ 1 ∷ 0x80 ∷ []; outcome = finished (0x80 ∷ []) 1 13 false }
    -- (a 0 . 5) is nil
    ∷ record { form = 0xff ∷ 2 ∷ 0xff ∷ 0x80 ∷ 5 ∷ []; outcome = finished (0x80 ∷ []) 1 26 false }
    -- (a 0) is refusal 8
    ∷ record { form = 0xff ∷ 2 ∷ 0xff ∷ 0x80 ∷ 0x80 ∷ []; outcome = refused Fails }
    -- (f 0) is refusal 8
    ∷ record { form = 0xff ∷ 5 ∷ 0xff ∷ 0x80 ∷ 0x80 ∷ []; outcome = refused Fails }
    -- (c (q . 5) (q . 6)) is (q 5 . 6)
    ∷ record {
      form = 0xff ∷ 4 ∷ 0xff ∷ 0xff ∷ 1 ∷ 5 ∷ 0xff ∷ 0xff ∷ 1 ∷ 6 ∷ 0x80 ∷ [];
      outcome = finished (0xff ∷ 1 ∷ 0xff ∷ 5 ∷ 6 ∷ []) 2 86 false;
    }
    -- (x) is unchanged
    ∷ record { form = 0xff ∷ 8 ∷ 0x80 ∷ []; outcome = finished (0xff ∷ 8 ∷ 0x80 ∷ []) 1 13 false }
    -- (a (q 4 3 2) 2) is (c 6 4), mark 0
    ∷ record {
      form = 0xff ∷ 2 ∷ 0xff ∷ 0xff ∷ 1 ∷ 0xff ∷ 4 ∷ 0xff ∷ 3 ∷ 0xff ∷ 2 ∷ 0x80 ∷ 0xff ∷ 2 ∷ 0x80 ∷ [];
      outcome = finished (0xff ∷ 4 ∷ 0xff ∷ 6 ∷ 0xff ∷ 4 ∷ 0x80 ∷ []) 4 186 false;
    }
    -- (a (q 4 () 2) 2) is (c 2 4), mark 1
    ∷ record {
      form = 0xff ∷ 2 ∷ 0xff ∷ 0xff ∷ 1 ∷ 0xff ∷ 4 ∷ 0xff ∷ 0x80 ∷ 0xff ∷ 2 ∷ 0x80 ∷ 0xff ∷ 2 ∷ 0x80 ∷ [];
      outcome = finished (0xff ∷ 4 ∷ 0xff ∷ 2 ∷ 0xff ∷ 4 ∷ 0x80 ∷ []) 3 155 true;
    }
    -- (f 0x40) is 0x80, mark 0
    ∷ record { form = 0xff ∷ 5 ∷ 0xff ∷ 0x40 ∷ 0x80 ∷ []; outcome = finished (0x81 ∷ 0x80 ∷ []) 1 31 false }
    -- not starred: (f 0xff80) is 0x0100, mark 1; `f` 63 and 64 times over 1
    ∷ record { form = 0xff ∷ 5 ∷ 0xff ∷ 0x82 ∷ 0xff ∷ 0x80 ∷ 0x80 ∷ []; outcome = finished (0x82 ∷ 1 ∷ 0 ∷ []) 1 33 true }
    ∷ record { form = f_times 63; outcome = finished (0x82 ∷ 0x80 ∷ 0 ∷ []) 125 2739 true }
    ∷ record { form = f_times 64; outcome = refused TooDeep }
    ∷ []

-- what the program prints of each: it lends 65,536 bytes of room and 32,768 of output
pub starred : map (λ r. run r.form 65_536 32_768) table ≡ map (λ r. r.outcome) table
unfolding run table
starred = refl
